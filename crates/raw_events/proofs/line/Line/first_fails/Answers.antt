use Rattle.std.proofs.Common.{refl, sym, ◌∙◌}
use Rattle.raw_events.proofs.Firsts.{first_told}
use Rattle.raw_events.proofs.line.Line.first_fails.Goals as goal

pub returns-then-not-is_empty-clause-told : goal.returns-then-not-is_empty-clause-told
returns-then-not-is_empty-clause-told g c =
    λ p told. first_told p c.args.self.now c.first.result.now c.test.result (sym c.is_empty.ensures ∙ c.if-not-is_empty.true) c.first.ensures
    (told c.first.result.now c.test.result (record { shown = c.first.result; shows = refl; says = record { met = c.test.ensures } }))
