use Rattle.std.proofs.Common.{ap, sym, ◌∙◌}
use Rattle.std.specs.Prelude.{Some}
use Rattle.boards.specs.Sections.{seeing}
use Rattle.workers.specs.Crews.{parts_of}
use Rattle.workers.proofs.shared.hold.Goals as goal

pub returns-in-Some-take : goal.returns-in-Some-take
returns-in-Some-take g c =
    let same = c.loop.invariant.sees in
    let lent = c.in-Some-take.lent in
    record {
      pass = c.take.ensures.pass;
      sees = c.in-Some-take.ensures.some ∙ ap (λ v. seeing v.is_new v.kind v.own (Some (parts_of lent))) same;
      kind = ap (λ v. v.kind) (sym same) ∙ c.in-Some-take.ensures.kind;
      own = λ n part owns. c.in-Some-take.ensures.section n part (ap (λ v. v.own) same ∙ owns);
    }
