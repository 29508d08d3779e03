use Rattle.std.proofs.Common.{◌≡◌, ◌+◌, ◌-◌, ◌/◌, ◌<◌, Some, length, ap, subst, sym, ◌∙◌, arith}
use Rattle.std.specs.Prelude.{slice_get, slice_index_or}
use Rattle.std.proofs.lemmas.Option.{slice_get-get_or}
use Rattle.terms.specs.Named.{Named}
use Rattle.event_keys.specs.Ranks.{rank_of_bound}
use Rattle.virtual_time.specs.Entries.{below}
use Rattle.virtual_time.specs.Records.{cut_of, turns_among}
use Rattle.virtual_time.specs.Reference.{Falls, Turn, outcome_at}
use Rattle.rollback.specs.ComponentView.{machine_of}
use Rattle.rollback.specs.ComponentView.{cut_at}
use Rattle.world.proofs.Ranges.{dropped_one, given_is, one_all, one_cut, one_there, past_stays}
use Rattle.world.proofs.commit.+drop_between.Goals as goal

pub returns-then-to-from-eq1-clause-cut : goal.returns-then-to-from-eq1-clause-cut
returns-then-to-from-eq1-clause-cut g t c =
    let turn = g.T.Turns.turn_of in
    let m = machine_of turn c.args.setup.now in
    let b = rank_of_bound c.args.bound in
    let cs = c.args.components.now in
    let x = slice_index_or cs c.args.from c.index-components-from.result in
    let low = c.if-from-to.false in
    let there = c.requires.there in
    let eq = c.if-to-from-eq1.true in
    let short : c.args.from < length cs = omega (arith, low, there) in
    let at : slice_get cs c.args.from ≡ Some x = slice_get-get_or cs c.args.from c.index-components-from.result short in
    let one : c.args.to ≡ c.args.from + 1 = omega (arith, low, eq) in
    let orderly = c.requires.orderly c.args.from x (omega arith) low at in
    let law = c.machine_is_lawful.ensures.lawful in
    let is : c.drop_below.new.self ≡ cut_at m c.args.bound x = c.drop_below.ensures.record ∙ ap (λ p. record x { base = c.args.bound; history = cut_of (machine_of turn p) x.number b x.history }) orderly.setup in
    one_cut m c.args.bound cs c.args.from c.args.to x c.drop_below.new.self at one short is

pub returns-then-to-from-eq1-clause-falls : goal.returns-then-to-from-eq1-clause-falls
returns-then-to-from-eq1-clause-falls g t c =
    let turn = g.T.Turns.turn_of in
    let m = machine_of turn c.args.setup.now in
    let b = rank_of_bound c.args.bound in
    let cs = c.args.components.now in
    let x = slice_index_or cs c.args.from c.index-components-from.result in
    let low = c.if-from-to.false in
    let there = c.requires.there in
    let eq = c.if-to-from-eq1.true in
    let short : c.args.from < length cs = omega (arith, low, there) in
    let at : slice_get cs c.args.from ≡ Some x = slice_get-get_or cs c.args.from c.index-components-from.result short in
    let one : c.args.to ≡ c.args.from + 1 = omega (arith, low, eq) in
    let orderly = c.requires.orderly c.args.from x (omega arith) low at in
    let law = c.machine_is_lawful.ensures.lawful in
    subst Falls (sym (given_is x.history.done b c.drop_below.result.after c.drop_below.ensures.turns))
    (c.dropped_law.ensures.falls m c.args.from orderly.low x.history.first b x.history.base x.history.done law orderly.done)

pub returns-then-to-from-eq1-clause-turns : goal.returns-then-to-from-eq1-clause-turns
returns-then-to-from-eq1-clause-turns g t c =
    let turn = g.T.Turns.turn_of in
    let m = machine_of turn c.args.setup.now in
    let b = rank_of_bound c.args.bound in
    let cs = c.args.components.now in
    let x = slice_index_or cs c.args.from c.index-components-from.result in
    let low = c.if-from-to.false in
    let there = c.requires.there in
    let eq = c.if-to-from-eq1.true in
    let short : c.args.from < length cs = omega (arith, low, there) in
    let at : slice_get cs c.args.from ≡ Some x = slice_get-get_or cs c.args.from c.index-components-from.result short in
    let one : c.args.to ≡ c.args.from + 1 = omega (arith, low, eq) in
    let orderly = c.requires.orderly c.args.from x (omega arith) low at in
    let law = c.machine_is_lawful.ensures.lawful in
    let falls = c.dropped_law.ensures.falls m c.args.from orderly.low x.history.first b x.history.base x.history.done law orderly.done in
    let only = λ (u : Turn Named). c.dropped_law.ensures.only m c.args.from orderly.low x.history.first b x.history.base x.history.done u law orderly.done in
    let all = λ (u : Turn Named). c.dropped_law.ensures.all m c.args.from orderly.low x.history.first b x.history.base x.history.done u law orderly.done in
    λ k. ap (outcome_at k) (given_is x.history.done b c.drop_below.result.after c.drop_below.ensures.turns)
    ∙ dropped_one m b c.args.from c.args.to cs x (turns_among (below b x.history.done)) at one (one_there m.owner c.args.from b x.history.done falls only all) (one_all m.owner c.args.from b x.history.done falls only all) k

pub drop_between-turns-requires-clause-orderly : goal.drop_between-turns-requires-clause-orderly
drop_between-turns-requires-clause-orderly g t c κs within = λ j x l h at.
    let low = c.if-from-to.false in
    c.requires.orderly j x l (omega (arith, l, h, low)) at

pub drop_between-others-requires-clause-orderly : goal.drop_between-others-requires-clause-orderly
drop_between-others-requires-clause-orderly g t c κs within = λ j x l h at.
    let m = machine_of g.T.Turns.turn_of c.args.setup.now in
    let stays = past_stays m c.args.bound c.args.from (c.args.from + (c.args.to - c.args.from) / 2) j (slice_get c.args.components.now j) l in
    c.requires.orderly j x (omega (arith, l)) h (sym stays ∙ sym (c.drop_between-turns.ensures.cut j) ∙ at)
