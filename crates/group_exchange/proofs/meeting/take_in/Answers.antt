use Rattle.std.proofs.Common.{◌≡◌, ◌<◌, Some, ap, subst, ◌∙◌, rules}
use Rattle.std.specs.Prelude.{length, slice_get}
use Rattle.groups.specs.Dropping.{cut_all, cut_to}
use Rattle.groups.specs.GroupView.{GroupView}
use Rattle.group_exchange.proofs.Accepting.{mapped}
use Rattle.group_exchange.proofs.Nothing.{nothing_taken}
use Rattle.group_exchange.proofs.meeting.take_in.Goals as goal

pub returns-then-eq-clause-taken : goal.returns-then-eq-clause-taken
returns-then-eq-clause-taken g c =
    let same : c.args.group.now.base ≡ c.args.bound = search rules in
    nothing_taken g.T.Turns.turn_of c.args.bound c.args.group.now.components c.args.queues.now (c.requires.nothing same) c.requires.there

pub put_all_into-requires-clause-there : goal.put_all_into-requires-clause-there
put_all_into-requires-clause-there g c = λ _ _ place one at.
    let comps : c.components.result.now ≡ cut_all g.T.Turns.turn_of c.args.bound c.args.group.now.components = c.components.ensures ∙ ap (λ (x : GroupView _). x.components) c.in_ok-lists.ensures.group in
    let old = mapped (cut_to g.T.Turns.turn_of c.args.bound) c.args.group.now.components place one (subst (λ cs. slice_get cs place ≡ Some one) comps at) in
    subst (λ n. n < length c.args.queues.now) (ap (λ x. x.number) old.2) (c.requires.there place old.0 old.1)

pub put_all_into-requires-clause-turns : goal.put_all_into-requires-clause-turns
put_all_into-requires-clause-turns g c = λ _ _ place one turns at found.
    let comps : c.components.result.now ≡ cut_all g.T.Turns.turn_of c.args.bound c.args.group.now.components = c.components.ensures ∙ ap (λ (x : GroupView _). x.components) c.in_ok-lists.ensures.group in
    c.requires.puttable c.in_ok-lists.lists.items c.in_ok-lists.ensures.turns place one turns (subst (λ cs. slice_get cs place ≡ Some one) comps at) (subst (λ ls. slice_get ls place ≡ Some turns) c.deref_mut.ensures.value found)
