use Rattle.std.proofs.Common.{◌≡◌, ◌<◌, None, Some, ap, length, rules, slice_set, subst, sym}
use Rattle.std.specs.Prelude.{slice_get, slice_index_or}
use Rattle.std.specs.declared.vec.Vec.{Vec}
use Rattle.std.proofs.lemmas.Option.{slice_get-get_or}
use Rattle.event_keys.specs.Ranks.{rank}
use Rattle.io_automata.specs.Steps.{applied}
use Rattle.plans.specs.Memos.{IsMemo}
use Rattle.plans.specs.Plans.{composition}
use Rattle.task_seed.specs.Setups.{system}
use Rattle.sure_groups.specs.Passing.{HasActed}
use Rattle.sure_groups.specs.declared.input.Input.{Input}
use Rattle.sure_groups.proofs.Acted.{acted_none, acted_some}
use Rattle.sure_groups.proofs.Coming.{owner}
use Rattle.sure_groups.proofs.Places.{all_ok}
use Rattle.sure_groups.proofs.passing.act.Goals as goal

pub returns-in_default-clause-acted : goal.returns-in_default-clause-acted
returns-in_default-clause-acted g c =
    let s = system g.T.Turns.turn_of c.args.setup.now in
    let hearing = c.args.hearing.now in
    let slot = c.args.slot.now in
    let none : slot.found ≡ None = search rules in
    acted_none s hearing.groups.items hearing.heard.items hearing.me (rank slot.key) slot.key.component (owner slot.key c.requires.small) c.requires.from slot.found c.requires.comes c.args.members.now c.pass.new.members c.pass.new.bags
    c.in_ok-pass.ensures.passed none

pub change-requires-clause-plain : goal.change-requires-clause-plain
change-requires-clause-plain g c =
    let s = system g.T.Turns.turn_of c.args.setup.now in
    let hearing = c.args.hearing.now in
    let i = c.args.slot.now.key.component in
    let ms = c.pass.new.members in
    let n = c.from.result in
    let d = c.index-members-from.result in
    let e : n ≡ i = c.from.ensures in
    let within : n < length ms = subst (λ k. k < length ms) (sym e) (subst (λ l. i < l) (sym c.in_ok-pass.ensures.many) c.requires.within) in
    let there : slice_get ms i ≡ Some (slice_index_or ms n d) = subst (λ k. slice_get ms k ≡ Some (slice_index_or ms n d)) e (slice_get-get_or ms n d within) in
    (c.in_ok-pass.ensures.passed.members i (slice_index_or ms n d) there c.requires.from).plain

pub change-requires-clause-memo : goal.change-requires-clause-memo
change-requires-clause-memo g c =
    let s = system g.T.Turns.turn_of c.args.setup.now in
    let hearing = c.args.hearing.now in
    let i = c.args.slot.now.key.component in
    let ms = c.pass.new.members in
    let n = c.from.result in
    let d = c.index-members-from.result in
    let e : n ≡ i = c.from.ensures in
    let within : n < length ms = subst (λ k. k < length ms) (sym e) (subst (λ l. i < l) (sym c.in_ok-pass.ensures.many) c.requires.within) in
    let there : slice_get ms i ≡ Some (slice_index_or ms n d) = subst (λ k. slice_get ms k ≡ Some (slice_index_or ms n d)) e (slice_get-get_or ms n d within) in
    let mid = slice_index_or ms n d in
    subst (λ p. IsMemo (composition p) i mid.state.current mid.memo) (sym c.plan.ensures) (c.in_ok-pass.ensures.passed.members i mid there c.requires.from).memo

pub returns-clause-acted : goal.returns-clause-acted
returns-clause-acted g c =
    let s = system g.T.Turns.turn_of c.args.setup.now in
    let hearing = c.args.hearing.now in
    let slot = c.args.slot.now in
    let i = slot.key.component in
    let ms = c.pass.new.members in
    let n = c.from.result in
    let d = c.index-members-from.result in
    let e : n ≡ i = c.from.ensures in
    let inside : i < length ms = subst (λ l. i < l) (sym c.in_ok-pass.ensures.many) c.requires.within in
    let within : n < length ms = subst (λ k. k < length ms) (sym e) inside in
    let mid = slice_index_or ms n d in
    let there : slice_get ms i ≡ Some mid = subst (λ k. slice_get ms k ≡ Some mid) e (slice_get-get_or ms n d within) in
    let new = c.change.new.member in
    let a = c.in-Some.action.now in
    let some : slot.found ≡ Some a = search rules in
    all_ok c.change.result c.change.ensures.state c.change.ensures.plain c.change.ensures.memo c.change.ensures.memo (λ state plain memo again.
    subst (λ k. HasActed s hearing.groups.items hearing.heard.items hearing.me (rank slot.key) i slot.found c.args.members.now (slice_set ms k new) c.pass.new.bags) (sym e)
    (acted_some s hearing.groups.items hearing.heard.items hearing.me (rank slot.key) i (owner slot.key c.requires.small) c.requires.from slot.found c.requires.comes c.args.members.now ms c.pass.new.bags c.in_ok-pass.ensures.passed a some mid new
    there inside plain (subst (λ p. IsMemo (composition p) i new.state.current new.memo) c.plan.ensures memo) (ap (λ (v : Vec Input _). v.items) c.change.ensures.pending)
    (subst (λ p. new.state.current ≡ applied (composition p) i a mid.state.current) c.plan.ensures state)))
