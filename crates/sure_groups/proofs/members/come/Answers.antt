use Rattle.std.proofs.Common.{◌≡◌, ◌<◌, ◌≤◌, Some, ap, subst, sym, length}
use Rattle.std.specs.Prelude.{slice_get, slice_index_or}
use Rattle.std.specs.declared.vec.Vec.{Vec}
use Rattle.std.proofs.lemmas.Option.{slice_get-get_or}
use Rattle.event_keys.specs.Ranks.{rank}
use Rattle.task_seed.specs.Setups.{system}
use Rattle.shares.specs.Turns.{group_at}
use Rattle.sure_groups.specs.Inputs.{IsOneOf}
use Rattle.sure_groups.specs.Members.{IsMember}
use Rattle.sure_groups.specs.declared.input.Input.{Input}
use Rattle.sure_groups.specs.declared.member.Member.{Member}
use Rattle.sure_groups.proofs.Places.{at_set, in_set, ok_of, on_ok}
use Rattle.sure_groups.proofs.members.come.Goals as goal

pub take_in-requires-clause-member : goal.take_in-requires-clause-member
take_in-requires-clause-member g c κs inside =
    let ms = c.args.members.now in
    let i = c.args.due.key.component in
    let n = c.from.result in
    let d = c.index-members-from.result in
    let e : n ≡ i = c.from.ensures in
    let within : n < length ms = subst (λ k. k < length ms) (sym e) c.requires.within in
    let there : slice_get ms i ≡ Some (slice_index_or ms n d) = subst (λ k. slice_get ms k ≡ Some (slice_index_or ms n d)) e (slice_get-get_or ms n d within) in
    c.requires.members i (slice_index_or ms n d) there c.requires.own

pub returns-clause-members : goal.returns-clause-members
returns-clause-members g c =
    let s = system g.T.Turns.turn_of c.args.setup.now in
    let gs = c.args.hearing.now.groups.items in
    let hs = c.args.hearing.now.heard.items in
    let k = rank c.args.due.key in
    let i = c.args.due.key.component in
    let n = c.from.result in
    let new = c.find.new.member in
    let e : n ≡ i = c.from.ensures in
    on_ok c.find.result (λ is. in_set (λ j (m : Member). group_at gs j ≡ c.args.hearing.now.me → IsMember s gs hs k j m) c.args.members.now n new c.requires.members (λ _. subst (λ j. IsMember s gs hs k j new) (sym e) is)) c.find.ensures.member

pub returns-clause-none : goal.returns-clause-none
returns-clause-none g c =
    let ms = c.args.members.now in
    let i = c.args.due.key.component in
    let n = c.from.result in
    let new = c.find.new.member in
    let e : n ≡ i = c.from.ensures in
    let within : n < length ms = subst (λ k. k < length ms) (sym e) c.requires.within in
    ok_of c.find.result (λ (m : Member) (x : Input) at is.
    (let own : m ≡ new = at_set ms n new m (subst (λ k. slice_get (Rattle.std.proofs.Common.slice_set ms n new) k ≡ Some m) (sym e) at) within in
    let waits : IsOneOf new.pending.items x = subst (λ (o : Member). IsOneOf o.pending.items x) own is in
    c.in_ok-take_in.ensures.none x (subst (λ (v : Vec Input _). IsOneOf v.items x) c.find.ensures.pending waits)))
