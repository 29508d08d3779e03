use Rattle.std.proofs.Common.{◌≡◌, ◌<◌, ◌++◌, ◌∷◌, [], ◌∙◌, Some, length, refl, slice_set, subst, sym}
use Rattle.std.specs.Prelude.{slice_get, slice_index_or}
use Rattle.std.proofs.lemmas.Option.{slice_get-get_or}
use Rattle.event_keys.specs.Ranks.{rank}
use Rattle.task_seed.specs.Setups.{system}
use Rattle.shares.specs.Turns.{group_at}
use Rattle.sure_groups.specs.Passing.{IsPassedOn}
use Rattle.sure_groups.specs.declared.bags.Bag.{Bag}
use Rattle.sure_groups.specs.declared.member.Member.{Member}
use Rattle.sure_groups.proofs.Passed.{passed_inside, passed_outside}
use Rattle.sure_groups.proofs.Places.{all_ok}
use Rattle.sure_groups.proofs.passing.pass_one.Goals as goal

pub returns-then-is_own-clause-passed : goal.returns-then-is_own-clause-passed
returns-then-is_own-clause-passed g c =
    let s = system g.T.Turns.turn_of c.args.setup.now in
    let hearing = c.args.hearing.now in
    let gs = hearing.groups.items in
    let x = c.args.input in
    let ms = c.args.members.now in
    let n = c.from.result in
    let e : n ≡ x.to = c.from.ensures in
    let d = c.index-members-from.result in
    let old : Member = slice_index_or ms n d in
    let new : Member = record { state = old.state; memo = old.memo; pending = c.put_input.new.pending } in
    let within : n < length ms = subst (λ k. k < length ms) (sym e) c.requires.member in
    let there : slice_get ms x.to ≡ Some old = subst (λ k. slice_get ms k ≡ Some old) e (slice_get-get_or ms n d within) in
    let inside : group_at gs x.to ≡ hearing.me = sym c.group_of-group.ensures ∙ c.is_own.ensures.own c.if-is_own.true in
    all_ok c.put_input.result c.put_input.ensures.order c.put_input.ensures.kept c.put_input.ensures.only c.put_input.ensures.there (λ order kept only waits i done olds apart h.
    subst (λ k. IsPassedOn s gs hearing.heard.items hearing.me (rank x.key) i (done ++ x.to ∷ []) olds (slice_set ms k new) c.args.bags.now) (sym e)
    (passed_inside s gs hearing.heard.items hearing.me i done olds ms c.args.bags.now x c.requires.comes apart h old new inside there c.requires.member refl refl order kept only waits))

pub returns-clause-passed : goal.returns-clause-passed
returns-clause-passed g c i done olds apart h =
    let s = system g.T.Turns.turn_of c.args.setup.now in
    let hearing = c.args.hearing.now in
    let gs = hearing.groups.items in
    let x = c.args.input in
    let bags = c.args.bags.now in
    let n = c.from-2.result in
    let e : n ≡ c.group_of-group.result = c.from-2.ensures in
    let d = c.index-bags-from.result in
    let old : Bag = slice_index_or bags n d in
    let new : Bag = record { since = old.since; inputs = c.push.new.self } in
    let its : n ≡ group_at gs x.to = e ∙ c.group_of-group.ensures in
    let within : n < length bags = subst (λ k. k < length bags) (sym its) c.requires.group in
    passed_outside s gs hearing.heard.items hearing.me i done olds c.args.members.now bags x c.requires.comes apart h n old new its (λ q. c.is_own.ensures.other c.if-is_own.false (sym e ∙ q)) c.requires.from
    (slice_get-get_or bags n d within) within refl c.in_ok-push.ensures.items
