use Rattle.std.proofs.Common.{◌≡◌, ◌<◌, ◌∙◌, Some, arith, length, rules, subst, sym, take}
use Rattle.std.specs.Prelude.{slice_index_or, true}
use Rattle.std.proofs.lemmas.List.{take_more}
use Rattle.event_keys.specs.Ranks.{rank}
use Rattle.io_automata.specs.Receivers.{IsIn}
use Rattle.task_seed.specs.Setups.{system}
use Rattle.shares.specs.Turns.{HasTurn}
use Rattle.sure_groups.specs.Passing.{IsPassedOn, receivers_in}
use Rattle.sure_groups.proofs.Coming.{owner}
use Rattle.sure_groups.proofs.Passed.{in_at, receiver_apart, receiver_comes, receiver_within}
use Rattle.sure_groups.proofs.passing.pass.Goals as goal

pub pass_one-requires-clause-comes : goal.pass_one-requires-clause-comes
pass_one-requires-clause-comes g c κs inside =
    let s = system g.T.Turns.turn_of c.args.setup.now in
    let key = c.args.slot.now.key in
    let i = key.component in
    let a = c.in_ok-clone.field-0 in
    let among = c.as_slice-among.result.now in
    let j = slice_index_or among c.loop-at.at 0 in
    let t = c.loop-at-test.true in
    let e = c.loop-at.auto.at-end in
    let turn : HasTurn s (rank key) (Some a) = search rules in
    let list : among ≡ receivers_in s.composition i (Some a) = search rules in
    receiver_comes s key i (owner key c.requires.small) a turn j (subst (λ l. IsIn j l ≡ true) list (in_at among c.loop-at.at 0 (omega (arith, t, e))))

pub pass_one-requires-clause-member : goal.pass_one-requires-clause-member
pass_one-requires-clause-member g c κs inside =
    let s = system g.T.Turns.turn_of c.args.setup.now in
    let key = c.args.slot.now.key in
    let i = key.component in
    let a = c.in_ok-clone.field-0 in
    let among = c.as_slice-among.result.now in
    let j = slice_index_or among c.loop-at.at 0 in
    let t = c.loop-at-test.true in
    let e = c.loop-at.auto.at-end in
    let turn : HasTurn s (rank key) (Some a) = search rules in
    let list : among ≡ receivers_in s.composition i (Some a) = search rules in
    let low = receiver_within s key i (owner key c.requires.small) a turn j (subst (λ l. IsIn j l ≡ true) list (in_at among c.loop-at.at 0 (omega (arith, t, e)))) in
    let many = c.loop-at.invariant.many in
    let all = c.requires.many in
    omega (arith, low, many, all)

pub loop-at-preserved : goal.loop-at-preserved
loop-at-preserved g c =
    let s = system g.T.Turns.turn_of c.args.setup.now in
    let hearing = c.args.hearing.now in
    let key = c.args.slot.now.key in
    let i = key.component in
    let a = c.in_ok-clone.field-0 in
    let among = c.as_slice-among.result.now in
    let at = c.loop-at.at in
    let j = slice_index_or among at 0 in
    let t = c.loop-at-test.true in
    let e = c.loop-at.auto.at-end in
    let within : at < length among = omega (arith, t, e) in
    let turn : HasTurn s (rank key) (Some a) = search rules in
    let list : among ≡ receivers_in s.composition i (Some a) = search rules in
    let apart = receiver_apart s key i (owner key c.requires.small) a turn j (subst (λ l. IsIn j l ≡ true) list (in_at among at 0 within)) in
    record {
      passed = subst (λ l. IsPassedOn s hearing.groups.items hearing.heard.items hearing.me (rank key) i l c.args.members.now c.pass_one.new.members c.pass_one.new.bags) (sym (take_more among at 0 within))
          (c.in_ok-pass_one.ensures.passed i (take at among) c.args.members.now apart c.loop-at.invariant.passed);
      many = c.in_ok-pass_one.ensures.many ∙ c.loop-at.invariant.many;
      count = c.in_ok-pass_one.ensures.bags ∙ c.loop-at.invariant.count;
    }
