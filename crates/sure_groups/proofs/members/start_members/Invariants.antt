use Rattle.std.proofs.Common.{◌≡◌, [], ℕ, length, Some, slice_get}
use Rattle.io_automata.specs.Steps.{start_of}
use Rattle.plans.specs.Memos.{IsBlank}
use Rattle.plans.specs.Plans.{composition}
use Rattle.sure_groups.specs.declared.member.Member.{Member as MemberSeen}
use Rattle.sure_groups.proofs.members.start_members.Given as goal

abbrev pub invariant-loop-i : goal.invariant-loop-i
invariant-loop-i l = record {
  many : length l.members.items ≡ l.i;
  state : (j : ℕ) (member : MemberSeen) → slice_get l.members.items j ≡ Some member → member.state.current ≡ start_of (composition l.plan) j;
  plain : (j : ℕ) (member : MemberSeen) → slice_get l.members.items j ≡ Some member → member.state.below ≡ [];
  blank : (j : ℕ) (member : MemberSeen) → slice_get l.members.items j ≡ Some member → IsBlank member.memo;
  none : (j : ℕ) (member : MemberSeen) → slice_get l.members.items j ≡ Some member → member.pending.items ≡ [];
}
