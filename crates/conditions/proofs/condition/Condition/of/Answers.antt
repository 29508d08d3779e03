use Rattle.std.proofs.Common.{◌≡◌, ◌∙◌, ap, subst, sym, ℕ, length, rules, arith}
use Rattle.conditions.specs.Conditions.{AreStages}
use Rattle.conditions.proofs.Staging.{all_met}
use Rattle.conditions.proofs.condition.Condition.of.Goals as goal

pub returns : goal.returns
returns c =
    let number : c.len-number.result ≡ length c.in_ok-branches.branches.items = search rules in
    let same = c.as_slice-lists.ensures.value in
    let Staged : ℕ → Type 0 = λ n. AreStages n 0 c.in_ok-stages.stages.items in
    record {
      met = λ scope state. all_met scope state c.in_ok-branches.branches.items c.as_slice-lists.result.now c.in_ok-last.last c.len-number.result c.in_ok-stages.stages.items same number c.in_ok-last.ensures (c.in_ok-stages.ensures.held scope state) ∙ c.in_ok-branches.ensures.stand scope state;
      stages = subst Staged (ap length same ∙ sym number) c.in_ok-stages.ensures.are;
      few = omega (arith, number, c.in_ok-branches.ensures.few);
      apart = c.in_ok-stages.ensures.apart;
    }
