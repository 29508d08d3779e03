use Rattle.std.proofs.Common.{◌≡◌, ◌+◌, ◌<◌, ℕ, inl, inr, Some, true, ap, sym, subst, ◌∙◌, arith}
use Rattle.std.specs.Prelude.{nat_lt, IfSome}
use Rattle.std.proofs.lemmas.Bool.{cases_lt}
use Rattle.std.proofs.lemmas.Bool.Decides.{nat_tests}
use Rattle.event_keys.specs.Ranks.{rank, rank_of_bound}
use Rattle.task_seed.specs.Machines.{turn_rank}
use Rattle.task_seed.specs.Setups.{system}
use Rattle.task_seed.specs.Turning.{key_of}
use Rattle.group_exchange.specs.ExchangeView.{is_ahead_below}
use Rattle.group_exchange.proofs.Passing.{number_is, rank_some}
use Rattle.group_exchange.proofs.passage.Passage.pass_turns.Goals as goal

pub loop-bound-preserved : goal.loop-bound-preserved
loop-bound-preserved g c =
    let s = system g.T.Turns.turn_of c.args.setup.now in
    let i = c.args.i in
    let l = c.loop-bound in
    let key = c.in-Some.key in
    let there : Some key ≡ key_of s i l.self.passed = sym c.in-Some.is ∙ l.invariant.ahead in
    let number = number_is s i l.self.passed key there in
    let small : key.number < 4294967296 = subst (λ o. IfSome o (λ k. k.number < 4294967296)) c.in-Some.is l.invariant.small in
    let below : nat_lt (rank key) (rank_of_bound c.args.bound) ≡ true = sym (ap (is_ahead_below (rank_of_bound c.args.bound)) c.in-Some.is) ∙ sym c.is_ahead_below.ensures ∙ c.loop-bound-test.true in
    let low : rank key < rank_of_bound c.args.bound = grind (arith, nat_tests) in
    record {
      ahead = c.key_after-self.ensures.key ∙ ap (λ n. key_of s i (n + 1)) number;
      small = c.key_after-self.ensures.small;
      few = omega (arith, number, small);
      before = λ n h. (elim (cases_lt n l.self.passed) [
        | inl earlier ↦ l.invariant.before n earlier
        | inr late ↦
            let same : l.self.passed ≡ n = omega (arith, h, late) in
            subst (λ (k : ℕ). turn_rank s i k < rank_of_bound c.args.bound) same
            (subst (λ r. r < rank_of_bound c.args.bound) (sym (rank_some s i l.self.passed key c.requires.there there)) low)
      ]);
    }
