-- What is said of a group rests on who its members are alone.
use Rattle.std.proofs.Common.{◌≡◌, ℕ, ◌+◌, ◌==◌, ◌⊎◌, inl, inr, cond, ap, sym, ◌∙◌}
use Rattle.std.proofs.lemmas.Bool.{cases_eq, eq-eqb, eqb-true, ne_eqb}
use Rattle.virtual_time.specs.Bags.{sends, times}
use Rattle.virtual_time.specs.Groups.Leases.{IsLease, Lease, Matches}
use Rattle.virtual_time.specs.Groups.Stubs.{Stub, between, within}
use Rattle.virtual_time.specs.Machine.{Machine}

-- equality of numbers either way round
swapped : (a b : ℕ) → (a == b) ≡ (b == a)
swapped a b = go (cases_eq a b)
  where
    go : (a ≡ b) ⊎ (a ≡ b → ⊥) → (a == b) ≡ (b == a)
    go (inl e) = eq-eqb a b e ∙ sym (eq-eqb b a (sym e))
    go (inr ne) = ne_eqb a b ne ∙ sym (ne_eqb b a (λ e. ne (sym e)))

module _ (group other : ℕ → ℕ) (g : ℕ) (agree : (j : ℕ) → (group j == g) ≡ (other j == g)) where
  pub there : (j : ℕ) → other j ≡ g → group j ≡ g
  there j e = eqb-true (group j) g (agree j ∙ eq-eqb (other j) g e)

  pub back : (j : ℕ) → group j ≡ g → other j ≡ g
  back j e = eqb-true (other j) g (sym (agree j) ∙ eq-eqb (group j) g e)

  -- whether it is of the group of a member
  of_member : (j i : ℕ) → other i ≡ g → (group j == group i) ≡ (other j == other i)
  of_member j i e = ap (λ n. group j == n) (there i e) ∙ agree j ∙ ap (λ n. other j == n) (sym e)

  by_member : (i j : ℕ) → other i ≡ g → (group i == group j) ≡ (other i == other j)
  by_member i j e = swapped (group i) (group j) ∙ of_member j i e ∙ swapped (other j) (other i)

  module _ {S A : Type 0} (machine : Machine S A) where
    within_is : (k i n : ℕ) → other i ≡ g → within machine group k i n ≡ within machine other k i n
    within_is k i n e = ap (λ b. cond b n 0) (of_member (machine.owner k) i e)

    between_is : (k j n : ℕ) → other (machine.owner k) ≡ g → between machine group k j n ≡ between machine other k j n
    between_is k j n e = ap (λ b. cond b 0 n) (by_member (machine.owner k) j e)

    pub lease_agrees : (l : Lease S A) → IsLease machine group g l → IsLease machine other g l
    lease_agrees l h =
        record {
          end = h.end;
          low = h.low;
          proper = λ i e. h.proper i (there i e);
          first = λ i e. h.first i (there i e);
          grounded = λ i e. h.grounded i (there i e);
          past = λ i e. h.past i (there i e);
          owed = λ i e. h.owed i (there i e);
          out_plus = h.out_plus;
          out_minus = h.out_minus;
          self_plus = λ i e. h.self_plus i (there i e);
          self_minus = λ i e. h.self_minus i (there i e);
          mine_plus = λ j k a ne. h.mine_plus j k a (λ e. ne (back (machine.owner k) e));
          mine_minus = λ j k a ne. h.mine_minus j k a (λ e. ne (back (machine.owner k) e));
        }

    pub matches_agrees : (st : Stub A) (l : Lease S A) → Matches machine group g st l → Matches machine other g st l
    matches_agrees st l h =
        record {
          base = h.base;
          floor = h.floor;
          taken = λ i k a e.
              ap (λ n. st.taken i k a + n + times machine (l.part i).owed k a + times machine (l.part i).minus k a) (sym (within_is k i (sends machine (l.part (machine.owner k)).done k a i) e))
              ∙ h.taken i k a (there i e);
          standing = λ k a j e.
              h.standing k a j (there (machine.owner k) e)
              ∙ ap (λ n. n + times machine (l.out_minus j) k a) (between_is k j (sends machine (l.part (machine.owner k)).done k a j) e);
        }
