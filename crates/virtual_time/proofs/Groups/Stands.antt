-- Done entries of a group's components, from a base on: where they stand, and what they send.
use Rattle.std.proofs.Common.{◌≡◌, ℕ, zero, suc, ◌+◌, ◌-◌, ◌<◌, ◌≤◌, ◌⊎◌, inl, inr, List, refl, sym, subst, ◌∙◌, arith}
use Rattle.std.proofs.lemmas.Bool.{cases_eq}
use Rattle.virtual_time.specs.Machine.{Lawful, Machine}
use Rattle.virtual_time.specs.Entries.{Entry, number}
use Rattle.virtual_time.specs.Bags.{inputs, sends}
use Rattle.virtual_time.specs.Rules.{IsDone}
use Rattle.virtual_time.specs.Reference.{point}
use Rattle.virtual_time.specs.Exchange.Stubs.{reference_sends}
use Rattle.virtual_time.specs.Groups.Stubs.{between, within}
use Rattle.virtual_time.proofs.Refs.{At, at_step, sends_ref}
use Rattle.virtual_time.proofs.Exchange.Committed.{at_base, sends_self}
use Rattle.virtual_time.proofs.Groups.Parts.{none, passes, stays}

-- The inputs up to b are what the reference sends from other groups and what the components send each other.
module _ {S A : Type 0} (machine : Machine S A) (law : Lawful machine) (group : ℕ → ℕ) (g base : ℕ) (n : ℕ → ℕ) (s : ℕ → S) (es : ℕ → List (Entry A))
    (d : (i : ℕ) → group i ≡ g → IsDone machine i base (n i) (s i) (es i)) (first : (i : ℕ) → group i ≡ g → n i ≡ (point machine base).next i) (state : (i : ℕ) → group i ≡ g → s i ≡ (point machine base).state i) (b : ℕ)
    (ins : (i c : ℕ) (a : A) → group i ≡ g → base ≤ c → c < b → inputs machine (es i) c a ≡ between machine group c i (reference_sends machine c a i) + within machine group c i (sends machine (es (machine.owner c)) c a i))
    (next : (i : ℕ) → group i ≡ g → b ≤ machine.key i (number (n i) (es i))) where
  abbrev pub Stands : ℕ → Type 0
  Stands c = (i : ℕ) (e : group i ≡ g) → At machine law i base (n i) (s i) (es i) (d i e) c

  module _ (c : ℕ) (low : base ≤ c) (high : c < b) where
    pub none_own : group (machine.owner c) ≡ g → (a : A) → inputs machine (es (machine.owner c)) c a ≡ 0
    none_own own a =
        let h = ins (machine.owner c) c a own low high in
        let x = (stays machine group c (machine.owner c) (reference_sends machine c a (machine.owner c)) refl).0 in
        let y = (none machine group c (machine.owner c) (sends machine (es (machine.owner c)) c a (machine.owner c)) (sends_self machine law (es (machine.owner c)) c a)).1 in
        omega arith

    sends_at : Stands c → group (machine.owner c) ≡ g → (a : A) (j : ℕ) → sends machine (es (machine.owner c)) c a j ≡ reference_sends machine c a j
    sends_at at own a j =
        let i : ℕ = machine.owner c in
        let k = next (machine.owner c) own in
        sends_ref machine law (machine.owner c) base (n (machine.owner c)) (s (machine.owner c)) (es (machine.owner c)) (d (machine.owner c) own) c (omega arith) refl (none_own own) (at (machine.owner c) own) a j

    inputs_at : Stands c → (i : ℕ) → group i ≡ g → (a : A) → inputs machine (es i) c a ≡ reference_sends machine c a i
    inputs_at at i e a = go (cases_eq (group (machine.owner c)) g)
      where
        go : (group (machine.owner c) ≡ g) ⊎ (group (machine.owner c) ≡ g → ⊥) → inputs machine (es i) c a ≡ reference_sends machine c a i
        go (inl own) =
            let h = ins i c a e low high in
            let x = (stays machine group c i (reference_sends machine c a i) (own ∙ sym e)).0 in
            let y = (stays machine group c i (sends machine (es (machine.owner c)) c a i) (own ∙ sym e)).1 in
            let z = sends_at at own a i in
            omega arith
        go (inr ne) =
            let h = ins i c a e low high in
            let x = (passes machine group c i (reference_sends machine c a i) (λ q. ne (q ∙ e))).0 in
            let y = (passes machine group c i (sends machine (es (machine.owner c)) c a i) (λ q. ne (q ∙ e))).1 in
            omega arith

    step : Stands c → Stands (suc c)
    step at i e = let k = next i e in at_step machine law i base (n i) (s i) (es i) (d i e) c (omega arith) (inputs_at at i e) (at i e)

  up : (m : ℕ) → base + m ≤ b → Stands (base + m)
  up zero h i e = let z : base + 0 ≡ base = omega arith in rw z (at_base machine law i base (n i) (s i) (es i) (d i e) (first i e) (state i e))
  up (suc m) h i e = let z : base + suc m ≡ suc (base + m) = omega arith in rw z (step (base + m) (omega arith) (omega arith) (up m (omega arith)) i e)

  -- they stand where the reference does
  pub stands : (c : ℕ) → base ≤ c → c ≤ b → Stands c
  stands c low high i e = let z : base + (c - base) ≡ c = omega arith in subst (λ (m : ℕ). At machine law i base (n i) (s i) (es i) (d i e) m) z (up (c - base) (omega arith) i e)

  -- and send what it does
  pub sends_are : (c : ℕ) → base ≤ c → c < b → group (machine.owner c) ≡ g → (a : A) (j : ℕ) → sends machine (es (machine.owner c)) c a j ≡ reference_sends machine c a j
  sends_are c low high own a j = sends_at c low high (stands c low (omega arith)) own a j

  pub inputs_are : (c : ℕ) → base ≤ c → c < b → (i : ℕ) → group i ≡ g → (a : A) → inputs machine (es i) c a ≡ reference_sends machine c a i
  inputs_are c low high i e a = inputs_at c low high (stands c low (omega arith)) i e a
