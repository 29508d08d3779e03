-- What a commit appends: the done own turns from the old bound to the new one, each once, in the order of keys.
use Rattle.std.proofs.Common.{◌≡◌, ℕ, zero, suc, ◌+◌, ◌-◌, ◌++◌, ◌<◌, ◌≤◌, ◌⊎◌, inl, inr, Option, None, Some, List, [], ◌∷◌, refl, ap, sym, subst, ◌∙◌, arith}
use Rattle.std.proofs.lemmas.Bool.{cases_eq}
use Rattle.virtual_time.specs.Machine.{Machine}
use Rattle.virtual_time.specs.Reference.{AllBelow, Falls, IsAmong, Turn, add_turn}
use Rattle.virtual_time.specs.Worlds.{IsToCommit, Part, World, commit, gather}
use Rattle.virtual_time.specs.Entries.{turn_at}

pub below_member : {A : Type 0} (b : ℕ) (t : Turn A) (ts : List (Turn A)) → AllBelow b ts → IsAmong t ts → t.key < b
below_member b t [] p m = absurd m
below_member b t (u ∷ us) p (inl e) = subst (λ (k : ℕ). k < b) (sym (ap (λ (v : Turn _). v.key) e)) p.0
below_member b t (u ∷ us) p (inr m) = below_member b t us p.1 m

-- two such lists with the same members are one
pub descends_one : {A : Type 0} (ts us : List (Turn A)) → Falls ts → Falls us → ((t : Turn A) → IsAmong t ts → IsAmong t us) → ((t : Turn A) → IsAmong t us → IsAmong t ts) → ts ≡ us
descends_one [] [] p q f g = refl
descends_one [] (u ∷ us) p q f g = absurd (g u (inl refl))
descends_one (t ∷ ts) [] p q f g = absurd (f t (inl refl))
descends_one {A} (t ∷ ts) (u ∷ us) p q f g =
    let same : t ≡ u = heads (f t (inl refl)) (g u (inl refl)) in
    let rest : ts ≡ us = descends_one ts us p.1 q.1
    (λ v m. tails t u ts us same p.0 v m (f v (inr m)))
    (λ v m. tails u t us ts (sym same) q.0 v m (g v (inr m))) in
    λ i. same i ∷ rest i
  where
    heads : (t ≡ u) ⊎ IsAmong t us → (u ≡ t) ⊎ IsAmong u ts → t ≡ u
    heads (inl e) n = e
    heads (inr m) (inl e) = sym e
    heads (inr m) (inr n) = let a = below_member u.key t us q.0 m in let b = below_member t.key u ts p.0 n in absurd (omega arith)

    tails : (x y : Turn A) (xs ys : List (Turn A)) → x ≡ y → AllBelow x.key xs → (v : Turn A) → IsAmong v xs → (v ≡ y) ⊎ IsAmong v ys → IsAmong v ys
    tails x y xs ys e low v m (inl h) = let l = below_member x.key v xs low m in let k : v.key ≡ x.key = ap (λ (z : Turn A). z.key) (h ∙ sym e) in absurd (omega arith)
    tails x y xs ys e low v m (inr h) = h

module _ {S A : Type 0} (machine : Machine S A) (parts : ℕ → Part S A) (g : ℕ) where
  abbrev pub Is : ℕ → Turn A → Type 0
  Is d t = (g ≤ t.key) × (t.key < g + d) × (turn_at t.key (parts (machine.owner t.key)).done ≡ Some t.outcome)

  pub below_more : (b c : ℕ) (ts : List (Turn A)) → b ≤ c → AllBelow b ts → AllBelow c ts
  below_more b c [] l p = tt
  below_more b c (t ∷ ts) l p = let h = p.0 in (omega arith, below_more b c ts l p.1)

  pub gather_in_order : (d : ℕ) → AllBelow (g + d) (gather machine parts g d []) × Falls (gather machine parts g d [])
  gather_in_order zero = (tt, tt)
  gather_in_order (suc d) = go (turn_at (g + d) (parts (machine.owner (g + d))).done) (gather_in_order d)
    where
      go : (o : Option (Option A)) → AllBelow (g + d) (gather machine parts g d []) × Falls (gather machine parts g d [])
          → AllBelow (g + suc d) (add_turn (g + d) o (gather machine parts g d [])) × Falls (add_turn (g + d) o (gather machine parts g d []))
      go None ih = (below_more (g + d) (g + suc d) (gather machine parts g d []) (omega arith) ih.0, ih.1)
      go (Some o) ih = ((omega arith, below_more (g + d) (g + suc d) (gather machine parts g d []) (omega arith) ih.0), (ih.0, ih.1))

  pub gather_has : (d : ℕ) (t : Turn A) → Is d t → IsAmong t (gather machine parts g d [])
  gather_has zero t h = let a = h.0 in let b = h.1 in absurd (omega arith)
  gather_has (suc d) t h = go (λ (k : Is d t). gather_has d t k) (cases_eq t.key (g + d))
    where
      here : (o : Option (Option A)) → o ≡ Some t.outcome → t.key ≡ g + d → IsAmong t (add_turn (g + d) o (gather machine parts g d []))
      here None e k = absurd (nothing e)
        where
          nothing : ◌≡◌ {A = Option (Option A)} None (Some t.outcome) → ⊥
          nothing e = cc
      here (Some o) e k = let f : o ≡ t.outcome = cc in inl (λ i. record { key = k i; outcome = sym f i })

      there : (o : Option (Option A)) → IsAmong t (gather machine parts g d []) → IsAmong t (add_turn (g + d) o (gather machine parts g d []))
      there None m = m
      there (Some o) m = inr m

      go : (Is d t → IsAmong t (gather machine parts g d [])) → (t.key ≡ g + d) ⊎ (t.key ≡ g + d → ⊥) → IsAmong t (gather machine parts g (suc d) [])
      go ih (inl e) = here (turn_at (g + d) (parts (machine.owner (g + d))).done) (subst (λ (k : ℕ). turn_at k (parts (machine.owner k)).done ≡ Some t.outcome) e h.2) e
      go ih (inr ne) = let a = h.1 in there (turn_at (g + d) (parts (machine.owner (g + d))).done) (ih (h.0, omega arith, h.2))

  pub gather_only : (d : ℕ) (t : Turn A) → IsAmong t (gather machine parts g d []) → Is d t
  gather_only zero t m = absurd m
  gather_only (suc d) t m = go (turn_at (g + d) (parts (machine.owner (g + d))).done) refl (gather_only d t) m
    where
      more : Is d t → Is (suc d) t
      more k = let a = k.1 in (k.0, omega arith, k.2)

      go : (o : Option (Option A)) → turn_at (g + d) (parts (machine.owner (g + d))).done ≡ o → (IsAmong t (gather machine parts g d []) → Is d t) → IsAmong t (add_turn (g + d) o (gather machine parts g d [])) → Is (suc d) t
      go None e ih n = more (ih n)
      go (Some o) e ih (inl f) =
          let k : t.key ≡ g + d = ap (λ (v : Turn A). v.key) f in
          let q : t.outcome ≡ o = ap (λ (v : Turn A). v.outcome) f in
          (omega arith, omega arith, subst (λ (c : ℕ). turn_at c (parts (machine.owner c)).done ≡ Some t.outcome) (sym k) (e ∙ ap (λ (v : Option A). Some v) (sym q)))
      go (Some o) e ih (inr n) = more (ih n)

  -- so any list in the order of keys with just these turns is what the commit appends
  pub gather_one : (d : ℕ) (ts : List (Turn A)) → Falls ts → ((t : Turn A) → IsAmong t ts → Is d t) → ((t : Turn A) → Is d t → IsAmong t ts) → ts ≡ gather machine parts g d []
  gather_one d ts p f h = descends_one ts (gather machine parts g d []) p (gather_in_order d).1 (λ t m. gather_has d t (f t m)) (λ t m. h t (gather_only d t m))

  pub gather_joined : (d : ℕ) (ts : List (Turn A)) → gather machine parts g d ts ≡ gather machine parts g d [] ++ ts
  gather_joined zero ts = refl
  gather_joined (suc d) ts = go (turn_at (g + d) (parts (machine.owner (g + d))).done) (gather_joined d ts)
    where
      go : (o : Option (Option A)) → gather machine parts g d ts ≡ gather machine parts g d [] ++ ts → add_turn (g + d) o (gather machine parts g d ts) ≡ add_turn (g + d) o (gather machine parts g d []) ++ ts
      go None ih = ih
      go (Some o) ih = ap (λ (us : List (Turn A)). record { key = g + d; outcome = o } ∷ us) ih

module _ {S A : Type 0} (machine : Machine S A) where
  -- what a commit appends
  pub appended : (w : World S A) (b : ℕ) (chunk : List (Turn A)) → w.bound ≤ b → Falls chunk → ((t : Turn A) → IsAmong t chunk → IsToCommit machine w b t) → ((t : Turn A) → IsToCommit machine w b t → IsAmong t chunk)
      → (commit machine b w).committed ≡ chunk ++ w.committed
  appended w b chunk l falls only all =
      let full : w.bound + (b - w.bound) ≡ b = omega arith in
      let e : chunk ≡ gather machine w.part w.bound (b - w.bound) [] = gather_one machine w.part w.bound (b - w.bound) chunk falls
      (λ t m. let h = only t m in let q = h.below in (h.from, omega arith, h.done)) (λ t h. let q = h.1 in all t (record { from = h.0; below = omega arith; done = h.2 })) in
      gather_joined machine w.part w.bound (b - w.bound) w.committed ∙ ap (λ (us : List (Turn A)). us ++ w.committed) (sym e)
