-- One component among the members of a group, by its place and by its number.
use Rattle.std.proofs.Common.{◌≡◌, ℕ, zero, suc, ◌==◌, ◌⊎◌, inl, inr, true, true≢false, cond, None, Some, List, [], ◌∷◌, refl, ap, sym, subst, ◌∙◌, arith}
use Rattle.std.specs.Prelude.{map, slice_get, slice_set}
use Rattle.std.proofs.lemmas.Bool.{eq-eqb, ne_eqb, cases_eq, eqb-true, or_cases, or_left, or_right}
use Rattle.terms.specs.Datum.{Datum}
use Rattle.terms.specs.Named.{Named}
use Rattle.virtual_time.specs.Machine.{Machine}
use Rattle.event_keys.specs.declared.key.Bound.{Bound}
use Rattle.rollback.specs.ComponentView.{ComponentView}
use Rattle.groups.specs.Crew.{AreApart, AreOf, ArePlaced, place_in}
use Rattle.groups.specs.GroupView.{frame_of, frames, has_number, history_of, is_member, numbers}

pub one_some : {X : Type 0} (a b : X) → Some a ≡ Some b → a ≡ b
one_some a b e = cc

pub none_some : {X : Type 0} (b : X) → None ≡ Some b → ⊥
none_some b e = cc

pub set_there : {X : Type 0} (xs : List X) (n : ℕ) (old new : X) → slice_get xs n ≡ Some old → slice_get (slice_set xs n new) n ≡ Some new
set_there [] n old new e = absurd (none_some old e)
set_there (y ∷ ys) zero old new e = refl
set_there (y ∷ ys) (suc n) old new e = set_there ys n old new e

pub set_other : {X : Type 0} (xs : List X) (n : ℕ) (x : X) (j : ℕ) → (j ≡ n → ⊥) → slice_get (slice_set xs n x) j ≡ slice_get xs j
set_other [] n x j ne = refl
set_other (y ∷ ys) zero x zero ne = absurd (ne refl)
set_other (y ∷ ys) zero x (suc j) ne = refl
set_other (y ∷ ys) (suc n) x zero ne = refl
set_other (y ∷ ys) (suc n) x (suc j) ne = set_other ys n x j (λ e. ne (ap suc e))

module _ {P : Type 0} where
  pub apart_here : (place : ℕ → ℕ) (first : ℕ) (c : ComponentView P) (cs : List (ComponentView P)) → AreApart place first (c ∷ cs) → (q : ℕ) (d : ComponentView P) → slice_get cs q ≡ Some d → d.number ≡ c.number → ⊥
  apart_here place first c cs h q d there e =
      let a = h 0 c refl in
      let b = h (suc q) d there in
      let same : place d.number ≡ place c.number = ap place e in
      omega (arith, a, b, same)

  pub apart_tail : (place : ℕ → ℕ) (first : ℕ) (c : ComponentView P) (cs : List (ComponentView P)) → AreApart place first (c ∷ cs) → AreApart place (suc first) cs
  apart_tail place first c cs h q d there = let a = h (suc q) d there in omega (arith, a)

  pub member_there : (cs : List (ComponentView P)) (q : ℕ) (c : ComponentView P) → slice_get cs q ≡ Some c → is_member cs c.number ≡ true
  member_there [] q c e = absurd (none_some c e)
  member_there (d ∷ ds) zero c e =
      let same = one_some d c e in
      or_left (c.number == d.number) (is_member ds c.number) (eq-eqb c.number d.number (ap (λ (x : ComponentView P). x.number) (sym same)))
  member_there (d ∷ ds) (suc q) c e = or_right (c.number == d.number) (is_member ds c.number) (member_there ds q c e)

  -- a member is at some place
  pub record IsAt (cs : List (ComponentView P)) (j : ℕ) : Type 0 where
    pub place : ℕ
    pub c : ComponentView P
    pub there : slice_get cs place ≡ Some c
    pub number : c.number ≡ j

  pub member_at : (cs : List (ComponentView P)) (j : ℕ) → is_member cs j ≡ true → IsAt cs j
  member_at [] j e = absurd (true≢false (sym e))
  member_at (d ∷ ds) j e = go (member_at ds j) (or_cases (j == d.number) (is_member ds j) e)
    where
      go : (is_member ds j ≡ true → IsAt ds j) → ((j == d.number) ≡ true) ⊎ (is_member ds j ≡ true) → IsAt (d ∷ ds) j
      go rest (inl here) = record { place = 0; c = d; there = refl; number = sym (eqb-true j d.number here) }
      go rest (inr later) = let at = rest later in record { place = suc at.place; c = at.c; there = at.there; number = at.number }

  -- the record of the component at a place
  pub history_there : (m : Machine (List Datum) Named) (place : ℕ → ℕ) (first : ℕ) (cs : List (ComponentView P)) (q : ℕ) (c : ComponentView P) → AreApart place first cs → slice_get cs q ≡ Some c → history_of m cs c.number ≡ c.history
  history_there m place first [] q c apart e = absurd (none_some c e)
  history_there m place first (d ∷ ds) zero c apart e =
      let same = one_some d c e in
      rw (eq-eqb c.number d.number (ap (λ (x : ComponentView P). x.number) (sym same))) (ap (λ (x : ComponentView P). x.history) same)
  history_there m place first (d ∷ ds) (suc q) c apart e =
      rw (ne_eqb c.number d.number (apart_here place first d ds apart q c e)) (history_there m place (suc first) ds q c (apart_tail place first d ds apart) e)

  -- another component with its number in its place
  pub history_put : (m : Machine (List Datum) Named) (place : ℕ → ℕ) (first : ℕ) (cs : List (ComponentView P)) (q : ℕ) (c new : ComponentView P) → AreApart place first cs → slice_get cs q ≡ Some c → new.number ≡ c.number
      → (j : ℕ) → history_of m (slice_set cs q new) j ≡ cond (j == c.number) new.history (history_of m cs j)
  history_put m place first [] q c new apart e same j = absurd (none_some c e)
  history_put m place first (d ∷ ds) zero c new apart e same j = go (cases_eq j c.number)
    where
      here : d ≡ c
      here = one_some d c e

      go : (j ≡ c.number) ⊎ (j ≡ c.number → ⊥) → history_of m (new ∷ ds) j ≡ cond (j == c.number) new.history (history_of m (d ∷ ds) j)
      go (inl one) = rw (eq-eqb j new.number (one ∙ sym same), eq-eqb j c.number one) refl
      go (inr ne) = rw (ne_eqb j new.number (λ k. ne (k ∙ same)), ne_eqb j c.number ne, ne_eqb j d.number (λ k. ne (k ∙ ap (λ (x : ComponentView P). x.number) here))) refl
  history_put m place first (d ∷ ds) (suc q) c new apart e same j = go (history_put m place (suc first) ds q c new (apart_tail place first d ds apart) e same j) (cases_eq j d.number)
    where
      go : history_of m (slice_set ds q new) j ≡ cond (j == c.number) new.history (history_of m ds j) → (j ≡ d.number) ⊎ (j ≡ d.number → ⊥) → history_of m (d ∷ slice_set ds q new) j ≡ cond (j == c.number) new.history (history_of m (d ∷ ds) j)
      go rest (inl one) = rw (eq-eqb j d.number one, ne_eqb j c.number (λ k. apart_here place first d ds apart q c e (sym k ∙ one))) refl
      go rest (inr ne) = rw (ne_eqb j d.number ne) rest

  -- it leaves what they keep
  pub frames_put : (cs : List (ComponentView P)) (q : ℕ) (c new : ComponentView P) → slice_get cs q ≡ Some c → frame_of new ≡ frame_of c → frames (slice_set cs q new) ≡ frames cs
  frames_put [] q c new e same = refl
  frames_put (d ∷ ds) zero c new e same = let here = one_some d c e in ap (λ x. x ∷ frames ds) (same ∙ ap frame_of (sym here))
  frames_put (d ∷ ds) (suc q) c new e same = ap (λ xs. frame_of d ∷ xs) (frames_put ds q c new e same)

  abbrev numbers_of : List (P × ℕ × Bound) → List ℕ
  numbers_of fs = map (λ f. f.1) fs

  numbers_are : (cs : List (ComponentView P)) → numbers cs ≡ numbers_of (frames cs)
  numbers_are [] = refl
  numbers_are (c ∷ cs) = ap (λ ns. c.number ∷ ns) (numbers_are cs)

  -- so the same are members
  pub members_same : (old new : List (ComponentView P)) → frames new ≡ frames old → (j : ℕ) → is_member new j ≡ is_member old j
  members_same old new e j = ap (has_number j) (numbers_are new ∙ ap numbers_of e ∙ sym (numbers_are old))

  -- and they are of the same setup and base
  pub own_same : (setup : P) (base : Bound) (old new : List (ComponentView P)) → frames new ≡ frames old → AreOf setup base old → AreOf setup base new
  own_same setup base [] [] e h = tt
  own_same setup base [] (c ∷ cs) e h = cc
  own_same setup base (d ∷ ds) [] e h = cc
  own_same setup base (d ∷ ds) (c ∷ cs) e h =
      let first : frame_of c ≡ frame_of d = cc in
      let rest : frames cs ≡ frames ds = cc in
      (ap (λ f. f.0) first ∙ h.0, ap (λ f. f.2) first ∙ h.1, own_same setup base ds cs rest h.2)

  pub own_there : (setup : P) (base : Bound) (cs : List (ComponentView P)) (q : ℕ) (c : ComponentView P) → AreOf setup base cs → slice_get cs q ≡ Some c → (c.setup ≡ setup) × (c.base ≡ base)
  own_there setup base [] q c h e = absurd (none_some c e)
  own_there setup base (d ∷ ds) zero c h e = let here = one_some d c e in (ap (λ (x : ComponentView P). x.setup) (sym here) ∙ h.0, ap (λ (x : ComponentView P). x.base) (sym here) ∙ h.1)
  own_there setup base (d ∷ ds) (suc q) c h e = own_there setup base ds q c h.2 e

  -- the places stay noted
  pub places_same : (cs : List (ComponentView P)) (places : List ℕ) (q : ℕ) (c new : ComponentView P) → slice_get cs q ≡ Some c → new.number ≡ c.number → ArePlaced cs places → ArePlaced (slice_set cs q new) places
  places_same cs places q c new e same is =
      record {
        placed = λ p d there. let old = before p d there in ap (place_in places) (old.2) ∙ is.placed p old.0 old.1;
        named = λ j d there. let old = before (place_in places j) d there in old.2 ∙ is.named j old.0 old.1;
      }
    where
      before : (p : ℕ) (d : ComponentView P) → slice_get (slice_set cs q new) p ≡ Some d → (b : ComponentView P) × (slice_get cs p ≡ Some b) × (d.number ≡ b.number)
      before p d there = go (cases_eq p q)
        where
          go : (p ≡ q) ⊎ (p ≡ q → ⊥) → (b : ComponentView P) × (slice_get cs p ≡ Some b) × (d.number ≡ b.number)
          go (inl here) =
              let found : slice_get (slice_set cs q new) q ≡ Some d = subst (λ k. slice_get (slice_set cs q new) k ≡ Some d) here there in
              let one : new ≡ d = one_some new d (sym (set_there cs q c new e) ∙ found) in
              (c, subst (λ k. slice_get cs k ≡ Some c) (sym here) e, ap (λ (x : ComponentView P). x.number) (sym one) ∙ same)
          go (inr ne) = (d, sym (set_other cs q new p ne) ∙ there, refl)
