-- Components and their seats in the tournament.
use Rattle.std.proofs.Common.{◌≡◌, ℕ, zero, suc, ◌+◌, ◌*◌, ◌<◌, ◌≤◌, ◌^◌, ◌⊎◌, inl, inr, Bool, true, false, Option, Some, List, [], ◌∷◌, length, refl, ap, sym, subst, ◌∙◌, arith}
use Rattle.std.specs.Prelude.{nat_lt, slice_get, slice_set, replicate}
use Rattle.std.proofs.lemmas.Bool.{cases_eq, cases_lt, lt-ltb, le-ltb, ltb-true}
use Rattle.std.proofs.lemmas.List.{length-set}
use Rattle.std.proofs.lemmas.Option.{get_or_from_slice_get, slice_get_within}
use Rattle.task_seed.specs.declared.setup.Setup.{Setup}
use Rattle.task_seed.specs.declared.turns.Turn.{Turn}
use Rattle.virtual_time.specs.Bags.{IsSorted}
use Rattle.rollback.specs.ComponentView.{ComponentView, machine_of}
use Rattle.groups.specs.declared.seats.Seat.{Seat}
use Rattle.groups.specs.Crew.{ArePlaced, AreSeated, AreSeatedBut, AreSeatedIn, AreSeatedTo, IsSeatOf, place_in}
use Rattle.groups.specs.GroupView.{is_member, key_of_next}
use Rattle.groups.specs.Windows.{IsFirst, NothingIsNext}
use Rattle.groups.specs.Tournament.{IsTournament, empty, key_at, node}
use Rattle.groups.proofs.Placed.{member_at, member_there, one_some, set_other, set_there}
use Rattle.groups.proofs.Played.{all_empty, root_low, root_reached}

pub there_within : {X : Type 0} (xs : List X) (i : ℕ) → i < length xs → (x : X) × (slice_get xs i ≡ Some x)
there_within [] i h = absurd (omega (arith, h))
there_within (x ∷ xs) zero h = (x, refl)
there_within (x ∷ xs) (suc i) h = there_within xs i (omega (arith, h))

module _ {T : Type 0} (turn_of : T → ℕ → ℕ → Option Turn) where
  -- one more has its seat
  pub one_seated : (scope wide : ℕ → Type 0) (cs : List (ComponentView (Setup T))) (place : ℕ) (old new : List Seat) → ((p : ℕ) → wide p → (p ≡ place → ⊥) → scope p) → place < length cs → AreSeatedIn turn_of scope cs old → IsTournament (length cs) new
      → ((c : ComponentView (Setup T)) → slice_get cs place ≡ Some c → IsSeatOf turn_of place c (node new (length cs + place)))
      → ((k : ℕ) → k < length cs → (k ≡ place → ⊥) → node new (length cs + k) ≡ node old (length cs + k)) → AreSeatedIn turn_of wide cs new
  one_seated scope wide cs place old new narrow within is tournament own others =
      record { tournament = tournament; each = λ p c h there. go p c h there (cases_eq p place) }
    where
      go : (p : ℕ) (c : ComponentView (Setup T)) → wide p → slice_get cs p ≡ Some c → (p ≡ place) ⊎ (p ≡ place → ⊥) → IsSeatOf turn_of p c (node new (length cs + p))
      go p c h there (inl e) = subst (λ k. IsSeatOf turn_of k c (node new (length cs + k))) (sym e) (own c (subst (λ k. slice_get cs k ≡ Some c) e there))
      go p c h there (inr ne) = subst (IsSeatOf turn_of p c) (sym (others p (slice_get_within cs p c there) ne)) (is.each p c (narrow p h ne) there)

  pub none_seated : (cs : List (ComponentView (Setup T))) (seats : List Seat) → seats ≡ replicate (2 * length cs) empty → AreSeatedTo turn_of cs 0 seats
  none_seated cs seats e = record { tournament = all_empty (length cs) seats e; each = λ p c h there. absurd (omega (arith, h)) }

  pub all_seated : (cs : List (ComponentView (Setup T))) (first : ℕ) (seats : List Seat) → length cs ≤ first → AreSeatedTo turn_of cs first seats → AreSeated turn_of cs seats
  all_seated cs first seats end is =
      record { tournament = is.tournament; each = λ p c h there. let within = slice_get_within cs p c there in is.each p c (omega (arith, within, end)) there }

  -- all others keep theirs where one has changed
  pub others_seated : (cs : List (ComponentView (Setup T))) (place : ℕ) (new : ComponentView (Setup T)) (seats : List Seat) → AreSeated turn_of cs seats → AreSeatedBut turn_of (slice_set cs place new) place seats
  others_seated cs place new seats is =
      let many : length (slice_set cs place new) ≡ length cs = length-set cs place new in
      record {
        tournament = subst (λ n. IsTournament n seats) (sym many) is.tournament;
        each = λ p c ne there. subst (λ n. IsSeatOf turn_of p c (node seats (n + p))) (sym many) (is.each p c tt (sym (set_other cs place new p ne) ∙ there));
      }

  -- where the next key of one stays, and its pending inputs, the seats stay
  pub cut_seated : (cs : List (ComponentView (Setup T))) (place : ℕ) (c new : ComponentView (Setup T)) (seats : List Seat) → slice_get cs place ≡ Some c → key_of_next turn_of new ≡ key_of_next turn_of c → new.setup ≡ c.setup → new.history.pending ≡ c.history.pending
      → AreSeated turn_of cs seats → AreSeated turn_of (slice_set cs place new) seats
  cut_seated cs place c new seats at next setup pending is =
      let many : length (slice_set cs place new) ≡ length cs = length-set cs place new in
      record {
        tournament = subst (λ n. IsTournament n seats) (sym many) is.tournament;
        each = λ p d all there. subst (λ n. IsSeatOf turn_of p d (node seats (n + p))) (sym many) (go p d there (cases_eq p place));
      }
    where
      go : (p : ℕ) (d : ComponentView (Setup T)) → slice_get (slice_set cs place new) p ≡ Some d → (p ≡ place) ⊎ (p ≡ place → ⊥) → IsSeatOf turn_of p d (node seats (length cs + p))
      go p d there (inr ne) = is.each p d tt (sym (set_other cs place new p ne) ∙ there)
      go p d there (inl e) =
          let same : new ≡ d = one_some new d (sym (set_there cs place c new at) ∙ ap (slice_get (slice_set cs place new)) (sym e) ∙ there) in
          let old : IsSeatOf turn_of p c (node seats (length cs + p)) = is.each p c tt (ap (slice_get cs) e ∙ at) in
          subst (λ x. IsSeatOf turn_of p x (node seats (length cs + p))) same
          (old.0, old.1 ∙ sym next, subst (λ p. IsSorted (machine_of turn_of p) new.history.pending) (sym setup) (subst (IsSorted (machine_of turn_of c.setup)) (sym pending) old.2))

  module _ (cs : List (ComponentView (Setup T))) (seats : List Seat) (is : AreSeated turn_of cs seats) where
    abbrev n : ℕ
    n = length cs

    root_least : (q : ℕ) (d : ComponentView (Setup T)) → slice_get cs q ≡ Some d → key_at (node seats 1) ≤ key_of_next turn_of d
    root_least q d there =
        let within = slice_get_within cs q d there in
        let low = root_low n seats is.tournament (n + q) (omega (arith, within)) (omega (arith, within)) in
        let same = (is.each q d tt there).1 in
        omega (arith, low, same)

    -- the one at the root
    pub first_is : (seat : Seat) → seat ≡ node seats 1 → key_at seat < 2 ^ 144 → 0 < n → IsFirst turn_of cs seat.place
    first_is seat root small some =
        let one = root_reached n seats is.tournament some in
        let found = there_within cs one.index one.within in
        let its = is.each one.index found.0 tt found.1 in
        let place : seat.place ≡ one.index = ap (λ (x : Seat). x.place) (root ∙ one.is) ∙ its.0 in
        let at_root : key_at seat ≡ key_at (node seats 1) = ap key_at root in
        let at_leaf : key_at (node seats 1) ≡ key_at (node seats (n + one.index)) = ap key_at one.is in
        let its_key = its.1 in
        record {
          c = found.0;
          there = subst (λ p. slice_get cs p ≡ Some found.0) (sym place) found.1;
          key = omega (arith, at_root, at_leaf, its_key, small);
          least = λ q d there. let low = root_least q d there in omega (arith, low, at_leaf, its_key);
        }

    pub none_first : (seat : Seat) → seat ≡ node seats 1 → 2 ^ 144 ≤ key_at seat → NothingIsNext turn_of cs
    none_first seat root none = λ q d there.
        let low = root_least q d there in
        let ended : key_at seat ≡ key_at (node seats 1) = ap key_at root in
        omega (arith, low, ended, none)

    pub nobody_first : n ≡ 0 → NothingIsNext turn_of cs
    nobody_first none = λ q d there. let within = slice_get_within cs q d there in absurd (omega (arith, within, none))

    pub some_there : (seat : Seat) → slice_get seats 1 ≡ Some seat → 0 < n
    some_there seat e = let within = slice_get_within seats 1 seat e in let many = is.tournament.many in omega (arith, within, many)

    at_root : (seat : Seat) → slice_get seats 1 ≡ Some seat → seat ≡ node seats 1
    at_root seat e = sym (get_or_from_slice_get seats 1 seat empty e)

    pub first_of : (seat : Seat) → slice_get seats 1 ≡ Some seat → key_at seat < 2 ^ 144 → IsFirst turn_of cs seat.place
    first_of seat there small = first_is seat (at_root seat there) small (some_there seat there)

    pub none_of : (seat : Seat) → slice_get seats 1 ≡ Some seat → 2 ^ 144 ≤ key_at seat → NothingIsNext turn_of cs
    none_of seat there none = none_first seat (at_root seat there) none

-- a place is noted where the component is a member
pub has_place : {P : Type 0} (cs : List (ComponentView P)) (places : List ℕ) (j : ℕ) → ArePlaced cs places → nat_lt (place_in places j) (length cs) ≡ is_member cs j
has_place cs places j is = go (cases_lt (place_in places j) (length cs)) (is_member cs j) refl
  where
    go : (place_in places j < length cs) ⊎ (length cs ≤ place_in places j) → (b : Bool) → is_member cs j ≡ b → nat_lt (place_in places j) (length cs) ≡ b
    go (inl less) true e = lt-ltb (place_in places j) (length cs) less
    go (inl less) false e =
        let found = there_within cs (place_in places j) less in
        let number = is.named j found.0 found.1 in
        absurd (other (is_member cs j) e (ap (is_member cs) (sym number) ∙ member_there cs (place_in places j) found.0 found.1))
      where
        other : (b : Bool) → b ≡ false → b ≡ true → ⊥
        other b x y = cc
    go (inr more) true e =
        let at = member_at cs j e in
        let place : place_in places j ≡ at.place = ap (place_in places) (sym at.number) ∙ is.placed at.place at.c at.there in
        let within = slice_get_within cs at.place at.c at.there in
        absurd (omega (arith, more, place, within))
    go (inr more) false e = le-ltb (place_in places j) (length cs) more

-- so a member is at its place
pub member_place : {P : Type 0} (cs : List (ComponentView P)) (places : List ℕ) (j : ℕ) → ArePlaced cs places → is_member cs j ≡ true → place_in places j < length cs
member_place cs places j is e = ltb-true (place_in places j) (length cs) (has_place cs places j is ∙ e)
