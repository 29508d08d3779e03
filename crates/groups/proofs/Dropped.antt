-- What components give up below a bound, one after the other.
use Rattle.std.proofs.Common.{◌≡◌, ℕ, zero, suc, ◌+◌, ◌<◌, ◌⊎◌, inl, inr, true, false, Option, None, Some, List, [], ◌∷◌, length, refl, ap, sym, subst, ◌∙◌, arith}
use Rattle.std.specs.Prelude.{OnErr, OnOk, Result, Ok, Err, map, slice_get, slice_set}
use Rattle.std.proofs.lemmas.Bool.{cases_eq}
use Rattle.std.proofs.lemmas.Option.{slice_get_within}
use Rattle.event_keys.specs.declared.key.Bound.{Bound}
use Rattle.event_keys.specs.declared.outcome.Turned.{Turned}
use Rattle.event_keys.specs.declared.message.Signed.{Signed}
use Rattle.raw_events.specs.Around.{Around}
use Rattle.task_seed.specs.declared.setup.Setup.{Setup}
use Rattle.task_seed.specs.declared.turns.Turn.{Turn}
use Rattle.rollback.specs.ComponentView.{ComponentView}
use Rattle.groups.specs.Crew.{AreOf, ArePlaced, MembersView, place_in}
use Rattle.groups.specs.Dropping.{AreGivenUp, IsGivenUp, cut_all, cut_to}
use Rattle.antimessage.specs.Counts.{Each}
use Rattle.groups.specs.GroupView.{has_number, numbers}
use Rattle.groups.specs.Open.{AllInside, AllOutside}
use Rattle.groups.proofs.Placed.{none_some, one_some, set_other, set_there}

none_past : {X : Type 0} (xs : List X) (i : ℕ) → slice_get xs i ≡ None → i < length xs → ⊥
none_past [] i x l = absurd (omega (arith, l))
none_past (y ∷ ys) zero x l = none_some y (sym x)
none_past (y ∷ ys) (suc i) x l = none_past ys i x (omega (arith, l))

-- what stands in a mapped list came from there
mapped : {X Y : Type 0} (f : X → Y) (xs : List X) (p : ℕ) (y : Y) → slice_get (map f xs) p ≡ Some y → (x : X) × (slice_get xs p ≡ Some x) × (f x ≡ y)
mapped f [] p y e = absurd (none_some y e)
mapped f (x ∷ xs) zero y e = (x, refl, one_some (f x) y e)
mapped f (x ∷ xs) (suc p) y e = mapped f xs p y e

module _ {T : Type 0} (turn_of : T → ℕ → ℕ → Option Turn) (bound : Bound) where
  -- the first so many have given up theirs
  abbrev pub cut_first : ℕ → List (ComponentView (Setup T)) → List (ComponentView (Setup T))
  cut_first zero cs = cs
  cut_first (suc n) [] = []
  cut_first (suc n) (c ∷ cs) = cut_to turn_of bound c ∷ cut_first n cs

  pub cut_there : (p : ℕ) (cs : List (ComponentView (Setup T))) → slice_get (cut_first p cs) p ≡ slice_get cs p
  cut_there zero cs = refl
  cut_there (suc p) [] = refl
  cut_there (suc p) (c ∷ cs) = cut_there p cs

  pub cut_more : (p : ℕ) (cs : List (ComponentView (Setup T))) (c : ComponentView (Setup T)) → slice_get cs p ≡ Some c → slice_set (cut_first p cs) p (cut_to turn_of bound c) ≡ cut_first (suc p) cs
  cut_more zero [] c e = absurd (none_some c e)
  cut_more zero (d ∷ ds) c e = let here = one_some d c e in ap (λ x. cut_to turn_of bound x ∷ ds) (sym here)
  cut_more (suc p) [] c e = absurd (none_some c e)
  cut_more (suc p) (d ∷ ds) c e = ap (λ xs. cut_to turn_of bound d ∷ xs) (cut_more p ds c e)

  pub cut_end : (cs : List (ComponentView (Setup T))) → cut_first (length cs) cs ≡ cut_all turn_of bound cs
  cut_end [] = refl
  cut_end (c ∷ cs) = ap (λ xs. cut_to turn_of bound c ∷ xs) (cut_end cs)

  pub cut_long : (p : ℕ) (cs : List (ComponentView (Setup T))) → length (cut_first p cs) ≡ length cs
  cut_long zero cs = refl
  cut_long (suc p) [] = refl
  cut_long (suc p) (c ∷ cs) = ap suc (cut_long p cs)

  -- the lists of the first so many
  pub record AreGivenTo (place : ℕ) (cs : List (ComponentView (Setup T))) (lists : List (Around Turned)) : Type 0 where
    pub many : length lists ≡ length cs
    pub each : (q : ℕ) (c : ComponentView (Setup T)) (turns : Around Turned) → q < place → slice_get cs q ≡ Some c → slice_get lists q ≡ Some turns → IsGivenUp bound c turns

  pub none_given : (cs : List (ComponentView (Setup T))) (lists : List (Around Turned)) → length lists ≡ length cs → AreGivenTo 0 cs lists
  none_given cs lists e = record { many = e; each = λ q c turns h. absurd (omega (arith, h)) }

  pub one_given : (place : ℕ) (cs : List (ComponentView (Setup T))) (c : ComponentView (Setup T)) (lists new : List (Around Turned)) (turns : Around Turned) → slice_get cs place ≡ Some c → IsGivenUp bound c turns → new ≡ slice_set lists place turns → length new ≡ length lists
      → AreGivenTo place cs lists → AreGivenTo (place + 1) cs new
  one_given place cs c lists new turns there given e many is = record { many = many ∙ is.many; each = λ q d ts h at found. go q d ts h at found (cases_eq q place) }
    where
      go : (q : ℕ) (d : ComponentView (Setup T)) (ts : Around Turned) → q < place + 1 → slice_get cs q ≡ Some d → slice_get new q ≡ Some ts → (q ≡ place) ⊎ (q ≡ place → ⊥) → IsGivenUp bound d ts
      go q d ts h at found (inl k) =
          let one : c ≡ d = one_some c d (sym there ∙ ap (slice_get cs) (sym k) ∙ at) in
          let two : turns ≡ ts = last (slice_get lists place) refl in
          subst (λ x. IsGivenUp bound x ts) one (subst (IsGivenUp bound c) two given)
        where
          last : (o : Option (Around Turned)) → slice_get lists place ≡ o → turns ≡ ts
          last None x = let within = slice_get_within cs place c there in let many = is.many in absurd (none_past lists place x (omega (arith, within, many)))
          last (Some old) x = one_some turns ts (sym (set_there lists place old turns x) ∙ ap (λ l. slice_get l place) (sym e) ∙ ap (slice_get new) (sym k) ∙ found)
      go q d ts h at found (inr ne) = is.each q d ts (omega (arith, h, ne)) at (sym (set_other lists place turns q ne) ∙ ap (λ l. slice_get l q) (sym e) ∙ found)

  pub all_given : (cs : List (ComponentView (Setup T))) (lists : List (Around Turned)) → AreGivenTo (length cs) cs lists → AreGivenUp bound cs lists
  all_given cs lists is = record { many = is.many; each = λ q c turns at found. is.each q c turns (slice_get_within cs q c at) at found }

  -- the same are members
  numbers_cut : (cs : List (ComponentView (Setup T))) → numbers (cut_all turn_of bound cs) ≡ numbers cs
  numbers_cut [] = refl
  numbers_cut (c ∷ cs) = ap (λ ns. c.number ∷ ns) (numbers_cut cs)

  pub inside_cut : (cs : List (ComponentView (Setup T))) (xs : List Signed) → AllInside cs xs → AllInside (cut_all turn_of bound cs) xs
  inside_cut cs xs h = subst (λ ns. Each (λ (s : Signed). has_number s.message.to ns ≡ true) xs) (sym (numbers_cut cs)) h

  pub outside_cut : (cs : List (ComponentView (Setup T))) (xs : List Signed) → AllOutside cs xs → AllOutside (cut_all turn_of bound cs) xs
  outside_cut cs xs h = subst (λ ns. Each (λ (s : Signed). has_number s.message.to ns ≡ false) xs) (sym (numbers_cut cs)) h

  pub own_cut : (setup : Setup T) (base : Bound) (cs : List (ComponentView (Setup T))) → AreOf setup base cs → AreOf setup bound (cut_all turn_of bound cs)
  own_cut setup base [] h = tt
  own_cut setup base (c ∷ cs) h = (h.0, refl, own_cut setup base cs h.2)

  pub places_cut : (cs : List (ComponentView (Setup T))) (places : List ℕ) → ArePlaced cs places → ArePlaced (cut_all turn_of bound cs) places
  places_cut cs places is =
      record {
        placed = λ p c e. let old = before p c e in ap (place_in places) old.2 ∙ is.placed p old.0 old.1;
        named = λ j c e. let old = before (place_in places j) c e in old.2 ∙ is.named j old.0 old.1;
      }
    where
      before : (p : ℕ) (c : ComponentView (Setup T)) → slice_get (cut_all turn_of bound cs) p ≡ Some c → (b : ComponentView (Setup T)) × (slice_get cs p ≡ Some b) × (c.number ≡ b.number)
      before p c e = let old = mapped (cut_to turn_of bound) cs p c e in (old.0, old.1, sym (ap (λ (z : ComponentView _). z.number) old.2))

  pub cut_few : (cs : List (ComponentView (Setup T))) → length (cut_all turn_of bound cs) ≡ length cs
  cut_few [] = refl
  cut_few (c ∷ cs) = ap suc (cut_few cs)

  pub kept_apart : {X E : Type 0} (result : Result X E) (old new : MembersView (Setup T)) (tray out : List Signed) → OnOk result (new ≡ record old { base = bound; components = cut_all turn_of bound old.components }) → OnErr result (new ≡ old)
      → AllInside old.components tray × AllOutside old.components out → AllInside new.components tray × AllOutside new.components out
  kept_apart (Ok x) old new tray out e f h = subst (λ (v : MembersView _). AllInside v.components tray × AllOutside v.components out) (sym e) (inside_cut old.components tray h.0, outside_cut old.components out h.1)
  kept_apart (Err x) old new tray out e f h = subst (λ (v : MembersView _). AllInside v.components tray × AllOutside v.components out) (sym f) h
