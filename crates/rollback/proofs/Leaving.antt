-- What leaves a bag leaves what is in flight.
use Rattle.std.proofs.Common.{◌≡◌, ℕ, ◌+◌, ◌⊎◌, inl, inr, Bool, true, false, true≢false, cond, nat_lt, is_some, Some, List, [], ◌∷◌, refl, ap, sym, subst, ◌∙◌, if◌then◌else◌, arith}
use Rattle.std.specs.Prelude.{◌&&◌}
use Rattle.std.proofs.lemmas.Bool.{lt-ltb, eq-eqb}
use Rattle.event_keys.specs.Ranks.{rank}
use Rattle.event_keys.specs.declared.message.Message.{Message}
use Rattle.event_keys.specs.declared.message.Sign.{Sign}
use Rattle.event_keys.specs.declared.message.Sign.TheVariants.{Plus, Minus}
use Rattle.event_keys.specs.declared.message.Signed.{Signed}
use Rattle.raw_events.specs.Around.{first_where}
use Rattle.antimessage.specs.Bags.{has_pair, is_one, remove}
use Rattle.antimessage.specs.Counts.{Each, IsSorted, count, is_same, minus, plus}
use Rattle.antimessage.specs.Order.{Fits, IsInOrder, KeyFits}
use Rattle.antimessage.proofs.Counting.{signed_decides}
use Rattle.virtual_time.specs.Bags as theory
use Rattle.task_seed.specs.Machines.{machine}
use Rattle.task_seed.specs.Turning.{System}
use Rattle.rollback.specs.Flight.{goes, in_flight, item_of}
use Rattle.message_balance.specs.Balance.{signed_as}
use Rattle.rollback.proofs.Flight.{item_same}
use Rattle.rollback.proofs.Flights.{times_are}

module _ (s : System) (sign : Sign) (j : ℕ) (x : Signed) (f : Fits x) where
  -- one that goes there
  here : (y : Signed) (ys : List Signed) → Fits y → goes sign j x ≡ true → in_flight sign j (remove x ys) ≡ theory.remove (machine s) (item_of x) (in_flight sign j ys)
      → (there same : Bool) → goes sign j y ≡ there → is_same y x ≡ same
      → in_flight sign j (if same then ys else y ∷ remove x ys) ≡ theory.remove (machine s) (item_of x) (if there then item_of y ∷ in_flight sign j ys else in_flight sign j ys)
  here y ys g p rest true true q e = ap (λ b. cond b (in_flight sign j ys) (item_of y ∷ theory.remove (machine s) (item_of x) (in_flight sign j ys))) (sym (item_same s sign j y x g f q p ∙ e))
  here y ys g p rest true false q e =
      ap (λ (b : Bool). if b then item_of y ∷ in_flight sign j (remove x ys) else in_flight sign j (remove x ys)) q
      ∙ ap (λ zs. item_of y ∷ zs) rest
      ∙ ap (λ b. cond b (in_flight sign j ys) (item_of y ∷ theory.remove (machine s) (item_of x) (in_flight sign j ys))) (sym (item_same s sign j y x g f q p ∙ e))
  here y ys g p rest false true q e =
      let same : y ≡ x = (signed_decides y x).0 e in
      absurd (true≢false (sym p ∙ ap (goes sign j) (sym same) ∙ q))
  here y ys g p rest false false q e = ap (λ (b : Bool). if b then item_of y ∷ in_flight sign j (remove x ys) else in_flight sign j (remove x ys)) q ∙ rest

  -- one that goes elsewhere
  elsewhere : (y : Signed) (ys : List Signed) → goes sign j x ≡ false → in_flight sign j (remove x ys) ≡ in_flight sign j ys
      → (same : Bool) → is_same y x ≡ same → in_flight sign j (if same then ys else y ∷ remove x ys) ≡ in_flight sign j (y ∷ ys)
  elsewhere y ys p rest true e =
      let same : y ≡ x = (signed_decides y x).0 e in
      ap (λ (b : Bool). if b then item_of y ∷ in_flight sign j ys else in_flight sign j ys) (sym (ap (goes sign j) same ∙ p))
  elsewhere y ys p rest false e = ap (λ zs. if goes sign j y then item_of y ∷ zs else zs) rest

  removed_here : (xs : List Signed) → Each Fits xs → goes sign j x ≡ true → in_flight sign j (remove x xs) ≡ theory.remove (machine s) (item_of x) (in_flight sign j xs)
  removed_here [] e p = refl
  removed_here (y ∷ ys) e p = here y ys e.0 p (removed_here ys e.1 p) (goes sign j y) (is_same y x) refl refl

  removed_elsewhere : (xs : List Signed) → goes sign j x ≡ false → in_flight sign j (remove x xs) ≡ in_flight sign j xs
  removed_elsewhere [] p = refl
  removed_elsewhere (y ∷ ys) p = elsewhere y ys p (removed_elsewhere ys p) (is_same y x) refl

  flight_left : (xs : List Signed) → Each Fits xs → (b : Bool) → goes sign j x ≡ b → in_flight sign j (remove x xs) ≡ cond b (theory.remove (machine s) (item_of x) (in_flight sign j xs)) (in_flight sign j xs)
  flight_left xs e true p = removed_here xs e p
  flight_left xs e false p = removed_elsewhere xs p

pub flight_removed : (s : System) (sign : Sign) (j : ℕ) (x : Signed) (bag : List Signed) → IsInOrder bag → Fits x
    → in_flight sign j (remove x bag) ≡ cond (goes sign j x) (theory.remove (machine s) (item_of x) (in_flight sign j bag)) (in_flight sign j bag)
flight_removed s sign j x bag o f = flight_left s sign j x f bag o.fits (goes sign j x) refl

found_count : (x : Signed) (xs : List Signed) → is_some (first_where (is_one x) xs) ≡ nat_lt 0 (count x xs)
found_count x [] = refl
found_count x (y ∷ ys) = go (is_same y x) (found_count x ys) where
  go : (b : Bool) → is_some (first_where (is_one x) ys) ≡ nat_lt 0 (count x ys) → is_some (if b then Some y else first_where (is_one x) ys) ≡ nat_lt 0 ((if b then 1 else 0) + count x ys)
  go true rest = sym (lt-ltb 0 (1 + count x ys) (omega arith))
  go false rest = let plain : count x ys ≡ 0 + count x ys = omega arith in rest ∙ ap (nat_lt 0) plain

-- a message is among those in flight as often as it is in the bag
counted : (s : System) (sign : Sign) (m : Message) (xs : List Signed) → Fits (plus m) → Each Fits xs → theory.times (machine s) (in_flight sign m.to xs) (rank m.key) m.action ≡ count (signed_as sign m) xs
counted s sign m xs f e = times_are s m.to sign m (eq-eqb m.to m.to refl) f xs e

pub flight_found : (s : System) (x : Signed) (bag : List Signed) → IsInOrder bag → Fits x → is_some (first_where (is_one x) bag) ≡ theory.has (machine s) (item_of x) (in_flight x.sign x.message.to bag)
flight_found s x bag o f = found_count x bag ∙ ap (nat_lt 0) (sym (counted s x.sign x.message bag f o.fits))

pub flight_pair : (s : System) (m : Message) (bag : List Signed) → IsInOrder bag → KeyFits m.key
    → has_pair m bag ≡ (theory.has (machine s) (item_of (plus m)) (in_flight Plus m.to bag) && theory.has (machine s) (item_of (minus m)) (in_flight Minus m.to bag))
flight_pair s m bag o f = λ i. nat_lt 0 (sym (counted s Plus m bag f o.fits) i) && nat_lt 0 (sym (counted s Minus m bag f o.fits) i)

-- what a bag has fits
none_or_fits : (x : Signed) (xs : List Signed) → Each Fits xs → (count x xs ≡ 0) ⊎ Fits x
none_or_fits x [] e = inl refl
none_or_fits x (y ∷ ys) e = go (is_same y x) refl (none_or_fits x ys e.1) where
  go : (b : Bool) → is_same y x ≡ b → (count x ys ≡ 0) ⊎ Fits x → ((if b then 1 else 0) + count x ys ≡ 0) ⊎ Fits x
  go true q rest = inr (subst Fits ((signed_decides y x).0 q) e.0)
  go false q (inl z) = inl (omega (arith, z))
  go false q (inr f) = inr f

module _ (s : System) (xs ys : List Signed) (o : IsInOrder xs) (p : IsInOrder ys) (same : (sign : Sign) (j : ℕ) → in_flight sign j xs ≡ in_flight sign j ys) where
  count_fits : (x : Signed) → Fits x → count x xs ≡ count x ys
  count_fits x f =
      sym (counted s x.sign x.message xs f o.fits)
      ∙ ap (λ zs. theory.times (machine s) zs (rank x.message.key) x.message.action) (same x.sign x.message.to)
      ∙ counted s x.sign x.message ys f p.fits

  count_same : (x : Signed) → count x xs ≡ count x ys
  count_same x = go (none_or_fits x xs o.fits) (none_or_fits x ys p.fits) where
    go : (count x xs ≡ 0) ⊎ Fits x → (count x ys ≡ 0) ⊎ Fits x → count x xs ≡ count x ys
    go (inl a) (inl b) = omega (arith, a, b)
    go (inl a) (inr f) = count_fits x f
    go (inr f) b = count_fits x f

  -- a bag is known by what is in flight of it
  pub bags_same : ((us vs : List Signed) → IsSorted us → IsSorted vs → ((x : Signed) → count x us ≡ count x vs) → us ≡ vs) → xs ≡ ys
  bags_same law = law xs ys o.sorted p.sorted count_same
