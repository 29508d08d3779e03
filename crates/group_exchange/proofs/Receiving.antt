-- Messages to the components of one group alone.
use Rattle.std.proofs.Common.{◌≡◌, ℕ, ◌<◌, ◌≤◌, ◌⊎◌, inl, inr, Bool, true, false, List, [], ◌∷◌, filter, refl, ap, sym, subst, ◌∙◌, arith}
use Rattle.std.specs.Prelude.{◌&&◌, if◌then◌else◌, not}
use Rattle.std.proofs.lemmas.Bool.{eq-eqb, ne_eqb, cases_eq}
use Rattle.terms.specs.Named.{Named}
use Rattle.event_keys.specs.declared.message.Sign.{Sign}
use Rattle.event_keys.specs.declared.message.Sign.TheVariants.{Plus, Minus}
use Rattle.event_keys.specs.declared.message.Signed.{Signed}
use Rattle.antimessage.specs.Counts.{Each}
use Rattle.antimessage.specs.Bags.{is_to}
use Rattle.virtual_time.specs.Bags.{hit, times}
use Rattle.virtual_time.specs.Entries.{Item}
use Rattle.virtual_time.specs.Machine.{Lawful}
use Rattle.rollback.specs.Flight.{in_flight, item_of, goes, is_sign}
use Rattle.rollback.specs.Laws.{RestGoesToOthers, SplitGoesToOne}
use Rattle.task_seed.specs.Turning.{System}
use Rattle.task_seed.specs.Machines.{machine}
use Rattle.group_exchange.specs.Moving.{among}

-- each goes to a component of this group
abbrev pub To : (ℕ → ℕ) → ℕ → List Signed → Type 0
To group g = Each (λ x. group x.message.to ≡ g)

-- what is to a group has nothing for components of others
pub none_else : (group : ℕ → ℕ) (g : ℕ) (sign : Sign) (l : ℕ) (xs : List Signed) → (group l ≡ g → ⊥) → To group g xs → in_flight sign l xs ≡ []
none_else group g sign l [] ne t = refl
none_else group g sign l (x ∷ xs) ne t = rw (ne_eqb x.message.to l (λ e. ne (sym (ap group e) ∙ t.0))) (off (is_sign sign x.sign) (none_else group g sign l xs ne t.1))
  where
    off : (b : Bool) → in_flight sign l xs ≡ [] → (if b && false then item_of x ∷ in_flight sign l xs else in_flight sign l xs) ≡ []
    off true rest = rest
    off false rest = rest

itself : (sign : Sign) → is_sign sign sign ≡ true
itself Plus = refl
itself Minus = refl

module _ (s : System) (law : Lawful (machine s)) where
  one_more : (x : Item Named) (xs : List (Item Named)) → 0 < times (machine s) (x ∷ xs) x.key x.action
  unfolding hit
  one_more x xs = let a = law.same_refl x.action in rw (eq-eqb x.key x.key refl, a) (omega arith)

  -- where nothing is counted nothing is there
  pub nothing_there : (xs : List (Item Named)) → ((k : ℕ) (a : Named) → times (machine s) xs k a ≡ 0) → xs ≡ []
  nothing_there [] none = refl
  nothing_there (x ∷ xs) none = let z = none x.key x.action in let more = one_more x xs in absurd (omega (arith, z, more))

  rest_less : (sign : Sign) (l k : ℕ) (a : Named) (x : Signed) (xs : List Signed) → among s sign l xs k a ≤ among s sign l (x ∷ xs) k a
  rest_less sign l k a x xs = go (goes sign l x)
    where
      go : (b : Bool) → among s sign l xs k a ≤ times (machine s) (if b then item_of x ∷ in_flight sign l xs else in_flight sign l xs) k a
      go true = omega arith
      go false = omega arith

  -- what has nothing for components of others is to the group
  pub to_alone : (group : ℕ → ℕ) (g : ℕ) (xs : List Signed) → ((sign : Sign) (l k : ℕ) (a : Named) → (group l ≡ g → ⊥) → among s sign l xs k a ≡ 0) → To group g xs
  to_alone group g [] none = tt
  to_alone group g (x ∷ xs) none = go (cases_eq (group x.message.to) g) (to_alone group g xs (λ sign l k a ne. let z = none sign l k a ne in let r = rest_less sign l k a x xs in omega (arith, z, r)))
    where
      go : (group x.message.to ≡ g) ⊎ (group x.message.to ≡ g → ⊥) → To group g xs → To group g (x ∷ xs)
      go (inl e) rest = (e, rest)
      go (inr ne) rest =
          let y = item_of x in
          let j = x.message.to in
          let there : in_flight x.sign j (x ∷ xs) ≡ y ∷ in_flight x.sign j xs = rw (itself x.sign, eq-eqb j j refl) refl in
          let more : 0 < among s x.sign j (x ∷ xs) y.key y.action = subst (λ ys. 0 < times (machine s) ys y.key y.action) (sym there) (one_more y (in_flight x.sign j xs)) in
          let z = none x.sign j y.key y.action ne in
          absurd (omega (arith, more, z))

-- what is split by its receiver
module _ (s : System) (to : SplitGoesToOne) (not_to : RestGoesToOthers) where
  pub split_here : (sign : Sign) (i k : ℕ) (a : Named) (xs : List Signed) → among s sign i (filter (is_to i) xs) k a ≡ among s sign i xs k a
  split_here sign i k a xs =
      let all : in_flight sign i (filter (is_to i) xs) ≡ in_flight sign i xs = to sign i i xs ∙ rw (eq-eqb i i refl) refl in
      ap (λ l. times (machine s) l k a) all

  pub split_else : (sign : Sign) (i l k : ℕ) (a : Named) (xs : List Signed) → (l ≡ i → ⊥) → among s sign l (filter (is_to i) xs) k a ≡ 0
  split_else sign i l k a xs ne =
      let none : in_flight sign l (filter (is_to i) xs) ≡ [] = to sign l i xs ∙ rw (ne_eqb l i ne) refl in
      ap (λ ys. times (machine s) ys k a) none

  pub left_here : (sign : Sign) (i k : ℕ) (a : Named) (xs : List Signed) → among s sign i (filter (λ x. not (is_to i x)) xs) k a ≡ 0
  left_here sign i k a xs =
      let none : in_flight sign i (filter (λ x. not (is_to i x)) xs) ≡ [] = not_to sign i i xs ∙ rw (eq-eqb i i refl) refl in
      ap (λ ys. times (machine s) ys k a) none

  pub left_else : (sign : Sign) (i l k : ℕ) (a : Named) (xs : List Signed) → (l ≡ i → ⊥) → among s sign l (filter (λ x. not (is_to i x)) xs) k a ≡ among s sign l xs k a
  left_else sign i l k a xs ne =
      let all : in_flight sign l (filter (λ x. not (is_to i x)) xs) ≡ in_flight sign l xs = not_to sign l i xs ∙ rw (ne_eqb l i ne) refl in
      ap (λ ys. times (machine s) ys k a) all
