-- Messages to one component alone.
use Rattle.std.proofs.Common.{◌≡◌, ℕ, ◌<◌, ◌≤◌, ◌⊎◌, inl, inr, Bool, true, false, List, [], ◌∷◌, refl, sym, subst, ◌∙◌, arith}
use Rattle.std.specs.Prelude.{◌&&◌, if◌then◌else◌}
use Rattle.std.proofs.lemmas.Bool.{eq-eqb, ne_eqb, cases_eq}
use Rattle.terms.specs.Named.{Named}
use Rattle.event_keys.specs.declared.message.Sign.{Sign}
use Rattle.event_keys.specs.declared.message.Sign.TheVariants.{Plus, Minus}
use Rattle.event_keys.specs.declared.message.Signed.{Signed}
use Rattle.antimessage.specs.Counts.{Each}
use Rattle.antimessage.specs.Bags.{insert, insert_all}
use Rattle.virtual_time.specs.Bags.{hit, times}
use Rattle.virtual_time.specs.Entries.{Item}
use Rattle.virtual_time.specs.Machine.{Lawful}
use Rattle.rollback.specs.Flight.{in_flight, item_of, goes, is_sign}
use Rattle.task_seed.specs.Turning.{System}
use Rattle.task_seed.specs.Machines.{machine}
use Rattle.exchange.specs.Moving.{among}
use Rattle.std.specs.Ordering.{is_gt}
use Rattle.antimessage.specs.Counts.{signed_cmp}

abbrev pub To : ℕ → List Signed → Type 0
To i = Each (λ x. x.message.to ≡ i)

-- what is to component i has nothing for others
pub none_else : (sign : Sign) (i l : ℕ) (xs : List Signed) → (l ≡ i → ⊥) → To i xs → in_flight sign l xs ≡ []
none_else sign i l [] ne t = refl
none_else sign i l (x ∷ xs) ne t = rw (ne_eqb x.message.to l (λ e. ne (sym e ∙ t.0))) (off (is_sign sign x.sign) (none_else sign i l xs ne t.1))
  where
    off : (b : Bool) → in_flight sign l xs ≡ [] → (if b && false then item_of x ∷ in_flight sign l xs else in_flight sign l xs) ≡ []
    off true rest = rest
    off false rest = rest

itself : (sign : Sign) → is_sign sign sign ≡ true
itself Plus = refl
itself Minus = refl

module _ (s : System) (law : Lawful (machine s)) where
  one_more : (x : Item Named) (xs : List (Item Named)) → 0 < times (machine s) (x ∷ xs) x.key x.action
  unfolding hit
  one_more x xs = let a = law.same_refl x.action in rw (eq-eqb x.key x.key refl, a) (omega arith)

  rest_less : (sign : Sign) (l k : ℕ) (a : Named) (x : Signed) (xs : List Signed) → among s sign l xs k a ≤ among s sign l (x ∷ xs) k a
  rest_less sign l k a x xs = go (goes sign l x)
    where
      go : (b : Bool) → among s sign l xs k a ≤ times (machine s) (if b then item_of x ∷ in_flight sign l xs else in_flight sign l xs) k a
      go true = omega arith
      go false = omega arith

  -- what has nothing for others is to component i
  pub to_alone : (i : ℕ) (xs : List Signed) → ((sign : Sign) (l k : ℕ) (a : Named) → (l ≡ i → ⊥) → among s sign l xs k a ≡ 0) → To i xs
  to_alone i [] none = tt
  to_alone i (x ∷ xs) none = go (cases_eq x.message.to i) (to_alone i xs (λ sign l k a ne. let z = none sign l k a ne in let r = rest_less sign l k a x xs in omega (arith, z, r)))
    where
      go : (x.message.to ≡ i) ⊎ (x.message.to ≡ i → ⊥) → To i xs → To i (x ∷ xs)
      go (inl e) rest = (e, rest)
      go (inr ne) rest =
          let y = item_of x in
          let j = x.message.to in
          let there : in_flight x.sign j (x ∷ xs) ≡ y ∷ in_flight x.sign j xs = rw (itself x.sign, eq-eqb j j refl) refl in
          let more : 0 < among s x.sign j (x ∷ xs) y.key y.action = subst (λ ys. 0 < times (machine s) ys y.key y.action) (sym there) (one_more y (in_flight x.sign j xs)) in
          let z = none x.sign j y.key y.action ne in
          absurd (omega (arith, more, z))

to_inserted : (i : ℕ) (x : Signed) (xs : List Signed) → x.message.to ≡ i → To i xs → To i (insert x xs)
to_inserted i x [] e t = (e, tt)
to_inserted i x (y ∷ ys) e t = go (is_gt (signed_cmp y x)) (to_inserted i x ys e t.1)
  where
    go : (b : Bool) → To i (insert x ys) → To i (if b then x ∷ y ∷ ys else y ∷ insert x ys)
    go true rest = (e, t)
    go false rest = (t.0, rest)

-- all put together are to it too
pub to_all : (i : ℕ) (more xs : List Signed) → To i more → To i xs → To i (insert_all more xs)
to_all i [] xs m t = t
to_all i (x ∷ more) xs m t = to_all i more (insert x xs) m.1 (to_inserted i x xs m.0 t)
