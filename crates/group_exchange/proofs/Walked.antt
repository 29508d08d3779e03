-- Going through the components of a group, one after the other.
use Rattle.std.proofs.Common.{◌≡◌, ℕ, suc, ◌+◌, ◌<◌, ◌≤◌, ◌==◌, ◌||◌, Bool, true, false, cond, not, Option, Some, List, [], ◌∷◌, length, drop, refl, ap, sym, subst, ◌∙◌, arith}
use Rattle.std.specs.Prelude.{filter, slice_get, slice_index_or}
use Rattle.std.proofs.Math.Seq.{drop-cons}
use Rattle.std.proofs.Math.ListN.{drop_of_length-le}
use Rattle.std.proofs.lemmas.Option.{slice_get-get_or}
use Rattle.terms.specs.Named.{Named}
use Rattle.event_keys.specs.declared.message.Sign.TheVariants.{Plus}
use Rattle.event_keys.specs.declared.message.Signed.{Signed}
use Rattle.antimessage.specs.Bags.{insert_all, is_to}
use Rattle.virtual_time.specs.Bags.{times}
use Rattle.virtual_time.specs.Entries.{Item}
use Rattle.task_seed.specs.declared.setup.Setup.{Setup}
use Rattle.task_seed.specs.declared.turns.Turn.{Turn}
use Rattle.task_seed.specs.Machines.{machine}
use Rattle.task_seed.specs.Turning.{System}
use Rattle.rollback.specs.ComponentView.{ComponentView, machine_of}
use Rattle.rollback.specs.Flight.{in_flight}
use Rattle.rollback.specs.Laws.{AppendedIsAdded, RestGoesToOthers, SplitGoesToOne}
use Rattle.rollback.specs.Matched.{IsStanding, IsTaken}
use Rattle.groups.specs.GroupView.{is_member}
use Rattle.groups.proofs.Placed.{member_there}
use Rattle.group_exchange.specs.Compared.{AllIn, AreInside, AreMatched}
use Rattle.group_exchange.specs.ExchangeView.{group_at}
use Rattle.group_exchange.specs.Moving.{among}
use Rattle.group_exchange.proofs.Balanced.{matched_at}

item_at : {X : Type 0} (xs : List X) (n : ℕ) (x : X) → x ≡ slice_index_or xs n x → n < length xs → drop n xs ≡ x ∷ drop (n + 1) xs
item_at xs n x is low = let next : suc n ≡ n + 1 = omega arith in drop-cons xs n x low ∙ ap (λ y. y ∷ drop (suc n) xs) (sym is) ∙ ap (λ k. x ∷ drop k xs) next

got_at : {X : Type 0} (xs : List X) (n : ℕ) (x : X) → x ≡ slice_index_or xs n x → n < length xs → slice_get xs n ≡ Some x
got_at xs n x is low = slice_get-get_or xs n x low ∙ ap (λ y. Some y) (sym is)

pub false_true : ◌≡◌ {A = Bool} false true → ⊥
false_true e = cc

module _ {P : Type 0} (groups : List ℕ) (number : ℕ) (cs : List (ComponentView P)) where
  pub not_all_in : (n : ℕ) (c : ComponentView P) → c ≡ slice_index_or cs n c → n < length cs → (group_at groups c.number ≡ number → ⊥) → AllIn groups number cs → ⊥
  not_all_in n c is low other all = other (all c.number (member_there cs n c (got_at cs n c is low)))

module _ {T : Type 0} (turn_of : T → ℕ → ℕ → Option Turn) (cs : List (ComponentView (Setup T))) where
  module _ (taken standing tray out : List Signed) where
    abbrev Are : List (ComponentView (Setup T)) → Type 0
    Are ds = AreMatched turn_of ds taken standing tray out

    pub matched_more : (n : ℕ) (c : ComponentView (Setup T)) → c ≡ slice_index_or cs n c → n < length cs → IsTaken (machine_of turn_of c.setup) c.number c.history taken tray → IsStanding (machine_of turn_of c.setup) c.number c.history standing out
        → (Are (drop n cs) → Are cs) → Are (drop (n + 1) cs) → Are cs
    matched_more n c is low has_taken has_standing h rest = h (subst Are (sym (item_at cs n c is low)) (has_taken, has_standing, rest))

    pub matched_one : (n : ℕ) (c : ComponentView (Setup T)) → c ≡ slice_index_or cs n c → n < length cs → Are cs
        → IsTaken (machine_of turn_of c.setup) c.number c.history taken tray × IsStanding (machine_of turn_of c.setup) c.number c.history standing out
    matched_one n c is low all = matched_at turn_of taken standing tray out cs all n c (got_at cs n c is low)

module _ {P : Type 0} (cs : List (ComponentView P)) (all : List Signed) where
  -- these are inside, and of the rest those to other components come yet
  abbrev pub AreInsideYet : ℕ → List Signed → List Signed → Type 0
  AreInsideYet n inside rest = (s : System) (j k : ℕ) (a : Named) → among s Plus j inside k a + cond (is_member (drop n cs) j) (among s Plus j rest k a) 0 ≡ cond (is_member cs j) (among s Plus j all k a) 0

  one_step : (b r : Bool) (i c n x : ℕ) → n ≡ c + i → c ≡ cond b x 0 → n + cond r (cond b 0 x) 0 ≡ i + cond (b || r) x 0
  one_step true true i c n x e f = omega (arith, e, f)
  one_step true false i c n x e f = omega (arith, e, f)
  one_step false true i c n x e f = omega (arith, e, f)
  one_step false false i c n x e f = omega (arith, e, f)

  pub inside_more : AppendedIsAdded → SplitGoesToOne → RestGoesToOthers → (n : ℕ) (c : ComponentView P) → c ≡ slice_index_or cs n c → n < length cs → (inside rest came left more : List Signed)
      → came ≡ filter (is_to c.number) rest → left ≡ filter (λ s. not (is_to c.number s)) rest → more ≡ insert_all came inside
      → AreInsideYet n inside rest → AreInsideYet (n + 1) more left
  inside_more appended split others n c is low inside rest came left more e f g h s j k a =
      let counted : among s Plus j more k a ≡ among s Plus j came k a + among s Plus j inside k a = ap (λ xs. among s Plus j xs k a) g ∙ appended s Plus j k a came inside in
      let one : among s Plus j came k a ≡ cond (j == c.number) (among s Plus j rest k a) 0
      = ap (λ xs. among s Plus j xs k a) e ∙ ap (λ xs. times (machine s) xs k a) (split Plus j c.number rest) ∙ picked (j == c.number) (in_flight Plus j rest) in
      let out : among s Plus j left k a ≡ cond (j == c.number) 0 (among s Plus j rest k a)
      = ap (λ xs. among s Plus j xs k a) f ∙ ap (λ xs. times (machine s) xs k a) (others Plus j c.number rest) ∙ dropped (j == c.number) (in_flight Plus j rest) in
      ap (λ x. among s Plus j more k a + cond (is_member (drop (n + 1) cs) j) x 0) out
      ∙ one_step (j == c.number) (is_member (drop (n + 1) cs) j) (among s Plus j inside k a) (among s Plus j came k a) (among s Plus j more k a) (among s Plus j rest k a) counted one
      ∙ ap (λ ds. among s Plus j inside k a + cond (is_member ds j) (among s Plus j rest k a) 0) (sym (item_at cs n c is low))
      ∙ h s j k a
    where
      picked : (b : Bool) (xs : List (Item Named)) → times (machine s) (cond b xs []) k a ≡ cond b (times (machine s) xs k a) 0
      picked true xs = refl
      picked false xs = refl

      dropped : (b : Bool) (xs : List (Item Named)) → times (machine s) (cond b [] xs) k a ≡ cond b 0 (times (machine s) xs k a)
      dropped true xs = refl
      dropped false xs = refl

  pub inside_end : (n : ℕ) → length cs ≤ n → (inside rest : List Signed) → AreInsideYet n inside rest → AreInside cs all inside
  inside_end n past inside rest h s j k a =
      let none : cond (is_member (drop n cs) j) (among s Plus j rest k a) 0 ≡ 0 = ap (λ ds. cond (is_member ds j) (among s Plus j rest k a) 0) (drop_of_length-le cs past) in
      let whole = h s j k a in
      omega (arith, none, whole)
