-- What stands in an index stays there.
use Rattle.std.specs.Prelude.{◌≡◌, ℕ, zero, suc, ◌+◌, ◌<◌, Bool as Truth, true, false, ◌||◌, List, [], ◌∷◌, ◌++◌, map, length, take, drop, get_or, None, Some, Contains, All, refl, nat_eq, nat_lt, ◌≤◌, slice_get, slice_set, slice_index_or}
use Rattle.std.specs.List.{list_any}
use Rattle.std.specs.List.Sorted.{IsStrictlyIncreasing}
use Rattle.std.proofs.Common.{arith, ap, sym, subst, ◌∙◌}
use Rattle.std.proofs.lemmas.Bool.{ltb-true, ltb-false}
use Rattle.std.proofs.lemmas.Bool.Decides.{nat_tests}
use Rattle.std.proofs.lemmas.List.Elements.{All-map, All-more, All-nil, All-weaker, All-contains, All-contains_itself, Contains-append_left, Contains-append_right}
use Rattle.std.specs.declared.vec.Vec.{Vec}
use lib.Pointwise.{pointwise, pointwise_decides}
use Rattle.std.specs.Bool.{beq}
use Rattle.terms.specs.SameTreeLaws.{decides_by, number_is}
use Rattle.terms.specs.declared.scalar.Scalar.{Scalar}
use Rattle.io_automata.specs.declared.automaton.Entry.{Entry}
use Rattle.io_automata.specs.declared.automaton.Automaton.{Automaton}
use Rattle.io_automata.specs.declared.automaton.Component.{Component}
use Rattle.io_automata.specs.Automata.{Transition, Instance, absent, component_at, composed, instance_of, placed, transition_of}
use Rattle.patterns.specs.Patterns.{Kept, list_at, flags_of, mask_of, values_of, masked, place_of, IsListed, AreRising, Keeps, IsNoted, is_for, HasEntries, IsIndexed}

module _ {X A : Type 0} where
  -- one more list, with nothing in it
  room_made : (lists : List (Vec X A)) (list : Vec X A) → list.items ≡ [] → (n : ℕ) → list_at (lists ++ list ∷ []) n ≡ list_at lists n
  room_made [] list empty zero = empty
  room_made [] list empty (suc n) = refl
  room_made (first ∷ lists) list empty zero = refl
  room_made (first ∷ lists) list empty (suc n) = room_made lists list empty n

  -- after one list is set, each is that one or as it was
  pub after_set : (P : List X → Type 0) (lists : List (Vec X A)) (n : ℕ) (list : Vec X A) (k : ℕ) → n < length lists → (k ≡ n → P list.items) → P (list_at lists k) → P (list_at (slice_set lists n list) k)
  after_set P [] n list k below here there = absurd (omega (arith, below))
  after_set P (first ∷ lists) zero list zero below here there = here refl
  after_set P (first ∷ lists) zero list (suc k) below here there = there
  after_set P (first ∷ lists) (suc n) list zero below here there = there
  after_set P (first ∷ lists) (suc n) list (suc k) below here there = after_set P lists n list k (omega (arith, below)) (λ same. here (ap suc same)) there

  pub at_set : (lists : List (Vec X A)) (n : ℕ) (list : Vec X A) → n < length lists → list_at (slice_set lists n list) n ≡ list.items
  at_set [] n list below = absurd (omega (arith, below))
  at_set (first ∷ lists) zero list below = refl
  at_set (first ∷ lists) (suc n) list below = at_set lists n list (omega (arith, below))

  pub at_there : (lists : List (Vec X A)) (n : ℕ) (list : Vec X A) → n < length lists → list ≡ get_or lists n list → list_at lists n ≡ list.items
  at_there [] n list below is = absurd (omega (arith, below))
  at_there (first ∷ lists) zero list below is = ap (λ (l : Vec X A). l.items) (sym is)
  at_there (first ∷ lists) (suc n) list below is = at_there lists n list (omega (arith, below)) is

  -- what one more value is put into keeps what it has, and so do the others
  pub kept_more : (lists : List (Vec X A)) (n : ℕ) (old new : Vec X A) (k : ℕ) (value : X) → n < length lists → old ≡ get_or lists n old → ((v : X) → Contains old.items v → Contains new.items v) → Contains (list_at lists k) value → Contains (list_at (slice_set lists n new) k) value
  kept_more lists n old new k value below is kept has =
      after_set (λ xs. Contains xs value) lists n new k below
      (λ same. kept value (subst (λ xs. Contains xs value) (ap (list_at lists) same ∙ at_there lists n old below is) has)) has

module _ {X Y : Type 0} (f : X → Y) where
  place_in_map : (xs : List X) (x : X) (k : ℕ) → k < length xs → slice_index_or xs k x ≡ x → Contains (map f xs) (f x)
  place_in_map [] x k below is = absurd (omega (arith, below))
  place_in_map (y ∷ ys) x zero below is = (0, omega arith, ap f is)
  place_in_map (y ∷ ys) x (suc k) below is =
      let rest = place_in_map ys x k (omega (arith, below)) is in
      let within = rest.1 in
      (suc rest.0, omega (arith, within), rest.2)

  pub in_map : (xs : List X) (x : X) → Contains xs x → Contains (map f xs) (f x)
  in_map xs x has = place_in_map xs x has.0 has.1 has.2

  -- what keeps each item keeps each image
  pub through : (xs ys : List X) → ((x : X) → Contains xs x → Contains ys x) → (y : Y) → Contains (map f xs) y → Contains (map f ys) y
  through xs ys kept y has =
      All-contains (Contains (map f ys)) (map f xs) y
      (All-map (Contains (map f ys)) f xs
      (All-weaker (Contains xs) (λ x. Contains (map f ys) (f x)) (λ x h. in_map ys x (kept x h)) xs (All-contains_itself xs))) has

one_more : {X : Type 0} (x : X) (xs : List X) (y : X) → Contains xs y → Contains (x ∷ xs) y
one_more x xs y has = let within = has.1 in (suc has.0, omega (arith, within), has.2)

truth_is : (a b : Truth) → beq a b ≡ true → a ≡ b
truth_is true true h = refl
truth_is false false h = refl
truth_is true false h = cc
truth_is false true h = cc

truth_refl : (a : Truth) → beq a a ≡ true
truth_refl true = refl
truth_refl false = refl

-- a mask that is equal to one of the list is in it
pub mask_found : {A : Type 0} (mask : List Truth) (masks : List (Vec Truth A)) → list_any (λ other. pointwise beq other.items mask) masks ≡ true → Contains (map flags_of masks) mask
mask_found mask [] h = cc
mask_found mask (other ∷ others) h = go (λ g. mask_found mask others g) (pointwise beq other.items mask) refl h where
  go : (list_any (λ other. pointwise beq other.items mask) others ≡ true → Contains (map flags_of others) mask) → (b : Truth) → pointwise beq other.items mask ≡ b → (b || list_any (λ other. pointwise beq other.items mask) others) ≡ true → Contains (other.items ∷ map flags_of others) mask
  go rest true here g = (0, omega arith, (pointwise_decides (decides_by beq truth_is truth_refl) other.items mask).0 here)
  go rest false here g = one_more other.items (map flags_of others) mask (rest g)

pub keeps_same : (index : Kept) → Keeps index index
keeps_same index = record { masks = λ name mask has. has; numbers = λ name j values listed. listed }

pub keeps_both : (a b c : Kept) → Keeps a b → Keeps b c → Keeps a c
keeps_both a b c first then = record { masks = λ name mask has. then.masks name mask (first.masks name mask has); numbers = λ name j values listed. then.numbers name j values (first.numbers name j values listed) }

pub noted_still : (old new : Kept) (formals : List Scalar) (j : ℕ) (entry : Transition) → Keeps old new → IsNoted old formals j entry → IsNoted new formals j entry
noted_still old new formals j entry kept noted = record { mask = kept.masks entry.name (mask_of entry.params) noted.mask; number = kept.numbers entry.name j (values_of formals entry.params) noted.number }

pub found_there : {X : Type 0} (xs : List X) (n : ℕ) (x : X) → n < length xs → x ≡ get_or xs n x → slice_get xs n ≡ Some x
found_there [] n x below is = absurd (omega (arith, below))
found_there (y ∷ ys) zero x below is = ap Some (sym is)
found_there (y ∷ ys) (suc n) x below is = found_there ys n x (omega (arith, below)) is

pub none_there : {X : Type 0} (xs : List X) (n : ℕ) → length xs ≤ n → slice_get xs n ≡ None
none_there [] n past = refl
none_there (y ∷ ys) zero past = absurd (omega (arith, past))
none_there (y ∷ ys) (suc n) past = none_there ys n (omega (arith, past))

component_is : (automata : List Automaton) (components : List Component) (j : ℕ) (d : Component) → j < length components → instance_of automata (get_or components j d) ≡ component_at (composed automata components) j
component_is automata [] j d below = absurd (omega (arith, below))
component_is automata (component ∷ components) zero d below = refl
component_is automata (component ∷ components) (suc j) d below = component_is automata components j d (omega (arith, below))

none_beyond : (automata : List Automaton) (components : List Component) (j : ℕ) → length components ≤ j → component_at (composed automata components) j ≡ absent
none_beyond automata [] j past = refl
none_beyond automata (component ∷ components) zero past = absurd (omega (arith, past))
none_beyond automata (component ∷ components) (suc j) past = none_beyond automata components j (omega (arith, past))

module _ (every : Truth) where
  pub entries_still : (old new : Kept) (j : ℕ) (component : Instance) → Keeps old new → HasEntries every old j component → HasEntries every new j component
  entries_still old new j component kept has =
      All-weaker (λ entry. is_for every entry.kind ≡ true → IsNoted old component.formals j entry) (λ entry. is_for every entry.kind ≡ true → IsNoted new component.formals j entry)
      (λ entry noted wanted. noted_still old new component.formals j entry kept (noted wanted)) component.entries has

  abbrev pub Passed : Kept → List Scalar → ℕ → List Entry → Type 0
  Passed index formals j entries = All (λ entry. is_for every entry.kind ≡ true → IsNoted index formals j (transition_of entry)) entries

  -- one more entry is noted
  pub passed_more : (old new : Kept) (formals : List Scalar) (j : ℕ) (entries : List Entry) (i : ℕ) (d : Entry) → i < length entries → Keeps old new → Passed old formals j (take i entries) → (is_for every (get_or entries i d).kind ≡ true → IsNoted new formals j (transition_of (get_or entries i d))) → Passed new formals j (take (i + 1) entries)
  passed_more old new formals j entries i d below kept passed here =
      let P : Entry → Type 0 = λ entry. is_for every entry.kind ≡ true → IsNoted new formals j (transition_of entry) in
      All-more P entries i d below
      (All-weaker (λ entry. is_for every entry.kind ≡ true → IsNoted old formals j (transition_of entry)) P (λ entry noted wanted. noted_still old new formals j (transition_of entry) kept (noted wanted)) (take i entries) passed) here

  -- an automaton's entries, each of which is noted, are those of the component
  pub instance_noted : (index : Kept) (automata : List Automaton) (component : Component) (automaton : Automaton) (j : ℕ) → slice_get automata component.automaton ≡ Some automaton → Passed index component.formals.items j automaton.entries.items → HasEntries every index j (instance_of automata component)
  instance_noted index automata component automaton j there passed =
      subst (λ found. HasEntries every index j (placed component.formals.items found)) (sym there)
      (All-map (λ entry. is_for every entry.kind ≡ true → IsNoted index component.formals.items j entry) transition_of automaton.entries.items passed)

  pub none_noted : (index : Kept) (automata : List Automaton) (component : Component) (j : ℕ) → slice_get automata component.automaton ≡ None → HasEntries every index j (instance_of automata component)
  none_noted index automata component j none =
      subst (λ found. HasEntries every index j (placed component.formals.items found)) (sym none)
      (All-nil (λ entry. is_for every entry.kind ≡ true → IsNoted index component.formals.items j entry))

  -- one more component is noted
  pub indexed_more : (old new : Kept) (automata : List Automaton) (components : List Component) (j : ℕ) (d : Component) → j < length components → Keeps old new → ((i : ℕ) → i < j → HasEntries every old i (component_at (composed automata components) i)) → HasEntries every new j (instance_of automata (get_or components j d)) → (i : ℕ) → i < j + 1 → HasEntries every new i (component_at (composed automata components) i)
  indexed_more old new automata components j d below kept before here i within = go (nat_eq i j) refl where
    go : (b : Truth) → nat_eq i j ≡ b → HasEntries every new i (component_at (composed automata components) i)
    go true same = subst (λ (k : ℕ). HasEntries every new k (component_at (composed automata components) k)) (sym (number_is i j same)) (subst (HasEntries every new j) (component_is automata components j d below) here)
    go false other = let less : i < j = grind (arith, nat_tests) in entries_still old new i (component_at (composed automata components) i) kept (before i less)

  pub all_indexed : (index : Kept) (automata : List Automaton) (components : List Component) (n : ℕ) → AreRising index.numbers → length components ≤ n → ((i : ℕ) → i < n → HasEntries every index i (component_at (composed automata components) i)) → IsIndexed every index (composed automata components)
  all_indexed index automata components n rising long before = record { rising = rising; entries = λ j. go j (nat_lt j n) refl } where
    go : (j : ℕ) (b : Truth) → nat_lt j n ≡ b → HasEntries every index j (component_at (composed automata components) j)
    go j true within = before j (ltb-true j n within)
    go j false past =
        let beyond : n ≤ j = ltb-false j n past in
        subst (HasEntries every index j) (sym (none_beyond automata components j (omega (arith, long, beyond))))
        (All-nil (λ entry. is_for every entry.kind ≡ true → IsNoted index [] j entry))

module _ {A : Type 0} (numbers : List (Vec ℕ A)) (name : ℕ) (args : List Scalar) where
  -- all that stands at the place of an action's pattern by this mask is found
  abbrev pub Gathers : List ℕ → List Truth → Type 0
  Gathers found mask = (j : ℕ) → IsListed numbers name (masked mask args) j → Contains found j

  pub gathered_more : {B : Type 0} (masks : List (Vec Truth B)) (i : ℕ) (mask : Vec Truth B) (old new more : List ℕ) → i < length masks → get_or masks i mask ≡ mask → more ≡ list_at numbers (place_of name (masked mask.items args) (length numbers)) → new ≡ old ++ more → All (λ mask. Gathers old mask.items) (take i masks) → All (λ mask. Gathers new mask.items) (take (i + 1) masks)
  gathered_more masks i mask old new more below at is_more is_new before =
      All-more (λ mask. Gathers new mask.items) masks i mask below
      (All-weaker (λ mask. Gathers old mask.items) (λ mask. Gathers new mask.items) (λ mask gathers j listed. subst (λ xs. Contains xs j) (sym is_new) (Contains-append_left old more j (gathers j listed))) (take i masks) before)
      (subst (λ (m : Vec Truth _). Gathers new m.items) (sym at)
      (λ j listed. subst (λ xs. Contains xs j) (sym (is_new ∙ ap (λ xs. old ++ xs) is_more)) (Contains-append_right old (list_at numbers (place_of name (masked mask.items args) (length numbers))) j listed)))

  pub gathered_all : {B : Type 0} (masks : List (Vec Truth B)) (found : List ℕ) → All (λ mask. Gathers found mask.items) masks → (mask : List Truth) → Contains (map flags_of masks) mask → Gathers found mask
  gathered_all masks found all mask has = All-contains (Gathers found) (map flags_of masks) mask (All-map (Gathers found) flags_of masks all) has

-- lists that rise still do with an empty one at their end
pub rising_room : {A : Type 0} (lists : List (Vec ℕ A)) (list : Vec ℕ A) → list.items ≡ [] → AreRising lists → AreRising (lists ++ list ∷ [])
rising_room lists list empty rising n = subst IsStrictlyIncreasing (sym (room_made lists list empty n)) (rising n)

masked_none : (mask : List Truth) → masked mask [] ≡ []
masked_none [] = refl
masked_none (flag ∷ mask) = refl

none_left : (args : List Scalar) (k : ℕ) → length args ≤ k → drop k args ≡ []
none_left [] zero past = refl
none_left [] (suc k) past = refl
none_left (value ∷ args) zero past = absurd (omega (arith, past))
none_left (value ∷ args) (suc k) past = none_left args k (omega (arith, past))

-- past the last argument a mask shows nothing
pub past_arguments : (mask : List Truth) (args : List Scalar) (k : ℕ) → length args ≤ k → masked mask (drop k args) ≡ []
past_arguments mask args k past = ap (masked mask) (none_left args k past) ∙ masked_none mask
