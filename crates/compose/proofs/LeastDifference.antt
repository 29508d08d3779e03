-- What the search finds is the first component with which types differ.
use Rattle.std.proofs.Common.{arith, ◌≡◌, ◌≤◌, ◌+◌, ◌⊎◌, inl, inr, ℕ, true, false, bytes_eq, List, [], ◌∷◌, ◌++◌, Option, None, Some, refl, sym, ◌∙◌, ap, ap₂, subst}
use Rattle.std.proofs.lemmas.Slice.Eq.{bytes_eq-Decides}
use Rattle.ioa_trees.specs.SourceRules.{MeantSource}
use Rattle.compose.specs.Types.{same_kinds, TypesDiffer, IsFirst}
use Rattle.compose.specs.TypedStandings.{Stood, stood_in, stands, first_different}
use Rattle.compose.proofs.ListItems.{In, in_left, in_right, in_either}
use Rattle.compose.proofs.SameKinds.{kinds_self}
use Rattle.compose.proofs.FirstDifferences.{AllAgree, one_type, first_in, IsFirstDifferent, IsFound, found}
use Rattle.compose.proofs.PlacedEntries.{placed, among, Rising, rising, rising_before, rising_after}

module _ (m : MeantSource) where
  -- two entries of one name among the components 0 to j, of other types
  of_two : (j : ℕ) (x y : Stood) → In x (stands m.automata 0 m.components) → In y (stands m.automata 0 m.components) → x.component ≤ j → y.component ≤ j → bytes_eq x.name y.name ≡ true → same_kinds x.kinds y.kinds ≡ false → TypesDiffer m j
  of_two j x y p q low other_low name kinds =
      let a = placed m.automata 0 m.components x p in
      let b = placed m.automata 0 m.components y q in
      let number = a.number in
      let other_number = b.number in
      record {
        i = a.component;
        k = b.component;
        within = omega (arith, number, low);
        other_within = omega (arith, other_number, other_low);
        a = a.automaton;
        b = b.automaton;
        automaton = a.is;
        other_automaton = b.is;
        place = a.place;
        other_place = b.place;
        e = a.entry;
        f = b.entry;
        entry = a.at;
        other_entry = b.at;
        one_name = ap₂ (λ (s t : Stood). bytes_eq s.name t.name) a.stands_so b.stands_so ∙ name;
        differ = ap₂ (λ (s t : Stood). same_kinds s.kinds t.kinds) a.stands_so b.stands_so ∙ kinds;
      }

  -- the two entries of such a pair
  pub record Two (j : ℕ) : Type 0 where
    pub x : Stood
    pub y : Stood
    pub is_x : In x (stands m.automata 0 m.components)
    pub is_y : In y (stands m.automata 0 m.components)
    pub low : x.component ≤ j
    pub other_low : y.component ≤ j
    pub one_name : bytes_eq x.name y.name ≡ true
    pub differ : same_kinds x.kinds y.kinds ≡ false

  two_of : (j : ℕ) → TypesDiffer m j → Two j
  two_of j d =
      let within = d.within in
      let other_within = d.other_within in
      record {
        x = stood_in (0 + d.i) d.a d.e;
        y = stood_in (0 + d.k) d.b d.f;
        is_x = among m.automata 0 m.components d.i d.a d.place d.e d.automaton d.entry;
        is_y = among m.automata 0 m.components d.k d.b d.other_place d.f d.other_automaton d.other_entry;
        low = omega (arith, within);
        other_low = omega (arith, other_within);
        one_name = d.one_name;
        differ = d.differ;
      }

  -- where all agree, no two differ
  no_two : (xs : List Stood) → AllAgree xs → (x y : Stood) → In x xs → In y xs → bytes_eq x.name y.name ≡ true → same_kinds x.kinds y.kinds ≡ false → ⊥
  no_two xs agree x y i j name differ =
      let same : x.kinds ≡ y.kinds = one_type xs agree x y i j name in
      let self : same_kinds x.kinds y.kinds ≡ true = ap (λ ks. same_kinds x.kinds ks) (sym same) ∙ kinds_self x.kinds in
      cc (self, differ)

  reached : (j : ℕ) → IsFirstDifferent [] (stands m.automata 0 m.components) j → TypesDiffer m j
  reached j f =
      let first = first_in f.last.name f.early f.first f.is_first in
      let in_all : (x : Stood) → In x (f.early ++ f.last ∷ f.after) → In x (stands m.automata 0 m.components) = λ x i. subst (λ xs. In x xs) (sym f.split) i in
      let below : f.first.component ≤ f.last.component = rising_before f.early f.last f.after (subst Rising f.split (rising m.automata 0 m.components)) f.first first.0 in
      let number = f.is in
      of_two j f.first f.last
      (in_all f.first (in_left f.first f.early (f.last ∷ f.after) first.0))
      (in_all f.last (in_right f.last f.early (f.last ∷ f.after) (inl refl)))
      (omega (arith, below, number))
      (omega (arith, number))
      (named f.first f.last first.1)
      f.differ
    where
      named : (x y : Stood) → bytes_eq y.name x.name ≡ true → bytes_eq x.name y.name ≡ true
      named x y h = (bytes_eq-Decides x.name y.name).1 (sym ((bytes_eq-Decides y.name x.name).0 h))

  least : (j : ℕ) → IsFirstDifferent [] (stands m.automata 0 m.components) j → (k : ℕ) → TypesDiffer m k → j ≤ k
  least j f k d = by (stands_early (two_of k d).x (two_of k d).is_x) (stands_early (two_of k d).y (two_of k d).is_y)
    where
      late : (x : Stood) → In x (f.last ∷ f.after) → j ≤ x.component
      late x (inl i) = let number = f.is in let same : f.last.component ≡ x.component = ap (λ (s : Stood). s.component) i in omega (arith, number, same)
      late x (inr i) = let number = f.is in let above = rising_after f.early f.last f.after (subst Rising f.split (rising m.automata 0 m.components)) x i in omega (arith, number, above)

      sorted : (x : Stood) → In x f.early ⊎ In x (f.last ∷ f.after) → In x f.early ⊎ (j ≤ x.component)
      sorted x (inl i) = inl i
      sorted x (inr i) = inr (late x i)

      stands_early : (x : Stood) → In x (stands m.automata 0 m.components) → In x f.early ⊎ (j ≤ x.component)
      stands_early x i = sorted x (in_either x f.early (f.last ∷ f.after) (subst (λ xs. In x xs) f.split i))

      by : In (two_of k d).x f.early ⊎ (j ≤ (two_of k d).x.component) → In (two_of k d).y f.early ⊎ (j ≤ (two_of k d).y.component) → j ≤ k
      by (inl i) (inl i') = absurd (no_two f.early f.agree (two_of k d).x (two_of k d).y i i' (two_of k d).one_name (two_of k d).differ)
      by (inr h) i = let low = (two_of k d).low in omega (arith, h, low)
      by (inl i) (inr h) = let low = (two_of k d).other_low in omega (arith, h, low)

  by_found : (o : Option ℕ) → IsFound [] (stands m.automata 0 m.components) o → IsFirst (TypesDiffer m) o
  by_found None h = λ j d. let t = two_of j d in no_two (stands m.automata 0 m.components) h t.x t.y t.is_x t.is_y t.one_name t.differ
  by_found (Some j) h = (reached j h, least j h)

  pub first_law : IsFirst (TypesDiffer m) (first_different [] (stands m.automata 0 m.components))
  first_law = by_found (first_different [] (stands m.automata 0 m.components)) (found [] (stands m.automata 0 m.components) (λ s i. absurd i))
