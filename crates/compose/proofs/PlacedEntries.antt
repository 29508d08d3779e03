-- The entries of components, as those of the automata of a source.
use Rattle.std.proofs.Common.{arith, ◌≡◌, ◌≤◌, ◌+◌, ◌⊎◌, inl, inr, ℕ, zero, suc, List, [], ◌∷◌, ◌++◌, Option, None, Some, slice_get, refl, sym, ap, subst}
use Rattle.ioa_trees.specs.EntryRules.{Meant}
use Rattle.ioa_trees.specs.AutomatonRules.{MeantAutomaton}
use Rattle.ioa_trees.specs.SourceRules.{MeantComponent}
use Rattle.compose.specs.Types.{automaton_of, automaton_in}
use Rattle.compose.specs.TypedStandings.{Stood, stood_in, entries_in, stands}
use Rattle.compose.proofs.ListItems.{In, in_left, in_right, in_either, in_place, place_in, in_mapped, of_mapped}

-- an entry of an automaton of the list's components
pub record Placed (automata : List MeantAutomaton) (cs : List MeantComponent) (i : ℕ) (x : Stood) : Type 0 where
  pub component : ℕ
  pub number : x.component ≡ i + component
  pub automaton : MeantAutomaton
  pub is : automaton_in automata (slice_get cs component) ≡ Some automaton
  pub place : ℕ
  pub entry : Meant
  pub at : slice_get automaton.entries place ≡ Some entry
  pub stands_so : stood_in x.component automaton entry ≡ x

-- an entry of one automaton
pub record OfOne (o : Option MeantAutomaton) (i : ℕ) (x : Stood) : Type 0 where
  pub automaton : MeantAutomaton
  pub is : o ≡ Some automaton
  pub place : ℕ
  pub entry : Meant
  pub at : slice_get automaton.entries place ≡ Some entry
  pub stands_so : stood_in i automaton entry ≡ x

of_one : (o : Option MeantAutomaton) (i : ℕ) (x : Stood) → In x (entries_in i o) → OfOne o i x
of_one None i x h = absurd h
of_one (Some a) i x h =
    let m = of_mapped (stood_in i a) x a.entries h in
    let p = place_in a.entries m.0 m.1.0 in
    record { automaton = a; is = refl; place = p.0; entry = m.0; at = p.1; stands_so = m.1.1 }

pub placed : (automata : List MeantAutomaton) (i : ℕ) (cs : List MeantComponent) (x : Stood) → In x (stands automata i cs) → Placed automata cs i x
placed automata i [] x h = absurd h
placed automata i (c ∷ cs) x h = by (in_either x (entries_in i (automaton_of automata c.automaton)) (stands automata (suc i) cs) h) (λ k. placed automata (suc i) cs x k)
  where
    here : OfOne (automaton_of automata c.automaton) i x → Placed automata (c ∷ cs) i x
    here o =
        let number : i ≡ x.component = ap (λ (s : Stood). s.component) o.stands_so in
        record {
          component = 0;
          number = omega (arith, number);
          automaton = o.automaton;
          is = o.is;
          place = o.place;
          entry = o.entry;
          at = o.at;
          stands_so = subst (λ n. stood_in n o.automaton o.entry ≡ x) number o.stands_so;
        }

    later : Placed automata cs (suc i) x → Placed automata (c ∷ cs) i x
    later p =
        let number = p.number in
        record { component = suc p.component; number = omega (arith, number); automaton = p.automaton; is = p.is; place = p.place; entry = p.entry; at = p.at; stands_so = p.stands_so }

    by : In x (entries_in i (automaton_of automata c.automaton)) ⊎ In x (stands automata (suc i) cs) → (In x (stands automata (suc i) cs) → Placed automata cs (suc i) x) → Placed automata (c ∷ cs) i x
    by (inl k) f = here (of_one (automaton_of automata c.automaton) i x k)
    by (inr k) f = later (f k)

in_one : (i : ℕ) (o : Option MeantAutomaton) (a : MeantAutomaton) (place : ℕ) (e : Meant) → o ≡ Some a → slice_get a.entries place ≡ Some e → In (stood_in i a e) (entries_in i o)
in_one i o a place e is at = subst (λ (p : Option MeantAutomaton). In (stood_in i a e) (entries_in i p)) (sym is) (in_mapped (stood_in i a) e a.entries (in_place a.entries place e at))

pub among : (automata : List MeantAutomaton) (i : ℕ) (cs : List MeantComponent) (n : ℕ) (a : MeantAutomaton) (place : ℕ) (e : Meant) → automaton_in automata (slice_get cs n) ≡ Some a → slice_get a.entries place ≡ Some e
    → In (stood_in (i + n) a e) (stands automata i cs)
among automata i [] n a place e is at = cc
among automata i (c ∷ cs) zero a place e is at =
    let same : i ≡ i + 0 = omega arith in
    subst (λ m. In (stood_in m a e) (stands automata i (c ∷ cs))) same
    (in_left (stood_in i a e) (entries_in i (automaton_of automata c.automaton)) (stands automata (suc i) cs) (in_one i (automaton_of automata c.automaton) a place e is at))
among automata i (c ∷ cs) (suc n) a place e is at =
    let same : suc i + n ≡ i + suc n = omega arith in
    subst (λ m. In (stood_in m a e) (stands automata i (c ∷ cs))) same
    (in_right (stood_in (suc i + n) a e) (entries_in i (automaton_of automata c.automaton)) (stands automata (suc i) cs) (among automata (suc i) cs n a place e is at))

-- ---- the components rise

abbrev pub Rising : List Stood → Type 0
Rising [] = Unit {0}
Rising (x ∷ xs) = ((y : Stood) → In y xs → x.component ≤ y.component) × Rising xs

rising_on : (i : ℕ) (xs ys : List Stood) → ((x : Stood) → In x xs → i ≡ x.component) → ((y : Stood) → In y ys → i ≤ y.component) → Rising ys → Rising (xs ++ ys)
rising_on i [] ys f g h = h
rising_on i (x ∷ xs) ys f g h = ((λ y k. by y (in_either y xs ys k)), rising_on i xs ys (λ z k. f z (inr k)) g h)
  where
    own : i ≡ x.component
    own = f x (inl refl)

    by : (y : Stood) → In y xs ⊎ In y ys → x.component ≤ y.component
    by y (inl k) = let p = own in let q = f y (inr k) in omega (arith, p, q)
    by y (inr k) = let p = own in let q = g y k in omega (arith, p, q)

pub rising : (automata : List MeantAutomaton) (i : ℕ) (cs : List MeantComponent) → Rising (stands automata i cs)
rising automata i [] = tt
rising automata i (c ∷ cs) = rising_on i (entries_in i (automaton_of automata c.automaton)) (stands automata (suc i) cs) own higher (rising automata (suc i) cs)
  where
    own : (x : Stood) → In x (entries_in i (automaton_of automata c.automaton)) → i ≡ x.component
    own x k = ap (λ (s : Stood). s.component) (of_one (automaton_of automata c.automaton) i x k).stands_so

    higher : (y : Stood) → In y (stands automata (suc i) cs) → i ≤ y.component
    higher y k = let number = (placed automata (suc i) cs y k).number in omega (arith, number)

pub rising_before : (early : List Stood) (last : Stood) (after : List Stood) → Rising (early ++ last ∷ after) → (x : Stood) → In x early → x.component ≤ last.component
rising_before [] last after h x i = absurd i
rising_before (e ∷ early) last after h x (inl i) = subst (λ (z : Stood). z.component ≤ last.component) i (h.0 last (in_right last early (last ∷ after) (inl refl)))
rising_before (e ∷ early) last after h x (inr i) = rising_before early last after h.1 x i

pub rising_after : (early : List Stood) (last : Stood) (after : List Stood) → Rising (early ++ last ∷ after) → (y : Stood) → In y after → last.component ≤ y.component
rising_after [] last after h y i = h.0 y i
rising_after (e ∷ early) last after h y i = rising_after early last after h.1 y i
