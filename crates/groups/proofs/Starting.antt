-- The components of a group at the start.
use Rattle.std.proofs.Common.{◌≡◌, ℕ, zero, suc, ◌+◌, ◌<◌, ◌≤◌, ◌==◌, ◌&&◌, ◌||◌, ◌⊎◌, inl, inr, Bool, true, false, cond, Option, None, Some, List, [], ◌∷◌, ◌++◌, length, refl, ap, sym, subst, ◌∙◌, arith}
use Rattle.std.specs.Prelude.{min, nat_lt, slice_get, slice_index_or}
use Rattle.std.proofs.lemmas.Bool.{cases_eq, cases_lt, eq-eqb, ne_eqb, lt-ltb, le-ltb}
use Rattle.std.proofs.lemmas.Option.{slice_get_past, slice_get_within}
use Rattle.std.proofs.lemmas.List.FromFn.{filter_of_map_range_with_len_more}
use Rattle.terms.specs.Datum.{Datum}
use Rattle.terms.specs.Named.{Named}
use Rattle.event_keys.specs.declared.message.Sign.TheVariants.{Plus, Minus}
use Rattle.event_keys.specs.Ranks.{rank_of_bound}
use Rattle.rollback.specs.Flight.{in_flight}
use Rattle.virtual_time.specs.Machine.{Lawful, Machine}
use Rattle.virtual_time.specs.Groups.Leases.{start_lease}
use Rattle.virtual_time.specs.Groups.Stubs.{first_key}
use Rattle.task_seed.specs.declared.setup.Setup.{Setup}
use Rattle.task_seed.specs.declared.turns.Turn.{Turn}
use Rattle.rollback.specs.ComponentView.{ComponentView, lowest_bound, machine_of, start_held, start_record}
use Rattle.groups.specs.Crew.{AreOf, ArePlaced, place_in}
use Rattle.groups.specs.GroupView.{AreMembers, GroupView, group_in, history_of, is_member, key_of_next, lease_of, least_next, part_with, start_components}

-- one more at the end of a list
pub at_end : {X : Type 0} (xs : List X) (x : X) (p : ℕ) (c : X) → slice_get (xs ++ x ∷ []) p ≡ Some c → (slice_get xs p ≡ Some c) ⊎ ((p ≡ length xs) × (c ≡ x))
at_end [] x zero c e = let same : x ≡ c = cc in inr (refl, sym same)
at_end [] x (suc p) c e = cc
at_end (y ∷ ys) x zero c e = inl e
at_end (y ∷ ys) x (suc p) c e = go (at_end ys x p c e)
  where
    go : (slice_get ys p ≡ Some c) ⊎ ((p ≡ length ys) × (c ≡ x)) → (slice_get ys p ≡ Some c) ⊎ ((suc p ≡ suc (length ys)) × (c ≡ x))
    go (inl h) = inl h
    go (inr h) = inr (ap suc h.0, h.1)

pub still_there : {X : Type 0} (xs ys : List X) (p : ℕ) (c : X) → slice_get xs p ≡ Some c → slice_get (xs ++ ys) p ≡ Some c
still_there [] ys p c e = cc
still_there (x ∷ xs) ys zero c e = e
still_there (x ∷ xs) ys (suc p) c e = still_there xs ys p c e

none_more : {X : Type 0} (xs : List X) → xs ++ [] ≡ xs
none_more [] = refl
none_more (x ∷ xs) = ap (λ ys. x ∷ ys) (none_more xs)

length_more : {X : Type 0} (xs : List X) (x : X) → length (xs ++ x ∷ []) ≡ length xs + 1
length_more [] x = refl
length_more (y ∷ ys) x = let rest = length_more ys x in omega (arith, rest)

place_here : (xs : List ℕ) (v : ℕ) → place_in (xs ++ v ∷ []) (length xs) ≡ v
place_here [] v = refl
place_here (x ∷ xs) v = place_here xs v

place_else : (xs : List ℕ) (v j : ℕ) → (j ≡ length xs → ⊥) → place_in (xs ++ v ∷ []) j ≡ place_in xs j
place_else [] v zero ne = absurd (ne refl)
place_else [] v (suc j) ne = refl
place_else (x ∷ xs) v zero ne = refl
place_else (x ∷ xs) v (suc j) ne = place_else xs v j (λ e. ne (ap suc e))

-- the places of the components before this one are noted
pub record ArePlacedTo {P : Type 0} (i : ℕ) (cs : List (ComponentView P)) (places : List ℕ) : Type 0 where
  pub many : length places ≡ i
  pub few : length cs ≤ i
  pub low : (q : ℕ) (c : ComponentView P) → slice_get cs q ≡ Some c → c.number < i
  pub noted : (j : ℕ) → (place_in places j ≡ 65535) ⊎ (place_in places j < length cs)
  pub placed : ArePlaced cs places

pub none_placed : {P : Type 0} → ArePlacedTo {P = P} 0 [] []
none_placed = record {
  many = refl;
  few = omega arith;
  low = λ q c e. cc;
  noted = λ j. inl refl;
  placed = record { placed = λ p c e. cc; named = λ j c e. cc };
}

module _ {P : Type 0} (i : ℕ) (cs : List (ComponentView P)) (places : List ℕ) (is : ArePlacedTo i cs places) (small : i < 65535) where
  nowhere : slice_get cs 65535 ≡ None
  nowhere = let few = is.few in slice_get_past cs 65535 (omega (arith, few, small))

  -- one that is no member
  pub placed_none : ArePlacedTo (i + 1) cs (places ++ 65535 ∷ [])
  placed_none =
      let many = is.many in
      let few = is.few in
      record {
        many = let more = length_more places 65535 in omega (arith, more, many);
        few = omega (arith, few);
        low = λ q c e. let l = is.low q c e in omega (arith, l);
        noted = λ j. noted j (cases_eq j (length places));
        placed = record { placed = λ p c e. let l = is.low p c e in place_else places 65535 c.number (λ k. absurd (omega (arith, l, k, many))) ∙ is.placed.placed p c e; named = λ j c e. named j c e (cases_eq j (length places)) };
      }
    where
      noted : (j : ℕ) → (j ≡ length places) ⊎ (j ≡ length places → ⊥) → (place_in (places ++ 65535 ∷ []) j ≡ 65535) ⊎ (place_in (places ++ 65535 ∷ []) j < length cs)
      noted j (inl e) = inl (ap (place_in (places ++ 65535 ∷ [])) e ∙ place_here places 65535)
      noted j (inr ne) = subst (λ p. (p ≡ 65535) ⊎ (p < length cs)) (sym (place_else places 65535 j ne)) (is.noted j)

      named : (j : ℕ) (c : ComponentView P) → slice_get cs (place_in (places ++ 65535 ∷ []) j) ≡ Some c → (j ≡ length places) ⊎ (j ≡ length places → ⊥) → c.number ≡ j
      named j c e (inl k) =
          let out : None ≡ Some c = sym nowhere ∙ ap (slice_get cs) (sym (ap (place_in (places ++ 65535 ∷ [])) k ∙ place_here places 65535)) ∙ e in
          cc
      named j c e (inr ne) = is.placed.named j c (ap (slice_get cs) (sym (place_else places 65535 j ne)) ∙ e)

  -- one that is a member
  module _ (x : ComponentView P) (number : x.number ≡ i) where
    abbrev more : List (ComponentView P)
    more = cs ++ x ∷ []

    abbrev noted_in : List ℕ
    noted_in = places ++ length cs ∷ []

    pub placed_one : ArePlacedTo (i + 1) more noted_in
    placed_one =
        let many = is.many in
        let few = is.few in
        let longer = length_more cs x in
        record {
          many = let l = length_more places (length cs) in omega (arith, l, many);
          few = omega (arith, few, longer);
          low = λ q c e. low q c (at_end cs x q c e);
          noted = λ j. noted j (cases_eq j (length places));
          placed = record { placed = λ p c e. placed p c (at_end cs x p c e); named = λ j c e. named j c e (cases_eq j (length places)) };
        }
      where
        low : (q : ℕ) (c : ComponentView P) → (slice_get cs q ≡ Some c) ⊎ ((q ≡ length cs) × (c ≡ x)) → c.number < i + 1
        low q c (inl e) = let l = is.low q c e in omega (arith, l)
        low q c (inr e) = let same : c.number ≡ x.number = ap (λ (y : ComponentView P). y.number) e.1 in omega (arith, same, number)

        noted : (j : ℕ) → (j ≡ length places) ⊎ (j ≡ length places → ⊥) → (place_in noted_in j ≡ 65535) ⊎ (place_in noted_in j < length more)
        noted j (inl e) = let here : place_in noted_in j ≡ length cs = ap (place_in noted_in) e ∙ place_here places (length cs) in let longer = length_more cs x in inr (omega (arith, here, longer))
        noted j (inr ne) = old (is.noted j)
          where
            old : (place_in places j ≡ 65535) ⊎ (place_in places j < length cs) → (place_in noted_in j ≡ 65535) ⊎ (place_in noted_in j < length more)
            old (inl e) = inl (place_else places (length cs) j ne ∙ e)
            old (inr l) = let same = place_else places (length cs) j ne in let longer = length_more cs x in inr (omega (arith, l, same, longer))

        placed : (p : ℕ) (c : ComponentView P) → (slice_get cs p ≡ Some c) ⊎ ((p ≡ length cs) × (c ≡ x)) → place_in noted_in c.number ≡ p
        placed p c (inl e) = let l = is.low p c e in let many = is.many in place_else places (length cs) c.number (λ k. absurd (omega (arith, l, k, many))) ∙ is.placed.placed p c e
        placed p c (inr e) = ap (place_in noted_in) (ap (λ (y : ComponentView P). y.number) e.1 ∙ number ∙ sym is.many) ∙ place_here places (length cs) ∙ sym e.0

        named : (j : ℕ) (c : ComponentView P) → slice_get more (place_in noted_in j) ≡ Some c → (j ≡ length places) ⊎ (j ≡ length places → ⊥) → c.number ≡ j
        named j c e (inl k) = go (at_end cs x (place_in noted_in j) c e)
          where
            here : place_in noted_in j ≡ length cs
            here = ap (place_in noted_in) k ∙ place_here places (length cs)

            go : (slice_get cs (place_in noted_in j) ≡ Some c) ⊎ ((place_in noted_in j ≡ length cs) × (c ≡ x)) → c.number ≡ j
            go (inl f) = let within = slice_get_within cs (place_in noted_in j) c f in absurd (omega (arith, within, here))
            go (inr f) = ap (λ (y : ComponentView P). y.number) f.1 ∙ number ∙ sym is.many ∙ sym k
        named j c e (inr ne) = go (at_end cs x (place_in noted_in j) c e) (is.noted j)
          where
            same : place_in noted_in j ≡ place_in places j
            same = place_else places (length cs) j ne

            go : (slice_get cs (place_in noted_in j) ≡ Some c) ⊎ ((place_in noted_in j ≡ length cs) × (c ≡ x)) → (place_in places j ≡ 65535) ⊎ (place_in places j < length cs) → c.number ≡ j
            go (inl f) o = is.placed.named j c (ap (slice_get cs) (sym same) ∙ f)
            go (inr f) (inl o) = let l = f.0 in let few = is.few in absurd (omega (arith, l, o, same, few, small))
            go (inr f) (inr o) = let l = f.0 in absurd (omega (arith, l, o, same))

-- one more component, a member or none
pub placed_more : {P : Type 0} (i : ℕ) (cs : List (ComponentView P)) (places : List ℕ) (xs : List (ComponentView P)) (new : List ℕ) (x : ComponentView P) (b : Bool) → ArePlacedTo i cs places → i < 65535 → x.number ≡ i → xs ≡ cs ++ cond b (x ∷ []) [] → new ≡ places ++ cond b (length cs) 65535 ∷ []
    → ArePlacedTo (i + 1) xs new
placed_more i cs places xs new x true is small number e f = subst (λ ys. ArePlacedTo (i + 1) ys new) (sym e) (subst (ArePlacedTo (i + 1) (cs ++ x ∷ [])) (sym f) (placed_one i cs places is small x number))
placed_more i cs places xs new x false is small number e f = subst (λ ys. ArePlacedTo (i + 1) ys new) (sym (e ∙ none_more cs)) (subst (ArePlacedTo (i + 1) cs) (sym f) (placed_none i cs places is small))

pub group_here : (count : ℕ) (groups : List ℕ) (i number : ℕ) → i < count → (slice_index_or groups i 65536 == number) ≡ (group_in count groups i == number)
group_here count groups i number within = rw (lt-ltb i count within) refl

module _ {T : Type 0} (turn_of : T → ℕ → ℕ → Option Turn) (setup : Setup T) (group : ℕ → ℕ) (number : ℕ) where
  abbrev m : Machine (List Datum) Named
  m = machine_of turn_of setup

  -- those among the first n
  abbrev pub to : ℕ → List (ComponentView (Setup T))
  to n = start_components turn_of setup group n number

  pub to_more : (n : ℕ) → to (n + 1) ≡ to n ++ cond (group n == number) (start_held turn_of setup n ∷ []) []
  to_more n = filter_of_map_range_with_len_more (λ (c : ComponentView (Setup T)). group c.number == number) (start_held turn_of setup) 0 n n (omega arith)

  to_next : (n : ℕ) → to (suc n) ≡ to n ++ cond (group n == number) (start_held turn_of setup n ∷ []) []
  to_next n = let one : suc n ≡ n + 1 = omega arith in ap to one ∙ to_more n

  -- each is at its start
  pub each_start : (n q : ℕ) (c : ComponentView (Setup T)) → slice_get (to n) q ≡ Some c → c ≡ start_held turn_of setup c.number
  each_start zero q c e = cc
  each_start (suc n) q c e = go (λ h. each_start n q c h) (group n == number) (subst (λ xs. slice_get xs q ≡ Some c) (to_next n) e)
    where
      go : (slice_get (to n) q ≡ Some c → c ≡ start_held turn_of setup c.number) → (b : Bool) → slice_get (to n ++ cond b (start_held turn_of setup n ∷ []) []) q ≡ Some c → c ≡ start_held turn_of setup c.number
      go rest true h = one (at_end (to n) (start_held turn_of setup n) q c h)
        where
          one : (slice_get (to n) q ≡ Some c) ⊎ ((q ≡ length (to n)) × (c ≡ start_held turn_of setup n)) → c ≡ start_held turn_of setup c.number
          one (inl k) = rest k
          one (inr k) = k.1 ∙ ap (start_held turn_of setup) (sym (ap (λ (x : ComponentView _). x.number) k.1))
      go rest false h = rest (subst (λ xs. slice_get xs q ≡ Some c) (none_more (to n)) h)

  pub own_start : (cs : List (ComponentView (Setup T))) → ((q : ℕ) (c : ComponentView (Setup T)) → slice_get cs q ≡ Some c → c ≡ start_held turn_of setup c.number) → AreOf setup lowest_bound cs
  own_start [] each = tt
  own_start (c ∷ cs) each = let h = each 0 c refl in (ap (λ (x : ComponentView _). x.setup) h, ap (λ (x : ComponentView _). x.base) h, own_start cs (λ q d e. each (suc q) d e))

  pub history_start : (cs : List (ComponentView (Setup T))) → ((q : ℕ) (c : ComponentView (Setup T)) → slice_get cs q ≡ Some c → c ≡ start_held turn_of setup c.number) → (j : ℕ) → history_of m cs j ≡ start_record m j
  history_start [] each j = refl
  history_start (c ∷ cs) each j = go (history_start cs (λ q d e. each (suc q) d e) j) (cases_eq j c.number)
    where
      go : history_of m cs j ≡ start_record m j → (j ≡ c.number) ⊎ (j ≡ c.number → ⊥) → history_of m (c ∷ cs) j ≡ start_record m j
      go rest (inl e) = rw (eq-eqb j c.number e) (ap (λ (x : ComponentView _). x.history) (each 0 c refl) ∙ ap (start_record m) (sym e))
      go rest (inr ne) = rw (ne_eqb j c.number ne) rest

  -- who is among them
  member_more : (cs : List (ComponentView (Setup T))) (b : Bool) (c : ComponentView (Setup T)) (j : ℕ) → is_member (cs ++ cond b (c ∷ []) []) j ≡ (is_member cs j || (b && (j == c.number)))
  member_more [] true c j = go (j == c.number)
    where
      go : (b : Bool) → (b || false) ≡ (false || (true && b))
      go true = refl
      go false = refl
  member_more [] false c j = refl
  member_more (d ∷ ds) b c j = go (j == d.number) (member_more ds b c j)
    where
      go : (x : Bool) → is_member (ds ++ cond b (c ∷ []) []) j ≡ (is_member ds j || (b && (j == c.number))) → (x || is_member (ds ++ cond b (c ∷ []) []) j) ≡ ((x || is_member ds j) || (b && (j == c.number)))
      go true e = refl
      go false e = e

  members_to : (n j : ℕ) → is_member (to n) j ≡ (nat_lt j n && (group j == number))
  members_to zero j = rw (le-ltb j 0 (omega arith)) refl
  members_to (suc n) j = ap (λ xs. is_member xs j) (to_next n) ∙ member_more (to n) (group n == number) (start_held turn_of setup n) j ∙ go (members_to n j) (cases_eq j n) (cases_lt j n)
    where
      go : is_member (to n) j ≡ (nat_lt j n && (group j == number)) → (j ≡ n) ⊎ (j ≡ n → ⊥) → (j < n) ⊎ (n ≤ j) → (is_member (to n) j || ((group n == number) && (j == n))) ≡ (nat_lt j (suc n) && (group j == number))
      go rest (inl e) o = rw (rest, le-ltb j n (omega (arith, e)), lt-ltb j (suc n) (omega (arith, e)), eq-eqb j n e) (one (group n == number) (group j == number) (ap (λ k. group k == number) (sym e)))
        where
          one : (a b : Bool) → a ≡ b → (false || (a && true)) ≡ (true && b)
          one true b h = h
          one false b h = h
      go rest (inr ne) (inl l) = rw (rest, lt-ltb j n l, lt-ltb j (suc n) (omega (arith, l)), ne_eqb j n ne) (one (group j == number) (group n == number))
        where
          one : (a b : Bool) → ((true && a) || (b && false)) ≡ (true && a)
          one true b = refl
          one false true = refl
          one false false = refl
      go rest (inr ne) (inr l) = rw (rest, le-ltb j n l, le-ltb j (suc n) (omega (arith, l, ne)), ne_eqb j n ne) (one (group n == number))
        where
          one : (b : Bool) → (false || (b && false)) ≡ false
          one true = refl
          one false = refl

  -- the least key of a first turn
  least_more : (cs : List (ComponentView (Setup T))) (b : Bool) (c : ComponentView (Setup T)) → least_next turn_of setup (cs ++ cond b (c ∷ []) []) ≡ cond b (min (key_of_next turn_of c) (least_next turn_of setup cs)) (least_next turn_of setup cs)
  least_more [] true c = refl
  least_more [] false c = refl
  least_more (d ∷ ds) true c = let rest = least_more ds true c in omega (arith, rest)
  least_more (d ∷ ds) false c = let rest = least_more ds false c in omega (arith, rest)

  module _ (law : Lawful m) where
    start_key : (j : ℕ) → key_of_next turn_of (start_held turn_of setup j) ≡ m.key j 0
    start_key j = go (cases_lt (m.key j 0) m.top)
      where
        go : (m.key j 0 < m.top) ⊎ (m.top ≤ m.key j 0) → key_of_next turn_of (start_held turn_of setup j) ≡ m.key j 0
        go (inl l) = rw (lt-ltb (m.key j 0) m.top l) refl
        go (inr l) = let b = law.bounded j 0 in rw (le-ltb (m.key j 0) m.top l) (omega (arith, l, b))

    pub least_start : (n : ℕ) → least_next turn_of setup (to n) ≡ first_key m group number n
    least_start zero = refl
    least_start (suc n) =
        ap (least_next turn_of setup) (to_next n) ∙ least_more (to n) (group n == number) (start_held turn_of setup n)
        ∙ ap (λ k. cond (group n == number) (min k (least_next turn_of setup (to n))) (least_next turn_of setup (to n))) (start_key n)
        ∙ ap (λ k. cond (group n == number) (min (m.key n 0) k) k) (least_start n)

    -- the lease at the start
    pub lease_start : (count : ℕ) (g : GroupView (Setup T)) → g.components ≡ to count → g.base ≡ lowest_bound → g.tray ≡ [] → g.out ≡ [] → rank_of_bound g.floor ≡ least_next turn_of setup (to count) → lease_of m g ≡ start_lease m group count number
    lease_start count g components base tray out floor =
        λ v. record {
          base = ap rank_of_bound base v;
          floor = (floor ∙ least_start count) v;
          part = λ j. (ap (λ r. part_with r (in_flight Plus j g.tray) (in_flight Minus j g.tray)) (ap (λ cs. history_of m cs j) components ∙ history_start (to count) (each_start count) j) ∙ ap (λ ts. part_with (start_record m j) (in_flight Plus j ts) (in_flight Minus j ts)) tray) v;
          out_plus = λ j. ap (in_flight Plus j) out v;
          out_minus = λ j. ap (in_flight Minus j) out v;
        }

-- the members are just those whose group it is
pub members_start : {T : Type 0} (turn_of : T → ℕ → ℕ → Option Turn) (setup : Setup T) (groups : List ℕ) (count number : ℕ) → number < 65536 → AreMembers (group_in count groups) number (start_components turn_of setup (group_in count groups) count number)
members_start turn_of setup groups count number small j = sym (members_to turn_of setup (group_in count groups) number count j ∙ go (cases_lt j count))
  where
    go : (j < count) ⊎ (count ≤ j) → (nat_lt j count && (group_in count groups j == number)) ≡ (group_in count groups j == number)
    go (inl l) = rw (lt-ltb j count l) refl
    go (inr l) = rw (le-ltb j count l) (sym (ne_eqb 65536 number (λ e. absurd (omega (arith, e, small)))))
