-- What components of consecutive numbers give up.
use Rattle.std.proofs.Common.{◌≡◌, ℕ, ◌+◌, ◌<◌, ◌≤◌, ◌⊎◌, inl, inr, Bool, true, false, cond, Option, None, Some, List, [], ◌∷◌, map, length, refl, ap, sym, subst, ◌∙◌, arith}
use Rattle.std.specs.Prelude.{◌&&◌, ◌==◌, nat_le, nat_lt, option_map, slice_get, slice_set}
use Rattle.std.specs.Option.{option_or}
use Rattle.std.proofs.lemmas.Bool.{and_parts, cases_eq, cases_lt, eq-eqb, eqb-true, ne_eqb, leb-true, lt-ltb, le-leb, le-ltb, ltb-true, lt-leb}
use Rattle.terms.specs.Datum.{Datum}
use Rattle.terms.specs.Named.{Named}
use Rattle.event_keys.specs.declared.key.Bound.{Bound}
use Rattle.virtual_time.specs.Entries.{Entry, below, turn_at}
use Rattle.virtual_time.specs.Machine.{Machine}
use Rattle.virtual_time.specs.Records.{turns_among}
use Rattle.virtual_time.specs.Reference.{AllBelow, Falls, IsAmong, Turn, outcome_at}
use Rattle.event_keys.specs.declared.outcome.Turned.{Turned}
use Rattle.task_seed.specs.Taken.{turn_of, turns_of}
use Rattle.rollback.specs.ComponentView.{ComponentView}
use Rattle.raw_events.specs.Onto.{onto}
use Rattle.world.proofs.Putting.{get_other, get_same}
use Rattle.world.specs.Dropping.{cut_between, done_at, dropped_at}
use Rattle.rollback.specs.ComponentView.{cut_at}

-- a turn is among those that fall where its key has its outcome
pub at_among : {A : Type 0} (k : ℕ) (o : Option A) (ts : List (Turn A)) → outcome_at k ts ≡ Some o → IsAmong (record { key = k; outcome = o }) ts
at_among k o [] e = cc
at_among {A} k o (t ∷ ts) e = go (t.key == k) refl (at_among k o ts) e
  where
    go : (b : Bool) → (t.key == k) ≡ b → (outcome_at k ts ≡ Some o → IsAmong (record { key = k; outcome = o }) ts) → cond b (Some t.outcome) (outcome_at k ts) ≡ Some o → IsAmong (record { key = k; outcome = o }) (t ∷ ts)
    go true q rest h =
        let key : t.key ≡ k = eqb-true t.key k q in
        let out : t.outcome ≡ o = cc in
        let made : ◌≡◌ {A = Turn A} (record { key = k; outcome = o }) t = λ v. record { key = (sym key) v; outcome = (sym out) v } in
        inl made
    go false q rest h = inr (rest h)

below_all : {A : Type 0} (b : ℕ) (t : Turn A) (ts : List (Turn A)) → AllBelow b ts → IsAmong t ts → t.key < b
below_all b t [] a h = absurd h
below_all b t (u ∷ us) a (inl e) = subst (λ x. x.key < b) (sym e) a.0
below_all b t (u ∷ us) a (inr h) = below_all b t us a.1 h

pub among_at : {A : Type 0} (t : Turn A) (ts : List (Turn A)) → Falls ts → IsAmong t ts → outcome_at t.key ts ≡ Some t.outcome
among_at t [] f h = absurd h
among_at t (u ∷ us) f (inl e) = subst (λ x. outcome_at t.key (x ∷ us) ≡ Some t.outcome) e (ap (λ b. cond b (Some t.outcome) (outcome_at t.key us)) (eq-eqb t.key t.key refl))
among_at t (u ∷ us) f (inr h) =
    let low = below_all u.key t us f.0 h in
    ap (λ b. cond b (Some u.outcome) (outcome_at t.key us)) (ne_eqb u.key t.key (λ e. omega (arith, low, e))) ∙ among_at t us f.1 h

-- what a component gives up, key by key
module _ (machine_owner : ℕ → ℕ) (i b : ℕ) (es : List (Entry Named)) (falls : Falls (turns_among (below b es)))
    (only : (t : Turn Named) → IsAmong t (turns_among (below b es)) → (t.key < b) × (turn_at t.key es ≡ Some t.outcome) × (machine_owner t.key ≡ i))
    (all : (t : Turn Named) → t.key < b → turn_at t.key es ≡ Some t.outcome → IsAmong t (turns_among (below b es))) where
  -- where the key has no turn here there is none
  pub one_there : (k : ℕ) (o : Option Named) → outcome_at k (turns_among (below b es)) ≡ Some o → (k < b) × (turn_at k es ≡ Some o) × (machine_owner k ≡ i)
  one_there k o e = only (record { key = k; outcome = o }) (at_among k o (turns_among (below b es)) e)

  pub one_all : (k : ℕ) (o : Option Named) → k < b → turn_at k es ≡ Some o → outcome_at k (turns_among (below b es)) ≡ Some o
  one_all k o l e = among_at (record { key = k; outcome = o }) (turns_among (below b es)) falls (all (record { key = k; outcome = o }) l e)

-- two optional values are the same where each is the other's
pub same_option : {X : Type 0} (a b : Option X) → ((x : X) → a ≡ Some x → b ≡ Some x) → ((x : X) → b ≡ Some x → a ≡ Some x) → a ≡ b
same_option None None f g = refl
same_option None (Some x) f g = g x refl
same_option (Some x) b f g = sym (f x refl)

-- the test whether a turn is given up
pub record IsWithin (from to b n k : ℕ) : Type 0 where
  pub low : from ≤ n
  pub high : n < to
  pub below : k < b

pub within_test : (from to b n k : ℕ) → (nat_le from n && (nat_lt n to && nat_lt k b)) ≡ true → IsWithin from to b n k
within_test from to b n k h =
    let first = and_parts (nat_le from n) (nat_lt n to && nat_lt k b) h in
    let rest = and_parts (nat_lt n to) (nat_lt k b) first.1 in
    record { low = leb-true from n first.0; high = ltb-true n to rest.0; below = ltb-true k b rest.1 }

pub test_within : (from to b n k : ℕ) → from ≤ n → n < to → k < b → (nat_le from n && (nat_lt n to && nat_lt k b)) ≡ true
test_within from to b n k l h below = ap (λ t. t && (nat_lt n to && nat_lt k b)) (le-leb from n l) ∙ ap (λ t. t && nat_lt k b) (lt-ltb n to h) ∙ lt-ltb k b below

cond_some : {X : Type 0} (t : Bool) (o : Option X) (x : X) → cond t o None ≡ Some x → (t ≡ true) × (o ≡ Some x)
cond_some true o x e = (refl, e)
cond_some false o x e = cc

module _ {P : Type 0} (m : Machine (List Datum) Named) (b : ℕ) where
  pub dropped_some : (from to : ℕ) (cs : List (ComponentView P)) (k : ℕ) (o : Option Named) → dropped_at m b from to cs k ≡ Some o → IsWithin from to b (m.owner k) k × (done_at k (slice_get cs (m.owner k)) ≡ Some o)
  dropped_some from to cs k o e =
      let parts = cond_some (nat_le from (m.owner k) && (nat_lt (m.owner k) to && nat_lt k b)) (done_at k (slice_get cs (m.owner k))) o e in
      (within_test from to b (m.owner k) k parts.0, parts.1)

  pub some_dropped : (from to : ℕ) (cs : List (ComponentView P)) (k : ℕ) (o : Option Named) → IsWithin from to b (m.owner k) k → done_at k (slice_get cs (m.owner k)) ≡ Some o → dropped_at m b from to cs k ≡ Some o
  some_dropped from to cs k o w e = ap (λ t. cond t (done_at k (slice_get cs (m.owner k))) None) (test_within from to b (m.owner k) k w.low w.high w.below) ∙ e

  -- nothing is given up by no component
  pub dropped_none : (from to : ℕ) (cs : List (ComponentView P)) (k : ℕ) → to ≤ from → None ≡ dropped_at m b from to cs k
  dropped_none from to cs k l = same_option None (dropped_at m b from to cs k) (λ o e. cc) (λ o e. let w = (dropped_some from to cs k o e).0 in let low = w.low in let high = w.high in absurd (omega (arith, l, low, high)))

  -- what one component gives up
  pub dropped_one : (from to : ℕ) (cs : List (ComponentView P)) (c : ComponentView P) (given : List (Turn Named)) → slice_get cs from ≡ Some c → to ≡ from + 1
      → ((k : ℕ) (o : Option Named) → outcome_at k given ≡ Some o → (k < b) × (turn_at k c.history.done ≡ Some o) × (m.owner k ≡ from))
      → ((k : ℕ) (o : Option Named) → k < b → turn_at k c.history.done ≡ Some o → outcome_at k given ≡ Some o) → (k : ℕ) → outcome_at k given ≡ dropped_at m b from to cs k
  dropped_one from to cs c given at one only all k = same_option (outcome_at k given) (dropped_at m b from to cs k) there back
    where
      there : (o : Option Named) → outcome_at k given ≡ Some o → dropped_at m b from to cs k ≡ Some o
      there o e =
          let h = only k o e in
          let owner = h.2 in
          some_dropped from to cs k o (record { low = omega (arith, owner); high = omega (arith, owner, one); below = h.0 }) (ap (done_at k) (ap (slice_get cs) owner ∙ at) ∙ h.1)

      back : (o : Option Named) → dropped_at m b from to cs k ≡ Some o → outcome_at k given ≡ Some o
      back o e =
          let h = dropped_some from to cs k o e in
          let low = h.0.low in
          let high = h.0.high in
          let owner : m.owner k ≡ from = omega (arith, low, high, one) in
          all k o h.0.below (ap (done_at k) (sym at) ∙ ap (λ n. done_at k (slice_get cs n)) (sym owner) ∙ h.1)

  -- what is given up by some and by others
  pub dropped_both : (from middle to : ℕ) (cs ds : List (ComponentView P)) (k : ℕ) → from ≤ middle → middle ≤ to → ((j : ℕ) → middle ≤ j → slice_get ds j ≡ slice_get cs j)
      → option_or (dropped_at m b middle to ds k) (dropped_at m b from middle cs k) ≡ dropped_at m b from to cs k
  dropped_both from middle to cs ds k l h same = same_option (option_or (dropped_at m b middle to ds k) (dropped_at m b from middle cs k)) (dropped_at m b from to cs k) there back
    where
      or_some : (x y : Option (Option Named)) (o : Option Named) → option_or x y ≡ Some o → (x ≡ Some o) ⊎ (y ≡ Some o)
      or_some None y o e = inr e
      or_some (Some x) y o e = inl e

      from_parts : (o : Option Named) → (dropped_at m b middle to ds k ≡ Some o) ⊎ (dropped_at m b from middle cs k ≡ Some o) → dropped_at m b from to cs k ≡ Some o
      from_parts o (inr e) =
          let p = dropped_some from middle cs k o e in
          let high = p.0.high in
          some_dropped from to cs k o (record { low = p.0.low; high = omega (arith, high, h); below = p.0.below }) p.1
      from_parts o (inl e) =
          let p = dropped_some middle to ds k o e in
          let low = p.0.low in
          some_dropped from to cs k o (record { low = omega (arith, low, l); high = p.0.high; below = p.0.below }) (ap (done_at k) (sym (same (m.owner k) p.0.low)) ∙ p.1)

      there : (o : Option Named) → option_or (dropped_at m b middle to ds k) (dropped_at m b from middle cs k) ≡ Some o → dropped_at m b from to cs k ≡ Some o
      there o e = from_parts o (or_some (dropped_at m b middle to ds k) (dropped_at m b from middle cs k) o e)

      to_parts : (o : Option Named) → IsWithin from to b (m.owner k) k × (done_at k (slice_get cs (m.owner k)) ≡ Some o) → (m.owner k < middle) ⊎ (middle ≤ m.owner k) → option_or (dropped_at m b middle to ds k) (dropped_at m b from middle cs k) ≡ Some o
      to_parts o p (inl under) =
          let none : dropped_at m b middle to ds k ≡ None = same_option (dropped_at m b middle to ds k) None (λ x q. let w = (dropped_some middle to ds k x q).0 in let low = w.low in absurd (omega (arith, low, under))) (λ x q. cc) in
          ap (λ x. option_or x (dropped_at m b from middle cs k)) none
          ∙ some_dropped from middle cs k o (record { low = p.0.low; high = under; below = p.0.below }) p.1
      to_parts o p (inr above) = ap (λ x. option_or x (dropped_at m b from middle cs k)) (some_dropped middle to ds k o (record { low = above; high = p.0.high; below = p.0.below }) (ap (done_at k) (same (m.owner k) above) ∙ p.1))

      back : (o : Option Named) → dropped_at m b from to cs k ≡ Some o → option_or (dropped_at m b middle to ds k) (dropped_at m b from middle cs k) ≡ Some o
      back o e = to_parts o (dropped_some from to cs k o e) (cases_lt (m.owner k) middle)

  -- no key is given up by both
  pub dropped_apart : (from middle to : ℕ) (cs ds : List (ComponentView P)) (k : ℕ) (o : Option Named) → dropped_at m b middle to ds k ≡ Some o → dropped_at m b from middle cs k ≡ None
  dropped_apart from middle to cs ds k o e =
      let w = (dropped_some middle to ds k o e).0 in
      let low = w.low in
      same_option (dropped_at m b from middle cs k) None (λ x q. let v = (dropped_some from middle cs k x q).0 in let high = v.high in absurd (omega (arith, high, low))) (λ x q. cc)

-- the list turned round twice
onto_back : {X : Type 0} (before after : List X) → onto (onto before after) [] ≡ onto after before
onto_back [] after = refl
onto_back (x ∷ before) after = onto_back before (x ∷ after)

pub given_is : (es : List (Entry Named)) (b : ℕ) (turns : List Turned) → map turn_of turns ≡ onto (turns_among (below b es)) [] → turns_of turns ≡ turns_among (below b es)
given_is es b turns e = ap (λ ts. onto ts []) e ∙ onto_back (turns_among (below b es)) []

not_true : (a : Bool) → (a && false) ≡ false
not_true true = refl
not_true false = refl

-- what is done to those of a range
module _ {P : Type 0} (m : Machine (List Datum) Named) (bound : Bound) where
  pub cut_inside : (from to j : ℕ) (c : ComponentView P) → from ≤ j → j < to → cut_between m bound from to j c ≡ cut_at m bound c
  cut_inside from to j c l h = ap (λ t. cond t (cut_at m bound c) c) (λ v. le-leb from j l v && lt-ltb j to h v)

  pub cut_past : (from to j : ℕ) (c : ComponentView P) → to ≤ j → cut_between m bound from to j c ≡ c
  cut_past from to j c h = ap (λ t. cond (nat_le from j && t) (cut_at m bound c) c) (le-ltb j to h) ∙ ap (λ t. cond t (cut_at m bound c) c) (not_true (nat_le from j))

  pub cut_before : (from to j : ℕ) (c : ComponentView P) → j < from → cut_between m bound from to j c ≡ c
  cut_before from to j c h = ap (λ t. cond (t && nat_lt j to) (cut_at m bound c) c) (lt-leb from j h)

  over : (f g : ComponentView P → ComponentView P) → ((c : ComponentView P) → f c ≡ g c) → (o : Option (ComponentView P)) → option_map f o ≡ option_map g o
  over f g e None = refl
  over f g e (Some c) = ap (λ x. Some x) (e c)

  kept : (f : ComponentView P → ComponentView P) → ((c : ComponentView P) → f c ≡ c) → (o : Option (ComponentView P)) → option_map f o ≡ o
  kept f e None = refl
  kept f e (Some c) = ap (λ x. Some x) (e c)

  -- what is not in the range stays
  pub past_stays : (from to j : ℕ) (o : Option (ComponentView P)) → to ≤ j → option_map (cut_between m bound from to j) o ≡ o
  past_stays from to j o h = kept (cut_between m bound from to j) (λ c. cut_past from to j c h) o

  pub none_cut : (from to j : ℕ) (o : Option (ComponentView P)) → to ≤ from → o ≡ option_map (cut_between m bound from to j) o
  none_cut from to j o h = sym (kept (cut_between m bound from to j) (λ c. go c (cases_lt j from)) o)
    where
      go : (c : ComponentView P) → (j < from) ⊎ (from ≤ j) → cut_between m bound from to j c ≡ c
      go c (inl l) = cut_before from to j c l
      go c (inr l) = cut_past from to j c (omega (arith, l, h))

  pub one_cut : (cs : List (ComponentView P)) (from to : ℕ) (c new : ComponentView P) → slice_get cs from ≡ Some c → to ≡ from + 1 → from < length cs → new ≡ cut_at m bound c
      → (j : ℕ) → slice_get (slice_set cs from new) j ≡ option_map (cut_between m bound from to j) (slice_get cs j)
  one_cut cs from to c new at one there is j = go (cases_eq j from) (cases_lt j from)
    where
      go : (j ≡ from) ⊎ (j ≡ from → ⊥) → (j < from) ⊎ (from ≤ j) → slice_get (slice_set cs from new) j ≡ option_map (cut_between m bound from to j) (slice_get cs j)
      go (inl e) o =
          ap (slice_get (slice_set cs from new)) e ∙ get_same cs from new there ∙ ap (λ x. Some x) (is ∙ sym (cut_inside from to j c (omega (arith, e)) (omega (arith, e, one))))
          ∙ ap (option_map (cut_between m bound from to j)) (sym (ap (slice_get cs) e ∙ at))
      go (inr ne) (inl l) = get_other cs from new j ne ∙ sym (kept (cut_between m bound from to j) (λ x. cut_before from to j x l) (slice_get cs j))
      go (inr ne) (inr l) = get_other cs from new j ne ∙ sym (past_stays from to j (slice_get cs j) (later (cases_lt from j)))
        where
          later : (from < j) ⊎ (j ≤ from) → to ≤ j
          later (inl h) = omega (arith, h, one)
          later (inr h) = absurd (ne (omega (arith, h, l)))

  pub both_cut : (from middle to j : ℕ) (a b c : Option (ComponentView P)) → from ≤ middle → middle ≤ to → b ≡ option_map (cut_between m bound from middle j) a → c ≡ option_map (cut_between m bound middle to j) b
      → c ≡ option_map (cut_between m bound from to j) a
  both_cut from middle to j a b c l h first second = go (cases_lt j middle) (cases_lt j from) (cases_lt j to)
    where
      all : c ≡ option_map (cut_between m bound middle to j) (option_map (cut_between m bound from middle j) a)
      all = second ∙ ap (option_map (cut_between m bound middle to j)) first

      go : (j < middle) ⊎ (middle ≤ j) → (j < from) ⊎ (from ≤ j) → (j < to) ⊎ (to ≤ j) → c ≡ option_map (cut_between m bound from to j) a
      go (inl under) (inl low) o = all ∙ kept (cut_between m bound middle to j) (λ x. cut_before middle to j x under) (option_map (cut_between m bound from middle j) a) ∙ over (cut_between m bound from middle j) (cut_between m bound from to j) (λ x. cut_before from middle j x low ∙ sym (cut_before from to j x low)) a
      go (inl under) (inr high) o = all ∙ kept (cut_between m bound middle to j) (λ x. cut_before middle to j x under) (option_map (cut_between m bound from middle j) a) ∙ over (cut_between m bound from middle j) (cut_between m bound from to j) (λ x. cut_inside from middle j x high under ∙ sym (cut_inside from to j x high (omega (arith, under, h)))) a
      go (inr above) o (inl short) = all ∙ ap (option_map (cut_between m bound middle to j)) (past_stays from middle j a above) ∙ over (cut_between m bound middle to j) (cut_between m bound from to j) (λ x. cut_inside middle to j x above short ∙ sym (cut_inside from to j x (omega (arith, above, l)) short)) a
      go (inr above) o (inr long) = all ∙ ap (option_map (cut_between m bound middle to j)) (past_stays from middle j a above) ∙ over (cut_between m bound middle to j) (cut_between m bound from to j) (λ x. cut_past middle to j x long ∙ sym (cut_past from to j x long)) a
