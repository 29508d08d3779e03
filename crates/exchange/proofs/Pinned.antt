-- What is held of each component follows from what is held in all.
use Rattle.std.proofs.Common.{◌≡◌, ℕ, suc, ◌<◌, ◌≤◌, ◌⊎◌, inl, inr, Bool, true, false, not, cond, List, [], ◌∷◌, map, filter, length, refl, ap, sym, subst, ◌∙◌, arith}
use Rattle.std.specs.Prelude.{nat_eq}
use Rattle.std.proofs.lemmas.Bool.{cases_lt, eq-eqb, ne_eqb}
use Rattle.terms.specs.Named.{Named}
use Rattle.event_keys.specs.declared.outcome.Turned.{Turned}
use Rattle.event_keys.specs.Ranks.{owner_of, rank}
use Rattle.antimessage.specs.Counts.{Each}
use Rattle.virtual_time.specs.Reference.{AllBelow, Falls, Turn}
use Rattle.virtual_time.specs.Exchange.Merged.{put_turn, put_turns}
use Rattle.task_seed.specs.Taken.{turn_of, turns_of}
use Rattle.exchange.specs.Held.{put_all, AreInOrder, AreOwned}
use Rattle.exchange.proofs.Owned.{onto_each, puts_each}
use Rattle.exchange.proofs.Together.{Apart, alone, each_missing, falls_put, first_put, later_put, lower, puts_fell}

module _ (test : Turn Named → Bool) where
  below_filter : (k : ℕ) (us : List (Turn Named)) → AllBelow k us → AllBelow k (filter test us)
  below_filter k [] h = tt
  below_filter k (u ∷ us) h = go (below_filter k us h.1) (test u)
    where
      go : AllBelow k (filter test us) → (b : Bool) → AllBelow k (cond b (u ∷ filter test us) (filter test us))
      go ih true = (h.0, ih)
      go ih false = ih

  first_of : (t : Turn Named) (us : List (Turn Named)) → AllBelow t.key us → put_turn t us ≡ t ∷ us
  first_of t [] h = refl
  first_of t (u ∷ us) h = first_put t u us h.0

  filter_put : (t : Turn Named) (us : List (Turn Named)) → Falls us → filter test (put_turn t us) ≡ cond (test t) (put_turn t (filter test us)) (filter test us)
  filter_put t [] f = refl
  filter_put t (u ∷ us) f = go (filter_put t us f.1) (cases_lt u.key t.key)
    where
      both : (xs : List (Turn Named)) → t.key ≤ u.key → (a b : Bool) → cond a (u ∷ cond b (put_turn t xs) xs) (cond b (put_turn t xs) xs) ≡ cond b (put_turn t (cond a (u ∷ xs) xs)) (cond a (u ∷ xs) xs)
      both xs l true true = sym (later_put t u xs l)
      both xs l true false = refl
      both xs l false true = refl
      both xs l false false = refl

      go : filter test (put_turn t us) ≡ cond (test t) (put_turn t (filter test us)) (filter test us) → (u.key < t.key) ⊎ (t.key ≤ u.key)
          → filter test (put_turn t (u ∷ us)) ≡ cond (test t) (put_turn t (filter test (u ∷ us))) (filter test (u ∷ us))
      go ih (inl l) =
          let under : AllBelow t.key (u ∷ us) = (l, lower u.key t.key us (omega (arith, l)) f.0) in
          ap (filter test) (first_put t u us l) ∙ ap (λ xs. cond (test t) xs (filter test (u ∷ us))) (sym (first_of t (filter test (u ∷ us)) (below_filter t.key (u ∷ us) under)))
      go ih (inr l) =
          ap (filter test) (later_put t u us l) ∙ ap (λ xs. cond (test u) (u ∷ xs) xs) ih ∙ both (filter test us) l (test u) (test t)

  -- what passes of two lists put together
  filter_puts : (ts us : List (Turn Named)) → Falls us → Apart ts us → filter test (put_turns ts us) ≡ put_turns (filter test ts) (filter test us)
  filter_puts [] us f p = refl
  filter_puts (t ∷ ts) us f p =
      filter_puts ts (put_turn t us) (falls_put t us f p.0) (each_missing t ts us p.1 p.2)
      ∙ ap (put_turns (filter test ts)) (filter_put t us f) ∙ go (test t)
    where
      go : (b : Bool) → put_turns (filter test ts) (cond b (put_turn t (filter test us)) (filter test us)) ≡ put_turns (cond b (t ∷ filter test ts) (filter test ts)) (filter test us)
      go true = refl
      go false = refl

  all_pass : (ts : List (Turn Named)) → Each (λ t. test t ≡ true) ts → filter test ts ≡ ts
  all_pass [] h = refl
  all_pass (t ∷ ts) h = rw h.0 (ap (λ l. t ∷ l) (all_pass ts h.1))

  none_pass : (ts : List (Turn Named)) → Each (λ t. test t ≡ false) ts → filter test ts ≡ []
  none_pass [] h = refl
  none_pass (t ∷ ts) h = rw h.0 (none_pass ts h.1)

-- the turn is component i's
abbrev of : ℕ → Turn Named → Bool
of i t = nat_eq (owner_of t.key) i

each_of : (i : ℕ) (ts : List Turned) → Each (λ t. owner_of (rank t.key) ≡ i) ts → Each (λ t. of i (turn_of t) ≡ true) ts
each_of i [] own = tt
each_of i (t ∷ ts) own = (eq-eqb (owner_of (rank t.key)) i own.0, each_of i ts own.1)

each_not : (i a : ℕ) (ts : List Turned) → i < a → Each (λ t. owner_of (rank t.key) ≡ a) ts → Each (λ t. of i (turn_of t) ≡ false) ts
each_not i a [] l own = tt
each_not i a (t ∷ ts) l own =
    let is = own.0 in
    (ne_eqb (owner_of (rank t.key)) i (λ e. omega (arith, is, e, l)), each_not i a ts l own.1)

others : (i a : ℕ) (lists : List (List Turned)) → i < a → AreOwned a lists → Each (λ t. of i t ≡ false) (put_all lists)
others i a [] l own = tt
others i a (ts ∷ lists) l own =
    puts_each (λ t. of i t ≡ false) (turns_of ts) (put_all lists) (onto_each (λ t. of i t ≡ false) ts [] (each_not i a ts l own.0) tt) (others i (suc a) lists (omega (arith, l)) own.1)

each_opposite : (i : ℕ) (b : Bool) (ts : List (Turn Named)) → Each (λ t. of i t ≡ b) ts → Each (λ t. not (of i t) ≡ not b) ts
each_opposite i b [] h = tt
each_opposite i b (t ∷ ts) h = (ap not h.0, each_opposite i b ts h.1)

module _ (i : ℕ) (ts : List Turned) (lists : List (List Turned)) (order : AreInOrder (ts ∷ lists)) (own : AreOwned i (ts ∷ lists)) (falls : Falls (put_all (ts ∷ lists))) where
  fell : Apart (turns_of ts) (put_all lists) × Falls (put_all lists)
  fell = puts_fell (turns_of ts) (put_all lists) falls

  mine : Each (λ t. of i t ≡ true) (turns_of ts)
  mine = onto_each (λ t. of i t ≡ true) ts [] (each_of i ts own.0) tt

  not_mine : Each (λ t. of i t ≡ false) (put_all lists)
  not_mine = others i (suc i) lists (omega arith) own.1

  own_part : filter (of i) (put_all (ts ∷ lists)) ≡ turns_of ts
  own_part =
      filter_puts (of i) (turns_of ts) (put_all lists) fell.1 fell.0 ∙ ap (put_turns (filter (of i) (turns_of ts))) (none_pass (of i) (put_all lists) not_mine)
      ∙ ap (λ l. put_turns l []) (all_pass (of i) (turns_of ts) mine) ∙ alone (turns_of ts) order.0

  other_part : filter (λ t. not (of i t)) (put_all (ts ∷ lists)) ≡ put_all lists
  other_part =
      filter_puts (λ t. not (of i t)) (turns_of ts) (put_all lists) fell.1 fell.0
      ∙ ap (λ l. put_turns l (filter (λ t. not (of i t)) (put_all lists))) (none_pass (λ t. not (of i t)) (turns_of ts) (each_opposite i true (turns_of ts) mine))
      ∙ all_pass (λ t. not (of i t)) (put_all lists) (each_opposite i false (put_all lists) not_mine)

-- lists with the same turns in all have the same turns one by one
pub pinned : (i : ℕ) (a b : List (List Turned)) → length a ≡ length b → AreInOrder a → AreInOrder b → AreOwned i a → AreOwned i b → Falls (put_all a) → put_all a ≡ put_all b → map turns_of a ≡ map turns_of b
pinned i [] [] many oa ob wa wb f e = refl
pinned i [] (y ∷ ys) many oa ob wa wb f e = absurd (omega (arith, many))
pinned i (x ∷ xs) [] many oa ob wa wb f e = absurd (omega (arith, many))
pinned i (x ∷ xs) (y ∷ ys) many oa ob wa wb f e =
    let g = subst Falls e f in
    let first : turns_of x ≡ turns_of y = sym (own_part i x xs oa wa f) ∙ ap (filter (of i)) e ∙ own_part i y ys ob wb g in
    let rest : put_all xs ≡ put_all ys = sym (other_part i x xs oa wa f) ∙ ap (filter (λ t. not (of i t))) e ∙ other_part i y ys ob wb g in
    ap (λ l. l ∷ map turns_of xs) first ∙ ap (λ l. turns_of y ∷ l) (pinned (suc i) xs ys (omega (arith, many)) oa.1 ob.1 wa.1 wb.1 (fell i x xs oa wa f).1 rest)
