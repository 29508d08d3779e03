-- Lists of turns, put together in any order.
use Rattle.std.proofs.Common.{◌≡◌, ℕ, suc, ◌+◌, ◌<◌, ◌≤◌, ◌⊎◌, inl, inr, List, [], ◌∷◌, ◌++◌, length, append_assoc, append-nil, refl, ap, sym, subst, ◌∙◌, arith}
use Rattle.std.proofs.lemmas.Bool.{lt-ltb, le-ltb, cases_lt}
use Rattle.virtual_time.specs.Reference.{AllBelow, Falls, Turn}
use Rattle.virtual_time.specs.Exchange.Meetings.{turns_below, turns_from}
use Rattle.virtual_time.specs.Exchange.Merged.{put_turn, put_turns}

module _ {A : Type 0} where
  -- none of these has this key
  abbrev pub Missing : ℕ → List (Turn A) → Type 0
  Missing k [] = Unit {0}
  Missing k (u ∷ us) = (u.key ≡ k → ⊥) × Missing k us

  -- the keys of the first ones are apart, and none of them is a key of the others
  abbrev pub Apart : List (Turn A) → List (Turn A) → Type 0
  Apart [] us = Unit {0}
  Apart (t ∷ ts) us = Missing t.key us × Missing t.key ts × Apart ts us

  pub first_put : (t u : Turn A) (us : List (Turn A)) → u.key < t.key → put_turn t (u ∷ us) ≡ t ∷ u ∷ us
  first_put t u us h = rw (lt-ltb u.key t.key h) refl

  pub later_put : (t u : Turn A) (us : List (Turn A)) → t.key ≤ u.key → put_turn t (u ∷ us) ≡ u ∷ put_turn t us
  later_put t u us h = rw (le-ltb u.key t.key h) refl

  swap_lower : (a b : Turn A) (us : List (Turn A)) → b.key < a.key → put_turn a (put_turn b us) ≡ put_turn b (put_turn a us)
  swap_lower a b [] h = first_put a b [] h ∙ sym (later_put b a [] (omega (arith, h)))
  swap_lower a b (u ∷ us) h = go (swap_lower a b us h) (cases_lt u.key b.key) (cases_lt u.key a.key)
    where
      over : b.key ≤ a.key
      over = omega (arith, h)

      go : put_turn a (put_turn b us) ≡ put_turn b (put_turn a us) → (u.key < b.key) ⊎ (b.key ≤ u.key) → (u.key < a.key) ⊎ (a.key ≤ u.key) → put_turn a (put_turn b (u ∷ us)) ≡ put_turn b (put_turn a (u ∷ us))
      go ih (inl lb) (inl la) =
          ap (put_turn a) (first_put b u us lb) ∙ first_put a b (u ∷ us) h
          ∙ sym (ap (put_turn b) (first_put a u us la) ∙ later_put b a (u ∷ us) over ∙ ap (λ l. a ∷ l) (first_put b u us lb))
      go ih (inl lb) (inr ga) = absurd (omega (arith, h, lb, ga))
      go ih (inr gb) (inl la) =
          ap (put_turn a) (later_put b u us gb) ∙ first_put a u (put_turn b us) la
          ∙ sym (ap (put_turn b) (first_put a u us la) ∙ later_put b a (u ∷ us) over ∙ ap (λ l. a ∷ l) (later_put b u us gb))
      go ih (inr gb) (inr ga) =
          ap (put_turn a) (later_put b u us gb) ∙ later_put a u (put_turn b us) ga ∙ ap (λ l. u ∷ l) ih
          ∙ sym (ap (put_turn b) (later_put a u us ga) ∙ later_put b u (put_turn a us) gb)

  swap : (a b : Turn A) (us : List (Turn A)) → (a.key ≡ b.key → ⊥) → put_turn a (put_turn b us) ≡ put_turn b (put_turn a us)
  swap a b us ne = go (cases_lt b.key a.key) (cases_lt a.key b.key)
    where
      go : (b.key < a.key) ⊎ (a.key ≤ b.key) → (a.key < b.key) ⊎ (b.key ≤ a.key) → put_turn a (put_turn b us) ≡ put_turn b (put_turn a us)
      go (inl h) other = swap_lower a b us h
      go (inr g) (inl h) = sym (swap_lower b a us h)
      go (inr g) (inr h) = absurd (ne (omega (arith, g, h)))

  -- one turn goes past a list
  turn_past : (t : Turn A) (ts us : List (Turn A)) → Missing t.key ts → put_turns ts (put_turn t us) ≡ put_turn t (put_turns ts us)
  turn_past t [] us m = refl
  turn_past t (x ∷ ts) us m = ap (put_turns ts) (swap x t us m.0) ∙ turn_past t ts (put_turn x us) m.1

  -- two lists go past each other
  pub lists_swap : (xs ys us : List (Turn A)) → Apart xs ys → put_turns xs (put_turns ys us) ≡ put_turns ys (put_turns xs us)
  lists_swap [] ys us p = refl
  lists_swap (x ∷ xs) ys us p = ap (put_turns xs) (sym (turn_past x ys us p.0)) ∙ lists_swap xs ys (put_turn x us) p.2

  put_missing : (k : ℕ) (t : Turn A) (us : List (Turn A)) → (t.key ≡ k → ⊥) → Missing k us → Missing k (put_turn t us)
  put_missing k t [] ne m = (ne, tt)
  put_missing k t (u ∷ us) ne m = go (put_missing k t us ne m.1) (cases_lt u.key t.key)
    where
      go : Missing k (put_turn t us) → (u.key < t.key) ⊎ (t.key ≤ u.key) → Missing k (put_turn t (u ∷ us))
      go ih (inl h) = subst (Missing k) (sym (first_put t u us h)) (ne, m)
      go ih (inr h) = subst (Missing k) (sym (later_put t u us h)) (m.0, ih)

  missing_put : (k : ℕ) (t : Turn A) (us : List (Turn A)) → Missing k (put_turn t us) → (t.key ≡ k → ⊥) × Missing k us
  missing_put k t [] m = (m.0, tt)
  missing_put k t (u ∷ us) m = go (missing_put k t us) (cases_lt u.key t.key)
    where
      go : (Missing k (put_turn t us) → (t.key ≡ k → ⊥) × Missing k us) → (u.key < t.key) ⊎ (t.key ≤ u.key) → (t.key ≡ k → ⊥) × Missing k (u ∷ us)
      go ih (inl h) = let n = subst (Missing k) (first_put t u us h) m in (n.0, n.1)
      go ih (inr h) =
          let n = subst (Missing k) (later_put t u us h) m in
          let rest = ih n.1 in
          (rest.0, (n.0, rest.1))

  pub missing_puts : (k : ℕ) (ts us : List (Turn A)) → Missing k (put_turns ts us) → Missing k ts × Missing k us
  missing_puts k [] us m = (tt, m)
  missing_puts k (t ∷ ts) us m =
      let rest = missing_puts k ts (put_turn t us) m in
      let one = missing_put k t us rest.1 in
      ((one.0, rest.0), one.1)

  pub apart_first : (ts xs us : List (Turn A)) → Apart ts (put_turns xs us) → Apart ts xs
  apart_first [] xs us p = tt
  apart_first (t ∷ ts) xs us p = ((missing_puts t.key xs us p.0).0, p.1, apart_first ts xs us p.2)

  pub apart_rest : (ts xs us : List (Turn A)) → Apart ts (put_turns xs us) → Apart ts us
  apart_rest [] xs us p = tt
  apart_rest (t ∷ ts) xs us p = ((missing_puts t.key xs us p.0).1, p.1, apart_rest ts xs us p.2)

  below_put : (b : ℕ) (t : Turn A) (us : List (Turn A)) → AllBelow b (put_turn t us) → (t.key < b) × AllBelow b us
  below_put b t [] h = (h.0, tt)
  below_put b t (u ∷ us) h = go (below_put b t us) (cases_lt u.key t.key)
    where
      go : (AllBelow b (put_turn t us) → (t.key < b) × AllBelow b us) → (u.key < t.key) ⊎ (t.key ≤ u.key) → (t.key < b) × AllBelow b (u ∷ us)
      go ih (inl l) = let n = subst (AllBelow b) (first_put t u us l) h in (n.0, n.1)
      go ih (inr l) =
          let n = subst (AllBelow b) (later_put t u us l) h in
          let rest = ih n.1 in
          (rest.0, (n.0, rest.1))

  put_below : (b : ℕ) (t : Turn A) (us : List (Turn A)) → t.key < b → AllBelow b us → AllBelow b (put_turn t us)
  put_below b t [] l h = (l, tt)
  put_below b t (u ∷ us) l h = go (put_below b t us l h.1) (cases_lt u.key t.key)
    where
      go : AllBelow b (put_turn t us) → (u.key < t.key) ⊎ (t.key ≤ u.key) → AllBelow b (put_turn t (u ∷ us))
      go ih (inl low) = subst (AllBelow b) (sym (first_put t u us low)) (l, h)
      go ih (inr high) = subst (AllBelow b) (sym (later_put t u us high)) (h.0, ih)

  missing_below : (k : ℕ) (us : List (Turn A)) → AllBelow k us → Missing k us
  missing_below k [] h = tt
  missing_below k (u ∷ us) h = let l = h.0 in ((λ e. omega (arith, l, e)), missing_below k us h.1)

  pub lower : (b c : ℕ) (us : List (Turn A)) → b ≤ c → AllBelow b us → AllBelow c us
  lower b c [] l h = tt
  lower b c (u ∷ us) l h = let low = h.0 in (omega (arith, l, low), lower b c us l h.1)

  -- where the result falls, the turn was apart from the others, and these fell
  put_fell : (t : Turn A) (us : List (Turn A)) → Falls (put_turn t us) → Missing t.key us × Falls us
  put_fell t [] f = (tt, tt)
  put_fell t (u ∷ us) f = go (put_fell t us) (cases_lt u.key t.key)
    where
      go : (Falls (put_turn t us) → Missing t.key us × Falls us) → (u.key < t.key) ⊎ (t.key ≤ u.key) → Missing t.key (u ∷ us) × Falls (u ∷ us)
      go ih (inl l) = let n = subst Falls (first_put t u us l) f in (missing_below t.key (u ∷ us) n.0, n.1)
      go ih (inr l) =
          let n = subst Falls (later_put t u us l) f in
          let rest = ih n.1 in
          let under = below_put u.key t us n.0 in
          let low = under.0 in
          (((λ e. omega (arith, low, e)), rest.0), (under.1, rest.1))

  pub falls_put : (t : Turn A) (us : List (Turn A)) → Falls us → Missing t.key us → Falls (put_turn t us)
  falls_put t [] f m = (tt, tt)
  falls_put t (u ∷ us) f m = go (falls_put t us f.1 m.1) (cases_lt u.key t.key) (cases_lt t.key u.key)
    where
      go : Falls (put_turn t us) → (u.key < t.key) ⊎ (t.key ≤ u.key) → (t.key < u.key) ⊎ (u.key ≤ t.key) → Falls (put_turn t (u ∷ us))
      go ih (inl l) other = subst Falls (sym (first_put t u us l)) ((l, lower u.key t.key us (omega (arith, l)) f.0), f)
      go ih (inr l) (inl h) = subst Falls (sym (later_put t u us l)) (put_below u.key t us h f.0, ih)
      go ih (inr l) (inr h) = absurd (m.0 (omega (arith, l, h)))

  missing_each : (t : Turn A) (ts us : List (Turn A)) → Apart ts (put_turn t us) → Missing t.key ts × Apart ts us
  missing_each t [] us p = (tt, tt)
  missing_each t (x ∷ ts) us p =
      let one = missing_put x.key t us p.0 in
      let rest = missing_each t ts us p.2 in
      (((λ e. one.0 (sym e)), rest.0), (one.1, p.1, rest.1))

  -- where the result falls, the lists were apart, and the second one fell
  pub puts_fell : (ts us : List (Turn A)) → Falls (put_turns ts us) → Apart ts us × Falls us
  puts_fell [] us f = (tt, f)
  puts_fell (t ∷ ts) us f =
      let rest = puts_fell ts (put_turn t us) f in
      let one = put_fell t us rest.1 in
      let each = missing_each t ts us rest.0 in
      ((one.0, each.0, each.1), one.1)

  pub each_missing : (t : Turn A) (ts us : List (Turn A)) → Missing t.key ts → Apart ts us → Apart ts (put_turn t us)
  each_missing t [] us m p = tt
  each_missing t (x ∷ ts) us m p = (put_missing x.key t us (λ e. m.0 (sym e)) p.0, p.1, each_missing t ts us m.1 p.2)

  pub falls_puts : (ts us : List (Turn A)) → Falls us → Apart ts us → Falls (put_turns ts us)
  falls_puts [] us f p = f
  falls_puts (t ∷ ts) us f p = falls_puts ts (put_turn t us) (falls_put t us f p.0) (each_missing t ts us p.1 p.2)

  inserted : (x : Turn A) (ys us : List (Turn A)) → Missing x.key ys → put_turns (put_turn x ys) us ≡ put_turn x (put_turns ys us)
  inserted x [] us m = refl
  inserted x (y ∷ ys) us m = go (inserted x ys (put_turn y us) m.1) (cases_lt y.key x.key)
    where
      go : put_turns (put_turn x ys) (put_turn y us) ≡ put_turn x (put_turns ys (put_turn y us)) → (y.key < x.key) ⊎ (x.key ≤ y.key) → put_turns (put_turn x (y ∷ ys)) us ≡ put_turn x (put_turns (y ∷ ys) us)
      go ih (inl h) = ap (λ l. put_turns l us) (first_put x y ys h) ∙ turn_past x (y ∷ ys) us m
      go ih (inr h) = ap (λ l. put_turns l us) (later_put x y ys h) ∙ ih

  -- two lists are put among others one after the other, or together
  pub together : (xs ys us : List (Turn A)) → Apart xs ys → put_turns (put_turns xs ys) us ≡ put_turns xs (put_turns ys us)
  together [] ys us p = refl
  together (x ∷ xs) ys us p =
      together xs (put_turn x ys) us (each_missing x xs ys p.1 p.2) ∙ ap (put_turns xs) (inserted x ys us p.0)

  pub length_put : (t : Turn A) (us : List (Turn A)) → length (put_turn t us) ≡ suc (length us)
  length_put t [] = refl
  length_put t (u ∷ us) = go (length_put t us) (cases_lt u.key t.key)
    where
      go : length (put_turn t us) ≡ suc (length us) → (u.key < t.key) ⊎ (t.key ≤ u.key) → length (put_turn t (u ∷ us)) ≡ suc (length (u ∷ us))
      go ih (inl h) = ap length (first_put t u us h)
      go ih (inr h) = ap length (later_put t u us h) ∙ ap suc ih

  pub length_puts : (ts us : List (Turn A)) → length (put_turns ts us) ≡ length ts + length us
  length_puts [] us = omega arith
  length_puts (t ∷ ts) us = let rest = length_puts ts (put_turn t us) in let one = length_put t us in omega (arith, rest, one)

  -- what is below a bound
  keeps_below : (b : ℕ) (t : Turn A) (ts : List (Turn A)) → t.key < b → turns_below b (t ∷ ts) ≡ t ∷ ts
  keeps_below b t ts h = rw (lt-ltb t.key b h) refl

  drops_from : (b : ℕ) (t : Turn A) (ts : List (Turn A)) → b ≤ t.key → turns_below b (t ∷ ts) ≡ turns_below b ts
  drops_from b t ts h = rw (le-ltb t.key b h) refl

  ends_below : (b : ℕ) (t : Turn A) (ts : List (Turn A)) → t.key < b → turns_from b (t ∷ ts) ≡ []
  ends_below b t ts h = rw (lt-ltb t.key b h) refl

  keeps_from : (b : ℕ) (t : Turn A) (ts : List (Turn A)) → b ≤ t.key → turns_from b (t ∷ ts) ≡ t ∷ turns_from b ts
  keeps_from b t ts h = rw (le-ltb t.key b h) refl

  one_below : (b : ℕ) (t : Turn A) (us : List (Turn A)) → t.key < b → turns_below b (put_turn t us) ≡ put_turn t (turns_below b us)
  one_below b t [] h = keeps_below b t [] h
  one_below b t (u ∷ us) h = go (one_below b t us h) (cases_lt u.key t.key) (cases_lt u.key b)
    where
      go : turns_below b (put_turn t us) ≡ put_turn t (turns_below b us) → (u.key < t.key) ⊎ (t.key ≤ u.key) → (u.key < b) ⊎ (b ≤ u.key) → turns_below b (put_turn t (u ∷ us)) ≡ put_turn t (turns_below b (u ∷ us))
      go ih (inl l) (inl below) =
          ap (turns_below b) (first_put t u us l) ∙ keeps_below b t (u ∷ us) h
          ∙ sym (ap (put_turn t) (keeps_below b u us below) ∙ first_put t u us l)
      go ih (inl l) (inr over) = absurd (omega (arith, l, over, h))
      go ih (inr g) (inl below) =
          ap (turns_below b) (later_put t u us g) ∙ keeps_below b u (put_turn t us) below
          ∙ sym (ap (put_turn t) (keeps_below b u us below) ∙ later_put t u us g)
      go ih (inr g) (inr over) =
          ap (turns_below b) (later_put t u us g) ∙ drops_from b u (put_turn t us) over ∙ ih
          ∙ sym (ap (put_turn t) (drops_from b u us over))

  none_of_it : (b : ℕ) (t : Turn A) (us : List (Turn A)) → b ≤ t.key → turns_below b (put_turn t us) ≡ turns_below b us
  none_of_it b t [] h = drops_from b t [] h
  none_of_it b t (u ∷ us) h = go (none_of_it b t us h) (cases_lt u.key t.key)
    where
      go : turns_below b (put_turn t us) ≡ turns_below b us → (u.key < t.key) ⊎ (t.key ≤ u.key) → turns_below b (put_turn t (u ∷ us)) ≡ turns_below b (u ∷ us)
      go ih (inl l) = ap (turns_below b) (first_put t u us l) ∙ drops_from b t (u ∷ us) h
      go ih (inr g) =
          ap (turns_below b) (later_put t u us g) ∙ drops_from b u (put_turn t us) (omega (arith, g, h)) ∙ ih
          ∙ sym (drops_from b u us (omega (arith, g, h)))

  all_of_them : (b : ℕ) (ts : List (Turn A)) → AllBelow b ts → turns_below b ts ≡ ts
  all_of_them b [] h = refl
  all_of_them b (t ∷ ts) h = keeps_below b t ts h.0

  pub puts_below : (b : ℕ) (ts us : List (Turn A)) → Falls ts → turns_below b (put_turns ts us) ≡ put_turns (turns_below b ts) (turns_below b us)
  puts_below b [] us f = refl
  puts_below b (t ∷ ts) us f = puts_below b ts (put_turn t us) f.1 ∙ go (cases_lt t.key b)
    where
      go : (t.key < b) ⊎ (b ≤ t.key) → put_turns (turns_below b ts) (turns_below b (put_turn t us)) ≡ put_turns (turns_below b (t ∷ ts)) (turns_below b us)
      go (inl l) =
          ap (put_turns (turns_below b ts)) (one_below b t us l)
          ∙ ap (λ l. put_turns l (put_turn t (turns_below b us))) (all_of_them b ts (lower t.key b ts (omega (arith, l)) f.0))
          ∙ sym (ap (λ l. put_turns l (turns_below b us)) (keeps_below b t ts l))
      go (inr g) =
          ap (put_turns (turns_below b ts)) (none_of_it b t us g) ∙ sym (ap (λ l. put_turns l (turns_below b us)) (drops_from b t ts g))

  -- what isn't below a bound
  gone_below : (b : ℕ) (t : Turn A) (us : List (Turn A)) → t.key < b → turns_from b (put_turn t us) ≡ turns_from b us
  gone_below b t [] h = ends_below b t [] h
  gone_below b t (u ∷ us) h = go (gone_below b t us h) (cases_lt u.key t.key) (cases_lt u.key b)
    where
      go : turns_from b (put_turn t us) ≡ turns_from b us → (u.key < t.key) ⊎ (t.key ≤ u.key) → (u.key < b) ⊎ (b ≤ u.key) → turns_from b (put_turn t (u ∷ us)) ≡ turns_from b (u ∷ us)
      go ih (inl l) other = ap (turns_from b) (first_put t u us l) ∙ ends_below b t (u ∷ us) h ∙ sym (ends_below b u us (omega (arith, l, h)))
      go ih (inr g) (inl below) = ap (turns_from b) (later_put t u us g) ∙ ends_below b u (put_turn t us) below ∙ sym (ends_below b u us below)
      go ih (inr g) (inr over) =
          ap (turns_from b) (later_put t u us g) ∙ keeps_from b u (put_turn t us) over ∙ ap (λ l. u ∷ l) ih ∙ sym (keeps_from b u us over)

  one_from : (b : ℕ) (t : Turn A) (us : List (Turn A)) → b ≤ t.key → turns_from b (put_turn t us) ≡ put_turn t (turns_from b us)
  one_from b t [] h = keeps_from b t [] h
  one_from b t (u ∷ us) h = go (one_from b t us h) (cases_lt u.key t.key) (cases_lt u.key b)
    where
      go : turns_from b (put_turn t us) ≡ put_turn t (turns_from b us) → (u.key < t.key) ⊎ (t.key ≤ u.key) → (u.key < b) ⊎ (b ≤ u.key) → turns_from b (put_turn t (u ∷ us)) ≡ put_turn t (turns_from b (u ∷ us))
      go ih (inl l) (inl below) =
          ap (turns_from b) (first_put t u us l) ∙ keeps_from b t (u ∷ us) h ∙ ap (λ l. t ∷ l) (ends_below b u us below)
          ∙ sym (ap (put_turn t) (ends_below b u us below))
      go ih (inl l) (inr over) =
          ap (turns_from b) (first_put t u us l) ∙ keeps_from b t (u ∷ us) h ∙ ap (λ l. t ∷ l) (keeps_from b u us over)
          ∙ sym (ap (put_turn t) (keeps_from b u us over) ∙ first_put t u (turns_from b us) l)
      go ih (inr g) (inl below) = absurd (omega (arith, g, below, h))
      go ih (inr g) (inr over) =
          ap (turns_from b) (later_put t u us g) ∙ keeps_from b u (put_turn t us) over ∙ ap (λ l. u ∷ l) ih
          ∙ sym (ap (put_turn t) (keeps_from b u us over) ∙ later_put t u (turns_from b us) g)

  nothing_from : (b : ℕ) (ts : List (Turn A)) → AllBelow b ts → turns_from b ts ≡ []
  nothing_from b [] h = refl
  nothing_from b (t ∷ ts) h = ends_below b t ts h.0

  pub puts_from : (b : ℕ) (ts us : List (Turn A)) → Falls ts → turns_from b (put_turns ts us) ≡ put_turns (turns_from b ts) (turns_from b us)
  puts_from b [] us f = refl
  puts_from b (t ∷ ts) us f = puts_from b ts (put_turn t us) f.1 ∙ go (cases_lt t.key b)
    where
      go : (t.key < b) ⊎ (b ≤ t.key) → put_turns (turns_from b ts) (turns_from b (put_turn t us)) ≡ put_turns (turns_from b (t ∷ ts)) (turns_from b us)
      go (inl l) =
          let empty = nothing_from b ts (lower t.key b ts (omega (arith, l)) f.0) in
          ap (put_turns (turns_from b ts)) (gone_below b t us l) ∙ ap (λ l. put_turns l (turns_from b us)) empty
          ∙ sym (ap (λ l. put_turns l (turns_from b us)) (ends_below b t ts l))
      go (inr g) =
          ap (put_turns (turns_from b ts)) (one_from b t us g) ∙ sym (ap (λ l. put_turns l (turns_from b us)) (keeps_from b t ts g))

  below_below : (c b : ℕ) (ts : List (Turn A)) → AllBelow c ts → AllBelow c (turns_below b ts)
  below_below c b [] h = tt
  below_below c b (t ∷ ts) h = go (below_below c b ts h.1) (cases_lt t.key b)
    where
      go : AllBelow c (turns_below b ts) → (t.key < b) ⊎ (b ≤ t.key) → AllBelow c (turns_below b (t ∷ ts))
      go ih (inl l) = subst (AllBelow c) (sym (keeps_below b t ts l)) h
      go ih (inr g) = subst (AllBelow c) (sym (drops_from b t ts g)) ih

  pub falls_below : (b : ℕ) (ts : List (Turn A)) → Falls ts → Falls (turns_below b ts)
  falls_below b [] f = tt
  falls_below b (t ∷ ts) f = go (falls_below b ts f.1) (cases_lt t.key b)
    where
      go : Falls (turns_below b ts) → (t.key < b) ⊎ (b ≤ t.key) → Falls (turns_below b (t ∷ ts))
      go ih (inl l) = subst Falls (sym (keeps_below b t ts l)) f
      go ih (inr g) = subst Falls (sym (drops_from b t ts g)) ih

  from_below : (c b : ℕ) (ts : List (Turn A)) → AllBelow c ts → AllBelow c (turns_from b ts)
  from_below c b [] h = tt
  from_below c b (t ∷ ts) h = go (from_below c b ts h.1) (cases_lt t.key b)
    where
      go : AllBelow c (turns_from b ts) → (t.key < b) ⊎ (b ≤ t.key) → AllBelow c (turns_from b (t ∷ ts))
      go ih (inl l) = subst (AllBelow c) (sym (ends_below b t ts l)) tt
      go ih (inr g) = subst (AllBelow c) (sym (keeps_from b t ts g)) (h.0, ih)

  pub falls_from : (b : ℕ) (ts : List (Turn A)) → Falls ts → Falls (turns_from b ts)
  falls_from b [] f = tt
  falls_from b (t ∷ ts) f = go (falls_from b ts f.1) (cases_lt t.key b)
    where
      go : Falls (turns_from b ts) → (t.key < b) ⊎ (b ≤ t.key) → Falls (turns_from b (t ∷ ts))
      go ih (inl l) = subst Falls (sym (ends_below b t ts l)) tt
      go ih (inr g) = subst Falls (sym (keeps_from b t ts g)) (from_below t.key b ts f.0, ih)

  -- none of these is below a bound
  abbrev AllOver : ℕ → List (Turn A) → Type 0
  AllOver k [] = Unit {0}
  AllOver k (u ∷ us) = (k ≤ u.key) × AllOver k us

  -- none of the others is below one of the first
  abbrev Over : List (Turn A) → List (Turn A) → Type 0
  Over [] us = Unit {0}
  Over (t ∷ ts) us = AllOver t.key us × Over ts us

  last_put : (t : Turn A) (us : List (Turn A)) → AllOver t.key us → put_turn t us ≡ us ++ (t ∷ [])
  last_put t [] h = refl
  last_put t (u ∷ us) h = later_put t u us h.0 ∙ ap (λ l. u ∷ l) (last_put t us h.1)

  over_more : (k : ℕ) (t : Turn A) (us : List (Turn A)) → k < t.key → AllOver k us → AllOver k (us ++ (t ∷ []))
  over_more k t [] l h = (omega (arith, l), tt)
  over_more k t (u ∷ us) l h = (h.0, over_more k t us l h.1)

  each_over : (t : Turn A) (ts us : List (Turn A)) → AllBelow t.key ts → Over ts us → Over ts (us ++ (t ∷ []))
  each_over t [] us b h = tt
  each_over t (s ∷ ts) us b h = (over_more s.key t us b.0 h.0, each_over t ts us b.1 h.1)

  alone_on : (ts us : List (Turn A)) → Falls ts → Over ts us → put_turns ts us ≡ us ++ ts
  alone_on [] us f h = sym (append-nil us)
  alone_on (t ∷ ts) us f h =
      ap (put_turns ts) (last_put t us h.0) ∙ alone_on ts (us ++ (t ∷ [])) f.1 (each_over t ts us f.0 h.1) ∙ append_assoc us (t ∷ []) ts

  over_none : (ts : List (Turn A)) → Over ts []
  over_none [] = tt
  over_none (t ∷ ts) = (tt, over_none ts)

  -- a list that falls, put among no others
  pub alone : (ts : List (Turn A)) → Falls ts → put_turns ts [] ≡ ts
  alone ts f = alone_on ts [] f (over_none ts)
