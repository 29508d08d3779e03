-- What the fields of two components tell of their equality.
use Rattle.std.proofs.Common.{◌≡◌, ℕ, ◌+◌, ◌&&◌, nat_eq, Bool, true, false, Option, None, Some, List, [], ◌∷◌, ◌++◌, reverse, refl, ap, sym, subst, ◌∙◌, arith, rules, if◌then◌else◌}
use Rattle.std.proofs.lemmas.Grind.{reverse_onto}
use Rattle.std.specs.Bool.{Decides, one_answer}
use Rattle.std.specs.Ordering.{is_eq}
use Rattle.std.specs.Cmp.{Equal-is, tied_itself}
use Rattle.std.specs.Cmp.Lexicographic.{pointwise}
use Rattle.terms.specs.Named.{Named}
use Rattle.terms.specs.SameTreeLaws.{number_is}
use Rattle.event_keys.specs.declared.key.Bound.{Bound}
use Rattle.event_keys.specs.contracts.key.BoundPartialEq.TheImpl as bound_eq
use Rattle.event_keys.specs.declared.key.Key.{Key}
use Rattle.event_keys.specs.declared.message.Sign.{Sign}
use Rattle.event_keys.specs.declared.message.Sign.TheVariants.{Plus, Minus}
use Rattle.event_keys.specs.declared.message.Signed.{Signed}
use Rattle.event_keys.specs.declared.outcome.Outcome.{Outcome}
use Rattle.event_keys.specs.declared.outcome.Outcome.TheVariants.{Idle, Did}
use Rattle.event_keys.specs.declared.outcome.Turned.{Turned}
use Rattle.event_keys.specs.contracts.outcome.TurnedPartialEq.TheImpl as turned_eq
use Rattle.event_keys.specs.contracts.outcome.TurnedOrd.TheImpl as turned_ord
use Rattle.event_keys.specs.contracts.outcome.TurnedOrd.TheImpl.Laws.{matches_eq-law, total-law}
use Rattle.event_keys.specs.Apart.{turned_apart}
use Rattle.event_keys.specs.Orders.{turned_order}
use Rattle.event_keys.specs.Entries.{action_of}
use Rattle.event_keys.specs.Ranks.{rank}
use Rattle.raw_events.specs.Around.{Around}
use Rattle.raw_events.specs.Same.{same_items}
use Rattle.antimessage.specs.Counts.{Each, is_same}
use Rattle.antimessage.specs.Order.{Fits}
use Rattle.undo_records.specs.First.{same_state}
use Rattle.undo_records.specs.States.{States}
use Rattle.virtual_time.specs.Entries.{Entry, Own, entry_key, number}
use Rattle.task_seed.specs.Turning.{System, has_turns, ticks, key_at, key_of}
use Rattle.message_balance.specs.declared.done.Done.{Done}
use Rattle.message_balance.specs.declared.done.Done.TheVariants.{Turn, Input}
use Rattle.rollback.specs.Flight.{items_of, AllGo}
use Rattle.task_seed.specs.Clocks.{IsTurnKey}
use Rattle.rollback.specs.ComponentInvariant.{entry_of, entries_of, IsReady, AllReady, base_state, record_of, IsQueue, IsValidComponent}
use Rattle.message_balance.specs.Same.{same_done}
use Rattle.rollback.specs.Same.{same_item, same_entry, same_events, same_held}
use Rattle.rollback.specs.SameLaws.{entry_decides}
use Rattle.rollback.proofs.Flight.{item_same}

no_and : (b : Bool) → (b && false) ≡ false
no_and true = refl
no_and false = refl

and_yes : (b : Bool) → (b && true) ≡ b
and_yes true = refl
and_yes false = refl

swapped : (a b c : Bool) → (a && (b && c)) ≡ (b && (a && c))
swapped true b c = refl
swapped false true c = refl
swapped false false c = refl

module _ {X : Type 0} (E : X → X → Bool) where
  none_and_more : (ys : List X) (y : X) → pointwise E [] (ys ++ y ∷ []) ≡ false
  none_and_more [] y = refl
  none_and_more (z ∷ ys) y = refl

  more_and_none : (xs : List X) (x : X) → pointwise E (xs ++ x ∷ []) [] ≡ false
  more_and_none [] x = refl
  more_and_none (z ∷ xs) x = refl

  both_more : (xs ys : List X) (x y : X) → pointwise E (xs ++ x ∷ []) (ys ++ y ∷ []) ≡ (E x y && pointwise E xs ys)
  both_more [] [] x y = refl
  both_more [] (z ∷ ys) x y = ap (λ b. E x z && b) (none_and_more ys y) ∙ no_and (E x z) ∙ sym (no_and (E x y))
  both_more (z ∷ xs) [] x y = ap (λ b. E z y && b) (more_and_none xs x) ∙ no_and (E z y) ∙ sym (no_and (E x y))
  both_more (z ∷ xs) (w ∷ ys) x y = ap (λ b. E z w && b) (both_more xs ys x y) ∙ swapped (E z w) (E x y) (pointwise E xs ys)

  -- lists that are turned round compare alike
  reversed : (xs ys : List X) → pointwise E (reverse xs) (reverse ys) ≡ pointwise E xs ys
  reversed [] [] = refl
  reversed [] (y ∷ ys) = ap (pointwise E []) (reverse_onto ys y []) ∙ none_and_more (reverse ys) y
  reversed (x ∷ xs) [] = ap (λ l. pointwise E l []) (reverse_onto xs x []) ∙ more_and_none (reverse xs) x
  reversed (x ∷ xs) (y ∷ ys) =
      (λ v. pointwise E (reverse_onto xs x [] v) (reverse_onto ys y [] v))
      ∙ both_more (reverse xs) (reverse ys) x y
      ∙ ap (λ b. E x y && b) (reversed xs ys)

  -- with all before the cursor, and with all after it
  before_same : (a b : Around X) → a.after ≡ [] → b.after ≡ [] → same_items E a b ≡ pointwise E a.before b.before
  before_same a b h k =
      (λ v. reversed a.before b.before v && pointwise E (h v) (k v)) ∙ and_yes (pointwise E a.before b.before)

  after_same : (a b : Around X) → a.before ≡ [] → b.before ≡ [] → same_items E a b ≡ pointwise E a.after b.after
  after_same a b h k = λ v. pointwise E (reverse (h v)) (reverse (k v)) && pointwise E a.after b.after

turned_decides : (a b : Turned) → Decides (turned_eq.ghosts.eq a b) (a ≡ b)
turned_decides a b =
    let order : turned_ord.ghosts.cmp a b ≡ turned_order a b = search rules in
    let agrees : turned_eq.ghosts.eq a b ≡ is_eq (turned_ord.ghosts.cmp a b) = matches_eq-law a b in
    (λ h. turned_apart a b (sym order ∙ (Equal-is (turned_ord.ghosts.cmp a b)).0 (sym agrees ∙ h)), λ e. agrees ∙ ap is_eq (ap (turned_ord.ghosts.cmp a) (sym e) ∙ tied_itself total-law a))

outcome_of : (a b : Outcome) → action_of a ≡ action_of b → a ≡ b
outcome_of Idle Idle h = refl
outcome_of Idle (Did y) h = cc
outcome_of (Did x) Idle h = cc
outcome_of (Did x) (Did y) h = let same : x ≡ y = cc in ap Did same

abbrev own_entry : Turned → Entry Named
own_entry turned = Own (rank turned.key) (action_of turned.outcome)

module _ (s t : System) (i : ℕ) where
  component_is : (u : System) (n : ℕ) (key : Key) → Some key ≡ key_of u i n → key.component ≡ i
  component_is u n key h = go (has_turns u i (n + 1)) h
    where
      go : (b : Bool) → Some key ≡ (if b then Some (key_at i n (ticks u i (n + 1))) else None) → key.component ≡ i
      go true e = let same : key ≡ key_at i n (ticks u i (n + 1)) = cc in ap (λ k. k.component) same
      go false e = cc

  key_is : (m n : ℕ) (a b : Key) → Some a ≡ key_of s i m → IsTurnKey a → Some b ≡ key_of t i n → IsTurnKey b → rank a ≡ rank b → a ≡ b
  key_is m n a b h small k few same =
      let own = component_is s m a h in
      let other = component_is t n b k in
      let least = small.0 in
      let less = few.0 in
      let components : a.component ≡ b.component = own ∙ sym other in
      let numbers : a.number ≡ b.number = omega (arith, same, least, less) in
      let ticks : a.tick ≡ b.tick = omega (arith, same, components, numbers) in
      λ v. record { tick = ticks v; component = components v; number = numbers v }

  turn_same : (m n : ℕ) (a b : Turned) → Some a.key ≡ key_of s i m → IsTurnKey a.key → Some b.key ≡ key_of t i n → IsTurnKey b.key
      → turned_eq.ghosts.eq a b ≡ same_entry (own_entry a) (own_entry b)
  turn_same m n a b h small k few =
      one_answer (turned_eq.ghosts.eq a b) (same_entry (own_entry a) (own_entry b)) (turned_decides a b)
      ((λ e. there ((entry_decides (own_entry a) (own_entry b)).0 e)), λ e. (entry_decides (own_entry a) (own_entry b)).1 (ap own_entry e))
    where
      there : own_entry a ≡ own_entry b → a ≡ b
      there e =
          let ranks : rank a.key ≡ rank b.key = ap entry_key e in
          let actions : action_of a.outcome ≡ action_of b.outcome = cc in
          let key = key_is m n a.key b.key h small k few ranks in
          let outcome = outcome_of a.outcome b.outcome actions in
          λ v. record { key = key v; outcome = outcome v }

  -- done entries of a component compare as those of the theory
  done_same : (m n : ℕ) (d e : Done) → IsReady s i m d → IsReady t i n e → same_done d e ≡ same_entry (entry_of d) (entry_of e)
  done_same m n (Turn a minuses) (Turn b others) r q = turn_same m n a b r.0 r.1 q.0 q.1
  done_same m n (Turn a minuses) (Input y) r q = refl
  done_same m n (Input x) (Turn b others) r q = refl
  done_same m n (Input x) (Input y) r q = sym (item_same s Plus i x y r.1 q.1 r.0 q.0)

  all_done_same : (first other : ℕ) (ds es : List Done) → AllReady s i first ds → AllReady t i other es → pointwise same_done ds es ≡ pointwise same_entry (entries_of ds) (entries_of es)
  all_done_same first other [] [] r q = refl
  all_done_same first other [] (e ∷ es) r q = refl
  all_done_same first other (d ∷ ds) [] r q = refl
  all_done_same first other (d ∷ ds) (e ∷ es) r q =
      λ v. done_same (number first (entries_of ds)) (number other (entries_of es)) d e r.0 q.0 v && all_done_same first other ds es r.1 q.1 v

  -- so do its messages of one sign
  all_items_same : (sign : Sign) (xs ys : List Signed) → Each Fits xs → AllGo sign i xs → Each Fits ys → AllGo sign i ys → pointwise is_same xs ys ≡ pointwise same_item (items_of xs) (items_of ys)
  all_items_same sign [] [] f g k l = refl
  all_items_same sign [] (y ∷ ys) f g k l = refl
  all_items_same sign (x ∷ xs) [] f g k l = refl
  all_items_same sign (x ∷ xs) (y ∷ ys) f g k l =
      λ v. sym (item_same s sign i x y f.0 k.0 g.0 l.0) v && all_items_same sign xs ys f.1 g.1 k.1 l.1 v

  queue_same : (sign : Sign) (a b : Around Signed) → IsQueue sign i a → IsQueue sign i b → same_items is_same a b ≡ pointwise same_item (items_of a.after) (items_of b.after)
  queue_same sign a b p q =
      after_same is_same a b p.front q.front ∙ all_items_same sign a.after b.after p.order.fits p.go q.order.fits q.go

  -- the lists compare as the events of the records that they stand for
  pub events_same : (first other : ℕ) (states others : States) (done dones : Around Done) (pending waiting owed owing : Around Signed) (coming next : Option Key)
      → IsValidComponent s i first states done pending owed coming → IsValidComponent t i other others dones waiting owing next
      → (same_items same_done done dones && (same_items is_same pending waiting && same_items is_same owed owing))
      ≡ same_events (record_of states first done pending owed) (record_of others other dones waiting owing)
  events_same first other states others done dones pending waiting owed owing coming next p q =
      let entries = before_same same_done done dones p.ahead q.ahead ∙ all_done_same first other done.before dones.before p.ready q.ready in
      let inputs = queue_same Plus pending waiting p.waiting q.waiting in
      let debts = queue_same Minus owed owing p.owing q.owing in
      λ v. entries v && (inputs v && debts v)

regrouped : (s n b f h d p o : Bool) → (((((((s && n) && b) && f) && h) && d) && p) && o) ≡ ((s && (n && (b && (f && h)))) && (d && (p && o)))
regrouped false n b f h d p o = refl
regrouped true false b f h d p o = refl
regrouped true true false f h d p o = refl
regrouped true true true false h d p o = refl
regrouped true true true true false d p o = refl
regrouped true true true true true false p o = refl
regrouped true true true true true true p o = refl

-- what comes after a test need hold only where the test does
tested : (s n b f h x y : Bool) → (n ≡ true → x ≡ y) → ((s && (n && (b && (f && h)))) && x) ≡ ((s && (n && (b && (f && h)))) && y)
tested false n b f h x y e = refl
tested true false b f h x y e = refl
tested true true b f h x y e = ap (λ z. (b && (f && h)) && z) (e refl)

-- the fields compare as the components that they stand for
pub held_same : {P : Type 0} (eq : P → P → Bool) (setup plan : P) (s t : System) (i j : ℕ) (base bound : Bound) (first other : ℕ) (states others : States) (done dones : Around Done) (pending waiting owed owing : Around Signed) (coming next : Option Key)
    → IsValidComponent s i first states done pending owed coming → IsValidComponent t j other others dones waiting owing next
    → (((((((eq setup plan && nat_eq i j) && bound_eq.ghosts.eq base bound) && nat_eq first other) && same_state (base_state states) (base_state others)) && same_items same_done done dones) && same_items is_same pending waiting) && same_items is_same owed owing)
    ≡ same_held eq (record { setup = setup; number = i; base = base; history = record_of states first done pending owed }) (record { setup = plan; number = j; base = bound; history = record_of others other dones waiting owing })
held_same eq setup plan s t i j base bound first other states others done dones pending waiting owed owing coming next p q =
    regrouped (eq setup plan) (nat_eq i j) (bound_eq.ghosts.eq base bound) (nat_eq first other) (same_state (base_state states) (base_state others)) (same_items same_done done dones) (same_items is_same pending waiting) (same_items is_same owed owing)
    ∙ tested (eq setup plan) (nat_eq i j) (bound_eq.ghosts.eq base bound) (nat_eq first other) (same_state (base_state states) (base_state others)) _ _
    (λ e. events_same s t i first other states others done dones pending waiting owed owing coming next p (subst (λ k. IsValidComponent t k other others dones waiting owing next) (sym (number_is i j e)) q))

-- the value of one more part of a test, from the value so far
pub and_then : (r a s b : Bool) → a ≡ s → a ≡ true → r ≡ b → r ≡ (s && b)
and_then r a true b e h k = k
and_then r a false b e h k = cc

pub and_else : (r a s b : Bool) → a ≡ s → a ≡ false → r ≡ a → r ≡ (s && b)
and_else r a true b e h k = cc
and_else r a false b e h k = k ∙ h
