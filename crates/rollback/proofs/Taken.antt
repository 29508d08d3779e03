-- All messages to a component are balanced exactly where it has taken what is said.
use Rattle.std.proofs.Common.{◌≡◌, ℕ, ◌+◌, ◌==◌, ◌&&◌, ◌||◌, ◌⊎◌, inl, not, Bool, true, false, Option, List, [], ◌∷◌, refl, ap, sym, subst, ◌∙◌}
use Rattle.std.specs.Prelude.{count_by, ◌↔◌}
use Rattle.std.specs.List.{list_all}
use Rattle.std.proofs.lemmas.Bool.{and_parts, eq-eqb, eqb-true}
use Rattle.terms.specs.Named.{Named}
use Rattle.event_keys.specs.declared.key.Key.{Key}
use Rattle.event_keys.specs.declared.message.Message.{Message}
use Rattle.event_keys.specs.declared.message.Sign.{Sign}
use Rattle.event_keys.specs.declared.message.Sign.TheVariants.{Plus, Minus}
use Rattle.event_keys.specs.declared.message.Signed.{Signed}
use Rattle.event_keys.specs.Ranks.{rank}
use Rattle.raw_events.specs.Around.{Around}
use Rattle.antimessage.specs.Counts.{Each, plus}
use Rattle.antimessage.specs.Order.{Fits, IsInOrder}
use Rattle.undo_records.specs.States.{States}
use Rattle.virtual_time.specs.Bags.{hit, inputs, times}
use Rattle.task_seed.specs.Machines.{machine}
use Rattle.task_seed.specs.Turning.{System}
use Rattle.message_balance.specs.declared.done.Done.{Done}
use Rattle.message_balance.specs.declared.done.Done.TheVariants.{Turn, Input}
use Rattle.message_balance.specs.declared.received.Received.{Received}
use Rattle.rollback.specs.Flight.{goes, in_flight, item_of, items_of}
use Rattle.rollback.specs.ComponentInvariant.{AllReady, IsValidComponent, IsQueue, entries_of, record_of}
use Rattle.message_balance.specs.Balance.{all_of, is_all_taken, is_input_balanced, is_input_of, is_taken_if_to, is_taken_balanced}
use Rattle.rollback.specs.Matched.{IsTaken}
use Rattle.rollback.proofs.Flight.{hit_same, items_flight}
use Rattle.message_balance.proofs.Counting.{all_after, all_before, all_reversed, count_next, count_none, count_reversed, each_passes, passes_each}
use Rattle.rollback.proofs.Levels.{both_or, hit_or, none_or, same_or, times_count}

module _ (s : System) (i : ℕ) where
  -- how often a message was taken as an input
  inputs_count : (m : Message) → (m.to == i) ≡ true → Fits (plus m) → (first : ℕ) (ds : List Done) → AllReady s i first ds → inputs (machine s) (entries_of ds) (rank m.key) m.action ≡ count_by (is_input_of m) ds
  inputs_count m here f first [] ready = refl
  inputs_count m here f first (Turn turned minuses ∷ ds) ready = inputs_count m here f first ds ready.1 ∙ count_none (is_input_of m) (Turn turned minuses) ds refl
  inputs_count m here f first (Input y ∷ ds) ready =
      let one = hit_same s Plus i y (plus m) ready.0.1 f ready.0.0 here in
      let rest = inputs_count m here f first ds ready.1 in
      (λ v. one v + rest v) ∙ count_next (is_input_of m) (Input y) ds

  queue_count : (sign : Sign) (queue : Around Signed) (k : ℕ) (a : Named) → IsQueue sign i queue → times (machine s) (items_of queue.after) k a ≡ times (machine s) (in_flight sign i (all_of queue)) k a
  queue_count sign queue k a q =
      ap (λ xs. times (machine s) xs k a) (sym (items_flight s sign i queue.after q.go))
      ∙ ap (λ xs. times (machine s) (in_flight sign i xs) k a) (sym (all_after queue q.front))

  queue_fits : (sign : Sign) (queue : Around Signed) → IsQueue sign i queue → Each Fits (all_of queue)
  queue_fits sign queue q = subst (λ (xs : List Signed). Each Fits xs) (sym (all_after queue q.front)) q.order.fits

  module _ (t : Received) (first : ℕ) (taken_fits : Each Fits t.taken.now) (tray_fits : Each Fits t.tray.now) (ready : AllReady s i first t.done.now.before) (ahead : t.done.now.after ≡ [])
      (waiting : IsQueue Plus i t.pending.now) (owing : IsQueue Minus i t.owed.now) where
    abbrev left : ℕ → Named → ℕ
    left k a = times (machine s) (in_flight Plus i t.taken.now) k a + times (machine s) (items_of t.owed.now.after) k a + times (machine s) (in_flight Minus i t.tray.now) k a

    abbrev right : ℕ → Named → ℕ
    right k a = inputs (machine s) (entries_of t.done.now.before) k a + times (machine s) (items_of t.pending.now.after) k a + times (machine s) (in_flight Plus i t.tray.now) k a

    balanced_is : (m : Message) → (m.to == i) ≡ true → Fits (plus m) → is_taken_balanced t m ≡ (left (rank m.key) m.action == right (rank m.key) m.action)
    balanced_is m here f =
        let taken = times_count s Plus i m here f t.taken.now taken_fits in
        let owed = queue_count Minus t.owed.now (rank m.key) m.action owing ∙ times_count s Minus i m here f (all_of t.owed.now) (queue_fits Minus t.owed.now owing) in
        let minuses = times_count s Minus i m here f t.tray.now tray_fits in
        let done = inputs_count m here f first t.done.now.before ready ∙ sym (ap (count_by (is_input_of m)) (all_before t.done.now ahead) ∙ count_reversed (is_input_of m) t.done.now.before) in
        let pending = queue_count Plus t.pending.now (rank m.key) m.action waiting ∙ times_count s Plus i m here f (all_of t.pending.now) (queue_fits Plus t.pending.now waiting) in
        let pluses = times_count s Plus i m here f t.tray.now tray_fits in
        sym (λ v. (taken v + owed v + minuses v) == (done v + pending v + pluses v))

    abbrev IsBalanced : ℕ → Named → Type 0
    IsBalanced k a = left k a ≡ right k a

    -- what a balanced message shows
    balanced_at : (x : Signed) (k : ℕ) (a : Named) → (x.message.to == i) ≡ true → Fits x → is_taken_balanced t x.message ≡ true → rank x.message.key ≡ k → x.message.action ≡ a → IsBalanced k a
    balanced_at x k a here f h same_key same_action =
        let balanced : IsBalanced (rank x.message.key) x.message.action = eqb-true _ _ (sym (balanced_is x.message here f) ∙ h) in
        subst (λ b. IsBalanced k b) same_action (subst (λ l. IsBalanced l x.message.action) same_key balanced)

    abbrev IsGood : Signed → Type 0
    IsGood x = Fits x × (is_taken_if_to t i x ≡ true)

    good_at : (sign : Sign) (k : ℕ) (a : Named) (x : Signed) → IsGood x → goes sign i x ≡ true → rank x.message.key ≡ k → x.message.action ≡ a → IsBalanced k a
    good_at Plus k a x q g = balanced_at x k a (and_parts _ (x.message.to == i) g).1 q.0 (ap (λ b. not b || is_taken_balanced t x.message) (sym (and_parts _ (x.message.to == i) g).1) ∙ q.1)
    good_at Minus k a x q g = balanced_at x k a (and_parts _ (x.message.to == i) g).1 q.0 (ap (λ b. not b || is_taken_balanced t x.message) (sym (and_parts _ (x.message.to == i) g).1) ∙ q.1)

    list_or : (sign : Sign) (k : ℕ) (a : Named) (xs : List Signed) → Each Fits xs → list_all (is_taken_if_to t i) xs ≡ true → (times (machine s) (in_flight sign i xs) k a ≡ 0) ⊎ IsBalanced k a
    list_or sign k a xs e h = none_or s (IsBalanced k a) IsGood sign i k a (good_at sign k a) xs (passes_each (is_taken_if_to t i) Fits xs e h)

    queue_or : (sign : Sign) (k : ℕ) (a : Named) (queue : Around Signed) → IsQueue sign i queue → list_all (is_taken_if_to t i) (all_of queue) ≡ true → (times (machine s) (items_of queue.after) k a ≡ 0) ⊎ IsBalanced k a
    queue_or sign k a queue q h = subst (λ n. (n ≡ 0) ⊎ IsBalanced k a) (sym (queue_count sign queue k a q)) (list_or sign k a (all_of queue) (queue_fits sign queue q) h)

    inputs_or : (k : ℕ) (a : Named) (ds : List Done) → AllReady s i first ds → list_all (is_input_balanced t) ds ≡ true → (inputs (machine s) (entries_of ds) k a ≡ 0) ⊎ IsBalanced k a
    inputs_or k a [] ready h = inl refl
    inputs_or k a (Turn turned minuses ∷ ds) ready h = inputs_or k a ds ready.1 h
    inputs_or k a (Input y ∷ ds) ready h =
        let parts = and_parts (is_taken_balanced t y.message) (list_all (is_input_balanced t) ds) h in
        both_or (IsBalanced k a) (hit (machine s) (item_of y) k a) (inputs (machine s) (entries_of ds) k a)
        (hit_or s (IsBalanced k a) (item_of y) k a (balanced_at y k a (and_parts _ (y.message.to == i) ready.0.0).1 ready.0.1 parts.0))
        (inputs_or k a ds ready.1 parts.1)

    taken_from : is_all_taken t i ≡ true → (k : ℕ) (a : Named) → IsBalanced k a
    taken_from h k a =
        let one = and_parts _ (list_all (is_input_balanced t) (all_of t.done.now)) h in
        let two = and_parts _ (list_all (is_taken_if_to t i) (all_of t.owed.now)) one.0 in
        let three = and_parts _ (list_all (is_taken_if_to t i) (all_of t.pending.now)) two.0 in
        let four = and_parts (list_all (is_taken_if_to t i) t.taken.now) (list_all (is_taken_if_to t i) t.tray.now) three.0 in
        let done : list_all (is_input_balanced t) t.done.now.before ≡ true = sym (ap (list_all (is_input_balanced t)) (all_before t.done.now ahead) ∙ all_reversed (is_input_balanced t) t.done.now.before) ∙ one.1 in
        same_or (left k a) (right k a)
        (both_or (IsBalanced k a) _ _ (both_or (IsBalanced k a) _ _ (list_or Plus k a t.taken.now taken_fits four.0) (queue_or Minus k a t.owed.now owing two.1)) (list_or Minus k a t.tray.now tray_fits four.1))
        (both_or (IsBalanced k a) _ _ (both_or (IsBalanced k a) _ _ (inputs_or k a t.done.now.before ready done) (queue_or Plus k a t.pending.now waiting three.1)) (list_or Plus k a t.tray.now tray_fits four.1))

    module _ (h : (k : ℕ) (a : Named) → IsBalanced k a) where
      balanced_by : (m : Message) → (m.to == i) ≡ true → Fits (plus m) → is_taken_balanced t m ≡ true
      balanced_by m here f = balanced_is m here f ∙ eq-eqb _ _ (h (rank m.key) m.action)

      good_by : (x : Signed) → Fits x → is_taken_if_to t i x ≡ true
      good_by x f = go (x.message.to == i) refl where
        go : (b : Bool) → (x.message.to == i) ≡ b → (not b || is_taken_balanced t x.message) ≡ true
        go false e = refl
        go true e = balanced_by x.message e f

      list_by : (xs : List Signed) → Each Fits xs → list_all (is_taken_if_to t i) xs ≡ true
      list_by xs e = each_passes (is_taken_if_to t i) Fits good_by xs e

      inputs_by : (ds : List Done) → AllReady s i first ds → list_all (is_input_balanced t) ds ≡ true
      inputs_by [] ready = refl
      inputs_by (Turn turned minuses ∷ ds) ready = inputs_by ds ready.1
      inputs_by (Input y ∷ ds) ready = let one = balanced_by y.message (and_parts _ (y.message.to == i) ready.0.0).1 ready.0.1 in let rest = inputs_by ds ready.1 in (λ v. one v && rest v)

      taken_by : is_all_taken t i ≡ true
      taken_by =
          let taken = list_by t.taken.now taken_fits in
          let tray = list_by t.tray.now tray_fits in
          let pending = list_by (all_of t.pending.now) (queue_fits Plus t.pending.now waiting) in
          let owed = list_by (all_of t.owed.now) (queue_fits Minus t.owed.now owing) in
          let done = (ap (list_all (is_input_balanced t)) (all_before t.done.now ahead) ∙ all_reversed (is_input_balanced t) t.done.now.before) ∙ inputs_by t.done.now.before ready in
          (λ v. (((taken v && tray v) && pending v) && owed v) && done v)

-- the fields are balanced exactly where the record has taken the messages
pub taken_is : (s : System) (i first : ℕ) (states : States) (own : Option Key) (t : Received) (b : Bool) → b ≡ is_all_taken t i → IsValidComponent s i first states t.done.now t.pending.now t.owed.now own → IsInOrder t.taken.now → IsInOrder t.tray.now
    → (b ≡ true) ↔ IsTaken (machine s) i (record_of states first t.done.now t.pending.now t.owed.now) t.taken.now t.tray.now
taken_is s i first states own t b e kept taken tray =
    (λ h. taken_from s i t first taken.fits tray.fits kept.ready kept.ahead kept.waiting kept.owing (sym e ∙ h), λ h. e ∙ taken_by s i t first taken.fits tray.fits kept.ready kept.ahead kept.waiting kept.owing h)
