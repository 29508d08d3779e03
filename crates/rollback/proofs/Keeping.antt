-- What the fields of a component keep through its steps.
use Rattle.std.proofs.Common.{◌≡◌, ℕ, suc, ◌+◌, ◌<◌, ◌≤◌, ◌==◌, ◌&&◌, ◌||◌, is_some, Bool, true, false, Option, None, Some, List, [], ◌∷◌, refl, ap, sym, subst, ◌∙◌, arith}
use Rattle.std.specs.Prelude.{cond, if◌then◌else◌, nat_lt, IfSome, length}
use Rattle.std.proofs.lemmas.Bool.{lt-ltb, le-ltb}
use Rattle.terms.specs.Datum.{Datum}
use Rattle.terms.specs.Named.{Named}
use Rattle.event_keys.specs.declared.key.Key.{Key}
use Rattle.event_keys.specs.declared.message.Sign.{Sign}
use Rattle.event_keys.specs.declared.message.Sign.TheVariants.{Plus, Minus}
use Rattle.event_keys.specs.declared.message.Message.{Message}
use Rattle.event_keys.specs.declared.message.Signed.{Signed}
use Rattle.event_keys.specs.declared.outcome.Turned.{Turned}
use Rattle.event_keys.specs.Entries.{action_of}
use Rattle.event_keys.specs.Ranks.{rank}
use Rattle.raw_events.specs.Around.{Around, head, first_where}
use Rattle.std.specs.Ordering.{is_gt}
use Rattle.antimessage.specs.Counts.{Each, signed_cmp}
use Rattle.antimessage.specs.Bags.{insert, remove, is_one}
use Rattle.antimessage.specs.Order.{Fits, IsInOrder}
use Rattle.virtual_time.specs.Bags.{insert as theory_insert, remove as theory_remove, has as theory_has}
use Rattle.rollback.proofs.Flight.{order_insert, order_remove, order_tail, go_insert, go_remove, items_insert, items_remove, items_has, items_sorted}
use Rattle.virtual_time.specs.Bags.{IsSorted, inputs}
use Rattle.virtual_time.specs.Records.{is_input}
use Rattle.event_keys.specs.contracts.message.MessagePartialEq.TheImpl as message_eq
use Rattle.antimessage.specs.Counts.{is_same}
use Rattle.task_seed.specs.Clocks.{IsTurnKey}
use Rattle.rollback.specs.ComponentInvariant.{is_entry_input, is_any_input}
use Rattle.rollback.proofs.Flight.{item_same}
use Rattle.rollback.specs.Falling.{IsFalling}
use Rattle.rollback.proofs.Falling.{rises, falling_none, falling_input, falling_turn, falling_back_turn, falling_back_input, falling_insert, falling_remove}
use Rattle.rollback.proofs.Unwinding.{inputs_more}
use Rattle.rollback.proofs.Replays.{length_replays, oldest_replay}
use Rattle.rollback.specs.Post.{opposite, opposed}
use Rattle.undo_records.specs.States.{States, undone}
use Rattle.io_automata.specs.Steps.{applied}
use Rattle.virtual_time.specs.Entries.{Entry, Own, Input as Received, Item, by_own, latest, number, replay}
use Rattle.virtual_time.specs.Records.{Record, own_next, least_of, next_of}
use Rattle.task_seed.specs.Turning.{System, has_turns, ticks, key_at, key_of}
use Rattle.task_seed.specs.Machines.{machine, turn_rank, turn_outcome, end_rank}
use Rattle.message_balance.specs.declared.done.Done.{Done}
use Rattle.message_balance.specs.declared.done.Done.TheVariants.{Turn, Input}
use Rattle.rollback.specs.Flight.{goes, is_sign, item_of, items_of, AllGo}
use Rattle.rollback.specs.Replays.{replays_below}
use Rattle.rollback.specs.ComponentInvariant.{entry_of, entries_of, signed_of, AllReady, IsTimed, base_state, record_of, IsReplayed, IsQueue, IsValidComponent}
use Rattle.rollback.specs.Coming.{is_before_own, turning, coming_of}

-- the rank of a key, or the end where there is none
abbrev rank_or_end : Option Key → ℕ
rank_or_end None = end_rank
rank_or_end (Some key) = rank key

module _ (s : System) (i : ℕ) where
  pub key_rank_is : (n : ℕ) → i < length s.composition → turn_rank s i n ≡ rank_or_end (key_of s i n)
  key_rank_is n there = go (nat_lt i (length s.composition)) (lt-ltb i (length s.composition) there) (has_turns s i (n + 1))
    where
      go : (a : Bool) → a ≡ true → (b : Bool) → (if a && b then rank (key_at i n (ticks s i (n + 1))) else end_rank) ≡ rank_or_end (if b then Some (key_at i n (ticks s i (n + 1))) else None)
      go true h true = refl
      go true h false = refl
      go false h b = cc

  own_is : (r : Record (List Datum) Named) (own : Option Key) → i < length s.composition → own ≡ key_of s i (number r.first r.done) → IfSome own IsTurnKey
      → own_next (machine s) i r ≡ turning (machine s) i r own
  own_is r own there is small =
      let k : turn_rank s i (number r.first r.done) ≡ rank_or_end own = key_rank_is (number r.first r.done) there ∙ ap rank_or_end (sym is) in
      rw k (go own small)
    where
      go : (o : Option Key) → IfSome o IsTurnKey → cond (nat_lt (rank_or_end o) end_rank) (Some (Own (rank_or_end o) (turn_outcome s i (number r.first r.done) (replay (machine s) i r.base r.done)))) None ≡ turning (machine s) i r o
      go None h = rw (le-ltb end_rank end_rank (omega arith)) refl
      go (Some key) h = rw (lt-ltb (rank key) end_rank h.1) refl

  below_by : (x : Signed) (r : Record (List Datum) Named) (own : Option Key) → i < length s.composition → own ≡ key_of s i (number r.first r.done) → IsTimed x
      → nat_lt (rank x.message.key) ((machine s).key i (number r.first r.done)) ≡ is_before_own (Some x) own
  below_by x r own there is timed =
      let k : turn_rank s i (number r.first r.done) ≡ rank_or_end own = key_rank_is (number r.first r.done) there ∙ ap rank_or_end (sym is) in
      rw k (go own)
    where
      go : (o : Option Key) → nat_lt (rank x.message.key) (rank_or_end o) ≡ is_before_own (Some x) o
      go None = lt-ltb (rank x.message.key) end_rank timed
      go (Some key) = refl

  -- the next entry of the theory is the one that the fields give
  pub next_is : (r : Record (List Datum) Named) (xs : List Signed) (own : Option Key) → i < length s.composition → own ≡ key_of s i (number r.first r.done) → IfSome own IsTurnKey
      → (r.pending ≡ items_of xs) → IfSome (head xs) IsTimed → next_of (machine s) i r ≡ coming_of (machine s) i r (head xs) own
  next_is r [] own there is small same timed = ap (least_of (machine s) i r) same ∙ own_is r own there is small
  next_is r (x ∷ xs) own there is small same timed =
      ap (least_of (machine s) i r) same
      ∙ ap (λ b. cond b (Some (Received (item_of x))) (own_next (machine s) i r)) (below_by x r own there is timed)
      ∙ ap (λ o. cond (is_before_own (Some x) own) (Some (Received (item_of x))) o) (own_is r own there is small)

  head_timed : (sign : Sign) (queue : Around Signed) → IsQueue sign i queue → IfSome (head queue.after) IsTimed
  head_timed sign queue q = go queue.after q.timed
    where
      go : (xs : List Signed) → Each IsTimed xs → IfSome (head xs) IsTimed
      go [] e = tt
      go (x ∷ xs) e = e.0

  -- the next entry, from the fields
  pub coming_is : (first : ℕ) (states : States) (done : Around Done) (pending owed : Around Signed) (own : Option Key) → IsValidComponent s i first states done pending owed own
      → next_of (machine s) i (record_of states first done pending owed) ≡ coming_of (machine s) i (record_of states first done pending owed) (head pending.after) own
  coming_is first states done pending owed own kept =
      next_is (record_of states first done pending owed) pending.after own kept.there kept.next kept.small refl (head_timed Plus pending kept.waiting)

  -- an entry is done
  replayed_more : (states : States) (ds : List Done) (d : Done) (new : List Datum) → IsReplayed s i states ds
      → new ≡ replay (machine s) i (base_state states) (entry_of d ∷ entries_of ds) → IsReplayed s i (record { current = new; below = states.current ∷ states.below }) (d ∷ ds)
  replayed_more states ds d new is e =
      record {
        current = e;
        below = λ v. is.current v ∷ is.below v;
      }

  -- the last entry is taken back
  undone_is : (current : List Datum) (below : List (List Datum)) (b : List Datum) (e : Entry Named) (es : List (Entry Named)) → below ≡ replays_below (machine s) i b (e ∷ es)
      → undone (record { current = current; below = below }) ≡ record { current = replay (machine s) i b es; below = replays_below (machine s) i b es }
  undone_is current below b e es h = ap (λ l. undone (record { current = current; below = l })) h

  pub replayed_less : (states : States) (ds : List Done) (d : Done) → IsReplayed s i states (d ∷ ds)
      → (base_state (undone states) ≡ base_state states) × IsReplayed s i (undone states) ds
  replayed_less states ds d is =
      let u = undone_is states.current states.below (base_state states) (entry_of d) (entries_of ds) is.below in
      let b : base_state (undone states) ≡ base_state states = ap base_state u ∙ oldest_replay (machine s) i (base_state states) (entries_of ds) in (
        b,
        record {
          current = ap (λ t. t.current) u ∙ ap (λ z. replay (machine s) i z (entries_of ds)) (sym b);
          below = ap (λ t. t.below) u ∙ ap (λ z. replays_below (machine s) i z (entries_of ds)) (sym b);
        },
      )

  -- the number of the turn of a key
  pub number_is : (n : ℕ) (key : Key) → Some key ≡ key_of s i n → key.number ≡ n
  number_is n key h = go (has_turns s i (n + 1)) h
    where
      go : (b : Bool) → Some key ≡ (if b then Some (key_at i n (ticks s i (n + 1))) else None) → key.number ≡ n
      go true e = let same : key ≡ key_at i n (ticks s i (n + 1)) = cc in ap (λ k. k.number) same
      go false e = cc

  timed_insert : (x : Signed) (xs : List Signed) → IsTimed x → Each IsTimed xs → Each IsTimed (insert x xs)
  timed_insert x [] h e = (h, tt)
  timed_insert x (y ∷ ys) h e = go (timed_insert x ys h e.1) (is_gt (signed_cmp y x))
    where
      go : Each IsTimed (insert x ys) → (b : Bool) → Each IsTimed (if b then x ∷ y ∷ ys else y ∷ insert x ys)
      go rest true = (h, e)
      go rest false = (e.0, rest)

  timed_remove : (x : Signed) (xs : List Signed) → Each IsTimed xs → Each IsTimed (remove x xs)
  timed_remove x [] e = tt
  timed_remove x (y ∷ ys) e = go (timed_remove x ys e.1) (is_one x y)
    where
      go : Each IsTimed (remove x ys) → (b : Bool) → Each IsTimed (if b then ys else y ∷ remove x ys)
      go rest true = e.1
      go rest false = (e.0, rest)

  pub queue_insert : (sign : Sign) (queue : Around Signed) (x : Signed) → IsQueue sign i queue → Fits x → goes sign i x ≡ true → IsTimed x
      → IsQueue sign i (record queue { after = insert x queue.after })
  queue_insert sign queue x q fits go timed =
      record { front = q.front; order = order_insert x queue.after q.order fits; go = go_insert s sign i x queue.after q.go go; timed = timed_insert x queue.after timed q.timed }

  pub queue_remove : (sign : Sign) (queue : Around Signed) (x : Signed) → IsQueue sign i queue → IsQueue sign i (record queue { after = remove x queue.after })
  queue_remove sign queue x q =
      record { front = q.front; order = order_remove x queue.after q.order; go = go_remove s sign i x queue.after q.go; timed = timed_remove x queue.after q.timed }

  queue_tail : (sign : Sign) (queue : Around Signed) (x : Signed) (xs : List Signed) → queue.after ≡ x ∷ xs → IsQueue sign i queue
      → (goes sign i x ≡ true) × Fits x × IsTimed x × IsQueue sign i (record queue { after = xs })
  queue_tail sign queue x xs h q =
      let order : IsInOrder (x ∷ xs) = subst (λ (l : List Signed). IsInOrder l) h q.order in
      let go : AllGo sign i (x ∷ xs) = subst (λ (l : List Signed). AllGo sign i l) h q.go in
      let timed : Each IsTimed (x ∷ xs) = subst (λ (l : List Signed). Each IsTimed l) h q.timed in
      (go.0, order.fits.0, timed.0, record { front = q.front; order = order_tail x xs order; go = go.1; timed = timed.1 })

  pub queue_items_insert : (sign : Sign) (queue : Around Signed) (x : Signed) → IsQueue sign i queue → Fits x → goes sign i x ≡ true
      → items_of (insert x queue.after) ≡ theory_insert (machine s) (item_of x) (items_of queue.after)
  queue_items_insert sign queue x q fits go = items_insert s sign i x queue.after q.order fits q.go go

  pub queue_items_remove : (sign : Sign) (queue : Around Signed) (x : Signed) → IsQueue sign i queue → Fits x → goes sign i x ≡ true
      → items_of (remove x queue.after) ≡ theory_remove (machine s) (item_of x) (items_of queue.after)
  queue_items_remove sign queue x q fits go = items_remove s sign i x queue.after q.order.fits fits q.go go

  pub queue_items_has : (sign : Sign) (queue : Around Signed) (x : Signed) → IsQueue sign i queue → Fits x → goes sign i x ≡ true
      → is_some (first_where (is_one x) queue.after) ≡ theory_has (machine s) (item_of x) (items_of queue.after)
  queue_items_has sign queue x q fits go = items_has s sign i x queue.after q.order.fits fits q.go go

  -- the first pending input is done
  pub kept_input : (first : ℕ) (states : States) (done : Around Done) (pending owed : Around Signed) (own : Option Key) (x : Signed) (xs : List Signed)
      → IsValidComponent s i first states done pending owed own → pending.after ≡ x ∷ xs → is_before_own (head pending.after) own ≡ true
      → IsValidComponent s i first (record { current = applied s.composition i x.message.action states.current; below = states.current ∷ states.below }) (record done { before = Input x ∷ done.before }) (record pending { after = xs }) owed own
  kept_input first states done pending owed own x xs kept h before =
      let t = queue_tail Plus pending x xs h kept.waiting in
      record {
        there = kept.there;
        replayed = replayed_more states done.before (Input x) (applied s.composition i x.message.action states.current) kept.replayed (ap (applied s.composition i x.message.action) kept.replayed.current);
        ready = ((t.0, t.1, t.2), kept.ready);
        ahead = kept.ahead;
        next = kept.next;
        small = kept.small;
        waiting = t.3;
        owing = kept.owing;
        falling = falling_input (machine s) (entries_of done.before) x xs own (subst (λ (l : List Signed). IsFalling (entries_of done.before) (items_of l) own) h kept.falling)
            (subst (λ (l : List Signed). IsSorted (machine s) (items_of l)) h (items_sorted s Plus i pending.after kept.waiting.order kept.waiting.go)) (sym (ap (λ l. is_before_own (head l) own) h) ∙ before);
      }

  -- the own turn is done
  pub kept_turn : (first : ℕ) (states : States) (done : Around Done) (pending owed : Around Signed) (own next : Option Key) (turned : Turned)
      → IsValidComponent s i first states done pending owed own → own ≡ Some turned.key → next ≡ key_of s i (turned.key.number + 1) → IfSome next IsTurnKey → is_before_own (head pending.after) own ≡ false
      → IsValidComponent s i first (record { current = by_own (machine s) i (action_of turned.outcome) states.current; below = states.current ∷ states.below }) (record done { before = Turn turned (record { before = signed_of s Minus i turned.key turned.outcome; after = [] }) ∷ done.before }) pending owed next
  kept_turn first states done pending owed own next turned kept h is small before =
      let n = number first (entries_of done.before) in
      let there : Some turned.key ≡ key_of s i n = sym h ∙ kept.next in
      let same : turned.key.number ≡ n = number_is n turned.key there in
      record {
        there = kept.there;
        replayed = replayed_more states done.before (Turn turned (record { before = signed_of s Minus i turned.key turned.outcome; after = [] })) (by_own (machine s) i (action_of turned.outcome) states.current) kept.replayed (ap (by_own (machine s) i (action_of turned.outcome)) kept.replayed.current);
        ready = ((there, subst (λ (o : Option Key). IfSome o IsTurnKey) h kept.small, refl), kept.ready);
        ahead = kept.ahead;
        next = is ∙ ap (key_of s i) (let e : turned.key.number + 1 ≡ suc n = omega (arith, same) in e);
        small = small;
        waiting = kept.waiting;
        owing = kept.owing;
        falling = falling_turn (machine s) (entries_of done.before) pending.after turned.key (action_of turned.outcome) next (subst (λ (o : Option Key). IsFalling (entries_of done.before) (items_of pending.after) o) h kept.falling)
            (items_sorted s Plus i pending.after kept.waiting.order kept.waiting.go) (sym (ap (is_before_own (head pending.after)) h) ∙ before)
            (rises s i turned.key.number turned.key next (there ∙ ap (key_of s i) (sym same)) is);
      }

  -- the last done entry, a turn, is taken back
  pub kept_back_turn : (first : ℕ) (states : States) (done : Around Done) (pending owed : Around Signed) (own : Option Key) (turned : Turned) (minuses : Around Signed) (ds : List Done)
      → IsValidComponent s i first states done pending owed own → done.before ≡ Turn turned minuses ∷ ds
      → IsValidComponent s i first (undone states) (record done { before = ds }) pending owed (Some turned.key)
  kept_back_turn first states done pending owed own turned minuses ds kept h =
      let ready : AllReady s i first (Turn turned minuses ∷ ds) = subst (λ (l : List Done). AllReady s i first l) h kept.ready in
      let less = replayed_less states ds (Turn turned minuses) (subst (λ (l : List Done). IsReplayed s i states l) h kept.replayed) in
      record {
        there = kept.there;
        replayed = less.1;
        ready = ready.1;
        ahead = kept.ahead;
        next = ready.0.0;
        small = ready.0.1;
        waiting = kept.waiting;
        owing = kept.owing;
        falling = falling_back_turn (machine s) (entries_of ds) (items_of pending.after) turned.key (action_of turned.outcome) own (subst (λ (l : List Done). IsFalling (entries_of l) (items_of pending.after) own) h kept.falling);
      }

  -- the last done entry, an input, is taken back
  pub kept_back_input : (first : ℕ) (states : States) (done : Around Done) (pending owed : Around Signed) (own : Option Key) (x : Signed) (ds : List Done)
      → IsValidComponent s i first states done pending owed own → done.before ≡ Input x ∷ ds
      → IsValidComponent s i first (undone states) (record done { before = ds }) (record pending { after = insert x pending.after }) owed own
  kept_back_input first states done pending owed own x ds kept h =
      let ready : AllReady s i first (Input x ∷ ds) = subst (λ (l : List Done). AllReady s i first l) h kept.ready in
      let less = replayed_less states ds (Input x) (subst (λ (l : List Done). IsReplayed s i states l) h kept.replayed) in
      record {
        there = kept.there;
        replayed = less.1;
        ready = ready.1;
        ahead = kept.ahead;
        next = kept.next ∙ ap (λ l. key_of s i (number first (entries_of l))) h;
        small = kept.small;
        waiting = queue_insert Plus pending x kept.waiting ready.0.1 ready.0.0 ready.0.2;
        owing = kept.owing;
        falling = subst (λ (l : List (Item Named)). IsFalling (entries_of ds) l own) (sym (queue_items_insert Plus pending x kept.waiting ready.0.1 ready.0.0))
            (falling_back_input (machine s) (entries_of ds) (item_of x) (items_of pending.after) own (subst (λ (l : List Done). IsFalling (entries_of l) (items_of pending.after) own) h kept.falling));
      }

  -- the fields at the start
  pub kept_new : (state : List Datum) (own : Option Key) → i < length s.composition → own ≡ key_of s i 0 → IfSome own IsTurnKey
      → IsValidComponent s i 0 (record { current = state; below = [] }) (record { before = []; after = [] }) (record { before = []; after = [] }) (record { before = []; after = [] }) own
  kept_new state own there is small =
      record {
        there = there;
        replayed = record { current = refl; below = refl };
        ready = tt;
        ahead = refl;
        next = is;
        small = small;
        waiting = record { front = refl; order = record { sorted = tt; fits = tt }; go = tt; timed = tt };
        owing = record { front = refl; order = record { sorted = tt; fits = tt }; go = tt; timed = tt };
        falling = falling_none own;
      }

  -- other pending inputs, or other owed antimessages
  pub with_waiting : (first : ℕ) (states : States) (done : Around Done) (pending owed new : Around Signed) (own : Option Key) → IsValidComponent s i first states done pending owed own → IsQueue Plus i new
      → IsFalling (entries_of done.before) (items_of new.after) own → IsValidComponent s i first states done new owed own
  with_waiting first states done pending owed new own kept q falling =
      record { there = kept.there; replayed = kept.replayed; ready = kept.ready; ahead = kept.ahead; next = kept.next; small = kept.small; waiting = q; owing = kept.owing; falling = falling }

  module _ (first : ℕ) (states : States) (done : Around Done) (pending owed : Around Signed) (own : Option Key) (kept : IsValidComponent s i first states done pending owed own) where
    pub waiting_insert : (x : Signed) → Fits x → goes Plus i x ≡ true → latest 0 (entries_of done.before) ≤ rank x.message.key → IsFalling (entries_of done.before) (items_of (insert x pending.after)) own
    waiting_insert x fits there late =
        subst (λ (l : List (Item Named)). IsFalling (entries_of done.before) l own) (sym (queue_items_insert Plus pending x kept.waiting fits there))
        (falling_insert (machine s) (entries_of done.before) (item_of x) (items_of pending.after) own kept.falling late)

    pub waiting_remove : (x : Signed) → Fits x → goes Plus i x ≡ true → IsFalling (entries_of done.before) (items_of (remove x pending.after)) own
    waiting_remove x fits there =
        subst (λ (l : List (Item Named)). IsFalling (entries_of done.before) l own) (sym (queue_items_remove Plus pending x kept.waiting fits there))
        (falling_remove (machine s) (entries_of done.before) (item_of x) (items_of pending.after) own kept.falling)

  pub with_owing : (first : ℕ) (states : States) (done : Around Done) (pending owed new : Around Signed) (own : Option Key) → IsValidComponent s i first states done pending owed own → IsQueue Minus i new
      → IsValidComponent s i first states done pending new own
  with_owing first states done pending owed new own kept q =
      record { there = kept.there; replayed = kept.replayed; ready = kept.ready; ahead = kept.ahead; next = kept.next; small = kept.small; waiting = kept.waiting; owing = q; falling = kept.falling }

  -- as many states as done entries below the current one
  pub depth_is : (states : States) (ds : List Done) → IsReplayed s i states ds → length states.below ≡ length (entries_of ds)
  depth_is states ds is = ap (λ l. length l) is.below ∙ length_replays (machine s) i (base_state states) (entries_of ds)

  -- the opposite goes the same way
  pub opposed_goes : (sign : Sign) (x : Signed) → goes sign i x ≡ true → goes (opposite sign) i (opposed x) ≡ true
  opposed_goes Plus x h = go x.sign h
    where
      go : (t : Sign) → (is_sign Plus t && (x.message.to == i)) ≡ true → (is_sign Minus (opposite t) && (x.message.to == i)) ≡ true
      go Plus e = e
      go Minus e = cc
  opposed_goes Minus x h = go x.sign h
    where
      go : (t : Sign) → (is_sign Minus t && (x.message.to == i)) ≡ true → (is_sign Plus (opposite t) && (x.message.to == i)) ≡ true
      go Plus e = cc
      go Minus e = e

  -- messages of one sign are equal where they are the same message
  same_plus : (a b : Message) → message_eq.ghosts.eq a b ≡ is_same (record { message = a; sign = Plus }) (record { message = b; sign = Plus })
  same_plus a b = go (message_eq.ghosts.eq a b)
    where
      go : (t : Bool) → t ≡ (t && true)
      go true = refl
      go false = refl

  plus_of : (y : Signed) → goes Plus i y ≡ true → y.sign ≡ Plus
  plus_of y h = go y.sign h
    where
      go : (t : Sign) → (is_sign Plus t && (y.message.to == i)) ≡ true → t ≡ Plus
      go Plus e = refl
      go Minus e = cc

  -- an entry is the input of an antimessage's message, in the code and in the theory
  entry_input_is : (x y : Signed) → Fits x → goes Minus i x ≡ true → Fits y → goes Plus i y ≡ true → is_entry_input x (Input y) ≡ is_input (machine s) (item_of x) (Received (item_of y))
  entry_input_is x y f g fy gy =
      same_plus y.message x.message
      ∙ sym (λ v. is_same (record { message = y.message; sign = plus_of y gy v }) (record { message = x.message; sign = plus_of (opposed x) (opposed_goes Minus x g) v }))
      ∙ sym (item_same s Plus i y (opposed x) fy f gy (opposed_goes Minus x g))

  pub any_input_is : (first : ℕ) (x : Signed) (ds : List Done) → AllReady s i first ds → Fits x → goes Minus i x ≡ true
      → is_any_input x ds ≡ nat_lt 0 (inputs (machine s) (entries_of ds) (rank x.message.key) x.message.action)
  any_input_is first x [] ready f g = refl
  any_input_is first x (Turn turned minuses ∷ ds) ready f g = any_input_is first x ds ready.1 f g
  any_input_is first x (Input y ∷ ds) ready f g =
      (λ v. entry_input_is x y f g ready.0.1 ready.0.0 v || any_input_is first x ds ready.1 f g v)
      ∙ sym (inputs_more (machine s) i (item_of x) (item_of y) (entries_of ds))
