-- What the steps of a component do to its record.
use Rattle.std.proofs.Common.{◌≡◌, ℕ, Bool, true, false, Option, None, Some, List, [], ◌∷◌, refl, ap, sym, subst, ◌∙◌}
use Rattle.std.specs.Prelude.{cond}
use Rattle.terms.specs.Datum.{Datum}
use Rattle.terms.specs.Named.{Named}
use Rattle.event_keys.specs.declared.key.Key.{Key}
use Rattle.event_keys.specs.declared.message.Sign.TheVariants.{Plus, Minus}
use Rattle.event_keys.specs.declared.message.Signed.{Signed}
use Rattle.event_keys.specs.declared.outcome.Outcome.{Outcome}
use Rattle.event_keys.specs.declared.outcome.Turned.{Turned}
use Rattle.event_keys.specs.Entries.{action_of}
use Rattle.event_keys.specs.Ranks.{rank}
use Rattle.raw_events.specs.Around.{Around, head, tail}
use Rattle.antimessage.specs.Bags.{insert}
use Rattle.antimessage.specs.Order.{IsInOrder, KeyFits}
use Rattle.io_automata.specs.Automata.{Instance}
use Rattle.io_automata.specs.Receivers.{IsIn, Rising}
use Rattle.io_automata.specs.Signatures.{receives, receivers_of}
use Rattle.rollback.specs.Post.{IsPosted, post_all}
use Rattle.rollback.proofs.Sending.{posted_outcome}
use Rattle.undo_records.specs.States.{States, undone}
use Rattle.io_automata.specs.Steps.{applied}
use Rattle.virtual_time.specs.Entries.{Entry, Own, Input as Received, by_own, number, replay}
use Rattle.virtual_time.specs.Records.{Record, next_of, roll_back_of, sent, unsent, without_first, undone as undone_by_theory}
use Rattle.task_seed.specs.Turning.{System}
use Rattle.task_seed.specs.Machines.{machine, turn_outcome}
use Rattle.message_balance.specs.declared.done.Done.{Done}
use Rattle.message_balance.specs.declared.done.Done.TheVariants.{Turn, Input}
use Rattle.rollback.specs.Flight.{item_of, items_of}
use Rattle.rollback.specs.ComponentInvariant.{entries_of, record_of, IsReplayed, AllReady, IsValidComponent}
use Rattle.rollback.specs.Stepped.{IsComingTurn}
use Rattle.rollback.specs.ComponentView.{is_receiving, is_turning, last_of, processed, sent_next}
use Rattle.rollback.specs.Coming.{is_before_own, received, turning, coming_of}
use Rattle.rollback.proofs.Flight.{items_insert}
use Rattle.rollback.proofs.Keeping.{coming_is, number_is, replayed_less}

module _ (s : System) (i first : ℕ) (states : States) (done : Around Done) (pending owed : Around Signed) (own : Option Key) (kept : IsValidComponent s i first states done pending owed own) where
  abbrev now : Record (List Datum) Named
  now = record_of states first done pending owed

  chosen : next_of (machine s) i now ≡ coming_of (machine s) i now (head pending.after) own
  chosen = coming_is s i first states done pending owed own kept

  turning_no : (o : Option Key) → is_receiving (turning (machine s) i now o) ≡ false
  turning_no None = refl
  turning_no (Some key) = refl

  by_head : (xs : List Signed) → is_receiving (coming_of (machine s) i now (head xs) own) ≡ true
      → (x : Signed) × (rest : List Signed) × (xs ≡ x ∷ rest) × (coming_of (machine s) i now (head xs) own ≡ Some (Received (item_of x)))
  by_head [] h = let no = turning_no own in cc
  by_head (x ∷ xs) h = go (is_before_own (Some x) own) refl
    where
      go : (b : Bool) → is_before_own (Some x) own ≡ b → (y : Signed) × (rest : List Signed) × (x ∷ xs ≡ y ∷ rest) × (coming_of (machine s) i now (Some x) own ≡ Some (Received (item_of y)))
      go true e = (x, xs, refl, ap (λ b. cond b (received (Some x)) (turning (machine s) i now own)) e)
      go false e =
          let f : coming_of (machine s) i now (Some x) own ≡ turning (machine s) i now own = ap (λ b. cond b (received (Some x)) (turning (machine s) i now own)) e in
          let no : is_receiving (coming_of (machine s) i now (Some x) own) ≡ false = ap is_receiving f ∙ turning_no own in
          cc

  -- an input comes next: it is the first pending one
  pub receiving_is : is_receiving (next_of (machine s) i now) ≡ true
      → (x : Signed) × (rest : List Signed) × (pending.after ≡ x ∷ rest) × (next_of (machine s) i now ≡ Some (Received (item_of x)))
  receiving_is h =
      let found = by_head pending.after (sym (ap is_receiving chosen) ∙ h) in
      (found.0, found.1, found.2, chosen ∙ found.3)

  by_other : (first : Option Signed) (b : Bool) → is_before_own first own ≡ b → is_receiving (coming_of (machine s) i now first own) ≡ false → coming_of (machine s) i now first own ≡ turning (machine s) i now own
  by_other first false e h = ap (λ b. cond b (received first) (turning (machine s) i now own)) e
  by_other None true e h = cc
  by_other (Some x) true e h =
      let f : coming_of (machine s) i now (Some x) own ≡ Some (Received (item_of x)) = ap (λ b. cond b (received (Some x)) (turning (machine s) i now own)) e in
      let g : is_receiving (coming_of (machine s) i now (Some x) own) ≡ true = ap is_receiving f in
      cc

  -- no input comes next: the own turn does, if there is one
  pub turning_is : is_receiving (next_of (machine s) i now) ≡ false → next_of (machine s) i now ≡ turning (machine s) i now own
  turning_is h = chosen ∙ by_other (head pending.after) (is_before_own (head pending.after) own) refl (sym (ap is_receiving chosen) ∙ h)

  -- whether an input comes next
  pub receiving_by : is_before_own (head pending.after) own ≡ is_receiving (next_of (machine s) i now)
  receiving_by = go pending.after ∙ sym (ap is_receiving chosen)
    where
      go : (xs : List Signed) → is_before_own (head xs) own ≡ is_receiving (coming_of (machine s) i now (head xs) own)
      go [] = sym (turning_no own)
      go (x ∷ xs) = with_b (is_before_own (Some x) own)
        where
          with_b : (b : Bool) → b ≡ is_receiving (cond b (received (Some x)) (turning (machine s) i now own))
          with_b true = refl
          with_b false = sym (turning_no own)

  -- the record after the first pending input
  pub input_record : (x : Signed) (xs : List Signed) → pending.after ≡ x ∷ xs → next_of (machine s) i now ≡ Some (Received (item_of x))
      → record_of (record { current = applied s.composition i x.message.action states.current; below = states.current ∷ states.below }) first (record done { before = Input x ∷ done.before }) (record pending { after = xs }) owed
      ≡ processed (next_of (machine s) i now) now
  input_record x xs h e =
      sym (ap (λ o. processed o now) e
      ∙ ap (λ l. record { base = now.base; first = first; done = Received (item_of x) ∷ now.done; pending = without_first (items_of l); owed = now.owed }) h)

  outcome_is : (key : Key) (outcome : Outcome) → own ≡ Some key → action_of outcome ≡ turn_outcome s i key.number states.current → action_of outcome ≡ turn_outcome s i (number first now.done) (replay (machine s) i now.base now.done)
  outcome_is key outcome h o =
      o ∙ ap (λ n. turn_outcome s i n states.current) (number_is s i (number first now.done) key (sym h ∙ kept.next)) ∙ ap (turn_outcome s i (number first now.done)) kept.replayed.current

  -- the record after the own turn
  pub turn_record : (turned : Turned) (minuses : Around Signed) → IsComingTurn s i now turned
      → record_of (record { current = by_own (machine s) i (action_of turned.outcome) states.current; below = states.current ∷ states.below }) first (record done { before = Turn turned minuses ∷ done.before }) pending owed
      ≡ processed (next_of (machine s) i now) now
  turn_record turned minuses is = sym (ap (λ n. processed n now) is.entry)

  -- the record after the last done entry was taken back
  pub back_turn_record : (turned : Turned) (minuses : Around Signed) (ds : List Done) → done.before ≡ Turn turned minuses ∷ ds
      → record_of (undone states) first (record done { before = ds }) pending owed ≡ roll_back_of (machine s) now
  back_turn_record turned minuses ds h =
      let less = replayed_less s i states ds (Turn turned minuses) (subst (λ (l : List Done). IsReplayed s i states l) h kept.replayed) in
      ap (λ b. record { base = b; first = first; done = entries_of ds; pending = now.pending; owed = now.owed }) less.0
      ∙ sym (ap (λ l. undone_by_theory (machine s) (entries_of l) now) h)

  pub back_input_record : (x : Signed) (ds : List Done) → done.before ≡ Input x ∷ ds
      → record_of (undone states) first (record done { before = ds }) (record pending { after = insert x pending.after }) owed ≡ roll_back_of (machine s) now
  back_input_record x ds h =
      let ready : AllReady s i first (Input x ∷ ds) = subst (λ (l : List Done). AllReady s i first l) h kept.ready in
      let less = replayed_less s i states ds (Input x) (subst (λ (l : List Done). IsReplayed s i states l) h kept.replayed) in
      ap (λ b. record { base = b; first = first; done = entries_of ds; pending = items_of (insert x pending.after); owed = now.owed }) less.0
      ∙ ap (λ p. record { base = now.base; first = first; done = entries_of ds; pending = p; owed = now.owed }) (items_insert s Plus i x pending.after kept.waiting.order ready.0.1 kept.waiting.go ready.0.0)
      ∙ sym (ap (λ l. undone_by_theory (machine s) (entries_of l) now) h)

  not_receiving : (e : Option (Entry Named)) → is_turning e ≡ true → is_receiving e ≡ false
  not_receiving None p = refl
  not_receiving (Some (Own k o)) p = refl
  not_receiving (Some (Received x)) p = cc

  -- the own turn comes next, and this is its key
  pub turning_by : (key : Key) → own ≡ Some key → is_turning (next_of (machine s) i now) ≡ true → next_of (machine s) i now ≡ turning (machine s) i now (Some key)
  turning_by key e h = turning_is (not_receiving (next_of (machine s) i now) h) ∙ ap (turning (machine s) i now) e

  -- and this is what comes of it
  pub turned_is : (turned : Turned) → own ≡ Some turned.key → is_turning (next_of (machine s) i now) ≡ true
      → action_of turned.outcome ≡ turn_outcome s i turned.key.number states.current → IsComingTurn s i now turned
  turned_is turned e h o = record {
    key = sym e ∙ kept.next;
    entry = turning_by turned.key e h ∙ ap (λ a. Some (Own (rank turned.key) a)) (sym (outcome_is turned.key turned.outcome e o));
  }

  pub own_is : (turned : Turned) → IsComingTurn s i now turned → own ≡ Some turned.key
  own_is turned is = kept.next ∙ sym is.key

  -- and then no pending input is before it
  pub not_before : (turned : Turned) → IsComingTurn s i now turned → is_before_own (head pending.after) own ≡ false
  not_before turned is = receiving_by ∙ ap is_receiving is.entry

  -- what is posted where the last done entry, a turn, is taken back
  pub back_turn_sent : (turned : Turned) (minuses : Around Signed) (ds : List Done) (bag : List Signed) → done.before ≡ Turn turned minuses ∷ ds → KeyFits turned.key
      → ((composition : List Instance) (action : Named) (sender : ℕ) → Rising 0 (receivers_of composition action sender))
      → ((composition : List Instance) (action : Named) (sender j : ℕ) → IsIn j (receivers_of composition action sender) ≡ receives composition sender action j)
      → IsInOrder bag
      → IsPosted Minus (unsent (machine s) i (last_of now.done)) bag (post_all minuses.before bag)
  back_turn_sent turned minuses ds bag h fit once all order =
      let ready : AllReady s i first (Turn turned minuses ∷ ds) = subst (λ (l : List Done). AllReady s i first l) h kept.ready in
      let sent = posted_outcome s Minus i turned.key turned.outcome bag fit once all order in
      subst (λ (l : List Done). IsPosted Minus (unsent (machine s) i (last_of (entries_of l))) bag (post_all minuses.before bag)) (sym h)
      (subst (λ (m : Around Signed). IsPosted Minus (unsent (machine s) i (Own (rank turned.key) (action_of turned.outcome) ∷ [])) bag (post_all m.before bag)) (sym ready.0.2) sent)

-- a list with a first item
pub head_tail : {T : Type 0} (x : T) (xs : List T) → Some x ≡ head xs → xs ≡ x ∷ tail xs
head_tail x [] h = cc
head_tail x (y ∷ ys) h = let same : x ≡ y = cc in ap (λ z. z ∷ ys) (sym same)

-- what a turn posts is what the next entry sends
pub turn_sent : (s : System) (i : ℕ) (r : Record (List Datum) Named) (turned : Turned) (old new : List Signed) → IsComingTurn s i r turned
    → IsPosted Plus (sent (machine s) i (rank turned.key) (action_of turned.outcome)) old new → IsPosted Plus (sent_next (machine s) i (next_of (machine s) i r)) old new
turn_sent s i r turned old new is p = subst (λ n. IsPosted Plus (sent_next (machine s) i n) old new) (sym is.entry) p
