-- Each step of a world is the theory's.
use Rattle.std.proofs.Common.{◌≡◌, ℕ, ◌<◌, ◌==◌, ◌⊎◌, inl, inr, Bool, true, false, cond, None, Some, List, [], ◌∷◌, length, refl, ap, sym, subst, ◌∙◌}
use Rattle.std.specs.Prelude.{slice_get, slice_set, if◌then◌else◌}
use Rattle.std.proofs.lemmas.Bool.{eq-eqb, ne_eqb, cases_eq}
use Rattle.terms.specs.Datum.{Datum}
use Rattle.terms.specs.Named.{Named}
use Rattle.event_keys.specs.declared.message.Message.{Message}
use Rattle.event_keys.specs.declared.message.Sign.TheVariants.{Plus, Minus}
use Rattle.event_keys.specs.declared.message.Signed.{Signed}
use Rattle.antimessage.specs.Bags.{has_pair, is_one, met, remove as remove_one}
use Rattle.std.specs.Ordering.{is_gt}
use Rattle.antimessage.specs.Counts.{Each, IsSorted, minus, plus, signed_cmp}
use Rattle.antimessage.specs.Order.{Fits, IsInOrder, KeyFits}
use Rattle.virtual_time.specs.Bags.{insert, remove}
use Rattle.virtual_time.specs.Entries.{Entry, Input, Item, Own}
use Rattle.virtual_time.specs.Machine.{Lawful, Machine}
use Rattle.virtual_time.specs.Records.{Record, after_entry, antimessage_comes, back_by_antimessage, back_by_message, message_comes, next_of, roll_back_of, sent_by, undone, unsent}
use Rattle.virtual_time.specs.Worlds.{World, can_meet, deliver_antimessage, deliver_message, meet, process, process_entry, put_back, record_of, roll_back, same, taken_at, undo_entry}
use Rattle.rollback.specs.Flight.{in_flight, item_of}
use Rattle.rollback.specs.ComponentView.{ComponentView, last_of, processed, sent_next}
use Rattle.rollback.specs.Post.{IsPosted}
use Rattle.world.specs.MachineLaws.{FlightLaws}
use Rattle.world.specs.Simulation.{Simulation, world_of}
use Rattle.world.proofs.Putting.{flown_world, put_world, was_record}

-- what is left of a bag is in order
each_removed : (Q : Signed → Type 0) (x : Signed) (xs : List Signed) → Each Q xs → Each Q (remove_one x xs)
each_removed Q x [] e = tt
each_removed Q x (y ∷ ys) e = go (is_one x y) (each_removed Q x ys e.1)
  where
    go : (b : Bool) → Each Q (remove_one x ys) → Each Q (if b then ys else y ∷ remove_one x ys)
    go true rest = e.1
    go false rest = (e.0, rest)

sorted_removed : (x : Signed) (xs : List Signed) → IsSorted xs → IsSorted (remove_one x xs)
sorted_removed x [] o = tt
sorted_removed x (y ∷ ys) o = go (is_one x y) (sorted_removed x ys o.1)
  where
    go : (b : Bool) → IsSorted (remove_one x ys) → IsSorted (if b then ys else y ∷ remove_one x ys)
    go true rest = o.1
    go false rest = (each_removed (λ z. is_gt (signed_cmp y z) ≡ false) x ys o.0, rest)

pub order_removed : (x : Signed) (xs : List Signed) → IsInOrder xs → IsInOrder (remove_one x xs)
order_removed x xs o = record { sorted = sorted_removed x xs o.sorted; fits = each_removed Fits x xs o.fits }

-- what is in flight to component j of what an own entry adds
unsent_own : (m : Machine (List Datum) Named) (law : Lawful m) (i : ℕ) (es : List (Entry Named)) (xs : List (Item Named)) → unsent m i es i xs ≡ xs
unsent_own m law i [] xs = refl
unsent_own m law i (Own k None ∷ es) xs = unsent_own m law i es xs
unsent_own m law i (Own k (Some a) ∷ es) xs = ap (λ b. unsent m i es i (cond b (insert m (record { key = k; action = a }) xs) xs)) (law.others i a) ∙ unsent_own m law i es xs
unsent_own m law i (Input x ∷ es) xs = unsent_own m law i es xs

module _ {P : Type 0} (m : Machine (List Datum) Named) (law : Lawful m) (w : Simulation P) (i : ℕ) (c : ComponentView P) (there : i < length w.components) (was : slice_get w.components i ≡ Some c) (number : c.number ≡ i) where
  -- the world where component i has a new record
  abbrev pub with_history : Record (List Datum) Named → List Signed → Simulation P
  with_history r flight = record w { components = slice_set w.components i (record c { history = r }); flight = flight }

  abbrev r : Record (List Datum) Named
  r = c.history

  abbrev before : World (List Datum) Named
  before = world_of m w

  pub record_is : record_of (before.part i) ≡ c.history
  record_is = was_record m w i c (record c { history = c.history }) there was w.flight same same (λ j. refl) (λ j. refl)

  done_is : (before.part i).done ≡ c.history.done
  done_is = ap (λ (q : Record (List Datum) Named). q.done) record_is

  -- the next entry is done
  pub processes : (e : Entry Named) (flight : List Signed) → next_of m c.number c.history ≡ Some e → IsPosted Plus (sent_next m c.number (next_of m c.number c.history)) w.flight flight
      → world_of m (with_history (processed (next_of m c.number c.history) c.history) flight) ≡ process m i before
  processes e flight next posted =
      let next_is : next_of m i (record_of (before.part i)) ≡ Some e = ap (next_of m i) record_is ∙ ap (λ n. next_of m n c.history) (sym number) ∙ next in
      let pluses : (j : ℕ) → in_flight Plus j flight ≡ sent_by m i e j (in_flight Plus j w.flight)
      = λ j. posted.there j ∙ ap (λ o. sent_next m c.number o j (in_flight Plus j w.flight)) next ∙ ap (λ n. sent_by m n e j (in_flight Plus j w.flight)) number in
      ap (λ o. world_of m (with_history (processed o c.history) flight)) next
      ∙ put_world m w i c (record c { history = after_entry e c.history }) there was flight (sent_by m i e) same pluses (λ j. posted.other j)
      ∙ ap (λ q. put_back i (after_entry e q) (sent_by m i e) same before) (sym record_is)
      ∙ ap (λ o. process_entry m i o before) (sym next_is)

  -- the last done entry is taken back
  pub rolls_back : (e : Entry Named) (es : List (Entry Named)) (flight : List Signed) → c.history.done ≡ e ∷ es → IsPosted Minus (unsent m c.number (last_of c.history.done)) w.flight flight
      → world_of m (with_history (roll_back_of m c.history) flight) ≡ roll_back m i before
  rolls_back e es flight done posted =
      let minuses : (j : ℕ) → in_flight Minus j flight ≡ sent_by m i e j (in_flight Minus j w.flight)
      = λ j. posted.there j ∙ ap (λ o. unsent m c.number (last_of o) j (in_flight Minus j w.flight)) done ∙ ap (λ n. sent_by m n e j (in_flight Minus j w.flight)) number in
      ap (λ o. world_of m (with_history (undone m o c.history) flight)) done
      ∙ put_world m w i c (record c { history = undone m (e ∷ es) c.history }) there was flight same (sent_by m i e) (λ j. posted.other j) minuses
      ∙ ap (λ q. put_back i (undone m (e ∷ es) q) same (sent_by m i e) before) (sym record_is)
      ∙ ap (λ o. undo_entry m i o before) (sym (done_is ∙ done))

module _ (m : Machine (List Datum) Named) (laws : FlightLaws m) (message : Message) (fits : KeyFits message.key) (bag : List Signed) (order : IsInOrder bag) where
  turned : (a b : ℕ) (X : Type 0) (f g : X) → cond (a == b) f g ≡ cond (b == a) f g
  turned a b X f g = go (cases_eq a b)
    where
      go : (a ≡ b) ⊎ (a ≡ b → ⊥) → cond (a == b) f g ≡ cond (b == a) f g
      go (inl e) = ap (λ t. cond t f g) (eq-eqb a b e ∙ sym (eq-eqb b a (sym e)))
      go (inr ne) = ap (λ t. cond t f g) (ne_eqb a b ne ∙ sym (ne_eqb b a (λ e. ne (sym e))))

  abbrev x : Item Named
  x = item_of (plus message)

  -- a message leaves what is in flight
  pub plus_left : (j : ℕ) → in_flight Plus j (remove_one (plus message) bag) ≡ taken_at m message.to x j (in_flight Plus j bag)
  plus_left j = laws.removed Plus j (plus message) bag order fits ∙ turned message.to j (List (Item Named)) (remove m x (in_flight Plus j bag)) (in_flight Plus j bag)

  pub plus_stays : (j : ℕ) → in_flight Minus j (remove_one (plus message) bag) ≡ in_flight Minus j bag
  plus_stays j = laws.removed Minus j (plus message) bag order fits

  -- an antimessage leaves what is in flight
  pub minus_left : (j : ℕ) → in_flight Minus j (remove_one (minus message) bag) ≡ taken_at m message.to x j (in_flight Minus j bag)
  minus_left j = laws.removed Minus j (minus message) bag order fits ∙ turned message.to j (List (Item Named)) (remove m x (in_flight Minus j bag)) (in_flight Minus j bag)

  pub minus_stays : (j : ℕ) → in_flight Plus j (remove_one (minus message) bag) ≡ in_flight Plus j bag
  minus_stays j = laws.removed Plus j (minus message) bag order fits

module _ {P : Type 0} (m : Machine (List Datum) Named) (law : Lawful m) (laws : FlightLaws m) (w : Simulation P) (order : IsInOrder w.flight) (message : Message) (fits : KeyFits message.key) where
  abbrev i : ℕ
  i = message.to

  abbrev y : Item Named
  y = item_of (plus message)

  module _ (c : ComponentView P) (there : message.to < length w.components) (was : slice_get w.components message.to ≡ Some c) (number : c.number ≡ message.to) (flight : List Signed) where
    -- a message comes
    pub message_delivered : IsPosted Minus (unsent m c.number (back_by_message m y c.history)) (remove_one (plus message) w.flight) flight
        → world_of m (record w { components = slice_set w.components i (record c { history = message_comes m y c.history }); flight = flight }) ≡ deliver_message m i y (world_of m w)
    message_delivered posted =
        let seen = record_is m law w i c there was number in
        let pluses : (j : ℕ) → in_flight Plus j flight ≡ taken_at m i y j (in_flight Plus j w.flight) = λ j. posted.other j ∙ plus_left m laws message fits w.flight order j in
        let minuses : (j : ℕ) → in_flight Minus j flight ≡ unsent m i (back_by_message m y c.history) j (in_flight Minus j w.flight)
        = λ j. posted.there j ∙ ap (unsent m c.number (back_by_message m y c.history) j) (plus_stays m laws message fits w.flight order j) ∙ ap (λ n. unsent m n (back_by_message m y c.history) j (in_flight Minus j w.flight)) number in
        put_world m w i c (record c { history = message_comes m y c.history }) there was flight (taken_at m i y) (unsent m i (back_by_message m y c.history)) pluses minuses
        ∙ ap (λ q. put_back i (message_comes m y q) (taken_at m i y) (unsent m i (back_by_message m y q)) (world_of m w)) (sym seen)

    -- an antimessage comes
    pub antimessage_delivered : IsPosted Minus (unsent m c.number (back_by_antimessage m y c.history)) (remove_one (minus message) w.flight) flight
        → world_of m (record w { components = slice_set w.components i (record c { history = antimessage_comes m y c.history }); flight = flight }) ≡ deliver_antimessage m i y (world_of m w)
    antimessage_delivered posted =
        let seen = record_is m law w i c there was number in
        let pluses : (j : ℕ) → in_flight Plus j flight ≡ in_flight Plus j w.flight = λ j. posted.other j ∙ minus_stays m laws message fits w.flight order j in
        let minuses : (j : ℕ) → in_flight Minus j flight ≡ taken_at m i y j (unsent m i (back_by_antimessage m y c.history) j (in_flight Minus j w.flight))
        = λ j. posted.there j ∙ ap (unsent m c.number (back_by_antimessage m y c.history) j) (minus_left m laws message fits w.flight order j) ∙ ap (λ n. unsent m n (back_by_antimessage m y c.history) j (taken_at m i y j (in_flight Minus j w.flight))) number
        ∙ across (back_by_antimessage m y c.history) j (in_flight Minus j w.flight) in
        put_world m w i c (record c { history = antimessage_comes m y c.history }) there was flight same (λ l xs. taken_at m i y l (unsent m i (back_by_antimessage m y c.history) l xs)) pluses minuses
        ∙ ap (λ q. put_back i (antimessage_comes m y q) same (λ l xs. taken_at m i y l (unsent m i (back_by_antimessage m y q) l xs)) (world_of m w)) (sym seen)
      where
        -- what leaves is to the component, what is sent is to others
        across : (es : List (Entry Named)) (j : ℕ) (xs : List (Item Named)) → unsent m i es j (taken_at m i y j xs) ≡ taken_at m i y j (unsent m i es j xs)
        across es j xs = go (cases_eq j i)
          where
            go : (j ≡ i) ⊎ (j ≡ i → ⊥) → unsent m i es j (taken_at m i y j xs) ≡ taken_at m i y j (unsent m i es j xs)
            go (inl e) =
                subst (λ n. unsent m i es n (taken_at m i y n xs) ≡ taken_at m i y n (unsent m i es n xs)) (sym e)
                (unsent_own m law i es (taken_at m i y i xs) ∙ ap (taken_at m i y i) (sym (unsent_own m law i es xs)))
            go (inr ne) =
                ap (λ t. unsent m i es j (cond t (remove m y xs) xs)) (ne_eqb j i ne)
                ∙ sym (ap (λ t. cond t (remove m y (unsent m i es j xs)) (unsent m i es j xs)) (ne_eqb j i ne))

  -- a message meets its antimessage
  pub message_met : has_pair message w.flight ≡ true → world_of m (record w { flight = met message w.flight }) ≡ meet m i y (world_of m w)
  message_met both =
      let ordered = order_removed (minus message) w.flight order in
      ap (λ (b : Bool). world_of m (record w { flight = if b then remove_one (plus message) (remove_one (minus message) w.flight) else w.flight })) both
      ∙ flown_world m w i (remove_one (plus message) (remove_one (minus message) w.flight)) (taken_at m i y) (taken_at m i y)
      (λ j. plus_left m laws message fits (remove_one (minus message) w.flight) ordered j ∙ ap (taken_at m i y j) (minus_stays m laws message fits w.flight order j))
      (λ j. plus_stays m laws message fits (remove_one (minus message) w.flight) ordered j ∙ minus_left m laws message fits w.flight order j)

  -- whether both are there
  pub can_meet_is : has_pair message w.flight ≡ can_meet m i y (world_of m w)
  can_meet_is = laws.pair message w.flight order fits
