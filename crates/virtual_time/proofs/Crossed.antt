-- A message and its antimessage are both delivered: what that leaves, with and without roll-back.
use Rattle.std.proofs.Common.{suc, ◌≡◌, ℕ, ◌≤◌, ◌⊎◌, inl, inr, Bool, true, false, cond, None, Some, List, [], ◌∷◌, ◌++◌, length, length-append, refl, ap, sym, subst, ◌∙◌, arith, ltb}
use Rattle.std.proofs.lemmas.Bool.{ltb-true, ltb-false, lt-ltb, le-leb, ne_eqb, and_parts, cases_eq}
use Rattle.virtual_time.specs.Machine.{Machine, Lawful}
use Rattle.virtual_time.specs.Entries.{Entry, Own, Input, Item, entry_key}
use Rattle.virtual_time.specs.Bags.{Each, comes_first, has, times, inputs, insert}
use Rattle.virtual_time.specs.Records.{Record, stays, is_input, sent_by, back_at, later, not_later, back_until, before_last, back_by_message, back_by_antimessage, unsent}
use Rattle.virtual_time.specs.Worlds.{Process, Step, Part, World, record_of, put_back, same, taken_at, process, roll_back, deliver_message, deliver_antimessage, meet, can_meet, DeliverMessage, DeliverAntimessage}
use Rattle.virtual_time.specs.Rules.{IsWorld, MayFollow}
use Rattle.virtual_time.specs.Inverses.{AllSent, Redone, Sending, again_replies, again_steps, all_met, entries_of, meet_sent, meetings, meetings_of, mets, roll_backs}
use Rattle.virtual_time.specs.Replies.{Processed, Reply, Answers, Runs, Delivered, Refused}
use Rattle.virtual_time.proofs.Moves.{walk_back, walk_plus, walk_minus, back_past, back_to, accept, cancel}
use Rattle.virtual_time.proofs.Lists.{put_same}
use Rattle.virtual_time.proofs.Kept.{roll_back_kept}
use Rattle.virtual_time.proofs.Messages.{back_past_kept, back_to_kept, roll_back_done, meet_kept, all_low}
use Rattle.virtual_time.proofs.Delivered.{behind, plus_minus, minus_plus}
use Rattle.virtual_time.proofs.Tied.{put_twice, put_none, record_put, back_past_tied, deliver_is, undeliver_is, roll_back_is, roll_back_tied, meet_is}
use Rattle.virtual_time.proofs.Undone.{again, processed_is, sent_lead}

module _ {S A : Type 0} (machine : Machine S A) where
  not_empty : (e : Entry A) (es : List (Entry A)) → e ∷ es ≡ [] → ⊥
  not_empty e es h = let n : length (e ∷ es) ≡ length {A = Entry A} [] = ap length h in absurd (omega arith)

  -- nothing is later: all stays
  pub later_none : (x : Item A) (es : List (Entry A)) → later machine x es ≡ [] → not_later machine x es ≡ es
  later_none x [] h = refl
  later_none x (e ∷ es) h = go (stays machine x e) h
    where
      go : (b : Bool) → cond b [] (e ∷ later machine x es) ≡ [] → cond b (e ∷ es) (not_later machine x es) ≡ e ∷ es
      go true f = refl
      go false f = absurd (not_empty e (later machine x es) f)

  -- what is not later is not
  pub later_twice : (x : Item A) (es : List (Entry A)) → later machine x (not_later machine x es) ≡ []
  later_twice x [] = refl
  later_twice x (e ∷ es) = go (stays machine x e) refl (later_twice x es)
    where
      go : (b : Bool) → stays machine x e ≡ b → later machine x (not_later machine x es) ≡ [] → later machine x (cond b (e ∷ es) (not_later machine x es)) ≡ []
      go true h ih = rw h
      go false h ih = ih

  pub stays_all : (j : ℕ) (x : Item A) (w : World S A) → later machine x (w.part j).done ≡ [] → back_past machine j x (w.part j).done w ≡ w
  stays_all j x w h =
      back_past_tied machine j x (w.part j).done w refl
      ∙ ap (λ (es : List (Entry A)). put_back j (back_at machine es (not_later machine x (w.part j).done) (record_of (w.part j))) same (unsent machine j es) w) h
      ∙ ap (λ (es : List (Entry A)). put_back j (back_at machine [] es (record_of (w.part j))) same (unsent machine j []) w) (later_none x (w.part j).done h)
      ∙ put_none machine j w

  -- an input that may follow is not before the last done entry
  pub follow_stays : (g : ℕ) (x : Item A) (es : List (Entry A)) → MayFollow machine g es x → later machine x es ≡ []
  follow_stays g x [] h = refl
  follow_stays g x (Own k o ∷ es) h = rw (le-leb k x.key h)
  follow_stays g x (Input y ∷ es) h = rw h

  pub until_some : (x : Item A) (es : List (Entry A)) → back_until machine x es ≡ [] → es ≡ []
  until_some x [] h = refl
  until_some x (e ∷ es) h = absurd (not_empty e (cond (is_input machine x e) [] (back_until machine x es)) h)

module _ {S A : Type 0} (machine : Machine S A) (law : Lawful machine) where
  -- The message first, nothing taken back.
  pub message_stays : (j : ℕ) (x : Item A) (w : World S A) → IsWorld machine w → (has machine x (w.part j).owed ≡ false → later machine x (w.part j).done ≡ [])
      → deliver_antimessage machine j x (deliver_message machine j x w) ≡ meet machine j x w
  message_stays j x w is none =
      undeliver_is machine j x (deliver_message machine j x w)
      ∙ ap (walk_minus machine j x) (deliver_is machine j x w)
      ∙ plus_minus machine law w j x is (λ h. stays_all machine j x w (none h))
      ∙ sym (meet_is machine j x w)

  -- The antimessage first, nothing taken back.
  pub antimessage_stays : (j : ℕ) (x : Item A) (w : World S A) → IsWorld machine w → (has machine x (w.part j).pending ≡ true) ⊎ (inputs machine (w.part j).done x.key x.action ≡ 0)
      → deliver_message machine j x (deliver_antimessage machine j x w) ≡ meet machine j x w
  antimessage_stays j x w is none =
      deliver_is machine j x (deliver_antimessage machine j x w)
      ∙ ap (walk_plus machine j x) (undeliver_is machine j x w)
      ∙ minus_plus machine law w j x is none stay
      ∙ sym (meet_is machine j x w)
    where
      less : Part S A
      less = record { base = (w.part j).base; first = (w.part j).first; done = (w.part j).done; pending = Rattle.virtual_time.specs.Bags.remove machine x (w.part j).pending; owed = (w.part j).owed; plus = (w.part j).plus; minus = Rattle.virtual_time.specs.Bags.remove machine x (w.part j).minus }

      stay : has machine x (w.part j).pending ≡ true → back_past machine j x ((cancel machine j x w).part j).done (cancel machine j x w) ≡ cancel machine j x w
      stay h =
          let some = ltb-true 0 (times machine (w.part j).pending x.key x.action) h in
          let f : MayFollow machine w.bound (w.part j).done x = behind machine law x (MayFollow machine w.bound (w.part j).done) (w.part j).pending some (is.proper j).pending in
          let d : ((cancel machine j x w).part j).done ≡ (w.part j).done = ap (λ (c : Part S A). c.done) (put_same j less w.part) in
          stays_all machine j x (cancel machine j x w) (ap (later machine x) d ∙ follow_stays machine w.bound x (w.part j).done f)

  -- Roll-backs.
  pub back_past_times : (j : ℕ) (x : Item A) (es : List (Entry A)) (w : World S A) → (w.part j).done ≡ es → back_past machine j x es w ≡ roll_backs machine j (length (later machine x es)) w
  back_past_times j x [] w d = refl
  back_past_times j x (e ∷ es) w d = go (stays machine x e) (back_past_times j x es (walk_back machine j w) (roll_back_done machine law j e es w d))
    where
      go : (b : Bool) → back_past machine j x es (walk_back machine j w) ≡ roll_backs machine j (length (later machine x es)) (walk_back machine j w)
          → cond b w (back_past machine j x es (walk_back machine j w)) ≡ roll_backs machine j (length (cond b [] (e ∷ later machine x es))) w
      go true ih = refl
      go false ih = ih ∙ ap (roll_backs machine j (length (later machine x es))) (sym (roll_back_is machine j w))

  pub back_to_times : (j : ℕ) (x : Item A) (es : List (Entry A)) (w : World S A) → (w.part j).done ≡ es → back_to machine j x es w ≡ roll_backs machine j (length (back_until machine x es)) w
  back_to_times j x [] w d = refl
  back_to_times j x (e ∷ es) w d = go (is_input machine x e) (back_to_times j x es (walk_back machine j w) (roll_back_done machine law j e es w d))
    where
      go : (b : Bool) → back_to machine j x es (walk_back machine j w) ≡ roll_backs machine j (length (back_until machine x es)) (walk_back machine j w)
          → cond b (walk_back machine j w) (back_to machine j x es (walk_back machine j w)) ≡ roll_backs machine j (length (e ∷ cond b [] (back_until machine x es))) w
      go true ih = sym (roll_back_is machine j w)
      go false ih = ih ∙ ap (roll_backs machine j (length (back_until machine x es))) (sym (roll_back_is machine j w))

  -- Both delivered, the message first: the receiver is rolled back, and they meet.
  pub message_back : (j : ℕ) (x : Item A) (w : World S A) → IsWorld machine w → w.bound ≤ x.key
      → deliver_antimessage machine j x (deliver_message machine j x w) ≡ meet machine j x (roll_backs machine j (length (back_by_message machine x (record_of (w.part j)))) w)
  message_back j x w is low = go (has machine x (w.part j).owed) refl
    where
      u : World S A
      u = back_past machine j x (w.part j).done w

      kept : IsWorld machine u
      kept = (back_past_kept machine law j x (w.part j).done w refl is low).0

      owed : (u.part j).owed ≡ (w.part j).owed
      owed = (back_past_kept machine law j x (w.part j).done w refl is low).1.owed

      done : (u.part j).done ≡ not_later machine x (w.part j).done
      done =
          ap (λ (v : World S A). (v.part j).done) (back_past_tied machine j x (w.part j).done w refl)
          ∙ ap (λ (r : Record S A). r.done) (record_put machine j (back_at machine (later machine x (w.part j).done) (not_later machine x (w.part j).done) (record_of (w.part j))) same (unsent machine j (later machine x (w.part j).done)) w)

      none : later machine x (u.part j).done ≡ []
      none = ap (later machine x) done ∙ later_twice machine x (w.part j).done

      go : (b : Bool) → has machine x (w.part j).owed ≡ b
          → deliver_antimessage machine j x (deliver_message machine j x w) ≡ meet machine j x (roll_backs machine j (length (cond b [] (later machine x (w.part j).done))) w)
      go true h = message_stays j x w is (λ f. let g : true ≡ false = sym h ∙ f in cc)
      go false h =
          let here : walk_plus machine j x w ≡ accept machine j x u = rw h in
          let h' : has machine x (u.part j).owed ≡ false = ap (has machine x) owed ∙ h in
          let there : walk_plus machine j x u ≡ accept machine j x u = rw h' (ap (accept machine j x) (stays_all machine j x u none)) in
          ap (deliver_antimessage machine j x) (deliver_is machine j x w ∙ here ∙ sym there ∙ sym (deliver_is machine j x u))
          ∙ message_stays j x u kept (λ f. none)
          ∙ ap (meet machine j x) (back_past_times j x (w.part j).done w refl)

  -- Both delivered, the antimessage first.
  pub antimessage_back : (j : ℕ) (x : Item A) (w : World S A) → IsWorld machine w
      → deliver_message machine j x (deliver_antimessage machine j x w) ≡ meet machine j x (roll_backs machine j (length (back_by_antimessage machine x (record_of (w.part j)))) w)
  antimessage_back j x w is = go (has machine x (w.part j).pending) (ltb 0 (inputs machine (w.part j).done x.key x.action)) refl refl
    where
      u : World S A
      u = back_to machine j x (w.part j).done w

      go : (b d : Bool) → has machine x (w.part j).pending ≡ b → ltb 0 (inputs machine (w.part j).done x.key x.action) ≡ d
          → deliver_message machine j x (deliver_antimessage machine j x w) ≡ meet machine j x (roll_backs machine j (length (cond b [] (cond d (back_until machine x (w.part j).done) []))) w)
      go true d h k = antimessage_stays j x w is (inl h)
      go false false h k = let l = ltb-false 0 (inputs machine (w.part j).done x.key x.action) k in antimessage_stays j x w is (inr (omega arith))
      go false true h k =
          let r = back_to_kept machine law j x (w.part j).done w refl is (ltb-true 0 (inputs machine (w.part j).done x.key x.action) k) in
          let p : has machine x (u.part j).pending ≡ true = lt-ltb 0 (times machine (u.part j).pending x.key x.action) r.2 in
          let here : walk_minus machine j x w ≡ cancel machine j x u = rw (h, k) in
          let there : walk_minus machine j x u ≡ cancel machine j x u = rw p in
          ap (deliver_message machine j x) (undeliver_is machine j x w ∙ here ∙ sym there ∙ sym (undeliver_is machine j x u))
          ∙ antimessage_stays j x u r.0 (inl p)
          ∙ ap (meet machine j x) (back_to_times j x (w.part j).done w refl)

  -- Rolled back k times, and the same entries done again.
  pub redone : (j : ℕ) (es rest : List (Entry A)) (w v : World S A) → IsWorld machine w → (w.part j).done ≡ es ++ rest → Redone machine j (roll_backs machine j (length es) w) es v → v ≡ w
  redone j [] rest w v is d h = h
  redone j (e ∷ es) rest w v is d h =
      let u : World S A = roll_back machine j w in
      let q : u ≡ walk_back machine j w = roll_back_is machine j w in
      let isu : IsWorld machine u = subst (λ (x : World S A). IsWorld machine x) (sym q) (roll_back_kept machine law j w is) in
      let du : (u.part j).done ≡ es ++ rest = ap (λ (x : World S A). (x.part j).done) q ∙ roll_back_done machine law j e (es ++ rest) w d in
      let same_mid : h.0 ≡ u = redone j es rest u h.0 isu du h.2 in
      h.4 ∙ ap (λ (x : World S A). meet_sent machine e h.1 (process machine j x)) same_mid ∙ again machine law j e (es ++ rest) h.1 w is d h.3

  -- A meeting and a roll-back of its receiver, in either order.
  sent_self : (j : ℕ) (e : Entry A) (xs : List (Item A)) → sent_by machine j e j xs ≡ xs
  sent_self j (Own k None) xs = refl
  sent_self j (Own k (Some a)) xs = rw (law.others j a)
  sent_self j (Input x) xs = refl

  taken_sent : (j : ℕ) (x : Item A) (e : Entry A) (l : ℕ) (xs : List (Item A)) → taken_at machine j x l (sent_by machine j e l xs) ≡ sent_by machine j e l (taken_at machine j x l xs)
  taken_sent j x e l xs = go (cases_eq l j)
    where
      go : (l ≡ j) ⊎ (l ≡ j → ⊥) → taken_at machine j x l (sent_by machine j e l xs) ≡ sent_by machine j e l (taken_at machine j x l xs)
      go (inl h) = subst (λ (m : ℕ). taken_at machine j x m (sent_by machine j e m xs) ≡ sent_by machine j e m (taken_at machine j x m xs)) (sym h)
          (ap (taken_at machine j x j) (sent_self j e xs) ∙ sym (sent_self j e (taken_at machine j x j xs)))
      go (inr ne) = rw (ne_eqb l j ne)

  pub meet_rolled : (j : ℕ) (x : Item A) (e : Entry A) (es : List (Entry A)) (w : World S A) → (w.part j).done ≡ e ∷ es → meet machine j x (roll_back machine j w) ≡ roll_back machine j (meet machine j x w)
  meet_rolled j x e es w d =
      ap (meet machine j x) left
      ∙ ap (λ (q : Record S A). put_back j q (taken_at machine j x) (taken_at machine j x) (put_back j r' same (sent_by machine j e) w)) (record_put machine j r' same (sent_by machine j e) w)
      ∙ put_twice machine j r' r' same (sent_by machine j e) (taken_at machine j x) (taken_at machine j x) w
      ∙ (λ v. put_back j r' (taken_at machine j x) (λ l xs. taken_sent j x e l xs v) w)
      ∙ sym (put_twice machine j r r' (taken_at machine j x) (taken_at machine j x) same (sent_by machine j e) w)
      ∙ sym right
    where
      r : Record S A
      r = record_of (w.part j)

      r' : Record S A
      r' = back_at machine (e ∷ []) es r

      left : roll_back machine j w ≡ put_back j r' same (sent_by machine j e) w
      left = roll_back_is machine j w ∙ roll_back_tied machine j e es w d

      met : World S A
      met = meet machine j x w

      now : record_of (met.part j) ≡ r
      now = record_put machine j r (taken_at machine j x) (taken_at machine j x) w

      right : roll_back machine j met ≡ put_back j r' same (sent_by machine j e) met
      right =
          roll_back_is machine j met ∙ roll_back_tied machine j e es met (ap (λ (q : Record S A). q.done) now ∙ d)
          ∙ ap (λ (q : Record S A). put_back j (back_at machine (e ∷ []) es q) same (sent_by machine j e) met) now

  pub meet_rolled_all : (j : ℕ) (x : Item A) (es rest : List (Entry A)) (w : World S A) → (w.part j).done ≡ es ++ rest
      → meet machine j x (roll_backs machine j (length es) w) ≡ roll_backs machine j (length es) (meet machine j x w)
  meet_rolled_all j x [] rest w d = refl
  meet_rolled_all j x (e ∷ es) rest w d =
      meet_rolled_all j x es rest (roll_back machine j w) (ap (λ (v : World S A). (v.part j).done) (roll_back_is machine j w) ∙ roll_back_done machine law j e (es ++ rest) w d)
      ∙ ap (roll_backs machine j (length es)) (meet_rolled j x e (es ++ rest) w d)

  -- The whole: both are delivered, what was taken back is done again, and they have met.
  split_later : (x : Item A) (es : List (Entry A)) → es ≡ later machine x es ++ not_later machine x es
  split_later x [] = refl
  split_later x (e ∷ es) = go (stays machine x e) (split_later x es)
    where
      go : (b : Bool) → es ≡ later machine x es ++ not_later machine x es → e ∷ es ≡ cond b [] (e ∷ later machine x es) ++ cond b (e ∷ es) (not_later machine x es)
      go true ih = refl
      go false ih = ap (λ (fs : List (Entry A)). e ∷ fs) ih

  split_until : (x : Item A) (es : List (Entry A)) → es ≡ back_until machine x es ++ before_last machine x es
  split_until x [] = refl
  split_until x (e ∷ es) = go (is_input machine x e) (split_until x es)
    where
      go : (b : Bool) → es ≡ back_until machine x es ++ before_last machine x es → e ∷ es ≡ (e ∷ cond b [] (back_until machine x es)) ++ cond b es (before_last machine x es)
      go true ih = refl
      go false ih = ap (λ (fs : List (Entry A)). e ∷ fs) ih

  pub taken_message : (x : Item A) (r : Record S A) → (rest : List (Entry A)) × (r.done ≡ back_by_message machine x r ++ rest)
  taken_message x r = go (has machine x r.owed)
    where
      go : (b : Bool) → (rest : List (Entry A)) × (r.done ≡ cond b [] (later machine x r.done) ++ rest)
      go true = (r.done, refl)
      go false = (not_later machine x r.done, split_later x r.done)

  pub taken_antimessage : (x : Item A) (r : Record S A) → (rest : List (Entry A)) × (r.done ≡ back_by_antimessage machine x r ++ rest)
  taken_antimessage x r = go (has machine x r.pending) (ltb 0 (inputs machine r.done x.key x.action))
    where
      go : (b d : Bool) → (rest : List (Entry A)) × (r.done ≡ cond b [] (cond d (back_until machine x r.done) []) ++ rest)
      go true d = (r.done, refl)
      go false false = (r.done, refl)
      go false true = (before_last machine x r.done, split_until x r.done)

  pub met_kept : (j : ℕ) (x : Item A) (w : World S A) → IsWorld machine w → can_meet machine j x w ≡ true → IsWorld machine (meet machine j x w)
  met_kept j x w is can =
      let p = and_parts (has machine x (w.part j).plus) (has machine x (w.part j).minus) can in
      subst (λ (v : World S A). IsWorld machine v) (sym (meet_is machine j x w))
      (meet_kept machine law w j x is (ltb-true 0 (times machine (w.part j).plus x.key x.action) p.0) (ltb-true 0 (times machine (w.part j).minus x.key x.action) p.1))

  pub met_done : (j : ℕ) (x : Item A) (w : World S A) → ((meet machine j x w).part j).done ≡ (w.part j).done
  met_done j x w = ap (λ (r : Record S A). r.done) (record_put machine j (record_of (w.part j)) (taken_at machine j x) (taken_at machine j x) w)

  redone_met : (j : ℕ) (x : Item A) (es rest : List (Entry A)) (w v : World S A) → IsWorld machine w → can_meet machine j x w ≡ true → (w.part j).done ≡ es ++ rest
      → Redone machine j (meet machine j x (roll_backs machine j (length es) w)) es v → v ≡ meet machine j x w
  redone_met j x es rest w v is can d h =
      redone j es rest (meet machine j x w) v (met_kept j x w is can) (met_done j x w ∙ d)
      (subst (λ (u : World S A). Redone machine j u es v) (meet_rolled_all j x es rest w d) h)

  pub message_low : (j : ℕ) (x : Item A) (w : World S A) → IsWorld machine w → has machine x (w.part j).plus ≡ true → w.bound ≤ x.key
  message_low j x w is h = all_low machine law w.bound x (w.part j).plus (is.proper j).plus (ltb-true 0 (times machine (w.part j).plus x.key x.action) h)

  pub plus_of : (j : ℕ) (x : Item A) (w : World S A) → can_meet machine j x w ≡ true → has machine x (w.part j).plus ≡ true
  plus_of j x w can = (and_parts (has machine x (w.part j).plus) (has machine x (w.part j).minus) can).0

  pub message_redone : (j : ℕ) (x : Item A) (w v : World S A) → IsWorld machine w → can_meet machine j x w ≡ true
      → Redone machine j (deliver_antimessage machine j x (deliver_message machine j x w)) (back_by_message machine x (record_of (w.part j))) v → v ≡ meet machine j x w
  message_redone j x w v is can h =
      let s = taken_message x (record_of (w.part j)) in
      redone_met j x (back_by_message machine x (record_of (w.part j))) s.0 w v is can s.1
      (subst (λ (u : World S A). Redone machine j u (back_by_message machine x (record_of (w.part j))) v) (message_back j x w is (message_low j x w is (plus_of j x w can))) h)

  pub antimessage_redone : (j : ℕ) (x : Item A) (w v : World S A) → IsWorld machine w → can_meet machine j x w ≡ true
      → Redone machine j (deliver_message machine j x (deliver_antimessage machine j x w)) (back_by_antimessage machine x (record_of (w.part j))) v → v ≡ meet machine j x w
  antimessage_redone j x w v is can h =
      let s = taken_antimessage x (record_of (w.part j)) in
      redone_met j x (back_by_antimessage machine x (record_of (w.part j))) s.0 w v is can s.1
      (subst (λ (u : World S A). Redone machine j u (back_by_antimessage machine x (record_of (w.part j))) v) (antimessage_back j x w is) h)

  -- As steps with their replies.
  delivered_not : (k n : ℕ) → Delivered k ≡ Refused n → ⊥
  delivered_not k n e = cc

  delivered_one : (k n : ℕ) → Delivered k ≡ Delivered n → k ≡ n
  delivered_one k n e = cc

  message_answered : (count k : ℕ) (j : ℕ) (x : Item A) (w v : World S A) → Answers machine count w (DeliverMessage j x) (Delivered k) v
      → (has machine x (w.part j).plus ≡ true) × (k ≡ length (back_by_message machine x (record_of (w.part j)))) × (v ≡ deliver_message machine j x w)
  message_answered count k j x w v (inl h) = absurd (delivered_not k 32 h.1.reply_is)
  message_answered count k j x w v (inr h) = (h.0, delivered_one k (length (back_by_message machine x (record_of (w.part j)))) h.1, h.2)

  antimessage_answered : (count k : ℕ) (j : ℕ) (x : Item A) (w v : World S A) → Answers machine count w (DeliverAntimessage j x) (Delivered k) v
      → (has machine x (w.part j).minus ≡ true) × (k ≡ length (back_by_antimessage machine x (record_of (w.part j)))) × (v ≡ deliver_antimessage machine j x w)
  antimessage_answered count k j x w v (inl h) = absurd (delivered_not k 32 h.1.reply_is)
  antimessage_answered count k j x w v (inr h) = (h.0, delivered_one k (length (back_by_antimessage machine x (record_of (w.part j)))) h.1, h.2)

  pub message_steps : (count k l : ℕ) (j : ℕ) (x : Item A) (w v : World S A) → IsWorld machine w
      → Runs machine count w (DeliverMessage j x ∷ DeliverAntimessage j x ∷ []) (Delivered k ∷ Delivered l ∷ []) v → v ≡ meet machine j x (roll_backs machine j k w)
  message_steps count k l j x w v is h =
      let p = message_answered count k j x w h.0 h.1 in
      let q = antimessage_answered count l j x h.0 h.2.0 h.2.1 in
      h.2.2 ∙ q.2 ∙ ap (deliver_antimessage machine j x) p.2 ∙ message_back j x w is (message_low j x w is p.0)
      ∙ ap (λ (n : ℕ). meet machine j x (roll_backs machine j n w)) (sym p.1)

  pub antimessage_steps : (count k l : ℕ) (j : ℕ) (x : Item A) (w v : World S A) → IsWorld machine w
      → Runs machine count w (DeliverAntimessage j x ∷ DeliverMessage j x ∷ []) (Delivered k ∷ Delivered l ∷ []) v → v ≡ meet machine j x (roll_backs machine j k w)
  antimessage_steps count k l j x w v is h =
      let p = antimessage_answered count k j x w h.0 h.1 in
      let q = message_answered count l j x h.0 h.2.0 h.2.1 in
      h.2.2 ∙ q.2 ∙ ap (deliver_message machine j x) p.2 ∙ antimessage_back j x w is
      ∙ ap (λ (n : ℕ). meet machine j x (roll_backs machine j n w)) (sym p.1)

  -- Done again, as steps.
  two_runs : (count : ℕ) (ss ts : List (Step A)) (ps qs : List Reply) (w v : World S A) → length ss ≡ length ps → Runs machine count w (ss ++ ts) (ps ++ qs) v
      → (mid : World S A) × Runs machine count w ss ps mid × Runs machine count mid ts qs v
  two_runs count [] ts [] qs w v e h = (w, refl, h)
  two_runs count [] ts (q ∷ ps) qs w v e h = absurd (omega arith)
  two_runs count (s ∷ ss) ts [] qs w v e h = absurd (omega arith)
  two_runs count (s ∷ ss) ts (p ∷ ps) qs w v e h = let r = two_runs count ss ts ps qs h.0 v (omega arith) h.2 in (r.0, (h.0, h.1, r.1), r.2)

  mets_length : (x : Item A) (js : List ℕ) → length (meetings x js) ≡ length (mets js)
  mets_length x [] = refl
  mets_length x (j ∷ js) = ap suc (mets_length x js)

  sent_length : (e : Entry A) (js : List ℕ) → length (meetings_of e js) ≡ length (all_met e js)
  sent_length (Own k (Some a)) js = mets_length (record { key = k; action = a }) js
  sent_length (Own k None) js = refl
  sent_length (Input x) js = refl

  again_length : (i : ℕ) (ss : List (Sending A)) → length (again_steps i ss) ≡ length (again_replies ss)
  again_length i [] = refl
  again_length i (s ∷ ss) =
      let h = again_length i ss in
      let l = sent_length s.entry s.receivers in
      let a = length-append (again_steps i ss) (Process i ∷ meetings_of s.entry s.receivers) in
      let b = length-append (again_replies ss) (Processed (entry_key s.entry) ∷ all_met s.entry s.receivers) in
      omega arith

  pub redone_steps : (count i : ℕ) (ss : List (Sending A)) (u v : World S A) → AllSent machine i ss → Runs machine count u (again_steps i ss) (again_replies ss) v → Redone machine i u (entries_of ss) v
  redone_steps count i [] u v all h = h
  redone_steps count i (s ∷ ss) u v all h =
      let r = two_runs count (again_steps i ss) (Process i ∷ meetings_of s.entry s.receivers) (again_replies ss) (Processed (entry_key s.entry) ∷ all_met s.entry s.receivers) u v (again_length i ss) h in
      let q = r.2 in (
        r.0,
        s.receivers,
        redone_steps count i ss u r.0 all.1 r.1,
        all.0,
        sent_lead machine law count s.entry s.receivers (all_met s.entry s.receivers) q.0 v q.2 ∙ ap (meet_sent machine s.entry s.receivers) (processed_is machine law count i (entry_key s.entry) r.0 q.0 q.1),
      )
