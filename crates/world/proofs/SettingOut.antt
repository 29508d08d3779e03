-- Who sets out comes back: the ways are open, and replies are determined but for want of memory.
use Rattle.std.proofs.Common.{◌≡◌, ℕ, ◌<◌, ◌≤◌, ◌==◌, ◌⊎◌, inl, inr, Bool, true, false, None, Some, List, [], ◌∷◌, ◌++◌, length, refl, ap, sym, subst, subst₂, ◌∙◌, arith}
use Rattle.std.proofs.lemmas.Bool.{cases_eq, cases_lt, eq-eqb, ne_eqb, or_left, or_right, true≢false}
use Rattle.std.proofs.lemmas.Option.{none-some, same_Some}
use Rattle.virtual_time.specs.Machine.{HasCount, Lawful, Machine}
use Rattle.virtual_time.specs.Bags.{has}
use Rattle.virtual_time.specs.Entries.{Entry, Input, Item, Own, entry_key, latest}
use Rattle.virtual_time.specs.Records.{Record, back_by_antimessage, back_by_message, next_of}
use Rattle.virtual_time.specs.Worlds.{Commit, DeliverAntimessage, DeliverMessage, Meet, Process, RollBack, Step, World, can_meet, deliver_antimessage, deliver_message, meet, record_of}
use Rattle.virtual_time.specs.Replies.{Answers, Committed, Delivered, IsReached, IsVirtualTime, Met, Processed, Refused, Refuses, Reply, RolledBack, Runs}
use Rattle.virtual_time.specs.Inverses.{AreReceivers, AreSent, all_met, is_in, meetings, meetings_of, mets}
use Rattle.world.specs.Theory.{Theory}
use Rattle.world.specs.ThereAndBack.{AllDone, AllLeave, IsThereAndBack, Leaves, SentLeave, WasDone}
use Rattle.world.specs.SettingOut.{AreThereAndBack, AreWays, AreWaysOf, HadMemory, IsWay, LackedAlike, SetsOut, lacked_memory}
use Rattle.world.proofs.ThereAndBack.{by_meeting, met_is, processed_is, reached_on, runs_on}
use Rattle.world.proofs.EachWay.{all_done_on, antimessage_way, message_way}

-- Memory.
done_had : {A : Type 0} (s : Step A) (r : Reply) → WasDone r → lacked_memory s r ≡ false
done_had (Process i) (Refused n) d = absurd d
done_had _ _ d = refl

pub all_had : {A : Type 0} (ss : List (Step A)) (rs : List Reply) → AllDone rs → HadMemory ss rs
all_had [] rs d = tt
all_had (s ∷ ss) [] d = tt
all_had (s ∷ ss) (r ∷ rs) d = (done_had s r d.0, all_had ss rs d.1)

pub both_had : {A : Type 0} (ss : List (Step A)) (rs qs : List Reply) → HadMemory ss rs → HadMemory ss qs → LackedAlike ss rs qs
both_had [] rs qs h k = tt
both_had (s ∷ ss) [] qs h k = tt
both_had (s ∷ ss) (r ∷ rs) [] h k = tt
both_had (s ∷ ss) (r ∷ rs) (q ∷ qs) h k = (h.0 ∙ sym k.0, both_had ss rs qs h.1 k.1)

pub meetings_had : {A : Type 0} (x : Item A) (js : List ℕ) (rs : List Reply) → HadMemory (meetings x js) rs
meetings_had x [] rs = tt
meetings_had x (j ∷ js) [] = tt
meetings_had x (j ∷ js) (r ∷ rs) = (refl, meetings_had x js rs)

-- A step of which it is known whether memory lacked has one reply and leads to one world.
module _ {S A : Type 0} where
  same_refusal : (n : ℕ) (r q : Reply) (w v u : World S A) → Refuses n w r v → Refuses n w q u → (r ≡ q) × (v ≡ u)
  same_refusal n r q w v u a b = (a.reply_is ∙ sym b.reply_is, a.stays ∙ sym b.stays)

  -- a step that is refused or done as a test says
  same_tested : (b : Bool) (n : ℕ) (reply r q : Reply) (w next v u : World S A) → (b ≡ false) × Refuses n w r v ⊎ (b ≡ true) × (r ≡ reply) × (v ≡ next)
      → (b ≡ false) × Refuses n w q u ⊎ (b ≡ true) × (q ≡ reply) × (u ≡ next) → (r ≡ q) × (v ≡ u)
  same_tested b n reply r q w next v u (inl h) (inl k) = same_refusal n r q w v u h.1 k.1
  same_tested b n reply r q w next v u (inl h) (inr k) = absurd (true≢false (sym k.0 ∙ h.0))
  same_tested b n reply r q w next v u (inr h) (inl k) = absurd (true≢false (sym h.0 ∙ k.0))
  same_tested b n reply r q w next v u (inr h) (inr k) = (h.1 ∙ sym k.1, h.2 ∙ sym k.2)

module _ {S A : Type 0} (theory : Theory S A) (machine : Machine S A) (law : Lawful machine) (count : ℕ) where
  none_is : (es : List (Entry A)) (e : Entry A) (fs : List (Entry A)) → es ≡ [] → es ≡ e ∷ fs → ⊥
  none_is es e fs h k = let c = ap length (sym h ∙ k) in omega arith

  -- global virtual time is one, and not behind the commit
  not_behind : (w : World S A) (g b : ℕ) → IsReached machine count w → IsVirtualTime machine w g → b < w.bound → g < b → ⊥
  not_behind w g b reached time h l = let e = theory.bounded machine w g law (theory.sound machine count w law reached) time in omega (arith, e, h, l)

  not_ahead : (w : World S A) (g h b : ℕ) → IsVirtualTime machine w g → IsVirtualTime machine w h → g < b → b ≤ h → ⊥
  not_ahead w g h b time other l from = let e = theory.one machine w g h law time other in omega (arith, e, l, from)

  same_answer : (s : Step A) (r q : Reply) (w v u : World S A) → IsReached machine count w → lacked_memory s r ≡ lacked_memory s q → Answers machine count w s r v → Answers machine count w s q u → (r ≡ q) × (v ≡ u)
  same_answer (Process i) r q w v u reached m (inl h) (inl k) = same_refusal 30 r q w v u h.1 k.1
  same_answer (Process i) r q w v u reached m (inl h) (inr (inl k)) = absurd (omega (arith, h.0, k.0))
  same_answer (Process i) r q w v u reached m (inl h) (inr (inr (e, l, at, k))) = absurd (omega (arith, h.0, l))
  same_answer (Process i) r q w v u reached m (inr (inl h)) (inl k) = absurd (omega (arith, h.0, k.0))
  same_answer (Process i) r q w v u reached m (inr (inl h)) (inr (inl k)) = same_refusal 31 r q w v u h.2 k.2
  same_answer (Process i) r q w v u reached m (inr (inl h)) (inr (inr (e, l, at, k))) = absurd (none-some e (sym h.1 ∙ at))
  same_answer (Process i) r q w v u reached m (inr (inr (e, l, at, h))) (inl k) = absurd (omega (arith, l, k.0))
  same_answer (Process i) r q w v u reached m (inr (inr (e, l, at, h))) (inr (inl k)) = absurd (none-some e (sym k.1 ∙ at))
  same_answer (Process i) r q w v u reached m (inr (inr (e, l, at, inl h))) (inr (inr (f, n, bt, inl k))) = same_refusal 1 r q w v u h k
  same_answer (Process i) r q w v u reached m (inr (inr (e, l, at, inl h))) (inr (inr (f, n, bt, inr k))) =
      absurd (true≢false (sym (ap (lacked_memory {A = A} (Process i)) h.reply_is) ∙ m ∙ ap (lacked_memory {A = A} (Process i)) k.0))
  same_answer (Process i) r q w v u reached m (inr (inr (e, l, at, inr h))) (inr (inr (f, n, bt, inl k))) =
      absurd (true≢false (sym (ap (lacked_memory {A = A} (Process i)) k.reply_is) ∙ sym m ∙ ap (lacked_memory {A = A} (Process i)) h.0))
  same_answer (Process i) r q w v u reached m (inr (inr (e, l, at, inr h))) (inr (inr (f, n, bt, inr k))) =
      (h.0 ∙ ap (λ (x : Entry A). Processed (entry_key x)) (same_Some e f (sym at ∙ bt)) ∙ sym k.0, h.1 ∙ sym k.1)
  same_answer (RollBack i) r q w v u reached m (inl h) (inl k) = same_refusal 30 r q w v u h.1 k.1
  same_answer (RollBack i) r q w v u reached m (inl h) (inr (inl k)) = absurd (omega (arith, h.0, k.0))
  same_answer (RollBack i) r q w v u reached m (inl h) (inr (inr k)) = absurd (omega (arith, h.0, k.2))
  same_answer (RollBack i) r q w v u reached m (inr (inl h)) (inl k) = absurd (omega (arith, h.0, k.0))
  same_answer (RollBack i) r q w v u reached m (inr (inl h)) (inr (inl k)) = same_refusal 33 r q w v u h.2 k.2
  same_answer (RollBack i) r q w v u reached m (inr (inl h)) (inr (inr k)) = absurd (none_is (w.part i).done k.0 k.1 h.1 k.3)
  same_answer (RollBack i) r q w v u reached m (inr (inr h)) (inl k) = absurd (omega (arith, h.2, k.0))
  same_answer (RollBack i) r q w v u reached m (inr (inr h)) (inr (inl k)) = absurd (none_is (w.part i).done h.0 h.1 k.1 h.3)
  same_answer (RollBack i) r q w v u reached m (inr (inr h)) (inr (inr k)) = (h.4 ∙ ap (λ (es : List (Entry A)). RolledBack (latest 0 es)) (sym h.3 ∙ k.3) ∙ sym k.4, h.5 ∙ sym k.5)
  same_answer (DeliverMessage j x) r q w v u reached m h k =
      same_tested (has machine x (w.part j).plus) 32 (Delivered (length (back_by_message machine x (record_of (w.part j))))) r q w (deliver_message machine j x w) v u h k
  same_answer (DeliverAntimessage j x) r q w v u reached m h k =
      same_tested (has machine x (w.part j).minus) 32 (Delivered (length (back_by_antimessage machine x (record_of (w.part j))))) r q w (deliver_antimessage machine j x w) v u h k
  same_answer (Meet j x) r q w v u reached m h k = same_tested (can_meet machine j x w) 32 Met r q w (meet machine j x w) v u h k
  same_answer (Commit b) r q w v u reached m (inl h) (inl k) = same_refusal 35 r q w v u h.1 k.1
  same_answer (Commit b) r q w v u reached m (inl h) (inr (inl k)) = absurd (not_behind w k.0 b reached k.1 h.0 k.2)
  same_answer (Commit b) r q w v u reached m (inl h) (inr (inr k)) = absurd (omega (arith, h.0, k.3))
  same_answer (Commit b) r q w v u reached m (inr (inl h)) (inl k) = absurd (not_behind w h.0 b reached h.1 k.0 h.2)
  same_answer (Commit b) r q w v u reached m (inr (inl h)) (inr (inl k)) = same_refusal 34 r q w v u h.3 k.3
  same_answer (Commit b) r q w v u reached m (inr (inl h)) (inr (inr k)) = absurd (not_ahead w h.0 k.0 b h.1 k.2 h.2 k.4)
  same_answer (Commit b) r q w v u reached m (inr (inr h)) (inl k) = absurd (omega (arith, h.3, k.0))
  same_answer (Commit b) r q w v u reached m (inr (inr h)) (inr (inl k)) = absurd (not_ahead w k.0 h.0 b k.1 h.2 k.2 h.4)
  same_answer (Commit b) r q w v u reached m (inr (inr h)) (inr (inr k)) =
      let e : h.1 ≡ k.1 = omega (arith, h.6, k.6) in (h.5 ∙ ap Committed e ∙ sym k.5, h.7 ∙ sym k.7)

  pub same_runs : (ss : List (Step A)) (rs qs : List Reply) (w v u : World S A) → IsReached machine count w → LackedAlike ss rs qs → Runs machine count w ss rs v → Runs machine count w ss qs u → (rs ≡ qs) × (v ≡ u)
  same_runs [] [] [] w v u reached m h k = (refl, h ∙ sym k)
  same_runs [] [] (q ∷ qs) w v u reached m h k = absurd k
  same_runs [] (r ∷ rs) qs w v u reached m h k = absurd h
  same_runs (s ∷ ss) [] qs w v u reached m h k = absurd h
  same_runs (s ∷ ss) (r ∷ rs) [] w v u reached m h k = absurd k
  same_runs (s ∷ ss) (r ∷ rs) (q ∷ qs) w v u reached m h k =
      let o = same_answer s r q w h.0 k.0 reached m.0 h.1 k.1 in
      let t = same_runs ss rs qs h.0 v u (reached_on machine count w h.0 (s ∷ []) (r ∷ []) reached (h.0, h.1, refl)) m.1 h.2 (subst (λ (y : World S A). Runs machine count y ss qs u) (sym o.1) k.2) in
      (ap (λ (p : Reply). p ∷ rs) o.0 ∙ ap (λ (ps : List Reply). q ∷ ps) t.0, t.1)

module _ {S A : Type 0} (theory : Theory S A) (machine : Machine S A) (law : Lawful machine) (count : ℕ) (counted : HasCount machine count) where
  -- A meeting leaves the records.
  meet_keeps : (j : ℕ) (x : Item A) (w : World S A) (l : ℕ) → record_of ((meet machine j x w).part l) ≡ record_of (w.part l)
  meet_keeps j x w l = go (cases_eq l j)
    where
      here : record_of ((meet machine j x w).part j) ≡ record_of (w.part j)
      here = rw (eq-eqb j j refl)

      go : (l ≡ j) ⊎ (l ≡ j → ⊥) → record_of ((meet machine j x w).part l) ≡ record_of (w.part l)
      go (inl e) = subst (λ (n : ℕ). record_of ((meet machine j x w).part n) ≡ record_of (w.part n)) (sym e) here
      go (inr ne) = rw (ne_eqb l j ne)

  meetings_keep : (x : Item A) (js : List ℕ) (w v : World S A) → Runs machine count w (meetings x js) (mets js) v → (l : ℕ) → record_of (w.part l) ≡ record_of (v.part l)
  meetings_keep x [] w v h l = ap (λ (y : World S A). record_of (y.part l)) (sym h)
  meetings_keep x (j ∷ js) w v h l =
      let m = met_is machine count j x Met w h.0 tt h.1 in
      sym (ap (λ (y : World S A). record_of (y.part l)) m.1 ∙ meet_keeps j x w l) ∙ meetings_keep x js h.0 v h.2 l

  -- From a world in which both are in flight each way is open.
  open_way : (j : ℕ) (x : Item A) (w : World S A) (steps : List (Step A)) → IsReached machine count w → j < count → can_meet machine j x w ≡ true → IsWay machine j x (record_of (w.part j)) steps
      → (qs : List Reply) × AllDone qs × Leaves machine count j x w steps qs (meet machine j x w)
  open_way j x w steps reached low can (inl e) =
      subst (λ (ss : List (Step A)). (qs : List Reply) × AllDone qs × Leaves machine count j x w ss qs (meet machine j x w)) (sym e) (Met ∷ [], (tt, tt), by_meeting machine count j x w can)
  open_way j x w steps reached low can (inr (inl a)) =
      let way = message_way theory machine law count j x a.pairs w reached low can a.pairs_are in
      subst (λ (ss : List (Step A)). (qs : List Reply) × AllDone qs × Leaves machine count j x w ss qs (meet machine j x w)) (sym a.steps_are)
      (Delivered (length (back_by_message machine x (record_of (w.part j)))) ∷ Delivered 0 ∷ way.0, (tt, (tt, way.1)), way.2)
  open_way j x w steps reached low can (inr (inr a)) =
      let way = antimessage_way theory machine law count j x a.pairs w reached low can a.pairs_are in
      subst (λ (ss : List (Step A)). (qs : List Reply) × AllDone qs × Leaves machine count j x w ss qs (meet machine j x w)) (sym a.steps_are)
      (Delivered (length (back_by_antimessage machine x (record_of (w.part j)))) ∷ Delivered 0 ∷ way.0, (tt, (tt, way.1)), way.2)

  -- Where the meetings would lead from w to v, so do all ways, which the records of v tell.
  open_ways : (x : Item A) (js : List ℕ) (w v : World S A) (steps : List (Step A)) → IsReached machine count w → ((l : ℕ) → is_in l js ≡ true → l < count)
      → Runs machine count w (meetings x js) (mets js) v → AreWays machine v x js steps → (qs : List Reply) × AllDone qs × AllLeave machine count x js w steps qs v
  open_ways x [] w v steps reached low h e = ([], tt, (e, refl, h))
  open_ways x (j ∷ js) w v steps reached low h (ss, ts, split, way, more) =
      let m = met_is machine count j x Met w h.0 tt h.1 in
      let here = subst (λ (r : Record S A). IsWay machine j x r ss) (sym (meetings_keep x (j ∷ js) w v h j)) way in
      let one = open_way j x w ss reached (low j (or_left (j == j) (is_in j js) (eq-eqb j j refl))) m.0 here in
      let mid = meet machine j x w in
      let rest = open_ways x js mid v ts (reached_on machine count w mid ss one.0 reached one.2.run) (λ l is. low l (or_right (l == j) (is_in l js) is))
      (subst (λ (y : World S A). Runs machine count y (meetings x js) (mets js) v) m.1 h.2) more in
      (one.0 ++ rest.0, all_done_on one.0 rest.0 one.1 rest.1, (mid, ss, ts, one.0, rest.0, split, refl {a = one.0 ++ rest.0}, one.2, rest.2))

  -- Receivers are components.
  receiver_low : (i : ℕ) (a : A) (js : List ℕ) → AreReceivers machine i a js → (l : ℕ) → is_in l js ≡ true → l < count
  receiver_low i a js are l is = go (cases_lt l count)
    where
      go : (l < count) ⊎ (count ≤ l) → l < count
      go (inl h) = h
      go (inr h) = absurd (true≢false (sym is ∙ are.all l ∙ counted.deaf i a l h))

  open_sent : (i : ℕ) (e : Entry A) (js : List ℕ) (w v : World S A) (steps : List (Step A)) → IsReached machine count w → AreSent machine i e js
      → Runs machine count w (meetings_of e js) (all_met e js) v → AreWaysOf machine v e js steps → (qs : List Reply) × AllDone qs × SentLeave machine count e js w steps qs v
  open_sent i (Own k (Some a)) js w v steps reached are h ways = open_ways (record { key = k; action = a }) js w v steps reached (receiver_low i a js are) h ways
  open_sent i (Own k None) js w v steps reached are h e = ([], tt, (e, refl, h))
  open_sent i (Input x) js w v steps reached are h e = ([], tt, (e, refl, h))

  -- What leaves is a run.
  leave_runs : (x : Item A) (js : List ℕ) (w v : World S A) (steps : List (Step A)) (qs : List Reply) → AllLeave machine count x js w steps qs v → Runs machine count w steps qs v
  leave_runs x [] w v steps qs h = subst₂ (λ (ss : List (Step A)) (rs : List Reply). Runs machine count w ss rs v) (sym h.0) (sym h.1) h.2
  leave_runs x (j ∷ js) w v steps qs (mid, ss, ts, ps, rs, e, f, one, more) =
      subst₂ (λ (us : List (Step A)) (os : List Reply). Runs machine count w us os v) (sym e) (sym f) (runs_on machine count ss ts ps rs w mid v one.run (leave_runs x js mid v ts rs more))

  sent_runs : (e : Entry A) (js : List ℕ) (w v : World S A) (steps : List (Step A)) (qs : List Reply) → SentLeave machine count e js w steps qs v → Runs machine count w steps qs v
  sent_runs (Own k (Some a)) js w v steps qs h = leave_runs (record { key = k; action = a }) js w v steps qs h
  sent_runs (Own k None) js w v steps qs h = subst₂ (λ (ss : List (Step A)) (rs : List Reply). Runs machine count w ss rs v) (sym h.0) (sym h.1) h.2
  sent_runs (Input x) js w v steps qs h = subst₂ (λ (ss : List (Step A)) (rs : List Reply). Runs machine count w ss rs v) (sym h.0) (sym h.1) h.2

  pub comes_back : (i : ℕ) (w : World S A) (steps : List (Step A)) (replies : List Reply) (v : World S A) → IsReached machine count w → SetsOut machine i w steps replies
      → Runs machine count w steps replies v → IsThereAndBack machine count i w steps replies v
  comes_back i w steps replies v reached out run =
      subst₂ (λ (rs : List Reply) (y : World S A). IsThereAndBack machine count i w steps rs y) (sym same.0) (sym same.1) trip
    where
      a : AreThereAndBack machine i w steps
      a = out.steps_are

      k : ℕ
      k = out.first.0

      began : Runs machine count w (Process i ∷ RollBack i ∷ a.ways) (Processed k ∷ out.first.1) v
      began = subst₂ (λ (ss : List (Step A)) (rs : List Reply). Runs machine count w ss rs v) a.steps_are out.first.2 run

      met : Runs machine count w (Process i ∷ RollBack i ∷ meetings_of a.entry a.receivers) (Processed (entry_key a.entry) ∷ RolledBack (entry_key a.entry) ∷ all_met a.entry a.receivers) w
      met = theory.met machine count w i a.entry a.receivers law (theory.sound machine count w law reached) (processed_is machine count i (Processed k) w began.0 tt began.1).0 a.next_is a.sent

      turned : World S A
      turned = met.2.0

      there : Runs machine count w (Process i ∷ RollBack i ∷ []) (Processed (entry_key a.entry) ∷ RolledBack (entry_key a.entry) ∷ []) turned
      there = (met.0, met.1, (turned, met.2.1, refl))

      rest : (qs : List Reply) × AllDone qs × SentLeave machine count a.entry a.receivers turned a.ways qs w
      rest =
          open_sent i a.entry a.receivers turned w a.ways (reached_on machine count w turned (Process i ∷ RollBack i ∷ []) (Processed (entry_key a.entry) ∷ RolledBack (entry_key a.entry) ∷ []) reached there) a.sent met.2.2 a.ways_are

      trip : IsThereAndBack machine count i w steps (Processed (entry_key a.entry) ∷ RolledBack (entry_key a.entry) ∷ rest.0) w
      trip =
          record {
            entry = a.entry;
            receivers = a.receivers;
            there = Processed (entry_key a.entry);
            back = RolledBack (entry_key a.entry);
            turned = turned;
            rest = a.ways;
            rest_replies = rest.0;
            next_is = a.next_is;
            sent = a.sent;
            steps_are = a.steps_are;
            replies_are = refl;
            run = there;
            leave = rest.2;
            done = (tt, (tt, rest.1));
          }

      ideal : Runs machine count w steps (Processed (entry_key a.entry) ∷ RolledBack (entry_key a.entry) ∷ rest.0) w
      ideal =
          subst (λ (ss : List (Step A)). Runs machine count w ss (Processed (entry_key a.entry) ∷ RolledBack (entry_key a.entry) ∷ rest.0) w) (sym a.steps_are)
          (met.0, met.1, (turned, met.2.1, sent_runs a.entry a.receivers turned w a.ways rest.0 rest.2))

      same : (replies ≡ Processed (entry_key a.entry) ∷ RolledBack (entry_key a.entry) ∷ rest.0) × (v ≡ w)
      same =
          same_runs theory machine law count steps replies (Processed (entry_key a.entry) ∷ RolledBack (entry_key a.entry) ∷ rest.0) w v w reached
          (both_had steps replies (Processed (entry_key a.entry) ∷ RolledBack (entry_key a.entry) ∷ rest.0) out.memory (all_had steps (Processed (entry_key a.entry) ∷ RolledBack (entry_key a.entry) ∷ rest.0) trip.done)) run ideal

module _ {S A : Type 0} (machine : Machine S A) where
  -- The meetings alone are steps of there and back, in which nothing else is processed.
  meetings_are_ways : (w : World S A) (x : Item A) (js : List ℕ) → AreWays machine w x js (meetings x js)
  meetings_are_ways w x [] = refl
  meetings_are_ways w x (j ∷ js) = (Meet j x ∷ [], meetings x js, refl, inl refl, meetings_are_ways w x js)

  met_are_ways : (w : World S A) (e : Entry A) (js : List ℕ) → AreWaysOf machine w e js (meetings_of e js)
  met_are_ways w (Own k (Some a)) js = meetings_are_ways w (record { key = k; action = a }) js
  met_are_ways w (Own k None) js = refl
  met_are_ways w (Input x) js = refl

  met_had : (e : Entry A) (js : List ℕ) (rs : List Reply) → HadMemory (meetings_of e js) rs
  met_had (Own k (Some a)) js rs = meetings_had (record { key = k; action = a }) js rs
  met_had (Own k None) js rs = tt
  met_had (Input x) js rs = tt

  pub meetings_set_out : (i k : ℕ) (w : World S A) (e : Entry A) (js : List ℕ) (rest : List Reply) → next_of machine i (record_of (w.part i)) ≡ Some e → AreSent machine i e js
      → SetsOut machine i w (Process i ∷ RollBack i ∷ meetings_of e js) (Processed k ∷ rest)
  meetings_set_out i k w e js rest at are =
      record {
        steps_are = record { entry = e; receivers = js; ways = meetings_of e js; next_is = at; sent = are; ways_are = met_are_ways w e js; steps_are = refl };
        first = (k, rest, refl);
        memory = (refl, had rest);
      }
    where
      had : (rs : List Reply) → HadMemory (RollBack i ∷ meetings_of e js) rs
      had [] = tt
      had (r ∷ rs) = (refl, met_had e js rs)
