-- Entries that are processed and taken back.
use Rattle.std.proofs.Common.{◌≡◌, ℕ, zero, suc, ◌+◌, ◌-◌, ◌<◌, Option, None, Some, List, [], ◌∷◌, ◌++◌, length, take, refl, ap, sym, ◌∙◌, arith}
use Rattle.std.specs.Prelude.{IsSomeAnd}
use Rattle.terms.specs.Named.{Named}
use Rattle.event_keys.specs.declared.message.Sign.TheVariants.{Plus, Minus}
use Rattle.event_keys.specs.declared.message.Signed.{Signed}
use Rattle.virtual_time.specs.Machine.{Machine}
use Rattle.virtual_time.specs.Entries.{Entry, Item}
use Rattle.virtual_time.specs.Records.{Record, Processes, after_entry, next_of, sent_by, undone, roll_back_of, roll_back_times, unsent}
use Rattle.rollback.specs.Flight.{in_flight}
use Rattle.rollback.specs.ComponentView.{last_of, processed, sent_next}
use Rattle.rollback.specs.Post.{IsPosted}
use Rattle.rollback.specs.declared.refused.ProcessRefused.{ProcessRefused}
use Rattle.rollback.specs.Runs.{IsRun, IsEnd, IsTrip}

module _ {S : Type 0} (m : Machine S Named) (i : ℕ) where
  -- nothing is processed yet
  pub run_none : (r : Record S Named) (bag : List Signed) → IsRun m i r r bag bag 0
  run_none r bag = record { entries = []; processes = refl; many = refl; sent = record { there = λ j. refl; other = λ j. refl } }

  -- one more entry
  pub run_more : (entry : Entry Named) (old new : Record S Named) (old_bag mid_bag new_bag : List Signed) (count : ℕ) → IsRun m i old new old_bag mid_bag count → next_of m i new ≡ Some entry
      → IsPosted Plus (sent_by m i entry) mid_bag new_bag → IsRun m i old (after_entry entry new) old_bag new_bag (count + 1)
  run_more entry old new old_bag mid_bag new_bag count run next p =
      let many = run.many in
      record {
        entries = entry ∷ run.entries;
        processes = (new, run.processes, next, refl);
        many = omega (arith, many);
        sent = record { there = λ j. p.there j ∙ ap (sent_by m i entry j) (run.sent.there j); other = λ j. p.other j ∙ run.sent.other j };
      }

  -- one more entry, the next one
  pub run_next : (P : Entry Named → Type 0) (old new : Record S Named) (old_bag mid_bag new_bag : List Signed) (count : ℕ) → IsRun m i old new old_bag mid_bag count
      → IsSomeAnd (next_of m i new) P → IsPosted Plus (sent_next m i (next_of m i new)) mid_bag new_bag
      → IsRun m i old (processed (next_of m i new) new) old_bag new_bag (count + 1)
  run_next P old new old_bag mid_bag new_bag count run some sent = go (next_of m i new) refl some sent
    where
      go : (o : Option (Entry Named)) → next_of m i new ≡ o → IsSomeAnd o P → IsPosted Plus (sent_next m i o) mid_bag new_bag → IsRun m i old (processed o new) old_bag new_bag (count + 1)
      go None e h p = absurd h
      go (Some entry) e h p = run_more entry old new old_bag mid_bag new_bag count run e p

  take_by : (n : ℕ) (ds : List (Entry Named)) (r : Record S Named) → r.done ≡ ds → (j : ℕ) (xs : List (Item Named)) → unsent m i (take n (undone m ds r).done) j (unsent m i (last_of ds) j xs) ≡ unsent m i (take (suc n) ds) j xs
  take_by n [] r e j xs = ap (λ l. unsent m i (take n l) j xs) e ∙ none n
    where
      none : (k : ℕ) → unsent m i (take k []) j xs ≡ xs
      none zero = refl
      none (suc k) = refl
  take_by n (d ∷ ds) r e j xs = refl

  -- one more roll-back, of those that are left
  pub back_step : (count k : ℕ) (r : Record S Named) → k < count → roll_back_times m (count - (k + 1)) (roll_back_of m r) ≡ roll_back_times m (count - k) r
  back_step count k r h = ap (λ n. roll_back_times m n r) (let e : suc (count - (k + 1)) ≡ count - k = omega arith in e)

  pub back_sent_step : (count k : ℕ) (r : Record S Named) (j : ℕ) (xs : List (Item Named)) → k < count
      → unsent m i (take (count - (k + 1)) (roll_back_of m r).done) j (unsent m i (last_of r.done) j xs) ≡ unsent m i (take (count - k) r.done) j xs
  back_sent_step count k r j xs h =
      take_by (count - (k + 1)) r.done r refl j xs
      ∙ ap (λ n. unsent m i (take n r.done) j xs) (let e : suc (count - (k + 1)) ≡ count - k = omega arith in e)

  pub take_all : {X : Type 0} (xs ys : List X) → take (length xs) (xs ++ ys) ≡ xs
  take_all [] [] = refl
  take_all [] (y ∷ ys) = refl
  take_all (x ∷ xs) ys = ap (λ l. x ∷ l) (take_all xs ys)

  -- what was processed is taken back
  pub run_back : ((entries : List (Entry Named)) (own_record new_record : Record S Named) → Processes m i own_record entries new_record → new_record.done ≡ entries ++ own_record.done)
      → (old turning : Record S Named) (old_bag mid_bag new_bag : List Signed) (count most : ℕ) (stopped : Option ProcessRefused)
      → IsRun m i old turning old_bag mid_bag count → IsEnd m i turning count most stopped → IsPosted Minus (unsent m i (take count turning.done)) mid_bag new_bag
      → IsTrip m i old old_bag new_bag count most stopped
  run_back done old turning old_bag mid_bag new_bag count most stopped run end back =
      let es = run.entries in
      let taken : take count turning.done ≡ es = ap (λ l. take count l) (done es old turning run.processes) ∙ sym (ap (λ n. take n (es ++ old.done)) run.many) ∙ take_all es old.done in
      record {
        turning = turning;
        entries = es;
        processes = run.processes;
        many = run.many;
        end = end;
        sent = λ j. back.other j ∙ run.sent.there j;
        unsent = λ j. back.there j ∙ ap (λ l. unsent m i l j (in_flight Minus j mid_bag)) taken ∙ ap (λ l. unsent m i es j l) (run.sent.other j);
      }
