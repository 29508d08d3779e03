-- What the calling thread has written, portion after portion.
use Rattle.std.proofs.Common.{◌≡◌, ℕ, ◌+◌, ◌<◌, ◌≤◌, ◌^◌, List, [], ◌++◌, length, take, refl, ap, sym, subst, ◌∙◌, arith, length-append}
use Rattle.std.specs.Prelude.{Option}
use Rattle.std.proofs.lemmas.Grind.{flat_map-append}
use Rattle.std.proofs.lemmas.List.{append_assoc, take-append-le, take_all}
use Rattle.event_keys.specs.declared.outcome.Turned.{Turned}
use Rattle.virtual_time.specs.Reference.{reference_below}
use Rattle.plans.specs.declared.plan.Plan.{Plan}
use Rattle.task_seed.specs.Machines.{machine, end_rank}
use Rattle.task_seed.specs.Turning.{System}
use Rattle.task_seed.specs.Taken.{turns_of}
use Rattle.schedules.specs.Schedules.{AreAllTurns, AreSchedule, HasSchedulesBelow, KeysFit}
use Rattle.schedules.proofs.Told.{AreFollowed, fit_joined, followed, turns_joined}
use Rattle.group_exchange.specs.Chunks.{IsGiven}
use Rattle.lone_group.specs.declared.batch.Batch.{Batch}
use Rattle.lone_group.specs.Lone.{IsBatch, turns_in}
use Rattle.trace.specs.declared.counted.Counted.{Counted}
use Rattle.trace.specs.declared.fault.WriteFault.{WriteFault}
use Rattle.trace.specs.declared.lines.Lines.{Lines}
use Rattle.trace.specs.Given.{puts_nothing, then_puts, then_stops, stops}
use Rattle.trace.specs.Lines.{shown_text, text_of}
use Rattle.trace.specs.Puts.{Puts, Stops}
use Rattle.trace.specs.Went.{IsWritten}
use Rattle.workers.specs.declared.fault.WorkFault.{WorkFault}
use Rattle.workers.specs.declared.fault.WorkFault.TheVariants.{NoMemory, Meeting, ThreadRefused, OutOfPlace}
use Rattle.workers.specs.declared.portions.Portion.{Portion}
use Rattle.workers.specs.Portions.{IsPortion, IsStoppedIn}
use Rattle.workers.specs.Refusals.{run_fault}
use Rattle.workers.specs.Runs.{IsBegun, IsCut, IsUnfinished, IsWhole}
use Rattle.lone_group.proofs.Counting.{length_turns}
use Rattle.lone_group.proofs.Stepping.{many_in}
use Rattle.workers.proofs.Growing.{as_many, grown}

-- turns that come next, how many came before, and how many with them
pub record Piece : Type 0 where
  pub turns : List Turned
  pub first : ℕ
  pub given : ℕ

-- they are the next ones of the reference, up to a bound
pub record IsPiece (s : System) (piece : Piece) : Type 0 where
  pub bound : ℕ
  pub within : bound ≤ end_rank
  pub next : IsGiven (machine s) piece.first bound (turns_of piece.turns)
  pub count : piece.given ≡ piece.first + length piece.turns

-- a portion, and a batch
abbrev pub piece_of : Portion → Piece
piece_of portion = record { turns = portion.turns.after; first = portion.first; given = portion.given }

abbrev pub is_piece : {s : System} {portion : Portion} → IsPortion s portion → IsPiece s (piece_of portion)
is_piece is = record { bound = is.bound; within = is.within; next = is.next; count = is.count }

abbrev pub piece_in : Batch → Piece
piece_in batch = record { turns = turns_in batch.used batch.slots.items; first = batch.first; given = batch.given }

pub many_given : {s : System} {batch : Batch} → IsBatch s batch → batch.given ≡ batch.first + length (turns_in batch.used batch.slots.items)
many_given {batch = batch} is =
    let many = many_in batch.used batch.slots.items is.room in
    let count = is.count in
    omega (arith, many, count)

abbrev pub is_piece_in : {s : System} {batch : Batch} → IsBatch s batch → IsPiece s (piece_in batch)
is_piece_in is = let p = is.part in record { bound = is.bound; within = p.within; next = record { old = p.old; before = p.before; next = p.next }; count = many_given is }

-- the lines of the first turns went out, so many turns, and so many bytes with those from the start
pub record Sofar {W : Type 0} (known : W → Option (List ℕ)) (plan : Plan) (s : System) (lines : Lines) (old new : Counted W) (start written bytes : ℕ) : Type 0 where
  pub turns : List Turned
  pub bound : ℕ
  pub within : bound ≤ end_rank
  pub are : turns_of turns ≡ reference_below (machine s) bound
  pub count : written ≡ length turns
  pub keys : KeysFit turns
  pub puts : Puts known old new start bytes (text_of plan lines turns)

module _ (s : System) where
  -- what a portion has comes after what was written
  next_turns : (turns more : List Turned) (b first bound : ℕ) → turns_of turns ≡ reference_below (machine s) b → first ≡ length turns → IsGiven (machine s) first bound (turns_of more) → turns_of (turns ++ more) ≡ reference_below (machine s) bound
  next_turns turns more b first bound are n given =
      let long : length (reference_below (machine s) given.old) ≡ length (reference_below (machine s) b) = sym given.before ∙ n ∙ sym (length_turns turns) ∙ ap length are in
      let same = as_many (machine s) given.old b long in
      turns_joined turns more ∙ ap (λ l. turns_of more ++ l) (are ∙ sym same) ∙ sym given.next

  -- all turns begin with these
  all_after : (turns : List Turned) (b : ℕ) → b ≤ end_rank → turns_of turns ≡ reference_below (machine s) b → KeysFit turns → AreFollowed turns (reference_below (machine s) end_rank)
  all_after turns b within are keys =
      let found = grown (machine s) b end_rank within in
      followed (machine s) turns found.0 (found.1 ∙ ap (λ l. found.0 ++ l) (sym are)) keys

all_turns : (plan : Plan) (s : System) → HasSchedulesBelow plan s → (turns : List Turned) → turns_of turns ≡ reference_below (machine s) end_rank → KeysFit turns → AreAllTurns plan s turns
all_turns plan s has turns are keys = record { all = are; keys = keys; scheduled = has turns end_rank (omega arith) are }

-- what is so of each text is so of that of all turns
pub of_any : (plan : Plan) (s : System) (lines : Lines) → HasSchedulesBelow plan s → (Cut : List ℕ → Type 0) → ((text : List ℕ) → Cut text) → IsCut plan s lines Cut
of_any plan s lines has Cut always =
    let rest = all_after s [] 0 (omega arith) refl tt in record { turns = rest.later; are = all_turns plan s has rest.later rest.are rest.keys; cut = always _ }

module _ {W : Type 0} {known : W → Option (List ℕ)} {plan : Plan} {s : System} {lines : Lines} where
  pub starts : (out : Counted W) (start : ℕ) → start < 2 ^ 64 → Sofar known plan s lines out out start 0 start
  starts out start low = record { turns = []; bound = 0; within = omega arith; are = refl; count = refl; keys = tt; puts = puts_nothing out start low }

  -- a piece more
  pub more : {old mid new : Counted W} {start written before after : ℕ} (piece : Piece) → Sofar known plan s lines old mid start written before → IsPiece s piece → piece.first ≡ written
      → KeysFit piece.turns → Puts known mid new before after (text_of plan lines piece.turns) → Sofar known plan s lines old new start piece.given after
  more {old} {mid} {new} {start} {written} {before} {after} piece h is first keys puts =
      let first_is : piece.first ≡ length h.turns = first ∙ h.count in
      let given = is.count in record {
        turns = h.turns ++ piece.turns;
        bound = is.bound;
        within = is.within;
        are = next_turns s h.turns piece.turns h.bound piece.first is.bound h.are first_is is.next;
        count = simp length-append (omega (arith, given, first_is));
        keys = fit_joined h.turns piece.turns h.keys keys;
        puts = subst (Puts known old new start after) (sym (flat_map-append (shown_text plan lines) h.turns piece.turns)) (then_puts h.puts puts);
      }

  -- the lines of the first turns went out
  pub begun : {old new : Counted W} {start written bytes : ℕ} → HasSchedulesBelow plan s → Sofar known plan s lines old new start written bytes → IsBegun plan s lines (IsWritten known old new)
  begun {old} {new} has h =
      let rest = all_after s h.turns h.bound h.within h.are h.keys in
      let front : take (length h.turns) (h.turns ++ rest.later) ≡ h.turns = take-append-le (length h.turns) h.turns rest.later (omega arith) ∙ take_all (length h.turns) h.turns (omega arith) in record {
        turns = h.turns ++ rest.later;
        are = all_turns plan s has (h.turns ++ rest.later) rest.are rest.keys;
        count = length h.turns;
        begun = subst (AreSchedule plan) (sym front) (has h.turns h.bound h.within h.are);
        became = subst (λ (l : List Turned). IsWritten known old new (text_of plan lines l)) (sym front) (record { bytes = h.puts.bytes; failures = h.puts.failures });
      }

  -- the lines of all turns went out
  pub whole : {old new : Counted W} {start written bytes : ℕ} → HasSchedulesBelow plan s → (h : Sofar known plan s lines old new start written bytes) → h.bound ≡ end_rank → IsWhole plan s lines (IsWritten known old new) written
  whole has h end = record { turns = h.turns; are = all_turns plan s has h.turns (h.are ∙ ap (reference_below (machine s)) end) h.keys; count_is = h.count; became = record { bytes = h.puts.bytes; failures = h.puts.failures } }

  -- a piece more was the last one
  pub last : {old mid new : Counted W} {start written before after : ℕ} → HasSchedulesBelow plan s → (piece : Piece) → Sofar known plan s lines old mid start written before → (is : IsPiece s piece) → piece.first ≡ written
      → KeysFit piece.turns → Puts known mid new before after (text_of plan lines piece.turns) → is.bound ≡ end_rank → IsWhole plan s lines (IsWritten known old new) piece.given
  unfolding more
  last has piece h is first keys puts end = whole has (more piece h is first keys puts) end

  -- a write failed in a piece
  pub cut : {old mid new : Counted W} {start written before : ℕ} {fault : WriteFault} → HasSchedulesBelow plan s → (piece : Piece) → Sofar known plan s lines old mid start written before → IsPiece s piece → piece.first ≡ written
      → IsStoppedIn known plan lines mid new before piece.turns fault → IsCut plan s lines (λ text. Stops known old new start text fault)
  cut {old} {mid} {new} {start} {written} {before} {fault} has piece h is first stopped =
      let first_is : piece.first ≡ length h.turns = first ∙ h.count in
      let turns = h.turns ++ stopped.first in
      let are = next_turns s h.turns piece.turns h.bound piece.first is.bound h.are first_is is.next in
      let split : h.turns ++ piece.turns ≡ turns ++ stopped.rest = ap (λ l. h.turns ++ l) stopped.are ∙ sym (append_assoc h.turns stopped.first stopped.rest) in
      let found = grown (machine s) is.bound end_rank is.within in
      let all : reference_below (machine s) end_rank ≡ (found.0 ++ turns_of stopped.rest) ++ turns_of turns
      = found.1 ∙ ap (λ l. found.0 ++ l) (sym are ∙ ap turns_of split ∙ turns_joined turns stopped.rest) ∙ sym (append_assoc found.0 (turns_of stopped.rest) (turns_of turns)) in
      let rest = followed (machine s) turns (found.0 ++ turns_of stopped.rest) all (fit_joined h.turns stopped.first h.keys stopped.keys) in
      let f = shown_text plan lines in
      let text = flat_map-append f turns rest.later ∙ ap (λ l. l ++ text_of plan lines rest.later) (flat_map-append f h.turns stopped.first) in record {
        turns = turns ++ rest.later;
        are = all_turns plan s has (turns ++ rest.later) rest.are rest.keys;
        cut = subst (λ l. Stops known old new start l fault) (sym text) (stops (text_of plan lines rest.later) (then_stops h.puts stopped.stops));
      }

  -- what befell a worker leaves the lines of the first turns
  pub unfinished : {old new : Counted W} {start written bytes : ℕ} → HasSchedulesBelow plan s → (fault : WorkFault) → Sofar known plan s lines old new start written bytes → IsUnfinished plan s lines (IsWritten known old new) (Stops known old new start) (run_fault fault)
  unfinished has NoMemory h = begun has h
  unfinished has (Meeting refused) h = begun has h
  unfinished has ThreadRefused h = begun has h
  unfinished has OutOfPlace h = begun has h
