-- Turns that are written as they are taken.
use Rattle.std.proofs.Common.{◌≡◌, ℕ, ◌-◌, ◌<◌, ◌^◌, List, [], ◌∷◌, ◌++◌, length, refl, ap, sym, subst, ◌∙◌, arith, length-append}
use Rattle.std.specs.Prelude.{Option, Result, Ok, Err, IfErr}
use Rattle.std.specs.Result.{IsErrAnd}
use Rattle.std.specs.Io.KnownBytes.{Keeps}
use Rattle.std.proofs.KnownBytes.{Appends-kept, Appends-nil}
use Rattle.std.proofs.lemmas.Grind.{flat_map-append}
use Rattle.std.proofs.lemmas.List.{flat_map_more}
use Rattle.terms.specs.Datum.{Datum}
use Rattle.terms.specs.Named.{Named}
use Rattle.event_keys.specs.declared.outcome.Turned.{Turned}
use Rattle.virtual_time.specs.Machine.{Machine}
use Rattle.virtual_time.specs.Reference.{Turn, IsReference, reference_below}
use Rattle.plans.specs.declared.plan.Plan.{Plan}
use Rattle.task_seed.specs.Machines.{machine, end_rank}
use Rattle.task_seed.specs.Taken.{turn_of, turns_of}
use Rattle.task_seed.specs.Turning.{System}
use Rattle.schedules.specs.Schedules.{AreAllTurns, KeyFits, KeysFit}
use Rattle.schedules.proofs.Told.{followed, fit_joined, turns_joined}
use Rattle.reference.specs.Views.{IsComplete}
use Rattle.trace.specs.declared.counted.Counted.{Counted}
use Rattle.trace.specs.declared.fault.WriteFault.{WriteFault}
use Rattle.trace.specs.declared.lines.Lines.{Lines}
use Rattle.trace.specs.Counts.{failures_of, writer_of}
use Rattle.trace.specs.Given.{puts_nothing, then_puts, then_stops, stops}
use Rattle.trace.specs.Lines.{shown_text, text_of}
use Rattle.trace.specs.Puts.{Puts, Stops}
use Rattle.trace.specs.Went.{IsWritten}
use Rattle.commands.specs.declared.fault.SimulateFault.{SimulateFault}
use Rattle.commands.specs.declared.fault.SimulateFault.TheVariants.{NoMemory}
use Rattle.commands.specs.Simulated.{IsSimulated, IsSimulatedInPart}
use Rattle.commands.specs.Streams.{IsKnown}

-- the lines of the turns that were taken went out, so many bytes with those from the start
pub record Sofar {W : Type 0} (known : W → Option (List ℕ)) (plan : Plan) (lines : Lines) (old new : Counted W) (start : ℕ) (taken : List (Turn Named)) (bytes : ℕ) : Type 0 where
  pub turns : List Turned
  pub are : turns_of turns ≡ taken
  pub keys : KeysFit turns
  pub puts : Puts known old new start bytes (text_of plan lines turns)

-- no turns are all those below the least key
pub complete_none : (m : Machine (List Datum) Named) {taken : List (Turn Named)} → taken ≡ [] → IsComplete m taken
complete_none m none = record { bound = 0; within = omega arith; is = none }

-- a fault that is want of memory
pub for_want : {R : Type 0} (P : SimulateFault → Type 0) (r : Result R SimulateFault) → IsErrAnd r (λ e. e ≡ NoMemory) → P NoMemory → IfErr r P
for_want P (Ok x) h p = tt
for_want P (Err e) h p = subst P (sym h) p

module _ (plan : Plan) (s : System) (laws : IsKnown plan s) where
  -- all turns begin with these
  all_after : (turns : List Turned) → IsComplete (machine s) (turns_of turns) → KeysFit turns → (later : List Turned) × AreAllTurns plan s (turns ++ later)
  all_after turns complete keys =
      let found = laws.begins complete.bound complete.within in
      let rest = followed (machine s) turns found.0 (found.1 ∙ ap (λ l. found.0 ++ l) (sym complete.is)) keys in
      (rest.later, record { all = rest.are; keys = rest.keys; scheduled = laws.scheduled (turns ++ rest.later) end_rank (omega arith) rest.are })

  -- one turn more leaves fewer to take
  pub fewer_left : (old new : List (Turn Named)) (turn : Turn Named) → new ≡ turn ∷ old → IsComplete (machine s) new
      → length (reference_below (machine s) end_rank) - length new < length (reference_below (machine s) end_rank) - length old
  fewer_left old new turn next complete =
      let found = laws.begins complete.bound complete.within in
      let whole = ap length found.1 ∙ length-append found.0 (reference_below (machine s) complete.bound) in
      let here = ap length complete.is in
      let more = ap length next in
      omega (arith, whole, here, more)

  -- what is so of each text is so of that of all turns
  pub of_any : {lines : Lines} (Became : List ℕ → Type 0) → ((text : List ℕ) → Became text) → IsSimulated plan s lines Became
  of_any Became always =
      let all = all_after [] (complete_none (machine s) refl) tt in record { turns = all.0; are = all.1; became = always _ }

  module _ {W : Type 0} {known : W → Option (List ℕ)} {lines : Lines} where
    -- no turn was taken yet
    pub none_yet : (out : Counted W) → IsSimulatedInPart plan s lines (IsWritten known out out)
    none_yet out =
        record {
          turns = [];
          beginning = record {
            keys = tt;
            scheduled = laws.scheduled [] 0 (omega arith) refl;
            all = (all_after [] (complete_none (machine s) refl) tt).0;
            are = (all_after [] (complete_none (machine s) refl) tt).1;
            rest = text_of plan lines (all_after [] (complete_none (machine s) refl) tt).0;
            begins = refl;
          };
          became = record { bytes = Appends-nil (known (writer_of out)); failures = refl };
        }

    -- the lines of the first turns went out
    pub in_part : {old new : Counted W} {start : ℕ} {taken : List (Turn Named)} {bytes : ℕ} → IsComplete (machine s) taken → Sofar known plan lines old new start taken bytes → IsSimulatedInPart plan s lines (IsWritten known old new)
    in_part complete h =
        let first = subst (IsComplete (machine s)) (sym h.are) complete in
        let rest = all_after h.turns first h.keys in record {
          turns = h.turns;
          beginning = record {
            keys = h.keys;
            scheduled = laws.scheduled h.turns first.bound first.within first.is;
            all = h.turns ++ rest.0;
            are = rest.1;
            rest = text_of plan lines rest.0;
            begins = flat_map-append (shown_text plan lines) h.turns rest.0;
          };
          became = record { bytes = h.puts.bytes; failures = h.puts.failures };
        }

    -- the lines of all turns went out
    pub whole : {old new : Counted W} {start : ℕ} {taken : List (Turn Named)} {bytes : ℕ} → IsReference (machine s) end_rank taken → Sofar known plan lines old new start taken bytes → IsSimulated plan s lines (IsWritten known old new)
    whole {taken = taken} all h =
        let is = h.are ∙ laws.one taken all in record {
          turns = h.turns;
          are = record { all = is; keys = h.keys; scheduled = laws.scheduled h.turns end_rank (omega arith) is };
          became = record { bytes = h.puts.bytes; failures = h.puts.failures };
        }

    -- a write failed in the line of a turn
    pub cut : {old mid new : Counted W} {start : ℕ} {taken now : List (Turn Named)} {bytes : ℕ} {fault : WriteFault} (turned : Turned) → KeyFits turned.key → now ≡ turn_of turned ∷ taken → IsComplete (machine s) now
        → Sofar known plan lines old mid start taken bytes → Stops known mid new bytes (shown_text plan lines turned) fault → IsSimulated plan s lines (λ text. Stops known old new start text fault)
    cut {old} {mid} {new} {start} {taken} {now} {bytes} {fault} turned fits next complete h stopped =
        let turns = h.turns ++ turned ∷ [] in
        let are : turns_of turns ≡ now = turns_joined h.turns (turned ∷ []) ∙ ap (λ l. turn_of turned ∷ l) h.are ∙ sym next in
        let rest = all_after turns (subst (IsComplete (machine s)) (sym are) complete) (fit_joined h.turns (turned ∷ []) h.keys (fits, tt)) in
        let f = shown_text plan lines in
        let text = flat_map-append f turns rest.0 ∙ ap (λ l. l ++ text_of plan lines rest.0) (sym (flat_map_more f [] h.turns turned)) in record {
          turns = turns ++ rest.0;
          are = rest.1;
          became = subst (λ l. Stops known old new start l fault) (sym text) (stops (text_of plan lines rest.0) (then_stops h.puts stopped));
        }

module _ {W : Type 0} {known : W → Option (List ℕ)} where
  -- no turn was taken
  pub starts : {plan : Plan} {lines : Lines} {taken : List (Turn Named)} (out : Counted W) (start : ℕ) → start < 2 ^ 64 → taken ≡ [] → Sofar known plan lines out out start taken start
  starts out start low none = record { turns = []; are = sym none; keys = tt; puts = puts_nothing out start low }

  -- the line of one more turn went out
  pub one_more : {plan : Plan} {lines : Lines} {old mid new : Counted W} {start : ℕ} {taken now : List (Turn Named)} {before after : ℕ} (turned : Turned) → KeyFits turned.key → now ≡ turn_of turned ∷ taken
      → Sofar known plan lines old mid start taken before → Puts known mid new before after (shown_text plan lines turned) → Sofar known plan lines old new start now after
  one_more {plan} {lines} {old} {mid} {new} {start} {taken} {now} {before} {after} turned fits next h puts =
      record {
        turns = h.turns ++ turned ∷ [];
        are = turns_joined h.turns (turned ∷ []) ∙ ap (λ l. turn_of turned ∷ l) h.are ∙ sym next;
        keys = fit_joined h.turns (turned ∷ []) h.keys (fits, tt);
        puts = subst (Puts known old new start after) (flat_map_more (shown_text plan lines) [] h.turns turned) (then_puts h.puts puts);
      }

  -- what was put is there still, when what is held of it goes out
  pub puts_kept : {old mid new : Counted W} {before after : ℕ} {text : List ℕ} → Puts known old mid before after text → Keeps (known (writer_of mid)) (known (writer_of new)) → failures_of new ≡ failures_of mid → Puts known old new before after text
  puts_kept {old} {mid} {new} {before} {after} {text} p kept same =
      record { bytes = Appends-kept (known (writer_of old)) (known (writer_of mid)) (known (writer_of new)) text p.bytes kept; failures = same ∙ p.failures; count = p.count }

pub ruleset flushes = (puts_kept)
