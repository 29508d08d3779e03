-- The lines of a portion's turns, one after another.
use Rattle.std.proofs.Common.{◌≡◌, ℕ, ◌<◌, ◌^◌, List, [], ◌∷◌, ◌++◌, ap, sym, subst, ◌∙◌}
use Rattle.std.specs.Prelude.{Option}
use Rattle.std.proofs.lemmas.List.{append-nil, append_assoc, flat_map_more}
use Rattle.event_keys.specs.declared.outcome.Turned.{Turned}
use Rattle.plans.specs.declared.plan.Plan.{Plan}
use Rattle.schedules.specs.Schedules.{KeyFits, KeysFit}
use Rattle.schedules.proofs.Told.{fit_joined}
use Rattle.trace.specs.declared.counted.Counted.{Counted}
use Rattle.trace.specs.declared.fault.WriteFault.{WriteFault}
use Rattle.trace.specs.declared.lines.Lines.{Lines}
use Rattle.trace.specs.Given.{puts_nothing, then_puts, then_stops}
use Rattle.trace.specs.Lines.{shown_text, text_of}
use Rattle.trace.specs.Puts.{Puts, Stops}
use Rattle.workers.specs.Portions.{IsStoppedIn}

-- the lines of the first of these turns went out, and these are left
pub record ArePut {W : Type 0} (known : W → Option (List ℕ)) (plan : Plan) (lines : Lines) (old new : Counted W) (start bytes : ℕ) (turns left : List Turned) : Type 0 where
  pub first : List Turned
  pub are : turns ≡ first ++ left
  pub keys : KeysFit first
  pub puts : Puts known old new start bytes (text_of plan lines first)

-- those that are left begin with a turn
next_first : {turns left rest : List Turned} (first : List Turned) (turned : Turned) → turns ≡ first ++ left → left ≡ turned ∷ rest → turns ≡ (first ++ turned ∷ []) ++ rest
next_first {rest = rest} first turned are next = are ∙ ap (λ l. first ++ l) next ∙ sym (append_assoc first (turned ∷ []) rest)

module _ {W : Type 0} {known : W → Option (List ℕ)} {plan : Plan} {lines : Lines} where
  -- none went out yet
  pub none_put : (out : Counted W) (start : ℕ) {turns left : List Turned} → start < 2 ^ 64 → left ≡ turns → ArePut known plan lines out out start start turns left
  none_put out start low are = record { first = []; are = sym are; keys = tt; puts = puts_nothing out start low }

  -- one line more went out
  pub next_put : {old mid new : Counted W} {start before after : ℕ} {turns left rest : List Turned} (turned : Turned) → ArePut known plan lines old mid start before turns left → left ≡ turned ∷ rest → KeyFits turned.key
      → Puts known mid new before after (shown_text plan lines turned) → ArePut known plan lines old new start after turns rest
  next_put {old} {mid} {new} {start} {before} {after} turned h next fits puts =
      record {
        first = h.first ++ turned ∷ [];
        are = next_first h.first turned h.are next;
        keys = fit_joined h.first (turned ∷ []) h.keys (fits, tt);
        puts = subst (Puts known old new start after) (flat_map_more (shown_text plan lines) [] h.first turned) (then_puts h.puts puts);
      }

  -- a write failed in the next line
  pub next_stopped : {old mid new : Counted W} {start before : ℕ} {turns left rest : List Turned} {fault : WriteFault} (turned : Turned) → ArePut known plan lines old mid start before turns left → left ≡ turned ∷ rest → KeyFits turned.key
      → Stops known mid new before (shown_text plan lines turned) fault → IsStoppedIn known plan lines old new start turns fault
  next_stopped {old} {mid} {new} {start} {rest = rest} {fault = fault} turned h next fits stopped =
      record {
        first = h.first ++ turned ∷ [];
        rest = rest;
        are = next_first h.first turned h.are next;
        keys = fit_joined h.first (turned ∷ []) h.keys (fits, tt);
        stops = subst (λ l. Stops known old new start l fault) (flat_map_more (shown_text plan lines) [] h.first turned) (then_stops h.puts stopped);
      }

  -- none are left
  all_are : {old new : Counted W} {start bytes : ℕ} {turns left : List Turned} → left ≡ [] → (h : ArePut known plan lines old new start bytes turns left) → h.first ≡ turns
  all_are none h = sym (h.are ∙ ap (λ l. h.first ++ l) none ∙ append-nil h.first)

  pub all_fit : {old new : Counted W} {start bytes : ℕ} {turns left : List Turned} → left ≡ [] → ArePut known plan lines old new start bytes turns left → KeysFit turns
  all_fit none h = subst KeysFit (all_are none h) h.keys

  pub all_put : {old new : Counted W} {start bytes : ℕ} {turns left : List Turned} → left ≡ [] → ArePut known plan lines old new start bytes turns left → Puts known old new start bytes (text_of plan lines turns)
  all_put {old} {new} {start} {bytes} none h = subst (λ (l : List Turned). Puts known old new start bytes (text_of plan lines l)) (all_are none h) h.puts
