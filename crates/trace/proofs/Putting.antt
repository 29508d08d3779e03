-- The texts of turns that are written one after another.
use Rattle.std.proofs.Common.{◌≡◌, ℕ, List, [], ◌∷◌, ◌++◌, subst, sym, ap, ◌∙◌}
use Rattle.std.specs.Prelude.{Option}
use Rattle.std.proofs.lemmas.List.{flat_map_more, map-append}
use Rattle.std.specs.Borrow.{Bor}
use Rattle.event_keys.specs.declared.outcome.Turned.{Turned}
use Rattle.plans.specs.declared.plan.Plan.{Plan}
use Rattle.trace.specs.declared.lines.Lines.{Lines}
use Rattle.trace.specs.Lines.{text_of, shown_text, turns_at}
use Rattle.trace.specs.declared.counted.Counted.{Counted}
use Rattle.trace.specs.declared.fault.WriteFault.{WriteFault}
use Rattle.trace.specs.Puts.{Puts, Stops}
use Rattle.trace.specs.Given.{puts_nothing, then_puts, then_stops, stops}

-- the text of the turns so far, and of one more
next_text : (plan : Plan) (lines : Lines) (given : List (Bor Turned)) (turned : Bor Turned) → text_of plan lines (turns_at given) ++ shown_text plan lines turned.now ≡ text_of plan lines (turns_at (given ++ turned ∷ []))
next_text plan lines given turned =
    flat_map_more (shown_text plan lines) [] (turns_at given) turned.now ∙ ap (text_of plan lines) (sym (map-append (λ (turn : Bor Turned). turn.now) given (turned ∷ [])))

module _ {W : Type 0} {known : W → Option (List ℕ)} where
  -- the turns' texts so far, and of one more
  pub puts_next : (plan : Plan) (lines : Lines) (given : List (Bor Turned)) (turned : Bor Turned) {a b c : Counted W} {m n o : ℕ}
      → Puts known a b m n (text_of plan lines (turns_at given)) → Puts known b c n o (shown_text plan lines turned.now) → Puts known a c m o (text_of plan lines (turns_at (given ++ turned ∷ [])))
  puts_next plan lines given turned {a} {b} {c} {m} {n} {o} p q = subst (Puts known a c m o) (next_text plan lines given turned) (then_puts p q)

  -- the write failed in the text of one more
  pub stops_at_next : (plan : Plan) (lines : Lines) (given : List (Bor Turned)) (turned : Bor Turned) {a b c : Counted W} {m n : ℕ} {e : WriteFault}
      → Puts known a b m n (text_of plan lines (turns_at given)) → Stops known b c n (shown_text plan lines turned.now) e → Stops known a c m (text_of plan lines (turns_at (given ++ turned ∷ []))) e
  stops_at_next plan lines given turned {a} {b} {c} {m} {n} {e} p q = subst (λ l. Stops known a c m l e) (next_text plan lines given turned) (then_stops p q)

pub ruleset turns = (puts_nothing, puts_next, stops_at_next)
