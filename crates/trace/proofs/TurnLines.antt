-- Lines of turns.
use Rattle.std.proofs.Common.{◌≡◌, ℕ, ◌^◌, ◌<◌, List, [], ◌++◌, length, refl, ap, sym, subst, ◌∙◌, arith}
use Rattle.std.specs.Prelude.{Bool, true, codes, Decides, unwrap_or}
use Rattle.std.specs.Ordering.{is_lt}
use Rattle.std.specs.Str.{IsUtf8}
use Rattle.std.proofs.lemmas.Bool.{both_ways}
use Rattle.std.specs.declared.cmp.Ordering.{Ordering}
use Rattle.std.specs.declared.cmp.Ordering.TheVariants.{Less, Equal, Greater}
use Rattle.terms.specs.Named.{Named}
use Rattle.event_keys.specs.declared.key.Key.{Key}
use Rattle.event_keys.specs.declared.outcome.Outcome.{Outcome}
use Rattle.event_keys.specs.declared.outcome.Outcome.TheVariants as outcome
use Rattle.event_keys.specs.declared.outcome.Turned.{Turned}
use Rattle.plans.specs.declared.plan.Plan.{Plan}
use Rattle.plans.specs.Plans.{composition}
use Rattle.trace.specs.Actions.{IsAction, IsForeign, IsNoAction}
use Rattle.trace.specs.Lines.{action_text, key_text, outcome_text}
use Rattle.trace.specs.OrderedFile.{IsForeignTurn, IsKeyOf, IsNoTurn, IsTurnLine, SaysTurn}
use Rattle.trace.specs.StepLines.{IsStepKey}
use Rattle.trace.specs.TraceFile.{IsGiven, IsUnknown}
use Rattle.trace.specs.Written.{Written, written_text, IsWritten, IsKnown, Line, Alone, Turn, Idle, line_text, IsLine}
use Rattle.trace.specs.WrittenTurns.{written_of, actions_of, IsOutcome}
use Rattle.trace.proofs.Dark.{IsUtf8-line}
use Rattle.trace.proofs.OneFile.{known_same, sound_no_unknown}
use Rattle.trace.proofs.OneLine.{idle_no_action, key_same, written_same}
use Rattle.trace.proofs.ReadBack.{turn_given}
use Rattle.trace.proofs.StepBytes.{key_is_wide}

-- a known action is written as the plan writes it
written_is : (plan : Plan) (written : Written) (action : Named) → IsKnown plan written action → written ≡ written_of plan action
written_is plan written action h =
    let name = sym (ap (λ o. unwrap_or o []) h.name.is) in
    let args = sym h.args in
    λ i. record { name = name i; args = args i }

pub known_outcome : (plan : Plan) (text : List ℕ) (action : Named) → IsAction plan text action → IsOutcome plan (outcome.Did action) × (text ≡ action_text plan action)
known_outcome plan text action h =
    let same = written_is plan h.written action h.known in
    ((subst (IsWritten plan) same h.proper, subst (λ (w : Written). IsKnown plan w action) same h.known), h.is ∙ ap (written_text plan) same)

-- a key whose component exists, read where the number of components is known
pub key_of_plan : (plan : Plan) (key : Key) → IsStepKey key → key.component < length (composition plan) → IsKeyOf plan key
key_of_plan plan key h inside = record { numbers = key_is_wide key h; exists = inside }

pub step_key : (plan : Plan) (key : Key) → length (composition plan) < 2 ^ 16 → IsKeyOf plan key → IsStepKey key
step_key plan key few h =
    let tick = h.numbers.tick in
    let number = h.numbers.number in
    let inside = h.exists in
    record { tick = tick; component = omega (arith, few, inside); number = number }

-- the line that a turn has
turn_line : (plan : Plan) (key : Key) (outcome : Outcome) → IsKeyOf plan key → IsOutcome plan outcome → (line : Line) × IsTurnLine plan line × (key_text key ++ outcome_text plan outcome ≡ line_text plan line)
turn_line plan key outcome.Idle k h = (Idle key, k, refl)
turn_line plan key (outcome.Did action) k h = (Turn key (written_of plan action), (k, h.0), refl)

turn_is_line : (plan : Plan) (line : Line) → IsTurnLine plan line → IsLine plan line
turn_is_line plan (Alone w) h = absurd h
turn_is_line plan (Turn key w) h = (h.0.numbers, h.1)
turn_is_line plan (Idle key) h = h.numbers

pub IsUtf8-turn : (plan : Plan) (line : Line) → IsTurnLine plan line → IsUtf8 (line_text plan line)
IsUtf8-turn plan line h = IsUtf8-line plan line (turn_is_line plan line h)

-- what stands before a turn's outcome is no key of a component that exists
pub no_key_in : (plan : Plan) (text : List ℕ) → ((key : Key) (rest : List ℕ) → IsKeyOf plan key → text ≡ key_text key ++ rest → ⊥) → IsNoTurn plan text
no_key_in plan text none (Alone w) h e = h
no_key_in plan text none (Turn key w) h e = none key (written_text plan w) h.0 e
no_key_in plan text none (Idle key) h e = none key (codes "idle") h e

-- what follows a key is no outcome
pub no_outcome_in : (plan : Plan) (text rest : List ℕ) (key : Key) → IsKeyOf plan key → text ≡ key_text key ++ rest → (rest ≡ codes "idle" → ⊥) × IsNoAction plan rest → IsNoTurn plan text
no_outcome_in plan text rest key k is none (Alone w) h e = h
no_outcome_in plan text rest key k is none (Turn other w) h e = none.1 w h.1 (key_same key other rest (written_text plan w) k.numbers h.0.numbers (sym is ∙ e)).1
no_outcome_in plan text rest key k is none (Idle other) h e = none.0 (key_same key other rest (codes "idle") k.numbers h.numbers (sym is ∙ e)).1

pub foreign_turn_in : (plan : Plan) (text rest : List ℕ) (key : Key) → IsKeyOf plan key → text ≡ key_text key ++ rest → IsForeign plan rest → IsForeignTurn plan text
foreign_turn_in plan text rest key k is h =
    record { line = Turn key h.written; proper = (k, h.proper); is = is ∙ ap (λ l. key_text key ++ l) h.is; unknown = λ given g. h.unknown g.0 g.2 }

pub turn_in : (plan : Plan) (text rest : List ℕ) (key : Key) (outcome : Outcome) → IsKeyOf plan key → text ≡ key_text key ++ rest → IsOutcome plan outcome × (rest ≡ outcome_text plan outcome) → SaysTurn plan text (record { key = key; outcome = outcome })
turn_in plan text rest key what k is h = record { proper = record { key = k; outcome = h.0 }; is = is ∙ ap (λ l. key_text key ++ l) h.1 }

-- `<` tells whether one is less than the other
pub less_decides : (o p : Ordering) (r : Bool) → o ≡ p → r ≡ is_lt o → Decides r (p ≡ Less)
less_decides o p r same is = (λ t. sym same ∙ less o (sym is ∙ t), λ e. is ∙ ap is_lt (same ∙ e)) where
  less : (a : Ordering) → is_lt a ≡ true → a ≡ Less
  less Less e = refl
  less Equal e = absurd (both_ways (is_lt Equal) refl e)
  less Greater e = absurd (both_ways (is_lt Greater) refl e)

-- a line says one turn
outcome_same : (plan : Plan) (a b : Outcome) → IsOutcome plan a → IsOutcome plan b → outcome_text plan a ≡ outcome_text plan b → a ≡ b
outcome_same plan outcome.Idle outcome.Idle h k e = refl
outcome_same plan outcome.Idle (outcome.Did b) h k e = absurd (idle_no_action plan (written_of plan b).name b.args k.0.name (sym e))
outcome_same plan (outcome.Did a) outcome.Idle h k e = absurd (idle_no_action plan (written_of plan a).name a.args h.0.name e)
outcome_same plan (outcome.Did a) (outcome.Did b) h k e =
    let same = written_same plan (written_of plan a) (written_of plan b) h.0 k.0 e in
    ap outcome.Did (known_same plan (written_of plan b) a b (subst (λ (w : Written). IsKnown plan w a) same h.1) k.1)

pub says_same : (plan : Plan) (text : List ℕ) (t u : Turned) → SaysTurn plan text t → SaysTurn plan text u → t ≡ u
says_same plan text t u h k =
    let parts = key_same t.key u.key (outcome_text plan t.outcome) (outcome_text plan u.outcome) h.proper.key.numbers k.proper.key.numbers (sym h.is ∙ k.is) in
    let what = outcome_same plan t.outcome u.outcome h.proper.outcome k.proper.outcome parts.1 in
    λ i. record { key = parts.0 i; outcome = what i }

-- a line that says a turn has neither of the faults of a line by itself
pub says_no_bad : (plan : Plan) (text : List ℕ) (t : Turned) → SaysTurn plan text t → IsNoTurn plan text → ⊥
says_no_bad plan text t h none =
    let line = turn_line plan t.key t.outcome h.proper.key h.proper.outcome in
    none line.0 line.1 (h.is ∙ line.2)

says_given : (plan : Plan) (text : List ℕ) (t : Turned) → SaysTurn plan text t → IsGiven plan text (actions_of t.outcome)
says_given plan text t h = subst (λ l. IsGiven plan l (actions_of t.outcome)) (sym h.is) (turn_given plan t.key t.outcome h.proper.key.numbers h.proper.outcome)

foreign_is_unknown : (plan : Plan) (text : List ℕ) → IsForeignTurn plan text → IsUnknown plan text
foreign_is_unknown plan text h = record { line = h.line; proper = turn_is_line plan h.line h.proper; is = h.is; unknown = h.unknown }

pub says_no_foreign : (plan : Plan) (text : List ℕ) (t : Turned) → SaysTurn plan text t → IsForeignTurn plan text → ⊥
says_no_foreign plan text t h foreign = sound_no_unknown plan text (actions_of t.outcome, says_given plan text t h) (foreign_is_unknown plan text foreign)

pub bad_no_foreign : (plan : Plan) (text : List ℕ) → IsNoTurn plan text → IsForeignTurn plan text → ⊥
bad_no_foreign plan text none foreign = none foreign.line foreign.proper foreign.is
