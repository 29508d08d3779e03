-- What is written of turns is read back.
use Rattle.std.proofs.Common.{◌≡◌, ◌≢◌, ℕ, true, List, [], ◌∷◌, ◌++◌, refl, ap, sym, subst, ◌∙◌, arith}
use Rattle.std.specs.List.{list_all, AllByRecursion, onto_first}
use Rattle.std.proofs.lemmas.Bool.{and_parts, both_ways}
use Rattle.std.proofs.lemmas.Grind.{common_steps}
use Rattle.std.proofs.lemmas.List.{append_assoc}
use Rattle.event_keys.specs.declared.key.Key.{Key}
use Rattle.event_keys.specs.declared.outcome.Outcome.{Outcome}
use Rattle.event_keys.specs.declared.outcome.Outcome.TheVariants as outcome
use Rattle.event_keys.specs.declared.outcome.Turned.{Turned}
use Rattle.plans.specs.declared.plan.Plan.{Plan}
use Rattle.task_seed.specs.Table.{lines_of}
use Rattle.trace.specs.Lines.{key_text, outcome_text, line_of, text_of}
use Rattle.trace.specs.declared.lines.Lines.TheVariants.{All}
use Rattle.trace.specs.Written.{Turn, Idle, IsKey}
use Rattle.trace.specs.TraceFile.{IsGiven, Gives}
use Rattle.trace.specs.WrittenTurns.{written_of, actions_of, IsOutcome, IsTurn, actions_done}
use Rattle.trace.proofs.Dark.{is_inked, line_inked}

inked_is_in_line : (b : ℕ) → is_inked b ≡ true → b ≢ 10
inked_is_in_line b h e = both_ways (is_inked 10) refl (subst (λ x. is_inked x ≡ true) e h)

lines_cons : (b : ℕ) (bs : List ℕ) → b ≢ 10 → lines_of (b ∷ bs) ≡ onto_first b (lines_of bs)
lines_cons b bs h = grind (arith, common_steps)

-- a line, and what follows its line feed
pub first_line_is : (line rest : List ℕ) → list_all is_inked line ≡ true → lines_of (line ++ (10 ∷ rest)) ≡ line ∷ lines_of rest
first_line_is [] rest h = refl
first_line_is (b ∷ bs) rest h =
    let parts = and_parts (is_inked b) (list_all is_inked bs) h in
    lines_cons b (bs ++ (10 ∷ rest)) (inked_is_in_line b parts.0) ∙ ap (onto_first b) (first_line_is bs rest parts.1)

pub turn_given : (plan : Plan) (key : Key) (outcome : Outcome) → IsKey key → IsOutcome plan outcome → IsGiven plan (key_text key ++ outcome_text plan outcome) (actions_of outcome)
turn_given plan key outcome.Idle k h = record { line = Idle key; proper = k; is = refl; gives = refl }
turn_given plan key (outcome.Did action) k h = record { line = Turn key (written_of plan action); proper = (k, h.0); is = refl; gives = (action, refl, h.1) }

pub line_split : (plan : Plan) (turned : Turned) (rest : List ℕ) → line_of plan turned ++ rest ≡ (key_text turned.key ++ outcome_text plan turned.outcome) ++ (10 ∷ rest)
line_split plan turned rest = simp append_assoc refl

pub read_back : (plan : Plan) (turns : List Turned) → AllByRecursion (IsTurn plan) turns → Gives plan (lines_of (text_of plan All turns)) (actions_done turns)
read_back plan [] h = refl
read_back plan (turned ∷ turns) h =
    let given = turn_given plan turned.key turned.outcome h.0.key h.0.outcome in
    let text = key_text turned.key ++ outcome_text plan turned.outcome in
    let inked = subst (λ l. list_all is_inked l ≡ true) (sym given.is) (line_inked plan given.line given.proper) in
    let lines : lines_of (text_of plan All (turned ∷ turns)) ≡ text ∷ lines_of (text_of plan All turns) =
    ap lines_of (line_split plan turned (text_of plan All turns)) ∙ first_line_is text (text_of plan All turns) inked in
    subst (λ l. Gives plan l (actions_done (turned ∷ turns))) (sym lines) (actions_of turned.outcome, actions_done turns, given, read_back plan turns h.1, refl)
