-- The text of turns.
use Rattle.std.specs.Prelude.{ℕ, Bool, true, false, List, [], ◌∷◌, ◌++◌, codes, if◌then◌else◌, unwrap_or, slice_get, flat_map, map}
use Rattle.std.specs.Fmt.{decimal, signed_decimal}
use Rattle.terms.specs.Named.{Named}
use Rattle.terms.specs.declared.scalar.Scalar.{Scalar}
use Rattle.terms.specs.declared.scalar.Scalar.TheVariants.{Int, Bool as Truth, Member}
use Rattle.std.specs.Borrow.{Bor}
use Rattle.event_keys.specs.declared.key.Key.{Key}
use Rattle.event_keys.specs.declared.outcome.Outcome.{Outcome}
use Rattle.event_keys.specs.declared.outcome.Outcome.TheVariants.{Idle, Did}
use Rattle.event_keys.specs.declared.outcome.Turned.{Turned}
use Rattle.plans.specs.declared.plan.Plan.{Plan}
use Rattle.plans.specs.Plans.{composition, action_texts, hides, member_texts}
use Rattle.io_automata.specs.Signatures.{is_external}
use Rattle.trace.specs.declared.lines.Lines.{Lines}
use Rattle.trace.specs.declared.lines.Lines.TheVariants.{All, Trace}

-- the name of a number, and no text where the number has none
abbrev pub name_at : List (List ℕ) → ℕ → List ℕ
name_at names number = unwrap_or (slice_get names number) []

-- a whole number in decimal, a truth value as its word, a member of an enumeration by its name
abbrev pub argument_text : Plan → Scalar → List ℕ
argument_text plan (Int number) = signed_decimal number
argument_text plan (Truth value) = if value then codes "true" else codes "false"
argument_text plan (Member member) = name_at (member_texts plan) member

-- an argument after a comma, and arguments each after one
abbrev pub other_text : Plan → Scalar → List ℕ
other_text plan arg = codes "," ++ argument_text plan arg

abbrev pub others_text : Plan → List Scalar → List ℕ
others_text plan args = flat_map (other_text plan) args

-- arguments in brackets with commas between them, and no text where there are none
abbrev pub bracketed_text : Plan → Scalar → List Scalar → List ℕ
bracketed_text plan arg args = codes "(" ++ (argument_text plan arg ++ (others_text plan args ++ codes ")"))

abbrev pub arguments_text : Plan → List Scalar → List ℕ
arguments_text plan [] = []
arguments_text plan (arg ∷ args) = bracketed_text plan arg args

-- an action is its name with its arguments, and an idle turn the word
abbrev pub action_text : Plan → Named → List ℕ
action_text plan action = name_at (action_texts plan) action.name ++ arguments_text plan action.args

abbrev pub outcome_text : Plan → Outcome → List ℕ
outcome_text plan Idle = codes "idle"
outcome_text plan (Did action) = action_text plan action

-- a number and a space
abbrev pub number_text : ℕ → List ℕ
number_text number = decimal number ++ codes " "

-- a key's tick, component and number
abbrev pub key_text : Key → List ℕ
key_text key = number_text key.tick ++ (number_text key.component ++ number_text key.number)

-- a turn's key and outcome, and a line feed
abbrev pub line_of : Plan → Turned → List ℕ
line_of plan turned = key_text turned.key ++ (outcome_text plan turned.outcome ++ 10 ∷ [])

-- the turn did an action that is external: an input or an output of the composition, and no output that is hidden
abbrev pub did_external : Plan → Outcome → Bool
did_external plan Idle = false
did_external plan (Did action) = is_external (hides plan) (composition plan) action

-- whether a turn with this outcome is written
abbrev pub is_shown : Plan → Lines → Outcome → Bool
is_shown plan All outcome = true
is_shown plan Trace outcome = did_external plan outcome

-- the line of a turn that is written, and no text for another
abbrev pub shown_text : Plan → Lines → Turned → List ℕ
shown_text plan lines turned = if is_shown plan lines turned.outcome then line_of plan turned else []

-- the lines of the turns that are written, one after another
abbrev pub text_of : Plan → Lines → List Turned → List ℕ
text_of plan lines turns = flat_map (shown_text plan lines) turns

-- the turns behind references
abbrev pub turns_at : List (Bor Turned) → List Turned
turns_at given = map (λ turn. turn.now) given
