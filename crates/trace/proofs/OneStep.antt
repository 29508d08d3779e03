-- A text is that of one line of steps, and a file gives one list of steps or has one fault.
use Rattle.std.proofs.Common.{◌≡◌, ◌≢◌, ℕ, ◌^◌, ◌<◌, List, [], ◌∷◌, ◌++◌, append-nil, refl, ap, sym, subst, ◌∙◌, arith}
use Rattle.std.specs.Prelude.{codes}
use Rattle.std.specs.List.{AllByRecursion}
use Rattle.std.specs.Fmt.{decimal}
use Rattle.std.proofs.lemmas.Fmt.{decimal_injective}
use Rattle.std.proofs.lemmas.List.{append_assoc}
use Rattle.event_keys.specs.declared.key.Key.{Key}
use Rattle.event_keys.specs.declared.key.Bound.{Bound}
use Rattle.event_keys.specs.declared.key.Bound.TheVariants.{At, End}
use Rattle.event_keys.specs.declared.message.Message.{Message}
use Rattle.event_keys.specs.declared.message.Sign.{Sign}
use Rattle.event_keys.specs.declared.message.Sign.TheVariants.{Plus, Minus}
use Rattle.plans.specs.declared.plan.Plan.{Plan}
use Rattle.task_seed.specs.Table.{lines_of}
use Rattle.event_keys.specs.declared.step.Step.{Step}
use Rattle.event_keys.specs.declared.step.Step.TheVariants as step
use Rattle.trace.specs.declared.fault.TraceError.{TraceError}
use Rattle.trace.specs.declared.fault.TraceError.TheVariants as trace
use Rattle.trace.specs.Lines.{key_text}
use Rattle.trace.specs.StepFile.{SaysStep, IsBadStep, IsUnknownStep, GivesSteps, IsStepsFault}
use Rattle.trace.specs.StepLines.{WrittenMessage, message_text, sign_text, bound_text, StepLine, Process, Deliver, Meet, RollBack, Commit, step_text, IsWrittenMessage, IsStepBound, IsStepLine, IsMessage, Says}
use Rattle.trace.specs.Written.{written_text}
use Rattle.trace.proofs.Cuts.{first_of, rest_of, same_cut}
use Rattle.trace.proofs.LineTexts.{number_lacks}
use Rattle.trace.proofs.OneFault.{no_file_fault, file_fault_same}
use Rattle.trace.proofs.OneFile.{known_same}
use Rattle.trace.proofs.OneLine.{written_same, key_same}
use Rattle.trace.proofs.StepBytes.{key_is_wide}
use Rattle.trace.proofs.StepTexts.{end_only, word_of, after_word, text_is, word_lacks}

small_same : (m n : ℕ) → m < 2 ^ 16 → n < 2 ^ 16 → decimal m ≡ decimal n → m ≡ n
small_same m n h k e = decimal_injective m n (omega (arith, h)) (omega (arith, k)) e

message_same : (plan : Plan) (v u : WrittenMessage) → IsWrittenMessage plan v → IsWrittenMessage plan u → message_text plan v ≡ message_text plan u → v ≡ u
message_same plan v u h k e =
    let low = h.to in
    let small = k.to in
    let to = same_cut 32 (decimal v.to) (decimal u.to) (key_text v.key ++ written_text plan v.action) (key_text u.key ++ written_text plan u.action)
    (number_lacks v.to (omega (arith, low))) (number_lacks u.to (omega (arith, small)))
    (sym (append_assoc (decimal v.to) (codes " ") (key_text v.key ++ written_text plan v.action)) ∙ e ∙ append_assoc (decimal u.to) (codes " ") (key_text u.key ++ written_text plan u.action)) in
    let key = key_same v.key u.key (written_text plan v.action) (written_text plan u.action) (key_is_wide v.key h.key) (key_is_wide u.key k.key) to.1 in
    let number = small_same v.to u.to low small to.0 in
    let action = written_same plan v.action u.action h.action k.action key.1 in
    λ i. record { to = number i; key = key.0 i; action = action i }

sign_same : (sign other : Sign) (rest later : List ℕ) → sign_text sign ++ rest ≡ sign_text other ++ later → (sign ≡ other) × (rest ≡ later)
sign_same Plus Plus rest later e = (refl, ap (λ l. rest_of (rest_of l)) e)
sign_same Plus Minus rest later e = absurd (omega (arith, ap first_of e))
sign_same Minus Plus rest later e = absurd (omega (arith, ap first_of e))
sign_same Minus Minus rest later e = (refl, ap (λ l. rest_of (rest_of l)) e)

-- a bound's key, and a space after it
key_spaced : (key : Key) → bound_text (At key) ++ codes " " ≡ key_text key ++ []
key_spaced key = simp (append_assoc, append-nil) refl

bound_same : (bound other : Bound) → IsStepBound bound → IsStepBound other → bound_text bound ≡ bound_text other → bound ≡ other
bound_same (At key) (At other) h k e =
    ap At (key_same key other [] [] (key_is_wide key h) (key_is_wide other k) (sym (key_spaced key) ∙ ap (λ l. l ++ codes " ") e ∙ key_spaced other)).0
bound_same (At key) End h k e = end_only (codes "end") refl (At key) (sym e)
bound_same End (At key) h k e = sym (end_only (codes "end") refl (At key) e)
bound_same End End h k e = refl

line_parts_same : (plan : Plan) (line other : StepLine) → IsStepLine plan line → IsStepLine plan other → word_of line ≡ word_of other → after_word plan line ≡ after_word plan other → line ≡ other
line_parts_same plan (Process m) (Process n) h k w e = ap Process (small_same m n h k e)
line_parts_same plan (Process m) (Deliver t u) h k w e = absurd (omega (arith, ap first_of w))
line_parts_same plan (Process m) (Meet u) h k w e = absurd (omega (arith, ap first_of w))
line_parts_same plan (Process m) (RollBack n) h k w e = absurd (omega (arith, ap first_of w))
line_parts_same plan (Process m) (Commit c) h k w e = absurd (omega (arith, ap first_of w))
line_parts_same plan (Deliver s v) (Process n) h k w e = absurd (omega (arith, ap first_of w))
line_parts_same plan (Deliver s v) (Deliver t u) h k w e =
    let parts = sign_same s t (message_text plan v) (message_text plan u) e in
    let same = message_same plan v u h k parts.1 in
    λ i. Deliver (parts.0 i) (same i)
line_parts_same plan (Deliver s v) (Meet u) h k w e = absurd (omega (arith, ap first_of w))
line_parts_same plan (Deliver s v) (RollBack n) h k w e = absurd (omega (arith, ap first_of w))
line_parts_same plan (Deliver s v) (Commit c) h k w e = absurd (omega (arith, ap first_of w))
line_parts_same plan (Meet v) (Process n) h k w e = absurd (omega (arith, ap first_of w))
line_parts_same plan (Meet v) (Deliver t u) h k w e = absurd (omega (arith, ap first_of w))
line_parts_same plan (Meet v) (Meet u) h k w e = ap Meet (message_same plan v u h k e)
line_parts_same plan (Meet v) (RollBack n) h k w e = absurd (omega (arith, ap first_of w))
line_parts_same plan (Meet v) (Commit c) h k w e = absurd (omega (arith, ap first_of w))
line_parts_same plan (RollBack m) (Process n) h k w e = absurd (omega (arith, ap first_of w))
line_parts_same plan (RollBack m) (Deliver t u) h k w e = absurd (omega (arith, ap first_of w))
line_parts_same plan (RollBack m) (Meet u) h k w e = absurd (omega (arith, ap first_of w))
line_parts_same plan (RollBack m) (RollBack n) h k w e = ap RollBack (small_same m n h k e)
line_parts_same plan (RollBack m) (Commit c) h k w e = absurd (omega (arith, ap first_of w))
line_parts_same plan (Commit b) (Process n) h k w e = absurd (omega (arith, ap first_of w))
line_parts_same plan (Commit b) (Deliver t u) h k w e = absurd (omega (arith, ap first_of w))
line_parts_same plan (Commit b) (Meet u) h k w e = absurd (omega (arith, ap first_of w))
line_parts_same plan (Commit b) (RollBack n) h k w e = absurd (omega (arith, ap first_of w))
line_parts_same plan (Commit b) (Commit c) h k w e = ap Commit (bound_same b c h k e)

pub step_line_same : (plan : Plan) (line other : StepLine) → IsStepLine plan line → IsStepLine plan other → step_text plan line ≡ step_text plan other → line ≡ other
step_line_same plan line other h k e =
    let parts = same_cut 32 (word_of line) (word_of other) (after_word plan line) (after_word plan other) (word_lacks line) (word_lacks other) (sym (text_is plan line) ∙ e ∙ text_is plan other) in
    line_parts_same plan line other h k parts.0 parts.1

message_said_same : (plan : Plan) (written : WrittenMessage) (a b : Message) → IsMessage plan written a → IsMessage plan written b → a ≡ b
message_said_same plan written a b h k =
    let to = h.to ∙ sym k.to in
    let key = h.key ∙ sym k.key in
    let action = known_same plan written.action a.action b.action h.action k.action in
    λ i. record { key = key i; action = action i; to = to i }

says_same : (plan : Plan) (line : StepLine) (a b : Step) → Says plan line a → Says plan line b → a ≡ b
says_same plan (Process n) a b h k = h ∙ sym k
says_same plan (Deliver sign written) a b h k =
    let same = message_said_same plan written h.0 k.0 h.1 k.1 in
    h.2 ∙ (λ i. step.Deliver (record { message = same i; sign = sign })) ∙ sym k.2
says_same plan (Meet written) a b h k = h.2 ∙ ap step.Meet (message_said_same plan written h.0 k.0 h.1 k.1) ∙ sym k.2
says_same plan (RollBack n) a b h k = h ∙ sym k
says_same plan (Commit bound) a b h k = h ∙ sym k

step_same : (plan : Plan) (text : List ℕ) (a b : Step) → SaysStep plan text a → SaysStep plan text b → a ≡ b
step_same plan text a b h k =
    let same : h.line ≡ k.line = step_line_same plan h.line k.line h.proper k.proper (sym h.is ∙ k.is) in
    says_same plan k.line a b (subst (λ (l : StepLine). Says plan l a) same h.says) k.says

pub gives_steps_same : (plan : Plan) (texts : List (List ℕ)) (one two : List Step) → GivesSteps plan texts one → GivesSteps plan texts two → one ≡ two
gives_steps_same plan [] [] [] h k = refl
gives_steps_same plan [] [] (b ∷ two) h k = absurd k
gives_steps_same plan [] (a ∷ one) two h k = absurd h
gives_steps_same plan (text ∷ texts) [] two h k = absurd h
gives_steps_same plan (text ∷ texts) (a ∷ one) [] h k = absurd k
gives_steps_same plan (text ∷ texts) (a ∷ one) (b ∷ two) h k =
    let here = step_same plan text a b h.0 k.0 in
    let later = gives_steps_same plan texts one two h.1 k.1 in
    λ i. here i ∷ later i

-- a line without a fault
abbrev IsSound : Plan → List ℕ → Type 0
IsSound plan text = (said : Step) × SaysStep plan text said

all_sound : (plan : Plan) (texts : List (List ℕ)) (steps : List Step) → GivesSteps plan texts steps → AllByRecursion (IsSound plan) texts
all_sound plan [] [] h = tt
all_sound plan [] (a ∷ steps) h = absurd h
all_sound plan (text ∷ texts) [] h = absurd h
all_sound plan (text ∷ texts) (a ∷ steps) h = ((a, h.0), all_sound plan texts steps h.1)

sound_no_bad : (plan : Plan) (text : List ℕ) → IsSound plan text → IsBadStep plan text → ⊥
sound_no_bad plan text h bad = bad h.1.line h.1.proper h.1.is

sound_no_unknown : (plan : Plan) (text : List ℕ) → IsSound plan text → IsUnknownStep plan text → ⊥
sound_no_unknown plan text h u =
    let same : h.1.line ≡ u.line = step_line_same plan h.1.line u.line h.1.proper u.proper (sym h.1.is ∙ u.is) in
    u.unknown h.0 (subst (λ (l : StepLine). Says plan l h.0) same h.1.says)

bad_no_unknown : (plan : Plan) (text : List ℕ) → IsBadStep plan text → IsUnknownStep plan text → ⊥
bad_no_unknown plan text bad u = bad u.line u.proper u.is

pub gives_no_step_fault : (plan : Plan) (bytes : List ℕ) (steps : List Step) (error : TraceError) → GivesSteps plan (lines_of bytes) steps → IsStepsFault plan bytes error → error ≡ trace.NoMemory
gives_no_step_fault plan bytes steps error h k = no_file_fault (GivesSteps plan) (IsSound plan) (all_sound plan) (IsBadStep plan) (IsUnknownStep plan) (sound_no_bad plan) (sound_no_unknown plan) (bad_no_unknown plan) bytes steps error h k

pub step_fault_same : (plan : Plan) (bytes : List ℕ) (error other : TraceError) → error ≢ trace.NoMemory → other ≢ trace.NoMemory → IsStepsFault plan bytes error → IsStepsFault plan bytes other → error ≡ other
step_fault_same plan bytes error other f g h k = file_fault_same (GivesSteps plan) (IsSound plan) (all_sound plan) (IsBadStep plan) (IsUnknownStep plan) (sound_no_bad plan) (sound_no_unknown plan) (bad_no_unknown plan) bytes error other f g h k
