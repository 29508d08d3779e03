-- A file gives one list of actions or has one fault.
use Rattle.std.proofs.Common.{◌≡◌, ◌≢◌, ℕ, List, [], ◌∷◌, ◌++◌, ap, sym, subst, ◌∙◌}
use Rattle.std.specs.List.{AllByRecursion}
use Rattle.terms.specs.Named.{Named}
use Rattle.plans.specs.declared.plan.Plan.{Plan}
use Rattle.plans.specs.Plans.{action_texts}
use Rattle.task_seed.specs.Table.{lines_of}
use Rattle.trace.specs.declared.fault.TraceError.{TraceError}
use Rattle.trace.specs.declared.fault.TraceError.TheVariants as trace
use Rattle.trace.specs.Written.{Written, Line, Alone, Turn, Idle, IsKnown, WrittenGives, LineGives}
use Rattle.trace.specs.TraceFile.{IsGiven, IsBad, IsUnknown, Gives, IsTraceFault}
use Rattle.trace.proofs.OneFault.{no_file_fault, file_fault_same}
use Rattle.trace.proofs.OneLine.{number_same, line_same}

pub known_same : (plan : Plan) (written : Written) (a b : Named) → IsKnown plan written a → IsKnown plan written b → a ≡ b
known_same plan written a b h k =
    let name = number_same (action_texts plan) written.name a.name b.name h.name k.name in
    let args = h.args ∙ sym k.args in
    λ i. record { name = name i; args = args i }

written_gives_same : (plan : Plan) (written : Written) (one two : List Named) → WrittenGives plan written one → WrittenGives plan written two → one ≡ two
written_gives_same plan written one two h k = h.1 ∙ ap (λ a. a ∷ []) (known_same plan written h.0 k.0 h.2 k.2) ∙ sym k.1

line_gives_same : (plan : Plan) (line : Line) (one two : List Named) → LineGives plan line one → LineGives plan line two → one ≡ two
line_gives_same plan (Alone written) one two h k = written_gives_same plan written one two h k
line_gives_same plan (Turn key written) one two h k = written_gives_same plan written one two h k
line_gives_same plan (Idle key) one two h k = h ∙ sym k

given_same : (plan : Plan) (text : List ℕ) (one two : List Named) → IsGiven plan text one → IsGiven plan text two → one ≡ two
given_same plan text one two h k =
    let same : h.line ≡ k.line = line_same plan h.line k.line h.proper k.proper (sym h.is ∙ k.is) in
    line_gives_same plan k.line one two (subst (λ (l : Line). LineGives plan l one) same h.gives) k.gives

pub gives_same : (plan : Plan) (texts : List (List ℕ)) (one two : List Named) → Gives plan texts one → Gives plan texts two → one ≡ two
gives_same plan [] one two h k = h ∙ sym k
gives_same plan (text ∷ texts) one two h k =
    let here = given_same plan text h.0 k.0 h.2 k.2 in
    let later = gives_same plan texts h.1 k.1 h.3 k.3 in
    h.4 ∙ (λ i. here i ++ later i) ∙ sym k.4

-- a line without a fault
abbrev IsSound : Plan → List ℕ → Type 0
IsSound plan text = (given : List Named) × IsGiven plan text given

all_sound : (plan : Plan) (texts : List (List ℕ)) (actions : List Named) → Gives plan texts actions → AllByRecursion (IsSound plan) texts
all_sound plan [] actions h = tt
all_sound plan (text ∷ texts) actions h = ((h.0, h.2), all_sound plan texts h.1 h.3)

sound_no_bad : (plan : Plan) (text : List ℕ) → IsSound plan text → IsBad plan text → ⊥
sound_no_bad plan text h bad = bad h.1.line h.1.proper h.1.is

pub sound_no_unknown : (plan : Plan) (text : List ℕ) → IsSound plan text → IsUnknown plan text → ⊥
sound_no_unknown plan text h u =
    let same : h.1.line ≡ u.line = line_same plan h.1.line u.line h.1.proper u.proper (sym h.1.is ∙ u.is) in
    u.unknown h.0 (subst (λ (l : Line). LineGives plan l h.0) same h.1.gives)

bad_no_unknown : (plan : Plan) (text : List ℕ) → IsBad plan text → IsUnknown plan text → ⊥
bad_no_unknown plan text bad u = bad u.line u.proper u.is

pub gives_no_fault : (plan : Plan) (bytes : List ℕ) (actions : List Named) (error : TraceError) → Gives plan (lines_of bytes) actions → IsTraceFault plan bytes error → error ≡ trace.NoMemory
gives_no_fault plan bytes actions error h k =
    no_file_fault (Gives plan) (IsSound plan) (all_sound plan) (IsBad plan) (IsUnknown plan) (sound_no_bad plan) (sound_no_unknown plan) (bad_no_unknown plan) bytes actions error h k

pub fault_same : (plan : Plan) (bytes : List ℕ) (error other : TraceError) → error ≢ trace.NoMemory → other ≢ trace.NoMemory → IsTraceFault plan bytes error → IsTraceFault plan bytes other → error ≡ other
fault_same plan bytes error other f g h k =
    file_fault_same (Gives plan) (IsSound plan) (all_sound plan) (IsBad plan) (IsUnknown plan) (sound_no_bad plan) (sound_no_unknown plan) (bad_no_unknown plan) bytes error other f g h k
