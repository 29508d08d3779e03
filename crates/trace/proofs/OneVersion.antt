-- A file of either version gives one list of actions or has one fault.
use Rattle.std.proofs.Common.{◌≡◌, ◌≢◌, ℕ, List, [], ◌∷◌, ◌++◌, length, refl, ap, sym, subst, ◌∙◌, inl, inr, arith}
use Rattle.std.specs.Prelude.{◌⊎◌, Bool, false, true, Decides, codes}
use Rattle.std.specs.Fmt.{decimal}
use Rattle.std.specs.List.{list_all}
use Rattle.std.specs.Str.{bytes_eq}
use Rattle.std.proofs.lemmas.Bool.{both_ways, cases_Bool}
use Rattle.std.proofs.lemmas.Slice.Eq.{bytes_eq-Decides}
use Rattle.terms.specs.Named.{Named}
use Rattle.event_keys.specs.declared.key.Key.{Key}
use Rattle.plans.specs.declared.plan.Plan.{Plan}
use Rattle.task_seed.specs.Table.{lines_of}
use Rattle.trace.specs.Lines.{key_text}
use Rattle.trace.specs.OrderedFile.{head_line, GivesInOrder, IsOrderedFault}
use Rattle.trace.specs.TraceFile.{Gives, IsTraceFault}
use Rattle.trace.specs.Versions.{GivesFile, HasFault, IsVersionTwo}
use Rattle.trace.specs.Written.{Line, Alone, Turn, Idle, line_text, written_text, IsKey, IsLine}
use Rattle.trace.specs.declared.fault.TraceError.{TraceError}
use Rattle.trace.specs.declared.fault.TraceError.TheVariants as trace
use Rattle.trace.proofs.Cuts.{no_cut, same_cut}
use Rattle.trace.proofs.Dark.{free, is_plain}
use Rattle.trace.proofs.Keys.{key_parts}
use Rattle.trace.proofs.LineTexts.{number_lacks, written_lacks}
use Rattle.trace.proofs.OneFault.{head_of}
use Rattle.trace.proofs.OneFile.{gives_same, gives_no_fault, fault_same}
use Rattle.trace.proofs.OneLine.{is_numeric, number_numeric}
use Rattle.trace.proofs.OneOrder.{ordered_fault_same, ordered_no_fault, ordered_same}

-- a file without lines, and one by its first line
pub empty_is_other : (bytes : List ℕ) → length bytes ≡ 0 → Decides false (IsVersionTwo bytes)
empty_is_other [] e = ((λ t. absurd (both_ways false refl t)), λ o. absurd (omega (arith, ap length o.1)))
empty_is_other (b ∷ bs) e = absurd (omega arith)

pub version_by_line : (bytes first later : List ℕ) (r : Bool) → lines_of bytes ≡ first ∷ lines_of later → Decides r (first ≡ head_line) → Decides r (IsVersionTwo bytes)
version_by_line bytes first later r e h = ((λ t. (lines_of later, e ∙ ap (λ l. l ∷ lines_of later) (h.0 t))), λ o. h.1 (ap head_of (sym e ∙ o.1)))

version_two_or_not : (bytes : List ℕ) → IsVersionTwo bytes ⊎ (IsVersionTwo bytes → ⊥)
version_two_or_not bytes = go (lines_of bytes) refl where
  by_line : (first : List ℕ) (later : List (List ℕ)) → lines_of bytes ≡ first ∷ later → IsVersionTwo bytes ⊎ (IsVersionTwo bytes → ⊥)
  by_line first later e = elim (cases_Bool (bytes_eq first head_line)) [
    | inl same ↦ inl (later, e ∙ ap (λ l. l ∷ later) ((bytes_eq-Decides first head_line).0 same))
    | inr apart ↦ inr (λ o. both_ways (bytes_eq first head_line) apart ((bytes_eq-Decides first head_line).1 (ap head_of (sym e ∙ o.1))))
  ]

  go : (texts : List (List ℕ)) → lines_of bytes ≡ texts → IsVersionTwo bytes ⊎ (IsVersionTwo bytes → ⊥)
  go [] e = inr (λ o. absurd (omega (arith, ap length (sym e ∙ o.1))))
  go (first ∷ later) e = by_line first later e

-- what a file of version 2 gives, and what another
pub second_gives : (plan : Plan) (bytes : List ℕ) (actions : List Named) → IsVersionTwo bytes → GivesInOrder plan (lines_of bytes) actions → GivesFile plan bytes actions
second_gives plan bytes actions o h = record { second = λ p. h; other = λ none. absurd (none o) }

pub other_gives : (plan : Plan) (bytes : List ℕ) (actions : List Named) → (IsVersionTwo bytes → ⊥) → Gives plan (lines_of bytes) actions → GivesFile plan bytes actions
other_gives plan bytes actions none h = record { second = λ o. absurd (none o); other = λ p. h }

pub second_fault : (plan : Plan) (bytes : List ℕ) (error : TraceError) → IsVersionTwo bytes → IsOrderedFault plan bytes error → HasFault plan bytes error
second_fault plan bytes error o h = record { second = λ p. h; other = λ none. absurd (none o) }

pub other_fault : (plan : Plan) (bytes : List ℕ) (error : TraceError) → (IsVersionTwo bytes → ⊥) → IsTraceFault plan bytes error → HasFault plan bytes error
other_fault plan bytes error none h = record { second = λ o. absurd (none o); other = λ p. h }

-- one file gives one list of actions, or has one fault
pub file_same : (plan : Plan) (bytes : List ℕ) (one two : List Named) → GivesFile plan bytes one → GivesFile plan bytes two → one ≡ two
file_same plan bytes one two h k = elim (version_two_or_not bytes) [
  | inl o ↦ ordered_same plan (lines_of bytes) one two (h.second o) (k.second o)
  | inr n ↦ gives_same plan (lines_of bytes) one two (h.other n) (k.other n)
]

pub no_fault_of_file : (plan : Plan) (bytes : List ℕ) (actions : List Named) (error : TraceError) → GivesFile plan bytes actions → HasFault plan bytes error → error ≡ trace.NoMemory
no_fault_of_file plan bytes actions error h k = elim (version_two_or_not bytes) [
  | inl o ↦ ordered_no_fault plan bytes actions error (h.second o) (k.second o)
  | inr n ↦ gives_no_fault plan bytes actions error (h.other n) (k.other n)
]

pub fault_of_file_same : (plan : Plan) (bytes : List ℕ) (error other : TraceError) → error ≢ trace.NoMemory → other ≢ trace.NoMemory → HasFault plan bytes error → HasFault plan bytes other → error ≡ other
fault_of_file_same plan bytes error other f g h k = elim (version_two_or_not bytes) [
  | inl o ↦ ordered_fault_same plan bytes error other f g (h.second o) (k.second o)
  | inr n ↦ fault_same plan bytes error other f g (h.other n) (k.other n)
]

-- the head is no line of a file of the other version
head_is_no_key : (key : Key) (rest : List ℕ) → IsKey key → head_line ≡ key_text key ++ rest → ⊥
head_is_no_key key rest h e =
    let cut = same_cut 32 (codes "trace") (decimal key.tick) (codes "2") _ (free is_plain 32 refl (codes "trace") refl) (number_lacks key.tick h.tick) (e ∙ key_parts key rest) in
    both_ways (list_all is_numeric (codes "trace")) refl (subst (λ l. list_all is_numeric l ≡ true) (sym cut.0) (number_numeric key.tick h.tick))

head_is_no_line : (plan : Plan) (line : Line) → IsLine plan line → head_line ≡ line_text plan line → ⊥
head_is_no_line plan (Alone w) h e = no_cut 32 (written_text plan w) (codes "trace") (codes "2") (written_lacks plan w h) (sym e)
head_is_no_line plan (Turn key w) h e = head_is_no_key key (written_text plan w) h.0 e
head_is_no_line plan (Idle key) h e = head_is_no_key key (codes "idle") h e

-- so lines that give actions in any order are no file of version 2
lines_are_other : (plan : Plan) (texts later : List (List ℕ)) (actions : List Named) → Gives plan texts actions → texts ≡ head_line ∷ later → ⊥
lines_are_other plan [] later actions h e = omega (arith, ap length e)
lines_are_other plan (text ∷ texts) later actions h e = head_is_no_line plan h.2.line h.2.proper (sym (ap head_of e) ∙ h.2.is)

pub any_lines_give : (plan : Plan) (bytes : List ℕ) (actions : List Named) → Gives plan (lines_of bytes) actions → GivesFile plan bytes actions
any_lines_give plan bytes actions h = other_gives plan bytes actions (λ o. lines_are_other plan (lines_of bytes) o.0 actions h o.1) h
