-- A text is that of one line.
use Rattle.std.proofs.Common.{◌≡◌, ℕ, suc, Bool, true, false, ◌||◌, ◌^◌, ◌<◌, List, [], ◌∷◌, ◌++◌, length, refl, ap, sym, subst, ◌∙◌, append-nil, inl, inr, arith}
use Rattle.std.specs.Prelude.{◌==◌, codes, ℤ, pos, negsuc, FitsSigned, slice_index, if◌then◌else◌}
use Rattle.std.specs.Int.{w64, IsInRange}
use Rattle.std.specs.List.{list_all, AllByRecursion}
use Rattle.std.specs.Str.Parse.{AllDigits}
use Rattle.std.specs.Fmt.{decimal, signed_decimal}
use Rattle.std.proofs.lemmas.Bool.{and_parts, and_from, both_ways, cases_order}
use Rattle.std.proofs.lemmas.Bool.Decides.{nat_tests}
use Rattle.std.proofs.lemmas.Fmt.{decimal_is_IsNumeral, decimal_injective, signed_decimal_injective}
use Rattle.std.proofs.lemmas.List.{append_assoc, append_cancel_right}
use Rattle.std.proofs.lemmas.Str.Parse.{digit_at}
use Rattle.terms.specs.declared.scalar.Scalar.{Scalar}
use Rattle.terms.specs.declared.scalar.Scalar.TheVariants.{Int, Bool as Truth, Member}
use Rattle.event_keys.specs.declared.key.Key.{Key}
use Rattle.ioa_tokens.specs.Bytes.{is_letter, is_digit, is_word_byte}
use Rattle.ioa_tokens.specs.Spelling.{IsName}
use Rattle.ioa_tokens.specs.declared.word.Word.TheVariants as w
use Rattle.plans.specs.declared.plan.Plan.{Plan}
use Rattle.plans.specs.Plans.{member_texts}
use Rattle.trace.specs.Lines.{argument_text, others_text, arguments_text, key_text}
use Rattle.trace.specs.Written.{IsNumberOf, IsArgument, Written, written_text, IsWritten, Line, Alone, Turn, Idle, line_text, IsKey, IsLine}
use Rattle.trace.proofs.Actions.{lacks_bracket}
use Rattle.trace.proofs.Arguments.{lacks_comma}
use Rattle.trace.proofs.Cuts.{no_cut, same_cut}
use Rattle.trace.proofs.Dark.{free}
use Rattle.trace.proofs.Keys.{key_parts}
use Rattle.trace.proofs.LineTexts.{number_lacks, key_is_no_action}

pub number_same : (names : List (List ℕ)) (text : List ℕ) (m n : ℕ) → IsNumberOf names text m → IsNumberOf names text n → m ≡ n
number_same names text m n h k = elim (cases_order m n) [
  | inl same ↦ same
  | inr apart ↦ elim apart [
    | inl less ↦ absurd (k.first m less h.is)
    | inr more ↦ absurd (h.first n more k.is)
  ]
]

-- what whole numbers go on with
abbrev pub is_numeric : ℕ → Bool
is_numeric b = is_digit b || b == 45

digit_is_numeric : (b : ℕ) → IsInRange 48 57 b → is_numeric b ≡ true
digit_is_numeric b h = grind (arith, nat_tests)

numeric_is_no_letter : (b : ℕ) → is_numeric b ≡ true → is_letter b ≡ false
numeric_is_no_letter b h = grind (arith, nat_tests)

digits_numeric : (ds : List ℕ) → AllDigits 10 ds → list_all is_numeric ds ≡ true
digits_numeric [] d = refl
digits_numeric (c ∷ cs) d = and_from (is_numeric c) (list_all is_numeric cs) (digit_is_numeric c (digit_at (c ∷ cs) 0 d (omega arith))) (digits_numeric cs d.1)

pub number_numeric : (n : ℕ) → n < 2 ^ 64 → list_all is_numeric (decimal n) ≡ true
number_numeric n h = digits_numeric (decimal n) (decimal_is_IsNumeral n h).0.1

whole_numeric : (z : ℤ) → FitsSigned w64 z → list_all is_numeric (signed_decimal z) ≡ true
whole_numeric (pos n) h = number_numeric n (omega (arith, h.sfits))
whole_numeric (negsuc n) h = number_numeric (suc n) (omega (arith, h.sfits))

numeric_no_name : (text : List ℕ) → list_all is_numeric text ≡ true → is_letter (slice_index text 0) ≡ true → ⊥
numeric_no_name [] h begins = both_ways (is_letter 0) refl begins
numeric_no_name (b ∷ bs) h begins = both_ways (is_letter b) (numeric_is_no_letter b (and_parts (is_numeric b) (list_all is_numeric bs) h).0) begins

whole_no_name : (z : ℤ) (text : List ℕ) → FitsSigned w64 z → IsName text → signed_decimal z ≡ text → ⊥
whole_no_name z text h name e = numeric_no_name text (subst (λ l. list_all is_numeric l ≡ true) e (whole_numeric z h)) name.begins

abbrev truth_text : Bool → List ℕ
truth_text value = if value then codes "true" else codes "false"

whole_no_truth : (z : ℤ) (value : Bool) → FitsSigned w64 z → signed_decimal z ≡ truth_text value → ⊥
whole_no_truth z true h e = both_ways (list_all is_numeric (codes "true")) refl (subst (λ l. list_all is_numeric l ≡ true) e (whole_numeric z h))
whole_no_truth z false h e = both_ways (list_all is_numeric (codes "false")) refl (subst (λ l. list_all is_numeric l ≡ true) e (whole_numeric z h))

truth_no_name : (value : Bool) (text : List ℕ) → IsName text → truth_text value ≡ text → ⊥
truth_no_name true text name e = name.is_free w.True e
truth_no_name false text name e = name.is_free w.False e

truth_same : (value other : Bool) → truth_text value ≡ truth_text other → value ≡ other
truth_same true true e = refl
truth_same true false e = absurd (omega (arith, ap length e))
truth_same false true e = absurd (omega (arith, ap length e))
truth_same false false e = refl

argument_same : (plan : Plan) (a b : Scalar) → IsArgument plan a → IsArgument plan b → argument_text plan a ≡ argument_text plan b → a ≡ b
argument_same plan (Int y) (Int z) h k e = ap Int (signed_decimal_injective y z (omega (arith, h.sfits)) (omega (arith, k.sfits)) e)
argument_same plan (Int y) (Truth v) h k e = absurd (whole_no_truth y v h e)
argument_same plan (Int y) (Member n) h k e = absurd (whole_no_name y (argument_text plan (Member n)) h k.name e)
argument_same plan (Truth u) (Int z) h k e = absurd (whole_no_truth z u k (sym e))
argument_same plan (Truth u) (Truth v) h k e = ap Truth (truth_same u v e)
argument_same plan (Truth u) (Member n) h k e = absurd (truth_no_name u (argument_text plan (Member n)) k.name e)
argument_same plan (Member m) (Int z) h k e = absurd (whole_no_name z (argument_text plan (Member m)) k h.name (sym e))
argument_same plan (Member m) (Truth v) h k e = absurd (truth_no_name v (argument_text plan (Member m)) h.name (sym e))
argument_same plan (Member m) (Member n) h k e =
    ap Member (number_same (member_texts plan) (argument_text plan (Member m)) m n h.number (subst (λ l. IsNumberOf (member_texts plan) l n) (sym e) k.number))

others_same : (plan : Plan) (a b : Scalar) (ps qs : List Scalar) → IsArgument plan a → IsArgument plan b → AllByRecursion (IsArgument plan) ps → AllByRecursion (IsArgument plan) qs
    → argument_text plan a ++ others_text plan ps ≡ argument_text plan b ++ others_text plan qs → (a ≡ b) × (ps ≡ qs)
others_same plan a b [] [] h k hs ks e = (argument_same plan a b h k (sym (append-nil (argument_text plan a)) ∙ e ∙ append-nil (argument_text plan b)), refl)
others_same plan a b [] (q ∷ qs) h k hs ks e =
    absurd (no_cut 44 (argument_text plan a) (argument_text plan b) (argument_text plan q ++ others_text plan qs) (lacks_comma plan a h) (sym (append-nil (argument_text plan a)) ∙ e))
others_same plan a b (p ∷ ps) [] h k hs ks e =
    absurd (no_cut 44 (argument_text plan b) (argument_text plan a) (argument_text plan p ++ others_text plan ps) (lacks_comma plan b k) (sym (append-nil (argument_text plan b)) ∙ sym e))
others_same plan a b (p ∷ ps) (q ∷ qs) h k hs ks e =
    let parts = same_cut 44 (argument_text plan a) (argument_text plan b) (argument_text plan p ++ others_text plan ps) (argument_text plan q ++ others_text plan qs) (lacks_comma plan a h) (lacks_comma plan b k) e in
    let more = others_same plan p q ps qs hs.0 ks.0 hs.1 ks.1 parts.1 in
    (argument_same plan a b h k parts.0, λ i. more.0 i ∷ more.1 i)

parts_same : (plan : Plan) (name own : List ℕ) (ps qs : List Scalar) → IsName name → IsName own → AllByRecursion (IsArgument plan) ps → AllByRecursion (IsArgument plan) qs
    → name ++ arguments_text plan ps ≡ own ++ arguments_text plan qs → (name ≡ own) × (ps ≡ qs)
parts_same plan name own [] [] h k hs ks e = (sym (append-nil name) ∙ e ∙ append-nil own, refl)
parts_same plan name own [] (q ∷ qs) h k hs ks e =
    absurd (no_cut 40 name own (argument_text plan q ++ (others_text plan qs ++ codes ")")) (lacks_bracket name h) (sym (append-nil name) ∙ e))
parts_same plan name own (p ∷ ps) [] h k hs ks e =
    absurd (no_cut 40 own name (argument_text plan p ++ (others_text plan ps ++ codes ")")) (lacks_bracket own k) (sym (append-nil own) ∙ sym e))
parts_same plan name own (p ∷ ps) (q ∷ qs) h k hs ks e =
    let parts = same_cut 40 name own (argument_text plan p ++ (others_text plan ps ++ codes ")")) (argument_text plan q ++ (others_text plan qs ++ codes ")")) (lacks_bracket name h) (lacks_bracket own k) e in
    let inner = append_cancel_right (argument_text plan p ++ others_text plan ps) (argument_text plan q ++ others_text plan qs) (codes ")")
    (append_assoc (argument_text plan p) (others_text plan ps) (codes ")") ∙ parts.1 ∙ sym (append_assoc (argument_text plan q) (others_text plan qs) (codes ")"))) in
    let more = others_same plan p q ps qs hs.0 ks.0 hs.1 ks.1 inner in
    (parts.0, λ i. more.0 i ∷ more.1 i)

pub written_same : (plan : Plan) (v u : Written) → IsWritten plan v → IsWritten plan u → written_text plan v ≡ written_text plan u → v ≡ u
written_same plan v u h k e =
    let parts = parts_same plan v.name u.name v.args u.args h.name k.name h.args k.args e in
    λ i. record { name = parts.0 i; args = parts.1 i }

pub key_same : (key other : Key) (rest later : List ℕ) → IsKey key → IsKey other → key_text key ++ rest ≡ key_text other ++ later → (key ≡ other) × (rest ≡ later)
key_same key other rest later h k e =
    let first = same_cut 32 (decimal key.tick) (decimal other.tick) _ _ (number_lacks key.tick h.tick) (number_lacks other.tick k.tick) (sym (key_parts key rest) ∙ e ∙ key_parts other later) in
    let second = same_cut 32 (decimal key.component) (decimal other.component) _ _ (number_lacks key.component h.component) (number_lacks other.component k.component) first.1 in
    let third = same_cut 32 (decimal key.number) (decimal other.number) rest later (number_lacks key.number h.number) (number_lacks other.number k.number) second.1 in
    let tick = decimal_injective key.tick other.tick h.tick k.tick first.0 in
    let component = decimal_injective key.component other.component h.component k.component second.0 in
    let number = decimal_injective key.number other.number h.number k.number third.0 in
    ((λ i. record { tick = tick i; component = component i; number = number i }), third.1)

-- `idle` is no action
pub idle_no_action : (plan : Plan) (name : List ℕ) (args : List Scalar) → IsName name → name ++ arguments_text plan args ≡ codes "idle" → ⊥
idle_no_action plan name [] h e = h.is_free w.Idle (sym e ∙ append-nil name)
idle_no_action plan name (a ∷ rest) h e = no_cut 40 (codes "idle") name (argument_text plan a ++ (others_text plan rest ++ codes ")")) (free is_word_byte 40 refl (codes "idle") refl) (sym e)

pub line_same : (plan : Plan) (line other : Line) → IsLine plan line → IsLine plan other → line_text plan line ≡ line_text plan other → line ≡ other
line_same plan (Alone v) (Alone u) h k e = ap Alone (written_same plan v u h k e)
line_same plan (Alone v) (Turn key u) h k e = absurd (key_is_no_action plan (written_text plan v) (written_text plan u) key v h e refl)
line_same plan (Alone v) (Idle key) h k e = absurd (key_is_no_action plan (written_text plan v) (codes "idle") key v h e refl)
line_same plan (Turn key v) (Alone u) h k e = absurd (key_is_no_action plan (written_text plan u) (written_text plan v) key u k (sym e) refl)
line_same plan (Turn key v) (Turn other u) h k e =
    let parts = key_same key other (written_text plan v) (written_text plan u) h.0 k.0 e in
    let same = written_same plan v u h.1 k.1 parts.1 in
    λ i. Turn (parts.0 i) (same i)
line_same plan (Turn key v) (Idle other) h k e = absurd (idle_no_action plan v.name v.args h.1.name (key_same key other (written_text plan v) (codes "idle") h.0 k e).1)
line_same plan (Idle key) (Alone u) h k e = absurd (key_is_no_action plan (written_text plan u) (codes "idle") key u k (sym e) refl)
line_same plan (Idle key) (Turn other u) h k e = absurd (idle_no_action plan u.name u.args k.1.name (key_same other key (written_text plan u) (codes "idle") k.0 h (sym e)).1)
line_same plan (Idle key) (Idle other) h k e = ap Idle (key_same key other (codes "idle") (codes "idle") h k e).0
