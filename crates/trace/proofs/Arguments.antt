-- Arguments, one and many.
use Rattle.std.proofs.Common.{◌≡◌, ℕ, true, false, List, [], ◌∷◌, ◌++◌, refl, ap, sym, subst, ◌∙◌, append-nil, arith}
use Rattle.std.specs.Prelude.{codes, unwrap_or, ℤ, pos, FitsSigned, Result, Ok, Err}
use Rattle.std.specs.Int.{w64}
use Rattle.std.specs.List.{AllByRecursion}
use Rattle.std.specs.Fmt.{signed_decimal}
use Rattle.std.specs.Str.Parse.{ParsesSigned}
use Rattle.std.proofs.lemmas.Fmt.{parse-signed_decimal}
use Rattle.terms.specs.declared.scalar.Scalar.{Scalar}
use Rattle.terms.specs.declared.scalar.Scalar.TheVariants.{Int, Bool as Truth, Member}
use Rattle.ioa_tokens.specs.Spelling.{IsName}
use Rattle.plans.specs.declared.plan.Plan.{Plan}
use Rattle.plans.specs.Plans.{member_texts}
use Rattle.trace.specs.Lines.{name_at, argument_text, others_text}
use Rattle.trace.specs.Written.{IsNumberOf, IsMember, IsArgument}
use Rattle.trace.specs.Separated.{IsSeparated}
use Rattle.trace.proofs.Cuts.{Lacks, no_cut, same_cut}
use Rattle.trace.proofs.Dark.{is_plain, argument_plain, free}

-- a word that is the text of a member
pub member_named : (plan : Plan) (word : List ℕ) (m : ℕ) → IsName word → IsNumberOf (member_texts plan) word m → IsArgument plan (Member m) × (word ≡ argument_text plan (Member m))
member_named plan word m h number =
    let same : word ≡ name_at (member_texts plan) m = sym (ap (λ o. unwrap_or o []) number.is) in
    (record { name = subst IsName same h; number = subst (λ w. IsNumberOf (member_texts plan) w m) same number }, same)

pub no_member_number : (plan : Plan) (word : List ℕ) → ((n : ℕ) → IsNumberOf (member_texts plan) word n → ⊥) → (m : ℕ) → IsMember plan m → word ≡ argument_text plan (Member m) → ⊥
no_member_number plan word none m h e = none m (subst (λ w. IsNumberOf (member_texts plan) w m) (sym e) h.number)

pub no_member_name : (plan : Plan) (word : List ℕ) → (IsName word → ⊥) → (m : ℕ) → IsMember plan m → word ≡ argument_text plan (Member m) → ⊥
no_member_name plan word none m h e = none (subst IsName (sym e) h.name)

pub no_argument : (plan : Plan) (word : List ℕ) → (word ≡ codes "true" → ⊥) → (word ≡ codes "false" → ⊥) → ((n : ℤ) → FitsSigned w64 n → word ≡ signed_decimal n → ⊥)
    → ((m : ℕ) → IsMember plan m → word ≡ argument_text plan (Member m) → ⊥) → (a : Scalar) → IsArgument plan a → word ≡ argument_text plan a → ⊥
no_argument plan word t f w m (Int n) h e = w n h e
no_argument plan word t f w m (Truth true) h e = t e
no_argument plan word t f w m (Truth false) h e = f e
no_argument plan word t f w m (Member n) h e = m n h e

-- arguments have no commas
pub lacks_comma : (plan : Plan) (a : Scalar) → IsArgument plan a → Lacks 44 (argument_text plan a)
lacks_comma plan a h = free is_plain 44 refl (argument_text plan a) (argument_plain plan a h)

-- one argument by itself
pub separated_alone : (plan : Plan) (text : List ℕ) (a : Scalar) → IsArgument plan a → text ≡ argument_text plan a → IsSeparated plan text (a ∷ [])
separated_alone plan text a h e = record { first = a; others = []; are = refl; proper = (h, tt); is = e ∙ sym (append-nil (argument_text plan a)) }

-- one argument more in front
pub separated_more : (plan : Plan) (text word later : List ℕ) (a : Scalar) (more : List Scalar) → text ≡ word ++ (44 ∷ later) → IsArgument plan a → word ≡ argument_text plan a → IsSeparated plan later more → IsSeparated plan text (a ∷ more)
separated_more plan text word later a more split h e s =
    record {
      first = a;
      others = more;
      are = refl;
      proper = (h, s.proper);
      is = split ∙ (λ i. e i ++ (44 ∷ s.is i)) ∙ ap (λ l. argument_text plan a ++ others_text plan l) (sym s.are);
    }

-- what stands before the first comma is an argument, and what stands after it the others
pub record IsCutArguments (plan : Plan) (word later : List ℕ) (args : List Scalar) : Type 0 where
  pub first : Scalar
  pub others : List Scalar
  pub are : args ≡ first ∷ others
  pub proper : IsArgument plan first
  pub is : word ≡ argument_text plan first
  pub rest : IsSeparated plan later others

cut_one : (plan : Plan) (word later : List ℕ) (f : Scalar) (os : List Scalar) → AllByRecursion (IsArgument plan) (f ∷ os) → Lacks 44 word → word ++ (44 ∷ later) ≡ argument_text plan f ++ others_text plan os → IsCutArguments plan word later (f ∷ os)
cut_one plan word later f [] h free_word e = absurd (no_cut 44 (argument_text plan f) word later (lacks_comma plan f h.0) (sym (append-nil (argument_text plan f)) ∙ sym e))
cut_one plan word later f (o ∷ os) h free_word e =
    let parts = same_cut 44 word (argument_text plan f) later (argument_text plan o ++ others_text plan os) free_word (lacks_comma plan f h.0) e in
    record {
      first = f;
      others = o ∷ os;
      are = refl;
      proper = h.0;
      is = parts.0;
      rest = record { first = o; others = os; are = refl; proper = h.1; is = parts.1 };
    }

pub separated_cut : (plan : Plan) (text word later : List ℕ) (args : List Scalar) → text ≡ word ++ (44 ∷ later) → Lacks 44 word → IsSeparated plan text args → IsCutArguments plan word later args
separated_cut plan text word later args split free_word s =
    subst (IsCutArguments plan word later) (sym s.are) (cut_one plan word later s.first s.others (subst (AllByRecursion (IsArgument plan)) s.are s.proper) free_word (sym split ∙ s.is))

-- a text without a comma has one argument
alone_one : (plan : Plan) (text : List ℕ) (f : Scalar) (os : List Scalar) → Lacks 44 text → text ≡ argument_text plan f ++ others_text plan os → text ≡ argument_text plan f
alone_one plan text f [] free_text e = e ∙ append-nil (argument_text plan f)
alone_one plan text f (o ∷ os) free_text e = absurd (no_cut 44 text (argument_text plan f) (argument_text plan o ++ others_text plan os) free_text e)

pub separated_one : (plan : Plan) (text : List ℕ) (args : List Scalar) → Lacks 44 text → IsSeparated plan text args → (a : Scalar) × IsArgument plan a × (text ≡ argument_text plan a)
separated_one plan text args free_text s = (s.first, (subst (AllByRecursion (IsArgument plan)) s.are s.proper).0, alone_one plan text s.first s.others free_text s.is)

abbrev value_or : {E : Type 0} → Result ℤ E → ℤ
value_or (Ok z) = z
value_or (Err e) = pos 0

-- what was parsed is the number that the word spells
pub parsed : {E : Type 0} (word : List ℕ) (r : Result ℤ E) (value n : ℤ) → FitsSigned w64 n → word ≡ signed_decimal n → ParsesSigned w64 10 word r → r ≡ Ok value → value ≡ n
parsed word r value n fits e h is = ap value_or (sym is ∙ parse-signed_decimal w64 n word r fits (omega (arith, fits.sfits)) e h)
