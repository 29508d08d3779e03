-- A name and its arguments in brackets.
use Rattle.std.proofs.Common.{◌≡◌, ℕ, List, [], ◌∷◌, ◌++◌, refl, ap, sym, subst, ◌∙◌, append-nil}
use Rattle.std.specs.Prelude.{codes}
use Rattle.std.specs.List.{AllByRecursion}
use Rattle.std.proofs.lemmas.List.{append_assoc, append_cancel_right}
use Rattle.terms.specs.declared.scalar.Scalar.{Scalar}
use Rattle.plans.specs.declared.plan.Plan.{Plan}
use Rattle.ioa_tokens.specs.Spelling.{IsName}
use Rattle.ioa_tokens.specs.Bytes.{is_word_byte}
use Rattle.trace.specs.Lines.{argument_text, others_text, arguments_text}
use Rattle.trace.specs.Written.{IsArgument, Written, written_text, IsWritten}
use Rattle.trace.specs.Separated.{IsSeparated, IsClosed}
use Rattle.trace.proofs.Cuts.{Lacks, no_cut, same_cut}
use Rattle.trace.proofs.Dark.{free}

-- a name has no brackets
pub lacks_bracket : (name : List ℕ) → IsName name → Lacks 40 name
lacks_bracket name h = free is_word_byte 40 refl name h.goes_on

snoc_same : (c : ℕ) (xs ys : List ℕ) → xs ++ (c ∷ []) ≡ ys ++ (c ∷ []) → xs ≡ ys
snoc_same c xs ys e = append_cancel_right xs ys (c ∷ []) e

-- what stands before a closing bracket
pub closed_inner : (plan : Plan) (text inner : List ℕ) (args : List Scalar) → text ≡ inner ++ codes ")" → IsClosed plan text args → IsSeparated plan inner args
closed_inner plan text inner args e h = subst (λ l. IsSeparated plan l args) (snoc_same 41 h.inner inner (sym h.is ∙ e)) h.separated

-- arguments that are closed are those in brackets
closed_text : (plan : Plan) (inner : List ℕ) (args : List Scalar) → IsSeparated plan inner args → 40 ∷ (inner ++ codes ")") ≡ arguments_text plan args
closed_text plan inner args s =
    ap (λ l. 40 ∷ (l ++ codes ")")) s.is
    ∙ ap (λ l. 40 ∷ l) (append_assoc (argument_text plan s.first) (others_text plan s.others) (codes ")"))
    ∙ ap (arguments_text plan) (sym s.are)

pub bracketed_text_is : (plan : Plan) (text name rest : List ℕ) (args : List Scalar) → text ≡ name ++ (40 ∷ rest) → IsClosed plan rest args → text ≡ name ++ arguments_text plan args
bracketed_text_is plan text name rest args e h = e ∙ ap (λ l. name ++ l) (ap (λ l. 40 ∷ l) h.is ∙ closed_text plan h.inner args h.separated)

cut_written : (plan : Plan) (name rest own : List ℕ) (args : List Scalar) → IsName own → AllByRecursion (IsArgument plan) args → Lacks 40 name → name ++ (40 ∷ rest) ≡ own ++ arguments_text plan args → (own ≡ name) × IsClosed plan rest args
cut_written plan name rest own [] h are lacks e = absurd (no_cut 40 own name rest (lacks_bracket own h) (sym (append-nil own) ∙ sym e))
cut_written plan name rest own (a ∷ more) h are lacks e =
    let parts = same_cut 40 name own rest (argument_text plan a ++ (others_text plan more ++ codes ")")) lacks (lacks_bracket own h) e in (
      sym parts.0,
      record {
        inner = argument_text plan a ++ others_text plan more;
        separated = record { first = a; others = more; are = refl; proper = are; is = refl };
        is = parts.1 ∙ sym (append_assoc (argument_text plan a) (others_text plan more) (codes ")"));
      },
    )

-- a text with a bracket is a name and closed arguments in one way
pub written_cut : (plan : Plan) (text name rest : List ℕ) (w : Written) → text ≡ name ++ (40 ∷ rest) → Lacks 40 name → IsWritten plan w → text ≡ written_text plan w → (w.name ≡ name) × IsClosed plan rest w.args
written_cut plan text name rest w split lacks h e = cut_written plan name rest w.name w.args h.name h.args lacks (sym split ∙ e)

uncut_written : (plan : Plan) (text own : List ℕ) (args : List Scalar) → Lacks 40 text → text ≡ own ++ arguments_text plan args → own ≡ text
uncut_written plan text own [] lacks e = sym (e ∙ append-nil own)
uncut_written plan text own (a ∷ more) lacks e = absurd (no_cut 40 text own (argument_text plan a ++ (others_text plan more ++ codes ")")) lacks e)

-- a text without a bracket is a name alone
pub written_uncut : (plan : Plan) (text : List ℕ) (w : Written) → Lacks 40 text → text ≡ written_text plan w → w.name ≡ text
written_uncut plan text w lacks e = uncut_written plan text w.name w.args lacks e

pub no_name : (plan : Plan) (text name : List ℕ) → ((w : Written) → IsWritten plan w → text ≡ written_text plan w → w.name ≡ name) → (IsName name → ⊥) → (w : Written) → IsWritten plan w → text ≡ written_text plan w → ⊥
no_name plan text name same none w h e = none (subst IsName (same w h e) h.name)
