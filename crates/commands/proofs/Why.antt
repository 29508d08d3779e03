-- What is told behind a report's line.
use Rattle.std.proofs.Common.{◌≡◌, ◌<◌, inl, inr, ℕ, List, length, subst, sym}
use Rattle.std.specs.Prelude.{Option, None, Some, IfSome}
use Rattle.std.specs.Borrow.{Bor}
use Rattle.std.proofs.lemmas.Option.{same_Some}
use Rattle.trace.specs.declared.counted.Counted.{Counted}
use Rattle.commands.specs.declared.explaining.Subject.{Subject}
use Rattle.commands.specs.Explained.{named}
use Rattle.commands.specs.Reasons.{IsRefusalReason, IsToldOf, IsToldOr, SaysAny}

-- a text of one kind is one of another
pub says_more : {W : Type 0} (known : W → Option (List ℕ)) (old new : Counted W) (P Q : List ℕ → Type 0) → ((text : List ℕ) → P text → Q text) → SaysAny known old new P → SaysAny known old new Q
says_more known old new P Q more (inl same) = inl same
says_more known old new P Q more (inr said) = inr (said.0, more said.0 said.1, said.2)

pub told_reason : (has : List ℕ → List ℕ → Type 0) (lacks : List ℕ → Type 0) (subject : Subject) (told : Option (List ℕ)) → IsToldOf has subject told → (text : List ℕ) → IsToldOr told text → IsRefusalReason has lacks subject text
told_reason has lacks subject told is text (inl one) = inl (subst (IsToldOf has subject) one is)
told_reason has lacks subject told is text (inr none) = inr (inl (subst (IsToldOf has subject) none.0 is), none.1)

-- the name that is given is that of the file
pub own_name : (file : Bor (List ℕ)) (name : List ℕ) → named (Some file) ≡ Some name → name ≡ file.now
own_name file name is = sym (same_Some file.now name is)

-- what is said of what is there says more
pub if_some : {X : Type 0} (P Q : X → Type 0) → ((x : X) → P x → Q x) → (r : Option X) → IfSome r P → IfSome r Q
if_some P Q more None p = p
if_some P Q more (Some x) p = more x p
