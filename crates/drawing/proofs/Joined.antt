-- Texts that are added one behind the other.
use Rattle.std.proofs.Common.{◌≡◌, ◌∙◌, ℕ, List, ◌++◌, ap}
use Rattle.std.specs.Prelude.{Result, OnOk}
use Rattle.std.proofs.lemmas.List.{append_assoc}
use Rattle.std.proofs.lemmas.Result.{on_ok_weaker}

pub two : (a b c p q : List ℕ) → b ≡ a ++ p → c ≡ b ++ q → c ≡ a ++ (p ++ q)
two a b c p q first second = second ∙ (ap (λ (l : List ℕ). l ++ q) first ∙ append_assoc a p q)

pub behind : {R E : Type 0} (r : Result R E) (a b c p q : List ℕ) → b ≡ a ++ p → OnOk r (c ≡ b ++ q) → OnOk r (c ≡ a ++ (p ++ q))
behind r a b c p q first second = on_ok_weaker r (two a b c p q first) second

-- what is left moves into the text
pub moved : (a b all p left : List ℕ) → b ≡ a ++ p → a ++ (p ++ left) ≡ all → b ++ left ≡ all
moved a b all p left added is = ap (λ (l : List ℕ). l ++ left) added ∙ (append_assoc a p left ∙ is)
