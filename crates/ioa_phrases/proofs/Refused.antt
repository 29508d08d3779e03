-- No text of the grammar goes on with a refused token.
use Rattle.std.proofs.Common.{◌≡◌, ℕ, ◌+◌, Bool, true, false, List, ◌∷◌, ◌++◌, length, sym, ◌∙◌, ap}
use Rattle.ioa_tokens.specs.Tokens.{Tok}
use Rattle.ioa_trees.specs.Nodes.{Node}
use Rattle.ioa_trees.specs.Grammar.{IsText}
use Rattle.ioa_phrases.specs.Machine.{start, go, Read, Syntax, Deep}
use Rattle.ioa_phrases.proofs.Prefix.{refused_stays, unlimited, deep_stays}
use Rattle.ioa_phrases.proofs.Complete.{read_again}

text_read : (b : Bool) (ts : List Tok) → IsText b ts → (n : Node) × (go b start ts ≡ Read n)
text_read b ts x = (x.0, ap (λ z. go b start z) (sym x.1.1) ∙ read_again b x.0 x.1.0)

pub short : (ts : List Tok) (n : ℕ) → go true start ts ≡ Syntax n → IsText false ts → ⊥
short ts n h x = let w = text_read false ts x in let a : Read w.0 ≡ Syntax n = sym w.1 ∙ unlimited start ts n h in cc

pub ends : (pre rest other : List Tok) (t : Tok) → go true start (pre ++ t ∷ rest) ≡ Syntax (length rest + 1) → IsText false (pre ++ t ∷ other) → ⊥
ends pre rest other t h x =
    let stays : go false start (pre ++ t ∷ other) ≡ Syntax (length other + 1) = refused_stays false start pre t rest other (unlimited start (pre ++ t ∷ rest) (length rest + 1) h) in
    let w = text_read false (pre ++ t ∷ other) x in
    let a : Read w.0 ≡ Syntax (length other + 1) = sym w.1 ∙ stays in cc

pub deep_ends : (pre rest other : List Tok) (t : Tok) → go true start (pre ++ t ∷ rest) ≡ Deep (length rest + 1) → IsText true (pre ++ t ∷ other) → ⊥
deep_ends pre rest other t h x =
    let stays : go true start (pre ++ t ∷ other) ≡ Deep (length other + 1) = deep_stays start pre t rest other h in
    let w = text_read true (pre ++ t ∷ other) x in
    let a : Read w.0 ≡ Deep (length other + 1) = sym w.1 ∙ stays in cc
