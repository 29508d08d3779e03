-- Moves at the beginning of an automaton.
use Rattle.std.proofs.Common.{◌≡◌, true, false, nat_lt, List, [], ◌∷◌, length, Result, Ok, Err, refl, ◌∙◌, ap, arith}
use Rattle.ioa_phrases.specs.declared.stop.Stop.{Stop}
use Rattle.ioa_tokens.specs.declared.Word.TheVariants as w
use Rattle.ioa_tokens.specs.Tokens.{Tok, Key, sees}
use Rattle.ioa_trees.specs.Nodes.{Node, basic}
use Rattle.ioa_trees.specs.Grammar.{after_signature}
use Rattle.ioa_phrases.specs.Machine.{Frames, depth, Want, at, go, Syntax}
use Rattle.ioa_trees.specs.Spelling.{key}
use Rattle.ioa_phrases.specs.Blocks.{formal_parts, Heads, HeadsInside}
use Rattle.ioa_phrases.proofs.Moves.{low_depth, stops_along}

pub bare_head : (k : Frames) (ts : List Tok) → depth k ≡ 0 → go true (Want basic k) (Key w.Signature ∷ ts) ≡ go true (at basic (key w.Signature ∷ []) after_signature k) ts
bare_head k ts d = let l : nat_lt 64 (depth k) ≡ false = low_depth 0 k d (omega arith) in rw l refl

pub open_step : (k : Frames) (ts : List Tok) → depth k ≡ 0 → go true (Want basic k) (Key w.Open ∷ ts) ≡ go true (at basic (key w.Open ∷ []) formal_parts k) ts
open_step k ts d = let l : nat_lt 64 (depth k) ≡ false = low_depth 0 k d (omega arith) in rw l refl

pub no_head : (k : Frames) (ts : List Tok) → sees w.Open ts ≡ false → sees w.Signature ts ≡ false → go true (Want basic k) ts ≡ Syntax (length ts)
no_head k [] h g = refl
no_head k (t ∷ ts) h g = rw (h, g) (ap (λ n. Syntax n) (omega arith))

pub open_head : {Y : Type 0} (n : Y → List Node) (rest : Y → List Tok) (ts us : List Tok) (r : Result Y Stop) → us ≡ Key w.Open ∷ ts → HeadsInside n rest after_signature ts r → Heads n rest us r
open_head n rest ts us (Ok y) e h = λ k d. ap (λ z. go true (Want basic k) z) e ∙ (open_step k ts d ∙ h k d)
open_head n rest ts us (Err x) e h = λ k d. stops_along x (ap (λ z. go true (Want basic k) z) e ∙ open_step k ts d) (h k d)
