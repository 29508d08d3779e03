-- What the machine says of tokens, as the answer of a reader.
use Rattle.std.specs.Prelude.{◌≡◌, ℕ, ◌-◌, true, List, length, drop, Result, Ok, Err}
use Rattle.ioa_trees.specs.declared.tree.SourceTree.{SourceTree}
use Rattle.ioa_front.specs.declared.fault.ReadError.{ReadError}
use Rattle.ioa_front.specs.declared.fault.ReadError.TheVariants as fault
use Rattle.ioa_tokens.specs.Tokens.{Placed}
use Rattle.ioa_phrases.specs.Machine.{start, go, Read, Syntax, Deep}
use Rattle.ioa_trees.specs.Spelling.{source_node}
use Rattle.ioa_trees.specs.Views.{view_source}
use Rattle.ioa_front.specs.Reading.{first_at, toks}

-- the place of the first of the last n tokens
abbrev pub left_at : ℕ → List Placed → ℕ → ℕ
left_at end ps n = first_at end (drop (length ps - n) ps)

-- the same with the place of the token at fault
abbrev pub IsFound : List Placed → ℕ → Result SourceTree ReadError → Type 0
IsFound ps end (Ok s) = go true start (toks ps) ≡ Read (source_node (view_source s))
IsFound ps end (Err fault.NoMemory) = Unit {0}
IsFound ps end (Err (fault.Syntax at)) = (n : ℕ) × ((go true start (toks ps) ≡ Syntax n) × (at ≡ left_at end ps n))
IsFound ps end (Err fault.TooDeep) = (n : ℕ) × (go true start (toks ps) ≡ Deep n)
IsFound ps end (Err e) = ⊥
