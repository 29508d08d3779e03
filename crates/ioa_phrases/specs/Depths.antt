-- How deep each token of a tree stands: inside of how many pairs of parentheses and of brackets, of `if` to `fi`, of `for` to `od`, and in the operand of how many `not` and prefix minus.
use Rattle.std.specs.Prelude.{ℕ, ◌+◌, ◌-◌, ◌≤◌, Bool, true, false, ◌&&◌, ◌||◌, if◌then◌else◌, List, [], ◌∷◌, ◌++◌}
use Rattle.ioa_tokens.specs.declared.Word.{Word}
use Rattle.ioa_tokens.specs.declared.Word.TheVariants as w
use Rattle.ioa_tokens.specs.Tokens.{Tok, is}
use Rattle.ioa_trees.specs.Nodes.{Sort, unary, Node, Leaf, Branch, Nodes, none, more}

abbrev pub one_of : List Word → Tok → Bool
one_of [] t = false
one_of (v ∷ vs) t = is v t || one_of vs t

-- Here a minus is a prefix. Elsewhere it is the sign of a number, or stands between two operands.
abbrev pub has_prefix : Sort → Bool
has_prefix unary = true
has_prefix _ = false

-- what follows this token in its rule stands one deeper
abbrev pub opens : Sort → Tok → Bool
opens s t = one_of (w.Open ∷ (w.OpenBracket ∷ (w.If ∷ (w.For ∷ (w.Not ∷ []))))) t || (is w.Minus t && has_prefix s)

-- this token and what follows it in its rule stand one less deep
abbrev pub closes : Tok → Bool
closes t = one_of (w.Close ∷ (w.CloseBracket ∷ (w.Fi ∷ (w.Od ∷ [])))) t

-- how deep a part of a rule stands that comes at this depth
abbrev pub here : Node → ℕ → ℕ
here (Leaf t) d = if closes t then d - 1 else d
here (Branch s ns) d = d

-- the depth at which the next part comes
abbrev pub behind : Sort → Node → ℕ → ℕ
behind s (Leaf t) d = if closes t then d - 1 else if opens s t then d + 1 else d
behind s (Branch r ns) d = d

-- the depth of each token, in their order
abbrev mutual
  pub depths : ℕ → Node → List ℕ
  depths d (Leaf t) = d ∷ []
  depths d (Branch s ns) = depths_in s d ns

  pub depths_in : Sort → ℕ → Nodes → List ℕ
  depths_in s d none = []
  depths_in s d (more n ns) = depths (here n d) n ++ depths_in s (behind s n d) ns

-- each is at most the limit
abbrev pub WithinLimit : List ℕ → Type 0
WithinLimit [] = Unit {0}
WithinLimit (d ∷ ds) = d ≤ 64 × WithinLimit ds
