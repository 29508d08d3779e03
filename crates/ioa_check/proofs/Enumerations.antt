-- Enumerations: their words and their members.
use Rattle.std.proofs.Common.{◌≡◌, ℕ, ◌+◌, ◌≤◌, List, [], ◌∷◌, length, refl, arith}
use Rattle.ioa_trees.specs.Trees.{Bytes, PlainTypeBody, Enumeration, Same}
use Rattle.ioa_trees.specs.Scopes.{Scope}
use Rattle.ioa_trees.specs.Sizes.{behind, body_size, listed_size, name_size}
use Rattle.ioa_trees.specs.SourceRules.{members_faults, members_in}
use Rattle.ioa_check.specs.ListParts.{enumeration_words}

pub words_size : (qs : List Bytes) → enumeration_words qs + listed_size name_size qs ≡ body_size (Enumeration qs)
words_size [] = refl
words_size (q ∷ qs) = omega arith

pub members_place : (s : Scope) (first count member at : ℕ) (qs : List Bytes) → members_faults s first count member (at + enumeration_words qs) qs ≡ members_faults s first count member (at + 2) qs
members_place s first count member at [] = refl
members_place s first count member at (q ∷ qs) = refl

behind_many : (qs : List Bytes) → length qs ≤ behind name_size qs
behind_many [] = omega arith
behind_many (q ∷ qs) = let rest = behind_many qs in omega (arith, rest)

-- there are no more members than tokens
pub few_members : (b : PlainTypeBody) → length (members_in b) ≤ body_size b
few_members (Same t) = omega arith
few_members (Enumeration []) = omega arith
few_members (Enumeration (q ∷ qs)) = let rest = behind_many qs in omega (arith, rest)
