-- Meanings and names without where they lie in memory.
use Rattle.std.specs.Prelude.{ℕ, List, map, string_bytes}
use Rattle.std.specs.declared.string.String.{String}
use Rattle.ioa_typing.specs.declared.meaning.Meaning.{Meaning}
use Rattle.ioa_typing.specs.declared.meaning.Meaning.TheVariants as m
use Rattle.ioa_typing.specs.declared.names.Names.{Names}
use Rattle.ioa_typing.specs.KindViews.{option_tree}
use Rattle.ioa_trees.specs.Scopes as plain
use Rattle.ioa_trees.specs.Scopes.{OfType, OfMember, OfAutomaton, OfFormal, OfVariable, OfParameter, OfLoop}

abbrev pub meaning_tree : Meaning → plain.Meaning
meaning_tree (m.«Type» k) = OfType (option_tree k)
meaning_tree (m.Member at first count) = OfMember at first count
meaning_tree (m.Automaton n) = OfAutomaton n
meaning_tree (m.Formal n k) = OfFormal n (option_tree k)
meaning_tree (m.Variable n k) = OfVariable n (option_tree k)
meaning_tree (m.Parameter n k) = OfParameter n (option_tree k)
meaning_tree (m.Loop n k) = OfLoop n (option_tree k)

-- the bytes of a name and what it means
abbrev pub entry_tree : {A : Type 0} → String A × Meaning → List ℕ × plain.Meaning
entry_tree e = (string_bytes e.0, meaning_tree e.1)

-- the scope: the names in the order of their declarations
abbrev pub names_tree : Names → plain.Scope
names_tree s = map entry_tree s.table.entries
