-- The components of a composition that a source means, with their action names as numbers.
use Rattle.std.specs.Prelude.{ℕ, pos, suc, true, Option, Some, None, List, [], ◌∷◌, map, bytes_eq, if◌then◌else◌, ℤ, neg_ℤ, int_le, int_lt, nat_le, ◌^◌, ◌&&◌, Bool}
use Rattle.terms.specs.TermTree as core
use Rattle.terms.specs.TermTree.{TermTree}
use Rattle.terms.specs.EffectTree as effect
use Rattle.terms.specs.EffectTree.{EffectTree}
use Rattle.terms.specs.Datum.{scalar_of}
use Rattle.terms.specs.Meaning.{value}
use Rattle.terms.specs.declared.scalar.Scalar.{Scalar}
use Rattle.terms.specs.declared.scalar.Scalar.TheVariants as scalar
use Rattle.terms.specs.declared.scalar.Listed.TheVariants as listed
use Rattle.io_automata.specs.declared.automaton.Kind.{Kind as ActionKind}
use Rattle.io_automata.specs.declared.automaton.Kind.TheVariants as action
use Rattle.io_automata.specs.declared.automaton.Param.{Param}
use Rattle.io_automata.specs.declared.automaton.Param.TheVariants as param
use Rattle.io_automata.specs.Automata.{Transition, Instance, absent}
use Rattle.io_automata.specs.Steps.{scope_in}
use Rattle.ioa_trees.specs.Trees.{Bytes}
use Rattle.ioa_trees.specs.declared.tree.EntryKind.{EntryKind}
use Rattle.ioa_trees.specs.declared.tree.EntryKind.TheVariants as kind
use Rattle.ioa_trees.specs.Kinds.{Kind, Truth, Whole, Range, Enum, SeqOf, ArrayOf, count, listed_of}
use Rattle.ioa_trees.specs.EntryRules.{Meant, Slot, Fixed, Free}
use Rattle.ioa_trees.specs.AutomatonRules.{MeantAutomaton}
use Rattle.ioa_trees.specs.SourceRules.{MeantComponent, MeantSource}
use Rattle.compose.specs.Names.{automaton_at}

abbrev pub kind_as : EntryKind → ActionKind
kind_as kind.Input = action.Input
kind_as kind.Output = action.Output
kind_as kind.Internal = action.Internal

-- a range of 1 to 65,535 numbers, all of which have 64 bits
abbrev pub is_short : ℤ → ℤ → Bool
is_short low high = int_le low high && (nat_le (count (Range low high)) 65535 && (int_le (neg_ℤ (pos (2 ^ 63))) low && int_lt high (pos (2 ^ 63))))

-- a parameter of a kind; a range that isn't short isn't listed, and a kind with parts is no parameter's
abbrev pub param_in : Kind → Param
param_in Truth = param.Member listed.Bool
param_in Whole = param.Whole
param_in (Range low high) = if is_short low high then param.Member (listed_of (Range low high)) else param.Between low high
param_in (Enum first n) = param.Member (listed.Enumeration first n)
param_in (SeqOf k n) = param.Whole
param_in (ArrayOf r k) = param.Whole

-- a missing slot, which is in no source without faults, takes whole numbers
abbrev pub param_of : Option Slot → Param
param_of None = param.Whole
param_of (Some (Fixed n)) = param.Const n
param_of (Some (Free k)) = param_in k

-- the first place of a name in a table; its length where the name isn't there
abbrev pub place_in : List Bytes → Bytes → ℕ
place_in [] q = 0
place_in (name ∷ names) q = if bytes_eq q name then 0 else suc (place_in names q)

-- what is missing, in no source without faults, is `true` or does nothing
abbrev pub term_or_true : Option TermTree → TermTree
term_or_true None = core.Known (scalar.Bool true)
term_or_true (Some t) = t

abbrev pub effect_or_nothing : Option EffectTree → EffectTree
effect_or_nothing None = effect.Nothing
effect_or_nothing (Some e) = e

abbrev pub transition : List Bytes → Meant → Transition
transition names e = record {
  name = place_in names e.name;
  kind = kind_as e.kind;
  params = map param_of e.parameters;
  precondition = term_or_true e.pre;
  effect = effect_or_nothing e.effect;
}

-- the value of an argument, which speaks of members and numbers alone
abbrev pub argument : Option TermTree → Scalar
argument None = scalar.Int (pos 0)
argument (Some t) = scalar_of (value t (scope_in [] []) [])

-- an automaton with these formals' values
abbrev pub built : List Bytes → List Scalar → Option MeantAutomaton → Instance
built names formals None = record absent { formals = formals }
built names formals (Some a) = record { entries = map (transition names) a.entries; start = map term_or_true a.start; tasks = a.tasks; formals = formals }

abbrev pub instance : List Bytes → List MeantAutomaton → MeantComponent → Instance
instance names automata c = built names (map argument c.arguments) (automaton_at automata c.automaton)

abbrev pub instances : List Bytes → MeantSource → List Instance
instances names m = map (instance names m.automata) m.components
