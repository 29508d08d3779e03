-- Entries of a signature and transitions: their parameters, what they mean, and their faults.
use Rattle.std.specs.Prelude.{ℕ, ◌+◌, ◌*◌, Bool, true, false, not, ◌&&◌, ◌||◌, Option, Some, None, nat_eq, nat_lt, bytes_eq, if◌then◌else◌, List, [], ◌∷◌, ◌++◌, length}
use Rattle.std.specs.List.{list_any}
use Rattle.terms.specs.TermTree as core
use Rattle.terms.specs.TermTree.{TermTree}
use Rattle.terms.specs.EffectTree.{EffectTree}
use Rattle.terms.specs.declared.scalar.Scalar.TheVariants as scalar
use Rattle.ioa_trees.specs.declared.tree.EntryKind.{EntryKind}
use Rattle.ioa_trees.specs.declared.tree.EntryKind.TheVariants as kind
use Rattle.ioa_trees.specs.declared.tree.Signed.{Signed}
use Rattle.ioa_trees.specs.Trees as tree
use Rattle.ioa_trees.specs.Trees.{Bytes, PlainType, PlainTerm, PlainDeclared, PlainParameter, PlainEntry, PlainTransition, PlainStatements}
use Rattle.ioa_trees.specs.Faults.{Fault, where_wrong}
use Rattle.ioa_trees.specs.Kinds.{Kind, count, can_be_listed, is_truth}
use Rattle.ioa_trees.specs.Scopes.{Scope, Meaning, OfFormal, OfParameter, named, declare, doubled, is_formal}
use Rattle.ioa_trees.specs.Sizes.{declared_size, entry_size, pre_size, transition_size}
use Rattle.ioa_trees.specs.TermRules.{judge, faults, wants, truth_of}
use Rattle.ioa_trees.specs.TypeRules.{kind_of, type_faults, unlisted, unscalar}
use Rattle.ioa_trees.specs.EffectRules.{effects_of, statements_faults}

-- outputs and internals are controlled by the automaton
abbrev pub is_input : EntryKind → Bool
is_input kind.Input = true
is_input kind.Output = false
is_input kind.Internal = false

abbrev pub is_controlled : EntryKind → Bool
is_controlled k = not (is_input k)

abbrev pub same_kind : EntryKind → EntryKind → Bool
same_kind kind.Input kind.Input = true
same_kind kind.Output kind.Output = true
same_kind kind.Internal kind.Internal = true
same_kind _ _ = false

-- ---- heads: kind and name, and parameters token for token

abbrev pub agrees : PlainEntry → PlainEntry → Bool
agrees a b = same_kind a.kind b.kind && bytes_eq a.name b.name

abbrev pub same_signed : Signed → Signed → Bool
same_signed a b = if a.is_negative then b.is_negative && nat_eq a.size b.size else not b.is_negative && nat_eq a.size b.size

abbrev pub same_type : PlainType → PlainType → Bool
same_type tree.Bools tree.Bools = true
same_type tree.Ints tree.Ints = true
same_type (tree.Range a b) (tree.Range c d) = same_signed a c && same_signed b d
same_type (tree.Named q) (tree.Named r) = bytes_eq q r
same_type (tree.SeqOf t n) (tree.SeqOf u m) = same_type t u && nat_eq n m
same_type (tree.ArrayOf r t) (tree.ArrayOf q u) = same_type r q && same_type t u
same_type _ _ = false

abbrev pub same_parameter : PlainParameter → PlainParameter → Bool
same_parameter (tree.Constant q) (tree.Constant r) = bytes_eq q r
same_parameter (tree.Typed d) (tree.Typed e) = bytes_eq d.name e.name && same_type d.of e.of
same_parameter _ _ = false

abbrev pub same_parameters : List PlainParameter → List PlainParameter → Bool
same_parameters [] [] = true
same_parameters (p ∷ ps) (q ∷ qs) = same_parameter p q && same_parameters ps qs
same_parameters _ _ = false

-- the first entry with the kind and the name of this one
abbrev pub entry_for : PlainEntry → List PlainEntry → Option PlainEntry
entry_for t [] = None
entry_for t (e ∷ es) = if agrees t e then Some e else entry_for t es

-- ---- parameters

-- the scope with a typed parameter, which has this place in its action
abbrev pub with_parameter : Scope → ℕ → PlainDeclared → Scope
with_parameter s n d = declare d.name (OfParameter n (kind_of s d.of)) s

abbrev pub with_parameters : Scope → ℕ → List PlainParameter → Scope
with_parameters s n [] = s
with_parameters s n (tree.Constant q ∷ ps) = with_parameters s (n + 1) ps
with_parameters s n (tree.Typed d ∷ ps) = with_parameters (with_parameter s n d) (n + 1) ps

-- 12, 17: a parameter of an input is scalar, one of another action can be listed
abbrev pub sort_faults : Bool → ℕ → Option Kind → List Fault
sort_faults controlled at k = if controlled then unlisted at k else unscalar at k

-- 10: what is no formal behind `const`; 11: a doubled name; and the faults of types
abbrev pub parameters_faults : Scope → Bool → ℕ → ℕ → List PlainParameter → List Fault
parameters_faults s controlled n at [] = []
parameters_faults s controlled n at (tree.Constant q ∷ ps) = where_wrong (not (is_formal (named q s))) (at + 1) 10 ++ parameters_faults s controlled (n + 1) (at + 3) ps
parameters_faults s controlled n at (tree.Typed d ∷ ps) =
    doubled s at d.name
    ++ (type_faults s (at + 2) d.of
    ++ (sort_faults controlled (at + 2) (kind_of s d.of)
    ++ parameters_faults (with_parameter s n d) controlled (n + 1) (at + declared_size d + 1) ps))

-- how many tuples the typed parameters have; nothing where one can't be listed
abbrev pub times : Option ℕ → Option ℕ → Option ℕ
times (Some n) (Some m) = Some (n * m)
times _ _ = None

abbrev pub members_of : Option Kind → Option ℕ
members_of None = None
members_of (Some k) = if can_be_listed k then Some (count k) else None

abbrev pub tuples : Scope → ℕ → List PlainParameter → Option ℕ
tuples s n [] = Some 1
tuples s n (tree.Constant q ∷ ps) = tuples s (n + 1) ps
tuples s n (tree.Typed d ∷ ps) = times (members_of (kind_of s d.of)) (tuples (with_parameter s n d) (n + 1) ps)

abbrev pub is_over : ℕ → Option ℕ → Bool
is_over n None = false
is_over n (Some m) = nat_lt n m

-- 17: over 16 parameters, or over 4,096 tuples of what the automaton controls
abbrev pub is_large : Scope → PlainEntry → Bool
is_large s e = nat_lt 16 (length e.parameters) || (is_controlled e.kind && is_over 4096 (tuples s 0 e.parameters))

-- ---- entries

-- 11: a name stands once as an input, and once as an output or internal
abbrev pub clashes : PlainEntry → PlainEntry → Bool
clashes e d = bytes_eq e.name d.name && ((is_input e.kind && is_input d.kind) || (is_controlled e.kind && is_controlled d.kind))

-- the task of what is controlled
abbrev pub has_task : List (List Bytes) → Bytes → Bool
has_task tasks q = list_any (λ t. list_any (bytes_eq q) t) tasks

abbrev pub entry_faults : Scope → List PlainEntry → List PlainTransition → List (List Bytes) → ℕ → PlainEntry → List Fault
entry_faults s before transitions tasks at e =
    where_wrong (list_any (clashes e) before) (at + 1) 11
    ++ (parameters_faults s (is_controlled e.kind) 0 (at + 3) e.parameters
    ++ (where_wrong (is_large s e) at 17
    ++ (where_wrong (not (list_any (λ t. agrees e t.entry) transitions)) at 13
    ++ where_wrong (is_controlled e.kind && not (has_task tasks e.name)) at 16)))

abbrev pub entries_faults : Scope → List PlainEntry → List PlainTransition → List (List Bytes) → ℕ → List PlainEntry → List Fault
entries_faults s before transitions tasks at [] = []
entries_faults s before transitions tasks at (e ∷ es) =
    entry_faults s before transitions tasks at e ++ entries_faults s (e ∷ before) transitions tasks (at + entry_size e) es

-- ---- transitions

-- 10: no entry has its kind and name; 12: its parameters aren't those of the entry
abbrev pub head_faults : List PlainEntry → ℕ → PlainEntry → List Fault
head_faults entries at t = found (entry_for t entries)
  where
    found : Option PlainEntry → List Fault
    found None = where_wrong true at 10
    found (Some e) = where_wrong (not (same_parameters t.parameters e.parameters)) at 12

abbrev pub pre_faults : Scope → EntryKind → ℕ → Option PlainTerm → List Fault
pre_faults s k at None = []
pre_faults s k at (Some t) = where_wrong (is_input k) at 15 ++ (faults s (at + 1) t ++ wants is_truth (at + 1) (judge s t))

abbrev pub transition_faults : Scope → List PlainEntry → List PlainTransition → ℕ → PlainTransition → List Fault
transition_faults s entries before at t =
    head_faults entries (at + 1) t.entry
    ++ (where_wrong (list_any (λ b. agrees t.entry b.entry) before) at 14
    ++ (pre_faults s t.entry.kind (at + entry_size t.entry) t.pre
    ++ statements_faults s 0 (at + entry_size t.entry + pre_size t.pre + 1) t.eff))

-- a transition sees its parameters beside what all of them see
abbrev pub transitions_faults : Scope → List PlainEntry → List PlainTransition → ℕ → List PlainTransition → List Fault
transitions_faults s entries before at [] = []
transitions_faults s entries before at (t ∷ ts) =
    transition_faults (with_parameters s 0 t.entry.parameters) entries before at t ++ transitions_faults s entries (t ∷ before) (at + transition_size t) ts

-- ---- what they mean

pub data Slot : Type 0 where
  -- the value of this formal
  Fixed : ℕ → Slot
  -- a value of this kind
  Free : Kind → Slot

pub record Meant : Type 0 where
  pub kind : EntryKind
  pub name : Bytes
  pub parameters : List (Option Slot)
  pub pre : Option TermTree
  pub effect : Option EffectTree

abbrev pub formal_of : Option Meaning → Option Slot
formal_of (Some (OfFormal n k)) = Some (Fixed n)
formal_of _ = None

abbrev pub free_of : Option Kind → Option Slot
free_of None = None
free_of (Some k) = Some (Free k)

abbrev pub slots : Scope → ℕ → List PlainParameter → List (Option Slot)
slots s n [] = []
slots s n (tree.Constant q ∷ ps) = formal_of (named q s) ∷ slots s (n + 1) ps
slots s n (tree.Typed d ∷ ps) = free_of (kind_of s d.of) ∷ slots (with_parameter s n d) (n + 1) ps

abbrev pub pre_of : Scope → Option PlainTerm → Option TermTree
pre_of s None = Some (core.Known (scalar.Bool true))
pre_of s (Some t) = truth_of (judge s t)

-- A transition, whose head is that of its entry.
abbrev pub meant_by : Scope → PlainTransition → Meant
meant_by s t = record {
  kind = t.entry.kind;
  name = t.entry.name;
  parameters = slots s 0 t.entry.parameters;
  pre = pre_of (with_parameters s 0 t.entry.parameters) t.pre;
  effect = effects_of (with_parameters s 0 t.entry.parameters) 0 t.eff;
}
