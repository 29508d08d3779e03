-- The trees of sources without where they lie in memory.
use Rattle.std.specs.Prelude.{ℕ, List, [], ◌∷◌, Option}
use Rattle.ioa_trees.specs.declared.tree.Signed.{Signed}
use Rattle.ioa_trees.specs.declared.tree.Sign.{Sign}
use Rattle.ioa_trees.specs.declared.tree.Relation.{Relation}
use Rattle.ioa_trees.specs.declared.tree.Call.{Call}
use Rattle.ioa_trees.specs.declared.tree.EntryKind.{EntryKind}

-- a name: its bytes
abbrev pub Bytes : Type 0
Bytes = List ℕ

pub data PlainType : Type 0 where
  Bools : PlainType
  Ints : PlainType
  Range : Signed → Signed → PlainType
  Named : Bytes → PlainType
  SeqOf : PlainType → ℕ → PlainType
  ArrayOf : PlainType → PlainType → PlainType

mutual
  pub data PlainTerm : Type 0 where
    Number : ℕ → PlainTerm
    True : PlainTerm
    False : PlainTerm
    Variable : Bytes → PlainTerm
    Group : PlainTerm → PlainTerm
    Called : Call → PlainTerm → PlainTerm
    Append : PlainTerm → PlainTerm → PlainTerm
    Index : PlainTerm → PlainTerms → PlainTerm
    Minus : PlainTerm → PlainTerm
    Product : PlainTerm → PlainFactors → PlainTerm
    Sum : PlainTerm → PlainAddends → PlainTerm
    Compare : PlainTerm → Relation → PlainTerm → PlainTerm
    Not : PlainTerm → PlainTerm
    And : PlainTerm → PlainTerms → PlainTerm
    Or : PlainTerm → PlainTerms → PlainTerm

  pub data PlainTerms : Type 0 where
    no_term : PlainTerms
    more_terms : PlainTerm → PlainTerms → PlainTerms

  pub data PlainFactor : Type 0 where
    Times : PlainTerm → PlainFactor
    Modulo : ℕ → PlainFactor

  pub data PlainFactors : Type 0 where
    no_factor : PlainFactors
    more_factors : PlainFactor → PlainFactors → PlainFactors

  pub data PlainAddends : Type 0 where
    no_addend : PlainAddends
    more_addends : Sign → PlainTerm → PlainAddends → PlainAddends

abbrev pub pack_terms : List PlainTerm → PlainTerms
pack_terms [] = no_term
pack_terms (t ∷ ts) = more_terms t (pack_terms ts)

abbrev pub pack_factors : List PlainFactor → PlainFactors
pack_factors [] = no_factor
pack_factors (t ∷ ts) = more_factors t (pack_factors ts)

abbrev pub pack_addends : List (Sign × PlainTerm) → PlainAddends
pack_addends [] = no_addend
pack_addends ((s, t) ∷ ts) = more_addends s t (pack_addends ts)

pub data PlainInit : Type 0 where
  Empty : PlainInit
  Fill : PlainInit → PlainInit
  Value : PlainTerm → PlainInit

pub record PlainDeclared : Type 0 where
  pub name : Bytes
  pub of : PlainType

mutual
  pub data PlainStatement : Type 0 where
    Assign : Bytes → Option PlainTerm → PlainInit → PlainStatement
    If : PlainBranches → PlainStatements → PlainStatement
    For : PlainDeclared → PlainStatements → PlainStatement

  pub data PlainStatements : Type 0 where
    no_statement : PlainStatements
    more_statements : PlainStatement → PlainStatements → PlainStatements

  pub data PlainBranches : Type 0 where
    no_branch : PlainBranches
    more_branches : PlainTerm → PlainStatements → PlainBranches → PlainBranches

abbrev pub pack_statements : List PlainStatement → PlainStatements
pack_statements [] = no_statement
pack_statements (s ∷ ss) = more_statements s (pack_statements ss)

abbrev pub pack_branches : List (PlainTerm × PlainStatements) → PlainBranches
pack_branches [] = no_branch
pack_branches ((t, ss) ∷ bs) = more_branches t ss (pack_branches bs)

pub data PlainParameter : Type 0 where
  Constant : Bytes → PlainParameter
  Typed : PlainDeclared → PlainParameter

pub record PlainEntry : Type 0 where
  pub kind : EntryKind
  pub name : Bytes
  pub parameters : List PlainParameter

pub record PlainVariable : Type 0 where
  pub declared : PlainDeclared
  pub start : PlainInit

pub record PlainTransition : Type 0 where
  pub entry : PlainEntry
  pub pre : Option PlainTerm
  pub eff : PlainStatements

pub record PlainAutomaton : Type 0 where
  pub name : Bytes
  pub formals : List PlainDeclared
  pub entries : List PlainEntry
  pub variables : List PlainVariable
  pub transitions : List PlainTransition
  pub tasks : List (List Bytes)

pub record PlainComponent : Type 0 where
  pub name : Bytes
  pub automaton : Bytes
  pub arguments : List PlainTerm

-- the composed automaton; no hidden outputs where the list is empty
pub record PlainComposed : Type 0 where
  pub name : Bytes
  pub components : List PlainComponent
  pub hidden : List Bytes

pub data PlainTypeBody : Type 0 where
  Same : PlainType → PlainTypeBody
  Enumeration : List Bytes → PlainTypeBody

pub record PlainTypeDefinition : Type 0 where
  pub name : Bytes
  pub body : PlainTypeBody

pub record PlainSource : Type 0 where
  pub types : List PlainTypeDefinition
  pub automata : List PlainAutomaton
  pub composed : PlainComposed
