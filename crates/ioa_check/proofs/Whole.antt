-- The faults of a whole source, one part after the other.
use Rattle.std.proofs.Common.{◌≡◌, ℕ, ◌+◌, Option, None, List, [], ◌++◌, bytes_eq, refl, ap, ◌∙◌, arith}
use Rattle.std.specs.List.{list_any}
use Rattle.ioa_trees.specs.Trees.{Bytes, PlainSource}
use Rattle.ioa_check.specs.Sets.{Adds, AreNames}
use Rattle.ioa_trees.specs.Faults.{Fault, keep}
use Rattle.ioa_trees.specs.Scopes.{Scope}
use Rattle.ioa_trees.specs.AutomatonRules.{MeantAutomaton}
use Rattle.ioa_trees.specs.SourceRules.{all_locals, automata_faults, automata_size, composed_at, composed_faults, definitions_faults, definitions_size, meanings_of, source_faults, table_of, types_scope, whole_scope, with_automata, with_definitions}
use Rattle.ioa_typing.proofs.Keeps.{keep_both}
use Rattle.ioa_check.proofs.AutomatonRows.{from_none}

none_named : (names : List Bytes) → names ≡ [] → AreNames names []
none_named names none = λ q. ap (list_any (bytes_eq q)) none

-- what is seen of a check's parts
pub record Parts (x : PlainSource) : Type 0 where
  pub s : Scope
  pub t : Scope
  pub u : Scope
  pub begin : ℕ
  pub middle : ℕ
  pub last : ℕ
  pub used : List Bytes
  pub grown : List Bytes
  pub table : List MeantAutomaton
  pub o : Option Fault
  pub p : Option Fault
  pub q : Option Fault
  pub r : Option Fault
  pub at_start : begin ≡ 0
  pub nothing : o ≡ None
  pub no_names : s ≡ []
  pub none_used : used ≡ []
  pub at_automata : middle ≡ begin + definitions_size x.types
  pub at_composed : last ≡ middle + automata_size x.automata
  pub with_types : t ≡ with_definitions s 0 x.types
  pub with_others : u ≡ with_automata t 0 x.automata
  pub uses : Adds grown (all_locals x.automata) used
  pub meant : table ≡ meanings_of t 0 x.automata
  pub types_kept : p ≡ keep o (definitions_faults s 0 begin x.types)
  pub automata_kept : (L : List Bytes) → AreNames used L → q ≡ keep p (automata_faults t L 0 middle x.automata)
  pub composed_kept : (L : List Bytes) → AreNames grown L → r ≡ keep q (composed_faults u L table last x.composed)

pub all_kept : (x : PlainSource) (h : Parts x) → h.r ≡ keep None (source_faults x)
all_kept x h =
    let start : h.begin ≡ 0 = h.at_start in
    let scope : h.t ≡ types_scope x = h.with_types ∙ ap (λ s. with_definitions s 0 x.types) h.no_names in
    let whole : h.u ≡ whole_scope x = h.with_others ∙ ap (λ t. with_automata t 0 x.automata) scope in
    let middle : h.middle ≡ definitions_size x.types = let place = h.at_automata in omega (arith, place, start) in
    let last : h.last ≡ composed_at x = h.at_composed ∙ ap (λ n. n + automata_size x.automata) middle in
    let table : h.table ≡ table_of x = h.meant ∙ ap (λ t. meanings_of t 0 x.automata) scope in
    let first : h.p ≡ keep None (definitions_faults [] 0 0 x.types) =
    h.types_kept ∙ ap (λ o. keep o (definitions_faults h.s 0 h.begin x.types)) h.nothing
    ∙ ap (λ s. keep None (definitions_faults s 0 h.begin x.types)) h.no_names ∙ ap (λ n. keep None (definitions_faults [] 0 n x.types)) start in
    let second : h.q ≡ keep h.p (automata_faults (types_scope x) [] 0 (definitions_size x.types) x.automata) =
    h.automata_kept [] (none_named h.used h.none_used) ∙ ap (λ t. keep h.p (automata_faults t [] 0 h.middle x.automata)) scope
    ∙ ap (λ n. keep h.p (automata_faults (types_scope x) [] 0 n x.automata)) middle in
    let names = all_locals x.automata in
    let rest : composed_faults h.u names h.table h.last x.composed ≡ composed_faults (whole_scope x) names (table_of x) (composed_at x) x.composed =
    ap (λ u. composed_faults u names h.table h.last x.composed) whole
    ∙ ap (λ n. composed_faults (whole_scope x) names h.table n x.composed) last
    ∙ ap (λ t. composed_faults (whole_scope x) names t (composed_at x) x.composed) table in
    let given = composed_faults h.u names h.table h.last x.composed in
    let wanted = composed_faults (whole_scope x) names (table_of x) (composed_at x) x.composed in
    let automata = automata_faults (types_scope x) [] 0 (definitions_size x.types) x.automata in
    let third = h.composed_kept names (from_none h.grown names h.used h.none_used h.uses) in
    let both : h.r ≡ keep h.p (automata ++ wanted) = keep_both h.p h.q h.r automata given wanted second rest third in
    keep_both None h.p h.r (definitions_faults [] 0 0 x.types) (automata ++ wanted) (automata ++ wanted) first refl both
