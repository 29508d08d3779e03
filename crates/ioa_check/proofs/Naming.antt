-- Components and their names.
use Rattle.std.proofs.Common.{◌≡◌, ℕ, ◌+◌, ◌||◌, bytes_eq, Option, Some, None, List, [], ◌∷◌, ◌++◌, length, nat_eq, not, refl, ap, sym, ◌∙◌, arith}
use Rattle.std.specs.Option.{is_some}
use Rattle.std.specs.List.{list_any}
use Rattle.ioa_trees.specs.Trees.{Bytes, PlainComponent}
use Rattle.ioa_trees.specs.AutomatonRules.{MeantAutomaton}
use Rattle.ioa_trees.specs.Faults.{Fault, keep, where_wrong}
use Rattle.ioa_trees.specs.Kinds.{Kind}
use Rattle.ioa_trees.specs.Scopes.{Scope, automaton_meant, named, taken_before}
use Rattle.ioa_trees.specs.Sizes.{component_size}
use Rattle.ioa_trees.specs.SourceRules.{arguments_faults, compared_with, component_faults, components_faults, formals_at, misfit_arguments}
use Rattle.ioa_check.specs.Sets.{AreNames}
use Rattle.ioa_check.specs.ComponentParts.{placing_faults}
use Rattle.ioa_typing.proofs.Keeps.{keep_append, keep_both}

-- ---- one component

placing_is : (s : Scope) (ks : Option (List (Option Kind))) (at place : ℕ) (c : PlainComponent) → place ≡ at + 2 → placing_faults s ks place c.arguments ≡ arguments_faults s (at + 4) c.arguments ++ compared_with s ks at c
placing_is s None at place c here =
    let last : place + 2 ≡ at + 4 = omega (arith, here) in
    ap (λ n. arguments_faults s n c.arguments ++ []) last
placing_is s (Some ks) at place c here =
    let last : place + 2 ≡ at + 4 = omega (arith, here) in
    ap (λ n. placing_faults s (Some ks) n c.arguments) here
    ∙ ap (λ n. arguments_faults s n c.arguments ++ (where_wrong (not (nat_eq (length ks) (length c.arguments))) (at + 2) 12 ++ misfit_arguments s ks n c.arguments)) (sym (ap (λ n. n + 2) here) ∙ last)

-- a component by its parts
pub component_noted : (s : Scope) (table : List MeantAutomaton) (before : List Bytes) (at place : ℕ) (c : PlainComponent) (ks : Option (List (Option Kind))) (o p z : Option Fault) →
    p ≡ keep o (where_wrong (list_any (bytes_eq c.name) before) at 11) → z ≡ keep p (placing_faults s ks place c.arguments) → place ≡ at + 2 → ks ≡ formals_at table (automaton_meant (named c.automaton s)) →
    z ≡ keep o (component_faults s table before at c)
component_noted s table before at place c ks o p z first second here formals =
    keep_both o p z (where_wrong (list_any (bytes_eq c.name) before) at 11) (placing_faults s ks place c.arguments) (arguments_faults s (at + 4) c.arguments ++ compared_with s (formals_at table (automaton_meant (named c.automaton s))) at c)
    first (placing_is s ks at place c here ∙ ap (λ js. arguments_faults s (at + 4) c.arguments ++ compared_with s js at c) formals) second

-- ---- components

component_same : (s : Scope) (table : List MeantAutomaton) (U V : List Bytes) (at : ℕ) (c : PlainComponent) → AreNames U V → component_faults s table U at c ≡ component_faults s table V at c
component_same s table U V at c same =
    ap (λ b. where_wrong b at 11 ++ (arguments_faults s (at + 4) c.arguments ++ compared_with s (formals_at table (automaton_meant (named c.automaton s))) at c)) (same c.name)

components_same : (s : Scope) (table : List MeantAutomaton) (U V : List Bytes) (at : ℕ) (cs : List PlainComponent) → AreNames U V → components_faults s table U at cs ≡ components_faults s table V at cs
components_same s table U V at [] same = refl
components_same s table U V at (c ∷ cs) same =
    let next = at + component_size c + 1 in
    ap (λ fs. fs ++ components_faults s table (c.name ∷ U) next cs) (component_same s table U V at c same)
    ∙ ap (λ fs. component_faults s table V at c ++ fs) (components_same s table (c.name ∷ U) (c.name ∷ V) next cs (λ r. ap (λ b. bytes_eq r c.name || b) (same r)))

-- the faults of a component, and of those after it
pub component_kept : (s : Scope) (table : List MeantAutomaton) (before after : List Bytes) (at next : ℕ) (c : PlainComponent) (cs : List PlainComponent) (o p : Option Fault) →
    p ≡ keep o (component_faults s table before at c) → AreNames after (c.name ∷ before) → next ≡ at + component_size c →
    keep p (components_faults s table after (next + 1) cs) ≡ keep o (components_faults s table before at (c ∷ cs))
component_kept s table before after at next c cs o p noted names place =
    let rest = components_faults s table (c.name ∷ before) (at + component_size c + 1) cs in
    ap (λ n. keep p (components_faults s table after (n + 1) cs)) place
    ∙ ap (keep p) (components_same s table after (c.name ∷ before) (at + component_size c + 1) cs names)
    ∙ ap (λ x. keep x rest) noted
    ∙ sym (keep_append o (component_faults s table before at c) rest)

-- ---- the whole

pub taken_same : (s : Scope) (U V : List Bytes) (at : ℕ) (q : Bytes) → AreNames U V → taken_before s U at q ≡ taken_before s V at q
taken_same s U V at q same = ap (λ b. where_wrong (is_some (named q s) || b) at 11) (same q)
