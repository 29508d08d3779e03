-- The names of outputs to hide: how many tokens they have, and which of them stood before.
use Rattle.std.proofs.Common.{◌≡◌, ℕ, ◌+◌, ◌*◌, Bool, true, false, not, ◌||◌, bytes_eq, Option, List, [], ◌∷◌, ◌++◌, length, map, string_bytes, refl, ap, sym, ◌∙◌, arith}
use Rattle.std.specs.List.{list_any}
use Rattle.std.specs.declared.string.String.{String}
use Rattle.ioa_trees.specs.Trees.{Bytes, PlainComposed}
use Rattle.ioa_trees.specs.AutomatonRules.{MeantAutomaton}
use Rattle.ioa_trees.specs.Faults.{Fault, keep, where_wrong}
use Rattle.ioa_trees.specs.Scopes.{Scope, taken_before}
use Rattle.ioa_trees.specs.Sizes.{component_size, hidden_size, listed_size}
use Rattle.ioa_trees.specs.SourceRules.{components_faults, composed_faults, hidden_at, hidden_faults}
use Rattle.ioa_check.specs.Sets.{AreNames}
use Rattle.ioa_typing.proofs.Keeps.{keep_append, keep_parts}
use Rattle.ioa_check.proofs.Turns.{behind_names}

-- a word or a comma and a name each
pub hidden_sized : {A : Type 0} (ns : List (String A)) → hidden_size (map string_bytes ns) ≡ 2 * length ns
hidden_sized [] = refl
hidden_sized (n ∷ ns) = let rest = behind_names ns in omega (arith, rest)

hidden_same : (U V : List Bytes) (at : ℕ) (qs : List Bytes) → AreNames U V → hidden_faults U at qs ≡ hidden_faults V at qs
hidden_same U V at [] same = refl
hidden_same U V at (q ∷ qs) same =
    ap (λ b. where_wrong b at 11 ++ hidden_faults (q ∷ U) (at + 2) qs) (same q)
    ∙ ap (λ fs. where_wrong (list_any (bytes_eq q) V) at 11 ++ fs) (hidden_same (q ∷ U) (q ∷ V) (at + 2) qs (λ r. ap (λ b. bytes_eq r q || b) (same r)))

twice_not : (b : Bool) → not (not b) ≡ b
twice_not true = refl
twice_not false = refl

-- the fault of a name, and of those after it
pub hidden_kept : (before after : List Bytes) (at next : ℕ) (q : Bytes) (qs : List Bytes) (fresh : Bool) (o p : Option Fault) →
    p ≡ keep o (where_wrong (not fresh) at 11) → fresh ≡ not (list_any (bytes_eq q) before) → AreNames after (q ∷ before) → next ≡ at + 2 →
    keep p (hidden_faults after next qs) ≡ keep o (hidden_faults before at (q ∷ qs))
hidden_kept before after at next q qs fresh o p noted is same place =
    let rest = hidden_faults (q ∷ before) (at + 2) qs in
    let stood : not fresh ≡ list_any (bytes_eq q) before = ap not is ∙ twice_not (list_any (bytes_eq q) before) in
    ap (λ k. keep p (hidden_faults after k qs)) place
    ∙ ap (keep p) (hidden_same after (q ∷ before) (at + 2) qs same)
    ∙ ap (λ x. keep x rest) (noted ∙ ap (λ b. keep o (where_wrong b at 11)) stood)
    ∙ sym (keep_append o (where_wrong (list_any (bytes_eq q) before) at 11) rest)

-- the composed automaton by its parts
pub composed_noted : (s : Scope) (table : List MeantAutomaton) (used L : List Bytes) (at place last : ℕ) (c : PlainComposed) (o p q z : Option Fault) →
    p ≡ keep o (taken_before s used (at + 1) c.name) → taken_before s used (at + 1) c.name ≡ taken_before s L (at + 1) c.name →
    q ≡ keep p (components_faults s table [] place c.components) → place ≡ at + 3 →
    z ≡ keep q (hidden_faults [] (last + 1) c.hidden) → last ≡ place + listed_size component_size c.components →
    z ≡ keep o (composed_faults s L table at c)
composed_noted s table used L at place last c o p q z first same second here third behind =
    let end : last + 1 ≡ hidden_at at c = omega (arith, here, behind) in
    keep_parts o p q z (taken_before s L (at + 1) c.name) (components_faults s table [] place c.components) (components_faults s table [] (at + 3) c.components)
    (hidden_faults [] (last + 1) c.hidden) (hidden_faults [] (hidden_at at c) c.hidden)
    (first ∙ ap (keep o) same) (ap (λ n. components_faults s table [] n c.components) here) second (ap (λ n. hidden_faults [] n c.hidden) end) third
