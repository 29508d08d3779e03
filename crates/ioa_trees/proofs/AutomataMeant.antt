-- An automaton without faults has a whole meaning.
use Rattle.std.proofs.Common.{◌≡◌, ℕ, ◌+◌, Option, IsSome, nat_lt, List, [], ◌∷◌, ◌++◌, length, map, refl}
use Rattle.std.specs.List.{All}
use Rattle.std.proofs.lemmas.List.Elements.{All-nil, All-cons, All-head, All-tail, All-weaker}
use Rattle.terms.specs.TermTree.{TermTree}
use Rattle.ioa_trees.specs.Trees.{Bytes, PlainDeclared, PlainVariable, PlainAutomaton}
use Rattle.ioa_trees.specs.Faults.{where_wrong}
use Rattle.ioa_trees.specs.Kinds.{Kind}
use Rattle.ioa_trees.specs.Scopes.{Scope, OfFormal, OfVariable, declare, doubled, taken_before}
use Rattle.ioa_trees.specs.Sizes.{declared_size, type_size, variable_size}
use Rattle.ioa_trees.specs.TypeRules.{kind_of, type_faults, unscalar}
use Rattle.ioa_trees.specs.ValueRules.{put_in, inner_faults, misfits}
use Rattle.ioa_trees.specs.EntryRules.{entries_faults, transitions_faults, meant_by}
use Rattle.ioa_trees.specs.AutomatonRules.{with_formals, formals_faults, with_variables, weight_of, goes_over, variable_faults, variables_faults, tasks_faults, signature_at, states_at, transitions_at, tasks_at, inside, around, entry_names, body_faults, formal_kinds, meaning_of}
use Rattle.ioa_trees.specs.Meant.{AllMeant, AllSome, IsWholeEntry, IsWholeAutomaton}
use Rattle.ioa_trees.proofs.NoFaults.{nil_left, nil_right}
use Rattle.ioa_trees.proofs.TypesMeant.{kind_if}
use Rattle.ioa_trees.proofs.ValuesMeant.{put_in_if}
use Rattle.ioa_trees.proofs.ScopesMeant.{Alike, alike_self, alike_with, with_formal, with_variable}
use Rattle.ioa_trees.proofs.EntriesMeant.{entries_if, transitions_if}

-- ---- formals

-- formals without faults have kinds, and the scope stays meant with them
pub formals_if : (s : Scope) → AllMeant s → (n at : ℕ) (ds : List PlainDeclared) → formals_faults s n at ds ≡ [] → AllMeant (with_formals s n ds) × AllSome (formal_kinds s n ds)
formals_if s m n at [] h = (m, All-nil (λ (o : Option Kind). IsSome o))
formals_if s m n at (d ∷ ds) h =
    let k = kind_of s d.of in let r = declare d.name (OfFormal n k) s in let p = at + declared_size d + 1 in
    let a = doubled s at d.name in let b = type_faults s (at + 2) d.of in let c = unscalar (at + 2) k in let e = formals_faults r (n + 1) p ds in
    let u = nil_right a (b ++ (c ++ e)) h in
    let v = nil_right b (c ++ e) u in
    let i = kind_if s m (at + 2) d.of (nil_left b (c ++ e) u) in
    let rest = formals_if r (with_formal d.name n k s m i) (n + 1) p ds (nil_right c e v) in
    (rest.0, All-cons (λ (o : Option Kind). IsSome o) k (formal_kinds r (n + 1) ds) i rest.1)

-- ---- state variables

abbrev IsStarted : Scope → PlainVariable → Type 0
IsStarted s v = IsSome (kind_of s v.declared.of) × IsSome (put_in s (kind_of s v.declared.of) v.start)

variable_if : (s : Scope) → AllMeant s → (used : List Bytes) (before at : ℕ) (v : PlainVariable) → variable_faults s used before at v ≡ [] → IsStarted s v
variable_if s m used before at v h =
    let k = kind_of s v.declared.of in let p = at + type_size v.declared.of + 3 in
    let a = taken_before s used at v.declared.name in let b = type_faults s (at + 2) v.declared.of in let c = where_wrong (goes_over before k) (at + 2) 17 in
    let d = inner_faults s p v.start in let e = misfits s k p v.start in
    let u = nil_right a (b ++ (c ++ (d ++ e))) h in
    let w = nil_right b (c ++ (d ++ e)) u in
    let x = nil_right c (d ++ e) w in
    let i = kind_if s m (at + 2) v.declared.of (nil_left b (c ++ (d ++ e)) u) in
    (i, put_in_if s m k i p p v.start (nil_left d e x) (nil_right d e x))

variables_if : (s : Scope) → AllMeant s → (used : List Bytes) (before at : ℕ) (vs : List PlainVariable) → variables_faults s used before at vs ≡ [] → All (IsStarted s) vs
variables_if s m used before at [] h = All-nil (IsStarted s)
variables_if s m used before at (v ∷ vs) h =
    let more = v.declared.name ∷ used in let w = before + weight_of (kind_of s v.declared.of) in let p = at + variable_size v + 1 in
    let a = variable_faults s used before at v in let b = variables_faults s more w p vs in
    All-cons (IsStarted s) v vs (variable_if s m used before at v (nil_left a b h)) (variables_if s m more w p vs (nil_right a b h))

-- a scope stays meant with variables that have kinds
meant_with_variables : (seen s : Scope) → AllMeant s → (n : ℕ) (vs : List PlainVariable) → All (IsStarted seen) vs → AllMeant (with_variables seen s n vs)
meant_with_variables seen s m n [] all = m
meant_with_variables seen s m n (v ∷ vs) all =
    let k = kind_of seen v.declared.of in
    let i = All-head (IsStarted seen) v vs all in
    meant_with_variables seen (declare v.declared.name (OfVariable n k) s) (with_variable v.declared.name n k s m i.0) (n + 1) vs (All-tail (IsStarted seen) v vs all)

-- variables are neither types nor formals
alike_with_variables : (types s g : Scope) → Alike s g → (n : ℕ) (vs : List PlainVariable) → Alike (with_variables types s n vs) g
alike_with_variables types s g a n [] = a
alike_with_variables types s g a n (v ∷ vs) =
    let m = OfVariable n (kind_of types v.declared.of) in
    alike_with_variables types (declare v.declared.name m s) g (alike_with v.declared.name m s g refl refl a) (n + 1) vs

-- ---- the whole

pub mapped : {A B : Type 0} (P : B → Type 0) (f : A → B) (xs : List A) → All (λ x. P (f x)) xs → All P (map f xs)
mapped P f [] h = All-nil P
mapped P f (x ∷ xs) h = All-cons P (f x) (map f xs) (All-head (λ x. P (f x)) x xs h) (mapped P f xs (All-tail (λ x. P (f x)) x xs h))

-- an automaton without faults has a whole meaning
pub automaton_if : (s : Scope) → AllMeant s → (at : ℕ) (a : PlainAutomaton) → body_faults s at a ≡ [] → IsWholeAutomaton (meaning_of s a)
automaton_if s m at a h =
    let i = inside s a in
    let fa = where_wrong (nat_lt 16 (length a.formals)) (at + 1) 17 in
    let fb = formals_faults s 0 (at + 3) a.formals in
    let fc = entries_faults i [] a.transitions a.tasks (signature_at at a + 1) a.entries in
    let fd = variables_faults i (entry_names a.entries) 0 (states_at at a + 1) a.variables in
    let fe = transitions_faults (around s a) a.entries [] (transitions_at at a + 1) a.transitions in
    let ff = tasks_faults a.entries [] (tasks_at at a + 1) a.tasks in
    let hb = nil_right fa (fb ++ (fc ++ (fd ++ (fe ++ ff)))) h in
    let hc = nil_right fb (fc ++ (fd ++ (fe ++ ff))) hb in
    let hd = nil_right fc (fd ++ (fe ++ ff)) hc in
    let he = nil_right fd (fe ++ ff) hd in
    let formals = formals_if s m 0 (at + 3) a.formals (nil_left fb (fc ++ (fd ++ (fe ++ ff))) hb) in
    let mi = formals.0 in
    let started = variables_if i mi (entry_names a.entries) 0 (states_at at a + 1) a.variables (nil_left fd (fe ++ ff) hd) in
    let r = around s a in
    let mr = meant_with_variables i i mi 0 a.variables started in
    let entries = entries_if i r mi mr (alike_with_variables i i i (alike_self i) 0 a.variables) [] a.transitions a.tasks (signature_at at a + 1) a.entries (nil_left fc (fd ++ (fe ++ ff)) hc) in
    record {
      formals = formals.1;
      entries = mapped IsWholeEntry (meant_by r) a.transitions (transitions_if r a.entries entries [] (transitions_at at a + 1) a.transitions (nil_left fe ff he));
      variables = mapped (λ (o : Option Kind). IsSome o) (λ v. kind_of i v.declared.of) a.variables (All-weaker (IsStarted i) (λ v. IsSome (kind_of i v.declared.of)) (λ v x. x.0) a.variables started);
      start = mapped (λ (o : Option TermTree). IsSome o) (λ v. put_in i (kind_of i v.declared.of) v.start) a.variables (All-weaker (IsStarted i) (λ v. IsSome (put_in i (kind_of i v.declared.of) v.start)) (λ v x. x.1) a.variables started);
    }
