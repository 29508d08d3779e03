-- Each name of the tasks stands there once.
use Rattle.std.proofs.Common.{◌≡◌, ℕ, ◌+◌, Bool, true, false, not, ◌||◌, List, [], ◌∷◌, ◌++◌, refl, sym, ◌∙◌, subst, arith, bytes_eq, if◌then◌else◌}
use Rattle.std.specs.List.{list_any, All, flat_map}
use Rattle.std.proofs.lemmas.Bool.{or_parts, or_left, or_right, false_from_ne_true, true≢false}
use Rattle.std.proofs.lemmas.List.Elements.{All-nil, All-cons, All-append}
use Rattle.std.proofs.lemmas.List.Folds.{list_any-append}
use Rattle.ioa_trees.specs.Trees.{Bytes, PlainEntry}
use Rattle.ioa_trees.specs.Faults.{where_wrong}
use Rattle.ioa_trees.specs.Sizes.{task_size}
use Rattle.ioa_trees.specs.EntryRules.{has_task}
use Rattle.ioa_trees.specs.AutomatonRules.{is_controlled_name, task_faults, tasks_faults}
use Rattle.compose.proofs.NoFaults.{nil_left, nil_right, not_wrong}
use Rattle.compose.proofs.Heads.{bytes_same}

-- how many names pass a test
abbrev pub tally : (Bytes → Bool) → List Bytes → ℕ
tally test [] = 0
tally test (q ∷ qs) = (if test q then 1 else 0) + tally test qs

-- the names of all tasks
abbrev pub all_names : List (List Bytes) → List Bytes
all_names ts = flat_map (λ t. t) ts

tally_append : (test : Bytes → Bool) (qs rs : List Bytes) → tally test (qs ++ rs) ≡ tally test qs + tally test rs
tally_append test [] rs = omega arith
tally_append test (q ∷ qs) rs = omega (arith, tally_append test qs rs)

none_by : (b : Bool) (n : ℕ) → b ≡ false → n ≡ 0 → (if b then 1 else 0) + n ≡ 0
none_by true n e h = cc
none_by false n e h = omega (arith, h)

once_by : (b l : Bool) (n : ℕ) → (b ≡ true → n ≡ 0) → (l ≡ true → n ≡ 1) → (b || l) ≡ true → (if b then 1 else 0) + n ≡ 1
once_by true l n f g h = omega (arith, f refl)
once_by false l n f g h = omega (arith, g h)

pub tally_none : (test : Bytes → Bool) (qs : List Bytes) → list_any test qs ≡ false → tally test qs ≡ 0
tally_none test [] h = refl
tally_none test (q ∷ qs) h =
    let both = or_parts (test q) (list_any test qs) h in
    none_by (test q) (tally test qs) both.0 (tally_none test qs both.1)

-- ---- one task

right_by : (c l : Bool) (at : ℕ) → where_wrong (not c || l) at 16 ≡ [] → (c ≡ true) × (l ≡ false)
right_by true l at h = (refl, not_wrong l at 16 h)
right_by false l at h = absurd (cc)

abbrev Later : List PlainEntry → List Bytes → ℕ → Bytes → List Bytes → Type 0
Later es before at q qs = ((is_controlled_name es q ≡ true) × (list_any (bytes_eq q) before ≡ false)) × (task_faults es (q ∷ before) (at + 2) qs ≡ [])

later : (es : List PlainEntry) (before : List Bytes) (at : ℕ) (q : Bytes) (qs : List Bytes) → task_faults es before at (q ∷ qs) ≡ [] → Later es before at q qs
later es before at q qs h =
    let c = is_controlled_name es q in let l = list_any (bytes_eq q) before in
    let a = where_wrong (not c || l) at 16 in let b = task_faults es (q ∷ before) (at + 2) qs in
    (right_by c l at (nil_left a b h), nil_right a b h)

other : (q r : Bytes) (before : List Bytes) → list_any (bytes_eq q) before ≡ true → list_any (bytes_eq r) before ≡ false → bytes_eq q r ≡ false
other q r before h i = false_from_ne_true (bytes_eq q r) (λ e. true≢false (sym h ∙ subst (λ x. list_any (bytes_eq x) before ≡ false) (sym (bytes_same q r e)) i))

task_none : (es : List PlainEntry) (before : List Bytes) (at : ℕ) (q : Bytes) (qs : List Bytes) → task_faults es before at qs ≡ [] → list_any (bytes_eq q) before ≡ true → tally (bytes_eq q) qs ≡ 0
task_none es before at q [] h i = refl
task_none es before at q (r ∷ qs) h i =
    let s = later es before at r qs h in
    none_by (bytes_eq q r) (tally (bytes_eq q) qs) (other q r before i s.0.1)
    (task_none es (r ∷ before) (at + 2) q qs s.1 (or_right (bytes_eq q r) (list_any (bytes_eq q) before) i))

task_once : (es : List PlainEntry) (before : List Bytes) (at : ℕ) (q : Bytes) (qs : List Bytes) → task_faults es before at qs ≡ [] → list_any (bytes_eq q) qs ≡ true → tally (bytes_eq q) qs ≡ 1
task_once es before at q [] h i = absurd (cc)
task_once es before at q (r ∷ qs) h i =
    let s = later es before at r qs h in
    once_by (bytes_eq q r) (list_any (bytes_eq q) qs) (tally (bytes_eq q) qs)
    (λ e. task_none es (r ∷ before) (at + 2) q qs s.1 (or_left (bytes_eq q r) (list_any (bytes_eq q) before) e))
    (λ e. task_once es (r ∷ before) (at + 2) q qs s.1 e) i

abbrev pub IsNamed : List PlainEntry → Bytes → Type 0
IsNamed es q = is_controlled_name es q ≡ true

task_named : (es : List PlainEntry) (before : List Bytes) (at : ℕ) (qs : List Bytes) → task_faults es before at qs ≡ [] → All (IsNamed es) qs
task_named es before at [] h = All-nil (IsNamed es)
task_named es before at (q ∷ qs) h =
    let s = later es before at q qs h in
    All-cons (IsNamed es) q qs s.0.0 (task_named es (q ∷ before) (at + 2) qs s.1)

-- ---- all tasks

abbrev Rest : List PlainEntry → List Bytes → ℕ → List Bytes → List (List Bytes) → Type 0
Rest es before at t ts = (task_faults es before (at + 1) t ≡ []) × (tasks_faults es (t ++ before) (at + task_size t) ts ≡ [])

rest : (es : List PlainEntry) (before : List Bytes) (at : ℕ) (t : List Bytes) (ts : List (List Bytes)) → tasks_faults es before at (t ∷ ts) ≡ [] → Rest es before at t ts
rest es before at t ts h =
    let a = task_faults es before (at + 1) t in let b = tasks_faults es (t ++ before) (at + task_size t) ts in
    (nil_left a b h, nil_right a b h)

tasks_none : (es : List PlainEntry) (before : List Bytes) (at : ℕ) (q : Bytes) (ts : List (List Bytes)) → tasks_faults es before at ts ≡ [] → list_any (bytes_eq q) before ≡ true → tally (bytes_eq q) (all_names ts) ≡ 0
tasks_none es before at q [] h i = refl
tasks_none es before at q (t ∷ ts) h i =
    let r = rest es before at t ts h in
    let there : list_any (bytes_eq q) (t ++ before) ≡ true = list_any-append (bytes_eq q) t before ∙ or_right (list_any (bytes_eq q) t) (list_any (bytes_eq q) before) i in
    omega (arith, tally_append (bytes_eq q) t (all_names ts), task_none es before (at + 1) q t r.0 i, tasks_none es (t ++ before) (at + task_size t) q ts r.1 there)

tasks_by : (es : List PlainEntry) (before : List Bytes) (at : ℕ) (q : Bytes) (t : List Bytes) (ts : List (List Bytes)) → Rest es before at t ts → (has_task ts q ≡ true → tally (bytes_eq q) (all_names ts) ≡ 1)
    → (b : Bool) → list_any (bytes_eq q) t ≡ b → (b || has_task ts q) ≡ true → tally (bytes_eq q) (t ++ all_names ts) ≡ 1
tasks_by es before at q t ts r f true e h =
    let there : list_any (bytes_eq q) (t ++ before) ≡ true = list_any-append (bytes_eq q) t before ∙ or_left (list_any (bytes_eq q) t) (list_any (bytes_eq q) before) e in
    omega (arith, tally_append (bytes_eq q) t (all_names ts), task_once es before (at + 1) q t r.0 e, tasks_none es (t ++ before) (at + task_size t) q ts r.1 there)
tasks_by es before at q t ts r f false e h = omega (arith, tally_append (bytes_eq q) t (all_names ts), tally_none (bytes_eq q) t e, f h)

-- a name that has a task stands once in all tasks
pub tasks_once : (es : List PlainEntry) (before : List Bytes) (at : ℕ) (q : Bytes) (ts : List (List Bytes)) → tasks_faults es before at ts ≡ [] → has_task ts q ≡ true → tally (bytes_eq q) (all_names ts) ≡ 1
tasks_once es before at q [] h i = absurd (cc)
tasks_once es before at q (t ∷ ts) h i =
    let r = rest es before at t ts h in
    tasks_by es before at q t ts r (tasks_once es (t ++ before) (at + task_size t) q ts r.1) (list_any (bytes_eq q) t) refl i

-- each name of a task is that of an output or internal action
pub tasks_named : (es : List PlainEntry) (before : List Bytes) (at : ℕ) (ts : List (List Bytes)) → tasks_faults es before at ts ≡ [] → All (IsNamed es) (all_names ts)
tasks_named es before at [] h = All-nil (IsNamed es)
tasks_named es before at (t ∷ ts) h =
    let r = rest es before at t ts h in
    All-append (IsNamed es) t (all_names ts) (task_named es before (at + 1) t r.0) (tasks_named es (t ++ before) (at + task_size t) ts r.1)
