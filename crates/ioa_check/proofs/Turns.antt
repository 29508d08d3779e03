-- Tasks: their sizes, their faults and the places of their actions.
use Rattle.std.proofs.Common.{◌≡◌, ℕ, ◌+◌, ◌*◌, false, not, ◌||◌, if◌then◌else◌, bytes_eq, Option, List, [], ◌∷◌, ◌++◌, length, map, string_bytes, refl, ap, sym, ◌∙◌, arith}
use Rattle.std.specs.declared.string.String.{String}
use Rattle.ioa_trees.specs.Trees.{Bytes, PlainEntry, PlainTransition}
use Rattle.ioa_trees.specs.AutomatonRules.{is_controlled_name, place_of, task_faults, tasks_faults}
use Rattle.ioa_trees.specs.Faults.{Fault, keep, where_wrong}
use Rattle.ioa_trees.specs.Sizes.{behind, name_size, task_size}
use Rattle.ioa_check.specs.AutomatonParts.{closing, is_controlled, is_wrong_name}
use Rattle.ioa_check.specs.Sets.{Adds, AreNames}
use Rattle.ioa_typing.proofs.Keeps.{keep_append}
use Rattle.ioa_check.proofs.Lists.{added_front, same_front}

pub behind_names : {A : Type 0} (ns : List (String A)) → behind name_size (map string_bytes ns) ≡ 2 * length ns
behind_names [] = refl
behind_names (n ∷ ns) = let rest = behind_names ns in omega (arith, rest)

-- a brace or a comma and a name each, and the last brace
pub task_sized : {A : Type 0} (ns : List (String A)) → task_size (map string_bytes ns) ≡ 2 * length ns + closing (map string_bytes ns)
task_sized [] = refl
task_sized (n ∷ ns) = let rest = behind_names ns in omega (arith, rest)

pub task_same : (es : List PlainEntry) (U V : List Bytes) (at : ℕ) (qs : List Bytes) → AreNames U V → task_faults es U at qs ≡ task_faults es V at qs
task_same es U V at [] same = refl
task_same es U V at (q ∷ qs) same =
    ap (λ b. where_wrong (not (is_controlled_name es q) || b) at 16 ++ task_faults es (q ∷ U) (at + 2) qs) (same q)
    ∙ ap (λ fs. where_wrong (is_wrong_name es V q) at 16 ++ fs) (task_same es (q ∷ U) (q ∷ V) (at + 2) qs (λ r. ap (λ b. bytes_eq r q || b) (same r)))

pub tasks_same : (es : List PlainEntry) (U V : List Bytes) (at : ℕ) (ts : List (List Bytes)) → AreNames U V → tasks_faults es U at ts ≡ tasks_faults es V at ts
tasks_same es U V at [] same = refl
tasks_same es U V at (t ∷ ts) same =
    ap (λ fs. fs ++ tasks_faults es (t ++ U) (at + task_size t) ts) (task_same es U V (at + 1) t same)
    ∙ ap (λ fs. task_faults es V (at + 1) t ++ fs) (tasks_same es (t ++ U) (t ++ V) (at + task_size t) ts (same_front t V U same))

-- the fault of a name, and of those after it
pub name_kept : (es : List PlainEntry) (before after : List Bytes) (at next : ℕ) (q : Bytes) (qs : List Bytes) (o p : Option Fault) →
    p ≡ keep o (where_wrong (is_wrong_name es before q) at 16) → AreNames after (q ∷ before) → next ≡ at + 2 →
    keep p (task_faults es after next qs) ≡ keep o (task_faults es before at (q ∷ qs))
name_kept es before after at next q qs o p noted same place =
    ap (λ k. keep p (task_faults es after k qs)) place
    ∙ ap (keep p) (task_same es after (q ∷ before) (at + 2) qs same)
    ∙ ap (λ x. keep x (task_faults es (q ∷ before) (at + 2) qs)) noted
    ∙ sym (keep_append o (where_wrong (is_wrong_name es before q) at 16) (task_faults es (q ∷ before) (at + 2) qs))

-- the faults of a task, and of those after it
pub task_kept : (es : List PlainEntry) (before after : List Bytes) (at next : ℕ) (t : List Bytes) (ts : List (List Bytes)) (o p : Option Fault) →
    p ≡ keep o (task_faults es before (at + 1) t) → Adds after t before → next ≡ at + task_size t →
    keep p (tasks_faults es after next ts) ≡ keep o (tasks_faults es before at (t ∷ ts))
task_kept es before after at next t ts o p noted adds place =
    ap (λ k. keep p (tasks_faults es after k ts)) place
    ∙ ap (keep p) (tasks_same es after (t ++ before) (at + task_size t) ts (added_front after t before adds))
    ∙ ap (λ x. keep x (tasks_faults es (t ++ before) (at + task_size t) ts)) noted
    ∙ sym (keep_append o (task_faults es before (at + 1) t) (tasks_faults es (t ++ before) (at + task_size t) ts))

-- ---- places

pub place_later : (q : Bytes) (n : ℕ) (t : PlainTransition) (ts : List PlainTransition) → is_controlled t.entry q ≡ false → place_of q n (t ∷ ts) ≡ place_of q (n + 1) ts
place_later q n t ts other = ap (λ b. if b then n else place_of q (n + 1) ts) other

-- one more item behind those that were pushed
pub push_plain : {B : Type 0} (xs ys : List B) (y : B) (left all : List B) → ys ≡ xs ++ y ∷ [] → xs ++ y ∷ left ≡ all → ys ++ left ≡ all
push_plain {B = B} xs ys y left all pushed is = ap (λ zs. zs ++ left) pushed ∙ go xs ∙ is
  where
    go : (zs : List B) → (zs ++ y ∷ []) ++ left ≡ zs ++ y ∷ left
    go [] = refl
    go (z ∷ zs) = ap (λ ws. z ∷ ws) (go zs)
