-- Entries without faults: no two of one name clash, and each has its transition and its task.
use Rattle.std.proofs.Common.{◌≡◌, ℕ, ◌+◌, zero, suc, Bool, true, false, not, ◌&&◌, Some, List, [], ◌∷◌, ◌++◌, slice_get, refl, subst}
use Rattle.std.specs.List.{list_any}
use Rattle.std.proofs.lemmas.Bool.{and_from}
use Rattle.std.proofs.lemmas.Option.{same_Some}
use Rattle.ioa_trees.specs.Trees.{Bytes, PlainEntry, PlainTransition}
use Rattle.ioa_trees.specs.Faults.{where_wrong}
use Rattle.ioa_trees.specs.Scopes.{Scope}
use Rattle.ioa_trees.specs.Sizes.{entry_size}
use Rattle.ioa_trees.specs.EntryRules.{is_controlled, agrees, parameters_faults, is_large, clashes, has_task, entry_faults, entries_faults}
use Rattle.compose.proofs.NoFaults.{nil_left, nil_right, right_if, not_wrong}
use Rattle.compose.proofs.Apart.{apart}

-- what an entry without faults has
pub record IsKept (s : Scope) (ts : List PlainTransition) (tasks : List (List Bytes)) (e : PlainEntry) : Type 0 where
  pub at : ℕ
  pub parameters : parameters_faults s (is_controlled e.kind) 0 at e.parameters ≡ []
  pub offered : list_any (λ t. agrees e t.entry) ts ≡ true
  pub tasked : is_controlled e.kind ≡ true → has_task tasks e.name ≡ true

tasked_by : (c h : Bool) (at : ℕ) → where_wrong (c && not h) at 16 ≡ [] → c ≡ true → h ≡ true
tasked_by true h at e i = right_if h at 16 e
tasked_by false h at e i = cc

entry_if : (s : Scope) (before : List PlainEntry) (ts : List PlainTransition) (tasks : List (List Bytes)) (at : ℕ) (e : PlainEntry) → entry_faults s before ts tasks at e ≡ [] → IsKept s ts tasks e × (list_any (clashes e) before ≡ false)
entry_if s before ts tasks at e h =
    let v = where_wrong (list_any (clashes e) before) (at + 1) 11 in
    let w = parameters_faults s (is_controlled e.kind) 0 (at + 3) e.parameters in
    let x = where_wrong (is_large s e) at 17 in
    let y = where_wrong (not (list_any (λ t. agrees e t.entry) ts)) at 13 in
    let z = where_wrong (is_controlled e.kind && not (has_task tasks e.name)) at 16 in
    let i = nil_right v (w ++ (x ++ (y ++ z))) h in
    let j = nil_right x (y ++ z) (nil_right w (x ++ (y ++ z)) i) in (
      record {
        at = at + 3;
        parameters = nil_left w (x ++ (y ++ z)) i;
        offered = right_if (list_any (λ t. agrees e t.entry) ts) at 13 (nil_left y z j);
        tasked = tasked_by (is_controlled e.kind) (has_task tasks e.name) at (nil_right y z j);
      },
      not_wrong (list_any (clashes e) before) (at + 1) 11 (nil_left v (w ++ (x ++ (y ++ z))) h),
    )

abbrev Later : Scope → List PlainEntry → List PlainTransition → List (List Bytes) → ℕ → PlainEntry → List PlainEntry → Type 0
Later s before ts tasks at e es = (entry_faults s before ts tasks at e ≡ []) × (entries_faults s (e ∷ before) ts tasks (at + entry_size e) es ≡ [])

later : (s : Scope) (before : List PlainEntry) (ts : List PlainTransition) (tasks : List (List Bytes)) (at : ℕ) (e : PlainEntry) (es : List PlainEntry) → entries_faults s before ts tasks at (e ∷ es) ≡ [] → Later s before ts tasks at e es
later s before ts tasks at e es h =
    let a = entry_faults s before ts tasks at e in let b = entries_faults s (e ∷ before) ts tasks (at + entry_size e) es in
    (nil_left a b h, nil_right a b h)

-- every entry is kept
pub kept : (s : Scope) (before : List PlainEntry) (ts : List PlainTransition) (tasks : List (List Bytes)) (at : ℕ) (es : List PlainEntry) → entries_faults s before ts tasks at es ≡ [] → (n : ℕ) (e : PlainEntry) → slice_get es n ≡ Some e → IsKept s ts tasks e
kept s before ts tasks at [] h n e i = absurd (cc)
kept s before ts tasks at (x ∷ es) h zero e i =
    subst (IsKept s ts tasks) (same_Some x e i) (entry_if s before ts tasks at x (later s before ts tasks at x es h).0).0
kept s before ts tasks at (x ∷ es) h (suc n) e i = kept s (x ∷ before) ts tasks (at + entry_size x) es (later s before ts tasks at x es h).1 n e i

-- no two entries clash
pub entries_apart : (s : Scope) (before : List PlainEntry) (ts : List PlainTransition) (tasks : List (List Bytes)) (at : ℕ) (es : List PlainEntry) → entries_faults s before ts tasks at es ≡ [] → apart clashes before es ≡ true
entries_apart s before ts tasks at [] h = refl
entries_apart s before ts tasks at (e ∷ es) h =
    let r = later s before ts tasks at e es h in
    and_from (not (list_any (clashes e) before)) (apart clashes (e ∷ before) es)
    (rw (entry_if s before ts tasks at e r.0).1 refl)
    (entries_apart s (e ∷ before) ts tasks (at + entry_size e) es r.1)
