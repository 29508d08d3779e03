-- The tasks of an automaton without faults are a partition of what it controls.
use Rattle.std.proofs.Common.{◌≡◌, ℕ, ◌+◌, zero, suc, Bool, true, false, ◌&&◌, ◌||◌, Option, Some, None, List, [], ◌∷◌, ◌++◌, map, slice_get, refl, sym, ap, ap₂, ◌∙◌, subst, arith, bytes_eq, if◌then◌else◌, ◌==◌}
use Rattle.std.specs.List.{list_any, All}
use Rattle.std.specs.Option.{option_map}
use Rattle.std.proofs.lemmas.Bool.{and_parts, and_from, ne_eqb, true≢false}
use Rattle.std.proofs.lemmas.Bool.Decides.{Decides-eqb, Decides-like, same_from_decides}
use Rattle.std.proofs.lemmas.List.{map-append}
use Rattle.std.proofs.lemmas.List.Elements.{All-head, All-tail, All-weaker}
use Rattle.std.proofs.lemmas.Option.{same_Some, none-some, slice_get-map}
use Rattle.std.proofs.lemmas.Slice.Eq.{bytes_eq-Decides}
use Rattle.io_automata.specs.WellFormed.{times, all_places}
use Rattle.ioa_trees.specs.Trees.{Bytes, PlainEntry, PlainTransition}
use Rattle.ioa_trees.specs.Scopes.{Scope}
use Rattle.ioa_trees.specs.EntryRules.{is_controlled, agrees, meant_by}
use Rattle.ioa_trees.specs.AutomatonRules.{place_of}
use Rattle.compose.specs.Sound.{share}
use Rattle.compose.proofs.Apart.{passing, any_at}
use Rattle.compose.proofs.Heads.{bytes_same, heads_same, has_entry}
use Rattle.compose.proofs.SoundEntries.{kept}
use Rattle.compose.proofs.Once.{AreRight, one_transition, controlled_clash}
use Rattle.compose.proofs.Tally.{tally, all_names, IsNamed, tasks_once, tasks_named}

-- ---- the transition of a name

abbrev is_of : Bytes → PlainTransition → Bool
is_of q t = is_controlled t.entry.kind && bytes_eq q t.entry.name

abbrev Found : Bytes → ℕ → ℕ → List PlainTransition → Type 0
Found q p n ts = (k : ℕ) × (t : PlainTransition) × (p ≡ n + k) × (slice_get ts k ≡ Some t) × (is_of q t ≡ true)

found_by : (q : Bytes) (n : ℕ) (t : PlainTransition) (ts : List PlainTransition) (b : Bool) → is_of q t ≡ b → (list_any (is_of q) ts ≡ true → Found q (place_of q (n + 1) ts) (n + 1) ts)
    → (b || list_any (is_of q) ts) ≡ true → Found q (if b then n else place_of q (n + 1) ts) n (t ∷ ts)
found_by q n t ts true e f h = (zero, t, omega arith, refl, e)
found_by q n t ts false e f h = let r = f h in (suc r.0, r.1, omega (arith, r.2), r.3, r.4)

found : (q : Bytes) (n : ℕ) (ts : List PlainTransition) → list_any (is_of q) ts ≡ true → Found q (place_of q n ts) n ts
found q n [] h = absurd (cc)
found q n (t ∷ ts) h = found_by q n t ts (is_of q t) refl (found q (n + 1) ts) h

-- the place of a name is that of the transition of its output or internal action
record IsPlaced (ts : List PlainTransition) (q : Bytes) : Type 0 where
  pub transition : PlainTransition
  pub there : slice_get ts (place_of q 0 ts) ≡ Some transition
  pub controlled : is_controlled transition.entry.kind ≡ true
  pub name : q ≡ transition.entry.name

moved : (ts : List PlainTransition) (j k : ℕ) (t : PlainTransition) → j ≡ 0 + k → slice_get ts k ≡ Some t → slice_get ts j ≡ Some t
moved ts j k t e h = let same : j ≡ k = omega (arith, e) in subst (λ n. slice_get ts n ≡ Some t) (sym same) h

placed_by : (q : Bytes) (ts : List PlainTransition) → list_any (is_of q) ts ≡ true → IsPlaced ts q
placed_by q ts h =
    let p = found q 0 ts h in
    let parts = and_parts (is_controlled p.1.entry.kind) (bytes_eq q p.1.entry.name) p.4 in
    record {
      transition = p.1;
      there = moved ts (place_of q 0 ts) p.0 p.1 p.2 p.3;
      controlled = parts.0;
      name = bytes_same q p.1.entry.name parts.1;
    }

-- the transition with the head of an entry that is controlled
is_of_entry : (q : Bytes) (e : PlainEntry) (t : PlainTransition) → (is_controlled e.kind && bytes_eq q e.name) ≡ true → agrees e t.entry ≡ true → is_of q t ≡ true
is_of_entry q e t h a =
    let both = and_parts (is_controlled e.kind) (bytes_eq q e.name) h in
    let head = heads_same e t.entry a in
    and_from (is_controlled t.entry.kind) (bytes_eq q t.entry.name)
    (subst (λ k. is_controlled k ≡ true) head.0 both.0) (subst (λ n. bytes_eq q n ≡ true) head.1 both.1)

placed : (inner outer : Scope) (es : List PlainEntry) (ts : List PlainTransition) (tasks : List (List Bytes)) → AreRight inner outer es ts tasks → (q : Bytes) → IsNamed es q → IsPlaced ts q
placed inner outer es ts tasks r q h =
    let e = passing (λ e. is_controlled e.kind && bytes_eq q e.name) es h in
    let t = passing (λ t. agrees e.1 t.entry) ts (kept inner [] ts tasks r.entries_at es r.entries e.0 e.1 e.2).offered in
    placed_by q ts (any_at (is_of q) ts t.0 t.1 t.2 (is_of_entry q e.1 t.1 e.3 t.3))

-- ---- counting

times_tally : (f : Bytes → ℕ) (test : Bytes → Bool) (p : ℕ) (qs : List Bytes) → All (λ q. (f q == p) ≡ test q) qs → times p (map f qs) ≡ tally test qs
times_tally f test p [] h = refl
times_tally f test p (q ∷ qs) h =
    ap₂ (λ (b : Bool) (n : ℕ). (if b then 1 else 0) + n) (All-head (λ q. (f q == p) ≡ test q) q qs h) (times_tally f test p qs (All-tail (λ q. (f q == p) ≡ test q) q qs h))

none_passes : (qs : List Bytes) → tally (λ q. false) qs ≡ 0
none_passes [] = refl
none_passes (q ∷ qs) = omega (arith, none_passes qs)

places_of : (f : Bytes → ℕ) (tasks : List (List Bytes)) → all_places (map (λ t. map f t) tasks) ≡ map f (all_names tasks)
places_of f [] = refl
places_of f (t ∷ ts) = ap (λ ps. map f t ++ ps) (places_of f ts) ∙ sym (map-append f t (all_names ts))

-- ---- partition

abbrev place : List PlainTransition → Bytes → ℕ
place ts q = place_of q 0 ts

-- a place that no name of a task has
never : (ts : List PlainTransition) (p : ℕ) (qs : List Bytes) → All (IsPlaced ts) qs → ((q : Bytes) → IsPlaced ts q → place ts q ≡ p → ⊥) → times p (map (place ts) qs) ≡ 0
never ts p qs all other =
    times_tally (place ts) (λ q. false) p qs (All-weaker (IsPlaced ts) (λ q. (place ts q == p) ≡ false) (λ q h. ne_eqb (place ts q) p (other q h)) qs all)
    ∙ none_passes qs

-- a name of a task has this place exactly if it is the name there
named_by : (inner outer : Scope) (es : List PlainEntry) (ts : List PlainTransition) (tasks : List (List Bytes)) → AreRight inner outer es ts tasks
    → (p : ℕ) (t : PlainTransition) → slice_get ts p ≡ Some t → is_controlled t.entry.kind ≡ true → (r : Bytes) → t.entry.name ≡ r → (q : Bytes) → IsPlaced ts q → (place ts q == p) ≡ bytes_eq r q
named_by inner outer es ts tasks right p t e c r same q h =
    same_from_decides (place ts q == p) (bytes_eq r q) (Decides-eqb (place ts q) p)
    (Decides-like (bytes_eq r q)
    (λ i. one_transition inner outer es ts tasks right (place ts q) p h.transition t h.there e (controlled_clash h.transition.entry t.entry h.controlled c (sym h.name ∙ (sym i ∙ sym same))))
    (λ i. sym same ∙ (ap (λ (u : PlainTransition). u.entry.name) (same_Some t h.transition (sym e ∙ (ap (λ k. slice_get ts k) (sym i) ∙ h.there))) ∙ sym h.name))
    (bytes_eq-Decides r q))

-- a place that is controlled
always : (inner outer : Scope) (es : List PlainEntry) (ts : List PlainTransition) (tasks : List (List Bytes)) → AreRight inner outer es ts tasks → All (IsPlaced ts) (all_names tasks)
    → (p : ℕ) (t : PlainTransition) → slice_get ts p ≡ Some t → is_controlled t.entry.kind ≡ true → times p (map (place ts) (all_names tasks)) ≡ 1
always inner outer es ts tasks r all p t e c =
    let x = has_entry outer es [] r.transitions_at ts r.transitions p t e in
    let q = x.entry.name in
    let tasked = (kept inner [] ts tasks r.entries_at es r.entries x.place x.entry x.found).tasked (subst (λ k. is_controlled k ≡ true) x.kind c) in
    let once = tasks_once es [] r.tasks_at q tasks r.tasks tasked in
    times_tally (place ts) (bytes_eq q) p (all_names tasks)
    (All-weaker (IsPlaced ts) (λ n. (place ts n == p) ≡ bytes_eq q n) (named_by inner outer es ts tasks r p t e c q x.name) (all_names tasks) all)
    ∙ once

counted_by : (inner outer : Scope) (es : List PlainEntry) (ts : List PlainTransition) (tasks : List (List Bytes)) → AreRight inner outer es ts tasks → All (IsPlaced ts) (all_names tasks)
    → (p : ℕ) (t : PlainTransition) → slice_get ts p ≡ Some t → (c : Bool) → is_controlled t.entry.kind ≡ c → times p (map (place ts) (all_names tasks)) ≡ (if c then 1 else 0)
counted_by inner outer es ts tasks r all p t e true c = always inner outer es ts tasks r all p t e c
counted_by inner outer es ts tasks r all p t e false c =
    never ts p (all_names tasks) all (λ q h i.
    let same : h.transition ≡ t = same_Some h.transition t (sym h.there ∙ (ap (λ k. slice_get ts k) i ∙ e)) in
    true≢false (sym h.controlled ∙ (ap (λ u. is_controlled u.entry.kind) same ∙ c)))

shared_by : (inner outer : Scope) (es : List PlainEntry) (ts : List PlainTransition) (tasks : List (List Bytes)) → AreRight inner outer es ts tasks → All (IsPlaced ts) (all_names tasks)
    → (p : ℕ) (o : Option PlainTransition) → slice_get ts p ≡ o → times p (map (place ts) (all_names tasks)) ≡ share (option_map (meant_by outer) o)
shared_by inner outer es ts tasks r all p None e =
    never ts p (all_names tasks) all (λ q h i. none-some h.transition (sym e ∙ (ap (λ k. slice_get ts k) (sym i) ∙ h.there)))
shared_by inner outer es ts tasks r all p (Some t) e = counted_by inner outer es ts tasks r all p t e (is_controlled t.entry.kind) refl

-- the place of an entry stands once in the tasks where it is controlled, else never
pub shared : (inner outer : Scope) (es : List PlainEntry) (ts : List PlainTransition) (tasks : List (List Bytes)) → AreRight inner outer es ts tasks → (p : ℕ)
    → times p (all_places (map (λ t. map (λ q. place_of q 0 ts) t) tasks)) ≡ share (slice_get (map (meant_by outer) ts) p)
shared inner outer es ts tasks r p =
    let named = tasks_named es [] r.tasks_at tasks r.tasks in
    let all = All-weaker (IsNamed es) (IsPlaced ts) (placed inner outer es ts tasks r) (all_names tasks) named in
    ap (times p) (places_of (place ts) tasks)
    ∙ (shared_by inner outer es ts tasks r all p (slice_get ts p) refl
    ∙ sym (ap share (slice_get-map (meant_by outer) ts p)))
