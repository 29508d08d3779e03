-- A name stands at most once as an input, and at most once as an output or internal action.
use Rattle.std.proofs.Common.{◌≡◌, ℕ, Bool, true, false, not, ◌&&◌, ◌||◌, Some, List, [], slice_get, refl, sym, ap, ◌∙◌, subst, bytes_eq}
use Rattle.std.proofs.lemmas.Bool.{and_parts, and_from}
use Rattle.std.proofs.lemmas.Option.{same_Some}
use Rattle.ioa_trees.specs.declared.tree.EntryKind.{EntryKind}
use Rattle.ioa_trees.specs.Trees.{Bytes, PlainEntry, PlainTransition}
use Rattle.ioa_trees.specs.Scopes.{Scope}
use Rattle.ioa_trees.specs.EntryRules.{is_input, is_controlled, clashes, entries_faults, transitions_faults}
use Rattle.ioa_trees.specs.AutomatonRules.{tasks_faults}
use Rattle.compose.proofs.Apart.{one_place}
use Rattle.compose.proofs.Heads.{bytes_same, bytes_itself, heads_agree, has_entry, same_head, transitions_apart}
use Rattle.compose.proofs.SoundEntries.{entries_apart}

-- entries, transitions and tasks of an automaton without faults; the entries see one scope and the transitions another
pub record AreRight (inner outer : Scope) (es : List PlainEntry) (ts : List PlainTransition) (names : List (List Bytes)) : Type 0 where
  pub entries_at : ℕ
  pub transitions_at : ℕ
  pub tasks_at : ℕ
  pub entries : entries_faults inner [] ts names entries_at es ≡ []
  pub transitions : transitions_faults outer es [] transitions_at ts ≡ []
  pub tasks : tasks_faults es [] tasks_at names ≡ []

-- ---- clashes

abbrev like : EntryKind → EntryKind → Bool
like k l = (is_input k && is_input l) || (is_controlled k && is_controlled l)

turned_by : (a b : Bool) → ((a && b) || (not a && not b)) ≡ true → ((b && a) || (not b && not a)) ≡ true
turned_by true true h = refl
turned_by true false h = cc
turned_by false true h = cc
turned_by false false h = refl

clash_turned : (e d : PlainEntry) → clashes e d ≡ true → clashes d e ≡ true
clash_turned e d h =
    let both = and_parts (bytes_eq e.name d.name) (like e.kind d.kind) h in
    and_from (bytes_eq d.name e.name) (like d.kind e.kind) (bytes_itself d.name e.name (sym (bytes_same e.name d.name both.0))) (turned_by (is_input e.kind) (is_input d.kind) both.1)

clash_along : (t u e d : PlainEntry) → t.kind ≡ e.kind → t.name ≡ e.name → u.kind ≡ d.kind → u.name ≡ d.name → clashes t u ≡ true → clashes e d ≡ true
clash_along t u e d k n l m h =
    let both = and_parts (bytes_eq t.name u.name) (like t.kind u.kind) h in
    and_from (bytes_eq e.name d.name) (like e.kind d.kind)
    (bytes_itself e.name d.name (sym n ∙ (bytes_same t.name u.name both.0 ∙ m)))
    (subst (λ j. like e.kind j ≡ true) l (subst (λ j. like j u.kind ≡ true) k both.1))

-- ---- transitions

-- two transitions that clash are one
pub one_transition : (inner outer : Scope) (es : List PlainEntry) (ts : List PlainTransition) (tasks : List (List Bytes)) → AreRight inner outer es ts tasks → (m n : ℕ) (t u : PlainTransition) → slice_get ts m ≡ Some t → slice_get ts n ≡ Some u → clashes t.entry u.entry ≡ true → m ≡ n
one_transition inner outer es ts tasks r m n t u d e h =
    let a = has_entry outer es [] r.transitions_at ts r.transitions m t d in
    let b = has_entry outer es [] r.transitions_at ts r.transitions n u e in
    let clash = clash_along t.entry u.entry a.entry b.entry a.kind a.name b.kind b.name h in
    let apart = entries_apart inner [] ts tasks r.entries_at es r.entries in
    let place = one_place clashes [] es apart a.place b.place a.entry b.entry a.found b.found clash (clash_turned a.entry b.entry clash) in
    let one : a.entry ≡ b.entry = same_Some a.entry b.entry (sym a.found ∙ (ap (λ p. slice_get es p) place ∙ b.found)) in
    let kinds : t.entry.kind ≡ u.entry.kind = a.kind ∙ (ap (λ x. x.kind) one ∙ sym b.kind) in
    let names : t.entry.name ≡ u.entry.name = a.name ∙ (ap (λ x. x.name) one ∙ sym b.name) in
    one_place same_head [] ts (transitions_apart outer es [] r.transitions_at ts r.transitions) m n t u d e
    (heads_agree t.entry u.entry kinds names) (heads_agree u.entry t.entry (sym kinds) (sym names))

like_by : (a b : Bool) → not a ≡ true → not b ≡ true → ((a && b) || (not a && not b)) ≡ true
like_by true b h i = cc
like_by false true h i = cc
like_by false false h i = refl

-- what is controlled clashes where the names are the same
pub controlled_clash : (e d : PlainEntry) → is_controlled e.kind ≡ true → is_controlled d.kind ≡ true → e.name ≡ d.name → clashes e d ≡ true
controlled_clash e d h i n =
    and_from (bytes_eq e.name d.name) (like e.kind d.kind) (bytes_itself e.name d.name n) (like_by (is_input e.kind) (is_input d.kind) h i)
