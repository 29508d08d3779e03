-- Every transition has the entry with its head, and every entry has its transition.
use Rattle.std.proofs.Common.{◌≡◌, ℕ, ◌+◌, zero, suc, Bool, true, false, not, Option, Some, None, List, [], ◌∷◌, ◌++◌, slice_get, refl, sym, ◌∙◌, subst, bytes_eq, if◌then◌else◌}
use Rattle.std.specs.List.{list_any}
use Rattle.std.proofs.lemmas.Bool.{and_parts, and_from}
use Rattle.std.proofs.lemmas.Option.{same_Some}
use Rattle.std.proofs.lemmas.Slice.Eq.{bytes_eq-Decides}
use Rattle.ioa_trees.specs.declared.tree.EntryKind.{EntryKind}
use Rattle.ioa_trees.specs.declared.tree.EntryKind.TheVariants as kind
use Rattle.ioa_trees.specs.Trees.{Bytes, PlainEntry, PlainTransition}
use Rattle.ioa_trees.specs.Faults.{at_fault, where_wrong}
use Rattle.ioa_trees.specs.Scopes.{Scope}
use Rattle.ioa_trees.specs.Sizes.{entry_size, pre_size, transition_size}
use Rattle.ioa_trees.specs.EffectRules.{statements_faults}
use Rattle.ioa_trees.specs.EntryRules.{same_kind, agrees, same_parameters, entry_for, with_parameters, head_faults, pre_faults, transition_faults, transitions_faults}
use Rattle.compose.proofs.NoFaults.{nil_left, nil_right, right_if, not_wrong}
use Rattle.ioa_trees.proofs.SameHeads.{parameters_same}
use Rattle.compose.proofs.Apart.{apart}

kinds_same : (k l : EntryKind) → same_kind k l ≡ true → k ≡ l
kinds_same kind.Input kind.Input h = refl
kinds_same kind.Input kind.Output h = cc
kinds_same kind.Input kind.Internal h = cc
kinds_same kind.Output kind.Input h = cc
kinds_same kind.Output kind.Output h = refl
kinds_same kind.Output kind.Internal h = cc
kinds_same kind.Internal kind.Input h = cc
kinds_same kind.Internal kind.Output h = cc
kinds_same kind.Internal kind.Internal h = refl

pub kind_itself : (k : EntryKind) → same_kind k k ≡ true
kind_itself kind.Input = refl
kind_itself kind.Output = refl
kind_itself kind.Internal = refl

pub bytes_same : (q r : Bytes) → bytes_eq q r ≡ true → q ≡ r
bytes_same q r h = (bytes_eq-Decides q r).0 h

pub bytes_itself : (q r : Bytes) → q ≡ r → bytes_eq q r ≡ true
bytes_itself q r e = (bytes_eq-Decides q r).1 e

-- the same kind and the same name
pub heads_same : (t e : PlainEntry) → agrees t e ≡ true → (t.kind ≡ e.kind) × (t.name ≡ e.name)
heads_same t e h =
    let both = and_parts (same_kind t.kind e.kind) (bytes_eq t.name e.name) h in
    (kinds_same t.kind e.kind both.0, bytes_same t.name e.name both.1)

pub heads_agree : (t e : PlainEntry) → t.kind ≡ e.kind → t.name ≡ e.name → agrees t e ≡ true
heads_agree t e k n =
    and_from (same_kind t.kind e.kind) (bytes_eq t.name e.name) (subst (λ l. same_kind t.kind l ≡ true) k (kind_itself t.kind)) (bytes_itself t.name e.name n)

-- ---- the entry of a transition

-- the entry with this head
pub record HasEntry (es : List PlainEntry) (t : PlainEntry) : Type 0 where
  pub entry : PlainEntry
  pub place : ℕ
  pub found : slice_get es place ≡ Some entry
  pub kind : t.kind ≡ entry.kind
  pub name : t.name ≡ entry.name
  pub parameters : t.parameters ≡ entry.parameters

abbrev Stands : PlainEntry → List PlainEntry → PlainEntry → Type 0
Stands t es e = (n : ℕ) × (slice_get es n ≡ Some e) × (agrees t e ≡ true)

stands_by : (b : Bool) (t x : PlainEntry) (es : List PlainEntry) (e : PlainEntry) → agrees t x ≡ b → (entry_for t es ≡ Some e → Stands t es e) → (if b then Some x else entry_for t es) ≡ Some e → Stands t (x ∷ es) e
stands_by true t x es e a f h = (zero, h, subst (λ y. agrees t y ≡ true) (same_Some x e h) a)
stands_by false t x es e a f h = let r = f h in (suc r.0, r.1, r.2)

stands : (t : PlainEntry) (es : List PlainEntry) (e : PlainEntry) → entry_for t es ≡ Some e → Stands t es e
stands t [] e h = absurd (cc)
stands t (x ∷ es) e h = stands_by (agrees t x) t x es e refl (stands t es e) h

entry_by : (es : List PlainEntry) (at : ℕ) (t : PlainEntry) (o : Option PlainEntry) → entry_for t es ≡ o → head_faults es at t ≡ [] → HasEntry es t
entry_by es at t None e h =
    let wrong : head_faults es at t ≡ at_fault at 10 = rw e refl in
    absurd (cc)
entry_by es at t (Some x) e h =
    let test : head_faults es at t ≡ where_wrong (not (same_parameters t.parameters x.parameters)) at 12 = rw e refl in
    let there = stands t es x e in
    let head = heads_same t x there.2 in
    record {
      entry = x;
      place = there.0;
      found = there.1;
      kind = head.0;
      name = head.1;
      parameters = parameters_same t.parameters x.parameters (right_if (same_parameters t.parameters x.parameters) at 12 (sym test ∙ h));
    }

-- ---- transitions without faults

-- of two transitions the heads agree
abbrev pub same_head : PlainTransition → PlainTransition → Bool
same_head t u = agrees t.entry u.entry

transition_if : (s : Scope) (es : List PlainEntry) (before : List PlainTransition) (at : ℕ) (t : PlainTransition) → transition_faults s es before at t ≡ [] → HasEntry es t.entry × (list_any (same_head t) before ≡ false)
transition_if s es before at t h =
    let a = head_faults es (at + 1) t.entry in let b = where_wrong (list_any (same_head t) before) at 14 in
    let c = pre_faults s t.entry.kind (at + entry_size t.entry) t.pre ++ statements_faults s 0 (at + entry_size t.entry + pre_size t.pre + 1) t.eff in (
      entry_by es (at + 1) t.entry (entry_for t.entry es) refl (nil_left a (b ++ c) h),
      not_wrong (list_any (same_head t) before) at 14 (nil_left b c (nil_right a (b ++ c) h)),
    )

abbrev Later : Scope → List PlainEntry → List PlainTransition → ℕ → PlainTransition → List PlainTransition → Type 0
Later s es before at t ts = (transition_faults (with_parameters s 0 t.entry.parameters) es before at t ≡ []) × (transitions_faults s es (t ∷ before) (at + transition_size t) ts ≡ [])

later : (s : Scope) (es : List PlainEntry) (before : List PlainTransition) (at : ℕ) (t : PlainTransition) (ts : List PlainTransition) → transitions_faults s es before at (t ∷ ts) ≡ [] → Later s es before at t ts
later s es before at t ts h =
    let a = transition_faults (with_parameters s 0 t.entry.parameters) es before at t in let b = transitions_faults s es (t ∷ before) (at + transition_size t) ts in
    (nil_left a b h, nil_right a b h)

-- every transition has its entry
pub has_entry : (s : Scope) (es : List PlainEntry) (before : List PlainTransition) (at : ℕ) (ts : List PlainTransition) → transitions_faults s es before at ts ≡ [] → (n : ℕ) (t : PlainTransition) → slice_get ts n ≡ Some t → HasEntry es t.entry
has_entry s es before at [] h n t e = absurd (cc)
has_entry s es before at (u ∷ ts) h zero t e =
    subst (λ x. HasEntry es x.entry) (same_Some u t e) (transition_if (with_parameters s 0 u.entry.parameters) es before at u (later s es before at u ts h).0).0
has_entry s es before at (u ∷ ts) h (suc n) t e = has_entry s es (u ∷ before) (at + transition_size u) ts (later s es before at u ts h).1 n t e

-- no two transitions have one head
pub transitions_apart : (s : Scope) (es : List PlainEntry) (before : List PlainTransition) (at : ℕ) (ts : List PlainTransition) → transitions_faults s es before at ts ≡ [] → apart same_head before ts ≡ true
transitions_apart s es before at [] h = refl
transitions_apart s es before at (t ∷ ts) h =
    let r = later s es before at t ts h in
    and_from (not (list_any (same_head t) before)) (apart same_head (t ∷ before) ts)
    (rw (transition_if (with_parameters s 0 t.entry.parameters) es before at t r.0).1 refl)
    (transitions_apart s es (t ∷ before) (at + transition_size t) ts r.1)
