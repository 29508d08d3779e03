-- Parameters without faults have slots; a transition without faults has a precondition and an effect.
use Rattle.std.proofs.Common.{◌≡◌, ℕ, ◌+◌, Bool, true, false, not, ◌&&◌, Option, Some, None, IsSome, List, [], ◌∷◌, ◌++◌, refl, sym, ◌∙◌, subst, if◌then◌else◌}
use Rattle.std.specs.List.{list_any, All}
use Rattle.std.proofs.lemmas.List.Elements.{All-nil, All-cons, All-head, All-tail}
use Rattle.ioa_trees.specs.declared.tree.EntryKind.{EntryKind}
use Rattle.ioa_trees.specs.Trees as tree
use Rattle.ioa_trees.specs.Trees.{Bytes, PlainTerm, PlainParameter, PlainEntry, PlainTransition}
use Rattle.ioa_trees.specs.Faults.{at_fault, where_wrong}
use Rattle.ioa_trees.specs.Kinds.{Kind, is_truth}
use Rattle.ioa_trees.specs.Scopes.{Scope, Meaning, OfType, OfMember, OfAutomaton, OfComposed, OfFormal, OfVariable, OfParameter, OfLoop, named, doubled, is_formal}
use Rattle.ioa_trees.specs.Sizes.{declared_size, entry_size, pre_size, transition_size}
use Rattle.ioa_trees.specs.TermRules.{judge, faults, wants}
use Rattle.ioa_trees.specs.TypeRules.{kind_of, type_faults}
use Rattle.ioa_trees.specs.EffectRules.{effects_of, statements_faults}
use Rattle.ioa_trees.specs.EntryRules.{is_input, is_controlled, agrees, same_parameters, entry_for, with_parameter, with_parameters, sort_faults, parameters_faults, is_large, clashes, has_task, entry_faults, entries_faults, head_faults, pre_faults, transition_faults, transitions_faults, Slot, formal_of, free_of, slots, pre_of, meant_by}
use Rattle.ioa_trees.specs.Meant.{AllMeant, AllSome, IsWholeEntry}
use Rattle.ioa_trees.proofs.NoFaults.{nil_left, nil_right, right_if}
use Rattle.ioa_trees.proofs.TypesMeant.{kind_if}
use Rattle.ioa_trees.proofs.TermsMeant.{judged_if, truth_ok}
use Rattle.ioa_trees.proofs.ScopesMeant.{Alike, alike_self, alike_parameter, kind_alike, with_parameter_meant}
use Rattle.ioa_trees.proofs.EffectsMeant.{effects_if}
use Rattle.ioa_trees.proofs.SameHeads.{parameters_same}

-- ---- parameters

formal_ok : (m : Option Meaning) → is_formal m ≡ true → IsSome (formal_of m)
formal_ok None h = cc
formal_ok (Some (OfType k)) h = cc
formal_ok (Some (OfMember a b c)) h = cc
formal_ok (Some (OfAutomaton n)) h = cc
formal_ok (Some OfComposed) h = cc
formal_ok (Some (OfFormal n k)) h = refl
formal_ok (Some (OfVariable n k)) h = cc
formal_ok (Some (OfParameter n k)) h = cc
formal_ok (Some (OfLoop n k)) h = cc

free_ok : (k : Option Kind) → IsSome k → IsSome (free_of k)
free_ok None h = h
free_ok (Some k) h = refl

-- the faults are those of one scope; in another with the same types and formals the parameters have slots, and it stays meant with them
parameters_by : (g r : Scope) → AllMeant g → AllMeant r → Alike r g → (c : Bool) (n at : ℕ) (ps : List PlainParameter) → parameters_faults g c n at ps ≡ [] → AllSome (slots r n ps) × AllMeant (with_parameters r n ps)
parameters_by g r mg mr a c n at [] h = (All-nil (λ (o : Option Slot). IsSome o), mr)
parameters_by g r mg mr a c n at (tree.Constant q ∷ ps) h =
    let x = where_wrong (not (is_formal (named q g))) (at + 1) 10 in let y = parameters_faults g c (n + 1) (at + 3) ps in
    let here = formal_ok (named q g) (right_if (is_formal (named q g)) (at + 1) 10 (nil_left x y h)) in
    let rest = parameters_by g r mg mr a c (n + 1) (at + 3) ps (nil_right x y h) in
    (All-cons (λ (o : Option Slot). IsSome o) (formal_of (named q r)) (slots r (n + 1) ps) (subst (λ (o : Option Slot). IsSome o) (sym (a q).1) here) rest.0, rest.1)
parameters_by g r mg mr a c n at (tree.Typed d ∷ ps) h =
    let k = kind_of g d.of in let l = kind_of r d.of in
    let more = with_parameter g n d in let next = with_parameter r n d in
    let p = at + declared_size d + 1 in
    let w = doubled g at d.name in let x = type_faults g (at + 2) d.of in let y = sort_faults c (at + 2) k in let z = parameters_faults more c (n + 1) p ps in
    let u = nil_right w (x ++ (y ++ z)) h in
    let v = nil_right x (y ++ z) u in
    let i = kind_if g mg (at + 2) d.of (nil_left x (y ++ z) u) in
    let j = subst (λ (o : Option Kind). IsSome o) (sym (kind_alike r g a d.of)) i in
    let rest = parameters_by more next (with_parameter_meant d.name n k g mg i) (with_parameter_meant d.name n l r mr j) (alike_parameter d.name n l k r g a) c (n + 1) p ps (nil_right y z v) in
    (All-cons (λ (o : Option Slot). IsSome o) (free_of l) (slots next (n + 1) ps) (free_ok l j) rest.0, rest.1)

-- parameters without faults have slots
pub slots_if : (s : Scope) → AllMeant s → (c : Bool) (n at : ℕ) (ps : List PlainParameter) → parameters_faults s c n at ps ≡ [] → AllSome (slots s n ps)
slots_if s m c n at ps h = (parameters_by s s m m (alike_self s) c n at ps h).0

-- a scope stays meant with parameters without faults
pub meant_with_parameters : (s : Scope) → AllMeant s → (c : Bool) (n at : ℕ) (ps : List PlainParameter) → parameters_faults s c n at ps ≡ [] → AllMeant (with_parameters s n ps)
meant_with_parameters s m c n at ps h = (parameters_by s s m m (alike_self s) c n at ps h).1

-- ---- entries

-- in a scope these parameters have slots, and it stays meant with them
pub record IsSlotted (s : Scope) (ps : List PlainParameter) : Type 0 where
  pub slotted : AllSome (slots s 0 ps)
  pub scoped : AllMeant (with_parameters s 0 ps)

abbrev pub HasSlots : Scope → PlainEntry → Type 0
HasSlots s e = IsSlotted s e.parameters

entry_if : (g r : Scope) → AllMeant g → AllMeant r → Alike r g → (before : List PlainEntry) (ts : List PlainTransition) (tasks : List (List Bytes)) (at : ℕ) (e : PlainEntry) → entry_faults g before ts tasks at e ≡ [] → HasSlots r e
entry_if g r mg mr a before ts tasks at e h =
    let w = where_wrong (list_any (clashes e) before) (at + 1) 11 in
    let x = parameters_faults g (is_controlled e.kind) 0 (at + 3) e.parameters in
    let y = where_wrong (is_large g e) at 17
    ++ (where_wrong (not (list_any (λ t. agrees e t.entry) ts)) at 13
    ++ where_wrong (is_controlled e.kind && not (has_task tasks e.name)) at 16) in
    let both = parameters_by g r mg mr a (is_controlled e.kind) 0 (at + 3) e.parameters (nil_left x y (nil_right w (x ++ y) h)) in
    record { slotted = both.0; scoped = both.1 }

-- the parameters of entries without faults have slots in a scope with the same types and formals
pub entries_if : (g r : Scope) → AllMeant g → AllMeant r → Alike r g → (before : List PlainEntry) (ts : List PlainTransition) (tasks : List (List Bytes)) (at : ℕ) (es : List PlainEntry) → entries_faults g before ts tasks at es ≡ [] → All (HasSlots r) es
entries_if g r mg mr a before ts tasks at [] h = All-nil (HasSlots r)
entries_if g r mg mr a before ts tasks at (e ∷ es) h =
    let x = entry_faults g before ts tasks at e in let y = entries_faults g (e ∷ before) ts tasks (at + entry_size e) es in
    All-cons (HasSlots r) e es (entry_if g r mg mr a before ts tasks at e (nil_left x y h)) (entries_if g r mg mr a (e ∷ before) ts tasks (at + entry_size e) es (nil_right x y h))

-- ---- transitions

pre_if : (s : Scope) → AllMeant s → (k : EntryKind) (at : ℕ) (p : Option PlainTerm) → pre_faults s k at p ≡ [] → IsSome (pre_of s p)
pre_if s m k at None h = refl
pre_if s m k at (Some t) h =
    let a = where_wrong (is_input k) at 15 in let b = faults s (at + 1) t in let c = wants is_truth (at + 1) (judge s t) in
    let r = nil_right a (b ++ c) h in
    truth_ok (at + 1) (judge s t) (judged_if s m (at + 1) t (nil_left b c r)) (nil_right b c r)

-- a transition without faults has a precondition and an effect
pub transition_if : (s : Scope) → AllMeant s → (entries : List PlainEntry) (before : List PlainTransition) (at : ℕ) (t : PlainTransition) → transition_faults s entries before at t ≡ [] → IsSome (pre_of s t.pre) × IsSome (effects_of s 0 t.eff)
transition_if s m entries before at t h =
    let p = at + entry_size t.entry in let q = at + entry_size t.entry + pre_size t.pre + 1 in
    let a = head_faults entries (at + 1) t.entry in let b = where_wrong (list_any (λ b. agrees t.entry b.entry) before) at 14 in
    let c = pre_faults s t.entry.kind p t.pre in let d = statements_faults s 0 q t.eff in
    let u = nil_right a (b ++ (c ++ d)) h in
    let v = nil_right b (c ++ d) u in
    (pre_if s m t.entry.kind p t.pre (nil_left c d v), effects_if s m 0 q t.eff (nil_right c d v))

pub head_if : (s : Scope) (entries : List PlainEntry) (before : List PlainTransition) (at : ℕ) (t : PlainTransition) → transition_faults s entries before at t ≡ [] → head_faults entries (at + 1) t.entry ≡ []
head_if s entries before at t h =
    let p = at + entry_size t.entry in let q = at + entry_size t.entry + pre_size t.pre + 1 in
    let a = head_faults entries (at + 1) t.entry in let b = where_wrong (list_any (λ b. agrees t.entry b.entry) before) at 14 in
    let c = pre_faults s t.entry.kind p t.pre in let d = statements_faults s 0 q t.eff in
    nil_left a (b ++ (c ++ d)) h

found_by : (P : PlainEntry → Type 0) (b : Bool) (x e : PlainEntry) (o : Option PlainEntry) → P x → (o ≡ Some e → P e) → (if b then Some x else o) ≡ Some e → P e
found_by P true x e o p f h = let same : x ≡ e = cc in subst P same p
found_by P false x e o p f h = f h

entry_found : (P : PlainEntry → Type 0) (t : PlainEntry) (es : List PlainEntry) → All P es → (e : PlainEntry) → entry_for t es ≡ Some e → P e
entry_found P t [] all e h = absurd (cc)
entry_found P t (x ∷ es) all e h = found_by P (agrees t x) x e (entry_for t es) (All-head P x es all) (entry_found P t es (All-tail P x es all) e) h

head_by : (s : Scope) (es : List PlainEntry) (at : ℕ) (t : PlainEntry) → All (HasSlots s) es → (o : Option PlainEntry) → entry_for t es ≡ o → head_faults es at t ≡ [] → HasSlots s t
head_by s es at t all None e h =
    let wrong : head_faults es at t ≡ at_fault at 10 = rw e refl in
    absurd (cc)
head_by s es at t all (Some x) e h =
    let test : head_faults es at t ≡ where_wrong (not (same_parameters t.parameters x.parameters)) at 12 = rw e refl in
    let same = parameters_same t.parameters x.parameters (right_if (same_parameters t.parameters x.parameters) at 12 (sym test ∙ h)) in
    subst (λ ps. IsSlotted s ps) (sym same) (entry_found (HasSlots s) t es all x e)

-- ---- what transitions mean

abbrev pub IsMeant : Scope → PlainTransition → Type 0
IsMeant s t = IsWholeEntry (meant_by s t)

-- a transition has the parameters of its entry
whole_if : (s : Scope) (es : List PlainEntry) → All (HasSlots s) es → (before : List PlainTransition) (at : ℕ) (t : PlainTransition) → transition_faults (with_parameters s 0 t.entry.parameters) es before at t ≡ [] → IsMeant s t
whole_if s es all before at t h =
    let r = with_parameters s 0 t.entry.parameters in
    let here = head_by s es (at + 1) t.entry all (entry_for t.entry es) refl (head_if r es before at t h) in
    let done = transition_if r here.scoped es before at t h in
    record { parameters = here.slotted; pre = done.0; effect = done.1 }

-- transitions without faults have whole meanings
pub transitions_if : (s : Scope) (es : List PlainEntry) → All (HasSlots s) es → (before : List PlainTransition) (at : ℕ) (ts : List PlainTransition) → transitions_faults s es before at ts ≡ [] → All (IsMeant s) ts
transitions_if s es all before at [] h = All-nil (IsMeant s)
transitions_if s es all before at (t ∷ ts) h =
    let p = at + transition_size t in
    let x = transition_faults (with_parameters s 0 t.entry.parameters) es before at t in let y = transitions_faults s es (t ∷ before) p ts in
    All-cons (IsMeant s) t ts (whole_if s es all before at t (nil_left x y h)) (transitions_if s es all (t ∷ before) p ts (nil_right x y h))
