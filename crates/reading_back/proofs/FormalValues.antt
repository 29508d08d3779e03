-- In a source without faults the values of the formals of each component are of their types.
use Rattle.std.proofs.Common.{◌≡◌, ◌≤◌, ◌<◌, ◌+◌, ◌^◌, ℕ, zero, suc, ℤ, pos, neg_ℤ, int_le, int_lt, nat_le, nat_lt, nat_eq, inl, inr, Bool, true, false, not, ◌&&◌, if◌then◌else◌, Option, None, Some, List, [], ◌∷◌, ◌++◌, length, length-append, map, slice_get, refl, sym, ◌∙◌, ap, subst, arith}
use Rattle.std.specs.Prelude.{FitsSigned, IsSome, bytes_eq}
use Rattle.std.specs.Int.{w64}
use Rattle.std.specs.List.{All, list_any}
use Rattle.std.proofs.lemmas.Bool.{and_parts, and_from}
use Rattle.std.proofs.lemmas.Bool.Decides.{nat_tests}
use Rattle.std.proofs.lemmas.Int.{ints}
use Rattle.std.proofs.lemmas.List.Elements.{All-head, All-tail}
use Rattle.terms.specs.TermTree.{TermTree}
use Rattle.terms.specs.Meaning.{slot}
use Rattle.terms.specs.Shapes.{nearest, number_of}
use Rattle.terms.specs.ShapeTree as shape
use Rattle.terms.specs.declared.scalar.Listed.TheVariants as listed
use Rattle.terms.specs.declared.scalar.Scalar.{Scalar}
use Rattle.terms.specs.declared.scalar.Scalar.TheVariants as scalar
use Rattle.plans.specs.declared.plan.Plan.{Plan}
use Rattle.io_automata.specs.Each.{Each, each_get}
use Rattle.ioa_trees.specs.Trees as tree
use Rattle.ioa_trees.specs.Trees.{Bytes, PlainAutomaton, PlainComponent, PlainDeclared, PlainSource, PlainTerm, PlainTypeBody, PlainTypeDefinition}
use Rattle.ioa_trees.specs.Faults.{where_wrong}
use Rattle.ioa_trees.specs.Kinds.{Kind, Truth, Whole, Range, Enum, SeqOf, ArrayOf, fits, shape_of}
use Rattle.ioa_trees.specs.Meant.{AllSome, IsWholeComponent, IsWholeSource}
use Rattle.ioa_trees.specs.Scopes.{Scope, Meaning, OfType, OfMember, OfAutomaton, OfFormal, automaton_meant, named, declare, taken_before}
use Rattle.ioa_trees.specs.Sizes.{component_size}
use Rattle.ioa_trees.specs.TermRules.{Judged, judge, placed, value_meant}
use Rattle.ioa_trees.specs.ValueRules.{value_in}
use Rattle.ioa_trees.specs.TypeRules.{kind_of}
use Rattle.ioa_trees.specs.AutomatonRules.{MeantAutomaton, formal_kinds}
use Rattle.ioa_trees.specs.SourceRules.{MeantComponent, all_locals, all_members, arguments_faults, arguments_of, automata_faults, compared_with, component_faults, component_of, components_faults, components_of, composed_at, definitions_faults, definitions_size, formals_at, hidden_at, hidden_faults, meanings_of, members_in, misfit_arguments, placed_argument, placed_arguments, source_faults, source_meaning, table_of, types_scope, whole_scope, with_automata, with_automaton, with_definition, with_definitions, with_members}
use Rattle.ioa_trees.proofs.ScopesMeant.{Grown, grown}
use Rattle.compose.specs.Instances.{argument}
use Rattle.compose.specs.Names.{automaton_at, formal_type}
use Rattle.compose.specs.Sound.{is_within}
use Rattle.compose.proofs.NoFaults.{nil_left, nil_right, right_if}
use Rattle.compose.proofs.Within.{Within, definitions_within, kind_within, may_stand, within_with}
use Rattle.trace.specs.Written.{IsMember}
use Rattle.reading_back.proofs.Sayable.{FitFormals, HaveNumbers, IsTyped}
use Rattle.reading_back.proofs.ClosedTerms.{Closed, Good, Holds, IsOne, IsTruth, IsWhole, ended, good}
use Rattle.reading_back.proofs.SlotArgs.{range_kind}

-- ---- values in their places

nearest_fits : (low high z : ℤ) → FitsSigned w64 low → FitsSigned w64 high → FitsSigned w64 z → FitsSigned w64 (nearest low high z)
nearest_fits low high z l h f = by (int_lt z low) (int_lt high z)
  where
    by : (b c : Bool) → FitsSigned w64 (if b then low else if c then high else z)
    by true c = l
    by false true = h
    by false false = f

ends_fit : (low high : ℤ) → (int_le low high && (int_le (neg_ℤ (pos (2 ^ 63))) low && int_lt high (pos (2 ^ 63)))) ≡ true → FitsSigned w64 low × FitsSigned w64 high
ends_fit low high h =
    let p = and_parts (int_le low high) (int_le (neg_ℤ (pos (2 ^ 63))) low && int_lt high (pos (2 ^ 63))) h in
    let q = and_parts (int_le (neg_ℤ (pos (2 ^ 63))) low) (int_lt high (pos (2 ^ 63))) p.1 in
    go p.0 q.0 q.1
  where
    go : int_le low high ≡ true → int_le (neg_ℤ (pos (2 ^ 63))) low ≡ true → int_lt high (pos (2 ^ 63)) ≡ true → FitsSigned w64 low × FitsSigned w64 high
    go o least most = (grind (arith, ints), grind (arith, ints))

is_equal : (m n : ℕ) → nat_eq m n ≡ true → m ≡ n
is_equal m n h = grind (arith, nat_tests)

module _ (plan : Plan) (members : ℕ) (numbered : (n : ℕ) → n < members → IsMember plan n) where
  truth_typed : (v : Scalar) → IsTruth v → IsTyped plan (shape.Listed listed.Bool) v
  truth_typed (scalar.Int z) h = absurd h
  truth_typed (scalar.Bool b) h = record { written = tt; kind = refl }
  truth_typed (scalar.Member k) h = absurd h

  whole_typed : (v : Scalar) → IsWhole v → IsTyped plan shape.Int v
  whole_typed (scalar.Int z) h = record { written = h; kind = refl }
  whole_typed (scalar.Bool b) h = absurd h
  whole_typed (scalar.Member k) h = absurd h

  one_typed : (first n : ℕ) (v : Scalar) → IsOne members first n v → IsTyped plan (shape.Listed (listed.Enumeration first n)) v
  one_typed first n (scalar.Int z) h = absurd h
  one_typed first n (scalar.Bool b) h = absurd h
  one_typed first n (scalar.Member k) h = record { written = numbered k h.1; kind = h.0 }

  number_fits : (v : Scalar) → IsWhole v → FitsSigned w64 (number_of v)
  number_fits (scalar.Int z) h = h
  number_fits (scalar.Bool b) h = absurd h
  number_fits (scalar.Member k) h = absurd h

  range_typed : (low high : ℤ) (c : TermTree) → is_within members (Range low high) ≡ true → IsWhole (ended c) → IsTyped plan (shape_of (Range low high)) (ended (placed (Range low high) c))
  range_typed low high c w h =
      let ends = ends_fit low high w in
      record {
        written = nearest_fits low high (number_of (ended c)) ends.0 ends.1 (number_fits (ended c) h);
        kind = range_kind low high (nearest low high (number_of (ended c)));
      }

  enum_typed : (e n f m : ℕ) (v : Scalar) → (nat_eq e f && nat_eq n m) ≡ true → IsOne members f m v → IsTyped plan (shape.Listed (listed.Enumeration e n)) v
  enum_typed e n f m v s h =
      let p = and_parts (nat_eq e f) (nat_eq n m) s in
      one_typed e n v (subst (λ (x : ℕ). IsOne members x n v) (sym (is_equal e f p.0)) (subst (λ (y : ℕ). IsOne members f y v) (sym (is_equal n m p.1)) h))

  placed_typed : (k l : Kind) (c : TermTree) → is_within members k ≡ true → fits k l ≡ true → Holds members l (ended c) → IsTyped plan (shape_of k) (ended (placed k c))
  placed_typed Truth Truth c w f h = truth_typed (ended c) h
  placed_typed Truth l c w f h = cc
  placed_typed Whole Whole c w f h = whole_typed (ended c) h
  placed_typed Whole (Range a b) c w f h = absurd h
  placed_typed Whole l c w f h = cc
  placed_typed (Range low high) Whole c w f h = range_typed low high c w h
  placed_typed (Range low high) (Range a b) c w f h = absurd h
  placed_typed (Range low high) l c w f h = cc
  placed_typed (Enum e n) (Enum x m) c w f h = enum_typed e n x m (ended c) f h
  placed_typed (Enum e n) l c w f h = cc
  placed_typed (SeqOf k n) (SeqOf l m) c w f h = absurd h
  placed_typed (SeqOf k n) l c w f h = cc
  placed_typed (ArrayOf r k) (ArrayOf q l) c w f h = absurd h
  placed_typed (ArrayOf r k) l c w f h = cc

  zero_typed : IsTyped plan shape.Int (scalar.Int (pos 0))
  zero_typed = record { written = omega (arith, ints); kind = refl }

  module _ (s : Scope) (closed : Closed members s) where
    by_fit : (k : Kind) → is_within members k ≡ true → (j : Judged) → Good members (Some j) → (b : Bool) → fits k j.kind ≡ b → IsSome (if b then Some (placed k j.core) else None) → IsTyped plan (shape_of k) (argument (if b then Some (placed k j.core) else None))
    by_fit k w j g true e i = placed_typed k j.kind j.core w e g
    by_fit k w j g false e i = cc

    by_judged : (k : Kind) → is_within members k ≡ true → (o : Option Judged) → Good members o → IsSome (value_in k o) → IsTyped plan (shape_of k) (argument (value_in k o))
    by_judged k w None g i = cc
    by_judged k w (Some j) g i = by_fit k w j g (fits k j.kind) refl i

    argument_typed : (k : Option Kind) (t : PlainTerm) → may_stand members k ≡ true → IsSome (placed_argument s k t) → IsTyped plan (formal_type (Some k)) (argument (placed_argument s k t))
    argument_typed None t w i = zero_typed
    argument_typed (Some k) t w i = by_judged k w (judge s t) (good members s closed t) i

    arguments_typed : (ks : List (Option Kind)) (ts : List PlainTerm) → length ks ≡ length ts → Each (λ k. may_stand members k ≡ true) ks → AllSome (placed_arguments s ks ts) → (n : ℕ) → IsTyped plan (formal_type (slice_get ks n)) (slot (map argument (placed_arguments s ks ts)) n)
    arguments_typed [] ts long w all n = zero_typed
    arguments_typed (k ∷ ks) [] long w all n = absurd (omega (arith, long))
    arguments_typed (k ∷ ks) (t ∷ ts) long w all zero = argument_typed k t w.0 (All-head (λ (o : Option TermTree). IsSome o) (placed_argument s k t) (placed_arguments s ks ts) all)
    arguments_typed (k ∷ ks) (t ∷ ts) long w all (suc n) =
        arguments_typed ks ts (omega (arith, long)) w.1 (All-tail (λ (o : Option TermTree). IsSome o) (placed_argument s k t) (placed_arguments s ks ts) all) n

-- ---- scopes that name no variable

closed_by : (members : ℕ) (x y : Option Meaning) (m : Meaning) → Grown x y m → Good members (value_meant (Some m)) → Good members (value_meant x) → Good members (value_meant y)
closed_by members x y m (inl e) f g = subst (λ z. Good members (value_meant z)) (sym e) g
closed_by members x y m (inr e) f g = subst (λ z. Good members (value_meant z)) (sym e.1) f

closed_with : (members : ℕ) (q : Bytes) (m : Meaning) (s : Scope) → Good members (value_meant (Some m)) → Closed members s → Closed members (declare q m s)
closed_with members q m s f w p = closed_by members (named p s) (named p (declare q m s)) m (grown p q m s) f (w p)

members_closed : (members : ℕ) (s : Scope) → Closed members s → (first count at : ℕ) (qs : List Bytes) → first ≤ at → at + length qs ≤ first + count → first + count ≤ members → Closed members (with_members s first count at qs)
members_closed members s w first count at [] low high most = w
members_closed members s w first count at (q ∷ qs) low high most =
    let in_range : (nat_le first at && nat_lt at (first + count)) ≡ true = and_from (nat_le first at) (nat_lt at (first + count)) (grind (arith, nat_tests)) (let less : at < first + count = omega (arith, high) in grind (arith, nat_tests)) in
    let less : at < members = omega (arith, high, most) in
    members_closed members (declare q (OfMember at first count) s) (closed_with members q (OfMember at first count) s (in_range, less) w) first count (at + 1) qs (omega (arith, low)) (omega (arith, high)) most

abbrev definition : Bytes → PlainTypeBody → PlainTypeDefinition
definition q b = record { name = q; body = b }

definition_closed : (members : ℕ) (s : Scope) → Closed members s → (n : ℕ) (q : Bytes) (b : PlainTypeBody) → n + length (members_in b) ≤ members → Closed members (with_definition s n (definition q b))
definition_closed members s w n q (tree.Same t) h = closed_with members q (OfType (kind_of s t)) s tt w
definition_closed members s w n q (tree.Enumeration qs) h =
    let m = OfType (Some (Enum n (length qs))) in
    members_closed members (declare q m s) (closed_with members q m s tt w) n (length qs) n qs (omega arith) (omega arith) h

definitions_closed : (members : ℕ) (s : Scope) → Closed members s → (n : ℕ) (ds : List PlainTypeDefinition) → n + length (all_members ds) ≤ members → Closed members (with_definitions s n ds)
definitions_closed members s w n [] h = w
definitions_closed members s w n (d ∷ ds) h =
    let long = length-append (members_in d.body) (all_members ds) in
    definitions_closed members (with_definition s n d) (definition_closed members s w n d.name d.body (omega (arith, h, long))) (n + length (members_in d.body)) ds (omega (arith, h, long))

automata_closed : (members : ℕ) (s : Scope) → Closed members s → (n : ℕ) (xs : List PlainAutomaton) → Closed members (with_automata s n xs)
automata_closed members s w n [] = w
automata_closed members s w n (a ∷ rest) = automata_closed members (with_automaton s n a) (closed_with members a.name (OfAutomaton n) s tt w) (n + 1) rest

-- ---- the kinds of formals

abbrev AreWithin : ℕ → List (Option Kind) → Type 0
AreWithin members ks = Each (λ k. may_stand members k ≡ true) ks

formals_stand : (members : ℕ) (s : Scope) → Within members s → (n : ℕ) (ds : List PlainDeclared) → AreWithin members (formal_kinds s n ds)
formals_stand members s w n [] = tt
formals_stand members s w n (d ∷ ds) =
    (kind_within members s w d.of, formals_stand members (declare d.name (OfFormal n (kind_of s d.of)) s) (within_with members d.name (OfFormal n (kind_of s d.of)) s refl w) (n + 1) ds)

automata_stand : (members : ℕ) (s : Scope) → Within members s → (n : ℕ) (xs : List PlainAutomaton) → Each (λ (a : MeantAutomaton). AreWithin members a.formals) (meanings_of s n xs)
automata_stand members s w n [] = tt
automata_stand members s w n (a ∷ rest) =
    let v = within_with members a.name (OfAutomaton n) s refl w in
    (formals_stand members (with_automaton s n a) v 0 a.formals, automata_stand members (with_automaton s n a) v (n + 1) rest)

-- ---- components

record IsMeantBy (s : Scope) (table : List MeantAutomaton) (c : MeantComponent) : Type 0 where
  written : PlainComponent
  is : component_of s table written ≡ c
  at : ℕ
  faultless : compared_with s (formals_at table (automaton_meant (named written.automaton s))) at written ≡ []

meant_by_one : (s : Scope) (table : List MeantAutomaton) (before : List Bytes) (at : ℕ) (cs : List PlainComponent) → components_faults s table before at cs ≡ [] → (i : ℕ) (c : MeantComponent) → slice_get (components_of s table cs) i ≡ Some c → IsMeantBy s table c
meant_by_one s table before at [] h i c found = cc
meant_by_one s table before at (p ∷ cs) h zero c found =
    let one = nil_left (component_faults s table before at p) (components_faults s table (p.name ∷ before) (at + component_size p + 1) cs) h in
    let same : component_of s table p ≡ c = cc in
    let last = compared_with s (formals_at table (automaton_meant (named p.automaton s))) at p in
    let rest = nil_right (where_wrong (list_any (bytes_eq p.name) before) at 11) (arguments_faults s (at + 4) p.arguments ++ last) one in
    record { written = p; is = same; at = at; faultless = nil_right (arguments_faults s (at + 4) p.arguments) last rest }
meant_by_one s table before at (p ∷ cs) h (suc i) c found =
    meant_by_one s table (p.name ∷ before) (at + component_size p + 1) cs (nil_right (component_faults s table before at p) (components_faults s table (p.name ∷ before) (at + component_size p + 1) cs) h) i c found

formals_found : (table : List MeantAutomaton) (o : Option ℕ) (a : MeantAutomaton) → automaton_at table o ≡ Some a → formals_at table o ≡ Some a.formals
formals_found table None a e = cc
formals_found table (Some n) a e = rw e refl

stand_at : (members : ℕ) (table : List MeantAutomaton) → Each (λ (a : MeantAutomaton). AreWithin members a.formals) table → (o : Option ℕ) (a : MeantAutomaton) → automaton_at table o ≡ Some a → AreWithin members a.formals
stand_at members table all None a e = cc
stand_at members table all (Some n) a e = each_get (λ (x : MeantAutomaton). AreWithin members x.formals) table n a all e

counted : (s : Scope) (ks : List (Option Kind)) (at : ℕ) (c : PlainComponent) → compared_with s (Some ks) at c ≡ [] → length ks ≡ length c.arguments
counted s ks at c h = is_equal (length ks) (length c.arguments) (right_if (nat_eq (length ks) (length c.arguments)) (at + 2) 12 (nil_left (where_wrong (not (nat_eq (length ks) (length c.arguments))) (at + 2) 12) (misfit_arguments s ks (at + 4) c.arguments) h))

all_at : {X : Type 0} (P : X → Type 0) (xs : List X) → All P xs → (n : ℕ) (x : X) → slice_get xs n ≡ Some x → P x
all_at P [] h n x e = cc
all_at P (y ∷ xs) h zero x e = let same : y ≡ x = cc in subst P same (All-head P y xs h)
all_at P (y ∷ xs) h (suc n) x e = all_at P xs (All-tail P y xs h) n x e

-- ---- the whole

pub fit_formals : (plan : Plan) (x : PlainSource) → source_faults x ≡ [] → IsWholeSource (source_meaning x) → HaveNumbers plan (source_meaning x) → FitFormals plan (source_meaning x)
fit_formals plan x h whole numbered i n c a component automaton =
    by (meant_by_one s table [] (composed_at x + 3) x.composed.components faultless i c component)
  where
    members : ℕ
    members = length (all_members x.types)

    s : Scope
    s = whole_scope x

    table : List MeantAutomaton
    table = table_of x

    faultless : components_faults (whole_scope x) (table_of x) [] (composed_at x + 3) x.composed.components ≡ []
    faultless =
        let a = definitions_faults [] 0 0 x.types in
        let b = automata_faults (types_scope x) [] 0 (definitions_size x.types) x.automata in
        let c = taken_before (whole_scope x) (all_locals x.automata) (composed_at x + 1) x.composed.name in
        let d = components_faults (whole_scope x) (table_of x) [] (composed_at x + 3) x.composed.components in
        let e = hidden_faults [] (hidden_at (composed_at x) x.composed) x.composed.hidden in
        nil_left d e (nil_right c (d ++ e) (nil_right b (c ++ (d ++ e)) (nil_right a (b ++ (c ++ (d ++ e))) h)))

    closed : Closed (length (all_members x.types)) (whole_scope x)
    closed = automata_closed (length (all_members x.types)) (types_scope x) (definitions_closed (length (all_members x.types)) [] (λ q. tt) 0 x.types (omega arith)) 0 x.automata

    stand : AreWithin (length (all_members x.types)) a.formals
    stand = stand_at (length (all_members x.types)) (table_of x) (automata_stand (length (all_members x.types)) (types_scope x) (definitions_within (length (all_members x.types)) [] (λ q. refl) 0 x.types (omega arith)) 0 x.automata) c.automaton a automaton

    by : IsMeantBy (whole_scope x) (table_of x) c → IsTyped plan (formal_type (slice_get a.formals n)) (slot (map argument c.arguments) n)
    by r =
        let o = automaton_meant (named r.written.automaton (whole_scope x)) in
        let at : automaton_at (table_of x) o ≡ Some a = ap (λ (z : MeantComponent). automaton_at (table_of x) z.automaton) r.is ∙ automaton in
        let formals : formals_at (table_of x) o ≡ Some a.formals = formals_found (table_of x) o a at in
        let are : c.arguments ≡ placed_arguments (whole_scope x) a.formals r.written.arguments = ap (λ (z : MeantComponent). z.arguments) (sym r.is) ∙ ap (λ ks. arguments_of (whole_scope x) ks r.written.arguments) formals in
        let long = counted (whole_scope x) a.formals r.at r.written (subst (λ ks. compared_with (whole_scope x) ks r.at r.written ≡ []) formals r.faultless) in
        let all = subst AllSome are (all_at IsWholeComponent (source_meaning x).components whole.components i c component) in
        subst (λ (xs : List (Option TermTree)). IsTyped plan (formal_type (slice_get a.formals n)) (slot (map argument xs) n)) (sym are)
        (arguments_typed plan (length (all_members x.types)) numbered (whole_scope x) closed a.formals r.written.arguments long stand all n)
