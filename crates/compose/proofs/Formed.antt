-- A composition of a source without faults is well formed.
use Rattle.std.proofs.Common.{arith, ◌≡◌, ◌≤◌, ◌⊎◌, inl, inr, ℕ, zero, suc, ◌+◌, ◌^◌, ℤ, pos, neg_ℤ, unsigned_abs, ◌+ℤ◌, ◌-ℤ◌, int_le, int_lt, nat_le, nat_eq, Bool, true, false, not, ◌&&◌, ◌||◌, bytes_eq, if◌then◌else◌, Option, None, Some, List, [], ◌∷◌, map, slice_get, length, refl, sym, ◌∙◌, ap, subst}
use Rattle.std.proofs.lemmas.Bool.Decides.{nat_tests}
use Rattle.std.proofs.lemmas.Bool.{and_from, le-leb}
use Rattle.std.proofs.lemmas.Int.{ints}
use Rattle.std.specs.List.{All, list_any}
use Rattle.std.specs.Option.{option_map}
use Rattle.std.proofs.lemmas.List.Elements.{All-head, All-tail}
use Rattle.terms.specs.Named.{Named}
use Rattle.terms.specs.declared.scalar.Scalar.{Scalar}
use Rattle.terms.specs.declared.scalar.Listed.{Listed}
use Rattle.terms.specs.declared.scalar.Listed.TheVariants as listed
use Rattle.ioa_trees.specs.Trees.{Bytes}
use Rattle.ioa_trees.specs.declared.tree.EntryKind.{EntryKind}
use Rattle.ioa_trees.specs.declared.tree.EntryKind.TheVariants as kind
use Rattle.ioa_trees.specs.Kinds.{Kind, Truth, Whole, Range, Enum, SeqOf, ArrayOf, count, small, listed_of, can_be_listed, is_scalar}
use Rattle.ioa_trees.specs.EntryRules.{Meant, Slot, Fixed, Free, is_input, is_controlled}
use Rattle.ioa_trees.specs.AutomatonRules.{MeantAutomaton}
use Rattle.ioa_trees.specs.SourceRules.{MeantComponent, MeantSource}
use Rattle.compose.specs.Sound.{IsSoundAutomaton, share, is_within, is_slot, is_listed}
use Rattle.io_automata.specs.declared.automaton.Kind.{Kind as ActionKind}
use Rattle.io_automata.specs.declared.automaton.Kind.TheVariants as action
use Rattle.io_automata.specs.declared.automaton.Param.{Param}
use Rattle.io_automata.specs.declared.automaton.Param.TheVariants as param
use Rattle.io_automata.specs.Automata.{Transition, Instance, component_at, absent}
use Rattle.io_automata.specs.Signatures.{has, fits, has_as, any_as, same_kind}
use Rattle.io_automata.specs.WellFormed as formed
use Rattle.io_automata.specs.WellFormed.{IsWellFormed, is_complete, times, all_places}
use Rattle.compose.specs.Rules.{Breaks, IsTwice}
use Rattle.compose.specs.declared.compatibility.rule.Rule.TheVariants as rule
use Rattle.compose.specs.Instances.{kind_as, is_short, param_in, param_of, place_in, transition, argument, built, instances}
use Rattle.compose.specs.Names.{AreNames, automaton_at}
use Rattle.compose.proofs.Named.{one_place, in_table, instance_or_absent, component_is, mapped_at}

-- ---- one component

-- what is asked of each component
record IsFormed (c : Instance) : Type 0 where
  single : (m n : ℕ) (e f : Transition) (act : Named) → slice_get c.entries m ≡ Some e → slice_get c.entries n ≡ Some f → has c.formals act e ≡ true → has c.formals act f ≡ true → m ≡ n
  tasks : (place : ℕ) → times place (all_places c.tasks) ≡ formed.share (slice_get c.entries place)
  complete : (place k : ℕ) (entry : Transition) (members : Listed) → slice_get c.entries place ≡ Some entry → slice_get entry.params k ≡ Some (param.Member members) → is_complete members ≡ true
  listed : (place k : ℕ) (entry : Transition) (p : Param) → slice_get c.entries place ≡ Some entry → same_kind action.Input entry.kind ≡ false → slice_get entry.params k ≡ Some p → formed.is_listed p ≡ true

nothing_there : (formals : List Scalar) → IsFormed (record absent { formals = formals })
nothing_there formals = record {
  single = λ m n e f act p q h g. cc;
  tasks = λ place. refl;
  complete = λ place k entry members p q. cc;
  listed = λ place k entry p q h g. cc;
}

-- ---- names

both_true : (a b : Bool) → (a && b) ≡ true → (a ≡ true) × (b ≡ true)
both_true true b h = (refl, h)
both_true false b h = cc

number_is : (a b : ℕ) → nat_eq a b ≡ true → a ≡ b
number_is a b h = grind (arith, nat_tests)

-- both inputs, both controlled, or one of each
sorts : (k l : EntryKind) → (((is_input k && is_input l) || (is_controlled k && is_controlled l)) ≡ true) ⊎ (not (same_kind (kind_as k) (kind_as l)) ≡ true)
sorts kind.Input kind.Input = inl refl
sorts kind.Input kind.Output = inr refl
sorts kind.Input kind.Internal = inr refl
sorts kind.Output kind.Input = inr refl
sorts kind.Output kind.Output = inl refl
sorts kind.Output kind.Internal = inl refl
sorts kind.Internal kind.Input = inr refl
sorts kind.Internal kind.Output = inl refl
sorts kind.Internal kind.Internal = inl refl

same_self : (k : ActionKind) → same_kind k k ≡ true
same_self action.Input = refl
same_self action.Output = refl
same_self action.Internal = refl

or_left : (a b : Bool) → a ≡ true → (a || b) ≡ true
or_left true b h = refl
or_left false b h = cc

or_right : (a b : Bool) → b ≡ true → (a || b) ≡ true
or_right true b h = refl
or_right false b h = h

-- an entry that has an action: the component has it under the entry's kind
acts_by : (formals : List Scalar) (act : Named) (es : List Transition) (n : ℕ) (e : Transition) → slice_get es n ≡ Some e → has formals act e ≡ true → list_any (has_as e.kind formals act) es ≡ true
acts_by formals act [] n e h g = cc
acts_by formals act (d ∷ es) zero e h g =
    let same : d ≡ e = cc in
    let here : has_as e.kind formals act d ≡ true = ap (has_as e.kind formals act) same ∙ and_from (same_kind e.kind e.kind) (has formals act e) (same_self e.kind) g in
    or_left (has_as e.kind formals act d) (list_any (has_as e.kind formals act) es) here
acts_by formals act (d ∷ es) (suc n) e h g = or_right (has_as e.kind formals act d) (list_any (has_as e.kind formals act) es) (acts_by formals act es n e h g)

-- an action under two kinds is in two sets
twice : (cs : List Instance) (i : ℕ) (act : Named) (k l : ActionKind) → not (same_kind k l) ≡ true → any_as k (component_at cs i) act ≡ true → any_as l (component_at cs i) act ≡ true → IsTwice cs i act
twice cs i act action.Input action.Input h p q = cc
twice cs i act action.Input action.Output h p q = inl (p, q)
twice cs i act action.Input action.Internal h p q = inr (inl (p, q))
twice cs i act action.Output action.Input h p q = inl (q, p)
twice cs i act action.Output action.Output h p q = cc
twice cs i act action.Output action.Internal h p q = inr (inr (p, q))
twice cs i act action.Internal action.Input h p q = inr (inl (q, p))
twice cs i act action.Internal action.Output h p q = inr (inr (q, p))
twice cs i act action.Internal action.Internal h p q = cc

-- an entry that is found comes of one that is meant
found_meant : (names : List Bytes) (es : List Meant) (n : ℕ) (t : Transition) → slice_get (map (transition names) es) n ≡ Some t → (e : Meant) × ((slice_get es n ≡ Some e) × (t ≡ transition names e))
found_meant names [] n t h = cc
found_meant names (e ∷ es) zero t h = let same : transition names e ≡ t = cc in (e, (refl, sym same))
found_meant names (e ∷ es) (suc n) t h = found_meant names es n t h

-- ---- tasks

shared : (names : List Bytes) (o : Option Meant) → share o ≡ formed.share (option_map (transition names) o)
shared names None = refl
shared names (Some e) = by e.kind
  where
    by : (k : EntryKind) → ◌≡◌ {A = ℕ} (if is_controlled k then 1 else 0) (if same_kind action.Input (kind_as k) then 0 else 1)
    by kind.Input = refl
    by kind.Output = refl
    by kind.Internal = refl

-- ---- parameters

-- a listed range has all its numbers
module _ (low high : ℤ) (h : is_short low high ≡ true) where
  ordered : int_le low high ≡ true
  ordered = (both_true (int_le low high) (nat_le (count (Range low high)) 65535 && (int_le (neg_ℤ (pos (2 ^ 63))) low && int_lt high (pos (2 ^ 63)))) h).0

  rest : (nat_le (count (Range low high)) 65535 && (int_le (neg_ℤ (pos (2 ^ 63))) low && int_lt high (pos (2 ^ 63)))) ≡ true
  rest = (both_true (int_le low high) (nat_le (count (Range low high)) 65535 && (int_le (neg_ℤ (pos (2 ^ 63))) low && int_lt high (pos (2 ^ 63)))) h).1

  few_numbers : nat_le (count (Range low high)) 65535 ≡ true
  few_numbers = (both_true (nat_le (count (Range low high)) 65535) (int_le (neg_ℤ (pos (2 ^ 63))) low && int_lt high (pos (2 ^ 63))) rest).0

  bits : (int_le (neg_ℤ (pos (2 ^ 63))) low ≡ true) × (int_lt high (pos (2 ^ 63)) ≡ true)
  bits = both_true (int_le (neg_ℤ (pos (2 ^ 63))) low) (int_lt high (pos (2 ^ 63))) (both_true (nat_le (count (Range low high)) 65535) (int_le (neg_ℤ (pos (2 ^ 63))) low && int_lt high (pos (2 ^ 63))) rest).1

  not_empty : int_lt high low ≡ false
  not_empty = let o = ordered in grind (arith, ints)

  count_is : count (Range low high) ≡ unsigned_abs (high -ℤ low) + 1
  count_is = ap (λ b. if b then 0 else unsigned_abs (high -ℤ low) + 1) not_empty

  -- a listed range has all its numbers
  range_complete : is_complete (listed_of (Range low high)) ≡ true
  range_complete =
      let o = ordered in let c = count_is in let f = few_numbers in let b = bits.1 in
      let short : count (Range low high) ≤ 65535 = grind (arith, nat_tests) in
      let same : small (count (Range low high)) ≡ unsigned_abs (high -ℤ low) + 1 = omega (arith, c, short) in
      let long : pos (unsigned_abs (high -ℤ low)) ≡ high -ℤ low = grind (arith, ints) in
      let last : int_le (low +ℤ pos (unsigned_abs (high -ℤ low) + 1)) (pos (2 ^ 63)) ≡ true = grind (arith, ints) in
      and_from (int_le (neg_ℤ (pos (2 ^ 63))) low) (int_le (low +ℤ pos (small (count (Range low high)))) (pos (2 ^ 63))) bits.0
      (subst (λ n. int_le (low +ℤ pos n) (pos (2 ^ 63)) ≡ true) (sym same) last)

range_by : (low high : ℤ) (b : Bool) (members : Listed) → is_short low high ≡ b → (if b then param.Member (listed_of (Range low high)) else param.Between low high) ≡ param.Member members → is_complete members ≡ true
range_by low high true members h e = let same : listed_of (Range low high) ≡ members = cc in subst (λ l. is_complete l ≡ true) same (range_complete low high h)
range_by low high false members h e = cc

kind_complete : (most : ℕ) (k : Kind) (members : Listed) → is_within most k ≡ true → most ≤ 2 ^ 16 → param_in k ≡ param.Member members → is_complete members ≡ true
kind_complete most Truth members w l e = let same : listed.Bool ≡ members = cc in subst (λ x. is_complete x ≡ true) same refl
kind_complete most Whole members w l e = cc
kind_complete most (Range low high) members w l e = range_by low high (is_short low high) members refl e
kind_complete most (Enum first n) members w l e =
    let same : listed.Enumeration first n ≡ members = cc in
    let within : first + n ≤ most = grind (arith, nat_tests) in
    subst (λ x. is_complete x ≡ true) same (le-leb (first + n) (2 ^ 16) (omega (arith, within, l)))
kind_complete most (SeqOf k n) members w l e = cc
kind_complete most (ArrayOf r k) members w l e = cc

slot_complete : (most : ℕ) (s : Option Slot) (members : Listed) → is_slot most s ≡ true → most ≤ 2 ^ 16 → param_of s ≡ param.Member members → is_complete members ≡ true
slot_complete most None members w l e = cc
slot_complete most (Some (Fixed n)) members w l e = cc
slot_complete most (Some (Free k)) members w l e = kind_complete most k members (both_true (is_scalar k) (is_within most k) w).1 l e

-- what is controlled takes listed values
fewer : (n : ℕ) → nat_le n 256 ≡ true → nat_le n 65535 ≡ true
fewer n few = grind (arith, nat_tests)

short_by : (most : ℕ) (low high : ℤ) → is_within most (Range low high) ≡ true → nat_le (count (Range low high)) 256 ≡ true → is_short low high ≡ true
short_by most low high w few =
    let bits = int_le (neg_ℤ (pos (2 ^ 63))) low && int_lt high (pos (2 ^ 63)) in
    let parts = both_true (int_le low high) bits w in
    and_from (int_le low high) (nat_le (count (Range low high)) 65535 && bits) parts.0
    (and_from (nat_le (count (Range low high)) 65535) bits (fewer (count (Range low high)) few) parts.1)

kind_listed : (most : ℕ) (k : Kind) → is_within most k ≡ true → (can_be_listed k && nat_le (count k) 256) ≡ true → formed.is_listed (param_in k) ≡ true
kind_listed most Truth w l = refl
kind_listed most Whole w l = cc
kind_listed most (Range low high) w l = ap (λ b. formed.is_listed (if b then param.Member (listed_of (Range low high)) else param.Between low high)) (short_by most low high w l)
kind_listed most (Enum first n) w l = refl
kind_listed most (SeqOf k n) w l = cc
kind_listed most (ArrayOf r k) w l = cc

slot_listed : (most : ℕ) (s : Option Slot) → is_slot most s ≡ true → is_listed s ≡ true → formed.is_listed (param_of s) ≡ true
slot_listed most None w l = cc
slot_listed most (Some (Fixed n)) w l = refl
slot_listed most (Some (Free k)) w l = kind_listed most k (both_true (is_scalar k) (is_within most k) w).1 l

controlled_by : (k : EntryKind) → same_kind action.Input (kind_as k) ≡ false → is_controlled k ≡ true
controlled_by kind.Input h = cc
controlled_by kind.Output h = refl
controlled_by kind.Internal h = refl

found_slot : (ss : List (Option Slot)) (k : ℕ) (p : Param) → slice_get (map param_of ss) k ≡ Some p → (s : Option Slot) × ((slice_get ss k ≡ Some s) × (param_of s ≡ p))
found_slot [] k p h = cc
found_slot (s ∷ ss) zero p h = let same : param_of s ≡ p = cc in (s, (refl, same))
found_slot (s ∷ ss) (suc k) p h = found_slot ss k p h

-- ---- the whole

all_at : {X : Type 0} (P : X → Type 0) (xs : List X) → All P xs → (n : ℕ) (x : X) → slice_get xs n ≡ Some x → P x
all_at P [] h n x e = cc
all_at P (y ∷ xs) h zero x e = let same : y ≡ x = cc in subst P same (All-head P y xs h)
all_at P (y ∷ xs) h (suc n) x e = all_at P xs (All-tail P y xs h) n x e

sound_at : (m : MeantSource) → All (IsSoundAutomaton (length m.members)) m.automata → (o : Option ℕ) (a : MeantAutomaton) → automaton_at m.automata o ≡ Some a → IsSoundAutomaton (length m.members) a
sound_at m all None a e = cc
sound_at m all (Some n) a e = all_at (IsSoundAutomaton (length m.members)) m.automata all n a e

module _ (m : MeantSource) (names : List Bytes) (are : AreNames names m) (sound : All (IsSoundAutomaton (length m.members)) m.automata) (few : length m.members ≤ 2 ^ 16) (apart : (j : ℕ) → Breaks rule.Own (instances names m) j → ⊥) where
  formed_as : (i : ℕ) (c : MeantComponent) (a : MeantAutomaton) → slice_get m.components i ≡ Some c → automaton_at m.automata c.automaton ≡ Some a → component_at (instances names m) i ≡ built names (map argument c.arguments) (Some a) → IsFormed (built names (map argument c.arguments) (Some a))
  formed_as i c a at found is = record { single = single; tasks = tasks; complete = complete; listed = values }
    where
      formals : List Scalar
      formals = map argument c.arguments

      own : IsSoundAutomaton (length m.members) a
      own = sound_at m sound c.automaton a found

      one_name : (e f : Meant) (act : Named) (k n : ℕ) → slice_get a.entries k ≡ Some e → slice_get a.entries n ≡ Some f → has formals act (transition names e) ≡ true → has formals act (transition names f) ≡ true → bytes_eq e.name f.name ≡ true
      one_name e f act k n p q h g =
          let x = both_true (nat_eq (place_in names e.name) act.name) (fits formals (transition names e).params act.args) h in
          let y = both_true (nat_eq (place_in names f.name) act.name) (fits formals (transition names f).params act.args) g in
          one_place names e.name f.name (in_table names m are i c a k e at found p) (in_table names m are i c a n f at found q)
          (number_is (place_in names e.name) act.name x.0 ∙ sym (number_is (place_in names f.name) act.name y.0))

      -- entries of two sorts would have the action in two sets
      not_apart : (e f : Meant) (act : Named) (k n : ℕ) → slice_get a.entries k ≡ Some e → slice_get a.entries n ≡ Some f → has formals act (transition names e) ≡ true → has formals act (transition names f) ≡ true → not (same_kind (kind_as e.kind) (kind_as f.kind)) ≡ true → ⊥
      not_apart e f act k n p q h g differ =
          let es = map (transition names) a.entries in
          let x : any_as (kind_as e.kind) (built names formals (Some a)) act ≡ true = acts_by formals act es k (transition names e) (mapped_at (transition names) a.entries k ∙ ap (option_map (transition names)) p) h in
          let y : any_as (kind_as f.kind) (built names formals (Some a)) act ≡ true = acts_by formals act es n (transition names f) (mapped_at (transition names) a.entries n ∙ ap (option_map (transition names)) q) g in
          apart i (record {
            component = i;
            within = omega arith;
            action = act;
            twice = twice (instances names m) i act (kind_as e.kind) (kind_as f.kind) differ (ap (λ z. any_as (kind_as e.kind) z act) is ∙ x) (ap (λ z. any_as (kind_as f.kind) z act) is ∙ y);
          })

      one_of : (e f : Meant) (act : Named) (k n : ℕ) → slice_get a.entries k ≡ Some e → slice_get a.entries n ≡ Some f → has formals act (transition names e) ≡ true → has formals act (transition names f) ≡ true → k ≡ n
      one_of e f act k n p q h g = by (sorts e.kind f.kind)
        where
          by : (((is_input e.kind && is_input f.kind) || (is_controlled e.kind && is_controlled f.kind)) ≡ true) ⊎ (not (same_kind (kind_as e.kind) (kind_as f.kind)) ≡ true) → k ≡ n
          by (inl s) = own.once k n e f p q (and_from (bytes_eq e.name f.name) ((is_input e.kind && is_input f.kind) || (is_controlled e.kind && is_controlled f.kind)) (one_name e f act k n p q h g) s)
          by (inr s) = absurd (not_apart e f act k n p q h g s)

      single : (k n : ℕ) (e f : Transition) (act : Named) → slice_get (map (transition names) a.entries) k ≡ Some e → slice_get (map (transition names) a.entries) n ≡ Some f → has formals act e ≡ true → has formals act f ≡ true → k ≡ n
      single k n e f act p q h g =
          let x = found_meant names a.entries k e p in let y = found_meant names a.entries n f q in
          one_of x.0 y.0 act k n x.1.0 y.1.0 (subst (λ t. has formals act t ≡ true) x.1.1 h) (subst (λ t. has formals act t ≡ true) y.1.1 g)

      tasks : (place : ℕ) → times place (all_places a.tasks) ≡ formed.share (slice_get (map (transition names) a.entries) place)
      tasks place = own.partition place ∙ shared names (slice_get a.entries place) ∙ ap formed.share (sym (mapped_at (transition names) a.entries place))

      complete : (place k : ℕ) (entry : Transition) (members : Listed) → slice_get (map (transition names) a.entries) place ≡ Some entry → slice_get entry.params k ≡ Some (param.Member members) → is_complete members ≡ true
      complete place k entry members p q =
          let x = found_meant names a.entries place entry p in
          let y = found_slot x.0.parameters k (param.Member members) (subst (λ t. slice_get t.params k ≡ Some (param.Member members)) x.1.1 q) in
          slot_complete (length m.members) y.0 members (own.slots place k x.0 y.0 x.1.0 y.1.0) few y.1.1

      values : (place k : ℕ) (entry : Transition) (p : Param) → slice_get (map (transition names) a.entries) place ≡ Some entry → same_kind action.Input entry.kind ≡ false → slice_get entry.params k ≡ Some p → formed.is_listed p ≡ true
      values place k entry p q local h =
          let x = found_meant names a.entries place entry q in
          let y = found_slot x.0.parameters k p (subst (λ t. slice_get t.params k ≡ Some p) x.1.1 h) in
          let controlled = controlled_by x.0.kind (subst (λ t. same_kind action.Input t.kind ≡ false) x.1.1 local) in
          subst (λ z. formed.is_listed z ≡ true) y.1.1 (slot_listed (length m.members) y.0 (own.slots place k x.0 y.0 x.1.0 y.1.0) (own.listed place k x.0 y.0 x.1.0 controlled y.1.0))

  formed_by : (i : ℕ) (o : Option MeantComponent) → slice_get m.components i ≡ o → component_at (instances names m) i ≡ instance_or_absent names m.automata o → IsFormed (instance_or_absent names m.automata o)
  formed_by i None at is = nothing_there []
  formed_by i (Some c) at is = by (automaton_at m.automata c.automaton) refl
    where
      by : (a : Option MeantAutomaton) → automaton_at m.automata c.automaton ≡ a → IsFormed (built names (map argument c.arguments) a)
      by None found = nothing_there (map argument c.arguments)
      by (Some a) found = formed_as i c a at found (is ∙ ap (built names (map argument c.arguments)) found)

  formed_at : (i : ℕ) → IsFormed (component_at (instances names m) i)
  formed_at i = subst IsFormed (sym (component_is names m.automata m.components i)) (formed_by i (slice_get m.components i) refl (component_is names m.automata m.components i))

  pub well_formed : IsWellFormed (instances names m)
  well_formed = record {
    single = λ i. (formed_at i).single;
    tasks = λ i. (formed_at i).tasks;
    complete = λ i. (formed_at i).complete;
    listed = λ i. (formed_at i).listed;
  }
