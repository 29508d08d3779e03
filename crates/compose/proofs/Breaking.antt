-- Rules are broken exactly where two entries clash.
use Rattle.std.proofs.Common.{arith, ◌≡◌, ◌≢◌, ◌≤◌, ◌⊎◌, inl, inr, ℕ, Bool as Truth, true, false, not, ◌&&◌, ◌||◌, nat_eq, List, refl, sym, ◌∙◌, ap, subst}
use Rattle.std.proofs.lemmas.Bool.Decides.{nat_tests}
use Rattle.terms.specs.Named.{Named}
use Rattle.io_automata.specs.declared.automaton.Kind.{Kind}
use Rattle.io_automata.specs.declared.automaton.Kind.TheVariants.{Input, Output, Internal}
use Rattle.io_automata.specs.Automata.{Instance, component_at}
use Rattle.io_automata.specs.Signatures.{any_as, same_kind, inputs, outputs, internals, acts}
use Rattle.compose.specs.declared.compatibility.rule.Rule.{Rule}
use Rattle.compose.specs.declared.compatibility.rule.Rule.TheVariants as rule
use Rattle.compose.specs.Rules.{IsTwice, OwnOverlap, InternalShared, OutputShared, Breaks, is_barred}
use Rattle.compose.specs.Standings.{Stood, stands, Pair, Clash}
use Rattle.compose.proofs.ListPairs.{Two, two_of, pair_of}
use Rattle.compose.proofs.Members.{both_true, same_is, acting, Actor, actor}

-- two entries of the components 0 to j break a rule
pub record ClashTo (rule : Rule) (j : ℕ) (a b : Stood) : Type 0 where
  pub first : a.component ≤ j
  pub second : b.component ≤ j
  pub clash : Clash rule a b

is_equal : (m n : ℕ) → nat_eq m n ≡ true → m ≡ n
is_equal m n h = grind (arith, nat_tests)

equal_is : (m n : ℕ) → m ≡ n → nat_eq m n ≡ true
equal_is m n h = grind (arith, nat_tests)

not_equal : (m n : ℕ) → nat_eq m n ≡ false → m ≢ n
not_equal m n h e = let g : nat_eq m n ≡ true = equal_is m n e in absurd (cc)

equal_not : (m n : ℕ) → m ≢ n → nat_eq m n ≡ false
equal_not m n h = by (nat_eq m n) refl
  where
    by : (b : Truth) → nat_eq m n ≡ b → b ≡ false
    by true e = absurd (h (is_equal m n e))
    by false e = refl

not_true : (b : Truth) → not b ≡ true → b ≡ false
not_true true h = cc
not_true false h = refl

-- ---- from entries to sets

-- the kinds of two entries of one component that have an action
twice : (cs : List Instance) (n : ℕ) (action : Named) (k l : Kind) → not (same_kind k l) ≡ true → any_as k (component_at cs n) action ≡ true → any_as l (component_at cs n) action ≡ true → IsTwice cs n action
twice cs n action Input Input h p q = cc
twice cs n action Input Output h p q = inl (p, q)
twice cs n action Input Internal h p q = inr (inl (p, q))
twice cs n action Output Input h p q = inl (q, p)
twice cs n action Output Output h p q = cc
twice cs n action Output Internal h p q = inr (inr (p, q))
twice cs n action Internal Input h p q = inr (inl (q, p))
twice cs n action Internal Output h p q = inr (inr (q, p))
twice cs n action Internal Internal h p q = cc

or_both : (a b c : Truth) → b ≡ true → (a || b || c) ≡ true
or_both true b c h = refl
or_both false true c h = refl
or_both false false c h = cc

or_last : (a b c : Truth) → c ≡ true → (a || b || c) ≡ true
or_last true b c h = refl
or_last false true c h = refl
or_last false false c h = h

-- an action under some kind is one of the component's
acts_as : (cs : List Instance) (n : ℕ) (action : Named) (k : Kind) → any_as k (component_at cs n) action ≡ true → acts cs n action ≡ true
acts_as cs n action Input h = ap (λ b. b || outputs cs n action || internals cs n action) h
acts_as cs n action Output h = or_both (inputs cs n action) (outputs cs n action) (internals cs n action) h
acts_as cs n action Internal h = or_last (inputs cs n action) (outputs cs n action) (internals cs n action) h

or_either : (a b : Truth) → (a || b) ≡ true → (a ≡ true) ⊎ (b ≡ true)
or_either true b h = inl refl
or_either false b h = inr h

own_from : (cs : List Instance) (j : ℕ) → Two (ClashTo rule.Own j) (stands 0 cs) → OwnOverlap cs j
own_from cs j t =
    let a = t.first in let b = t.second in
    let barred = both_true (nat_eq a.component b.component) (not (same_kind a.entry.kind b.entry.kind)) t.holds.clash.0 in
    let same : b.component ≡ a.component = sym (is_equal a.component b.component barred.0) in
    let action = t.holds.clash.1.0 in
    let p = acting cs a action t.is_first t.holds.clash.1.1.0 in
    let q = acting cs b action t.is_second t.holds.clash.1.1.1 in
    record {
      component = a.component;
      within = t.holds.first;
      action = action;
      twice = twice cs a.component action a.entry.kind b.entry.kind barred.1 p (subst (λ n. any_as b.entry.kind (component_at cs n) action ≡ true) same q);
    }

internal_from : (cs : List Instance) (j : ℕ) → Two (ClashTo rule.Internal j) (stands 0 cs) → InternalShared cs j
internal_from cs j t = by (or_either (same_kind a.entry.kind Internal) (same_kind b.entry.kind Internal) barred.1)
  where
    a : Stood
    a = t.first

    b : Stood
    b = t.second

    barred : (not (nat_eq a.component b.component) ≡ true) × ((same_kind a.entry.kind Internal || same_kind b.entry.kind Internal) ≡ true)
    barred = both_true (not (nat_eq a.component b.component)) (same_kind a.entry.kind Internal || same_kind b.entry.kind Internal) t.holds.clash.0

    apart : a.component ≢ b.component
    apart = not_equal a.component b.component (not_true (nat_eq a.component b.component) barred.0)

    action : Named
    action = t.holds.clash.1.0

    p : any_as a.entry.kind (component_at cs a.component) action ≡ true
    p = acting cs a action t.is_first t.holds.clash.1.1.0

    q : any_as b.entry.kind (component_at cs b.component) action ≡ true
    q = acting cs b action t.is_second t.holds.clash.1.1.1

    by : (same_kind a.entry.kind Internal ≡ true) ⊎ (same_kind b.entry.kind Internal ≡ true) → InternalShared cs j
    by (inl h) = record {
      owner = a.component;
      other = b.component;
      within = t.holds.first;
      other_within = t.holds.second;
      apart = apart;
      action = action;
      internal = subst (λ k. any_as k (component_at cs a.component) action ≡ true) (same_is a.entry.kind Internal h) p;
      had = acts_as cs b.component action b.entry.kind q;
    }
    by (inr h) = record {
      owner = b.component;
      other = a.component;
      within = t.holds.second;
      other_within = t.holds.first;
      apart = λ e. apart (sym e);
      action = action;
      internal = subst (λ k. any_as k (component_at cs b.component) action ≡ true) (same_is b.entry.kind Internal h) q;
      had = acts_as cs a.component action a.entry.kind p;
    }

output_from : (cs : List Instance) (j : ℕ) → Two (ClashTo rule.Output j) (stands 0 cs) → OutputShared cs j
output_from cs j t =
    let a = t.first in let b = t.second in
    let barred = both_true (not (nat_eq a.component b.component)) (same_kind a.entry.kind Output && same_kind b.entry.kind Output) t.holds.clash.0 in
    let kinds = both_true (same_kind a.entry.kind Output) (same_kind b.entry.kind Output) barred.1 in
    let action = t.holds.clash.1.0 in
    record {
      owner = a.component;
      other = b.component;
      within = t.holds.first;
      other_within = t.holds.second;
      apart = not_equal a.component b.component (not_true (nat_eq a.component b.component) barred.0);
      action = action;
      output = subst (λ k. any_as k (component_at cs a.component) action ≡ true) (same_is a.entry.kind Output kinds.0) (acting cs a action t.is_first t.holds.clash.1.1.0);
      shared = subst (λ k. any_as k (component_at cs b.component) action ≡ true) (same_is b.entry.kind Output kinds.1) (acting cs b action t.is_second t.holds.clash.1.1.1);
    }

-- two entries that clash break the rule
pub broken_by : (rule' : Rule) (cs : List Instance) (j : ℕ) → Pair (ClashTo rule' j) (stands 0 cs) → Breaks rule' cs j
broken_by rule.Own cs j h = own_from cs j (two_of (ClashTo rule.Own j) (stands 0 cs) h)
broken_by rule.Internal cs j h = internal_from cs j (two_of (ClashTo rule.Internal j) (stands 0 cs) h)
broken_by rule.Output cs j h = output_from cs j (two_of (ClashTo rule.Output j) (stands 0 cs) h)

-- ---- from sets to entries

swapped : (rule' : Rule) (j : ℕ) (a b : Stood) → is_barred rule' (nat_eq b.component a.component) b.entry.kind a.entry.kind ≡ true → ClashTo rule' j a b → ClashTo rule' j b a
swapped rule' j a b h c = record { first = c.second; second = c.first; clash = (h, (c.clash.1.0, (c.clash.1.1.1, c.clash.1.1.0))) }

-- two actors of an action that differ
module _ (rule' : Rule) (cs : List Instance) (j m n : ℕ) (k l : Kind) (action : Named) where
  clashing : (x : Actor cs m k action) (y : Actor cs n l action) → m ≤ j → n ≤ j → is_barred rule' (nat_eq m n) k l ≡ true → is_barred rule' (nat_eq n m) l k ≡ true → x.entry ≢ y.entry → Pair (ClashTo rule' j) (stands 0 cs)
  clashing x y a b p q differ = pair_of (ClashTo rule' j) x.entry y.entry differ there back (stands 0 cs) x.is y.is
    where
      barred : is_barred rule' (nat_eq x.entry.component y.entry.component) x.entry.entry.kind y.entry.entry.kind ≡ true
      barred = (λ i. is_barred rule' (nat_eq (x.component i) (y.component i)) (x.same i) (y.same i)) ∙ p

      barred_back : is_barred rule' (nat_eq y.entry.component x.entry.component) y.entry.entry.kind x.entry.entry.kind ≡ true
      barred_back = (λ i. is_barred rule' (nat_eq (y.component i) (x.component i)) (y.same i) (x.same i)) ∙ q

      there : ClashTo rule' j x.entry y.entry
      there = record {
        first = subst (λ c. c ≤ j) (sym x.component) a;
        second = subst (λ c. c ≤ j) (sym y.component) b;
        clash = (barred, (action, (x.holds, y.holds)));
      }

      back : ClashTo rule' j y.entry x.entry
      back = swapped rule' j x.entry y.entry barred_back there

differ_by_kind : (cs : List Instance) (m n : ℕ) (k l : Kind) (action : Named) (x : Actor cs m k action) (y : Actor cs n l action) → k ≢ l → x.entry ≢ y.entry
differ_by_kind cs m n k l action x y h e = h (sym x.same ∙ ap (λ s. s.entry.kind) e ∙ y.same)

differ_by_place : (cs : List Instance) (m n : ℕ) (k l : Kind) (action : Named) (x : Actor cs m k action) (y : Actor cs n l action) → m ≢ n → x.entry ≢ y.entry
differ_by_place cs m n k l action x y h e = h (sym x.component ∙ ap (λ s. s.component) e ∙ y.component)

own_pair : (cs : List Instance) (j i : ℕ) (action : Named) (k l : Kind) → not (same_kind k l) ≡ true → not (same_kind l k) ≡ true → k ≢ l → i ≤ j → any_as k (component_at cs i) action ≡ true → any_as l (component_at cs i) action ≡ true → Pair (ClashTo rule.Own j) (stands 0 cs)
own_pair cs j i action k l h g differ w p q =
    let x = actor cs i k action p in let y = actor cs i l action q in
    let one : nat_eq i i ≡ true = equal_is i i refl in
    clashing rule.Own cs j i i k l action x y w w (ap (λ b. b && not (same_kind k l)) one ∙ h) (ap (λ b. b && not (same_kind l k)) one ∙ g) (differ_by_kind cs i i k l action x y differ)

own_to : (cs : List Instance) (j : ℕ) → OwnOverlap cs j → Pair (ClashTo rule.Own j) (stands 0 cs)
own_to cs j o = by o.twice
  where
    by : IsTwice cs o.component o.action → Pair (ClashTo rule.Own j) (stands 0 cs)
    by (inl h) = own_pair cs j o.component o.action Input Output refl refl (λ e. cc) o.within h.0 h.1
    by (inr (inl h)) = own_pair cs j o.component o.action Input Internal refl refl (λ e. cc) o.within h.0 h.1
    by (inr (inr h)) = own_pair cs j o.component o.action Output Internal refl refl (λ e. cc) o.within h.0 h.1

apart_pair : (rule' : Rule) (cs : List Instance) (j m n : ℕ) (k l : Kind) (action : Named) → m ≢ n → is_barred rule' false k l ≡ true → is_barred rule' false l k ≡ true → m ≤ j → n ≤ j → any_as k (component_at cs m) action ≡ true → any_as l (component_at cs n) action ≡ true → Pair (ClashTo rule' j) (stands 0 cs)
apart_pair rule' cs j m n k l action differ p q w v a b =
    let x = actor cs m k action a in let y = actor cs n l action b in
    clashing rule' cs j m n k l action x y w v (ap (λ t. is_barred rule' t k l) (equal_not m n differ) ∙ p) (ap (λ t. is_barred rule' t l k) (equal_not n m (λ e. differ (sym e))) ∙ q) (differ_by_place cs m n k l action x y differ)

-- an action of a component is one under some kind
kind_acting : (cs : List Instance) (n : ℕ) (action : Named) → acts cs n action ≡ true → (k : Kind) × (any_as k (component_at cs n) action ≡ true)
kind_acting cs n action h = by (or_either (inputs cs n action || outputs cs n action) (internals cs n action) h)
  where
    first : (inputs cs n action ≡ true) ⊎ (outputs cs n action ≡ true) → (k : Kind) × (any_as k (component_at cs n) action ≡ true)
    first (inl i) = (Input, i)
    first (inr i) = (Output, i)

    by : ((inputs cs n action || outputs cs n action) ≡ true) ⊎ (internals cs n action ≡ true) → (k : Kind) × (any_as k (component_at cs n) action ≡ true)
    by (inl i) = first (or_either (inputs cs n action) (outputs cs n action) i)
    by (inr i) = (Internal, i)

internal_barred : (k : Kind) → is_barred rule.Internal false k Internal ≡ true
internal_barred Input = refl
internal_barred Output = refl
internal_barred Internal = refl

internal_to : (cs : List Instance) (j : ℕ) → InternalShared cs j → Pair (ClashTo rule.Internal j) (stands 0 cs)
internal_to cs j s =
    let k = kind_acting cs s.other s.action s.had in
    apart_pair rule.Internal cs j s.owner s.other Internal k.0 s.action s.apart refl (internal_barred k.0) s.within s.other_within s.internal k.1

output_to : (cs : List Instance) (j : ℕ) → OutputShared cs j → Pair (ClashTo rule.Output j) (stands 0 cs)
output_to cs j s = apart_pair rule.Output cs j s.owner s.other Output Output s.action s.apart refl refl s.within s.other_within s.output s.shared

-- where a rule is broken two entries clash
pub clash_of : (rule' : Rule) (cs : List Instance) (j : ℕ) → Breaks rule' cs j → Pair (ClashTo rule' j) (stands 0 cs)
clash_of rule.Own cs j h = own_to cs j h
clash_of rule.Internal cs j h = internal_to cs j h
clash_of rule.Output cs j h = output_to cs j h
