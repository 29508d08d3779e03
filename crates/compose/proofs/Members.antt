-- The entries of components as those of their signatures.
use Rattle.std.proofs.Common.{arith, ◌≡◌, ◌+◌, ◌⊎◌, inl, inr, ℕ, zero, suc, Bool as Truth, true, false, ◌&&◌, ◌||◌, List, [], ◌∷◌, map, refl, sym, ◌∙◌, ap, subst}
use Rattle.std.specs.List.{list_any}
use Rattle.terms.specs.Named.{Named}
use Rattle.terms.specs.declared.scalar.Scalar.{Scalar}
use Rattle.io_automata.specs.declared.automaton.Kind.{Kind}
use Rattle.io_automata.specs.declared.automaton.Kind.TheVariants.{Input, Output, Internal}
use Rattle.io_automata.specs.Automata.{Transition, Instance, component_at}
use Rattle.io_automata.specs.Signatures.{has, has_as, any_as, same_kind}
use Rattle.compose.specs.Standings.{Stood, stood_in, stands, Has}
use Rattle.compose.proofs.ListPairs.{has_left, has_right, has_split}

-- ---- lists of one component's entries

pub both_true : (a b : Truth) → (a && b) ≡ true → (a ≡ true) × (b ≡ true)
both_true true b h = (refl, h)
both_true false b h = cc

same_self : (kind : Kind) → same_kind kind kind ≡ true
same_self Input = refl
same_self Output = refl
same_self Internal = refl

pub same_is : (a b : Kind) → same_kind a b ≡ true → a ≡ b
same_is Input Input h = refl
same_is Input Output h = cc
same_is Input Internal h = cc
same_is Output Input h = cc
same_is Output Output h = refl
same_is Output Internal h = cc
same_is Internal Input h = cc
same_is Internal Output h = cc
same_is Internal Internal h = refl

or_right : (a b : Truth) → b ≡ true → (a || b) ≡ true
or_right true b h = refl
or_right false b h = h

or_left : (a b : Truth) → a ≡ true → (a || b) ≡ true
or_left true b h = refl
or_left false b h = cc

has_as_own : (formals : List Scalar) (action : Named) (e : Transition) → has formals action e ≡ true → has_as e.kind formals action e ≡ true
has_as_own formals action e h = ap (λ b. b && has formals action e) (same_self e.kind) ∙ h

-- an entry that has the action is one of its kind
any_from : (formals : List Scalar) (action : Named) (e : Transition) (es : List Transition) → Has (λ f. f ≡ e) es → has formals action e ≡ true → list_any (has_as e.kind formals action) es ≡ true
any_from formals action e [] i h = absurd i
any_from formals action e (f ∷ es) (inl i) h = or_left (has_as e.kind formals action f) (list_any (has_as e.kind formals action) es) (ap (has_as e.kind formals action) i ∙ has_as_own formals action e h)
any_from formals action e (f ∷ es) (inr i) h = or_right (has_as e.kind formals action f) (list_any (has_as e.kind formals action) es) (any_from formals action e es i h)

-- an entry of this kind that has the action
pub record AnEntry (kind : Kind) (formals : List Scalar) (action : Named) (es : List Transition) : Type 0 where
  pub entry : Transition
  pub is : Has (λ f. f ≡ entry) es
  pub same : entry.kind ≡ kind
  pub holds : has formals action entry ≡ true

any_entry : (kind : Kind) (formals : List Scalar) (action : Named) (es : List Transition) → list_any (has_as kind formals action) es ≡ true → AnEntry kind formals action es
any_entry kind formals action [] h = cc
any_entry kind formals action (e ∷ es) h = by (has_as kind formals action e) refl (λ i. any_entry kind formals action es i) h
  where
    later : AnEntry kind formals action es → AnEntry kind formals action (e ∷ es)
    later a = record { entry = a.entry; is = inr a.is; same = a.same; holds = a.holds }

    by : (b : Truth) → has_as kind formals action e ≡ b → (list_any (has_as kind formals action) es ≡ true → AnEntry kind formals action es) → (b || list_any (has_as kind formals action) es) ≡ true → AnEntry kind formals action (e ∷ es)
    by true q f i =
        let two = both_true (same_kind kind e.kind) (has formals action e) q in
        record { entry = e; is = inl refl; same = sym (same_is kind e.kind two.0); holds = two.1 }
    by false q f i = later (f i)

-- ---- the entries of all components

-- an entry of all, among those of its component
record Placed (cs : List Instance) (i : ℕ) (x : Stood) : Type 0 where
  place : ℕ
  component : x.component ≡ i + place
  formals : x.formals ≡ (component_at cs place).formals
  entry : Has (λ e. e ≡ x.entry) (component_at cs place).entries

mapped : (i : ℕ) (formals : List Scalar) (x : Stood) (es : List Transition) → Has (λ z. z ≡ x) (map (stood_in i formals) es) → (e : Transition) × (Has (λ f. f ≡ e) es × (stood_in i formals e ≡ x))
mapped i formals x [] h = absurd h
mapped i formals x (e ∷ es) (inl h) = (e, (inl refl, h))
mapped i formals x (e ∷ es) (inr h) = let m = mapped i formals x es h in (m.0, (inr m.1.0, m.1.1))

placed : (i : ℕ) (cs : List Instance) (x : Stood) → Has (λ z. z ≡ x) (stands i cs) → Placed cs i x
placed i [] x h = absurd h
placed i (c ∷ cs) x h = by (has_split (λ z. z ≡ x) (map (stood_in i c.formals) c.entries) (stands (suc i) cs) h) (λ k. placed (suc i) cs x k)
  where
    here : (e : Transition) × (Has (λ f. f ≡ e) c.entries × (stood_in i c.formals e ≡ x)) → Placed (c ∷ cs) i x
    here m =
        let number : i ≡ x.component = ap (λ s. s.component) m.1.1 in
        record {
          place = 0;
          component = omega (arith, number);
          formals = sym (ap (λ s. s.formals) m.1.1);
          entry = subst (λ (f : Transition). Has (λ e. e ≡ f) c.entries) (ap (λ s. s.entry) m.1.1) m.1.0;
        }

    later : Placed cs (suc i) x → Placed (c ∷ cs) i x
    later p = let number = p.component in record { place = suc p.place; component = omega (arith, number); formals = p.formals; entry = p.entry }

    by : Has (λ z. z ≡ x) (map (stood_in i c.formals) c.entries) ⊎ Has (λ z. z ≡ x) (stands (suc i) cs) → (Has (λ z. z ≡ x) (stands (suc i) cs) → Placed cs (suc i) x) → Placed (c ∷ cs) i x
    by (inl k) f = here (mapped i c.formals x c.entries k)
    by (inr k) f = later (f k)

-- an entry of all that has an action: its component has the action under its kind
pub acting : (cs : List Instance) (x : Stood) (action : Named) → Has (λ z. z ≡ x) (stands 0 cs) → has x.formals action x.entry ≡ true → any_as x.entry.kind (component_at cs x.component) action ≡ true
acting cs x action is h =
    let p = placed 0 cs x is in
    let number = p.component in
    let same : p.place ≡ x.component = omega (arith, number) in
    subst (λ n. any_as x.entry.kind (component_at cs n) action ≡ true) same
    (any_from (component_at cs p.place).formals action x.entry (component_at cs p.place).entries p.entry (ap (λ f. has f action x.entry) (sym p.formals) ∙ h))

stood_all : (i : ℕ) (formals : List Scalar) (e : Transition) (es : List Transition) → Has (λ f. f ≡ e) es → Has (λ z. z ≡ stood_in i formals e) (map (stood_in i formals) es)
stood_all i formals e [] h = h
stood_all i formals e (f ∷ es) (inl h) = inl (ap (stood_in i formals) h)
stood_all i formals e (f ∷ es) (inr h) = inr (stood_all i formals e es h)

among : (i : ℕ) (cs : List Instance) (n : ℕ) (e : Transition) → Has (λ f. f ≡ e) (component_at cs n).entries → Has (λ z. z ≡ stood_in (i + n) (component_at cs n).formals e) (stands i cs)
among i [] n e h = h
among i (c ∷ cs) zero e h =
    let same : i ≡ i + 0 = omega arith in
    subst (λ m. Has (λ z. z ≡ stood_in m c.formals e) (stands i (c ∷ cs))) same
    (has_left (λ z. z ≡ stood_in i c.formals e) (map (stood_in i c.formals) c.entries) (stands (suc i) cs) (stood_all i c.formals e c.entries h))
among i (c ∷ cs) (suc n) e h =
    let same : suc i + n ≡ i + suc n = omega arith in
    subst (λ m. Has (λ z. z ≡ stood_in m (component_at cs n).formals e) (stands i (c ∷ cs))) same
    (has_right (λ z. z ≡ stood_in (suc i + n) (component_at cs n).formals e) (map (stood_in i c.formals) c.entries) (stands (suc i) cs) (among (suc i) cs n e h))

-- an entry of component n by which it has the action under this kind
pub record Actor (cs : List Instance) (n : ℕ) (kind : Kind) (action : Named) : Type 0 where
  pub entry : Stood
  pub is : Has (λ z. z ≡ entry) (stands 0 cs)
  pub component : entry.component ≡ n
  pub same : entry.entry.kind ≡ kind
  pub holds : has entry.formals action entry.entry ≡ true

pub actor : (cs : List Instance) (n : ℕ) (kind : Kind) (action : Named) → any_as kind (component_at cs n) action ≡ true → Actor cs n kind action
actor cs n kind action h =
    let a = any_entry kind (component_at cs n).formals action (component_at cs n).entries h in
    let same : 0 + n ≡ n = omega arith in
    record {
      entry = stood_in n (component_at cs n).formals a.entry;
      is = subst (λ m. Has (λ z. z ≡ stood_in m (component_at cs n).formals a.entry) (stands 0 cs)) same (among 0 cs n a.entry a.is);
      component = refl;
      same = a.same;
      holds = a.holds;
    }
