-- Below its base a group has nothing to give up.
use Rattle.std.proofs.Common.{◌≡◌, ℕ, zero, suc, ◌<◌, ◌≤◌, Option, Some, List, [], ◌∷◌, map, length, refl, ap, sym, subst, ◌∙◌, arith}
use Rattle.std.specs.Prelude.{replicate, slice_get, slice_set}
use Rattle.event_keys.specs.declared.key.Bound.{Bound}
use Rattle.event_keys.specs.declared.outcome.Turned.{Turned}
use Rattle.event_keys.specs.Ranks.{rank_of_bound}
use Rattle.raw_events.specs.Around.{Around}
use Rattle.raw_events.specs.Onto.{onto}
use Rattle.virtual_time.specs.Entries.{Entry, Input, Own, below, from, latest, number, replay}
use Rattle.virtual_time.specs.Machine.{Machine}
use Rattle.virtual_time.specs.Records.{Record, cut_of, turns_among}
use Rattle.virtual_time.specs.Rules.{IsDone}
use Rattle.virtual_time.proofs.Cuts.{below_past}
use Rattle.virtual_time.proofs.Commits.{from_past}
use Rattle.rollback.specs.ComponentView.{ComponentView, machine_of}
use Rattle.task_seed.specs.declared.setup.Setup.{Setup}
use Rattle.task_seed.specs.declared.turns.Turn.{Turn}
use Rattle.task_seed.specs.Taken.{turn_of as taken_turn}
use Rattle.groups.specs.Dropping.{cut_to}
use Rattle.group_exchange.specs.Held.{AreTakenIn, HaveNothing, HavePutTo}
use Rattle.group_exchange.proofs.Placing.{get_there, none_some, one_some}

module _ {S A : Type 0} (machine : Machine S A) (i g n : ℕ) (s : S) where
  base_low : (es : List (Entry A)) → IsDone machine i g n s es → g ≤ latest g es
  base_low [] d = omega arith
  base_low (Own k o ∷ es) d = let l = base_low es d.4 in let m = d.3 in omega (arith, l, m)
  base_low (Input x ∷ es) d = let l = base_low es d.2 in let m = d.1 in omega (arith, l, m)

  pub below_base : (es : List (Entry A)) → IsDone machine i g n s es → below g es ≡ []
  below_base [] d = refl
  below_base (Own k o ∷ es) d = below_past g (Own k o) es (base_low (Own k o ∷ es) d) ∙ below_base es d.4
  below_base (Input x ∷ es) d = below_past g (Input x) es (base_low (Input x ∷ es) d) ∙ below_base es d.2

  pub from_base : (es : List (Entry A)) → IsDone machine i g n s es → from g es ≡ es
  from_base [] d = refl
  from_base (Own k o ∷ es) d = from_past g (Own k o) es (base_low (Own k o ∷ es) d) ∙ ap (λ fs. Own k o ∷ fs) (from_base es d.4)
  from_base (Input x ∷ es) d = from_past g (Input x) es (base_low (Input x ∷ es) d) ∙ ap (λ fs. Input x ∷ fs) (from_base es d.2)

pub cut_nothing : {S A : Type 0} (machine : Machine S A) (i g : ℕ) (r : Record S A) → IsDone machine i g r.first r.base r.done → cut_of machine i g r ≡ r
cut_nothing machine i g r d =
    λ v. record {
      base = replay machine i r.base (below_base machine i g r.first r.base r.done d v);
      first = number r.first (below_base machine i g r.first r.base r.done d v);
      done = from_base machine i g r.first r.base r.done d v;
      pending = r.pending;
      owed = r.owed;
    }

-- what a function leaves as it is, it leaves in a list
map_same : {X : Type 0} (f : X → X) (xs : List X) → ((q : ℕ) (x : X) → slice_get xs q ≡ Some x → f x ≡ x) → map f xs ≡ xs
map_same f [] each = refl
map_same f (x ∷ xs) each = ap (λ y. y ∷ map f xs) (each 0 x refl) ∙ ap (λ ys. x ∷ ys) (map_same f xs (λ q y at. each (suc q) y at))

set_same : {X : Type 0} (xs : List X) (n : ℕ) (x : X) → slice_get xs n ≡ Some x → slice_set xs n x ≡ xs
set_same [] n x e = refl
set_same (y ∷ ys) zero x e = ap (λ z. z ∷ ys) (sym (one_some y x e))
set_same (y ∷ ys) (suc n) x e = ap (λ zs. y ∷ zs) (set_same ys n x e)

-- no turns
abbrev no_turns : Around Turned
no_turns = record { before = []; after = [] }

replicated : {X : Type 0} (n : ℕ) (x : X) (q : ℕ) → q < n → slice_get (replicate n x) q ≡ Some x
replicated zero x q h = absurd (omega (arith, h))
replicated (suc n) x zero h = refl
replicated (suc n) x (suc q) h = replicated n x q (omega (arith, h))

one_of_many : {X : Type 0} (n : ℕ) (x y : X) (q : ℕ) → slice_get (replicate n x) q ≡ Some y → y ≡ x
one_of_many zero x y q e = absurd (none_some y e)
one_of_many (suc n) x y zero e = sym (one_some x y e)
one_of_many (suc n) x y (suc q) e = one_of_many n x y q e

long : {X : Type 0} (n : ℕ) (x : X) → length (replicate n x) ≡ n
long zero x = refl
long (suc n) x = ap suc (long n x)

module _ {T : Type 0} (turn_of : T → ℕ → ℕ → Option Turn) (bound : Bound) (cs : List (ComponentView (Setup T))) where
  -- each component's record is as it has to be at the bound, which is its base
  pub have_nothing : ((q : ℕ) (c : ComponentView (Setup T)) → slice_get cs q ≡ Some c → (c.base ≡ bound) × IsDone (machine_of turn_of c.setup) c.number (rank_of_bound bound) c.history.first c.history.base c.history.done) → HaveNothing turn_of bound cs
  have_nothing each = record {
    cut = map_same (cut_to turn_of bound) cs (λ q c at. let is = each q c at in λ v. record c { base = sym is.0 v; history = cut_nothing (machine_of turn_of c.setup) c.number (rank_of_bound bound) c.history is.1 v });
    none = λ q c at. let is = each q c at in below_base (machine_of turn_of c.setup) c.number (rank_of_bound bound) c.history.first c.history.base c.history.done is.1;
  }

  -- so nothing comes into the queues
  pub nothing_taken : (held : List (List Turned)) → HaveNothing turn_of bound cs → ((q : ℕ) (c : ComponentView (Setup T)) → slice_get cs q ≡ Some c → c.number < length held) → AreTakenIn turn_of bound cs held held
  nothing_taken held nothing there =
      record {
        lists = replicate (length cs) no_turns;
        given = record {
          many = long (length cs) no_turns;
          each = λ q c turns at found. let none = one_of_many (length cs) no_turns turns q found in
              record {
                front = ap (λ (a : Around Turned). a.before) none;
                turns = ap (λ (a : Around Turned). map taken_turn a.after) none ∙ sym (ap (λ es. onto (turns_among es) []) (nothing.none q c at));
              };
        };
        put = subst (λ ds. HavePutTo ds (replicate (length cs) no_turns) (length ds) held held) (sym nothing.cut) (put_none (length cs) (omega arith));
      }
    where
      put_none : (n : ℕ) → n ≤ length cs → HavePutTo cs (replicate (length cs) no_turns) n held held
      put_none zero few = refl
      put_none (suc n) few =
          let here = get_there cs n (omega (arith, few)) in
          let its = get_there held here.0.number (there n here.0 here.1) in (
            held,
            put_none n (omega (arith, few)),
            record {
              c = here.0;
              there = here.1;
              turns = no_turns;
              list = replicated (length cs) no_turns n (omega (arith, few));
              put = record { before = its.0; after = its.0; there = its.1; put = refl; all = sym (set_same held here.0.number its.0 its.1) };
            },
          )
