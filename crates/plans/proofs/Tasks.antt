-- A task of a component: where it stands in the code, and what is enabled of it.
use Rattle.std.specs.Prelude.{◌≡◌, ℕ, zero, suc, ◌<◌, ◌≤◌, List, [], ◌∷◌, map, length, get_or, slice_get, None, Some, refl}
use Rattle.std.specs.List.{flat_map}
use Rattle.std.specs.declared.vec.Vec.{Vec}
use Rattle.std.specs.Global.{Global}
use Rattle.std.proofs.Common.{arith, ap, sym, ◌∙◌, subst}
use Rattle.terms.specs.Datum.{Datum}
use Rattle.io_automata.specs.Automata.{Instance, component_at, composed, items_in, placed, transition_of, with_formals}
use Rattle.io_automata.specs.Outcomes.{enabled_at, enabled_by, enabled_of, task_of}
use Rattle.io_automata.specs.WellFormed.{IsWellFormed}
use Rattle.io_automata.specs.declared.automaton.Automaton.{Automaton}
use Rattle.io_automata.specs.declared.automaton.Component.{Component}
use Rattle.outcomes.specs.Tasks.{IsKnown, enabled_of_task, entries_of}
use Rattle.outcomes.specs.declared.task.Known.{Known}
use Rattle.outcomes.specs.declared.task.Task.{Task}
use Rattle.plans.specs.Known.{AreKnown, IsKnownBy, IsTaskOf}
use Rattle.plans.specs.Plans.{component_found, instance_in}

-- what a look-up by a place finds
pub found_there : {X : Type 0} (xs : List X) (n : ℕ) (x : X) → n < length xs → x ≡ get_or xs n x → Some x ≡ slice_get xs n
found_there [] n x below is = absurd (omega (arith, below))
found_there (y ∷ ys) zero x below is = ap Some is
found_there (y ∷ ys) (suc n) x below is = found_there ys n x (omega (arith, below)) is

pub none_there : {X : Type 0} (xs : List X) (n : ℕ) → length xs ≤ n → None ≡ slice_get xs n
none_there [] n past = refl
none_there (y ∷ ys) zero past = absurd (omega (arith, past))
none_there (y ∷ ys) (suc n) past = none_there ys n (omega (arith, past))

module _ (automata : List Automaton) (components : List Component) (i number : ℕ) where
  abbrev tasks_of : Instance → List ℕ
  tasks_of x = get_or x.tasks number []

  -- there is no component
  pub no_component : None ≡ slice_get components i → task_of (composed automata components) i number ≡ []
  no_component none = ap tasks_of (component_found automata components i ∙ ap (instance_in automata) (sym none))

  module _ (component : Component) (here : Some component ≡ slice_get components i) where
    at : component_at (composed automata components) i ≡ placed component.formals.items (slice_get automata component.automaton)
    at = component_found automata components i ∙ ap (instance_in automata) (sym here)

    -- there is no automaton
    pub no_automaton : None ≡ slice_get automata component.automaton → task_of (composed automata components) i number ≡ []
    no_automaton none = ap tasks_of (at ∙ ap (placed component.formals.items) (sym none))

    module _ (automaton : Automaton) (there : Some automaton ≡ slice_get automata component.automaton) where
      instance_is : component_at (composed automata components) i ≡ with_formals component.formals.items automaton
      instance_is = at ∙ ap (placed component.formals.items) (sym there)

      -- there is no task
      none_or : (tasks : List (Vec ℕ Global)) (k : ℕ) → None ≡ slice_get tasks k → get_or (map items_in tasks) k [] ≡ []
      none_or [] k none = refl
      none_or (task ∷ tasks) zero none = cc
      none_or (task ∷ tasks) (suc k) none = none_or tasks k none

      pub no_task : None ≡ slice_get automaton.tasks.items number → task_of (composed automata components) i number ≡ []
      no_task none = ap tasks_of instance_is ∙ none_or automaton.tasks.items number none

      some_or : (tasks : List (Vec ℕ Global)) (k : ℕ) (places : Vec ℕ Global) → Some places ≡ slice_get tasks k → get_or (map items_in tasks) k [] ≡ places.items
      some_or [] k places some = cc
      some_or (task ∷ tasks) zero places some = ap (λ (p : Vec ℕ Global). p.items) (one task places (sym some)) where
        one : (a b : Vec ℕ Global) → Some a ≡ Some b → a ≡ b
        one a b e = cc
      some_or (task ∷ tasks) (suc k) places some = some_or tasks k places some

      -- what is known stands there
      pub known_there : (known : List Known) → AreKnown automata known → IsKnownBy (map transition_of automaton.entries.items) (slice_get known component.automaton)
      known_there known all = all component.automaton automaton (sym there)

      -- the task
      pub task_is : (known : List Known) → AreKnown automata known → IsWellFormed (composed automata components) → (task : Task) → Some task.known.now ≡ slice_get known component.automaton → (places : Vec ℕ Global) → Some places ≡ slice_get automaton.tasks.items number → task.entries.now ≡ automaton.entries.items → task.formals.now ≡ component.formals.items → task.places.now ≡ places.items → IsTaskOf (composed automata components) i number task
      task_is known all formed task is_known places is_task entries_are formals_are places_are =
          let entries : (component_at (composed automata components) i).entries ≡ entries_of task = ap (λ (x : Instance). x.entries) instance_is ∙ ap (map transition_of) (sym entries_are) in
          record {
            known = record {
              known = subst (λ ts. IsKnown ts task.known.now) (ap (map transition_of) (sym entries_are)) (subst (IsKnownBy (map transition_of automaton.entries.items)) (sym is_known) (known_there known all));
              complete = λ place entry at k members found. formed.complete i place k entry members (ap (λ ts. slice_get ts place) entries ∙ at) found;
            };
            entries = entries;
            formals = ap (λ (x : Instance). x.formals) instance_is ∙ sym formals_are;
            places = ap tasks_of instance_is ∙ some_or automaton.tasks.items number places is_task ∙ sym places_are;
          }

-- what is enabled of the task is what is enabled of it in the composition
pub enabled_same : (all : List Instance) (i number : ℕ) (task : Task) (state : List Datum) → IsTaskOf all i number task → enabled_of_task task state ≡ enabled_of all i number state
enabled_same all i number task state is = λ j. flat_map (λ place. enabled_by (sym is.formals j) state (slice_get (sym is.entries j) place)) (sym is.places j)

pub nothing_enabled : (all : List Instance) (i number : ℕ) (state : List Datum) → task_of all i number ≡ [] → [] ≡ enabled_of all i number state
nothing_enabled all i number state none = sym (ap (flat_map (enabled_at all i state)) none)
