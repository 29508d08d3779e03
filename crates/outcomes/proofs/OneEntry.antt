-- The enabled actions of a task of one entry.
use Rattle.std.specs.Prelude.{◌≡◌, ℕ, ◌<◌, ◌%◌, true, false, List, [], ◌∷◌, length, get_or, slice_get, None, Some, refl}
use Rattle.std.specs.List.{flat_map}
use Rattle.std.proofs.Common.{arith, ap, sym, subst, ◌∙◌}
use Rattle.std.proofs.lemmas.List.{append-nil}
use Rattle.std.proofs.lemmas.Nat.{mod_below}
use Rattle.terms.specs.Datum.{Datum}
use Rattle.io_automata.specs.Automata.{Transition}
use Rattle.io_automata.specs.Outcomes.{enabled_by, named}
use Rattle.io_automata.specs.Steps.{holds}
use Rattle.io_automata.specs.Tuples.{many, tuple_at, enabled_in}
use Rattle.outcomes.specs.Alike.{alike, number_or_none}
use Rattle.outcomes.specs.Tasks.{IsTask, AreAlike, entries_of, enabled_of_task}
use Rattle.outcomes.specs.declared.task.Task.{Task}
use Rattle.outcomes.proofs.AllOrNone.{all_or_none, alike_found, counted, none_of, tells_there, unasked}

-- what the numbers tell of the entry at a place
pub told_there : (task : Task) (place number : ℕ) (numbers : List ℕ) (entry : Transition) → IsTask task → numbers ≡ task.known.now.numbers.items → number ≡ number_or_none (slice_get numbers place) → Some entry ≡ slice_get (entries_of task) place → number ≡ alike entry
told_there task place number numbers entry is all number_is at = tells_there (entries_of task) numbers place number (Some entry) (all ∙ is.known.told) number_is at

-- each has some, where no condition mentions a parameter
pub some_there : (task : Task) (k number : ℕ) (numbers : List ℕ) → AreAlike task → k < length task.places.now → numbers ≡ task.known.now.numbers.items → number ≡ number_or_none (slice_get numbers (get_or task.places.now k 0)) → 0 < number
some_there task k number numbers are below all is = subst (λ (n : ℕ). 0 < n) (sym (is ∙ ap (λ ns. number_or_none (slice_get ns (get_or task.places.now k 0))) all)) (are k below)

one_place : {X : Type 0} (f : ℕ → List X) (places : List ℕ) (d : ℕ) → length places ≡ 1 → flat_map f places ≡ f (get_or places 0 d)
one_place f [] d long = absurd (omega (arith, long))
one_place f (place ∷ []) d long = append-nil (f place)
one_place f (place ∷ other ∷ places) d long = absurd (omega (arith, long))

-- of a task of one entry whose condition mentions no parameter: what is known of it
module _ (task : Task) (choice : ℕ) (state : List Datum) (numbers : List ℕ) (entry : Transition) (number : ℕ) (is : IsTask task) (long : length task.places.now ≡ 1) (all : numbers ≡ task.known.now.numbers.items) (number_is : number ≡ number_or_none (slice_get numbers (get_or task.places.now 0 0))) (some : 0 < number) (at : Some entry ≡ slice_get (entries_of task) (get_or task.places.now 0 0)) where
  told : number ≡ alike entry
  told = told_there task (get_or task.places.now 0 0) number numbers entry is all number_is at

  same : enabled_by task.formals.now state (Some entry) ≡ enabled_of_task task state
  same =
      ap (enabled_by task.formals.now state) at
      ∙ sym (one_place (enabled_in task.entries.now task.formals.now state) task.places.now 0 long)

  -- the number is that of its tuples
  pub one_counted : number ≡ many entry.params
  one_counted = counted entry number told some

  -- where the condition does not hold, the turn is idle
  pub one_idle : false ≡ holds entry task.formals.now state [] → None ≡ slice_get (enabled_of_task task state) (choice % length (enabled_of_task task state))
  one_idle holding =
      let none = all_or_none entry task.formals.now state false 0 (unasked entry number told some) holding refl in
      none_of (enabled_by task.formals.now state (Some entry)) 0 (choice % length (enabled_of_task task state)) none refl
      ∙ ap (λ xs. slice_get xs (choice % length (enabled_of_task task state))) same

  -- and else it takes the action of a tuple
  pub one_acts : true ≡ holds entry task.formals.now state [] → Some (named entry.name (tuple_at task.formals.now entry.params (choice % number))) ≡ slice_get (enabled_of_task task state) (choice % length (enabled_of_task task state))
  one_acts holding =
      let quiet = unasked entry number told some in
      let whole = all_or_none entry task.formals.now state true number quiet holding one_counted in
      let found = alike_found entry task.formals.now state number (choice % number) quiet whole (mod_below choice number some) in
      found.1
      ∙ ap (λ (n : ℕ). slice_get (enabled_by task.formals.now state (Some entry)) (choice % n)) whole
      ∙ ap (λ xs. slice_get xs (choice % length xs)) same
