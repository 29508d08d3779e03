-- What was found of a task: which actions it stands for, and how many.
use Rattle.std.specs.Prelude.{◌≡◌, ◌⊎◌, ℕ, zero, suc, ◌+◌, ◌-◌, ◌%◌, ◌<◌, ◌≤◌, Bool as Truth, true, false, cond, List, [], ◌∷◌, ◌++◌, map, filter, length, take, get_or, slice_get, None, Some, refl}
use Rattle.std.specs.List.{flat_map, range_with_len}
use Rattle.std.proofs.Common.{arith, ap, sym, ◌∙◌, subst, inl, inr, append_assoc}
use Rattle.std.proofs.lemmas.Bool.{cases_lt}
use Rattle.std.proofs.lemmas.Grind.{flat_map-append}
use Rattle.std.proofs.lemmas.List.{append-nil, map-append, length-append, map_more}
use Rattle.std.proofs.lemmas.List.FromFn.{length-map-range_with_len, map-range_with_len_more}
use Rattle.std.proofs.Math.Seq.{take-append_seam}
use Rattle.std.proofs.lemmas.Nat.{mod_below}
use Rattle.std.proofs.lemmas.Option.{none-some}
use Rattle.conditions.specs.Conditions.{IsSolved}
use Rattle.conditions.specs.declared.condition.Condition.{Condition}
use Rattle.io_automata.specs.Automata.{Transition, transition_of}
use Rattle.io_automata.specs.Outcomes.{enabled_by, named, tuples}
use Rattle.io_automata.specs.Steps.{holds}
use Rattle.io_automata.specs.Tuples.{many, tuple_at, enabled_in}
use Rattle.io_automata.specs.declared.automaton.Entry.{Entry}
use Rattle.io_automata.specs.declared.automaton.Param.{Param}
use Rattle.io_automata.specs.declared.automaton.Param.TheVariants.{Const, Member, Between, Whole}
use Rattle.outcomes.specs.Alike.{alike}
use Rattle.outcomes.specs.Solving.{places_in}
use Rattle.outcomes.specs.Tasks.{IsSolvedBy, AreSolved, IsTask, IsFound, AreFound, entries_of, made_of, made_by, placed}
use Rattle.outcomes.specs.declared.spans.Found.{Found}
use Rattle.outcomes.specs.declared.spans.Span.{Span}
use Rattle.outcomes.specs.declared.task.Task.{Task}
use Rattle.outcomes.proofs.AllOrNone.{kept_alike, holds_alike, unasked, counted}
use Rattle.outcomes.proofs.Chosen.{get_within, get_past}
use Rattle.outcomes.proofs.Placed.{positive, tuples_length, tuple_there}
use Rattle.terms.specs.Datum.{Datum}
use Rattle.terms.specs.Named.{Named}
use Rattle.terms.specs.Shapes.{count}
use Rattle.terms.specs.declared.scalar.Scalar.{Scalar}

same_in : {X : Type 0} (a b : X) → Some a ≡ Some b → a ≡ b
same_in a b e = cc

-- one condition more is solved
pub solved_more : (ts : List Transition) (t : Transition) (conditions : List Condition) (condition : Condition) → AreSolved ts conditions → length conditions ≡ length ts → IsSolved t.precondition condition → AreSolved (ts ++ t ∷ []) (conditions ++ condition ∷ [])
solved_more [] t [] condition are long is zero entry there = subst (λ (e : Transition). IsSolved e.precondition condition) (same_in t entry there) is
solved_more [] t [] condition are long is (suc place) entry there = absurd (none-some entry there)
solved_more [] t (c ∷ cs) condition are long is place entry there = absurd (omega (arith, long))
solved_more (u ∷ us) t [] condition are long is place entry there = absurd (omega (arith, long))
solved_more (u ∷ us) t (c ∷ cs) condition are long is zero entry there = are zero entry there
solved_more (u ∷ us) t (c ∷ cs) condition are long is (suc place) entry there = solved_more us t cs condition (λ p e at. are (suc p) e at) (omega (arith, long)) is place entry there

first_length : (entries : List Entry) (k : ℕ) → k ≤ length entries → length (map transition_of (take k entries)) ≡ k
first_length [] zero few = refl
first_length [] (suc k) few = absurd (omega (arith, few))
first_length (entry ∷ entries) zero few = refl
first_length (entry ∷ entries) (suc k) few = ap suc (first_length entries k (omega (arith, few)))

-- that of the next entry
pub solved_next : (entries : List Entry) (old new : List Condition) (k : ℕ) (item : Entry) (condition : Condition) → k < length entries → get_or entries k item ≡ item → AreSolved (map transition_of (take k entries)) old → length old ≡ k → IsSolved (transition_of item).precondition condition → new ≡ old ++ condition ∷ [] → AreSolved (map transition_of (take (k + 1) entries)) new
solved_next entries old new k item condition below there are long is new_is =
    let first = first_length entries k (omega (arith, below)) in
    let more : map transition_of (take (k + 1) entries) ≡ map transition_of (take k entries) ++ transition_of item ∷ [] = map_more transition_of entries k item below ∙ ap (λ e. map transition_of (take k entries) ++ transition_of e ∷ []) there in
    let same : length old ≡ length (map transition_of (take k entries)) = long ∙ sym first in
    subst (λ ts. AreSolved ts new) (sym more) (subst (AreSolved (map transition_of (take k entries) ++ transition_of item ∷ [])) (sym new_is) (solved_more (map transition_of (take k entries)) (transition_of item) old condition are same is))

pub longer : {X : Type 0} (old new : List X) (x : X) (k : ℕ) → length old ≡ k → new ≡ old ++ x ∷ [] → length new ≡ k + 1
longer old new x k long is =
    let all = ap length is ∙ length-append old (x ∷ []) in
    omega (arith, all, long)

-- the entry at a place has a condition that is solved
pub solved_there : (entries : List Transition) (conditions : List Condition) (place : ℕ) (entry : Transition) (condition : Condition) → AreSolved entries conditions → slice_get entries place ≡ Some entry → slice_get conditions place ≡ Some condition → IsSolved entry.precondition condition
solved_there entries conditions place entry condition are at there = subst (IsSolvedBy entry) there (are place entry at)

pub solved_somewhere : (entries : List Transition) (conditions : List Condition) (place : ℕ) (entry : Transition) → AreSolved entries conditions → slice_get entries place ≡ Some entry → slice_get conditions place ≡ None → ⊥
solved_somewhere entries conditions place entry are at there = subst (IsSolvedBy entry) there (are place entry at)

-- a list by the number of each place
listed : {X : Type 0} (f : ℕ → X) (d : X) (xs : List X) (from : ℕ) → ((k : ℕ) → k < length xs → get_or xs k d ≡ f (from + k)) → xs ≡ map f (range_with_len from (length xs))
listed f d [] from each = refl
listed f d (x ∷ xs) from each =
    let first : from + 0 ≡ from = omega arith in
    (λ i. (each 0 (omega arith) ∙ ap f first) i ∷ listed f d xs (from + 1) (λ k below. each (suc k) (omega (arith, below)) ∙ ap f (shifted k)) i) where
      shifted : (k : ℕ) → from + suc k ≡ from + 1 + k
      shifted k = omega arith

-- the tuples by their places
pub all_tuples : (formals : List Scalar) (entry : Transition) → tuples formals entry.params ≡ map (tuple_at formals entry.params) (range_with_len 0 (many entry.params))
all_tuples formals entry =
    let long = tuples_length formals entry.params in
    listed (tuple_at formals entry.params) [] (tuples formals entry.params) 0 (λ k below. tuple_there formals entry.params k [] (omega (arith, below, long)) ∙ ap (tuple_at formals entry.params) (first k))
    ∙ ap (λ (n : ℕ). map (tuple_at formals entry.params) (range_with_len 0 n)) long where
      first : (k : ℕ) → k ≡ 0 + k
      first k = omega arith

kept_of : {X Y : Type 0} (test : Y → Truth) (f : X → Y) (xs : List X) → map f (filter (λ x. test (f x)) xs) ≡ filter test (map f xs)
kept_of test f [] = refl
kept_of {X} {Y} test f (x ∷ xs) = go (test (f x)) ∙ ap (λ ys. cond (test (f x)) (f x ∷ ys) ys) (kept_of test f xs) where
  go : (b : Truth) → map f (cond b (x ∷ filter (λ x. test (f x)) xs) (filter (λ x. test (f x)) xs)) ≡ cond b (f x ∷ map f (filter (λ x. test (f x)) xs)) (map f (filter (λ x. test (f x)) xs))
  go true = refl
  go false = refl

twice : {X Y Z : Type 0} (g : Y → Z) (f : X → Y) (xs : List X) → map (λ x. g (f x)) xs ≡ map g (map f xs)
twice g f [] = refl
twice g f (x ∷ xs) = ap (λ ys. g (f x) ∷ ys) (twice g f xs)

-- the enabled actions of an entry by the places of its tuples
pub enabled_is : (entry : Transition) (formals : List Scalar) (state : List Datum) → map (λ at. named entry.name (tuple_at formals entry.params at)) (filter (λ at. holds entry formals state (tuple_at formals entry.params at)) (range_with_len 0 (many entry.params))) ≡ enabled_by formals state (Some entry)
enabled_is entry formals state =
    let tuple = tuple_at formals entry.params in
    let kept = filter (λ at. holds entry formals state (tuple at)) (range_with_len 0 (many entry.params)) in
    twice (named entry.name) tuple kept
    ∙ ap (map (named entry.name)) (kept_of (holds entry formals state) tuple (range_with_len 0 (many entry.params)))
    ∙ sym (ap (λ ts. map (named entry.name) (filter (holds entry formals state) ts)) (all_tuples formals entry))

module _ (task : Task) (place : ℕ) (entry : Transition) (there : slice_get (entries_of task) place ≡ Some entry) where
  made_span : (from count : ℕ) → made_by task.formals.now (slice_get (entries_of task) place) from count ≡ map (λ at. named entry.name (tuple_at task.formals.now entry.params at)) (range_with_len from count)
  made_span from count = ap (λ e. made_by task.formals.now e from count) there

  spans_are : (spans : List Span) → flat_map (made_of task) (map (placed place) spans) ≡ map (λ at. named entry.name (tuple_at task.formals.now entry.params at)) (places_in spans)
  spans_are [] = refl
  spans_are (span ∷ spans) =
      (λ i. made_span span.from span.count i ++ spans_are spans i)
      ∙ sym (map-append (λ at. named entry.name (tuple_at task.formals.now entry.params at)) (range_with_len span.from span.count) (places_in spans))

  -- the actions of its spans
  pub spans_made : (state : List Datum) (spans : List Span) → places_in spans ≡ filter (λ at. holds entry task.formals.now state (tuple_at task.formals.now entry.params at)) (range_with_len 0 (many entry.params)) → flat_map (made_of task) (map (placed place) spans) ≡ enabled_in task.entries.now task.formals.now state place
  spans_made state spans are =
      spans_are spans
      ∙ ap (map (λ at. named entry.name (tuple_at task.formals.now entry.params at))) are
      ∙ enabled_is entry task.formals.now state
      ∙ sym (ap (enabled_by task.formals.now state) there)

  -- spans are added
  pub spans_added : (state : List Datum) (spans : List Span) (old new : List Found) → places_in spans ≡ filter (λ at. holds entry task.formals.now state (tuple_at task.formals.now entry.params at)) (range_with_len 0 (many entry.params)) → new ≡ old ++ map (placed place) spans → flat_map (made_of task) new ≡ flat_map (made_of task) old ++ enabled_in task.entries.now task.formals.now state place
  spans_added state spans old new are is =
      ap (flat_map (made_of task)) is
      ∙ flat_map-append (made_of task) old (map (placed place) spans)
      ∙ ap (λ xs. flat_map (made_of task) old ++ xs) (spans_made state spans are)

  -- of an entry whose condition mentions no parameter all tuples are enabled
  pub all_added : (state : List Datum) (number : ℕ) (old new : List Found) → number ≡ alike entry → 0 < number → true ≡ holds entry task.formals.now state [] → new ≡ old ++ (record { place = place; from = 0; count = number }) ∷ [] → flat_map (made_of task) new ≡ flat_map (made_of task) old ++ enabled_in task.entries.now task.formals.now state place
  all_added state number old new told some holding is =
      let quiet = unasked entry number told some in
      let one : Found = record { place = place; from = 0; count = number } in
      ap (flat_map (made_of task)) is
      ∙ flat_map-append (made_of task) old (one ∷ [])
      ∙ ap (λ xs. flat_map (made_of task) old ++ xs) (append-nil (made_of task one))
      ∙ ap (λ xs. flat_map (made_of task) old ++ xs) (made_span 0 number)
      ∙ ap (λ (n : ℕ). flat_map (made_of task) old ++ map (λ at. named entry.name (tuple_at task.formals.now entry.params at)) (range_with_len 0 n)) (counted entry number told some)
      ∙ ap (λ xs. flat_map (made_of task) old ++ xs) (twice (named entry.name) (tuple_at task.formals.now entry.params) (range_with_len 0 (many entry.params)))
      ∙ sym (ap (λ ts. flat_map (made_of task) old ++ map (named entry.name) ts) (all_tuples task.formals.now entry))
      ∙ sym (ap (λ ts. flat_map (made_of task) old ++ map (named entry.name) ts) (kept_alike (holds entry task.formals.now state) true (λ args. holds_alike entry task.formals.now state args quiet ∙ sym holding) (tuples task.formals.now entry.params)))
      ∙ sym (ap (λ e. flat_map (made_of task) old ++ enabled_by task.formals.now state e) there)

  -- or none
  pub none_added : (state : List Datum) (number : ℕ) (old : List Found) → number ≡ alike entry → 0 < number → false ≡ holds entry task.formals.now state [] → flat_map (made_of task) old ≡ flat_map (made_of task) old ++ enabled_in task.entries.now task.formals.now state place
  none_added state number old told some holding =
      let quiet = unasked entry number told some in
      sym (append-nil (flat_map (made_of task) old))
      ∙ sym (ap (λ ts. flat_map (made_of task) old ++ map (named entry.name) ts) (kept_alike (holds entry task.formals.now state) false (λ args. holds_alike entry task.formals.now state args quiet ∙ sym holding) (tuples task.formals.now entry.params)))
      ∙ sym (ap (λ e. flat_map (made_of task) old ++ enabled_by task.formals.now state e) there)

-- all numbers of a list are below a limit
abbrev AreBelow : ℕ → List ℕ → Type 0
AreBelow limit [] = limit ≡ limit
AreBelow limit (x ∷ xs) = (x < limit) × AreBelow limit xs

below_range : (limit from count : ℕ) → from + count ≤ limit → AreBelow limit (range_with_len from count)
below_range limit from zero few = refl
below_range limit from (suc n) few = (omega (arith, few), below_range limit (from + 1) n (omega (arith, few)))

below_kept : (limit : ℕ) (test : ℕ → Truth) (xs : List ℕ) → AreBelow limit xs → AreBelow limit (filter test xs)
below_kept limit test [] are = refl
below_kept limit test (x ∷ xs) are = go (below_kept limit test xs are.1) (test x) where
  go : AreBelow limit (filter test xs) → (b : Truth) → AreBelow limit (cond b (x ∷ filter test xs) (filter test xs))
  go rest true = (are.0, rest)
  go rest false = rest

below_left : (limit : ℕ) (xs ys : List ℕ) → AreBelow limit (xs ++ ys) → AreBelow limit xs
below_left limit [] ys are = refl
below_left limit (x ∷ xs) ys are = (are.0, below_left limit xs ys are.1)

below_right : (limit : ℕ) (xs ys : List ℕ) → AreBelow limit (xs ++ ys) → AreBelow limit ys
below_right limit [] ys are = are
below_right limit (x ∷ xs) ys are = below_right limit xs ys are.1

below_there : (limit from count j : ℕ) → AreBelow limit (range_with_len from count) → j < count → from + j < limit
below_there limit from zero j are less = absurd (omega (arith, less))
below_there limit from (suc n) zero are less = let first = are.0 in omega (arith, first)
below_there limit from (suc n) (suc j) are less = let rest = below_there limit (from + 1) n j are.1 (omega (arith, less)) in omega (arith, rest)

one_found : (task : Task) (place : ℕ) (entry : Transition) → slice_get (entries_of task) place ≡ Some entry → (span : Span) → AreBelow (many entry.params) (range_with_len span.from span.count) → IsFound task (placed place span)
one_found task place entry there span are = record { entry = entry; there = there; few = λ j less. below_there (many entry.params) span.from span.count j are less }

all_are_found : (task : Task) (place : ℕ) (entry : Transition) → slice_get (entries_of task) place ≡ Some entry → (spans : List Span) → AreBelow (many entry.params) (places_in spans) → AreFound task (map (placed place) spans)
all_are_found task place entry there [] are k found at = absurd (none-some found at)
all_are_found task place entry there (span ∷ spans) are zero found at = subst (IsFound task) (same_in (placed place span) found at) (one_found task place entry there span (below_left (many entry.params) (range_with_len span.from span.count) (places_in spans) are))
all_are_found task place entry there (span ∷ spans) are (suc k) found at = all_are_found task place entry there spans (below_right (many entry.params) (range_with_len span.from span.count) (places_in spans) are) k found at

pub both_found : (task : Task) (old more : List Found) → AreFound task old → AreFound task more → AreFound task (old ++ more)
both_found task old more are others k found at = go (cases_lt k (length old)) where
  go : (k < length old) ⊎ (length old ≤ k) → IsFound task found
  go (inl h) = are k found (sym (get_within old more k h) ∙ at)
  go (inr h) = others (k - length old) found (sym (get_past old more k h) ∙ at)

pub spans_found : (task : Task) (place : ℕ) (entry : Transition) (state : List Datum) (spans : List Span) (old new : List Found) → slice_get (entries_of task) place ≡ Some entry → places_in spans ≡ filter (λ at. holds entry task.formals.now state (tuple_at task.formals.now entry.params at)) (range_with_len 0 (many entry.params)) → new ≡ old ++ map (placed place) spans → AreFound task old → AreFound task new
spans_found task place entry state spans old new there are new_is found =
    let limit = many entry.params in
    let kept = below_kept limit (λ at. holds entry task.formals.now state (tuple_at task.formals.now entry.params at)) (range_with_len 0 limit) (below_range limit 0 limit (omega arith)) in
    subst (AreFound task) (sym new_is) (both_found task old (map (placed place) spans) found (all_are_found task place entry there spans (subst (AreBelow limit) (sym are) kept)))

-- what stands at a place among what was found
pub found_there : (task : Task) (founds : List Found) (k : ℕ) (d : Found) → AreFound task founds → k < length founds → IsFound task (get_or founds k d)
found_there task founds k d are below = are k (get_or founds k d) (there founds k d below) where
  there : (xs : List Found) (k : ℕ) (d : Found) → k < length xs → slice_get xs k ≡ Some (get_or xs k d)
  there [] k d less = absurd (omega (arith, less))
  there (x ∷ xs) zero d less = refl
  there (x ∷ xs) (suc k) d less = there xs k d (omega (arith, less))

-- as many actions as it says
pub made_length : (task : Task) (found : Found) → IsFound task found → length (made_of task found) ≡ found.count
made_length task found is =
    ap (λ e. length (made_by task.formals.now e found.from found.count)) is.there
    ∙ length-map-range_with_len (λ at. named is.entry.name (tuple_at task.formals.now is.entry.params at)) found.from found.count

number_there : {X : Type 0} (f : ℕ → X) (from count k : ℕ) → k < count → slice_get (map f (range_with_len from count)) k ≡ Some (f (from + k))
number_there f from zero k less = absurd (omega (arith, less))
number_there f from (suc n) zero less = let same : from ≡ from + 0 = omega arith in ap (λ (m : ℕ). Some (f m)) same
number_there f from (suc n) (suc k) less =
    let same : from + 1 + k ≡ from + suc k = omega arith in
    number_there f (from + 1) n k (omega (arith, less)) ∙ ap (λ (m : ℕ). Some (f m)) same

-- the action at a place of it
pub made_there : (task : Task) (found : Found) (entry : Transition) (left : ℕ) → slice_get (entries_of task) found.place ≡ Some entry → left < found.count → Some (named entry.name (tuple_at task.formals.now entry.params (found.from + left))) ≡ slice_get (made_of task found) left
made_there task found entry left there less =
    sym (ap (λ e. slice_get (made_by task.formals.now e found.from found.count) left) there
    ∙ number_there (λ at. named entry.name (tuple_at task.formals.now entry.params at)) found.from found.count left less)

-- and it is a tuple of the entry
pub few_there : (task : Task) (found : Found) (entry : Transition) (left : ℕ) → IsFound task found → slice_get (entries_of task) found.place ≡ Some entry → left < found.count → found.from + left < many entry.params
few_there task found entry left is there less = subst (λ (e : Transition). found.from + left < many e.params) (same_in is.entry entry (sym is.there ∙ there)) (is.few left less)

-- one action more of a span
pub made_next : (f : ℕ → Named) (first old new : List Named) (from at : ℕ) → from ≤ at → old ≡ first ++ map f (range_with_len from (at - from)) → new ≡ old ++ f at ∷ [] → new ≡ first ++ map f (range_with_len from (at + 1 - from))
made_next f first old new from at past before after =
    let one : from + (at - from) ≡ at = omega (arith, past) in
    let more : at - from + 1 ≡ at + 1 - from = omega (arith, past) in
    after
    ∙ ap (λ xs. xs ++ f at ∷ []) before
    ∙ append_assoc first (map f (range_with_len from (at - from))) (f at ∷ [])
    ∙ sym (ap (λ xs. first ++ xs) (map-range_with_len_more f from (at - from) at one))
    ∙ ap (λ (n : ℕ). first ++ map f (range_with_len from n)) more

-- a tuple has a value for each parameter
pub tuple_long : (formals : List Scalar) (params : List Param) (at : ℕ) → at < many params → length (tuple_at formals params at) ≡ length params
tuple_long formals [] at below = refl
tuple_long formals (Const n ∷ params) at below = ap suc (tuple_long formals params at below)
tuple_long formals (Member listed ∷ params) at below = ap suc (tuple_long formals params (at % many params) (mod_below at (many params) (positive (many params) (count listed) at below)))
tuple_long formals (Between low high ∷ params) at below = absurd (omega (arith, below))
tuple_long formals (Whole ∷ params) at below = absurd (omega (arith, below))

-- the condition that is known of the entry at a place
pub solved_known : (task : Task) (place : ℕ) (conditions : List Condition) (entry : Transition) (condition : Condition) → IsTask task → conditions ≡ task.known.now.conditions.items → Some entry ≡ slice_get (entries_of task) place → Some condition ≡ slice_get conditions place → IsSolved entry.precondition condition
solved_known task place conditions entry condition is all at there = solved_there (entries_of task) conditions place entry condition (subst (AreSolved (entries_of task)) (sym all) is.known.solved) (sym at) (sym there)

pub unsolved_known : (task : Task) (place : ℕ) (conditions : List Condition) (entry : Transition) → IsTask task → conditions ≡ task.known.now.conditions.items → Some entry ≡ slice_get (entries_of task) place → None ≡ slice_get conditions place → ⊥
unsolved_known task place conditions entry is all at there = solved_somewhere (entries_of task) conditions place entry (subst (AreSolved (entries_of task)) (sym all) is.known.solved) (sym at) (sym there)

-- what is written over a whole list is all of it
pub written : (new rest : List Scalar) (len : ℕ) → length new ≡ len → take len (new ++ rest) ≡ new
written new rest len long = ap (λ (n : ℕ). take n (new ++ rest)) (sym long) ∙ take-append_seam new rest

pub from_first : (xs ys : List Scalar) → take 0 xs ++ ys ≡ ys
from_first [] ys = refl
from_first (x ∷ xs) ys = refl

-- an action of a span is that of a tuple
pub at_there : (task : Task) (found : Found) (entry : Transition) (at : ℕ) → IsFound task found → slice_get (entries_of task) found.place ≡ Some entry → found.from ≤ at → at < found.from + found.count → at < many entry.params
at_there task found entry at is there past less =
    let few = few_there task found entry (at - found.from) is there (omega (arith, past, less)) in
    omega (arith, few, past)
