-- Ranges of seeds, one behind the other.
use Rattle.std.proofs.Common.{◌≡◌, ◌⊎◌, ℕ, Bool, true, false, true≢false, zero, suc, ◌+◌, ◌-◌, ◌<◌, ◌≤◌, List, inl, inr, refl, sym, subst, ◌∙◌, arith}
use Rattle.std.specs.Prelude.{Option, None, Some, Result, Ok, Err, IfErr, IfNone, IfOk, IfSome, MatchBool, OnOk}
use Rattle.std.proofs.lemmas.Bool.{cases_lt}
use Rattle.event_keys.specs.declared.outcome.Turned.{Turned}
use Rattle.compose.specs.Composed.{IsComposed}
use Rattle.plans.specs.declared.plan.Plan.{Plan}
use Rattle.task_seed.specs.Turning.{System}
use Rattle.trace.specs.Puts.{written_of}
use Rattle.trace.specs.declared.fault.WriteFault.{WriteFault}
use Rattle.hunt.specs.declared.fault.HuntFault.{HuntFault}
use Rattle.hunt.specs.declared.fault.HuntFault.TheVariants as fault
use Rattle.hunt.specs.declared.find.Find.{Find}
use Rattle.hunt.specs.declared.wanted.Wanted.{Wanted}
use Rattle.hunt.specs.Faults.{IsStoppedBy, IsUnhunted, IsUnseen}
use Rattle.hunt.specs.Hunts.{AllLack, AreSeeds, IsCount, IsFind, IsFound, IsLeast, IsNone, IsTold}
use Rattle.hunt.specs.Seeds.{Has, HasText, Hunted, IsSown, Lacks}
use Rattle.hunt.specs.Sightings.{IsShown, NeverOccurs}
use Rattle.hunt.specs.Wanted.{IsWanted}

module _ (h : Hunted) where
  -- no seed is in a range that is empty
  pub lack_none : (from end : ℕ) → end ≤ from → AllLack h from end
  lack_none from end low seed above below = absurd (omega arith)

  -- one more seed lacks it
  pub lack_more : (from seed : ℕ) → AllLack h from seed → Lacks h seed → AllLack h from (seed + 1)
  lack_more from seed before here k above below = go (cases_lt k seed) where
    go : (k < seed) ⊎ (seed ≤ k) → Lacks h k
    go (inl low) = before k above low
    go (inr high) = subst (Lacks h) (omega arith) here

  -- a shorter range lacks it too
  pub lack_shorter : (from middle end : ℕ) → middle ≤ end → AllLack h from end → AllLack h from middle
  lack_shorter from middle end low all seed above below = all seed above (omega arith)

  -- both ranges lack it
  pub lack_both : (from middle end : ℕ) → AllLack h from middle → AllLack h middle end → AllLack h from end
  lack_both from middle end low high k above below = go (cases_lt k middle) where
    go : (k < middle) ⊎ (middle ≤ k) → Lacks h k
    go (inl less) = low k above less
    go (inr more) = high k more below

  -- the least of the second range, where the first one lacks it, and of a longer one
  pub least_later : (from middle end seed : ℕ) (Holds : Plan → List Turned → Type 0) → from ≤ middle → AllLack h from middle → IsLeast h middle end seed Holds → IsLeast h from end seed Holds
  least_later from middle end seed Holds low lack is =
      let above = is.within in
      record { within = omega arith; below = is.below; has = is.has; first = lack_both from middle seed lack is.first }

  pub least_longer : (from middle end seed : ℕ) (Holds : Plan → List Turned → Type 0) → middle ≤ end → IsLeast h from middle seed Holds → IsLeast h from end seed Holds
  least_longer from middle end seed Holds low is =
      let under = is.below in
      record { within = is.within; below = omega arith; has = is.has; first = is.first }

  -- a seed that has it, where all before lack it
  pub found_here : (from end : ℕ) (find : Find) → from ≤ find.seed → find.seed < end → AllLack h from find.seed → HasText h find.seed find.text.items → IsFind h from end find
  found_here from end find above below before has = record { within = above; below = below; has = has; first = before }

  -- what is found in a range, where the one before lacks it; and in a longer one
  pub found_later : (from middle end : ℕ) → from ≤ middle → AllLack h from middle → (found : Option Find) → IsFound h middle end found → IsFound h from end found
  found_later from middle end low lack None is = lack_both from middle end lack is
  found_later from middle end low lack (Some find) is = least_later from middle end find.seed _ low lack is

  pub find_longer : (from middle end : ℕ) → middle ≤ end → (find : Find) → IsFind h from middle find → IsFind h from end find
  find_longer from middle end low find is = least_longer from middle end find.seed _ low is

  pub find_later : (from middle end : ℕ) → from ≤ middle → AllLack h from middle → (find : Find) → IsFind h middle end find → IsFind h from end find
  find_later from middle end low lack find is = least_later from middle end find.seed _ low lack is

  -- of no seeds none has it, and of one more as many or one more
  pub count_lacks : (from seed count : ℕ) → from ≤ seed → IsCount h from seed count → Lacks h seed → IsCount h from (seed + 1) count
  count_lacks from seed count low are lacks =
      let many : suc (seed - from) ≡ seed + 1 - from = omega arith in
      let last : seed ≡ from + (seed - from) = omega arith in
      subst (λ n. AreSeeds h from n count) many (inl (subst (Lacks h) last lacks, are))

  pub count_has : (from seed count : ℕ) → from ≤ seed → IsCount h from seed count → Has h seed (λ plan turns. Unit {0}) → IsCount h from (seed + 1) (count + 1)
  count_has from seed count low are has =
      let many : suc (seed - from) ≡ seed + 1 - from = omega arith in
      let last : seed ≡ from + (seed - from) = omega arith in
      subst (λ n. AreSeeds h from n (count + 1)) many (inr (subst (λ k. Has h k (λ plan turns. Unit {0})) last has, (count, are, omega arith)))

  pub count_none : (from end : ℕ) → end ≤ from → IsCount h from end 0
  count_none from end low =
      let none : 0 ≡ end - from = omega arith in
      subst (λ n. AreSeeds h from n 0) none refl

  -- the counts of two ranges, one behind the other
  seeds_joined : (from many more a b : ℕ) → AreSeeds h from many a → AreSeeds h (from + many) more b → AreSeeds h from (many + more) (a + b)
  seeds_joined from many zero a b low high =
      let sum : a ≡ a + b = omega (arith, high) in
      let all : many ≡ many + 0 = omega arith in
      subst (λ n. AreSeeds h from n (a + b)) all (subst (AreSeeds h from many) sum low)
  seeds_joined from many (suc more) a b low (inl (lacks, rest)) =
      let last : from + many + more ≡ from + (many + more) = omega arith in
      let all : suc (many + more) ≡ many + suc more = omega arith in
      subst (λ n. AreSeeds h from n (a + b)) all (inl (subst (Lacks h) last lacks, seeds_joined from many more a b low rest))
  seeds_joined from many (suc more) a b low (inr (has, (fewer, rest, is))) =
      let last : from + many + more ≡ from + (many + more) = omega arith in
      let sum : a + b ≡ suc (a + fewer) = omega (arith, is) in
      let all : suc (many + more) ≡ many + suc more = omega arith in
      subst (λ n. AreSeeds h from n (a + b)) all (inr (subst (λ k. Has h k (λ plan turns. Unit {0})) last has, (a + fewer, seeds_joined from many more a fewer low rest, sum)))

  pub count_joined : (from middle end a b : ℕ) → from ≤ middle → middle ≤ end → IsCount h from middle a → IsCount h middle end b → IsCount h from end (a + b)
  count_joined from middle end a b low high first second =
      let begin : middle ≡ from + (middle - from) = omega arith in
      let many : (middle - from) + (end - middle) ≡ end - from = omega arith in
      subst (λ n. AreSeeds h from n (a + b)) many (seeds_joined from (middle - from) (end - middle) a b first (subst (λ k. AreSeeds h k (end - middle) b) begin second))

  pub counts_joined : (from middle end a b sum : ℕ) → from ≤ middle → middle ≤ end → sum ≡ a + b → IsCount h from middle a → IsCount h middle end b → IsCount h from end sum
  counts_joined from middle end a b sum low high is first second = subst (IsCount h from end) (sym is) (count_joined from middle end a b low high first second)

  -- a seed that has it, whatever its turns
  pub has_any : (seed : ℕ) (Holds : Plan → List Turned → Type 0) → Has h seed Holds → Has h seed (λ plan turns. Unit {0})
  has_any seed Holds is = record { plan = is.plan; system = is.system; wanted = is.wanted; turns = is.turns; means = is.means; occurs = is.occurs; holds = tt }

  pub has_otherwise : (seed : ℕ) (P Q : Plan → List Turned → Type 0) → ((plan : Plan) (turns : List Turned) → P plan turns → Q plan turns) → Has h seed P → Has h seed Q
  has_otherwise seed P Q f is = record { plan = is.plan; system = is.system; wanted = is.wanted; turns = is.turns; means = is.means; occurs = is.occurs; holds = f is.plan is.turns is.holds }

  -- why no seed is looked at is why nothing is told
  pub unhunted : (kept : Type 0) (cut : WriteFault → Type 0) → kept → (why : HuntFault) → IsUnseen h why → IsUnhunted h kept cut why
  unhunted kept cut stays fault.NoMemory is = stays
  unhunted kept cut stays (fault.Source refusal) is = (is.0, stays)
  unhunted kept cut stays (fault.Turns refusal) is = (is.0, stays)
  unhunted kept cut stays (fault.Ticks refusal) is = (is.0, stays)
  unhunted kept cut stays (fault.Action refusal) is = (is.0, stays)
  unhunted kept cut stays (fault.Write failed) is = absurd is

  -- what was found is told
  pub told : (from end : ℕ) (find : Find) (Became : List ℕ → Type 0) → IsFind h from end find → Became find.text.items → IsTold h from end Became
  told from end find Became is became =
      record {
        seed = find.seed;
        least = record { within = is.within; below = is.below; has = has_otherwise find.seed _ _ (λ plan turns same. subst Became same became) is.has; first = is.first };
      }

  pub answered : (from end : ℕ) (Became : List ℕ → Type 0) (r : Result Bool HuntFault) (P : Type 0) → IfOk r (λ a. a ≡ true) → OnOk r P → (P → IsTold h from end Became) → IfOk r (λ found. MatchBool found (IsTold h from end Became) (IsNone h from end Became))
  answered from end Became (Ok true) P same p f = f p
  answered from end Became (Ok false) P same p f = absurd (true≢false (sym same))
  answered from end Became (Err e) P same p f = tt

  -- a write that failed
  pub stopped : {R : Type 0} (kept : Type 0) (cut : WriteFault → Type 0) (P : ℕ → Type 0) → ((failed : WriteFault) → P (written_of failed) → cut failed) → (r : Result R HuntFault) → IfErr r (IsStoppedBy P) → IfErr r (IsUnhunted h kept cut)
  stopped kept cut P f (Ok x) is = tt
  stopped kept cut P f (Err fault.NoMemory) is = absurd is
  stopped kept cut P f (Err (fault.Source refusal)) is = absurd is
  stopped kept cut P f (Err (fault.Turns refusal)) is = absurd is
  stopped kept cut P f (Err (fault.Ticks refusal)) is = absurd is
  stopped kept cut P f (Err (fault.Action refusal)) is = absurd is
  stopped kept cut P f (Err (fault.Write failed)) is = f failed is

  -- what a look at a seed says of it
  module _ (seed : ℕ) (plan own : Plan) (s : System) (wanted : Wanted) (same : own ≡ plan) (composed : IsComposed h.source plan) (sown : IsSown h.course seed plan s) (named : IsWanted plan h.action wanted) where
    pub looked_has : {T E : Type 0} (items : T → List ℕ) (r : Result (Option T) E) → IfOk r (λ found. IfSome found (λ text. IsShown own s wanted seed (items text))) → IfOk r (λ found. IfSome found (λ text. HasText h seed (items text)))
    looked_has items (Ok (Some text)) is =
        let shown = subst (λ (p : Plan). IsShown p s wanted seed (items text)) same is in
        record { plan = plan; system = s; wanted = wanted; turns = shown.turns; means = record { composed = composed; sown = sown; named = named }; occurs = shown.occurs; holds = shown.is }
    looked_has items (Ok None) is = tt
    looked_has items (Err e) is = tt

    pub looked_lacks : {T E : Type 0} (r : Result (Option T) E) → IfOk r (λ found. IfNone found (NeverOccurs own s wanted)) → IfOk r (λ found. IfNone found (Lacks h seed))
    looked_lacks (Ok (Some text)) is = tt
    looked_lacks (Ok None) is = record { plan = plan; system = s; wanted = wanted; means = record { composed = composed; sown = sown; named = named }; never = subst (λ (p : Plan). NeverOccurs p s wanted) same is }
    looked_lacks (Err e) is = tt

-- a plan that is kept is the one that the source means
pub kept_plan : (kept : Option Plan) (source : List ℕ) (plan other : Plan) → IfSome kept (λ p. p ≡ other) → other ≡ plan → IsComposed source plan → IfSome kept (IsComposed source)
kept_plan None source plan other is same composed = tt
kept_plan (Some p) source plan other is same composed = subst (IsComposed source) (sym (is ∙ same)) composed
