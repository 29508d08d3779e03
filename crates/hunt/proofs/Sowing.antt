-- Turns of a seed, and why there are none.
use Rattle.std.proofs.Common.{◌≡◌, ◌⊎◌, ◌<◌, ◌≤◌, ◌∙◌, ℕ, Bool, refl, ap, sym, subst}
use Rattle.std.specs.Prelude.{Result, Ok, Err, IfErr, IfOk, List, ◌↔◌}
use Rattle.std.specs.Result.{IsErrAnd, IsErrOf}
use Rattle.plans.specs.declared.plan.Plan.{Plan}
use Rattle.plans.specs.Plans.{composition}
use Rattle.task_seed.specs.Drawn.{drawn_turn, seed_turn}
use Rattle.task_seed.specs.Setups.{horizon_of, plan_of, source_of, system}
use Rattle.task_seed.specs.declared.seed_turns.SeedTurns.{SeedTurns}
use Rattle.task_seed.specs.declared.seed_turns.SeedTurnsError.{SeedTurnsError}
use Rattle.task_seed.specs.declared.seed_turns.SeedTurnsError.TheVariants as seeds
use Rattle.task_seed.specs.declared.setup.Setup.{Setup}
use Rattle.task_seed.specs.declared.setup.SetupError.{SetupError}
use Rattle.task_seed.specs.declared.setup.SetupError.TheVariants as setups
use Rattle.hunt.specs.declared.course.Course.{Course}
use Rattle.hunt.specs.Faults.{IsBadGap, IsTooLong, NamesSome}
use Rattle.hunt.specs.Seeds.{HasGap, IsSown, hunted, least_gap}

-- what was drawn is drawn from the least gap on
pub drawn_ok : (r : Result SeedTurns SeedTurnsError) (seed stream least gap : ℕ) (from_zero : Bool) → least_gap from_zero ≡ least
    → IfOk r (λ t. (i n : ℕ) → seed_turn t i n ≡ drawn_turn seed stream least gap i n) → IfOk r (λ t. seed_turn t ≡ drawn_turn seed stream (least_gap from_zero) gap)
drawn_ok (Ok t) seed stream least gap from_zero is h = (λ k i n. h i n k) ∙ ap (λ l. drawn_turn seed stream l gap) (sym is)
drawn_ok (Err e) seed stream least gap from_zero is h = tt

-- none are drawn where the gap is out of its range
pub drawn_err : (r : Result SeedTurns SeedTurnsError) (course : Course) → (IsErrOf r seeds.GapOutOfRange ↔ ((course.gap < 1) ⊎ (65535 < course.gap))) → (IsErrOf r seeds.NoMemory → ⊥)
    → (source action : List ℕ) → NamesSome (hunted source action course) → IfErr r (IsBadGap (hunted source action course))
drawn_err (Ok t) course bad memory source action named = tt
drawn_err (Err seeds.NoMemory) course bad memory source action named = absurd (memory refl)
drawn_err (Err seeds.GapOutOfRange) course bad memory source action named = record { named = named; outside = bad.0 refl; is = refl }

-- a setup isn't made where the last tick is out of its range
pub ticks_err : (e : SetupError) (course : Course) → (e ≡ setups.NoMemory → ⊥) → (e ≡ setups.HorizonTooLarge → 4294967296 < course.ticks) → HasGap course
    → (source action : List ℕ) → NamesSome (hunted source action course) → IsTooLong (hunted source action course) e
ticks_err setups.NoMemory course memory large gap source action named = absurd (memory refl)
ticks_err setups.HorizonTooLarge course memory large gap source action named = record { named = named; gap = gap; long = large refl; is = refl }

-- a setup of these is one of a seed
pub sown : (plan : Plan) (course : Course) (seed : ℕ) (turns : SeedTurns) (setup : Setup SeedTurns) → HasGap course → course.ticks ≤ 4294967296 → seed_turn turns ≡ drawn_turn seed course.stream (least_gap course.from_zero) course.gap
    → plan_of setup ≡ plan → source_of setup ≡ turns → horizon_of setup ≡ course.ticks → IsSown course seed plan (system seed_turn setup)
sown plan course seed turns setup gap short drawn plan_is source_is horizon_is =
    record { gap = gap; short = short; composition_is = ap composition plan_is; drawn = ap seed_turn source_is ∙ drawn; horizon_is = horizon_is }

-- an error that is handed on
pub handed_on : {R E : Type 0} (P : E → Type 0) (r : Result R E) (e : E) → IsErrAnd r (λ x. x ≡ e) → P e → IfErr r P
handed_on P (Ok x) e h p = tt
handed_on P (Err x) e h p = subst P (sym h) p
