-- Setups with turns that are given, and reports on why there are none.
use Rattle.std.proofs.Common.{◌≡◌, ◌≢◌, ◌≤◌, ◌<◌, ◌⊎◌, ◌∙◌, inl, inr, ℕ, List, refl, ap, subst, sym, arith}
use Rattle.std.specs.Prelude.{Option, None, Some, Result, Ok, Err, IfErr, IfOk, slice_get}
use Rattle.std.proofs.lemmas.Bool.{cases_lt}
use Rattle.plans.specs.declared.plan.Plan.{Plan}
use Rattle.io_automata.specs.Automata.{Instance}
use Rattle.plans.specs.Plans.{composition}
use Rattle.task_seed.specs.Any.{any_turn}
use Rattle.task_seed.specs.Drawn.{drawn_turn, seed_turn}
use Rattle.task_seed.specs.Faults.{IsFirstFault}
use Rattle.task_seed.specs.Given.{table_turn}
use Rattle.task_seed.specs.Refusals.{read_table_number, read_table_place, seed_turns_number, setup_number, table_turns_number, table_turns_place}
use Rattle.task_seed.specs.Rows.{turns_of}
use Rattle.task_seed.specs.Setups.{horizon_of, plan_of, source_of, system}
use Rattle.task_seed.specs.Table.{IsFirstBadLine}
use Rattle.task_seed.specs.declared.any_turns.AnyTurns.{AnyTurns}
use Rattle.task_seed.specs.declared.seed_turns.SeedTurns.{SeedTurns}
use Rattle.task_seed.specs.declared.seed_turns.SeedTurnsError.{SeedTurnsError}
use Rattle.task_seed.specs.declared.seed_turns.SeedTurnsError.TheVariants as seeds
use Rattle.task_seed.specs.declared.setup.Setup.{Setup}
use Rattle.task_seed.specs.declared.setup.SetupError.{SetupError}
use Rattle.task_seed.specs.declared.setup.SetupError.TheVariants as setups
use Rattle.task_seed.specs.declared.table.Row.{Row}
use Rattle.task_seed.specs.declared.table.ReadTableError.{ReadTableError}
use Rattle.task_seed.specs.declared.table.ReadTableError.TheVariants as tables
use Rattle.task_seed.specs.declared.table_turns.TableTurns.{TableTurns}
use Rattle.task_seed.specs.declared.table_turns.TableTurnsError.{TableTurnsError}
use Rattle.task_seed.specs.declared.table_turns.TableTurnsError.TheVariants as turns
use Rattle.task_seed.specs.declared.turns.Turn.{Turn}
use Rattle.compose.specs.Composed.{IsComposed}
use Rattle.commands.specs.declared.report.Report.{Report}
use Rattle.commands.specs.declared.report.Report.TheVariants.{Done, No, Driven, Ran, Explained, Refused, Fault, Misused}
use Rattle.commands.specs.Parts.{IsMemory, IsRefusal}
use Rattle.commands.specs.Reports.{report_of}
use Rattle.commands.specs.Setups.{Given, AreRefused, AreTurns, GivesNoSystem, IsBadGap, IsSetup, IsSystem, IsTabled, IsWithin}
use Rattle.commands.specs.Simulations.{Means}
use Rattle.commands.specs.Tables.{AreRows, AreSound, IsRefused}

-- what succeeded has no error
pub no_error : {T E : Type 0} (x : T) (e : E) → Ok x ≡ Err e → ⊥
no_error x e same = cc

-- what holds of a value where there is one, and of an error where there is one
pub ok_otherwise : {T E : Type 0} (P Q : T → Type 0) → ((x : T) → P x → Q x) → (r : Result T E) → IfOk r P → IfOk r Q
ok_otherwise P Q f (Ok x) p = f x p
ok_otherwise P Q f (Err e) p = tt

pub ok_both : {T E : Type 0} (P Q : T → Type 0) → (r : Result T E) → IfOk r P → IfOk r Q → IfOk r (λ x. P x × Q x)
ok_both P Q (Ok x) p q = (p, q)
ok_both P Q (Err e) p q = tt

pub err_otherwise : {T E : Type 0} (P Q : E → Type 0) → ((e : E) → P e → Q e) → (r : Result T E) → IfErr r P → IfErr r Q
err_otherwise P Q f (Ok x) p = tt
err_otherwise P Q f (Err e) p = f e p

-- a report on what is refused or lacking, with other words for it
pub refusal_otherwise : (Bad Other : ℕ → Option ℕ → Type 0) (Lacks Wants : ℕ → Type 0)
    → ((n : ℕ) (p : Option ℕ) → Bad n p → Other n p) → ((n : ℕ) → Lacks n → Wants n)
    → (report : Report) → IsRefusal Bad Lacks report → IsRefusal Other Wants report
refusal_otherwise Bad Other Lacks Wants f g Done r = absurd r
refusal_otherwise Bad Other Lacks Wants f g No r = absurd r
refusal_otherwise Bad Other Lacks Wants f g (Driven refused) r = absurd r
refusal_otherwise Bad Other Lacks Wants f g (Ran stats) r = absurd r
refusal_otherwise Bad Other Lacks Wants f g Explained r = absurd r
refusal_otherwise Bad Other Lacks Wants f g (Refused n p) r = f n p r
refusal_otherwise Bad Other Lacks Wants f g (Fault n) r = g n r
refusal_otherwise Bad Other Lacks Wants f g Misused r = absurd r

-- a gap that is given, and the gap as turns of a seed take it
module _ (given gap : ℕ) (same : given ≤ 65535 → gap ≡ given) (large : 65535 < given → 65535 < gap) where
  pub gap_is : ((gap < 1) ⊎ (65535 < gap) → ⊥) → gap ≡ given
  gap_is within = fits (cases_lt 65535 given) where
    fits : (65535 < given) ⊎ (given ≤ 65535) → gap ≡ given
    fits (inl wide) = absurd (within (inr (large wide)))
    fits (inr narrow) = same narrow

  -- the turns of a seed are those that are given
  pub seeds_are : (seed stream least : ℕ) (turns : SeedTurns) → ((i n : ℕ) → seed_turn turns i n ≡ drawn_turn seed stream least gap i n)
      → ((gap < 1) ⊎ (65535 < gap) → ⊥) → seed_turn turns ≡ drawn_turn seed stream least given
  seeds_are seed stream least turns drawn within = (λ k i n. drawn i n k) ∙ ap (drawn_turn seed stream least) (gap_is within)

  pub gap_within : ((gap < 1) ⊎ (65535 < gap) → ⊥) → IsWithin given
  gap_within within =
      let is = gap_is within in
      let low = low_of gap (λ h. within (inl h)) in
      let high = high_of gap (λ h. within (inr h)) in
      (omega (arith, is, low), omega (arith, is, high)) where
        low_of : (n : ℕ) → (n < 1 → ⊥) → 1 ≤ n
        low_of n h = go (cases_lt n 1) where
          go : (n < 1) ⊎ (1 ≤ n) → 1 ≤ n
          go (inl less) = absurd (h less)
          go (inr least) = least

        high_of : (n : ℕ) → (65535 < n → ⊥) → n ≤ 65535
        high_of n h = go (cases_lt 65535 n) where
          go : (65535 < n) ⊎ (n ≤ 65535) → n ≤ 65535
          go (inl more) = absurd (h more)
          go (inr most) = most

  -- there are none for a gap that is out of range
  pub gap_outside : (gap < 1) ⊎ (65535 < gap) → (given < 1) ⊎ (65535 < given)
  gap_outside outside = go (cases_lt 65535 given) outside where
    go : (65535 < given) ⊎ (given ≤ 65535) → (gap < 1) ⊎ (65535 < gap) → (given < 1) ⊎ (65535 < given)
    go (inl wide) out = inr wide
    go (inr narrow) (inl none) = let is = same narrow in inl (omega (arith, is, none))
    go (inr narrow) (inr wide) = let is = same narrow in inr (omega (arith, is, wide))

  pub gap_refused : (e : SeedTurnsError) → (e ≡ seeds.NoMemory → ⊥) → (e ≡ seeds.GapOutOfRange → (gap < 1) ⊎ (65535 < gap)) → IsRefusal (IsBadGap given) IsMemory (report_of (seed_turns_number e) None)
  gap_refused seeds.NoMemory never outside = refl
  gap_refused seeds.GapOutOfRange never outside = record { number_is = refl; place_is = refl; outside = gap_outside (outside refl) }

-- the turns of rows are those of the table
pub rows_are : (parts : List Instance) (table : List ℕ) (given : List Row) → AreRows table given → (seen : List Row) → seen ≡ given → (turns : TableTurns) → ((i n : ℕ) → table_turn turns i n ≡ slice_get (turns_of seen i) n)
    → AreSound parts seen → IsTabled parts table (table_turn turns)
rows_are parts table given read seen same turns alike sound = record {
  rows = given;
  are = read;
  sound = subst (AreSound parts) same sound;
  is = (λ k i n. alike i n k) ∙ ap (λ (l : List Row). λ i n. slice_get (turns_of l i) n) same;
}

module _ (parts : List Instance) (table : List ℕ) where
  -- a line is no row
  pub table_refused : (e : ReadTableError) → ((line : ℕ) → e ≡ tables.BadTable line → IsFirstBadLine table line) → IsRefusal (IsRefused parts table) IsMemory (report_of (read_table_number e) (read_table_place e))
  table_refused tables.NoMemory first = refl
  table_refused (tables.BadTable line) first = inl (record { line = line; number_is = refl; place_is = refl; first = first line refl })

  -- a row has a fault
  pub rows_refused : (given : List Row) → AreRows table given → (seen : List Row) → seen ≡ given → (e : TableTurnsError)
      → (e ≢ turns.NoMemory → IsFirstFault parts seen (table_turns_number e) (table_turns_place e))
      → IsRefusal (IsRefused parts table) IsMemory (report_of (table_turns_number e) (table_turns_place e))
  rows_refused given read seen same turns.NoMemory first = refl
  rows_refused given read seen same (turns.GapOutOfRange line) first = inr (record { rows = given; are = read; first = subst (λ (l : List Row). IsFirstFault parts l 27 (Some line)) same (first (λ e. cc)) })
  rows_refused given read seen same (turns.TaskOutOfRange line) first = inr (record { rows = given; are = read; first = subst (λ (l : List Row). IsFirstFault parts l 28 (Some line)) same (first (λ e. cc)) })
  rows_refused given read seen same (turns.NoSuchComponent line) first = inr (record { rows = given; are = read; first = subst (λ (l : List Row). IsFirstFault parts l 30 (Some line)) same (first (λ e. cc)) })

module _ (parts : List Instance) (given : Given) (ticks : ℕ) where
  -- turns that there aren't
  pub no_turns : (report : Report) → IsRefusal (AreRefused parts given) IsMemory report → GivesNoSystem parts given ticks report
  no_turns = refusal_otherwise _ _ _ _ (λ n p bad. inl bad) (λ n one. one)

  -- the last tick is out of its range
  pub end_refused : (turn : ℕ → ℕ → Option Turn) → AreTurns parts given turn → (e : SetupError) → (e ≡ setups.NoMemory → ⊥) → (e ≡ setups.HorizonTooLarge → 4294967296 < ticks) → GivesNoSystem parts given ticks (report_of (setup_number e) None)
  end_refused turn are setups.NoMemory never long = absurd (never refl)
  end_refused turn are setups.HorizonTooLarge never long = inr (record { number_is = refl; place_is = refl; long = long refl; turn = turn; turns = are })

-- what is not above a bound
pub at_most : (most n : ℕ) → (most < n → ⊥) → n ≤ most
at_most most n h = go (cases_lt most n) where
  go : (most < n) ⊎ (n ≤ most) → n ≤ most
  go (inl more) = absurd (h more)
  go (inr within) = within

-- a setup of a plan
module _ (plan : Plan) (given : Given) (ticks : ℕ) (setup : Setup AnyTurns) where
  pub setup_is : (turns : AnyTurns) → AreTurns (composition plan) given (any_turn turns) → ticks ≤ 4294967296
      → plan_of setup ≡ plan → source_of setup ≡ turns → horizon_of setup ≡ ticks → IsSetup plan given ticks setup
  setup_is turns are short plan_is source_is horizon_is = record {
    plan_is = plan_is;
    is = record {
      composition_is = ap composition plan_is;
      turns = subst (λ t. AreTurns (composition plan) given (any_turn t)) (sym source_is) are;
      horizon_is = horizon_is;
      short = short;
    };
  }

  -- what a source means by its plan
  pub setup_means : (source : List ℕ) → IsComposed source plan → IsSetup plan given ticks setup → Means source given ticks (plan_of setup) (system any_turn setup)
  setup_means source composed is = record {
    composed = subst (IsComposed source) (sym is.plan_is) composed;
    is = subst (λ p. IsSystem p given ticks (system any_turn setup)) (sym is.plan_is) is.is;
  }
