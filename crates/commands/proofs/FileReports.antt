-- Reports on files that mean nothing, and on what files mean.
use Rattle.std.proofs.Common.{◌≡◌, inl, inr, ℕ, true, List}
use Rattle.std.specs.Prelude.{Option, None, Some}
use Rattle.plans.specs.declared.plan.Plan.{Plan}
use Rattle.io_automata.specs.Automata.{Instance}
use Rattle.task_seed.specs.Turning.{System}
use Rattle.command_line.specs.declared.Options.{Options}
use Rattle.commands.specs.declared.report.Report.{Report}
use Rattle.commands.specs.declared.report.Report.TheVariants.{Done, No, Driven, Ran, Explained, Refused, Fault, Misused}
use Rattle.commands.specs.FileReports.{FilesMean, FilesMeanNone, HasNoPlan, HasNoSystem, HasTurns, IsSmallReport, table_of}
use Rattle.commands.specs.Parts.{IsRefusal}
use Rattle.commands.specs.Reports.{is_served}
use Rattle.commands.specs.Setups.{Given, Seed, Table}
use Rattle.commands.specs.Simulations.{IsEngineReport}
use Rattle.commands.proofs.SetupReports.{refusal_otherwise}

-- something is refused or lacking
abbrev pub IsSomeRefusal : Report → Type 0
IsSomeRefusal = IsRefusal (λ number place. Unit {0}) (λ number. Unit {0})

pub some_refusal : (Bad : ℕ → Option ℕ → Type 0) (Lacks : ℕ → Type 0) (report : Report) → IsRefusal Bad Lacks report → IsSomeRefusal report
some_refusal Bad Lacks = refusal_otherwise _ _ _ _ (λ n p bad. tt) (λ n lacking. tt)

-- then not all is done
pub unserved : (report : Report) → is_served report ≡ true → IsSomeRefusal report → ⊥
unserved Done s r = r
unserved No s r = r
unserved (Driven refused) s r = r
unserved (Ran stats) s r = r
unserved Explained s r = r
unserved (Refused number place) s r = cc
unserved (Fault number) s r = cc
unserved Misused s r = r

pub no_plan_refused : (has : List ℕ → Type 0) (lacks : Type 0) (report : Report) → HasNoPlan has lacks report → IsSomeRefusal report
no_plan_refused has lacks report (inl unread) = some_refusal _ _ report unread
no_plan_refused has lacks report (inr s) = some_refusal _ _ report s.judged

module _ (has : List ℕ → List ℕ → Type 0) (lacks : List ℕ → Type 0) (options : Options) where
  pub no_system_refused : (composition : List Instance) (table : Option (List ℕ)) (report : Report) → HasNoSystem has lacks composition options table report → IsSomeRefusal report
  no_system_refused composition None report (inl unread) = some_refusal _ _ report unread
  no_system_refused composition (Some name) report (inl unread) = some_refusal _ _ report unread
  no_system_refused composition None report (inr none) = some_refusal _ _ report none
  no_system_refused composition (Some name) report (inr small) = some_refusal _ _ report small.judged

  pub none_refused : (source : List ℕ) (report : Report) → FilesMeanNone has lacks source options report → IsSomeRefusal report
  none_refused source report (inl none) = no_plan_refused (has source) (lacks source) report none
  none_refused source report (inr s) = no_system_refused _ (table_of options) report s.judged.holds

  -- other words for the turns that are asked for
  pub turns_otherwise : (P Q : Given → Type 0) → ((given : Given) → P given → Q given) → (table : Option (List ℕ)) → HasTurns has options table P → HasTurns has options table Q
  turns_otherwise P Q f None h = f (Seed options.seed options.stream options.gap options.from_zero) h
  turns_otherwise P Q f (Some name) h = record { bytes = h.bytes; is = h.is; small = h.small; judged = f (Table h.bytes) h.judged }

-- what is asked for isn't a misuse of words
pub small_not_misused : (has : List ℕ → Type 0) (lacks kept : Type 0) (Ends : List ℕ → Report → Type 0) → ((bytes : List ℕ) → Ends bytes Misused → ⊥) → IsSmallReport has lacks kept Ends Misused → ⊥
small_not_misused has lacks kept Ends ends (inl n) = n.0
small_not_misused has lacks kept Ends ends (inr h) = ends h.bytes h.judged

pub not_misused : (has : List ℕ → List ℕ → Type 0) (lacks : List ℕ → Type 0) (options : Options) (source : List ℕ) (kept : Type 0) (Ends : Plan → System → Report → Type 0) → ((plan : Plan) (system : System) → Ends plan system Misused → ⊥)
    → IsEngineReport (FilesMean has source options) (FilesMeanNone has lacks source options) kept Ends Misused → ⊥
not_misused has lacks options source kept Ends ends (inl n) = none_refused has lacks options source Misused n.0
not_misused has lacks options source kept Ends ends (inr m) = ends m.plan m.system m.holds

module _ (Meant : Plan → System → Type 0) (MeantNone : Report → Type 0) (kept still : Type 0) (Ends Later : Plan → System → Report → Type 0) where
  -- what is done stays so where its end stays
  pub engine_again : (report : Report) → is_served report ≡ true → (MeantNone report → IsSomeRefusal report)
      → ((plan : Plan) (system : System) → Ends plan system report → Later plan system report) → IsEngineReport Meant MeantNone kept Ends report → IsEngineReport Meant MeantNone still Later report
  engine_again report s none ends (inl n) = absurd (unserved report s (none n.0))
  engine_again report s none ends (inr m) = inr (record { plan = m.plan; system = m.system; meant = m.meant; holds = ends m.plan m.system m.holds })
