-- Reports of refusals, by their numbers.
use Rattle.std.proofs.Common.{◌≡◌, ◌≤◌, ◌⊎◌, inl, inr, ℕ, List, take, refl, subst, sym, arith, false}
use Rattle.std.specs.Prelude.{Option, if◌then◌else◌}
use Rattle.std.proofs.lemmas.Bool.Decides.{nat_tests}
use Rattle.plans.specs.declared.plan.Plan.{Plan}
use Rattle.compose.specs.declared.source_error.SourceError.{SourceError}
use Rattle.compose.specs.Composed.{IsComposed, IsRefused}
use Rattle.compose.specs.Refusals.{source_number, source_place}
use Rattle.commands.specs.declared.report.Report.{Report}
use Rattle.commands.specs.declared.report.Report.TheVariants.{Refused, Fault}
use Rattle.commands.specs.Compositions.{GivesNoPlan}
use Rattle.commands.specs.FileReports.{HasNoPlan}
use Rattle.commands.specs.Reading.{IsReadOf}
use Rattle.commands.specs.Reports.{is_fault, report_of}
use Rattle.commands.specs.Unread.{IsSourceWith}
use Rattle.commands.proofs.SetupReports.{refusal_otherwise}

-- what a file says is no fault
pub calm : (n : ℕ) → 2 ≤ n → n ≤ 39 → is_fault n ≡ false
calm n low high = grind (arith, nat_tests, low, high)

pub refused_by : (P : Report → Type 0) (n : ℕ) (place : Option ℕ) → 2 ≤ n → n ≤ 39 → P (Refused n place) → P (report_of n place)
refused_by P n place low high p = subst (λ b. P (if b then Fault n else Refused n place)) (sym (calm n low high)) p

pub fault_by : (P : Report → Type 0) (n : ℕ) (place : Option ℕ) → n ≡ 1 → P (Fault 1) → P (report_of n place)
fault_by P n place one p = subst (λ k. P (report_of k place)) (sym one) p

-- a source that is refused gives no plan
pub no_plan : (source : List ℕ) (e : SourceError) → (source_number e ≡ 1) ⊎ (((2 ≤ source_number e) × (source_number e ≤ 25)) ⊎ (source_number e ≡ 36))
    → IsRefused source e → GivesNoPlan source (report_of (source_number e) (source_place e))
no_plan source e numbered refused = by numbered
  where
    told : 2 ≤ source_number e → source_number e ≤ 39 → GivesNoPlan source (report_of (source_number e) (source_place e))
    told low high = refused_by (GivesNoPlan source) (source_number e) (source_place e) low high (record { error = e; refused = refused; judged = λ one. omega (arith, one, low); number_is = refl; place_is = refl })

    by : (source_number e ≡ 1) ⊎ (((2 ≤ source_number e) × (source_number e ≤ 25)) ⊎ (source_number e ≡ 36)) → GivesNoPlan source (report_of (source_number e) (source_place e))
    by (inl one) = fault_by (GivesNoPlan source) (source_number e) (source_place e) one refl
    by (inr (inl few)) = let high = few.1 in told few.0 (omega (arith, high))
    by (inr (inr last)) = told (omega (arith, last)) (omega (arith, last))

-- what was read of a file
module _ (has : List ℕ → Type 0) (read : List ℕ) (is : IsReadOf has 65537 read) where
  pub plan_found : (plan : Plan) → ((source : List ℕ) (p : Plan) → IsComposed (take 65537 source) p → IsComposed source p) → IsComposed read plan → IsSourceWith has (λ source. IsComposed source plan)
  plan_found plan front composed = record { source = is.all; is = is.is; judged = front is.all plan (subst (λ source. IsComposed source plan) is.front composed) }

  pub plan_lacking : (lacks : Type 0) → ((source : List ℕ) (e : SourceError) → IsRefused (take 65537 source) e → IsRefused source e) → (report : Report) → GivesNoPlan read report → HasNoPlan has lacks report
  plan_lacking lacks front report none = inr (record { source = is.all; is = is.is; judged = whole report (subst (λ source. GivesNoPlan source report) is.front none) })
    where
      whole : (report : Report) → GivesNoPlan (take 65537 is.all) report → GivesNoPlan is.all report
      whole = refusal_otherwise _ _ _ _ (λ n p bad. record { error = bad.error; refused = front is.all bad.error bad.refused; judged = bad.judged; number_is = bad.number_is; place_is = bad.place_is }) (λ n one. one)
