-- Reports on hunts.
use Rattle.std.proofs.Common.{◌≡◌, inl, inr, ℕ, Bool, true, false, List, refl, subst, sym}
use Rattle.std.specs.Prelude.{MatchBool, if◌then◌else◌}
use Rattle.command_line.specs.declared.hunting.Hunting.{Hunting}
use Rattle.hunt.specs.declared.fault.HuntFault.{HuntFault}
use Rattle.hunt.specs.Faults.{IsUnhunted, hunt_number, hunt_place}
use Rattle.hunt.specs.Hunts.{IsCounted, IsNone, IsTold}
use Rattle.hunt.specs.Seeds.{Hunted, hunted}
use Rattle.trace.specs.Puts.{written_of}
use Rattle.commands.specs.declared.report.Report.{Report}
use Rattle.commands.specs.declared.report.Report.TheVariants.{Done, No, Driven, Ran, Explained, Refused, Fault, Misused}
use Rattle.commands.specs.Hunting.{IsAnswerBy, IsFoundBy, IsHuntEnd, IsHuntFileReport, IsNoneBy, course_of, end_of, found_report}
use Rattle.commands.specs.Reports.{is_fault, is_served, report_of}
use Rattle.commands.proofs.FileReports.{some_refusal, unserved}

module _ (count : Bool) (h : Hunted) (from end : ℕ) (kept : Type 0) (wrote : List ℕ → Type 0) (cut : List ℕ → ℕ → Type 0) where
  -- the report of a fault
  pub fault_reported : (fault : HuntFault) → IsUnhunted h kept (λ failed. IsAnswerBy count h from end (λ text. cut text (written_of failed))) fault
      → IsHuntEnd count h from end kept wrote cut (report_of (hunt_number fault) (hunt_place fault))
  fault_reported fault why =
      let n = hunt_number fault in
      let p = hunt_place fault in
      elim (is_fault n) as (λ b. IsHuntEnd count h from end kept wrote cut (if b then Fault n else Refused n p)) [
        | true ↦ (p, record { fault = fault; why = why; number_is = refl; place_is = refl })
        | false ↦ record { fault = fault; why = why; number_is = refl; place_is = refl }
      ]

-- a text that was told is told still, where what was written is
module _ (wrote again : List ℕ → Type 0) (stays : (text : List ℕ) → wrote text → again text) (h : Hunted) (from end : ℕ) where
  found_again : (count : Bool) → IsFoundBy count h from end wrote → IsFoundBy count h from end again
  found_again true is = record { count = is.count; are = is.are; became = stays _ is.became }
  found_again false is =
      let least = is.least in
      let has = least.has in
      record {
        seed = is.seed;
        least = record {
          within = least.within;
          below = least.below;
          has = record { plan = has.plan; system = has.system; wanted = has.wanted; turns = has.turns; means = has.means; occurs = has.occurs; holds = stays _ has.holds };
          first = least.first;
        };
      }

  none_again : (count : Bool) → IsNoneBy count h from end wrote → IsNoneBy count h from end again
  none_again true is = is
  none_again false is = record { lack = is.lack; became = stays _ is.became }

  end_again : (count : Bool) (kept still : Type 0) (cut later : List ℕ → ℕ → Type 0) (report : Report) → is_served report ≡ true → IsHuntEnd count h from end kept wrote cut report → IsHuntEnd count h from end still again later report
  end_again count kept still cut later Done s p = found_again count p
  end_again count kept still cut later No s p = none_again count p
  end_again count kept still cut later (Driven refused) s p = p
  end_again count kept still cut later (Ran stats) s p = p
  end_again count kept still cut later Explained s p = p
  end_again count kept still cut later (Refused number place) s p = cc
  end_again count kept still cut later (Fault number) s p = cc
  end_again count kept still cut later Misused s p = p

pub hunt_again : (wrote again : List ℕ → Type 0) (stays : (text : List ℕ) → wrote text → again text) (kept still : Type 0) (cut later : List ℕ → ℕ → Type 0)
    (has : List ℕ → Type 0) (lacks : Type 0) (action : List ℕ) (hunting : Hunting) (report : Report) → is_served report ≡ true
    → IsHuntFileReport has lacks action hunting kept wrote cut report → IsHuntFileReport has lacks action hunting still again later report
hunt_again wrote again stays kept still cut later has lacks action hunting report s (inl n) = absurd (unserved report s (some_refusal _ _ report n.0))
hunt_again wrote again stays kept still cut later has lacks action hunting report s (inr f) =
    inr (record { front = f.front; is = f.is; judged = end_again wrote again stays (hunted f.front action (course_of hunting)) hunting.seeds.first (end_of hunting) hunting.count kept still cut later report s f.judged })

-- what is asked of a hunt isn't a misuse of words
pub hunt_not_misused : (has : List ℕ → Type 0) (lacks : Type 0) (action : List ℕ) (hunting : Hunting) (kept : Type 0) (wrote : List ℕ → Type 0) (cut : List ℕ → ℕ → Type 0)
    → IsHuntFileReport has lacks action hunting kept wrote cut Misused → ⊥
hunt_not_misused has lacks action hunting kept wrote cut (inl n) = n.0
hunt_not_misused has lacks action hunting kept wrote cut (inr f) = f.judged

module _ (h : Hunted) (from end : ℕ) (kept : Type 0) (wrote : List ℕ → Type 0) (cut : List ℕ → ℕ → Type 0) where
  -- the report where the least seed is wanted
  pub seek_told : (count : Bool) → count ≡ false → (found : Bool) → MatchBool found (IsTold h from end wrote) (IsNone h from end wrote) → IsHuntEnd count h from end kept wrote cut (found_report found)
  seek_told count e true is = subst (λ b. IsFoundBy b h from end wrote) (sym e) is
  seek_told count e false is = subst (λ b. IsNoneBy b h from end wrote) (sym e) is

  -- and where their number is wanted
  pub number_told : (count : Bool) → count ≡ true → IsCounted h from end wrote → IsHuntEnd count h from end kept wrote cut Done
  number_told count e is = subst (λ b. IsFoundBy b h from end wrote) (sym e) is

  -- a fault, whichever is wanted
  pub fault_told : (count own : Bool) → count ≡ own → (fault : HuntFault) (report : Report) → report ≡ report_of (hunt_number fault) (hunt_place fault)
      → IsUnhunted h kept (λ failed. IsAnswerBy own h from end (λ text. cut text (written_of failed))) fault → IsHuntEnd count h from end kept wrote cut report
  fault_told count own e fault report is why =
      subst (IsHuntEnd count h from end kept wrote cut) (sym is)
      (fault_reported count h from end kept wrote cut fault (subst (λ b. IsUnhunted h kept (λ failed. IsAnswerBy b h from end (λ text. cut text (written_of failed))) fault) (sym e) why))
