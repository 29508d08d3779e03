-- What is printed of a file, from what was read of it.
use Rattle.std.proofs.Common.{◌≡◌, ◌≢◌, inl, inr, ℕ, ◌≤◌, List, length, take, refl, subst, arith}
use Rattle.std.proofs.lemmas.List.{length-take}
use Rattle.ioa_front.specs.declared.ReadError.{ReadError}
use Rattle.ioa_front.specs.declared.ReadError.TheVariants as refused
use Rattle.ioa_front.specs.Reading.{IsRefusal}
use Rattle.ioa_front.specs.Refusals.{read_number, read_place}
use Rattle.trace.specs.declared.fault.WriteFault.TheVariants.{WriteFailed}
use Rattle.commands.specs.declared.fault.PrintFault.{PrintFault}
use Rattle.commands.specs.declared.fault.PrintFault.TheVariants as fault
use Rattle.commands.specs.Printing.{IsPrinted, IsRefusedSource, IsUnprinted}
use Rattle.commands.specs.PrintRefusals.{print_number, print_place}
use Rattle.commands.specs.Reading.{IsReadOf}
use Rattle.commands.specs.Reports.{IsPrintReport, report_of}
use Rattle.commands.specs.Unread.{IsSourceWith}
use Rattle.commands.specs.Whole.{take_whole}

-- what was read within the limit is the whole file
pub whole : (all : List ℕ) → length (take 65537 all) ≤ 65536 → take 65537 all ≡ all
whole all small = take_whole all 65537 (omega (arith, small))

pub printed_whole : (all : List ℕ) (wrote : List ℕ → Type 0) → IsPrinted (take 65537 all) wrote → IsPrinted all wrote
printed_whole all wrote p = subst (λ source. IsPrinted source wrote) (whole all p.size) p

pub refused_whole : (all : List ℕ) (e : ReadError) → IsRefusal (take 65537 all) e → IsRefusal all e
refused_whole all refused.NoMemory is = is
refused_whole all (refused.NotAscii at) is = subst (λ source. IsRefusal source (refused.NotAscii at)) (whole all is.0) is
refused_whole all (refused.BadToken at) is = subst (λ source. IsRefusal source (refused.BadToken at)) (whole all is.0) is
refused_whole all (refused.Syntax at) is = subst (λ source. IsRefusal source (refused.Syntax at)) (whole all is.0) is
refused_whole all refused.TooLarge is = let cut = length-take 65537 all in omega (arith, is, cut)
refused_whole all refused.TooDeep is = subst (λ source. IsRefusal source refused.TooDeep) (whole all is.0) is

module _ (has : List ℕ → Type 0) (lacks kept : Type 0) (wrote : List ℕ → Type 0) (cut : List ℕ → ℕ → Type 0) (read : List ℕ) (is : IsReadOf has 65537 read) where
  -- the report of what was printed is true of the file
  pub print_reported : IsPrinted read wrote → (IsSourceWith has (λ source. IsPrinted source wrote))
  print_reported p = record { source = is.all; is = is.is; judged = printed_whole is.all wrote (subst (λ source. IsPrinted source wrote) is.front p) }

  told : (e : ReadError) → e ≢ refused.NoMemory → IsRefusal read e → IsSourceWith has (λ source. IsRefusedSource source (read_number e) (read_place e))
  told e other refusal =
      record {
        source = is.all;
        is = is.is;
        judged = record { refusal = e; is = refused_whole is.all e (subst (λ source. IsRefusal source e) is.front refusal); judged = other; number_is = refl; place_is = refl };
      }

  cut_whole : (written : ℕ) → IsPrinted read (λ text. cut text written) → IsPrinted is.all (λ text. cut text written)
  cut_whole written p = printed_whole is.all (λ text. cut text written) (subst (λ source. IsPrinted source (λ text. cut text written)) is.front p)

  -- and so is the report of a fault
  pub print_fault_reported : (failed : PrintFault) → IsUnprinted read kept cut failed → IsPrintReport has lacks kept wrote cut (report_of (print_number failed) (print_place failed))
  print_fault_reported fault.NoMemory left = inl (inl refl, left)
  print_fault_reported (fault.Source refused.NoMemory) left = inl (inl refl, left.1)
  print_fault_reported (fault.Source (refused.NotAscii at)) left = (told (refused.NotAscii at) (λ e. cc) left.0, left.1)
  print_fault_reported (fault.Source (refused.BadToken at)) left = (told (refused.BadToken at) (λ e. cc) left.0, left.1)
  print_fault_reported (fault.Source (refused.Syntax at)) left = (told (refused.Syntax at) (λ e. cc) left.0, left.1)
  print_fault_reported (fault.Source refused.TooLarge) left = (told refused.TooLarge (λ e. cc) left.0, left.1)
  print_fault_reported (fault.Source refused.TooDeep) left = (told refused.TooDeep (λ e. cc) left.0, left.1)
  print_fault_reported (fault.Write (WriteFailed written)) left =
      inr (record { number_is = refl; written = written; stopped = record { source = is.all; is = is.is; judged = cut_whole written left } })
