-- What is laid out of a file, from what was read of it.
use Rattle.std.proofs.Common.{◌≡◌, ◌≢◌, ◌∙◌, inl, inr, ℕ, List, ap, length, take, refl, subst, sym}
use Rattle.std.specs.Prelude.{Bool as Truth, true, false}
use Rattle.ioa_front.specs.declared.ReadError.{ReadError}
use Rattle.ioa_front.specs.declared.ReadError.TheVariants as refused
use Rattle.ioa_front.specs.Reading.{Spells}
use Rattle.ioa_front.specs.Refusals.{read_number, read_place}
use Rattle.ioa_layout.specs.Laid.{ReadsAlike}
use Rattle.ioa_trees.specs.Trees.{PlainSource}
use Rattle.trace.specs.declared.fault.WriteFault.TheVariants.{WriteFailed}
use Rattle.commands.specs.declared.fault.PrintFault.{PrintFault}
use Rattle.commands.specs.declared.fault.PrintFault.TheVariants as fault
use Rattle.commands.specs.Formatting.{IsFormatReport, IsFormatted, IsLaidOut, IsLayoutReport, IsRefusedFor, IsRefusedLayout, IsRefusedWith, IsUnformatted, IsUnlaid, layout_report}
use Rattle.commands.specs.PrintRefusals.{print_number, print_place}
use Rattle.commands.specs.Reading.{IsReadOf}
use Rattle.commands.specs.Reports.{report_of}
use Rattle.commands.specs.Unread.{IsSourceWith}
use Rattle.commands.proofs.Printings.{refused_whole, whole}

-- what reads as the same tokens as a source spells its tree, whatever tree is read from it
pub spells_same : (source text : List ℕ) (tree other : PlainSource) → ReadsAlike source text → Spells source tree → Spells text other → Spells text tree
spells_same source text tree other alike own again =
    record { ascii = again.ascii; tokens = again.tokens; cut = again.cut; spelled = alike.same own.tokens again.tokens own.cut again.cut ∙ own.spelled }

formatted_whole : (all : List ℕ) (Became : List ℕ → Type 0) → IsFormatted (take 65537 all) Became → IsFormatted all Became
formatted_whole all Became p = subst (λ source. IsFormatted source Became) (whole all p.is.size) p

for_whole : (all : List ℕ) (e : ReadError) → IsRefusedFor (take 65537 all) e → IsRefusedFor all e
for_whole all e (inl own) = inl (refused_whole all e own)
for_whole all e (inr layout) = inr (subst (λ source. IsRefusedLayout source e) (whole all layout.size) layout)

module _ (has : List ℕ → Type 0) (read : List ℕ) (is : IsReadOf has 65537 read) where
  refused_with : (e : ReadError) → e ≢ refused.NoMemory → IsRefusedFor read e → IsSourceWith has (λ source. IsRefusedWith source (read_number e) (read_place e))
  refused_with e other refusal =
      record {
        source = is.all;
        is = is.is;
        judged = record { refusal = e; is = for_whole is.all e (subst (λ source. IsRefusedFor source e) is.front refusal); judged = other; number_is = refl; place_is = refl };
      }

  pub format_reported : (Became : List ℕ → Type 0) → IsFormatted read Became → IsSourceWith has (λ source. IsFormatted source Became)
  format_reported Became p = record { source = is.all; is = is.is; judged = formatted_whole is.all Became (subst (λ source. IsFormatted source Became) is.front p) }

  same_whole : IsLaidOut read read → IsLaidOut is.all is.all
  same_whole p =
      let front = subst (λ source. IsLaidOut source source) is.front p in
      subst (λ source. IsLaidOut source source) (whole is.all front.size) front

  other_whole : IsFormatted read (λ text. text ≢ read) → IsFormatted is.all (λ text. text ≢ is.all)
  other_whole p =
      let front = subst (λ source. IsFormatted source (λ text. text ≢ source)) is.front p in
      subst (λ source. IsFormatted source (λ text. text ≢ source)) (whole is.all front.is.size) front

  module _ (lacks : Type 0) where
    -- the report on whether a file is its own layout
    pub layout_reported : (same : Truth) → (same ≡ true → IsLaidOut read read) → (same ≡ false → IsFormatted read (λ text. text ≢ read)) → IsLayoutReport has lacks (layout_report same)
    layout_reported true same other = record { source = is.all; is = is.is; judged = same_whole (same refl) }
    layout_reported false same other = record { source = is.all; is = is.is; judged = other_whole (other refl) }

    pub layout_fault_reported : (failed : PrintFault) → IsUnlaid read failed → IsLayoutReport has lacks (report_of (print_number failed) (print_place failed))
    layout_fault_reported fault.NoMemory left = inl refl
    layout_fault_reported (fault.Source refused.NoMemory) left = inl refl
    layout_fault_reported (fault.Source (refused.NotAscii at)) left = refused_with (refused.NotAscii at) (λ e. cc) left
    layout_fault_reported (fault.Source (refused.BadToken at)) left = refused_with (refused.BadToken at) (λ e. cc) left
    layout_fault_reported (fault.Source (refused.Syntax at)) left = refused_with (refused.Syntax at) (λ e. cc) left
    layout_fault_reported (fault.Source refused.TooLarge) left = refused_with refused.TooLarge (λ e. cc) left
    layout_fault_reported (fault.Source refused.TooDeep) left = refused_with refused.TooDeep (λ e. cc) left
    layout_fault_reported (fault.Write failed) left = absurd left

    module _ (kept : Type 0) (wrote : List ℕ → Type 0) (cut : List ℕ → ℕ → Type 0) where
      pub format_fault_reported : (failed : PrintFault) → IsUnformatted read kept cut failed → IsFormatReport has lacks kept wrote cut (report_of (print_number failed) (print_place failed))
      format_fault_reported fault.NoMemory left = inl (inl refl, left)
      format_fault_reported (fault.Source refused.NoMemory) left = inl (inl refl, left.1)
      format_fault_reported (fault.Source (refused.NotAscii at)) left = (refused_with (refused.NotAscii at) (λ e. cc) left.0, left.1)
      format_fault_reported (fault.Source (refused.BadToken at)) left = (refused_with (refused.BadToken at) (λ e. cc) left.0, left.1)
      format_fault_reported (fault.Source (refused.Syntax at)) left = (refused_with (refused.Syntax at) (λ e. cc) left.0, left.1)
      format_fault_reported (fault.Source refused.TooLarge) left = (refused_with refused.TooLarge (λ e. cc) left.0, left.1)
      format_fault_reported (fault.Source refused.TooDeep) left = (refused_with refused.TooDeep (λ e. cc) left.0, left.1)
      format_fault_reported (fault.Write (WriteFailed written)) left =
          inr (record { number_is = refl; written = written; stopped = format_reported (λ text. cut text written) left })
