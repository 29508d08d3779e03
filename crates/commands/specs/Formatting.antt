-- What is laid out of a source, and why it isn't.
use Rattle.std.specs.Prelude.{◌≡◌, ◌≢◌, ◌≤◌, ◌⊎◌, ℕ, Bool as Truth, true, false, Option, List, length}
use Rattle.ioa_front.specs.declared.ReadError.{ReadError}
use Rattle.ioa_front.specs.declared.ReadError.TheVariants as refused
use Rattle.ioa_front.specs.Reading.{IsReadable, IsRefusal, Spells, most_bytes}
use Rattle.ioa_front.specs.Refusals.{read_number, read_place}
use Rattle.ioa_layout.specs.Laid.{IsLayout}
use Rattle.ioa_trees.specs.Trees.{PlainSource}
use Rattle.trace.specs.Puts.{written_of}
use Rattle.commands.specs.declared.fault.PrintFault.{PrintFault}
use Rattle.commands.specs.declared.fault.PrintFault.TheVariants as fault
use Rattle.commands.specs.declared.report.Report.{Report}
use Rattle.commands.specs.declared.report.Report.TheVariants.{Done, No, Driven, Ran, Explained, Refused, Fault, Misused}
use Rattle.commands.specs.Unread.{IsSourceWith, IsUnread}

-- the bytes spell a tree; the text is a layout of them, and spells the same tree
pub record IsLaidOut (source text : List ℕ) : Type 0 where
  pub size : length source ≤ most_bytes
  pub tree : PlainSource
  pub spelled : Spells source tree
  pub readable : IsReadable tree
  pub layout : IsLayout source text
  pub fits : length text ≤ most_bytes
  pub again : Spells text tree

-- a source's layout became this
pub record IsFormatted (source : List ℕ) (Became : List ℕ → Type 0) : Type 0 where
  pub text : List ℕ
  pub is : IsLaidOut source text
  pub became : Became text

-- a layout of a source is refused for this
pub record IsRefusedLayout (source : List ℕ) (refusal : ReadError) : Type 0 where
  pub size : length source ≤ most_bytes
  pub text : List ℕ
  pub layout : IsLayout source text
  pub refused : IsRefusal text refusal

-- a source, or its layout, is refused for this
abbrev pub IsRefusedFor : List ℕ → ReadError → Type 0
IsRefusedFor source refusal = IsRefusal source refusal ⊎ IsRefusedLayout source refusal

-- why a source is not laid out
abbrev pub IsUnlaid : List ℕ → PrintFault → Type 0
IsUnlaid source fault.NoMemory = length source ≡ length source
IsUnlaid source (fault.Source refusal) = IsRefusedFor source refusal
IsUnlaid source (fault.Write failed) = ⊥

-- why nothing is laid out, or not all: what was there is kept, or a write failed and the layout is cut after so many bytes
abbrev pub IsUnformatted : List ℕ → Type 0 → (List ℕ → ℕ → Type 0) → PrintFault → Type 0
IsUnformatted source kept cut fault.NoMemory = kept
IsUnformatted source kept cut (fault.Source refusal) = IsRefusedFor source refusal × kept
IsUnformatted source kept cut (fault.Write failed) = IsFormatted source (λ text. cut text (written_of failed))

-- a source, or its layout, is refused with this number and place
pub record IsRefusedWith (source : List ℕ) (number : ℕ) (place : Option ℕ) : Type 0 where
  pub refusal : ReadError
  pub is : IsRefusedFor source refusal
  pub judged : refusal ≢ refused.NoMemory
  pub number_is : number ≡ read_number refusal
  pub place_is : place ≡ read_place refusal

-- a write failed (60), and the layout is cut after so many bytes
pub record IsFormatCut (has : List ℕ → Type 0) (cut : List ℕ → ℕ → Type 0) (number : ℕ) : Type 0 where
  pub number_is : number ≡ 60
  pub written : ℕ
  pub stopped : IsSourceWith has (λ source. IsFormatted source (λ text. cut text written))

-- The report on a source file that has these bytes, or can't be read, whose layout is written.
abbrev pub IsFormatReport : (List ℕ → Type 0) → Type 0 → Type 0 → (List ℕ → Type 0) → (List ℕ → ℕ → Type 0) → Report → Type 0
IsFormatReport has lacks kept wrote cut Done = IsSourceWith has (λ source. IsFormatted source wrote)
IsFormatReport has lacks kept wrote cut No = ⊥
IsFormatReport has lacks kept wrote cut (Driven refused) = ⊥
IsFormatReport has lacks kept wrote cut (Ran stats) = ⊥
IsFormatReport has lacks kept wrote cut Explained = ⊥
IsFormatReport has lacks kept wrote cut (Refused number place) = IsSourceWith has (λ source. IsRefusedWith source number place) × kept
IsFormatReport has lacks kept wrote cut (Fault number) = (IsUnread lacks number × kept) ⊎ IsFormatCut has cut number
IsFormatReport has lacks kept wrote cut Misused = ⊥

-- the report on whether a source is its own layout
abbrev pub layout_report : Truth → Report
layout_report true = Done
layout_report false = No

-- The report on whether a source file is its own layout.
abbrev pub IsLayoutReport : (List ℕ → Type 0) → Type 0 → Report → Type 0
IsLayoutReport has lacks Done = IsSourceWith has (λ source. IsLaidOut source source)
IsLayoutReport has lacks No = IsSourceWith has (λ source. IsFormatted source (λ text. text ≢ source))
IsLayoutReport has lacks (Driven refused) = ⊥
IsLayoutReport has lacks (Ran stats) = ⊥
IsLayoutReport has lacks Explained = ⊥
IsLayoutReport has lacks (Refused number place) = IsSourceWith has (λ source. IsRefusedWith source number place)
IsLayoutReport has lacks (Fault number) = IsUnread lacks number
IsLayoutReport has lacks Misused = ⊥
