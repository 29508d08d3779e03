-- What is printed of a source, and why it isn't.
use Rattle.std.specs.Prelude.{◌≡◌, ◌≢◌, ◌≤◌, ℕ, Option, List, length}
use Rattle.ioa_tokens.specs.Layout.{layout}
use Rattle.ioa_front.specs.declared.ReadError.{ReadError}
use Rattle.ioa_front.specs.declared.ReadError.TheVariants as refused
use Rattle.ioa_front.specs.Reading.{IsReadable, IsRefusal, Spells, most_bytes}
use Rattle.ioa_front.specs.Refusals.{read_number, read_place}
use Rattle.ioa_trees.specs.Spelling.{spell}
use Rattle.ioa_trees.specs.Trees.{PlainSource}
use Rattle.trace.specs.Puts.{written_of}
use Rattle.commands.specs.declared.fault.PrintFault.{PrintFault}
use Rattle.commands.specs.declared.fault.PrintFault.TheVariants as fault

-- the bytes spell a tree, and its layout became this
pub record IsPrinted (source : List ℕ) (Became : List ℕ → Type 0) : Type 0 where
  pub size : length source ≤ most_bytes
  pub tree : PlainSource
  pub spelled : Spells source tree
  pub readable : IsReadable tree
  pub became : Became (layout (spell tree))

-- the bytes are refused with this number and place
pub record IsRefusedSource (source : List ℕ) (number : ℕ) (place : Option ℕ) : Type 0 where
  pub refusal : ReadError
  pub is : IsRefusal source refusal
  pub judged : refusal ≢ refused.NoMemory
  pub number_is : number ≡ read_number refusal
  pub place_is : place ≡ read_place refusal

-- why nothing is printed, or not all: what was there is kept, or a write failed and the layout is cut after so many bytes
abbrev pub IsUnprinted : List ℕ → Type 0 → (List ℕ → ℕ → Type 0) → PrintFault → Type 0
IsUnprinted source kept cut fault.NoMemory = kept
IsUnprinted source kept cut (fault.Source refusal) = IsRefusal source refusal × kept
IsUnprinted source kept cut (fault.Write failed) = IsPrinted source (λ text. cut text (written_of failed))
