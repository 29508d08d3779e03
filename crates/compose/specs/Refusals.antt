-- The numbers and places of refused sources.
use Rattle.std.specs.Prelude.{ℕ, Option}
use Rattle.ioa_front.specs.Refusals.{read_number, read_place}
use Rattle.ioa_check.specs.Refusals.{check_number, check_place}
use Rattle.compose.specs.Faults.{compose_number, compose_place}
use Rattle.compose.specs.declared.source_error.SourceError.{SourceError}
use Rattle.compose.specs.declared.source_error.SourceError.TheVariants as fault

abbrev pub source_number : SourceError → ℕ
source_number (fault.Read refusal) = read_number refusal
source_number (fault.Check refusal) = check_number refusal
source_number (fault.Compose refusal) = compose_number refusal

abbrev pub source_place : SourceError → Option ℕ
source_place (fault.Read refusal) = read_place refusal
source_place (fault.Check refusal) = check_place refusal
source_place (fault.Compose refusal) = compose_place refusal
