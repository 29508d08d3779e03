-- Which seats belong to which word, and what a seat knows.
use Rattle.std.specs.Prelude.{◌≡◌}
use Rattle.gvt.specs.declared.rule.Known.{Known}
use Rattle.gvt.specs.declared.word.Published.{Published}
use Rattle.gvt.specs.declared.word.Seat.{Seat}

abbrev pub knowledge : Seat → Known
knowledge s = s.place.me.0

abbrev pub IsSeatOf : Published → Seat → Type 0
IsSeatOf p s = s.place.table_id ≡ p.table.shared.table_id
