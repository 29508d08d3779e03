-- What a lent or owned value is.
use Rattle.terms.specs.Datum.{Datum}
use Rattle.evaluation.specs.declared.seen.Seen.{Seen}
use Rattle.evaluation.specs.declared.seen.Seen.TheVariants.{Lent, Own}

-- the value that is lent or owned
abbrev pub seen : Seen → Datum
seen (Lent value) = value.now
seen (Own value) = value
