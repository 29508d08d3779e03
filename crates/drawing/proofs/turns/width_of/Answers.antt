use Rattle.std.proofs.Common.{sym, ap, string_bytes}
use Rattle.std.proofs.lemmas.List.{length-map}
use Rattle.drawing.specs.Turns.{x_of}
use Rattle.drawing.proofs.turns.width_of.Goals as goal

pub returns : goal.returns
returns c = ap x_of (sym (length-map c.args.names.now string_bytes))
