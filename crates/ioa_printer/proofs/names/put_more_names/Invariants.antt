use Rattle.std.proofs.Common.{◌≡◌, ◌++◌, drop, map}
use Rattle.std.specs.Prelude.{string_bytes}
use Rattle.ioa_tokens.specs.declared.Word.TheVariants as w
use Rattle.ioa_trees.specs.Nodes.{yields, name_part}
use Rattle.ioa_trees.specs.Spelling.{parts, named}
use Rattle.ioa_printer.proofs.names.put_more_names.Given as goal

abbrev pub invariant-loop-other : goal.invariant-loop-other
invariant-loop-other l =
    l.page ++ yields (parts name_part w.Comma named (map string_bytes (drop l.other-index l.others))) ≡ l.initial.page ++ yields (parts name_part w.Comma named (map string_bytes l.others))
