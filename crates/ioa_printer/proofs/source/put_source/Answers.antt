use Rattle.ioa_printer.proofs.Printed.{source_put}
use Rattle.ioa_printer.proofs.source.put_source.Goals as goal

pub returns : goal.returns
returns c =
    source_put _ _ _ _ c.args.source.now _ _ _ c.as_slice.ensures.value c.as_slice-2.ensures.value c.as_str.ensures.value
    c.in_ok-put_type_definitions.ensures c.in_ok-put_automata.ensures c.in_ok-put_composed.ensures
