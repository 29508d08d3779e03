use Rattle.std.proofs.Common.{◌≡◌, ◌∙◌, ℕ, List, subst}
use Rattle.ioa_trees.specs.Spelling.{spell}
use Rattle.ioa_trees.specs.Views.{view_source}
use Rattle.ioa_tokens.specs.Layout.{layout}
use Rattle.trace.specs.Puts.{written_of}
use Rattle.trace.specs.Went.{IsStopped}
use Rattle.commands.proofs.printing.print_source.Goals as goal

pub returns-clause-unprinted : goal.returns-clause-unprinted
returns-clause-unprinted g c =
    let tree = view_source c.in-Ok.tree in
    let text : c.as_slice.result.now ≡ layout (spell tree) = c.as_slice.ensures.value ∙ c.in-Ok-print.ensures in
    record {
      size = c.in-Ok.ensures.size;
      tree = tree;
      spelled = c.in-Ok.ensures.spelled;
      readable = c.in-Ok.ensures.readable;
      became = subst (λ (t : List ℕ). IsStopped g.W.Write.contents c.args.out.now c.write_text.new.out t (written_of c.in-Err-write_text.fault)) text c.in-Err-write_text.ensures.err;
    }
