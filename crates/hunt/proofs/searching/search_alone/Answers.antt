use Rattle.std.proofs.Common.{subst}
use Rattle.std.specs.Prelude.{IfNone}
use Rattle.hunt.specs.Seeds.{Lacks, hunted}
use Rattle.hunt.proofs.Parts.{lack_more}
use Rattle.hunt.proofs.searching.search_alone.Goals as goal

pub loop-seed-preserved : goal.loop-seed-preserved
loop-seed-preserved c =
    let h = hunted c.args.source.now c.args.action.now c.args.course in
    record {
      lack = lack_more h c.args.from c.loop-seed.seed c.loop-seed.invariant.lack (subst (λ o. IfNone o (Lacks h c.loop-seed.seed)) c.in-Ok-None.field-0-is c.in-Ok-None.ensures.lacks);
      kept = c.look.ensures.kept;
    }
