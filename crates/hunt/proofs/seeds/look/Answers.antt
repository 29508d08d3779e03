use Rattle.task_seed.specs.Drawn.{seed_turn}
use Rattle.task_seed.specs.Setups.{plan_of, system}
use Rattle.hunt.specs.Seeds.{hunted}
use Rattle.hunt.proofs.Parts.{kept_plan, looked_has, looked_lacks}
use Rattle.hunt.proofs.seeds.look.Goals as goal

pub returns-in-Err-clause-err : goal.returns-in-Err-clause-err
returns-in-Err-clause-err c = c.in-Err.ensures.err c.args.action.now c.args.course

pub returns-in-Err-named-clause-err : goal.returns-in-Err-named-clause-err
returns-in-Err-named-clause-err c = c.in-Err-named.ensures.err c.args.source.now c.args.course c.in-Ok.ensures.ok

pub returns-in-Err-sow-clause-err : goal.returns-in-Err-sow-clause-err
returns-in-Err-sow-clause-err c =
    c.in-Err-sow.ensures.err c.args.source.now c.args.action.now
    (record { plan = c.in-Ok.plan; wanted = c.in-Ok-named.wanted; composed = c.in-Ok.ensures.ok; named = c.in-Ok-named.ensures.ok })

pub returns-clause-has : goal.returns-clause-has
returns-clause-has c =
    let h = hunted c.args.source.now c.args.action.now c.args.course in
    let setup = c.in-Ok-sow.setup in
    looked_has h c.args.seed c.in-Ok.plan (plan_of setup) (system seed_turn setup) c.in-Ok-named.wanted c.in-Ok-sow.ensures.plan c.in-Ok.ensures.ok c.in-Ok-sow.ensures.sown c.in-Ok-named.ensures.ok (λ text. text.items) c.watch-found.result c.watch-found.ensures.shown

pub returns-clause-lacks : goal.returns-clause-lacks
returns-clause-lacks c =
    let h = hunted c.args.source.now c.args.action.now c.args.course in
    let setup = c.in-Ok-sow.setup in
    looked_lacks h c.args.seed c.in-Ok.plan (plan_of setup) (system seed_turn setup) c.in-Ok-named.wanted c.in-Ok-sow.ensures.plan c.in-Ok.ensures.ok c.in-Ok-sow.ensures.sown c.in-Ok-named.ensures.ok c.watch-found.result c.watch-found.ensures.never

pub returns-clause-kept : goal.returns-clause-kept
returns-clause-kept c = kept_plan c.watch-found.new.kept c.args.source.now c.in-Ok.plan (plan_of c.in-Ok-sow.setup) c.watch-found.ensures.kept c.in-Ok-sow.ensures.plan c.in-Ok.ensures.ok
