use Rattle.hunt.proofs.seeds.sow.Goals as goal

pub returns-in-Err-clause-err : goal.returns-in-Err-clause-err
returns-in-Err-clause-err c source action named = (c.in-Err.ensures.err source action named, tt)
