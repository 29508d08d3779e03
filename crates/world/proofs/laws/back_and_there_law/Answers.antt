use Rattle.world.proofs.ThereAndBack.{back_and_there}
use Rattle.world.proofs.laws.back_and_there_law.Goals as goal

pub returns : goal.returns
returns g c machine count i w v steps replies law reached h = back_and_there c.cited_theory.ensures machine law count i w steps replies v reached h
