use Rattle.world.proofs.SettingOut.{both_had, same_runs}
use Rattle.world.proofs.laws.determined_law.Goals as goal

pub returns-clause-alike : goal.returns-clause-alike
returns-clause-alike g c machine count w v u steps replies others law reached alike h k = same_runs c.cited_theory.ensures machine law count steps replies others w v u reached alike h k

pub returns-clause-had : goal.returns-clause-had
returns-clause-had g c machine count w v u steps replies others law reached p q h k =
    same_runs c.cited_theory.ensures machine law count steps replies others w v u reached (both_had steps replies others p q) h k
