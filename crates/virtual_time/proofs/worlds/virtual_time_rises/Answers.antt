use Rattle.virtual_time.proofs.Past.{bound_past}
use Rattle.virtual_time.proofs.Replied.{virtual_one, most, rises}
use Rattle.virtual_time.proofs.Timed.{reached_silent, time_is}
use Rattle.virtual_time.proofs.worlds.virtual_time_rises.Goals as goal

pub returns-clause-one : goal.returns-clause-one
returns-clause-one t c machine w g h law p q = virtual_one machine law w g h p q

pub returns-clause-most : goal.returns-clause-most
returns-clause-most t c machine w g b law p past = most machine law w g b p past

pub returns-clause-bound : goal.returns-clause-bound
returns-clause-bound t c machine w g law is p = most machine law w g w.bound p (bound_past machine law w is)

pub returns-clause-rises : goal.returns-clause-rises
returns-clause-rises t c machine count w v step reply g h law is ans nr p q = rises machine law count w step reply v g h is ans nr p q

pub returns-clause-exists : goal.returns-clause-exists
returns-clause-exists t c machine count w law counted reached = time_is machine count counted w (reached_silent machine count counted w reached)
