use Rattle.antimessage.proofs.Pairs.{stays}
use Rattle.antimessage.proofs.Effects.{meet_pluses, meet_minuses, meet_others}
use Rattle.antimessage.proofs.laws.meet_law.Goals as goal

pub returns-clause-pluses : goal.returns-clause-pluses
returns-clause-pluses c = meet_pluses

pub returns-clause-minuses : goal.returns-clause-minuses
returns-clause-minuses c = meet_minuses

pub returns-clause-others : goal.returns-clause-others
returns-clause-others c = meet_others

pub returns-clause-kept : goal.returns-clause-kept
returns-clause-kept c = stays
