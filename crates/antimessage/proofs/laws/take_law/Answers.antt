use Rattle.antimessage.proofs.Counting.{passes, left_same}
use Rattle.antimessage.specs.Counts.{is_same}
use Rattle.antimessage.proofs.Effects.{take_less, take_others, take_least, take_none}
use Rattle.antimessage.proofs.laws.take_law.Goals as goal

pub returns-clause-passes : goal.returns-clause-passes
returns-clause-passes c = passes is_same

pub returns-clause-least : goal.returns-clause-least
returns-clause-least c = take_least

pub returns-clause-less : goal.returns-clause-less
returns-clause-less c = take_less

pub returns-clause-others : goal.returns-clause-others
returns-clause-others c = take_others

pub returns-clause-none : goal.returns-clause-none
returns-clause-none c = take_none

pub returns-clause-kept : goal.returns-clause-kept
returns-clause-kept c = left_same is_same
