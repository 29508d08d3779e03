use Rattle.world.proofs.RingTurned.{example_a, example_b, told}
use Rattle.world.proofs.examples.there_and_back_example.Goals as goal

pub returns-clause-straggler : goal.returns-clause-straggler
returns-clause-straggler c = example_a

pub returns-clause-sent_again : goal.returns-clause-sent_again
returns-clause-sent_again c = example_b

pub returns-clause-told : goal.returns-clause-told
returns-clause-told c = told
