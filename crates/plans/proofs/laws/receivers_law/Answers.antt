use Rattle.io_automata.specs.Receivers.{receivers_rise, receivers_all, receiver_input}
use Rattle.plans.proofs.laws.receivers_law.Goals as goal

pub returns-clause-once : goal.returns-clause-once
returns-clause-once c composition action sender = receivers_rise composition action sender

pub returns-clause-all : goal.returns-clause-all
returns-clause-all c composition action sender j = receivers_all composition action sender j

pub returns-clause-input : goal.returns-clause-input
returns-clause-input c composition action sender j is_receiver = receiver_input composition action sender j is_receiver
