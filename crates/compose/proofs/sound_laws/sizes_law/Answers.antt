use Rattle.compose.proofs.Sizes.{members_few, entries_few, tasks_few}
use Rattle.compose.proofs.sound_laws.sizes_law.Goals as goal

pub returns-clause-members : goal.returns-clause-members
returns-clause-members c = members_few c.size_law.ensures.all

pub returns-clause-tasks : goal.returns-clause-tasks
returns-clause-tasks c = tasks_few c.size_law.ensures.all

pub returns-clause-entries : goal.returns-clause-entries
returns-clause-entries c = entries_few c.size_law.ensures.all
