-- What the threads of a run have that has all components in one group.
use Rattle.task_seed.specs.declared.setup.Setup.{Setup}
use Rattle.boards.specs.Passes.{IsAtRest}
use Rattle.workers.specs.declared.alone.Drawer.{Drawer}
use Rattle.workers.specs.declared.alone.Relay.{Relay}
use Rattle.workers.specs.declared.alone.Taker.{Taker}
use Rattle.workers.specs.declared.alone.Team.{Team}
use Rattle.workers.specs.declared.alone.Writer.{Writer}

module _ {T : Type 0} where
  -- the one that draws turns is of this relay, and its agenda is of the setup of what they hand each other
  abbrev pub IsDrawerOf : Relay T → Drawer T → Type 0
  IsDrawerOf relay drawer = IsAtRest relay.board drawer.agenda.setup drawer.pass

  -- the one that takes turns is of this relay, and its group is of that setup
  abbrev pub IsTakerOf : Relay T → Taker T → Type 0
  IsTakerOf relay taker = IsAtRest relay.board taker.group.setup taker.pass

  abbrev pub IsTeamOf : Relay T → Team T → Type 0
  IsTeamOf relay team = IsDrawerOf relay team.drawer × IsTakerOf relay team.taker

  -- the calling thread is of this relay, and what they hand each other is of this setup
  abbrev pub IsWriterOf : Relay T → Setup T → Writer T → Type 0
  IsWriterOf relay setup writer = IsAtRest relay.board setup writer.pass
