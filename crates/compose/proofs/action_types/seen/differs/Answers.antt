use Rattle.compose.specs.TypedStandings.{stood}
use Rattle.compose.proofs.Kept.{differs_found, differs_none}
use Rattle.compose.proofs.action_types.seen.differs.Goals as goal

pub returns-in-Some : goal.returns-in-Some
returns-in-Some c = differs_found c.as_str.result.now (stood c.args.standing.now) c.args.seen.now.entries c.in-Some.first.now c.are_same.result c.in-Some.ensures.value c.as_str.ensures.value c.are_same.ensures

pub returns-in-None : goal.returns-in-None
returns-in-None c = differs_none c.as_str.result.now (stood c.args.standing.now) c.args.seen.now.entries c.in-None.ensures.value c.as_str.ensures.value
