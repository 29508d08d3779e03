use denote.Param.{param}
use Rattle.std.proofs.Crossing as crossing
use denote.Param.Send.{IsSend, IsSync, sendable}
use borrow.Author.Rules.{rules}
use Rattle.workers.specs.contracts.alone.Relay as Relay
use Rattle.workers.specs.contracts.alone.Drawer as Drawer
use Rattle.workers.specs.contracts.alone.Taker as Taker
use Rattle.workers.proofs.Crossing.{Drawer-send, Relay-sync, Taker-send}
use Rattle.workers.proofs.running_alone.fn.all_in_scope.scope.Goals as goal

pub spawn-drawing-requires-send-F : goal.spawn-drawing-requires-send-F
spawn-drawing-requires-send-F g c κs within =
    let T = param 0 g.row.T in
    let t : IsSend T = search rules parts 8 in
    let y : IsSync T = search rules parts 8 in
    let relay : IsSync (Relay.the_row T g.T.Turns g.T.Eq g.T.PartialEq) = Relay-sync T g.T.Turns g.T.PartialEq g.T.Eq t y in
    let drawer : IsSend (Drawer.the_row T g.T.Turns g.T.PartialEq) = Drawer-send T g.T.Turns g.T.PartialEq t y in
    let gate : IsSync (param 2 g.row.G) = search rules parts 8 in
    let rt : IsSync (param 3 g.row.R) = search rules parts 8 in
    search (crossing.crosses, sendable) depth 60 fits 20000

pub spawn-taking-requires-send-F : goal.spawn-taking-requires-send-F
spawn-taking-requires-send-F g c κs within =
    let T = param 0 g.row.T in
    let t : IsSend T = search rules parts 8 in
    let y : IsSync T = search rules parts 8 in
    let relay : IsSync (Relay.the_row T g.T.Turns g.T.Eq g.T.PartialEq) = Relay-sync T g.T.Turns g.T.PartialEq g.T.Eq t y in
    let taker : IsSend (Taker.the_row T g.T.Turns g.T.PartialEq) = Taker-send T g.T.Turns g.T.PartialEq t y in
    let gate : IsSync (param 2 g.row.G) = search rules parts 8 in
    let rt : IsSync (param 3 g.row.R) = search rules parts 8 in
    search (crossing.crosses, sendable) depth 60 fits 20000
