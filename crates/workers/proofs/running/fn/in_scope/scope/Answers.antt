use Rattle.std.proofs.Common.{All, subst, sym}
use Rattle.std.proofs.lemmas.List.Elements.{All-head, All-rest}
use Rattle.workers.specs.declared.crew.Worker.{Worker as WorkerSeen}
use Rattle.workers.specs.Crews.{IsOf}
use denote.Param.{param}
use Rattle.std.proofs.Crossing as crossing
use denote.Param.Send.{IsSend, IsSync, sendable}
use borrow.Author.Rules.{rules}
use Rattle.workers.specs.contracts.crew.Worker as Worker
use Rattle.workers.specs.contracts.shared.Shared as Shared
use Rattle.workers.proofs.Crossing.{Shared-sync, Worker-send}
use Rattle.workers.proofs.running.fn.in_scope.scope.Goals as goal

pub spawn-child-requires-send-F : goal.spawn-child-requires-send-F
spawn-child-requires-send-F g c κs within =
    let T = param 0 g.row.T in
    let t : IsSend T = search rules parts 8 in
    let y : IsSync T = search rules parts 8 in
    let shared : IsSync (Shared.the_row T g.T.Turns g.T.Eq g.T.PartialEq) = Shared-sync T g.T.Turns g.T.PartialEq g.T.Eq t y in
    let worker : IsSend (Worker.the_row T g.T.Turns g.T.PartialEq) = Worker-send T g.T.Turns g.T.PartialEq t y in
    let gate : IsSync (param 2 g.row.G) = search rules parts 8 in
    let rt : IsSync (param 3 g.row.R) = search rules parts 8 in
    search (crossing.crosses, sendable) depth 60 fits 20000

pub loop-worker-init : goal.loop-worker-init
loop-worker-init g c = record {
  can = tt;
  ends = tt;
  crew = subst (All (IsOf g.T.Turns.turn_of c.captures.shared.now)) (sym c.into_iter-worker-iterator.ensures.into_iter_gives.0) c.requires.0;
  caller = c.requires.1;
}

pub spawn-child-requires-after_bounds : goal.spawn-child-requires-after_bounds
spawn-child-requires-after_bounds g c κs within =
    let P : WorkerSeen g.row.T.Denot → Type 0 = IsOf g.T.Turns.turn_of c.captures.shared.now in
    let worker : P c.in-Some.worker = All-head P c.in-Some.worker c.next.new.self.rest.items (subst (All P) c.in-Some.ensures.steps.0 c.loop-worker.invariant.crew) in
    (worker, search rules parts 8)

pub loop-worker-preserved-else-is_err : goal.loop-worker-preserved-else-is_err
loop-worker-preserved-else-is_err g c =
    let P : WorkerSeen g.row.T.Denot → Type 0 = IsOf g.T.Turns.turn_of c.captures.shared.now in
    let i = c.loop-worker.invariant in
    record {
      can = i.can;
      ends = i.ends;
      crew = All-rest P c.in-Some.worker c.next.new.self.rest.items c.loop-worker.worker-iterator.rest.items c.in-Some.ensures.steps.0 i.crew;
      caller = i.caller;
    }
