use Rattle.std.proofs.Common.{rules, ◌≡◌, Some, IsSome, sym, subst}
use Rattle.std.specs.Prelude.{slice_index_or}
use Rattle.task_seed.specs.Clocks.{HasReached}
use Rattle.task_seed.specs.Setups.{system}
use Rattle.task_seed.specs.Turning.{key_of, turn_in}
use Rattle.reference.proofs.Reached.{clock_here}
use Rattle.reference.proofs.clocks.Clocks.turn.Goals as goal

pub turn-requires-clause-there : goal.turn-requires-clause-there
turn-requires-clause-there g c κs inside =
    let t = g.T.Turns.turn_of in let setup = c.args.setup.now in let key = c.args.key in
    let clock = c.index.result.now in
    let here = subst (λ x. HasReached t setup key.component x (slice_index_or c.args.numbers.now key.component 0)) (sym c.index.ensures)
    (clock_here t setup c.args.numbers.now c.args.self.now.clocks.items key.component c.from.result clock c.requires.clocks c.from.ensures c.requires.within) in
    let there : IsSome (key_of (system t setup) key.component key.number) = search rules in
    subst (λ i. IsSome (key_of (system t setup) i key.number)) (sym here.reached.own.component) there

pub turn-requires-clause-own : goal.turn-requires-clause-own
turn-requires-clause-own g c κs inside =
    let t = g.T.Turns.turn_of in let setup = c.args.setup.now in let key = c.args.key in
    let clock = c.index.result.now in
    let here = subst (λ x. HasReached t setup key.component x (slice_index_or c.args.numbers.now key.component 0)) (sym c.index.ensures)
    (clock_here t setup c.args.numbers.now c.args.self.now.clocks.items key.component c.from.result clock c.requires.clocks c.from.ensures c.requires.within) in
    (subst (λ i. HasReached t setup i clock (slice_index_or c.args.numbers.now key.component 0)) (sym here.reached.own.component) here).reached.own

pub returns : goal.returns
returns g c =
    let t = g.T.Turns.turn_of in let setup = c.args.setup.now in let key = c.args.key in
    let clock = c.index.result.now in
    let here = subst (λ x. HasReached t setup key.component x (slice_index_or c.args.numbers.now key.component 0)) (sym c.index.ensures)
    (clock_here t setup c.args.numbers.now c.args.self.now.clocks.items key.component c.from.result clock c.requires.clocks c.from.ensures c.requires.within) in
    subst (λ i. Some c.turn.result ≡ turn_in (system t setup) i key.number) here.reached.own.component c.turn.ensures
