use Rattle.std.proofs.Common.{◌≡◌, ◌+◌, Some, sym, subst, arith}
use Rattle.std.specs.Prelude.{IfOk, OnOk, slice_index_or}
use Rattle.task_seed.specs.Clocks.{HasReached, Reaching}
use Rattle.task_seed.specs.Setups.{system}
use Rattle.task_seed.specs.Turning.{key_of}
use Rattle.reference.proofs.Reached.{clock_here, one_reached, still_reached, then_reached}
use Rattle.reference.proofs.clocks.Clocks.reach_after.Goals as goal

pub reach_after-requires-clause-there : goal.reach_after-requires-clause-there
reach_after-requires-clause-there g c κs inside =
    let t = g.T.Turns.turn_of in let setup = c.args.setup.now in let key = c.args.key in let numbers = c.args.numbers.now in
    let clock = c.index_mut.result.now in
    let at = subst (λ x. HasReached t setup key.component x (slice_index_or numbers key.component 0)) (sym c.index_mut.ensures.value)
    (clock_here t setup numbers c.args.self.now.clocks.items key.component c.from.result clock c.requires.clocks c.from.ensures c.requires.within) in
    let here : HasReached t setup key.component clock key.number = subst (λ n. HasReached t setup key.component clock n) c.requires.number at in
    let component = here.reached.own.component in
    subst (λ i. Some key ≡ key_of (system t setup) i key.number) (sym component) c.requires.there

pub reach_after-requires-clause-reached : goal.reach_after-requires-clause-reached
reach_after-requires-clause-reached g c κs inside =
    let t = g.T.Turns.turn_of in let setup = c.args.setup.now in let key = c.args.key in let numbers = c.args.numbers.now in
    let clock = c.index_mut.result.now in
    let at = subst (λ x. HasReached t setup key.component x (slice_index_or numbers key.component 0)) (sym c.index_mut.ensures.value)
    (clock_here t setup numbers c.args.self.now.clocks.items key.component c.from.result clock c.requires.clocks c.from.ensures c.requires.within) in
    let here : HasReached t setup key.component clock key.number = subst (λ n. HasReached t setup key.component clock n) c.requires.number at in
    let component = here.reached.own.component in
    subst (λ i. HasReached t setup i clock key.number) (sym component) here

pub returns-clause-key : goal.returns-clause-key
returns-clause-key g c =
    let t = g.T.Turns.turn_of in let setup = c.args.setup.now in let key = c.args.key in let numbers = c.args.numbers.now in
    let clock = c.index_mut.result.now in
    let at = subst (λ x. HasReached t setup key.component x (slice_index_or numbers key.component 0)) (sym c.index_mut.ensures.value)
    (clock_here t setup numbers c.args.self.now.clocks.items key.component c.from.result clock c.requires.clocks c.from.ensures c.requires.within) in
    let here : HasReached t setup key.component clock key.number = subst (λ n. HasReached t setup key.component clock n) c.requires.number at in
    let component = here.reached.own.component in
    subst (λ i. IfOk c.reach_after.result (λ next. next ≡ key_of (system t setup) i (key.number + 1))) component c.reach_after.ensures.key

pub returns-clause-clocks : goal.returns-clause-clocks
returns-clause-clocks g c =
    let t = g.T.Turns.turn_of in let setup = c.args.setup.now in let key = c.args.key in let numbers = c.args.numbers.now in
    let clock = c.index_mut.result.now in
    let at = subst (λ x. HasReached t setup key.component x (slice_index_or numbers key.component 0)) (sym c.index_mut.ensures.value)
    (clock_here t setup numbers c.args.self.now.clocks.items key.component c.from.result clock c.requires.clocks c.from.ensures c.requires.within) in
    let here : HasReached t setup key.component clock key.number = subst (λ n. HasReached t setup key.component clock n) c.requires.number at in
    let component = here.reached.own.component in
    let reaching = subst (λ i. OnOk c.reach_after.result (Reaching t setup i clock (key.number + 1) c.reach_after.new.self)) component c.reach_after.ensures.ok in
    let still = still_reached t setup key.component c.reach_after.result clock c.reach_after.new.self key.number (key.number + 1) (omega arith) here reaching c.reach_after.ensures.err c.reach_after.ensures.err_ticks in
    one_reached t setup numbers c.args.self.now.clocks.items key.component c.from.result c.reach_after.new.self c.requires.clocks c.from.ensures
    (subst (λ n. HasReached t setup key.component c.reach_after.new.self n) (sym c.requires.number) still)

pub returns-clause-reached : goal.returns-clause-reached
returns-clause-reached g c =
    let t = g.T.Turns.turn_of in let setup = c.args.setup.now in let key = c.args.key in let numbers = c.args.numbers.now in
    let clock = c.index_mut.result.now in
    let at = subst (λ x. HasReached t setup key.component x (slice_index_or numbers key.component 0)) (sym c.index_mut.ensures.value)
    (clock_here t setup numbers c.args.self.now.clocks.items key.component c.from.result clock c.requires.clocks c.from.ensures c.requires.within) in
    let here : HasReached t setup key.component clock key.number = subst (λ n. HasReached t setup key.component clock n) c.requires.number at in
    let component = here.reached.own.component in
    let reaching = subst (λ i. OnOk c.reach_after.result (Reaching t setup i clock (key.number + 1) c.reach_after.new.self)) component c.reach_after.ensures.ok in
    then_reached t setup key.component c.reach_after.result numbers c.args.self.now.clocks.items clock c.reach_after.new.self c.from.result key.number c.from.ensures here reaching (returns-clause-clocks g c)
