use Rattle.std.proofs.Common.{◌≡◌, ◌↔◌, sym, subst, ◌∙◌}
use Rattle.std.specs.Prelude.{IfErr, IfOk, IsErrOf, OnErr, OnOk}
use Rattle.std.specs.Arc.{arc_value}
use Rattle.std.specs.Vec.{with_items}
use Rattle.std.proofs.lemmas.List.{with_items_is}
use Rattle.event_keys.specs.Ranks.{rank}
use Rattle.task_seed.specs.Machines.{end_rank}
use Rattle.groups.specs.declared.running.Stop.TheVariants.{End}
use Rattle.groups.specs.Crew.{AreValidMembers, MembersView}
use Rattle.groups.specs.GroupView.{least_next}
use Rattle.groups.specs.Open.{IsFirstDone, IsProcessed}
use Rattle.groups.specs.Windows.{IsHalted}
use Rattle.groups.proofs.Kept.{first_done, first_key, first_none, first_valid}
use Rattle.groups.proofs.members.Members.process.Goals as goal

pub invariant_of-self : goal.invariant_of-self
invariant_of-self g c =
    let t = g.T.Turns.turn_of in
    let f = c.self.inside in
    let p = c.process_first in
    let xs = p.new.components in
    let ss = p.new.seats in
    let value = c.deref_mut.ensures.value in
    let done = subst (λ ys. IfOk p.result (λ key. IsFirstDone t c.args.window key ys c.args.sent.now xs p.new.sent)) value p.ensures.done in
    let kept = subst (λ ys. OnErr p.result ((xs ≡ ys) × (p.new.sent ≡ c.args.sent.now))) value p.ensures.kept in
    let items : (with_items f.components xs).items ≡ xs = with_items_is f.components xs (p.auto.components ∙ c.deref_mut.ensures.len) in
    let seats : (with_items f.seats ss).items ≡ ss = with_items_is f.seats ss (p.auto.seats ∙ c.deref_mut-2.ensures.len) in
    subst (λ ys. AreValidMembers t (arc_value f.setup) f.base ys f.places.items (with_items f.seats ss).items) (sym items)
    (subst (λ ys. AreValidMembers t (arc_value f.setup) f.base xs f.places.items ys) (sym seats)
    (first_valid t (arc_value f.setup) f.base f.components.items f.places.items f.seats.items c.self.invariant p.result c.args.window c.args.sent.now xs p.new.sent ss done kept p.ensures.seated))

pub returns-clause-key : goal.returns-clause-key
returns-clause-key g c =
    let t = g.T.Turns.turn_of in
    let f = c.self.inside in
    let p = c.process_first in
    let done = subst (λ ys. IfOk p.result (λ key. IsFirstDone t c.args.window key ys c.args.sent.now p.new.components p.new.sent)) c.deref_mut.ensures.value p.ensures.done in
    subst (λ (v : MembersView _). IfOk p.result (λ key. rank key ≡ least_next t v.setup v.components)) c.self.view_is
    (first_key t (arc_value f.setup) f.base f.components.items f.places.items f.seats.items c.self.invariant p.result c.args.window c.args.sent.now p.new.components p.new.sent done)

pub returns-clause-done : goal.returns-clause-done
returns-clause-done g c =
    let t = g.T.Turns.turn_of in
    let f = c.self.inside in
    let p = c.process_first in
    let xs = p.new.components in
    let done = subst (λ ys. IfOk p.result (λ key. IsFirstDone t c.args.window key ys c.args.sent.now xs p.new.sent)) c.deref_mut.ensures.value p.ensures.done in
    let items : (with_items f.components xs).items ≡ xs = with_items_is f.components xs (p.auto.components ∙ c.deref_mut.ensures.len) in
    subst (λ (v : MembersView _). OnOk p.result (IsProcessed t c.args.window v (record { setup = arc_value f.setup; base = f.base; components = (with_items f.components xs).items }) c.args.sent.now p.new.sent)) c.self.view_is
    (subst (λ ys. OnOk p.result (IsProcessed t c.args.window (record { setup = arc_value f.setup; base = f.base; components = f.components.items }) (record { setup = arc_value f.setup; base = f.base; components = ys }) c.args.sent.now p.new.sent)) (sym items)
    (first_done t (arc_value f.setup) f.base f.components.items f.places.items f.seats.items c.self.invariant p.result c.args.window c.args.sent.now xs p.new.sent done))

pub returns-clause-stop : goal.returns-clause-stop
returns-clause-stop g c =
    let t = g.T.Turns.turn_of in
    let p = c.process_first in
    subst (λ (v : MembersView _). IfErr p.result (λ stop. IsHalted t c.args.window stop v.components)) c.self.view_is
    (subst (λ ys. IfErr p.result (λ stop. IsHalted t c.args.window stop ys)) c.deref_mut.ensures.value p.ensures.stop)

pub returns-clause-nothing : goal.returns-clause-nothing
returns-clause-nothing g c =
    let t = g.T.Turns.turn_of in
    let f = c.self.inside in
    let p = c.process_first in
    let value = c.deref_mut.ensures.value in
    let done = subst (λ ys. IfOk p.result (λ key. IsFirstDone t c.args.window key ys c.args.sent.now p.new.components p.new.sent)) value p.ensures.done in
    let halted = subst (λ ys. IfErr p.result (λ stop. IsHalted t c.args.window stop ys)) value p.ensures.stop in
    subst (λ (v : MembersView _). IsErrOf p.result End ↔ (least_next t v.setup v.components ≡ end_rank)) c.self.view_is
    (first_none t (arc_value f.setup) f.base f.components.items f.places.items f.seats.items c.self.invariant p.result c.args.window c.args.sent.now p.new.components p.new.sent done halted)
