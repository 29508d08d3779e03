use Rattle.std.proofs.Common.{◌≡◌, ◌<◌, ◌==◌, [], ◌∷◌, ◌++◌, cond, rules, refl, sym, ap, ◌∙◌, arith}
use Rattle.std.specs.Arc.{arc_value}
use Rattle.rollback.specs.ComponentView.{start_held}
use Rattle.groups.specs.GroupView.{count_of, group_in}
use Rattle.groups.proofs.Starting.{group_here, placed_more, to, to_more}
use Rattle.groups.proofs.start.start_placed.Goals as goal

pub loop-i-preserved : goal.loop-i-preserved
loop-i-preserved g c =
    let t = g.T.Turns.turn_of in
    let setup = arc_value c.args.setup.now in
    let group = group_in (count_of setup) c.args.group_of.now in
    let number = c.args.number in
    let i = c.loop-i.i in
    let b = c.is_of-is_member.result in
    let within : i < count_of setup = search rules in
    let small : c.components-i-end.result < 65536 = search rules in
    let test = c.loop-i-test.true in
    let is : b ≡ (group i == number) = c.is_of-is_member.ensures ∙ group_here (count_of setup) c.args.group_of.now i number within in
    record {
      components = c.in_ok-add.ensures.components ∙ ap (λ xs. xs ++ cond b (start_held t setup i ∷ []) []) c.loop-i.invariant.components ∙ ap (λ x. to t setup group number i ++ cond x (start_held t setup i ∷ []) []) is ∙ sym (to_more t setup group number i);
      placed = placed_more i c.loop-i.components.items c.loop-i.places.items c.add.new.components.items c.add.new.places.items (start_held t setup i) b c.loop-i.invariant.placed (omega (arith, test, small)) refl c.in_ok-add.ensures.components c.in_ok-add.ensures.places;
    }
