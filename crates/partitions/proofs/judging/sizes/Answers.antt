use Rattle.std.proofs.Common.{◌≡◌, ◌<◌, ◌+◌, ◌^◌, ap, arith, get_or, length, rules, ◌∙◌}
use Rattle.std.proofs.Math.ListN.{set}
use Rattle.std.proofs.lemmas.Grind.{get_or_default_zero}
use Rattle.std.proofs.lemmas.List.Elements.{All-get_or}
use Rattle.partitions.proofs.Sizes.{size_small, sizes_more}
use Rattle.partitions.proofs.judging.sizes.Goals as goal

pub overflow_add-index_mut : goal.overflow_add-index_mut
overflow_add-index_mut c =
    let xs = c.args.group_of.now in
    let i = c.loop-group.group-index in
    let place = c.from-in-loop-group.result in
    let here : i < length xs = search rules in
    let few : length xs < 2 ^ 63 = search rules in
    let at : place ≡ get_or xs i 0 = search rules in
    let below : get_or xs i 0 < c.args.groups = All-get_or (λ g. g < c.args.groups) xs i 0 here c.requires in
    let within : place < c.args.groups = omega (arith, at, below) in
    let value : c.index_mut.result.now ≡ get_or c.loop-group.sizes.items place 0 = c.index_mut.ensures.value ∙ get_or_default_zero c.loop-group.sizes.items place c.index_mut.result.now (omega (arith, at, below, c.loop-group.invariant.long)) in
    let known = c.loop-group.invariant.sizes place within in
    let small = size_small xs i place (omega (arith, here)) in
    omega (arith, value, known, small, here, few)

pub loop-group-preserved : goal.loop-group-preserved
loop-group-preserved c =
    let xs = c.args.group_of.now in
    let sizes = c.loop-group.sizes.items in
    let i = c.loop-group.group-index in
    let place = c.from-in-loop-group.result in
    let here : i < length xs = search rules in
    let at : place ≡ get_or xs i 0 = search rules in
    let below : get_or xs i 0 < c.args.groups = All-get_or (λ g. g < c.args.groups) xs i 0 here c.requires in
    let value : c.index_mut.result.now ≡ get_or sizes place 0 = c.index_mut.ensures.value ∙ get_or_default_zero sizes place c.index_mut.result.now (omega (arith, at, below, c.loop-group.invariant.long)) in
    let more = value ∙ ap (λ p. get_or sizes p 0) at in
    record {
      long = search rules;
      sizes = λ g l. ap (λ p. get_or (set sizes p (c.index_mut.result.now + 1)) g 0) at
          ∙ ap (λ v. get_or (set sizes (get_or xs i 0) (v + 1)) g 0) more
          ∙ sizes_more xs sizes i c.args.groups g here c.loop-group.invariant.long below c.loop-group.invariant.sizes l;
    }
