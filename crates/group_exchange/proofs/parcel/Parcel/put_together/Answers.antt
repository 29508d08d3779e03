use Rattle.std.proofs.Common.{◌≡◌, length, ap, sym, subst, ◌∙◌}
use Rattle.std.specs.Vec.{with_items}
use Rattle.std.proofs.lemmas.List.{length-map, with_items_is}
use Rattle.event_keys.specs.Ranks.{rank_of_bound}
use Rattle.group_exchange.specs.Chunks.{first_from}
use Rattle.group_exchange.specs.Held.{IsCutBelow, all_from, put_all}
use Rattle.group_exchange.proofs.Lists.{cut_from, put_left}
use Rattle.group_exchange.proofs.parcel.Parcel.put_together.Goals as goal

pub invariant_of-self : goal.invariant_of-self
invariant_of-self c =
    let p = c.self.inside in
    let b = rank_of_bound p.bound in
    let new = c.take_all_below.new.queues in
    let long = ap length c.take_all_below.ensures.rest ∙ length-map c.deref_mut.result.now (first_from b) ∙ c.deref_mut.ensures.len in
    let items : (with_items p.queues new).items ≡ all_from b p.queues.items = with_items_is p.queues new long ∙ c.take_all_below.ensures.rest ∙ ap (all_from b) c.deref_mut.ensures.value in
    subst (IsCutBelow b) (sym items) (cut_from b p.queues.items c.self.invariant.below)

pub returns-clause-empty : goal.returns-clause-empty
returns-clause-empty c =
    let p = c.self.inside in
    let b = rank_of_bound p.bound in
    let new = c.take_all_below.new.queues in
    let long = ap length c.take_all_below.ensures.rest ∙ length-map c.deref_mut.result.now (first_from b) ∙ c.deref_mut.ensures.len in
    let items : (with_items p.queues new).items ≡ all_from b p.queues.items = with_items_is p.queues new long ∙ c.take_all_below.ensures.rest ∙ ap (all_from b) c.deref_mut.ensures.value in
    ap put_all items ∙ put_left b p.queues.items c.self.invariant.below
