use Rattle.std.proofs.Common.{◌<◌, length, sym, ◌∙◌, arith}
use Rattle.event_keys.specs.Ranks.{rank_of_bound}
use Rattle.group_exchange.proofs.Lists.{halved, length_single}
use Rattle.group_exchange.proofs.parcel.+take_apart.Goals as goal

pub take_below-taken-requires : goal.take_below-taken-requires
take_below-taken-requires t c =
    let few = c.requires.few in
    let one = length_single (rank_of_bound c.args.bound) c.args.queues.now c.index-queues-0.result c.if-many-eq1.true c.requires.order in
    record { few = omega (arith, few, one) }

pub returns-then-many-eq1-clause-count : goal.returns-then-many-eq1-clause-count
returns-then-many-eq1-clause-count t c = c.take_below-taken.ensures.count ∙ sym (length_single (rank_of_bound c.args.bound) c.args.queues.now c.index-queues-0.result c.if-many-eq1.true c.requires.order)

pub take_apart-count-requires : goal.take_apart-count-requires
take_apart-count-requires t c =
    let h = halved (rank_of_bound c.args.bound) c.args.queues.now c.split_at_mut-first.result.0.now c.split_at_mut-first.result.1.now c.split_at_mut-first.ensures.value c.requires.order c.requires.falls in
    let many = h.many in
    let few = c.requires.few in
    let none = c.if-many-eq0.false in
    let one = c.if-many-eq1.false in
    let front = c.split_at_mut-first.ensures.front_len in
    let back = c.split_at_mut-first.ensures.back_len in
    let into_front = c.split_at_mut-first_into.ensures.front_len in
    let all = c.decreases in
    let less : length c.split_at_mut-first.result.0.now < t = omega (arith, none, one, front, back, all) in
    (less, (omega (arith, front, into_front), (h.first_in_order, (h.first, omega (arith, many, few)))))

pub take_apart-requires : goal.take_apart-requires
take_apart-requires t c =
    let h = halved (rank_of_bound c.args.bound) c.args.queues.now c.split_at_mut-first.result.0.now c.split_at_mut-first.result.1.now c.split_at_mut-first.ensures.value c.requires.order c.requires.falls in
    let many = h.many in
    let few = c.requires.few in
    let none = c.if-many-eq0.false in
    let one = c.if-many-eq1.false in
    let front = c.split_at_mut-first.ensures.front_len in
    let back = c.split_at_mut-first.ensures.back_len in
    let into_back = c.split_at_mut-first_into.ensures.back_len in
    let same = c.requires.many in
    let all = c.decreases in
    let less : length c.split_at_mut-first.result.1.now < t = omega (arith, none, one, front, back, all) in
    (less, (omega (arith, back, into_back, same), (h.second_in_order, (h.second, omega (arith, many, few)))))

pub overflow_add-result : goal.overflow_add-result
overflow_add-result t c =
    let many = (halved (rank_of_bound c.args.bound) c.args.queues.now c.split_at_mut-first.result.0.now c.split_at_mut-first.result.1.now c.split_at_mut-first.ensures.value c.requires.order c.requires.falls).many in
    let few = c.requires.few in
    let one = c.take_apart-count.ensures.count in
    let other = c.take_apart.ensures.count in
    omega (arith, many, few, one, other)

pub returns-clause-count : goal.returns-clause-count
returns-clause-count t c =
    let many = (halved (rank_of_bound c.args.bound) c.args.queues.now c.split_at_mut-first.result.0.now c.split_at_mut-first.result.1.now c.split_at_mut-first.ensures.value c.requires.order c.requires.falls).many in
    let one = c.take_apart-count.ensures.count in
    let other = c.take_apart.ensures.count in
    omega (arith, many, one, other)
