use Rattle.std.proofs.Common.{◌<◌, length, ap, subst, sym, ◌∙◌, arith}
use Rattle.event_keys.specs.Ranks.{rank_of_bound}
use Rattle.virtual_time.specs.Reference.{Falls}
use Rattle.virtual_time.specs.Exchange.Merged.{put_turns}
use Rattle.task_seed.specs.Taken.{turns_of}
use Rattle.group_exchange.specs.Held.{all_below, put_all}
use Rattle.group_exchange.proofs.Lists.{halved, length_single, single}
use Rattle.group_exchange.proofs.queue.+take_all_below.Goals as goal

pub take_below-requires : goal.take_below-requires
take_below-requires t c =
    let few = c.requires.few in
    let one = length_single (rank_of_bound c.args.bound) c.args.queues.now c.index-queues-0.result c.if-many-eq1.true c.requires.order in
    record { few = omega (arith, few, one) }

pub returns-then-many-eq1-clause-turns : goal.returns-then-many-eq1-clause-turns
returns-then-many-eq1-clause-turns t c = ap turns_of c.take_below.ensures.turns ∙ sym (single (rank_of_bound c.args.bound) c.args.queues.now c.index-queues-0.result c.if-many-eq1.true c.requires.order)

pub returns-then-many-eq1-clause-count : goal.returns-then-many-eq1-clause-count
returns-then-many-eq1-clause-count t c = c.take_below.ensures.count ∙ sym (length_single (rank_of_bound c.args.bound) c.args.queues.now c.index-queues-0.result c.if-many-eq1.true c.requires.order)

pub take_all_below-taken-requires : goal.take_all_below-taken-requires
take_all_below-taken-requires t c =
    let h = halved (rank_of_bound c.args.bound) c.args.queues.now c.split_at_mut-first.result.0.now c.split_at_mut-first.result.1.now c.split_at_mut-first.ensures.value c.requires.order c.requires.falls in
    let many = h.many in
    let few = c.requires.few in
    let none = c.if-many-eq0.false in
    let one = c.if-many-eq1.false in
    let front = c.split_at_mut-first.ensures.front_len in
    let back = c.split_at_mut-first.ensures.back_len in
    let all = c.decreases in
    let less : length c.split_at_mut-first.result.0.now < t = omega (arith, none, one, front, back, all) in
    (less, (h.first_in_order, (h.first, omega (arith, many, few))))

pub take_all_below-all-requires : goal.take_all_below-all-requires
take_all_below-all-requires t c =
    let h = halved (rank_of_bound c.args.bound) c.args.queues.now c.split_at_mut-first.result.0.now c.split_at_mut-first.result.1.now c.split_at_mut-first.ensures.value c.requires.order c.requires.falls in
    let many = h.many in
    let few = c.requires.few in
    let none = c.if-many-eq0.false in
    let one = c.if-many-eq1.false in
    let front = c.split_at_mut-first.ensures.front_len in
    let back = c.split_at_mut-first.ensures.back_len in
    let all = c.decreases in
    let less : length c.split_at_mut-first.result.1.now < t = omega (arith, none, one, front, back, all) in
    (less, (h.second_in_order, (h.second, omega (arith, many, few))))

pub put-requires-clause-falls : goal.put-requires-clause-falls
put-requires-clause-falls t c =
    let h = halved (rank_of_bound c.args.bound) c.args.queues.now c.split_at_mut-first.result.0.now c.split_at_mut-first.result.1.now c.split_at_mut-first.ensures.value c.requires.order c.requires.falls in
    subst Falls (sym (ap turns_of c.into_turns.ensures.turns ∙ c.take_all_below-taken.ensures.turns)) h.first

pub overflow_add-all : goal.overflow_add-all
overflow_add-all t c =
    let many = (halved (rank_of_bound c.args.bound) c.args.queues.now c.split_at_mut-first.result.0.now c.split_at_mut-first.result.1.now c.split_at_mut-first.ensures.value c.requires.order c.requires.falls).many in
    let few = c.requires.few in
    let one = c.take_all_below-taken.ensures.count in
    let other = c.take_all_below-all.ensures.count in
    omega (arith, many, few, one, other)

pub returns-clause-turns : goal.returns-clause-turns
returns-clause-turns t c =
    let h = halved (rank_of_bound c.args.bound) c.args.queues.now c.split_at_mut-first.result.0.now c.split_at_mut-first.result.1.now c.split_at_mut-first.ensures.value c.requires.order c.requires.falls in
    let one = ap turns_of c.into_turns.ensures.turns ∙ c.take_all_below-taken.ensures.turns in
    c.put.ensures ∙ ap (λ l. put_turns l (turns_of c.take_all_below-all.result.turns)) one ∙ ap (put_turns (put_all (all_below (rank_of_bound c.args.bound) c.split_at_mut-first.result.0.now))) c.take_all_below-all.ensures.turns ∙ sym h.all

pub returns-clause-count : goal.returns-clause-count
returns-clause-count t c =
    let many = (halved (rank_of_bound c.args.bound) c.args.queues.now c.split_at_mut-first.result.0.now c.split_at_mut-first.result.1.now c.split_at_mut-first.ensures.value c.requires.order c.requires.falls).many in
    let one = c.take_all_below-taken.ensures.count in
    let other = c.take_all_below-all.ensures.count in
    omega (arith, many, one, other)
