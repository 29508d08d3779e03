use Rattle.std.proofs.Common.{◌≡◌, ◌<◌, ◌++◌, None, Some, length, refl, sym, ap, subst, ◌∙◌, arith}
use Rattle.event_keys.specs.declared.outcome.Turned.{Turned}
use Rattle.event_keys.specs.Ranks.{rank_of_bound}
use Rattle.raw_events.specs.Around.{Around}
use Rattle.message_balance.specs.declared.done.Done.{Done}
use Rattle.rollback.specs.Dropped.{dones_below, dones_from, key_in, oldest_below, turn_in, turns_in, without_oldest_below}
use Rattle.rollback.specs.Falling.{Falls}
use Rattle.rollback.specs.ComponentInvariant.{entries_of}
use Rattle.rollback.proofs.Oldest.{falls_without, few_below, from_stays, length_step, length_whole, newest_none, newest_or, newest_step, none_below, none_stays, turns_none, turns_step}
use Rattle.rollback.proofs.drop.take_below.Goals as goal

pub loop-cell-init : goal.loop-cell-init
loop-cell-init c =
    let ds = dones_below (rank_of_bound c.args.bound) c.args.done.now.before in
    record {
      end = c.requires.end;
      falling = c.requires.falling;
      left = refl;
      none = ap (λ (a : Around Turned). a.after) c.new.ensures;
      turns = ap (λ (a : Around Turned). turns_in ds ++ a.before) c.new.ensures ∙ turns_none (turns_in ds);
      count = omega arith;
      newest = newest_none ds;
    }

pub overflow_add-dropped : goal.overflow_add-dropped
overflow_add-dropped c =
    let b = rank_of_bound c.args.bound in
    let taken : Some c.in-Some.cell ≡ oldest_below b c.loop-cell.done.before = c.in-Some.ensures.taken in
    let less = length_step b c.loop-cell.done.before c.in-Some.cell taken in
    let few = few_below b c.args.done.now.before in
    let count = c.loop-cell.invariant.count in
    let all = c.requires.few in
    omega (arith, less, few, count, all)

pub loop-cell-smaller : goal.loop-cell-smaller
loop-cell-smaller c =
    let b = rank_of_bound c.args.bound in
    let taken : Some c.in-Some.cell ≡ oldest_below b c.loop-cell.done.before = c.in-Some.ensures.taken in
    let left = ap (λ (a : Around Done). length a.before) c.in-Some.ensures.rest in
    let less = length_whole b c.loop-cell.done.before c.in-Some.cell taken in
    let is : length c.take_oldest_below.new.done.before < length c.loop-cell.done.before = omega (arith, left, less) in
    is

pub loop-cell-preserved : goal.loop-cell-preserved
loop-cell-preserved c =
    let b = rank_of_bound c.args.bound in
    let d = c.in-Some.cell in
    let ds = c.loop-cell.done.before in
    let old = c.loop-cell.dropped in
    let inv = c.loop-cell.invariant in
    let taken : Some d ≡ oldest_below b ds = c.in-Some.ensures.taken in
    let rest : c.take_oldest_below.new.done ≡ record { before = without_oldest_below b ds; after = c.loop-cell.done.after } = c.in-Some.ensures.rest in
    let turns : c.add_entry.new.dropped.turns ≡ record { before = turn_in d old.turns.before; after = old.turns.after } = c.add_entry.ensures.turns in
    let newest : c.add_entry.new.dropped.newest ≡ key_in d old.newest = c.add_entry.ensures.newest in
    let many : length (dones_below b c.take_oldest_below.new.done.before) ≡ length (dones_below b (without_oldest_below b ds)) = ap (λ (a : Around Done). length (dones_below b a.before)) rest in
    let less = length_step b ds d taken in
    let added = c.add_entry.ensures.count in
    let count = inv.count in
    record {
      end = ap (λ (a : Around Done). a.after) rest ∙ inv.end;
      falling = subst (λ (a : Around Done). Falls (entries_of a.before)) (sym rest) (falls_without b ds inv.falling);
      left = ap (λ (a : Around Done). dones_from b a.before) rest ∙ from_stays b ds d taken ∙ inv.left;
      none = ap (λ (a : Around Turned). a.after) turns ∙ inv.none;
      turns = (λ v. turns_in (dones_below b (rest v).before) ++ (turns v).before) ∙ turns_step b ds d old.turns.before taken ∙ inv.turns;
      count = omega (arith, many, less, added, count);
      newest = (λ v. newest_or (dones_below b (rest v).before) (newest v)) ∙ newest_step b ds d old.newest taken ∙ inv.newest;
    }

pub returns-clause-rest : goal.returns-clause-rest
returns-clause-rest c =
    let b = rank_of_bound c.args.bound in
    let ds = c.loop-cell.done.before in
    let inv = c.loop-cell.invariant in
    let none : None ≡ oldest_below b ds = sym c.in_default.is ∙ c.take_oldest_below.ensures.taken in
    let left = none_stays b ds none ∙ sym (none_below b ds inv.falling none).1 ∙ inv.left in
    c.take_oldest_below.ensures.rest ∙ (λ v. record { before = left v; after = inv.end v })

pub returns-clause-turns : goal.returns-clause-turns
returns-clause-turns c =
    let b = rank_of_bound c.args.bound in
    let ds = c.loop-cell.done.before in
    let inv = c.loop-cell.invariant in
    let none : None ≡ oldest_below b ds = sym c.in_default.is ∙ c.take_oldest_below.ensures.taken in
    let taken = sym (ap (λ l. turns_in l ++ c.loop-cell.dropped.turns.before) (none_below b ds inv.falling none).0) ∙ inv.turns in
    λ v. record { before = taken v; after = inv.none v }

pub returns-clause-count : goal.returns-clause-count
returns-clause-count c =
    let b = rank_of_bound c.args.bound in
    let ds = c.loop-cell.done.before in
    let inv = c.loop-cell.invariant in
    let none : None ≡ oldest_below b ds = sym c.in_default.is ∙ c.take_oldest_below.ensures.taken in
    let left = ap (λ l. length l) (none_below b ds inv.falling none).0 in
    let count = inv.count in
    omega (arith, left, count)

pub returns-clause-newest : goal.returns-clause-newest
returns-clause-newest c =
    let b = rank_of_bound c.args.bound in
    let ds = c.loop-cell.done.before in
    let inv = c.loop-cell.invariant in
    let none : None ≡ oldest_below b ds = sym c.in_default.is ∙ c.take_oldest_below.ensures.taken in
    sym (ap (λ l. newest_or l c.loop-cell.dropped.newest) (none_below b ds inv.falling none).0) ∙ inv.newest
