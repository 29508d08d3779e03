use Rattle.std.proofs.Common.{◌≡◌, true, false, sym, ap, ◌∙◌}
use Rattle.std.specs.Prelude.{nat_lt}
use Rattle.event_keys.specs.Ranks.{rank_of_bound}
use Rattle.rollback.specs.Dropped.{is_done_below}
use Rattle.rollback.proofs.Oldest.{nothing_there, oldest_goes, oldest_stays}
use Rattle.rollback.proofs.drop.take_oldest_below.Goals as goal

pub returns-in_err-oldest-clause-taken : goal.returns-in_err-oldest-clause-taken
returns-in_err-oldest-clause-taken c =
    let done = c.args.done.now in
    c.from_residual.ensures ∙ (nothing_there (rank_of_bound c.args.bound) done.before done.after c.in_err-oldest.ensures).0

pub returns-in_err-oldest-clause-rest : goal.returns-in_err-oldest-clause-rest
returns-in_err-oldest-clause-rest c =
    let done = c.args.done.now in
    ap (λ l. record done { before = l }) (nothing_there (rank_of_bound c.args.bound) done.before done.after c.in_err-oldest.ensures).1

pub returns-then-not-is_below_bound-clause-taken : goal.returns-then-not-is_below_bound-clause-taken
returns-then-not-is_below_bound-clause-taken c =
    let b = rank_of_bound c.args.bound in
    let done = c.args.done.now in
    let above : is_done_below b c.in_ok-oldest.oldest.now ≡ false = ap (λ k. nat_lt k b) (sym c.key_of.ensures) ∙ sym c.is_below_bound.ensures ∙ c.if-not-is_below_bound.true in
    (oldest_stays b done.before done.after c.in_ok-oldest.oldest.now c.requires c.in_ok-oldest.ensures above).0

pub returns-then-not-is_below_bound-clause-rest : goal.returns-then-not-is_below_bound-clause-rest
returns-then-not-is_below_bound-clause-rest c =
    let b = rank_of_bound c.args.bound in
    let done = c.args.done.now in
    let above : is_done_below b c.in_ok-oldest.oldest.now ≡ false = ap (λ k. nat_lt k b) (sym c.key_of.ensures) ∙ sym c.is_below_bound.ensures ∙ c.if-not-is_below_bound.true in
    ap (λ l. record done { before = l }) (oldest_stays b done.before done.after c.in_ok-oldest.oldest.now c.requires c.in_ok-oldest.ensures above).1

pub returns-clause-taken : goal.returns-clause-taken
returns-clause-taken c =
    let b = rank_of_bound c.args.bound in
    let done = c.args.done.now in
    let less : is_done_below b c.in_ok-oldest.oldest.now ≡ true = ap (λ k. nat_lt k b) (sym c.key_of.ensures) ∙ sym c.is_below_bound.ensures ∙ c.if-not-is_below_bound.false in
    c.take_first.ensures.taken ∙ (oldest_goes b done.before done.after c.in_ok-oldest.oldest.now c.requires c.in_ok-oldest.ensures less).0

pub returns-clause-rest : goal.returns-clause-rest
returns-clause-rest c =
    let b = rank_of_bound c.args.bound in
    let done = c.args.done.now in
    let less : is_done_below b c.in_ok-oldest.oldest.now ≡ true = ap (λ k. nat_lt k b) (sym c.key_of.ensures) ∙ sym c.is_below_bound.ensures ∙ c.if-not-is_below_bound.false in
    c.take_first.ensures.rest ∙ (oldest_goes b done.before done.after c.in_ok-oldest.oldest.now c.requires c.in_ok-oldest.ensures less).1
