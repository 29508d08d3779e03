use Rattle.std.proofs.Common.{◌≡◌, arith, lit<}
use Rattle.std.specs.Fmt.{decimal}
use Rattle.std.proofs.lemmas.Str.Pattern.{strip_prefix_char}
use Rattle.command_line.proofs.Locals.{nothing}
use Rattle.command_line.proofs.Ranges.{first_part}
use Rattle.command_line.proofs.hunting.range_of.Goals as goal

pub returns-in_err-word : goal.returns-in_err-word
returns-in_err-word c =
    nothing _ _ _ c.from_residual.ensures
    (λ s is. let split = first_part c.args.text.now c.split_once.result c.split_once.ensures.cases s is in rw c.in_err-word.was at split)

pub returns-in_err-first : goal.returns-in_err-first
returns-in_err-first c =
    nothing _ _ _ c.from_residual-in_err-first.ensures
    (λ s is.
    let split = first_part c.args.text.now c.split_once.result c.split_once.ensures.cases s is in
    let parts = rw c.in_ok-word.was at split in
    let rises = is.rises in
    let below = is.below in
    let missing = c.in_err-first.ensures.only s.first (omega arith) parts.0 in
    cc)

pub returns-in_err-tail : goal.returns-in_err-tail
returns-in_err-tail c =
    nothing _ _ _ c.from_residual-in_err-tail.ensures
    (λ s is.
    let split = first_part c.args.text.now c.split_once.result c.split_once.ensures.cases s is in
    let parts = rw c.in_ok-word.was at split in
    let stripped = strip_prefix_char 46 c.in_ok-word.rest.now c.strip_prefix.result c.strip_prefix.ensures.cases (lit< tt) in
    let none = rw c.in_err-tail.was at stripped in
    none (decimal s.last) parts.1)

pub returns-in_err-last : goal.returns-in_err-last
returns-in_err-last c =
    nothing _ _ _ c.from_residual-in_err-last.ensures
    (λ s is.
    let split = first_part c.args.text.now c.split_once.result c.split_once.ensures.cases s is in
    let parts = rw c.in_ok-word.was at split in
    let stripped = strip_prefix_char 46 c.in_ok-word.rest.now c.strip_prefix.result c.strip_prefix.ensures.cases (lit< tt) in
    let some = rw c.in_ok-tail.was at stripped in
    let below = is.below in
    let same : c.in_ok-tail.tail.now ≡ decimal s.last = cc in
    let missing = c.in_err-last.ensures.only s.last (omega arith) same in
    cc)

pub returns-then-first-last : goal.returns-then-first-last
returns-then-first-last c s is =
    let split = first_part c.args.text.now c.split_once.result c.split_once.ensures.cases s is in
    let parts = rw c.in_ok-word.was at split in
    let stripped = strip_prefix_char 46 c.in_ok-word.rest.now c.strip_prefix.result c.strip_prefix.ensures.cases (lit< tt) in
    let some = rw c.in_ok-tail.was at stripped in
    let rises = is.rises in
    let below = is.below in
    let same : c.in_ok-tail.tail.now ≡ decimal s.last = cc in
    let first = c.in_ok-first.ensures.only s.first (omega arith) parts.0 in
    let last = c.in_ok-last.ensures.only s.last (omega arith) same in
    let first_is : c.in_ok-first.first ≡ s.first = cc in
    let last_is : c.in_ok-last.last ≡ s.last = cc in
    let above = c.if-first-last.true in
    omega arith

pub returns-then-last : goal.returns-then-last
returns-then-last c s is =
    let split = first_part c.args.text.now c.split_once.result c.split_once.ensures.cases s is in
    let parts = rw c.in_ok-word.was at split in
    let stripped = strip_prefix_char 46 c.in_ok-word.rest.now c.strip_prefix.result c.strip_prefix.ensures.cases (lit< tt) in
    let some = rw c.in_ok-tail.was at stripped in
    let below = is.below in
    let same : c.in_ok-tail.tail.now ≡ decimal s.last = cc in
    let last = c.in_ok-last.ensures.only s.last (omega arith) same in
    let last_is : c.in_ok-last.last ≡ s.last = cc in
    let most = c.if-last.true in
    omega arith
