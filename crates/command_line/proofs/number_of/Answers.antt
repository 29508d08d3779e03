use Rattle.std.proofs.Common.{rules, ◌∙◌, arith}
use Rattle.std.specs.Str.Parse.{ParsesUnsigned, ExplainsUnsignedError, HasUnsignedDigitsIfOk}
use Rattle.clap.specs.Words.{found_of, rows_of}
use Rattle.clap.proofs.WalkLemmas.{one_text-rows}
use Rattle.command_line.proofs.Numbers.{some_number, no_number, other_number}
use Rattle.command_line.proofs.number_of.Goals as goal

pub returns-then-number-least : goal.returns-then-number-least
returns-then-number-least c =
    let found = found_of c.args.found.now in
    let option = c.args.option.now in
    let below = c.if-number-least.true in
    other_number _ (λ bs r. ParsesUnsigned 64 10 bs r × ExplainsUnsignedError 10 bs r × HasUnsignedDigitsIfOk bs r) (λ t r g. g.0) (rows_of found) option c.args.least c.args.most c.get_one.result
    (λ h. c.get_one.ensures.none (one_text-rows found option ∙ h)) (λ t h. c.get_one.ensures.value t (one_text-rows found option ∙ h)) c.in-Some.number c.in-Some.is (λ within. let above = within.0 in omega (arith, above, below))

pub returns-then-most-number : goal.returns-then-most-number
returns-then-most-number c =
    let found = found_of c.args.found.now in
    let option = c.args.option.now in
    let above = c.if-most-number.true in
    other_number _ (λ bs r. ParsesUnsigned 64 10 bs r × ExplainsUnsignedError 10 bs r × HasUnsignedDigitsIfOk bs r) (λ t r g. g.0) (rows_of found) option c.args.least c.args.most c.get_one.result
    (λ h. c.get_one.ensures.none (one_text-rows found option ∙ h)) (λ t h. c.get_one.ensures.value t (one_text-rows found option ∙ h)) c.in-Some.number c.in-Some.is (λ within. let below = within.1 in omega (arith, above, below))

pub returns-else-most-number : goal.returns-else-most-number
returns-else-most-number c =
    let found = found_of c.args.found.now in
    let option = c.args.option.now in
    some_number _ (λ bs r. ParsesUnsigned 64 10 bs r × ExplainsUnsignedError 10 bs r × HasUnsignedDigitsIfOk bs r) (λ t r g. g.0) (rows_of found) option c.args.least c.args.most c.get_one.result
    (λ h. c.get_one.ensures.none (one_text-rows found option ∙ h)) (λ t h. c.get_one.ensures.value t (one_text-rows found option ∙ h)) c.in-Some.number c.in-Some.is c.if-number-least.false c.if-most-number.false

pub returns-in-None : goal.returns-in-None
returns-in-None c =
    let found = found_of c.args.found.now in
    let option = c.args.option.now in
    no_number _ (λ bs r. ParsesUnsigned 64 10 bs r × ExplainsUnsignedError 10 bs r × HasUnsignedDigitsIfOk bs r) (λ t r g. g.0) (rows_of found) option c.args.least c.args.most c.get_one.result
    (λ h. c.get_one.ensures.none (one_text-rows found option ∙ h)) (λ t h. c.get_one.ensures.value t (one_text-rows found option ∙ h)) (search rules) (search rules)
