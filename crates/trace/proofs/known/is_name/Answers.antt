use Rattle.std.proofs.Common.{rules, refl, false}
use Rattle.std.proofs.lemmas.Bool.{both_ways}
use Rattle.trace.proofs.Names.{is_name_by_tokens, has_tokens, bad_token}
use Rattle.trace.proofs.known.is_name.Goals as goal

pub returns-in-Ok : goal.returns-in-Ok
returns-in-Ok c = is_name_by_tokens c.args.word.now c.in-Ok.tokens.items c.is_just.result c.one_reading_law.ensures.tokens (search rules) (search rules) (search rules)

pub returns-in-Err-BadToken : goal.returns-in-Err-BadToken
returns-in-Err-BadToken c = (
  (λ t. absurd (both_ways false refl t)),
  λ name.
      let h = has_tokens c.args.word.now name in
      let bad = bad_token c.args.word.now c.in-Err-BadToken.field-0 c.in-Err-BadToken.field-0-0 c.in-Err-BadToken.field-0-is (search rules) in
      absurd (c.one_reading_law.ensures.apart c.args.word.now h.0 c.in-Err-BadToken.field-0-0 h.1 bad),
)
