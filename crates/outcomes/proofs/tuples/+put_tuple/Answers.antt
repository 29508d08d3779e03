use Rattle.std.proofs.Common.{ℕ, ◌∷◌, ◌<◌, ◌/◌, arith, ap, ◌∙◌, length}
use Rattle.outcomes.proofs.Placed.{put_member}
use Rattle.outcomes.proofs.tuples.+put_tuple.Goals as goal

pub returns-in-Member : goal.returns-in-Member
returns-in-Member t c =
    let listed = c.in-Member.listed in
    let params = c.in-Some.params.now in
    let all_is = c.in-Some.ensures.cases.0 ∙ ap (λ param. param ∷ params) c.in-Member.is in
    let within : c.args.first < length c.args.args.now = omega (arith, c.in-Some.ensures.cases.1, c.requires.room) in
    let rest = ap (λ (n : ℕ). c.args.count / n) (c.from.ensures ∙ c.count_of.ensures) in
    put_member c.args.formals.now listed params c.args.params.now c.args.args.now c.put_tuple-in-Member.new.args c.args.first c.args.count c.args.at (c.args.count / c.from.result) c.member_at.result all_is c.requires.count c.requires.below within rest c.member_at.ensures c.put_tuple-in-Member.ensures
