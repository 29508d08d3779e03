use Rattle.std.proofs.Common.{Global, List, Vec, ap, inl, inr, length, subst, ◌<◌, ℕ}
use Rattle.std.specs.Prelude.{Option, option_map}
use Rattle.commands.specs.Reasons.{IsToldOr}
use Rattle.commands.specs.Written.{IsSaid}
use Rattle.commands.proofs.Why.{says_more}
use Rattle.commands.proofs.reasons.tell_told.Goals as goal

pub returns-in-Some : goal.returns-in-Some
returns-in-Some g c =
    let known = g.E.Write.contents in
    let items : Option (Vec ℕ Global) → Option (List ℕ) = option_map {T = Vec ℕ Global} {U = List ℕ} (λ v. v.items) in
    inr (c.in-Some.text.items, inl (ap items c.in-Some.is), subst (IsSaid known c.args.err.now c.say.new.out) c.as_slice.ensures.value c.say.ensures)

pub returns-in-None : goal.returns-in-None
returns-in-None g c =
    let items : Option (Vec ℕ Global) → Option (List ℕ) = option_map {T = Vec ℕ Global} {U = List ℕ} (λ v. v.items) in
    says_more g.E.Write.contents c.args.err.now c.tell_number.new.err (λ text. 0 < length text) (IsToldOr (items c.args.told))
    (λ text some. inr (ap items c.in-None.is, some)) c.tell_number.ensures
