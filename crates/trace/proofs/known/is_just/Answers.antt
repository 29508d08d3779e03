use Rattle.std.proofs.Common.{rules, arith, ◌≡◌, sym, subst}
use Rattle.std.specs.Prelude.{Decides}
use Rattle.std.proofs.lemmas.Slice.Eq.{bytes_eq-Decides}
use Rattle.trace.proofs.Names.{one_name, is_that_name}
use Rattle.trace.proofs.known.is_just.Goals as goal

pub returns-in-Name : goal.returns-in-Name
returns-in-Name c =
    let text = c.in-Name.text.now in
    let name = c.args.name.now in
    is_that_name c.args.tokens.now text name c.eq.result (one_name c.args.tokens.now _ c.in-Name.text (search (rules, arith)) (search (rules, arith)) c.in-Name.is)
    (subst (λ r. Decides r (text ≡ name)) (sym c.eq.ensures) (bytes_eq-Decides text name))
