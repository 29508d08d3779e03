use Rattle.std.proofs.Common.{ℕ, ◌+◌, ◌-◌, ◌≤◌, ◌≡◌, subst, arith}
use Rattle.virtual_time.specs.Reference.{point, reference_below}
use Rattle.virtual_time.proofs.Refs.{ref_is}
use Rattle.virtual_time.proofs.Counted.{run_counted}
use Rattle.virtual_time.proofs.Exchange.Extras.{before_next, next_on}
use Rattle.virtual_time.proofs.reference.reference_is_counted.Goals as goal

pub returns-clause-sum : goal.returns-clause-sum
returns-clause-sum g c machine count b law counted l = run_counted machine count counted (reference_below machine b) (ref_is machine law b l).run

pub returns-clause-before : goal.returns-clause-before
returns-clause-before g c machine b i m law l = before_next machine law b i m l

pub returns-clause-from : goal.returns-clause-from
returns-clause-from g c machine b i m law l h =
    let e : (point machine b).next i + (m - (point machine b).next i) ≡ m = omega arith in
    subst (λ (n : ℕ). b ≤ machine.key i n) e (next_on machine law b i (m - (point machine b).next i) l)
