use Rattle.std.proofs.Common.{arith, pos, true, false, refl}
use Rattle.std.proofs.lemmas.Int.{ints, to_z-of_z}
use Rattle.std.proofs.lemmas.Bool.Decides.{nat_tests}
use Rattle.terms.specs.declared.scalar.Scalar.TheVariants.{Int, Bool, Member}
use Rattle.compose.proofs.compatibility.span.is_empty.Goals as goal

pub returns-in-Whole-clause-some : goal.returns-in-Whole-clause-some
returns-in-Whole-clause-some c = λ _. (Int (pos 0), rw c.in-Whole.is refl)

pub returns-in-Numbers-clause-some : goal.returns-in-Numbers-clause-some
returns-in-Numbers-clause-some c = λ more. (Int c.in-Numbers.least, rw c.in-Numbers.is (grind (arith, ints, to_z-of_z)))

pub returns-then-not-low-clause-some : goal.returns-then-not-low-clause-some
returns-then-not-low-clause-some c = λ more. (Bool true, rw c.in-Truths.is (grind arith))

pub returns-else-not-low-clause-some : goal.returns-else-not-low-clause-some
returns-else-not-low-clause-some c = λ more. (Bool false, rw c.in-Truths.is (grind arith))

pub returns-in-Members-clause-some : goal.returns-in-Members-clause-some
returns-in-Members-clause-some c = λ more. (Member c.in-Members.least, rw c.in-Members.is (grind (arith, nat_tests)))
