use Rattle.std.proofs.Common.{List, ◌++◌, length}
use Rattle.std.specs.Str.{IsUtf8}
use Rattle.terms.specs.declared.scalar.Scalar.{Scalar}
use Rattle.trace.specs.Separated.{IsSeparated}
use Rattle.trace.proofs.written.arguments.Given as goal

abbrev pub invariant-loop-word : goal.invariant-loop-word
invariant-loop-word l = record {
  read : (more : List Scalar) → IsSeparated l.plan l.rest more → IsSeparated l.plan l.text (l.args.items ++ more);
  utf8 : IsUtf8 l.rest;
  back : (args : List Scalar) → IsSeparated l.plan l.text args → (more : List Scalar) × IsSeparated l.plan l.rest more;
}

abbrev pub decreases-loop-word : goal.decreases-loop-word
decreases-loop-word l = length l.rest
