-- What a check answers.
use Rattle.std.proofs.Common.{◌≡◌, ◌+◌, ◌≤◌, Some, length, sym, subst, arith}
use Rattle.ioa_trees.specs.Spelling.{spell}
use Rattle.ioa_trees.specs.Trees.{PlainSource}
use Rattle.ioa_trees.specs.Faults.{Fault, IsLeast}
use Rattle.ioa_trees.specs.Sizes.{composed_size}
use Rattle.ioa_trees.specs.SourceRules.{composed_at, source_faults}
use Rattle.ioa_check.specs.declared.fault.CheckError.{CheckError}
use Rattle.ioa_check.specs.Refusals.{IsRefused, Refuses, check_number, check_place}

pub room : (x : PlainSource) → length (spell x) ≡ composed_at x + composed_size x.composed → length (spell x) ≤ 65536 → composed_at x + composed_size x.composed ≤ 65536
room x all few = omega (arith, all, few)

pub told : (x : PlainSource) (e : CheckError) (f : Fault) → IsLeast f (source_faults x) → check_place e ≡ Some f.place → check_number e ≡ f.number → IsRefused x e
told x e f least place number =
    subst (λ p. Refuses x (check_number e) p) (sym place)
    (subst (λ n. IsLeast (record { place = f.place; number = n }) (source_faults x)) (sym number) least)
