use Rattle.std.proofs.Common.{◌≡◌, length, map}
use Rattle.ioa_tokens.specs.Finding.{lookup}
use Rattle.ioa_tokens.proofs.reserved.lookup.Given as goal

abbrev pub invariant-loop-table : goal.invariant-loop-table
invariant-loop-table l = lookup (map (λ k. (k.0.now, k.1)) l.table) l.text ≡ lookup (map (λ k. (k.0.now, k.1)) l.initial.table) l.text

abbrev pub decreases-loop-table : goal.decreases-loop-table
decreases-loop-table l = length l.table
