use Rattle.std.proofs.Common.{◌≡◌, ◌≤◌, ◌<◌, take}
use Rattle.ioa_tokens.specs.Bytes.{value_of}
use Rattle.ioa_tokens.proofs.find.value_of.Given as goal

abbrev pub invariant-loop-digit : goal.invariant-loop-digit
invariant-loop-digit l = record {
  exact : l.value ≤ 9223372036854775807 → l.value ≡ value_of (take l.digit-index l.digits);
  over : 9223372036854775807 < l.value → 9223372036854775807 < value_of (take l.digit-index l.digits);
  small : l.value ≤ 9223372036854776100;
}
