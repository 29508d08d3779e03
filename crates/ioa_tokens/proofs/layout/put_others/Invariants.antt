use Rattle.std.proofs.Common.{◌≡◌, ◌++◌, drop, map}
use Rattle.ioa_tokens.specs.Tokens.{tok_of}
use Rattle.ioa_tokens.specs.Layout.{following}
use Rattle.ioa_tokens.proofs.layout.put_others.Given as goal

abbrev pub invariant-loop-next : goal.invariant-loop-next
invariant-loop-next l =
    l.text.items ++ following (tok_of l.last) (map tok_of (drop l.next-index l.others)) ≡ l.initial.text.items ++ following (tok_of l.first) (map tok_of l.others)
