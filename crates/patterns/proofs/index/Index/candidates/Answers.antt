use Rattle.std.proofs.Common.{◌≡◌, Contains, nat_eq, sym, subst}
use Rattle.std.specs.List.{dedup}
use Rattle.std.specs.List.Sorted.{IsStrictlyIncreasing}
use Rattle.std.proofs.lemmas.List.Filters.{dedup_is}
use Rattle.std.proofs.lemmas.List.Kept.{Contains-dedup_nat}
use Rattle.std.proofs.lemmas.List.Sorted.{Contains-permutation}
use Rattle.std.proofs.lemmas.Map.Keys.{IsStrictlyIncreasing-dedup}
use Rattle.patterns.proofs.index.Index.candidates.Goals as goal

pub returns-clause-rise : goal.returns-clause-rise
returns-clause-rise c =
    let sorted = c.sort_unstable.new.self.items in
    let is : c.dedup.new.self.items ≡ dedup nat_eq sorted = dedup_is nat_eq sorted c.dedup.new.self.items c.dedup.ensures.filtered in
    subst IsStrictlyIncreasing (sym is) (IsStrictlyIncreasing-dedup sorted c.sort_unstable.ensures.sorted)

pub returns-clause-all : goal.returns-clause-all
returns-clause-all c mask j has listed =
    let sorted = c.sort_unstable.new.self.items in
    let is : c.dedup.new.self.items ≡ dedup nat_eq sorted = dedup_is nat_eq sorted c.dedup.new.self.items c.dedup.ensures.filtered in
    let found = Contains-permutation c.in_ok-found.found.items sorted j c.sort_unstable.ensures.permutation (c.in_ok-found.ensures mask j has listed) in
    subst (λ xs. Contains xs j) (sym is) (Contains-dedup_nat sorted j found)
