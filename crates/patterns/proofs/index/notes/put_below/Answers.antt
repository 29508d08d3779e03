use Rattle.std.proofs.Common.{◌≡◌, ◌∷◌, [], arith, refl, nat_eq, sym, subst, Contains}
use Rattle.std.specs.List.{dedup}
use Rattle.std.specs.List.Sorted.{IsStrictlyIncreasing}
use Rattle.std.proofs.lemmas.List.Elements.{Contains-append_left, Contains-append_right}
use Rattle.std.proofs.lemmas.List.Filters.{dedup_is}
use Rattle.std.proofs.lemmas.List.Kept.{Contains-dedup_nat}
use Rattle.std.proofs.lemmas.List.Sorted.{Contains-permutation}
use Rattle.std.proofs.lemmas.Map.Keys.{IsStrictlyIncreasing-dedup}
use Rattle.patterns.proofs.index.notes.put_below.Goals as goal

pub returns-clause-rising : goal.returns-clause-rising
returns-clause-rising c rising =
    let sorted = c.sort_unstable.new.self.items in
    let is : c.dedup.new.self.items ≡ dedup nat_eq sorted = dedup_is nat_eq sorted c.dedup.new.self.items c.dedup.ensures.filtered in
    subst IsStrictlyIncreasing (sym is) (IsStrictlyIncreasing-dedup sorted c.sort_unstable.ensures.sorted)

pub returns-clause-kept : goal.returns-clause-kept
returns-clause-kept c i has =
    let sorted = c.sort_unstable.new.self.items in
    let is : c.dedup.new.self.items ≡ dedup nat_eq sorted = dedup_is nat_eq sorted c.dedup.new.self.items c.dedup.ensures.filtered in
    let there = subst (λ xs. Contains xs i) (sym c.in_ok-push.ensures.items) (Contains-append_left c.args.list.now.items (c.args.j ∷ []) i has) in
    subst (λ xs. Contains xs i) (sym is) (Contains-dedup_nat sorted i (Contains-permutation c.push.new.self.items sorted i c.sort_unstable.ensures.permutation there))

pub returns-clause-noted : goal.returns-clause-noted
returns-clause-noted c =
    let j = c.args.j in
    let sorted = c.sort_unstable.new.self.items in
    let is : c.dedup.new.self.items ≡ dedup nat_eq sorted = dedup_is nat_eq sorted c.dedup.new.self.items c.dedup.ensures.filtered in
    let there = subst (λ xs. Contains xs j) (sym c.in_ok-push.ensures.items) (Contains-append_right c.args.list.now.items (j ∷ []) j (0, omega arith, refl)) in
    subst (λ xs. Contains xs j) (sym is) (Contains-dedup_nat sorted j (Contains-permutation c.push.new.self.items sorted j c.sort_unstable.ensures.permutation there))
