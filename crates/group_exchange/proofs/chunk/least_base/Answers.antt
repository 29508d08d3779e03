use Rattle.std.proofs.Common.{◌≡◌, List, map, refl, rules, sym, subst, ◌∙◌}
use Rattle.std.proofs.lemmas.Iterator.{YieldsList-from_slice, YieldsList-from_map, items_from_drains}
use Rattle.std.proofs.lemmas.List.{map-id}
use Rattle.event_keys.specs.declared.key.Bound.{Bound}
use Rattle.gvt.specs.Least.{IsLeast}
use Rattle.group_exchange.specs.Chunks.{base_of}
use Rattle.group_exchange.proofs.chunk.least_base.Goals as goal

pub returns : goal.returns
returns c =
    let given = c.least_bound.ensures in
    let all : given.0 ≡ map base_of c.args.stubs.now
    = sym (map-id given.0) ∙ items_from_drains {s = c.map.result} given.0 (given.1.1.0, given.1.1.1, λ _. (given.1.0, given.1.1.2)) (YieldsList-from_map {s = c.map.result} _ base_of (YieldsList-from_slice c.args.stubs.now (cc)) refl (λ x r q k. search rules)) in
    subst (λ (l : List Bound). IsLeast l c.least_bound.result) all given.2
