use Rattle.std.proofs.lemmas.List.Sorted.{All-permutation}
use Rattle.hunt.specs.declared.find.Taken.{Taken}
use Rattle.hunt.specs.Hunts.{IsPart}
use Rattle.hunt.specs.Seeds.{hunted}
use Rattle.hunt.proofs.sharing.look_round.Goals as goal

pub returns-in-Ok-clause-part : goal.returns-in-Ok-clause-part
returns-in-Ok-clause-part g c =
    let h = hunted c.args.source.now c.args.action.now c.args.course in
    c.gathered.ensures h (All-permutation (λ (t : Taken). IsPart h t.from t.end t.part) c.in-Ok.parts.items c.sort_unstable_by_key.new.self.items c.sort_unstable_by_key.ensures.permutation c.in-Ok.ensures.are)
