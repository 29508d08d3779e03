use Rattle.std.proofs.Common.{◌≡◌, ap, sym, subst, length, suc}
use Rattle.outcomes.specs.Solving.{AreAsMany}
use Rattle.outcomes.proofs.Walking.{as_many}
use Rattle.outcomes.proofs.walk.walk_end.Goals as goal

pub ask_all-requires : goal.ask_all-requires
ask_all-requires g c =
    let node = c.args.node.now in
    let same : length c.copy_from_slice.new.self ≡ length node.left.now = ap length c.copy_from_slice.ensures.after in
    record { many = subst (λ n. AreAsMany n node.stages.now) (sym same) (as_many (length node.left.now) (suc node.known) node.stages.now c.requires.node.stages) }
