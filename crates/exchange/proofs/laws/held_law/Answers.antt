use Rattle.exchange.proofs.Pinned.{pinned}
use Rattle.exchange.proofs.laws.held_law.Goals as goal

pub returns : goal.returns
returns g c =
    let a = c.soundness_law.ensures.shared in
    let b = c.soundness_law-2.ensures.shared in
    pinned 0 c.args.a.now.held c.args.b.now.held c.requires.many a.order b.order a.owners b.owners a.sound.held.1.falls c.requires.same
