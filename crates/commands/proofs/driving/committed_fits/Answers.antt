use Rattle.std.proofs.Common.{◌++◌, ◌∙◌, ap, reverse, subst, sym}
use Rattle.std.proofs.lemmas.List.{append-nil}
use Rattle.schedules.specs.Schedules.{KeysFit}
use Rattle.commands.proofs.driving.committed_fits.Goals as goal

pub loop-turned-init : goal.loop-turned-init
loop-turned-init g c =
    subst KeysFit
    (c.into_iter-turned-iterator.ensures.into_iter_gives ∙ c.iter-turned-items.ensures ∙ ap (λ a. reverse a.before ++ a.after) c.committed.ensures.turns
    ∙ append-nil (reverse c.args.world.now.committed))

pub loop-turned-preserved : goal.loop-turned-preserved
loop-turned-preserved g c = λ rest. c.loop-turned.invariant (subst KeysFit (sym c.in-Some.ensures.steps) (c.fits.ensures, rest))

pub returns : goal.returns
returns g c = c.loop-turned.invariant (subst KeysFit (sym c.in-None.ensures.steps.0) tt)
