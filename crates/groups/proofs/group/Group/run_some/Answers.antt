use Rattle.std.proofs.Common.{◌≡◌, ◌+◌, suc, refl, ap, sym, subst, arith}
use Rattle.groups.specs.GroupView.{GroupView}
use Rattle.groups.specs.Moves.{HasStopped, IsAhead, IsSteppedWithin}
use Rattle.groups.specs.Windows.{IsHalted, KeepRoom, KeepsWindow}
use Rattle.groups.proofs.Moved.{ahead_more, step_window}
use Rattle.groups.proofs.Roomy.{stopped, window_both, window_kept, window_same}
use Rattle.groups.proofs.group.Group.run_some.Goals as goal

pub loop-count-init : goal.loop-count-init
loop-count-init g c = record { ahead = refl; window = window_same c.args.self.now; start = λ e. refl }

pub loop-count-preserved : goal.loop-count-preserved
loop-count-preserved g c =
    let t = g.T.Turns.turn_of in
    let n = c.loop-count.count in
    let mid = c.loop-count.self in
    let new = c.process_within.new.self in
    let one : suc n ≡ n + 1 = omega arith in
    let window : c.self.inside.window ≡ mid.window = ap (λ (v : GroupView _). v.window) c.self.view_is in
    record {
      ahead = subst (IsAhead t c.args.self.now new) one (ahead_more t c.args.self.now mid new n c.loop-count.invariant.ahead (subst (λ w. IsSteppedWithin t w mid new) window c.in-Ok.ensures.step));
      window = window_both c.args.self.now mid new c.loop-count.invariant.window (window_kept mid new (step_window t mid new c.in-Ok.ensures.step.0) (subst (λ w. KeepRoom w mid.components new.components) window c.in-Ok.ensures.within));
      start = λ e. absurd (omega (arith, e));
    }

pub returns-in-Err-clause-stop : goal.returns-in-Err-clause-stop
returns-in-Err-clause-stop g c =
    let t = g.T.Turns.turn_of in
    let mid = c.loop-count.self in
    let window : c.self.inside.window ≡ mid.window = ap (λ (v : GroupView _). v.window) c.self.view_is in
    subst (HasStopped t c.args.budget c.loop-count.count c.in-Err.stop) (sym c.in-Err.ensures.kept)
    (stopped t c.args.budget c.loop-count.count c.in-Err.stop mid c.loop-count-test.true (subst (λ w. IsHalted t w c.in-Err.stop mid.components) window c.in-Err.ensures.stop))

pub returns-in-Err-clause-window : goal.returns-in-Err-clause-window
returns-in-Err-clause-window g c = subst (KeepsWindow c.args.self.now) (sym c.in-Err.ensures.kept) c.loop-count.invariant.window

pub returns-clause-window : goal.returns-clause-window
returns-clause-window g c = c.loop-count.invariant.window
