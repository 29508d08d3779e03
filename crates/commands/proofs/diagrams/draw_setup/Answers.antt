use Rattle.std.proofs.Common.{◌≡◌, ℕ, List, map, string_bytes, subst, sym}
use Rattle.task_seed.specs.Setups.{plan_of, system}
use Rattle.trace.specs.Went.{IsStopped, IsWritten}
use Rattle.commands.specs.Drawing.{AreNames, IsDrawEnd}
use Rattle.commands.proofs.DrawReports.{drawn_reported, undrawn_reported}
use Rattle.commands.proofs.diagrams.draw_setup.Goals as goal

pub returns-in-Ok-draw : goal.returns-in-Ok-draw
returns-in-Ok-draw g c =
    let plan = plan_of c.args.setup.now in
    let s = system g.T.Turns.turn_of c.args.setup.now in
    let old = c.args.out.now in
    let new = c.draw.new.out in
    let kept : Type 0 = new ≡ old in
    let wrote : List ℕ → Type 0 = IsWritten g.W.Write.contents old new in
    let cut : List ℕ → ℕ → Type 0 = IsStopped g.W.Write.contents old new in
    let source = c.args.source.now in
    drawn_reported plan s c.args.ticks kept wrote cut source (map string_bytes c.as_slice.result.now)
    (subst (λ l. AreNames source (map string_bytes l)) (sym c.as_slice.ensures.value) c.in-Ok.ensures) c.window_of.result c.window_of.ensures c.in-Ok-draw.ensures.drawn

pub returns : goal.returns
returns g c =
    let plan = plan_of c.args.setup.now in
    let s = system g.T.Turns.turn_of c.args.setup.now in
    let old = c.args.out.now in
    let new = c.draw.new.out in
    let kept : Type 0 = new ≡ old in
    let wrote : List ℕ → Type 0 = IsWritten g.W.Write.contents old new in
    let cut : List ℕ → ℕ → Type 0 = IsStopped g.W.Write.contents old new in
    let source = c.args.source.now in
    subst (IsDrawEnd plan s c.args.ticks kept wrote cut source) (sym c.report_of.ensures)
    (undrawn_reported plan s c.args.ticks kept wrote cut source (map string_bytes c.as_slice.result.now)
    (subst (λ l. AreNames source (map string_bytes l)) (sym c.as_slice.ensures.value) c.in-Ok.ensures) c.in-Err-draw.fault c.window_of.result c.window_of.ensures c.in-Err-draw.ensures.undrawn)
