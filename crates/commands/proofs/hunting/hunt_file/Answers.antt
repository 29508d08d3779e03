use Rattle.std.proofs.Common.{◌≡◌, ℕ, List, inl, inr, refl, subst}
use Rattle.trace.specs.Went.{IsStopped, IsWritten}
use Rattle.commands.specs.Hunting.{IsHuntReport}
use Rattle.commands.proofs.hunting.hunt_file.Goals as goal

pub returns-in-Ok : goal.returns-in-Ok
returns-in-Ok g c =
    let old = c.args.out.now in
    let new = c.hunt_source.new.out in
    let kept : Type 0 = new ≡ old in
    let wrote : List ℕ → Type 0 = IsWritten g.W.Write.contents old new in
    let cut : List ℕ → ℕ → Type 0 = IsStopped g.W.Write.contents old new in
    inr (record {
      front = c.in-Ok.source.items;
      is = c.in-Ok.ensures.ok;
      judged = subst (λ l. IsHuntReport l c.args.action.now c.args.hunting kept wrote cut c.hunt_source.result) c.as_slice.ensures.value c.hunt_source.ensures;
    })

pub returns-in-Err : goal.returns-in-Err
returns-in-Err g c = inl (c.in-Err.ensures.err, refl)
