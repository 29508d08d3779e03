use Rattle.std.proofs.Common.{◌≡◌, ℕ, List, inl, subst}
use Rattle.trace.specs.Puts.{written_of}
use Rattle.trace.specs.Went.{IsStopped, IsWritten}
use Rattle.hunt.specs.Hunts.{IsAnswered, IsFound}
use Rattle.hunt.specs.Seeds.{hunted}
use Rattle.hunt.proofs.Parts.{answered, stopped, told}
use Rattle.hunt.proofs.engine.hunt.Goals as goal

pub returns-in-Ok-Some-clause-answered : goal.returns-in-Ok-Some-clause-answered
returns-in-Ok-Some-clause-answered g c =
    let h = hunted c.args.source.now c.args.action.now c.args.course in
    let wrote : List ℕ → Type 0 = IsWritten g.W.Write.contents c.args.out.now c.tell.new.out in
    answered h c.args.first c.args.end wrote c.tell.result (wrote c.as_slice.result.now) c.tell.ensures.found c.tell.ensures.written
    (λ went. told h c.args.first c.args.end c.in-Ok-Some.find wrote (subst (IsFound h c.args.first c.args.end) c.in-Ok-Some.field-0-is c.in-Ok-Some.ensures.found) (subst wrote c.as_slice.ensures.value went))

pub returns-in-Ok-Some-clause-err : goal.returns-in-Ok-Some-clause-err
returns-in-Ok-Some-clause-err g c =
    let h = hunted c.args.source.now c.args.action.now c.args.course in
    let cut : ℕ → List ℕ → Type 0 = λ n text. IsStopped g.W.Write.contents c.args.out.now c.tell.new.out text n in
    stopped h (c.tell.new.out ≡ c.args.out.now) (λ failed. IsAnswered h c.args.first c.args.end (cut (written_of failed))) (λ n. cut n c.as_slice.result.now)
    (λ failed is. inl (told h c.args.first c.args.end c.in-Ok-Some.find (cut (written_of failed)) (subst (IsFound h c.args.first c.args.end) c.in-Ok-Some.field-0-is c.in-Ok-Some.ensures.found) (subst (cut (written_of failed)) c.as_slice.ensures.value is))) c.tell.result c.tell.ensures.stopped
