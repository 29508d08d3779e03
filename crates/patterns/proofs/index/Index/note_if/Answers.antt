use Rattle.std.proofs.Common.{Contains, subst, sym}
use Rattle.patterns.specs.Patterns.{Kept, masks_in, IsListed}
use Rattle.patterns.proofs.index.Index.note_if.Goals as goal

pub returns-in_ok-note_number-clause-kept : goal.returns-in_ok-note_number-clause-kept
returns-in_ok-note_number-clause-kept c = record {
  masks = λ name mask has. c.in_ok-note_mask.ensures.kept name mask (subst (λ (kept : Kept). Contains (masks_in kept.masks name) mask) (sym c.self.view_is) has);
  numbers = λ name i values has. c.in_ok-note_number.ensures.kept name i values (subst (λ (kept : Kept). IsListed kept.numbers name values i) (sym c.self.view_is) has);
}
