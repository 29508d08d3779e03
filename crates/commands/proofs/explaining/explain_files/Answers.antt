use Rattle.std.proofs.Common.{◌∙◌, inl, inr, sym}
use Rattle.commands.proofs.explaining.explain_files.Goals as goal

pub returns-then-is_number : goal.returns-then-is_number
returns-then-is_number g c = inl (sym c.is_number.ensures ∙ c.if-is_number.true, c.tell_story.ensures)

pub returns : goal.returns
returns g c = inr (sym c.is_number.ensures ∙ c.if-is_number.false, c.tell_files.ensures)
