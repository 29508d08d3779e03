use Rattle.std.proofs.Common.{◌∙◌, ℕ, ap, subst, sym}
use Rattle.std.specs.Prelude.{option_map}
use Rattle.clap.specs.Words.{found_of, rows_of}
use Rattle.command_line.specs.Rules.{IsNumber}
use Rattle.command_line.proofs.Locals.{nothing}
use Rattle.command_line.proofs.Numbers.{not_chosen}
use Rattle.command_line.proofs.chosen_of.Goals as goal

pub returns-in_err-number-clause-chosen : goal.returns-in_err-number-clause-chosen
returns-in_err-number-clause-chosen c =
    let rows = rows_of (found_of c.args.found.now) in
    let none = subst (λ (m : ℕ). (n : ℕ) → IsNumber rows c.args.name.now 1 m n → ⊥) c.from.ensures c.in_err-number.ensures in
    nothing _ _ _ c.from_residual.ensures
    (not_chosen rows c.args.name.now 1 c.args.most _ (sym c.file_of.ensures ∙ ap (option_map (λ s. s.now)) c.in-Some.is) none)
