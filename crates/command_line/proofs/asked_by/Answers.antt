use Rattle.std.proofs.Common.{subst, sym}
use Rattle.command_line.specs.Words.{IsAskedBy, IsNamed}
use Rattle.command_line.proofs.Lacking.{asks_nothing, entered_is, nothing_entered, without_file, without_subcommand}
use Rattle.command_line.proofs.asked_by.Goals as goal

pub returns-in_err-name : goal.returns-in_err-name
returns-in_err-name c =
    let is = nothing_entered _ _ _ c.in_err-name.ensures.name in
    asks_nothing _ _ c.from_residual.ensures
    (λ asked named. without_subcommand asked (subst (λ entered. IsNamed entered asked) is named))

pub returns-in_err-source : goal.returns-in_err-source
returns-in_err-source c =
    let is = entered_is _ _ _ _ _ c.in_ok-name.ensures.name c.in_ok-name.ensures.rows in
    let lacking = sym c.in_err-source.ensures in
    asks_nothing _ _ c.from_residual-in_err-source.ensures
    (λ asked named. without_file _ _ lacking asked (subst (λ entered. IsNamed entered asked) is named))

pub returns : goal.returns
returns c =
    let is = entered_is _ _ _ _ _ c.in_ok-name.ensures.name c.in_ok-name.ensures.rows in
    subst (λ entered. IsAskedBy entered c.asked_as.result) (sym is) c.asked_as.ensures
