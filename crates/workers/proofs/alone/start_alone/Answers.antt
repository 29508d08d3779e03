use Rattle.std.proofs.Common.{◌≡◌, ◌∷◌, [], ◌++◌, ap, length, subst, sym, ◌∙◌}
use Rattle.std.specs.Prelude.{Some, option_to_list, slice_get}
use Rattle.boards.specs.Passes.{IsAtRest}
use Rattle.workers.proofs.Gathered.{at_end, in_front}
use Rattle.workers.proofs.alone.start_alone.Goals as goal

pub returns-clause-drawer : goal.returns-clause-drawer
returns-clause-drawer g c =
    let passes = c.in_ok-board.field-0.passes.items in
    let front = c.pop.new.self.items in
    let pass = c.in-Some.one in
    let last : passes ≡ front ++ pass ∷ [] = c.pop.ensures.items ∙ ap (λ r. front ++ option_to_list r) c.in-Some.is in
    let there : slice_get passes (length front) ≡ Some pass = ap (λ xs. slice_get xs (length front)) last ∙ at_end front pass in
    let owner = c.in_ok-board.ensures.owners (length front) pass there in
    let given = ap (λ h. h.setup) c.in_ok-inside.ensures.ok ∙ ap (λ h. h.setup) c.new-3.ensures ∙ c.in_ok-own-3.ensures in
    let own = c.in_ok-agenda.ensures.setup ∙ c.in_ok-own.ensures in
    subst (λ s. IsAtRest c.in_ok-board.field-0.board s pass) (given ∙ sym own) owner.0

pub returns-clause-taker : goal.returns-clause-taker
returns-clause-taker g c =
    let passes = c.in_ok-board.field-0.passes.items in
    let front = c.pop.new.self.items in
    let first = c.pop-2.new.self.items in
    let one = c.in-Some.one in
    let pass = c.in-Some-pop.other in
    let last : passes ≡ front ++ one ∷ [] = c.pop.ensures.items ∙ ap (λ r. front ++ option_to_list r) c.in-Some.is in
    let before : front ≡ first ++ pass ∷ [] = c.pop-2.ensures.items ∙ ap (λ r. first ++ option_to_list r) c.in-Some-pop.is in
    let within : slice_get front (length first) ≡ Some pass = ap (λ xs. slice_get xs (length first)) before ∙ at_end first pass in
    let there : slice_get passes (length first) ≡ Some pass = ap (λ xs. slice_get xs (length first)) last ∙ in_front front one (length first) pass within in
    let owner = c.in_ok-board.ensures.owners (length first) pass there in
    let given = ap (λ h. h.setup) c.in_ok-inside.ensures.ok ∙ ap (λ h. h.setup) c.new-3.ensures ∙ c.in_ok-own-3.ensures in
    let own = ap (λ l. l.setup) c.in_ok-group.ensures ∙ c.in_ok-own-2.ensures in
    subst (λ s. IsAtRest c.in_ok-board.field-0.board s pass) (given ∙ sym own) owner.0
