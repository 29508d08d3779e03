-- Turns that are written after a head are read back.
use Rattle.std.proofs.Common.{◌≡◌, ℕ, Bool, true, false, cond, List, [], ◌∷◌, ◌++◌, refl, ap, sym, subst, ◌∙◌}
use Rattle.std.specs.Prelude.{Option, None, Some, map, filter, if◌then◌else◌}
use Rattle.std.specs.Cmp.{IsTotalOrder}
use Rattle.std.specs.List.{list_all}
use Rattle.std.specs.declared.cmp.Ordering.TheVariants.{Less}
use Rattle.std.proofs.lemmas.Cmp.{nat_cmp_total, on_total, then_total}
use Rattle.event_keys.specs.Orders.{key_order}
use Rattle.event_keys.specs.declared.key.Key.{Key}
use Rattle.event_keys.specs.declared.outcome.Turned.{Turned}
use Rattle.plans.specs.declared.plan.Plan.{Plan}
use Rattle.task_seed.specs.Table.{lines_of}
use Rattle.trace.specs.Heads.{head_text}
use Rattle.trace.specs.Lines.{is_shown, line_of, text_of}
use Rattle.trace.specs.OrderedFile.{head_line, AreInOrder, AreTurns, IsAfter, IsTurnOf, turn_text}
use Rattle.trace.specs.Versions.{GivesFile}
use Rattle.trace.specs.WrittenTurns.{actions_done, shown_turns}
use Rattle.trace.specs.declared.lines.Lines.{Lines}
use Rattle.trace.proofs.Dark.{is_inked, line_inked}
use Rattle.trace.proofs.OneVersion.{second_gives}
use Rattle.trace.proofs.ReadBack.{first_line_is, line_split, turn_given}

-- keys are in a total order
keys_total : IsTotalOrder key_order
keys_total = then_total (on_total (λ (k : Key). k.tick) nat_cmp_total) (then_total (on_total (λ (k : Key). k.component) nat_cmp_total) (on_total (λ (k : Key). k.number) nat_cmp_total))

after_both : (last : Option Key) (key next : Key) → IsAfter last key → key_order key next ≡ Less → IsAfter last next
after_both None key next h k = tt
after_both (Some before) key next h k = keys_total.trans before key next h k

-- turns in order are in order without some of them
without_first : (plan : Plan) (last : Option Key) (key : Key) (turns : List Turned) → IsAfter last key → AreInOrder plan (Some key) turns → AreInOrder plan last turns
without_first plan last key [] above h = tt
without_first plan last key (t ∷ turns) above h = (h.0, after_both last key t.key above h.1, h.2)

one_kept : (plan : Plan) (last : Option Key) (turned : Turned) (turns : List Turned) (keeps : Bool) → IsTurnOf plan turned → IsAfter last turned.key → AreInOrder plan (Some turned.key) turns → AreInOrder plan last (cond keeps (turned ∷ turns) turns)
one_kept plan last turned turns true proper above h = (proper, above, h)
one_kept plan last turned turns false proper above h = without_first plan last turned.key turns above h

order_kept : (plan : Plan) (keeps : Turned → Bool) (last : Option Key) (turns : List Turned) → AreInOrder plan last turns → AreInOrder plan last (filter keeps turns)
order_kept plan keeps last [] h = tt
order_kept plan keeps last (t ∷ turns) h = one_kept plan last t (filter keeps turns) (keeps t) h.0 h.1 (order_kept plan keeps (Some t.key) turns h.2)

-- the lines of what is written
turn_inked : (plan : Plan) (turned : Turned) → IsTurnOf plan turned → list_all is_inked (turn_text plan turned) ≡ true
turn_inked plan turned h =
    let given = turn_given plan turned.key turned.outcome h.key.numbers h.outcome in
    subst (λ l. list_all is_inked l ≡ true) (sym given.is) (line_inked plan given.line given.proper)

one_shown : (plan : Plan) (turned : Turned) (turns : List Turned) (rest : List ℕ) (shows : Bool) → IsTurnOf plan turned → lines_of rest ≡ map (turn_text plan) turns
    → lines_of ((if shows then line_of plan turned else []) ++ rest) ≡ map (turn_text plan) (cond shows (turned ∷ turns) turns)
one_shown plan turned turns rest true proper e =
    ap lines_of (line_split plan turned rest) ∙ first_line_is (turn_text plan turned) rest (turn_inked plan turned proper) ∙ ap (λ l. turn_text plan turned ∷ l) e
one_shown plan turned turns rest false proper e = e

lines_shown : (plan : Plan) (lines : Lines) (last : Option Key) (turns : List Turned) → AreInOrder plan last turns → lines_of (text_of plan lines turns) ≡ map (turn_text plan) (shown_turns plan lines turns)
lines_shown plan lines last [] h = refl
lines_shown plan lines last (t ∷ turns) h =
    one_shown plan t (shown_turns plan lines turns) (text_of plan lines turns) (is_shown plan lines t.outcome) h.0 (lines_shown plan lines (Some t.key) turns h.2)

pub head_read_back : (plan : Plan) (lines : Lines) (turns : List Turned) → AreInOrder plan None turns → GivesFile plan (head_text ++ text_of plan lines turns) (actions_done (shown_turns plan lines turns))
head_read_back plan lines turns h =
    let bytes = head_text ++ text_of plan lines turns in
    let shown = shown_turns plan lines turns in
    let are : lines_of bytes ≡ head_line ∷ map (turn_text plan) shown = ap (λ l. head_line ∷ l) (lines_shown plan lines None turns h) in
    let given : AreTurns plan (lines_of bytes) shown = record { are = are; order = order_kept plan (λ turned. is_shown plan lines turned.outcome) None turns h } in
    second_gives plan bytes (actions_done shown) (map (turn_text plan) shown, are) (shown, given, refl)
