use Rattle.std.proofs.Common.{◌≡◌, ◌∷◌, ap, subst, sym, ◌∙◌, List}
use Rattle.terms.specs.Datum.{Datum}
use Rattle.plans.specs.MemoLaws.{blank_memo}
use Rattle.plans.specs.Memos.{IsMemo}
use Rattle.plans.specs.Plans.{composition}
use Rattle.undo_records.specs.States.{States, undone_by}
use Rattle.sure_groups.specs.declared.member.Member.{Member}
use Rattle.sure_groups.proofs.member.change.Goals as goal
use Rattle.sure_groups.proofs.member.change.Goals.{then-not-is_untouched, else-not-is_untouched}

pub returns-clause-memo : goal.returns-clause-memo
returns-clause-memo c =
    let all = composition c.args.plan.now in
    let cells = c.apply.new.cells in
    let old = c.args.member.now.state in
    let new = c.forget_first.new.self.current in elim c.if-not-is_untouched.branch [
      | then-not-is_untouched w ↦ subst (λ (m : Member). IsMemo all c.args.j new m.memo) (sym w.member-is) (blank_memo all c.args.j new w.forget.new.self w.forget.ensures)
      | else-not-is_untouched w ↦
          let below_is : cells.below ≡ old.current ∷ old.below = c.in_ok-apply.ensures.marked ∙ ap (λ (x : States). x.below) c.in_ok-mark.ensures.ok in
          let same : cells.current ≡ old.current = sym (c.is_untouched.ensures w.if-not-is_untouched.false) ∙ ap (λ (b : List (List Datum)). (undone_by cells.current b).current) below_is in
          let now_is : new ≡ cells.current = ap (λ (x : States). x.current) c.forget_first.ensures ∙ ap (λ (m : Member). m.state.current) w.member-is in
          subst (λ (m : Member). IsMemo all c.args.j new m.memo) (sym w.member-is) (subst (λ st. IsMemo all c.args.j st c.args.member.now.memo) (sym (now_is ∙ same)) c.requires.memo)
    ]
