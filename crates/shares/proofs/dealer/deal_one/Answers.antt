use Rattle.std.proofs.Common.{◌≡◌, ℕ, ◌++◌, ◌∷◌, [], All, List, Option, subst}
use Rattle.event_keys.specs.declared.key.Key.{Key}
use Rattle.task_seed.specs.Setups.{system}
use Rattle.reference.specs.Agendas.{IsDrawn}
use Rattle.senders.specs.Senders.{lists_of, senders_at}
use Rattle.shares.specs.Hands.{IsHand, IsTable, owns_at}
use Rattle.shares.specs.Waiting.{IsWaited}
use Rattle.shares.proofs.Dealt.{hand_more, table_after}
use Rattle.shares.proofs.dealer.deal_one.Goals as goal

pub returns-in_err-own-clause-table : goal.returns-in_err-own-clause-table
returns-in_err-own-clause-table g c =
    let s = system g.T.Turns.turn_of c.args.agenda.now.setup in
    let t = c.args.table.now in
    let new = c.draw.new.self.next in
    let drawn = subst (λ o. IsDrawn s c.args.agenda.now.next o new) c.in-Some.is c.in_ok-due.ensures.ok in
    table_after s t.groups.items t.count c.args.agenda.now.next new c.in-Some.due c.args.last.now.items c.note_last.new.last.items drawn c.note_last.ensures c.requires.table

pub returns-in_err-put_own-clause-table : goal.returns-in_err-put_own-clause-table
returns-in_err-put_own-clause-table g c =
    let s = system g.T.Turns.turn_of c.args.agenda.now.setup in
    let t = c.args.table.now in
    let new = c.draw.new.self.next in
    let drawn = subst (λ o. IsDrawn s c.args.agenda.now.next o new) c.in-Some.is c.in_ok-due.ensures.ok in
    table_after s t.groups.items t.count c.args.agenda.now.next new c.in-Some.due c.args.last.now.items c.note_last.new.last.items drawn c.note_last.ensures c.requires.table

pub returns-clause-table : goal.returns-clause-table
returns-clause-table g c =
    let s = system g.T.Turns.turn_of c.args.agenda.now.setup in
    let t = c.args.table.now in
    let new = c.draw.new.self.next in
    let drawn = subst (λ o. IsDrawn s c.args.agenda.now.next o new) c.in-Some.is c.in_ok-due.ensures.ok in
    table_after s t.groups.items t.count c.args.agenda.now.next new c.in-Some.due c.args.last.now.items c.note_last.new.last.items drawn c.note_last.ensures c.requires.table

pub returns-clause-hand : goal.returns-clause-hand
returns-clause-hand g c =
    let s = system g.T.Turns.turn_of c.args.agenda.now.setup in
    let senders = lists_of c.args.table.now.senders in
    let groups = c.args.table.now.groups.items in
    let count = c.args.table.now.count in
    let last = c.args.last.now.items in
    let old = c.args.agenda.now.next in
    let new = c.draw.new.self.next in
    let due = c.in-Some.due in
    let drawn = subst (λ o. IsDrawn s old o new) c.in-Some.is c.in_ok-due.ensures.ok in
    let table = subst (λ o. IsTable s groups count o last) drawn.0 c.requires.table in
    let before = subst (λ o. IsHand s senders groups count o c.args.hand.now) drawn.0 c.requires.hand in
    let own = c.in_ok-own.field-0 in
    let is = c.in_ok-put_own.ensures in
    let hand = c.args.hand.now in
    let after = c.put_own.new.hand in
    let group = c.group_of-group.ensures in
    let waits = subst (λ k. All (IsWaited groups last k own.waits.items) (senders_at senders due.key.component)) group
    (subst (λ (l : List (Option Key)). All (IsWaited groups l c.group_of-group.result own.waits.items) (senders_at senders due.key.component)) c.as_slice.ensures.value c.in_ok-own.ensures.waits) in
    let added = subst (λ k. owns_at after.owns.items k ≡ owns_at hand.owns.items k ++ own ∷ []) group is.added in
    let others = subst (λ k. (other : ℕ) → (other ≡ k → ⊥) → owns_at after.owns.items other ≡ owns_at hand.owns.items other) group is.others in
    hand_more s due new drawn.1 senders groups count last own hand after c.in_ok-own.ensures.due table waits is.from is.due is.many added others before
