use Rattle.std.proofs.Common.{◌≡◌, ◌<◌, ◌≤◌, ◌+◌, ◌∙◌, Option, Some, List, ap, drop, length, refl, rules, slice_set, subst, sym}
use Rattle.std.specs.Prelude.{Contains, slice_get, slice_index_or}
use Rattle.std.proofs.lemmas.Option.{slice_get_read}
use Rattle.std.specs.Arc.{arc_value}
use Rattle.std.specs.Vec.{with_items}
use Rattle.std.proofs.lemmas.List.{with_items_is}
use Rattle.event_keys.specs.Ranks.{rank}
use Rattle.event_keys.specs.declared.key.Key.{Key}
use Rattle.task_seed.specs.Setups.{system}
use Rattle.shares.specs.Turns.{HasTurn}
use Rattle.shares.specs.declared.share.Own.{Own}
use Rattle.shares.specs.declared.share.Wait.{Wait}
use Rattle.sure_groups.specs.Inputs.{Knows, heard_at}
use Rattle.sure_groups.specs.Passing.{HasActed}
use Rattle.sure_groups.specs.Sure.{AreBags, AreMembers, AreSure, next_of}
use Rattle.sure_groups.specs.declared.bags.Bag.{Bag}
use Rattle.sure_groups.specs.declared.member.Member.{Member}
use Rattle.sure_groups.proofs.Stepped.{all_known, left_first, stepped}
use Rattle.sure_groups.proofs.group.SureGroup.step.Goals as goal

pub returns-then-not-has_heard-clause-step : goal.returns-then-not-has_heard-clause-step
returns-then-not-has_heard-clause-step g c =
    let gr = c.args.self.now in
    let hs = gr.hearing.heard.items in
    let own = c.in-Some.own.now in
    let dealt = c.deref.result.now in
    let within : gr.at < length dealt = search rules in
    let item : own ≡ slice_index_or dealt gr.at own = search rules in
    let there : slice_get gr.own.items gr.at ≡ Some own = subst (λ l. slice_get l gr.at ≡ Some own) c.deref.ensures.value (slice_get_read dealt (length dealt) gr.at own refl within item) in
    let late = c.has_heard.ensures.not c.if-not-has_heard.true in (
      refl,
      record {
        own = own;
        next = there;
        wait = late.0;
        among = subst (λ l. Contains l late.0) c.deref-3.ensures late.1;
        unheard = subst (λ l. heard_at l late.0.group ≤ rank late.0.last) c.deref-2.ensures.value late.2;
      },
    )

pub come-requires-clause-members : goal.come-requires-clause-members
come-requires-clause-members g c κs inside =
    let t = g.T.Turns.turn_of in
    let gr = c.args.self.now in
    let s = system t (arc_value gr.setup) in
    let gs = gr.hearing.groups.items in
    let hs = gr.hearing.heard.items in
    let me = gr.hearing.me in
    let own = c.in-Some.own.now in
    let later = drop (gr.at + 1) gr.own.items in
    let k = rank own.due.key in
    let dealt = c.deref.result.now in
    let within : gr.at < length dealt = search rules in
    let item : own ≡ slice_index_or dealt gr.at own = search rules in
    let there : slice_get gr.own.items gr.at ≡ Some own = subst (λ l. slice_get l gr.at ≡ Some own) c.deref.ensures.value (slice_get_read dealt (length dealt) gr.at own refl within item) in
    let h = subst (λ l. AreSure s gs hs me gr.members.items l gr.until gr.bags.items gr.slots.items) (left_first gr.own.items gr.at own there) c.requires in
    subst (λ p. AreMembers (system t p) gs hs me k c.deref_mut.result.now) (sym c.deref-5.ensures) (subst (λ (l : List Member). AreMembers s gs hs me k l) (sym c.deref_mut.ensures.value) h.members_are)

pub come-requires-clause-known : goal.come-requires-clause-known
come-requires-clause-known g c κs inside =
    let t = g.T.Turns.turn_of in
    let gr = c.args.self.now in
    let s = system t (arc_value gr.setup) in
    let gs = gr.hearing.groups.items in
    let hs = gr.hearing.heard.items in
    let me = gr.hearing.me in
    let own = c.in-Some.own.now in
    let later = drop (gr.at + 1) gr.own.items in
    let k = rank own.due.key in
    let dealt = c.deref.result.now in
    let within : gr.at < length dealt = search rules in
    let item : own ≡ slice_index_or dealt gr.at own = search rules in
    let there : slice_get gr.own.items gr.at ≡ Some own = subst (λ l. slice_get l gr.at ≡ Some own) c.deref.ensures.value (slice_get_read dealt (length dealt) gr.at own refl within item) in
    let h = subst (λ l. AreSure s gs hs me gr.members.items l gr.until gr.bags.items gr.slots.items) (left_first gr.own.items gr.at own there) c.requires in
    let heard_0 = c.has_heard.ensures.heard c.if-not-has_heard.false in
    let heard_1 = subst (λ l. (wait : Wait) → Contains l wait → rank wait.last < heard_at c.deref-2.result.now wait.group) c.deref-3.ensures heard_0 in
    let heard_2 = subst (λ l. (wait : Wait) → Contains own.waits.items wait → rank wait.last < heard_at l wait.group) c.deref-2.ensures.value heard_1 in
    let knows = all_known s gs hs me gr.members.items own later gr.until gr.bags.items gr.slots.items h heard_2 in
    subst (λ p. Knows (system t p) gs hs own.due.key.component k) (sym c.deref-5.ensures) knows

pub act-requires-clause-members : goal.act-requires-clause-members
act-requires-clause-members g c κs inside =
    let t = g.T.Turns.turn_of in
    let gr = c.args.self.now in
    let s = system t (arc_value gr.setup) in
    let gs = gr.hearing.groups.items in
    let hs = gr.hearing.heard.items in
    let me = gr.hearing.me in
    let own = c.in-Some.own.now in
    let later = drop (gr.at + 1) gr.own.items in
    let k = rank own.due.key in
    let dealt = c.deref.result.now in
    let within : gr.at < length dealt = search rules in
    let item : own ≡ slice_index_or dealt gr.at own = search rules in
    let there : slice_get gr.own.items gr.at ≡ Some own = subst (λ l. slice_get l gr.at ≡ Some own) c.deref.ensures.value (slice_get_read dealt (length dealt) gr.at own refl within item) in
    let h = subst (λ l. AreSure s gs hs me gr.members.items l gr.until gr.bags.items gr.slots.items) (left_first gr.own.items gr.at own there) c.requires in
    let come = c.come.new.members in
    let long = c.in_ok-found.ensures.many ∙ c.deref_mut.ensures.len in
    let many : length come ≡ length gr.members.items = c.in_ok-found.ensures.many ∙ ap length c.deref_mut.ensures.value in
    let come_is : (with_items gr.members come).items ≡ come = with_items_is gr.members come long in
    let there_is : c.deref_mut-2.result.now ≡ come = c.deref_mut-2.ensures.value ∙ come_is in
    let are = subst (λ p. AreMembers (system t p) gs hs me k come) c.deref-5.ensures c.in_ok-found.ensures.members in
    subst (λ p. AreMembers (system t p) gs hs me k c.deref_mut-2.result.now) (sym c.deref-6.ensures) (subst (λ (l : List Member). AreMembers s gs hs me k l) (sym there_is) are)

pub act-requires-clause-bags : goal.act-requires-clause-bags
act-requires-clause-bags g c κs inside =
    let t = g.T.Turns.turn_of in
    let gr = c.args.self.now in
    let s = system t (arc_value gr.setup) in
    let gs = gr.hearing.groups.items in
    let hs = gr.hearing.heard.items in
    let me = gr.hearing.me in
    let own = c.in-Some.own.now in
    let later = drop (gr.at + 1) gr.own.items in
    let k = rank own.due.key in
    let dealt = c.deref.result.now in
    let within : gr.at < length dealt = search rules in
    let item : own ≡ slice_index_or dealt gr.at own = search rules in
    let there : slice_get gr.own.items gr.at ≡ Some own = subst (λ l. slice_get l gr.at ≡ Some own) c.deref.ensures.value (slice_get_read dealt (length dealt) gr.at own refl within item) in
    let h = subst (λ l. AreSure s gs hs me gr.members.items l gr.until gr.bags.items gr.slots.items) (left_first gr.own.items gr.at own there) c.requires in
    subst (λ p. AreBags (system t p) gs me k c.deref_mut-3.result.now) (sym c.deref-6.ensures) (subst (λ (l : List Bag). AreBags s gs me k l) (sym c.deref_mut-3.ensures.value) h.bags_are)

pub returns-clause-sure : goal.returns-clause-sure
returns-clause-sure g c =
    let t = g.T.Turns.turn_of in
    let gr = c.args.self.now in
    let s = system t (arc_value gr.setup) in
    let gs = gr.hearing.groups.items in
    let hs = gr.hearing.heard.items in
    let me = gr.hearing.me in
    let own = c.in-Some.own.now in
    let later = drop (gr.at + 1) gr.own.items in
    let k = rank own.due.key in
    let dealt = c.deref.result.now in
    let within : gr.at < length dealt = search rules in
    let item : own ≡ slice_index_or dealt gr.at own = search rules in
    let there : slice_get gr.own.items gr.at ≡ Some own = subst (λ l. slice_get l gr.at ≡ Some own) c.deref.ensures.value (slice_get_read dealt (length dealt) gr.at own refl within item) in
    let h = subst (λ l. AreSure s gs hs me gr.members.items l gr.until gr.bags.items gr.slots.items) (left_first gr.own.items gr.at own there) c.requires in
    let heard_0 = c.has_heard.ensures.heard c.if-not-has_heard.false in
    let heard_1 = subst (λ l. (wait : Wait) → Contains l wait → rank wait.last < heard_at c.deref-2.result.now wait.group) c.deref-3.ensures heard_0 in
    let heard_2 = subst (λ l. (wait : Wait) → Contains own.waits.items wait → rank wait.last < heard_at l wait.group) c.deref-2.ensures.value heard_1 in
    let knows = all_known s gs hs me gr.members.items own later gr.until gr.bags.items gr.slots.items h heard_2 in
    let come = c.come.new.members in
    let long = c.in_ok-found.ensures.many ∙ c.deref_mut.ensures.len in
    let many : length come ≡ length gr.members.items = c.in_ok-found.ensures.many ∙ ap length c.deref_mut.ensures.value in
    let come_is : (with_items gr.members come).items ≡ come = with_items_is gr.members come long in
    let there_is : c.deref_mut-2.result.now ≡ come = c.deref_mut-2.ensures.value ∙ come_is in
    let are = subst (λ p. AreMembers (system t p) gs hs me k come) c.deref-5.ensures c.in_ok-found.ensures.members in
    let found = c.in_ok-found.found in
    let turn = subst (λ p. HasTurn (system t p) k found) c.deref-5.ensures c.in_ok-found.ensures.found in
    let news = c.act.new.members in
    let bags = c.act.new.bags in
    let acts_0 = subst (λ p. HasActed (system t p) gs hs me k own.due.key.component found c.deref_mut-2.result.now news bags) c.deref-6.ensures c.in_ok-act.ensures.acted in
    let acts = subst (λ (l : List Member). HasActed s gs hs me k own.due.key.component found l news bags) there_is acts_0 in
    let count : length bags ≡ length gr.bags.items = c.in_ok-act.ensures.count ∙ ap length c.deref_mut-3.ensures.value in
    let after = stepped s gs hs me gr.members.items own later gr.until gr.bags.items gr.slots.items h found turn come news bags many are knows c.in_ok-found.ensures.none acts count in
    let news_is : (with_items (with_items gr.members come) news).items ≡ news = with_items_is (with_items gr.members come) news (acts.many ∙ long) in
    let bags_is : (with_items gr.bags bags).items ≡ bags = with_items_is gr.bags bags (c.in_ok-act.ensures.count ∙ c.deref_mut-3.ensures.len) in
    let next_is : c.next_at-next.result ≡ next_of later gr.until = c.next_at-next.ensures ∙ ap (λ (l : List Own). next_of (drop (gr.at + 1) l) gr.until) c.deref-4.ensures.value in
    let heard_now = slice_set hs c.from.result c.next_at-next.result in
    let heard_is : heard_now ≡ slice_set hs me (next_of later gr.until) = ap (λ n. slice_set hs n c.next_at-next.result) c.from.ensures ∙ ap (λ (o : Option Key). slice_set hs me o) next_is in
    subst (λ (l : List (Option Key)). AreSure s gs l me (with_items (with_items gr.members come) news).items later gr.until (with_items gr.bags bags).items c.push.new.self.items) (sym heard_is)
    (subst (λ (l : List Member). AreSure s gs (slice_set hs me (next_of later gr.until)) me l later gr.until (with_items gr.bags bags).items c.push.new.self.items) (sym news_is)
    (subst (λ (l : List Bag). AreSure s gs (slice_set hs me (next_of later gr.until)) me news later gr.until l c.push.new.self.items) (sym bags_is)
    (subst (λ l. AreSure s gs (slice_set hs me (next_of later gr.until)) me news later gr.until bags l) (sym c.in_ok-push.ensures.items) after)))
