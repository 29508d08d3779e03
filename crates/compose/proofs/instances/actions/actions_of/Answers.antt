use Rattle.std.proofs.Common.{rules, ◌≡◌, ◌∷◌, map, refl, sym, ap, subst, ◌∙◌}
use Rattle.plans.specs.Plans.{mark_of, text_of}
use Rattle.ioa_check.specs.AutomatonViews.{used_names}
use Rattle.compose.specs.Names.{IsRising, is_among}
use Rattle.compose.specs.Tables.{action_signature, entry_signature}
use Rattle.compose.proofs.Grown.{put}
use Rattle.compose.proofs.HiddenNames.{one_more_mark}
use Rattle.compose.proofs.Rising.{rising_keys, texts_are}
use Rattle.compose.proofs.instances.actions.actions_of.Goals as goal

pub loop-text-preserved : goal.loop-text-preserved
loop-text-preserved c =
    let l = c.loop-text in
    let steps : l.text-iterator ≡ (c.in-Some.text, c.in-Some.parameters) ∷ c.next.new.self = search rules in
    let named = c.action.result in
    record {
      taken = put action_signature l.actions.items c.push.new.self.items named (action_signature named) (map entry_signature l.text-iterator) (map entry_signature c.next.new.self) _ (search rules) refl (ap (map entry_signature) steps ∙ ap (λ e. e ∷ map entry_signature c.next.new.self) (sym c.action.ensures.signature)) l.invariant.taken;
      marked = one_more_mark mark_of text_of (is_among (used_names c.args.hidden.now)) l.actions.items c.push.new.self.items named (search rules) c.action.ensures.mark l.invariant.marked;
    }

pub returns-clause-rising : goal.returns-clause-rising
returns-clause-rising c =
    let xs = c.loop-text.actions.items in
    let same : map action_signature xs ≡ map entry_signature c.args.names.entries = search rules in
    let texts : map (λ s. s.name) (map entry_signature c.args.names.entries) ≡ map text_of xs = ap (map (λ s. s.name)) (sym same) ∙ texts_are xs in
    subst IsRising texts (rising_keys c.args.names.entries c.into_iter-text-iterator.ensures.into_iter_gives.5)
