use Rattle.std.proofs.Common.{◌≡◌, ◌++◌, map}
use Rattle.plans.specs.Plans.{mark_of, text_of}
use Rattle.ioa_check.specs.AutomatonViews.{used_names}
use Rattle.compose.specs.Names.{is_among}
use Rattle.compose.specs.Tables.{action_signature, entry_signature}
use Rattle.compose.proofs.instances.actions.actions_of.Given as goal

abbrev pub invariant-loop-text : goal.invariant-loop-text
invariant-loop-text l = record {
  taken : map action_signature l.actions.items ++ map entry_signature l.text-iterator ≡ map entry_signature l.initial.text-iterator;
  marked : map mark_of l.actions.items ≡ map (is_among (used_names l.hidden)) (map text_of l.actions.items);
}
