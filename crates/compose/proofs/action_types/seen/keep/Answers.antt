use Rattle.std.proofs.Common.{sym, ◌∙◌}
use Rattle.compose.specs.TypedStandings.{stood}
use Rattle.compose.proofs.Kept.{kept_new, kept_old}
use Rattle.compose.proofs.action_types.seen.keep.Goals as goal

pub returns-in_ok-insert : goal.returns-in_ok-insert
returns-in_ok-insert c =
    λ q. kept_new c.as_str.result.now c.in_ok-clone.field-0 c.args.standing q c.args.seen.now.entries c.insert.new.self.entries (sym c.contains_key.ensures ∙ c.if-not-contains_key.true) (c.in_ok-clone.ensures.cases ∙ sym c.as_str.ensures.value) c.as_str.ensures.value c.in_ok-insert.ensures.entries

pub returns-else-not-contains_key : goal.returns-else-not-contains_key
returns-else-not-contains_key c =
    λ q. kept_old c.as_str.result.now (stood c.args.standing) q c.args.seen.now.entries (sym c.contains_key.ensures ∙ c.if-not-contains_key.false) c.as_str.ensures.value
