-- The orders, each from its parts.
use Rattle.std.specs.declared.cmp.Ordering.{Ordering}
use Rattle.std.specs.declared.cmp.Ordering.TheVariants.{Less, Equal, Greater}
use Rattle.std.specs.Ordering.{nat_cmp, on, then_cmp}
use Rattle.terms.specs.Named.{Named}
use Rattle.terms.specs.Orders.{action_cmp}
use Rattle.terms.specs.contracts.scalar.ScalarOrd.TheImpl as scalar_ord
use Rattle.event_keys.specs.declared.key.Key.{Key}
use Rattle.event_keys.specs.declared.key.Bound.{Bound}
use Rattle.event_keys.specs.declared.key.Bound.TheVariants.{At, End}
use Rattle.event_keys.specs.declared.message.Message.{Message}
use Rattle.event_keys.specs.declared.message.Sign.{Sign}
use Rattle.event_keys.specs.declared.message.Sign.TheVariants.{Plus, Minus}
use Rattle.event_keys.specs.declared.message.Signed.{Signed}
use Rattle.event_keys.specs.declared.outcome.Outcome.{Outcome}
use Rattle.event_keys.specs.declared.outcome.Outcome.TheVariants.{Idle, Did}
use Rattle.event_keys.specs.declared.outcome.Turned.{Turned}
use Rattle.event_keys.specs.declared.entry.Entry.{Entry}
use Rattle.event_keys.specs.Entries.{entry_cmp}

-- keys by tick, then component, then number
abbrev pub key_order : Key → Key → Ordering
key_order = then_cmp (on (λ k. k.tick) nat_cmp) (then_cmp (on (λ k. k.component) nat_cmp) (on (λ k. k.number) nat_cmp))

-- bounds as their keys, and the end above every key
abbrev pub bound_order : Bound → Bound → Ordering
bound_order (At a) (At b) = key_order a b
bound_order (At a) End = Less
bound_order End (At b) = Greater
bound_order End End = Equal

-- plus before minus
abbrev pub sign_order : Sign → Sign → Ordering
sign_order Plus Plus = Equal
sign_order Plus Minus = Less
sign_order Minus Plus = Greater
sign_order Minus Minus = Equal

-- actions by name, then by their arguments from the left
abbrev pub action_order : Named → Named → Ordering
action_order = action_cmp scalar_ord.ghosts.cmp

-- messages by key, then action, then receiver
abbrev pub message_order : Message → Message → Ordering
message_order = then_cmp (on (λ m. m.key) key_order) (then_cmp (on (λ m. m.action) action_order) (on (λ m. m.to) nat_cmp))

-- signed messages by message, then sign
abbrev pub signed_order : Signed → Signed → Ordering
signed_order = then_cmp (on (λ s. s.message) message_order) (on (λ s. s.sign) sign_order)

-- idle before every action
abbrev pub outcome_order : Outcome → Outcome → Ordering
outcome_order Idle Idle = Equal
outcome_order Idle (Did b) = Less
outcome_order (Did a) Idle = Greater
outcome_order (Did a) (Did b) = action_order a b

-- turns by key, then outcome
abbrev pub turned_order : Turned → Turned → Ordering
turned_order = then_cmp (on (λ t. t.key) key_order) (on (λ t. t.outcome) outcome_order)

-- entries by key, then outcome, then an own turn before an input, then receiver
abbrev pub entry_order : Entry → Entry → Ordering
entry_order = entry_cmp key_order outcome_order
