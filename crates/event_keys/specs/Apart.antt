-- Values that an order doesn't tell apart are the same.
use Rattle.std.specs.Prelude.{ℕ, List, [], ◌∷◌}
use Rattle.std.proofs.Common.{◌≡◌, refl, ap, arith, rules}
use Rattle.std.proofs.lemmas.Grind.{common_steps}
use Rattle.std.specs.declared.cmp.Ordering.{Ordering}
use Rattle.std.specs.declared.cmp.Ordering.TheVariants.{Less, Equal, Greater}
use Rattle.std.specs.Ordering.{nat_cmp, ordering_then}
use Rattle.std.specs.Cmp.Lexicographic.{slice_cmp}
use Rattle.terms.specs.Named.{Named}
use Rattle.terms.specs.declared.scalar.Scalar.{Scalar}
use Rattle.terms.specs.contracts.scalar.ScalarOrd.TheImpl as scalar_ord
use Rattle.event_keys.specs.declared.key.Key.{Key}
use Rattle.event_keys.specs.declared.key.Bound.{Bound}
use Rattle.event_keys.specs.declared.key.Bound.TheVariants.{At, End}
use Rattle.event_keys.specs.declared.message.Message.{Message}
use Rattle.event_keys.specs.declared.message.Sign.{Sign}
use Rattle.event_keys.specs.declared.message.Sign.TheVariants.{Plus, Minus}
use Rattle.event_keys.specs.declared.message.Signed.{Signed}
use Rattle.event_keys.specs.declared.outcome.Outcome.{Outcome}
use Rattle.event_keys.specs.declared.outcome.Outcome.TheVariants.{Idle, Did}
use Rattle.event_keys.specs.declared.outcome.Turned.{Turned}
use Rattle.event_keys.specs.declared.entry.Entry.{Entry}
use Rattle.event_keys.specs.declared.entry.Entry.TheVariants.{Own, Input}
use Rattle.event_keys.specs.Entries.{entry_key, entry_outcome, entry_place}
use Rattle.event_keys.specs.Orders.{key_order, bound_order, sign_order, action_order, message_order, signed_order, outcome_order, turned_order, entry_order}

-- two orders, one after the other, that don't tell apart
pub both_equal : (o p : Ordering) → ordering_then o p ≡ Equal → (o ≡ Equal) × (p ≡ Equal)
both_equal Less p h = cc
both_equal Equal p h = (refl, h)
both_equal Greater p h = cc

pub slice_apart : {A : Type 0} (R : A → A → Ordering) → ((x y : A) → R x y ≡ Equal → x ≡ y) → (xs ys : List A) → slice_cmp R xs ys ≡ Equal → xs ≡ ys
slice_apart R apart [] [] h = refl
slice_apart R apart [] (y ∷ ys) h = cc
slice_apart R apart (x ∷ xs) [] h = cc
slice_apart R apart (x ∷ xs) (y ∷ ys) h =
    let parts = both_equal (R x y) (slice_cmp R xs ys) h in
    λ i. apart x y parts.0 i ∷ slice_apart R apart xs ys parts.1 i

pub nat_apart : (x y : ℕ) → nat_cmp x y ≡ Equal → x ≡ y
nat_apart x y h = grind (arith, common_steps)

pub scalar_apart : (x y : Scalar) → scalar_ord.ghosts.cmp x y ≡ Equal → x ≡ y
scalar_apart x y h = first_of (search rules, grind (arith, common_steps))

pub key_apart : (x y : Key) → key_order x y ≡ Equal → x ≡ y
key_apart x y h =
    let by_tick = both_equal _ _ h in
    let by_component = both_equal _ _ by_tick.1 in
    let tick : x.tick ≡ y.tick = nat_apart x.tick y.tick by_tick.0 in
    let component : x.component ≡ y.component = nat_apart x.component y.component by_component.0 in
    let number : x.number ≡ y.number = nat_apart x.number y.number by_component.1 in
    λ i. record { tick = tick i; component = component i; number = number i }

pub bound_apart : (x y : Bound) → bound_order x y ≡ Equal → x ≡ y
bound_apart (At a) (At b) h = ap At (key_apart a b h)
bound_apart (At a) End h = cc
bound_apart End (At b) h = cc
bound_apart End End h = refl

pub sign_apart : (x y : Sign) → sign_order x y ≡ Equal → x ≡ y
sign_apart Plus Plus h = refl
sign_apart Plus Minus h = cc
sign_apart Minus Plus h = cc
sign_apart Minus Minus h = refl

pub action_apart : (x y : Named) → action_order x y ≡ Equal → x ≡ y
action_apart x y h =
    let parts = both_equal (nat_cmp x.name y.name) (slice_cmp scalar_ord.ghosts.cmp x.args y.args) h in
    let name : x.name ≡ y.name = nat_apart x.name y.name parts.0 in
    let args : x.args ≡ y.args = slice_apart scalar_ord.ghosts.cmp scalar_apart x.args y.args parts.1 in
    λ i. record { name = name i; args = args i }

pub message_apart : (x y : Message) → message_order x y ≡ Equal → x ≡ y
message_apart x y h =
    let by_key = both_equal (key_order x.key y.key) _ h in
    let by_action = both_equal (action_order x.action y.action) _ by_key.1 in
    let key : x.key ≡ y.key = key_apart x.key y.key by_key.0 in
    let action : x.action ≡ y.action = action_apart x.action y.action by_action.0 in
    let to : x.to ≡ y.to = nat_apart x.to y.to by_action.1 in
    λ i. record { key = key i; action = action i; to = to i }

pub signed_apart : (x y : Signed) → signed_order x y ≡ Equal → x ≡ y
signed_apart x y h =
    let parts = both_equal (message_order x.message y.message) _ h in
    let message : x.message ≡ y.message = message_apart x.message y.message parts.0 in
    let sign : x.sign ≡ y.sign = sign_apart x.sign y.sign parts.1 in
    λ i. record { message = message i; sign = sign i }

pub outcome_apart : (x y : Outcome) → outcome_order x y ≡ Equal → x ≡ y
outcome_apart Idle Idle h = refl
outcome_apart Idle (Did b) h = cc
outcome_apart (Did a) Idle h = cc
outcome_apart (Did a) (Did b) h = ap Did (action_apart a b h)

pub turned_apart : (x y : Turned) → turned_order x y ≡ Equal → x ≡ y
turned_apart x y h =
    let parts = both_equal (key_order x.key y.key) _ h in
    let key : x.key ≡ y.key = key_apart x.key y.key parts.0 in
    let outcome : x.outcome ≡ y.outcome = outcome_apart x.outcome y.outcome parts.1 in
    λ i. record { key = key i; outcome = outcome i }

-- entries with the same key, outcome and place are the same
entry_of_parts : (x y : Entry) → entry_key x ≡ entry_key y → entry_outcome x ≡ entry_outcome y → entry_place x ≡ entry_place y → x ≡ y
entry_of_parts (Own a) (Own b) key outcome place = λ i. Own (record { key = key i; outcome = outcome i })
entry_of_parts (Own a) (Input b) key outcome place = absurd (omega arith)
entry_of_parts (Input a) (Own b) key outcome place = absurd (omega arith)
entry_of_parts (Input a) (Input b) key outcome place =
    let action : a.action ≡ b.action = cc in
    let to : a.to ≡ b.to = omega arith in
    λ i. Input (record { key = key i; action = action i; to = to i })

pub entry_apart : (x y : Entry) → entry_order x y ≡ Equal → x ≡ y
entry_apart x y h =
    let by_key = both_equal (key_order (entry_key x) (entry_key y)) _ h in
    let by_outcome = both_equal (outcome_order (entry_outcome x) (entry_outcome y)) _ by_key.1 in
    entry_of_parts x y (key_apart (entry_key x) (entry_key y) by_key.0) (outcome_apart (entry_outcome x) (entry_outcome y) by_outcome.0) (nat_apart (entry_place x) (entry_place y) by_outcome.1)
