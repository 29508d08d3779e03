-- Where each message is balanced, all are.
use Rattle.std.proofs.Common.{◌≡◌, ℕ, ◌==◌, ◌&&◌, ◌||◌, not, Bool, true, false, List, [], ◌∷◌, refl}
use Rattle.std.specs.List.{list_all}
use Rattle.event_keys.specs.declared.message.Message.{Message}
use Rattle.event_keys.specs.declared.message.Signed.{Signed}
use Rattle.message_balance.specs.declared.done.Done.{Done}
use Rattle.message_balance.specs.declared.done.Done.TheVariants.{Turn, Input}
use Rattle.message_balance.specs.declared.received.Received.{Received}
use Rattle.message_balance.specs.declared.sent.Sent.{Sent}
use Rattle.message_balance.specs.Balance.{all_of, is_all_sent, is_all_taken, is_input_balanced, is_sent_balanced, is_sent_if_from, is_taken_balanced, is_taken_if_to, is_turn_balanced}

all_pass : {X : Type 0} (p : X → Bool) → ((x : X) → p x ≡ true) → (xs : List X) → list_all p xs ≡ true
all_pass p h [] = refl
all_pass p h (x ∷ xs) = let first = h x in let rest = all_pass p h xs in (λ v. first v && rest v)

either : (a b : Bool) → b ≡ true → (a || b) ≡ true
either true b h = refl
either false b h = h

pub all_taken : (t : Received) (to : ℕ) → ((m : Message) → is_taken_balanced t m ≡ true) → is_all_taken t to ≡ true
all_taken t to h =
    let one : (x : Signed) → is_taken_if_to t to x ≡ true = λ x. either (not (x.message.to == to)) (is_taken_balanced t x.message) (h x.message) in
    let input : (d : Done) → is_input_balanced t d ≡ true = each in
    let taken = all_pass (is_taken_if_to t to) one t.taken.now in
    let tray = all_pass (is_taken_if_to t to) one t.tray.now in
    let pending = all_pass (is_taken_if_to t to) one (all_of t.pending.now) in
    let owed = all_pass (is_taken_if_to t to) one (all_of t.owed.now) in
    let done = all_pass (is_input_balanced t) input (all_of t.done.now) in
    (λ v. (((taken v && tray v) && pending v) && owed v) && done v)
  where
    each : (d : Done) → is_input_balanced t d ≡ true
    each (Turn turned antimessages) = refl
    each (Input signed) = h signed.message

pub all_sent : (t : Sent) (from : ℕ) → ((m : Message) → is_sent_balanced t m ≡ true) → is_all_sent t from ≡ true
all_sent t from h =
    let standing = all_pass (is_sent_if_from t from) one t.standing.now in
    let out = all_pass (is_sent_if_from t from) one t.out.now in
    let done = all_pass (is_turn_balanced t from) each (all_of t.done.now) in
    (λ v. (standing v && out v) && done v)
  where
    one : (x : Signed) → is_sent_if_from t from x ≡ true
    one x = either (not (x.message.key.component == from)) (is_sent_balanced t x.message) (h x.message)

    each : (d : Done) → is_turn_balanced t from d ≡ true
    each (Turn turned antimessages) = all_pass (is_sent_if_from t from) one (all_of antimessages)
    each (Input signed) = refl
