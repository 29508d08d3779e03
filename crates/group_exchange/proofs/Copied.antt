-- Copies of messages, counted.
use Rattle.std.proofs.Common.{◌≡◌, ℕ, List, [], ◌∷◌, filter, refl, ap, sym, ◌∙◌, arith}
use Rattle.std.specs.Prelude.{◌==◌, if◌then◌else◌}
use Rattle.terms.specs.Named.{Named}
use Rattle.event_keys.specs.declared.message.Sign.{Sign}
use Rattle.event_keys.specs.declared.message.Sign.TheVariants.{Plus, Minus}
use Rattle.event_keys.specs.declared.message.Signed.{Signed}
use Rattle.antimessage.specs.Bags.{insert, insert_all}
use Rattle.virtual_time.specs.Bags.{times}
use Rattle.rollback.specs.Flight.{in_flight, item_of}
use Rattle.rollback.specs.Laws.{AppendedIsAdded}
use Rattle.task_seed.specs.Machines.{machine}
use Rattle.group_exchange.specs.Compared.{AreTogether}
use Rattle.group_exchange.specs.Moving.{IsCopied, among, is_message}

-- a message with the same key, action and receiver is the same
pub same_message : (x : Signed) (action : Named) → action ≡ x.message.action → x.sign ≡ Plus → record { message = record { key = x.message.key; action = action; to = x.message.to }; sign = Plus } ≡ x
same_message x action e sign = λ v. record { message = record { key = x.message.key; action = e v; to = x.message.to }; sign = sym sign v }

-- its copy is added
pub added : (x copy : Signed) (bag new : List Signed) → copy ≡ x → x.sign ≡ Plus → new ≡ insert copy bag → new ≡ insert_all (filter is_message (x ∷ [])) bag
added x copy bag new same sign e = e ∙ ap (λ y. insert y bag) same ∙ sym (rw sign refl)

messages_fly : (j : ℕ) (xs : List Signed) → in_flight Plus j (filter is_message xs) ≡ in_flight Plus j xs
messages_fly j [] = refl
messages_fly j (x ∷ xs) = go (messages_fly j xs) x.sign refl
  where
    go : in_flight Plus j (filter is_message xs) ≡ in_flight Plus j xs → (sign : Sign) → x.sign ≡ sign → in_flight Plus j (filter is_message (x ∷ xs)) ≡ in_flight Plus j (x ∷ xs)
    go rest Plus e = rw e (ap (λ ys. if x.message.to == j then item_of x ∷ ys else ys) rest)
    go rest Minus e = rw e rest

-- there are as many copies as messages
pub counted : AppendedIsAdded → (sent copies : List Signed) → copies ≡ insert_all (filter is_message sent) [] → IsCopied sent copies
counted appended sent copies is s j k a =
    let all = appended s Plus j k a (filter is_message sent) [] in
    let same : among s Plus j copies k a ≡ among s Plus j (insert_all (filter is_message sent) []) k a = ap (λ xs. among s Plus j xs k a) is in
    let fly : among s Plus j (filter is_message sent) k a ≡ among s Plus j sent k a = ap (λ xs. times (machine s) xs k a) (messages_fly j sent) in
    omega (arith, all, same, fly)

-- and of two bags together
pub both_copied : AppendedIsAdded → (one other both more all : List Signed) → both ≡ insert_all (filter is_message one) [] → more ≡ insert_all (filter is_message other) [] → all ≡ insert_all more both → AreTogether one other all
both_copied appended one other both more all first second joined s j k a =
    let sum = appended s Plus j k a more both in
    let same : among s Plus j all k a ≡ among s Plus j (insert_all more both) k a = ap (λ xs. among s Plus j xs k a) joined in
    let left = counted appended one both first s j k a in
    let right = counted appended other more second s j k a in
    omega (arith, sum, same, left, right)
