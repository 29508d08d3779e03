-- What the next message of a source adds to counts.
use Rattle.std.proofs.Common.{true≢false, ◌≡◌, ◌+◌, Bool, true, false, cond, Option, None, Some, List, [], ◌∷◌, ◌++◌, reverse, refl, ap, sym, ◌∙◌}
use Rattle.std.specs.Prelude.{◌&&◌, IfNone, is_some, not}
use Rattle.std.specs.Option.{option_copied}
use Rattle.raw_events.specs.Around.{first_of, is_nonempty, last}
use Rattle.std.specs.Borrow.{Bor}
use Rattle.event_keys.specs.contracts.message.MessagePartialEq.TheImpl as message_eq
use Rattle.event_keys.specs.contracts.message.SignPartialEq.TheImpl as sign_eq
use Rattle.event_keys.specs.declared.message.Message.{Message}
use Rattle.event_keys.specs.declared.message.Sign.{Sign}
use Rattle.event_keys.specs.declared.message.Sign.TheVariants.{Plus, Minus}
use Rattle.event_keys.specs.declared.message.Signed.{Signed}
use Rattle.antimessage.proofs.Counting.{signed_decides}
use Rattle.antimessage.specs.Bags.{is_one}
use Rattle.antimessage.specs.Counts.{is_same, plus}
use Rattle.message_balance.specs.declared.done.Done.{Done}
use Rattle.message_balance.specs.declared.done.Done.TheVariants.{Input}
use Rattle.message_balance.specs.Balance.{count_as, is_input_of, signed_as}
use Rattle.message_balance.specs.Walks.{count_inputs, count_next as count_of_next, once}
use Rattle.message_balance.proofs.Counting.{count_next, count_none}

same_sign : (a b : Sign) → sign_eq.ghosts.eq a b ≡ true → a ≡ b
same_sign Plus Plus e = refl
same_sign Plus Minus e = cc
same_sign Minus Plus e = cc
same_sign Minus Minus e = refl

with_itself : (a : Sign) → sign_eq.ghosts.eq a a ≡ true
with_itself Plus = refl
with_itself Minus = refl

both_true : (a b : Bool) → (a ≡ true → b ≡ true) → (b ≡ true → a ≡ true) → a ≡ b
both_true true b f g = sym (f refl)
both_true false true f g = g refl
both_true false false f g = refl

-- among messages of one sign, the sign tells nothing
as_one : (sign : Sign) (x : Signed) (m : Message) → x.sign ≡ sign → is_same x (signed_as sign m) ≡ is_same (plus x.message) (plus m)
as_one sign x m s =
    both_true (is_same x (signed_as sign m)) (is_same (plus x.message) (plus m))
    (λ e. (signed_decides (plus x.message) (plus m)).1 (ap (λ (y : Signed). plus y.message) ((signed_decides x (signed_as sign m)).0 e)))
    (λ e. let one : x.message ≡ m = ap (λ (y : Signed). y.message) ((signed_decides (plus x.message) (plus m)).0 e) in
    (signed_decides x (signed_as sign m)).1 (λ v. record { message = one v; sign = s v }))

-- one of another sign is another
not_one : (sign : Sign) (x : Signed) (m : Message) → sign_eq.ghosts.eq x.sign sign ≡ false → is_same x (signed_as sign m) ≡ false
not_one sign x m other = go (is_same x (signed_as sign m)) refl
  where
    go : (b : Bool) → is_same x (signed_as sign m) ≡ b → b ≡ false
    go false e = refl
    go true e =
        let one : x.sign ≡ sign = ap (λ (y : Signed). y.sign) ((signed_decides x (signed_as sign m)).0 e) in
        let yes : sign_eq.ghosts.eq x.sign sign ≡ true = ap (λ a. sign_eq.ghosts.eq a sign) one ∙ with_itself sign in
        sym yes ∙ other

pub found_with : (sign : Sign) (x : Signed) (xs : List Signed) (m : Message) → sign_eq.ghosts.eq x.sign sign ≡ true → count_as sign m (x ∷ xs) ≡ once m x.message + count_as sign m xs
found_with sign x xs m e = sym (count_next (is_one (signed_as sign m)) x xs) ∙ ap (λ (b : Bool). cond b 1 0 + count_as sign m xs) (as_one sign x m (same_sign x.sign sign e))

pub passed_with : (sign : Sign) (x : Signed) (xs : List Signed) (m : Message) → sign_eq.ghosts.eq x.sign sign ≡ false → count_as sign m (x ∷ xs) ≡ count_as sign m xs
passed_with sign x xs m e = sym (count_none (is_one (signed_as sign m)) x xs (not_one sign x m e))

pub found_input : (x : Signed) (ds : List Done) (m : Message) → sign_eq.ghosts.eq x.sign Plus ≡ true → count_inputs m (Input x ∷ ds) ≡ once m x.message + count_inputs m ds
found_input x ds m e = sym (count_next (is_input_of m) (Input x) ds) ∙ ap (λ (b : Bool). cond b 1 0 + count_inputs m ds) (as_one Plus x m (same_sign x.sign Plus e))

pub passed_input : (x : Signed) (ds : List Done) (m : Message) → sign_eq.ghosts.eq x.sign Plus ≡ false → count_inputs m (Input x ∷ ds) ≡ count_inputs m ds
passed_input x ds m e = sym (count_none (is_input_of m) (Input x) ds (not_one Plus x m e))

pub passed_turn : (d : Done) (ds : List Done) (m : Message) → is_input_of m d ≡ false → count_inputs m (d ∷ ds) ≡ count_inputs m ds
passed_turn d ds m e = sym (count_none (is_input_of m) d ds e)

-- where nothing was found
not_there : {X : Type 0} (o : Option X) → is_some o ≡ false → o ≡ None
not_there None e = refl
not_there (Some x) e = cc

pub none_then : {X P : Type 0} (o : Option X) → is_some o ≡ false → IfNone o P → P
none_then None e p = p
none_then (Some x) e p = cc

pub next_none : (o : Option (Bor Message)) (m : Message) → is_some o ≡ false → count_of_next m o ≡ 0
next_none o m e = ap (count_of_next m) (not_there o e)

-- what is the same message counts the same
pub once_same : (a b m : Message) → message_eq.ghosts.eq a b ≡ true → once m a ≡ once m b
once_same a b m e = ap (once m) (ap (λ (y : Signed). y.message) ((signed_decides (plus a) (plus b)).0 (ap (λ (t : Bool). t && true) e)))

copied_some : {X : Type 0} (o : Option (Bor X)) → is_some (option_copied o) ≡ is_some o
copied_some None = refl
copied_some (Some x) = refl

last_some : {X : Type 0} (x : X) (xs : List X) → is_some (last (x ∷ xs)) ≡ true
last_some x [] = refl
last_some x (y ∷ ys) = last_some y ys

none_around : {X : Type 0} (before after : List X) → is_some (first_of before after) ≡ false → reverse before ++ after ≡ []
none_around [] [] e = refl
none_around [] (x ∷ after) e = cc
none_around (x ∷ before) after e = absurd (true≢false (sym (last_some x before) ∙ e))

-- where no first item is seen there is none
pub nothing_first : {X : Type 0} (o : Option (Bor X)) (before after : List X) → option_copied o ≡ first_of before after → is_some o ≡ false → reverse before ++ after ≡ []
nothing_first o before after seen e = none_around before after (sym (ap is_some seen) ∙ copied_some o ∙ e)

pub empty_then : {X : Type 0} (xs : List X) (b : Bool) → b ≡ not (is_nonempty xs) → b ≡ true → xs ≡ []
empty_then [] b is e = refl
empty_then (x ∷ xs) b is e = absurd (true≢false (sym e ∙ is))
