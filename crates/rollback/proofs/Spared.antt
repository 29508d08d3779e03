-- A turn in the place of another.
use Rattle.std.proofs.Common.{◌≡◌, true, false, true≢false, ◌∷◌, List, Option, Some, refl, sym}
use Rattle.event_keys.specs.declared.message.Signed.{Signed}
use Rattle.event_keys.specs.declared.outcome.Turned.{Turned}
use Rattle.raw_events.specs.Around.{Around}
use Rattle.message_balance.specs.declared.done.Done.{Done}
use Rattle.message_balance.specs.declared.done.Done.TheVariants.{Turn, Input}
use Rattle.event_keys.specs.declared.key.Key.{Key}
use Rattle.rollback.specs.Dropped.{key_in, turn_in}
use Rattle.rollback.specs.Reuse.{is_turn, turned_of, with_sent, with_turned}

pub turn_again : (turned : Turned) (sent : Around Signed) (d : Done) → is_turn d ≡ true → with_sent sent (with_turned turned d) ≡ Turn turned sent
turn_again turned sent (Turn other minuses) it = refl
turn_again turned sent (Input signed) it = absurd (true≢false (sym it))

pub swapped_in : (other : Turned) (d : Done) (ts : List Turned) → is_turn d ≡ true → turned_of other d ∷ ts ≡ turn_in d ts
swapped_in other (Turn turned minuses) ts it = refl
swapped_in other (Input signed) ts it = absurd (true≢false (sym it))

pub swapped_key : (other : Turned) (d : Done) (k : Option Key) → is_turn d ≡ true → Some (turned_of other d).key ≡ key_in d k
swapped_key other (Turn turned minuses) k it = refl
swapped_key other (Input signed) k it = absurd (true≢false (sym it))

pub no_turn_in : (d : Done) (ts : List Turned) → is_turn d ≡ false → ts ≡ turn_in d ts
no_turn_in (Turn turned minuses) ts it = absurd (true≢false it)
no_turn_in (Input signed) ts it = refl

pub no_key_in : (d : Done) (k : Option Key) → is_turn d ≡ false → k ≡ key_in d k
no_key_in (Turn turned minuses) k it = absurd (true≢false it)
no_key_in (Input signed) k it = refl
