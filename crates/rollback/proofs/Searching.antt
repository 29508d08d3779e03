-- A message is looked for among done entries whose keys fall.
use Rattle.std.proofs.Common.{◌≡◌, ℕ, ◌<◌, ◌&&◌, ◌||◌, not, Bool, true, false, List, [], ◌∷◌, refl, ap, sym, ◌∙◌, arith}
use Rattle.std.specs.Prelude.{nat_lt}
use Rattle.std.proofs.lemmas.Bool.{ltb-true}
use Rattle.event_keys.specs.declared.message.Message.{Message}
use Rattle.event_keys.specs.declared.message.Signed.{Signed}
use Rattle.event_keys.specs.contracts.message.MessagePartialEq.TheImpl as message_eq
use Rattle.event_keys.specs.Ranks.{rank}
use Rattle.antimessage.specs.Counts.{plus}
use Rattle.antimessage.proofs.Counting.{signed_decides}
use Rattle.virtual_time.specs.Entries.{entry_key, latest}
use Rattle.message_balance.specs.declared.done.Done.{Done}
use Rattle.message_balance.specs.declared.done.Done.TheVariants.{Turn, Input}
use Rattle.rollback.specs.Falling.{Falls}
use Rattle.rollback.specs.ComponentInvariant.{entry_of, entries_of, is_any_input, is_entry_input, is_first_input, is_first_passed}

-- equal messages have one key
same_key : (a b : Message) → message_eq.ghosts.eq a b ≡ true → rank a.key ≡ rank b.key
same_key a b h = ap (λ (s : Signed). rank s.message.key) ((signed_decides (plus a) (plus b)).0 (ap (λ t. t && true) h))

module _ (x : Signed) where
  -- the first of these, or none below it
  abbrev key_in : List Done → ℕ
  key_in ds = latest 0 (entries_of ds)

  not_input : (d : Done) → entry_key (entry_of d) < rank x.message.key → is_entry_input x d ≡ false
  not_input (Turn turned minuses) less = refl
  not_input (Input y) less = go (message_eq.ghosts.eq y.message x.message) refl
    where
      go : (b : Bool) → message_eq.ghosts.eq y.message x.message ≡ b → b ≡ false
      go true h = absurd (let same = same_key y.message x.message h in omega (arith, same, less))
      go false h = refl

  -- where the first is below the message, it isn't among them
  none_below : (ds : List Done) → Falls (entries_of ds) → key_in ds < rank x.message.key → is_any_input x ds ≡ false
  none_below [] falls less = refl
  none_below (d ∷ ds) falls less =
      let low = falls.0 in
      ap (λ b. b || is_any_input x ds) (not_input d less) ∙ none_below ds falls.1 (omega (arith, low, less))

  -- an entry is passed
  pub passed : (d : Done) (ds : List Done) → is_first_passed x (d ∷ ds) ≡ true → is_any_input x ds ≡ is_any_input x (d ∷ ds)
  passed d ds h = go (nat_lt (entry_key (entry_of d)) (rank x.message.key)) (is_entry_input x d) h
    where
      go : (a b : Bool) → (not a && not b) ≡ true → is_any_input x ds ≡ (b || is_any_input x ds)
      go a false e = refl
      go true true e = cc
      go false true e = cc

  -- where no more is passed, the first is the message or none is
  pub found : (ds : List Done) → Falls (entries_of ds) → is_first_passed x ds ≡ false → is_first_input x ds ≡ is_any_input x ds
  found [] falls h = refl
  found (d ∷ ds) falls h = go (nat_lt (entry_key (entry_of d)) (rank x.message.key)) refl (is_entry_input x d) refl h
    where
      go : (a : Bool) → nat_lt (entry_key (entry_of d)) (rank x.message.key) ≡ a → (b : Bool) → is_entry_input x d ≡ b → (not a && not b) ≡ false → b ≡ (b || is_any_input x ds)
      go a p true q e = refl
      go false p false q e = cc
      go true p false q e =
          let less = ltb-true (entry_key (entry_of d)) (rank x.message.key) p in
          sym (none_below (d ∷ ds) falls less) ∙ ap (λ b. b || is_any_input x ds) q
