-- What is known of the components' tasks stays so until their states change.
use Rattle.std.proofs.Common.{◌≡◌, ℕ, suc, ◌+◌, ◌<◌, ◌⊎◌, inl, inr, Bool, true, false, Option, None, Some, List, ◌∷◌, length, take, refl, ap, sym, subst, ◌∙◌, arith}
use Rattle.std.specs.Prelude.{cond, ◌||◌, ◌==◌, slice_get, slice_index, slice_index_or, slice_set, option_map, IfSome}
use Rattle.std.proofs.lemmas.Bool.{cases_eq, ne_eqb}
use Rattle.std.proofs.lemmas.Option.{slice_get-get_or, slice_get_within}
use Rattle.terms.specs.Datum.{Datum}
use Rattle.terms.specs.Named.{Named}
use Rattle.undo_records.specs.States.{States, undone, without_first}
use Rattle.io_automata.specs.Automata.{Instance}
use Rattle.io_automata.specs.Outcomes.{outcome_of}
use Rattle.io_automata.specs.Receivers.{IsIn}
use Rattle.plans.specs.MemoLaws.{blank_memo}
use Rattle.plans.specs.Memos.{IsBlank, IsMemo}
use Rattle.plans.specs.declared.memo.Memo.{Memo}
use Rattle.task_seed.specs.declared.turns.Turn.{Turn}
use Rattle.task_seed.specs.Turning.{System, turn_in}
use Rattle.task_seed.specs.Machines.{outcome_by, turn_outcome}
use Rattle.reference.specs.Memos.{AreMemos, IsStill}
use Rattle.reference.specs.Taking.{holding, marking, received, released}
use Rattle.reference.proofs.Reached.{put_in}
use Rattle.reference.proofs.Takers.{in_more, slice_set-length}

some_same : {X : Type 0} (a b : X) → Some a ≡ Some b → a ≡ b
some_same a b e = cc

-- one that is among the first ones and the next one is among the first ones, or is the next one
pub in_next : (j : ℕ) (among : List ℕ) (k : ℕ) → k < length among → IsIn j (take (k + 1) among) ≡ true → (IsIn j (take k among) ≡ true) ⊎ (j ≡ slice_index among k)
in_next j among k within there = go (IsIn j (take k among)) refl (cases_eq j (slice_index among k)) where
  more : k + 1 ≡ suc k
  more = omega arith

  both : (IsIn j (take k among) || (j == slice_index among k)) ≡ true
  both = sym (in_more j among k within) ∙ ap (λ m. IsIn j (take m among)) (sym more) ∙ there

  go : (b : Bool) → IsIn j (take k among) ≡ b → (j ≡ slice_index among k) ⊎ (j ≡ slice_index among k → ⊥) → (IsIn j (take k among) ≡ true) ⊎ (j ≡ slice_index among k)
  go true is eq = inl is
  go false is (inl same) = inr same
  go false is (inr other) =
      let out : ◌≡◌ {A = Bool} false true = sym (ap (λ b. b || (j == slice_index among k)) is ∙ ne_eqb j (slice_index among k) other) ∙ both in
      cc

-- what a turn found in the state at its component's place
pub found_there : (c d : List Instance) → d ≡ c → (i task choice : ℕ) (states : List States) (n : ℕ) → n ≡ i → (at_n : States) (found : Option Named) → found ≡ outcome_of d i task choice (slice_index_or states n at_n).current
    → (state : States) → slice_get states i ≡ Some state → found ≡ outcome_of c i task choice state.current
found_there c d same i task choice states n n_is at_n found is state at =
    let at_place : slice_get states n ≡ Some state = ap (slice_get states) n_is ∙ at in
    let own : slice_index_or states n at_n ≡ state = some_same (slice_index_or states n at_n) state (sym (slice_get-get_or states n at_n (slice_get_within states n state at_place)) ∙ at_place) in
    is ∙ ap (λ (x : States). outcome_of d i task choice x.current) own ∙ ap (λ e. outcome_of e i task choice state.current) same

-- it is the turn's outcome
pub is_outcome : (s : System) (i n : ℕ) (turn : Turn) → Some turn ≡ turn_in s i n → (found : Option Named) (o : Option States) → ((state : States) → o ≡ Some state → found ≡ outcome_of s.composition i turn.task turn.choice state.current) → IfSome o (λ state. found ≡ turn_outcome s i n state.current)
is_outcome s i n turn there found None is = tt
is_outcome s i n turn there found (Some state) is = is state refl ∙ ap (λ o. outcome_by s i o state.current) there

module _ (c d : List Instance) (same : d ≡ c) (i n : ℕ) (n_is : n ≡ i) (states : List States) (memos : List Memo) (are : AreMemos c states memos) (state : States) (memo : Memo)
    (within : n < length states) (many : length states ≡ length c) where
  -- what is known of component i, which stands at n
  pub memo_there : IsMemo d i (slice_index_or states n state).current (slice_index_or memos n memo)
  memo_there =
      let all = are.many in
      subst (λ e. IsMemo e i (slice_index_or states n state).current (slice_index_or memos n memo)) (sym same)
      (subst (λ k. IsMemo c k (slice_index_or states n state).current (slice_index_or memos n memo)) n_is
      (are.each n (slice_index_or memos n memo) (slice_index_or states n state) (slice_get-get_or memos n memo (omega (arith, all, within, many))) (slice_get-get_or states n state within)))

  -- and once more is known of it
  pub memo_put : (new : Memo) → IsMemo d i (slice_index_or states n state).current new → AreMemos c states (slice_set memos n new)
  memo_put new here =
      record {
        many = slice_set-length memos n new ∙ are.many;
        each = λ j m s at there. put_in (λ k x. (z : States) → slice_get states k ≡ Some z → IsMemo c k z.current x) memos n new (λ k x at_k z at_z. are.each k x z at_k at_z) own j m at s there;
      } where
        own : (z : States) → slice_get states n ≡ Some z → IsMemo c n z.current new
        own z at_z =
            let is : slice_index_or states n state ≡ z = some_same (slice_index_or states n state) z (sym (slice_get-get_or states n state within) ∙ at_z) in
            subst (λ (x : States). IsMemo c n x.current new) is
            (subst (λ k. IsMemo c k (slice_index_or states n state).current new) (sym n_is)
            (subst (λ e. IsMemo e i (slice_index_or states n state).current new) same here))

-- where component j's state was not touched, it ends as it began
module _ (d : List Instance) (i : ℕ) (a : Named) (among : List ℕ) (j : ℕ) (s : States) where
  abbrev held : Bool → Bool → States
  held own there = cond own (marking d i a s) (cond there (cond own s (record { current = received d a j s.current; below = s.current ∷ s.below })) s)

  its : (j == i) ≡ true → j ≡ i
  its e = go (cases_eq j i) where
    go : (j ≡ i) ⊎ (j ≡ i → ⊥) → j ≡ i
    go (inl same) = same
    go (inr other) = let both : ◌≡◌ {A = Bool} true false = sym e ∙ ne_eqb j i other in cc

  ends : (own there : Bool) → (j == i) ≡ own → IsIn j among ≡ there → ((j ≡ i) ⊎ (IsIn j among ≡ true) → (undone (held own there)).current ≡ (held own there).current) → (cond own (without_first 1 (held own there)) (cond there (cond own (held own there) (without_first 1 (held own there))) (held own there))).current ≡ s.current
  ends true there own is still = sym (still (inl (its own)))
  ends false true own is still = sym (still (inr is))
  ends false false own is still = refl

-- what is known after an action is true in the states that it left: it is known of components whose states it did not touch
pub still_known : (c d : List Instance) (i : ℕ) (a : Named) (among : List ℕ) (olds mids news : List States) (was is : List Memo) → AreMemos c olds was
    → ((j : ℕ) → slice_get mids j ≡ option_map (holding d i a among j) (slice_get olds j))
    → ((j : ℕ) → slice_get news j ≡ option_map (released i among j) (slice_get mids j))
    → length is ≡ length was
    → ((j : ℕ) (memo : Memo) → slice_get is j ≡ Some memo → IsBlank memo ⊎ ((slice_get was j ≡ Some memo) × ((j ≡ i) ⊎ (IsIn j among ≡ true) → IsStill mids j))) → AreMemos c news is
still_known c d i a among olds mids news was is are hold release many left = record { many = many ∙ are.many; each = each } where
  each : (j : ℕ) (memo : Memo) (state : States) → slice_get is j ≡ Some memo → slice_get news j ≡ Some state → IsMemo c j state.current memo
  each j memo state at there = go (left j memo at) where
    go : IsBlank memo ⊎ ((slice_get was j ≡ Some memo) × ((j ≡ i) ⊎ (IsIn j among ≡ true) → IsStill mids j)) → IsMemo c j state.current memo
    go (inl blank) = blank_memo c j state.current memo blank
    go (inr kept) = by (slice_get olds j) refl (sym (ap (option_map (released i among j)) (hold j)) ∙ sym (release j) ∙ there) where
      by : (o : Option States) → slice_get olds j ≡ o → option_map (released i among j) (option_map (holding d i a among j) o) ≡ Some state → IsMemo c j state.current memo
      by None none e = cc
      by (Some s) some e =
          let now : (released i among j (holding d i a among j s)).current ≡ s.current = ends d i a among j s (j == i) (IsIn j among) refl refl (λ takes. kept.1 takes (holding d i a among j s) (hold j ∙ ap (option_map (holding d i a among j)) some)) in
          let at_end : state.current ≡ s.current = ap (λ (x : States). x.current) (sym (some_same (released i among j (holding d i a among j s)) state e)) ∙ now in
          subst (λ (x : List Datum). IsMemo c j x memo) (sym at_end) (are.each j memo s kept.0 some)
