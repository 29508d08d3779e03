-- Awaited turns stay awaited.
use Rattle.std.proofs.Common.{◌≡◌, ℕ, ◌+◌, ◌<◌, ◌≤◌, ◌⊎◌, inl, inr, Option, All, List, [], ◌∷◌, ◌++◌, Some, get_or, length, take, refl, ap, sym, subst, ◌∙◌, arith}
use Rattle.std.specs.Prelude.{slice_get, slice_set}
use Rattle.std.specs.List.{refill}
use Rattle.std.proofs.lemmas.Bool.{cases_eq}
use Rattle.std.proofs.lemmas.List.{get_or-set_other, get_or-set_same, length-set, take-append-le, take_all}
use Rattle.std.proofs.lemmas.List.Elements.{All-more, All-weaker, Contains-append_left, Contains-push}
use Rattle.std.proofs.lemmas.Option.{get_or_from_slice_get, slice_get-get_or}
use Rattle.event_keys.specs.declared.key.Key.{Key}
use Rattle.event_keys.specs.Ranks.{rank}
use Rattle.shares.specs.declared.share.Wait.{Wait}
use Rattle.shares.specs.Waiting.{IsCovered, IsWaited}

covered_at : (waits : List Wait) (k : ℕ) (wait : Wait) (group r : ℕ) → k < length waits → get_or waits k wait ≡ wait → wait.group ≡ group → r ≤ rank wait.last → IsCovered waits group r
covered_at waits k wait group r within at same up = (wait, (k, within, at), same, up)

module _ (waits : List Wait) (place group : ℕ) (d : Wait) (last : Key) (within : place < length waits) (same : (get_or waits place d).group ≡ group) (later : rank (get_or waits place d).last ≤ rank last) where
  abbrev new : Wait
  new = record { group = group; last = last }

  room : place < length (slice_set waits place new)
  room = let many = length-set waits place new in omega (arith, many, within)

  -- a later turn of the same group in its place
  pub raised : IsCovered (slice_set waits place new) group (rank last)
  raised = covered_at (slice_set waits place new) place new group (rank last) room (get_or-set_same waits place new new within) refl (omega arith)

  pub raised_kept : (g r : ℕ) → IsCovered waits g r → IsCovered (slice_set waits place new) g r
  raised_kept g r (wait, (k, inside, at), is, up) = go (cases_eq k place)
    where
      go : (k ≡ place) ⊎ (k ≡ place → ⊥) → IsCovered (slice_set waits place new) g r
      go (inl e) =
          let there : slice_get waits k ≡ Some wait = slice_get-get_or waits k wait inside ∙ ap Some at in
          let was : get_or waits place d ≡ wait = ap (λ n. get_or waits n d) (sym e) ∙ get_or_from_slice_get waits k wait d there in
          let own : group ≡ g = sym same ∙ ap (λ (w : Wait). w.group) was ∙ is in
          let up_to : rank wait.last ≤ rank last = subst (λ (w : Wait). rank w.last ≤ rank last) was later in
          covered_at (slice_set waits place new) place new g r room (get_or-set_same waits place new new within) own (omega (arith, up, up_to))
      go (inr ne) =
          let many = length-set waits place new in
          covered_at (slice_set waits place new) k wait g r (omega (arith, many, inside)) (get_or-set_other waits place k new wait ne ∙ at) is up

-- one more turn is awaited
pub covered_more : (waits : List Wait) (more : Wait) (group r : ℕ) → IsCovered waits group r → IsCovered (waits ++ more ∷ []) group r
covered_more waits more group r (wait, has, is, up) = (wait, Contains-append_left waits (more ∷ []) wait has, is, up)

pub covered_new : (waits : List Wait) (more : Wait) → IsCovered (waits ++ more ∷ []) more.group (rank more.last)
covered_new waits more = (more, Contains-push waits more, refl, omega arith)

-- a list that was lent comes back
pub refilled : {X : Type 0} (xs ws : List X) → length ws ≡ length xs → refill (length xs) xs ws ≡ ws
refilled xs ws e = take-append-le (length xs) ws _ (omega (arith, e)) ∙ take_all (length xs) ws (omega (arith, e))

-- one more component's last turn is awaited
pub waited_more : (groups : List ℕ) (last : List (Option Key)) (own : ℕ) (among : List ℕ) (at : ℕ) (old new : List Wait) → at < length among → ((group r : ℕ) → IsCovered old group r → IsCovered new group r) → IsWaited groups last own new (get_or among at 0)
    → All (IsWaited groups last own old) (take at among) → All (IsWaited groups last own new) (take (at + 1) among)
waited_more groups last own among at old new below kept one all =
    All-more (IsWaited groups last own new) among at 0 below
    (All-weaker (IsWaited groups last own old) (IsWaited groups last own new) (λ i was group key in_group had differs. kept group (rank key) (was group key in_group had differs)) (take at among) all)
    one

pub waited_all : (groups : List ℕ) (last : List (Option Key)) (own : ℕ) (among : List ℕ) (at : ℕ) (waits : List Wait) → length among ≤ at → All (IsWaited groups last own waits) (take at among) → All (IsWaited groups last own waits) among
waited_all groups last own among at waits long all = subst (All (IsWaited groups last own waits)) (take_all at among long) all

-- a turn that is as late as a rank is as late as a lesser one
pub covered_later : (waits : List Wait) (group low high : ℕ) → low ≤ high → IsCovered waits group high → IsCovered waits group low
covered_later waits group low high l (wait, has, is, up) = (wait, has, is, omega (arith, l, up))
