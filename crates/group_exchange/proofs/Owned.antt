-- Each list of turns that are held has one component's turns.
use Rattle.std.proofs.Common.{◌≡◌, ℕ, zero, suc, ◌+◌, Bool, true, false, cond, Some, List, [], ◌∷◌, map, ap, sym, subst, ◌∙◌, arith}
use Rattle.std.specs.Prelude.{◌<◌, if◌then◌else◌, nat_lt, replicate, slice_get, slice_set}
use Rattle.terms.specs.Datum.{Datum}
use Rattle.terms.specs.Named.{Named}
use Rattle.event_keys.specs.declared.outcome.Turned.{Turned}
use Rattle.event_keys.specs.Ranks.{owner_of, rank}
use Rattle.antimessage.specs.Counts.{Each}
use Rattle.virtual_time.specs.Entries.{Entry, Own, Input, below, entry_key, number}
use Rattle.virtual_time.specs.Machine.{Machine, Lawful}
use Rattle.virtual_time.specs.Records.{turns_among}
use Rattle.virtual_time.specs.Reference.{Turn}
use Rattle.virtual_time.specs.Rules.{IsDone}
use Rattle.virtual_time.specs.Exchange.Merged.{put_turn, put_turns}
use Rattle.raw_events.specs.Onto.{onto}
use Rattle.task_seed.specs.Taken.{turn_of, turns_of}
use Rattle.group_exchange.specs.Chunks.{first_from}
use Rattle.group_exchange.specs.Held.{AreOwned, all_from}

-- the turn is component i's
abbrev pub IsOf : ℕ → Turn Named → Type 0
IsOf i t = owner_of t.key ≡ i

module _ (m : Machine (List Datum) Named) (law : Lawful m) (i : ℕ) where
  all_own : (g n : ℕ) (s : List Datum) (es : List (Entry Named)) → IsDone m i g n s es → Each (λ t. m.owner t.key ≡ i) (turns_among es)
  all_own g n s [] done = tt
  all_own g n s (Own k o ∷ es) done = (ap m.owner done.0 ∙ law.owned i (number n es) (subst (λ x. x < m.top) done.0 done.1), all_own g n s es done.4)
  all_own g n s (Input x ∷ es) done = all_own g n s es done.2

  below_own : (c : ℕ) (es : List (Entry Named)) → Each (λ t. m.owner t.key ≡ i) (turns_among es) → Each (λ t. m.owner t.key ≡ i) (turns_among (below c es))
  below_own c [] own = tt
  below_own c (e ∷ es) own = go (below_own c es (rest e own)) (nat_lt (entry_key e) c)
    where
      rest : (e : Entry Named) → Each (λ t. m.owner t.key ≡ i) (turns_among (e ∷ es)) → Each (λ t. m.owner t.key ≡ i) (turns_among es)
      rest (Own k o) own = own.1
      rest (Input x) own = own

      go : Each (λ t. m.owner t.key ≡ i) (turns_among (below c es)) → (b : Bool) → Each (λ t. m.owner t.key ≡ i) (turns_among (cond b (e ∷ es) (below c es)))
      go ih true = own
      go ih false = ih

  -- what component i has done below a bound are its turns
  pub done_own : (c g n : ℕ) (s : List Datum) (es : List (Entry Named)) → IsDone m i g n s es → Each (λ t. m.owner t.key ≡ i) (turns_among (below c es))
  done_own c g n s es done = below_own c es (all_own g n s es done)

module _ (P : Turn Named → Type 0) where
  put_each : (t : Turn Named) (us : List (Turn Named)) → P t → Each P us → Each P (put_turn t us)
  put_each t [] one all = (one, tt)
  put_each t (u ∷ us) one all = go (put_each t us one all.1) (nat_lt u.key t.key)
    where
      go : Each P (put_turn t us) → (b : Bool) → Each P (cond b (t ∷ u ∷ us) (u ∷ put_turn t us))
      go ih true = (one, all)
      go ih false = (all.0, ih)

  -- all turns, of two lists put together
  pub puts_each : (ts us : List (Turn Named)) → Each P ts → Each P us → Each P (put_turns ts us)
  puts_each [] us first second = second
  puts_each (t ∷ ts) us first second = puts_each ts (put_turn t us) first.1 (put_each t us first.0 second)

  -- and of a list as the theory has it
  pub onto_each : (ts : List Turned) (acc : List (Turn Named)) → Each (λ t. P (turn_of t)) ts → Each P acc → Each P (onto (map turn_of ts) acc)
  onto_each [] acc one all = all
  onto_each (t ∷ ts) acc one all = onto_each ts (turn_of t ∷ acc) one.1 (one.0, all)

own_onto : (i : ℕ) (ts : List Turned) (acc : List (Turn Named)) → Each (IsOf i) (onto (map turn_of ts) acc) → Each (λ t. IsOf i (turn_of t)) ts × Each (IsOf i) acc
own_onto i [] acc all = (tt, all)
own_onto i (t ∷ ts) acc all = let rest = own_onto i ts (turn_of t ∷ acc) all in ((rest.1.0, rest.0), rest.1.1)

owned_there : (lists : List (List Turned)) (a i k : ℕ) (part : List Turned) → k ≡ a + i → slice_get lists i ≡ Some part → AreOwned a lists → Each (λ t. IsOf k (turn_of t)) part
owned_there [] a i k part e there owners = cc
owned_there (x ∷ ls) a zero k part e there owners =
    let same : x ≡ part = cc in
    let here : a ≡ k = omega (arith, e) in
    subst (λ n. Each (λ t. IsOf n (turn_of t)) part) here (subst (λ l. Each (λ t. IsOf a (turn_of t)) l) same owners.0)
owned_there (x ∷ ls) a (suc i) k part e there owners = owned_there ls (suc a) i k part (omega (arith, e)) there owners.1

owned_set : (lists : List (List Turned)) (a i k : ℕ) (new : List Turned) → k ≡ a + i → Each (λ t. IsOf k (turn_of t)) new → AreOwned a lists → AreOwned a (slice_set lists i new)
owned_set [] a i k new e own owners = tt
owned_set (x ∷ ls) a zero k new e own owners =
    let here : k ≡ a = omega (arith, e) in
    (subst (λ n. Each (λ t. IsOf n (turn_of t)) new) here own, owners.1)
owned_set (x ∷ ls) a (suc i) k new e own owners = (owners.0, owned_set ls (suc a) i k new (omega (arith, e)) own owners.1)

-- turns of component i are put into list i
pub owned_at : (lists : List (List Turned)) (i : ℕ) (part new : List Turned) (d : List (Turn Named)) → slice_get lists i ≡ Some part → turns_of new ≡ put_turns d (turns_of part) → Each (IsOf i) d → AreOwned 0 lists
    → AreOwned 0 (slice_set lists i new)
owned_at lists i part new d there is own owners =
    let first : i ≡ 0 + i = omega arith in
    let all = puts_each (IsOf i) d (turns_of part) own (onto_each (IsOf i) part [] (owned_there lists 0 i i part first there owners) tt) in
    owned_set lists 0 i i new first (own_onto i new [] (subst (Each (IsOf i)) (sym is) all)).0 owners

from_own : (b i : ℕ) (ts : List Turned) → Each (λ t. IsOf i (turn_of t)) ts → Each (λ t. IsOf i (turn_of t)) (first_from b ts)
from_own b i [] own = tt
from_own b i (t ∷ ts) own = go (from_own b i ts own.1) (nat_lt (rank t.key) b)
  where
    go : Each (λ t. IsOf i (turn_of t)) (first_from b ts) → (lower : Bool) → Each (λ t. IsOf i (turn_of t)) (if lower then first_from b ts else t ∷ ts)
    go ih true = ih
    go ih false = own

-- and some are taken away
pub owned_left : (b a : ℕ) (lists : List (List Turned)) → AreOwned a lists → AreOwned a (all_from b lists)
owned_left b a [] owners = tt
owned_left b a (x ∷ ls) owners = (from_own b a x owners.0, owned_left b (suc a) ls owners.1)

pub none_owned : (a n : ℕ) → AreOwned a (replicate n [])
none_owned a zero = tt
none_owned a (suc n) = (tt, none_owned (suc a) n)
