-- What a clock finds at a turn that it has reached.
use Rattle.std.proofs.Common.{◌≡◌, ℕ, zero, suc, ◌+◌, ◌-◌, ◌*◌, ◌/◌, ◌%◌, ◌<◌, Bool, true, false, List, [], ◌∷◌, length, get_or, Option, None, Some, refl, sym, ◌∙◌, ap, arith}
use Rattle.std.specs.Prelude.{if◌then◌else◌, option_map, slice_get}
use Rattle.event_keys.specs.declared.key.Key.{Key}
use Rattle.task_seed.specs.Clocks.{HasReached, tick_of}
use Rattle.task_seed.specs.declared.clock.Clock.{Clock}
use Rattle.task_seed.specs.declared.setup.Setup.{Setup}
use Rattle.task_seed.specs.declared.turns.Turn.{Turn}
use Rattle.task_seed.specs.Setups.{system}
use Rattle.task_seed.specs.Ticks.{has_parts, no_later_key}
use Rattle.task_seed.specs.Turning.{System, has_turns, key_at, key_of, ticks}
use Rattle.task_seed.proofs.Keeping.{kept_at}

-- what a slice has at a place
pub found_there : {X : Type 0} (xs : List X) (n : ℕ) (x : X) → n < length xs → x ≡ get_or xs n x → slice_get xs n ≡ Some x
found_there [] n x below is = absurd (omega (arith, below))
found_there (y ∷ ys) zero x below is = ap Some (sym is)
found_there (y ∷ ys) (suc n) x below is = found_there ys n x (omega (arith, below)) is

no_key : (o : Option Key) → option_map (λ (key : Key). key.tick) o ≡ None → None ≡ o
no_key None e = refl
no_key (Some key) e = cc

-- a key by its tick
pub record IsKeyAt (s : System) (i n tick : ℕ) : Type 0 where
  pub key : Some (key_at i n tick) ≡ key_of s i n
  pub few : n < 4294967296

key_by_tick : (s : System) (i n tick : ℕ) → Some tick ≡ tick_of s i n → IsKeyAt s i n tick
key_by_tick s i n tick e = go (has_turns s i (n + 1)) refl e where
  go : (there : Bool) → has_turns s i (n + 1) ≡ there → Some tick ≡ option_map (λ (key : Key). key.tick) (if there then Some (key_at i n (ticks s i (n + 1))) else None) → IsKeyAt s i n tick
  go false h e = absurd (cc)
  go true h e =
      let same : tick ≡ ticks s i (n + 1) = cc in
      let few = (has_parts s i (n + 1) h).few in
      record {
        key = ap (λ t. Some (key_at i n t)) same ∙ sym (ap (λ b. if b then Some (key_at i n (ticks s i (n + 1))) else None) h);
        few = omega (arith, few);
      }

module _ {T : Type 0} (turn_of : T → ℕ → ℕ → Option Turn) (setup : Setup T) (clock : Clock) (n : ℕ) (reached : HasReached turn_of setup clock.component clock n) where
  at_kept : slice_get clock.ticks.items (n / 256) ≡ tick_of (system turn_of setup) clock.component (n - n % 256)
  at_kept =
      let low = reached.within in
      let same : 256 * (n / 256) ≡ n - n % 256 = omega arith in
      kept_at (system turn_of setup) clock.component reached.last (n / 256) clock.ticks.items reached.reached.kept (omega (arith, low, same)) ∙ ap (tick_of (system turn_of setup) clock.component) same

  -- where nothing is kept, there is no such turn
  pub nothing_kept : slice_get clock.ticks.items (n / 256) ≡ None → key_of (system turn_of setup) clock.component n ≡ None
  nothing_kept none = no_later_key (system turn_of setup) clock.component (n - n % 256) n (omega arith) (no_key (key_of (system turn_of setup) clock.component (n - n % 256)) (sym at_kept ∙ none))

  -- and what is kept is a key
  pub key_kept : (tick : ℕ) → slice_get clock.ticks.items (n / 256) ≡ Some tick → IsKeyAt (system turn_of setup) clock.component (n - n % 256) tick
  key_kept tick found = key_by_tick (system turn_of setup) clock.component (n - n % 256) tick (sym found ∙ at_kept)

-- the number of the turn of a key
pub number_is : (s : System) (i n : ℕ) (key : Key) → Some key ≡ key_of s i n → key.number ≡ n
number_is s i n key e = go (has_turns s i (n + 1)) e where
  go : (there : Bool) → Some key ≡ (if there then Some (key_at i n (ticks s i (n + 1))) else None) → key.number ≡ n
  go true e = let same : key ≡ key_at i n (ticks s i (n + 1)) = cc in ap (λ (k : Key). k.number) same
  go false e = cc
