-- What the theory says of the machine of a setup.
use Rattle.std.specs.Prelude.{◌≡◌, ℕ, ◌<◌, ◌≤◌, ◌^◌, ◌++◌, ◌&&◌, cond, is_some, List, length}
use Rattle.terms.specs.Datum.{Datum}
use Rattle.terms.specs.Named.{Named}
use Rattle.event_keys.specs.Ranks.{rank_of_bound}
use Rattle.event_keys.specs.declared.message.Message.{Message}
use Rattle.event_keys.specs.declared.message.Sign.{Sign}
use Rattle.event_keys.specs.declared.message.Sign.TheVariants.{Plus, Minus}
use Rattle.event_keys.specs.declared.message.Signed.{Signed}
use Rattle.raw_events.specs.Around.{first_where}
use Rattle.antimessage.specs.Bags.{has_pair, is_one, least_of, remove as remove_one}
use Rattle.antimessage.specs.Counts.{minus, plus}
use Rattle.antimessage.specs.Order.{Fits, IsInOrder, KeyFits}
use Rattle.virtual_time.specs.Bags.{AllFrom, IsSorted, has, remove}
use Rattle.virtual_time.specs.Entries.{number}
use Rattle.virtual_time.specs.Machine.{HasCount, Lawful, Machine}
use Rattle.virtual_time.specs.Records.{Record, next_of}
use Rattle.virtual_time.specs.Reference.{Falls, IsAmong, IsReference, Turn, point, reference_below, turns_of}
use Rattle.virtual_time.specs.Replies.{IsReached, IsVirtualTime, virtual_time}
use Rattle.virtual_time.specs.Rules.{IsWorld}
use Rattle.virtual_time.specs.Worlds.{IsToCommit, Past, World, commit}
use Rattle.rollback.specs.Flight.{goes, in_flight, item_of}
use Rattle.rollback.specs.ComponentView.{next_key}

module _ (m : Machine (List Datum) Named) where
  -- of next keys: the least of the own turn's and the pending ones'
  pub record NextLaws : Type 0 where
    pub own : (i : ℕ) (r : Record (List Datum) Named) → next_key m (next_of m i r) ≤ m.key i (number r.first r.done)
    pub pending : (i : ℕ) (r : Record (List Datum) Named) → IsSorted m r.pending → AllFrom (next_key m (next_of m i r)) r.pending
    pub most : (i b : ℕ) (r : Record (List Datum) Named) → b ≤ m.key i (number r.first r.done) → AllFrom b r.pending → b ≤ next_key m (next_of m i r)

  -- of what is in flight: its least key, and what leaves it
  pub record FlightLaws : Type 0 where
    pub low : (sign : Sign) (j : ℕ) (bag : List Signed) → IsInOrder bag → AllFrom (rank_of_bound (least_of bag)) (in_flight sign j bag)
    pub most : (b : ℕ) (bag : List Signed) → b ≤ m.top → ((sign : Sign) (j : ℕ) → AllFrom b (in_flight sign j bag)) → b ≤ rank_of_bound (least_of bag)
    pub removed : (sign : Sign) (j : ℕ) (x : Signed) (bag : List Signed) → IsInOrder bag → Fits x → in_flight sign j (remove_one x bag) ≡ cond (goes sign j x) (remove m (item_of x) (in_flight sign j bag)) (in_flight sign j bag)
    pub found : (x : Signed) (bag : List Signed) → IsInOrder bag → Fits x → is_some (first_where (is_one x) bag) ≡ has m (item_of x) (in_flight x.sign x.message.to bag)
    pub pair : (message : Message) (bag : List Signed) → IsInOrder bag → KeyFits message.key → has_pair message bag ≡ (has m (item_of (plus message)) (in_flight Plus message.to bag) && has m (item_of (minus message)) (in_flight Minus message.to bag))
    pub one : (bag other : List Signed) → IsInOrder bag → IsInOrder other → ((sign : Sign) (j : ℕ) → in_flight sign j bag ≡ in_flight sign j other) → bag ≡ other

  -- of worlds that steps reach
  pub record WorldLaws (count : ℕ) : Type 0 where
    pub sound : (w : World (List Datum) Named) → IsReached m count w → IsWorld m w
    pub reference : (w : World (List Datum) Named) → IsReached m count w → IsReference m w.bound w.committed
    pub time : (w : World (List Datum) Named) → IsReached m count w → IsVirtualTime m w (virtual_time m count w)
    pub most : (w : World (List Datum) Named) (g b : ℕ) → IsVirtualTime m w g → Past m b w → b ≤ g
    pub bound : (w : World (List Datum) Named) (g : ℕ) → IsWorld m w → IsVirtualTime m w g → w.bound ≤ g
    pub appended : (w : World (List Datum) Named) (b : ℕ) (chunk : List (Turn Named)) → w.bound ≤ b → Falls chunk → ((t : Turn Named) → IsAmong t chunk → IsToCommit m w b t) → ((t : Turn Named) → IsToCommit m w b t → IsAmong t chunk) → (commit m b w).committed ≡ chunk ++ w.committed

  -- of the reference: there is one below each bound, and it has a turn for each key
  pub record ReferenceLaws (count : ℕ) : Type 0 where
    pub one : (b : ℕ) (ts us : List (Turn Named)) → IsReference m b ts → IsReference m b us → ts ≡ us
    pub exists : (b : ℕ) → b ≤ m.top → IsReference m b (reference_below m b)
    pub sum : (b : ℕ) → b ≤ m.top → length (reference_below m b) ≡ turns_of (point m b) count
    pub before : (b i n : ℕ) → n < (point m b).next i → m.key i n < b

  pub record Laws (count : ℕ) : Type 0 where
    pub lawful : Lawful m
    pub counted : HasCount m count
    pub next : NextLaws
    pub flight : FlightLaws
    pub world : WorldLaws count
    pub reference : ReferenceLaws count
    -- there are so many components and turns at most
    pub small : count < 65536
    pub few : (i n : ℕ) → m.key i n < m.top → n < 4294967296
    pub top : m.top ≡ 2 ^ 144
