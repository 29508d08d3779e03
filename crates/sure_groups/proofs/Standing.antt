-- What a component of a group stands for, as inputs are taken in, turns are taken, and more is heard.
use Rattle.std.proofs.Common.{◌≡◌, ℕ, suc, ◌<◌, ◌≤◌, ◌⊎◌, inl, inr, true, Option, Some, List, [], ◌∷◌, ◌++◌, refl, ap, sym, subst, ◌∙◌, arith}
use Rattle.std.proofs.lemmas.Bool.{cases_eq, cases_lt}
use Rattle.terms.specs.Datum.{Datum}
use Rattle.terms.specs.Named.{Named}
use Rattle.event_keys.specs.declared.key.Key.{Key}
use Rattle.event_keys.specs.Ranks.{rank, owner_of}
use Rattle.io_automata.specs.Signatures.{receives}
use Rattle.io_automata.specs.Steps.{applied}
use Rattle.task_seed.specs.Turning.{System}
use Rattle.shares.specs.Turns.{HasTurn, NoTurn, group_at}
use Rattle.sure_groups.specs.declared.input.Input.{Input}
use Rattle.sure_groups.specs.Inputs.{AreFalling, Comes, IsOneOf, Knows, heard_at}
use Rattle.sure_groups.specs.Members.{Stands}
use Rattle.sure_groups.proofs.Falling.{falling_front, in_left, in_either, in_right, last_least}
use Rattle.sure_groups.proofs.Points as points

same_rank : (a b : ℕ) → (a ≤ b) → (a < b → ⊥) → a ≡ b
same_rank a b low apart = go (cases_lt a b)
  where
    go : (a < b) ⊎ (b ≤ a) → a ≡ b
    go (inl less) = absurd (apart less)
    go (inr high) = omega (arith, low, high)

module _ (s : System) (groups : List ℕ) where
  module _ (heard : List (Option Key)) (own j : ℕ) where
    -- all that comes below some rank waits, and nothing that waits is below it: so nothing comes
    quiet : (state : List Datum) (pending : List Input) (h : Stands s groups heard own j state pending) → Knows s groups heard j own → (to : ℕ) → to ≤ own
        → ((x : Input) → IsOneOf pending x → to ≤ rank x.key) → points.Quiet s j h.at to
    quiet state pending h known to within above r o low high e = (own_turn, taken)
      where
        own_turn : owner_of r ≡ j → ⊥
        own_turn same = h.none r o low (omega (arith, high, within)) e same

        taken : (a : Named) → o ≡ Some a → receives s.composition (owner_of r) a j ≡ true → ⊥
        taken a is takes =
            let comes : Comes s j r a = (e ∙ ap (λ x. Some x) is, takes) in
            let there = h.all r a low (known r a (omega (arith, high, within)) comes) comes in
            let least = above there.0 there.1 in
            let same = there.2 in
            omega (arith, least, same, high)

    -- the component is in its state at the key of its turn
    pub reached : (state : List Datum) (pending : List Input) → Stands s groups heard own j state pending → Knows s groups heard j own → ((x : Input) → IsOneOf pending x → own ≤ rank x.key)
        → state ≡ points.state_of s j own
    reached state pending h known above = h.state_is ∙ sym (points.still s j h.at own h.low (quiet state pending h known own (omega arith) above))

    -- the first input below is taken in
    pub taken_in : (state : List Datum) (front : List Input) (x : Input) → Stands s groups heard own j state (front ++ x ∷ []) → Knows s groups heard j own → rank x.key < own
        → Stands s groups heard own j (applied s.composition j x.action state) front
    taken_in state front x h known below = record {
      at = suc r;
      low = omega (arith, below);
      state_is = ap (applied s.composition j x.action) before ∙ sym (points.received s j r x.action comes.0 comes.1);
      none = λ q o low high e. h.none q o (omega (arith, low, since)) high e;
      order = falling_front front x h.order;
      inputs = λ y is. ((h.inputs y (in_left front (x ∷ []) y is)).0, (let less = last_least front x h.order y is in omega (arith, less)));
      all = λ q a low heard_of is. still_there q a low (h.all q a (omega (arith, low, since)) heard_of is);
      before = λ q a low is. known q a (omega (arith, low, below)) is;
    }
      where
        r : ℕ
        r = rank x.key

        mine : Comes s j r x.action × (h.at ≤ r)
        mine = h.inputs x (in_right front (x ∷ []) x (inl refl))

        comes : Comes s j r x.action
        comes = mine.0

        since : h.at ≤ r
        since = mine.1

        above_by : (y : Input) → IsOneOf front y ⊎ IsOneOf (x ∷ []) y → r ≤ rank y.key
        above_by y (inl is) = let less = last_least front x h.order y is in omega (arith, less)
        above_by y (inr (inl e)) = let same = ap (λ (i : Input). rank i.key) e in omega (arith, same)
        above_by y (inr (inr none)) = absurd none

        before : state ≡ points.state_of s j r
        before = h.state_is ∙ sym (points.still s j h.at r since (quiet state (front ++ x ∷ []) h known r (omega (arith, below)) (λ y is. above_by y (in_either front (x ∷ []) y is))))

        still_there : (q : ℕ) (a : Named) → suc r ≤ q → (y : Input) × IsOneOf (front ++ x ∷ []) y × (rank y.key ≡ q) → (y : Input) × IsOneOf front y × (rank y.key ≡ q)
        still_there q a low (y, is, e) = go (in_either front (x ∷ []) y is)
          where
            go : IsOneOf front y ⊎ IsOneOf (x ∷ []) y → (y : Input) × IsOneOf front y × (rank y.key ≡ q)
            go (inl left) = (y, left, e)
            go (inr (inl same)) = let k = ap (λ (i : Input). rank i.key) same in absurd (omega (arith, k, e, low))
            go (inr (inr none)) = absurd none

    -- one more waits
    pub waits_too : (state : List Datum) (olds news : List Input) (x : Input) (h : Stands s groups heard own j state olds) → Comes s j (rank x.key) x.action → h.at ≤ rank x.key → AreFalling news
        → ((y : Input) → IsOneOf olds y → IsOneOf news y) → ((y : Input) → IsOneOf news y → IsOneOf olds y ⊎ (y ≡ x)) → Stands s groups heard own j state news
    waits_too state olds news x h comes since order kept only = record {
      at = h.at;
      low = h.low;
      state_is = h.state_is;
      none = h.none;
      order = order;
      inputs = λ y is. each y (only y is);
      all = λ r a low heard_of is. (let there = h.all r a low heard_of is in (there.0, kept there.0 there.1, there.2));
      before = h.before;
    }
      where
        each : (y : Input) → IsOneOf olds y ⊎ (y ≡ x) → Comes s j (rank y.key) y.action × (h.at ≤ rank y.key)
        each y (inl old) = h.inputs y old
        each y (inr e) = subst (λ (i : Input). Comes s j (rank i.key) i.action × (h.at ≤ rank i.key)) (sym e) (comes, since)

  -- a group has taken a turn, at the rank k, and its next one is at the rank `next`
  module _ (olds news : List (Option Key)) (me k next : ℕ) (mine_old : heard_at olds me ≡ k) (mine_new : heard_at news me ≡ next) (others : (g : ℕ) → (g ≡ me → ⊥) → heard_at news g ≡ heard_at olds g)
      (later : suc k ≤ next) (none_between : NoTurn s groups me (suc k) next) where
    more : (g : ℕ) → heard_at olds g ≤ heard_at news g
    more g = go (cases_eq g me)
      where
        go : (g ≡ me) ⊎ (g ≡ me → ⊥) → heard_at olds g ≤ heard_at news g
        go (inl e) = let o : heard_at olds g ≡ k = ap (heard_at olds) e ∙ mine_old in let n : heard_at news g ≡ next = ap (heard_at news) e ∙ mine_new in omega (arith, o, n, later)
        go (inr ne) = let same = others g ne in omega (arith, same)

    pub knows_more : (j below : ℕ) → Knows s groups olds j below → Knows s groups news j below
    knows_more j below known r a low is = let one = known r a low is in let up = more (group_at groups (owner_of r)) in omega (arith, one, up)

    -- what of the turns of the group is heard of now, was heard of before, or is this one's
    new_or_old : (r : ℕ) (o : Option Named) → HasTurn s r o → r < heard_at news (group_at groups (owner_of r)) → (r < heard_at olds (group_at groups (owner_of r))) ⊎ (r ≡ k)
    new_or_old r o e low = go (cases_eq (group_at groups (owner_of r)) me)
      where
        at_me : group_at groups (owner_of r) ≡ me → (r < k) ⊎ (k ≤ r) → (r < heard_at olds (group_at groups (owner_of r))) ⊎ (r ≡ k)
        at_me same (inl less) = let o : heard_at olds (group_at groups (owner_of r)) ≡ k = ap (heard_at olds) same ∙ mine_old in inl (omega (arith, o, less))
        at_me same (inr high) = inr (sym (same_rank k r high (λ more. none_between r o more (let n : heard_at news (group_at groups (owner_of r)) ≡ next = ap (heard_at news) same ∙ mine_new in omega (arith, n, low)) e same)))

        go : (group_at groups (owner_of r) ≡ me) ⊎ (group_at groups (owner_of r) ≡ me → ⊥) → (r < heard_at olds (group_at groups (owner_of r))) ⊎ (r ≡ k)
        go (inl same) = at_me same (cases_lt r k)
        go (inr apart) = let same = others (group_at groups (owner_of r)) apart in inl (omega (arith, same, low))

    -- another member of the group, with what the turn brought it
    pub stays : (j : ℕ) (state : List Datum) (pending : List Input) → group_at groups j ≡ me → (owner_of k ≡ j → ⊥) → ((a : Named) → Comes s j k a → (x : Input) × IsOneOf pending x × (rank x.key ≡ k))
        → Stands s groups olds k j state pending → Stands s groups news next j state pending
    stays j state pending member apart brought h = record {
      at = h.at;
      low = let low = h.low in omega (arith, low, later);
      state_is = h.state_is;
      none = λ r o low high e same. no_turn r o low high e same (cases_lt r k);
      order = h.order;
      inputs = h.inputs;
      all = λ r a low heard_of is. go r a low is (new_or_old r (Some a) is.0 heard_of);
      before = knows_more j h.at h.before;
    }
      where
        no_turn : (r : ℕ) (o : Option Named) → h.at ≤ r → r < next → HasTurn s r o → owner_of r ≡ j → (r < k) ⊎ (k ≤ r) → ⊥
        no_turn r o low high e same (inl less) = h.none r o low less e same
        no_turn r o low high e same (inr above) = apart (ap owner_of (same_rank k r above (λ after. none_between r o after high e (ap (group_at groups) same ∙ member))) ∙ same)

        go : (r : ℕ) (a : Named) → h.at ≤ r → Comes s j r a → (r < heard_at olds (group_at groups (owner_of r))) ⊎ (r ≡ k) → (x : Input) × IsOneOf pending x × (rank x.key ≡ r)
        go r a low is (inl old) = h.all r a low old is
        go r a low is (inr e) = let there = brought a (subst (λ q. Comes s j q a) e is) in (there.0, there.1, there.2 ∙ sym e)

    -- the member whose turn it was, and which took its action, if there was one
    pub takes_turn : (j : ℕ) (o : Option Named) (state after : List Datum) (pending : List Input) → group_at groups j ≡ me → owner_of k ≡ j → HasTurn s k o → after ≡ points.state_of s j (suc k)
        → Knows s groups olds j k → ((x : Input) → IsOneOf pending x → k ≤ rank x.key) → Stands s groups olds k j state pending → Stands s groups news next j after pending
    takes_turn j o state after pending member its e after_is known above h = record {
      at = suc k;
      low = later;
      state_is = after_is;
      none = λ r o low high e same. none_between r o low high e (ap (group_at groups) same ∙ member);
      order = h.order;
      inputs = λ x is. ((h.inputs x is).0, beyond (rank x.key) (above x is) x.action (h.inputs x is).0);
      all = λ r a low heard_of is. go r a low is (new_or_old r (Some a) is.0 heard_of);
      before = λ r a low is. below r a low is (cases_lt r k);
    }
      where
        never : (r : ℕ) (a : Named) → r ≡ k → Comes s j r a → ⊥
        never r a same is = points.other s (owner_of r) j a is.1 (sym (ap owner_of same ∙ its))

        beyond : (r : ℕ) → k ≤ r → (a : Named) → Comes s j r a → suc k ≤ r
        beyond r high a is = go (cases_lt k r)
          where
            go : (k < r) ⊎ (r ≤ k) → suc k ≤ r
            go (inl more) = more
            go (inr low) = absurd (never r a (omega (arith, low, high)) is)

        go : (r : ℕ) (a : Named) → suc k ≤ r → Comes s j r a → (r < heard_at olds (group_at groups (owner_of r))) ⊎ (r ≡ k) → (x : Input) × IsOneOf pending x × (rank x.key ≡ r)
        go r a low is (inl old) = h.all r a (let at = h.low in omega (arith, at, low)) old is
        go r a low is (inr e) = absurd (never r a e is)

        below : (r : ℕ) (a : Named) → r < suc k → Comes s j r a → (r < k) ⊎ (k ≤ r) → r < heard_at news (group_at groups (owner_of r))
        below r a low is (inl less) = knows_more j k known r a less is
        below r a low is (inr high) = absurd (never r a (omega (arith, low, high)) is)

  -- a group heard of the turns of another group, from one key to another
  module _ (olds news : List (Option Key)) (from since until : ℕ) (from_old : heard_at olds from ≡ since) (from_new : heard_at news from ≡ until) (others : (g : ℕ) → (g ≡ from → ⊥) → heard_at news g ≡ heard_at olds g)
      (up : since ≤ until) where
    more_of : (g : ℕ) → heard_at olds g ≤ heard_at news g
    more_of g = go (cases_eq g from)
      where
        go : (g ≡ from) ⊎ (g ≡ from → ⊥) → heard_at olds g ≤ heard_at news g
        go (inl e) = let o : heard_at olds g ≡ since = ap (heard_at olds) e ∙ from_old in let n : heard_at news g ≡ until = ap (heard_at news) e ∙ from_new in omega (arith, o, n, up)
        go (inr ne) = let same = others g ne in omega (arith, same)

    pub hears : (own j : ℕ) (state : List Datum) (pending : List Input)
        → ((r : ℕ) (a : Named) → since ≤ r → r < until → group_at groups (owner_of r) ≡ from → Comes s j r a → (x : Input) × IsOneOf pending x × (rank x.key ≡ r)) → Stands s groups olds own j state pending
        → Stands s groups news own j state pending
    hears own j state pending brought h = record {
      at = h.at;
      low = h.low;
      state_is = h.state_is;
      none = h.none;
      order = h.order;
      inputs = h.inputs;
      all = λ r a low heard_of is. go r a low heard_of is (cases_eq (group_at groups (owner_of r)) from);
      before = λ r a low is. (let one = h.before r a low is in let higher = more_of (group_at groups (owner_of r)) in omega (arith, one, higher));
    }
      where
        by : (r : ℕ) (a : Named) → h.at ≤ r → r < heard_at news (group_at groups (owner_of r)) → Comes s j r a → group_at groups (owner_of r) ≡ from → (r < since) ⊎ (since ≤ r)
            → (x : Input) × IsOneOf pending x × (rank x.key ≡ r)
        by r a low heard_of is same (inl less) = h.all r a low (let o : heard_at olds (group_at groups (owner_of r)) ≡ since = ap (heard_at olds) same ∙ from_old in omega (arith, o, less)) is
        by r a low heard_of is same (inr high) = brought r a high (let n : heard_at news (group_at groups (owner_of r)) ≡ until = ap (heard_at news) same ∙ from_new in omega (arith, n, heard_of)) same is

        go : (r : ℕ) (a : Named) → h.at ≤ r → r < heard_at news (group_at groups (owner_of r)) → Comes s j r a → (group_at groups (owner_of r) ≡ from) ⊎ (group_at groups (owner_of r) ≡ from → ⊥)
            → (x : Input) × IsOneOf pending x × (rank x.key ≡ r)
        go r a low heard_of is (inl same) = by r a low heard_of is same (cases_lt r since)
        go r a low heard_of is (inr apart) = h.all r a low (let same = others (group_at groups (owner_of r)) apart in omega (arith, same, heard_of)) is

  -- what comes of a group of which was heard so far isn't before where a component stands
  pub not_before : (heard : List (Option Key)) (own j : ℕ) (state : List Datum) (pending : List Input) (h : Stands s groups heard own j state pending) (r : ℕ) (a : Named) → Comes s j r a
      → heard_at heard (group_at groups (owner_of r)) ≤ r → h.at ≤ r
  not_before heard own j state pending h r a is high = go (cases_lt r h.at)
    where
      go : (r < h.at) ⊎ (h.at ≤ r) → h.at ≤ r
      go (inl less) = let low = h.before r a less is in absurd (omega (arith, low, high))
      go (inr above) = above
