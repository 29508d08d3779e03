-- The steps of a world as walks, one entry at a time: a form that is easier to prove of. Tied shows that they are the steps.
use Rattle.std.specs.Prelude.{◌≡◌, ℕ, ◌&&◌, ◌⊎◌, cond, nat_lt, Option, None, Some, List, [], ◌∷◌}
use Rattle.virtual_time.specs.Worlds.{CanCommit, Commit, DeliverAntimessage, DeliverMessage, Meet, Part, Process, RollBack, Step, World, commit, put, with_parts}
use Rattle.virtual_time.specs.Records.{is_input, sent, stays}
use Rattle.virtual_time.specs.Bags.{has, inputs, insert, remove}
use Rattle.virtual_time.specs.Entries.{Entry, Input, Item, Own, number, replay}
use Rattle.virtual_time.specs.Machine.{Machine}

abbrev pub with_done : {S A : Type 0} → Part S A → List (Entry A) → List (Item A) → Part S A
with_done c es p = record { base = c.base; first = c.first; done = es; pending = p; owed = c.owed; plus = c.plus; minus = c.minus }

abbrev pub with_plus : {S A : Type 0} → Part S A → List (Item A) → Part S A
with_plus c xs = record { base = c.base; first = c.first; done = c.done; pending = c.pending; owed = c.owed; plus = xs; minus = c.minus }

abbrev pub with_minus : {S A : Type 0} → Part S A → List (Item A) → Part S A
with_minus c xs = record { base = c.base; first = c.first; done = c.done; pending = c.pending; owed = c.owed; plus = c.plus; minus = xs }

-- the next own turn, or an input from pending, becomes the last done entry
abbrev pub process_own : {S A : Type 0} → Machine S A → ℕ → ℕ → Option A → World S A → World S A
process_own machine i k o w =
    with_parts w (λ j. let c = put i (with_done (w.part i) (Own k o ∷ (w.part i).done) (w.part i).pending) w.part j in with_plus c (sent machine i k o j c.plus))

abbrev pub process_input : {S A : Type 0} → ℕ → Item A → List (Item A) → World S A → World S A
process_input i x rest w = with_parts w (put i (with_done (w.part i) (Input x ∷ (w.part i).done) rest) w.part)

abbrev pub next_own : {S A : Type 0} → Machine S A → ℕ → World S A → World S A
next_own machine i w =
    let c = w.part i in
    let m = number c.first c.done in
    cond (nat_lt (machine.key i m) machine.top) (process_own machine i (machine.key i m) (machine.outcome i m (replay machine i c.base c.done)) w) w

abbrev pub process_from : {S A : Type 0} → Machine S A → ℕ → List (Item A) → World S A → World S A
process_from machine i [] w = next_own machine i w
process_from machine i (x ∷ xs) w =
    cond (nat_lt x.key (machine.key i (number (w.part i).first (w.part i).done))) (process_input i x xs w) (next_own machine i w)

abbrev pub walk_on : {S A : Type 0} → Machine S A → ℕ → World S A → World S A
walk_on machine i w = process_from machine i (w.part i).pending w

abbrev pub undo : {S A : Type 0} → Machine S A → ℕ → List (Entry A) → World S A → World S A
undo machine i [] w = w
undo machine i (Own k o ∷ es) w =
    with_parts w (λ j. let c = put i (with_done (w.part i) es (w.part i).pending) w.part j in with_minus c (sent machine i k o j c.minus))
undo machine i (Input x ∷ es) w = with_parts w (put i (with_done (w.part i) es (insert machine x (w.part i).pending)) w.part)

abbrev pub walk_back : {S A : Type 0} → Machine S A → ℕ → World S A → World S A
walk_back machine i w = undo machine i (w.part i).done w

abbrev pub back_past : {S A : Type 0} → Machine S A → ℕ → Item A → List (Entry A) → World S A → World S A
back_past machine i x [] w = w
back_past machine i x (e ∷ es) w = cond (stays machine x e) w (back_past machine i x es (walk_back machine i w))

-- roll back until the item was taken back
abbrev pub back_to : {S A : Type 0} → Machine S A → ℕ → Item A → List (Entry A) → World S A → World S A
back_to machine i x [] w = w
back_to machine i x (e ∷ es) w = cond (is_input machine x e) (walk_back machine i w) (back_to machine i x es (walk_back machine i w))

-- an item leaves the flight and is pending from then on, or pays what is owed
abbrev pub accept : {S A : Type 0} → Machine S A → ℕ → Item A → World S A → World S A
accept machine j x w =
    let c = w.part j in
    with_parts w (put j (record { base = c.base; first = c.first; done = c.done; pending = insert machine x c.pending; owed = c.owed; plus = remove machine x c.plus; minus = c.minus }) w.part)

abbrev pub pay : {S A : Type 0} → Machine S A → ℕ → Item A → World S A → World S A
pay machine j x w =
    let c = w.part j in
    with_parts w (put j (record { base = c.base; first = c.first; done = c.done; pending = c.pending; owed = remove machine x c.owed; plus = remove machine x c.plus; minus = c.minus }) w.part)

-- an antimessage leaves the flight: with a pending item, or it is owed
abbrev pub cancel : {S A : Type 0} → Machine S A → ℕ → Item A → World S A → World S A
cancel machine j x w =
    let c = w.part j in
    with_parts w (put j (record { base = c.base; first = c.first; done = c.done; pending = remove machine x c.pending; owed = c.owed; plus = c.plus; minus = remove machine x c.minus }) w.part)

abbrev pub owe : {S A : Type 0} → Machine S A → ℕ → Item A → World S A → World S A
owe machine j x w =
    let c = w.part j in
    with_parts w (put j (record { base = c.base; first = c.first; done = c.done; pending = c.pending; owed = insert machine x c.owed; plus = c.plus; minus = remove machine x c.minus }) w.part)

abbrev pub walk_meet : {S A : Type 0} → Machine S A → ℕ → Item A → World S A → World S A
walk_meet machine j x w =
    let c = w.part j in
    with_parts w (put j (record { base = c.base; first = c.first; done = c.done; pending = c.pending; owed = c.owed; plus = remove machine x c.plus; minus = remove machine x c.minus }) w.part)

abbrev pub walk_plus : {S A : Type 0} → Machine S A → ℕ → Item A → World S A → World S A
walk_plus machine j x w =
    cond (has machine x (w.part j).owed) (pay machine j x w) (accept machine j x (back_past machine j x (w.part j).done w))

abbrev pub walk_minus : {S A : Type 0} → Machine S A → ℕ → Item A → World S A → World S A
walk_minus machine j x w =
    cond (has machine x (w.part j).pending) (cancel machine j x w)
    (cond (nat_lt 0 (inputs machine (w.part j).done x.key x.action)) (cancel machine j x (back_to machine j x (w.part j).done w)) (owe machine j x w))

abbrev pub walk_try : {S A : Type 0} → Machine S A → ℕ → Item A → World S A → World S A
walk_try machine j x w = cond (has machine x (w.part j).plus && has machine x (w.part j).minus) (walk_meet machine j x w) w

abbrev pub walk_meets : {S A : Type 0} → Machine S A → List ℕ → Item A → World S A → World S A
walk_meets machine [] x w = w
walk_meets machine (j ∷ js) x w = walk_meets machine js x (walk_try machine j x w)

-- the entry at Next
abbrev pub own_entry : {S A : Type 0} → Machine S A → ℕ → World S A → Option (Entry A)
own_entry machine i w =
    let c = w.part i in
    let m = number c.first c.done in
    cond (nat_lt (machine.key i m) machine.top) (Some (Own (machine.key i m) (machine.outcome i m (replay machine i c.base c.done)))) None

abbrev pub entry_from : {S A : Type 0} → Machine S A → ℕ → List (Item A) → World S A → Option (Entry A)
entry_from machine i [] w = own_entry machine i w
entry_from machine i (x ∷ xs) w = cond (nat_lt x.key (machine.key i (number (w.part i).first (w.part i).done))) (Some (Input x)) (own_entry machine i w)

abbrev pub walk_next : {S A : Type 0} → Machine S A → ℕ → World S A → Option (Entry A)
walk_next machine i w = entry_from machine i (w.part i).pending w

-- walk_meet each message that the entry sent
abbrev pub walk_sent : {S A : Type 0} → Machine S A → Entry A → List ℕ → World S A → World S A
walk_sent machine (Own k (Some a)) js w = walk_meets machine js (record { key = k; action = a }) w
walk_sent machine (Own k None) js w = w
walk_sent machine (Input x) js w = w

-- what a step does, the commit aside. A step that is refused leaves the world
abbrev pub Walks : {S A : Type 0} → Machine S A → World S A → Step A → World S A → Type 0
Walks machine w (Process i) v = v ≡ walk_on machine i w
Walks machine w (RollBack i) v = v ≡ walk_back machine i w
Walks machine w (DeliverMessage j x) v = v ≡ cond (has machine x (w.part j).plus) (walk_plus machine j x w) w
Walks machine w (DeliverAntimessage j x) v = v ≡ cond (has machine x (w.part j).minus) (walk_minus machine j x w) w
Walks machine w (Meet j x) v = v ≡ cond (has machine x (w.part j).plus && has machine x (w.part j).minus) (walk_meet machine j x w) w
Walks machine w (Commit b) v = CanCommit machine w b × (v ≡ commit machine b w) ⊎ (CanCommit machine w b → ⊥) × (v ≡ w)

-- the steps lead from w to v
abbrev pub Leads : {S A : Type 0} → Machine S A → World S A → List (Step A) → World S A → Type 0
Leads machine w [] v = v ≡ w
Leads {S} {A} machine w (s ∷ ss) v = (mid : World S A) × Walks machine w s mid × Leads machine mid ss v
