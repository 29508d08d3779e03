-- What the readers of parts ensure.
use Rattle.std.specs.Prelude.{◌≡◌, ◌≤◌, ℕ, zero, suc, ◌+◌, Bool, Option, Some, None, if◌then◌else◌, nat_lt, true, false, length, List, [], ◌∷◌, ◌++◌, Result, Ok, Err}
use Rattle.ioa_phrases.specs.declared.stop.Stop.{Stop}
use Rattle.ioa_phrases.specs.declared.stop.Stop.TheVariants as stop
use Rattle.ioa_tokens.specs.declared.Word.{Word}
use Rattle.ioa_tokens.specs.Tokens.{Tok, Name, Num, Key, sees}
use Rattle.ioa_tokens.specs.declared.Word.TheVariants as w
use Rattle.ioa_trees.specs.Nodes.{Sort, statement, name_part, Node, Leaf}
use Rattle.ioa_trees.specs.Grammar.{Class, token, name, outside, Place, Part, maybe, if_parts, else_parts, many, accepts, led, plain}
use Rattle.ioa_phrases.specs.Machine.{Frames, depth, on, State, At, at, have, Verdict, Syntax, Deep, go}

-- why a reader stopped
abbrev pub Stops : Stop → Verdict → Type 0
Stops stop.Memory v = Unit {0}
Stops (stop.Syntax n) v = v ≡ Syntax n
Stops (stop.Deep n) v = v ≡ Deep n

-- What comes next in f stands at the front, in every place of this depth. n and rest say what was read and what is left.
abbrev pub Gives : {Y : Type 0} → (Y → Node) → (Y → List Tok) → (Frames → State) → ℕ → List Tok → Result Y Stop → Type 0
Gives n rest f d ts (Ok y) = (k : Frames) → depth k ≡ d → go true (f k) ts ≡ go true (have (n y) k) (rest y)
Gives n rest f d ts (Err e) = (k : Frames) → depth k ≡ d → Stops e (go true (f k) ts)

-- The same, in a place that isn't too deep.
abbrev pub GivesLow : {Y : Type 0} → (Y → Node) → (Y → List Tok) → (Frames → State) → ℕ → List Tok → Result Y Stop → Type 0
GivesLow n rest f d ts (Ok y) = (k : Frames) → depth k ≡ d → nat_lt 64 (depth k) ≡ false → go true (f k) ts ≡ go true (have (n y) k) (rest y)
GivesLow n rest f d ts (Err e) = (k : Frames) → depth k ≡ d → nat_lt 64 (depth k) ≡ false → Stops e (go true (f k) ts)

-- The same, at any depth that isn't too much.
abbrev pub GivesAny : {Y : Type 0} → (Y → Node) → (Y → List Tok) → (Frames → State) → List Tok → Result Y Stop → Type 0
GivesAny n rest f ts (Ok y) = (k : Frames) → nat_lt 64 (depth k) ≡ false → go true (f k) ts ≡ go true (have (n y) k) (rest y)
GivesAny n rest f ts (Err e) = (k : Frames) → nat_lt 64 (depth k) ≡ false → Stops e (go true (f k) ts)

-- This token stands at the front, and rest is what follows it.
abbrev pub Expects : {Y : Type 0} → (Y → List Tok) → Word → List Tok → Result Y Stop → Type 0
Expects rest w ts (Ok y) = ts ≡ Key w ∷ rest y
Expects rest w ts (Err e) = (sees w ts ≡ false) × (e ≡ stop.Syntax (length ts))

abbrev pub front_name : List Tok → Bool
front_name (Name s ∷ ts) = true
front_name _ = false

abbrev pub front_number : List Tok → Bool
front_number (Num n ∷ ts) = true
front_number _ = false

-- A name stands at the front.
abbrev pub Names : {Y : Type 0} → (Y → List ℕ) → (Y → List Tok) → List Tok → Result Y Stop → Type 0
Names of rest ts (Ok y) = ts ≡ Name (of y) ∷ rest y
Names of rest ts (Err stop.Memory) = Unit {0}
Names of rest ts (Err e) = (front_name ts ≡ false) × (e ≡ stop.Syntax (length ts))

-- A number stands at the front.
abbrev pub Numbers : {Y : Type 0} → (Y → ℕ) → (Y → List Tok) → List Tok → Result Y Stop → Type 0
Numbers number rest ts (Ok y) = ts ≡ Num (number y) ∷ rest y
Numbers number rest ts (Err e) = (front_number ts ≡ false) × (e ≡ stop.Syntax (length ts))

-- ---- the tokens with which one of a rule may begin

abbrev pub leads : List (Class × List Part) → Tok → Bool
leads [] t = false
leads ((c, ps) ∷ rest) t = if accepts c t then true else leads rest t

abbrev pub starts_by : ℕ → Sort → Tok → Bool
starts_by zero s t = false
starts_by (suc f) s t = if leads (led s) t then true else on (plain s) (λ p. starts_by f p.0 t) false

abbrev pub may_start : Sort → Tok → Bool
may_start s t = starts_by 16 s t

-- why one of a rule doesn't stand inside of one pair too many
abbrev pub deep_stop : Sort → List Tok → Stop
deep_stop s [] = stop.Syntax 0
deep_stop s (t ∷ ts) = if may_start s t then stop.Deep (length ts + 1) else stop.Syntax (length ts + 1)

-- one of this rule may begin here
abbrev pub front_starts : Sort → List Tok → Bool
front_starts s [] = false
front_starts s (t ∷ ts) = may_start s t

-- One more of a repetition stands at the front, or none: then what follows the repetition comes next.
abbrev pub Turns : {Y : Type 0} → (Y → Node) → (Y → List Tok) → Sort → Sort → Place → List Part → ℕ → List Tok → Result (Option Y) Stop → Type 0
Turns n rest z r i ps d ts (Ok (Some y)) =
    (done : List Node) (k : Frames) → depth k ≡ d → nat_lt 64 (depth k) ≡ false → go true (At z done (many r i ∷ ps) k) ts ≡ go true (At z (done ++ n y ∷ []) (many r i ∷ ps) k) (rest y)
Turns n rest z r i ps d ts (Ok None) =
    (done : List Node) (k : Frames) → depth k ≡ d → nat_lt 64 (depth k) ≡ false → go true (At z done (many r i ∷ ps) k) ts ≡ go true (at z done ps k) ts
Turns n rest z r i ps d ts (Err e) =
    (done : List Node) (k : Frames) → depth k ≡ d → nat_lt 64 (depth k) ≡ false → Stops e (go true (At z done (many r i ∷ ps) k) ts)

-- Something that may be left out stands at the front, or doesn't; then what follows it comes next.
abbrev pub Perhaps : {Y : Type 0} → (Y → List Node) → (Y → List Tok) → Sort → Sort → Place → List Part → ℕ → List Tok → Result Y Stop → Type 0
Perhaps n rest z r i ps d ts (Ok y) =
    (done : List Node) (k : Frames) → depth k ≡ d → nat_lt 64 (depth k) ≡ false → go true (At z done (maybe r i ∷ ps) k) ts ≡ go true (at z (done ++ n y) ps k) (rest y)
Perhaps n rest z r i ps d ts (Err e) =
    (done : List Node) (k : Frames) → depth k ≡ d → nat_lt 64 (depth k) ≡ false → Stops e (go true (At z done (maybe r i ∷ ps) k) ts)

-- The branches of an `if` stand at the front.
abbrev pub Branches : {Y : Type 0} → (Y → List Node) → (Y → List Tok) → ℕ → List Tok → Result Y Stop → Type 0
Branches n rest d ts (Ok y) = (k : Frames) → depth k ≡ d → go true (at statement (Leaf (Key w.If) ∷ []) if_parts k) ts ≡ go true (at statement (Leaf (Key w.If) ∷ n y) else_parts k) (rest y)
Branches n rest d ts (Err e) = (k : Frames) → depth k ≡ d → Stops e (go true (at statement (Leaf (Key w.If) ∷ []) if_parts k) ts)

-- A name stands at the front, as the first inside of a pair.
abbrev pub NamesInside : {Y : Type 0} → (Y → List ℕ) → (Y → List Tok) → ℕ → List Tok → Result Y Stop → Type 0
NamesInside of rest d ts (Ok y) = (ts ≡ Name (of y) ∷ rest y) × (d + 1 ≤ 64)
NamesInside of rest d ts (Err stop.Memory) = Unit {0}
NamesInside of rest d ts (Err (stop.Syntax n)) = (front_name ts ≡ false) × (n ≡ length ts)
NamesInside of rest d ts (Err (stop.Deep n)) = (front_name ts ≡ true) × ((n ≡ length ts) × (65 ≤ d + 1))

-- Names with commas between stand at the front.
abbrev pub NamesListed : {Y : Type 0} → (Y → List Node) → (Y → List Tok) → List Tok → Result Y Stop → Type 0
NamesListed n rest ts (Ok y) = (z : Sort) (done : List Node) (ps : List Part) (k : Frames)
    → go true (At z done (token name outside ∷ (many name_part outside ∷ ps)) k) ts ≡ go true (at z (done ++ n y) ps k) (rest y)
NamesListed n rest ts (Err e) = (z : Sort) (done : List Node) (ps : List Part) (k : Frames)
    → Stops e (go true (At z done (token name outside ∷ (many name_part outside ∷ ps)) k) ts)
