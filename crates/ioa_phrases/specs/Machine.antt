-- The reader as a machine that goes over the tokens once. A frame is a rule that is being read, with what was read of it and what is left.
use Rattle.std.specs.Prelude.{ℕ, zero, suc, ◌+◌, Bool, true, false, ◌&&◌, if◌then◌else◌, nat_lt, List, [], ◌∷◌, ◌++◌, length, Option, Some, None}
use Rattle.ioa_tokens.specs.Tokens.{Tok}
use Rattle.ioa_trees.specs.Nodes.{Sort, source, Node, Leaf, make}
use Rattle.ioa_trees.specs.Grammar.{accepts, Place, outside, first, inside, deeper, Part, token, one, maybe, many, led, plain, whole, pick}

-- What comes around: a part of this rule is awaited, in this place; the list is what was read of it, the parts are what follows.
pub data Frames : Type 0 where
  Bottom : Frames
  In : Sort → List Node → List Part → Place → Frames → Frames

-- how many pairs and prefixes are open
abbrev pub depth : Frames → ℕ
depth Bottom = 0
depth (In s done ps i k) = deeper i (depth k)

abbrev pub on : {A B : Type 0} → Option A → (A → B) → B → B
on None f b = b
on (Some a) f b = f a

pub data State : Type 0 where
  -- one of this rule comes next
  Want : Sort → Frames → State
  -- this rule was read so far, and these parts come next, of which the first is no rule
  At : Sort → List Node → List Part → Frames → State
  Done : Node → State

abbrev pub any : {A : Type 0} → List A → Bool
any [] = false
any (x ∷ xs) = true

abbrev pub has_led : Sort → Bool
has_led s = any (led s)

-- Down to the first rule that has alternatives by token. The number is more than the rules that may begin with one another.
abbrev pub descend : ℕ → Sort → Frames → State
descend zero s k = Want s k
descend (suc n) s k = if has_led s then Want s k else on (plain s) (λ p. descend n p.0 (In s [] p.1 outside k)) (Want s k)

abbrev pub want : Sort → Frames → State
want s k = descend 16 s k

-- what comes next once a node was read
abbrev pub have : Node → Frames → State
have n Bottom = Done n
have n (In s done [] i k) = have (make s (done ++ n ∷ [])) k
have n (In s done (one r j ∷ ps) i k) = want r (In s (done ++ n ∷ []) ps j k)
have n (In s done (p ∷ ps) i k) = At s (done ++ n ∷ []) (p ∷ ps) k

abbrev pub at : Sort → List Node → List Part → Frames → State
at s done [] k = have (make s done) k
at s done (one r j ∷ ps) k = want r (In s done ps j k)
at s done (p ∷ ps) k = At s done (p ∷ ps) k

-- what comes after a token, and how deep that stands, if it is the first inside
pub record Step : Type 0 where
  pub next : State
  pub depth : ℕ

abbrev pub descend_by : ℕ → Sort → Tok → Frames → Option State
descend_by zero s t k = None
descend_by (suc n) s t k =
    on (pick t (led s)) (λ qs. Some (at s (Leaf t ∷ []) qs k)) (on (plain s) (λ p. descend_by n p.0 t (In s [] p.1 outside k)) None)

-- the first token of a rule
abbrev pub enter : Sort → Tok → Frames → Option State
enter s t k = descend_by 16 s t k

abbrev pub checked : Place → ℕ → ℕ
checked outside d = 0
checked first d = d + 1
checked inside d = 0

-- a token before these parts of a rule; the last argument is what it does after the rule
abbrev pub walk : Tok → Sort → List Node → Frames → List Part → Option Step → Option Step
walk t s done k [] over = over
walk t s done k (token c i ∷ ps) over = if accepts c t then Some (record { next = at s (done ++ Leaf t ∷ []) ps k; depth = checked i (depth k) }) else None
walk t s done k (one r i ∷ ps) over = on (enter r t (In s done ps i k)) (λ n. Some (record { next = n; depth = deeper i (depth k) })) None
walk t s done k (maybe r i ∷ ps) over = on (enter r t (In s done ps i k)) (λ n. Some (record { next = n; depth = 0 })) (walk t s done k ps over)
walk t s done k (many r i ∷ ps) over = on (enter r t (In s done (many r i ∷ ps) i k)) (λ n. Some (record { next = n; depth = 0 })) (walk t s done k ps over)

abbrev pub after : Frames → Node → Tok → Option Step
after Bottom n t = None
after (In s done ps i k) n t = walk t s (done ++ n ∷ []) k ps (after k (make s (done ++ n ∷ [])) t)

abbrev pub move : State → Tok → Option Step
move (Want s k) t = on (enter s t k) (λ n. Some (record { next = n; depth = depth k })) None
move (At s done ps k) t = walk t s done k ps (after k (make s done) t)
move (Done n) t = None

pub data Verdict : Type 0 where
  Read : Node → Verdict
  -- how many tokens are left, the first of them at fault
  Syntax : ℕ → Verdict
  Deep : ℕ → Verdict

-- parts that nothing may stand for
abbrev pub nullable : List Part → Bool
nullable [] = true
nullable (token c i ∷ ps) = false
nullable (one r i ∷ ps) = false
nullable (maybe r i ∷ ps) = nullable ps
nullable (many r i ∷ ps) = nullable ps

-- no token comes after a node
abbrev pub finish : Frames → Node → Verdict
finish Bottom n = Read n
finish (In s done ps i k) n = if nullable ps then finish k (make s (done ++ n ∷ [])) else Syntax 0

abbrev pub ending : State → Verdict
ending (Want s k) = Syntax 0
ending (At s done ps k) = if nullable ps then finish k (make s done) else Syntax 0
ending (Done n) = Read n

-- The flag says that there is a limit on the depth.
abbrev pub go : Bool → State → List Tok → Verdict
go limited s [] = ending s
go limited s (t ∷ ts) = on (move s t) (λ m. if limited && nat_lt 64 m.depth then Deep (length ts + 1) else go limited m.next ts) (Syntax (length ts + 1))

-- before the first token
abbrev pub start : State
start = At source [] whole Bottom
