-- A refusal is of the first token that cannot stand where it does.
use Rattle.std.proofs.Common.{◌≡◌, ◌≤◌, ◌+◌, ℕ, Bool, nat_lt, true, false, ◌&&◌, List, [], ◌∷◌, ◌++◌, length, length-append, Option, Some, None, refl, ap, arith, cond}
use Rattle.ioa_tokens.specs.Tokens.{Tok}
use Rattle.ioa_trees.specs.Nodes.{Node, make}
use Rattle.ioa_phrases.specs.Machine.{Frames, Bottom, In, State, Want, At, Done, Step, Verdict, Read, Syntax, Deep, nullable, finish, move, ending, on, go}

-- how many tokens a refusal leaves
abbrev pub left : Verdict → ℕ
left (Read x) = 0
left (Syntax n) = n
left (Deep n) = n

left_cond : (b : Bool) (v : Verdict) → left v ≡ 0 → left (cond b v (Syntax 0)) ≡ 0
left_cond true v h = h
left_cond false v h = refl

finish_left : (k : Frames) (n : Node) → left (finish k n) ≡ 0
finish_left Bottom n = refl
finish_left (In s done ps i k) n = left_cond (nullable ps) _ (finish_left k (make s (done ++ n ∷ [])))

ending_left : (s : State) → left (ending s) ≡ 0
ending_left (Want s k) = refl
ending_left (At s done ps k) = left_cond (nullable ps) _ (finish_left k (make s done))
ending_left (Done n) = refl

-- no more are left than there were
pub go_left : (b : Bool) (s : State) (ts : List Tok) → left (go b s ts) ≤ length ts
go_left b s [] = omega (arith, ending_left s)
go_left b s (t ∷ ts) = at_move (move s t) (λ n. go_left b n ts)
  where
    at_test : (c : Bool) (v : Verdict) → left v ≤ length ts → left (cond c (Deep (length ts + 1)) v) ≤ length (t ∷ ts)
    at_test true v h = omega arith
    at_test false v h = omega (arith, h)

    at_move : (m : Option Step) → ((n : State) → left (go b n ts) ≤ length ts)
        → left (on m (λ n. cond (b && nat_lt 64 n.depth) (Deep (length ts + 1)) (go b n.next ts)) (Syntax (length ts + 1))) ≤ length (t ∷ ts)
    at_move None h = omega arith
    at_move (Some n) h = at_test (b && nat_lt 64 n.depth) _ (h n.next)

-- what was refused at a token stays refused there, whatever follows
pub refused_stays : (b : Bool) (s : State) (pre : List Tok) (t : Tok) (r r' : List Tok)
    → go b s (pre ++ t ∷ r) ≡ Syntax (length r + 1) → go b s (pre ++ t ∷ r') ≡ Syntax (length r' + 1)
refused_stays b s [] t r r' h = at_move (move s t) h
  where
    at_move : (m : Option Step)
        → on m (λ n. cond (b && nat_lt 64 n.depth) (Deep (length r + 1)) (go b n.next r)) (Syntax (length r + 1)) ≡ Syntax (length r + 1)
        → on m (λ n. cond (b && nat_lt 64 n.depth) (Deep (length r' + 1)) (go b n.next r')) (Syntax (length r' + 1)) ≡ Syntax (length r' + 1)
    at_move None e = refl
    at_move (Some n) e = at_test (b && nat_lt 64 n.depth) e
      where
        at_test : (d : Bool) → cond d (Deep (length r + 1)) (go b n.next r) ≡ Syntax (length r + 1)
            → cond d (Deep (length r' + 1)) (go b n.next r') ≡ Syntax (length r' + 1)
        at_test true f = cc
        at_test false f = absurd (omega (arith, go_left b n.next r, ap left f))
refused_stays b s (p ∷ pre) t r r' h = at_move (move s p) h (λ n. refused_stays b n pre t r r')
  where
    at_move : (m : Option Step)
        → on m (λ n. cond (b && nat_lt 64 n.depth) (Deep (length (pre ++ t ∷ r) + 1)) (go b n.next (pre ++ t ∷ r))) (Syntax (length (pre ++ t ∷ r) + 1)) ≡ Syntax (length r + 1)
        → ((n : State) → go b n (pre ++ t ∷ r) ≡ Syntax (length r + 1) → go b n (pre ++ t ∷ r') ≡ Syntax (length r' + 1))
        → on m (λ n. cond (b && nat_lt 64 n.depth) (Deep (length (pre ++ t ∷ r') + 1)) (go b n.next (pre ++ t ∷ r'))) (Syntax (length (pre ++ t ∷ r') + 1)) ≡ Syntax (length r' + 1)
    at_move None e g = absurd (omega (arith, ap left e, length-append pre (t ∷ r)))
    at_move (Some n) e g = at_test (b && nat_lt 64 n.depth) e
      where
        at_test : (d : Bool) → cond d (Deep (length (pre ++ t ∷ r) + 1)) (go b n.next (pre ++ t ∷ r)) ≡ Syntax (length r + 1)
            → cond d (Deep (length (pre ++ t ∷ r') + 1)) (go b n.next (pre ++ t ∷ r')) ≡ Syntax (length r' + 1)
        at_test true f = cc
        at_test false f = g n.next f

-- without the limit a refusal is the same
pub unlimited : (s : State) (ts : List Tok) (n : ℕ) → go true s ts ≡ Syntax n → go false s ts ≡ Syntax n
unlimited s [] n h = h
unlimited s (t ∷ ts) n h = at_move (move s t) h (λ m. unlimited m ts n)
  where
    at_test : (d : Bool) (v w : Verdict) → cond d (Deep (length ts + 1)) v ≡ Syntax n → (v ≡ Syntax n → w ≡ Syntax n) → w ≡ Syntax n
    at_test true v w f g = cc
    at_test false v w f g = g f

    at_move : (m : Option Step)
        → on m (λ n. cond (nat_lt 64 n.depth) (Deep (length ts + 1)) (go true n.next ts)) (Syntax (length ts + 1)) ≡ Syntax n
        → ((m : State) → go true m ts ≡ Syntax n → go false m ts ≡ Syntax n)
        → on m (λ n. go false n.next ts) (Syntax (length ts + 1)) ≡ Syntax n
    at_move None h g = h
    at_move (Some m) h g = at_test (nat_lt 64 m.depth) _ _ h (g m.next)

-- what was refused as too deep stays so, whatever follows
pub deep_stays : (s : State) (pre : List Tok) (t : Tok) (r r' : List Tok)
    → go true s (pre ++ t ∷ r) ≡ Deep (length r + 1) → go true s (pre ++ t ∷ r') ≡ Deep (length r' + 1)
deep_stays s [] t r r' h = at_move (move s t) h
  where
    at_move : (m : Option Step)
        → on m (λ n. cond (nat_lt 64 n.depth) (Deep (length r + 1)) (go true n.next r)) (Syntax (length r + 1)) ≡ Deep (length r + 1)
        → on m (λ n. cond (nat_lt 64 n.depth) (Deep (length r' + 1)) (go true n.next r')) (Syntax (length r' + 1)) ≡ Deep (length r' + 1)
    at_move None e = cc
    at_move (Some n) e = at_test (nat_lt 64 n.depth) e
      where
        at_test : (d : Bool) → cond d (Deep (length r + 1)) (go true n.next r) ≡ Deep (length r + 1)
            → cond d (Deep (length r' + 1)) (go true n.next r') ≡ Deep (length r' + 1)
        at_test true f = refl
        at_test false f = absurd (omega (arith, go_left true n.next r, ap left f))
deep_stays s (p ∷ pre) t r r' h = at_move (move s p) h (λ n. deep_stays n pre t r r')
  where
    at_move : (m : Option Step)
        → on m (λ n. cond (nat_lt 64 n.depth) (Deep (length (pre ++ t ∷ r) + 1)) (go true n.next (pre ++ t ∷ r))) (Syntax (length (pre ++ t ∷ r) + 1)) ≡ Deep (length r + 1)
        → ((n : State) → go true n (pre ++ t ∷ r) ≡ Deep (length r + 1) → go true n (pre ++ t ∷ r') ≡ Deep (length r' + 1))
        → on m (λ n. cond (nat_lt 64 n.depth) (Deep (length (pre ++ t ∷ r') + 1)) (go true n.next (pre ++ t ∷ r'))) (Syntax (length (pre ++ t ∷ r') + 1)) ≡ Deep (length r' + 1)
    at_move None e g = cc
    at_move (Some n) e g = at_test (nat_lt 64 n.depth) e
      where
        at_test : (d : Bool) → cond d (Deep (length (pre ++ t ∷ r) + 1)) (go true n.next (pre ++ t ∷ r)) ≡ Deep (length r + 1)
            → cond d (Deep (length (pre ++ t ∷ r') + 1)) (go true n.next (pre ++ t ∷ r')) ≡ Deep (length r' + 1)
        at_test true f = absurd (omega (arith, ap left f, length-append pre (t ∷ r)))
        at_test false f = g n.next f
