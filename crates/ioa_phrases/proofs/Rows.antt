-- Moves over lists of one rule.
use Rattle.std.proofs.Common.{◌≡◌, ◌+◌, ◌==◌, suc, Bool, true, false, nat_lt, map, List, [], ◌∷◌, ◌++◌, append_assoc, length, Some, refl, sym, ◌∙◌, ap, subst, cond, arith}
use Rattle.std.specs.Prelude.{Result, Ok, Err, IsErr}
use Rattle.std.specs.Result.{IsErrAnd}
use Rattle.ioa_tokens.specs.Tokens.{Tok, toks_of}
use Rattle.ioa_tokens.specs.declared.Token.{Token}
use Rattle.ioa_phrases.specs.declared.stop.Stop.{Stop}
use Rattle.ioa_phrases.specs.Blocks.{Goes}
use Rattle.ioa_trees.specs.Nodes.{Sort, Node, source}
use Rattle.ioa_trees.specs.Grammar.{Part, many, outside}
use Rattle.ioa_phrases.specs.Machine.{Frames, Bottom, Done, In, at, depth, descend_by, State, At, on, want, move, go, Syntax, Deep}
use Rattle.ioa_phrases.specs.Reads.{Stops, front_starts}
use Rattle.ioa_phrases.proofs.Told.{move_want}
use Rattle.ioa_phrases.proofs.Moves.{low_depth, some_start}

-- one more begins as the first did
pub many_enters : (z r : Sort) (done : List Node) (ps : List Part) (k : Frames) (ts : List Tok) → front_starts r ts ≡ true → depth k ≡ 0
    → go true (At z done (many r outside ∷ ps) k) ts ≡ go true (want r (In z done (many r outside ∷ ps) outside k)) ts
many_enters z r done ps k [] h d = cc
many_enters z r done ps k (t ∷ ts) h d =
    let w = some_start 16 r t (In z done (many r outside ∷ ps) outside k) h in
    let low : nat_lt 64 (depth k) ≡ false = low_depth 0 k d (omega arith) in
    before w.0 w.1 ∙ sym (after w.0 w.1 low)
  where
    before : (m : State) → descend_by 16 r t (In z done (many r outside ∷ ps) outside k) ≡ Some m → go true (At z done (many r outside ∷ ps) k) (t ∷ ts) ≡ go true m ts
    before m e = rw e refl

    entered : (m : State) → descend_by 16 r t (In z done (many r outside ∷ ps) outside k) ≡ Some m
        → move (want r (In z done (many r outside ∷ ps) outside k)) t ≡ Some (record { next = m; depth = depth k })
    entered m e = move_want r t (In z done (many r outside ∷ ps) outside k) ∙ rw e refl

    after : (m : State) → descend_by 16 r t (In z done (many r outside ∷ ps) outside k) ≡ Some m → nat_lt 64 (depth k) ≡ false
        → go true (want r (In z done (many r outside ∷ ps) outside k)) (t ∷ ts) ≡ go true m ts
    after m e l = ap (λ z. on z (λ m. cond (nat_lt 64 m.depth) (Deep (length ts + 1)) (go true m.next ts)) (Syntax (length ts + 1))) (entered m e) ∙ rw l refl

pub some_push : {A : Type 0} (f : A → Node) (done : List Node) (xs : List A) (x : A) → (done ++ map f xs) ++ f x ∷ [] ≡ done ++ map f (xs ++ x ∷ [])
some_push {A = A} f done xs x = append_assoc done (map f xs) (f x ∷ []) ∙ ap (λ z. done ++ z) (sym (pushed xs))
  where
    pushed : (xs : List A) → map f (xs ++ x ∷ []) ≡ map f xs ++ f x ∷ []
    pushed [] = refl
    pushed (y ∷ xs) = ap (λ z. f y ∷ z) (pushed xs)

-- a reader stops where the one that it called does
pub goes_stops : {Y : Type 0} (n : Y → List Node) (rest : Y → List Tok) (from to : List Part) (ts : List Tok) (r : Result Y Stop) (e : Stop) → IsErr r → IsErrAnd r (λ x. x ≡ e)
    → ((done : List Node) → Stops e (go true (at source done from Bottom) ts)) → Goes n rest from to ts r
goes_stops n rest from to ts (Ok y) e h same f = cc
goes_stops n rest from to ts (Err x) e h same f = λ done. subst (λ z. Stops z (go true (at source done from Bottom) ts)) (sym same) (f done)

-- what is left over behind a whole source
pub left_over : (n : Node) (rest : List Token) (empty : Bool) → empty ≡ (length rest == 0) → empty ≡ false → go true (Done n) (toks_of rest) ≡ Syntax (length rest)
left_over n [] empty e h = let a : true ≡ false = sym e ∙ h in cc
left_over n (t ∷ rest) empty e h = ap (λ z. Syntax z) (omega (arith, counted rest))
  where
    counted : (rest : List Token) → length (toks_of rest) ≡ length rest
    counted [] = refl
    counted (t ∷ rest) = ap suc (counted rest)
