-- The tokens of what is read are those that were read.
use Rattle.std.proofs.Common.{◌≡◌, ◌+◌, ℕ, zero, suc, Bool, true, false, ◌&&◌, nat_lt, List, [], ◌∷◌, ◌++◌, length, append_assoc, append-nil, Option, Some, None, refl, sym, ◌∙◌, ap, subst, cond}
use Rattle.ioa_tokens.specs.Tokens.{Tok}
use Rattle.ioa_trees.specs.Nodes.{Sort, Node, Leaf, Branch, make, alone, passes, pack, yield, yields, yield_nodes}
use Rattle.ioa_trees.specs.Grammar.{accepts, outside, deeper, Part, token, one, maybe, many, led, plain, pick, IsText}
use Rattle.ioa_phrases.specs.Machine.{Frames, Bottom, In, depth, on, State, Want, At, Done, Step, has_led, descend, have, at, descend_by, enter, checked, walk, after, move, Read, Syntax, Deep, nullable, finish, ending, go, start}
use Rattle.ioa_phrases.proofs.Sound.{read_formed}

pub yields_pack : (ns : List Node) → yield_nodes (pack ns) ≡ yields ns
yields_pack [] = refl
yields_pack (n ∷ ns) = ap (λ z. yield n ++ z) (yields_pack ns)

pub yields_append : (ns ms : List Node) → yields (ns ++ ms) ≡ yields ns ++ yields ms
yields_append [] ms = refl
yields_append (n ∷ ns) ms = ap (λ z. yield n ++ z) (yields_append ns ms) ∙ sym (append_assoc (yield n) (yields ns) (yields ms))

alone_yields : (s : Sort) (ns : List Node) → yield (alone s ns) ≡ yields ns
alone_yields s [] = refl
alone_yields s (n ∷ []) = sym (append-nil (yield n))
alone_yields s (n ∷ (m ∷ ns)) = yields_pack (n ∷ (m ∷ ns))

pub make_yields : (s : Sort) (ns : List Node) → yield (make s ns) ≡ yields ns
make_yields s ns = at_test (passes s)
  where
    at_test : (c : Bool) → yield (cond c (alone s ns) (Branch s (pack ns))) ≡ yields ns
    at_test true = alone_yields s ns
    at_test false = yields_pack ns

-- the tokens that were read on the way to a place
abbrev pub said : Frames → List Tok
said Bottom = []
said (In s done ps i k) = said k ++ yields done

abbrev pub spelled : State → List Tok
spelled (Want s k) = said k
spelled (At s done ps k) = said k ++ yields done
spelled (Done n) = yield n

one_more_said : (k : Frames) (done : List Node) (n : Node) → said k ++ yields (done ++ n ∷ []) ≡ (said k ++ yields done) ++ yield n
one_more_said k done n = ap (λ z. said k ++ z) (yields_append done (n ∷ [])) ∙ (ap (λ z. said k ++ (yields done ++ z)) (append-nil (yield n)) ∙ sym (append_assoc (said k) (yields done) (yield n)))

descend_spelled : (f : ℕ) (s : Sort) (k : Frames) → spelled (descend f s k) ≡ said k
descend_spelled zero s k = refl
descend_spelled (suc f) s k = at_led (λ p. descend_spelled f p.0 (In s [] p.1 outside k) ∙ append-nil (said k)) (has_led s) (plain s)
  where
    at_led : ((p : Sort × List Part) → spelled (descend f p.0 (In s [] p.1 outside k)) ≡ said k) → (c : Bool) (p : Option (Sort × List Part))
        → spelled (cond c (Want s k) (on p (λ p. descend f p.0 (In s [] p.1 outside k)) (Want s k))) ≡ said k
    at_led again true p = refl
    at_led again false None = refl
    at_led again false (Some p) = again p

have_spelled : (k : Frames) (n : Node) → spelled (have n k) ≡ said k ++ yield n
have_spelled Bottom n = refl
have_spelled (In s done [] i k) n =
    have_spelled k (make s (done ++ n ∷ [])) ∙ (ap (λ z. said k ++ z) (make_yields s (done ++ n ∷ [])) ∙ one_more_said k done n)
have_spelled (In s done (one r j ∷ ps) i k) n = descend_spelled 16 r (In s (done ++ n ∷ []) ps j k) ∙ one_more_said k done n
have_spelled (In s done (token c j ∷ ps) i k) n = one_more_said k done n
have_spelled (In s done (maybe r j ∷ ps) i k) n = one_more_said k done n
have_spelled (In s done (many r j ∷ ps) i k) n = one_more_said k done n

at_spelled : (s : Sort) (done : List Node) (ps : List Part) (k : Frames) → spelled (at s done ps k) ≡ said k ++ yields done
at_spelled s done [] k = have_spelled k (make s done) ∙ ap (λ z. said k ++ z) (make_yields s done)
at_spelled s done (one r j ∷ ps) k = descend_spelled 16 r (In s done ps j k)
at_spelled s done (token c j ∷ ps) k = refl
at_spelled s done (maybe r j ∷ ps) k = refl
at_spelled s done (many r j ∷ ps) k = refl

enter_spelled : (f : ℕ) (s : Sort) (t : Tok) (k : Frames) (m : State) → descend_by f s t k ≡ Some m → spelled m ≡ said k ++ t ∷ []
enter_spelled zero s t k m e = cc
enter_spelled (suc f) s t k m e =
    at_pick (λ p u. enter_spelled f p.0 t (In s [] p.1 outside k) m u ∙ ap (λ z. z ++ t ∷ []) (append-nil (said k))) (pick t (led s)) (plain s) e
  where
    at_pick : ((p : Sort × List Part) → descend_by f p.0 t (In s [] p.1 outside k) ≡ Some m → spelled m ≡ said k ++ t ∷ [])
        → (q : Option (List Part)) (p : Option (Sort × List Part))
        → on q (λ qs. Some (at s (Leaf t ∷ []) qs k)) (on p (λ p. descend_by f p.0 t (In s [] p.1 outside k)) None) ≡ Some m → spelled m ≡ said k ++ t ∷ []
    at_pick again (Some qs) p e = let same : at s (Leaf t ∷ []) qs k ≡ m = cc in subst (λ z. spelled z ≡ said k ++ t ∷ []) same (at_spelled s (Leaf t ∷ []) qs k)
    at_pick again None None e = cc
    at_pick again None (Some p) e = again p e

walk_spelled : (t : Tok) (s : Sort) (done : List Node) (k : Frames) (ps : List Part) (over : Option Step) (m : Step)
    → (over ≡ Some m → spelled m.next ≡ (said k ++ yields done) ++ t ∷ [])
    → walk t s done k ps over ≡ Some m → spelled m.next ≡ (said k ++ yields done) ++ t ∷ []
walk_spelled t s done k [] over m o e = o e
walk_spelled t s done k (token a i ∷ ps) over m o e = at_test (accepts a t) e
  where
    at_test : (x : Bool) → cond x (Some (record { next = at s (done ++ Leaf t ∷ []) ps k; depth = checked i (depth k) })) None ≡ Some m → spelled m.next ≡ (said k ++ yields done) ++ t ∷ []
    at_test true e =
        let next : at s (done ++ Leaf t ∷ []) ps k ≡ m.next = cc in
        subst (λ z. spelled z ≡ (said k ++ yields done) ++ t ∷ []) next (at_spelled s (done ++ Leaf t ∷ []) ps k ∙ one_more_said k done (Leaf t))
    at_test false e = cc
walk_spelled t s done k (one r i ∷ ps) over m o e = at_enter (enter r t (In s done ps i k)) refl e
  where
    at_enter : (x : Option State) → enter r t (In s done ps i k) ≡ x → on x (λ n. Some (record { next = n; depth = deeper i (depth k) })) None ≡ Some m → spelled m.next ≡ (said k ++ yields done) ++ t ∷ []
    at_enter None u e = cc
    at_enter (Some n) u e = let next : n ≡ m.next = cc in subst (λ z. spelled z ≡ (said k ++ yields done) ++ t ∷ []) next (enter_spelled 16 r t (In s done ps i k) n u)
walk_spelled t s done k (maybe r i ∷ ps) over m o e = at_enter (walk_spelled t s done k ps over m o) (enter r t (In s done ps i k)) refl e
  where
    at_enter : (walk t s done k ps over ≡ Some m → spelled m.next ≡ (said k ++ yields done) ++ t ∷ []) → (x : Option State) → enter r t (In s done ps i k) ≡ x → on x (λ n. Some (record { next = n; depth = 0 })) (walk t s done k ps over) ≡ Some m → spelled m.next ≡ (said k ++ yields done) ++ t ∷ []
    at_enter again None u e = again e
    at_enter again (Some n) u e = let next : n ≡ m.next = cc in subst (λ z. spelled z ≡ (said k ++ yields done) ++ t ∷ []) next (enter_spelled 16 r t (In s done ps i k) n u)
walk_spelled t s done k (many r i ∷ ps) over m o e = at_enter (walk_spelled t s done k ps over m o) (enter r t (In s done (many r i ∷ ps) i k)) refl e
  where
    at_enter : (walk t s done k ps over ≡ Some m → spelled m.next ≡ (said k ++ yields done) ++ t ∷ []) → (x : Option State) → enter r t (In s done (many r i ∷ ps) i k) ≡ x → on x (λ n. Some (record { next = n; depth = 0 })) (walk t s done k ps over) ≡ Some m → spelled m.next ≡ (said k ++ yields done) ++ t ∷ []
    at_enter again None u e = again e
    at_enter again (Some n) u e = let next : n ≡ m.next = cc in subst (λ z. spelled z ≡ (said k ++ yields done) ++ t ∷ []) next (enter_spelled 16 r t (In s done (many r i ∷ ps) i k) n u)

after_spelled : (k : Frames) (n : Node) (t : Tok) (m : Step) → after k n t ≡ Some m → spelled m.next ≡ (said k ++ yield n) ++ t ∷ []
after_spelled Bottom n t m e = cc
after_spelled (In s done ps i k) n t m e =
    walk_spelled t s (done ++ n ∷ []) k ps _ m (λ u. after_spelled k (make s (done ++ n ∷ [])) t m u ∙ ap (λ z. (said k ++ z) ++ t ∷ []) (make_yields s (done ++ n ∷ []))) e
    ∙ ap (λ z. z ++ t ∷ []) (one_more_said k done n)

pub move_spelled : (s : State) (t : Tok) (m : Step) → move s t ≡ Some m → spelled m.next ≡ spelled s ++ t ∷ []
move_spelled (Want s k) t m e = at_enter (enter s t k) refl e
  where
    at_enter : (x : Option State) → enter s t k ≡ x → on x (λ n. Some (record { next = n; depth = depth k })) None ≡ Some m → spelled m.next ≡ said k ++ t ∷ []
    at_enter None u e = cc
    at_enter (Some n) u e = let next : n ≡ m.next = cc in subst (λ z. spelled z ≡ said k ++ t ∷ []) next (enter_spelled 16 s t k n u)
move_spelled (At s done ps k) t m e =
    walk_spelled t s done k ps _ m (λ u. after_spelled k (make s done) t m u ∙ ap (λ z. (said k ++ z) ++ t ∷ []) (make_yields s done)) e
move_spelled (Done n) t m e = cc

finish_spelled : (k : Frames) (n r : Node) → finish k n ≡ Read r → said k ++ yield n ≡ yield r
finish_spelled Bottom n r e = let same : n ≡ r = cc in ap yield same
finish_spelled (In s done ps i k) n r e =
    at_test (λ u. sym (one_more_said k done n) ∙ (ap (λ z. said k ++ z) (sym (make_yields s (done ++ n ∷ []))) ∙ finish_spelled k (make s (done ++ n ∷ [])) r u)) (nullable ps) e
  where
    at_test : (finish k (make s (done ++ n ∷ [])) ≡ Read r → (said k ++ yields done) ++ yield n ≡ yield r) → (x : Bool) → cond x (finish k (make s (done ++ n ∷ []))) (Syntax 0) ≡ Read r → (said k ++ yields done) ++ yield n ≡ yield r
    at_test again true e = again e
    at_test again false e = cc

ending_spelled : (s : State) (r : Node) → ending s ≡ Read r → spelled s ≡ yield r
ending_spelled (Want s k) r e = cc
ending_spelled (At s done ps k) r e = at_test (nullable ps) e
  where
    at_test : (x : Bool) → cond x (finish k (make s done)) (Syntax 0) ≡ Read r → said k ++ yields done ≡ yield r
    at_test true e = ap (λ z. said k ++ z) (sym (make_yields s done)) ∙ finish_spelled k (make s done) r e
    at_test false e = cc
ending_spelled (Done n) r e = let same : n ≡ r = cc in ap yield same

go_spelled : (b : Bool) (s : State) (ts : List Tok) (r : Node) → go b s ts ≡ Read r → spelled s ++ ts ≡ yield r
go_spelled b s [] r e = append-nil (spelled s) ∙ ending_spelled s r e
go_spelled b s (t ∷ ts) r e = at_move (move s t) refl e (λ n. go_spelled b n ts r)
  where
    at_move : (m : Option Step) → move s t ≡ m → on m (λ n. cond (b && nat_lt 64 n.depth) (Deep (length ts + 1)) (go b n.next ts)) (Syntax (length ts + 1)) ≡ Read r
        → ((n : State) → go b n ts ≡ Read r → spelled n ++ ts ≡ yield r) → spelled s ++ t ∷ ts ≡ yield r
    at_move None u e h = cc
    at_move (Some m) u e h = at_test (b && nat_lt 64 m.depth) e
      where
        at_test : (x : Bool) → cond x (Deep (length ts + 1)) (go b m.next ts) ≡ Read r → spelled s ++ t ∷ ts ≡ yield r
        at_test true e = cc
        at_test false e = sym (append_assoc (spelled s) (t ∷ []) ts) ∙ (ap (λ z. z ++ ts) (sym (move_spelled s t m u)) ∙ h m.next e)

-- the tokens of what is read are those of the text
pub read_spells : (b : Bool) (ts : List Tok) (r : Node) → go b start ts ≡ Read r → yield r ≡ ts
read_spells b ts r e = sym (go_spelled b start ts r e)

-- a text that is read is one of the grammar
pub read_is_text : (b : Bool) (ts : List Tok) (r : Node) → go b start ts ≡ Read r → IsText b ts
read_is_text b ts r e = (r, (read_formed b ts r e, read_spells b ts r e))
