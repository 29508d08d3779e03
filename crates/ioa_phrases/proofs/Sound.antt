-- What is read is a tree of the grammar, and its tokens are those that were read.
use Rattle.std.proofs.Common.{◌≡◌, ◌≤◌, ◌+◌, ℕ, zero, suc, Bool, true, false, ◌&&◌, nat_lt, List, [], ◌∷◌, ◌++◌, length, append_assoc, append-nil, Option, Some, None, refl, sym, ◌∙◌, ap, subst, arith, cond}
use Rattle.std.proofs.lemmas.Bool.Decides.{nat_tests}
use Rattle.ioa_tokens.specs.Tokens.{Tok}
use Rattle.ioa_trees.specs.Nodes.{Sort, source, Node, Leaf, make}
use Rattle.ioa_trees.specs.Grammar.{accepts, Place, outside, first, inside, deeper, Part, token, one, maybe, many, led, plain, pick, Low, Fits, Is, Are, by_token, by_rule, a_source, end, a_token, a_rule, absent, present, no_more, one_more}
use Rattle.ioa_phrases.specs.Machine.{Frames, Bottom, In, depth, on, State, Want, At, Done, Step, has_led, descend, want, have, at, descend_by, enter, checked, walk, after, move, Read, Syntax, Deep, nullable, finish, ending, go, start}

-- With this node in its place, and any that may follow, the whole is a source.
abbrev pub Full : Bool → Frames → Node → Type 0
Full b Bottom n = Is b source 0 n
Full b (In s done ps i k) n = (ns : List Node) → Are b (depth k) ps ns → Full b k (make s (done ++ n ∷ ns))

abbrev pub Good : Bool → State → Type 0
Good b (Want s k) = Low b (depth k) → (n : Node) → Is b s (depth k) n → Full b k n
Good b (At s done ps k) = (ns : List Node) → Are b (depth k) ps ns → Full b k (make s (done ++ ns))
Good b (Done n) = Is b source 0 n

full_at : (b : Bool) (k : Frames) (s : Sort) (done : List Node) (n : Node) (ns : List Node) → Full b k (make s (done ++ n ∷ ns)) → Full b k (make s ((done ++ n ∷ []) ++ ns))
full_at b k s done n ns f = subst (λ z. Full b k (make s z)) (sym (append_assoc done (n ∷ []) ns)) f

descend_good : (b : Bool) (f : ℕ) (s : Sort) (k : Frames) → (Low b (depth k) → (n : Node) → Is b s (depth k) n → Full b k n) → Good b (descend f s k)
descend_good b zero s k h = h
descend_good b (suc f) s k h = at_led (λ p e. descend_good b f p.0 (In s [] p.1 outside k) (λ low m is ns are. h low (make s (m ∷ ns)) (by_rule p.0 p.1 m ns e is are refl))) (has_led s) (plain s) refl
  where
    at_led : ((p : Sort × List Part) → plain s ≡ Some p → Good b (descend f p.0 (In s [] p.1 outside k))) → (c : Bool) (p : Option (Sort × List Part)) → plain s ≡ p → Good b (cond c (Want s k) (on p (λ p. descend f p.0 (In s [] p.1 outside k)) (Want s k)))
    at_led again true p e = h
    at_led again false None e = h
    at_led again false (Some p) e = again p e

want_good : (b : Bool) (s : Sort) (k : Frames) → (Low b (depth k) → (n : Node) → Is b s (depth k) n → Full b k n) → Good b (want s k)
want_good b s k h = descend_good b 16 s k h

have_good : (b : Bool) (k : Frames) (n : Node) → Full b k n → Good b (have n k)
have_good b Bottom n f = f
have_good b (In s done [] i k) n f = have_good b k (make s (done ++ n ∷ [])) (f [] end)
have_good b (In s done (one r j ∷ ps) i k) n f =
    want_good b r (In s (done ++ n ∷ []) ps j k) (λ low m is ns are. full_at b k s done n (m ∷ ns) (f (m ∷ ns) (a_rule low is are)))
have_good b (In s done (token c j ∷ ps) i k) n f = λ ns are. full_at b k s done n ns (f ns are)
have_good b (In s done (maybe r j ∷ ps) i k) n f = λ ns are. full_at b k s done n ns (f ns are)
have_good b (In s done (many r j ∷ ps) i k) n f = λ ns are. full_at b k s done n ns (f ns are)

at_good : (b : Bool) (s : Sort) (done : List Node) (ps : List Part) (k : Frames)
    → ((ns : List Node) → Are b (depth k) ps ns → Full b k (make s (done ++ ns))) → Good b (at s done ps k)
at_good b s done [] k h = have_good b k (make s done) (subst (λ z. Full b k (make s z)) (append-nil done) (h [] end))
at_good b s done (one r j ∷ ps) k h = want_good b r (In s done ps j k) (λ low m is ns are. h (m ∷ ns) (a_rule low is are))
at_good b s done (token c j ∷ ps) k h = h
at_good b s done (maybe r j ∷ ps) k h = h
at_good b s done (many r j ∷ ps) k h = h

enter_good : (b : Bool) (f : ℕ) (s : Sort) (t : Tok) (k : Frames) (m : State) → ((n : Node) → Is b s (depth k) n → Full b k n)
    → descend_by f s t k ≡ Some m → Good b m
enter_good b zero s t k m h e = cc
enter_good b (suc f) s t k m h e =
    at_pick (λ p v. enter_good b f p.0 t (In s [] p.1 outside k) m (λ n is ns are. h (make s (n ∷ ns)) (by_rule p.0 p.1 n ns v is are refl))) (pick t (led s)) refl (plain s) refl e
  where
    at_pick : ((p : Sort × List Part) → plain s ≡ Some p → descend_by f p.0 t (In s [] p.1 outside k) ≡ Some m → Good b m) → (q : Option (List Part)) → pick t (led s) ≡ q → (p : Option (Sort × List Part)) → plain s ≡ p
        → on q (λ qs. Some (at s (Leaf t ∷ []) qs k)) (on p (λ p. descend_by f p.0 t (In s [] p.1 outside k)) None) ≡ Some m → Good b m
    at_pick again (Some qs) u p v e =
        let same : at s (Leaf t ∷ []) qs k ≡ m = cc in
        subst (λ z. Good b z) same (at_good b s (Leaf t ∷ []) qs k (λ ns are. h (make s (Leaf t ∷ ns)) (by_token t qs ns u are refl)))
    at_pick again None u None v e = cc
    at_pick again None u (Some p) v e = again p v e

ltb_low : (d : ℕ) → nat_lt 64 d ≡ false → d ≤ 64
ltb_low d h = grind (arith, nat_tests)

check_low : (b : Bool) (d : ℕ) → (b && nat_lt 64 d) ≡ false → Low b d
check_low true d h = ltb_low d h
check_low false d h = tt

check_fits : (b : Bool) (i : Place) (d : ℕ) → (b && nat_lt 64 (checked i d)) ≡ false → Fits b i d
check_fits b outside d h = tt
check_fits b first d h = check_low b (d + 1) h
check_fits b inside d h = tt

walk_good : (b : Bool) (t : Tok) (s : Sort) (done : List Node) (k : Frames) (ps : List Part) (over : Option Step) (m : Step)
    → ((ns : List Node) → Are b (depth k) ps ns → Full b k (make s (done ++ ns)))
    → (Full b k (make s done) → over ≡ Some m → Good b m.next)
    → walk t s done k ps over ≡ Some m → (b && nat_lt 64 m.depth) ≡ false → Good b m.next
walk_good b t s done k [] over m h o e c = o (subst (λ z. Full b k (make s z)) (append-nil done) (h [] end)) e
walk_good b t s done k (token a i ∷ ps) over m h o e c = at_test (accepts a t) refl e
  where
    at_test : (x : Bool) → accepts a t ≡ x → cond x (Some (record { next = at s (done ++ Leaf t ∷ []) ps k; depth = checked i (depth k) })) None ≡ Some m → Good b m.next
    at_test true u e =
        let next : at s (done ++ Leaf t ∷ []) ps k ≡ m.next = cc in
        let deep : checked i (depth k) ≡ m.depth = cc in
        let fits = check_fits b i (depth k) (ap (λ z. b && nat_lt 64 z) deep ∙ c) in
        subst (λ z. Good b z) next (at_good b s (done ++ Leaf t ∷ []) ps k (λ ns are. full_at b k s done (Leaf t) ns (h (Leaf t ∷ ns) (a_token fits u are))))
    at_test false u e = cc
walk_good b t s done k (one r i ∷ ps) over m h o e c = at_enter (enter r t (In s done ps i k)) refl e
  where
    at_enter : (x : Option State) → enter r t (In s done ps i k) ≡ x → on x (λ n. Some (record { next = n; depth = deeper i (depth k) })) None ≡ Some m → Good b m.next
    at_enter None u e = cc
    at_enter (Some n) u e =
        let next : n ≡ m.next = cc in
        let deep : deeper i (depth k) ≡ m.depth = cc in
        let fits = check_low b _ (ap (λ z. b && nat_lt 64 z) deep ∙ c) in
        subst (λ z. Good b z) next (enter_good b 16 r t (In s done ps i k) n (λ n is ns are. h (n ∷ ns) (a_rule fits is are)) u)
walk_good b t s done k (maybe r i ∷ ps) over m h o e c = at_enter (λ e. walk_good b t s done k ps over m (λ ns are. h ns (absent are)) o e c) (enter r t (In s done ps i k)) refl e
  where
    at_enter : (walk t s done k ps over ≡ Some m → Good b m.next) → (x : Option State) → enter r t (In s done ps i k) ≡ x → on x (λ n. Some (record { next = n; depth = 0 })) (walk t s done k ps over) ≡ Some m → Good b m.next
    at_enter again None u e = again e
    at_enter again (Some n) u e =
        let next : n ≡ m.next = cc in
        subst (λ z. Good b z) next (enter_good b 16 r t (In s done ps i k) n (λ n is ns are. h (n ∷ ns) (present is are)) u)
walk_good b t s done k (many r i ∷ ps) over m h o e c = at_enter (λ e. walk_good b t s done k ps over m (λ ns are. h ns (no_more are)) o e c) (enter r t (In s done (many r i ∷ ps) i k)) refl e
  where
    at_enter : (walk t s done k ps over ≡ Some m → Good b m.next) → (x : Option State) → enter r t (In s done (many r i ∷ ps) i k) ≡ x → on x (λ n. Some (record { next = n; depth = 0 })) (walk t s done k ps over) ≡ Some m → Good b m.next
    at_enter again None u e = again e
    at_enter again (Some n) u e =
        let next : n ≡ m.next = cc in
        subst (λ z. Good b z) next (enter_good b 16 r t (In s done (many r i ∷ ps) i k) n (λ n is ns are. h (n ∷ ns) (one_more is are)) u)

after_good : (b : Bool) (k : Frames) (n : Node) (t : Tok) (m : Step) → Full b k n → after k n t ≡ Some m → (b && nat_lt 64 m.depth) ≡ false → Good b m.next
after_good b Bottom n t m f e c = cc
after_good b (In s done ps i k) n t m f e c =
    walk_good b t s (done ++ n ∷ []) k ps _ m (λ ns are. full_at b k s done n ns (f ns are)) (λ g u. after_good b k (make s (done ++ n ∷ [])) t m g u c) e c

pub move_good : (b : Bool) (s : State) (t : Tok) (m : Step) → Good b s → move s t ≡ Some m → (b && nat_lt 64 m.depth) ≡ false → Good b m.next
move_good b (Want s k) t m g e c = at_enter (enter s t k) refl e
  where
    at_enter : (x : Option State) → enter s t k ≡ x → on x (λ n. Some (record { next = n; depth = depth k })) None ≡ Some m → Good b m.next
    at_enter None u e = cc
    at_enter (Some n) u e =
        let next : n ≡ m.next = cc in
        let deep : depth k ≡ m.depth = cc in
        subst (λ z. Good b z) next (enter_good b 16 s t k n (g (check_low b _ (ap (λ z. b && nat_lt 64 z) deep ∙ c))) u)
move_good b (At s done ps k) t m g e c = walk_good b t s done k ps _ m g (λ f u. after_good b k (make s done) t m f u c) e c
move_good b (Done n) t m g e c = cc

nullable_are : (b : Bool) (d : ℕ) (ps : List Part) → nullable ps ≡ true → Are b d ps []
nullable_are b d [] h = end
nullable_are b d (token c i ∷ ps) h = cc
nullable_are b d (one r i ∷ ps) h = cc
nullable_are b d (maybe r i ∷ ps) h = absent (nullable_are b d ps h)
nullable_are b d (many r i ∷ ps) h = no_more (nullable_are b d ps h)

finish_good : (b : Bool) (k : Frames) (n r : Node) → Full b k n → finish k n ≡ Read r → Is b source 0 r
finish_good b Bottom n r f e = let same : n ≡ r = cc in subst (λ z. Is b source 0 z) same f
finish_good b (In s done ps i k) n r f e = at_test (λ u. finish_good b k (make s (done ++ n ∷ [])) r (f [] (nullable_are b (depth k) ps u))) (nullable ps) refl e
  where
    at_test : (nullable ps ≡ true → finish k (make s (done ++ n ∷ [])) ≡ Read r → Is b source 0 r) → (x : Bool) → nullable ps ≡ x → cond x (finish k (make s (done ++ n ∷ []))) (Syntax 0) ≡ Read r → Is b source 0 r
    at_test again true u e = again u e
    at_test again false u e = cc

ending_good : (b : Bool) (s : State) (r : Node) → Good b s → ending s ≡ Read r → Is b source 0 r
ending_good b (Want s k) r g e = cc
ending_good b (At s done ps k) r g e = at_test (nullable ps) refl e
  where
    at_test : (x : Bool) → nullable ps ≡ x → cond x (finish k (make s done)) (Syntax 0) ≡ Read r → Is b source 0 r
    at_test true u e = finish_good b k (make s done) r (subst (λ z. Full b k (make s z)) (append-nil done) (g [] (nullable_are b (depth k) ps u))) e
    at_test false u e = cc
ending_good b (Done n) r g e = let same : n ≡ r = cc in subst (λ z. Is b source 0 z) same g

go_good : (b : Bool) (s : State) (ts : List Tok) (r : Node) → Good b s → go b s ts ≡ Read r → Is b source 0 r
go_good b s [] r g e = ending_good b s r g e
go_good b s (t ∷ ts) r g e = at_move (move s t) refl e (λ n. go_good b n ts r)
  where
    at_move : (m : Option Step) → move s t ≡ m → on m (λ n. cond (b && nat_lt 64 n.depth) (Deep (length ts + 1)) (go b n.next ts)) (Syntax (length ts + 1)) ≡ Read r
        → ((n : State) → Good b n → go b n ts ≡ Read r → Is b source 0 r) → Is b source 0 r
    at_move None u e h = cc
    at_move (Some m) u e h = at_test (b && nat_lt 64 m.depth) refl e
      where
        at_test : (x : Bool) → (b && nat_lt 64 m.depth) ≡ x → cond x (Deep (length ts + 1)) (go b m.next ts) ≡ Read r → Is b source 0 r
        at_test true v e = cc
        at_test false v e = h m.next (move_good b s t m g u v) e

pub start_good : (b : Bool) → Good b start
start_good b = λ ns are. a_source ns are refl

-- what is read is a tree of the grammar, within the limit where there is one
pub read_formed : (b : Bool) (ts : List Tok) (r : Node) → go b start ts ≡ Read r → Is b source 0 r
read_formed b ts r e = go_good b start ts r (start_good b) e
