-- Comparing trees tells exactly whether they are the same.
use Rattle.std.specs.Prelude.{◌≡◌, ◌+◌, ℕ, suc, ℤ, Bool as Truth, true, false, ◌&&◌, nat_eq, List, [], ◌∷◌, length, refl}
use Rattle.std.specs.Bool.{Decides}
use Rattle.std.specs.Ordering.{int_eq}
use Rattle.std.specs.Cmp.{IsEquivalence}
use Rattle.std.proofs.Common.{ap, sym, ◌∙◌, rules, arith, subst, true≢false}
use Rattle.std.proofs.lemmas.Grind.{common_steps}
use Rattle.std.proofs.lemmas.Bool.Decides.{Decides-eqb, Decides-int_eq}
use Rattle.terms.specs.Same.{scalar_is, scalar_refl}
use Rattle.terms.specs.SameTrees.{same_shape, same_term, same_link, same_links, spine, same_effect, same_part, same_parts, tail}
use Rattle.terms.specs.ShapeTree.{ShapeTree}
use Rattle.terms.specs.ShapeTree as shape
use Rattle.terms.specs.TermTree.{TermTree, LinkTree, linked, term_tree}
use Rattle.terms.specs.TermTree as term
use Rattle.terms.specs.EffectTree.{EffectTree, PartTree, followed, ended, effect_tree}
use Rattle.terms.specs.EffectTree as effect
use Rattle.terms.specs.declared.scalar.Listed.{Listed}
use Rattle.terms.specs.declared.term.Term.{Term}
use Rattle.terms.specs.declared.effect.Effect.{Effect}
use Rattle.terms.specs.declared.term.Operator.{Operator}
use Rattle.terms.specs.contracts.scalar.ListedPartialEq.TheImpl as listed_eq
use Rattle.terms.specs.contracts.term.OperatorPartialEq.TheImpl as operator_eq

pub both_true : (a b : Truth) → a && b ≡ true → (a ≡ true) × (b ≡ true)
both_true true b h = (refl, h)
both_true false b h = cc

pub both_by : (a b : Truth) → a ≡ true → b ≡ true → a && b ≡ true
both_by a b h k = rw (h, k) refl

pub number_is : (m n : ℕ) → nat_eq m n ≡ true → m ≡ n
number_is m n h = (Decides-eqb m n).0 h

pub number_refl : (n : ℕ) → nat_eq n n ≡ true
number_refl n = (Decides-eqb n n).1 refl

int_is : (m n : ℤ) → int_eq m n ≡ true → m ≡ n
int_is m n h = (Decides-int_eq m n).0 h

int_refl : (n : ℤ) → int_eq n n ≡ true
int_refl n = (Decides-int_eq n n).1 refl

listed_is : (a b : Listed) → listed_eq.ghosts.eq a b ≡ true → a ≡ b
listed_is a b h = first_of (search rules, grind (arith, common_steps))

listed_refl : (a : Listed) → listed_eq.ghosts.eq a a ≡ true
listed_refl a = first_of (search rules, grind (arith, common_steps))

operator_is : (a b : Operator) → operator_eq.ghosts.eq a b ≡ true → a ≡ b
operator_is a b h = first_of (search rules, grind (arith, common_steps))

operator_refl : (a : Operator) → operator_eq.ghosts.eq a a ≡ true
operator_refl a = first_of (search rules, grind (arith, common_steps))

pub shape_is : (a b : ShapeTree) → same_shape a b ≡ true → a ≡ b
shape_is shape.Int shape.Int h = refl
shape_is (shape.Range low high) (shape.Range low' high') h =
    let parts = both_true (int_eq low low') (int_eq high high') h in
    let first = int_is low low' parts.0 in
    let last = int_is high high' parts.1 in
    λ i. shape.Range (first i) (last i)
shape_is (shape.Listed index) (shape.Listed index') h = ap shape.Listed (listed_is index index' h)
shape_is (shape.Seq item room) (shape.Seq item' room') h =
    let parts = both_true (same_shape item item') (nat_eq room room') h in
    let same = shape_is item item' parts.0 in
    let rooms = number_is room room' parts.1 in
    λ i. shape.Seq (same i) (rooms i)
shape_is (shape.Array index item) (shape.Array index' item') h =
    let parts = both_true (listed_eq.ghosts.eq index index') (same_shape item item') h in
    let types = listed_is index index' parts.0 in
    let same = shape_is item item' parts.1 in
    λ i. shape.Array (types i) (same i)
shape_is one other h = cc

pub shape_refl : (a : ShapeTree) → same_shape a a ≡ true
shape_refl shape.Int = refl
shape_refl (shape.Range low high) = both_by _ _ (int_refl low) (int_refl high)
shape_refl (shape.Listed index) = listed_refl index
shape_refl (shape.Seq item room) = both_by _ _ (shape_refl item) (number_refl room)
shape_refl (shape.Array index item) = both_by _ _ (listed_refl index) (shape_refl item)

pub term_is : (a b : TermTree) → same_term a b ≡ true → a ≡ b
term_is (term.Known a) (term.Known b) h = ap term.Known (scalar_is a b h)
term_is (term.Formal m) (term.Formal n) h = ap term.Formal (number_is m n h)
term_is (term.Parameter m) (term.Parameter n) h = ap term.Parameter (number_is m n h)
term_is (term.Loop m) (term.Loop n) h = ap term.Loop (number_is m n h)
term_is (term.Cell m) (term.Cell n) h = ap term.Cell (number_is m n h)
term_is (term.Not a) (term.Not b) h = ap term.Not (term_is a b h)
term_is (term.Negative a) (term.Negative b) h = ap term.Negative (term_is a b h)
term_is (term.Modulo a k) (term.Modulo b l) h =
    let parts = both_true (same_term a b) (int_eq k l) h in
    let same = term_is a b parts.0 in
    let divisors = int_is k l parts.1 in
    λ i. term.Modulo (same i) (divisors i)
term_is (term.Nearest a low high) (term.Nearest b low' high') h =
    let parts = both_true (same_term a b) (int_eq low low' && int_eq high high') h in
    let ends = both_true (int_eq low low') (int_eq high high') parts.1 in
    let same = term_is a b parts.0 in
    let first = int_is low low' ends.0 in
    let last = int_is high high' ends.1 in
    λ i. term.Nearest (same i) (first i) (last i)
term_is (term.Binary o a b) (term.Binary p c d) h =
    let parts = both_true (operator_eq.ghosts.eq o p) (same_term a c && same_term b d) h in
    let sides = both_true (same_term a c) (same_term b d) parts.1 in
    let operator = operator_is o p parts.0 in
    let left = term_is a c sides.0 in
    let right = term_is b d sides.1 in
    λ i. term.Binary (operator i) (left i) (right i)
term_is (term.Length a) (term.Length b) h = ap term.Length (term_is a b h)
term_is (term.Head a item) (term.Head b item') h =
    let parts = both_true (same_term a b) (same_shape item item') h in
    let same = term_is a b parts.0 in
    let types = shape_is item item' parts.1 in
    λ i. term.Head (same i) (types i)
term_is (term.Tail a) (term.Tail b) h = ap term.Tail (term_is a b h)
term_is (term.Append a b m) (term.Append c d n) h =
    let parts = both_true (same_term a c) (same_term b d && nat_eq m n) h in
    let others = both_true (same_term b d) (nat_eq m n) parts.1 in
    let same = term_is a c parts.0 in
    let last = term_is b d others.0 in
    let rooms = number_is m n others.1 in
    λ i. term.Append (same i) (last i) (rooms i)
term_is (term.Index a b index) (term.Index c d index') h =
    let parts = both_true (same_term a c) (same_term b d && listed_eq.ghosts.eq index index') h in
    let others = both_true (same_term b d) (listed_eq.ghosts.eq index index') parts.1 in
    let same = term_is a c parts.0 in
    let at = term_is b d others.0 in
    let types = listed_is index index' others.1 in
    λ i. term.Index (same i) (at i) (types i)
term_is term.Empty term.Empty h = refl
term_is (term.Fill m a) (term.Fill n b) h =
    let parts = both_true (nat_eq m n) (same_term a b) h in
    let counts = number_is m n parts.0 in
    let same = term_is a b parts.1 in
    λ i. term.Fill (counts i) (same i)
term_is one other h = cc

pub term_refl : (a : TermTree) → same_term a a ≡ true
term_refl (term.Known a) = scalar_refl a
term_refl (term.Formal n) = number_refl n
term_refl (term.Parameter n) = number_refl n
term_refl (term.Loop n) = number_refl n
term_refl (term.Cell n) = number_refl n
term_refl (term.Not a) = term_refl a
term_refl (term.Negative a) = term_refl a
term_refl (term.Modulo a k) = both_by _ _ (term_refl a) (int_refl k)
term_refl (term.Nearest a low high) = both_by _ _ (term_refl a) (both_by _ _ (int_refl low) (int_refl high))
term_refl (term.Binary o a b) = both_by _ _ (operator_refl o) (both_by _ _ (term_refl a) (term_refl b))
term_refl (term.Length a) = term_refl a
term_refl (term.Head a item) = both_by _ _ (term_refl a) (shape_refl item)
term_refl (term.Tail a) = term_refl a
term_refl (term.Append a b room) = both_by _ _ (term_refl a) (both_by _ _ (term_refl b) (number_refl room))
term_refl (term.Index a b index) = both_by _ _ (term_refl a) (both_by _ _ (term_refl b) (listed_refl index))
term_refl term.Empty = refl
term_refl (term.Fill count a) = both_by _ _ (number_refl count) (term_refl a)

pub effect_is : (a b : EffectTree) → same_effect a b ≡ true → a ≡ b
effect_is effect.Nothing effect.Nothing h = refl
effect_is (effect.Assign m a) (effect.Assign n b) h =
    let parts = both_true (nat_eq m n) (same_term a b) h in
    let cells = number_is m n parts.0 in
    let same = term_is a b parts.1 in
    λ i. effect.Assign (cells i) (same i)
effect_is (effect.AssignItem m a index b) (effect.AssignItem n c index' d) h =
    let parts = both_true (nat_eq m n) (same_term a c && (listed_eq.ghosts.eq index index' && same_term b d)) h in
    let others = both_true (same_term a c) (listed_eq.ghosts.eq index index' && same_term b d) parts.1 in
    let rest = both_true (listed_eq.ghosts.eq index index') (same_term b d) others.1 in
    let cells = number_is m n parts.0 in
    let at = term_is a c others.0 in
    let types = listed_is index index' rest.0 in
    let same = term_is b d rest.1 in
    λ i. effect.AssignItem (cells i) (at i) (types i) (same i)
effect_is (effect.Then a b) (effect.Then c d) h =
    let parts = both_true (same_effect a c) (same_effect b d) h in
    let first = effect_is a c parts.0 in
    let second = effect_is b d parts.1 in
    λ i. effect.Then (first i) (second i)
effect_is (effect.If a b c) (effect.If a' b' c') h =
    let parts = both_true (same_term a a') (same_effect b b' && same_effect c c') h in
    let others = both_true (same_effect b b') (same_effect c c') parts.1 in
    let test = term_is a a' parts.0 in
    let body = effect_is b b' others.0 in
    let otherwise = effect_is c c' others.1 in
    λ i. effect.If (test i) (body i) (otherwise i)
effect_is (effect.For m index a) (effect.For n index' b) h =
    let parts = both_true (nat_eq m n) (listed_eq.ghosts.eq index index' && same_effect a b) h in
    let others = both_true (listed_eq.ghosts.eq index index') (same_effect a b) parts.1 in
    let slots = number_is m n parts.0 in
    let types = listed_is index index' others.0 in
    let body = effect_is a b others.1 in
    λ i. effect.For (slots i) (types i) (body i)
effect_is one other h = cc

pub effect_refl : (a : EffectTree) → same_effect a a ≡ true
effect_refl effect.Nothing = refl
effect_refl (effect.Assign n a) = both_by _ _ (number_refl n) (term_refl a)
effect_refl (effect.AssignItem n a index b) = both_by _ _ (number_refl n) (both_by _ _ (term_refl a) (both_by _ _ (listed_refl index) (term_refl b)))
effect_refl (effect.Then a b) = both_by _ _ (effect_refl a) (effect_refl b)
effect_refl (effect.If a b c) = both_by _ _ (term_refl a) (both_by _ _ (effect_refl b) (effect_refl c))
effect_refl (effect.For n index a) = both_by _ _ (number_refl n) (both_by _ _ (listed_refl index) (effect_refl a))

module _ {A : Type 0} (same : A → A → Truth) (same_is : (a b : A) → same a b ≡ true → a ≡ b) (same_refl : (a : A) → same a a ≡ true) where
  -- what is true only of equals, and of each with itself, decides equality
  pub decides_by : (a b : A) → Decides (same a b) (a ≡ b)
  decides_by a b = (same_is a b, λ e. subst (λ (x : A). same a x ≡ true) e (same_refl a))

  symm_by : (a b : A) → same a b ≡ same b a
  symm_by a b = go (same a b) refl (same b a) refl where
    go : (s : Truth) → same a b ≡ s → (t : Truth) → same b a ≡ t → same a b ≡ same b a
    go true h t k = h ∙ sym (subst (λ (x : A). same x a ≡ true) (same_is a b h) (same_refl a))
    go false h true k = subst (λ (x : A). same x b ≡ true) (same_is b a k) (same_refl b) ∙ sym k
    go false h false k = h ∙ sym k

  pub equivalence_by : IsEquivalence same
  equivalence_by = record {
    refl = same_refl;
    symm = symm_by;
    congr = λ a b c h. ap (λ (x : A). same x c) (same_is a b h);
  }

-- what decides equality of trees compares what stands for them too
equivalence_over : {A B : Type 0} (tree : A → B) (same : B → B → Truth) → IsEquivalence same → IsEquivalence (λ (a b : A). same (tree a) (tree b))
equivalence_over tree same laws = record {
  refl = λ a. laws.refl (tree a);
  symm = λ a b. laws.symm (tree a) (tree b);
  congr = λ a b c h. laws.congr (tree a) (tree b) (tree c) h;
}

pub term_laws : IsEquivalence (λ (a b : Term). same_term (term_tree a) (term_tree b))
term_laws = equivalence_over term_tree same_term (equivalence_by same_term term_is term_refl)

pub effect_laws : IsEquivalence (λ (a b : Effect). same_effect (effect_tree a) (effect_tree b))
effect_laws = equivalence_over effect_tree same_effect (equivalence_by same_effect effect_is effect_refl)

pub term_decides : (a b : TermTree) → Decides (same_term a b) (a ≡ b)
term_decides = decides_by same_term term_is term_refl

pub shape_decides : (a b : ShapeTree) → Decides (same_shape a b) (a ≡ b)
shape_decides = decides_by same_shape shape_is shape_refl

pub effect_decides : (a b : EffectTree) → Decides (same_effect a b) (a ≡ b)
effect_decides = decides_by same_effect effect_is effect_refl

and_true : (a : Truth) → a ≡ a && true
and_true true = refl
and_true false = refl

and_false : (a : Truth) → a && false ≡ false
and_false true = refl
and_false false = refl

and_assoc : (a b c : Truth) → (a && b) && c ≡ a && (b && c)
and_assoc true b c = refl
and_assoc false b c = refl

and_moved : (a b c d : Truth) → (a && (b && c)) && d ≡ b && ((a && c) && d)
and_moved true b c d = and_assoc b c d
and_moved false true c d = refl
and_moved false false c d = refl

and_fourth : (a b c d : Truth) → a && (b && (c && d)) ≡ ((a && b) && c) && d
and_fourth true b c d = sym (and_assoc b c d)
and_fourth false b c d = refl

zero_suc : {n : ℕ} → 0 ≡ suc n → ⊥
zero_suc h = omega (arith, h)

pub not_true : (a : Truth) → (a ≡ true → ⊥) → a ≡ false
not_true true h = absurd (h refl)
not_true false h = refl

both_false : (a b c : Truth) → a ≡ false → (b && c ≡ true → ⊥) → a ≡ b && c
both_false a b c h k = h ∙ sym (not_true (b && c) k)

spine_linked : (t : TermTree) (ls : List LinkTree) → spine (linked t ls) ≡ length ls + spine t
spine_linked t [] = omega arith
spine_linked t (term.On o b ∷ ls) = omega (arith, spine_linked (term.Binary o t b) ls)
spine_linked t (term.Remainder k ∷ ls) = omega (arith, spine_linked (term.Modulo t k) ls)

pub links_long : (ls ms : List LinkTree) → same_links ls ms ≡ true → length ls ≡ length ms
links_long [] [] h = refl
links_long [] (m ∷ ms) h = cc
links_long (l ∷ ls) [] h = cc
links_long (l ∷ ls) (m ∷ ms) h = ap suc (links_long ls ms (both_true (same_link l m) (same_links ls ms) h).1)

-- terms with as many links are the same where they begin alike and go on alike
as_long : (t u : TermTree) (ls ms : List LinkTree) → length ls ≡ length ms → same_term (linked t ls) (linked u ms) ≡ same_term t u && same_links ls ms
as_long t u [] [] h = and_true (same_term t u)
as_long t u [] (m ∷ ms) h = absurd (omega (arith, h))
as_long t u (l ∷ ls) [] h = absurd (omega (arith, h))
as_long t u (term.On o b ∷ ls) (term.On p d ∷ ms) h =
    as_long (term.Binary o t b) (term.Binary p u d) ls ms (omega (arith, h))
    ∙ and_moved (operator_eq.ghosts.eq o p) (same_term t u) (same_term b d) (same_links ls ms)
as_long t u (term.On o b ∷ ls) (term.Remainder l ∷ ms) h =
    as_long (term.Binary o t b) (term.Modulo u l) ls ms (omega (arith, h)) ∙ sym (and_false (same_term t u))
as_long t u (term.Remainder k ∷ ls) (term.On p d ∷ ms) h =
    as_long (term.Modulo t k) (term.Binary p u d) ls ms (omega (arith, h)) ∙ sym (and_false (same_term t u))
as_long t u (term.Remainder k ∷ ls) (term.Remainder l ∷ ms) h =
    as_long (term.Modulo t k) (term.Modulo u l) ls ms (omega (arith, h)) ∙ and_assoc (same_term t u) (int_eq k l) (same_links ls ms)

-- terms that begin with operands are the same where they begin alike and go on alike
pub linked_same : (t u : TermTree) → spine t ≡ 0 → spine u ≡ 0 → (ls ms : List LinkTree) → same_term (linked t ls) (linked u ms) ≡ same_term t u && same_links ls ms
linked_same t u h k ls ms = go (nat_eq (length ls) (length ms)) refl where
  go : (b : Truth) → nat_eq (length ls) (length ms) ≡ b → same_term (linked t ls) (linked u ms) ≡ same_term t u && same_links ls ms
  go true e = as_long t u ls ms (number_is (length ls) (length ms) e)
  go false e =
      let apart : length ls ≡ length ms → ⊥ = λ f. true≢false (sym (subst (λ n. nat_eq (length ls) n ≡ true) f (number_refl (length ls))) ∙ e) in
      both_false (same_term (linked t ls) (linked u ms)) (same_term t u) (same_links ls ms)
      (not_true (same_term (linked t ls) (linked u ms)) (λ s. apart (omega (arith, ap spine (term_is (linked t ls) (linked u ms) s), spine_linked t ls, spine_linked u ms, h, k))))
      (λ s. apart (links_long ls ms (both_true (same_term t u) (same_links ls ms) s).1))

x_apart : (x : EffectTree) (p : PartTree) (rest : EffectTree) → tail x ≡ 0 → same_effect x (followed p rest) ≡ false
x_apart x (effect.Before e) rest h = not_true (same_effect x (effect.Then e rest)) (λ s. zero_suc (sym h ∙ ap tail (effect_is x (effect.Then e rest) s)))
x_apart x (effect.Branch t e) rest h = not_true (same_effect x (effect.If t e rest)) (λ s. zero_suc (sym h ∙ ap tail (effect_is x (effect.If t e rest) s)))

apart_x : (x : EffectTree) (p : PartTree) (rest : EffectTree) → tail x ≡ 0 → same_effect (followed p rest) x ≡ false
apart_x x (effect.Before e) rest h = not_true (same_effect (effect.Then e rest) x) (λ s. zero_suc (sym h ∙ ap tail (sym (effect_is (effect.Then e rest) x s))))
apart_x x (effect.Branch t e) rest h = not_true (same_effect (effect.If t e rest) x) (λ s. zero_suc (sym h ∙ ap tail (sym (effect_is (effect.If t e rest) x s))))

-- effects that end with what has no parts are the same where their parts and their ends are
pub ended_same : (ps qs : List PartTree) (x y : EffectTree) → tail x ≡ 0 → tail y ≡ 0 → same_effect (ended ps x) (ended qs y) ≡ same_parts ps qs && same_effect x y
ended_same [] [] x y h k = refl
ended_same [] (q ∷ qs) x y h k = x_apart x q (ended qs y) h
ended_same (p ∷ ps) [] x y h k = apart_x y p (ended ps x) k
ended_same (effect.Before e ∷ ps) (effect.Before f ∷ qs) x y h k =
    ap (λ b. same_effect e f && b) (ended_same ps qs x y h k) ∙ sym (and_assoc (same_effect e f) (same_parts ps qs) (same_effect x y))
ended_same (effect.Before e ∷ ps) (effect.Branch u f ∷ qs) x y h k = refl
ended_same (effect.Branch t e ∷ ps) (effect.Before f ∷ qs) x y h k = refl
ended_same (effect.Branch t e ∷ ps) (effect.Branch u f ∷ qs) x y h k =
    ap (λ b. same_term t u && (same_effect e f && b)) (ended_same ps qs x y h k)
    ∙ and_fourth (same_term t u) (same_effect e f) (same_parts ps qs) (same_effect x y)

pub parts_long : (ps qs : List PartTree) → same_parts ps qs ≡ true → length ps ≡ length qs
parts_long [] [] h = refl
parts_long [] (q ∷ qs) h = cc
parts_long (p ∷ ps) [] h = cc
parts_long (p ∷ ps) (q ∷ qs) h = ap suc (parts_long ps qs (both_true (same_part p q) (same_parts ps qs) h).1)
