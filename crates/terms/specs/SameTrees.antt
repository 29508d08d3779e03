-- Whether two types, terms or effects are the same tree.
use Rattle.std.specs.Prelude.{ℕ, suc, Bool as Truth, true, false, ◌&&◌, nat_eq, List, [], ◌∷◌}
use Rattle.std.specs.Ordering.{int_eq}
use Rattle.terms.specs.ShapeTree.{ShapeTree}
use Rattle.terms.specs.ShapeTree as shape
use Rattle.terms.specs.TermTree.{TermTree, LinkTree}
use Rattle.terms.specs.TermTree as term
use Rattle.terms.specs.EffectTree.{EffectTree, PartTree}
use Rattle.terms.specs.EffectTree as effect
use Rattle.terms.specs.contracts.scalar.ScalarPartialEq.TheImpl as scalar_eq
use Rattle.terms.specs.contracts.scalar.ListedPartialEq.TheImpl as listed_eq
use Rattle.terms.specs.contracts.term.OperatorPartialEq.TheImpl as operator_eq

abbrev pub same_shape : ShapeTree → ShapeTree → Truth
same_shape shape.Int shape.Int = true
same_shape (shape.Range low high) (shape.Range low' high') = int_eq low low' && int_eq high high'
same_shape (shape.Listed listed) (shape.Listed listed') = listed_eq.ghosts.eq listed listed'
same_shape (shape.Seq item room) (shape.Seq item' room') = same_shape item item' && nat_eq room room'
same_shape (shape.Array index item) (shape.Array index' item') = listed_eq.ghosts.eq index index' && same_shape item item'
same_shape one other = false

abbrev pub same_term : TermTree → TermTree → Truth
same_term (term.Known a) (term.Known b) = scalar_eq.ghosts.eq a b
same_term (term.Formal m) (term.Formal n) = nat_eq m n
same_term (term.Parameter m) (term.Parameter n) = nat_eq m n
same_term (term.Loop m) (term.Loop n) = nat_eq m n
same_term (term.Cell m) (term.Cell n) = nat_eq m n
same_term (term.Not a) (term.Not b) = same_term a b
same_term (term.Negative a) (term.Negative b) = same_term a b
same_term (term.Modulo a k) (term.Modulo b l) = same_term a b && int_eq k l
same_term (term.Nearest a low high) (term.Nearest b low' high') = same_term a b && (int_eq low low' && int_eq high high')
same_term (term.Binary o a b) (term.Binary p c d) = operator_eq.ghosts.eq o p && (same_term a c && same_term b d)
same_term (term.Length a) (term.Length b) = same_term a b
same_term (term.Head a item) (term.Head b item') = same_term a b && same_shape item item'
same_term (term.Tail a) (term.Tail b) = same_term a b
same_term (term.Append a b m) (term.Append c d n) = same_term a c && (same_term b d && nat_eq m n)
same_term (term.Index a b index) (term.Index c d index') = same_term a c && (same_term b d && listed_eq.ghosts.eq index index')
same_term term.Empty term.Empty = true
same_term (term.Fill m a) (term.Fill n b) = nat_eq m n && same_term a b
same_term one other = false

-- how many operators stand behind one another, from the left
abbrev pub spine : TermTree → ℕ
spine (term.Binary operator left right) = suc (spine left)
spine (term.Modulo left divisor) = suc (spine left)
spine other = 0

abbrev pub same_link : LinkTree → LinkTree → Truth
same_link (term.On o b) (term.On p d) = operator_eq.ghosts.eq o p && same_term b d
same_link (term.Remainder k) (term.Remainder l) = int_eq k l
same_link one other = false

abbrev pub same_links : List LinkTree → List LinkTree → Truth
same_links [] [] = true
same_links (link ∷ links) (other ∷ others) = same_link link other && same_links links others
same_links one other = false

abbrev pub same_effect : EffectTree → EffectTree → Truth
same_effect effect.Nothing effect.Nothing = true
same_effect (effect.Assign m a) (effect.Assign n b) = nat_eq m n && same_term a b
same_effect (effect.AssignItem m a index b) (effect.AssignItem n c index' d) = nat_eq m n && (same_term a c && (listed_eq.ghosts.eq index index' && same_term b d))
same_effect (effect.Then e f) (effect.Then g h) = same_effect e g && same_effect f h
same_effect (effect.If a e f) (effect.If b g h) = same_term a b && (same_effect e g && same_effect f h)
same_effect (effect.For m index e) (effect.For n index' f) = nat_eq m n && (listed_eq.ghosts.eq index index' && same_effect e f)
same_effect one other = false

-- how many parts something follows, one after the other
abbrev pub tail : EffectTree → ℕ
tail (effect.Then first second) = suc (tail second)
tail (effect.If test body otherwise) = suc (tail otherwise)
tail other = 0

abbrev pub same_part : PartTree → PartTree → Truth
same_part (effect.Before e) (effect.Before f) = same_effect e f
same_part (effect.Branch t e) (effect.Branch u f) = same_term t u && same_effect e f
same_part one other = false

abbrev pub same_parts : List PartTree → List PartTree → Truth
same_parts [] [] = true
same_parts (part ∷ parts) (other ∷ others) = same_part part other && same_parts parts others
same_parts one other = false
