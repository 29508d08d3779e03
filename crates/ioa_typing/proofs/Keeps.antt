-- The least fault after lists of faults, one after the other.
use Rattle.std.proofs.Common.{◌≡◌, Option, List, [], ◌∷◌, ◌++◌, refl, ap, sym, ◌∙◌}
use Rattle.ioa_trees.specs.Faults.{Fault, keep, note}

pub keep_append : (o : Option Fault) (fs gs : List Fault) → keep o (fs ++ gs) ≡ keep (keep o fs) gs
keep_append o [] gs = refl
keep_append o (f ∷ fs) gs = keep_append (note f o) fs gs

-- one list after another
pub keep_both : (o p q : Option Fault) (fs gs hs : List Fault) → p ≡ keep o fs → gs ≡ hs → q ≡ keep p gs → q ≡ keep o (fs ++ hs)
keep_both o p q fs gs hs first same second = second ∙ ap (λ x. keep x gs) first ∙ ap (λ xs. keep (keep o fs) xs) same ∙ sym (keep_append o fs hs)

-- two lists and what follows
pub keep_three : (o p q z : Option Fault) (fs gs hs rest : List Fault) → p ≡ keep o fs → gs ≡ hs → q ≡ keep p gs → z ≡ keep q rest → z ≡ keep o (fs ++ (hs ++ rest))
keep_three o p q z fs gs hs rest first same second third =
    third ∙ ap (λ x. keep x rest) second ∙ sym (keep_append p gs rest) ∙ ap (λ xs. keep p (xs ++ rest)) same ∙ ap (λ x. keep x (hs ++ rest)) first ∙ sym (keep_append o fs (hs ++ rest))

-- two lists and what follows, where the rest is spoken of at another place
pub keep_parts : (o p q z : Option Fault) (fs gs hs rest tail : List Fault) → p ≡ keep o fs → gs ≡ hs → q ≡ keep p gs → rest ≡ tail → z ≡ keep q rest → z ≡ keep o (fs ++ (hs ++ tail))
keep_parts o p q z fs gs hs rest tail first same second rests third =
    keep_three o p q z fs gs hs tail first same second (third ∙ ap (λ xs. keep q xs) rests)

pub keep_five : (o p q r u z : Option Fault) (fs gs hs js is' rest : List Fault) → p ≡ keep o fs → q ≡ keep p gs → r ≡ keep q js → js ≡ hs → u ≡ keep r is' → z ≡ keep u rest → z ≡ keep o (fs ++ (gs ++ (hs ++ (is' ++ rest))))
keep_five o p q r u z fs gs hs js is' rest first second third same fourth fifth =
    let last : z ≡ keep r (is' ++ rest) = fifth ∙ ap (λ x. keep x rest) fourth ∙ sym (keep_append r is' rest) in
    let middle : z ≡ keep p (gs ++ (hs ++ (is' ++ rest))) = keep_three p q r z gs js hs (is' ++ rest) second same third last in
    middle ∙ ap (λ x. keep x (gs ++ (hs ++ (is' ++ rest)))) first ∙ sym (keep_append o fs (gs ++ (hs ++ (is' ++ rest))))
