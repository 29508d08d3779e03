-- The least fault after lists of faults, in whatever order.
use Rattle.std.proofs.Common.{◌≡◌, Bool, true, false, if◌then◌else◌, Option, Some, None, List, [], ◌∷◌, ◌++◌, refl, ap, sym, ◌∙◌, arith}
use Rattle.std.proofs.lemmas.Bool.Decides.{nat_tests}
use Rattle.ioa_trees.specs.Faults.{Fault, is_before, keep, note}
use Rattle.ioa_typing.proofs.Keeps.{keep_append}

-- ---- two faults

other_way : (f g : Fault) → is_before f g ≡ true → is_before g f ≡ false
other_way f g h = grind (arith, nat_tests)

before_all : (f g h : Fault) → is_before f g ≡ true → is_before g h ≡ true → is_before f h ≡ true
before_all f g h a b = grind (arith, nat_tests)

same_fault : (f g : Fault) → is_before f g ≡ false → is_before g f ≡ false → f ≡ g
same_fault f g a b =
    let place : f.place ≡ g.place = grind (arith, nat_tests) in
    let number : f.number ≡ g.number = grind (arith, nat_tests) in
    λ i. record { place = place i; number = number i }

-- the lesser one stays
lesser_stays : (f g : Fault) → is_before f g ≡ true → note f (Some g) ≡ note g (Some f)
lesser_stays f g h = ap (λ b. if b then Some f else Some g) h ∙ sym (ap (λ b. if b then Some g else Some f) (other_way f g h))

lesser_first : (f g h : Fault) (b c : Bool) → is_before g h ≡ b → is_before f h ≡ c → is_before f g ≡ true → note f (if b then Some g else Some h) ≡ note g (if c then Some f else Some h)
lesser_first f g h true true low least is = lesser_stays f g is
lesser_first f g h true false low least is = let wrong = before_all f g h is low in grind arith
lesser_first f g h false true low least is = ap (λ b. if b then Some f else Some h) least ∙ sym (ap (λ b. if b then Some g else Some f) (other_way f g is))
lesser_first f g h false false low least is = ap (λ b. if b then Some f else Some h) least ∙ sym (ap (λ b. if b then Some g else Some h) low)

lesser_turned : (f g : Fault) (o : Option Fault) → is_before f g ≡ true → note f (note g o) ≡ note g (note f o)
lesser_turned f g None is = lesser_stays f g is
lesser_turned f g (Some h) is = lesser_first f g h (is_before g h) (is_before f h) refl refl is

turned_by : (f g : Fault) (o : Option Fault) (b c : Bool) → is_before f g ≡ b → is_before g f ≡ c → note f (note g o) ≡ note g (note f o)
turned_by f g o true c is other = lesser_turned f g o is
turned_by f g o false true is other = sym (lesser_turned g f o other)
turned_by f g o false false is other = let one = same_fault f g is other in ap (λ h. note h (note g o)) one ∙ ap (λ h. note g (note h o)) (sym one)

note_turned : (f g : Fault) (o : Option Fault) → note f (note g o) ≡ note g (note f o)
note_turned f g o = turned_by f g o (is_before f g) (is_before g f) refl refl

-- ---- two lists

note_last : (f : Fault) (o : Option Fault) (gs : List Fault) → keep (note f o) gs ≡ note f (keep o gs)
note_last f o [] = refl
note_last f o (g ∷ gs) = ap (λ x. keep x gs) (note_turned g f o) ∙ note_last f (note g o) gs

pub keep_turned : (o : Option Fault) (fs gs : List Fault) → keep (keep o fs) gs ≡ keep (keep o gs) fs
keep_turned o [] gs = refl
keep_turned o (f ∷ fs) gs = keep_turned (note f o) fs gs ∙ ap (λ x. keep x fs) (note_last f o gs)

-- what stands in two rows, item by item
pub keep_woven : (o : Option Fault) (fs gs all rest others : List Fault) → ((p : Option Fault) → keep p all ≡ keep p (rest ++ others)) → keep o ((fs ++ gs) ++ all) ≡ keep o ((fs ++ rest) ++ (gs ++ others))
keep_woven o fs gs all rest others same =
    keep_append o (fs ++ gs) all
    ∙ ap (λ x. keep x all) (keep_append o fs gs)
    ∙ same (keep (keep o fs) gs)
    ∙ keep_append (keep (keep o fs) gs) rest others
    ∙ ap (λ x. keep x others) (keep_turned (keep o fs) gs rest)
    ∙ sym (keep_append (keep (keep o fs) rest) gs others)
    ∙ ap (λ x. keep x (gs ++ others)) (sym (keep_append o fs rest))
    ∙ sym (keep_append o (fs ++ rest) (gs ++ others))

-- what was noted first stands between two others
pub keep_between : (o p z : Option Fault) (fs gs hs : List Fault) → p ≡ keep o gs → z ≡ keep p (fs ++ hs) → z ≡ keep o (fs ++ (gs ++ hs))
keep_between o p z fs gs hs first second =
    second
    ∙ ap (λ x. keep x (fs ++ hs)) first
    ∙ keep_append (keep o gs) fs hs
    ∙ ap (λ x. keep x hs) (keep_turned o gs fs)
    ∙ sym (keep_append (keep o fs) gs hs)
    ∙ sym (keep_append o fs (gs ++ hs))
