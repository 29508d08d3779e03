-- Lists that wait: the first of them leaves, if there is one.
use Rattle.std.proofs.Common.{◌≡◌, Option, Some, None, List, ◌++◌, subst}
use Rattle.std.specs.Prelude.{All, IfSome, option_to_list}
use Rattle.std.proofs.lemmas.List.Elements.{All-head, All-tail}

pub all_first : {X : Type 0} (P : X → Type 0) (xs ys : List X) (r : Option X) → xs ≡ option_to_list r ++ ys → All P xs → IfSome r P
all_first P xs ys None e all = tt
all_first P xs ys (Some x) e all = All-head P x ys (subst (All P) e all)

pub all_later : {X : Type 0} (P : X → Type 0) (xs ys : List X) (r : Option X) → xs ≡ option_to_list r ++ ys → All P xs → All P ys
all_later P xs ys None e all = subst (All P) e all
all_later P xs ys (Some x) e all = All-tail P x ys (subst (All P) e all)
