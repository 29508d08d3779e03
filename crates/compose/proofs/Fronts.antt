-- What the first bytes of a file say of all of it.
use Rattle.std.specs.Prelude.{◌≡◌, ◌≤◌, ◌<◌, ℕ, zero, suc, List, [], ◌∷◌, length, take, refl}
use Rattle.std.proofs.Common.{arith, ap, subst}
use Rattle.std.proofs.lemmas.List.{length-take}
use Rattle.ioa_trees.specs.Trees.{PlainSource}
use Rattle.ioa_front.specs.declared.fault.ReadError.{ReadError}
use Rattle.ioa_front.specs.declared.fault.ReadError.TheVariants as refused
use Rattle.ioa_front.specs.Reading.{IsRefusal, most_bytes}
use Rattle.plans.specs.declared.plan.Plan.{Plan}
use Rattle.compose.specs.declared.source_error.SourceError.{SourceError}
use Rattle.compose.specs.declared.source_error.SourceError.TheVariants as fault
use Rattle.compose.specs.Composed.{IsComposed, IsFaulty, IsRefused, IsUncomposed}

take_whole : (xs : List ℕ) (n : ℕ) → length (take n xs) < n → take n xs ≡ xs
take_whole [] zero h = refl
take_whole [] (suc n) h = refl
take_whole (x ∷ xs) zero h = absurd (omega arith)
take_whole (x ∷ xs) (suc n) h = ap (λ ys. x ∷ ys) (take_whole xs n (omega arith))

-- what was read within the limit is the whole file
whole : (all : List ℕ) → length (take 65537 all) ≤ most_bytes → take 65537 all ≡ all
whole all small = take_whole all 65537 (omega (arith, small))

pub composed_whole : (all : List ℕ) (plan : Plan) → IsComposed (take 65537 all) plan → IsComposed all plan
composed_whole all plan p = subst (λ source. IsComposed source plan) (whole all p.read.size) p

unread_whole : (all : List ℕ) (e : ReadError) → IsRefusal (take 65537 all) e → IsRefusal all e
unread_whole all refused.NoMemory is = is
unread_whole all (refused.NotAscii at) is = subst (λ source. IsRefusal source (refused.NotAscii at)) (whole all is.0) is
unread_whole all (refused.BadToken at) is = subst (λ source. IsRefusal source (refused.BadToken at)) (whole all is.0) is
unread_whole all (refused.Syntax at) is = subst (λ source. IsRefusal source (refused.Syntax at)) (whole all is.0) is
unread_whole all refused.TooLarge is = let cut = length-take 65537 all in omega (arith, is, cut)
unread_whole all refused.TooDeep is = subst (λ source. IsRefusal source refused.TooDeep) (whole all is.0) is

faulty_whole : (all : List ℕ) (Refused : PlainSource → Type 0) → IsFaulty (take 65537 all) Refused → IsFaulty all Refused
faulty_whole all Refused p = subst (λ source. IsFaulty source Refused) (whole all p.read.size) p

uncomposed_whole : (all : List ℕ) (Refused : PlainSource → Type 0) → IsUncomposed (take 65537 all) Refused → IsUncomposed all Refused
uncomposed_whole all Refused p = subst (λ source. IsUncomposed source Refused) (whole all p.read.size) p

pub refused_whole : (all : List ℕ) (e : SourceError) → IsRefused (take 65537 all) e → IsRefused all e
refused_whole all (fault.Read refusal) is = unread_whole all refusal is
refused_whole all (fault.Check refusal) is = faulty_whole all _ is
refused_whole all (fault.Compose refusal) is = uncomposed_whole all _ is
