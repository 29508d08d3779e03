-- What a writer holds after pieces of a text, one after the other.
use Rattle.std.proofs.Common.{◌≡◌, ℕ, ◌+◌, List, ◌++◌, length, take, drop, ap, sym, ◌∙◌, subst, arith, ◌-◌, length-drop}
use Rattle.std.proofs.Math.Seq.{take-add}
use Rattle.std.proofs.lemmas.Bool.Decides.{nat_tests}
use Rattle.std.proofs.lemmas.List.{take_all}
use Rattle.std.specs.Prelude.{Option, ◌==◌, ◌&&◌, nat_lt}
use Rattle.std.specs.Io.KnownBytes.{Appends}
use Rattle.std.proofs.KnownBytes.{Appends-trans}
use Rattle.trace.specs.Counts.{failures_after}

-- the next bytes of the text follow the first ones
pub next_bytes : (old middle new : Option (List ℕ)) (text rest : List ℕ) (written taken : ℕ) → rest ≡ drop written text → Appends old middle (take written text) → Appends middle new (take taken rest) → Appends old new (take (written + taken) text)
next_bytes old middle new text rest written taken is_rest first next =
    let bytes : take written text ++ take taken rest ≡ take (written + taken) text = ap (λ l. take written text ++ take taken l) is_rest ∙ sym (take-add written taken text) in
    subst (Appends old new) bytes (Appends-trans old middle new (take written text) (take taken rest) first next)

-- what is left of a text, from its length
pub rest_is : (text : List ℕ) (written : ℕ) → take (length text - written) (drop written text) ≡ drop written text
rest_is text written = take_all (length text - written) (drop written text) (simp length-drop (omega arith))

-- a write that took a byte is no failure
pub same_failures : (old new taken : ℕ) (piece : List ℕ) → (taken ≡ 0 → ⊥) → new ≡ failures_after old (taken == 0 && nat_lt 0 (length piece)) → new ≡ old
same_failures old new taken piece some h = grind (arith, nat_tests, some, h)
