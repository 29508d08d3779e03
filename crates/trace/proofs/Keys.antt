-- The three numbers of a key, each with a space after it.
use Rattle.std.proofs.Common.{◌≡◌, ℕ, ◌^◌, ◌<◌, List, ◌∷◌, ◌++◌, refl, ap, sym, ◌∙◌}
use Rattle.std.specs.Prelude.{Option, None, Some, IfSome}
use Rattle.std.specs.Borrow.{Bor}
use Rattle.std.specs.Fmt.{decimal}
use Rattle.std.proofs.lemmas.List.{append_assoc}
use Rattle.event_keys.specs.declared.key.Key.{Key}
use Rattle.trace.specs.Lines.{key_text}
use Rattle.trace.specs.Written.{IsKey}

-- a number, a space and the rest
abbrev pub IsNumbered : List ℕ → List ℕ → Type 0
IsNumbered text rest = (n : ℕ) × (n < 2 ^ 64) × (text ≡ decimal n ++ (32 ∷ rest))

pub key_parts : (key : Key) (rest : List ℕ) → key_text key ++ rest ≡ decimal key.tick ++ (32 ∷ (decimal key.component ++ (32 ∷ (decimal key.number ++ (32 ∷ rest)))))
key_parts key rest = simp append_assoc refl

pub key_read : (text first second : List ℕ) (r : Option (Bor (List ℕ))) → IsNumbered text first → IsNumbered first second → IfSome r (λ rest. IsNumbered second rest.now)
    → IfSome r (λ rest. (key : Key) × IsKey key × (text ≡ key_text key ++ rest.now))
key_read text first second None t c h = tt
key_read text first second (Some rest) t c h =
    let key : Key = record { tick = t.0; component = c.0; number = h.0 } in (
      key,
      record { tick = t.1; component = c.1; number = h.1 },
      t.2 ∙ ap (λ l. decimal t.0 ++ (32 ∷ l)) (c.2 ∙ ap (λ l. decimal c.0 ++ (32 ∷ l)) h.2) ∙ sym (key_parts key rest.now),
    )
