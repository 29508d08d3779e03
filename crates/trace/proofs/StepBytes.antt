-- The bytes of lines of steps.
use Rattle.std.proofs.Common.{◌≡◌, ℕ, ◌^◌, ◌<◌, true, List, ◌++◌, refl, arith}
use Rattle.std.specs.Prelude.{codes}
use Rattle.std.specs.List.{list_all}
use Rattle.std.specs.Str.{IsUtf8}
use Rattle.std.specs.Fmt.{decimal}
use Rattle.std.proofs.lemmas.Str.{IsUtf8-from_ascii}
use Rattle.event_keys.specs.declared.key.Key.{Key}
use Rattle.event_keys.specs.declared.key.Bound.{Bound}
use Rattle.event_keys.specs.declared.key.Bound.TheVariants.{At, End}
use Rattle.event_keys.specs.declared.message.Sign.{Sign}
use Rattle.event_keys.specs.declared.message.Sign.TheVariants.{Plus, Minus}
use Rattle.ioa_tokens.proofs.Ascii.{narrow, narrow_is_ascii}
use Rattle.ioa_tokens.proofs.Fronts.{all_mono}
use Rattle.plans.specs.declared.plan.Plan.{Plan}
use Rattle.trace.specs.Lines.{number_text, key_text}
use Rattle.trace.specs.StepLines.{WrittenMessage, message_text, sign_text, bound_text, StepLine, Process, Deliver, Meet, RollBack, Commit, step_text, IsStepKey, IsWrittenMessage, IsStepBound, IsStepLine}
use Rattle.trace.specs.Written.{IsKey, written_text}
use Rattle.trace.proofs.Dark.{is_inked, is_plain, plain_is_dark, dark_is_inked, inked_is_narrow, all_append, number_plain, number_inked, key_inked, written_inked}

pub key_is_wide : (key : Key) → IsStepKey key → IsKey key
key_is_wide key h = record { tick = h.tick; component = omega (arith, h.component); number = h.number }

inked_narrow : (text : List ℕ) → list_all is_inked text ≡ true → list_all narrow text ≡ true
inked_narrow text h = all_mono is_inked narrow inked_is_narrow text h

decimal_inked : (n : ℕ) → n < 2 ^ 64 → list_all is_inked (decimal n) ≡ true
decimal_inked n h = all_mono is_plain is_inked (λ b e. dark_is_inked b (plain_is_dark b e)) (decimal n) (number_plain n h)

message_inked : (plan : Plan) (message : WrittenMessage) → IsWrittenMessage plan message → list_all is_inked (message_text plan message) ≡ true
message_inked plan message h =
    all_append is_inked (number_text message.to) (key_text message.key ++ written_text plan message.action) (number_inked message.to (let to = h.to in omega (arith, to)))
    (all_append is_inked (key_text message.key) (written_text plan message.action) (key_inked message.key (key_is_wide message.key h.key)) (written_inked plan message.action h.action))

bound_inked : (bound : Bound) → IsStepBound bound → list_all is_inked (bound_text bound) ≡ true
bound_inked (At key) h =
    all_append is_inked (number_text key.tick) (number_text key.component ++ decimal key.number) (number_inked key.tick h.tick)
    (all_append is_inked (number_text key.component) (decimal key.number) (number_inked key.component (let low = h.component in omega (arith, low))) (decimal_inked key.number h.number))
bound_inked End h = refl

sign_narrow : (sign : Sign) → list_all narrow (sign_text sign) ≡ true
sign_narrow Plus = refl
sign_narrow Minus = refl

step_narrow : (plan : Plan) (line : StepLine) → IsStepLine plan line → list_all narrow (step_text plan line) ≡ true
step_narrow plan (Process n) h = all_append narrow (codes "process ") (decimal n) refl (inked_narrow (decimal n) (decimal_inked n (omega (arith, h))))
step_narrow plan (Deliver sign message) h =
    all_append narrow (codes "deliver ") (sign_text sign ++ message_text plan message) refl
    (all_append narrow (sign_text sign) (message_text plan message) (sign_narrow sign) (inked_narrow (message_text plan message) (message_inked plan message h)))
step_narrow plan (Meet message) h = all_append narrow (codes "meet ") (message_text plan message) refl (inked_narrow (message_text plan message) (message_inked plan message h))
step_narrow plan (RollBack n) h = all_append narrow (codes "back ") (decimal n) refl (inked_narrow (decimal n) (decimal_inked n (omega (arith, h))))
step_narrow plan (Commit bound) h = all_append narrow (codes "commit ") (bound_text bound) refl (inked_narrow (bound_text bound) (bound_inked bound h))

pub IsUtf8-step : (plan : Plan) (line : StepLine) → IsStepLine plan line → IsUtf8 (step_text plan line)
IsUtf8-step plan line h = IsUtf8-from_ascii (step_text plan line) (narrow_is_ascii (step_text plan line) (step_narrow plan line h))
