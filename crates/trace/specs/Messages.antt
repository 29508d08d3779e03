-- Whether a text is that of a message.
use Rattle.std.specs.Prelude.{◌≡◌, ℕ, List}
use Rattle.event_keys.specs.declared.message.Message.{Message}
use Rattle.plans.specs.declared.plan.Plan.{Plan}
use Rattle.trace.specs.StepLines.{WrittenMessage, message_text, IsWrittenMessage, IsMessage}

-- the text is that of a message, whose action is one of the composition
pub record IsMessageText (plan : Plan) (text : List ℕ) (message : Message) : Type 0 where
  pub written : WrittenMessage
  pub proper : IsWrittenMessage plan written
  pub is : text ≡ message_text plan written
  pub says : IsMessage plan written message

-- the text is that of a message, and the composition has no such action
pub record IsForeignMessage (plan : Plan) (text : List ℕ) : Type 0 where
  pub written : WrittenMessage
  pub proper : IsWrittenMessage plan written
  pub is : text ≡ message_text plan written
  pub unknown : (message : Message) → IsMessage plan written message → ⊥

-- the text is that of no message
abbrev pub IsNoMessage : Plan → List ℕ → Type 0
IsNoMessage plan text = (written : WrittenMessage) → IsWrittenMessage plan written → text ≡ message_text plan written → ⊥
