-- Steps and their replies, as the theory sees them.
use Rattle.std.specs.Prelude.{Result, Ok, Err}
use Rattle.terms.specs.Named.{Named}
use Rattle.event_keys.specs.declared.message.Message.{Message}
use Rattle.event_keys.specs.declared.message.Sign.{Sign}
use Rattle.event_keys.specs.declared.message.Sign.TheVariants.{Plus, Minus}
use Rattle.event_keys.specs.declared.message.Signed.{Signed}
use Rattle.event_keys.specs.Ranks.{rank, rank_of_bound}
use Rattle.antimessage.specs.Counts.{plus}
use Rattle.virtual_time.specs.Replies as theory
use Rattle.virtual_time.specs.Worlds as happening
use Rattle.rollback.specs.Flight.{item_of}
use Rattle.event_keys.specs.declared.step.Step.{Step}
use Rattle.event_keys.specs.declared.step.Step.TheVariants.{Process, Deliver, Meet, RollBack, Commit}
use Rattle.world.specs.declared.step.Reply.{Reply}
use Rattle.world.specs.declared.step.Reply.TheVariants.{Processed, Delivered, Met, RolledBack, Committed}
use Rattle.world.specs.declared.step.StepRefused.{StepRefused}
use Rattle.world.specs.Refusals.{step_number}

-- the delivery of a message, or of its antimessage
abbrev pub delivery : Sign → Message → happening.Step Named
delivery Plus m = happening.DeliverMessage m.to (item_of (plus m))
delivery Minus m = happening.DeliverAntimessage m.to (item_of (plus m))

-- the delivery of this one, and the meeting of a message and its antimessage
abbrev pub delivering : Signed → happening.Step Named
delivering signed = delivery signed.sign signed.message

abbrev pub meeting : Message → happening.Step Named
meeting m = happening.Meet m.to (item_of (plus m))

abbrev pub step_of : Step → happening.Step Named
step_of (Process i) = happening.Process i
step_of (Deliver signed) = delivering signed
step_of (Meet message) = meeting message
step_of (RollBack i) = happening.RollBack i
step_of (Commit bound) = happening.Commit (rank_of_bound bound)

abbrev pub reply_of : Reply → theory.Reply
reply_of (Processed key) = theory.Processed (rank key)
reply_of (Delivered count) = theory.Delivered count
reply_of Met = theory.Met
reply_of (RolledBack key) = theory.RolledBack (rank key)
reply_of (Committed count) = theory.Committed count

-- a reply, or the number of the refusal
abbrev pub answer_of : Result Reply StepRefused → theory.Reply
answer_of (Ok reply) = reply_of reply
answer_of (Err refused) = theory.Refused (step_number refused)

-- an answer of a step that gives this reply, or the number of the refusal
abbrev pub answer_by : {A : Type 0} → (A → Reply) → Result A StepRefused → theory.Reply
answer_by reply (Ok x) = reply_of (reply x)
answer_by reply (Err refused) = theory.Refused (step_number refused)
