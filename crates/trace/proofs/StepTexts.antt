-- Lines of steps, their first words, and messages.
use Rattle.std.proofs.Common.{◌≡◌, ℕ, ◌^◌, ◌<◌, List, ◌∷◌, ◌++◌, refl, ap, sym, ◌∙◌, arith}
use Rattle.std.specs.Prelude.{codes}
use Rattle.std.specs.Fmt.{decimal}
use Rattle.std.proofs.lemmas.List.{append_assoc}
use Rattle.terms.specs.Named.{Named}
use Rattle.event_keys.specs.declared.key.Key.{Key}
use Rattle.event_keys.specs.declared.key.Bound.{Bound}
use Rattle.event_keys.specs.declared.key.Bound.TheVariants.{At, End}
use Rattle.event_keys.specs.declared.message.Message.{Message}
use Rattle.event_keys.specs.declared.message.Sign.{Sign}
use Rattle.plans.specs.declared.plan.Plan.{Plan}
use Rattle.event_keys.specs.declared.step.Step.TheVariants as step
use Rattle.trace.specs.Actions.{IsAction, IsForeign, IsNoAction}
use Rattle.trace.specs.Lines.{number_text, key_text}
use Rattle.trace.specs.Messages.{IsMessageText, IsForeignMessage, IsNoMessage}
use Rattle.trace.specs.StepFile.{SaysStep, IsBadStep, IsUnknownStep}
use Rattle.trace.specs.StepLines.{message_text, sign_text, bound_text, StepLine, Process, Deliver, Meet, RollBack, Commit, step_text, IsStepKey, IsStepBound}
use Rattle.trace.specs.Written.{written_text}
use Rattle.trace.proofs.Cuts.{Lacks, first_of, no_cut, same_cut}
use Rattle.trace.proofs.Dark.{is_plain, free}

-- `end` is no key
pub end_only : (text : List ℕ) → text ≡ codes "end" → (bound : Bound) → text ≡ bound_text bound → bound ≡ End
end_only text is (At key) e =
    absurd (no_cut 32 (codes "end") (decimal key.tick) (number_text key.component ++ decimal key.number) (free is_plain 32 refl (codes "end") refl)
    (sym is ∙ e ∙ append_assoc (decimal key.tick) (codes " ") (number_text key.component ++ decimal key.number)))
end_only text is End e = refl

-- what follows a receiver and a key follows them in one way
abbrev pub FollowsAddress : List ℕ → List ℕ → Type 0
FollowsAddress text rest = (to : ℕ) (key : Key) (later : List ℕ) → to < 2 ^ 16 → IsStepKey key → text ≡ number_text to ++ (key_text key ++ later) → rest ≡ later

pub message_read : (plan : Plan) (text rest : List ℕ) (to : ℕ) (key : Key) (action : Named) → to < 2 ^ 16 → IsStepKey key → text ≡ number_text to ++ (key_text key ++ rest) → IsAction plan rest action → IsMessageText plan text (record { key = key; action = action; to = to })
message_read plan text rest to key action low in_range e h =
    record {
      written = record { to = to; key = key; action = h.written };
      proper = record { to = low; key = in_range; action = h.proper };
      is = e ∙ ap (λ l. number_text to ++ (key_text key ++ l)) h.is;
      says = record { to = refl; key = refl; action = h.known };
    }

pub message_foreign : (plan : Plan) (text rest : List ℕ) (to : ℕ) (key : Key) → to < 2 ^ 16 → IsStepKey key → text ≡ number_text to ++ (key_text key ++ rest) → IsForeign plan rest → IsForeignMessage plan text
message_foreign plan text rest to key low in_range e h =
    record {
      written = record { to = to; key = key; action = h.written };
      proper = record { to = low; key = in_range; action = h.proper };
      is = e ∙ ap (λ l. number_text to ++ (key_text key ++ l)) h.is;
      unknown = λ message m. h.unknown message.action m.action;
    }

pub no_message : (plan : Plan) (text rest : List ℕ) → FollowsAddress text rest → IsNoAction plan rest → IsNoMessage plan text
no_message plan text rest follows none w h e = none w.action h.action (follows w.to w.key (written_text plan w.action) h.to h.key e)

-- a line's first word, and what follows it
abbrev pub word_of : StepLine → List ℕ
word_of (Process n) = codes "process"
word_of (Deliver sign message) = codes "deliver"
word_of (Meet message) = codes "meet"
word_of (RollBack n) = codes "back"
word_of (Commit bound) = codes "commit"

abbrev pub after_word : Plan → StepLine → List ℕ
after_word plan (Process n) = decimal n
after_word plan (Deliver sign message) = sign_text sign ++ message_text plan message
after_word plan (Meet message) = message_text plan message
after_word plan (RollBack n) = decimal n
after_word plan (Commit bound) = bound_text bound

pub text_is : (plan : Plan) (line : StepLine) → step_text plan line ≡ word_of line ++ (32 ∷ after_word plan line)
text_is plan (Process n) = refl
text_is plan (Deliver sign message) = refl
text_is plan (Meet message) = refl
text_is plan (RollBack n) = refl
text_is plan (Commit bound) = refl

pub word_lacks : (line : StepLine) → Lacks 32 (word_of line)
word_lacks (Process n) = free is_plain 32 refl (codes "process") refl
word_lacks (Deliver sign message) = free is_plain 32 refl (codes "deliver") refl
word_lacks (Meet message) = free is_plain 32 refl (codes "meet") refl
word_lacks (RollBack n) = free is_plain 32 refl (codes "back") refl
word_lacks (Commit bound) = free is_plain 32 refl (codes "commit") refl

-- a text's first word, and what follows it
abbrev pub IsWordAndRest : List ℕ → List ℕ → List ℕ → Type 0
IsWordAndRest text word rest = (text ≡ word ++ (32 ∷ rest)) × Lacks 32 word

line_cut : (plan : Plan) (text word rest : List ℕ) (line : StepLine) → IsWordAndRest text word rest → text ≡ step_text plan line → (word ≡ word_of line) × (rest ≡ after_word plan line)
line_cut plan text word rest line cut e = same_cut 32 word (word_of line) rest (after_word plan line) cut.1 (word_lacks line) (sym cut.0 ∙ e ∙ text_is plan line)

line_joined : (plan : Plan) (text word rest : List ℕ) (line : StepLine) → IsWordAndRest text word rest → word ≡ word_of line → rest ≡ after_word plan line → text ≡ step_text plan line
line_joined plan text word rest line cut w r = cut.0 ∙ (λ i. w i ++ (32 ∷ r i)) ∙ sym (text_is plan line)

module _ (plan : Plan) (text word rest : List ℕ) (cut : IsWordAndRest text word rest) where
  pub said_process : (n : ℕ) → word ≡ codes "process" → n < 2 ^ 16 → rest ≡ decimal n → SaysStep plan text (step.Process n)
  said_process n w low e = record { line = Process n; proper = low; is = line_joined plan text word rest (Process n) cut w e; says = refl }

  pub said_back : (n : ℕ) → word ≡ codes "back" → n < 2 ^ 16 → rest ≡ decimal n → SaysStep plan text (step.RollBack n)
  said_back n w low e = record { line = RollBack n; proper = low; is = line_joined plan text word rest (RollBack n) cut w e; says = refl }

  pub said_commit : (bound : Bound) → word ≡ codes "commit" → IsStepBound bound → rest ≡ bound_text bound → SaysStep plan text (step.Commit bound)
  said_commit bound w h e = record { line = Commit bound; proper = h; is = line_joined plan text word rest (Commit bound) cut w e; says = refl }

  pub said_meet : (message : Message) → word ≡ codes "meet" → IsMessageText plan rest message → SaysStep plan text (step.Meet message)
  said_meet message w h = record { line = Meet h.written; proper = h.proper; is = line_joined plan text word rest (Meet h.written) cut w h.is; says = (message, h.says, refl) }

  pub said_deliver : (sign : Sign) (message : Message) (later : List ℕ) → word ≡ codes "deliver" → rest ≡ sign_text sign ++ later → IsMessageText plan later message → SaysStep plan text (step.Deliver (record { message = message; sign = sign }))
  said_deliver sign message later w e h =
      record {
        line = Deliver sign h.written;
        proper = h.proper;
        is = line_joined plan text word rest (Deliver sign h.written) cut w (e ∙ ap (λ l. sign_text sign ++ l) h.is);
        says = (message, h.says, refl);
      }

  pub foreign_meet : word ≡ codes "meet" → IsForeignMessage plan rest → IsUnknownStep plan text
  foreign_meet w h = record { line = Meet h.written; proper = h.proper; is = line_joined plan text word rest (Meet h.written) cut w h.is; unknown = λ said g. h.unknown g.0 g.1 }

  pub foreign_deliver : word ≡ codes "deliver" → (sign : Sign) × (later : List ℕ) × (rest ≡ sign_text sign ++ later) × IsForeignMessage plan later → IsUnknownStep plan text
  foreign_deliver w h =
      record {
        line = Deliver h.0 h.3.written;
        proper = h.3.proper;
        is = line_joined plan text word rest (Deliver h.0 h.3.written) cut w (h.2 ∙ ap (λ l. sign_text h.0 ++ l) h.3.is);
        unknown = λ said g. h.3.unknown g.0 g.1;
      }

  -- lines that begin with another word
  other_word : (line : StepLine) (own : List ℕ) → word ≡ own → (first_of own ≡ first_of (word_of line) → ⊥) → text ≡ step_text plan line → ⊥
  other_word line own w apart e = apart (ap first_of (sym w ∙ (line_cut plan text word rest line cut e).0))

  pub bad_meet : word ≡ codes "meet" → IsNoMessage plan rest → IsBadStep plan text
  bad_meet w none (Process n) h e = other_word (Process n) (codes "meet") w (λ same. omega (arith, same)) e
  bad_meet w none (Deliver sign message) h e = other_word (Deliver sign message) (codes "meet") w (λ same. omega (arith, same)) e
  bad_meet w none (Meet message) h e = none message h (line_cut plan text word rest (Meet message) cut e).1
  bad_meet w none (RollBack n) h e = other_word (RollBack n) (codes "meet") w (λ same. omega (arith, same)) e
  bad_meet w none (Commit bound) h e = other_word (Commit bound) (codes "meet") w (λ same. omega (arith, same)) e

  pub bad_deliver : word ≡ codes "deliver" → ((sign : Sign) (later : List ℕ) → rest ≡ sign_text sign ++ later → IsNoMessage plan later) → IsBadStep plan text
  bad_deliver w none (Process n) h e = other_word (Process n) (codes "deliver") w (λ same. omega (arith, same)) e
  bad_deliver w none (Deliver sign message) h e = none sign (message_text plan message) (line_cut plan text word rest (Deliver sign message) cut e).1 message h refl
  bad_deliver w none (Meet message) h e = other_word (Meet message) (codes "deliver") w (λ same. omega (arith, same)) e
  bad_deliver w none (RollBack n) h e = other_word (RollBack n) (codes "deliver") w (λ same. omega (arith, same)) e
  bad_deliver w none (Commit bound) h e = other_word (Commit bound) (codes "deliver") w (λ same. omega (arith, same)) e
