-- Lines with a key and without one.
use Rattle.std.proofs.Common.{◌≡◌, ℕ, ◌^◌, ◌<◌, List, [], ◌∷◌, ◌++◌, length, get_or, refl, ap, sym, subst, ◌∙◌}
use Rattle.std.specs.Prelude.{codes}
use Rattle.std.specs.Fmt.{decimal}
use Rattle.terms.specs.Named.{Named}
use Rattle.event_keys.specs.declared.key.Key.{Key}
use Rattle.plans.specs.declared.plan.Plan.{Plan}
use Rattle.trace.specs.Lines.{key_text}
use Rattle.trace.specs.Written.{Written, written_text, IsWritten, Alone, Turn, Idle, IsKey}
use Rattle.trace.specs.Actions.{IsAction, IsForeign, IsNoAction}
use Rattle.trace.specs.TraceFile.{IsGiven, IsBad, IsUnknown}
use Rattle.trace.proofs.Cuts.{Lacks, no_cut, same_cut}
use Rattle.trace.proofs.Dark.{is_plain, is_dark, number_plain, written_dark, free}
use Rattle.trace.proofs.Keys.{key_parts}

-- actions and numbers have no spaces
pub written_lacks : (plan : Plan) (w : Written) → IsWritten plan w → Lacks 32 (written_text plan w)
written_lacks plan w h = free is_dark 32 refl (written_text plan w) (written_dark plan w h)

pub number_lacks : (n : ℕ) → n < 2 ^ 64 → Lacks 32 (decimal n)
number_lacks n h = free is_plain 32 refl (decimal n) (number_plain n h)

-- a text with a key is no action
pub key_is_no_action : (plan : Plan) (text rest : List ℕ) (key : Key) (w : Written) → IsWritten plan w → text ≡ key_text key ++ rest → text ≡ written_text plan w → ⊥
key_is_no_action plan text rest key w h k e = no_cut 32 (written_text plan w) (decimal key.tick) _ (written_lacks plan w h) (sym e ∙ k ∙ key_parts key rest)

-- a text without a space has no key
pub no_key : (text rest : List ℕ) (key : Key) → Lacks 32 text → text ≡ key_text key ++ rest → ⊥
no_key text rest key lacks e = no_cut 32 text (decimal key.tick) _ lacks (e ∙ key_parts key rest)

-- what follows a key follows it in one way
same_rest : (key other : Key) (rest later : List ℕ) → IsKey key → IsKey other → key_text key ++ rest ≡ key_text other ++ later → rest ≡ later
same_rest key other rest later h k e =
    let first = same_cut 32 (decimal key.tick) (decimal other.tick) _ _ (number_lacks key.tick h.tick) (number_lacks other.tick k.tick) (sym (key_parts key rest) ∙ e ∙ key_parts other later) in
    let second = same_cut 32 (decimal key.component) (decimal other.component) _ _ (number_lacks key.component h.component) (number_lacks other.component k.component) first.1 in
    (same_cut 32 (decimal key.number) (decimal other.number) rest later (number_lacks key.number h.number) (number_lacks other.number k.number) second.1).1

-- an action by itself
pub given_alone : (plan : Plan) (text : List ℕ) (action : Named) → IsAction plan text action → IsGiven plan text (action ∷ [])
given_alone plan text action h = record { line = Alone h.written; proper = h.proper; is = h.is; gives = (action, refl, h.known) }

pub foreign_alone : (plan : Plan) (text : List ℕ) → IsForeign plan text → IsUnknown plan text
foreign_alone plan text h = record { line = Alone h.written; proper = h.proper; is = h.is; unknown = λ given g. h.unknown g.0 g.2 }

pub bad_alone : (plan : Plan) (text : List ℕ) → Lacks 32 text → IsNoAction plan text → IsBad plan text
bad_alone plan text lacks none (Alone w) h e = none w h e
bad_alone plan text lacks none (Turn key w) h e = no_key text (written_text plan w) key lacks e
bad_alone plan text lacks none (Idle key) h e = no_key text (codes "idle") key lacks e

-- what follows a key
pub given_turn : (plan : Plan) (text : List ℕ) (action : Named) → IsAction plan text action → (key : Key) → IsKey key → IsGiven plan (key_text key ++ text) (action ∷ [])
given_turn plan text action h key k = record { line = Turn key h.written; proper = (k, h.proper); is = ap (λ l. key_text key ++ l) h.is; gives = (action, refl, h.known) }

pub given_idle : (plan : Plan) (text : List ℕ) → text ≡ codes "idle" → (key : Key) → IsKey key → IsGiven plan (key_text key ++ text) []
given_idle plan text e key k = record { line = Idle key; proper = k; is = ap (λ l. key_text key ++ l) e; gives = refl }

pub foreign_turn : (plan : Plan) (text : List ℕ) → IsForeign plan text → (key : Key) → IsKey key → IsUnknown plan (key_text key ++ text)
foreign_turn plan text h key k = record { line = Turn key h.written; proper = (k, h.proper); is = ap (λ l. key_text key ++ l) h.is; unknown = λ given g. h.unknown g.0 g.2 }

pub bad_turn : (plan : Plan) (text : List ℕ) → (text ≡ codes "idle" → ⊥) → IsNoAction plan text → (key : Key) → IsKey key → IsBad plan (key_text key ++ text)
bad_turn plan text busy none key k (Alone w) h e = key_is_no_action plan (key_text key ++ text) text key w h refl e
bad_turn plan text busy none key k (Turn other w) h e = none w h.1 (same_rest key other text (written_text plan w) k h.0 e)
bad_turn plan text busy none key k (Idle other) h e = busy (same_rest key other text (codes "idle") k h e)

-- a text with a space, whose three numbers aren't there
pub bad_key : (plan : Plan) (text : List ℕ) (k : ℕ) → k < length text → get_or text k 0 ≡ 32 → ((key : Key) (rest : List ℕ) → IsKey key → text ≡ key_text key ++ rest → ⊥) → IsBad plan text
bad_key plan text k low space none (Alone w) h e = written_lacks plan w h k (subst (λ l. k < length l) e low) (subst (λ l. get_or l k 0 ≡ 32) e space)
bad_key plan text k low space none (Turn key w) h e = none key (written_text plan w) h.0 e
bad_key plan text k low space none (Idle key) h e = none key (codes "idle") h e
