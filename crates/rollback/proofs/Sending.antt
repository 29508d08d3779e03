-- What a turn posts is what the theory sends.
use Rattle.std.proofs.Common.{◌≡◌, ℕ, ◌^◌, List, [], refl, ap, sym, subst, ◌∙◌}
use Rattle.terms.specs.Named.{Named}
use Rattle.event_keys.specs.declared.key.Key.{Key}
use Rattle.event_keys.specs.declared.message.Sign.{Sign}
use Rattle.event_keys.specs.declared.message.Signed.{Signed}
use Rattle.event_keys.specs.declared.outcome.Outcome.{Outcome}
use Rattle.event_keys.specs.declared.outcome.Outcome.TheVariants.{Idle, Did}
use Rattle.event_keys.specs.declared.outcome.Turned.{Turned}
use Rattle.event_keys.specs.Entries.{action_of}
use Rattle.event_keys.specs.Ranks.{rank}
use Rattle.raw_events.specs.Around.{Around}
use Rattle.antimessage.specs.Order.{IsInOrder, KeyFits}
use Rattle.io_automata.specs.Automata.{Instance}
use Rattle.io_automata.specs.Receivers.{IsIn, Rising}
use Rattle.io_automata.specs.Signatures.{receives, receivers_of}
use Rattle.virtual_time.specs.Records.{sent}
use Rattle.task_seed.specs.Turning.{System}
use Rattle.task_seed.specs.Machines.{machine, end_rank}
use Rattle.rollback.specs.ComponentInvariant.{signed_of}
use Rattle.rollback.specs.Post.{IsPosted, post_all}
use Rattle.rollback.proofs.Posts.{posted, not_posted}

pub end_is : end_rank ≡ 2 ^ 144
unfolding end_rank
end_is = refl

pub posted_outcome : (s : System) (sign : Sign) (i : ℕ) (key : Key) (outcome : Outcome) (bag : List Signed) → KeyFits key
    → ((composition : List Instance) (action : Named) (sender : ℕ) → Rising 0 (receivers_of composition action sender))
    → ((composition : List Instance) (action : Named) (sender j : ℕ) → IsIn j (receivers_of composition action sender) ≡ receives composition sender action j)
    → IsInOrder bag
    → IsPosted sign (sent (machine s) i (rank key) (action_of outcome)) bag (post_all (signed_of s sign i key outcome) bag)
posted_outcome s sign i key Idle bag fit once all order = not_posted sign bag
posted_outcome s sign i key (Did action) bag fit once all order =
    posted s sign key action fit i (receivers_of s.composition action i) bag (once s.composition action i) (all s.composition action i) order

-- the messages of a turn lay ready, and are posted
pub posted_turn : (s : System) (sign : Sign) (i : ℕ) (turned : Turned) (cells : Around Signed) (old new : List Signed) → KeyFits turned.key
    → ((composition : List Instance) (action : Named) (sender : ℕ) → Rising 0 (receivers_of composition action sender))
    → ((composition : List Instance) (action : Named) (sender j : ℕ) → IsIn j (receivers_of composition action sender) ≡ receives composition sender action j)
    → IsInOrder old → cells ≡ record { before = signed_of s sign i turned.key turned.outcome; after = [] } → new ≡ post_all cells.before old
    → IsPosted sign (sent (machine s) i (rank turned.key) (action_of turned.outcome)) old new
posted_turn s sign i turned cells old new fit once all order ready is =
    subst (λ (bag : List Signed). IsPosted sign (sent (machine s) i (rank turned.key) (action_of turned.outcome)) old bag)
    (sym (is ∙ ap (λ (p : Around Signed). post_all p.before old) ready))
    (posted_outcome s sign i turned.key turned.outcome old fit once all order)
