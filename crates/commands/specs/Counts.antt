-- What is told of a run's workers.
use Rattle.std.specs.Prelude.{ℕ, List, [], ◌∷◌, ◌++◌, codes, decimal, flat_map}
use Rattle.steering.specs.declared.stats.Stats.{Stats}
use Rattle.commands.specs.declared.counts.Count.{Count}
use Rattle.commands.specs.declared.counts.Count.TheVariants.{Turns, Sure, Groups, Pairs, Cut, Processed, Kept, TakenBack, RollBacks, Stragglers, Inside, Across, Antimessages, Annihilated, Visits, Meetings, Commits, Chunks, Leash, Waited}

-- the name of a count, with what stands before its value
abbrev pub label_of : Count → List ℕ
label_of Turns = codes "turns: "
label_of Sure = codes "sure turns: "
label_of Groups = codes "groups: "
label_of Pairs = codes "pairs of components: "
label_of Cut = codes "pairs cut: "
label_of Processed = codes "processed: "
label_of Kept = codes "kept: "
label_of TakenBack = codes "taken back: "
label_of RollBacks = codes "roll-backs: "
label_of Stragglers = codes "stragglers: "
label_of Inside = codes "messages inside: "
label_of Across = codes "messages across: "
label_of Antimessages = codes "antimessages: "
label_of Annihilated = codes "annihilated: "
label_of Visits = codes "visits: "
label_of Meetings = codes "meetings: "
label_of Commits = codes "commits: "
label_of Chunks = codes "chunks: "
label_of Leash = codes "longest leash: "
label_of Waited = codes "microseconds waited: "

abbrev pub value_of : Stats → Count → ℕ
value_of stats Turns = stats.turns
value_of stats Sure = stats.sure
value_of stats Groups = stats.groups
value_of stats Pairs = stats.pairs
value_of stats Cut = stats.cut
value_of stats Processed = stats.processed
value_of stats Kept = stats.kept
value_of stats TakenBack = stats.taken_back
value_of stats RollBacks = stats.roll_backs
value_of stats Stragglers = stats.stragglers
value_of stats Inside = stats.inside
value_of stats Across = stats.across
value_of stats Antimessages = stats.antimessages
value_of stats Annihilated = stats.annihilated
value_of stats Visits = stats.visits
value_of stats Meetings = stats.meetings
value_of stats Commits = stats.commits
value_of stats Chunks = stats.chunks
value_of stats Leash = stats.leash
value_of stats Waited = stats.waited

abbrev pub count_line : Stats → Count → List ℕ
count_line stats count = label_of count ++ decimal (value_of stats count) ++ codes "\n"

abbrev pub all_counts : List Count
all_counts = Turns ∷ Sure ∷ Groups ∷ Pairs ∷ Cut ∷ Processed ∷ Kept ∷ TakenBack ∷ RollBacks ∷ Stragglers ∷ Inside ∷ Across ∷ Antimessages ∷ Annihilated ∷ Visits ∷ Meetings ∷ Commits ∷ Chunks ∷ Leash ∷ Waited ∷ []

-- a line for each count
abbrev pub stats_text : Stats → List ℕ
stats_text stats = flat_map (count_line stats) all_counts
