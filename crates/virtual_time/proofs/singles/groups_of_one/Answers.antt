use Rattle.virtual_time.proofs.Groups.Ones.{called_back, called_to, calls_to, shared_back, shared_to, start_single}
use Rattle.virtual_time.proofs.Groups.OnesWithin.{inboxes_bound, inboxes_same, within_to}
use Rattle.virtual_time.proofs.Groups.Singles.{alone_is, chunk_back, chunk_to, commit_back, commit_to, does_back, does_to, floor_back, floor_to, lease_back, lease_of_is, lease_to, matches_back, matches_to, met_back, met_to, ones_are, sound_back, sound_to, whole_back, whole_to}
use Rattle.virtual_time.proofs.singles.groups_of_one.Goals as goal

pub returns-clause-partition : goal.returns-clause-partition
returns-clause-partition g c group h = ones_are group h

pub returns-clause-lease : goal.returns-clause-lease
returns-clause-lease g c machine i l = (lease_to machine i l, lease_back machine i l)

pub returns-clause-matches : goal.returns-clause-matches
returns-clause-matches g c machine i st l law = (matches_to machine law i st l, matches_back machine law i st l)

pub returns-clause-floor : goal.returns-clause-floor
returns-clause-floor g c machine i b l law = (floor_to machine i b l law, floor_back machine i b l law)

pub returns-clause-alone : goal.returns-clause-alone
returns-clause-alone g c machine i l = alone_is machine i l

pub returns-clause-steps : goal.returns-clause-steps
returns-clause-steps g c machine i u v ss = (does_to machine i u ss v, does_back machine i u ss v)

pub returns-clause-leased : goal.returns-clause-leased
returns-clause-leased g c machine i l w = lease_of_is machine i l w

pub returns-clause-met : goal.returns-clause-met
returns-clause-met g c machine i e e' l l' law = (met_to machine law i e l e' l', met_back machine law i e l e' l')

pub returns-clause-commit : goal.returns-clause-commit
returns-clause-commit g c machine e e' = (commit_to machine e e', commit_back machine e e')

pub returns-clause-chunk : goal.returns-clause-chunk
returns-clause-chunk g c machine count b e e' ts = (chunk_to machine count e b e' ts, chunk_back machine count e b e' ts)

pub returns-clause-sound : goal.returns-clause-sound
returns-clause-sound g c machine count e law = (sound_to machine law count e, sound_back machine law count e)

pub returns-clause-whole : goal.returns-clause-whole
returns-clause-whole g c machine e ls w = (whole_to machine e ls w, whole_back machine e ls w)

pub returns-clause-start : goal.returns-clause-start
returns-clause-start g c machine count law counted = start_single machine law count counted

pub returns-clause-called : goal.returns-clause-called
returns-clause-called g c machine count u v call law = (called_to machine law count u call v, called_back machine law count u call v)

pub returns-clause-calls : goal.returns-clause-calls
returns-clause-calls g c machine count u v calls law h = calls_to machine law count calls u v h

pub returns-clause-shared : goal.returns-clause-shared
returns-clause-shared g c machine count u law = (shared_to machine law count u, shared_back machine law count u)

pub returns-clause-window : goal.returns-clause-window
returns-clause-window g c machine v count e law h = within_to machine law v count e h

pub returns-clause-inboxes : goal.returns-clause-inboxes
returns-clause-inboxes g c e v count = (inboxes_same e count, inboxes_bound v count)
