use Rattle.undo_records.proofs.Marked.{put_last}
use Rattle.undo_records.proofs.store.note.Goals as goal

pub returns-in-Ok-clause-ok : goal.returns-in-Ok-clause-ok
returns-in-Ok-clause-ok c = put_last c.args.change c.args.newest.now.items c.push.new.self.items c.in-Ok.ensures.items
