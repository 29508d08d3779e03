use Rattle.virtual_time.proofs.Recorded.{all_back, all_done, signs}
use Rattle.virtual_time.proofs.rolling_back.record_law.Goals as goal

pub returns-clause-undone : goal.returns-clause-undone
returns-clause-undone g c machine i es r r' so h = all_back machine i es r r' so h

pub returns-clause-done : goal.returns-clause-done
returns-clause-done g c machine i es r r' h = all_done machine i es r r' h

pub returns-clause-signs : goal.returns-clause-signs
returns-clause-signs g c machine i es j k a xs ys law = signs machine law i es j xs ys k a
