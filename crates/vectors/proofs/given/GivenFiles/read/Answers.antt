use Rattle.vectors.proofs.given.GivenFiles.read.Goals as goal

pub returns-clause-bytes : goal.returns-clause-bytes
returns-clause-bytes c = record { all = c.in-Ok-Some.bytes.items; is = tt; front = c.truncate.ensures.items }
