use Rattle.workers.proofs.gate.run_ahead.Goals as goal

pub returns-clause-same : goal.returns-clause-same
returns-clause-same g c = record { members = c.run_ahead.ensures.same; known = c.run_ahead.ensures.known; window = c.run_ahead.ensures.window }
