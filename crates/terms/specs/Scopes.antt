-- What an environment has.
use Rattle.terms.specs.Meaning.{Scope}
use Rattle.terms.specs.declared.cells.Env.{Env}

-- what an environment has
abbrev pub scope : Env → Scope
scope env = record { formals = env.formals.now; parameters = env.parameters.now; loops = env.loops }
