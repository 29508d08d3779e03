use Rattle.virtual_time.proofs.Gathered.{appended}
use Rattle.virtual_time.proofs.Replied.{most, commit_can, commit_accepted, commit_between, rest_is, rest_commits}
use Rattle.virtual_time.proofs.worlds.commit_is_exact.Goals as goal

pub returns-clause-can : goal.returns-clause-can
returns-clause-can t c machine w g b law p l m = commit_can machine law w g b p l m

pub returns-clause-cannot : goal.returns-clause-cannot
returns-clause-cannot t c machine w g b law p can = (can.not_behind, most machine law w g b p can.not_ahead)

pub returns-clause-accepted : goal.returns-clause-accepted
returns-clause-accepted t c machine count w v g b reply law p l m ans = commit_accepted machine law count w v g b reply p l m ans

pub returns-clause-refused : goal.returns-clause-refused
returns-clause-refused t c machine count w v g b k law p ans = commit_between machine law count w v g b k p ans

pub returns-clause-rest : goal.returns-clause-rest
returns-clause-rest t c machine w law is rest = rest_is machine law w is rest

pub returns-clause-all : goal.returns-clause-all
returns-clause-all t c machine count w v reply law is rest ans = rest_commits machine law count w v reply is rest ans

pub returns-clause-appended : goal.returns-clause-appended
returns-clause-appended g c machine world b chunk l falls only all = appended machine world b chunk l falls only all
