use Rattle.std.proofs.Common.{◌≡◌, ◌∷◌, [], ◌++◌, cond, nat_eq, ap, sym, ◌∙◌, get_or, slice_get, Some}
use Rattle.std.proofs.lemmas.Option.{slice_get-get_or}
use Rattle.compose.specs.Standings.{stood}
use Rattle.compose.proofs.Lookups.{added_to}
use Rattle.compose.proofs.compatibility.seen.push.Goals as goal

pub returns-in_ok-push-in-Some : goal.returns-in_ok-push-in-Some
returns-in_ok-push-in-Some c n =
    let name = c.args.standing.entry.now.name in
    let lists = c.make_room.new.seen.items in
    let found : c.in-Some.standings.now ≡ get_or lists name c.in-Some.standings.now = c.in-Some.ensures.item.1 in
    let got : slice_get lists name ≡ Some c.in-Some.standings.now = slice_get-get_or lists name c.in-Some.standings.now c.in_ok-make_room.ensures.room ∙ ap Some (sym found) in
    added_to lists name c.in-Some.standings.now c.push.new.self c.args.standing got c.in_ok-push-in-Some.ensures.items n
    ∙ ap (λ xs. xs ++ cond (nat_eq name n) (stood c.args.standing ∷ []) []) (c.in_ok-make_room.ensures.same n)
