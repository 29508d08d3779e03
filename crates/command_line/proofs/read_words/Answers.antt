use Rattle.std.proofs.Common.{◌≡◌, ◌∙◌, true, map, string_bytes, [], ap, refl, inr, subst, sym, List}
use Rattle.clap.specs.Words.{App, HasKind, Kinds, Text, app_of, fault_of, is_simple, is_simple_and_free, kind_of, subcommand_of}
use Rattle.command_line.specs.Words.{warp, IsNamed}
use Rattle.command_line.proofs.Telling.{told}
use Rattle.command_line.proofs.read_words.Goals as goal

warp_is_free : is_simple_and_free warp ≡ true
warp_is_free = refl

warp_is_simple : is_simple warp ≡ true
warp_is_simple = refl

pub returns-in-Err : goal.returns-in-Err
returns-in-Err c =
    let words : List Text = map string_bytes c.args.words.now in
    let app = c.in_ok-command.ensures.app in
    let free : is_simple_and_free (app_of c.in_ok-command.command) ≡ true = ap is_simple_and_free app ∙ warp_is_free in
    told words (kind_of c.in-Err.error) c.refusal_of.result
    (subst (λ (ks : Kinds). HasKind ks c.in-Err.error) (ap (λ (a : App). fault_of a words) app) (c.in-Err.ensures.kinds free)) c.refusal_of.ensures

pub returns-in-Some : goal.returns-in-Some
returns-in-Some c =
    let words : List Text = map string_bytes c.args.words.now in
    let app = c.in_ok-command.ensures.app in
    let free : is_simple_and_free (app_of c.in_ok-command.command) ≡ true = ap is_simple_and_free app ∙ warp_is_free in
    let faultless : fault_of warp words ≡ [] = subst (λ (a : App). fault_of a words ≡ []) app (c.in-Ok.ensures.kinds free) in
    let matched = (c.in-Ok.ensures.ok.2 (ap (λ (a : App). is_simple a) app ∙ warp_is_simple)).1 ∙ ap (λ (a : App). subcommand_of a words) app in
    let named : IsNamed (subcommand_of warp words) c.in-Some.asked = subst (λ entered. IsNamed entered c.in-Some.asked) matched c.in-Some.ensures in
    (faultless, named)

pub returns-in_ok-error-in-None : goal.returns-in_ok-error-in-None
returns-in_ok-error-in-None c =
    let words : List Text = map string_bytes c.args.words.now in
    let app = c.in_ok-command.ensures.app in
    let free : is_simple_and_free (app_of c.in_ok-command.command) ≡ true = ap is_simple_and_free app ∙ warp_is_free in
    let faultless : fault_of warp words ≡ [] = subst (λ (a : App). fault_of a words ≡ []) app (c.in-Ok.ensures.kinds free) in
    let matched = (c.in-Ok.ensures.ok.2 (ap (λ (a : App). is_simple a) app ∙ warp_is_simple)).1 ∙ ap (λ (a : App). subcommand_of a words) app in
    inr (faultless, λ asked named. c.in-None.ensures asked (subst (λ entered. IsNamed entered asked) (sym matched) named))
