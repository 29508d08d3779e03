-- What was entered without one of its parts asks for nothing.
use Rattle.std.proofs.Common.{◌≡◌, ◌≢◌, ◌∙◌, ◌*◌, ◌+◌, ℕ, Option, Some, None, List, [], false, ap, codes, eqb, get_or, length, refl, subst, sym}
use Rattle.std.specs.Prelude.{option_map}
use Rattle.std.proofs.lemmas.Bool.{eqb-false}
use Rattle.std.proofs.lemmas.Option.{none-some, same_Some}
use Rattle.clap.specs.Words.{Row, Text, first_of}
use Rattle.command_line.specs.declared.Asked.{Asked}
use Rattle.command_line.specs.declared.Asked.TheVariants.{Print, Format, Reference, Run, Check, Drive, Explain, Hunt, Draw}
use Rattle.command_line.specs.declared.crew.Crew.{Crew}
use Rattle.command_line.specs.declared.ticks.Ticks.{Ticks}
use Rattle.command_line.specs.declared.hunting.Hunting.{Hunting}
use Rattle.command_line.specs.declared.Options.{Options}
use Rattle.command_line.specs.Drawing.{HasTicks}
use Rattle.command_line.specs.Hunting.{HasHunting}
use Rattle.command_line.specs.Words.{HasCrew, HasOptions, HasTurns, IsAskedBy, IsNamed}

abbrev Entered : Type 0
Entered = Option (Text × List Row)

abbrev name_in : Entered → Text
name_in None = []
name_in (Some p) = p.0

abbrev rows_in : Entered → List Row
rows_in None = []
rows_in (Some p) = p.1

-- no two subcommands agree in length and first letter
abbrev sign : Text → ℕ
sign name = length name * 256 + get_or name 0 0

abbrev sign_in : Entered → ℕ
sign_in entered = sign (name_in entered)

apart : (own : Text) (rows other : List Row) (name : Text) → eqb (sign own) (sign name) ≡ false
    → ◌≡◌ {A = Entered} (Some (own, rows)) (Some (name, other)) → ⊥
apart own rows other name differs e = eqb-false (sign own) (sign name) differs (ap sign_in e)

-- the options of `reference`
pub without_reference : (rows : List Row) → ((o : Options) → HasOptions rows o → ⊥) → (a : Asked)
    → IsNamed (Some (codes "reference", rows)) a → ⊥
without_reference rows none (Print source) named =
    apart (codes "reference") rows named.rows (codes "print") refl named.is
without_reference rows none (Format source check) named =
    apart (codes "reference") rows named.rows (codes "format") refl named.is
without_reference rows none (Reference source options) named =
    none options (subst (λ found. HasOptions found options) (sym (ap rows_in named.is)) named.chosen)
without_reference rows none (Run source options crew) named =
    apart (codes "reference") rows named.rows (codes "run") refl named.is
without_reference rows none (Check source trace) named =
    apart (codes "reference") rows named.rows (codes "check") refl named.is
without_reference rows none (Drive source steps options) named =
    apart (codes "reference") rows named.rows (codes "drive") refl named.is
without_reference rows none (Explain source table steps actions) named =
    apart (codes "reference") rows named.rows (codes "explain") refl named.is
without_reference rows none (Hunt source action hunting) named =
    apart (codes "reference") rows named.rows (codes "hunt") refl named.is
without_reference rows none (Draw source options ticks) named =
    apart (codes "reference") rows named.rows (codes "draw") refl named.is

-- the options or the workers of `run`
pub without_run : (rows : List Row) → ((o : Options) (c : Crew) → HasOptions rows o → HasCrew rows c → ⊥) → (a : Asked)
    → IsNamed (Some (codes "run", rows)) a → ⊥
without_run rows none (Print source) named =
    apart (codes "run") rows named.rows (codes "print") refl named.is
without_run rows none (Format source check) named =
    apart (codes "run") rows named.rows (codes "format") refl named.is
without_run rows none (Reference source options) named =
    apart (codes "run") rows named.rows (codes "reference") refl named.is
without_run rows none (Run source options crew) named =
    none options crew (subst (λ found. HasOptions found options) (sym (ap rows_in named.is)) named.chosen) (subst (λ found. HasCrew found crew) (sym (ap rows_in named.is)) named.crew)
without_run rows none (Check source trace) named =
    apart (codes "run") rows named.rows (codes "check") refl named.is
without_run rows none (Drive source steps options) named =
    apart (codes "run") rows named.rows (codes "drive") refl named.is
without_run rows none (Explain source table steps actions) named =
    apart (codes "run") rows named.rows (codes "explain") refl named.is
without_run rows none (Hunt source action hunting) named =
    apart (codes "run") rows named.rows (codes "hunt") refl named.is
without_run rows none (Draw source options ticks) named =
    apart (codes "run") rows named.rows (codes "draw") refl named.is

-- the steps or the options of `drive`
pub without_drive : (rows : List Row) → ((text : Text) (o : Options) → first_of (codes "STEPS") rows ≡ Some text → HasOptions rows o → ⊥) → (a : Asked)
    → IsNamed (Some (codes "drive", rows)) a → ⊥
without_drive rows none (Print source) named =
    apart (codes "drive") rows named.rows (codes "print") refl named.is
without_drive rows none (Format source check) named =
    apart (codes "drive") rows named.rows (codes "format") refl named.is
without_drive rows none (Reference source options) named =
    apart (codes "drive") rows named.rows (codes "reference") refl named.is
without_drive rows none (Run source options crew) named =
    apart (codes "drive") rows named.rows (codes "run") refl named.is
without_drive rows none (Check source trace) named =
    apart (codes "drive") rows named.rows (codes "check") refl named.is
without_drive rows none (Drive source steps options) named =
    none steps.now options (subst (λ found. first_of (codes "STEPS") found ≡ Some steps.now) (sym (ap rows_in named.is)) named.steps_given)
    (subst (λ found. HasOptions found options) (sym (ap rows_in named.is)) named.chosen)
without_drive rows none (Explain source table steps actions) named =
    apart (codes "drive") rows named.rows (codes "explain") refl named.is
without_drive rows none (Hunt source action hunting) named =
    apart (codes "drive") rows named.rows (codes "hunt") refl named.is
without_drive rows none (Draw source options ticks) named =
    apart (codes "drive") rows named.rows (codes "draw") refl named.is

-- the action or the seeds of `hunt`
pub without_hunt : (rows : List Row) → ((text : Text) (h : Hunting) → first_of (codes "ACTION") rows ≡ Some text → HasHunting rows h → ⊥) → (a : Asked)
    → IsNamed (Some (codes "hunt", rows)) a → ⊥
without_hunt rows none (Print source) named =
    apart (codes "hunt") rows named.rows (codes "print") refl named.is
without_hunt rows none (Format source check) named =
    apart (codes "hunt") rows named.rows (codes "format") refl named.is
without_hunt rows none (Reference source options) named =
    apart (codes "hunt") rows named.rows (codes "reference") refl named.is
without_hunt rows none (Run source options crew) named =
    apart (codes "hunt") rows named.rows (codes "run") refl named.is
without_hunt rows none (Check source trace) named =
    apart (codes "hunt") rows named.rows (codes "check") refl named.is
without_hunt rows none (Drive source steps options) named =
    apart (codes "hunt") rows named.rows (codes "drive") refl named.is
without_hunt rows none (Explain source table steps actions) named =
    apart (codes "hunt") rows named.rows (codes "explain") refl named.is
without_hunt rows none (Hunt source action hunting) named =
    none action.now hunting (subst (λ found. first_of (codes "ACTION") found ≡ Some action.now) (sym (ap rows_in named.is)) named.action_given)
    (subst (λ found. HasHunting found hunting) (sym (ap rows_in named.is)) named.chosen)
without_hunt rows none (Draw source options ticks) named =
    apart (codes "hunt") rows named.rows (codes "draw") refl named.is

-- the turns or the ticks of `draw`
pub without_draw : (rows : List Row) → ((o : Options) (t : Ticks) → HasTurns rows o → HasTicks rows t → ⊥) → (a : Asked)
    → IsNamed (Some (codes "draw", rows)) a → ⊥
without_draw rows none (Print source) named =
    apart (codes "draw") rows named.rows (codes "print") refl named.is
without_draw rows none (Format source check) named =
    apart (codes "draw") rows named.rows (codes "format") refl named.is
without_draw rows none (Reference source options) named =
    apart (codes "draw") rows named.rows (codes "reference") refl named.is
without_draw rows none (Run source options crew) named =
    apart (codes "draw") rows named.rows (codes "run") refl named.is
without_draw rows none (Check source trace) named =
    apart (codes "draw") rows named.rows (codes "check") refl named.is
without_draw rows none (Drive source steps options) named =
    apart (codes "draw") rows named.rows (codes "drive") refl named.is
without_draw rows none (Explain source table steps actions) named =
    apart (codes "draw") rows named.rows (codes "explain") refl named.is
without_draw rows none (Hunt source action hunting) named =
    apart (codes "draw") rows named.rows (codes "hunt") refl named.is
without_draw rows none (Draw source options ticks) named =
    none options ticks (subst (λ found. HasTurns found options) (sym (ap rows_in named.is)) named.chosen) (subst (λ found. HasTicks found ticks) (sym (ap rows_in named.is)) named.ticks)

pub asks_nothing : (entered : Entered) (r : Option Asked) → r ≡ None → ((a : Asked) → IsNamed entered a → ⊥)
    → IsAskedBy entered r
asks_nothing entered r is none = subst (IsAskedBy entered) (sym is) none

given_nothing : (rows other : List Row) (source : Text) → rows ≡ other → first_of (codes "F") rows ≡ None
    → first_of (codes "F") other ≡ Some source → ⊥
given_nothing rows other source is lacking given =
    none-some source (sym lacking ∙ ap (first_of (codes "F")) is ∙ given)

-- the file that every subcommand has
pub without_file : (name : Text) (rows : List Row) → first_of (codes "F") rows ≡ None → (a : Asked)
    → IsNamed (Some (name, rows)) a → ⊥
without_file name rows lacking (Print source) named =
    given_nothing rows named.rows source.now (ap rows_in named.is) lacking named.given
without_file name rows lacking (Format source check) named =
    given_nothing rows named.rows source.now (ap rows_in named.is) lacking named.given
without_file name rows lacking (Reference source options) named =
    given_nothing rows named.rows source.now (ap rows_in named.is) lacking named.given
without_file name rows lacking (Run source options crew) named =
    given_nothing rows named.rows source.now (ap rows_in named.is) lacking named.given
without_file name rows lacking (Check source trace) named =
    given_nothing rows named.rows source.now (ap rows_in named.is) lacking named.first_given
without_file name rows lacking (Drive source steps options) named =
    given_nothing rows named.rows source.now (ap rows_in named.is) lacking named.source_given
without_file name rows lacking (Explain source table steps actions) named =
    given_nothing rows named.rows source.now (ap rows_in named.is) lacking named.given
without_file name rows lacking (Hunt source action hunting) named =
    given_nothing rows named.rows source.now (ap rows_in named.is) lacking named.source_given
without_file name rows lacking (Draw source options ticks) named =
    given_nothing rows named.rows source.now (ap rows_in named.is) lacking named.given

entered_something : (name : Text) (rows : List Row) → ◌≡◌ {A = Entered} None (Some (name, rows)) → ⊥
entered_something name rows is = none-some (name, rows) is

-- a subcommand
pub without_subcommand : (a : Asked) → IsNamed None a → ⊥
without_subcommand (Print source) named = entered_something (codes "print") named.rows named.is
without_subcommand (Format source check) named = entered_something (codes "format") named.rows named.is
without_subcommand (Reference source options) named =
    entered_something (codes "reference") named.rows named.is
without_subcommand (Run source options crew) named = entered_something (codes "run") named.rows named.is
without_subcommand (Check source trace) named = entered_something (codes "check") named.rows named.is
without_subcommand (Drive source steps options) named =
    entered_something (codes "drive") named.rows named.is
without_subcommand (Explain source table steps actions) named =
    entered_something (codes "explain") named.rows named.is
without_subcommand (Hunt source action hunting) named =
    entered_something (codes "hunt") named.rows named.is
without_subcommand (Draw source options ticks) named =
    entered_something (codes "draw") named.rows named.is

-- a subcommand that there is
pub without_name : (name : Text) (rows : List Row) → name ≢ codes "print" → name ≢ codes "format" → name ≢ codes "reference"
    → name ≢ codes "run" → name ≢ codes "check" → name ≢ codes "drive" → name ≢ codes "explain"
    → name ≢ codes "hunt" → name ≢ codes "draw" → (a : Asked) → IsNamed (Some (name, rows)) a → ⊥
without_name name rows p f r n c d e h w (Print source) named = p (ap name_in named.is)
without_name name rows p f r n c d e h w (Format source check) named = f (ap name_in named.is)
without_name name rows p f r n c d e h w (Reference source options) named = r (ap name_in named.is)
without_name name rows p f r n c d e h w (Run source options crew) named = n (ap name_in named.is)
without_name name rows p f r n c d e h w (Check source trace) named = c (ap name_in named.is)
without_name name rows p f r n c d e h w (Drive source steps options) named = d (ap name_in named.is)
without_name name rows p f r n c d e h w (Explain source table steps actions) named = e (ap name_in named.is)
without_name name rows p f r n c d e h w (Hunt source action hunting) named = h (ap name_in named.is)
without_name name rows p f r n c d e h w (Draw source options ticks) named = w (ap name_in named.is)

-- what is asked for by a name is asked for by what is equal to it
pub named_so : (own name : Text) (rows : List Row) (r : Option Asked) → name ≡ own → IsAskedBy (Some (own, rows)) r
    → IsAskedBy (Some (name, rows)) r
named_so own name rows r is asked = subst (λ (t : Text). IsAskedBy (Some (t, rows)) r) (sym is) asked

-- what was entered, by its name and its rows
pub entered_is : {X : Type 0} (entered : Option X) (name_of : X → Text) (rows_by : X → List Row) (name : Text) (rows : List Row)
    → Some name ≡ option_map name_of entered
    → Some rows ≡ option_map {T = Text × List Row} (λ p. p.1) (option_map {U = Text × List Row} (λ x. (name_of x, rows_by x)) entered)
    → option_map {U = Text × List Row} (λ x. (name_of x, rows_by x)) entered ≡ Some (name, rows)
entered_is None name_of rows_by name rows named given = absurd (none-some name (sym named))
entered_is (Some x) name_of rows_by name rows named given =
    let own : name_of x ≡ name = sym (same_Some name (name_of x) named) in
    let its : rows_by x ≡ rows = sym (same_Some rows (rows_by x) given) in
    λ i. Some (own i, its i)

-- nothing was entered
pub nothing_entered : {X : Type 0} (entered : Option X) (name_of : X → Text) (rows_by : X → List Row)
    → None ≡ option_map name_of entered
    → option_map {U = Text × List Row} (λ x. (name_of x, rows_by x)) entered ≡ None
nothing_entered None name_of rows_by named = refl
nothing_entered (Some x) name_of rows_by named = absurd (none-some (name_of x) named)
