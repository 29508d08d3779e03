-- The elements of a diagram, as SVG has them.
use Rattle.std.specs.Prelude.{ℕ, ◌+◌, nat_eq, if◌then◌else◌, List, [], ◌∷◌, ◌++◌, codes, decimal, flat_map}

-- an attribute whose value is a number
abbrev pub attribute_text : List ℕ → ℕ → List ℕ
attribute_text name number = name ++ (codes "\"" ++ (decimal number ++ codes "\""))

-- a line between two places
abbrev pub line_text : (x1 y1 x2 y2 : ℕ) → List ℕ
line_text x1 y1 x2 y2 =
    attribute_text (codes " x1=") x1 ++ (attribute_text (codes " y1=") y1
    ++ (attribute_text (codes " x2=") x2 ++ (attribute_text (codes " y2=") y2
    ++ codes "/>\n")))

-- a byte of a text, in which `&`, `<` and `>` have names
abbrev pub escaped_byte : ℕ → List ℕ
escaped_byte byte =
    if nat_eq byte 38 then codes "&amp;"
    else if nat_eq byte 60 then codes "&lt;"
    else if nat_eq byte 62 then codes "&gt;"
    else byte ∷ []

abbrev pub escaped : List ℕ → List ℕ
escaped text = flat_map escaped_byte text

-- a text at a place
abbrev pub text_at : (x y : ℕ) → List ℕ → List ℕ
text_at x y text =
    attribute_text (codes " x=") x ++ (attribute_text (codes " y=") y
    ++ (codes ">" ++ (escaped text ++ codes "</text>\n")))

-- the line of a component, from its name down to a place
abbrev pub component_text : (x bottom : ℕ) → List ℕ → List ℕ
component_text x bottom name =
    codes "<text class=\"n\"" ++ (text_at x 30 name
    ++ (codes "<line" ++ line_text x 40 x bottom))

-- an arrow at a height
abbrev pub arrow_text : (y from to : ℕ) → List ℕ
arrow_text y from to = codes "<line class=\"a\"" ++ line_text from y to y

-- a dot at a place, full or hollow
abbrev pub dot_text : List ℕ → (x y : ℕ) → List ℕ
dot_text begin x y =
    begin ++ (attribute_text (codes " cx=") x ++ (attribute_text (codes " cy=") y
    ++ codes " r=\"4\"/>\n"))

abbrev pub full_dot : (x y : ℕ) → List ℕ
full_dot = dot_text (codes "<circle")

abbrev pub hollow_dot : (x y : ℕ) → List ℕ
hollow_dot = dot_text (codes "<circle class=\"i\"")

-- a label beside a dot
abbrev pub label_text : (x y : ℕ) → List ℕ → List ℕ
label_text x y label = codes "<text" ++ text_at (x + 8) y label

-- a tick, or a remark, at the left
abbrev pub margin_text : ℕ → List ℕ → List ℕ
margin_text y text = codes "<text class=\"t\"" ++ text_at 8 y text

-- how texts look by day (they keep a rim, so that lines don't cross them), lines, and dots
abbrev pub texts_by_day : List ℕ
texts_by_day =
    codes "<style>svg{background:#fff}text{fill:#111;stroke:#fff;stroke-width:3;paint-order:stroke}\n"

abbrev pub lines_by_day : List ℕ
lines_by_day =
    codes ".n{text-anchor:middle}.t{fill:#666}line{stroke:#ccc}.a{stroke:#36c;marker-end:url(#m)}\n"

abbrev pub dots_by_day : List ℕ
dots_by_day = codes "circle{fill:#111;stroke:#111}.i{fill:#fff}path{fill:#36c}\n"

abbrev pub day_text : List ℕ
day_text = texts_by_day ++ (lines_by_day ++ dots_by_day)

-- and by night
abbrev pub texts_by_night : List ℕ
texts_by_night =
    codes "@media(prefers-color-scheme:dark){svg{background:#111}text{fill:#eee;stroke:#111}\n"

abbrev pub lines_by_night : List ℕ
lines_by_night =
    codes ".t{fill:#999}line{stroke:#444}.a{stroke:#8af}circle{fill:#eee;stroke:#eee}\n"

abbrev pub dots_by_night : List ℕ
dots_by_night = codes ".i{fill:#111}path{fill:#8af}}</style>\n"

abbrev pub night_text : List ℕ
night_text = texts_by_night ++ (lines_by_night ++ dots_by_night)

-- the head of an arrow, whose tip is the arrow's end
abbrev pub marker_text : List ℕ
marker_text =
    codes "<defs><marker id=\"m\" refX=\"8\" refY=\"4\" markerWidth=\"8\" markerHeight=\"8\""
    ++ codes " markerUnits=\"userSpaceOnUse\" orient=\"auto\"><path d=\"M0 0L8 4L0 8z\"/></marker></defs>\n"

-- what a diagram begins with: its size, and how its elements look
abbrev pub head_text : (width height : ℕ) → List ℕ
head_text width height =
    codes "<svg xmlns=\"http://www.w3.org/2000/svg\""
    ++ (attribute_text (codes " width=") width ++ (attribute_text (codes " height=") height
    ++ (codes " font-family=\"monospace\" font-size=\"11\">\n"
    ++ (day_text ++ (night_text ++ marker_text)))))
