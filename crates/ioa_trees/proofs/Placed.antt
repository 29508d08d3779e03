-- Where the parts of a source stand among its tokens.
use Rattle.std.proofs.Common.{◌≡◌, ◌<◌, ℕ, ◌+◌, List, [], ◌∷◌, ◌++◌, map, length, take, drop, length-append, append_assoc, append-nil, take_at, drop_at, refl, sym, ap, ◌∙◌, arith}
use Rattle.std.proofs.lemmas.List.{map-append, drop-drop}
use Rattle.ioa_tokens.specs.declared.Word.{Word}
use Rattle.ioa_tokens.specs.declared.Word.TheVariants as w
use Rattle.ioa_tokens.specs.Tokens.{Tok, Name, Key}
use Rattle.ioa_trees.specs.Nodes.{Sort, component_part, Node, pack, yield, yields, yield_nodes}
use Rattle.ioa_trees.specs.Spelling.{key, named, branch, parts, separated, basic_node, component_node, components_nodes, hidden_node, composed_nodes, type_definition_node, next_name, further_nodes, automata_nodes, spell}
use Rattle.ioa_trees.specs.Trees.{Bytes, PlainAutomaton, PlainComponent, PlainComposed, PlainTypeDefinition, PlainSource}
use Rattle.ioa_trees.specs.Sizes.{behind, listed_size, automaton_size, definition_size, component_size, composed_size}
use Rattle.ioa_trees.specs.SourceRules.{definitions_size, automata_size, composed_at}
use Rattle.ioa_trees.proofs.Counts.{count, counted, counts, all_counted, counts_append}
use Rattle.ioa_trees.proofs.CountsAutomata.{parts_counts, basic_counts, component_counts, hidden_counts, definition_counts}

pub yields_pack : (ns : List Node) → yield_nodes (pack ns) ≡ yields ns
yields_pack [] = refl
yields_pack (n ∷ ns) = ap (λ z. yield n ++ z) (yields_pack ns)

pub yields_append : (ns ms : List Node) → yields (ns ++ ms) ≡ yields ns ++ yields ms
yields_append [] ms = refl
yields_append (n ∷ ns) ms = ap (λ z. yield n ++ z) (yields_append ns ms) ∙ sym (append_assoc (yield n) (yields ns) (yields ms))

-- the tokens of definitions
abbrev typed : List PlainTypeDefinition → List Tok
typed ds = yields (map type_definition_node ds)

typed_long : (ds : List PlainTypeDefinition) → length (typed ds) ≡ definitions_size ds
typed_long [] = refl
typed_long (d ∷ ds) =
    omega (arith, length-append (yield (type_definition_node d)) (typed ds), counted (type_definition_node d), definition_counts d, typed_long ds)

typed_append : (ds es : List PlainTypeDefinition) → typed (ds ++ es) ≡ typed ds ++ typed es
typed_append [] es = refl
typed_append (d ∷ ds) es =
    ap (λ z. yield (type_definition_node d) ++ z) (typed_append ds es) ∙ sym (append_assoc (yield (type_definition_node d)) (typed ds) (typed es))

-- the tokens of one automaton, and of some
abbrev one : PlainAutomaton → List Tok
one a = Key w.Automaton ∷ (Name a.name ∷ yield (basic_node a))

abbrev some : List PlainAutomaton → List Tok
some [] = []
some (a ∷ rest) = one a ++ some rest

one_long : (a : PlainAutomaton) → length (one a) ≡ automaton_size a
one_long a = omega (arith, counted (basic_node a), basic_counts a)

some_long : (as' : List PlainAutomaton) → length (some as') ≡ automata_size as'
some_long [] = refl
some_long (a ∷ rest) = omega (arith, length-append (one a) (some rest), one_long a, some_long rest)

some_append : (as' bs : List PlainAutomaton) → some (as' ++ bs) ≡ some as' ++ some bs
some_append [] bs = refl
some_append (a ∷ rest) bs = ap (λ z. one a ++ z) (some_append rest bs) ∙ sym (append_assoc (one a) (some rest) (some bs))

-- the word and the name that the composed automaton begins with
abbrev last : Bytes → List Tok
last s = Key w.Automaton ∷ (Name s ∷ [])

further_tokens : (rest : List PlainAutomaton) (s : Bytes) → last (next_name rest s) ++ yields (further_nodes rest s) ≡ some rest ++ last s
further_tokens [] s = refl
further_tokens (a ∷ rest) s =
    ap (λ z. Key w.Automaton ∷ (Name a.name ∷ z))
    (append_assoc (yield (basic_node a)) (last (next_name rest s)) (yields (further_nodes rest s))
    ∙ ap (λ z. yield (basic_node a) ++ z) (further_tokens rest s))
    ∙ sym (append_assoc (one a) (some rest) (last s))

automata_tokens : (as' : List PlainAutomaton) (s : Bytes) → 0 < length as' → yields (automata_nodes as' s) ≡ some as' ++ last s
automata_tokens [] s h = absurd (omega (arith, h))
automata_tokens (a ∷ rest) s h =
    ap (λ z. one a ++ z) (further_tokens rest s) ∙ sym (append_assoc (one a) (some rest) (last s))

-- what stands behind the name of the composed automaton
abbrev ending : PlainSource → List Tok
ending x = yields (composed_nodes x.composed)

source_tokens : (x : PlainSource) → spell x ≡ typed x.types ++ (yields (automata_nodes x.automata x.composed.name) ++ ending x)
source_tokens x =
    let rest : List Node = automata_nodes x.automata x.composed.name ++ composed_nodes x.composed in
    yields_pack (map type_definition_node x.types ++ rest)
    ∙ (yields_append (map type_definition_node x.types) rest
    ∙ ap (λ z. typed x.types ++ z) (yields_append (automata_nodes x.automata x.composed.name) (composed_nodes x.composed)))

-- the same where there is an automaton
whole_tokens : (x : PlainSource) → 0 < length x.automata → spell x ≡ typed x.types ++ (some x.automata ++ (last x.composed.name ++ ending x))
whole_tokens x h =
    source_tokens x
    ∙ ap (λ z. typed x.types ++ z)
    (ap (λ z. z ++ ending x) (automata_tokens x.automata x.composed.name h) ∙ append_assoc (some x.automata) (last x.composed.name) (ending x))

abbrev front : PlainSource → List Tok
front x = typed x.types ++ some x.automata

front_long : (x : PlainSource) → length (front x) ≡ composed_at x
front_long x = omega (arith, length-append (typed x.types) (some x.automata), typed_long x.types, some_long x.automata)

split_tokens : (x : PlainSource) → 0 < length x.automata → spell x ≡ front x ++ (last x.composed.name ++ ending x)
split_tokens x h = whole_tokens x h ∙ sym (append_assoc (typed x.types) (some x.automata) (last x.composed.name ++ ending x))

pub composed_placed : (x : PlainSource) → 0 < length x.automata
    → drop (composed_at x) (spell x) ≡ Key w.Automaton ∷ (Name x.composed.name ∷ yields (composed_nodes x.composed))
composed_placed x h = ap (drop (composed_at x)) (split_tokens x h) ∙ drop_at (front x) (last x.composed.name ++ ending x) (composed_at x) (front_long x)

placed : (ts p q r : List Tok) (n m : ℕ) → ts ≡ p ++ (q ++ r) → length p ≡ n → length q ≡ m → take m (drop n ts) ≡ q
placed ts p q r n m e f g = ap (λ z. take m (drop n z)) e ∙ (ap (take m) (drop_at p (q ++ r) n f) ∙ take_at q r m g)

middle : (p q r s : List Tok) → (p ++ (q ++ r)) ++ s ≡ p ++ (q ++ (r ++ s))
middle p q r s = append_assoc p (q ++ r) s ∙ ap (λ z. p ++ z) (append_assoc q r s)

pub definition_placed : (x : PlainSource) (before after : List PlainTypeDefinition) (d : PlainTypeDefinition) → x.types ≡ before ++ d ∷ after
    → take (definition_size d) (drop (definitions_size before) (spell x)) ≡ yield (type_definition_node d)
definition_placed x before after d e =
    let rest : List Tok = yields (automata_nodes x.automata x.composed.name) ++ ending x in
    placed (spell x) (typed before) (yield (type_definition_node d)) (typed after ++ rest) (definitions_size before) (definition_size d)
    (source_tokens x ∙ (ap (λ z. typed z ++ rest) e
    ∙ (ap (λ z. z ++ rest) (typed_append before (d ∷ after)) ∙ middle (typed before) (yield (type_definition_node d)) (typed after) rest)))
    (typed_long before) (counted (type_definition_node d) ∙ definition_counts d)

pub automaton_placed : (x : PlainSource) (before after : List PlainAutomaton) (a : PlainAutomaton) → x.automata ≡ before ++ a ∷ after
    → take (automaton_size a) (drop (definitions_size x.types + automata_size before) (spell x)) ≡ Key w.Automaton ∷ (Name a.name ∷ yield (basic_node a))
automaton_placed x before after a e =
    let rest : List Tok = last x.composed.name ++ ending x in
    let many : 0 < length x.automata = omega (arith, ap length e, length-append before (a ∷ after)) in
    placed (spell x) (typed x.types ++ some before) (one a) (some after ++ rest) (definitions_size x.types + automata_size before) (automaton_size a)
    (whole_tokens x many ∙ (ap (λ z. typed x.types ++ (some z ++ rest)) e
    ∙ (ap (λ z. typed x.types ++ (z ++ rest)) (some_append before (a ∷ after))
    ∙ (ap (λ z. typed x.types ++ z) (middle (some before) (one a) (some after) rest)
    ∙ sym (append_assoc (typed x.types) (some before) (one a ++ (some after ++ rest)))))))
    (omega (arith, length-append (typed x.types) (some before), typed_long x.types, some_long before)) (one_long a)

list_counted : (ns : List Node) → length (yields ns) ≡ counts (pack ns)
list_counted ns = ap length (sym (yields_pack ns)) ∙ all_counted (pack ns)

-- the nodes before an item of a list, where a sign stands between two
abbrev pub leading : {A : Type 0} → Sort → Word → (A → Node) → List A → List Node
leading s v f [] = []
leading s v f (b ∷ bs) = f b ∷ (parts s v f bs ++ (key v ∷ []))

pub leading_counts : {A : Type 0} (s : Sort) (v : Word) (f : A → Node) (g : A → ℕ) → ((x : A) → count (f x) ≡ g x)
    → (bs : List A) → counts (pack (leading s v f bs)) ≡ behind g bs
leading_counts s v f g e [] = refl
leading_counts s v f g e (b ∷ bs) = omega (arith, e b, counts_append (parts s v f bs) (key v ∷ []), parts_counts s v f g e bs)

pub leading_tokens : {A : Type 0} (s : Sort) (v : Word) (f : A → Node) (bs after : List A) (x : A) (rest : List Node)
    → yields (separated s v f (bs ++ x ∷ after) ++ rest) ≡ yields (leading s v f bs ++ (f x ∷ (parts s v f after ++ rest)))
leading_tokens s v f [] after x rest = refl
leading_tokens s v f (b ∷ bs) after x rest =
    let more : List Node = parts s v f after ++ rest in
    ap (λ z. yield (f b) ++ z)
    (ap (λ z. yields (z ++ rest)) (map-append (λ x. branch s (key v ∷ (f x ∷ []))) bs (x ∷ after))
    ∙ (ap yields (append_assoc (parts s v f bs) (parts s v f (x ∷ after)) rest)
    ∙ (yields_append (parts s v f bs) (branch s (key v ∷ (f x ∷ [])) ∷ more)
    ∙ (ap (λ z. yields (parts s v f bs) ++ (Key v ∷ (z ++ yields more))) (append-nil (yield (f x)))
    ∙ (sym (yields_append (parts s v f bs) (key v ∷ (f x ∷ more)))
    ∙ ap yields (sym (append_assoc (parts s v f bs) (key v ∷ []) (f x ∷ more))))))))

components_separated : (cs : List PlainComponent) → components_nodes cs ≡ separated component_part w.Semicolon component_node cs
components_separated [] = refl
components_separated (c ∷ cs) = refl

-- past some more nodes
pub advance : (ts : List Tok) (n m k : ℕ) (pre post : List Node)
    → drop n ts ≡ yields (pre ++ post) → counts (pack pre) ≡ m → n + m ≡ k → drop k ts ≡ yields post
advance ts n m k pre post e f g =
    ap (λ z. drop z ts) (sym g)
    ∙ (sym (drop-drop m n ts)
    ∙ (ap (drop m) (e ∙ yields_append pre post)
    ∙ drop_at (yields pre) (yields post) m (list_counted pre ∙ f)))

-- the first node of what is left
pub taken : (ts : List Tok) (k m : ℕ) (n : Node) (ns : List Node) → drop k ts ≡ yields (n ∷ ns) → count n ≡ m → take m (drop k ts) ≡ yield n
taken ts k m n ns e f = ap (take m) e ∙ take_at (yield n) (yields ns) m (counted n ∙ f)

-- behind the word of the components
at_components : (x : PlainSource) → 0 < length x.automata
    → drop (composed_at x + 3) (spell x) ≡ yields (components_nodes x.composed.components ++ hidden_node x.composed.hidden)
at_components x h =
    let start : List Node = key w.Automaton ∷ (named x.composed.name ∷ (key w.Components ∷ [])) in
    advance (spell x) (composed_at x) 3 (composed_at x + 3) start (components_nodes x.composed.components ++ hidden_node x.composed.hidden)
    (composed_placed x h) refl refl

pub component_placed : (x : PlainSource) (before after : List PlainComponent) (c : PlainComponent)
    → 0 < length x.automata → x.composed.components ≡ before ++ c ∷ after
    → take (component_size c) (drop (composed_at x + 3 + behind component_size before) (spell x)) ≡ yield (component_node c)
component_placed x before after c h e =
    let signed : List Node = leading component_part w.Semicolon component_node before in
    let end : List Node = hidden_node x.composed.hidden in
    let others : List Node = parts component_part w.Semicolon component_node after ++ end in
    taken (spell x) (composed_at x + 3 + behind component_size before) (component_size c) (component_node c) others
    (advance (spell x) (composed_at x + 3) (behind component_size before) (composed_at x + 3 + behind component_size before) signed (component_node c ∷ others)
    (at_components x h
    ∙ (ap (λ z. yields (z ++ end)) (components_separated x.composed.components)
    ∙ (ap (λ z. yields (separated component_part w.Semicolon component_node z ++ end)) e
    ∙ leading_tokens component_part w.Semicolon component_node before after c end)))
    (leading_counts component_part w.Semicolon component_node component_size component_counts before) refl)
    (component_counts c)

components_long : (cs : List PlainComponent) → counts (pack (components_nodes cs)) ≡ listed_size component_size cs
components_long [] = refl
components_long (c ∷ cs) = omega (arith, component_counts c, parts_counts component_part w.Semicolon component_node component_size component_counts cs)

-- what stands behind the components
pub at_end : (x : PlainSource) → 0 < length x.automata
    → drop (composed_at x + 3 + listed_size component_size x.composed.components) (spell x) ≡ yields (hidden_node x.composed.hidden)
at_end x h =
    let size : ℕ = listed_size component_size x.composed.components in
    advance (spell x) (composed_at x + 3) size (composed_at x + 3 + size) (components_nodes x.composed.components) (hidden_node x.composed.hidden)
    (at_components x h) (components_long x.composed.components) refl

-- `automaton` and the name stand before it
composed_long : (c : PlainComposed) → counts (pack (composed_nodes c)) + 2 ≡ composed_size c
composed_long c = omega (arith, counts_append (components_nodes c.components) (hidden_node c.hidden), components_long c.components, hidden_counts c.hidden)

pub all_long : (x : PlainSource) → 0 < length x.automata → length (spell x) ≡ composed_at x + composed_size x.composed
all_long x h =
    let split = split_tokens x h in
    omega (
      arith,
      ap length split,
      length-append (front x) (last x.composed.name ++ ending x),
      front_long x,
      list_counted (composed_nodes x.composed),
      composed_long x.composed,
    )
