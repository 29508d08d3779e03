-- The first entry of each name, in a map.
use Rattle.std.proofs.Common.{◌≡◌, Bool, true, false, not, cond, bytes_eq, string_bytes, List, [], ◌∷◌, Option, None, Some, option_map, refl, sym, ◌∙◌, ap}
use Rattle.std.proofs.lemmas.Slice.Eq.{bytes_eq-Decides}
use Rattle.std.specs.declared.string.String.{String}
use Rattle.std.specs.Map.{lookup}
use Rattle.std.specs.Option.{is_some}
use Rattle.std.specs.String.{string_eq}
use Rattle.indexmap.specs.IndexMap.{insert_entry}
use Rattle.ioa_trees.specs.Trees.{Bytes}
use Rattle.compose.specs.declared.action_types.standing.Standing.{Standing}
use Rattle.compose.specs.Types.{same_kinds}
use Rattle.compose.specs.TypedStandings.{Stood, stood, kept, differs, or_this}

-- what is kept under a name is what a look-up finds
pub kept_map : {A : Type 0} (q : Bytes) (es : List (String A × Standing)) → kept q es ≡ option_map stood (lookup (λ k. bytes_eq q (string_bytes k)) es)
kept_map q [] = refl
kept_map q (e ∷ es) = by (bytes_eq q (string_bytes e.0)) (kept_map q es)
  where
    by : (b : Bool) → kept q es ≡ option_map stood (lookup (λ k. bytes_eq q (string_bytes k)) es)
        → cond b (Some (stood e.1)) (kept q es) ≡ option_map stood (cond b (Some e.1) (lookup (λ k. bytes_eq q (string_bytes k)) es))
    by true h = refl
    by false h = h

some_map : (o : Option Standing) → is_some (option_map stood o) ≡ is_some o
some_map None = refl
some_map (Some s) = refl

-- a new name
pub kept_more : {A : Type 0} (k : String A) (v : Standing) (q : Bytes) (es : List (String A × Standing)) → is_some (kept (string_bytes k) es) ≡ false → string_bytes k ≡ (stood v).name
    → kept q (insert_entry string_eq es k v) ≡ or_this (kept q es) q (stood v)
kept_more k v q [] h name = ap (λ (n : Bytes). cond (bytes_eq q n) (Some (stood v)) None) name
kept_more {A = A} k v q (e ∷ es) h name = outer (bytes_eq (string_bytes k) (string_bytes e.0)) h (λ i. kept_more k v q es i name)
  where
    inner : (c : Bool) → kept q (insert_entry string_eq es k v) ≡ or_this (kept q es) q (stood v)
        → cond c (Some (stood e.1)) (kept q (insert_entry string_eq es k v)) ≡ or_this (cond c (Some (stood e.1)) (kept q es)) q (stood v)
    inner true i = refl
    inner false i = i

    outer : (b : Bool) → is_some (cond b (Some (stood e.1)) (kept (string_bytes k) es)) ≡ false
        → (is_some (kept (string_bytes k) es) ≡ false → kept q (insert_entry string_eq es k v) ≡ or_this (kept q es) q (stood v))
        → kept q (cond b ((e.0, v) ∷ es) (e ∷ insert_entry string_eq es k v)) ≡ or_this (kept q (e ∷ es)) q (stood v)
    outer true i f = cc
    outer false i f = inner (bytes_eq q (string_bytes e.0)) (f i)

pub kept_new : {A : Type 0} (name : Bytes) (k : String A) (v : Standing) (q : Bytes) (es fs : List (String A × Standing)) → is_some (lookup (λ x. bytes_eq name (string_bytes x)) es) ≡ false → string_bytes k ≡ name → name ≡ (stood v).name → fs ≡ insert_entry string_eq es k v
    → kept q fs ≡ or_this (kept q es) q (stood v)
kept_new name k v q es fs none key own is =
    ap (kept q) is
    ∙ kept_more k v q es (ap (λ (n : Bytes). is_some (kept n es)) key ∙ ap is_some (kept_map name es) ∙ some_map (lookup (λ x. bytes_eq name (string_bytes x)) es) ∙ none) (key ∙ own)

-- a name that is there
pub kept_old : {A : Type 0} (name : Bytes) (s : Stood) (q : Bytes) (es : List (String A × Standing)) → is_some (lookup (λ x. bytes_eq name (string_bytes x)) es) ≡ true → name ≡ s.name
    → kept q es ≡ or_this (kept q es) q s
kept_old name s q es there own = by (kept q es) refl
  where
    here : is_some (kept s.name es) ≡ true
    here = ap (λ (n : Bytes). is_some (kept n es)) (sym own) ∙ ap is_some (kept_map name es) ∙ some_map (lookup (λ x. bytes_eq name (string_bytes x)) es) ∙ there

    apart : (b : Bool) → bytes_eq q s.name ≡ b → kept q es ≡ None → None ≡ cond b (Some s) None
    apart true e i =
        let same : is_some (kept s.name es) ≡ is_some (kept q es) = ap (λ (n : Bytes). is_some (kept n es)) (sym ((bytes_eq-Decides q s.name).0 e)) in
        let none : is_some (kept q es) ≡ false = ap is_some i in
        let some : is_some (kept s.name es) ≡ true = here in
        cc
    apart false e i = refl

    by : (o : Option Stood) → kept q es ≡ o → o ≡ or_this o q s
    by (Some f) e = refl
    by None e = apart (bytes_eq q s.name) refl e

-- whether an entry differs from what a look-up finds
pub differs_found : {A : Type 0} (name : Bytes) (s : Stood) (es : List (String A × Standing)) (f : Standing) (b : Bool) → Some f ≡ lookup (λ x. bytes_eq name (string_bytes x)) es → name ≡ s.name → b ≡ same_kinds (stood f).kinds s.kinds
    → not b ≡ differs (kept s.name es) s
differs_found name s es f b look own is = ap not is ∙ ap (λ o. differs o s) (ap (option_map stood) look ∙ sym (kept_map name es) ∙ ap (λ (n : Bytes). kept n es) own)

pub differs_none : {A : Type 0} (name : Bytes) (s : Stood) (es : List (String A × Standing)) → None ≡ lookup (λ x. bytes_eq name (string_bytes x)) es → name ≡ s.name → false ≡ differs (kept s.name es) s
differs_none name s es look own = ap (λ o. differs o s) (ap (option_map stood) look ∙ sym (kept_map name es) ∙ ap (λ (n : Bytes). kept n es) own)
