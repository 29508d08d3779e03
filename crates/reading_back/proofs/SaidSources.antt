-- What a source without faults gives to the names, the members and the actions of its composition.
use Rattle.std.proofs.Common.{◌≡◌, ◌≤◌, ◌<◌, ◌^◌, ℕ, zero, suc, Bool, true, false, ◌||◌, bytes_eq, Option, None, Some, List, [], ◌∷◌, length, map, slice_get, refl, sym, subst, arith}
use Rattle.std.specs.List.{All, list_any}
use Rattle.std.proofs.lemmas.Slice.Eq.{bytes_eq-Decides}
use Rattle.ioa_tokens.specs.Spelling.{IsName}
use Rattle.ioa_trees.specs.Trees.{Bytes, PlainSource}
use Rattle.ioa_trees.specs.EntryRules.{Meant}
use Rattle.ioa_trees.specs.Meant.{IsWholeSource}
use Rattle.ioa_trees.specs.AutomatonRules.{MeantAutomaton}
use Rattle.ioa_trees.specs.SourceRules.{MeantSource, source_faults, source_meaning, types_scope}
use Rattle.plans.specs.declared.plan.Plan.{Plan}
use Rattle.io_automata.specs.Each.{Each, each_get}
use Rattle.plans.specs.Plans.{composition, action_texts, member_texts}
use Rattle.io_automata.specs.WellFormed.{IsWellFormed}
use Rattle.compose.specs.Composed.{IsComposed}
use Rattle.compose.specs.Faults as fault
use Rattle.compose.specs.Instances.{instances}
use Rattle.compose.specs.Names.{AreNames, Signature, automaton_at, signatures_of}
use Rattle.compose.specs.Rules.{Breaks}
use Rattle.compose.specs.Sound.{IsSoundAutomaton}
use Rattle.compose.specs.declared.compatibility.rule.Rule.TheVariants as rule
use Rattle.compose.proofs.Sizes.{AllLong}
use Rattle.compose.proofs.SoundAutomata.{source_sound}
use Rattle.trace.specs.Lines.{name_at}
use Rattle.trace.specs.Written.{IsNumberOf}
use Rattle.reading_back.specs.Said.{SaysAll}
use Rattle.reading_back.proofs.Sayable.{AreNamed, HaveNumbers}
use Rattle.reading_back.proofs.DistinctMembers.{Apart, first_place, members_distinct}
use Rattle.reading_back.proofs.FirstOnes.{in_all}
use Rattle.reading_back.proofs.FormalValues.{fit_formals}
use Rattle.reading_back.proofs.NamesFew.{few_members, few_names}
use Rattle.reading_back.proofs.NamesProper.{HasNames, NamesOf, meant_named, names_proper}
use Rattle.reading_back.proofs.Speaking.{says_all}

-- ---- names

named_in : (automata : List MeantAutomaton) → Each HasNames automata → (o : Option ℕ) (a : MeantAutomaton) (place : ℕ) (e : Meant) → automaton_at automata o ≡ Some a → slice_get a.entries place ≡ Some e → IsName e.name
named_in automata all None a place e found at = cc
named_in automata all (Some n) a place e found at = each_get (λ (x : Meant). IsName x.name) a.entries place e (each_get HasNames automata n a all found) at

named_by : (ss : List Signature) → Each (λ s. IsName s.name) ss → (q : Bytes) → list_any (bytes_eq q) (map (λ (s : Signature). s.name) ss) ≡ true → IsName q
named_by [] all q h = cc
named_by (s ∷ ss) all q h = by (named_by ss all.1 q) (bytes_eq q s.name) refl h
  where
    by : (list_any (bytes_eq q) (map (λ (s : Signature). s.name) ss) ≡ true → IsName q) → (b : Bool) → bytes_eq q s.name ≡ b → (b || list_any (bytes_eq q) (map (λ (s : Signature). s.name) ss)) ≡ true → IsName q
    by f true e i = subst IsName (sym ((bytes_eq-Decides q s.name).0 e)) all.0
    by f false e i = f i

are_named : (m : MeantSource) → Each HasNames m.automata → AreNamed m
are_named m all q h = named_by (signatures_of m.automata m.components) (in_all (λ s. IsName s.name) m.automata m.components (λ k c a place e there found at. named_in m.automata all c.automaton a place e found at)) q h

-- ---- members

record IsGot (qs : List Bytes) (n : ℕ) : Type 0 where
  is : slice_get qs n ≡ Some (name_at qs n)

got : (qs : List Bytes) (n : ℕ) → n < length qs → IsGot qs n
got [] n less = absurd (omega (arith, less))
got (q ∷ qs) zero less = record { is = refl }
got (q ∷ qs) (suc n) less = let r = got qs n (omega (arith, less)) in record { is = r.is }

-- a name of the language with its number
record IsNumbered (qs : List Bytes) (n : ℕ) : Type 0 where
  name : IsName (name_at qs n)
  number : IsNumberOf qs (name_at qs n) n

numbered_in : (qs : List Bytes) → Each IsName qs → Apart qs → length qs ≤ 2 ^ 16 → (n : ℕ) → n < length qs → IsNumbered qs n
numbered_in qs names apart few n less =
    let at : slice_get qs n ≡ Some (name_at qs n) = (got qs n less).is in
    record {
      name = each_get IsName qs n (name_at qs n) names at;
      number = record { fits = omega (arith, less, few); is = at; first = λ k before other. first_place qs apart k n (name_at qs n) before at other };
    }

have_numbers : (plan : Plan) (m : MeantSource) → member_texts plan ≡ m.members → Each IsName m.members → Apart m.members → length m.members ≤ 2 ^ 16 → HaveNumbers plan m
have_numbers plan m same names apart few n less =
    let r = subst (λ (qs : List Bytes). IsNumbered qs n) (sym same) (numbered_in m.members names apart few n less) in
    record { name = r.name; number = r.number }

-- ---- the whole

module _ (long : AllLong)
    (whole : (x : PlainSource) → source_faults x ≡ [] → IsWholeSource (source_meaning x))
    (well : (m : MeantSource) (names : List Bytes) → AreNames names m → All (IsSoundAutomaton (length m.members)) m.automata → length m.members ≤ 2 ^ 16 → ((j : ℕ) → Breaks rule.Own (instances names m) j → ⊥) → IsWellFormed (instances names m))
    (source : List ℕ) (plan : Plan) (is : IsComposed source plan) where
  abbrev m : MeantSource
  m = source_meaning is.tree

  sound : All (IsSoundAutomaton (length m.members)) m.automata
  sound = source_sound is.tree is.faultless (whole is.tree is.faultless)

  members_few : length m.members ≤ 2 ^ 16
  members_few = few_members long source is.tree is.read

  formed : IsWellFormed (composition plan)
  formed = subst IsWellFormed (sym is.meant.composition) (well m (action_texts plan) is.meant.names sound members_few (is.composes fault.Own))

  spelled : NamesOf is.tree
  spelled = names_proper is.tree is.read.readable.1

  numbers : HaveNumbers plan m
  numbers = have_numbers plan m is.meant.members spelled.members (members_distinct is.tree is.faultless) members_few

  pub composed_says : SaysAll plan
  composed_says =
      says_all plan m is.meant formed sound (is.composes fault.Types) (few_names long source is.tree is.read (action_texts plan) is.meant.names)
      (are_named m (meant_named (types_scope is.tree) 0 is.tree.automata spelled.entries))
      numbers
      (fit_formals plan is.tree is.faultless (whole is.tree is.faultless) numbers)
