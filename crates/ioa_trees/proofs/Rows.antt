-- Sources whose least faults are known.
use Rattle.std.specs.Prelude.{◌≡◌, ℕ, Bool, true, false, Option, Some, None, List, [], ◌∷◌, codes, refl}
use Rattle.ioa_trees.specs.declared.tree.Signed.{Signed}
use Rattle.ioa_trees.specs.declared.tree.Call.TheVariants as call
use Rattle.ioa_trees.specs.declared.tree.Relation.TheVariants as relation
use Rattle.ioa_trees.specs.declared.tree.Sign.TheVariants as sign
use Rattle.ioa_trees.specs.declared.tree.EntryKind.{EntryKind}
use Rattle.ioa_trees.specs.declared.tree.EntryKind.TheVariants as kind
use Rattle.ioa_trees.specs.Trees.{Bytes, PlainType, Bools, Ints, Range, Named, SeqOf, ArrayOf, PlainTerm, Number, True, False, Variable, Group, Called, Append, Minus, Product, Sum, Compare, Not, And, Or, no_term, more_terms, Times, Modulo, no_factor, more_factors, no_addend, more_addends, PlainInit, Empty, Fill, Value, PlainDeclared, Assign, If, For, PlainStatements, no_statement, more_statements, no_branch, more_branches, PlainParameter, Constant, Typed, PlainEntry, PlainVariable, PlainTransition, PlainAutomaton, PlainComponent, PlainTypeBody, Same, Enumeration, PlainTypeDefinition, PlainSource}
use Rattle.ioa_trees.specs.Faults.{Fault, keep}
use Rattle.ioa_trees.specs.SourceRules.{source_faults}

abbrev signed : Bool → ℕ → Signed
signed b n = record { is_negative = b; size = n }

abbrev declared : Bytes → PlainType → PlainDeclared
declared q t = record { name = q; of = t }

abbrev entry : EntryKind → Bytes → List PlainParameter → PlainEntry
entry k q ps = record { kind = k; name = q; parameters = ps }

abbrev variable : PlainDeclared → PlainInit → PlainVariable
variable d v = record { declared = d; start = v }

abbrev transition : PlainEntry → Option PlainTerm → PlainStatements → PlainTransition
transition e p f = record { entry = e; pre = p; eff = f }

abbrev automaton : Bytes → List PlainDeclared → List PlainEntry → List PlainVariable → List PlainTransition → List (List Bytes) → PlainAutomaton
automaton q fs es vs ts ks = record { name = q; formals = fs; entries = es; variables = vs; transitions = ts; tasks = ks }

abbrev component : Bytes → Bytes → List PlainTerm → PlainComponent
component q a ts = record { name = q; automaton = a; arguments = ts }

abbrev definition : Bytes → PlainTypeBody → PlainTypeDefinition
definition q b = record { name = q; body = b }

abbrev source : List PlainTypeDefinition → List PlainAutomaton → Bytes → List PlainComponent → PlainSource
source ds as' q cs = record { types = ds; automata = as'; composed = record { name = q; components = cs; hidden = [] } }

-- the same, with outputs that are hidden
abbrev hiding : List Bytes → PlainSource → PlainSource
hiding qs x = record { types = x.types; automata = x.automata; composed = record { name = x.composed.name; components = x.composed.components; hidden = qs } }

abbrev least : PlainSource → Option Fault
least x = keep None (source_faults x)

abbrev fault : ℕ → ℕ → Option Fault
fault number place = Some (record { place = place; number = number })

row0 : least (source ([]) ((automaton (codes "C") ([]) ((entry kind.Internal (codes "up") ([])) ∷ []) ((variable (declared (codes "n") Ints) (Value (Number 9223372036854775807))) ∷ []) ((transition (entry kind.Internal (codes "up") ([])) None (more_statements (Assign (codes "n") None (Value (Sum (Variable (codes "n")) (more_addends sign.Plus (Number 1) no_addend)))) no_statement)) ∷ []) (((codes "up") ∷ []) ∷ [])) ∷ []) (codes "S") ((component (codes "c") (codes "C") ([])) ∷ [])) ≡ None
row0 = refl

row1 : least (source ([]) ((automaton (codes "C") ([]) ((entry kind.Internal (codes "up") ([])) ∷ []) ((variable (declared (codes "n") Ints) (Value True)) ∷ []) ((transition (entry kind.Internal (codes "up") ([])) None (more_statements (Assign (codes "n") None (Value (Sum (Variable (codes "n")) (more_addends sign.Plus (Number 1) no_addend)))) no_statement)) ∷ []) (((codes "up") ∷ []) ∷ [])) ∷ []) (codes "S") ((component (codes "c") (codes "C") ([])) ∷ [])) ≡ fault 12 10
row1 = refl

row2 : least (source ((definition (codes "A") (Same Bools)) ∷ (definition (codes "A") (Same Ints)) ∷ []) ((automaton (codes "C") ([]) ((entry kind.Internal (codes "up") ([])) ∷ []) ((variable (declared (codes "n") Ints) (Value (Number 9223372036854775807))) ∷ []) ((transition (entry kind.Internal (codes "up") ([])) None (more_statements (Assign (codes "n") None (Value (Sum (Variable (codes "n")) (more_addends sign.Plus (Number 1) no_addend)))) no_statement)) ∷ []) (((codes "up") ∷ []) ∷ [])) ∷ []) (codes "S") ((component (codes "c") (codes "C") ([])) ∷ [])) ≡ fault 11 5
row2 = refl

row3 : least (source ([]) ((automaton (codes "C") ([]) ((entry kind.Internal (codes "up") ([])) ∷ (entry kind.Internal (codes "dn") ([])) ∷ []) ((variable (declared (codes "n") Ints) (Value (Number 9223372036854775807))) ∷ []) ((transition (entry kind.Internal (codes "up") ([])) None (more_statements (Assign (codes "n") None (Value (Sum (Variable (codes "n")) (more_addends sign.Plus (Number 1) no_addend)))) no_statement)) ∷ []) (((codes "up") ∷ []) ∷ [])) ∷ []) (codes "S") ((component (codes "c") (codes "C") ([])) ∷ [])) ≡ fault 13 5
row3 = refl

row4 : least (source ([]) ((automaton (codes "C") ([]) ((entry kind.Internal (codes "up") ([])) ∷ []) ((variable (declared (codes "q") (SeqOf (SeqOf Ints 65535) 65535)) Empty) ∷ []) ((transition (entry kind.Internal (codes "up") ([])) None no_statement) ∷ []) (((codes "up") ∷ []) ∷ [])) ∷ []) (codes "S") ((component (codes "c") (codes "C") ([])) ∷ [])) ≡ fault 17 8
row4 = refl

row5 : least (source ((definition (codes "Id") (Same (Range (signed false 0) (signed false 1)))) ∷ []) ((automaton (codes "L") ((declared (codes "nx") (Named (codes "Id"))) ∷ (declared (codes "f") Bools) ∷ (declared (codes "me") (Named (codes "Id"))) ∷ []) ((entry kind.Output (codes "up") ((Constant (codes "f")) ∷ [])) ∷ (entry kind.Input (codes "tick") ((Constant (codes "me")) ∷ [])) ∷ []) ((variable (declared (codes "n") Bools) (Value (Compare (Sum (Variable (codes "nx")) (more_addends sign.Plus (Variable (codes "nx")) no_addend)) relation.AtLeast (Number 2)))) ∷ []) ((transition (entry kind.Output (codes "up") ((Constant (codes "f")) ∷ [])) None (more_statements (Assign (codes "n") None (Value (Variable (codes "n")))) (more_statements (Assign (codes "n") None (Value (Variable (codes "f")))) no_statement))) ∷ (transition (entry kind.Input (codes "tick") ((Constant (codes "me")) ∷ [])) None (more_statements (Assign (codes "n") None (Value (Variable (codes "f")))) (more_statements (Assign (codes "n") None (Value (Compare (Group (Or (Variable (codes "f")) (more_terms (Variable (codes "n")) no_term))) relation.NotEqual (Variable (codes "f"))))) no_statement))) ∷ []) (((codes "up") ∷ []) ∷ [])) ∷ []) (codes "Sys") ((component (codes "c0") (codes "L") ((Number 1) ∷ (Not (Number 1)) ∷ (Number 0) ∷ [])) ∷ [])) ≡ fault 12 93
row5 = refl

row6 : least (source ((definition (codes "Z_Id") (Same (Range (signed false 0) (signed false 2)))) ∷ (definition (codes "Z_T") (Same (Named (codes "Z_Id")))) ∷ (definition (codes "Z_Mode") (Enumeration ((codes "Z_red") ∷ (codes "Z_red1") ∷ (codes "Z_m") ∷ []))) ∷ (definition (codes "Z_T1") (Same (Named (codes "Z_Mode")))) ∷ []) ((automaton (codes "Z_Node") ((declared (codes "Z_me") (Named (codes "Z_T"))) ∷ (declared (codes "Z_nx") (Named (codes "Z_Id"))) ∷ []) ((entry kind.Input (codes "up") ((Typed (declared (codes "v0") (Named (codes "Z_Id")))) ∷ [])) ∷ []) ((variable (declared (codes "n") (SeqOf (Named (codes "Z_Id")) 1)) Empty) ∷ []) ((transition (entry kind.Internal (codes "pass") ((Constant (codes "Z_me")) ∷ (Typed (declared (codes "w1_") (Named (codes "Z_T")))) ∷ [])) (Some (Compare (Number 2) relation.NotEqual (Group (Number 2)))) (more_statements (Assign (codes "n") None (Value (Append (Append (Variable (codes "n")) (Number 2)) (Variable (codes "w1_"))))) no_statement)) ∷ (transition (entry kind.Input (codes "up") ((Typed (declared (codes "v0") (Named (codes "Z_Id")))) ∷ [])) None no_statement) ∷ []) (((codes "pass") ∷ []) ∷ [])) ∷ []) (codes "Z_Sys") ((component (codes "Z_Node") (codes "Z_Node") ((Number 0) ∷ (Number 1) ∷ [])) ∷ (component (codes "c1") (codes "Z_Node") ((Number 1) ∷ (Number 2) ∷ [])) ∷ (component (codes "Z_Node_") (codes "Z_Node") ((Number 2) ∷ (Number 0) ∷ [])) ∷ [])) ≡ fault 10 56
row6 = refl

row7 : least (source ([]) ((automaton (codes "C") ((declared (codes "f") Bools) ∷ []) ((entry kind.Input (codes "a") ([])) ∷ (entry kind.Input (codes "a") ([])) ∷ []) ((variable (declared (codes "n") Ints) (Value (Number 0))) ∷ []) ((transition (entry kind.Input (codes "a") ([])) (Some True) no_statement) ∷ (transition (entry kind.Input (codes "a") ([])) None (more_statements (Assign (codes "n") None (Value (Number 1))) no_statement)) ∷ []) ([])) ∷ []) (codes "S") ((component (codes "c") (codes "C") (True ∷ [])) ∷ [])) ≡ fault 11 11
row7 = refl

row8 : least (source ([]) ((automaton (codes "C") ((declared (codes "f") Ints) ∷ (declared (codes "g") (Range (signed false 0) (signed false 2))) ∷ []) ((entry kind.Internal (codes "up") ([])) ∷ []) ((variable (declared (codes "n") Ints) (Value (Variable (codes "f")))) ∷ (variable (declared (codes "m") Ints) (Value (Variable (codes "n")))) ∷ []) ((transition (entry kind.Internal (codes "up") ([])) (Some (Compare (Variable (codes "n")) relation.Equal (Variable (codes "f")))) (more_statements (Assign (codes "f") None (Value (Variable (codes "n")))) no_statement)) ∷ []) (((codes "up") ∷ []) ∷ [])) ∷ []) (codes "S") ((component (codes "c") (codes "C") ((Variable (codes "n")) ∷ (Minus (Number 7)) ∷ [])) ∷ [])) ≡ fault 10 27
row8 = refl

row9 : least (source ((definition (codes "Id") (Same (Range (signed false 0) (signed false 1)))) ∷ (definition (codes "Color") (Enumeration ((codes "Up") ∷ []))) ∷ (definition (codes "Color1") (Enumeration ((codes "red") ∷ (codes "red1") ∷ (codes "Up1") ∷ (codes "m") ∷ []))) ∷ (definition (codes "T") (Same (Named (codes "Color")))) ∷ (definition (codes "E") (Enumeration ((codes "m1") ∷ (codes "m2") ∷ (codes "m3") ∷ (codes "red2") ∷ []))) ∷ []) ((automaton (codes "S") ((declared (codes "f") (Named (codes "Id"))) ∷ (declared (codes "nx") (Named (codes "Id"))) ∷ (declared (codes "me") (Range (signed false 0) (signed false 1))) ∷ []) ((entry kind.Output (codes "pass") ((Typed (declared (codes "v0") Bools)) ∷ [])) ∷ []) ((variable (declared (codes "n") (Named (codes "Color"))) (Value (Variable (codes "Up")))) ∷ (variable (declared (codes "has") (Named (codes "T"))) (Value (Variable (codes "Up")))) ∷ []) ((transition (entry kind.Output (codes "pass") ((Typed (declared (codes "Color") Bools)) ∷ [])) (Some (Not (Compare (Variable (codes "has")) relation.Equal (Variable (codes "n"))))) (more_statements (Assign (codes "has") None (Value (Variable (codes "has")))) no_statement)) ∷ []) (((codes "pass") ∷ []) ∷ [])) ∷ []) (codes "Sys") ((component (codes "c0") (codes "S") ((Number 0) ∷ (Number 1) ∷ (Number 0) ∷ [])) ∷ [])) ≡ fault 12 79
row9 = refl

row10 : least (source ((definition (codes "Id") (Same (Range (signed false 0) (signed false 1)))) ∷ (definition (codes "Color") (Enumeration ((codes "Up") ∷ (codes "off") ∷ []))) ∷ (definition (codes "Mode") (Enumeration ((codes "Up1") ∷ (codes "off1") ∷ (codes "red") ∷ (codes "Up2") ∷ []))) ∷ (definition (codes "Color1") (Enumeration ((codes "red1") ∷ (codes "Up3") ∷ (codes "m") ∷ []))) ∷ []) ((automaton (codes "L") ((declared (codes "f") Ints) ∷ (declared (codes "me") (Range (signed false 0) (signed false 1))) ∷ (declared (codes "nx") (Range (signed false 0) (signed false 1))) ∷ []) ((entry kind.Input (codes "tick_3") ((Constant (codes "me")) ∷ (Typed (declared (codes "v1") (Range (signed false 1) (signed false 3)))) ∷ (Typed (declared (codes "v2") Bools)) ∷ [])) ∷ (entry kind.Input (codes "tick") ((Constant (codes "me")) ∷ [])) ∷ (entry kind.Output (codes "send") ((Typed (declared (codes "v0") (Range (signed false 0) (signed false 3)))) ∷ [])) ∷ []) ((variable (declared (codes "n") (Named (codes "Color"))) (Value (Variable (codes "Up")))) ∷ []) ((transition (entry kind.Input (codes "tick_3") ((Constant (codes "me")) ∷ (Typed (declared (codes "v1") (Range (signed false 1) (signed false 3)))) ∷ (Typed (declared (codes "v2") Bools)) ∷ [])) None (more_statements (Assign (codes "n") None (Value (Variable (codes "off")))) no_statement)) ∷ (transition (entry kind.Output (codes "send") ((Typed (declared (codes "v0") (Range (signed false 0) (signed false 3)))) ∷ [])) None no_statement) ∷ (transition (entry kind.Input (codes "tick") ((Constant (codes "me")) ∷ [])) None (more_statements (Assign (codes "n") None (Value (Variable (codes "Up")))) (more_statements (If (more_branches (Not (Compare (Sum (Variable (codes "me")) (more_addends sign.Minus (Variable (codes "nx")) no_addend)) relation.NotEqual (Product (Variable (codes "f")) (more_factors (Modulo 3) no_factor)))) (more_statements (Assign (codes "n") None (Value (Variable (codes "off")))) no_statement) no_branch) (more_statements (For (declared (codes "j0") (Range (signed true 2) (signed false 1))) (more_statements (Assign (codes "n") None (Value (Variable (codes "n")))) no_statement)) no_statement)) (more_statements (Assign (codes "n") None (Value (Variable (codes "n")))) no_statement)))) ∷ []) (((codes "v0") ∷ []) ∷ [])) ∷ []) (codes "Sys") ((component (codes "c0") (codes "L") ((Number 3) ∷ (Number 0) ∷ (Number 1) ∷ [])) ∷ [])) ≡ fault 16 78
row10 = refl

row11 : least (source ([]) ((automaton (codes "C") ((declared (codes "f0") Ints) ∷ (declared (codes "f1") Ints) ∷ (declared (codes "f2") Ints) ∷ (declared (codes "f3") Ints) ∷ (declared (codes "f4") Ints) ∷ (declared (codes "f5") Ints) ∷ (declared (codes "f6") Ints) ∷ (declared (codes "f7") Ints) ∷ (declared (codes "f8") Ints) ∷ (declared (codes "f9") Ints) ∷ (declared (codes "f10") Ints) ∷ (declared (codes "f11") Ints) ∷ (declared (codes "f12") Ints) ∷ (declared (codes "f13") Ints) ∷ (declared (codes "f14") Ints) ∷ (declared (codes "f15") Ints) ∷ (declared (codes "f16") Ints) ∷ []) ((entry kind.Internal (codes "up") ([])) ∷ []) ([]) ((transition (entry kind.Internal (codes "up") ([])) None no_statement) ∷ []) (((codes "up") ∷ []) ∷ [])) ∷ []) (codes "S") ((component (codes "c") (codes "C") ((Number 1) ∷ (Number 1) ∷ (Number 1) ∷ (Number 1) ∷ (Number 1) ∷ (Number 1) ∷ (Number 1) ∷ (Number 1) ∷ (Number 1) ∷ (Number 1) ∷ (Number 1) ∷ (Number 1) ∷ (Number 1) ∷ (Number 1) ∷ (Number 1) ∷ (Number 1) ∷ (Number 1) ∷ [])) ∷ [])) ≡ fault 17 1
row11 = refl

row12 : least (source ([]) ((automaton (codes "C") ([]) ((entry kind.Internal (codes "up") ([])) ∷ []) ((variable (declared (codes "q") (ArrayOf (Range (signed false 1) (signed false 256)) (SeqOf Ints 256))) (Fill Empty)) ∷ (variable (declared (codes "m") (SeqOf Ints 65535)) Empty) ∷ []) ((transition (entry kind.Internal (codes "up") ([])) None no_statement) ∷ []) (((codes "up") ∷ []) ∷ [])) ∷ []) (codes "S") ((component (codes "c") (codes "C") ([])) ∷ [])) ≡ fault 17 29
row12 = refl

row13 : least (source ((definition (codes "Id") (Same (Range (signed false 0) (signed false 1)))) ∷ []) ((automaton (codes "L") ((declared (codes "me") (Named (codes "Id"))) ∷ (declared (codes "nx") (Range (signed false 0) (signed false 1))) ∷ []) ((entry kind.Output (codes "a") ((Constant (codes "me")) ∷ [])) ∷ (entry kind.Output (codes "tick") ((Constant (codes "me")) ∷ [])) ∷ (entry kind.Output (codes "tick") ((Constant (codes "nx")) ∷ [])) ∷ []) ((variable (declared (codes "n") (SeqOf (SeqOf (Range (signed true 9223372036854775807) (signed false 9223372036854775807)) 3) 3)) Empty) ∷ (variable (declared (codes "has") (SeqOf Bools 2)) Empty) ∷ []) ((transition (entry kind.Output (codes "a") ((Constant (codes "me")) ∷ [])) (Some False) (more_statements (For (declared (codes "i0") Bools) (more_statements (For (declared (codes "k1") (Range (signed false 2) (signed false 2))) (more_statements (For (declared (codes "j2") (Range (signed false 2) (signed false 5))) (more_statements (Assign (codes "n") None (Value (Called call.Tail (Variable (codes "n"))))) no_statement)) no_statement)) (more_statements (Assign (codes "n") None (Value (Called call.Tail (Called call.Tail (Variable (codes "n")))))) no_statement))) no_statement)) ∷ (transition (entry kind.Input (codes "tick") ((Constant (codes "me")) ∷ [])) None no_statement) ∷ (transition (entry kind.Output (codes "tick") ((Constant (codes "nx")) ∷ [])) (Some (Called call.Head (Variable (codes "has")))) (more_statements (If (more_branches (Group (Compare (Variable (codes "n")) relation.Equal (Called call.Tail (Called call.Tail (Variable (codes "n")))))) (more_statements (Assign (codes "n") None (Value (Variable (codes "n")))) no_statement) no_branch) no_statement) (more_statements (Assign (codes "has") None (Value (Called call.Tail (Append (Variable (codes "has")) False)))) (more_statements (Assign (codes "has") None (Value (Append (Called call.Tail (Variable (codes "has"))) (Compare (Variable (codes "me")) relation.Equal (Variable (codes "me")))))) no_statement)))) ∷ []) (((codes "tick") ∷ []) ∷ ((codes "a") ∷ []) ∷ [])) ∷ []) (codes "Sys") ((component (codes "L") (codes "L") ((Number 0) ∷ (Number 1) ∷ [])) ∷ (component (codes "c1") (codes "L") ((Number 1) ∷ (Number 0) ∷ [])) ∷ [])) ≡ fault 11 33
row13 = refl

row14 : least (source ((definition (codes "xId") (Same (Range (signed false 0) (signed false 2)))) ∷ (definition (codes "xT") (Same (Range (signed true 2) (signed true 2)))) ∷ (definition (codes "xT1") (Same (Named (codes "xId")))) ∷ (definition (codes "xMode") (Enumeration ((codes "xUp") ∷ []))) ∷ (definition (codes "xT2") (Same (Range (signed true 9223372036854775807) (signed false 9223372036854775807)))) ∷ []) ((automaton (codes "xNode") ((declared (codes "xnx") (Range (signed false 0) (signed false 2))) ∷ (declared (codes "xf") Ints) ∷ (declared (codes "xf1") (Named (codes "xMode"))) ∷ (declared (codes "xme") (Range (signed false 0) (signed false 2))) ∷ []) ((entry kind.Internal (codes "up") ((Constant (codes "xme")) ∷ [])) ∷ (entry kind.Input (codes "up_1") ((Typed (declared (codes "v0") (Range (signed false 0) (signed false 2)))) ∷ (Typed (declared (codes "v1") (Range (signed false 0) (signed false 1)))) ∷ [])) ∷ []) ((variable (declared (codes "n") (Range (signed false 1) (signed false 3))) (Value (Sum (Product (Variable (codes "xf")) (more_factors (Times (Variable (codes "xf"))) no_factor)) (more_addends sign.Minus (Minus (Variable (codes "xf"))) no_addend)))) ∷ []) ((transition (entry kind.Internal (codes "foo") ((Constant (codes "xme")) ∷ [])) None (more_statements (If (more_branches (Compare (Variable (codes "xf")) relation.NotEqual (Variable (codes "xnx"))) (more_statements (Assign (codes "n") None (Value (Variable (codes "n")))) (more_statements (Assign (codes "n") None (Value (Sum (Product (Variable (codes "xf")) (more_factors (Modulo 5) no_factor)) (more_addends sign.Plus (Variable (codes "xf")) no_addend)))) (more_statements (For (declared (codes "j0") Bools) (more_statements (Assign (codes "n") None (Value (Variable (codes "n")))) no_statement)) no_statement))) no_branch) (more_statements (Assign (codes "n") None (Value (Minus (Variable (codes "xf"))))) (more_statements (Assign (codes "n") None (Value (Variable (codes "xf")))) (more_statements (If (more_branches (Compare (Number 1) relation.Greater (Variable (codes "xf"))) (more_statements (Assign (codes "n") None (Value (Variable (codes "n")))) no_statement) no_branch) (more_statements (For (declared (codes "j0") (Range (signed false 0) (signed false 3))) (more_statements (Assign (codes "n") None (Value (Variable (codes "xme")))) no_statement)) no_statement)) no_statement)))) no_statement)) ∷ (transition (entry kind.Input (codes "up_1") ((Typed (declared (codes "v0") (Range (signed false 0) (signed false 2)))) ∷ (Typed (declared (codes "v1") (Range (signed false 0) (signed false 1)))) ∷ [])) None (more_statements (Assign (codes "n") None (Value (Group (Variable (codes "v0"))))) (more_statements (Assign (codes "n") None (Value (Sum (Variable (codes "v0")) (more_addends sign.Minus (Variable (codes "xme")) no_addend)))) no_statement))) ∷ []) (((codes "up") ∷ []) ∷ [])) ∷ (automaton (codes "xL") ((declared (codes "xnx1") (Range (signed false 0) (signed false 2))) ∷ (declared (codes "xf3") (Named (codes "xMode"))) ∷ (declared (codes "xf2") (Named (codes "xMode"))) ∷ (declared (codes "xme1") (Range (signed false 0) (signed false 2))) ∷ []) ((entry kind.Input (codes "up_1") ((Typed (declared (codes "w0_") (Range (signed false 0) (signed false 2)))) ∷ (Typed (declared (codes "v1") (Range (signed false 0) (signed false 1)))) ∷ [])) ∷ []) ((variable (declared (codes "n") (SeqOf (ArrayOf (Range (signed true 1) (signed false 2)) (Named (codes "xT1"))) 2)) Empty) ∷ (variable (declared (codes "has") (SeqOf (SeqOf (Named (codes "xT2")) 1) 1)) Empty) ∷ []) ((transition (entry kind.Input (codes "up_1") ((Typed (declared (codes "w0_") (Range (signed false 0) (signed false 2)))) ∷ (Typed (declared (codes "v1") (Range (signed false 0) (signed false 1)))) ∷ [])) None (more_statements (For (declared (codes "i0") (Range (signed true 3) (signed true 3))) (more_statements (Assign (codes "n") None (Value (Called call.Tail (Variable (codes "n"))))) no_statement)) no_statement)) ∷ []) ([])) ∷ (automaton (codes "xS") ((declared (codes "xnx2") (Named (codes "xT1"))) ∷ (declared (codes "xme2") (Named (codes "xId"))) ∷ []) ((entry kind.Output (codes "up_1") ((Typed (declared (codes "v0") (Named (codes "xT1")))) ∷ (Typed (declared (codes "v1") (Range (signed false 0) (signed false 1)))) ∷ [])) ∷ []) ((variable (declared (codes "n") (Range (signed true 3) (signed true 2))) (Value (Variable (codes "xme2")))) ∷ (variable (declared (codes "has") (ArrayOf (Range (signed true 2) (signed true 1)) (Named (codes "xId")))) (Fill (Value (Product (Number 1) (more_factors (Modulo 2) no_factor))))) ∷ []) ((transition (entry kind.Output (codes "up_1") ((Typed (declared (codes "v0") (Named (codes "xT1")))) ∷ (Typed (declared (codes "v1") (Range (signed false 0) (signed false 1)))) ∷ [])) (Some False) (more_statements (For (declared (codes "i0") (Named (codes "xMode"))) (more_statements (Assign (codes "n") None (Value (Variable (codes "v1")))) no_statement)) no_statement)) ∷ []) (((codes "up_1") ∷ []) ∷ [])) ∷ []) (codes "xSys") ((component (codes "c0") (codes "xL") ((Product (Group (Sum (Number 0) (more_addends sign.Plus (Number 1) no_addend))) (more_factors (Modulo 3) no_factor)) ∷ (Variable (codes "xUp")) ∷ (Variable (codes "xUp")) ∷ (Number 0) ∷ [])) ∷ (component (codes "c1") (codes "xS") ((Number 2) ∷ (Number 1) ∷ [])) ∷ (component (codes "c2") (codes "xNode") ((Product (Group (Sum (Number 2) (more_addends sign.Plus (Number 1) no_addend))) (more_factors (Modulo 3) no_factor)) ∷ (Number 2) ∷ (Variable (codes "xUp")) ∷ (Number 2) ∷ [])) ∷ [])) ≡ fault 13 55
row14 = refl

row15 : least (source ([]) ((automaton (codes "C") ((declared (codes "f") Bools) ∷ []) ((entry kind.Output (codes "b") ([])) ∷ (entry kind.Input (codes "b") ((Constant (codes "g")) ∷ [])) ∷ (entry kind.Input (codes "b") ((Constant (codes "g")) ∷ [])) ∷ []) ((variable (declared (codes "n") Ints) (Value (Number 0))) ∷ []) ((transition (entry kind.Input (codes "b") ((Constant (codes "g")) ∷ [])) None no_statement) ∷ (transition (entry kind.Input (codes "b") ((Constant (codes "g")) ∷ [])) None no_statement) ∷ []) (((codes "b") ∷ (codes "b") ∷ []) ∷ [])) ∷ []) (codes "S") ((component (codes "c") (codes "C") (True ∷ [])) ∷ [])) ≡ fault 13 8
row15 = refl

row16 : least (source ((definition (codes "Id") (Same (Range (signed false 0) (signed false 4)))) ∷ (definition (codes "T") (Same (Range (signed false 0) (signed false 3)))) ∷ (definition (codes "Color") (Enumeration ((codes "red") ∷ (codes "red1") ∷ []))) ∷ (definition (codes "Mode") (Enumeration ((codes "m") ∷ (codes "red2") ∷ []))) ∷ (definition (codes "E") (Enumeration ((codes "m1") ∷ (codes "red3") ∷ []))) ∷ []) ((automaton (codes "Node") ((declared (codes "nx") (Named (codes "Id"))) ∷ (declared (codes "me") (Named (codes "Id"))) ∷ []) ((entry kind.Output (codes "a") ((Constant (codes "me")) ∷ (Typed (declared (codes "v1") (Range (signed false 0) (signed false 3)))) ∷ [])) ∷ (entry kind.Input (codes "a_2") ((Constant (codes "me")) ∷ (Typed (declared (codes "v1") (Range (signed false 1) (signed false 2)))) ∷ [])) ∷ (entry kind.Input (codes "a") ((Constant (codes "nx")) ∷ (Typed (declared (codes "w1_") (Named (codes "T")))) ∷ [])) ∷ (entry kind.Output (codes "send") ((Constant (codes "me")) ∷ (Typed (declared (codes "v1") (Named (codes "E")))) ∷ (Typed (declared (codes "w2_") (Range (signed false 2) (signed false 3)))) ∷ [])) ∷ []) ([]) ((transition (entry kind.Output (codes "a") ((Constant (codes "me")) ∷ (Typed (declared (codes "v1") (Range (signed false 0) (signed false 3)))) ∷ [])) (Some (Compare (Variable (codes "v1")) relation.AtLeast (Minus (Variable (codes "nx"))))) no_statement) ∷ (transition (entry kind.Input (codes "a_2") ((Constant (codes "me")) ∷ (Typed (declared (codes "v1") (Range (signed false 1) (signed false 2)))) ∷ [])) None no_statement) ∷ (transition (entry kind.Input (codes "a") ((Constant (codes "nx")) ∷ (Typed (declared (codes "w1_") (Named (codes "T")))) ∷ [])) None no_statement) ∷ (transition (entry kind.Output (codes "send") ((Constant (codes "me")) ∷ (Typed (declared (codes "v1") (Named (codes "E")))) ∷ (Typed (declared (codes "w2_") (Range (signed false 2) (signed false 3)))) ∷ [])) (Some (Group True)) no_statement) ∷ []) (((codes "a") ∷ []) ∷ ((codes "send") ∷ []) ∷ [])) ∷ (automaton (codes "S") ((declared (codes "nx1") (Named (codes "Id"))) ∷ (declared (codes "me1") (Named (codes "Id"))) ∷ []) ((entry kind.Input (codes "a") ((Constant (codes "nx1")) ∷ (Typed (declared (codes "v1") (Named (codes "T")))) ∷ [])) ∷ (entry kind.Output (codes "a") ((Constant (codes "me1")) ∷ (Typed (declared (codes "v1") (Named (codes "T")))) ∷ [])) ∷ (entry kind.Output (codes "send") ((Constant (codes "me1")) ∷ (Typed (declared (codes "v1") (Named (codes "E")))) ∷ (Typed (declared (codes "v2") (Range (signed false 2) (signed false 3)))) ∷ [])) ∷ (entry kind.Output (codes "a_2") ((Constant (codes "nx1")) ∷ (Typed (declared (codes "v1") (Range (signed false 1) (signed false 2)))) ∷ [])) ∷ []) ((variable (declared (codes "n") (ArrayOf (Range (signed false 0) (signed false 1)) Bools)) (Fill (Value (Group (Or (Not True) (more_terms (And True (more_terms True no_term)) no_term)))))) ∷ []) ((transition (entry kind.Input (codes "a") ((Constant (codes "nx1")) ∷ (Typed (declared (codes "v1") (Named (codes "T")))) ∷ [])) None no_statement) ∷ (transition (entry kind.Output (codes "a") ((Constant (codes "me1")) ∷ (Typed (declared (codes "v1") (Named (codes "T")))) ∷ [])) None (more_statements (For (declared (codes "j0") (Range (signed false 0) (signed false 0))) (more_statements (Assign (codes "n") None (Value (Variable (codes "n")))) no_statement)) no_statement)) ∷ (transition (entry kind.Output (codes "a") ((Constant (codes "me1")) ∷ (Typed (declared (codes "v1") (Named (codes "T")))) ∷ [])) (Some (Compare (Variable (codes "n")) relation.NotEqual (Variable (codes "n")))) no_statement) ∷ (transition (entry kind.Output (codes "send") ((Constant (codes "me1")) ∷ (Typed (declared (codes "v1") (Named (codes "E")))) ∷ (Typed (declared (codes "v2") (Range (signed false 2) (signed false 3)))) ∷ [])) None no_statement) ∷ (transition (entry kind.Output (codes "a_2") ((Constant (codes "nx1")) ∷ (Typed (declared (codes "v1") (Range (signed false 1) (signed false 2)))) ∷ [])) (Some (Compare (Variable (codes "v1")) relation.AtMost (Minus (Group (Sum (Variable (codes "nx1")) (more_addends sign.Plus (Variable (codes "me1")) no_addend)))))) no_statement) ∷ []) (((codes "send") ∷ []) ∷ ((codes "a_2") ∷ []) ∷ ((codes "a") ∷ []) ∷ [])) ∷ []) (codes "Sys") ((component (codes "c0") (codes "S") ((Number 1) ∷ (Number 0) ∷ [])) ∷ (component (codes "S") (codes "S") ((Number 2) ∷ (Number 1) ∷ [])) ∷ (component (codes "c2") (codes "Node") ((Product (Group (Sum (Number 2) (more_addends sign.Plus (Number 1) no_addend))) (more_factors (Modulo 5) no_factor)) ∷ (Number 2) ∷ [])) ∷ (component (codes "c3") (codes "S") ((Number 4) ∷ (Number 3) ∷ [])) ∷ (component (codes "c4") (codes "Node") ((Number 0) ∷ (Number 4) ∷ [])) ∷ [])) ≡ fault 14 281
row16 = refl

row17 : least (source ([]) ((automaton (codes "C") ((declared (codes "f") Bools) ∷ []) ((entry kind.Output (codes "a") ([])) ∷ (entry kind.Output (codes "a") ([])) ∷ (entry kind.Internal (codes "a") ([])) ∷ []) ((variable (declared (codes "n") Ints) (Value (Number 0))) ∷ []) ((transition (entry kind.Output (codes "a") ([])) None (more_statements (Assign (codes "n") None (Value (Number 1))) no_statement)) ∷ (transition (entry kind.Output (codes "a") ([])) None no_statement) ∷ (transition (entry kind.Internal (codes "a") ([])) (Some (Compare (Variable (codes "n")) relation.Equal (Number 1))) (more_statements (Assign (codes "n") None (Value (Number 2))) no_statement)) ∷ (transition (entry kind.Output (codes "b") ([])) (Some True) no_statement) ∷ []) (((codes "b") ∷ []) ∷ [])) ∷ []) (codes "S") ((component (codes "c") (codes "C") (True ∷ [])) ∷ [])) ≡ fault 16 8
row17 = refl

row18 : least (hiding ((codes "up") ∷ (codes "up") ∷ []) (source ([]) ((automaton (codes "C") ([]) ((entry kind.Output (codes "up") ([])) ∷ []) ([]) ((transition (entry kind.Output (codes "up") ([])) None no_statement) ∷ []) (((codes "up") ∷ []) ∷ [])) ∷ []) (codes "S") ((component (codes "c") (codes "C") ([])) ∷ []))) ≡ fault 11 21
row18 = refl
