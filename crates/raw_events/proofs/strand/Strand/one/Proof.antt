-- `one` fills the block, which is then the only node. Assumes `Logic`.
use mathlib.Core.Path.{◌≡◌, refl, sym, subst}
use Prim.Native.Nat.{ℕ}
use mathlib.Core.List.{List, [], ◌∷◌, ◌++◌}
use seplogic.Ra.Ura.{Ura}
use mir.Syntax.{Fn, ty_ptr}
use mir.MapTy.{inst_fn}
use mir.Val.{Val}
use base.Logic.{SProp, ent, emp, via, fst∗}
use base.Fml.{ftrue, froom}
use prog.Wp.{Env, Calls, Loops, WpFn, Tables}
use types.Logic.{Logic}
use contract.Monad.{fact}
use contract.Running.{tables, tables_of}
use sound.WpLaws.{WpFn-mono}
use types.Kit.{Item, ⋆, ‵, at_ret, ◌$◌, ◌∵◌, !, qed, by, move, keep, use1, use2, join, group, fsplit3, fjoin, suffices, done}
use types.Part.{whole, sub, agg}
use types.Run.{init, stop, fld, of_opd, and_then, no_more, assigns_last, first, blocks, exec, returns, enter}
use types.ByLocal.{alloc_all, pass_all, free_all, look_at, get, get_in, through, sets, env}
use denote.Exit.{no}
use denote.RattleType.{RattleType, owns}
use denote.Memory.{lone}
use denote.RawPtr.{Ptr, block_ptr, ptr_val}
use denote.Signature.{plain}
use denote.Steps.{nothing}
use denote.Triple.Carry.{spared}
use denote.Triple.Clauses.{Clauses, Ended, closing}
use denote.Triple.Entry.{on_entry}
use denote.Triple.Spec.{Meets, triple_of}
use denote.Triple.Table.{entered, run_framed}
use denote.Triple.Walked.{says, Stays, stay_dropped, walk_of, ends_at, Goes-dropped, walk_Meets}
use Rattle.std_alloc.proofs.VecSteps.Shapes.{after}
use Rattle.std_alloc.proofs.RcSteps.{Good, Ptr-Good}
use denote.Struct.Struct.{as_fields}
use Rattle.core.proofs.alloc.Calls.{α, token, Fits, Goes-blank}
use Rattle.std_alloc.proofs.RawLayout.{as_written}
use Rattle.std_alloc.proofs.BoxSteps.Form.{Bx, args, X, τ, own, R, P}
use Rattle.std_alloc.proofs.BoxSteps.Steps.{el_tells}
use Rattle.std_alloc.proofs.OfVacant.{Vacant, vacant_val, vacant_typed, Vacant-had}
use Rattle.raw_events.specs.contracts.strand.Node as Block
use Rattle.std_collections.proofs.ListMemory.Steps.{node_val, Hd, block_ty, Held, One, cons_in, node_made}
use Rattle.raw_events.proofs.Steps.{words, D, Sr, strand_made}
use Rattle.raw_events.specs.contracts.strand.Strand.one.Key.{name as #self}
use Rattle.raw_events.proofs.strand.Strand.one.Statement as stated
use Rattle.raw_events.proofs.strand.Strand.one.Code as code

module _ (E : Bx) where
  abbrev function : Fn
  function = inst_fn (args E) code.function

  abbrev Node : RattleType
  Node = Block.the_row (R E) (P E)

  abbrev Room : RattleType
  Room = Vacant E.al Node

  abbrev ended : Ended
  ended = record { signature = record { lifetimes = 0; outlives = []; params = plain (λ _. Room) ∷ plain (λ _. R E) ∷ []; result = plain (λ _. Sr E) }; kept = (no, (no, tt)) }

  abbrev stayed : Stays ended.signature.params ended.kept
  stayed = (stay_dropped (plain (λ _. Room)) no, (stay_dropped (plain (λ _. R E)) no, tt))

  abbrev spec : {M : Type 1} {𝓤 : Ura M} (𝓛 : Logic 𝓤) → Clauses 𝓤 ended
  spec {𝓤 = 𝓤} 𝓛 κs a = record { ghost = Unit {0}; requires = λ _. emp 𝓤; ensures = λ _ r _. fact 𝓤 (r.items ≡ a.1.0 ∷ []) }

module _ (E : Bx) {M : Type 1} {𝓤 : Ura M} (𝓛 : Logic 𝓤) (C : Calls 𝓤 𝓛.H) (Λ : Loops 𝓤 𝓛.H) (room : (Room E).Denot) (x : X E) (us vs : List Val) where
  open 𝓛 use {H}

  abbrev bound : (walk_of 𝓛 (ended E) (stayed E) (spec E 𝓛)).Ghost
  bound = ((tt, tt, tt, (room, (x, tt)), (us, (vs, tt))), tt)

  abbrev Post : Val → SProp 𝓤
  Post = (walk_of 𝓛 (ended E) (stayed E) (spec E 𝓛)).post bound

  abbrev h : Hd E
  h = room.alloc

  abbrev Had : ℕ → ℕ → Val → Val → List (Item 𝓤)
  Had b o hv v = ‵ (froom (block_ty E) b o) ∷ ‵ (token E.al h (block_ty E) (block_ptr b o)) ∷ ‵ (E.al.row.own_val h (hv ∷ [])) ∷ ‵ (own E x (v ∷ [])) ∷ []

  walk : (b o : ℕ) (hv v : Val) → Fits E.al hv → Good (τ E) v → ent 𝓤 (⋆ 𝓛 (Had b o hv v)) (WpFn 𝓤 H C Λ (function E) (vacant_val hv b o ∷ v ∷ []) Post)
  walk b o hv v fa good =
      let p : Ptr = block_ptr b o in
      let typed : (n m : Ptr) → Good (lone (Node E).mir) (node_val n m v hv) = λ n m. as_fields (ty_ptr ∷ ty_ptr ∷ τ E ∷ α E.al ∷ []) (ptr_val n ∷ ptr_val m ∷ v ∷ hv ∷ []) (Ptr-Good n, (Ptr-Good m, (good, (fa, tt)))) in
      let new : D E = record { head = p; tail = p; items = x ∷ []; blocks = ((p, p, p), h) ∷ []; ok = refl; chained = ∣ ((refl, tt), refl) ∣₁ } in
      qed 𝓛 (Had b o hv v) ∵ enter ! C Λ (function E) (vacant_val hv b o ∷ v ∷ []) _ $ alloc_all ! (λ l. pass_all ! refl (vacant_typed E.al (Node E) hv b o fa, (good, tt)) $
      let En : Env 𝓤 H = env (function E).locals l in
      as_written ! (lone (Node E).mir) b o $
      -- [the room; the token; the handle; the element]
      sets ! (of_opd ! (get_in ! (fld ! refl (stop !)) (sub ! 0 refl (whole !)))) refl (tt, tt) $ sets ! (of_opd ! (get_in ! (fld ! refl (stop !)) (sub ! 1 refl (whole !)))) refl fa $
      first ! $ blocks ! $ sets ! (of_opd ! (get ! refl)) refl good $ sets ! (of_opd ! (get ! refl)) refl fa $
      sets ! (agg ! (and_then ! (get ! refl) (and_then ! (get ! refl) (and_then ! (get ! refl) (and_then ! (get ! refl) (no_more !)))))) refl (typed p p) $
      assigns_last ! (of_opd ! (get ! refl)) (through ! refl (stop !)) (init ! 0 refl (typed p p)) $ exec ! C Λ En (after 3 (function E).body) (at_ret En Post) $
      sets ! (agg ! (and_then ! (get ! refl) (and_then ! (get ! refl) (no_more !)))) refl (tt, (tt, (tt, tt))) $
      group ! 4 $
      use1 𝓛 (‵ (One E ((p, p, p), h) x)) (node_made E 𝓛 (Block.the_type (R E) (P E)).name b o p p h x v hv) $ nothing ! $ nothing ! $ fjoin ! $ move ! (1 ∷ 0 ∷ []) $
      use2 𝓛 (‵ (Held E new.blocks new.items)) (cons_in E 𝓛 ((p, p, p), h) [] x []) $ strand_made E ! new $
      returns ! (look_at ! 0 refl) $ free_all ! refl $ keep ! (0 ∷ []) $
      suffices ! _ (ends_at 𝓛 (ended E) (stayed E) (spec E 𝓛) bound (words p p) new ((tt, (tt, tt)), (tt, tt)) (tt, (tt, tt))) $ says ! refl $
      nothing ! $ nothing ! $ fjoin ! $ nothing ! $ fjoin ! $ join ! $ nothing ! $ join ! $ done !)

  entry : ent 𝓤 (on_entry 𝓛 (ended E).signature tt tt (room, (x, tt)) (us, (vs, tt))) (WpFn 𝓤 H C Λ (function E) (us ++ (vs ++ [])) Post)
  entry =
      qed 𝓛 (‵ ftrue ∷ ‵ (owns (Room E ∷ R E ∷ []) (room, (x, tt)) (us, (vs, tt))) ∷ []) ∵ move ! (1 ∷ []) $ fsplit3 ! $
      move ! (1 ∷ []) $ el_tells E ! x vs (λ v g good. move ! (1 ∷ []) $ Vacant-had E.al (Node E) ! room us (λ b o hv at f fa. keep ! (0 ∷ 1 ∷ 2 ∷ 3 ∷ []) $
      by ! (subst (λ (ws : List Val × List Val). ent 𝓤 (⋆ 𝓛 (Had b o hv v)) (WpFn 𝓤 H C Λ (function E) (ws.0 ++ (ws.1 ++ [])) Post)) (λ j. (sym f j, sym g j)) (walk b o hv v fa good))))

meets : (E : Bx) {M : Type 1} {𝓤 : Ura M} (𝓛 : Logic 𝓤) (𝓣 : Tables 𝓤 𝓛.H)
    → Meets 𝓛 (ended E).signature (WpFn 𝓤 𝓛.H 𝓣.C 𝓣.Λ (function E)) (closing 𝓛 (ended E) (spec E 𝓛))
meets E {𝓤 = 𝓤} 𝓛 𝓣 =
    walk_Meets 𝓛 (ended E) (stayed E) (Goes-blank 𝓛 0 (plain (λ _. Room E)) no (λ κs x f. tt), (Goes-dropped 𝓛 0 (plain (λ _. R E)) no (λ κs x f. refl), tt)) (spec E 𝓛) (WpFn 𝓤 𝓛.H 𝓣.C 𝓣.Λ (function E)) (WpFn-mono 𝓤 𝓛.H 𝓛.laws 𝓣 (function E))
    (λ z. let a = z.0.3 in let vss = z.0.4 in via 𝓤 _ (fst∗ 𝓤 _ (emp 𝓤)) (entry E 𝓛 𝓣.C 𝓣.Λ a.0 a.1.0 vss.0 vss.1.0))

pub one_spec : {M : Type 1} → stated.statement M
unfolding tables_of
one_spec 𝓤 𝓛 𝓜 𝓡 wired Y Z L LZ g d dd met md y =
    let E : Bx = record { row = Y; laws = L; al = record { row = Z; laws = LZ; g = g; d = d; drops = dd } } in
    let A = 𝓛.A in
    let 𝓣 : Tables 𝓤 𝓛.H = tables_of 𝓤 𝓛.H 𝓜 (tables 𝓤 𝓛.H 𝓜 𝓡 𝓡.env) in
    spared 𝓛 (ended E).signature (𝓡.run (𝓡.env (#self (args E)))) (run_framed 𝓤 𝓛.H 𝓜 𝓡 (𝓡.env (#self (args E)))) 2 (Y.lives, (Z.lives, tt)) (closing 𝓛 (ended E) (spec E 𝓛))
    (entered 𝓤 𝓛.H (triple_of 𝓛 (ended E).signature (closing 𝓛 (ended E) (spec E 𝓛))) 𝓣.C 𝓣.Λ (#self (args E)) (function E) (code.unfolded 𝓤 𝓛.H 𝓜 𝓡 wired (Y, (Z, tt)) d dd) (meets E 𝓛 𝓣))
    ((y.0.0, y.0.1, tt, y.0.3, y.0.4), y.1)
