-- `join` links the nodes of another strand in after the last. Assumes `Logic`.
use mathlib.Core.Path.{◌≡◌, refl, sym, ap, subst, ◌∙◌}
use Prim.Native.Nat.{ℕ, ◌<◌}
use native.Mathlib.Omega.{arith}
use mathlib.Core.List.{List, [], ◌∷◌, ◌++◌, map-append}
use lib.ListN.{length, length-append}
use seplogic.Ra.Ura.{Ura}
use mir.Syntax.{Fn, named, ty_ptr}
use mir.MapTy.{inst_fn}
use mir.Val.{Val, vptr, vunit}
use base.Logic.{SProp, ent}
use base.Fml.{Lft, GName, Share, ftrue, flft, fobs, fbor}
use prog.Wp.{Env, Calls, Loops, WpFn, Tables}
use types.Logic.{Logic}
use contract.Monad.{fact}
use contract.Running.{tables, tables_of}
use sound.WpLaws.{WpFn-mono}
use types.Kit.{Item, ⋆, ‵, ◌⊛◌, at_ret, ◌$◌, ◌∵◌, !, qed, by, move, keep, use1, use2, split, join, rewrite, fsplit3, fjoin, fjoin3, feq_i, feq_l, suffices, frame, done}
use types.Part.{whole, sub, look_in, store_in}
use types.Run.{store, stop, fld, load, unit_lit, of_opd, assigns, assigns_last, first, blocks, exec, returns, enter}
use types.ByLocal.{alloc_all, pass_all, free_all, look_at, get, get_in, through, sets, is, env}
use types.SemTy.{Body as Borrowed}
use denote.Exit.{yes, no}
use denote.RattleType.{owns}
use denote.Memory.{mem}
use denote.RawPtr.{Ptr, block_ptr, ptr_val}
use denote.Ref.{MutBor, MutRef}
use denote.Builtin.{RefMutOf, unit}
use denote.Signature.{plain}
use denote.Steps.{nothing}
use denote.Struct.Struct.{as_fields}
use denote.Triple.Carry.{spared}
use denote.Triple.Clauses.{Clauses, Ended, closing}
use denote.Triple.Entry.{on_entry}
use denote.Triple.Spec.{Meets, triple_of}
use denote.Triple.Table.{entered, run_framed}
use denote.Triple.Walked.{says, needs, Stays, stay_ref, stay_dropped, walk_of, ends_at, Goes-ref, Goes-dropped, walk_Meets}
use Rattle.std_alloc.proofs.VecSteps.Shapes.{after}
use Rattle.std_alloc.proofs.RcSteps.{Ptr-Good}
use Rattle.std_alloc.proofs.BoxSteps.Form.{Bx, args, X}
use Rattle.std_collections.specs.LinkedList.Links.{Link, links_of, IsChained, LeadsBackTo}
use Rattle.std_collections.proofs.ListMemory.Chained.{IsChained-had, IsChained-init, IsChained-join}
use Rattle.std_collections.proofs.ListMemory.Steps.{uncons, unsnoc, Hd, Held, One, cons_out, cons_in, snoc_out, snoc_in, append_in, one_opens, one_closes}
use Rattle.raw_events.proofs.Steps.{words, D, Sr, strand_had, strand_opens, strand_closes}
use Rattle.raw_events.specs.contracts.strand.Strand.join.Key.{name as #self}
use Rattle.raw_events.proofs.strand.Strand.join.Statement as stated
use Rattle.raw_events.proofs.strand.Strand.join.Code as code

module _ (E : Bx) where
  abbrev function : Fn
  function = inst_fn (args E) code.function

  abbrev ended : Ended
  ended = record { signature = record { lifetimes = 1; outlives = []; params = RefMutOf (0 ∷ []) tt (plain (λ _. Sr E)) (λ _. tt) ∷ plain (λ _. Sr E) ∷ []; result = plain (λ _. unit) }; kept = (yes, (no, tt)) }

  abbrev stayed : Stays ended.signature.params ended.kept
  stayed = (stay_ref (0 ∷ []) tt (plain (λ _. Sr E)), (stay_dropped (plain (λ _. Sr E)) no, tt))

  abbrev Asks : D E → D E → Type 0
  Asks d c = (0 < length d.items) × (0 < length c.items)

  abbrev Gives : D E → D E → D E → Type 0
  Gives d c new = new.items ≡ d.items ++ c.items

  abbrev spec : {M : Type 1} {𝓤 : Ura M} (𝓛 : Logic 𝓤) → Clauses 𝓤 ended
  spec {𝓤 = 𝓤} 𝓛 κs a = record { ghost = Unit {0}; requires = λ _. fact 𝓤 (Asks a.0.now a.1.0); ensures = λ _ r w. fact 𝓤 (Gives a.0.now a.1.0 w.0.now) }

module _ (E : Bx) {M : Type 1} {𝓤 : Ura M} (𝓛 : Logic 𝓤) (C : Calls 𝓤 𝓛.H) (Λ : Loops 𝓤 𝓛.H) (κ : Lft) (q : Share) (rb ro : ℕ) (γ : GName) (d c : D E) (ps us : List Val) where
  open 𝓛 use {H}

  abbrev self : MutBor (D E)
  self = record { ref_ptr = (rb, ro); ghost_name = γ; now = d }

  abbrev bound : (walk_of 𝓛 (ended E) (stayed E) (spec E 𝓛)).Ghost
  bound = (((κ, tt), (q, tt), tt, (self, (c, tt)), (ps, (us, tt))), tt)

  abbrev Post : Val → SProp 𝓤
  Post = (walk_of 𝓛 (ended E) (stayed E) (spec E 𝓛)).post bound

  abbrev Had : D E → List (Item 𝓤)
  Had u = ‵ (fobs γ ((Sr E).coded.code u)) ∷ ‵ (fbor κ (Borrowed (mem (Sr E)) rb ro γ)) ∷ ‵ (flft κ q) ∷ []

  abbrev Took : List (Item 𝓤)
  Took = ‵ (fobs γ ((Sr E).coded.code d)) ∷ ‵ (fbor κ (Borrowed (mem (Sr E)) rb ro γ)) ∷ ‵ (flft κ q) ∷ ‵ (Held E c.blocks c.items) ∷ []

  exits : ps ≡ vptr rb ro ∷ [] → (new : D E) → Gives E d c new → ent 𝓤 (⋆ 𝓛 (Had new)) (Post vunit)
  exits passed new told =
      qed 𝓛 (Had new) ∵ suffices ! _ (ends_at 𝓛 (ended E) (stayed E) (spec E 𝓛) bound vunit tt (new, (tt, tt)) (tt, (tt, tt))) $ says ! told $
      nothing ! $ move ! (3 ∷ 0 ∷ []) $ join ! $ frame ! $ feq_i ! (List Val) ps (vptr rb ro ∷ []) passed $ fjoin3 ! $ nothing ! $ nothing ! $ fjoin ! $ move ! (1 ∷ 0 ∷ []) $ fjoin ! $
      feq_i ! (List Val) (vunit ∷ []) (vunit ∷ []) refl $ move ! (1 ∷ 0 ∷ []) $ done !

  walk : ps ≡ vptr rb ro ∷ [] → Asks E d c → ent 𝓤 (⋆ 𝓛 Took) (WpFn 𝓤 H C Λ (function E) (vptr rb ro ∷ words c.head c.tail ∷ []) Post)
  walk passed asked =
      let ok = d.ok in
      let fine = c.ok in
      let some = asked.0 in
      let others = asked.1 in
      let ns = unsnoc d.blocks (omega arith) in
      let xs = unsnoc d.items (omega arith) in
      let m = ns.1 in
      let long = ap length ns.2 ∙ length-append ns.0 (m ∷ []) in
      let many = ap length xs.2 ∙ length-append xs.0 (xs.1 ∷ []) in
      let alike : length ns.0 ≡ length xs.0 = omega arith in
      let linked : IsChained d.head d.tail (links_of ns.0 ++ m.0 ∷ []) = subst (IsChained d.head d.tail) (ap links_of ns.2 ∙ map-append (λ n. n.0) ns.0 (m ∷ [])) (IsChained-had _ _ _ d.chained) in
      let last = (IsChained-init d.head d.tail (links_of ns.0) m.0 linked).1 in
      let ks = uncons c.blocks (omega arith) in
      let ys = uncons c.items (omega arith) in
      let k = ks.0 in
      let longer = ap length ks.2 in
      let more = ap length ys.2 in
      let tied : IsChained c.head c.tail (k.0 ∷ links_of ks.1) = subst (λ js. IsChained c.head c.tail (links_of js)) ks.2 (IsChained-had _ _ _ c.chained) in
      qed 𝓛 Took ∵ enter ! C Λ (function E) (vptr rb ro ∷ words c.head c.tail ∷ []) _ $
      alloc_all ! (λ l. pass_all ! refl ((tt, tt), (as_fields (ty_ptr ∷ ty_ptr ∷ []) (ptr_val c.head ∷ ptr_val c.tail ∷ []) (Ptr-Good c.head, (Ptr-Good c.tail, tt)), tt)) $
      let En : Env 𝓤 H = env (function E).locals l in
      strand_opens E ! tt d rb ro $ move ! (5 ∷ []) $
      rewrite ! 0 (λ (js : List (Link × Hd E)). ‵ (Held E js c.items)) ks.2 refl $ rewrite ! 0 (λ (zs : List (X E)). ‵ (Held E (k ∷ ks.1) zs)) ys.2 refl $
      use1 𝓛 (‵ (One E k ys.0) ⊛ ‵ (Held E ks.1 ys.1)) (cons_out E 𝓛 k ks.1 ys.0 ys.1) $ split ! $ one_opens E ! k.0 k.1 ys.0 (λ kb ko f. move ! (5 ∷ []) $
      rewrite ! 0 (λ (js : List (Link × Hd E)). ‵ (Held E js d.items)) ns.2 refl $ rewrite ! 0 (λ (zs : List (X E)). ‵ (Held E (ns.0 ++ m ∷ []) zs)) xs.2 refl $
      use1 𝓛 (‵ (One E m xs.1) ⊛ ‵ (Held E ns.0 xs.0)) (snoc_out E 𝓛 ns.0 m xs.0 xs.1 alike) $ split ! $ one_opens E ! m.0 m.1 xs.1 (λ mb mo e.
      let a : Ptr = block_ptr mb mo in
      let p : Ptr = block_ptr kb ko in
      let was : Link × Hd E = ((a, p, m.0.2), m.1) in
      let now : Link × Hd E = ((p, k.0.1, a), k.1) in
      let front = ns.0 ++ was ∷ [] in
      let zs = xs.0 ++ xs.1 ∷ [] in
      let still = length-append ns.0 (was ∷ []) in
      let same = length-append xs.0 (xs.1 ∷ []) in
      let before : IsChained d.head d.tail (links_of ns.0 ++ (a, m.0.1, m.0.2) ∷ []) = subst (λ z. IsChained d.head d.tail (links_of ns.0 ++ (z, m.0.1, m.0.2) ∷ [])) e linked in
      let behind : IsChained p c.tail ((p, k.0.1, k.0.2) ∷ links_of ks.1) = ((refl, tied.0.1), subst (λ z. LeadsBackTo z (links_of ks.1) c.tail) f tied.1) in
      let links : (links_of ns.0 ++ was.0 ∷ []) ++ links_of (now ∷ ks.1) ≡ links_of (front ++ now ∷ ks.1) =
      ap (λ ls. ls ++ links_of (now ∷ ks.1)) (sym (map-append (λ n. n.0) ns.0 (was ∷ []))) ∙ sym (map-append (λ n. n.0) front (now ∷ ks.1)) in
      let new : D E = record {
        head = d.head;
        tail = c.tail;
        items = zs ++ ys.0 ∷ ys.1;
        blocks = front ++ now ∷ ks.1;
        ok = omega (arith, length-append zs (ys.0 ∷ ys.1), length-append front (now ∷ ks.1));
        chained = ∣ subst (IsChained d.head c.tail) links (IsChained-join d.head d.tail p c.tail (links_of ns.0) (a, m.0.1, m.0.2) (p, k.0.1, k.0.2) (links_of ks.1) before behind) ∣₁;
      } in
      -- [the last node, in four; those before it; the first node of the other, in four; those after it; the words, borrow, obs and auth]
      sets ! (is ! (of_opd ! (load ! (through ! refl (fld ! refl (stop !))) (look_in ! 10 (sub ! 1 refl (whole !))))) (ap ptr_val (last ∙ e))) refl (tt, tt) $ sets ! (of_opd ! (get ! refl)) refl (tt, tt) $
      sets ! (is ! (of_opd ! (get_in ! (fld ! refl (stop !)) (sub ! 0 refl (whole !)))) (ap ptr_val (tied.0.0 ∙ f))) refl (tt, tt) $ first ! $ blocks ! $
      assigns ! (of_opd ! (get ! refl)) (through ! refl (fld ! refl (stop !))) (store ! 1 refl (tt, tt)) $
      assigns_last ! (of_opd ! (get ! refl)) (through ! refl (fld ! refl (stop !))) (store ! 7 refl (tt, tt)) $ exec ! C Λ En (after 4 (function E).body) (at_ret En Post) $
      assigns ! (of_opd ! (get_in ! (fld ! refl (stop !)) (sub ! 1 refl (whole !)))) (through ! refl (fld ! refl (stop !))) (store_in ! 10 (sub ! 1 refl (whole !)) (Ptr-Good c.tail)) $
      sets ! (of_opd ! (unit_lit !)) refl (tt, tt) $
      one_closes E ! mb mo p m.0.2 m.1 xs.1 $ use2 𝓛 (‵ (Held E front zs)) (snoc_in E 𝓛 ns.0 was xs.0 xs.1 alike) $ move ! (1 ∷ 2 ∷ 3 ∷ 4 ∷ 5 ∷ []) $
      one_closes E ! kb ko k.0.1 a k.1 ys.0 $ use2 𝓛 (‵ (Held E (now ∷ ks.1) (ys.0 ∷ ys.1))) (cons_in E 𝓛 now ks.1 ys.0 ys.1) $ move ! (1 ∷ 0 ∷ []) $
      use2 𝓛 (‵ (Held E new.blocks new.items)) (append_in E 𝓛 front (now ∷ ks.1) zs (ys.0 ∷ ys.1) (omega arith)) $ strand_closes E ! tt new rb ro $
      returns ! (look_at ! 0 refl) $ free_all ! refl $ keep ! (0 ∷ 1 ∷ 2 ∷ []) $ by ! (exits passed new (λ i. sym xs.2 i ++ sym ys.2 i)))))

  entry : Asks E d c → ent 𝓤 (on_entry 𝓛 (ended E).signature (κ, tt) (q, tt) (self, (c, tt)) (ps, (us, tt))) (WpFn 𝓤 H C Λ (function E) (ps ++ (us ++ [])) Post)
  entry asked =
      qed 𝓛 ((‵ (flft κ q) ⊛ ‵ ftrue) ∷ ‵ (owns (MutRef (named 0) κ (Sr E) ∷ Sr E ∷ []) (self, (c, tt)) (ps, (us, tt))) ∷ []) ∵ split ! $ move ! (2 ∷ []) $ fsplit3 ! $ fsplit3 ! $ feq_l ! (λ e.
      move ! (2 ∷ []) $ strand_had E ! c us (λ f. keep ! (1 ∷ 2 ∷ 4 ∷ 0 ∷ []) $
      by ! (subst (λ (ws : List Val × List Val). ent 𝓤 (⋆ 𝓛 Took) (WpFn 𝓤 H C Λ (function E) (ws.0 ++ (ws.1 ++ [])) Post)) (λ j. (sym e j, sym f j)) (walk e asked))))

meets : (E : Bx) {M : Type 1} {𝓤 : Ura M} (𝓛 : Logic 𝓤) (𝓣 : Tables 𝓤 𝓛.H)
    → Meets 𝓛 (ended E).signature (WpFn 𝓤 𝓛.H 𝓣.C 𝓣.Λ (function E)) (closing 𝓛 (ended E) (spec E 𝓛))
meets E {𝓤 = 𝓤} 𝓛 𝓣 =
    walk_Meets 𝓛 (ended E) (stayed E) (Goes-ref 𝓛 1 0 tt (plain (λ _. Sr E)), (Goes-dropped 𝓛 1 (plain (λ _. Sr E)) no (λ κs x f. refl), tt)) (spec E 𝓛) (WpFn 𝓤 𝓛.H 𝓣.C 𝓣.Λ (function E)) (WpFn-mono 𝓤 𝓛.H 𝓛.laws 𝓣 (function E))
    (λ z. let a = z.0.3.0 in let c = z.0.3.1.0 in needs 𝓤 (Asks E a.now c) _
    (entry E 𝓛 𝓣.C 𝓣.Λ z.0.0.0 z.0.1.0 a.ref_ptr.0 a.ref_ptr.1 a.ghost_name a.now c z.0.4.0 z.0.4.1.0))

pub join_spec : {M : Type 1} → stated.statement M
unfolding tables_of
join_spec 𝓤 𝓛 𝓜 𝓡 wired Y Z L LZ g d dd met md y =
    let E : Bx = record { row = Y; laws = L; al = record { row = Z; laws = LZ; g = g; d = d; drops = dd } } in
    let A = 𝓛.A in
    let 𝓣 : Tables 𝓤 𝓛.H = tables_of 𝓤 𝓛.H 𝓜 (tables 𝓤 𝓛.H 𝓜 𝓡 𝓡.env) in
    spared 𝓛 (ended E).signature (𝓡.run (𝓡.env (#self (args E)))) (run_framed 𝓤 𝓛.H 𝓜 𝓡 (𝓡.env (#self (args E)))) 2 (Y.lives, (Z.lives, tt)) (closing 𝓛 (ended E) (spec E 𝓛))
    (entered 𝓤 𝓛.H (triple_of 𝓛 (ended E).signature (closing 𝓛 (ended E) (spec E 𝓛))) 𝓣.C 𝓣.Λ (#self (args E)) (function E) (code.unfolded 𝓤 𝓛.H 𝓜 𝓡 wired (Y, (Z, tt)) d dd) (meets E 𝓛 𝓣))
    ((y.0.0, y.0.1, tt, y.0.3, y.0.4), y.1)
