-- Comparing leases, stubs and exchanges tells exactly whether what is compared is the same.
use Rattle.std.specs.Prelude.{◌≡◌, ◌==◌, ◌&&◌, ◌↔◌, Bool as Truth, true, nat_eq, Option, None, Some, List, [], ◌∷◌, map, refl}
use Rattle.std.specs.Bool.{Decides}
use Rattle.std.specs.Ordering.{is_eq}
use Rattle.std.specs.Cmp.{IsEquivalence, Equal-is, tied_itself, and_equiv, on_equiv, nat_eq_equiv, decided, unsigned_Decides}
use Rattle.std.specs.Cmp.Lexicographic.{pointwise, pointwise_decides, lists_equiv}
use Rattle.std.proofs.Common.{ap, sym, ◌∙◌, rules}
use Rattle.terms.specs.SameTreeLaws.{both_true, both_by}
use Rattle.event_keys.specs.declared.message.Signed.{Signed}
use Rattle.event_keys.specs.declared.outcome.Turned.{Turned}
use Rattle.event_keys.specs.contracts.key.BoundPartialEq.TheImpl as bound_eq
use Rattle.event_keys.specs.contracts.message.SignedPartialEq.TheImpl as signed_eq
use Rattle.event_keys.specs.contracts.message.SignedOrd.TheImpl as signed_ord
use Rattle.event_keys.specs.contracts.message.SignedOrd.TheImpl.Laws.{matches_eq-law as signed_agrees, total-law as signed_total}
use Rattle.event_keys.specs.contracts.outcome.TurnedPartialEq.TheImpl as turned_eq
use Rattle.event_keys.specs.contracts.outcome.TurnedOrd.TheImpl as turned_ord
use Rattle.event_keys.specs.contracts.outcome.TurnedOrd.TheImpl.Laws.{matches_eq-law as turned_agrees, total-law as turned_total}
use Rattle.event_keys.specs.Apart.{signed_apart, turned_apart}
use Rattle.event_keys.specs.Orders.{signed_order, turned_order}
use Rattle.rollback.specs.ComponentView.{ComponentView}
use Rattle.rollback.specs.SameLaws.{bound_decides}
use Rattle.exchange.specs.declared.stub.Stub.{Stub}
use Rattle.exchange.specs.declared.window.Window.{Window}
use Rattle.exchange.specs.LeaseView.{LeaseView}
use Rattle.exchange.specs.ExchangeView.{ExchangeView}
use Rattle.exchange.specs.Windows.{same_window}
use Rattle.exchange.specs.Same.{same_bag, same_lease, same_place, same_messages, same_stub, same_turns, compared, same_progress, same_exchange}

signed_decides : (a b : Signed) → Decides (signed_eq.ghosts.eq a b) (a ≡ b)
signed_decides a b =
    let order : signed_ord.ghosts.cmp a b ≡ signed_order a b = search rules in
    let agrees : signed_eq.ghosts.eq a b ≡ is_eq (signed_ord.ghosts.cmp a b) = signed_agrees a b in
    (λ h. signed_apart a b (sym order ∙ (Equal-is (signed_ord.ghosts.cmp a b)).0 (sym agrees ∙ h)), λ e. agrees ∙ ap is_eq (ap (signed_ord.ghosts.cmp a) (sym e) ∙ tied_itself signed_total a))

turned_decides : (a b : Turned) → Decides (turned_eq.ghosts.eq a b) (a ≡ b)
turned_decides a b =
    let order : turned_ord.ghosts.cmp a b ≡ turned_order a b = search rules in
    let agrees : turned_eq.ghosts.eq a b ≡ is_eq (turned_ord.ghosts.cmp a b) = turned_agrees a b in
    (λ h. turned_apart a b (sym order ∙ (Equal-is (turned_ord.ghosts.cmp a b)).0 (sym agrees ∙ h)), λ e. agrees ∙ ap is_eq (ap (turned_ord.ghosts.cmp a) (sym e) ∙ tied_itself turned_total a))

bags_decide : (xs ys : List Signed) → Decides (same_bag xs ys) (xs ≡ ys)
bags_decide = pointwise_decides signed_decides

held_decide : (xs ys : List (List Turned)) → Decides (pointwise same_turns xs ys) (xs ≡ ys)
held_decide = pointwise_decides (pointwise_decides turned_decides)

-- comparing two windows tells exactly whether they are the same
pub windows_decide : (a b : Option Window) → Decides (same_window a b) (a ≡ b)
windows_decide None None = (λ h. refl, λ e. refl)
windows_decide None (Some b) = (λ h. cc, λ e. cc)
windows_decide (Some a) None = (λ h. cc, λ e. cc)
windows_decide (Some a) (Some b) = (there, back)
  where
    there : (a.turns == b.turns) ≡ true → Some a ≡ Some b
    there h = let same = (unsigned_Decides a.turns b.turns).0 h in λ i. Some (record { turns = same i })

    back : Some a ≡ Some b → (a.turns == b.turns) ≡ true
    back e = let same : a ≡ b = cc in (unsigned_Decides a.turns b.turns).1 (ap (λ (w : Window). w.turns) same)

stub_is : (a b : Stub) → same_stub a b ≡ true → compared a ≡ compared b
stub_is a b h =
    let parts = both_true (same_place a b) (same_messages a b) h in
    let place = both_true (bound_eq.ghosts.eq a.base b.base) (bound_eq.ghosts.eq a.floor b.floor) parts.0 in
    let messages = both_true (same_bag a.taken b.taken) (same_bag a.standing b.standing && same_bag a.inbox b.inbox) parts.1 in
    let sends = both_true (same_bag a.standing b.standing) (same_bag a.inbox b.inbox) messages.1 in
    let base = (bound_decides a.base b.base).0 place.0 in
    let floor = (bound_decides a.floor b.floor).0 place.1 in
    let taken = (bags_decide a.taken b.taken).0 messages.0 in
    let standing = (bags_decide a.standing b.standing).0 sends.0 in
    let inbox = (bags_decide a.inbox b.inbox).0 sends.1 in
    λ i. record (compared a) { base = base i; floor = floor i; taken = taken i; standing = standing i; inbox = inbox i }

stub_from : (a b : Stub) → compared a ≡ compared b → same_stub a b ≡ true
stub_from a b e =
    both_by _ _
    (both_by _ _ ((bound_decides a.base b.base).1 (ap (λ s. s.base) e)) ((bound_decides a.floor b.floor).1 (ap (λ s. s.floor) e)))
    (both_by _ _ ((bags_decide a.taken b.taken).1 (ap (λ s. s.taken) e))
    (both_by _ _ ((bags_decide a.standing b.standing).1 (ap (λ s. s.standing) e)) ((bags_decide a.inbox b.inbox).1 (ap (λ s. s.inbox) e))))

head_is : {A : Type 0} (x y : A) (xs ys : List A) → x ∷ xs ≡ y ∷ ys → x ≡ y
head_is x y xs ys e = cc

tail_is : {A : Type 0} (x y : A) (xs ys : List A) → x ∷ xs ≡ y ∷ ys → xs ≡ ys
tail_is x y xs ys e = cc

stubs_are : (xs ys : List Stub) → pointwise same_stub xs ys ≡ true → map compared xs ≡ map compared ys
stubs_are [] [] h = refl
stubs_are [] (y ∷ ys) h = cc
stubs_are (x ∷ xs) [] h = cc
stubs_are (x ∷ xs) (y ∷ ys) h =
    let parts = both_true (same_stub x y) (pointwise same_stub xs ys) h in
    λ i. stub_is x y parts.0 i ∷ stubs_are xs ys parts.1 i

stubs_from : (xs ys : List Stub) → map compared xs ≡ map compared ys → pointwise same_stub xs ys ≡ true
stubs_from [] [] e = refl
stubs_from [] (y ∷ ys) e = cc
stubs_from (x ∷ xs) [] e = cc
stubs_from (x ∷ xs) (y ∷ ys) e =
    both_by _ _ (stub_from x y (head_is _ _ _ _ e)) (stubs_from xs ys (tail_is _ _ _ _ e))

bags_equiv : IsEquivalence same_bag
bags_equiv = decided same_bag bags_decide

windows_equiv : IsEquivalence same_window
windows_equiv = decided same_window windows_decide

bounds_equiv : IsEquivalence bound_eq.ghosts.eq
bounds_equiv = decided bound_eq.ghosts.eq bound_decides

-- the equality of leases is an equivalence where that of their components is
pub same_lease_equiv : {P : Type 0} {eq : ComponentView P → ComponentView P → Truth} → IsEquivalence eq → IsEquivalence (same_lease eq)
same_lease_equiv laws =
    and_equiv (on_equiv (λ h. h.component) laws)
    (and_equiv (on_equiv (λ h. h.tray) bags_equiv)
    (and_equiv (on_equiv (λ h. h.out) bags_equiv) (and_equiv (on_equiv (λ h. h.floor) bounds_equiv) (on_equiv (λ h. h.window) windows_equiv))))

-- so is that of stubs
pub same_stub_equiv : IsEquivalence same_stub
same_stub_equiv =
    and_equiv (and_equiv (on_equiv (λ s. s.base) bounds_equiv) (on_equiv (λ s. s.floor) bounds_equiv))
    (and_equiv (on_equiv (λ s. s.taken) bags_equiv)
    (and_equiv (on_equiv (λ s. s.standing) bags_equiv) (on_equiv (λ s. s.inbox) bags_equiv)))

-- and so is that of exchanges where that of their setups is
pub same_exchange_equiv : {P : Type 0} {eq : P → P → Truth} → IsEquivalence eq → IsEquivalence (same_exchange eq)
same_exchange_equiv laws =
    and_equiv
    (and_equiv (and_equiv (on_equiv (λ e. e.setup) laws) (on_equiv (λ e. e.window) windows_equiv)) (and_equiv (on_equiv (λ e. e.bound) bounds_equiv) (on_equiv (λ e. e.given) nat_eq_equiv)))
    (and_equiv (on_equiv (λ e. e.held) (decided (pointwise same_turns) held_decide)) (on_equiv (λ e. e.stubs) (lists_equiv same_stub_equiv)))

-- equal leases have equal components, and all else but the copies is the same
pub lease_decides : {P : Type 0} (eq : ComponentView P → ComponentView P → Truth) (a b : LeaseView P)
    → (same_lease eq a b ≡ true) ↔ ((eq a.component b.component ≡ true) × (a.tray ≡ b.tray) × (a.out ≡ b.out) × (a.floor ≡ b.floor) × (a.window ≡ b.window))
lease_decides {P} eq a b = (there, back)
  where
    there : same_lease eq a b ≡ true → (eq a.component b.component ≡ true) × (a.tray ≡ b.tray) × (a.out ≡ b.out) × (a.floor ≡ b.floor) × (a.window ≡ b.window)
    there h =
        let one = both_true (eq a.component b.component) (same_bag a.tray b.tray && (same_bag a.out b.out && (bound_eq.ghosts.eq a.floor b.floor && same_window a.window b.window))) h in
        let two = both_true (same_bag a.tray b.tray) (same_bag a.out b.out && (bound_eq.ghosts.eq a.floor b.floor && same_window a.window b.window)) one.1 in
        let three = both_true (same_bag a.out b.out) (bound_eq.ghosts.eq a.floor b.floor && same_window a.window b.window) two.1 in
        let four = both_true (bound_eq.ghosts.eq a.floor b.floor) (same_window a.window b.window) three.1 in
        (one.0, (bags_decide a.tray b.tray).0 two.0, (bags_decide a.out b.out).0 three.0, (bound_decides a.floor b.floor).0 four.0, (windows_decide a.window b.window).0 four.1)

    back : (eq a.component b.component ≡ true) × (a.tray ≡ b.tray) × (a.out ≡ b.out) × (a.floor ≡ b.floor) × (a.window ≡ b.window) → same_lease eq a b ≡ true
    back h =
        both_by _ _ h.0
        (both_by _ _ ((bags_decide a.tray b.tray).1 h.1)
        (both_by _ _ ((bags_decide a.out b.out).1 h.2) (both_by _ _ ((bound_decides a.floor b.floor).1 h.3) ((windows_decide a.window b.window).1 h.4))))

-- equal exchanges have equal setups, and all else that is compared is the same
pub exchange_decides : {P : Type 0} (eq : P → P → Truth) (a b : ExchangeView P)
    → (same_exchange eq a b ≡ true) ↔ ((eq a.setup b.setup ≡ true) × (a.window ≡ b.window) × (a.bound ≡ b.bound) × (a.held ≡ b.held) × (a.given ≡ b.given) × (map compared a.stubs ≡ map compared b.stubs))
exchange_decides {P} eq a b = (there, back)
  where
    there : same_exchange eq a b ≡ true → (eq a.setup b.setup ≡ true) × (a.window ≡ b.window) × (a.bound ≡ b.bound) × (a.held ≡ b.held) × (a.given ≡ b.given) × (map compared a.stubs ≡ map compared b.stubs)
    there h =
        let parts = both_true (same_progress eq a b) (pointwise same_turns a.held b.held && pointwise same_stub a.stubs b.stubs) h in
        let own = both_true (eq a.setup b.setup && same_window a.window b.window) (bound_eq.ghosts.eq a.bound b.bound && nat_eq a.given b.given) parts.0 in
        let kind = both_true (eq a.setup b.setup) (same_window a.window b.window) own.0 in
        let numbers = both_true (bound_eq.ghosts.eq a.bound b.bound) (nat_eq a.given b.given) own.1 in
        let lists = both_true (pointwise same_turns a.held b.held) (pointwise same_stub a.stubs b.stubs) parts.1 in
        (kind.0, (windows_decide a.window b.window).0 kind.1, (bound_decides a.bound b.bound).0 numbers.0, (held_decide a.held b.held).0 lists.0, (unsigned_Decides a.given b.given).0 numbers.1, stubs_are a.stubs b.stubs lists.1)

    back : (eq a.setup b.setup ≡ true) × (a.window ≡ b.window) × (a.bound ≡ b.bound) × (a.held ≡ b.held) × (a.given ≡ b.given) × (map compared a.stubs ≡ map compared b.stubs) → same_exchange eq a b ≡ true
    back h =
        both_by _ _ (both_by _ _ (both_by _ _ h.0 ((windows_decide a.window b.window).1 h.1)) (both_by _ _ ((bound_decides a.bound b.bound).1 h.2) ((unsigned_Decides a.given b.given).1 h.4)))
        (both_by _ _ ((held_decide a.held b.held).1 h.3) (stubs_from a.stubs b.stubs h.5))
