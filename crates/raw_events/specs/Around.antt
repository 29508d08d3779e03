-- Two lists round a cursor, and what the calls do to them.
use Rattle.std.specs.Prelude.{◌≡◌, Bool, true, false, List, [], ◌∷◌, Option, None, Some, if◌then◌else◌, not}
use Rattle.std.specs.declared.cmp.Ordering.{Ordering}
use Rattle.std.specs.Ordering.{is_gt}

-- the items before the cursor and the items after it, each from the nearest to the farthest
pub record Around (T : Type 0) : Type 0 where
  pub before : List T
  pub after : List T

module _ {T : Type 0} where
  -- the first item, where there is one
  abbrev pub head : List T → Option T
  head [] = None
  head (x ∷ xs) = Some x

  -- all items but the first
  abbrev pub tail : List T → List T
  tail [] = []
  tail (x ∷ xs) = xs

  -- the last item, where there is one
  abbrev pub last : List T → Option T
  last [] = None
  last (x ∷ []) = Some x
  last (x ∷ y ∷ ys) = last (y ∷ ys)

  -- all items but the last
  abbrev pub without_last : List T → List T
  without_last [] = []
  without_last (x ∷ []) = []
  without_last (x ∷ y ∷ ys) = x ∷ without_last (y ∷ ys)

  -- whether there is an item
  abbrev pub is_nonempty : List T → Bool
  is_nonempty [] = false
  is_nonempty (x ∷ xs) = true

  -- the cursor steps over the next item, where there is one
  abbrev pub pass_next : List T → List T → Around T
  pass_next before [] = record { before = before; after = [] }
  pass_next before (x ∷ after) = record { before = x ∷ before; after = after }

  -- the cursor steps back over the last item before it, where there is one
  abbrev pub pass_back : List T → List T → Around T
  pass_back [] after = record { before = []; after = after }
  pass_back (x ∷ before) after = record { before = before; after = x ∷ after }

  -- the first item of all: the farthest before the cursor, or the next where there is none before
  abbrev pub first_of : List T → List T → Option T
  first_of [] after = head after
  first_of (x ∷ before) after = last (x ∷ before)

  -- what is left where the first item of all is taken
  abbrev pub without_first_of : List T → List T → Around T
  without_first_of [] after = record { before = []; after = tail after }
  without_first_of (x ∷ before) after = record { before = without_last (x ∷ before); after = after }

  -- x put directly before the first greater item, at the end where there is none
  abbrev pub insert_sorted : (T → T → Ordering) → T → List T → List T
  insert_sorted cmp x [] = x ∷ []
  insert_sorted cmp x (y ∷ ys) = if is_gt (cmp y x) then x ∷ y ∷ ys else y ∷ insert_sorted cmp x ys

  -- whether there is a first item, and it is not greater than x
  abbrev pub first_is_at_most : (T → T → Ordering) → T → List T → Bool
  first_is_at_most cmp x [] = false
  first_is_at_most cmp x (y ∷ ys) = not (is_gt (cmp y x))

  -- the answers of a test's calls are those of p
  abbrev pub Tells : (T → Bool → Type 0) → (T → Bool) → Type 0
  Tells answers p = (x : T) (b : Bool) → answers x b → b ≡ p x

  -- the first item that passes the test, where there is one
  abbrev pub first_where : (T → Bool) → List T → Option T
  first_where test [] = None
  first_where test (x ∷ xs) = if test x then Some x else first_where test xs

  -- all items but the first that passes the test
  abbrev pub without_where : (T → Bool) → List T → List T
  without_where test [] = []
  without_where test (x ∷ xs) = if test x then xs else x ∷ without_where test xs

  -- whether there is a first item, and it fails the test
  abbrev pub first_fails : (T → Bool) → List T → Bool
  first_fails test [] = false
  first_fails test (x ∷ xs) = not (test x)

  -- the first item that equals x, where there is one
  abbrev pub first_equal : (T → T → Bool) → T → List T → Option T
  first_equal eq x = first_where (λ y. eq y x)

  -- all items but the first that equals x
  abbrev pub without_first : (T → T → Bool) → T → List T → List T
  without_first eq x = without_where (λ y. eq y x)
