-- The ring of two meets the laws, and the steps of the examples are answered as they say.
use Rattle.std.proofs.Common.{◌≡◌, ℕ, zero, suc, ◌%◌, ◌<◌, ◌≤◌, ◌==◌, ◌&&◌, inl, inr, Bool, true, false, None, Some, [], ◌∷◌, refl, leb, not, arith}
use Rattle.std.proofs.lemmas.Bool.{eqb-true, le-leb, leb-true, leb-false, lt-leb, eq-eqb}
use Rattle.virtual_time.specs.Machine.{HasCount, Lawful}
use Rattle.virtual_time.specs.Entries.{Own, Input}
use Rattle.virtual_time.specs.Bags.{hit}
use Rattle.virtual_time.specs.Worlds.{World, Process, RollBack, DeliverMessage, DeliverAntimessage, Meet, Commit, start_world}
use Rattle.virtual_time.specs.Replies.{Processed, Delivered, Met, RolledBack, Committed, Refused, Runs, IsReached, IsVirtualTime, virtual_time}
use Rattle.virtual_time.specs.Ring.{AreAlike, ring, ring_key, pass_2, pass_3, pass_4, led}
use Rattle.virtual_time.proofs.Timed.{reached_silent, time_is}

-- the laws are met by it, so they are not empty
rises : (i k : ℕ) → ring_key i k < 100 → ring_key i k < ring_key i (suc k)
rises zero zero h = omega arith
rises zero (suc zero) h = omega arith
rises zero (suc (suc k)) h = absurd (omega arith)
rises (suc zero) zero h = omega arith
rises (suc zero) (suc zero) h = omega arith
rises (suc zero) (suc (suc k)) h = absurd (omega arith)
rises (suc (suc i)) k h = absurd (omega arith)

bounded : (i k : ℕ) → ring_key i k ≤ 100
bounded zero zero = omega arith
bounded zero (suc zero) = omega arith
bounded zero (suc (suc k)) = omega arith
bounded (suc zero) zero = omega arith
bounded (suc zero) (suc zero) = omega arith
bounded (suc zero) (suc (suc k)) = omega arith
bounded (suc (suc i)) k = omega arith

ends : (i k : ℕ) → 100 ≤ ring_key i k → ring_key i (suc k) ≡ 100
ends zero zero h = absurd (omega arith)
ends zero (suc zero) h = refl
ends zero (suc (suc k)) h = refl
ends (suc zero) zero h = absurd (omega arith)
ends (suc zero) (suc zero) h = refl
ends (suc zero) (suc (suc k)) h = refl
ends (suc (suc i)) k h = refl

owned : (i k : ℕ) → ring_key i k < 100 → ring_key i k % 2 ≡ i
owned zero zero h = refl
owned zero (suc zero) h = refl
owned zero (suc (suc k)) h = absurd (omega arith)
owned (suc zero) zero h = refl
owned (suc zero) (suc zero) h = refl
owned (suc zero) (suc (suc k)) h = absurd (omega arith)
owned (suc (suc i)) k h = absurd (omega arith)

others : (i a : ℕ) → ((a == i) && (not (i == i) && leb i 1)) ≡ false
others i a = rw (eq-eqb i i refl) (go (a == i))
  where
    go : (b : Bool) → (b && false) ≡ false
    go true = refl
    go false = refl

silent : (j k : ℕ) → 2 ≤ j → ring_key j k ≡ 100
silent zero k l = absurd (omega arith)
silent (suc zero) k l = absurd (omega arith)
silent (suc (suc j)) k l = refl

deaf : (i a j : ℕ) → 2 ≤ j → ((a == j) && (not (i == j) && leb j 1)) ≡ false
deaf i a j l = rw (lt-leb j 1 (omega arith)) (go (a == j) (not (i == j)))
  where
    go : (b c : Bool) → (b && (c && false)) ≡ false
    go true true = refl
    go true false = refl
    go false c = refl

pub counted : HasCount ring 2
counted = record { silent = silent; deaf = deaf }

pub lawful : Lawful ring
lawful =
    record {
      rises = rises;
      bounded = bounded;
      ends = ends;
      owned = owned;
      others = others;
      same_refl = λ a. eq-eqb a a refl;
      same_is = λ a b h. eqb-true a b h;
      total = λ a b h. let l = leb-false a b h in le-leb b a (omega arith);
      one = λ a b h k. let l = leb-true a b h in let n = leb-true b a k in omega arith;
      chain = λ a b c h k. let l = leb-true a b h in let n = leb-true b c k in le-leb a c (omega arith);
    }

time_of : (w : World ℕ ℕ) → IsReached ring 2 w → IsVirtualTime ring w (virtual_time ring 2 w)
time_of w reached = time_is ring 2 counted w (reached_silent ring 2 counted w reached)

abbrev start : World ℕ ℕ
start = start_world ring

pub straggler_runs : Runs ring 2 (start_world ring) (Process 1 ∷ Process 1 ∷ Process 0 ∷ DeliverMessage 1 pass_2 ∷ []) (Processed 3 ∷ Processed 7 ∷ Processed 4 ∷ Delivered 1 ∷ [])
    (led (start_world ring) (Process 1 ∷ Process 1 ∷ Process 0 ∷ DeliverMessage 1 pass_2 ∷ []))
unfolding hit
straggler_runs = (
  (led start (Process 1 ∷ [])),
  inr (inr (Own 3 (None), omega arith, refl, inr (refl, refl))),
  (
    (led start (Process 1 ∷ Process 1 ∷ [])),
    inr (inr (Own 7 (None), omega arith, refl, inr (refl, refl))),
    (
      (led start (Process 1 ∷ Process 1 ∷ Process 0 ∷ [])),
      inr (inr (Own 4 (Some 1), omega arith, refl, inr (refl, refl))),
      (
        (led start (Process 1 ∷ Process 1 ∷ Process 0 ∷ DeliverMessage 1 pass_2 ∷ [])),
        inr (refl, refl, refl),
        refl,
      ),
    ),
  ),
)

pub taken_away_runs : Runs ring 2 (led (start_world ring) (Process 1 ∷ Process 1 ∷ Process 0 ∷ DeliverMessage 1 pass_2 ∷ [])) (RollBack 0 ∷ DeliverAntimessage 1 pass_2 ∷ []) (RolledBack 4 ∷ Delivered 0 ∷ [])
    (led (start_world ring) (Process 1 ∷ Process 1 ∷ Process 0 ∷ DeliverMessage 1 pass_2 ∷ RollBack 0 ∷ DeliverAntimessage 1 pass_2 ∷ []))
unfolding hit
taken_away_runs = (
  (led start (Process 1 ∷ Process 1 ∷ Process 0 ∷ DeliverMessage 1 pass_2 ∷ RollBack 0 ∷ [])),
  inr (inr (Own 4 (Some 1), [], omega arith, refl, refl, refl)),
  (
    (led start (Process 1 ∷ Process 1 ∷ Process 0 ∷ DeliverMessage 1 pass_2 ∷ RollBack 0 ∷ DeliverAntimessage 1 pass_2 ∷ [])),
    inr (refl, refl, refl),
    refl,
  ),
)

pub met_runs : Runs ring 2 (start_world ring) (Process 0 ∷ RollBack 0 ∷ Meet 1 pass_2 ∷ []) (Processed 4 ∷ RolledBack 4 ∷ Met ∷ [])
    (led (start_world ring) (Process 0 ∷ RollBack 0 ∷ Meet 1 pass_2 ∷ []))
unfolding hit
met_runs = (
  (led start (Process 0 ∷ [])),
  inr (inr (Own 4 (Some 1), omega arith, refl, inr (refl, refl))),
  (
    (led start (Process 0 ∷ RollBack 0 ∷ [])),
    inr (inr (Own 4 (Some 1), [], omega arith, refl, refl, refl)),
    (
      (led start (Process 0 ∷ RollBack 0 ∷ Meet 1 pass_2 ∷ [])),
      inr (refl, refl, refl),
      refl,
    ),
  ),
)

pub delivered_runs : Runs ring 2 (start_world ring) (Process 0 ∷ RollBack 0 ∷ DeliverAntimessage 1 pass_2 ∷ DeliverMessage 1 pass_2 ∷ []) (Processed 4 ∷ RolledBack 4 ∷ Delivered 0 ∷ Delivered 0 ∷ [])
    (led (start_world ring) (Process 0 ∷ RollBack 0 ∷ DeliverAntimessage 1 pass_2 ∷ DeliverMessage 1 pass_2 ∷ []))
unfolding hit
delivered_runs = (
  (led start (Process 0 ∷ [])),
  inr (inr (Own 4 (Some 1), omega arith, refl, inr (refl, refl))),
  (
    (led start (Process 0 ∷ RollBack 0 ∷ [])),
    inr (inr (Own 4 (Some 1), [], omega arith, refl, refl, refl)),
    (
      (led start (Process 0 ∷ RollBack 0 ∷ DeliverAntimessage 1 pass_2 ∷ [])),
      inr (refl, refl, refl),
      (
        (led start (Process 0 ∷ RollBack 0 ∷ DeliverAntimessage 1 pass_2 ∷ DeliverMessage 1 pass_2 ∷ [])),
        inr (refl, refl, refl),
        refl,
      ),
    ),
  ),
)

pub before_commit : Runs ring 2 (start_world ring) (Process 1 ∷ Process 0 ∷ []) (Processed 3 ∷ Processed 4 ∷ [])
    (led (start_world ring) (Process 1 ∷ Process 0 ∷ []))
unfolding hit
before_commit = (
  (led start (Process 1 ∷ [])),
  inr (inr (Own 3 (None), omega arith, refl, inr (refl, refl))),
  (
    (led start (Process 1 ∷ Process 0 ∷ [])),
    inr (inr (Own 4 (Some 1), omega arith, refl, inr (refl, refl))),
    refl,
  ),
)

reached_before : IsReached ring 2 (led (start_world ring) (Process 1 ∷ Process 0 ∷ []))
reached_before = record { steps = Process 1 ∷ Process 0 ∷ []; replies = Processed 3 ∷ Processed 4 ∷ []; run = before_commit }

pub ahead_runs : Runs ring 2 (start_world ring) (Process 1 ∷ Process 0 ∷ Commit 7 ∷ []) (Processed 3 ∷ Processed 4 ∷ Refused 34 ∷ [])
    (led (start_world ring) (Process 1 ∷ Process 0 ∷ []))
unfolding hit
ahead_runs = (
  (led start (Process 1 ∷ [])),
  inr (inr (Own 3 (None), omega arith, refl, inr (refl, refl))),
  (
    (led start (Process 1 ∷ Process 0 ∷ [])),
    inr (inr (Own 4 (Some 1), omega arith, refl, inr (refl, refl))),
    (
      (led start (Process 1 ∷ Process 0 ∷ [])),
      inr (inl (4, time_of (led start (Process 1 ∷ Process 0 ∷ [])) reached_before, omega arith, record { reply_is = refl; stays = refl })),
      refl,
    ),
  ),
)

pub accepted_runs : Runs ring 2 (led (start_world ring) (Process 1 ∷ Process 0 ∷ [])) (Commit 4 ∷ []) (Committed 1 ∷ [])
    (led (start_world ring) (Process 1 ∷ Process 0 ∷ Commit 4 ∷ []))
unfolding hit
accepted_runs = (
  (led start (Process 1 ∷ Process 0 ∷ Commit 4 ∷ [])),
  inr (inr (4, 1, time_of (led start (Process 1 ∷ Process 0 ∷ [])) reached_before, omega arith, omega arith, refl, refl, refl)),
  refl,
)

pub after_commit : Runs ring 2 (start_world ring) (Process 1 ∷ Process 0 ∷ Commit 4 ∷ []) (Processed 3 ∷ Processed 4 ∷ Committed 1 ∷ [])
    (led (start_world ring) (Process 1 ∷ Process 0 ∷ Commit 4 ∷ []))
unfolding hit
after_commit = (
  (led start (Process 1 ∷ [])),
  inr (inr (Own 3 (None), omega arith, refl, inr (refl, refl))),
  (
    (led start (Process 1 ∷ Process 0 ∷ [])),
    inr (inr (Own 4 (Some 1), omega arith, refl, inr (refl, refl))),
    (
      (led start (Process 1 ∷ Process 0 ∷ Commit 4 ∷ [])),
      inr (inr (4, 1, time_of (led start (Process 1 ∷ Process 0 ∷ [])) reached_before, omega arith, omega arith, refl, refl, refl)),
      refl,
    ),
  ),
)

reached_after : IsReached ring 2 (led (start_world ring) (Process 1 ∷ Process 0 ∷ Commit 4 ∷ []))
reached_after = record { steps = Process 1 ∷ Process 0 ∷ Commit 4 ∷ []; replies = Processed 3 ∷ Processed 4 ∷ Committed 1 ∷ []; run = after_commit }

pub refused_runs : Runs ring 2 (led (start_world ring) (Process 1 ∷ Process 0 ∷ Commit 4 ∷ [])) (Commit 3 ∷ RollBack 1 ∷ Process 2 ∷ Meet 1 pass_2 ∷ []) (Refused 35 ∷ Refused 33 ∷ Refused 30 ∷ Refused 32 ∷ [])
    (led (start_world ring) (Process 1 ∷ Process 0 ∷ Commit 4 ∷ []))
unfolding hit
refused_runs = (
  (led start (Process 1 ∷ Process 0 ∷ Commit 4 ∷ [])),
  inl (omega arith, record { reply_is = refl; stays = refl }),
  (
    (led start (Process 1 ∷ Process 0 ∷ Commit 4 ∷ [])),
    inr (inl (omega arith, refl, record { reply_is = refl; stays = refl })),
    (
      (led start (Process 1 ∷ Process 0 ∷ Commit 4 ∷ [])),
      inl (omega arith, record { reply_is = refl; stays = refl }),
      (
        (led start (Process 1 ∷ Process 0 ∷ Commit 4 ∷ [])),
        inl (refl, record { reply_is = refl; stays = refl }),
        refl,
      ),
    ),
  ),
)

pub again_runs : Runs ring 2 (led (start_world ring) (Process 1 ∷ Process 0 ∷ Commit 4 ∷ [])) (Commit 4 ∷ []) (Committed 0 ∷ [])
    (led (start_world ring) (Process 1 ∷ Process 0 ∷ Commit 4 ∷ Commit 4 ∷ []))
unfolding hit
again_runs = (
  (led start (Process 1 ∷ Process 0 ∷ Commit 4 ∷ Commit 4 ∷ [])),
  inr (inr (4, 0, time_of (led start (Process 1 ∷ Process 0 ∷ Commit 4 ∷ [])) reached_after, omega arith, omega arith, refl, refl, refl)),
  refl,
)

pub whole_before : Runs ring 2 (start_world ring) (Process 1 ∷ Process 0 ∷ DeliverMessage 1 pass_2 ∷ Process 1 ∷ Process 1 ∷ DeliverMessage 0 pass_3 ∷ Process 0 ∷ Process 0 ∷ DeliverMessage 1 pass_4 ∷ Process 1 ∷ []) (Processed 3 ∷ Processed 4 ∷ Delivered 0 ∷ Processed 4 ∷ Processed 7 ∷ Delivered 0 ∷ Processed 7 ∷ Processed 8 ∷ Delivered 0 ∷ Processed 8 ∷ [])
    (led (start_world ring) (Process 1 ∷ Process 0 ∷ DeliverMessage 1 pass_2 ∷ Process 1 ∷ Process 1 ∷ DeliverMessage 0 pass_3 ∷ Process 0 ∷ Process 0 ∷ DeliverMessage 1 pass_4 ∷ Process 1 ∷ []))
unfolding hit
whole_before = (
  (led start (Process 1 ∷ [])),
  inr (inr (Own 3 (None), omega arith, refl, inr (refl, refl))),
  (
    (led start (Process 1 ∷ Process 0 ∷ [])),
    inr (inr (Own 4 (Some 1), omega arith, refl, inr (refl, refl))),
    (
      (led start (Process 1 ∷ Process 0 ∷ DeliverMessage 1 pass_2 ∷ [])),
      inr (refl, refl, refl),
      (
        (led start (Process 1 ∷ Process 0 ∷ DeliverMessage 1 pass_2 ∷ Process 1 ∷ [])),
        inr (inr (Input pass_2, omega arith, refl, inr (refl, refl))),
        (
          (led start (Process 1 ∷ Process 0 ∷ DeliverMessage 1 pass_2 ∷ Process 1 ∷ Process 1 ∷ [])),
          inr (inr (Own 7 (Some 0), omega arith, refl, inr (refl, refl))),
          (
            (led start (Process 1 ∷ Process 0 ∷ DeliverMessage 1 pass_2 ∷ Process 1 ∷ Process 1 ∷ DeliverMessage 0 pass_3 ∷ [])),
            inr (refl, refl, refl),
            (
              (led start (Process 1 ∷ Process 0 ∷ DeliverMessage 1 pass_2 ∷ Process 1 ∷ Process 1 ∷ DeliverMessage 0 pass_3 ∷ Process 0 ∷ [])),
              inr (inr (Input pass_3, omega arith, refl, inr (refl, refl))),
              (
                (led start (Process 1 ∷ Process 0 ∷ DeliverMessage 1 pass_2 ∷ Process 1 ∷ Process 1 ∷ DeliverMessage 0 pass_3 ∷ Process 0 ∷ Process 0 ∷ [])),
                inr (inr (Own 8 (Some 1), omega arith, refl, inr (refl, refl))),
                (
                  (led start (Process 1 ∷ Process 0 ∷ DeliverMessage 1 pass_2 ∷ Process 1 ∷ Process 1 ∷ DeliverMessage 0 pass_3 ∷ Process 0 ∷ Process 0 ∷ DeliverMessage 1 pass_4 ∷ [])),
                  inr (refl, refl, refl),
                  (
                    (led start (Process 1 ∷ Process 0 ∷ DeliverMessage 1 pass_2 ∷ Process 1 ∷ Process 1 ∷ DeliverMessage 0 pass_3 ∷ Process 0 ∷ Process 0 ∷ DeliverMessage 1 pass_4 ∷ Process 1 ∷ [])),
                    inr (inr (Input pass_4, omega arith, refl, inr (refl, refl))),
                    refl,
                  ),
                ),
              ),
            ),
          ),
        ),
      ),
    ),
  ),
)

reached_whole : IsReached ring 2 (led (start_world ring) (Process 1 ∷ Process 0 ∷ DeliverMessage 1 pass_2 ∷ Process 1 ∷ Process 1 ∷ DeliverMessage 0 pass_3 ∷ Process 0 ∷ Process 0 ∷ DeliverMessage 1 pass_4 ∷ Process 1 ∷ []))
reached_whole = record { steps = Process 1 ∷ Process 0 ∷ DeliverMessage 1 pass_2 ∷ Process 1 ∷ Process 1 ∷ DeliverMessage 0 pass_3 ∷ Process 0 ∷ Process 0 ∷ DeliverMessage 1 pass_4 ∷ Process 1 ∷ []; replies = Processed 3 ∷ Processed 4 ∷ Delivered 0 ∷ Processed 4 ∷ Processed 7 ∷ Delivered 0 ∷ Processed 7 ∷ Processed 8 ∷ Delivered 0 ∷ Processed 8 ∷ []; run = whole_before }

pub whole_runs : Runs ring 2 (start_world ring) (Process 1 ∷ Process 0 ∷ DeliverMessage 1 pass_2 ∷ Process 1 ∷ Process 1 ∷ DeliverMessage 0 pass_3 ∷ Process 0 ∷ Process 0 ∷ DeliverMessage 1 pass_4 ∷ Process 1 ∷ Commit 100 ∷ Process 0 ∷ []) (Processed 3 ∷ Processed 4 ∷ Delivered 0 ∷ Processed 4 ∷ Processed 7 ∷ Delivered 0 ∷ Processed 7 ∷ Processed 8 ∷ Delivered 0 ∷ Processed 8 ∷ Committed 4 ∷ Refused 31 ∷ [])
    (led (start_world ring) (Process 1 ∷ Process 0 ∷ DeliverMessage 1 pass_2 ∷ Process 1 ∷ Process 1 ∷ DeliverMessage 0 pass_3 ∷ Process 0 ∷ Process 0 ∷ DeliverMessage 1 pass_4 ∷ Process 1 ∷ Commit 100 ∷ []))
unfolding hit
whole_runs = (
  (led start (Process 1 ∷ [])),
  inr (inr (Own 3 (None), omega arith, refl, inr (refl, refl))),
  (
    (led start (Process 1 ∷ Process 0 ∷ [])),
    inr (inr (Own 4 (Some 1), omega arith, refl, inr (refl, refl))),
    (
      (led start (Process 1 ∷ Process 0 ∷ DeliverMessage 1 pass_2 ∷ [])),
      inr (refl, refl, refl),
      (
        (led start (Process 1 ∷ Process 0 ∷ DeliverMessage 1 pass_2 ∷ Process 1 ∷ [])),
        inr (inr (Input pass_2, omega arith, refl, inr (refl, refl))),
        (
          (led start (Process 1 ∷ Process 0 ∷ DeliverMessage 1 pass_2 ∷ Process 1 ∷ Process 1 ∷ [])),
          inr (inr (Own 7 (Some 0), omega arith, refl, inr (refl, refl))),
          (
            (led start (Process 1 ∷ Process 0 ∷ DeliverMessage 1 pass_2 ∷ Process 1 ∷ Process 1 ∷ DeliverMessage 0 pass_3 ∷ [])),
            inr (refl, refl, refl),
            (
              (led start (Process 1 ∷ Process 0 ∷ DeliverMessage 1 pass_2 ∷ Process 1 ∷ Process 1 ∷ DeliverMessage 0 pass_3 ∷ Process 0 ∷ [])),
              inr (inr (Input pass_3, omega arith, refl, inr (refl, refl))),
              (
                (led start (Process 1 ∷ Process 0 ∷ DeliverMessage 1 pass_2 ∷ Process 1 ∷ Process 1 ∷ DeliverMessage 0 pass_3 ∷ Process 0 ∷ Process 0 ∷ [])),
                inr (inr (Own 8 (Some 1), omega arith, refl, inr (refl, refl))),
                (
                  (led start (Process 1 ∷ Process 0 ∷ DeliverMessage 1 pass_2 ∷ Process 1 ∷ Process 1 ∷ DeliverMessage 0 pass_3 ∷ Process 0 ∷ Process 0 ∷ DeliverMessage 1 pass_4 ∷ [])),
                  inr (refl, refl, refl),
                  (
                    (led start (Process 1 ∷ Process 0 ∷ DeliverMessage 1 pass_2 ∷ Process 1 ∷ Process 1 ∷ DeliverMessage 0 pass_3 ∷ Process 0 ∷ Process 0 ∷ DeliverMessage 1 pass_4 ∷ Process 1 ∷ [])),
                    inr (inr (Input pass_4, omega arith, refl, inr (refl, refl))),
                    (
                      (led start (Process 1 ∷ Process 0 ∷ DeliverMessage 1 pass_2 ∷ Process 1 ∷ Process 1 ∷ DeliverMessage 0 pass_3 ∷ Process 0 ∷ Process 0 ∷ DeliverMessage 1 pass_4 ∷ Process 1 ∷ Commit 100 ∷ [])),
                      inr (inr (100, 4, time_of (led start (Process 1 ∷ Process 0 ∷ DeliverMessage 1 pass_2 ∷ Process 1 ∷ Process 1 ∷ DeliverMessage 0 pass_3 ∷ Process 0 ∷ Process 0 ∷ DeliverMessage 1 pass_4 ∷ Process 1 ∷ [])) reached_whole, omega arith, omega arith, refl, refl, refl)),
                      (
                        (led start (Process 1 ∷ Process 0 ∷ DeliverMessage 1 pass_2 ∷ Process 1 ∷ Process 1 ∷ DeliverMessage 0 pass_3 ∷ Process 0 ∷ Process 0 ∷ DeliverMessage 1 pass_4 ∷ Process 1 ∷ Commit 100 ∷ [])),
                        inr (inl (omega arith, refl, record { reply_is = refl; stays = refl })),
                        refl,
                      ),
                    ),
                  ),
                ),
              ),
            ),
          ),
        ),
      ),
    ),
  ),
)

pub delivered_like : AreAlike (led (start_world ring) (Process 0 ∷ RollBack 0 ∷ DeliverAntimessage 1 pass_2 ∷ DeliverMessage 1 pass_2 ∷ [])) (start_world ring)
unfolding hit
delivered_like = record { zero_is = refl; one_is = refl; bound = refl; committed = refl }

pub once_pending : ((led (start_world ring) (Process 0 ∷ RollBack 0 ∷ Process 0 ∷ DeliverMessage 1 pass_2 ∷ DeliverMessage 1 pass_2 ∷ DeliverAntimessage 1 pass_2 ∷ [])).part 1).pending ≡ pass_2 ∷ []
unfolding hit
once_pending = refl

pub once_alike : AreAlike (led (start_world ring) (Process 0 ∷ RollBack 0 ∷ Process 0 ∷ DeliverMessage 1 pass_2 ∷ DeliverMessage 1 pass_2 ∷ DeliverAntimessage 1 pass_2 ∷ [])) (led (start_world ring) (Process 0 ∷ DeliverMessage 1 pass_2 ∷ []))
unfolding hit
once_alike = record { zero_is = refl; one_is = refl; bound = refl; committed = refl }

pub again_alike : AreAlike (led (start_world ring) (Process 1 ∷ Process 1 ∷ Process 0 ∷ DeliverMessage 1 pass_2 ∷ RollBack 0 ∷ DeliverAntimessage 1 pass_2 ∷ Process 1 ∷ [])) (led (start_world ring) (Process 1 ∷ Process 1 ∷ []))
unfolding hit
again_alike = record { zero_is = refl; one_is = refl; bound = refl; committed = refl }
