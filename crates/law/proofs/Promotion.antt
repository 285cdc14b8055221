-- Promoting: what it keeps, whom it grants, and that it leaves every wait blocked.
use Rattle.std.proofs.Common.{◌≡◌, ℕ, ◌<◌, ◌≤◌, true, false, ◌⊎◌, List, Some, None, Option, sym, refl, ap, ◌∙◌, inl, inr, le_of_eq, arith}
use Rattle.std.proofs.lemmas.Bool.{cases_eq, not-true, not-false}
use Rattle.std.proofs.lemmas.Bool.Decides.{nat_tests}
use Rattle.rules.specs.declared.Mode.{Mode}
use Rattle.rules.specs.Searches.{any_below, first_below, count_below}
use Rattle.rules.specs.Tables.{Hold, Phase, idle, running, wounded, waiting, Station, Stations, conflict, hold_mode, owned, is_waiting, works, hold_on, put}
use Rattle.rules.specs.Operations.{before, blocks, ready, grantable, granted_station, granted_in, grant, promote, settle}
use Rattle.rules.proofs.Searches.{any_below_witness, any_below_none, first_below_passes, first_below_none, first_below_empty, count_one_fewer, count_zero, count_at_most, until_keeps, until_exhausts}
use Rattle.rules.proofs.Stations.{put_cases, put_same, put_other}
use Rattle.law.specs.Observer.{Entry}
use Rattle.law.proofs.Invariants.{Invariant, holder_in_range, waiter_not_idle, conflicting_holder_older, grant_keeps, BlockedBy, Blocked}
use Rattle.law.proofs.SerialOrder.{Replays, replays_if_other_granted, replays_own_grant}

-- a wait that can be granted: no owned hold conflicts, and no older wait on the record is there
pub record Grantable {V : Type 0} (t : Stations V) (k : ℕ) : Type 0 where
  pub record_number : ℕ
  pub mode : Mode
  pub wait : (t k).phase ≡ waiting record_number mode
  pub free : (j : ℕ) (h : Hold V) → hold_on record_number (t j).hand ≡ Some h → owned h ≡ true
      → conflict mode (hold_mode h) ≡ true → ⊥
  pub oldest_wait : (j : ℕ) (m : Mode) → (t j).phase ≡ waiting record_number m → (t k).stamp ≤ (t j).stamp

-- what the test for a grant says
pub grantable_parts : {V : Type 0} {t : Stations V} {next records : ℕ} → Invariant t next records → (k : ℕ) → grantable t k ≡ true
    → Grantable t k
unfolding grantable
grantable_parts {V} {t} v k e = go (t k).phase refl e
  where
    go : (p : Phase) → (t k).phase ≡ p → ready t k p ≡ true → Grantable t k
    go idle q e = cc
    go running q e = cc
    go wounded q e = cc
    go (waiting r m) q e =
        record {
          record_number = r;
          mode = m;
          wait = q;
          free = λ j h f o x. grind (arith, clear j (holder_in_range v j r h f));
          oldest_wait = λ j md w. grind (arith, nat_tests, clear j (v.in_range j (waiter_not_idle v j r md w)));
        }
      where
        clear : (j : ℕ) → j < 16 → blocks t k r m j ≡ false
        clear = any_below_none 16 (blocks t k r m) (not-true (any_below 16 (blocks t k r m)) e)

-- a grant puts the station granted what it waited for
pub grant_puts : {V : Type 0} (t : Stations V) (show : ℕ → V) (k r : ℕ) (m : Mode) → (t k).phase ≡ waiting r m
    → grant show k t ≡ put t k (granted_station (t k) r m (before t show k r))
unfolding grant
grant_puts {V} t show k r m e = ap (λ (p : Phase). put t k (granted_in (before t show k) (t k) p)) e

-- a station is as it was, or was granted what it waited for
pub data StaysOrGranted {V : Type 0} (s s' : Station V) : Type 0 where
  stays : s' ≡ s → StaysOrGranted s s'
  is_granted : (r : ℕ) (m : Mode) (d : V) → s.phase ≡ waiting r m → s' ≡ granted_station s r m d → StaysOrGranted s s'

-- who does not wait is not granted
not_waiting_not_ready : {V : Type 0} (t : Stations V) (i : ℕ) (p : Phase) → is_waiting p ≡ false → ready t i p ≡ false
not_waiting_not_ready t i p e = grind arith

-- a station that keeps a wait from being granted is older, by an owned hold or a wait
blocks_blocked : {V : Type 0} {t : Stations V} {next records : ℕ} → Invariant t next records → (i r : ℕ) (m : Mode) (j : ℕ)
    → (t i).phase ≡ waiting r m → blocks t i r m j ≡ true → BlockedBy t i r m j
blocks_blocked v i r m j wait b = grind (arith, nat_tests, conflicting_holder_older v i j r m)

-- where nobody can be granted, every wait is blocked
pub blocked_after_settling : {V : Type 0} {t : Stations V} {next records : ℕ} → Invariant t next records
    → ((i : ℕ) → i < 16 → grantable t i ≡ false) → Blocked t
unfolding grantable
blocked_after_settling {V} {t} v stuck i r m wait = (s.0, blocks_blocked v i r m s.0 wait s.2)
  where
    some : any_below 16 (blocks t i r m) ≡ true
    some = not-false (any_below 16 (blocks t i r m))
        (sym (ap (ready t i) wait) ∙ stuck i (v.in_range i (waiter_not_idle v i r m wait)))

    s : (j : ℕ) × (j < 16) × (blocks t i r m j ≡ true)
    s = any_below_witness 16 (blocks t i r m) some

-- Settling the stations t.
module _ {V : Type 0} (t : Stations V) (next records : ℕ) (show : ℕ → V) where
  -- what promoting keeps, at the stations u on the way
  pub record Promoting (u : Stations V) : Type 0 where
    pub invariant : Invariant u next records
    pub moved : (i : ℕ) → StaysOrGranted (t i) (u i)

  -- the station that promoting grants next
  pub picks : Stations V → Option ℕ
  picks u = first_below 16 (grantable u)

  -- the station picked can be granted
  pub picked_grantable : (u : Stations V) (k : ℕ) → picks u ≡ Some k → Promoting u → Grantable u k
  unfolding picks
  picked_grantable u k e p = grantable_parts p.invariant k (first_below_passes 16 (grantable u) k e).1

  -- one grant keeps it
  pub grant_keeps_promoting : (u : Stations V) (k : ℕ) → picks u ≡ Some k → Promoting u → Promoting (grant show k u)
  grant_keeps_promoting u k e p =
      rw (grant_puts u show k g.record_number g.mode g.wait)
      (record {
        invariant = grant_keeps p.invariant k g.record_number g.mode (before u show k g.record_number) g.wait
            g.free g.oldest_wait;
        moved = λ i. put_cases (StaysOrGranted (t i)) u k
            (granted_station (u k) g.record_number g.mode (before u show k g.record_number)) i
            (λ ik. rw ik (move (p.moved k))) (λ _. p.moved i);
      })
    where
      g : Grantable u k
      g = picked_grantable u k e p

      move : StaysOrGranted (t k) (u k)
          → StaysOrGranted (t k) (granted_station (u k) g.record_number g.mode (before u show k g.record_number))
      move (stays e) = is_granted g.record_number g.mode (before u show k g.record_number) (rw (← e) g.wait) (rw e)
      move (is_granted r m d w e) = let x : running ≡ waiting g.record_number g.mode = rw e at g.wait in cc

  -- at the start nobody has moved
  pub promoting_starts : Invariant t next records → Promoting t
  promoting_starts v = record { invariant = v; moved = λ i. stays refl }

  module _ (v : Invariant t next records) where
    -- settling keeps the invariants, and each station stays or is granted
    pub settling_keeps : Promoting (settle show t)
    unfolding promote picks
    settling_keeps = until_keeps picks (grant show) Promoting grant_keeps_promoting 16 t (promoting_starts v)

    -- settling leaves nobody to grant
    nobody_grantable : (i : ℕ) → i < 16 → grantable (settle show t) i ≡ false
    unfolding promote picks grantable
    nobody_grantable =
        first_below_none 16 (grantable (promote show t)) (until_exhausts picks (grant show) Promoting grant_keeps_promoting size
        falls none 16 t (promoting_starts v) (count_at_most 16 (λ i. is_waiting (t i).phase)))
      where
        size : Stations V → ℕ
        size u = count_below 16 (λ i. is_waiting (u i).phase)

        falls : (u : Stations V) (k : ℕ) → picks u ≡ Some k → Promoting u → size (grant show k u) < size u
        falls u k e p =
            let f = first_below_passes 16 (grantable u) k e in
            let g = picked_grantable u k e p in
            let x = granted_station (u k) g.record_number g.mode (before u show k g.record_number) in
            rw (grant_puts u show k g.record_number g.mode g.wait)
            (le_of_eq (count_one_fewer 16 (λ i. is_waiting (u i).phase) (λ i. is_waiting (put u k x i).phase) k f.0
            (rw g.wait) (rw (put_same u k x)) (λ j ne. rw (put_other u k x j ne))))

        none : (u : Stations V) → Promoting u → size u ≡ 0 → picks u ≡ None
        none u p e = first_below_empty 16 (grantable u)
            (λ i l. not_waiting_not_ready u i (u i).phase (count_zero 16 (λ i. is_waiting (u i).phase) e i l))

    -- settling leaves every wait blocked
    pub settling_blocks : Blocked (settle show t)
    settling_blocks = blocked_after_settling settling_keeps.invariant nobody_grantable

    -- settling neither starts nor ends an attempt
    pub settling_works : (i : ℕ) → works (settle show t i).phase ≡ works (t i).phase
    settling_works i = grind (arith, settling_keeps.moved i)

    -- every attempt replays as before
    pub settling_replays : {C : Type 0} (apply : V → C → V) (entries : ℕ → List (Entry V C))
        → ((i : ℕ) → Replays apply t show i (entries i)) → (i : ℕ) → Replays apply (settle show t) show i (entries i)
    unfolding promote picks
    settling_replays {C} apply entries start = (until_keeps picks (grant show) Both keeps 16 t (promoting_starts v, start)).1
      where
        Both : Stations V → Type 0
        Both u = Promoting u × ((i : ℕ) → Replays apply u show i (entries i))

        keeps : (u : Stations V) (k : ℕ) → picks u ≡ Some k → Both u → Both (grant show k u)
        keeps u k e p = (
          grant_keeps_promoting u k e p.0,
          λ i. rw (grant_puts u show k g.record_number g.mode g.wait)
              (by i (cases_eq i k)),
        )
          where
            g : Grantable u k
            g = picked_grantable u k e p.0

            by : (i : ℕ) → (i ≡ k) ⊎ (i ≡ k → ⊥)
                → Replays apply (put u k (granted_station (u k) g.record_number g.mode (before u show k g.record_number))) show i (entries i)
            by i (inl ik) = rw ik (replays_own_grant apply u next records p.0.invariant show k g.record_number g.mode
                g.wait (entries k) (p.1 k))
            by i (inr nk) = replays_if_other_granted apply u next records p.0.invariant show k g.record_number g.mode
                g.wait i (entries i) nk (p.1 i)
