-- The invariants of the lock table, and the changes that keep them. They hold at the start and after every step inside a call.
use Rattle.std.proofs.Common.{◌≡◌, ℕ, suc, ◌+◌, ◌<◌, ◌≤◌, true, false, cond, eqb, ◌⊎◌, List, [], ◌∷◌, length, Some, None, refl, inl, inr, arith}
use Rattle.std.proofs.lemmas.Bool.{cases_eq, cond_both}
use Rattle.std.proofs.lemmas.Bool.Decides.{nat_tests}
use Rattle.rules.specs.declared.Mode.{Mode}
use Rattle.rules.specs.declared.Mode.TheVariants.{Shared, Exclusive}
use Rattle.rules.specs.Tables.{Hold, Phase, running, waiting, Station, Stations, conflict, mode_with, hold_mode, owned, is_idle, is_waiting, works, hold_on, running_station, waiting_station, with_hand, put, idle_station}
use Rattle.rules.specs.Operations.{draft_for, granted_station, adjust}
use Rattle.rules.specs.Orderly.{Distinct}
use Rattle.rules.proofs.Stations.{put_cases, put_same, put_other}
use Rattle.law.specs.Observer.{stamp, oldest}
use Rattle.law.proofs.Hands.{hold_on_adjusted, hold_on_others, none_adjusted, length_adjusted}

-- the holds of a station, and its wait, counted
abbrev pub places : {V : Type 0} → Station V → ℕ
places s = length s.hand + cond (is_waiting s.phase) 1 0

-- the invariants, of the stations, the next stamp and the number of records
pub record Invariant {V : Type 0} (t : Stations V) (next records : ℕ) : Type 0 where
  -- Owned-exclusive: an owned exclusive hold has no younger holder on its record
  pub owned_exclusive : (i j r : ℕ) (h k : Hold V) → hold_on r (t i).hand ≡ Some h → owned h ≡ true → hold_mode h ≡ Exclusive
      → hold_on r (t j).hand ≡ Some k → (j ≡ i → ⊥) → (t j).stamp < (t i).stamp
  -- Exclusive-wait: an exclusive wait has no younger holder on its record
  pub exclusive_wait : (i j r : ℕ) (k : Hold V) → (t i).phase ≡ waiting r Exclusive → hold_on r (t j).hand ≡ Some k
      → (t j).stamp < (t i).stamp
  -- Shared-wait: a shared wait has no younger exclusive holder on its record. Only `blocked-after-settling` rests on this one
  pub shared_wait : (i j r : ℕ) (k : Hold V) → (t i).phase ≡ waiting r Shared → hold_on r (t j).hand ≡ Some k
      → hold_mode k ≡ Exclusive → (t j).stamp < (t i).stamp
  -- Bookkeeping: a station that is not idle has a number below 16,
  pub in_range : (i : ℕ) → is_idle (t i).phase ≡ false → i < 16
  -- and a stamp below the next;
  pub stamped : (i : ℕ) → is_idle (t i).phase ≡ false → (0 < (t i).stamp) × ((t i).stamp < next)
  -- no two of them have the same stamp;
  pub apart : (i j : ℕ) → is_idle (t i).phase ≡ false → is_idle (t j).phase ≡ false → (t i).stamp ≡ (t j).stamp → i ≡ j
  -- a station that is not at work has no holds;
  pub empty_handed : (i : ℕ) → works (t i).phase ≡ false → (t i).hand ≡ []
  -- the records held and waited for are records of the show;
  pub held_inside : (i r : ℕ) (h : Hold V) → hold_on r (t i).hand ≡ Some h → r < records
  pub awaited_inside : (i r : ℕ) (m : Mode) → (t i).phase ≡ waiting r m → r < records
  -- a waiter does not hold what it waits for;
  pub awaited_not_held : (i r : ℕ) (m : Mode) → (t i).phase ≡ waiting r m → hold_on r (t i).hand ≡ None
  -- the records in one hand are distinct;
  pub distinct : (i : ℕ) → Distinct (t i).hand
  -- and a hand and its wait are at most sixteen
  pub room : (i : ℕ) → places (t i) ≤ 16

-- who is at work is not idle
pub works_not_idle : (p : Phase) → works p ≡ true → is_idle p ≡ false
works_not_idle p e = grind arith

-- who waits is at work
pub waiting_works : (p : Phase) (r : ℕ) (m : Mode) → p ≡ waiting r m → works p ≡ true
waiting_works p r m e = cc

-- who is not at work does not wait
pub resting_waits_not : (p : Phase) → works p ≡ false → is_waiting p ≡ false
resting_waits_not p e = grind arith

-- every mode conflicts with the exclusive one
pub conflict_exclusive : (m : Mode) → conflict m Exclusive ≡ true
conflict_exclusive m = grind arith

-- a hold starts in the mode taken
pub mode_granted : {V : Type 0} (m : Mode) (v : V) → mode_with (draft_for m v) ≡ m
mode_granted m v = grind arith

-- a station whose hand is empty unless it is at work, and which holds something, is at work
holder_at_work : {V : Type 0} (s : Station V) (r : ℕ) (h : Hold V) → (works s.phase ≡ false → s.hand ≡ [])
    → hold_on r s.hand ≡ Some h → works s.phase ≡ true
holder_at_work s r h empty e = grind arith

module _ {V : Type 0} {t : Stations V} {next records : ℕ} (v : Invariant t next records) where
  -- who holds is at work
  pub holder_works : (i r : ℕ) (h : Hold V) → hold_on r (t i).hand ≡ Some h → works (t i).phase ≡ true
  holder_works i r h e = holder_at_work (t i) r h (v.empty_handed i) e

  -- who holds is not idle
  pub holder_not_idle : (i r : ℕ) (h : Hold V) → hold_on r (t i).hand ≡ Some h → is_idle (t i).phase ≡ false
  holder_not_idle i r h e = works_not_idle (t i).phase (holder_works i r h e)

  -- who holds has a number below 16
  pub holder_in_range : (i r : ℕ) (h : Hold V) → hold_on r (t i).hand ≡ Some h → i < 16
  holder_in_range i r h e = v.in_range i (holder_not_idle i r h e)

  -- who waits is not idle
  pub waiter_not_idle : (i r : ℕ) (m : Mode) → (t i).phase ≡ waiting r m → is_idle (t i).phase ≡ false
  waiter_not_idle i r m e = works_not_idle (t i).phase (waiting_works (t i).phase r m e)

  -- whoever holds what another waits for, in a conflicting mode, is the older
  pub conflicting_holder_older : (i j r : ℕ) (m : Mode) (k : Hold V) → (t i).phase ≡ waiting r m → hold_on r (t j).hand ≡ Some k
      → conflict m (hold_mode k) ≡ true → (t j).stamp < (t i).stamp
  conflicting_holder_older i j r m k e f c = grind (arith, v.exclusive_wait i j r k, v.shared_wait i j r k)

-- A change that adds nothing.

-- a station after a change that adds no hold, no wait and no stamp
pub record AddsNothing {V : Type 0} (s s' : Station V) : Type 0 where
  pub same_stamp : is_idle s'.phase ≡ false → (is_idle s.phase ≡ false) × (s'.stamp ≡ s.stamp)
  pub same_wait : (r : ℕ) (m : Mode) → s'.phase ≡ waiting r m → s.phase ≡ waiting r m
  pub same_hold : (r : ℕ) (h' : Hold V) → hold_on r s'.hand ≡ Some h'
      → (h : Hold V) × (hold_on r s.hand ≡ Some h) × (hold_mode h' ≡ hold_mode h) × (owned h' ≡ true → owned h ≡ true)
  pub none_held : (r : ℕ) → hold_on r s.hand ≡ None → hold_on r s'.hand ≡ None
  pub empties : works s'.phase ≡ false → s'.hand ≡ []
  pub stays_distinct : Distinct s.hand → Distinct s'.hand
  pub no_more_places : places s' ≤ places s

-- a station left as it is adds nothing
pub unchanged_adds_nothing : {V : Type 0} (s : Station V) → (works s.phase ≡ false → s.hand ≡ []) → AddsNothing s s
unchanged_adds_nothing s e = grind arith

-- a station whose hand is emptied and which does not wait adds nothing
pub emptied_adds_nothing : {V : Type 0} (s s' : Station V) → s'.hand ≡ [] → is_waiting s'.phase ≡ false
    → (is_idle s'.phase ≡ false → (is_idle s.phase ≡ false) × (s'.stamp ≡ s.stamp)) → AddsNothing s s'
emptied_adds_nothing s s' none rests stamp = grind arith

-- a change that adds nothing keeps the invariants
pub adding_nothing_keeps : {V : Type 0} {t : Stations V} (t' : Stations V) {next records : ℕ} → Invariant t next records
    → ((i : ℕ) → AddsNothing (t i) (t' i)) → Invariant t' next records
adding_nothing_keeps t' v s = grind (arith, works_not_idle, waiting_works, holder_at_work)

-- one station put so that nothing is added keeps the invariants
pub put_keeps : {V : Type 0} {t : Stations V} {next records : ℕ} → Invariant t next records → (k : ℕ) (x : Station V)
    → AddsNothing (t k) x → Invariant (put t k x) next records
put_keeps {t = t} v k x s = adding_nothing_keeps (put t k x) v
    (λ i. put_cases (AddsNothing (t i)) t k x i (λ e. rw e s) (λ _. unchanged_adds_nothing (t i) (v.empty_handed i)))

-- one station put idle keeps the invariants
pub idle_keeps : {V : Type 0} {t : Stations V} {next records : ℕ} → Invariant t next records → (k : ℕ)
    → Invariant (put t k idle_station) next records
idle_keeps {t = t} v k = put_keeps v k idle_station (emptied_adds_nothing (t k) idle_station refl refl (λ q. cc))

-- a hold adjusted in its draft or stage, but neither in its mode nor from retired to owned
module _ {V : Type 0} (f : Hold V → Hold V) (keeps : (h : Hold V) → (f h).record_number ≡ h.record_number) where
  -- the records stay distinct
  distinct_adjusted : (q : ℕ) (hs : List (Hold V)) → Distinct hs → Distinct (adjust q f hs)
  distinct_adjusted q [] d = tt
  distinct_adjusted q (g ∷ hs) d = cond_both (eqb g.record_number q) (f g ∷ hs) (g ∷ adjust q f hs) Distinct
      (λ _. (rw (keeps g) d.0, d.1)) (λ _. (none_adjusted f keeps q g.record_number hs d.0, distinct_adjusted q hs d.1))

  -- nothing is added
  pub adjusted_adds_nothing : (s : Station V) (q : ℕ) (h : Hold V) → hold_on q s.hand ≡ Some h → hold_mode (f h) ≡ hold_mode h
      → (owned (f h) ≡ true → owned h ≡ true) → works s.phase ≡ true → AddsNothing s (with_hand s (adjust q f s.hand))
  adjusted_adds_nothing s q h e mode own w =
      record {
        same_stamp = λ k. (k, refl);
        same_wait = λ r m p. p;
        same_hold = λ r g p. grind (arith, cases_eq r q, hold_on_adjusted f keeps q s.hand h e, hold_on_others f keeps q r s.hand);
        none_held = λ r p. none_adjusted f keeps q r s.hand p;
        empties = λ n. cc;
        stays_distinct = distinct_adjusted q s.hand;
        no_more_places = rw (length_adjusted f keeps q s.hand) (omega arith);
      }

-- Begin.

-- a station that begins with the next stamp keeps the invariants
pub begin_keeps : {V : Type 0} {t : Stations V} {next records : ℕ} → Invariant t next records → (i : ℕ) → i < 16 → 0 < next
    → Invariant (put t i (running_station next [])) (suc next) records
begin_keeps v i l pos = grind (arith, nat_tests)

-- A wait added, and a wait granted.

-- a running station that waits for a record of which every conflicting holder is older keeps the invariants
pub wait_keeps : {V : Type 0} {t : Stations V} {next records : ℕ} → Invariant t next records → (i r : ℕ) (m : Mode)
    → (t i).phase ≡ running → r < records → hold_on r (t i).hand ≡ None → length (t i).hand < 16
    → ((j : ℕ) (k : Hold V) → hold_on r (t j).hand ≡ Some k → conflict m (hold_mode k) ≡ true → (t j).stamp < (t i).stamp)
    → Invariant (put t i (waiting_station (t i) r m)) next records
wait_keeps {t = t} v i r m run l lacks free behind =
    let exclusive : (j : ℕ) (k : Hold _) → hold_on r (t j).hand ≡ Some k → m ≡ Exclusive → (t j).stamp < (t i).stamp =
    λ j k f e. behind j k f (rw e) in
    let shared : (j : ℕ) (k : Hold _) → hold_on r (t j).hand ≡ Some k → m ≡ Shared → hold_mode k ≡ Exclusive
    → (t j).stamp < (t i).stamp = λ j k f e x. behind j k f (rw (e, x)) in
    grind (arith, nat_tests, exclusive, shared)

-- a wait that no owned hold conflicts with, and that is the oldest on its record, keeps the invariants as it becomes a hold
pub grant_keeps : {V : Type 0} {t : Stations V} {next records : ℕ} → Invariant t next records → (i r : ℕ) (m : Mode) (d : V)
    → (t i).phase ≡ waiting r m
    → ((j : ℕ) (h : Hold V) → hold_on r (t j).hand ≡ Some h → owned h ≡ true → conflict m (hold_mode h) ≡ true → ⊥)
    → ((j : ℕ) (md : Mode) → (t j).phase ≡ waiting r md → (t i).stamp ≤ (t j).stamp)
    → Invariant (put t i (granted_station (t i) r m d)) next records
grant_keeps v i r m d wait free oldest = grind (arith, nat_tests, conflict_exclusive, mode_granted, conflicting_holder_older)

-- Blocked.

-- station j keeps station i from being granted: by an older owned hold that conflicts, or by an older wait on the record
abbrev pub BlockedBy : {V : Type 0} → Stations V → ℕ → ℕ → Mode → ℕ → Type 0
BlockedBy {V} t i r m j = ((t j).stamp < (t i).stamp)
    × (((h : Hold V) × (hold_on r (t j).hand ≡ Some h) × (owned h ≡ true) × (conflict m (hold_mode h) ≡ true)) ⊎
    ((md : Mode) × ((t j).phase ≡ waiting r md)))

-- Blocked: a wait that stands after a call has an older owned conflicting hold, or an older wait, on its record
abbrev pub Blocked : {V : Type 0} → Stations V → Type 0
Blocked t = (i r : ℕ) (m : Mode) → (t i).phase ≡ waiting r m → (j : ℕ) × BlockedBy t i r m j

-- a station put that neither waited nor waits, and keeps its stamp and its owned holds in their modes, leaves every wait blocked
pub put_leaves_blocked : {V : Type 0} (t : Stations V) (k : ℕ) (x : Station V) → is_waiting (t k).phase ≡ false
    → is_waiting x.phase ≡ false
    → ((r : ℕ) (h : Hold V) → hold_on r (t k).hand ≡ Some h → owned h ≡ true → (x.stamp ≡ (t k).stamp) × ((h' : Hold V) × (hold_on r x.hand ≡ Some h') × (owned h' ≡ true) × (hold_mode h' ≡ hold_mode h)))
    → Blocked t → Blocked (put t k x)
put_leaves_blocked {V} t k x was is kept blocked i r m = go (cases_eq i k)
  where
    t' : Stations V
    t' = put t k x

    go : (i ≡ k) ⊎ (i ≡ k → ⊥) → (t' i).phase ≡ waiting r m → (j : ℕ) × BlockedBy t' i r m j
    go (inl ik) wait = cc (let z : x.phase ≡ waiting r m = rw (ik, put_same t k x) at wait in rw z at is)
    go (inr nk) wait = (b.0, by (cases_eq b.0 k) b.1)
      where
        here : t' i ≡ t i
        here = put_other t k x i nk

        b : (j : ℕ) × BlockedBy t i r m j
        b = blocked i r m (rw here at wait)

        by : (b.0 ≡ k) ⊎ (b.0 ≡ k → ⊥) → BlockedBy t i r m b.0 → BlockedBy t' i r m b.0
        by (inr n) p = rw (here, put_other t k x b.0 n) p
        by (inl e) (l, inl (h, f, o, c)) =
            let q = kept r h (rw e at f) o in
            rw (here, e, put_same t k x) (rw q.0 (rw e at l), inl (q.1.0, q.1.1, q.1.2, rw q.1.3 c))
        by (inl e) (l, inr (md, w)) = cc (let z : (t k).phase ≡ waiting r md = rw e at w in rw z at was)
