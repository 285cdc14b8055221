-- Which attempts a call starts, ends and lets go on.
use Rattle.std.proofs.Common.{◌≡◌, ℕ, ◌<◌, Bool, true, false, eqb, ◌⊎◌, [], length, Some, None, sym, refl, ap, ◌∙◌, inl, inr, arith}
use Rattle.std.proofs.lemmas.Bool.{eqb-true, eq-eqb, cases_eq, cases_Bool}
use Rattle.std.proofs.lemmas.Bool.Decides.{nat_tests}
use Rattle.rules.specs.declared.Mode.{Mode}
use Rattle.rules.specs.declared.Mode.TheVariants.{Exclusive}
use Rattle.rules.specs.declared.Call.{Call}
use Rattle.rules.specs.declared.Call.TheVariants.{Begin, Take, Change, Retire, Commit, GiveUp, Again}
use Rattle.rules.specs.declared.Answer.{Answer}
use Rattle.rules.specs.declared.Answer.TheVariants.{Number}
use Rattle.rules.specs.Tables.{Hold, idle, running, wounded, Station, Stations, Table, hold_mode, owned, is_idle, works, hold_on, idle_station, running_station, waiting_station, with_hand, put, is_wounded}
use Rattle.rules.specs.Operations.{seen, bonds, widen, wound, granted_station, settle, must_yield, wounded_by_take, wounded_by_give_up, adjust, retired, redrafted}
use Rattle.rules.specs.Calls.{after, answer}
use Rattle.rules.proofs.Searches.{eqb_refl}
use Rattle.rules.proofs.Stations.{put_cases, put_same, put_other}
use Rattle.rules.proofs.Widening.{widened_has_first}
use Rattle.law.specs.Observer.{stamp, caller, names, Event, nothing, starts, waits, gets, told, event, is_commit, is_over, is_start}
use Rattle.law.proofs.Hands.{aspect_adjusted}
use Rattle.law.proofs.Invariants.{Invariant, works_not_idle, put_keeps, adjusted_adds_nothing, idle_keeps}
use Rattle.law.proofs.Wounding.{closed_under_younger_holders, members_at_work, at_work_spared, spared_same, wounded_rests, wounding_keeps, yielding_at_work, take_keeps}
use Rattle.rules.proofs.Spared.{members_no_older, taker_older, taker_spared}
use Rattle.law.proofs.Promotion.{StaysOrGranted, stays, is_granted, settling_keeps, settling_works}
use Rattle.law.proofs.Consistency.{held_mode}
use Rattle.law.proofs.PlainCalls.{untold}

-- an attempt goes on: its station was at work, keeps its stamp, and holds what it held
pub record GoesOn {V : Type 0} (s s' : Station V) : Type 0 where
  pub was_at_work : works s.phase ≡ true
  pub same_stamp : s'.stamp ≡ s.stamp
  pub keeps_holds : (r : ℕ) (h : Hold V) → hold_on r s.hand ≡ Some h
      → (h' : Hold V) × (hold_on r s'.hand ≡ Some h') × (hold_mode h' ≡ hold_mode h)

-- what call c with answer a makes of the attempts, from the stations t to the stations t'
pub record Ends {V C : Type 0} (t t' : Stations V) (c : Call C) (a : Answer V) : Type 0 where
  -- the attempts that it ends uncommitted,
  pub out : ℕ → Bool
  -- with every younger holder of what one of them holds exclusively;
  pub closed : (i j r : ℕ) (h k : Hold V) → out j ≡ true → hold_on r (t j).hand ≡ Some h → hold_mode h ≡ Exclusive
      → hold_on r (t i).hand ≡ Some k → (t j).stamp < (t i).stamp → out i ≡ true
  -- they are not at work any more,
  pub ended : (i : ℕ) → out i ≡ true → works (t' i).phase ≡ false
  -- and nobody else ends but who commits;
  pub only : (j : ℕ) → works (t j).phase ≡ true → works (t' j).phase ≡ false → (is_commit (event c a j) ≡ true) ⊎ (out j ≡ true)
  -- whom the call does not name is younger than someone at work;
  pub younger : (i : ℕ) → out i ≡ true → (names c i ≡ true) ⊎ ((k : ℕ) × (works (t k).phase ≡ true) × ((t k).stamp < (t i).stamp))
  -- who commits is at work and has no bonds;
  pub free : (i : ℕ) → is_commit (event c a i) ≡ true → (works (t i).phase ≡ true) × (bonds t i ≡ 0)
  -- whose attempt is over is not at work;
  pub over : (i : ℕ) → is_over (event c a i) ≡ true → works (t' i).phase ≡ false
  -- who starts was not at work;
  pub starts_from_rest : (i : ℕ) → is_start (event c a i) ≡ true → works (t i).phase ≡ false
  -- and whoever is at work and did not start goes on
  pub goes_on : (i : ℕ) → works (t' i).phase ≡ true → is_start (event c a i) ≡ false → GoesOn (t i) (t' i)

-- a station that is as it was goes on
pub same_goes_on : {V : Type 0} (s s' : Station V) → s' ≡ s → works s'.phase ≡ true → GoesOn s s'
same_goes_on s s' e w = record { was_at_work = rw (← e) w; same_stamp = rw e; keeps_holds = λ r h f. (h, rw e f, refl) }

-- who goes on to a hand with the same modes
modes_go_on : {V : Type 0} (s s' : Station V) → works s.phase ≡ true → s'.stamp ≡ s.stamp
    → ((r : ℕ) → held_mode (hold_on r s'.hand) ≡ held_mode (hold_on r s.hand)) → GoesOn s s'
modes_go_on s s' w stamp modes = grind (arith, modes)

-- who goes on to mid goes on through settling
settled_goes_on : {V : Type 0} (s : Stations V) (mid : Stations V) (next records : ℕ) (show : ℕ → V) → Invariant mid next records
    → ((i : ℕ) → works (mid i).phase ≡ true → GoesOn (s i) (mid i)) → (i : ℕ) → works (settle show mid i).phase ≡ true
    → GoesOn (s i) (settle show mid i)
settled_goes_on {V} s mid next records show v on i w = go (settle show mid i) ((settling_keeps mid next records show v).moved i)
  where
    g : GoesOn (s i) (mid i)
    g = on i (sym (settling_works mid next records show v i) ∙ w)

    go : (x : Station V) → StaysOrGranted (mid i) x → GoesOn (s i) x
    go x (stays e) = rw e g
    go x (is_granted r m d wait e) = rw e
        (record { was_at_work = g.was_at_work; same_stamp = g.same_stamp; keeps_holds = keeps })
      where
        keeps : (q : ℕ) (h : Hold V) → hold_on q (s i).hand ≡ Some h
            → (h' : Hold V) × (hold_on q (granted_station (mid i) r m d).hand ≡ Some h') × (hold_mode h' ≡ hold_mode h)
        keeps q h f = let p = g.keeps_holds q h f in
            (p.0, grind (arith, nat_tests, v.awaited_not_held i r m, p.1), p.2)

-- a call that ends nobody's attempt
none_end : {V C : Type 0} (t t' : Stations V) (c : Call C) (a : Answer V)
    → ((j : ℕ) → works (t j).phase ≡ true → works (t' j).phase ≡ true) → is_commit (told c a) ≡ false
    → ((i : ℕ) → is_over (event c a i) ≡ true → works (t' i).phase ≡ false)
    → ((i : ℕ) → is_start (event c a i) ≡ true → works (t i).phase ≡ false)
    → ((i : ℕ) → works (t' i).phase ≡ true → is_start (event c a i) ≡ false → GoesOn (t i) (t' i)) → Ends t t' c a
none_end t t' c a keep no_commit over from_rest on =
    record {
      out = λ _. false;
      closed = λ i j r h k e _ _ _ _. cc;
      ended = λ i e. cc;
      only = λ j w n. cc (keep j w);
      younger = λ i e. cc;
      free = λ i e. grind arith;
      over = over;
      starts_from_rest = from_rest;
      goes_on = on;
    }

-- a call that leaves the stations, and neither starts an attempt nor is its end
pub unchanged_ends_none : {V C : Type 0} (t : Stations V) (c : Call C) (a : Answer V) → is_commit (told c a) ≡ false
    → is_over (told c a) ≡ false → is_start (told c a) ≡ false → Ends t t c a
unchanged_ends_none t c a no_commit not_over no_start =
    none_end t t c a (λ j w. w) no_commit
    (λ i e. grind arith)
    (λ i e. grind arith)
    (λ i w _. same_goes_on (t i) (t i) refl w)

-- a station put that is at work leaves everybody at work who was
put_at_work : {V : Type 0} (t : Stations V) (k : ℕ) (x : Station V) → works x.phase ≡ true → (j : ℕ)
    → works (t j).phase ≡ true → works (put t k x j).phase ≡ true
put_at_work t k x w j e = grind arith

-- a station put idle lets everybody go on who is at work then
idle_goes_on : {V : Type 0} (t : Stations V) (k i : ℕ) → works (put t k idle_station i).phase ≡ true
    → GoesOn (t i) (put t k idle_station i)
idle_goes_on t k i = put_cases (λ s. works s.phase ≡ true → GoesOn (t i) s) t k idle_station i (λ _ w. cc)
    (λ _ w. same_goes_on (t i) (t i) refl w)

module _ {V C : Type 0} (apply : V → C → V) (t : Table V) (v : Invariant t.stations t.next_stamp t.records) where
  -- what call c makes of the attempts
  abbrev pub EndsOf : Call C → Type 0
  EndsOf c = Ends t.stations (after apply c t).stations c (answer apply c t)

  -- a station k that is not at work starts
  start_ends : (c : Call C) (a : Answer V) (k : ℕ) (x : Station V) → caller c ≡ Some k → told c a ≡ starts
      → works (t.stations k).phase ≡ false → works x.phase ≡ true → Ends t.stations (put t.stations k x) c a
  start_ends c a k x named starts_it rest w =
      none_end t.stations (put t.stations k x) c a (put_at_work t.stations k x w) (rw starts_it)
      (λ i e. grind arith)
      (λ i e. grind (arith, cases_eq i k, untold_of i)) on
    where
      untold_of : (i : ℕ) → (i ≡ k → ⊥) → event c a i ≡ nothing
      untold_of i nk = rw named (untold k i (told c a) nk)

      on : (i : ℕ) → works (put t.stations k x i).phase ≡ true → is_start (event c a i) ≡ false
          → GoesOn (t.stations i) (put t.stations k x i)
      on i = put_cases (λ s. works s.phase ≡ true → is_start (event c a i) ≡ false → GoesOn (t.stations i) s) t.stations k x i
          (λ ik _ e. let ev : event c a i ≡ starts = rw (named, eq-eqb i k ik) starts_it in cc (ap is_start ev))
          (λ _ y _. same_goes_on (t.stations i) (t.stations i) refl y)

  -- begin starts an attempt and ends none
  pub begin_ends : (k : ℕ) → (t.stations k).phase ≡ idle → EndsOf (Begin k)
  begin_ends k was = start_ends (Begin k) (Number t.next_stamp) k (running_station t.next_stamp []) refl refl (rw was) refl

  -- again starts an attempt and ends none
  pub again_ends : (k : ℕ) → (t.stations k).phase ≡ wounded → EndsOf (Again k)
  again_ends k was = start_ends (Again k) (Number (t.stations k).stamp) k (running_station (t.stations k).stamp []) refl refl
      (rw was) refl

  -- a hold of station k, which runs, is adjusted, but not in its mode
  module _ (f : Hold V → Hold V) (keeps : (h : Hold V) → (f h).record_number ≡ h.record_number) (k r : ℕ) (h : Hold V)
      (at_r : hold_on r (t.stations k).hand ≡ Some h) (mode : hold_mode (f h) ≡ hold_mode h)
      (was : (t.stations k).phase ≡ running) where
    -- the stations after it
    abbrev adjusted : Stations V
    adjusted = put t.stations k (with_hand (t.stations k) (adjust r f (t.stations k).hand))

    -- everybody goes on
    adjusted_goes_on : (i : ℕ) → works (adjusted i).phase ≡ true → GoesOn (t.stations i) (adjusted i)
    adjusted_goes_on i = put_cases (λ s. works s.phase ≡ true → GoesOn (t.stations i) s) t.stations k
        (with_hand (t.stations k) (adjust r f (t.stations k).hand)) i
        (λ ik w. rw ik (modes_go_on (t.stations k) (with_hand (t.stations k) (adjust r f (t.stations k).hand)) (rw was) refl
        (aspect_adjusted f keeps r held_mode (t.stations k).hand h at_r (ap Some mode))))
        (λ _ w. same_goes_on (t.stations i) (t.stations i) refl w)

    -- everybody is at work who was
    adjusted_at_work : (j : ℕ) → works (t.stations j).phase ≡ true → works (adjusted j).phase ≡ true
    adjusted_at_work = put_at_work t.stations k (with_hand (t.stations k) (adjust r f (t.stations k).hand)) (rw was)

  -- change ends nobody's attempt
  pub change_ends : (k r : ℕ) (c : C) → (t.stations k).phase ≡ running
      → (h : Hold V) × (hold_on r (t.stations k).hand ≡ Some h) × (owned h ≡ true) × ((d : V) × (h.draft ≡ Some d))
      → EndsOf (Change k r c)
  change_ends k r c was (h, at_r, own, (d, drafted)) =
      none_end t.stations (adjusted change_hold (λ _. refl) k r h at_r mode was) (Change k r c) (answer apply (Change k r c) t)
      (adjusted_at_work change_hold (λ _. refl) k r h at_r mode was) refl
      (λ i e. grind arith)
      (λ i e. grind arith)
      (λ i w _. adjusted_goes_on change_hold (λ _. refl) k r h at_r mode was i w)
    where
      change_hold : Hold V → Hold V
      change_hold = redrafted (λ u. apply u c)

      mode : hold_mode (change_hold h) ≡ hold_mode h
      mode = rw drafted

  -- retire ends nobody's attempt
  pub retire_ends : (k r : ℕ) → (t.stations k).phase ≡ running
      → (h : Hold V) × (hold_on r (t.stations k).hand ≡ Some h) × (owned h ≡ true) → EndsOf (Retire k r)
  retire_ends k r was (h, at_r, own) =
      none_end t.stations (settle t.show mid) (Retire k r) (answer apply (Retire k r) t)
      (λ j w. settling_works mid t.next_stamp t.records t.show v' j ∙ adjusted_at_work retired (λ _. refl) k r h at_r
      refl was j w) refl
      (λ i e. grind arith)
      (λ i e. grind arith)
      (λ i w _. settled_goes_on t.stations mid t.next_stamp t.records t.show v'
      (adjusted_goes_on retired (λ _. refl) k r h at_r refl was) i w)
    where
      mid : Stations V
      mid = adjusted retired (λ _. refl) k r h at_r refl was

      v' : Invariant mid t.next_stamp t.records
      v' = put_keeps v k (with_hand (t.stations k) (adjust r retired (t.stations k).hand))
          (adjusted_adds_nothing retired (λ _. refl) (t.stations k) r h at_r refl (λ x. cc) (rw was))

  -- commit ends the attempt that it commits, and no other
  pub commit_ends : (k : ℕ) → (t.stations k).phase ≡ running → bonds t.stations k ≡ 0 → EndsOf (Commit k)
  commit_ends k was unbound =
      record {
        out = λ _. false;
        closed = λ i j r h k e _ _ _ _. cc;
        ended = λ i e. cc;
        only = λ j w n. inl (grind (arith, settling_works mid t.next_stamp t.records show' v' j));
        younger = λ i e. cc;
        free = λ i e. grind (arith, nat_tests);
        over = λ i e. grind (arith, settling_works mid t.next_stamp t.records show' v' i);
        starts_from_rest = λ i e. grind arith;
        goes_on = λ i w _. settled_goes_on t.stations mid t.next_stamp t.records show' v' (idle_goes_on t.stations k) i w;
      }
    where
      mid : Stations V
      mid = put t.stations k idle_station

      show' : ℕ → V
      show' = seen (t.stations k).hand t.show

      v' : Invariant mid t.next_stamp t.records
      v' = idle_keeps v k

  -- A widened set is wounded, station k is put as x, and all is settled.
  module _ (c : Call C) (a : Answer V) (no_commit : is_commit (told c a) ≡ false) (no_start : is_start (told c a) ≡ false)
      (first : ℕ → Bool) (base : (i : ℕ) → first i ≡ true → works (t.stations i).phase ≡ true)
      (k : ℕ) (x : Station V)
      (v' : Invariant (put (wound (widen t.stations first) t.stations) k x) t.next_stamp t.records) where
    -- the members
    abbrev members : ℕ → Bool
    members = widen t.stations first

    -- the stations before settling
    abbrev mid : Stations V
    mid = put (wound (widen t.stations first) t.stations) k x

    -- the members end, and nobody else
    wounding_ends : ((i : ℕ) → i ≡ k → members i ≡ true → works x.phase ≡ false)
        → (works (t.stations k).phase ≡ true → works x.phase ≡ false → members k ≡ true)
        → ((i : ℕ) → members i ≡ true → (names c i ≡ true) ⊎ ((k : ℕ) × (works (t.stations k).phase ≡ true) × ((t.stations k).stamp < (t.stations i).stamp)))
        → (works x.phase ≡ true → GoesOn (t.stations k) x)
        → ((i : ℕ) → is_over (event c a i) ≡ true → (i ≡ k) × (works x.phase ≡ false))
        → Ends t.stations (settle t.show mid) c a
    wounding_ends ends_k only_k young on_k over_k =
        record {
          out = members;
          closed = closed_under_younger_holders v first;
          ended = λ i e. grind (arith, nat_tests, ends_k i, wounded_rests members t.stations i, settles i);
          only = λ j w n. inr (grind (arith, nat_tests, only_k, spared_same members t.stations j, settles j));
          younger = young;
          free = λ i e. grind arith;
          over = λ i e. grind (arith, nat_tests, over_k i e, settles i);
          starts_from_rest = λ i e. grind arith;
          goes_on = λ i w _. settled_goes_on t.stations mid t.next_stamp t.records t.show v'
              (λ i w. on i w (cases_eq i k)) i w;
        }
      where
        after_wounding : Stations V
        after_wounding = wound (widen t.stations first) t.stations

        settles : (i : ℕ) → works (settle t.show mid i).phase ≡ works (mid i).phase
        settles = settling_works mid t.next_stamp t.records t.show v'

        on : (i : ℕ) → works (mid i).phase ≡ true → (i ≡ k) ⊎ (i ≡ k → ⊥) → GoesOn (t.stations i) (mid i)
        on i w (inl ik) = rw (ik, put_same after_wounding k x) (on_k (rw (ik, put_same after_wounding k x) at w))
        on i w (inr nk) =
            let spared = at_work_spared members t.stations i (rw (put_other after_wounding k x i nk) at w) in
            same_goes_on (t.stations i) (mid i) (put_other after_wounding k x i nk ∙ spared_same members t.stations i spared)
            w

  -- take ends the attempts that it wounds, all younger than the taker
  pub take_ends : (k r : ℕ) (m : Mode) → (t.stations k).phase ≡ running → r < t.records → hold_on r (t.stations k).hand ≡ None
      → length (t.stations k).hand < 16 → EndsOf (Take k r m)
  unfolding wounded_by_take
  take_ends k r m was inside lacks free =
      wounding_ends (Take k r m) (answer apply (Take k r m) t) (tells_none is_commit refl refl) (tells_none is_start refl refl)
      first (yielding_at_work v k r m) k new (take_keeps v k r m was inside lacks free)
      (λ i ik e. cc (rw ik at e, taker_spared t.stations k r m))
      (λ _ n. cc)
      (λ i e. inr (k, rw was, taker_older t.stations k r m i e))
      (λ _. rw taker_same (modes_go_on (t.stations k) (waiting_station (t.stations k) r m) (rw was) refl (λ _. refl)))
      (λ i e. grind arith)
    where
      first : ℕ → Bool
      first = must_yield t.stations k r m

      new : Station V
      new = waiting_station (wound (widen t.stations (must_yield t.stations k r m)) t.stations k) r m

      taker_same : wound (widen t.stations (must_yield t.stations k r m)) t.stations k ≡ t.stations k
      taker_same = spared_same (widen t.stations first) t.stations k (taker_spared t.stations k r m)

      tells_none : (test : Event V C → Bool) → test (gets r m) ≡ false → test (waits r m) ≡ false
          → test (told (Take k r m) (answer apply (Take k r m) t)) ≡ false
      tells_none test g w = grind arith

  -- a station at work that gives up ends its attempt and those of its followers
  give_up_at_work_ends : (k : ℕ) → works (t.stations k).phase ≡ true → (n : ℕ)
      → Ends {C = C} t.stations (settle t.show (put (wound (widen t.stations (λ j. eqb j k)) t.stations) k idle_station)) (GiveUp k) (Number n)
  give_up_at_work_ends k was n =
      wounding_ends (GiveUp k) (Number n) refl refl (λ j. eqb j k) base k idle_station
      (idle_keeps (wounding_keeps v (widen t.stations (λ j. eqb j k)) (members_at_work v (λ j. eqb j k) base)) k)
      (λ _ _ _. refl) (λ _ _. widened_has_first t.stations (λ j. eqb j k) k (eqb_refl k)) (λ i e. young i e (cases_eq i k))
      (λ e. cc) (λ i e. (grind (arith, nat_tests), refl))
    where
      base : (i : ℕ) → eqb i k ≡ true → works (t.stations i).phase ≡ true
      base i q = rw (eqb-true i k q) was

      young : (i : ℕ) → widen t.stations (λ j. eqb j k) i ≡ true → (i ≡ k) ⊎ (i ≡ k → ⊥)
          → (eqb i k ≡ true) ⊎ ((j : ℕ) × (works (t.stations j).phase ≡ true) × ((t.stations j).stamp < (t.stations i).stamp))
      young i e (inl ik) = inl (eq-eqb i k ik)
      young i e (inr nk) = inr (k, was, by)
        where
          by : (t.stations k).stamp < (t.stations i).stamp
          by = grind (
            arith,
            cases_eq (t.stations i).stamp (t.stations k).stamp,
            v.apart i k (works_not_idle (t.stations i).phase (members_at_work v (λ j. eqb j k) base i e))
                (works_not_idle (t.stations k).phase was),
            members_no_older t.stations (λ j. eqb j k) (t.stations k).stamp (λ j x. rw (eqb-true j k x) (omega arith)) i e,
          )

  -- a wounded station that gives up ends nobody's attempt: its own has ended
  give_up_wounded_ends : (k : ℕ) → (t.stations k).phase ≡ wounded → (n : ℕ)
      → Ends {C = C} t.stations (put t.stations k idle_station) (GiveUp k) (Number n)
  give_up_wounded_ends k was n =
      none_end t.stations (put t.stations k idle_station) (GiveUp k) (Number n) (λ j w. grind (arith, nat_tests)) refl
      (λ i e. grind arith) (λ i e. grind arith) (λ i w _. idle_goes_on t.stations k i w)

  -- give up ends its own attempt and those of the followers
  pub give_up_ends : (k : ℕ) → is_idle (t.stations k).phase ≡ false → EndsOf (GiveUp k)
  unfolding wounded_by_give_up
  give_up_ends k busy = elim (cases_Bool (is_wounded (t.stations k).phase)) [
    | inl q ↦ rw q (give_up_wounded_ends k (grind arith) _)
    | inr q ↦ rw q (give_up_at_work_ends k (grind arith) _)
  ]
