-- The calls that free something, and so settle, keep table and observation together: take, retire, commit and give up.
use Rattle.std.proofs.Common.{◌≡◌, ℕ, suc, ◌<◌, Bool, true, false, cond, eqb, ◌⊎◌, [], length, is_some, Some, None, Option, sym, refl, ap, ◌∙◌, subst, inl, inr, arith}
use Rattle.std.proofs.lemmas.Bool.{eqb-true, ne_eqb, cases_eq, cases_Bool}
use Rattle.std.proofs.lemmas.Bool.Decides.{nat_tests}
use Rattle.rules.specs.declared.Mode.{Mode}
use Rattle.rules.specs.declared.State.TheVariants.{Running, Waiting}
use Rattle.rules.specs.declared.Outcome.TheVariants.{Granted, Waits}
use Rattle.rules.specs.declared.Call.{Call}
use Rattle.rules.specs.declared.Call.TheVariants.{Take, Retire, Commit, GiveUp}
use Rattle.rules.specs.declared.Answer.{Answer}
use Rattle.rules.specs.declared.Answer.TheVariants.{Number, Taken, Committed}
use Rattle.rules.specs.Searches.{count_below}
use Rattle.rules.specs.Tables.{Hold, Phase, idle, running, wounded, waiting, Station, Stations, Table, owned, is_idle, is_waiting, works, hold_on, draft_in, idle_station, waiting_station, with_hand, put, with_stations, is_wounded}
use Rattle.rules.specs.Operations.{or_else, seen, bonds, widen, wound, settle, must_yield, wounded_by_take, wounded_by_give_up, adjust, retired}
use Rattle.rules.specs.Calls.{state_of, after, answer}
use Rattle.rules.proofs.Searches.{eqb_refl}
use Rattle.rules.proofs.Stations.{put_cases, put_same, put_other}
use Rattle.rules.proofs.Widening.{widened_has_first}
use Rattle.law.specs.Observer.{View, turned, nothing, commits, ends, waits, taken_by, told, event, is_commit, Attempt, after_event, with_grant, continued, Observation, observe}
use Rattle.law.specs.Alone.{left, Agrees, all_left}
use Rattle.law.proofs.Hands.{aspect_adjusted}
use Rattle.law.proofs.Invariants.{Invariant, put_keeps, adjusted_adds_nothing, put_leaves_blocked, idle_keeps}
use Rattle.law.proofs.Wounding.{closed_under_younger_holders, members_at_work, at_work_spared, spared_same, wounded_empty, wounding_keeps, yielding_at_work, take_keeps}
use Rattle.rules.proofs.Spared.{taker_spared}
use Rattle.law.proofs.SerialOrder.{Replays, replays_if_drafts_same, replays_if_empty_put, replays_if_closed_set_wounded, before_free_is_plotted, replays_if_other_commits}
use Rattle.law.proofs.Consistency.{held_mode, Matches, Settled, settled, settled_untold, Tells, Consistent, consistent_step, carried_on, MatchesAfter}
use Rattle.law.proofs.PlainCalls.{silent, untold, Following, others_match}

module _ {V C : Type 0} (apply : V → C → V) (opening : ℕ → V) (t : Table V) (o : Observation V C)
    (g : Consistent apply opening t o) (w : View V C) (tells : Tells w t) where
  -- a call that changes the stations to mid and settles, without a commit: mid has the invariants, and whoever is at work in mid matches
  -- there, is in its phase of before, and nothing is told of it
  settling_consistent : (c : Call C) (a : Answer V) (mid : Stations V) (w' : View V C)
      → Tells w' (with_stations t (settle t.show mid)) → w c ≡ a → is_commit (told c a) ≡ false
      → Invariant mid t.next_stamp t.records
      → ((i : ℕ) → works (mid i).phase ≡ true → ((mid i).phase ≡ (t.stations i).phase) × (event c a i ≡ nothing) × Matches apply mid t.show i (o.attempts i))
      → Consistent apply opening (with_stations t (settle t.show mid)) (observe w c w' o)
  settling_consistent c a mid w' tells' e none v k =
      consistent_step apply opening t (with_stations t (settle t.show mid)) o c a w w' tells tells' e g.invariant
      s.invariant g.next_positive s.blocked
      (λ i x. let q = k i (sym (s.same_work i) ∙ x) in
      settled_untold apply t.stations mid (settle t.show mid) t.show o c a i q.0 q.1 (s.matches i x))
      (rw none g.answers_agree) (rw none g.values_left) (rw none g.commits_counted)
    where
      s : Settled apply mid (settle t.show mid) t.next_stamp t.records t.show o.attempts
      s = settled apply mid t.next_stamp t.records v t.show o.attempts (λ i x. (k i x).2)

  -- retire keeps table and observation together
  pub retire_consistent : (k r : ℕ) → (t.stations k).phase ≡ running
      → (h : Hold V) × (hold_on r (t.stations k).hand ≡ Some h) × (owned h ≡ true)
      → Following apply opening t o g w tells (Retire k r)
  retire_consistent k r was (h, at_r, own) w' tells' e =
      settling_consistent (Retire k r) (answer apply (Retire k r) t) mid w' tells' e refl
      (put_keeps g.invariant k new
      (adjusted_adds_nothing retired (λ _. refl) (t.stations k) r h at_r refl (λ x. cc) (rw was)))
      (λ i _. (phase i, silent (Retire k r) (answer apply (Retire k r) t) i refl, matches i))
    where
      new : Station V
      new = with_hand (t.stations k) (adjust r retired (t.stations k).hand)

      mid : Stations V
      mid = put t.stations k new

      phase : (i : ℕ) → (mid i).phase ≡ (t.stations i).phase
      phase i = grind (arith, nat_tests)

      stamps : (i : ℕ) → (mid i).stamp ≡ (t.stations i).stamp
      stamps i = grind (arith, nat_tests)

      -- retiring leaves every aspect of a hold but its stage
      aspect_kept : {X : Type 0} (aspect : Option (Hold V) → X) → aspect (Some (retired h)) ≡ aspect (Some h) → (j q : ℕ)
          → aspect (hold_on q (mid j).hand) ≡ aspect (hold_on q (t.stations j).hand)
      aspect_kept aspect same j q =
          put_cases (λ s. aspect (hold_on q s.hand) ≡ aspect (hold_on q (t.stations j).hand)) t.stations k new j
          (λ jk. rw jk (aspect_adjusted retired (λ _. refl) r aspect (t.stations k).hand h at_r same q)) (λ _. refl)

      matches : (i : ℕ) → Matches apply mid t.show i (o.attempts i)
      matches i =
          record {
            replays = replays_if_drafts_same apply t.stations mid t.show i (o.attempts i).entries stamps
                (aspect_kept draft_in refl)
                (λ q x f. grind (arith, aspect_kept is_some refl i q)) (g.matches i).replays;
            holds_observed = λ q. (g.matches i).holds_observed q ∙ sym (aspect_kept held_mode refl i q);
            wait_observed = λ q m x. (g.matches i).wait_observed q m (sym (phase i) ∙ x);
          }

  -- commit keeps table and observation together
  pub commit_consistent : (k : ℕ) → bonds t.stations k ≡ 0 → Following apply opening t o g w tells (Commit k)
  commit_consistent k free w' tells' e =
      consistent_step apply opening t (after apply (Commit k) t) o (Commit k) (Committed (suc t.commits)) w w' tells tells' e
      g.invariant
      s.invariant g.next_positive s.blocked (λ i x. matches_after i x (cases_eq i k)) (g.answers_agree, replayed.0)
      values_left (ap suc g.commits_counted)
    where
      mid : Stations V
      mid = put t.stations k idle_station

      show' : ℕ → V
      show' = seen (t.stations k).hand t.show

      v : Invariant mid t.next_stamp t.records
      v = idle_keeps g.invariant k

      rests : (i : ℕ) → i ≡ k → works (mid i).phase ≡ false
      rests i ik = rw (ik, put_same t.stations k idle_station)

      matches : (i : ℕ) → works (mid i).phase ≡ true → (i ≡ k) ⊎ (i ≡ k → ⊥) → Matches apply mid show' i (o.attempts i)
      matches i x (inl ik) = cc (rests i ik)
      matches i x (inr nk) =
          carried_on apply t.stations mid t.show show' i (o.attempts i) (put_other t.stations k idle_station i nk)
          (replays_if_other_commits apply t.stations t.next_stamp t.records g.invariant t.show k free i
          (o.attempts i).entries nk (g.matches i).replays) (g.matches i)

      s : Settled apply mid (settle show' mid) t.next_stamp t.records show' o.attempts
      s = settled apply mid t.next_stamp t.records v show' o.attempts (λ i x. matches i x (cases_eq i k))

      matches_after : (i : ℕ) → works (settle show' mid i).phase ≡ true → (i ≡ k) ⊎ (i ≡ k → ⊥)
          → MatchesAfter apply t.stations (settle show' mid) show' o (Commit k) (Committed (suc t.commits)) i
      matches_after i x (inl ik) = cc (sym (s.same_work i) ∙ x, rests i ik)
      matches_after i x (inr nk) =
          settled_untold apply t.stations mid (settle show' mid) show' o (Commit k) (Committed (suc t.commits)) i
          (rw (put_other t.stations k idle_station i nk)) (untold k i commits nk) (s.matches i x)

      -- the values that the attempts committed so far leave
      values : ℕ → V
      values = all_left apply o.committed opening

      -- run from them, the attempt gets its answers, and leaves what its station sees
      replayed : Agrees apply (o.attempts k).entries values × ((r : ℕ) → left apply (o.attempts k).entries values r ≡ seen (t.stations k).hand values r)
      replayed = (g.matches k).replays values (λ r h x.
          sym (g.values_left r (g.invariant.held_inside k r h x)) ∙ sym
          (before_free_is_plotted apply t.stations t.next_stamp t.records g.invariant t.show k free r h x))

      values_left : (r : ℕ) → r < t.records → show' r ≡ left apply (o.attempts k).entries values r
      values_left r l = ap (λ (u : V). or_else (draft_in (hold_on r (t.stations k).hand)) u) (g.values_left r l) ∙ sym
          (replayed.1 r)

  -- A widened set whose first members are at work is wounded.
  module _ (first : ℕ → Bool) (base : (i : ℕ) → first i ≡ true → works (t.stations i).phase ≡ true) where
    -- the wounded stations
    abbrev wounded_stations : Stations V
    wounded_stations = wound (widen t.stations first) t.stations

    -- the invariants are kept
    wounded_invariant : Invariant wounded_stations t.next_stamp t.records
    wounded_invariant = wounding_keeps g.invariant (widen t.stations first) (members_at_work g.invariant first base)

    -- whoever is spared replays as before
    spared_replays : (i : ℕ) → widen t.stations first i ≡ false
        → Replays apply wounded_stations t.show i (o.attempts i).entries
    spared_replays i e =
        replays_if_closed_set_wounded apply t.stations t.show (widen t.stations first) i (o.attempts i).entries e
        (λ j r h k mj fj x fi l. cc (closed_under_younger_holders g.invariant first i j r h k mj fj x fi l)) (g.matches i).replays

    -- whoever is spared matches as before
    spared_matches : (i : ℕ) → widen t.stations first i ≡ false → Matches apply wounded_stations t.show i (o.attempts i)
    spared_matches i e = carried_on apply t.stations wounded_stations t.show t.show i (o.attempts i)
        (spared_same (widen t.stations first) t.stations i e) (spared_replays i e) (g.matches i)

  -- a wounded station that gives up becomes idle
  give_up_wounded : (k : ℕ) → (t.stations k).phase ≡ wounded → (n : ℕ) (w' : View V C)
      → Tells w' (with_stations t (put t.stations k idle_station)) → w (GiveUp k) ≡ Number n
      → Consistent apply opening (with_stations t (put t.stations k idle_station)) (observe w (GiveUp k) w' o)
  give_up_wounded k was n w' tells' e =
      consistent_step apply opening t (with_stations t (put t.stations k idle_station)) o (GiveUp k) (Number n) w w' tells
      tells' e g.invariant
      (idle_keeps g.invariant k) g.next_positive
      (put_leaves_blocked t.stations k idle_station (rw was) refl
      (λ r h f _. cc (ap (hold_on r) none)) g.blocked)
      (λ i x. matches i x (cases_eq i k)) g.answers_agree g.values_left g.commits_counted
    where
      none : (t.stations k).hand ≡ []
      none = g.invariant.empty_handed k (rw was)

      matches : (i : ℕ) → works (put t.stations k idle_station i).phase ≡ true → (i ≡ k) ⊎ (i ≡ k → ⊥)
          → MatchesAfter apply t.stations (put t.stations k idle_station) t.show o (GiveUp k) (Number n) i
      matches i x (inl ik) = cc (rw (ik, put_same t.stations k idle_station) at x)
      matches i x (inr nk) = others_match apply opening t o g w tells (GiveUp k) (Number n) k idle_station none refl i nk
          (untold k i ends nk)

  -- a station at work that gives up: it and its followers are wounded, and it becomes idle
  give_up_at_work : (k : ℕ) → works (t.stations k).phase ≡ true → (n : ℕ) (w' : View V C)
      → Tells w' (with_stations t (settle t.show (put (wound (widen t.stations (λ j. eqb j k)) t.stations) k idle_station)))
      → w (GiveUp k) ≡ Number n
      → Consistent apply opening (with_stations t (settle t.show (put (wound (widen t.stations (λ j. eqb j k)) t.stations) k idle_station))) (observe w (GiveUp k) w' o)
  give_up_at_work k was n w' tells' e =
      settling_consistent (GiveUp k) (Number n) mid w' tells' e refl
      (idle_keeps (wounded_invariant (λ j. eqb j k) base) k)
      (λ i x. let q = spared i x (cases_eq i k) in (
        rw
            (same i q.0, spared_same (widen t.stations (λ j. eqb j k)) t.stations i q.1),
        untold k i ends q.0,
        matches i q.0 q.1,
      ))
    where
      base : (i : ℕ) → eqb i k ≡ true → works (t.stations i).phase ≡ true
      base i q = rw (eqb-true i k q) was

      after_wounding : Stations V
      after_wounding = wound (widen t.stations (λ j. eqb j k)) t.stations

      mid : Stations V
      mid = put after_wounding k idle_station

      same : (i : ℕ) → (i ≡ k → ⊥) → mid i ≡ after_wounding i
      same i nk = put_other after_wounding k idle_station i nk

      spared : (i : ℕ) → works (mid i).phase ≡ true → (i ≡ k) ⊎ (i ≡ k → ⊥)
          → (i ≡ k → ⊥) × (widen t.stations (λ j. eqb j k) i ≡ false)
      spared i x (inl ik) = cc (rw (ik, put_same after_wounding k idle_station) at x)
      spared i x (inr nk) = (nk, at_work_spared (widen t.stations (λ j. eqb j k)) t.stations i (rw (same i nk) at x))

      matches : (i : ℕ) → (i ≡ k → ⊥) → widen t.stations (λ j. eqb j k) i ≡ false
          → Matches apply mid t.show i (o.attempts i)
      matches i nk q =
          let m = spared_matches (λ j. eqb j k) base i q in
          carried_on apply after_wounding mid t.show t.show i (o.attempts i) (same i nk)
          (replays_if_empty_put apply after_wounding t.show k idle_station
          (wounded_empty (widen t.stations (λ j. eqb j k)) t.stations k
          (widened_has_first t.stations (λ j. eqb j k) k (eqb_refl k))) refl i nk (o.attempts i).entries m.replays) m

  -- give up keeps table and observation together
  pub give_up_consistent : (k : ℕ) → is_idle (t.stations k).phase ≡ false → Following apply opening t o g w tells (GiveUp k)
  unfolding wounded_by_give_up
  give_up_consistent k busy w' tells' e = elim (cases_Bool (is_wounded (t.stations k).phase)) [
    | inl q ↦ rw q (give_up_wounded k (grind arith) _ w' (rw q at tells') (rw q at e))
    | inr q ↦ rw q (give_up_at_work k (grind arith) _ w' (rw q at tells') (rw q at e))
  ]

  -- the taker's attempt matches after settling, by the answer that it got
  taker_matches : (u : Stations V) (show : ℕ → V) (k n : ℕ) (a : Attempt V C) (r : ℕ) (m : Mode) (count : ℕ) (p : Phase)
      → (u k).phase ≡ p → works p ≡ true
      → Matches apply u show k (with_grant (cond (turned Waiting (state_of p)) (Some (r, m)) None) (after_event n (waits r m) a))
      → Matches apply u show k (continued n Running (state_of p) (taken_by r m (Taken (cond (is_waiting p) Waits Granted) count)) a)
  taker_matches u show k n a r m count idle e x y = cc
  taker_matches u show k n a r m count running e x y =
      record { replays = y.replays; holds_observed = y.holds_observed; wait_observed = λ q mq z. cc }
  taker_matches u show k n a r m count wounded e x y = cc
  taker_matches u show k n a r m count (waiting q mq) e x y = y

  -- take keeps table and observation together
  pub take_consistent : (k r : ℕ) (m : Mode) → (t.stations k).phase ≡ running → r < t.records
      → hold_on r (t.stations k).hand ≡ None → length (t.stations k).hand < 16
      → Following apply opening t o g w tells (Take k r m)
  unfolding wounded_by_take
  take_consistent k r m was inside lacks free w' tells' e =
      consistent_step apply opening t (with_stations t (settle t.show mid)) o (Take k r m) (answer apply (Take k r m) t) w w'
      tells tells' e g.invariant s.invariant g.next_positive s.blocked
      (λ i x. matches_after i x (cases_eq i k)) (rw silent_commit g.answers_agree) (rw silent_commit g.values_left)
      (rw silent_commit g.commits_counted)
    where
      first : ℕ → Bool
      first = must_yield t.stations k r m

      base : (i : ℕ) → must_yield t.stations k r m i ≡ true → works (t.stations i).phase ≡ true
      base = yielding_at_work g.invariant k r m

      members : ℕ → Bool
      members = widen t.stations (must_yield t.stations k r m)

      after_wounding : Stations V
      after_wounding = wound (widen t.stations (must_yield t.stations k r m)) t.stations

      spared : members k ≡ false
      spared = taker_spared t.stations k r m

      taker_same : after_wounding k ≡ t.stations k
      taker_same = spared_same members t.stations k spared

      new : Station V
      new = waiting_station (after_wounding k) r m

      mid : Stations V
      mid = put after_wounding k (waiting_station (after_wounding k) r m)

      -- a take commits nothing
      silent_commit : is_commit {V = V} {C = C} (taken_by r m (answer apply (Take k r m) t)) ≡ false
      silent_commit = grind arith

      v : Invariant mid t.next_stamp t.records
      v = take_keeps g.invariant k r m was inside lacks free

      -- the taker waits, as far as is known before settling
      attempts : ℕ → Attempt V C
      attempts i = after_event (suc o.started) (cond (eqb i k) (waits r m) nothing) (o.attempts i)

      taker_waits : (mid k).phase ≡ waiting r m
      taker_waits = rw (put_same after_wounding k new)

      hands : (i : ℕ) → (mid i).hand ≡ (after_wounding i).hand
      hands i = grind (arith, nat_tests)

      stamps : (i : ℕ) → (mid i).stamp ≡ (after_wounding i).stamp
      stamps i = grind (arith, nat_tests)

      replays : (i : ℕ) → members i ≡ false → Replays apply mid t.show i (o.attempts i).entries
      replays i mi = replays_if_drafts_same apply after_wounding mid t.show i (o.attempts i).entries stamps
          (λ j q. rw (hands j)) (λ q h f. (h, rw (hands i) f)) (spared_replays first base i mi)

      other_spared : (i : ℕ) → (i ≡ k → ⊥) → works (mid i).phase ≡ true → members i ≡ false
      other_spared i nk x = at_work_spared members t.stations i (rw (put_other after_wounding k new i nk) at x)

      matches : (i : ℕ) → works (mid i).phase ≡ true → (i ≡ k) ⊎ (i ≡ k → ⊥) → Matches apply mid t.show i (attempts i)
      matches i x (inr nk) =
          rw (ne_eqb i k nk) (carried_on apply after_wounding mid t.show t.show i (o.attempts i)
          (put_other after_wounding k new i nk) (replays i (other_spared i nk x))
          (spared_matches first base i (other_spared i nk x)))
      matches i x (inl ik) =
          let taker = spared_matches first base k spared in
          rw (ik, eqb_refl k)
          (record {
            replays = replays k spared;
            holds_observed = λ q. rw (hands k) (taker.holds_observed q);
            wait_observed = λ q mq y. grind (arith, taker_waits);
          })

      u : Stations V
      u = settle t.show mid

      s : Settled apply mid u t.next_stamp t.records t.show attempts
      s = settled apply mid t.next_stamp t.records v t.show attempts (λ i x. matches i x (cases_eq i k))

      matches_after : (i : ℕ) → works (u i).phase ≡ true → (i ≡ k) ⊎ (i ≡ k → ⊥)
          → MatchesAfter apply t.stations u t.show o (Take k r m) (answer apply (Take k r m) t) i
      matches_after i x (inr nk) =
          let as_before : attempts i ≡ o.attempts i = rw (ne_eqb i k nk) in
          let same : mid i ≡ t.stations i = put_other after_wounding k new i nk ∙ spared_same members t.stations i
          (other_spared i nk (sym (s.same_work i) ∙ x)) in
          settled_untold apply t.stations mid u t.show o (Take k r m) (answer apply (Take k r m) t) i (rw same)
          (untold k i (told (Take k r m) (answer apply (Take k r m) t)) nk) (rw as_before at (s.matches i x))
      matches_after i x (inl ik) =
          subst (MatchesAfter apply t.stations u t.show o (Take k r m) (answer apply (Take k r m) t)) (sym ik) taker
        where
          at_work : works (u k).phase ≡ true
          at_work = rw ik at x

          attempt_waits : attempts k ≡ after_event (suc o.started) (waits r m) (o.attempts k)
          attempt_waits = rw (eqb_refl k)

          now : Matches apply u t.show k (with_grant (cond (turned Waiting (state_of (u k).phase)) (Some (r, m)) None) (after_event (suc o.started) (waits r m) (o.attempts k)))
          now = rw (taker_waits, attempt_waits) at (s.matches k at_work)

          taker : MatchesAfter apply t.stations u t.show o (Take k r m) (answer apply (Take k r m) t) k
          taker = rw (was, eqb_refl k) (taker_matches u t.show k (suc o.started) (o.attempts k) r m
              (count_below 16 members) (u k).phase refl at_work now)
