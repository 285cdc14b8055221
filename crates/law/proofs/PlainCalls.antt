-- The calls that free nothing keep table and observation together: refused calls, questions, begin, again, look and change.
use Rattle.std.proofs.Common.{◌≡◌, ℕ, suc, ◌<◌, true, false, cond, eqb, ◌⊎◌, [], Some, sym, refl, ap, ◌∙◌, inl, inr, arith}
use Rattle.std.proofs.lemmas.Bool.{ne_eqb, cases_eq}
use Rattle.rules.specs.declared.State.TheVariants.{Running}
use Rattle.rules.specs.declared.Refusal.{Refusal}
use Rattle.rules.specs.declared.Call.{Call}
use Rattle.rules.specs.declared.Call.TheVariants.{Begin, Look, Change, Again}
use Rattle.rules.specs.declared.Answer.{Answer}
use Rattle.rules.specs.declared.Answer.TheVariants.{Refused, Number, Value}
use Rattle.rules.specs.Tables.{Hold, Phase, idle, running, wounded, Station, Table, hold_mode, owned, works, hold_on, running_station, with_hand, put}
use Rattle.rules.specs.Operations.{before, seen, adjust, redrafted}
use Rattle.rules.specs.Calls.{state_of, after, answer, owns}
use Rattle.rules.proofs.Searches.{eqb_refl}
use Rattle.rules.proofs.Stations.{put_same, put_other}
use Rattle.law.specs.Observer.{View, turned, caller, looked, changed, Event, nothing, starts, notes, told, event, Observation, observe}
use Rattle.law.proofs.Hands.{hold_on_adjusted, aspect_adjusted}
use Rattle.law.proofs.Invariants.{Invariant, resting_waits_not, emptied_adds_nothing, put_keeps, adjusted_adds_nothing, begin_keeps, put_leaves_blocked}
use Rattle.law.proofs.SerialOrder.{replays_if_empty_put, replays_if_other_changes, replays_own_change, replays_own_look}
use Rattle.law.proofs.Consistency.{held_mode, turned_not, fresh_matches, untouched_matches, Tells, Consistent, consistent_step, MatchesAfter}

-- a call that tells nothing tells nothing of any station
pub silent : {V C : Type 0} (c : Call C) (a : Answer V) (i : ℕ) → told c a ≡ nothing → event c a i ≡ nothing
silent c a i e = grind arith

-- a call tells nothing of a station that it does not name
pub untold : {V C : Type 0} (k i : ℕ) (ev : Event V C) → (i ≡ k → ⊥) → cond (eqb i k) ev nothing ≡ nothing
untold k i ev nk = rw (ne_eqb i k nk)

-- a refused call tells nothing
pub refused_silent : {V C : Type 0} (c : Call C) (why : Refusal) → told {V = V} c (Refused why) ≡ nothing
refused_silent c why = grind arith

module _ {V C : Type 0} (apply : V → C → V) (opening : ℕ → V) (t : Table V) (o : Observation V C)
    (g : Consistent apply opening t o) (w : View V C) (tells : Tells w t) where
  -- table and observation belong together after call c, which is not refused
  abbrev pub Following : Call C → Type 0
  Following c = (w' : View V C) → Tells w' (after apply c t) → w c ≡ answer apply c t → Consistent apply opening (after apply c t)
      (observe w c w' o)

  -- a call that tells nothing and leaves the table
  pub silent_consistent : (c : Call C) (a : Answer V) (w' : View V C) → Tells w' t → w c ≡ a → told c a ≡ nothing
      → Consistent apply opening t (observe w c w' o)
  silent_consistent c a w' tells' e none =
      consistent_step apply opening t t o c a w w' tells tells' e g.invariant g.invariant g.next_positive g.blocked
      (λ i _. untouched_matches apply t.stations t.stations t.show t.show o c a i refl (silent c a i none)
      (g.matches i).replays (g.matches i))
      (rw none g.answers_agree) (rw none g.values_left) (rw none g.commits_counted)

  -- a station k with an empty hand, put as x with an empty hand: the others match
  pub others_match : (c : Call C) (a : Answer V) (k : ℕ) (x : Station V) → (t.stations k).hand ≡ [] → x.hand ≡ [] → (i : ℕ)
      → (i ≡ k → ⊥) → event c a i ≡ nothing
      → MatchesAfter apply t.stations (put t.stations k x) t.show o c a i
  others_match c a k x none none' i nk e =
      untouched_matches apply t.stations (put t.stations k x) t.show t.show o c a i (put_other t.stations k x i nk) e
      (replays_if_empty_put apply t.stations t.show k x none none' i nk (o.attempts i).entries (g.matches i).replays)
      (g.matches i)

  -- a station k that is not at work starts an attempt with stamp s: what is left to show is the invariants
  start_consistent : (c : Call C) (a : Answer V) (k s : ℕ) (t' : Table V) (w' : View V C)
      → t'.stations ≡ put t.stations k (running_station s []) → t'.show ≡ t.show → t'.records ≡ t.records
      → t'.commits ≡ t.commits → Tells w' t' → w c ≡ a → works (t.stations k).phase ≡ false → told c a ≡ starts
      → caller c ≡ Some k → Invariant t'.stations t'.next_stamp t'.records → 0 < t'.next_stamp
      → Consistent apply opening t' (observe w c w' o)
  start_consistent c a k s t' w' at_new show_same records_same commits_same tells' e rest starts_it named v positive =
      consistent_step apply opening t t' o c a w w' tells tells' e g.invariant v positive
      (rw at_new (put_leaves_blocked t.stations k new (resting_waits_not (t.stations k).phase rest) refl
      (λ r h f _. cc (ap (hold_on r) none)) g.blocked))
      (λ i _. rw (at_new, show_same) (matches i (cases_eq i k)))
      (rw starts_it g.answers_agree) (rw (starts_it, show_same, records_same) g.values_left)
      (rw (starts_it, commits_same) g.commits_counted)
    where
      new : Station V
      new = running_station s []

      none : (t.stations k).hand ≡ []
      none = g.invariant.empty_handed k rest

      was_not_waiting : (p : Phase) → works p ≡ false → turned (state_of p) Running ≡ false
      was_not_waiting p q = grind arith

      matches : (i : ℕ) → (i ≡ k) ⊎ (i ≡ k → ⊥)
          → MatchesAfter apply t.stations (put t.stations k new) t.show o c a i
      matches i (inr nk) = others_match c a k new none refl i nk (rw named (untold k i (told c a) nk))
      matches i (inl ik) =
          let ev : event c a k ≡ starts = rw (named, eqb_refl k) starts_it in
          rw (ik, ev, put_same t.stations k new, was_not_waiting (t.stations k).phase rest)
          (fresh_matches apply (put t.stations k new) t.show k (suc o.started) (rw (put_same t.stations k new))
          (rw (put_same t.stations k new)))

  -- begin keeps table and observation together
  pub begin_consistent : (k : ℕ) → k < 16 → (t.stations k).phase ≡ idle → Following (Begin k)
  begin_consistent k l was w' tells' e =
      start_consistent (Begin k) (Number t.next_stamp) k t.next_stamp (after apply (Begin k) t) w' refl refl refl refl
      tells' e (rw was) refl refl
      (begin_keeps g.invariant k l g.next_positive) (omega arith)

  -- again keeps table and observation together
  pub again_consistent : (k : ℕ) → (t.stations k).phase ≡ wounded → Following (Again k)
  again_consistent k was w' tells' e =
      start_consistent (Again k) (Number (t.stations k).stamp) k (t.stations k).stamp (after apply (Again k) t) w' refl refl
      refl refl tells' e (rw was) refl refl
      (put_keeps g.invariant k (running_station (t.stations k).stamp [])
      (emptied_adds_nothing (t.stations k) (running_station (t.stations k).stamp []) refl refl (λ _. (rw was, refl))))
      g.next_positive

  -- look keeps table and observation together
  pub look_consistent : (k r : ℕ) → (h : Hold V) × (hold_on r (t.stations k).hand ≡ Some h) × (owned h ≡ true)
      → Following (Look k r)
  look_consistent k r own w' tells' e =
      consistent_step apply opening t t o (Look k r) (Value v) w w' tells tells' e g.invariant g.invariant
      g.next_positive g.blocked
      (λ i _. matches i (cases_eq i k)) g.answers_agree g.values_left g.commits_counted
    where
      v : V
      v = seen (t.stations k).hand (before t.stations t.show k) r

      matches : (i : ℕ) → (i ≡ k) ⊎ (i ≡ k → ⊥)
          → MatchesAfter apply t.stations t.stations t.show o (Look k r) (Value v) i
      matches i (inr nk) = untouched_matches apply t.stations t.stations t.show t.show o (Look k r) (Value v) i refl
          (untold k i (notes (looked r v)) nk) (g.matches i).replays (g.matches i)
      matches i (inl ik) = rw (ik, turned_not (t.stations k).phase, eqb_refl k)
          (record {
            replays = replays_own_look apply t.stations t.show k r own.0 own.1 (o.attempts k).entries
                (g.matches k).replays;
            holds_observed = (g.matches k).holds_observed;
            wait_observed = (g.matches k).wait_observed;
          })

  -- change keeps table and observation together
  pub change_consistent : (k r : ℕ) (c : C) → (t.stations k).phase ≡ running
      → (h : Hold V) × (hold_on r (t.stations k).hand ≡ Some h) × (owned h ≡ true) × ((d : V) × (h.draft ≡ Some d))
      → Following (Change k r c)
  change_consistent k r c was (h, at_r, own, (d, drafted)) w' tells' e =
      consistent_step apply opening t (after apply (Change k r c) t) o (Change k r c) (Value (apply d c)) w w' tells tells'
      (e ∙ ap Value new_draft) g.invariant
      (put_keeps g.invariant k new
      (adjusted_adds_nothing change_hold (λ _. refl) (t.stations k) r h at_r mode (λ q. q) (rw was))) g.next_positive
      (put_leaves_blocked t.stations k new (rw was) (rw was) owned_kept g.blocked)
      (λ i _. matches i (cases_eq i k)) g.answers_agree g.values_left g.commits_counted
    where
      change_hold : Hold V → Hold V
      change_hold = redrafted (λ u. apply u c)

      mode : hold_mode (change_hold h) ≡ hold_mode h
      mode = rw drafted

      new : Station V
      new = with_hand (t.stations k) (adjust r (redrafted (λ u. apply u c)) (t.stations k).hand)

      new_draft : seen (put t.stations k new k).hand t.show r ≡ apply d c
      new_draft = rw
          (put_same t.stations k new, hold_on_adjusted change_hold (λ _. refl) r (t.stations k).hand h at_r, drafted)

      owned_kept : (q : ℕ) (x : Hold V) → hold_on q (t.stations k).hand ≡ Some x → owned x ≡ true
          → (new.stamp ≡ (t.stations k).stamp) × ((x' : Hold V) × (hold_on q new.hand ≡ Some x') × (owned x' ≡ true) × (hold_mode x' ≡ hold_mode x))
      owned_kept q x f own_x = (refl, by)
        where
          by : (x' : Hold V) × (hold_on q new.hand ≡ Some x') × (owned x' ≡ true) × (hold_mode x' ≡ hold_mode x)
          by = grind (
            arith,
            aspect_adjusted change_hold (λ _. refl) r held_mode (t.stations k).hand h at_r (ap Some mode) q,
            aspect_adjusted change_hold (λ _. refl) r owns (t.stations k).hand h at_r refl q,
          )

      matches : (i : ℕ) → (i ≡ k) ⊎ (i ≡ k → ⊥)
          → MatchesAfter apply t.stations (put t.stations k new) t.show o (Change k r c) (Value (apply d c)) i
      matches i (inr nk) =
          untouched_matches apply t.stations (put t.stations k new) t.show t.show o (Change k r c) (Value (apply d c)) i
          (put_other t.stations k new i nk) (untold k i (notes (changed r c (apply d c))) nk)
          (replays_if_other_changes apply t.stations t.next_stamp t.records g.invariant t.show k r c h d at_r own
          drafted i (o.attempts i).entries nk (g.matches i).replays) (g.matches i)
      matches i (inl ik) =
          rw (ik, put_same t.stations k new, turned_not (t.stations k).phase, eqb_refl k)
          (record {
            replays = replays_own_change apply t.stations t.next_stamp t.records g.invariant t.show k r c h d at_r
                own drafted (o.attempts k).entries (g.matches k).replays;
            holds_observed = λ q. rw (put_same t.stations k new) ((g.matches k).holds_observed q ∙ sym
                (aspect_adjusted change_hold (λ _. refl) r held_mode (t.stations k).hand h at_r (ap Some mode) q));
            wait_observed = λ q m x. (g.matches k).wait_observed q m (rw (put_same t.stations k new) at x);
          })
