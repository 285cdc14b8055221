-- How the table and what was observed belong together, and how one call carries that on.
use Rattle.std.proofs.Common.{◌≡◌, ℕ, suc, ◌<◌, ◌≤◌, true, false, cond, List, [], length, Some, None, Option, sym, ap, ◌∙◌, inl, inr, arith}
use Rattle.std.proofs.lemmas.Bool.{cond_both, cases_lt}
use Rattle.std.proofs.lemmas.Bool.Decides.{nat_tests}
use Rattle.rules.specs.declared.Mode.{Mode}
use Rattle.rules.specs.declared.State.{State}
use Rattle.rules.specs.declared.Call.{Call}
use Rattle.rules.specs.declared.Call.TheVariants.{Standing}
use Rattle.rules.specs.declared.Answer.{Answer}
use Rattle.rules.specs.declared.Answer.TheVariants.{Refused, Stands}
use Rattle.rules.specs.Tables.{Hold, Phase, idle, waiting, Stations, Table, hold_mode, is_waiting, works, hold_on, older}
use Rattle.rules.specs.Operations.{settle}
use Rattle.rules.specs.Calls.{state_of, stamp_of, standing_of}
use Rattle.law.specs.Observer.{View, state_in, stamp_in, working, turned, state, stamp, at_work, older_than, caller, Entry, Event, nothing, told, event, Attempt, fresh, granted_of, with_grant, continued, followed, predecessors_at, with_predecessors, Observation, commits_after, heard, observe}
use Rattle.law.specs.Alone.{all_left, AllAgree}
use Rattle.law.proofs.Invariants.{Invariant, works_not_idle, resting_waits_not, mode_granted, Blocked}
use Rattle.law.proofs.SerialOrder.{Replays, nothing_replays}
use Rattle.law.proofs.Promotion.{StaysOrGranted, stays, is_granted, Promoting, settling_keeps, settling_blocks, settling_works, settling_replays}
use Rattle.rules.specs.declared.Refusal.TheVariants as refusal

-- the mode of a hold, if there is one
abbrev pub held_mode : {V : Type 0} → Option (Hold V) → Option Mode
held_mode None = None
held_mode (Some h) = Some (hold_mode h)

-- who stays in its state does not turn from waiting to running
pub turned_not : (p : Phase) → turned (state_of p) (state_of p) ≡ false
turned_not p = grind arith

-- the observer takes for at work who is at work
pub working_works : (p : Phase) → working (state_of p) ≡ works p
working_works p = grind arith

module _ {V C : Type 0} (apply : V → C → V) where
  -- what was observed of the attempt of station i is so in the table
  pub record Matches (t : Stations V) (show : ℕ → V) (i : ℕ) (a : Attempt V C) : Type 0 where
    pub replays : Replays apply t show i a.entries
    pub holds_observed : (r : ℕ) → a.held r ≡ held_mode (hold_on r (t i).hand)
    pub wait_observed : (r : ℕ) (m : Mode) → (t i).phase ≡ waiting r m → a.awaiting ≡ Some (r, m)

  -- what was observed of it by the end of call c, which answered a and took the stations t to the stations s, is so in s
  abbrev pub MatchesAfter : Stations V → Stations V → (ℕ → V) → Observation V C → Call C → Answer V → ℕ → Type 0
  MatchesAfter t s show o c a i = Matches s show i
      (continued (suc o.started) (state_of (t i).phase) (state_of (s i).phase) (event c a i) (o.attempts i))

  -- attempt a, granted what it waits for if its station turns to running between the stations t and the stations s, is so in s
  abbrev pub MatchesMoved : Stations V → Stations V → (ℕ → V) → ℕ → Attempt V C → Type 0
  MatchesMoved t s show i a = Matches s show i
      (with_grant (cond (turned (state_of (t i).phase) (state_of (s i).phase)) a.awaiting None) a)

  -- a new attempt matches a station that holds nothing and does not wait
  pub fresh_matches : (t : Stations V) (show : ℕ → V) (i n : ℕ) → (t i).hand ≡ [] → is_waiting (t i).phase ≡ false
      → Matches t show i (fresh n)
  fresh_matches t show i n e w = grind (arith, nothing_replays)

  -- an attempt matches by its entries, its holds and its wait alone
  pub matches_by_parts : (t : Stations V) (show : ℕ → V) (i : ℕ) (ps : List ℕ) (a : Attempt V C) → Matches t show i a
      → Matches t show i (with_predecessors ps a)
  matches_by_parts t show i ps a k = assumption

  -- so its predecessors may be left out
  pub matches_without : (t : Stations V) (show : ℕ → V) (i : ℕ) (ps : List ℕ) (a : Attempt V C)
      → Matches t show i (with_predecessors ps a) → Matches t show i a
  matches_without t show i ps a k = assumption

  -- an attempt after a call matches, if it does where it is at work
  pub followed_matches : {t : Stations V} {next records : ℕ} → Invariant t next records
      → (show : ℕ → V) (i n : ℕ) (was : State) (ev : Event V C) (a : Attempt V C)
      → (works (t i).phase ≡ true → Matches t show i (continued n was (state_of (t i).phase) ev a))
      → Matches t show i (followed n was (state_of (t i).phase) ev a)
  followed_matches {t} v show i n was ev a k =
      cond_both (working (state_of (t i).phase)) (continued n was (state_of (t i).phase) ev a) (fresh 0) (Matches t show i)
      (λ b. k (sym (working_works (t i).phase) ∙ b))
      (λ b. let e = sym (working_works (t i).phase) ∙ b in
      fresh_matches t show i 0 (v.empty_handed i e) (resting_waits_not (t i).phase e))

  -- an attempt whose station is as it was matches, if it replays
  pub carried_on : (t t' : Stations V) (show show' : ℕ → V) (i : ℕ) (a : Attempt V C) → t' i ≡ t i
      → Replays apply t' show' i a.entries → Matches t show i a → Matches t' show' i a
  carried_on t t' show show' i a here replays k = grind (arith, replays)

  -- a station that is as it was, and of which nothing was told
  pub untouched_matches : (t t' : Stations V) (show show' : ℕ → V) (o : Observation V C) (c : Call C) (a : Answer V) (i : ℕ)
      → t' i ≡ t i → event c a i ≡ nothing → Replays apply t' show' i (o.attempts i).entries
      → Matches t show i (o.attempts i) → MatchesAfter t t' show' o c a i
  untouched_matches t t' show show' o c a i here none replays k =
      let s : turned (state_of (t i).phase) (state_of (t' i).phase) ≡ false = rw here (turned_not (t i).phase) in
      rw (none, s) (carried_on t t' show show' i (o.attempts i) here replays k)

  -- an attempt whose station stays or is granted what it waited for
  pub moved_matches : (t u : Stations V) (show : ℕ → V) (i : ℕ) (a : Attempt V C) → Matches t show i a
      → Replays apply u show i a.entries → StaysOrGranted (t i) (u i)
      → MatchesMoved t u show i a
  moved_matches t u show i a k f (stays e) =
      let same : turned (state_of (t i).phase) (state_of (u i).phase) ≡ false = rw e (turned_not (t i).phase) in
      rw same (carried_on t u show show i a e f k)
  moved_matches t u show i a k f (is_granted r m d w e) =
      let same : turned (state_of (t i).phase) (state_of (u i).phase) ≡ true = rw (e, w) in
      rw (same, k.wait_observed r m w) (grind (arith, nat_tests, f, mode_granted m d))

  -- what is so after settling t, if each attempt at work matched before
  pub record Settled (t u : Stations V) (next records : ℕ) (show : ℕ → V) (attempts : ℕ → Attempt V C) : Type 0 where
    pub invariant : Invariant u next records
    pub blocked : Blocked u
    pub same_work : (i : ℕ) → works (u i).phase ≡ works (t i).phase
    pub matches : (i : ℕ) → works (u i).phase ≡ true → MatchesMoved t u show i (attempts i)

  -- settling makes it so
  pub settled : (t : Stations V) (next records : ℕ) → Invariant t next records → (show : ℕ → V) (attempts : ℕ → Attempt V C)
      → ((i : ℕ) → works (t i).phase ≡ true → Matches t show i (attempts i))
      → Settled t (settle show t) next records show attempts
  settled t next records v show attempts k =
      record {
        invariant = p.invariant;
        blocked = settling_blocks t next records show v;
        same_work = settling_works t next records show v;
        matches = λ i w.
            let b : works (t i).phase ≡ true = sym (settling_works t next records show v i) ∙ w in
            moved_matches t (settle show t) show i (attempts i) (k i b)
            (rw (entries_at_work i b) at (settling_replays t next records show v apply entries replays i)) (p.moved i);
      }
    where
      p : Promoting t next records show (settle show t)
      p = settling_keeps t next records show v

      entries : ℕ → List (Entry V C)
      entries i = cond (works (t i).phase) (attempts i).entries []

      entries_at_work : (i : ℕ) → works (t i).phase ≡ true → entries i ≡ (attempts i).entries
      entries_at_work i b = rw b

      replays : (i : ℕ) → Replays apply t show i (entries i)
      replays i = cond_both (works (t i).phase) (attempts i).entries [] (Replays apply t show i) (λ e. (k i e).replays)
          (λ e. nothing_replays apply t show i (v.empty_handed i e))

  -- an attempt of which nothing was told, after settling
  pub settled_untold : (t mid u : Stations V) (show : ℕ → V) (o : Observation V C) (c : Call C) (a : Answer V) (i : ℕ)
      → (mid i).phase ≡ (t i).phase → event c a i ≡ nothing → MatchesMoved mid u show i (o.attempts i)
      → MatchesAfter t u show o c a i
  settled_untold t mid u show o c a i e none k = rw (none, ← e) k

-- What an engine tells of a table.

-- standing tells of each of the sixteen stations what the table has, and is refused of others
pub record Tells {V C : Type 0} (w : View V C) (t : Table V) : Type 0 where
  pub standing_told : (i : ℕ) → i < 16 → w (Standing i) ≡ Stands (standing_of t.stations i)
  pub standing_refused : (i : ℕ) → 16 ≤ i → w (Standing i) ≡ Refused refusal.Station

module _ {V C : Type 0} {w : View V C} {t : Table V} (tells : Tells w t) {next records : ℕ}
    (v : Invariant t.stations next records) where
  -- the state told is the table's
  pub state_told : (i : ℕ) → state w i ≡ state_of (t.stations i).phase
  state_told i = elim (cases_lt i 16) [
    | inl l ↦ ap state_in (tells.standing_told i l)
    | inr l ↦ (let none : (t.stations i).phase ≡ idle = grind (arith, v.in_range i) in
        ap state_in (tells.standing_refused i l) ∙ sym (ap state_of none))
  ]

  -- who is told to be at work is
  pub at_work_told : (i : ℕ) → at_work w i ≡ works (t.stations i).phase
  at_work_told i = ap working (state_told i) ∙ working_works (t.stations i).phase

  -- the stamp told of one at work is the table's
  pub stamp_told : (i : ℕ) → works (t.stations i).phase ≡ true → stamp w i ≡ Some (t.stations i).stamp
  stamp_told i b = ap stamp_in (tells.standing_told i (v.in_range i (works_not_idle (t.stations i).phase b))) ∙ go
      (t.stations i).phase b
    where
      go : (p : Phase) → works p ≡ true → stamp_of p (t.stations i).stamp ≡ Some (t.stations i).stamp
      go p e = grind arith

  -- of two at work, the older by what is told is the older
  pub older_told : (j i : ℕ) → works (t.stations j).phase ≡ true → works (t.stations i).phase ≡ true
      → older_than w j i ≡ older t.stations j i
  older_told j i wj wi = rw (stamp_told j wj, stamp_told i wi)

-- The whole.

module _ {V C : Type 0} (apply : V → C → V) (opening : ℕ → V) where
  -- the table and the observation belong together
  pub record Consistent (t : Table V) (o : Observation V C) : Type 0 where
    pub invariant : Invariant t.stations t.next_stamp t.records
    pub next_positive : 0 < t.next_stamp
    pub blocked : Blocked t.stations
    pub matches : (i : ℕ) → Matches apply t.stations t.show i (o.attempts i)
    pub answers_agree : AllAgree apply o.committed opening
    pub values_left : (r : ℕ) → r < t.records → t.show r ≡ all_left apply o.committed opening r
    pub commits_counted : t.commits ≡ length o.committed

  -- one call, seen as w before it and as w' after it, with its answer a: what is to be shown of the table t' that it leaves
  pub consistent_step : (t t' : Table V) (o : Observation V C) (c : Call C) (a : Answer V) (w w' : View V C) → Tells w t
      → Tells w' t' → w c ≡ a → Invariant t.stations t.next_stamp t.records
      → Invariant t'.stations t'.next_stamp t'.records → 0 < t'.next_stamp → Blocked t'.stations
      → ((i : ℕ) → works (t'.stations i).phase ≡ true → MatchesAfter apply t.stations t'.stations t'.show o c a i)
      → AllAgree apply (commits_after (told c a) (caller c) o.attempts o.committed) opening
      → ((r : ℕ) → r < t'.records → t'.show r ≡ all_left apply (commits_after (told c a) (caller c) o.attempts o.committed) opening r)
      → t'.commits ≡ length (commits_after (told c a) (caller c) o.attempts o.committed) → Consistent t' (observe w c w' o)
  unfolding observe
  consistent_step t t' o c a w w' tells tells' e v v' positive blocked matches agree values counted =
      record {
        invariant = v';
        next_positive = positive;
        blocked = blocked;
        matches = λ i. matches_by_parts apply t'.stations t'.show i
            (predecessors_at w' (heard w c w' o) i (granted_of (state w i) (state w' i) (event c (w c) i) (o.attempts i)))
            (heard w c w' o i)
            (rw (state_told tells v i, state_told tells' v' i, e) (followed_matches apply v' t'.show i (suc o.started)
            (state_of (t.stations i).phase) (event c a i) (o.attempts i) (matches i)));
        answers_agree = rw e agree;
        values_left = λ r l. rw e (values r l);
        commits_counted = rw e counted;
      }

  -- what was heard in a call matches
  pub heard_matches : (t' : Table V) (o : Observation V C) (c : Call C) (w w' : View V C) → Consistent t' (observe w c w' o)
      → (i : ℕ) → Matches apply t'.stations t'.show i (heard w c w' o i)
  unfolding observe
  heard_matches t' o c w w' g i =
      matches_without apply t'.stations t'.show i
      (predecessors_at w' (heard w c w' o) i (granted_of (state w i) (state w' i) (event c (w c) i) (o.attempts i)))
      (heard w c w' o i) (g.matches i)
