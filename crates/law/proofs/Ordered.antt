-- The ordered part: predecessors are at work or committed, and commit first.
use Rattle.std.proofs.Common.{◌≡◌, ℕ, zero, suc, ◌<◌, Bool, true, false, cond, ◌&&◌, ◌||◌, eqb, ◌⊎◌, List, [], ◌∷◌, Some, None, Option, sym, refl, ap, ◌∙◌, inl, inr, arith}
use Rattle.std.specs.List.{All, AllByRecursion}
use Rattle.std.proofs.lemmas.List.Elements.{recursion_from_All, All-nil, All-cons, All-append, All-weaker}
use Rattle.std.proofs.lemmas.Bool.{eq-eqb, both_ways, or_left, or_right, and_parts, and_from, ltb-true, false_from_ne_true, cond_both}
use Rattle.std.proofs.lemmas.Bool.Decides.{nat_tests}
use Rattle.rules.specs.declared.Mode.{Mode}
use Rattle.rules.specs.declared.Mode.TheVariants.{Exclusive}
use Rattle.rules.specs.declared.Call.{Call}
use Rattle.rules.specs.declared.Answer.{Answer}
use Rattle.rules.specs.Tables.{Hold, Stations, Table, conflict, hold_mode, works, hold_on, conflicts}
use Rattle.rules.specs.Operations.{bonds}
use Rattle.rules.proofs.Searches.{eqb_refl, any_below_from}
use Rattle.law.specs.Observer.{View, state, at_work, older_than, caller, Event, told, event, is_commit, is_over, is_start, exclusively, Attempt, after_event, granted_of, with_grant, older_holders, predecessors_at, Observation, add_commit, commits_after, heard, observe, is_committed, attempt_at_work}
use Rattle.law.specs.Law.{CommittedInOrder}
use Rattle.law.proofs.Hands.{no_bonds_no_conflict}
use Rattle.law.proofs.Invariants.{Invariant, works_not_idle, conflict_exclusive, holder_works, holder_in_range}
use Rattle.law.proofs.Consistency.{held_mode, Matches, Tells, at_work_told, older_told}
use Rattle.law.proofs.Endings.{GoesOn, Ends}

module _ {V C : Type 0} where
  -- station j has the attempt with number p, is at work, is older than station i, and holds exclusively a record that i holds
  pub record Ahead (t : Stations V) (o : Observation V C) (i p j : ℕ) : Type 0 where
    pub at_work_ahead : works (t j).phase ≡ true
    pub numbered : (o.attempts j).number ≡ p
    pub older_ahead : (t j).stamp < (t i).stamp
    pub common : ℕ
    pub hold_ahead : (h : Hold V) × (hold_on common (t j).hand ≡ Some h) × (hold_mode h ≡ Exclusive)
    pub hold_behind : (k : Hold V) × (hold_on common (t i).hand ≡ Some k)

  -- a predecessor p of the attempt of station i: it is committed, or some station is ahead with it
  abbrev pub Precedes : Stations V → Observation V C → ℕ → ℕ → Type 0
  Precedes t o i p = (is_committed p o.committed ≡ true) ⊎ ((j : ℕ) × Ahead t o i p j)

  -- all predecessors are so, and those of committed attempts were committed before them
  pub record InOrder (t : Stations V) (o : Observation V C) : Type 0 where
    pub committed_in_order : CommittedInOrder o.committed
    pub precede : (i : ℕ) → works (t i).phase ≡ true → All (Precedes t o i) (o.attempts i).predecessors

  -- who is committed stays so
  still_committed : (p : ℕ) (ev : Event V C) (k : Option ℕ) (attempts : ℕ → Attempt V C) (committed : List (Attempt V C))
      → is_committed p committed ≡ true → is_committed p (commits_after ev k attempts committed) ≡ true
  still_committed p ev k attempts committed e = grind arith

  -- who commits is committed
  commit_committed : (c : Call C) (a : Answer V) (j : ℕ) (attempts : ℕ → Attempt V C) (committed : List (Attempt V C))
      → is_commit (event c a j) ≡ true
      → is_committed (attempts j).number (commits_after (told c a) (caller c) attempts committed) ≡ true
  commit_committed c a j attempts committed e = grind (arith, nat_tests)

  -- a grant leaves the number and the predecessors
  grant_same_number : (p : Option (ℕ × Mode)) (a : Attempt V C)
      → ((with_grant p a).number ≡ a.number) × ((with_grant p a).predecessors ≡ a.predecessors)
  grant_same_number p a = grind arith

  -- so does an event that neither starts an attempt nor is its end
  event_same_number : (n : ℕ) (ev : Event V C) (a : Attempt V C) → is_start ev ≡ false → is_over ev ≡ false
      → ((after_event n ev a).number ≡ a.number) × ((after_event n ev a).predecessors ≡ a.predecessors)
  event_same_number n ev a e f = grind arith

  -- an attempt that starts has no predecessors yet
  start_no_predecessors : (n : ℕ) (ev : Event V C) (a : Attempt V C) → is_start ev ≡ true → (after_event n ev a).predecessors ≡ []
  start_no_predecessors n ev a e = grind arith

  -- what is granted is held
  granted_held : (p : Option (ℕ × Mode)) (r : ℕ) (m : Mode) (a : Attempt V C) → p ≡ Some (r, m) → (with_grant p a).held r ≡ Some m
  granted_held p r m a e = grind (arith, nat_tests)

-- a record that is held by what was observed is held in the table, in that mode
observed_hold : {V : Type 0} (x : Option (Hold V)) (m : Mode) → Some m ≡ held_mode x
    → (h : Hold V) × (x ≡ Some h) × (hold_mode h ≡ m)
observed_hold x m e = grind arith

-- one who holds exclusively holds in that mode
exclusive_mode : (o : Option Mode) → exclusively o ≡ true → Some Exclusive ≡ o
exclusive_mode o e = grind arith

-- with no bonds nobody is ahead
free_nobody_ahead : {V C : Type 0} {t : Stations V} {next records : ℕ} → Invariant t next records
    → (o : Observation V C) (i p j : ℕ) → bonds t i ≡ 0 → Ahead t o i p j → ⊥
free_nobody_ahead {V} {t = t} v o i p j free x = both_ways (conflict (hold_mode k) Exclusive) (rw (h.1, h.2) at clash)
    (conflict_exclusive (hold_mode k))
  where
    h : (h : Hold V) × (hold_on x.common (t j).hand ≡ Some h) × (hold_mode h ≡ Exclusive)
    h = x.hold_ahead

    k : Hold V
    k = x.hold_behind.0

    clash : conflicts (hold_mode k) (hold_on x.common (t j).hand) ≡ false
    clash = no_bonds_no_conflict t i free x.common k x.hold_behind.1 j (holder_in_range v j x.common h.0 h.1)
        x.older_ahead

-- One call.
module _ {V C : Type 0} (apply : V → C → V) (t t' : Table V) (o : Observation V C) (c : Call C) (a : Answer V) (w w' : View V C)
    (e : w c ≡ a) (tells' : Tells w' t')
    (v : Invariant t.stations t.next_stamp t.records) (v' : Invariant t'.stations t'.next_stamp t'.records)
    (endings : Ends t.stations t'.stations c a)
    (matches : (i : ℕ) → Matches apply t'.stations t'.show i (heard w c w' o i)) (order : InOrder t.stations o) where
  -- what is observed after it
  abbrev after_it : Observation V C
  after_it = observe w c w' o

  -- the record granted to station i, if there is one
  abbrev grant_of : ℕ → Option (ℕ × Mode)
  grant_of i = granted_of (state w i) (state w' i) (event c (w c) i) (o.attempts i)

  -- who is at work is heard of as going on
  heard_at_work : (i : ℕ) → works (t'.stations i).phase ≡ true
      → heard w c w' o i ≡ with_grant (grant_of i) (after_event (suc o.started) (event c (w c) i) (o.attempts i))
  heard_at_work i b = rw (at_work_told tells' v' i ∙ b)

  -- who is at work is not over
  not_over : (i : ℕ) → works (t'.stations i).phase ≡ true → is_over (event c a i) ≡ false
  not_over i b = false_from_ne_true (is_over (event c a i)) (λ q. cc (endings.over i q))

  -- who goes on has the number of before
  same_number : (i : ℕ) → works (t'.stations i).phase ≡ true → is_start (event c a i) ≡ false
      → (after_it.attempts i).number ≡ (o.attempts i).number
  unfolding observe
  same_number i b s =
      ap (λ (x : Attempt V C). x.number) (heard_at_work i b)
      ∙ ((grant_same_number (grant_of i) (after_event (suc o.started) (event c (w c) i) (o.attempts i))).0 ∙ (event_same_number
      (suc o.started) (event c (w c) i) (o.attempts i) (rw e s) (rw e (not_over i b))).0)

  -- who holds at the call's grants a record exclusively, and is older than i, which holds it, is ahead of i
  holder_ahead : (i r j : ℕ) (k : Hold V) → works (t'.stations i).phase ≡ true → hold_on r (t'.stations i).hand ≡ Some k
      → older_than w' j i ≡ true → exclusively ((heard w c w' o j).held r) ≡ true
      → Ahead t'.stations after_it i (heard w c w' o j).number j
  unfolding observe
  holder_ahead i r j k b f old x =
      record {
        at_work_ahead = busy;
        numbered = refl;
        older_ahead = ltb-true (t'.stations j).stamp (t'.stations i).stamp
            (sym (older_told tells' v' j i busy b) ∙ old);
        common = r;
        hold_ahead = h;
        hold_behind = (k, f);
      }
    where
      h : (h : Hold V) × (hold_on r (t'.stations j).hand ≡ Some h) × (hold_mode h ≡ Exclusive)
      h = observed_hold (hold_on r (t'.stations j).hand) Exclusive
          (exclusive_mode ((heard w c w' o j).held r) x ∙ (matches j).holds_observed r)

      busy : works (t'.stations j).phase ≡ true
      busy = holder_works v' j r h.0 h.1

  -- those that hold the record at its grant precede
  holders_precede : (i r : ℕ) (k : Hold V) → works (t'.stations i).phase ≡ true → hold_on r (t'.stations i).hand ≡ Some k
      → (n : ℕ) → All (Precedes t'.stations after_it i) (older_holders w' (heard w c w' o) i r n)
  holders_precede i r k b f zero = All-nil (Precedes t'.stations after_it i)
  holders_precede i r k b f (suc n) =
      let more = older_holders w' (heard w c w' o) i r n in
      let there = holders_precede i r k b f n in
      cond_both (older_than w' n i && exclusively ((heard w c w' o n).held r)) ((heard w c w' o n).number ∷ more) more
      (All (Precedes t'.stations after_it i))
      (λ q. let p = and_parts (older_than w' n i) (exclusively ((heard w c w' o n).held r)) q in
      All-cons (Precedes t'.stations after_it i) (heard w c w' o n).number more (inr (n, holder_ahead i r n k b f p.0 p.1)) there)
      (λ _. there)

  -- the predecessors that a call adds precede
  added_precede : (i : ℕ) → works (t'.stations i).phase ≡ true
      → All (Precedes t'.stations after_it i) (predecessors_at w' (heard w c w' o) i (grant_of i))
  added_precede i b = go (grant_of i) refl
    where
      go : (p : Option (ℕ × Mode)) → grant_of i ≡ p
          → All (Precedes t'.stations after_it i) (predecessors_at w' (heard w c w' o) i p)
      go None q = All-nil (Precedes t'.stations after_it i)
      go (Some (r, m)) q =
          let held : (heard w c w' o i).held r ≡ Some m = ap (λ (x : Attempt V C). x.held r) (heard_at_work i b) ∙ granted_held
          (grant_of i) r m (after_event (suc o.started) (event c (w c) i) (o.attempts i)) q in
          let k = observed_hold (hold_on r (t'.stations i).hand) m (sym held ∙ (matches i).holds_observed r) in
          holders_precede i r k.0 b k.1 16

  -- a predecessor of one that goes on precedes still
  still_precedes : (i p : ℕ) → works (t'.stations i).phase ≡ true → GoesOn (t.stations i) (t'.stations i)
      → Precedes t.stations o i p → Precedes t'.stations after_it i p
  unfolding observe
  still_precedes i p b on (inl q) = inl (still_committed p (told c (w c)) (caller c) o.attempts o.committed q)
  still_precedes i p b on (inr (j, x)) = go (works (t'.stations j).phase) refl
    where
      behind : (k : Hold V) × (hold_on x.common (t.stations i).hand ≡ Some k)
      behind = x.hold_behind

      ahead : (h : Hold V) × (hold_on x.common (t.stations j).hand ≡ Some h) × (hold_mode h ≡ Exclusive)
      ahead = x.hold_ahead

      goes : works (t'.stations j).phase ≡ true → is_start (event c a j) ≡ false → Ahead t'.stations after_it i p j
      goes bj s =
          let oj = endings.goes_on j bj s in
          let h' = oj.keeps_holds x.common ahead.0 ahead.1 in
          let k' = on.keeps_holds x.common behind.0 behind.1 in
          record {
            at_work_ahead = bj;
            numbered = same_number j bj s ∙ x.numbered;
            older_ahead = rw (oj.same_stamp, on.same_stamp) x.older_ahead;
            common = x.common;
            hold_ahead = (h'.0, h'.1, h'.2 ∙ ahead.2);
            hold_behind = (k'.0, k'.1);
          }

      started : is_start (event c a j) ≡ false
      started = false_from_ne_true (is_start (event c a j)) (λ q. cc (x.at_work_ahead, endings.starts_from_rest j q))

      ended : (is_commit (event c a j) ≡ true) ⊎ (endings.out j ≡ true) → Precedes t'.stations after_it i p
      ended (inl q) = inl (rw (e, ← x.numbered) (commit_committed c a j o.attempts o.committed q))
      ended (inr q) = cc (endings.ended i
          (endings.closed i j x.common ahead.0 behind.0 q ahead.1 ahead.2 behind.1 x.older_ahead))

      go : (y : Bool) → works (t'.stations j).phase ≡ y → Precedes t'.stations after_it i p
      go true q = inr (j, goes q started)
      go false q = ended (endings.only j x.at_work_ahead q)

  -- the predecessors of an attempt at work precede
  precede_after : (i : ℕ) → works (t'.stations i).phase ≡ true
      → All (Precedes t'.stations after_it i) (after_it.attempts i).predecessors
  unfolding observe
  precede_after i b =
      All-append (Precedes t'.stations after_it i) (predecessors_at w' (heard w c w' o) i (grant_of i))
      (heard w c w' o i).predecessors (added_precede i b) (old (is_start (event c a i)) refl)
    where
      same : (heard w c w' o i).predecessors ≡ (after_event (suc o.started) (event c (w c) i) (o.attempts i)).predecessors
      same = ap (λ (x : Attempt V C). x.predecessors) (heard_at_work i b) ∙ (grant_same_number (grant_of i)
          (after_event (suc o.started) (event c (w c) i) (o.attempts i))).1

      old : (y : Bool) → is_start (event c a i) ≡ y
          → All (Precedes t'.stations after_it i) (heard w c w' o i).predecessors
      old true q = rw (same ∙ start_no_predecessors (suc o.started) (event c (w c) i) (o.attempts i) (rw e q))
          (All-nil (Precedes t'.stations after_it i))
      old false q =
          let on = endings.goes_on i b q in
          rw (same ∙ (event_same_number (suc o.started) (event c (w c) i) (o.attempts i) (rw e q) (rw e (not_over i b))).1)
          (All-weaker (Precedes t.stations o i) (Precedes t'.stations after_it i) (λ p. still_precedes i p b on) (o.attempts i).predecessors (order.precede i on.was_at_work))

  -- who commits has only committed predecessors
  commits_in_order : CommittedInOrder (commits_after (told c a) (caller c) o.attempts o.committed)
  commits_in_order = go (is_commit (told c a)) refl (caller c) refl
    where
      go : (y : Bool) → is_commit (told c a) ≡ y → (k : Option ℕ) → caller c ≡ k
          → CommittedInOrder (cond y (add_commit k o.attempts o.committed) o.committed)
      go false q k n = order.committed_in_order
      go true q None n = order.committed_in_order
      go true q (Some k) n = (
        order.committed_in_order,
        recursion_from_All (λ p. is_committed p o.committed ≡ true) (o.attempts k).predecessors (All-weaker (Precedes t.stations o k)
            (λ p. is_committed p o.committed ≡ true) by (o.attempts k).predecessors (order.precede k free.0)),
      )
        where
          free : (works (t.stations k).phase ≡ true) × (bonds t.stations k ≡ 0)
          free = endings.free k (rw (n, eqb_refl k) q)

          by : (p : ℕ) → Precedes t.stations o k p → is_committed p o.committed ≡ true
          by p (inl x) = x
          by p (inr (j, x)) = absurd (free_nobody_ahead v o k p j free.1 x)

  -- all is in order after the call
  pub in_order_after : InOrder t'.stations (observe w c w' o)
  unfolding observe
  in_order_after = record { committed_in_order = rw e commits_in_order; precede = precede_after }

-- what is in order is ordered, as the law has it
pub ordered_from : {V C : Type 0} {w : View V C} {t : Table V} → Tells w t → Invariant t.stations t.next_stamp t.records
    → (o : Observation V C) → InOrder t.stations o → (i : ℕ) → at_work w i ≡ true
    → AllByRecursion (λ p. (attempt_at_work w o.attempts p || is_committed p o.committed) ≡ true) (o.attempts i).predecessors
ordered_from {V} {C} {w} {t} tells v o order i b =
    recursion_from_All (λ p. (attempt_at_work w o.attempts p || is_committed p o.committed) ≡ true) (o.attempts i).predecessors
    (All-weaker (Precedes t.stations o i) (λ p. (attempt_at_work w o.attempts p || is_committed p o.committed) ≡ true) by
    (o.attempts i).predecessors (order.precede i (sym (at_work_told tells v i) ∙ b)))
  where
    by : (p : ℕ) → Precedes t.stations o i p → (attempt_at_work w o.attempts p || is_committed p o.committed) ≡ true
    by p (inl x) = or_right (attempt_at_work w o.attempts p) (is_committed p o.committed) x
    by p (inr (j, x)) =
        or_left (attempt_at_work w o.attempts p) (is_committed p o.committed)
        (any_below_from 16 (λ j. at_work w j && eqb (o.attempts j).number p) j
        (v.in_range j (works_not_idle (t.stations j).phase x.at_work_ahead))
        (and_from (at_work w j) (eqb (o.attempts j).number p) (at_work_told tells v j ∙ x.at_work_ahead)
        (eq-eqb (o.attempts j).number p x.numbered)))
