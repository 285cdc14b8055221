-- What each change of the stations is in the view, for every kind of draft.
use Rattle.std.proofs.Common.{◌≡◌, ℕ, zero, suc, ◌<◌, ◌≤◌, Bool, true, false, cond, not, ◌&&◌, eqb, ltb, List, [], ◌∷◌, ◌++◌, length, get_or, set, replicate, Some, sym, refl, ap, ◌∙◌, ⊎_elim, add-one, arith, length-set, get_or-set_other, get_or-set_same}
use mathlib.Core.Path.{fun_ext}
use Rattle.std.proofs.lemmas.Bool.{cases_eq, cases_lt, eq-eqb, ne_eqb, eqb-true, cond-true, cond-false, lt-ltb, le-ltb, ltb-true, and_parts, and_from, and_right, or_cases, false≢true}
use Rattle.std.proofs.lemmas.List.{get_or_past, get_or-replicate, get_or_append_left, get_or_push, length_push}
use Rattle.rules.specs.declared.Mode.{Mode}
use Rattle.rules.specs.declared.Mode.TheVariants.{Shared, Exclusive}
use Rattle.rules.specs.declared.Stage.TheVariants.{Owned}
use Rattle.rules.specs.Tables as rules
use Rattle.rules.specs.Tables.{put, idle_station, running_station, wounded_station, waiting_station, with_hand}
use Rattle.rules.specs.Searches.{any_below, first_below}
use Rattle.rules.proofs.Searches.{any_below_witness, first_below_passes, until_keeps}
use Rattle.rules.specs.Operations as rules_of
use Rattle.rules.specs.Operations.{before, draft_for, granted_station, grant, wound, adjust, retired, redrafted, changed_draft, exclusive_in_common, must_yield, joins, with_member, widen}
use Rattle.locks.specs.declared.station.Hold.{Hold}
use Rattle.locks.specs.declared.station.Phase.{Phase}
use Rattle.locks.specs.declared.station.Phase.TheVariants.{Idle, Running, Waiting, Wounded}
use Rattle.locks.specs.declared.station.Station.{Station}
use Rattle.locks.specs.Hand.{no_hold}
use Rattle.locks.specs.View.{no_station, phase_of, stamp_of, active, hold_with, hand_with, station_with, stations_with, hand_at, place_on, awaited_in, awaited_at}
use Rattle.locks.specs.Changes.{in_phase, freed, started, wounded, wounded_phase, awaiting, waiting_in, granted, granted_in, again, again_in, retired_hold, retired_at, change, wounded_below}
use Rattle.locks.proofs.Kept.{active_below}

-- Hands.

-- what is appended does not matter to the holds before it
pub hand_before : {V : Type 0} (drafts : ℕ → V) (hand more : List Hold) (n : ℕ) → n ≤ length hand → hand_with drafts (hand ++ more) n ≡ hand_with drafts hand n
hand_before drafts hand more zero l = refl
hand_before drafts hand more (suc n) l =
    ap (λ x. hold_with (drafts n) x ∷ hand_with drafts (hand ++ more) n) (get_or_append_left hand more no_hold n (omega arith))
    ∙ ap (λ hs. hold_with (drafts n) (get_or hand n no_hold) ∷ hs) (hand_before drafts hand more n (omega arith))

-- one hold more, the newest
pub hand_grown : {V : Type 0} (drafts : ℕ → V) (hand : List Hold) (h : Hold)
    → hand_with drafts (hand ++ h ∷ []) (length (hand ++ h ∷ [])) ≡ hold_with (drafts (length hand)) h ∷ hand_with drafts hand (length hand)
hand_grown drafts hand h =
    ap (hand_with drafts (hand ++ h ∷ [])) (length_push hand h ∙ add-one (length hand))
    ∙ ap (λ x. hold_with (drafts (length hand)) x ∷ hand_with drafts (hand ++ h ∷ []) (length hand)) (get_or_push hand h no_hold (length hand) refl)
    ∙ ap (λ hs. hold_with (drafts (length hand)) h ∷ hs) (hand_before drafts hand (h ∷ []) (length hand) (omega arith))

-- drafts that agree on the first n places make the same hand
pub hand_same : {V : Type 0} (these those : ℕ → V) (hand : List Hold) (n : ℕ) → ((k : ℕ) → k < n → these k ≡ those k) → hand_with these hand n ≡ hand_with those hand n
hand_same these those hand zero agree = refl
hand_same these those hand (suc n) agree =
    ap (λ v. hold_with v (get_or hand n no_hold) ∷ hand_with these hand n) (agree n (omega arith))
    ∙ ap (λ hs. hold_with (those n) (get_or hand n no_hold) ∷ hs) (hand_same these those hand n (λ k l. agree k (omega arith)))

-- a place found is one of the first n
pub place_within : (r : ℕ) (hand : List Hold) (n k : ℕ) → place_on r hand n ≡ Some k → k < n
place_within r hand zero k e = absurd (let z : ◌≡◌ {A = ℕ} 0 1 = cc in omega arith)
place_within r hand (suc n) k e = go (eqb (get_or hand n no_hold).at r) e (place_within r hand n k)
  where
    go : (b : Bool) → cond b (Some n) (place_on r hand n) ≡ Some k → (place_on r hand n ≡ Some k → k < n) → k < suc n
    go true e ih = let same : n ≡ k = cc in omega arith
    go false e ih = let l = ih e in omega (arith, l)

-- the hold on record r changed is the entry and the draft at its place changed
pub adjusted : {V : Type 0} (f : rules.Hold V → rules.Hold V) (these those : ℕ → V) (r : ℕ) (hand other : List Hold) (n k : ℕ) → place_on r hand n ≡ Some k
    → hold_with (those k) (get_or other k no_hold) ≡ f (hold_with (these k) (get_or hand k no_hold))
    → ((j : ℕ) → (j ≡ k → ⊥) → (get_or other j no_hold ≡ get_or hand j no_hold) × (those j ≡ these j))
    → hand_with those other n ≡ adjust r f (hand_with these hand n)
adjusted f these those r hand other zero k e here there = absurd (let z : ◌≡◌ {A = ℕ} 0 1 = cc in omega arith)
adjusted {V} f these those r hand other (suc n) k e here there = go (eqb (get_or hand n no_hold).at r) refl e (λ p. adjusted f these those r hand other n k p here there)
  where
    below : (m : ℕ) → m ≤ k → hand_with those other m ≡ hand_with these hand m
    below zero l = refl
    below (suc m) l =
        let same = there m (λ q. absurd (let no : ⊥ = omega arith in no)) in
        ap (λ x. hold_with (those m) x ∷ hand_with those other m) same.0
        ∙ ap (λ v. hold_with v (get_or hand m no_hold) ∷ hand_with those other m) same.1
        ∙ ap (λ hs. hold_with (these m) (get_or hand m no_hold) ∷ hs) (below m (omega arith))

    go : (b : Bool) → eqb (get_or hand n no_hold).at r ≡ b → cond b (Some n) (place_on r hand n) ≡ Some k
        → (place_on r hand n ≡ Some k → hand_with those other n ≡ adjust r f (hand_with these hand n))
        → hand_with those other (suc n)
        ≡ cond b (f (hold_with (these n) (get_or hand n no_hold)) ∷ hand_with these hand n) (hold_with (these n) (get_or hand n no_hold) ∷ adjust r f (hand_with these hand n))
    go true t e ih =
        let same : n ≡ k = cc in
        ap (λ j. hold_with (those j) (get_or other j no_hold) ∷ hand_with those other n) same
        ∙ ap (λ x. x ∷ hand_with those other n) here
        ∙ ap (λ j. f (hold_with (these j) (get_or hand j no_hold)) ∷ hand_with those other n) (sym same)
        ∙ ap (λ hs. f (hold_with (these n) (get_or hand n no_hold)) ∷ hs) (below n (omega arith))
    go false t e ih =
        let l : k < n = place_within r hand n k e in
        let same = there n (λ q. absurd (let no : ⊥ = omega arith in no)) in
        ap (λ x. hold_with (those n) x ∷ hand_with those other n) same.0
        ∙ ap (λ v. hold_with v (get_or hand n no_hold) ∷ hand_with those other n) same.1
        ∙ ap (λ hs. hold_with (these n) (get_or hand n no_hold) ∷ hs) (ih e)

-- Stations.

-- equal answers have equal values
some_same : {A : Type 0} {x y : A} → Some x ≡ Some y → x ≡ y
some_same e = cc

module _ {V : Type 0} (drafts : ℕ → ℕ → V) (xs : List Station) where
  -- a station put into the list is put into the view
  pub put_view : (i : ℕ) (y : Station) → i < length xs → stations_with drafts (set xs i y) ≡ put (stations_with drafts xs) i (station_with (drafts i) y)
  put_view i y h = fun_ext (λ j. ⊎_elim
      (λ (e : j ≡ i). ap (λ n. station_with (drafts n) (get_or (set xs i y) n no_station)) e ∙ ap (station_with (drafts i)) (get_or-set_same xs i y no_station h) ∙ sym (cond-true (eqb j i) (station_with (drafts i) y) (stations_with drafts xs j) (eq-eqb j i e)))
      (λ (ne : j ≡ i → ⊥). ap (station_with (drafts j)) (get_or-set_other xs i j y no_station ne) ∙ sym (cond-false (eqb j i) (station_with (drafts i) y) (stations_with drafts xs j) (ne_eqb j i ne)))
      (cases_eq j i))

  -- a freed station is idle
  pub freed_view : (i : ℕ) → i < length xs → stations_with drafts (change freed i xs) ≡ put (stations_with drafts xs) i idle_station
  freed_view i h = put_view i (freed (get_or xs i no_station)) h

  -- a started station runs with an empty hand
  pub started_view : (stamp i : ℕ) → i < length xs → stations_with drafts (change (started stamp) i xs) ≡ put (stations_with drafts xs) i (running_station stamp [])
  started_view stamp i h = put_view i (started stamp (get_or xs i no_station)) h

  -- a wounded station that starts again runs under its stamp
  pub again_view : (i : ℕ) → i < length xs → rules.is_wounded (stations_with drafts xs i).phase ≡ true
      → stations_with drafts (change again i xs) ≡ put (stations_with drafts xs) i (running_station (stations_with drafts xs i).stamp [])
  again_view i h w = put_view i (again (get_or xs i no_station)) h ∙ ap (put (stations_with drafts xs) i) (go (get_or xs i no_station).phase w)
    where
      go : (p : Phase) → rules.is_wounded (phase_of p) ≡ true → station_with (drafts i) (again_in p (get_or xs i no_station)) ≡ running_station (stamp_of p) []
      go Idle w = absurd (false≢true w)
      go (Running s) w = absurd (false≢true w)
      go (Waiting s r m) w = absurd (false≢true w)
      go (Wounded s) w = refl

  -- a running station with room in its hand waits
  pub awaiting_view : (i r : ℕ) (m : Mode) → i < length xs → (stations_with drafts xs i).phase ≡ rules.running → length (hand_at xs i) < 16
      → stations_with drafts (change (awaiting r m) i xs) ≡ put (stations_with drafts xs) i (waiting_station (stations_with drafts xs i) r m)
  awaiting_view i r m h p l = put_view i (awaiting r m (get_or xs i no_station)) h ∙ ap (put (stations_with drafts xs) i) (go (get_or xs i no_station).phase p)
    where
      s : Station
      s = get_or xs i no_station

      go : (q : Phase) → phase_of q ≡ rules.running
          → station_with (drafts i) (waiting_in q r m s) ≡ record { phase = rules.waiting r m; stamp = stamp_of q; hand = hand_with (drafts i) s.hand.items (length s.hand.items) }
      go Idle e = absurd (let z : ◌≡◌ {A = ℕ} 0 1 = cc in omega arith)
      go (Waiting t q n) e = absurd (let z : ◌≡◌ {A = ℕ} 0 1 = cc in omega arith)
      go (Wounded t) e = absurd (let z : ◌≡◌ {A = ℕ} 0 1 = cc in omega arith)
      go (Running t) e = ap (station_with (drafts i)) (cond-true (ltb (length s.hand.items) 16) (in_phase (Waiting t r m) s.hand.items) s (lt-ltb (length s.hand.items) 16 l))

  -- a granted station runs, with the draft that stands at the place kept for the hold
  pub granted_view : (i r : ℕ) (m : Mode) → i < length xs → Some (r, m) ≡ awaited_at xs i
      → stations_with drafts (change granted i xs)
      ≡ put (stations_with drafts xs) i (granted_station (stations_with drafts xs i) r m (drafts i (length (hand_at xs i))))
  granted_view i r m h w = put_view i (granted s) h ∙ ap (put (stations_with drafts xs) i) (go s.phase w)
    where
      s : Station
      s = get_or xs i no_station

      hold : Hold
      hold = record { at = r; mode = m; stage = Owned }

      go : (p : Phase) → Some (r, m) ≡ awaited_in p
          → station_with (drafts i) (granted_in p s) ≡ running_station (stamp_of p) (hold_with (drafts i (length s.hand.items)) hold ∷ hand_with (drafts i) s.hand.items (length s.hand.items))
      go Idle e = absurd (let z : ◌≡◌ {A = ℕ} 0 1 = cc in omega arith)
      go (Running t) e = absurd (let z : ◌≡◌ {A = ℕ} 0 1 = cc in omega arith)
      go (Wounded t) e = absurd (let z : ◌≡◌ {A = ℕ} 0 1 = cc in omega arith)
      go (Waiting t q n) e =
          let rq : q ≡ r = ap (λ (p : ℕ × Mode). p.0) (sym (some_same e)) in
          let mn : n ≡ m = ap (λ (p : ℕ × Mode). p.1) (sym (some_same e)) in
          ap (λ x. station_with (drafts i) (granted_in (Waiting t x n) s)) rq ∙ ap (λ x. station_with (drafts i) (granted_in (Waiting t r x) s)) mn
          ∙ ap (running_station t) (hand_grown (drafts i) s.hand.items hold)

  -- the hold at its place retired is the hold on its record retired
  pub retired_view : (i r k : ℕ) → i < length xs → place_on r (hand_at xs i) (length (hand_at xs i)) ≡ Some k
      → stations_with drafts (change (retired_at k) i xs)
      ≡ put (stations_with drafts xs) i (with_hand (stations_with drafts xs i) (adjust r retired (stations_with drafts xs i).hand))
  retired_view i r k h p = put_view i (retired_at k (get_or xs i no_station)) h
      ∙ ap (λ hs. put (stations_with drafts xs) i (with_hand (stations_with drafts xs i) hs))
      (ap (hand_with (drafts i) (set hand k x)) (length-set hand k x)
      ∙ adjusted retired (drafts i) (drafts i) r hand (set hand k x) (length hand) k p
      (ap (hold_with (drafts i k)) (get_or-set_same hand k x no_hold (place_within r hand (length hand) k p))) (λ j ne. (get_or-set_other hand k j x no_hold ne, refl)))
    where
      hand : List Hold
      hand = hand_at xs i

      x : Hold
      x = retired_hold (get_or hand k no_hold)

  -- a new table is idle everywhere
  pub new_view : (i : ℕ) → stations_with drafts (replicate 16 no_station) i ≡ idle_station
  new_view i = ap (station_with (drafts i)) (⊎_elim
      (λ (h : i < 16). get_or-replicate 16 i no_station no_station h)
      (λ (h : 16 ≤ i). get_or_past (replicate 16 no_station) i no_station h)
      (cases_lt i 16))

-- the view does not see drafts past the holds
pub drafts_beyond : {V : Type 0} (these those : ℕ → ℕ → V) (xs : List Station) → ((i k : ℕ) → k < length (hand_at xs i) → these i k ≡ those i k)
    → stations_with these xs ≡ stations_with those xs
drafts_beyond these those xs agree = fun_ext (λ i.
    ap (λ hs. record { phase = phase_of (get_or xs i no_station).phase; stamp = stamp_of (get_or xs i no_station).phase; hand = hs })
    (hand_same (these i) (those i) (hand_at xs i) (length (hand_at xs i)) (agree i)))

-- a draft changed at the place of a hold is the hold on its record redrafted
pub redrafted_view : {V : Type 0} (f : V → V) (these those : ℕ → ℕ → V) (xs : List Station) (i r k : ℕ)
    → place_on r (hand_at xs i) (length (hand_at xs i)) ≡ Some k → those i k ≡ f (these i k)
    → ((j n : ℕ) → (j ≡ i → n ≡ k → ⊥) → those j n ≡ these j n)
    → stations_with those xs ≡ put (stations_with these xs) i (with_hand (stations_with these xs i) (adjust r (redrafted f) (stations_with these xs i).hand))
redrafted_view {V} f these those xs i r k p here there = fun_ext (λ j. ⊎_elim (at_i j) (elsewhere j) (cases_eq j i))
  where
    s : Station
    s = get_or xs i no_station

    -- the station with its hold redrafted
    after : rules.Station V
    after = with_hand (stations_with these xs i) (adjust r (redrafted f) (stations_with these xs i).hand)

    redrafts : (m : Mode) → draft_for m (f (these i k)) ≡ changed_draft f (draft_for m (these i k))
    redrafts Shared = refl
    redrafts Exclusive = refl

    there_i : (n : ℕ) → (n ≡ k → ⊥) → (get_or s.hand.items n no_hold ≡ get_or s.hand.items n no_hold) × (those i n ≡ these i n)
    there_i n ne = (refl, there i n (λ _ e. ne e))

    at_i : (j : ℕ) → j ≡ i → stations_with those xs j ≡ put (stations_with these xs) i after j
    at_i j e =
        ap (stations_with those xs) e
        ∙ ap (λ hs. record { phase = phase_of s.phase; stamp = stamp_of s.phase; hand = hs })
        (adjusted (redrafted f) (these i) (those i) r s.hand.items s.hand.items (length s.hand.items) k p
        (ap (λ v. hold_with v (get_or s.hand.items k no_hold)) here
        ∙ ap (λ d. record { record_number = (get_or s.hand.items k no_hold).at; draft = d; stage = (get_or s.hand.items k no_hold).stage }) (redrafts (get_or s.hand.items k no_hold).mode))
        there_i)
        ∙ sym (cond-true (eqb j i) after (stations_with these xs j) (eq-eqb j i e))

    elsewhere : (j : ℕ) → (j ≡ i → ⊥) → stations_with those xs j ≡ put (stations_with these xs) i after j
    elsewhere j ne =
        ap (λ hs. record { phase = phase_of (get_or xs j no_station).phase; stamp = stamp_of (get_or xs j no_station).phase; hand = hs })
        (hand_same (those j) (these j) (hand_at xs j) (length (hand_at xs j)) (λ n _. there j n (λ e _. ne e)))
        ∙ sym (cond-false (eqb j i) after (stations_with these xs j) (ne_eqb j i ne))

-- a station granted with what stands before it is granted by the rules
pub granted_by_rules : {V : Type 0} (drafts : ℕ → ℕ → V) (xs : List Station) (show : ℕ → V) (i r : ℕ) (m : Mode) → i < length xs → Some (r, m) ≡ awaited_at xs i
    → draft_for m (drafts i (length (hand_at xs i))) ≡ draft_for m (before (stations_with drafts xs) show i r)
    → stations_with drafts (change granted i xs) ≡ grant show i (stations_with drafts xs)
unfolding grant
granted_by_rules {V} drafts xs show i r m h w e =
    granted_view drafts xs i r m h w
    ∙ ap (λ d. put t i (running_station (t i).stamp (record { record_number = r; draft = d; stage = Owned } ∷ (t i).hand))) e
    ∙ ap (put t i) (go (get_or xs i no_station).phase w)
  where
    t : rules.Stations V
    t = stations_with drafts xs

    go : (p : Phase) → Some (r, m) ≡ awaited_in p → granted_station (t i) r m (before t show i r) ≡ rules_of.granted_in (before t show i) (t i) (phase_of p)
    go Idle e = absurd (let z : ◌≡◌ {A = ℕ} 0 1 = cc in omega arith)
    go (Running s) e = absurd (let z : ◌≡◌ {A = ℕ} 0 1 = cc in omega arith)
    go (Wounded s) e = absurd (let z : ◌≡◌ {A = ℕ} 0 1 = cc in omega arith)
    go (Waiting s q n) e =
        ap (λ (p : ℕ × Mode). granted_station (t i) p.0 p.1 (before t show i p.0)) (some_same e)

-- Wounding.

-- wounding keeps the number of stations
pub wounded_length : (members : ℕ → Bool) (xs : List Station) (n : ℕ) → length (wounded_below n members xs) ≡ length xs
unfolding wounded_below
wounded_length members xs zero = refl
wounded_length members xs (suc n) = go (members n) (wounded_length members xs n)
  where
    go : (b : Bool) → length (wounded_below n members xs) ≡ length xs → length (cond b (change wounded n (wounded_below n members xs)) (wounded_below n members xs)) ≡ length xs
    go true e = length-set (wounded_below n members xs) n (wounded (get_or (wounded_below n members xs) n no_station)) ∙ e
    go false e = e

-- another number is below n + 1 where it is below n
other_below : (j n : ℕ) → (j ≡ n → ⊥) → ltb j n ≡ ltb j (suc n)
other_below j n ne = ⊎_elim (λ l. lt-ltb j n l ∙ sym (lt-ltb j (suc n) (omega arith))) (λ l. le-ltb j n l ∙ sym (le-ltb j (suc n) (omega arith))) (cases_lt j n)

-- each station after the members below n were wounded
wounded_at : (members : ℕ → Bool) (xs : List Station) (n j : ℕ) → n ≤ length xs
    → get_or (wounded_below n members xs) j no_station ≡ cond (ltb j n && members j) (wounded (get_or xs j no_station)) (get_or xs j no_station)
unfolding wounded_below
wounded_at members xs zero j l = sym (cond-false (ltb j 0 && members j) (wounded (get_or xs j no_station)) (get_or xs j no_station) (ap (λ b. b && members j) (le-ltb j 0 (omega arith))))
wounded_at members xs (suc n) j l = ⊎_elim (here (members n) refl (wounded_at members xs n n (omega arith))) (other (members n) (wounded_at members xs n j (omega arith))) (cases_eq j n)
  where
    ys : List Station
    ys = wounded_below n members xs

    other : (b : Bool) → get_or ys j no_station ≡ cond (ltb j n && members j) (wounded (get_or xs j no_station)) (get_or xs j no_station) → (j ≡ n → ⊥)
        → get_or (cond b (change wounded n ys) ys) j no_station ≡ cond (ltb j (suc n) && members j) (wounded (get_or xs j no_station)) (get_or xs j no_station)
    other b ih ne = kept b ∙ ih ∙ ap (λ t. cond (t && members j) (wounded (get_or xs j no_station)) (get_or xs j no_station)) (other_below j n ne)
      where
        kept : (b : Bool) → get_or (cond b (change wounded n ys) ys) j no_station ≡ get_or ys j no_station
        kept true = get_or-set_other ys n j (wounded (get_or ys n no_station)) no_station ne
        kept false = refl

    here : (b : Bool) → members n ≡ b → get_or ys n no_station ≡ cond (ltb n n && members n) (wounded (get_or xs n no_station)) (get_or xs n no_station) → j ≡ n
        → get_or (cond b (change wounded n ys) ys) j no_station ≡ cond (ltb j (suc n) && members j) (wounded (get_or xs j no_station)) (get_or xs j no_station)
    here b e ih same =
        ap (λ k. get_or (cond b (change wounded n ys) ys) k no_station) same ∙ at_n b e
        ∙ ap (λ k. cond (ltb k (suc n) && members k) (wounded (get_or xs k no_station)) (get_or xs k no_station)) (sym same)
      where
        untouched : get_or ys n no_station ≡ get_or xs n no_station
        untouched = ih ∙ cond-false (ltb n n && members n) (wounded (get_or xs n no_station)) (get_or xs n no_station) (ap (λ t. t && members n) (le-ltb n n (omega arith)))

        at_n : (b : Bool) → members n ≡ b → get_or (cond b (change wounded n ys) ys) n no_station ≡ cond (ltb n (suc n) && members n) (wounded (get_or xs n no_station)) (get_or xs n no_station)
        at_n true e =
            get_or-set_same ys n (wounded (get_or ys n no_station)) no_station (let len = wounded_length members xs n in omega (arith, len)) ∙ ap wounded untouched
            ∙ sym (cond-true (ltb n (suc n) && members n) (wounded (get_or xs n no_station)) (get_or xs n no_station) (and_from _ _ (lt-ltb n (suc n) (omega arith)) e))
        at_n false e = untouched ∙ sym (cond-false (ltb n (suc n) && members n) (wounded (get_or xs n no_station)) (get_or xs n no_station) (and_right (ltb n (suc n)) (members n) e))

-- a station with an attempt, wounded
wounded_one : {V : Type 0} (drafts : ℕ → V) (s : Station) → active s ≡ true → station_with drafts (wounded s) ≡ wounded_station (station_with drafts s)
wounded_one {V} drafts s = go s.phase
  where
    go : (p : Phase) → not (rules.is_idle (phase_of p)) ≡ true
        → ◌≡◌ {A = rules.Station V} (record { phase = phase_of (wounded_phase p); stamp = stamp_of (wounded_phase p); hand = [] }) (record { phase = rules.wounded; stamp = stamp_of p; hand = [] })
    go Idle a = absurd (false≢true a)
    go (Running t) a = refl
    go (Waiting t r m) a = refl
    go (Wounded t) a = refl

-- wounding members that all have an attempt is the rules' wounding
pub wounded_view : {V : Type 0} (drafts : ℕ → ℕ → V) (xs : List Station) (members : ℕ → Bool) → length xs ≡ 16
    → ((i : ℕ) → members i ≡ true → active (get_or xs i no_station) ≡ true)
    → stations_with drafts (wounded_below 16 members xs) ≡ wound members (stations_with drafts xs)
unfolding wound
wounded_view {V} drafts xs members full acts = fun_ext (λ j. ap (station_with (drafts j)) (wounded_at members xs 16 j (omega arith)) ∙ go j (members j) refl)
  where
    go : (j : ℕ) (b : Bool) → members j ≡ b
        → station_with (drafts j) (cond (ltb j 16 && members j) (wounded (get_or xs j no_station)) (get_or xs j no_station)) ≡ cond b (wounded_station (stations_with drafts xs j)) (stations_with drafts xs j)
    go j true e =
        ap (station_with (drafts j)) (cond-true (ltb j 16 && members j) (wounded (get_or xs j no_station)) (get_or xs j no_station) (and_from _ _ (lt-ltb j 16 (active_below xs j full (acts j e))) e))
        ∙ wounded_one (drafts j) (get_or xs j no_station) (acts j e)
    go j false e = ap (station_with (drafts j)) (cond-false (ltb j 16 && members j) (wounded (get_or xs j no_station)) (get_or xs j no_station) (and_right (ltb j 16) (members j) e))

-- a station that is younger than another has an attempt
pub younger_active : {V : Type 0} (drafts : ℕ → ℕ → V) (xs : List Station) (j i : ℕ) → rules.older (stations_with drafts xs) j i ≡ true → active (get_or xs i no_station) ≡ true
younger_active drafts xs j i e = go (get_or xs i no_station).phase e
  where
    go : (p : Phase) → ltb (stations_with drafts xs j).stamp (stamp_of p) ≡ true → not (rules.is_idle (phase_of p)) ≡ true
    go Idle e = absurd (let no = ltb-true (stations_with drafts xs j).stamp 0 e in let bad : ⊥ = omega (arith, no) in bad)
    go (Running t) e = refl
    go (Waiting t r m) e = refl
    go (Wounded t) e = refl

-- who must yield has an attempt
pub must_yield_active : {V : Type 0} (drafts : ℕ → ℕ → V) (xs : List Station) (i r : ℕ) (m : Mode) (j : ℕ) → must_yield (stations_with drafts xs) i r m j ≡ true → active (get_or xs j no_station) ≡ true
must_yield_active drafts xs i r m j e = younger_active drafts xs i j (and_parts _ _ e).0

-- widening adds only stations that have an attempt
pub widened_active : {V : Type 0} (drafts : ℕ → ℕ → V) (xs : List Station) (members : ℕ → Bool) → ((i : ℕ) → members i ≡ true → active (get_or xs i no_station) ≡ true)
    → (i : ℕ) → widen (stations_with drafts xs) members i ≡ true → active (get_or xs i no_station) ≡ true
unfolding widen
widened_active {V} drafts xs members acts =
    until_keeps (λ ms. first_below 16 (joins (stations_with drafts xs) ms)) with_member Active step 16 members acts
  where
    -- every member has an attempt
    Active : (ℕ → Bool) → Type 0
    Active ms = (i : ℕ) → ms i ≡ true → active (get_or xs i no_station) ≡ true

    -- the test of an older member that pulls station k
    pulls_in : (ℕ → Bool) → ℕ → ℕ → Bool
    pulls_in ms k j = ms j && (rules.older (stations_with drafts xs) j k && exclusive_in_common (stations_with drafts xs j).hand (stations_with drafts xs k).hand)

    joined : (ms : ℕ → Bool) (k : ℕ) → first_below 16 (joins (stations_with drafts xs) ms) ≡ Some k → active (get_or xs k no_station) ≡ true
    joined ms k e =
        let passes = (first_below_passes 16 (joins (stations_with drafts xs) ms) k e).1 in
        let j = any_below_witness 16 (pulls_in ms k) (and_parts (not (ms k)) (any_below 16 (pulls_in ms k)) passes).1 in
        let both = and_parts (ms j.0) (rules.older (stations_with drafts xs) j.0 k && exclusive_in_common (stations_with drafts xs j.0).hand (stations_with drafts xs k).hand) j.2 in
        younger_active drafts xs j.0 k (and_parts (rules.older (stations_with drafts xs) j.0 k) (exclusive_in_common (stations_with drafts xs j.0).hand (stations_with drafts xs k).hand) both.1).0

    step : (ms : ℕ → Bool) (k : ℕ) → first_below 16 (joins (stations_with drafts xs) ms) ≡ Some k → Active ms → Active (with_member k ms)
    step ms k e all i m = ⊎_elim
        (λ same. ap (λ n. active (get_or xs n no_station)) (eqb-true i k same) ∙ joined ms k e)
        (λ old. all i old)
        (or_cases (eqb i k) (ms i) m)
