-- What every table keeps is kept by a change of one station.
use Rattle.std.proofs.Common.{◌≡◌, ℕ, zero, suc, ◌+◌, ◌<◌, ◌≤◌, Bool, true, false, cond, not, ltb, List, [], ◌∷◌, length, get_or, set, replicate, Some, sym, refl, ap, ◌∙◌, subst, ⊎_elim, zero-le, add-one, arith, length-set, length-append, get_or-set_other, get_or-set_same}
use Rattle.std.proofs.lemmas.Bool.{cases_eq, cases_lt, false≢true, cond_both, cond-true, cond-false, ltb-true}
use Rattle.std.proofs.lemmas.List.{get_or_past, get_or_default, get_or-replicate, same_lists}
use Rattle.rules.specs.Searches.{count_below}
use Rattle.rules.specs.declared.Mode.{Mode}
use Rattle.rules.specs.Tables.{is_idle}
use Rattle.rules.proofs.Searches.{count_one_fewer}
use Rattle.rules.specs.declared.Stage.TheVariants.{Owned}
use Rattle.locks.specs.declared.station.Phase.{Phase}
use Rattle.locks.specs.declared.station.Phase.TheVariants.{Idle, Running, Waiting, Wounded}
use Rattle.locks.specs.declared.station.Station.{Station}
use Rattle.locks.specs.Hand.{no_hold}
use Rattle.locks.specs.View.{no_station, phase_of, hand_at, claimed, HasRoom, attempts, active, awaited_in, awaited_at}
use Rattle.locks.specs.Changes.{in_phase, Keeps, change, freed, wounded, wounded_phase, awaiting, waiting_in, granted, granted_in, again, again_in, retired_hold, retired_at, wounded_below}

-- a station read after one was put at s: that one, or what was there
pub set_cases : (P : Station → Type 0) (xs : List Station) (s : ℕ) (y : Station) (i : ℕ) → i < length xs → (i ≡ s → P y)
    → ((i ≡ s → ⊥) → P (get_or xs i no_station)) → P (get_or (set xs s y) i no_station)
set_cases P xs s y i h here there =
    ⊎_elim
    (λ (e : i ≡ s). subst P (sym (ap (λ n. get_or (set xs n y) i no_station) (sym e) ∙ get_or-set_same xs i y no_station h)) (here e))
    (λ ne. subst P (sym (get_or-set_other xs s i y no_station ne)) (there ne))
    (cases_eq i s)

-- what holds of each station holds after a change that keeps it
pub set_keeps : (P : Station → Type 0) (xs : List Station) (s : ℕ) (y : Station) → length xs ≡ 16
    → ((i : ℕ) → i < 16 → P (get_or xs i no_station)) → (s < 16 → P y) → (i : ℕ) → i < 16 → P (get_or (set xs s y) i no_station)
set_keeps P xs s y full all one i h =
    set_cases P xs s y i (omega arith) (λ e. one (omega arith)) (λ ne. all i h)

-- fewer pass a test that implies another
pub count_fewer : (n : ℕ) (p q : ℕ → Bool) → ((k : ℕ) → k < n → p k ≡ true → q k ≡ true) → count_below n p ≤ count_below n q
count_fewer zero p q h = zero-le
count_fewer (suc n) p q h = go (p n) (q n) refl refl (count_fewer n p q (λ k l e. h k (omega arith) e))
  where
    go : (a b : Bool) → p n ≡ a → q n ≡ b → count_below n p ≤ count_below n q
        → cond a (suc (count_below n p)) (count_below n p) ≤ cond b (suc (count_below n q)) (count_below n q)
    go false false e f ih = ih
    go false true e f ih = omega arith
    go true true e f ih = omega arith
    go true false e f ih = absurd (false≢true (sym f ∙ h n (omega arith) e))

-- no more attempts after a change that makes none
pub attempts_fewer : (xs : List Station) (s : ℕ) (y : Station) → length xs ≡ 16
    → (active y ≡ true → active (get_or xs s no_station) ≡ true) → attempts (set xs s y) ≤ attempts xs
unfolding attempts
attempts_fewer xs s y full keeps =
    count_fewer 16 _ _ (λ k h. set_cases (λ (x : Station). active x ≡ true → active (get_or xs k no_station) ≡ true) xs s y k (omega arith)
    (λ (e : k ≡ s) a. ap (λ n. active (get_or xs n no_station)) e ∙ keeps a) (λ ne a. a))

-- what every table keeps, as its ghost fields have it
abbrev pub Facts : List Station → ℕ → ℕ → Type 0
Facts xs next commits = record {
  full : length xs ≡ 16;
  room : (i : ℕ) → i < 16 → HasRoom (get_or xs i no_station);
  stamped : commits + attempts xs ≤ next;
  width : next < 4294967296;
}

-- what a table keeps, after a change of one station
pub kept : (xs : List Station) (s next commits : ℕ) (y : Station) → length xs ≡ 16 → ((i : ℕ) → i < 16 → HasRoom (get_or xs i no_station))
    → (s < 16 → HasRoom y) → commits + attempts (set xs s y) ≤ next → next < 4294967296 → Facts (set xs s y) next commits
kept xs s next commits y full room place stamped width = record {
  full = length-set xs s y ∙ full;
  room = set_keeps HasRoom xs s y full room place;
  stamped = stamped;
  width = width;
}

-- a station that was read with another default
pub same_read : (xs : List Station) (s : ℕ) (d : Station) → s < 16 → length xs ≡ 16 → get_or xs s d ≡ get_or xs s no_station
same_read xs s d h full = get_or_default xs s d no_station (omega arith)

-- what is made of such a station
pub read_as : {B : Type 0} (f : Station → B) (xs : List Station) (s : ℕ) (d : Station) (y : B) → s < 16 → y ≡ f (get_or xs s d) → length xs ≡ 16
    → y ≡ f (get_or xs s no_station)
read_as f xs s d y h e full = e ∙ ap f (same_read xs s d h full)

-- what a table keeps, after a change that keeps it of its station
pub kept_by : (f : Station → Station) → Keeps f → (xs : List Station) (s next commits : ℕ) (d y : Station) → s < 16 → y ≡ f (get_or xs s d)
    → length xs ≡ 16 → ((i : ℕ) → i < 16 → HasRoom (get_or xs i no_station))
    → commits + attempts xs ≤ next → next < 4294967296 → Facts (set xs s y) next commits
kept_by f keeps xs s next commits d y h e full room stamped width =
    let k = keeps (get_or xs s no_station) (room s h) in
    let made = read_as f xs s d y h e full in
    kept xs s next commits y full room (λ _. subst HasRoom (sym made) k.0)
    (let less = attempts_fewer xs s y full (λ a. k.1 (ap active (sym made) ∙ a)) in omega (arith, less)) width

-- freeing a station keeps them
pub freed_keeps : Keeps freed
freed_keeps x r = (omega arith, λ a. absurd (false≢true a))

-- wounding a station keeps them
pub wounded_keeps : Keeps wounded
wounded_keeps x r = go x.phase
  where
    go : (p : Phase) → (0 + claimed (wounded_phase p) ≤ 16) × (not (is_idle (phase_of (wounded_phase p))) ≡ true → not (is_idle (phase_of p)) ≡ true)
    go Idle = (omega arith, λ a. a)
    go (Running s) = (omega arith, λ a. a)
    go (Waiting s q m) = (omega arith, λ a. a)
    go (Wounded s) = (omega arith, λ a. a)

-- a wait keeps them
pub awaiting_keeps : (r : ℕ) (m : Mode) → Keeps (awaiting r m)
awaiting_keeps r m x = go x.phase refl
  where
    go : (p : Phase) → x.phase ≡ p → HasRoom x → HasRoom (waiting_in p r m x) × (active (waiting_in p r m x) ≡ true → active x ≡ true)
    go Idle e h = (h, λ a. a)
    go (Waiting s q n) e h = (h, λ a. a)
    go (Wounded s) e h = (h, λ a. a)
    go (Running s) e h = cond_both (ltb (length x.hand.items) 16) _ x (λ (y : Station). HasRoom y × (active y ≡ true → active x ≡ true))
        (λ t. let lt = ltb-true (length x.hand.items) 16 t in (omega (arith, lt), λ a. ap (λ p. not (is_idle (phase_of p))) e)) (λ _. (h, λ a. a))

-- a grant keeps them
pub granted_keeps : Keeps granted
granted_keeps x = go x.phase refl
  where
    go : (p : Phase) → x.phase ≡ p → HasRoom x → HasRoom (granted_in p x) × (active (granted_in p x) ≡ true → active x ≡ true)
    go Idle e h = (h, λ a. a)
    go (Running s) e h = (h, λ a. a)
    go (Wounded s) e h = (h, λ a. a)
    go (Waiting s q m) e h = let c = ap claimed e in let more = length-append x.hand.items (record { at = q; mode = m; stage = Owned } ∷ []) in
        (omega (arith, c, more), λ a. ap (λ p. not (is_idle (phase_of p))) e)

-- a new start keeps them
pub again_keeps : Keeps again
again_keeps x = go x.phase refl
  where
    go : (p : Phase) → x.phase ≡ p → HasRoom x → HasRoom (again_in p x) × (active (again_in p x) ≡ true → active x ≡ true)
    go Idle e h = (h, λ a. a)
    go (Running s) e h = (h, λ a. a)
    go (Waiting s q m) e h = (h, λ a. a)
    go (Wounded s) e h = (omega arith, λ a. ap (λ p. not (is_idle (phase_of p))) e)

-- retiring a hold keeps them
pub retired_keeps : (k : ℕ) → Keeps (retired_at k)
retired_keeps k x h = (let same = length-set x.hand.items k (retired_hold (get_or x.hand.items k no_hold)) in omega (arith, same), λ a. a)

-- a station past the sixteen has no attempt
pub active_below : (xs : List Station) (s : ℕ) → length xs ≡ 16 → active (get_or xs s no_station) ≡ true → s < 16
active_below xs s full a =
    ⊎_elim (λ h. h) (λ h. absurd (false≢true (ap active (sym (get_or_past xs s no_station (omega arith))) ∙ a))) (cases_lt s 16)

-- a station put elsewhere than at j changes nothing at j
pub active_other : (xs : List Station) (s : ℕ) (y : Station) (j : ℕ) → (j ≡ s → ⊥) → active (get_or (set xs s y) j no_station) ≡ active (get_or xs j no_station)
active_other xs s y j ne = ap active (get_or-set_other xs s j y no_station ne)

-- a change of one station makes at most one attempt
pub attempts_one_more : (xs : List Station) (s : ℕ) (y : Station) → length xs ≡ 16 → s < 16 → attempts (set xs s y) ≤ attempts xs + 1
unfolding attempts
attempts_one_more xs s y full h = go (active (get_or xs s no_station)) refl (active y) refl
  where
    go : (a : Bool) → active (get_or xs s no_station) ≡ a → (b : Bool) → active y ≡ b → attempts (set xs s y) ≤ attempts xs + 1
    go true e b f = let less = attempts_fewer xs s y full (λ _. e) in omega (arith, less)
    go false e false f = let less = attempts_fewer xs s y full (λ t. absurd (false≢true (sym f ∙ t))) in omega (arith, less)
    go false e true f = let one = count_one_fewer 16 (λ i. active (get_or (set xs s y) i no_station)) (λ i. active (get_or xs i no_station)) s h
        (ap active (get_or-set_same xs s y no_station (omega arith)) ∙ f) e (λ j ne. sym (active_other xs s y j ne)) in
        omega (arith, one)

-- an attempt that is freed is one fewer
pub attempts_freed : (xs : List Station) (s : ℕ) → length xs ≡ 16 → active (get_or xs s no_station) ≡ true → attempts (change freed s xs) + 1 ≤ attempts xs
unfolding attempts
attempts_freed xs s full a =
    let h : s < 16 = active_below xs s full a in
    let y = freed (get_or xs s no_station) in
    let one = count_one_fewer 16 (λ i. active (get_or xs i no_station)) (λ i. active (get_or (set xs s y) i no_station)) s h
    a (ap active (get_or-set_same xs s y no_station (omega arith))) (λ j ne. active_other xs s y j ne) in
    omega (arith, one)

-- a table of idle stations has no attempt
pub attempts_none : attempts (replicate 16 no_station) ≡ 0
unfolding attempts
attempts_none = refl

-- what a table keeps, after a begin
pub begun_kept : (xs : List Station) (s next commits : ℕ) (y : Station) → s < 16 → y ≡ in_phase (Running next) [] → length xs ≡ 16
    → ((i : ℕ) → i < 16 → HasRoom (get_or xs i no_station))
    → commits + attempts xs ≤ next → next + 1 < 4294967296 → Facts (set xs s y) (next + 1) commits
begun_kept xs s next commits y h e full room stamped width =
    kept xs s (next + 1) commits y full room (λ _. subst HasRoom (sym e) (omega arith))
    (let more = attempts_one_more xs s y full h in omega (arith, more)) width

-- what a table keeps, after a commit is counted
pub counted_kept : (xs : List Station) (s next commits : ℕ) (ys : List Station) → ys ≡ change freed s xs → active (get_or xs s no_station) ≡ true → length xs ≡ 16
    → commits + attempts xs ≤ next → commits + 1 + attempts ys ≤ next
counted_kept xs s next commits ys e a full stamped =
    let less = attempts_freed xs s full a in let same = ap attempts e in omega (arith, less, same)

-- sixteen idle stations
pub all_idle : (xs : List Station) → length xs ≡ 16 → ((k : ℕ) (d : Station) → k < 16 → get_or xs k d ≡ no_station) → xs ≡ replicate 16 no_station
all_idle xs full each = same_lists xs (replicate 16 no_station) full (λ k d h. each k d (omega arith) ∙ sym (get_or-replicate 16 k no_station d (omega arith)))

-- what a new table keeps
pub new_kept : (next : ℕ) (xs : List Station) → xs ≡ replicate 16 no_station → next < 4294967296 → Facts xs next 0
new_kept next xs e width = record {
  full = ap length e;
  room = λ i h. subst HasRoom (sym (ap (λ ys. get_or ys i no_station) e ∙ get_or-replicate 16 i no_station no_station h)) (omega arith);
  stamped = let none = ap attempts e ∙ attempts_none in omega (arith, none);
  width = width;
}

-- one member more is wounded
pub wounded_here : (members : ℕ → Bool) (xs : List Station) (n : ℕ) → members n ≡ true → wounded_below (n + 1) members xs ≡ change wounded n (wounded_below n members xs)
unfolding wounded_below
wounded_here members xs n e = ap (λ k. wounded_below k members xs) (add-one n) ∙ cond-true (members n) _ _ e

-- who is no member stays
pub wounded_not_here : (members : ℕ → Bool) (xs : List Station) (n : ℕ) → members n ≡ false → wounded_below (n + 1) members xs ≡ wounded_below n members xs
unfolding wounded_below
wounded_not_here members xs n e = ap (λ k. wounded_below k members xs) (add-one n) ∙ cond-false (members n) _ _ e

-- with no station looked at, all stay
pub wounded_none : (members : ℕ → Bool) (xs : List Station) → xs ≡ wounded_below 0 members xs
unfolding wounded_below
wounded_none members xs = refl

-- what every table keeps is kept where the first n members are wounded
pub wounded_kept : (n : ℕ) → n ≤ 16 → (members : ℕ → Bool) (xs : List Station) (next commits : ℕ) → length xs ≡ 16
    → ((i : ℕ) → i < 16 → HasRoom (get_or xs i no_station)) → commits + attempts xs ≤ next → next < 4294967296 → Facts (wounded_below n members xs) next commits
unfolding wounded_below
wounded_kept zero low members xs next commits full room stamped width = record { full = full; room = room; stamped = stamped; width = width }
wounded_kept (suc n) low members xs next commits full room stamped width =
    let before = wounded_kept n (omega arith) members xs next commits full room stamped width in
    let ys = wounded_below n members xs in
    cond_both (members n) (change wounded n ys) ys (λ zs. Facts zs next commits)
    (λ _. kept_by wounded wounded_keeps ys n next commits no_station (wounded (get_or ys n no_station)) (omega arith) refl before.full before.room before.stamped before.width)
    (λ _. before)

-- a station that waits has a place for the hold
pub room_at : (xs : List Station) (i r : ℕ) (m : Mode) → length xs ≡ 16 → ((i : ℕ) → i < 16 → HasRoom (get_or xs i no_station))
    → Some (r, m) ≡ awaited_at xs i → (i < 16) × (length (hand_at xs i) < 16)
room_at xs i r m full room e = (below, go (get_or xs i no_station).phase e (room i below))
  where
    waits : (p : Phase) → Some (r, m) ≡ awaited_in p → not (is_idle (phase_of p)) ≡ true
    waits Idle e = absurd (let z : ◌≡◌ {A = ℕ} 0 1 = cc in omega arith)
    waits (Running s) e = refl
    waits (Waiting s q n) e = refl
    waits (Wounded s) e = refl

    below : i < 16
    below = active_below xs i full (waits (get_or xs i no_station).phase e)

    go : (p : Phase) → Some (r, m) ≡ awaited_in p → length (hand_at xs i) + claimed p ≤ 16 → length (hand_at xs i) < 16
    go Idle e h = absurd (let z : ◌≡◌ {A = ℕ} 0 1 = cc in omega arith)
    go (Running s) e h = absurd (let z : ◌≡◌ {A = ℕ} 0 1 = cc in omega arith)
    go (Waiting s q n) e h = omega arith
    go (Wounded s) e h = absurd (let z : ◌≡◌ {A = ℕ} 0 1 = cc in omega arith)
