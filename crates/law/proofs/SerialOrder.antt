-- An attempt replays: run alone from what stands before its records, its looks and changes get the answers that they were given,
-- and leave its drafts.
use Rattle.std.proofs.Common.{◌≡◌, ℕ, ◌<◌, ◌≤◌, Bool, true, false, cond, eqb, ◌⊎◌, List, [], ◌∷◌, Some, None, Option, sym, refl, ap, ◌∙◌, inl, inr, arith}
use Rattle.std.proofs.lemmas.Bool.{eq-eqb, ne_eqb, cases_eq, lt-ltb}
use Rattle.std.proofs.lemmas.Bool.Decides.{nat_tests}
use Rattle.rules.specs.declared.Mode.{Mode}
use Rattle.rules.specs.declared.Mode.TheVariants.{Exclusive}
use Rattle.rules.specs.declared.Stage.TheVariants.{Owned}
use Rattle.rules.specs.Tables.{Hold, waiting, Station, Stations, hold_mode, owned, is_idle, hold_on, draft_in, idle_station, with_hand, put}
use Rattle.rules.specs.Operations.{youngest, older_draft, before, or_else, seen, bonds, wound, draft_for, granted_station, adjust, redrafted}
use Rattle.rules.proofs.Stations.{put_same, put_other}
use Rattle.law.specs.Observer.{stamp, Entry, looked, changed}
use Rattle.law.specs.Alone.{left, Agrees}
use Rattle.law.proofs.Hands.{hold_on_adjusted, hold_on_others, no_bonds_no_conflict, draft_is_exclusive, without_draft_counts_not, older_draft_parts, no_older_draft}
use Rattle.law.proofs.StandsBefore.{youngest_without_oldest, CountsAlike, before_unchanged, before_is_plotted}
use Rattle.law.proofs.Invariants.{Invariant, conflict_exclusive, holder_not_idle}

-- run from any values that agree with what stands before the records that station i holds, the entries get their answers and
-- leave what the station sees: its drafts, and elsewhere the values
abbrev pub Replays : {V C : Type 0} → (V → C → V) → Stations V → (ℕ → V) → ℕ → List (Entry V C) → Type 0
Replays {V} apply t show i l = (vs : ℕ → V) → ((r : ℕ) (h : Hold V) → hold_on r (t i).hand ≡ Some h → vs r ≡ before t show i r)
    → Agrees apply l vs × ((r : ℕ) → left apply l vs r ≡ seen (t i).hand vs r)

module _ {V C : Type 0} (apply : V → C → V) where
  -- an attempt that has done nothing and holds nothing replays
  pub nothing_replays : (t : Stations V) (show : ℕ → V) (i : ℕ) → (t i).hand ≡ [] → Replays apply t show i []
  nothing_replays t show i e vs p = (tt, λ r. rw e)

  -- an attempt replays as before, if its hand has the same records with the same drafts, and what stands before them is as it was
  pub replays_if_before_kept : (t t' : Stations V) (show show' : ℕ → V) (i : ℕ) (l : List (Entry V C))
      → ((r : ℕ) (h : Hold V) → hold_on r (t i).hand ≡ Some h → (h' : Hold V) × (hold_on r (t' i).hand ≡ Some h') × (before t' show' i r ≡ before t show i r))
      → ((r : ℕ) → draft_in (hold_on r (t' i).hand) ≡ draft_in (hold_on r (t i).hand)) → Replays apply t show i l
      → Replays apply t' show' i l
  replays_if_before_kept t t' show show' i l held same s vs p =
      let old = s vs (λ r h e. let q = held r h e in p r q.0 q.1 ∙ q.2) in
      (old.0, λ r. old.1 r ∙ ap (λ (o : Option V). or_else o (vs r)) (sym (same r)))

  -- an attempt replays as before, if stamps and drafts are the same everywhere
  pub replays_if_drafts_same : (t t' : Stations V) (show : ℕ → V) (i : ℕ) (l : List (Entry V C))
      → ((j : ℕ) → (t' j).stamp ≡ (t j).stamp) → ((j r : ℕ) → draft_in (hold_on r (t' j).hand) ≡ draft_in (hold_on r (t j).hand))
      → ((r : ℕ) (h : Hold V) → hold_on r (t i).hand ≡ Some h → (h' : Hold V) × (hold_on r (t' i).hand ≡ Some h'))
      → Replays apply t show i l → Replays apply t' show i l
  replays_if_drafts_same t t' show i l stamp same held =
      replays_if_before_kept t t' show show i l (λ r h e. let q = held r h e in
      (q.0, q.1, before_unchanged t t' show i r (λ j. inl (stamp j, rw (stamp j, stamp i, same j r))))) (same i)

  -- an attempt replays as before, if another station is put that holds nothing and held nothing
  pub replays_if_empty_put : (t : Stations V) (show : ℕ → V) (k : ℕ) (x : Station V) → (t k).hand ≡ [] → x.hand ≡ [] → (i : ℕ)
      → (i ≡ k → ⊥) → (l : List (Entry V C)) → Replays apply t show i l → Replays apply (put t k x) show i l
  replays_if_empty_put t show k x none none' i ne l =
      replays_if_before_kept t t' show show i l (λ r h e. (h, rw here e, before_unchanged t t' show i r (λ j. grind (arith, nat_tests, none, none')))) (λ r. rw here)
    where
      t' : Stations V
      t' = put t k x

      here : t' i ≡ t i
      here = put_other t k x i ne

  -- an attempt replays as before, if a set is wounded in which every younger holder of what a member holds exclusively is a member
  pub replays_if_closed_set_wounded : (t : Stations V) (show : ℕ → V) (w : ℕ → Bool) (i : ℕ) (l : List (Entry V C)) → w i ≡ false
      → ((j r : ℕ) (h k : Hold V) → w j ≡ true → hold_on r (t j).hand ≡ Some h → hold_mode h ≡ Exclusive → hold_on r (t i).hand ≡ Some k → (t j).stamp < (t i).stamp → ⊥)
      → Replays apply t show i l → Replays apply (wound w t) show i l
  unfolding wound
  replays_if_closed_set_wounded t show w i l wi closed =
      replays_if_before_kept t t' show show i l
      (λ r h e. (h, rw here e, before_unchanged t t' show i r (λ j. each r h e j (w j) refl))) (λ r. rw here)
    where
      t' : Stations V
      t' = wound w t

      here : t' i ≡ t i
      here = rw wi

      each : (r : ℕ) (h : Hold V) → hold_on r (t i).hand ≡ Some h → (j : ℕ) (b : Bool) → w j ≡ b → CountsAlike t t' i r j
      each r h e j true wj = inr (
        without_draft_counts_not t' i r j (rw wj),
        no_older_draft t i r j
            (λ d o f. let q = draft_is_exclusive (hold_on r (t j).hand) d f in closed j r q.0 h wj q.1 q.2 e o),
      )
      each r h e j false wj = inl (rw wj, rw (wj, here))

  -- station k has other drafts, in a hand of the same records; it owns each record of which the draft is another
  module _ (t : Stations V) (next records : ℕ) (v : Invariant t next records) (show : ℕ → V) (k : ℕ) (hand : List (Hold V))
      (drafts : (r : ℕ) → (draft_in (hold_on r hand) ≡ draft_in (hold_on r (t k).hand)) ⊎
      ((h : Hold V) × (hold_on r (t k).hand ≡ Some h) × (owned h ≡ true) × (hold_mode h ≡ Exclusive))) where
    -- the stations with the new hand
    abbrev pub redrafted_table : Stations V
    redrafted_table = put t k (with_hand (t k) hand)

    -- the stamps are as they were
    stamp_in_redrafted : (j : ℕ) → (redrafted_table j).stamp ≡ (t j).stamp
    stamp_in_redrafted j = grind (arith, nat_tests)

    -- what stands before a hold is as it was, unless k is older and its draft of the record is another
    pub before_unchanged_by_redraft : (i r : ℕ)
        → (draft_in (hold_on r hand) ≡ draft_in (hold_on r (t k).hand)) ⊎ ((t i).stamp ≤ (t k).stamp)
        → before redrafted_table show i r ≡ before t show i r
    before_unchanged_by_redraft i r same = before_unchanged t redrafted_table show i r
        (λ j. grind (arith, nat_tests, same, stamp_in_redrafted i, stamp_in_redrafted j))

    -- another attempt replays as before: who holds a record beside its owner is older
    pub replays_if_other_redrafts : (i : ℕ) (l : List (Entry V C)) → (i ≡ k → ⊥) → Replays apply t show i l
        → Replays apply redrafted_table show i l
    replays_if_other_redrafts i l ne =
        replays_if_before_kept t redrafted_table show show i l
        (λ r g f. (g, rw here f, before_unchanged_by_redraft i r (older_beside r g f (drafts r)))) (λ r. rw here)
      where
        here : redrafted_table i ≡ t i
        here = put_other t k (with_hand (t k) hand) i ne

        older_beside : (r : ℕ) (g : Hold V) → hold_on r (t i).hand ≡ Some g
            → (draft_in (hold_on r hand) ≡ draft_in (hold_on r (t k).hand))
            ⊎ ((h : Hold V) × (hold_on r (t k).hand ≡ Some h) × (owned h ≡ true) × (hold_mode h ≡ Exclusive))
            → (draft_in (hold_on r hand) ≡ draft_in (hold_on r (t k).hand)) ⊎ ((t i).stamp ≤ (t k).stamp)
        older_beside r g f x = grind (arith, x, v.owned_exclusive k i r)

  -- station k changes the draft d of a record q that it owns
  module _ (t : Stations V) (next records : ℕ) (v : Invariant t next records) (show : ℕ → V) (k q : ℕ) (c : C) (h : Hold V)
      (d : V)
      (e : hold_on q (t k).hand ≡ Some h) (own : owned h ≡ true) (w : h.draft ≡ Some d) where
    -- the hand after the change
    abbrev changed_hand : List (Hold V)
    changed_hand = adjust q (redrafted (λ u. apply u c)) (t k).hand

    -- the draft of the record is the changed one
    changed_at : draft_in (hold_on q changed_hand) ≡ Some (apply d c)
    changed_at = rw (hold_on_adjusted (redrafted (λ u. apply u c)) (λ _. refl) q (t k).hand h e, w)

    -- the other holds are as they were
    changed_elsewhere : (r : ℕ) → (r ≡ q → ⊥) → hold_on r changed_hand ≡ hold_on r (t k).hand
    changed_elsewhere r ne = hold_on_others (redrafted (λ u. apply u c)) (λ _. refl) q r (t k).hand ne

    -- only the draft of an owned record is another
    owned_changes : (r : ℕ)
        → (draft_in (hold_on r changed_hand) ≡ draft_in (hold_on r (t k).hand))
        ⊎ ((h : Hold V) × (hold_on r (t k).hand ≡ Some h) × (owned h ≡ true) × (hold_mode h ≡ Exclusive))
    owned_changes r = grind (arith, cases_eq r q, changed_elsewhere r)

    -- the stations after the change
    abbrev pub changed_table : Stations V
    changed_table = put t k (with_hand (t k) (adjust q (redrafted (λ u. apply u c)) (t k).hand))

    -- another attempt replays as before
    pub replays_if_other_changes : (i : ℕ) (l : List (Entry V C)) → (i ≡ k → ⊥) → Replays apply t show i l
        → Replays apply changed_table show i l
    replays_if_other_changes = replays_if_other_redrafts t next records v show k changed_hand owned_changes

    -- the attempt itself replays with the change
    pub replays_own_change : (l : List (Entry V C)) → Replays apply t show k l
        → Replays apply changed_table show k (changed q c (apply d c) ∷ l)
    replays_own_change l s vs p = ((old.0, rw at_q), go)
      where
        here : (changed_table k).hand ≡ changed_hand
        here = rw (put_same t k (with_hand (t k) changed_hand))

        held : (r : ℕ) (g : Hold V) → hold_on r (t k).hand ≡ Some g → (r ≡ q) ⊎ (r ≡ q → ⊥)
            → (g' : Hold V) × (hold_on r (changed_table k).hand ≡ Some g')
        held r g f (inl eq) = (
          redrafted (λ u. apply u c) h,
          rw (here, eq)
              (hold_on_adjusted (redrafted (λ u. apply u c)) (λ _. refl) q (t k).hand h e),
        )
        held r g f (inr nq) = (g, rw here (changed_elsewhere r nq ∙ f))

        old : Agrees apply l vs × ((r : ℕ) → left apply l vs r ≡ seen (t k).hand vs r)
        old = s vs (λ r g f. let x = held r g f (cases_eq r q) in p r x.0 x.1 ∙ before_unchanged_by_redraft t next records v
            show k changed_hand owned_changes k r (inr (omega arith)))

        at_q : left apply l vs q ≡ d
        at_q = old.1 q ∙ rw (e, w)

        go : (r : ℕ) → cond (eqb r q) (apply (left apply l vs q) c) (left apply l vs r) ≡ seen (changed_table k).hand vs r
        go r = grind (arith, nat_tests, at_q, here, changed_at, changed_elsewhere r, old.1 r)

  -- a look answers what the entries so far leave
  pub replays_own_look : (t : Stations V) (show : ℕ → V) (k q : ℕ) (h : Hold V) → hold_on q (t k).hand ≡ Some h
      → (l : List (Entry V C)) → Replays apply t show k l
      → Replays apply t show k (looked q (seen (t k).hand (before t show k) q) ∷ l)
  replays_own_look t show k q h e l s vs p =
      let old = s vs p in
      ((old.0, ap (λ (u : V). or_else (draft_in (hold_on q (t k).hand)) u) (sym (p q h e)) ∙ sym (old.1 q)), old.1)

  -- station k is granted what it waits for, with what stands before as the first draft
  module _ (t : Stations V) (next records : ℕ) (v : Invariant t next records) (show : ℕ → V) (k q : ℕ) (m : Mode)
      (wait : (t k).phase ≡ waiting q m) where
    -- the new hold
    abbrev new_hold : Hold V
    new_hold = record { record_number = q; draft = draft_for m (before t show k q); stage = Owned }

    -- the station that was granted
    abbrev granted_one : Station V
    granted_one = granted_station (t k) q m (before t show k q)

    -- the stations after the grant
    abbrev pub granted_table : Stations V
    granted_table = put t k (granted_station (t k) q m (before t show k q))

    -- it has no draft of the record yet
    no_draft_yet : draft_in (hold_on q (t k).hand) ≡ None
    no_draft_yet = ap draft_in (v.awaited_not_held k q m wait)

    -- the stamps are as they were
    stamp_in_granted : (j : ℕ) → (granted_table j).stamp ≡ (t j).stamp
    stamp_in_granted j = grind (arith, nat_tests)

    -- the holds on other records are as they were
    elsewhere : (r : ℕ) → (r ≡ q → ⊥) → hold_on r (new_hold ∷ (t k).hand) ≡ hold_on r (t k).hand
    elsewhere r ne = rw (ne_eqb q r (λ e. ne (sym e)))

    -- the record is held by the new hold
    there : (r : ℕ) → r ≡ q → hold_on r (new_hold ∷ (t k).hand) ≡ Some new_hold
    there r e = rw (eq-eqb q r (sym e))

    -- what stands before is as it was, but for a younger holder of what was granted exclusively
    before_unchanged_by_grant : (i r : ℕ) → (r ≡ q → m ≡ Exclusive → (t i).stamp ≤ (t k).stamp)
        → before granted_table show i r ≡ before t show i r
    before_unchanged_by_grant i r last = before_unchanged t granted_table show i r (λ j. grind
        (arith, nat_tests, cases_eq r q, no_draft_yet, elsewhere r, there r, last, stamp_in_granted i, stamp_in_granted j))

    -- another attempt replays as before: who holds what is granted exclusively is older
    pub replays_if_other_granted : (i : ℕ) (l : List (Entry V C)) → (i ≡ k → ⊥) → Replays apply t show i l
        → Replays apply granted_table show i l
    replays_if_other_granted i l ne =
        replays_if_before_kept t granted_table show show i l
        (λ r g f. (
          g,
          rw here f,
          before_unchanged_by_grant i r (λ eq em.
              let f' : hold_on q (t i).hand ≡ Some g = rw (← eq) f in omega
              (arith, v.exclusive_wait k i q g (rw em at wait) f')),
        ))
        (λ r. rw here)
      where
        here : granted_table i ≡ t i
        here = put_other t k granted_one i ne

    -- the attempt itself replays as before
    pub replays_own_grant : (l : List (Entry V C)) → Replays apply t show k l → Replays apply granted_table show k l
    replays_own_grant l s vs p = (old.0, λ r. old.1 r ∙ go r)
      where
        here : (granted_table k).hand ≡ new_hold ∷ (t k).hand
        here = rw (put_same t k granted_one)

        same : (r : ℕ) → before granted_table show k r ≡ before t show k r
        same r = before_unchanged_by_grant k r (λ _ _. omega arith)

        held : (r : ℕ) (g : Hold V) → hold_on r (t k).hand ≡ Some g → (r ≡ q) ⊎ (r ≡ q → ⊥)
            → (g' : Hold V) × (hold_on r (granted_table k).hand ≡ Some g')
        held r g f (inl eq) = (new_hold, rw here (there r eq))
        held r g f (inr nq) = (g, rw here (elsewhere r nq ∙ f))

        old : Agrees apply l vs × ((r : ℕ) → left apply l vs r ≡ seen (t k).hand vs r)
        old = s vs (λ r g f. let x = held r g f (cases_eq r q) in p r x.0 x.1 ∙ same r)

        at_q : vs q ≡ before t show k q
        at_q = p q new_hold (rw here (there q refl)) ∙ same q

        go : (r : ℕ) → seen (t k).hand vs r ≡ seen (granted_table k).hand vs r
        go r = grind (arith, cases_eq r q, here, elsewhere r, there r, no_draft_yet, at_q)

  -- station k, which has no bonds, commits
  module _ (t : Stations V) (next records : ℕ) (v : Invariant t next records) (show : ℕ → V) (k : ℕ) (free : bonds t k ≡ 0) where
    -- whoever else holds what it holds exclusively is younger
    holder_beside_free_writer_younger : (i r : ℕ) (g h : Hold V) → hold_on r (t k).hand ≡ Some h → hold_mode h ≡ Exclusive
        → hold_on r (t i).hand ≡ Some g → (i ≡ k → ⊥) → (t k).stamp < (t i).stamp
    holder_beside_free_writer_younger i r g h e x f ne =
        grind (
          arith,
          nat_tests,
          cases_eq (t i).stamp (t k).stamp,
          no_bonds_no_conflict t k free r h e i
              (v.in_range i (holder_not_idle v i r g f)),
          v.apart i k (holder_not_idle v i r g f) (holder_not_idle v k r h e),
        )

    -- the plotted value stands before each of its holds
    pub before_free_is_plotted : (r : ℕ) (h : Hold V) → hold_on r (t k).hand ≡ Some h → before t show k r ≡ show r
    before_free_is_plotted r h e = before_is_plotted t show k r (λ j l. no_older_draft t k r j (λ d o f.
        let x = draft_is_exclusive (hold_on r (t j).hand) d f in
        let clash = no_bonds_no_conflict t k free r h e j l o in
        cc (conflict_exclusive (hold_mode h), rw (x.1, x.2) at clash)))

    -- the stations without it
    abbrev pub left_table : Stations V
    left_table = put t k idle_station

    -- the plotted values with its drafts
    abbrev pub plotted_values : ℕ → V
    plotted_values = seen (t k).hand show

    -- what stands before another's hold is as it was: its draft is now the plotted value
    before_unchanged_by_commit : (i r : ℕ) (g : Hold V) → hold_on r (t i).hand ≡ Some g → (i ≡ k → ⊥)
        → before left_table plotted_values i r ≡ before t show i r
    unfolding before
    before_unchanged_by_commit i r g f ne = go (draft_in (hold_on r (t k).hand)) refl
      where
        here : left_table i ≡ t i
        here = put_other t k idle_station i ne

        plot_at : (u : V) → plotted_values r ≡ u
            → before left_table plotted_values i r ≡ (youngest (λ j. (left_table j).stamp) (older_draft left_table i r) u 16).1
        plot_at u e = ap (λ (u : V). (youngest (λ j. (left_table j).stamp) (older_draft left_table i r) u 16).1) e

        go : (o : Option V) → draft_in (hold_on r (t k).hand) ≡ o → before left_table plotted_values i r ≡ before t show i r
        go None e = plot_at (show r) (rw e) ∙ before_unchanged t left_table show i r (λ j. grind (arith, nat_tests, here))
        go (Some d) e =
            plot_at d (rw e) ∙ (youngest_without_oldest (λ j. (t j).stamp) (λ j. (left_table j).stamp) (older_draft t i r)
            (older_draft left_table i r) (show r) 16 k d
            (v.in_range k busy) counts (v.stamped k busy).0 least apart
            (without_draft_counts_not left_table i r k (rw (put_same t k idle_station))) rest)
          where
            x : (h : Hold V) × (hold_on r (t k).hand ≡ Some h) × (hold_mode h ≡ Exclusive)
            x = draft_is_exclusive (hold_on r (t k).hand) d e

            busy : is_idle (t k).phase ≡ false
            busy = holder_not_idle v k r x.0 x.1

            young : (t k).stamp < (t i).stamp
            young = holder_beside_free_writer_younger i r g x.0 x.1 x.2 f ne

            counts : older_draft t i r k ≡ Some d
            counts = rw (lt-ltb (t k).stamp (t i).stamp young) e

            who : (j : ℕ) (u : V) → older_draft t i r j ≡ Some u
                → (h : Hold V) × (hold_on r (t j).hand ≡ Some h) × (hold_mode h ≡ Exclusive)
            who j u f = draft_is_exclusive (hold_on r (t j).hand) u (older_draft_parts t i r j u f).1

            least : (j : ℕ) (u : V) → j < 16 → older_draft t i r j ≡ Some u → (j ≡ k → ⊥) → (t k).stamp < (t j).stamp
            least j u _ f nk = let y = who j u f in holder_beside_free_writer_younger j r y.0 x.0 x.1 x.2 y.1 nk

            apart : (a b : ℕ) (u w : V) → older_draft t i r a ≡ Some u → older_draft t i r b ≡ Some w → (t a).stamp ≡ (t b).stamp
                → a ≡ b
            apart a b u w fa fb same =
                let y = who a u fa in let z = who b w fb in v.apart a b (holder_not_idle v a r y.0 y.1)
                (holder_not_idle v b r z.0 z.1) same

            rest : (j : ℕ) → (j ≡ k → ⊥)
                → (older_draft left_table i r j ≡ older_draft t i r j) × ((left_table j).stamp ≡ (t j).stamp)
            rest j nk = grind (arith, nat_tests, here)

    -- another attempt replays as before
    pub replays_if_other_commits : (i : ℕ) (l : List (Entry V C)) → (i ≡ k → ⊥) → Replays apply t show i l
        → Replays apply left_table plotted_values i l
    replays_if_other_commits i l ne = replays_if_before_kept t left_table show plotted_values i l
        (λ r g f. (g, rw here f, before_unchanged_by_commit i r g f ne)) (λ r. rw here)
      where
        here : left_table i ≡ t i
        here = put_other t k idle_station i ne
