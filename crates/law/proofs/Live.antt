-- The live part: the oldest attempt at work runs, has no bonds, can commit, and is wounded by no other station's call.
use Rattle.std.proofs.Common.{◌≡◌, ℕ, ◌<◌, true, false, not, ◌&&◌, ◌⊎◌, None, sym, refl, ap, ◌∙◌, inl, inr}
use Rattle.std.proofs.lemmas.Bool.{both_ways, and_parts, and_from, ltb-true, lt-ltb, lt-leb, not-true}
use Rattle.rules.specs.declared.Mode.{Mode}
use Rattle.rules.specs.declared.State.TheVariants.{Running, Wounded}
use Rattle.rules.specs.declared.Call.{Call}
use Rattle.rules.specs.declared.Call.TheVariants.{Commit, Standing}
use Rattle.rules.specs.declared.Answer.{Answer}
use Rattle.rules.specs.declared.Answer.TheVariants.{Stands}
use Rattle.rules.specs.Searches.{any_below}
use Rattle.rules.specs.Tables.{Phase, idle, running, wounded, waiting, Table, hold_mode, works, hold_on, conflicts, older}
use Rattle.rules.specs.Operations.{bonds}
use Rattle.rules.specs.Calls.{refusals, first_refusal}
use Rattle.rules.proofs.Searches.{any_below_none}
use Rattle.law.specs.Observer.{View, working, state, stamp, at_work, older_than, oldest, names, event, is_commit}
use Rattle.law.proofs.Hands.{nobody_binds_no_bonds, conflict_parts}
use Rattle.law.proofs.Invariants.{Invariant, works_not_idle, waiting_works, holder_works, BlockedBy, Blocked}
use Rattle.law.proofs.Consistency.{Tells, at_work_told, stamp_told, older_told}
use Rattle.law.proofs.Endings.{Ends}

module _ {V C : Type 0} {w : View V C} {t : Table V} (tells : Tells w t)
    (v : Invariant t.stations t.next_stamp t.records) (blocked : Blocked t.stations) (i : ℕ) (old : oldest w i ≡ true)
  where
    -- the two parts of being the oldest
    old_parts : (at_work w i ≡ true) × (not (any_below 16 (λ j. at_work w j && older_than w j i)) ≡ true)
    old_parts = and_parts (at_work w i) (not (any_below 16 (λ j. at_work w j && older_than w j i))) old

    -- it is at work
    pub oldest_at_work : works (t.stations i).phase ≡ true
    oldest_at_work = sym (at_work_told tells v i) ∙ old_parts.0

    -- it is one of the sixteen
    oldest_in_range : i < 16
    oldest_in_range = v.in_range i (works_not_idle (t.stations i).phase oldest_at_work)

    -- nobody at work is older
    pub nobody_older : (j : ℕ) → works (t.stations j).phase ≡ true → (t.stations j).stamp < (t.stations i).stamp → ⊥
    nobody_older j b l =
        both_ways (at_work w j && older_than w j i)
        (any_below_none 16 (λ j. at_work w j && older_than w j i)
        (not-true (any_below 16 (λ j. at_work w j && older_than w j i)) old_parts.1) j
        (v.in_range j (works_not_idle (t.stations j).phase b)))
        (and_from (at_work w j) (older_than w j i) (at_work_told tells v j ∙ b)
        (older_told tells v j i b oldest_at_work ∙ lt-ltb (t.stations j).stamp (t.stations i).stamp l))

    -- it has no bonds
    pub oldest_unbound : bonds t.stations i ≡ 0
    oldest_unbound = nobody_binds_no_bonds t.stations i (λ h j q.
        let p = and_parts (older t.stations j i) (conflicts (hold_mode h) (hold_on h.record_number (t.stations j).hand)) q
        in
        let x = conflict_parts (hold_mode h) (hold_on h.record_number (t.stations j).hand) p.1 in
        nobody_older j (holder_works v j h.record_number x.0 x.1)
        (ltb-true (t.stations j).stamp (t.stations i).stamp p.0))

    -- it does not wait: what blocks a wait is older, and at work
    pub oldest_running : (t.stations i).phase ≡ running
    oldest_running = go (t.stations i).phase refl
      where
        older_blocks : (r : ℕ) (m : Mode) (j : ℕ) → BlockedBy t.stations i r m j → ⊥
        older_blocks r m j (l, inl (h, f, o, c)) = nobody_older j (holder_works v j r h f) l
        older_blocks r m j (l, inr (md, q)) = nobody_older j (waiting_works (t.stations j).phase r md q) l

        go : (p : Phase) → (t.stations i).phase ≡ p → p ≡ running
        go idle q = cc (sym (ap works q) ∙ oldest_at_work)
        go running q = refl
        go wounded q = cc (sym (ap works q) ∙ oldest_at_work)
        go (waiting r m) q = let b = blocked i r m q in absurd (older_blocks r m b.0 b.1)

    -- standing tells so
    pub oldest_stands : w (Standing i) ≡ Stands (record { state = Running; stamp = stamp w i; bonds = 0; awaits = None })
    oldest_stands = tells.standing_told i oldest_in_range ∙ rw
        (stamp_told tells v i oldest_at_work, oldest_running, oldest_unbound)

    -- its commit is not refused
    pub oldest_commit_accepted : (named : ℕ) → first_refusal (refusals {C = C} named (Commit i) t) ≡ None
    oldest_commit_accepted named = rw (lt-leb 16 i oldest_in_range, oldest_running, oldest_unbound)

    -- no call that does not name it wounds it
    pub oldest_not_wounded : (c : Call C) (a : Answer V) {w' : View V C} {t' : Table V} → Tells w' t'
        → Invariant t'.stations t'.next_stamp t'.records → Ends t.stations t'.stations c a → names c i ≡ false
        → state w' i ≡ Wounded → ⊥
    oldest_not_wounded c a {w'} {t'} tells' v' endings unnamed is_wounded_now = by
        (endings.only i oldest_at_work (sym (at_work_told tells' v' i) ∙ ap working is_wounded_now))
      where
        young : (names c i ≡ true) ⊎ ((k : ℕ) × (works (t.stations k).phase ≡ true) × ((t.stations k).stamp < (t.stations i).stamp))
            → ⊥
        young (inl z) = both_ways (names c i) unnamed z
        young (inr z) = nobody_older z.0 z.1 z.2

        commits_not : is_commit (event c a i) ≡ false
        commits_not = rw unnamed

        by : (is_commit (event c a i) ≡ true) ⊎ (endings.out i ≡ true) → ⊥
        by (inl z) = both_ways (is_commit (event c a i)) commits_not z
        by (inr z) = young (endings.younger i z)
