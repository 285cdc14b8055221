-- The law of runs, proved of the rules.
use Rattle.std.proofs.Common.{◌≡◌, ℕ, suc, ◌<◌, List, [], ◌∷◌, None, sym, refl, ap, ◌∙◌, inl, inr, arith}
use Rattle.std.proofs.lemmas.Bool.{le-leb, lt-leb, cases_lt}
use Rattle.std.proofs.lemmas.Bool.Decides.{nat_tests}
use Rattle.std.proofs.lemmas.List.Elements.{All-nil}
use Rattle.rules.specs.declared.Call.{Call}
use Rattle.rules.specs.declared.Call.TheVariants.{Begin, Take, Look, Change, Retire, Commit, GiveUp, Again, Standing, Plotted, Count}
use Rattle.rules.specs.declared.Answer.TheVariants.{Refused, Value, Committed}
use Rattle.rules.specs.Tables.{Table, idle_station}
use Rattle.rules.specs.Calls.{refusals, first_refusal, after, answer, opened}
use Rattle.law.specs.Observer.{View, Engine, is_commit, is_over, is_start, Observation, observe, observed}
use Rattle.law.specs.Alone.{all_left}
use Rattle.law.specs.Law.{Opening, Serial, Ordered, Live}
use Rattle.law.specs.Runs.{table, engine, Lawful, AlwaysOrderly}
use Rattle.law.proofs.Invariants.{Invariant}
use Rattle.rules.proofs.Admission.{begin_admitted, take_admitted, look_admitted, change_admitted, retire_admitted, commit_admitted, give_up_admitted, again_admitted, step_cases, answer_refused, answer_accepted}
use Rattle.law.proofs.Consistency.{fresh_matches, Tells, Consistent, heard_matches}
use Rattle.law.proofs.PlainCalls.{refused_silent, Following, silent_consistent, begin_consistent, again_consistent, look_consistent, change_consistent}
use Rattle.law.proofs.FreeingCalls.{retire_consistent, commit_consistent, give_up_consistent, take_consistent}
use Rattle.law.proofs.Endings.{Ends, unchanged_ends_none, EndsOf, begin_ends, again_ends, change_ends, retire_ends, commit_ends, take_ends, give_up_ends}
use Rattle.law.proofs.Ordered.{InOrder, in_order_after, ordered_from}
use Rattle.law.proofs.Live.{oldest_stands, oldest_commit_accepted, oldest_not_wounded}
use Rattle.rules.specs.declared.Refusal.TheVariants as refusal

module _ {V C : Type 0} (apply : V → C → V) (named : List (Call C) → ℕ) (first records : ℕ) (show : ℕ → V) where
  -- the new table
  abbrev start : Table V
  start = opened first show records

  -- the table after the calls so far
  abbrev table_after : List (Call C) → Table V
  table_after h = table apply named (opened first show records) h

  -- the rules as an engine
  abbrev e : Engine V C
  e = engine apply named (opened first show records)

  -- standing tells what the table has
  tells : (h : List (Call C)) → Tells (e h) (table_after h)
  tells h =
      record {
        standing_told = λ i l. answer_accepted apply (named (Standing i ∷ h)) (Standing i) (table_after h) (rw (lt-leb 16 i l));
        standing_refused = λ i l. answer_refused apply (named (Standing i ∷ h)) (Standing i) (table_after h) refusal.Station
            (rw (le-leb 16 i l));
      }

  -- a new table has the invariants
  new_invariant : Invariant start.stations start.next_stamp records
  new_invariant = grind arith

  -- the first stamp is above 0
  first_positive : 0 < start.next_stamp
  first_positive = grind (arith, nat_tests)

  -- a call that is not refused: whose attempts it ends
  accepted_ends : (n : ℕ) (t : Table V) (v : Invariant t.stations t.next_stamp t.records) (c : Call C)
      → first_refusal (refusals n c t) ≡ None → EndsOf apply t v c
  accepted_ends n t v (Begin k) q = begin_ends apply t v k (begin_admitted C n t k q).1
  accepted_ends n t v (Take k r m) q = let f = take_admitted C n t k r m q in take_ends apply t v k r m f.0 f.1 f.2
      f.3
  accepted_ends n t v (Look k r) q = unchanged_ends_none t.stations (Look k r) (answer apply (Look k r) t) refl refl refl
  accepted_ends n t v (Change k r c) q = let f = change_admitted C n t k r c q in change_ends apply t v k r c f.0 f.1
  accepted_ends n t v (Retire k r) q = let f = retire_admitted C n t k r q in retire_ends apply t v k r f.0 f.1
  accepted_ends n t v (Commit k) q = let f = commit_admitted C n t k q in commit_ends apply t v k f.0 f.1
  accepted_ends n t v (GiveUp k) q = give_up_ends apply t v k (give_up_admitted C n t k q)
  accepted_ends n t v (Again k) q = again_ends apply t v k (again_admitted C n t k q)
  accepted_ends n t v (Standing k) q = unchanged_ends_none t.stations (Standing k) (answer apply (Standing k) t) refl refl refl
  accepted_ends n t v (Plotted r) q = unchanged_ends_none t.stations (Plotted r) (answer apply (Plotted r) t) refl refl refl
  accepted_ends n t v Count q = unchanged_ends_none t.stations Count (answer apply Count t) refl refl refl

  -- any call: whose attempts it ends
  next_ends : (h : List (Call C)) → Invariant (table_after h).stations (table_after h).next_stamp (table_after h).records
      → (c : Call C) → Ends (table_after h).stations (table_after (c ∷ h)).stations c (e h c)
  next_ends h v c = step_cases apply (named (c ∷ h)) c (table_after h) (λ p. Ends (table_after h).stations p.1.stations c p.0)
      (λ why _. unchanged_ends_none (table_after h).stations c (Refused why) (ap is_commit (refused_silent c why))
      (ap is_over (refused_silent c why)) (ap is_start (refused_silent c why)))
      (accepted_ends (named (c ∷ h)) (table_after h) v c)

  -- From opening values that are the show's.
  module _ (opening : ℕ → V) (opens : (r : ℕ) → r < records → show r ≡ opening r) where
    -- a new table and what is observed at the start belong together
    new_consistent : Consistent apply opening start (observed e [])
    new_consistent =
        record {
          invariant = new_invariant;
          next_positive = first_positive;
          blocked = λ i r m q. cc;
          matches = λ i. fresh_matches apply (λ i. idle_station) show i 0 refl refl;
          answers_agree = tt;
          values_left = opens;
          commits_counted = refl;
        }

    -- a call that is not refused keeps table and observation together
    accepted_consistent : (n : ℕ) (t : Table V) (o : Observation V C) (g : Consistent apply opening t o) (w : View V C) (tells : Tells w t) (c : Call C)
        → first_refusal (refusals n c t) ≡ None → Following apply opening t o g w tells c
    accepted_consistent n t o g w tells (Begin k) q = let f = begin_admitted C n t k q in begin_consistent apply opening t o g w
        tells k f.0 f.1
    accepted_consistent n t o g w tells (Take k r m) q = let f = take_admitted C n t k r m q in take_consistent apply opening t o
        g w tells k r m f.0 f.1 f.2 f.3
    accepted_consistent n t o g w tells (Look k r) q = look_consistent apply opening t o g w tells k r
        (look_admitted C n t k r q).1
    accepted_consistent n t o g w tells (Change k r c) q = let f = change_admitted C n t k r c q in change_consistent apply
        opening t o g w tells k r c f.0 f.1
    accepted_consistent n t o g w tells (Retire k r) q = let f = retire_admitted C n t k r q in retire_consistent apply opening t
        o g w tells k r f.0 f.1
    accepted_consistent n t o g w tells (Commit k) q = commit_consistent apply opening t o g w tells k
        (commit_admitted C n t k q).1
    accepted_consistent n t o g w tells (GiveUp k) q = give_up_consistent apply opening t o g w tells k
        (give_up_admitted C n t k q)
    accepted_consistent n t o g w tells (Again k) q = again_consistent apply opening t o g w tells k (again_admitted C n t k q)
    accepted_consistent n t o g w tells (Standing k) q = λ w' tells' a. silent_consistent apply opening t o g w tells (Standing k)
        (answer apply (Standing k) t) w' tells' a refl
    accepted_consistent n t o g w tells (Plotted r) q = λ w' tells' a. silent_consistent apply opening t o g w tells (Plotted r)
        (answer apply (Plotted r) t) w' tells' a refl
    accepted_consistent n t o g w tells Count q = λ w' tells' a. silent_consistent apply opening t o g w tells Count
        (answer apply Count t) w' tells' a refl

    -- table and observation belong together after every list of calls
    consistent : (h : List (Call C)) → Consistent apply opening (table_after h) (observed e h)
    consistent [] = new_consistent
    consistent (c ∷ h) =
        let g = consistent h in
        step_cases apply (named (c ∷ h)) c (table_after h)
        (λ p. e h c ≡ p.0 → Tells (e (c ∷ h)) p.1 → Consistent apply opening p.1
        (observe (e h) c (e (c ∷ h)) (observed e h)))
        (λ why _ a tells'. silent_consistent apply opening (table_after h) (observed e h) g (e h) (tells h) c (Refused why)
        (e (c ∷ h)) tells' a (refused_silent c why))
        (λ q a tells'. accepted_consistent (named (c ∷ h)) (table_after h) (observed e h) g (e h) (tells h) c q (e (c ∷ h))
        tells' a) refl (tells (c ∷ h))

  -- the opening values are those of the show
  abbrev show_consistent : (h : List (Call C)) → Consistent apply show (table_after h) (observed e h)
  show_consistent h = consistent show (λ r l. refl) h

  -- plotted tells the show's value of a record
  plotted_told : (h : List (Call C)) (r : ℕ) → r < (table_after h).records → e h (Plotted r) ≡ Value ((table_after h).show r)
  plotted_told h r l = answer_accepted apply (named (Plotted r ∷ h)) (Plotted r) (table_after h)
      (rw (lt-leb (table_after h).records r l))

  -- the number of records stays
  records_stay : (h : List (Call C)) → (table_after h).records ≡ records
  records_stay [] = refl
  records_stay (c ∷ h) = step_cases apply (named (c ∷ h)) c (table_after h) (λ p. p.1.records ≡ records) (λ _ _. records_stay h)
      (λ _. after_same c (table_after h) ∙ records_stay h)
    where
      after_same : (c : Call C) (t : Table V) → (after apply c t).records ≡ t.records
      after_same c t = grind arith

  -- a record of which plotted tells a value is one of the show's
  value_told_inside : (r : ℕ) (v : V) → e [] (Plotted r) ≡ Value v → r < records
  value_told_inside r v q = elim (cases_lt r records) [
    | inl l ↦ l
    | inr l ↦ cc (answer_refused apply (named (Plotted r ∷ [])) (Plotted r) start refusal.Record (rw (le-leb records r l)))
  ]

  -- opening values are the show's
  opening_is_show : (opening : ℕ → V) → Opening e opening → (r : ℕ) → r < records → show r ≡ opening r
  opening_is_show opening o r l = sym (o r (show r) (plotted_told [] r l))

  -- the commit number that a commit would get
  commit_number : (h : List (Call C)) (i n : ℕ) → e h (Commit i) ≡ Committed n → n ≡ suc (table_after h).commits
  commit_number h i n q = step_cases apply (named (Commit i ∷ h)) (Commit i) (table_after h)
      (λ p. p.0 ≡ Committed n → n ≡ suc (table_after h).commits) (λ _ _ z. cc) (λ _ z. cc) q

  -- the serial part
  serial : (h : List (Call C)) → Serial apply e h
  serial h =
      record {
        answers_agree = λ opening o. (consistent opening (opening_is_show opening o) h).answers_agree;
        values_left = λ opening o r v q.
            let l : r < (table_after h).records = rw (records_stay h) (value_told_inside r v q) in
            plotted_told h r l ∙ ap Value ((consistent opening (opening_is_show opening o) h).values_left r l);
        numbers_count_up = λ i n q. commit_number h i n q ∙ ap suc (show_consistent h).commits_counted;
      }

  -- attempts are in order after every list of calls
  in_order : (h : List (Call C)) → InOrder (table_after h).stations (observed e h)
  in_order [] = record { committed_in_order = tt; precede = λ i b. All-nil _ }
  in_order (c ∷ h) =
      in_order_after apply (table_after h) (table_after (c ∷ h)) (observed e h) c (e h c) (e h) (e (c ∷ h)) refl (tells (c ∷ h))
      (show_consistent h).invariant (show_consistent (c ∷ h)).invariant (next_ends h (show_consistent h).invariant c)
      (heard_matches apply show (table_after (c ∷ h)) (observed e h) c (e h) (e (c ∷ h)) (show_consistent (c ∷ h))) (in_order h)

  -- the ordered part
  ordered : (h : List (Call C)) → Ordered e h
  ordered h = record {
    committed_in_order = (in_order h).committed_in_order;
    predecessors_stand = ordered_from (tells h)
        (show_consistent h).invariant (observed e h) (in_order h);
  }

  -- the live part
  live : (h : List (Call C)) → Live e h
  live h =
      record {
        oldest_runs = λ i q. oldest_stands (tells h) (show_consistent h).invariant (show_consistent h).blocked i q;
        oldest_commits = λ i q. (
          suc (table_after h).commits,
          answer_accepted apply (named (Commit i ∷ h)) (Commit i) (table_after h) (oldest_commit_accepted (tells h)
              (show_consistent h).invariant (show_consistent h).blocked i q (named (Commit i ∷ h))),
        );
        oldest_not_wounded = λ i q c n.
            oldest_not_wounded (tells h) (show_consistent h).invariant (show_consistent h).blocked i q c (e h c) (tells (c ∷ h))
            (show_consistent (c ∷ h)).invariant (next_ends h (show_consistent h).invariant c) n;
      }

-- the runs of the rules obey the law
pub lawful : (V C : Type 0) → Lawful V C
lawful V C apply named first records show =
    record {
      serial = serial apply named first records show;
      ordered = ordered apply named first records show;
      live = live apply
          named first records show;
    }

-- every table that calls reach from a new one is orderly
pub always_orderly : (V C : Type 0) → AlwaysOrderly V C
always_orderly V C apply named first records show h =
    let v = (show_consistent apply named first records show h).invariant in
    record { held_inside = v.held_inside; awaited_inside = v.awaited_inside; distinct = v.distinct }

-- after every list of calls the show has what the committed attempts, run alone, leave
pub show_left : {V C : Type 0} (apply : V → C → V) (named : List (Call C) → ℕ) (first records : ℕ) (show : ℕ → V) (h : List (Call C)) (r : ℕ) → r < records
    → (table apply named (opened first show records) h).show r ≡ all_left apply (observed (engine apply named (opened first show records)) h).committed show r
show_left apply named first records show h r l = (show_consistent apply named first records show h).values_left r
    (rw (records_stay apply named first records show h) l)
