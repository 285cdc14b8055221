-- A run, call by call, and the promise of the whole.
use Rattle.std.proofs.Common.{◌≡◌, ℕ, ◌+◌, ◌-◌, ◌<◌, ◌≤◌, List, [], ◌∷◌, map, length, get_or, set, Some, sym, refl, ap, ◌∙◌, subst, ⊎_elim, arith, length-set}
use Rattle.std.proofs.lemmas.Bool.{cases_lt, cases_eq}
use Rattle.std.proofs.lemmas.List.{get_or-set_same, get_or-set_other, get_or-map, take_all, length-map}
use Rattle.rules.specs.declared.Answer.{Answer}
use Rattle.rules.specs.declared.Call.{Call}
use Rattle.rules.specs.declared.Call.TheVariants.{Count}
use Rattle.rules.specs.Tables.{Table}
use Rattle.rules.specs.Naming.{MayName}
use Rattle.rules.specs.Calls.{step, opened}
use Rattle.rules.specs.Orderly.{Orderly}
use Rattle.law.specs.Runs.{table, engine}
use Rattle.law.proofs.Theorem.{lawful, always_orderly, show_left}
use Rattle.runs.specs.declared.played.Played.{Played}
use Rattle.runs.specs.LawfulRun.{call_of, onto, LawfulRun}
use Rattle.runs.proofs.Histories.{no_entry, before, before_more, before_length, all_answered}
use Rattle.runs.proofs.Tables.{same_step, same_tables, all_named}

module _ {V C : Type 0} (apply : V → C → V) (first records : ℕ) (show : ℕ → V) where
  -- the tables of the run, which do not depend on the stations named
  abbrev pub reached : List (Call C) → Table V
  reached h = table apply (λ _. 0) (opened first show records) h

  -- every table of the run is orderly
  pub reached_orderly : (h : List (Call C)) → Orderly (reached h)
  reached_orderly h = always_orderly V C apply (λ _. 0) first records show h

  -- a call was answered by the rules, with some station named that it may name
  abbrev pub AnsweredBy : Call C → Table V → Answer V → Table V → Type 0
  AnsweredBy c t a u = (named : ℕ) × MayName c t named × ((a, u) ≡ step apply named c t)

  -- entry k of the script was answered by the rules, with some station named that it may name
  abbrev pub AnsweredAt : List (Call C) → List (Played V C) → ℕ → Type 0
  AnsweredAt calls entries k =
      (named : ℕ) × MayName (get_or calls k Count) (reached (before calls k)) named
      × (get_or entries k no_entry ≡ record { call = get_or calls k Count; answer = Some (step apply named (get_or calls k Count) (reached (before calls k))).0 })

  -- what holds after the first n calls of a script
  pub record After (script entries : List (Played V C)) (n : ℕ) (t : Table V) : Type 0 where
    pub long : length entries ≡ length script
    pub table_now : t ≡ reached (before (map call_of script) n)
    pub ahead : (k : ℕ) → n ≤ k → get_or entries k no_entry ≡ get_or script k no_entry
    pub behind : (k : ℕ) → k < n → AnsweredAt (map call_of script) entries k

  -- at the start
  pub after_none : (script : List (Played V C)) (t : Table V) → t ≡ opened first show records → After script script 0 t
  after_none script t e = record { long = refl; table_now = e; ahead = λ k l. refl; behind = λ k l. absurd (omega (arith, l)) }

  -- one call more
  pub after_more : (script entries : List (Played V C)) (n : ℕ) (t u : Table V) (c : Call C) (a : Answer V) → After script entries n t → n < length script → c ≡ (get_or entries n no_entry).call
      → (Orderly t → AnsweredBy c t a u) → After script (set entries n (record { call = c; answer = Some a })) (n + 1) u
  after_more script entries n t u c a done low this ruled =
      record {
        long = length-set entries n new ∙ done.long;
        table_now = ap (λ (p : Answer V × Table V). p.1) one.2 ∙ same_step apply one.0 0 c t ∙ ap (λ (x : Call C). (step apply 0 x t).1) this_call
            ∙ ap (λ (x : Table V). (step apply 0 (get_or calls n Count) x).1) done.table_now ∙ sym (ap reached (before_more calls n Count inside));
        ahead = λ k l. get_or-set_other entries n k new no_entry (λ (e : k ≡ n). absurd (omega (arith, l, e))) ∙ done.ahead k (omega (arith, l));
        behind = λ k l. ⊎_elim (here k) (earlier k l) (cases_eq k n);
      }
    where
      calls : List (Call C)
      calls = map call_of script

      new : Played V C
      new = record { call = c; answer = Some a }

      inside : n < length calls
      inside = let e = length-map script (call_of {V = V} {C = C}) in omega (arith, low, e)

      room : n < length entries
      room = let e = done.long in omega (arith, low, e)

      this_call : c ≡ get_or calls n Count
      this_call = this ∙ ap (λ (p : Played V C). p.call) (done.ahead n (omega arith)) ∙ sym (get_or-map call_of script n no_entry Count low)

      one : AnsweredBy c t a u
      one = ruled (subst Orderly (sym done.table_now) (reached_orderly (before calls n)))

      here : (k : ℕ) → k ≡ n → AnsweredAt calls (set entries n new) k
      here k e = subst (AnsweredAt calls (set entries n new)) (sym e) (
        one.0,
        subst (λ (x : Table V). MayName (get_or calls n Count) x one.0) done.table_now (subst (λ (x : Call C). MayName x t one.0) this_call one.1),
        get_or-set_same entries n new no_entry room
            ∙ ap (λ (x : Answer V). record { call = c; answer = Some x }) (ap (λ (p : Answer V × Table V). p.0) one.2)
            ∙ ap (λ (x : Call C). record { call = x; answer = Some (step apply one.0 x t).0 }) this_call
            ∙ ap (λ (x : Table V). record { call = get_or calls n Count; answer = Some (step apply one.0 (get_or calls n Count) x).0 }) done.table_now,
      )

      earlier : (k : ℕ) → k < n + 1 → (k ≡ n → ⊥) → AnsweredAt calls (set entries n new) k
      earlier k l ne =
          let old = done.behind k (⊎_elim (λ (s : k < n). s) (λ (g : n ≤ k). absurd (ne (omega (arith, l, g)))) (cases_lt k n)) in
          (old.0, old.1, get_or-set_other entries n k new no_entry ne ∙ old.2)

  -- after the last call
  pub after_all : (script entries : List (Played V C)) (n : ℕ) (t : Table V) → After script entries n t → length script ≤ n → n ≤ length script
      → LawfulRun apply (opened first show records) (map call_of script) entries t
  after_all script entries n t done most least =
      record {
        named = named;
        names_freely = all_named (table apply named start) named [] calls (λ k l. subst (λ (x : Table V). MayName (get_or calls k Count) x (named (get_or calls k Count ∷ before calls k))) (same_tables apply (λ _. 0) named start (before calls k))
            (subst (MayName (get_or calls k Count) (reached (before calls k))) (sym (named_here k l)) ((picks k).1 l).0));
        answers = all_answered (engine apply named start) [] calls entries (done.long ∙ sym count) (λ k l. ((picks k).1 l).1
            ∙ ap (λ (j : ℕ). record { call = get_or calls k Count; answer = Some (step apply j (get_or calls k Count) (reached (before calls k))).0 }) (sym (named_here k l))
            ∙ ap (λ (x : Table V). record { call = get_or calls k Count; answer = Some (step apply (named (get_or calls k Count ∷ before calls k)) (get_or calls k Count) x).0 }) (same_tables apply (λ _. 0) named start (before calls k)));
        table_left = table_end;
        law = lawful V C apply named first records show;
        show_left = λ r l. ap (λ (x : Table V). x.show r) table_end ∙ show_left apply named first records show (onto [] calls) r l;
      }
    where
      calls : List (Call C)
      calls = map call_of script

      start : Table V
      start = opened first show records

      count : length calls ≡ length script
      count = length-map script (call_of {V = V} {C = C})

      -- the station named at call k, and that it may be named
      picks : (k : ℕ) → (n : ℕ) × (k < length calls → MayName (get_or calls k Count) (reached (before calls k)) n
          × (get_or entries k no_entry ≡ record { call = get_or calls k Count; answer = Some (step apply n (get_or calls k Count) (reached (before calls k))).0 }))
      picks k = ⊎_elim
          (λ (l : k < n). let x = done.behind k l in (x.0, λ _. (x.1, x.2)))
          (λ (g : n ≤ k). (0, λ (l : k < length calls). absurd (omega (arith, l, g, most, count))))
          (cases_lt k n)

      named : List (Call C) → ℕ
      named h = (picks (length h - 1)).0

      named_here : (k : ℕ) → k < length calls → named (get_or calls k Count ∷ before calls k) ≡ (picks k).0
      named_here k l =
          let e = before_length calls k (omega (arith, l)) in
          ap (λ (j : ℕ). (picks j).0) (omega (arith, e))

      table_end : t ≡ table apply named start (onto [] calls)
      table_end = done.table_now ∙ ap (λ (l : List (Call C)). reached (onto [] l)) (take_all n calls (omega (arith, count, most))) ∙ same_tables apply (λ _. 0) named start (onto [] calls)
