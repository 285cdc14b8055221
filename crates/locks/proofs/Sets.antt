-- Sets of stations: how they are made, and how their members are counted.
use Rattle.std.proofs.Common.{◌≡◌, ℕ, zero, suc, ◌+◌, ◌<◌, ◌≤◌, Bool, false, List, get_or, sym, refl, ◌∙◌, subst, ⊎_elim, arith}
use mathlib.Core.Path.{fun_ext}
use denote.Param.Members.{Mut, Called}
use Rattle.std.specs.Array.{index_steps, IsFromFnResultFrom}
use Rattle.std.specs.Iterator.{CallableAtEachTurn}
use Rattle.std.proofs.lemmas.Bool.{cases_eq, cases_lt}
use Rattle.std.proofs.lemmas.Fn.{serves_by}
use Rattle.locks.specs.View.{member_of}

-- what no call changes may be asked at each number below n
pub serves_below : {P : Type 0} {R : P → ℕ → P → Type 0} {Q : P → ℕ → Type 0} {n : ℕ} {p : P}
    → ((x : ℕ) (q : P) → R p x q → q ≡ p) → ((x : ℕ) → x < n → Q p x) → CallableAtEachTurn (index_steps n) R Q 0 p
serves_below {P} {R} {Q} {n} {p} stays asks =
    serves_by R (λ _ q. q ≡ p) (λ xs q x w j r. stays x w (subst (λ k. R k x w) j r)) (index_steps n) Q 0 p refl
    (λ xs t q x u y e j. subst (λ k. Q k x) (sym j) (asks x (omega (arith, e.0, e.1))))

-- each element of an array that is made so is what a call at its place gave
pub made_at : {F B : Type 0} (g : Mut F (ℕ × Unit {0}) B) (f : F) (ys : List B) (stays : (i : ℕ) (y : B) (q : F) → Called g f (i, tt) y q → q ≡ f)
    → (n i : ℕ) → IsFromFnResultFrom g f ys i n → (k : ℕ) → i ≤ k → k < i + n → (d : B) → (q : F) × Called g f (k, tt) (get_or ys k d) q
made_at g f ys stays zero i made k l h d = absurd (omega arith)
made_at {F} {B} g f ys stays (suc n) i made k l h d =
    let rest = subst (λ q. IsFromFnResultFrom g q ys (i + 1) n) (stays i made.1 made.0 made.3) made.4 in
    ⊎_elim here (λ ne. made_at g f ys stays n (i + 1) rest k (omega arith) (omega arith) d) (cases_eq k i)
  where
    here : k ≡ i → (q : F) × Called g f (k, tt) (get_or ys k d) q
    here e = (made.0, rw e (subst (λ y. Called g f (i, tt) y made.0) (sym (made.2.1 d)) made.3))

-- a set with these answers below sixteen, and nobody else, is the set of those who pass
pub set_of : (p : ℕ → Bool) (members : List Bool) → ((j : ℕ) → j < 16 → member_of members j ≡ p j)
    → ((j : ℕ) → 16 ≤ j → member_of members j ≡ false) → ((j : ℕ) → 16 ≤ j → p j ≡ false) → member_of members ≡ p
set_of p members below past none = fun_ext (λ j. ⊎_elim (below j) (λ h. past j h ∙ sym (none j h)) (cases_lt j 16))
