-- Timings that are made of times and a link which were tested before.
use Rattle.std.proofs.Common.{◌≡◌, ℕ, Option, Some, None, Ok, Result, refl, ap, ◌∙◌, cond, true, nat_le, Bool, false, Err, arith, le-leb}
use Rattle.values.specs.Packing.{value_unless}
use Rattle.values.specs.Links.{link_of, link_read}
use Rattle.values.specs.Timings.{timing, timing_read}
use Rattle.values.specs.Equality.{same_timing}
use Rattle.values.specs.declared.timing.Timing.{Timing}
use Rattle.values.specs.declared.timing.link.Link.{Link}
use Rattle.values.specs.declared.timing.numbers.TimingNumbers.{TimingNumbers}

-- what passes a test of one place did not offend there
pub passed : {V : Type 0} (o : Option ℕ) (v x : V) → Ok x ≡ value_unless o v → (o ≡ None) × (x ≡ v)
passed None v x e = (refl, cc)
passed (Some k) v x e = absurd cc

-- a timing is the one that is made of its times and its link
pub made_again : (v : Timing) (up down wait : ℕ) (link : Link) → v.up ≡ up → v.down ≡ down → v.wait ≡ wait → v.link ≡ link → v ≡ timing up down wait link
made_again v up down wait link a b c d = same_timing _ _ (let h = v.ok.0 in omega arith) (let h = v.ok.1 in omega arith) (let h = v.ok.2 in omega arith) d

-- what passes a test is what the test lets through
let_through : {V E : Type 0} (b : Bool) (x y : V) (z : E) → Ok x ≡ cond {A = Result V E} b (Ok y) (Err z) → (b ≡ true) × (x ≡ y)
let_through true x y z e = (refl, cc)
let_through false x y z e = absurd cc

-- numbers that a timing has read as it
pub reads : (v : Timing) (n : TimingNumbers) (l : Link) → v.up ≡ n.up → v.down ≡ n.down → v.wait ≡ n.wait → v.link ≡ l → Ok l ≡ link_read n.link → Ok v ≡ timing_read n
reads v n l a b c d e =
    let link = let_through (nat_le n.link 2) l (link_of n.link) _ e in
    let p : nat_le n.up 36000 ≡ true = le-leb _ _ (let h = v.ok.0 in omega arith) in
    let q : nat_le n.down 36000 ≡ true = le-leb _ _ (let h = v.ok.1 in omega arith) in
    let r : nat_le n.wait 36000 ≡ true = le-leb _ _ (let h = v.ok.2 in omega arith) in
    simp (p, q, r, link.0) (ap Ok (made_again v n.up n.down n.wait (link_of n.link) a b c (d ∙ link.1)))
