-- The sixteen places of a hand after a hold is written into one.
use Rattle.std.proofs.Common.{◌≡◌, ℕ, suc, ◌-◌, ◌<◌, List, [], ◌∷◌, ◌++◌, length, set, replicate, sym, ap, ◌∙◌, append_assoc, length-append, length-set, arith}
use Rattle.std.proofs.lemmas.List.{set-append_left}
use Rattle.std.proofs.Math.Seq.{set-append_seam}
use Rattle.locks.specs.declared.station.Hold.{Hold}
use Rattle.locks.specs.Hand.{no_hold, padded}

-- a hold over one that is there
pub padded_over : (holds : List Hold) (k : ℕ) (h : Hold) → k < length holds → set (padded holds) k h ≡ padded (set holds k h)
padded_over holds k h l =
    set-append_left holds _ k h l ∙ ap (λ n. set holds k h ++ replicate (16 - n) no_hold) (sym (length-set holds k h))

-- a hold at the next place
pub padded_more : (holds : List Hold) (h : Hold) → length holds < 16 → set (padded holds) (length holds) h ≡ padded (holds ++ h ∷ [])
padded_more holds h l =
    ap (λ n. set (holds ++ replicate n no_hold) (length holds) h) one_free
    ∙ set-append_seam holds no_hold (replicate (15 - length holds) no_hold) h
    ∙ sym (append_assoc holds (h ∷ []) (replicate (15 - length holds) no_hold))
    ∙ ap (λ n. (holds ++ h ∷ []) ++ replicate n no_hold) (sym left)
  where
    one_free : 16 - length holds ≡ suc (15 - length holds)
    one_free = omega (arith, l)

    left : 16 - length (holds ++ h ∷ []) ≡ 15 - length holds
    left = ap (λ n. 16 - n) (length-append holds (h ∷ [])) ∙ omega (arith, l)
