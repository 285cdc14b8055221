use Rattle.std.proofs.Common.{◌≡◌, List, ℕ, take, drop, length-drop, take_all, ap, ◌∙◌, arith}
use Rattle.std.specs.Str.{bytes_eq}
use Rattle.image.specs.Blocks.{checks}
use Rattle.image.proofs.check.check_fits.Goals as goal

pub returns : goal.returns
returns c =
    let b = c.args.block.now in
    let l = length-drop 504 b in
    let rest : take 8 (drop 504 b) ≡ drop 504 b = take_all 8 (drop 504 b) (omega arith) in
    c.eq.ensures ∙ ap (λ (t : List ℕ). bytes_eq t (take 8 (drop 504 b))) c.check_of.ensures ∙ ap (bytes_eq (checks b)) rest
