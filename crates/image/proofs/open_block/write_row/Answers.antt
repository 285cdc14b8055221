use Rattle.std.proofs.Common.{◌≡◌, set, sym, ap, ◌∙◌, rules}
use Rattle.std.specs.Cmp.Lexicographic.{same_text}
use Rattle.image.specs.Blocks.{closed, with_row, row_of}
use Rattle.image.proofs.Blocks.{closed_held, closed_marked}
use Rattle.image.proofs.open_block.write_row.Goals as goal

pub returns-then-holds : goal.returns-then-holds
returns-then-holds c =
    let b = c.args.block.now in let row = c.args.row.now in let k = c.args.k in
    let there : row_of (set b 3 1) k ≡ row = sym (ap (λ t. row_of t k) c.open-open.ensures.opened) ∙ same_text _ _ c.if-holds.ensures in
    let e : closed c.open-open.result.block.now ≡ closed (with_row b k row) = ap closed c.open-open.ensures.opened ∙ closed_held b k row c.told-block c.requires c.told-row there in
    search rules

pub returns : goal.returns
returns c =
    let b = c.args.block.now in let row = c.args.row.now in let k = c.args.k in
    let e : closed c.put.new.self.block.now ≡ closed (with_row b k row) = ap closed (c.put.ensures.after ∙ ap (λ t. with_row t k row) c.open-open.ensures.opened) ∙ closed_marked b k row c.told-block c.requires c.told-row in
    search rules
