use Rattle.std.proofs.Common.{◌≡◌, ◌<◌, ◌≤◌, length, is_ok, sym, refl, ap, ◌∙◌, subst, rules}
use Rattle.image.specs.Images.{row_count, image_rows, row_written}
use Rattle.image.specs.Sound.{Sound}
use Rattle.image.proofs.RowsWritten.{rows_below, rows_past, rows_written, rows_stay, written_inside, written_past}
use Rattle.image.proofs.Sound.{written_image_of}
use Rattle.image.proofs.shelf.BlockShelfShelf.write.Goals as goal

pub returns : goal.returns
returns g c =
    let home = g.K.Kind.home in let unpacked = g.K.Kind.unpacked in
    let image = c.args.self.now.image.now in let n = c.args.n in let v = c.args.v in
    let h : n < row_count (length image) = search rules in
    let size = (g.met.K.Kind.packed_size v).0 in
    let back = g.met.K.Kind.unpacks_packed v in
    let put = c.put.ensures ∙ ap (row_written image n) c.pack.ensures in
    record {
      answer = let below = rows_below home unpacked image n h in search rules;
      after = ap (image_rows home unpacked) put ∙ rows_written home unpacked image n (g.K.Kind.packed v) v h size back;
      memory = refl;
      bytes = put ∙ written_inside image n (g.K.Kind.packed v) h;
      sound = λ s. subst (Sound g.K.Kind.NUMBER unpacked) (sym put) (written_image_of g.K.Kind.NUMBER (λ b. is_ok (unpacked b) ≡ _) image n (g.K.Kind.packed v) h size (ap is_ok back) s);
    }

pub returns-then-n-rows_in : goal.returns-then-n-rows_in
returns-then-n-rows_in g c =
    let home = g.K.Kind.home in let unpacked = g.K.Kind.unpacked in
    let image = c.args.self.now.image.now in let n = c.args.n in
    let h : row_count (length image) ≤ n = search rules in
    record {
      answer = let past = rows_past home unpacked image n h in search rules;
      after = rows_stay home unpacked image n c.args.v h;
      memory = refl;
      bytes = written_past image n (g.K.Kind.packed c.args.v) h;
      sound = λ s. s;
    }
