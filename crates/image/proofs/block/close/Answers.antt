use Rattle.std.proofs.Common.{set, sym, refl, ◌∙◌}
use Rattle.std.proofs.lemmas.Slice.{put_mid-paste}
use Rattle.image.specs.Blocks.{checks}
use Rattle.image.proofs.Blocks.{length_checks}
use Rattle.image.proofs.block.close.Goals as goal

pub returns : goal.returns
returns c =
    let marked = set c.args.block.now 3 0 in
    put_mid-paste 504 8 marked c.copy_from_slice.new.self (checks marked) 8 (c.copy_from_slice.ensures.after ∙ c.check_of-check.ensures) refl (sym (length_checks marked))
