use Rattle.std.proofs.Common.{◌≡◌, Bool, cond, Err, sym, ap, ◌∙◌}
use Rattle.image.specs.declared.fault.Fault.TheVariants.{Length}
use Rattle.image.specs.Faults.{blocks_check, image_check}
use Rattle.image.proofs.Sound.{sound_passes, passed_sound}
use Rattle.image.proofs.check.image_check.Goals as goal

pub returns : goal.returns
returns g c =
    let kind = g.K.Kind.NUMBER in let unpacked = g.K.Kind.unpacked in let image = c.args.image.now in
    let e : c.check_blocks.result ≡ image_check kind unpacked image = c.check_blocks.ensures ∙ ap (λ (b : Bool). cond b (blocks_check kind unpacked image) (Err Length)) c.if-not-is_whole.ensures in
    record {
      answer = e;
      passes = λ r. passed_sound kind unpacked image (sym e ∙ r);
      only = λ s. e ∙ sound_passes kind unpacked image s;
    }
