use Rattle.std.proofs.Common.{◌≡◌, ◌≢◌, ℕ, true, List, length, Err, sym, ⊎_elim, ne_eqb}
use Rattle.values.specs.declared.name.KindName.TheVariants.{Level, Timing}
use Rattle.image.specs.Faults.{whole_blocks}
use Rattle.image.specs.declared.fault.Fault.TheVariants as fault
use Rattle.plot_image.specs.Host.{host_check, SoundOf}
use Rattle.plot_image.proofs.check_as.Goals as goal

-- a number that no kind has is a fault of block 0, after a wrong length
other_kind : (kind : ℕ) (image : List ℕ) → 1 ≢ kind → 2 ≢ kind → true ≡ whole_blocks (length image) → Err (fault.Kind 0) ≡ host_check kind image
other_kind kind image level timing whole = simp (ne_eqb kind 1 (λ e. level (sym e)), ne_eqb kind 2 (λ e. timing (sym e)), sym whole)

-- and no image is sound of such a kind
not_sound : (kind : ℕ) (image : List ℕ) → 1 ≢ kind → 2 ≢ kind → SoundOf kind image → ⊥
not_sound kind image level timing sound = ⊎_elim (λ h. level (sym h.0)) (λ h. timing (sym h.0)) sound

pub returns-in-Err-clause-answer : goal.returns-in-Err-clause-answer
returns-in-Err-clause-answer c =
    let other = c.in-Err.ensures.1 in
    other_kind c.args.kind c.args.image.now (other Level) (other Timing) c.if-is_whole.ensures

pub returns-in-Err-clause-only : goal.returns-in-Err-clause-only
returns-in-Err-clause-only c sound =
    let other = c.in-Err.ensures.1 in
    absurd (not_sound c.args.kind c.args.image.now (other Level) (other Timing) sound)
