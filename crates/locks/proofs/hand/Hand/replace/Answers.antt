use Rattle.std.proofs.Common.{◌≡◌, ◌<◌, ◌≤◌, length, set, take, sym, ap, ◌∙◌, subst, arith, length-set, length-take-le}
use Rattle.std.proofs.Math.Seq.{take-set-lt}
use Rattle.locks.specs.Hand.{padded}
use Rattle.locks.proofs.Padded.{padded_over}
use Rattle.locks.proofs.hand.Hand.replace.Goals as goal

pub invariant_of-self : goal.invariant_of-self
invariant_of-self c =
    let places = c.self.inside.places in
    let held = c.self.inside.held in
    let full : length places ≡ 16 = c.self.invariant.1 in
    let below : held ≤ length places = let l = c.self.invariant.0 in omega (arith, l, full) in
    let used : length (take held places) ≡ held = length-take-le held places below in (
      c.self.invariant.0,
      length-set places c.args.k c.args.hold ∙ full,
      ap (λ xs. set xs c.args.k c.args.hold) c.self.invariant.2
          ∙ padded_over (take held places) c.args.k c.args.hold (subst (λ n. c.args.k < n) (sym used) c.if-k-self.true)
          ∙ ap padded (sym (take-set-lt held places c.args.k c.args.hold c.if-k-self.true)),
    )

pub returns-then-k-self : goal.returns-then-k-self
returns-then-k-self c =
    take-set-lt c.self.inside.held c.self.inside.places c.args.k c.args.hold c.if-k-self.true
    ∙ ap (λ h. set h.items c.args.k c.args.hold) c.self.view_is
