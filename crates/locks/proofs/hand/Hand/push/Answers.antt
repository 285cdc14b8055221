use Rattle.std.proofs.Common.{rules, ◌≡◌, ◌<◌, ◌≤◌, length, set, take, sym, ap, ◌∙◌, subst, arith, length-set, length-take-le}
use Rattle.std.proofs.lemmas.List.{take_more_set}
use Rattle.locks.specs.Hand.{padded}
use Rattle.locks.proofs.Padded.{padded_more}
use Rattle.locks.proofs.hand.Hand.push.Goals as goal

pub invariant_of-self : goal.invariant_of-self
invariant_of-self c =
    let places = c.self.inside.places in
    let held = c.self.inside.held in
    let full : length places ≡ 16 = c.self.invariant.1 in
    let below : held ≤ length places = let l = c.self.invariant.0 in omega (arith, l, full) in
    let used : length (take held places) ≡ held = length-take-le held places below in
    let room : held < 16 = search rules in (
      omega (arith, room),
      length-set places held c.args.hold ∙ full,
      ap (λ xs. set xs held c.args.hold) c.self.invariant.2
          ∙ ap (λ n. set (padded (take held places)) n c.args.hold) (sym used)
          ∙ padded_more (take held places) c.args.hold (subst (λ n. n < 16) (sym used) room)
          ∙ ap padded (sym (take_more_set places held c.args.hold (omega (arith, room, full)))),
    )
