use Rattle.std.proofs.Common.{◌≡◌, ◌≢◌, slice_index, rules}
use Rattle.std.proofs.lemmas.Iterator.{first_from_Range}
use borrow.Author.Tests.{tests}
use Rattle.values.proofs.Nonzero.{first_is}
use Rattle.values.proofs.packing.first_nonzero.Goals as goal

pub returns : goal.returns
returns c =
    let b = c.args.b in
    first_is b c.args.start 16 c.find.result (search rules)
    (first_from_Range _ _ _ c.find.result (λ k. slice_index b k ≢ 0) (λ k. slice_index b k ≡ 0) c.find.ensures.ran (λ x q k. search (rules, tests)) (λ x q k. search (rules, tests)))
