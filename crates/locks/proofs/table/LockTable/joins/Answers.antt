use Rattle.std.proofs.Common.{not, ◌&&◌, rules, ap, ◌∙◌}
use Rattle.rules.specs.Searches.{any_below}
use Rattle.locks.specs.View.{member_of}
use Rattle.locks.specs.Asked.{pulls}
use Rattle.locks.proofs.Searches.{any_found}
use Rattle.locks.proofs.table.LockTable.joins.Goals as goal

pub returns-then-not-contains : goal.returns-then-not-contains
returns-then-not-contains c =
    let p = pulls c.args.self.now.stations (member_of c.args.members.now) c.args.i in
    any_found 16 p _ c.any.ensures.ran (λ x b q k. search rules) ∙ ap (λ b. not b && any_below 16 p) c.if-not-contains.ensures
