use Rattle.std.proofs.Common.{false, ◌≡◌, Bool, length, count_by, rules, ap, ◌∙◌}
use Rattle.rules.specs.Searches.{count_below}
use Rattle.locks.specs.View.{member_of}
use Rattle.locks.proofs.Places.{count_by_place}
use Rattle.locks.proofs.set.StationSet.count.Goals as goal

pub returns : goal.returns
returns c =
    let members = c.args.self.now in
    let e : c.count.result ≡ count_by (λ (b : Bool). b) members = search rules in
    e ∙ count_by_place (λ b. b) false members ∙ ap (λ n. count_below n (member_of members)) (let long : length members ≡ 16 = search rules in long)
