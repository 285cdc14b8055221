use Rattle.std.proofs.Common.{ℕ, ◌≤◌, false, ◌&&◌, not, length, rules, ap}
use Rattle.std.proofs.lemmas.List.{get_or_past}
use Rattle.locks.specs.View.{member_of}
use Rattle.locks.proofs.Sets.{set_of}
use Rattle.locks.proofs.set.StationSet.without.Goals as goal

pub returns : goal.returns
returns c = set_of (λ j. member_of c.args.self.now j && not (member_of c.args.others.now j)) c.of.result (λ j h. let e = c.of.ensures.members j h in search rules) c.of.ensures.nobody_else
    (λ (j : ℕ) (h : 16 ≤ j). ap (λ b. b && not (member_of c.args.others.now j)) (get_or_past c.args.self.now j false (let full : length c.args.self.now ≤ j = search rules in full)))
