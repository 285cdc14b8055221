use Rattle.std.proofs.Common.{false, of_calls, zero-le, arith}
use Rattle.locks.proofs.Sets.{serves_below, made_at}
use Rattle.locks.proofs.set.StationSet.of.Goals as goal

pub from_fn-requires : goal.from_fn-requires
from_fn-requires g c = (omega arith, serves_below (λ x q r. g.met.F.Fn.1.step_stays _ _ _ _ r.1) (λ x h. c.requires x h))

pub returns-clause-members : goal.returns-clause-members
returns-clause-members g c j h =
    let made = made_at _ c.args.passes c.from_fn.result (λ i y q r. g.met.F.Fn.1.step_stays _ _ _ _ r) 16 0 c.from_fn.ensures.items.each j zero-le h false in
    search of_calls
