use Rattle.std.proofs.Common.{◌&&◌, eqb, ltb, rules}
use Rattle.std.proofs.lemmas.Bool.{lt-ltb, le-ltb}
use Rattle.locks.proofs.Sets.{set_of}
use Rattle.locks.proofs.set.StationSet.alone.Goals as goal

pub returns : goal.returns
returns c = set_of (λ j. ltb j 16 && eqb j c.args.s) c.of.result (λ j h. let e = c.of.ensures.members j h in search (rules, lt-ltb)) c.of.ensures.nobody_else (λ j h. search (rules, le-ltb))
