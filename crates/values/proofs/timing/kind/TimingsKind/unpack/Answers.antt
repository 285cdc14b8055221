use Rattle.std.proofs.Common.{Ok, ap, sym}
use Rattle.values.specs.Packing.{number_at}
use Rattle.values.specs.Timings.{time_offence, link_offence}
use Rattle.values.proofs.Timed.{passed, made_again}
use Rattle.values.proofs.timing.kind.TimingsKind.unpack.Goals as goal

pub returns-in-None : goal.returns-in-None
returns-in-None c =
    let b = c.args.b in
    let up = passed (time_offence b 0) _ _ c.in_ok-up.ensures in
    let down = passed (time_offence b 2) _ _ c.in_ok-down.ensures in
    let wait = passed (time_offence b 4) _ _ c.in_ok-wait.ensures in
    let link = passed (link_offence b) _ _ c.in_ok-link.ensures in
    simp (up.0, down.0, wait.0, link.0, sym c.in-None.ensures) (ap Ok (made_again _ (number_at b 0) (number_at b 2) (number_at b 4) _ up.1 down.1 wait.1 link.1))
