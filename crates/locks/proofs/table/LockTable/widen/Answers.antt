use Rattle.std.proofs.Common.{◌<◌, sym, subst, arith}
use Rattle.locks.specs.View.{bare, member_of}
use Rattle.locks.proofs.Widening.{outside, Widens, widens_from, widens_joined, widens_closed, fewer_outside}
use Rattle.locks.proofs.table.LockTable.widen.Goals as goal

pub loop-k-init : goal.loop-k-init
loop-k-init c = widens_from (bare c.args.self.now.stations) (member_of c.args.members)

pub loop-k-smaller : goal.loop-k-smaller
loop-k-smaller c =
    let t = bare c.args.self.now.stations in
    let members = member_of c.loop-k.widened in
    let fewer = fewer_outside t members c.in-Some.k c.in-Some.ensures.first in
    subst (λ ms. outside ms < outside members) (sym c.insert.ensures) (omega (arith, fewer))

pub loop-k-preserved : goal.loop-k-preserved
loop-k-preserved c =
    let t = bare c.args.self.now.stations in
    subst (Widens t (member_of c.args.members)) (sym c.insert.ensures)
    (widens_joined t (member_of c.loop-k.widened) c.in-Some.k c.in-Some.ensures.first (member_of c.args.members) c.loop-k.invariant)

pub returns : goal.returns
returns c = widens_closed (bare c.args.self.now.stations) (member_of c.args.members) (member_of c.loop-k.widened) c.loop-k.invariant c.in_default.ensures.first
