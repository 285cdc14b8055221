use Rattle.std.proofs.Common.{◌≡◌, ℕ, false, not, get_or, Some, None, sym, refl, ap, ◌∙◌}
use Rattle.std.proofs.lemmas.Option.{some_pair_parts}
use Rattle.rules.specs.declared.Mode.{Mode}
use Rattle.rules.specs.Searches.{any_below}
use Rattle.rules.specs.Tables.{Stations}
use Rattle.rules.specs.Operations.{blocks, ready, grantable}
use Rattle.locks.specs.declared.station.Phase.{Phase}
use Rattle.locks.specs.declared.station.Phase.TheVariants.{Idle, Running, Waiting, Wounded}
use Rattle.locks.specs.View.{bare, no_station, phase_of, awaited_in}
use Rattle.locks.proofs.table.LockTable.ready.Goals as goal

-- a station that waits for the record may be granted it where nobody blocks it
some_awaited : {V : Type 0} (t : Stations V) (i r : ℕ) (m : Mode) (p : Phase) → Some (r, m) ≡ awaited_in p → not (any_below 16 (blocks t i r m)) ≡ ready t i (phase_of p)
some_awaited t i r m Idle e = absurd (cc)
some_awaited t i r m (Running s) e = absurd (cc)
some_awaited t i r m (Waiting s q n) e = let same = some_pair_parts _ _ _ _ e in rw (same.0, same.1) refl
some_awaited t i r m (Wounded s) e = absurd (cc)

-- a station that does not wait has nothing to be granted
none_awaited : {V : Type 0} (t : Stations V) (i : ℕ) (p : Phase) → None ≡ awaited_in p → false ≡ ready t i (phase_of p)
none_awaited t i Idle e = refl
none_awaited t i (Running s) e = refl
none_awaited t i (Waiting s q n) e = absurd (cc)
none_awaited t i (Wounded s) e = refl

pub returns-in-Some : goal.returns-in-Some
unfolding grantable
returns-in-Some c =
    let xs = c.args.self.now.stations in
    ap not c.blocked.ensures ∙ some_awaited (bare xs) c.args.i c.in-Some.at c.in-Some.mode (get_or xs c.args.i no_station).phase (sym c.in-Some.is ∙ c.awaited.ensures)

pub returns-in-None : goal.returns-in-None
unfolding grantable
returns-in-None c =
    let xs = c.args.self.now.stations in
    none_awaited (bare xs) c.args.i (get_or xs c.args.i no_station).phase (sym c.in-None.is ∙ c.awaited.ensures)
