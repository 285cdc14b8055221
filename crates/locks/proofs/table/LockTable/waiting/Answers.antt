use Rattle.std.proofs.Common.{◌≡◌, ℕ, ◌≤◌, length, rules, ap, arith}
use Rattle.std.proofs.lemmas.List.{get_or_past}
use Rattle.rules.specs.Tables.{is_waiting}
use Rattle.locks.specs.declared.station.Station.{Station}
use Rattle.locks.specs.View.{bare, no_station, phase_of}
use Rattle.locks.proofs.Sets.{set_of}
use Rattle.locks.proofs.table.LockTable.waiting.Goals as goal

pub returns : goal.returns
returns c =
    let xs = c.args.self.now.stations in
    let full : length xs ≡ 16 = c.args.self.now.full in
    set_of (λ j. is_waiting (bare xs j).phase) c.of.result (λ j h. let e = c.of.ensures.members j h in search rules) c.of.ensures.nobody_else
    (λ (j : ℕ) (h : 16 ≤ j). ap (λ (s : Station). is_waiting (phase_of s.phase)) (get_or_past xs j no_station (omega arith)))
