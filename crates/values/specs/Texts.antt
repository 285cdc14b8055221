-- The text of a value, as transcripts print it.
use Rattle.std.specs.Prelude.{ℕ, List, ◌++◌, codes, decimal}
use Rattle.values.specs.Links.{link_number}
use Rattle.values.specs.declared.level.Level.{Level}
use Rattle.values.specs.declared.timing.Timing.{Timing}

abbrev pub level_text : Level → List ℕ
level_text v = decimal v.value

-- UP/DOWN/WAIT/LINK
abbrev pub timing_text : Timing → List ℕ
timing_text v = decimal v.up ++ (codes "/" ++ (decimal v.down ++ (codes "/" ++ (decimal v.wait ++ (codes "/" ++ decimal (link_number v.link))))))
