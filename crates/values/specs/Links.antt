-- The links of cues by their numbers.
use Rattle.std.specs.Prelude.{ℕ, zero, suc, cond, Ok, Err, Result, nat_le}
use Rattle.values.specs.declared.timing.link.Link.{Link}
use Rattle.values.specs.declared.timing.link.Link.TheVariants.{ByHand, AfterPrevious, WithPrevious}
use Rattle.values.specs.declared.timing.link.UnknownLink.{UnknownLink}

-- the link of a number 0, 1 or 2
abbrev pub link_of : ℕ → Link
link_of zero = ByHand
link_of (suc zero) = AfterPrevious
link_of (suc (suc n)) = WithPrevious

abbrev pub link_number : Link → ℕ
link_number ByHand = 0
link_number AfterPrevious = 1
link_number WithPrevious = 2

-- the link of a number, unless no link has it
abbrev pub link_read : ℕ → Result Link UnknownLink
link_read n = cond (nat_le n 2) (Ok (link_of n)) (Err (record { 0 = n }))
