-- The check of an image: the first fault of the first block that has one, tested in this order.
use Rattle.std.specs.Prelude.{ℕ, zero, suc, ◌+◌, ◌/◌, ◌%◌, Bool, cond, ◌&&◌, List, ◌++◌, length, drop, Some, None, Ok, Err, codes, decimal, Option, Result, ◌==◌, nat_le, slice_index}
use Rattle.std.specs.Str.{bytes_eq}
use Rattle.values.specs.Packing.{number_at}
use Rattle.image.specs.Blocks.{checks, row_of}
use Rattle.image.specs.Images.{block_of}
use Rattle.image.specs.declared.fault.Fault.{Fault}
use Rattle.image.specs.declared.fault.Fault.TheVariants.{Length, Number, Kind, Mark, Check, Row}

-- passed, or the first fault
abbrev pub Verdict : Type 0
Verdict = Result (Unit {0}) Fault

-- the first verdict, or the second where the first passes
abbrev pub and_then : Verdict → Verdict → Verdict
and_then (Ok u) next = next
and_then (Err f) next = Err f

-- n checks, numbered from k on: the first fault
unfoldable pub check_each : (ℕ → Verdict) → ℕ → ℕ → Verdict
check_each check k zero = Ok tt
check_each check k (suc n) = and_then (check k) (check_each check (k + 1) n)

-- a row that does not unpack is a fault: row k of block q, at the byte that the kind names
abbrev pub row_check : {V : Type 0} → ℕ → ℕ → Result V ℕ → Verdict
row_check q k (Ok v) = Ok tt
row_check q k (Err byte) = Err (Row q k byte)

abbrev pub rows_check : {V : Type 0} → (List ℕ → Result V ℕ) → ℕ → List ℕ → Verdict
rows_check unpacked q b = check_each (λ k. row_check q k (unpacked (row_of b k))) 0 31

-- the mark and the four bytes after it are 0
abbrev pub clear : List ℕ → Bool
clear b = slice_index b 3 == 0 && slice_index b 4 == 0 && slice_index b 5 == 0 && slice_index b 6 == 0 && slice_index b 7 == 0

abbrev pub check_fits : List ℕ → Bool
check_fits b = bytes_eq (checks b) (drop 504 b)

abbrev pub block_check : {V : Type 0} → ℕ → (List ℕ → Result V ℕ) → ℕ → List ℕ → Verdict
block_check kind unpacked q b =
    cond (number_at b 0 == q)
    (cond (slice_index b 2 == kind)
    (cond (clear b)
    (cond (check_fits b)
    (rows_check unpacked q b)
    (Err (Check q)))
    (Err (Mark q)))
    (Err (Kind q)))
    (Err (Number q))

abbrev pub blocks_check : {V : Type 0} → ℕ → (List ℕ → Result V ℕ) → List ℕ → Verdict
blocks_check kind unpacked image = check_each (λ q. block_check kind unpacked q (block_of image q)) 0 (length image / 512)

-- 1 to 64 blocks of 512 bytes and no more bytes
abbrev pub whole_blocks : ℕ → Bool
whole_blocks len = len % 512 == 0 && nat_le 1 (len / 512) && nat_le (len / 512) 64

-- any 1 to 64 whole blocks will do
abbrev pub length_check : ℕ → Verdict
length_check len = cond (whole_blocks len) (Ok tt) (Err Length)

abbrev pub image_check : {V : Type 0} → ℕ → (List ℕ → Result V ℕ) → List ℕ → Verdict
image_check kind unpacked image =
    cond (whole_blocks (length image))
    (blocks_check kind unpacked image)
    (Err Length)

-- the block that a fault names, and the row's place in it where a row is the fault
abbrev pub named_block : Fault → Option ℕ
named_block Length = None
named_block (Number q) = Some q
named_block (Kind q) = Some q
named_block (Mark q) = Some q
named_block (Check q) = Some q
named_block (Row q k byte) = Some q

abbrev pub named_row : Fault → Option ℕ
named_row Length = None
named_row (Number q) = None
named_row (Kind q) = None
named_row (Mark q) = None
named_row (Check q) = None
named_row (Row q k byte) = Some k

-- the refusal's number
abbrev pub refusal_number : Fault → ℕ
refusal_number Length = 14
refusal_number (Number q) = 15
refusal_number (Kind q) = 16
refusal_number (Mark q) = 17
refusal_number (Check q) = 18
refusal_number (Row q k byte) = 19

-- the fault in words
abbrev pub fault_text : Fault → List ℕ
fault_text Length = codes "the length is not 1 to 64 blocks of 512 bytes"
fault_text (Number q) = codes "block " ++ (decimal q ++ codes ": the block number is wrong")
fault_text (Kind q) = codes "block " ++ (decimal q ++ codes ": the kind is another")
fault_text (Mark q) = codes "block " ++ (decimal q ++ codes ": the mark or one of bytes 4 to 7 is not 0")
fault_text (Check q) = codes "block " ++ (decimal q ++ codes ": the check does not fit")
fault_text (Row q k byte) = codes "block " ++ (decimal q ++ (codes ", row " ++ (decimal k ++ (codes ": no value has the bytes from byte " ++ (decimal byte ++ codes " on")))))
