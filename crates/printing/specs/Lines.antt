-- What the contracts of `printing`'s lines cite: which bytes stand in a line of 160 after some are put there. `sets` are the library's stores
-- one after the other. Assumes nothing.
use Rattle.std.specs.Prelude.{ℕ, ◌+◌, ◌-◌, List, ◌++◌, length, take, replicate}
use Rattle.std.proofs.lemmas.List.Edits.{sets}
use Rattle.rules.specs.Sheet.{decimal}
use Rattle.printing.specs.declared.line.Line.{Line}

-- of the bytes from `at` on those that fit; the others are left out
abbrev pub fitting : ℕ → List ℕ → List ℕ
fitting at bytes = take (160 - at) bytes

-- the line with the bytes in it, and where the next byte goes
abbrev pub line_after : List ℕ → ℕ → List ℕ → List ℕ
line_after line at bytes = sets line at (fitting at bytes)

abbrev pub place_after : ℕ → List ℕ → ℕ
place_after at bytes = at + length (fitting at bytes)

abbrev pub blanks : ℕ → List ℕ
blanks n = replicate n 32

-- a number at the right end of `width` columns, or of as many as it has digits
abbrev pub padded : ℕ → ℕ → List ℕ
padded n width = blanks (width - length (decimal n)) ++ decimal n

-- the line with the bytes put where the next one goes
abbrev pub with_bytes : Line → List ℕ → Line
with_bytes line bytes = record { bytes = line_after line.bytes line.at bytes; at = place_after line.at bytes }
