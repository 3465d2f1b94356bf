-- A unit byte for byte, and the lines that it gives.
use Rattle.std.proofs.Common.{◌≡◌, [], ◌∷◌, refl, Some, None}
use Rattle.std.specs.Prelude.{codes}
use Rattle.byte_write.specs.Numbers.{half, word, double, leb}
use Rattle.line_write.specs.Unit.{Sequence, unit}
use Rattle.line_write.specs.Lines.{first_line}

-- line 7 of `m.c` at four addresses within the function `f`, which is line 1 of its own file
abbrev kept : Sequence
kept = record { path = codes "m.c"; number = 7; address = 0x10008; size = 4 }

abbrev function : Sequence
function = record { path = codes "f"; number = 1; address = 0x10000; size = 16 }

kept_first : first_line (kept ∷ function ∷ []) 0x10008 ≡ Some (record { path = codes "m.c"; number = 7 })
kept_first = refl

function_around : first_line (kept ∷ function ∷ []) 0x1000C ≡ Some (record { path = codes "f"; number = 1 })
function_around = refl

-- its end is not one of its addresses
none_behind : first_line (kept ∷ function ∷ []) 0x10010 ≡ None
none_behind = refl

one_unit : unit (function ∷ []) ≡
    69 ∷ 0 ∷ 0 ∷ 0 ∷ 4 ∷ 0 ∷ 25 ∷ 0 ∷ 0 ∷ 0 ∷ 4 ∷ 1 ∷ 1 ∷ 251 ∷ 14 ∷ 13 ∷ 0 ∷ 1 ∷ 1 ∷ 1 ∷ 1 ∷ 0 ∷ 0 ∷ 0 ∷ 1 ∷ 0 ∷ 0 ∷ 1 ∷ 0 ∷ 102 ∷ 0 ∷ 0 ∷ 0 ∷ 0 ∷ 0 ∷ 0 ∷ 9 ∷ 2 ∷ 0 ∷ 0 ∷ 1 ∷ 0 ∷ 0 ∷ 0 ∷ 0 ∷ 0 ∷ 4 ∷ 129 ∷ 128 ∷ 128 ∷ 128 ∷ 0 ∷ 3 ∷ 128 ∷ 128 ∷ 128 ∷ 128 ∷ 0 ∷ 1 ∷ 0 ∷ 9 ∷ 2 ∷ 16 ∷ 0 ∷ 1 ∷ 0 ∷ 0 ∷ 0 ∷ 0 ∷ 0 ∷ 0 ∷ 1 ∷ 1 ∷ []
unfolding half word double leb unit
one_unit = refl
