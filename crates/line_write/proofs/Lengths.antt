-- How long a unit is.
use Rattle.std.proofs.Common.{◌≡◌, ◌≤◌, ℕ, ◌+◌, List, [], ◌∷◌, ◌++◌, length, arith, length-append}
use Rattle.std.specs.Prelude.{flat_map}
use Rattle.byte_write.specs.Numbers.{half, word}
use Rattle.line_write.specs.Unit.{Sequence, numbers, file_entry, header, with_count, program, body, unit}

pub length-counted : (bytes : List ℕ) → length (with_count bytes) ≡ length bytes + 4
unfolding word
length-counted bytes = omega (arith, length-append (word (length bytes)) bytes)

pub length-versioned : (bytes : List ℕ) → length (half 4 ++ bytes) ≡ 2 + length bytes
unfolding half
length-versioned bytes = length-append (half 4) bytes

pub length-body : (header program : List ℕ) → length (body header program) ≡ 6 + length header + length program
length-body header program =
    omega (arith, length-versioned (with_count header ++ program), length-append (with_count header) program, length-counted header)

pub length-unit : (all : List Sequence) → length (unit all) ≡ 10 + length (header all) + length (program 1 all)
unfolding unit
length-unit all = omega (arith, length-counted (body (header all) (program 1 all)), length-body (header all) (program 1 all))

few_entries : (all : List Sequence) → length all ≤ length (flat_map file_entry all)
few_entries [] = omega arith
few_entries (s ∷ more) = omega (arith, few_entries more, length-append (file_entry s) (flat_map file_entry more), length-append s.path (0 ∷ 0 ∷ 0 ∷ 0 ∷ []))

pub few_sequences : (all : List Sequence) → length all ≤ length (header all)
few_sequences all =
    omega (arith, few_entries all, length-append (numbers ++ 0 ∷ []) (flat_map file_entry all ++ 0 ∷ []), length-append (flat_map file_entry all) (0 ∷ []))
