-- How long a line program is at most.
use Rattle.std.proofs.Common.{◌≡◌, ◌≤◌, ◌<◌, ℕ, zero, suc, ◌+◌, ◌*◌, ◌/◌, Bool, true, false, List, [], ◌∷◌, ◌++◌, length, refl, arith, length-append, cond, if◌then◌else◌}
use Rattle.std.specs.Prelude.{find, unwrap_or, ℤ, pos, ◌-ℤ◌, ◌==◌, nat_lt, ◌^◌, Some}
use Rattle.rv_decode.specs.Fields.{twos_complement, is_signed}
use Rattle.byte_write.specs.Numbers.{half, word, double, groups, fewest, uleb, sleb}
use Rattle.byte_write.specs.Programs.{advance_pc, advance_line, row, rows, set_address, end_sequence}
use Rattle.image_write.specs.Unit.{line_program, with_count, numbers, files, unit_body, sizes, ended_files, counted_files}

pub length-half : (n : ℕ) → length (half n) ≡ 2
unfolding half
length-half n = refl

pub length-word : (n : ℕ) → length (word n) ≡ 4
unfolding word
length-word n = refl

pub length-double : (n : ℕ) → length (double n) ≡ 8
unfolding double
length-double n = refl

pub length-groups : (k n : ℕ) → length (groups k n) ≡ k
length-groups zero n = refl
length-groups (suc zero) n = refl
length-groups (suc (suc k)) n = omega (arith, length-groups (suc k) (n / 128))

Small : List ℕ → Type 0
Small [] = Unit {0}
Small (x ∷ xs) = (x ≤ 10) × Small xs

found_small : (test : ℕ → Bool) (xs : List ℕ) → Small xs → unwrap_or (find test xs) 10 ≤ 10
unfolding Small
found_small test [] h = omega arith
found_small test (x ∷ xs) h = elim (test x) as (λ b. unwrap_or (cond b (Some x) (find test xs)) 10 ≤ 10) [ true ↦ h.0 | false ↦ found_small test xs h.1 ]

fewest_small : (test : ℕ → Bool) → fewest test ≤ 10
unfolding Small fewest
fewest_small test =
    found_small test (1 ∷ 2 ∷ 3 ∷ 4 ∷ 5 ∷ 6 ∷ 7 ∷ 8 ∷ 9 ∷ 10 ∷ [])
    (omega arith, (omega arith, (omega arith, (omega arith, (omega arith, (omega arith, (omega arith, (omega arith, (omega arith, (omega arith, tt))))))))))

length-uleb : (n : ℕ) → length (uleb n) ≤ 10
length-uleb n = let few = fewest_small (λ k. nat_lt n (2 ^ (7 * k))) in omega (arith, few, length-groups (fewest (λ k. nat_lt n (2 ^ (7 * k)))) n)

length-sleb : (z : ℤ) → length (sleb z) ≤ 10
length-sleb z =
    let count = fewest (λ k. is_signed (7 * k) z) in
    let few = fewest_small (λ k. is_signed (7 * k) z) in
    omega (arith, few, length-groups count (twos_complement (7 * count) z))

length-advance_pc : (words : ℕ) → length (advance_pc words) ≤ 11
length-advance_pc words = elim (words == 0) as (λ b. length (if b then [] else 2 ∷ uleb words) ≤ 11) [ true ↦ omega arith | false ↦ omega (arith, length-uleb words) ]

length-advance_line : (old new : ℕ) → length (advance_line old new) ≤ 11
length-advance_line old new = elim (old == new) as (λ b. length (if b then [] else 3 ∷ sleb (pos new -ℤ pos old)) ≤ 11) [ true ↦ omega arith | false ↦ omega (arith, length-sleb (pos new -ℤ pos old)) ]

length-row : (words old new : ℕ) → length (row words old new) ≤ 23
length-row words old new =
    omega (arith, length-append (advance_pc words ++ advance_line old new) (1 ∷ []), length-append (advance_pc words) (advance_line old new), length-advance_pc words, length-advance_line old new)

length-rows : (words line : ℕ) (ls : List ℕ) → length (rows words line ls) ≤ 23 * length ls + 14
length-rows words line [] = omega (arith, length-append (advance_pc words) end_sequence, length-advance_pc words)
length-rows words line (l ∷ more) =
    elim (l == line) as (λ b. length (if b then rows (words + 1) line more else row words line l ++ rows 1 l more) ≤ 23 * length (l ∷ more) + 14) [
      | true ↦ omega (arith, length-rows (words + 1) line more)
      | false ↦ omega (arith, length-append (row words line l) (rows 1 l more), length-row words line l, length-rows 1 l more)
    ]

length-set_address : (a : ℕ) → length (set_address a) ≡ 11
length-set_address a = omega (arith, length-append (0 ∷ 9 ∷ 2 ∷ []) (double a), length-double a)

length-line_program : (ls : List ℕ) → length (line_program ls) ≤ 23 * length ls + 25
length-line_program [] = omega (arith, length-append (set_address 0x10000) end_sequence, length-set_address 0x10000)
length-line_program (l ∷ more) =
    omega (arith, length-append (set_address 0x10000 ++ row 0 1 l) (rows 1 l more), length-append (set_address 0x10000) (row 0 1 l), length-set_address 0x10000, length-row 0 1 l, length-rows 1 l more)

length-counted : (bytes : List ℕ) → length (with_count bytes) ≡ length bytes + 4
length-counted bytes = omega (arith, length-append (word (length bytes)) bytes, length-word (length bytes))

length-files : (version : ℕ) (name : List ℕ) → length (files version name) ≤ 2 * length name + 16
length-files version name = elim (version == 5) as (λ five. length (if five then counted_files name else ended_files name) ≤ 2 * length name + 16) [
  | true ↦ omega (arith, length-append ((1 ∷ 1 ∷ 8 ∷ 1 ∷ 46 ∷ 0 ∷ []) ++ (2 ∷ 1 ∷ 8 ∷ 2 ∷ 11 ∷ 2 ∷ []) ++ (name ++ 0 ∷ 0 ∷ [])) (name ++ 0 ∷ 0 ∷ []), length-append ((1 ∷ 1 ∷ 8 ∷ 1 ∷ 46 ∷ 0 ∷ []) ++ (2 ∷ 1 ∷ 8 ∷ 2 ∷ 11 ∷ 2 ∷ [])) (name ++ 0 ∷ 0 ∷ []), length-append name (0 ∷ 0 ∷ []))
  | false ↦ omega (arith, length-append (0 ∷ [] ++ name ++ 0 ∷ 0 ∷ 0 ∷ 0 ∷ []) (0 ∷ []), length-append (0 ∷ [] ++ name) (0 ∷ 0 ∷ 0 ∷ 0 ∷ []))
]

length-header : (version : ℕ) (name : List ℕ) → length (numbers ++ files version name) ≤ 2 * length name + 34
length-header version name = omega (arith, length-append numbers (files version name), length-files version name)

at_most_two : (five : Bool) (x : List ℕ) → length x ≤ 2 → length (if five then x else []) ≤ 2
at_most_two true x le = le
at_most_two false x le = omega arith

length-sizes : (version : ℕ) → length (sizes version) ≤ 2
length-sizes version = at_most_two (version == 5) (8 ∷ 0 ∷ []) (omega arith)

body_length : (ls name : List ℕ) (version : ℕ) → length (unit_body ls name version) ≤ 23 * length ls + 2 * length name + 67
body_length ls name version =
    let header = numbers ++ files version name in
    let front = half version ++ sizes version in
    omega (arith, length-append (front ++ with_count header) (line_program ls), length-append front (with_count header), length-append (half version) (sizes version), length-half version, length-sizes version, length-counted header, length-header version name, length-line_program ls)

pub unit_length : (ls name : List ℕ) (version : ℕ) → length (with_count (unit_body ls name version)) ≤ 23 * length ls + 2 * length name + 71
unit_length ls name version = omega (arith, length-counted (unit_body ls name version), body_length ls name version)

-- the first number that isn't a length of the 32-bit form
pub body_short : (ls name : List ℕ) (version : ℕ) → length ls < 2 ^ 20 → length name < 2 ^ 20 → length (unit_body ls name version) < 0xFFFFFFF0
body_short ls name version few short = omega (arith, body_length ls name version)

pub body_small : (ls name : List ℕ) (version : ℕ) → length ls < 2 ^ 20 → length name < 2 ^ 20 → length (unit_body ls name version) < 2 ^ 32
body_small ls name version few short = omega (arith, body_short ls name version few short)

pub unit_small : (ls name : List ℕ) (version : ℕ) → length ls < 2 ^ 20 → length name < 2 ^ 20 → length (with_count (unit_body ls name version)) < 2 ^ 33
unit_small ls name version few short = omega (arith, length-counted (unit_body ls name version), body_small ls name version few short)
