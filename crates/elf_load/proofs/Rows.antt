-- Rows that don't hold, and what the rows on the header leave.
use Rattle.std.proofs.Common.{◌≡◌, ℕ, ◌+◌, ◌*◌, ◌<◌, ◌≤◌, ◌⊎◌, inl, inr, Bool, true, false, not, ◌&&◌, List, [], ◌∷◌, ◌++◌, length, Option, Some, None, refl, arith, nat_lt, ◌==◌}
use Rattle.std.specs.List.{AllByRecursion}
use Rattle.std.proofs.lemmas.Bool.{ltb-false, eqb-true}
use Rattle.elf_load.specs.declared.ElfKind.{ElfKind}
use Rattle.elf_load.specs.declared.ElfFault.{ElfFault}
use Rattle.elf_load.specs.Tables.{phoff, phnum, shoff, shnum, runs_past}
use Rattle.elf_load.specs.Faults.{row, first_row, header_rows, table_rows, HasHeaders, fault}

pub rows_none : (rows : List (Option ElfFault)) → first_row rows ≡ None → AllByRecursion (λ r. r ≡ None) rows
rows_none [] e = tt
rows_none (None ∷ rows) e = (refl, rows_none rows e)
rows_none (Some f ∷ rows) e = absurd cc

pub row_false : (kind : ElfKind) (holds : Bool) (place : ℕ) → row kind holds place ≡ None → holds ≡ false
row_false kind true place e = absurd cc
row_false kind false place e = refl

not_and : (a b : Bool) → (not a && b) ≡ false → (a ≡ true) ⊎ (b ≡ false)
not_and true b e = inl refl
not_and false b e = inr e

-- what doesn't run past the file has no bytes or ends in it
pub in_file : (file : List ℕ) (from size : ℕ) → runs_past file from size ≡ false → (size ≡ 0) ⊎ (from + size ≤ length file)
in_file file from size e =
    elim (not_and (size == 0) (nat_lt (length file) (from + size)) e) [
      | inl none ↦ inl (eqb-true size 0 none)
      | inr short ↦ inr (ltb-false _ _ short)
    ]

pub room : (file : List ℕ) → HasHeaders file → 64 ≤ length file
unfolding HasHeaders
room file e = ltb-false _ _ (row_false _ _ _ (rows_none (header_rows file) e).0)

pub segment_fits : (file : List ℕ) (k : ℕ) → HasHeaders file → k < phnum file → phoff file + 56 * k + 56 ≤ length file
unfolding HasHeaders
segment_fits file k e below =
    elim (in_file file (phoff file) (56 * phnum file) (row_false _ _ _ (rows_none (header_rows file) e).1.1.1.1.1.1.1.1.1.0)) [
      | inl none ↦ absurd (omega arith)
      | inr fits ↦ omega arith
    ]

pub section_fits : (file : List ℕ) (k : ℕ) → HasHeaders file → k < shnum file → shoff file + 64 * k + 64 ≤ length file
unfolding HasHeaders
section_fits file k e below =
    elim (in_file file (shoff file) (64 * shnum file) (row_false _ _ _ (rows_none (header_rows file) e).1.1.1.1.1.1.1.1.1.1.1.0)) [
      | inl none ↦ absurd (omega arith)
      | inr fits ↦ omega arith
    ]

-- ---- the rows of the header, then those on the tables

pub after_none : (xs ys : List (Option ElfFault)) → first_row xs ≡ None → first_row (xs ++ ys) ≡ first_row ys
after_none [] ys e = refl
after_none (None ∷ xs) ys e = after_none xs ys e
after_none (Some f ∷ xs) ys e = absurd cc

pub at_some : (xs ys : List (Option ElfFault)) (f : ElfFault) → first_row xs ≡ Some f → first_row (xs ++ ys) ≡ Some f
at_some [] ys f e = absurd cc
at_some (None ∷ xs) ys f e = at_some xs ys f e
at_some (Some g ∷ xs) ys f e = e

first_none : (xs ys : List (Option ElfFault)) → first_row (xs ++ ys) ≡ None → first_row xs ≡ None
first_none [] ys e = refl
first_none (None ∷ xs) ys e = first_none xs ys e
first_none (Some f ∷ xs) ys e = absurd cc

pub has_headers : (file : List ℕ) → fault file ≡ None → HasHeaders file
unfolding HasHeaders fault
has_headers file e = first_none (header_rows file) (table_rows file) e

pub header_fault : (file : List ℕ) (f : ElfFault) → first_row (header_rows file) ≡ Some f → fault file ≡ Some f
unfolding fault
header_fault file f e = at_some (header_rows file) (table_rows file) f e

pub table_fault : (file : List ℕ) → HasHeaders file → fault file ≡ first_row (table_rows file)
unfolding HasHeaders fault
table_fault file e = after_none (header_rows file) (table_rows file) e
