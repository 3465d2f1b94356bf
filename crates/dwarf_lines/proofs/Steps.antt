-- Small steps of the readers.
use Rattle.std.proofs.Common.{◌≡◌, ◌≢◌, ℕ, zero, suc, ◌-◌, ◌<◌, ◌≤◌, false, not, ◌==◌, List, [], ◌∷◌, length, get_or, Some, slice_get, Result, Ok, Err, ℤ, refl, sym, ap, subst, ◌∙◌, arith}
use Rattle.std.specs.Prelude.{OnOk}
use Rattle.std.specs.Borrow.{Bor}
use Rattle.std.specs.Int.{w64}
use Rattle.std.proofs.lemmas.Bool.{ne_eqb}
use Rattle.std.proofs.lemmas.List.{get_or-map}
use Rattle.leb_cursor.specs.Ahead.{Ahead, number_at}
use Rattle.std.proofs.lemmas.Int.{ints}
use Rattle.dwarf_lines.specs.Bounds.{IsLineWithin}
use Rattle.dwarf_lines.specs.declared.Row.{Row}
use Rattle.dwarf_lines.specs.declared.LineKind.TheVariants as kinds
use Rattle.dwarf_lines.specs.Registers.{Header, Pass, SetAddress, directory, is_open, texts_view}
use Rattle.dwarf_lines.specs.Reading.{fault, field, byte, extended_operations, body}

-- the directory of a number that has one
pub directory_at : (ds : List (Bor (List ℕ))) (n : ℕ) (d : Bor (List ℕ)) → 0 < n → n ≤ length ds → (get_or ds (n - 1) d).now ≡ directory (texts_view ds) n
directory_at ds zero d some le = absurd (omega arith)
directory_at ds (suc k) d some le =
    let same : suc k - 1 ≡ k = omega arith in
    rw same (sym (get_or-map (λ (t : Bor (List ℕ)). t.now) ds k d [] (omega arith)))

-- whether a sequence is open, by the last row
open_by : (row : Row) (rows : List Row) (last : Row) → slice_get (row ∷ rows) (length rows) ≡ Some last → is_open (row ∷ rows) ≡ not last.ends
open_by row [] last e = let same : row ≡ last = cc in ap (λ (r : Row). not r.ends) same
open_by row (next ∷ rows) last e = open_by next rows last e

pub open_last : (rows : List Row) (last : Row) → slice_get rows (length rows - 1) ≡ Some last → is_open rows ≡ not last.ends
open_last [] last e = absurd cc
open_last (row ∷ rows) last e =
    let same : length (row ∷ rows) - 1 ≡ length rows = omega arith in
    open_by row rows last (subst (λ (i : ℕ). slice_get (row ∷ rows) i ≡ Some last) same e)

-- the body of an extended opcode, after its number
body_by : (h : Header) (place first : ℕ) (bytes : List ℕ) (e : ℕ) (b : Ahead) → length bytes ≢ 0 → byte (record { place = first; bytes = bytes }) ≡ Ok (e, b)
    → body h place (record { place = first; bytes = bytes }) ≡ get_or (extended_operations h place (length bytes)) e (λ rest. Ok Pass) b
body_by h place first [] e b some read = absurd (some refl)
body_by h place first (x ∷ xs) e b some read = rw read refl

pub address_fault : (h : Header) (place : ℕ) (a b : Ahead) → length a.bytes ≢ 0 → length a.bytes ≢ 9 → byte a ≡ Ok (2, b) → body h place a ≡ Err (fault kinds.AddressLength place)
address_fault h place a b some nine read =
    let not_nine : (length a.bytes == 9) ≡ false = ne_eqb (length a.bytes) 9 nine in
    body_by h place a.place a.bytes 2 b some read ∙ rw not_nine refl

pub address_set : (h : Header) (place n : ℕ) (a b c : Ahead) → length a.bytes ≡ 9 → byte a ≡ Ok (2, b) → field (number_at w64 b) ≡ Ok (n, c) → body h place a ≡ Ok (SetAddress n)
address_set h place n a b c nine read number =
    body_by h place a.place a.bytes 2 b (λ z. absurd (omega arith)) read ∙ rw (nine, number) refl

-- a wider bound
pub wider : (n m : ℕ) (z : ℤ) → n ≤ m → IsLineWithin n z → IsLineWithin m z
wider n m z le within = (omega (arith, ints), omega (arith, ints))

pub on_ok : {A E : Type 0} (r : Result A E) (P Q : Type 0) → (P → Q) → OnOk r P → OnOk r Q
on_ok (Ok x) P Q then is = then is
on_ok (Err e) P Q then is = tt
