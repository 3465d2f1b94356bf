-- A spelled header is read, in any version.
use Rattle.std.proofs.Common.{◌≡◌, ℕ, suc, ◌+◌, ◌-◌, ◌<◌, Bool, true, false, not, ◌==◌, nat_lt, List, [], ◌∷◌, ◌++◌, length, ℤ, Result, Ok, refl, sym, ap, ◌∙◌, arith, append_assoc}
use Rattle.std.specs.List.{AllByRecursion}
use Rattle.std.specs.Int.{w8, cast_signed}
use Rattle.std.proofs.lemmas.Bool.{lt-ltb}
use Rattle.std.proofs.lemmas.List.{length-append}
use Rattle.leb_cursor.specs.Ahead.{Ahead, ◌>>=◌, bytes_at}
use Rattle.leb_cursor.proofs.Exact.{ahead}
use Rattle.leb_cursor.proofs.Again.{bytes_again}
use Rattle.dwarf_lines.specs.declared.LineFault.{LineFault}
use Rattle.dwarf_lines.specs.declared.LineKind.TheVariants as kinds
use Rattle.dwarf_lines.specs.Registers.{File, Header}
use Rattle.dwarf_lines.specs.Names.{Strings}
use Rattle.dwarf_lines.specs.Spelling.{SpellsAll, SpellsText, SpellsFile, SpellsNames, SpellsHeader}
use Rattle.dwarf_lines.specs.Spelling as spelled
use Rattle.dwarf_lines.specs.Reading.{field, byte, byte_that, operations, sizes, texts, files, Names, names, names_before_5, header}
use Rattle.dwarf_lines.proofs.Heads.{regroup}
use Rattle.dwarf_lines.proofs.HeadersAgain.{bind_through, ReadsTo, byte_back, that_back, operations_back, texts_back, files_back}
use Rattle.dwarf_lines.proofs.ListedAgain.{names_back}

-- ---- the two sizes of version 5

sizes_by : (five : Bool) (place : ℕ) (rest : List ℕ)
    → (q : ℕ) × ((elim five as (λ x. Result Ahead LineFault) [
      | true ↦ byte_that (λ n. n == 8) kinds.AddressSize (ahead place ((elim five as (λ x. List ℕ) [ true ↦ 8 ∷ 0 ∷ [] | false ↦ [] ]) ++ rest)) >>= λ size. byte_that (λ n. n == 0) kinds.SegmentSize size.1 >>= λ segment. Ok segment.1
      | false ↦ Ok (ahead place ((elim five as (λ x. List ℕ) [ true ↦ 8 ∷ 0 ∷ [] | false ↦ [] ]) ++ rest))
    ]) ≡ Ok (ahead q rest))
sizes_by true place rest = (
  place + 1 + 1,
  bind_through (byte_that (λ n. n == 8) kinds.AddressSize (ahead place (8 ∷ 0 ∷ rest))) _ (8, ahead (place + 1) (0 ∷ rest)) _ (that_back (λ n. n == 8) kinds.AddressSize 8 place (0 ∷ rest) refl)
      (bind_through (byte_that (λ n. n == 0) kinds.SegmentSize (ahead (place + 1) (0 ∷ rest))) _ (0, ahead (place + 1 + 1) rest) _ (that_back (λ n. n == 0) kinds.SegmentSize 0 (place + 1) rest refl) refl),
)
sizes_by false place rest = (place, refl)

pub sizes_back : (version place : ℕ) (rest : List ℕ) → (q : ℕ) × (sizes version (ahead place (spelled.sizes version ++ rest)) ≡ Ok (ahead q rest))
sizes_back version place rest = sizes_by (version == 5) place rest

-- ---- directories and files

longer : (xs ys zs : List ℕ) → length xs < suc (length ((xs ++ ys) ++ zs))
longer xs ys zs = omega (arith, length-append (xs ++ ys) zs, length-append xs ys)

abbrev named : List (List ℕ) → List File → Names
named ds fs = record { directories = ds; files = fs }

old_names : (ts : List (List ℕ)) (gs : List File) (ds fs code spare : List ℕ) (place : ℕ) → code ≡ (ds ++ 0 ∷ []) ++ (fs ++ 0 ∷ []) → SpellsAll SpellsText ts ds → SpellsAll (SpellsFile ts) gs fs
    → AllByRecursion (λ d. 0 < length d) ts → AllByRecursion (λ (f : File). 0 < length f.name) gs → ReadsTo (names_before_5 (ahead place (code ++ spare))) (named ts gs) spare
old_names ts gs ds fs code spare place whole are_texts are_files some some_name =
    let after_texts : List ℕ = (fs ++ 0 ∷ []) ++ spare in
    let all : List ℕ = (ds ++ 0 ∷ []) ++ after_texts in
    let n : ℕ = suc (length all) in
    let k : ℕ = suc (length after_texts) in
    let t = texts_back n ts ds after_texts place are_texts some (longer ds (0 ∷ []) after_texts) in
    let g = files_back k ts gs fs spare t.0 are_files some_name (longer fs (0 ∷ []) spare) in (
      g.0,
      ap (λ (z : List ℕ). names_before_5 (ahead place z)) (ap (λ (z : List ℕ). z ++ spare) whole ∙ append_assoc (ds ++ 0 ∷ []) (fs ++ 0 ∷ []) spare)
          ∙ bind_through (texts n (ahead place all)) _ (ts, ahead t.0 after_texts) _ t.1
          (bind_through (files k ts (ahead t.0 after_texts)) _ (gs, ahead g.0 spare) _ g.1 refl),
    )

all_names_back : (five : Bool) (strings : Strings) (ts : List (List ℕ)) (gs : List File) (place : ℕ) (code spare : List ℕ) → SpellsNames five strings ts gs code → ReadsTo (names five strings (ahead place (code ++ spare))) (named ts gs) spare
all_names_back true strings ts gs place code spare (ds, fs, front, others, whole, is-d, is-f, same, files) =
    let read = names_back strings ts ds fs place code front others spare whole is-d is-f same in
    (read.0, read.1 ∙ ap (λ (x : List File). Ok (named ts x, ahead read.0 spare)) (sym files))
all_names_back false strings ts gs place code spare (ds, fs, whole, are_texts, are_files, some, some_name) = old_names ts gs ds fs code spare place whole are_texts are_files some some_name

-- ---- the header

abbrev laid_out : ℕ → ℕ → ℕ → ℕ → ℕ → ℕ → List ℕ → List ℕ → List ℕ → List ℕ
laid_out version m i b r o ls ns spare = m ∷ (spelled.operations version ++ (i ∷ b ∷ r ∷ o ∷ (ls ++ (ns ++ spare))))

chain : (version : ℕ) (strings : Strings) (m i b r o place : ℕ) (ls : List ℕ) (ts : List (List ℕ)) (gs : List File) (ns spare : List ℕ) → 0 < r → 0 < o → length ls ≡ o - 1
    → SpellsNames (version == 5) strings ts gs ns
    → header version strings (ahead place (laid_out version m i b r o ls ns spare)) ≡ Ok (record { version = version; minimum_length = m; is_stmt = not (i == 0); line_base = cast_signed w8 b; line_range = r; opcode_base = o; lengths = ls; directories = ts; files = gs })
unfolding header
chain version strings m i b r o place ls ts gs ns spare some_range some_base len spells =
    let after_lengths : List ℕ = ns ++ spare in
    let after_base : List ℕ = ls ++ after_lengths in
    let ops = operations_back version (place + 1) (i ∷ b ∷ r ∷ o ∷ after_base) in
    let p = ops.0 in
    let q : ℕ = p + 1 + 1 + 1 + 1 + (o - 1) in
    let t = all_names_back (version == 5) strings ts gs q ns spare spells in
    bind_through (byte (ahead place (laid_out version m i b r o ls ns spare))) _ (m, ahead (place + 1) (spelled.operations version ++ (i ∷ b ∷ r ∷ o ∷ after_base))) _ (byte_back m place (spelled.operations version ++ (i ∷ b ∷ r ∷ o ∷ after_base)))
    (bind_through (operations version (ahead (place + 1) (spelled.operations version ++ (i ∷ b ∷ r ∷ o ∷ after_base)))) _ (ahead p (i ∷ b ∷ r ∷ o ∷ after_base)) _ ops.1
    (bind_through (byte (ahead p (i ∷ b ∷ r ∷ o ∷ after_base))) _ (i, ahead (p + 1) (b ∷ r ∷ o ∷ after_base)) _ (byte_back i p (b ∷ r ∷ o ∷ after_base))
    (bind_through (byte (ahead (p + 1) (b ∷ r ∷ o ∷ after_base))) _ (b, ahead (p + 1 + 1) (r ∷ o ∷ after_base)) _ (byte_back b (p + 1) (r ∷ o ∷ after_base))
    (bind_through (byte_that (λ n. nat_lt 0 n) kinds.ZeroRange (ahead (p + 1 + 1) (r ∷ o ∷ after_base))) _ (r, ahead (p + 1 + 1 + 1) (o ∷ after_base)) _ (that_back (λ n. nat_lt 0 n) kinds.ZeroRange r (p + 1 + 1) (o ∷ after_base) (lt-ltb 0 r some_range))
    (bind_through (byte_that (λ n. nat_lt 0 n) kinds.OpcodeBaseZero (ahead (p + 1 + 1 + 1) (o ∷ after_base))) _ (o, ahead (p + 1 + 1 + 1 + 1) after_base) _ (that_back (λ n. nat_lt 0 n) kinds.OpcodeBaseZero o (p + 1 + 1 + 1) after_base (lt-ltb 0 o some_base))
    (bind_through (field (bytes_at (o - 1) (ahead (p + 1 + 1 + 1 + 1) after_base))) _ (ls, ahead q after_lengths) _ (ap field (bytes_again (o - 1) (p + 1 + 1 + 1 + 1) ls after_lengths len))
    (bind_through (names (version == 5) strings (ahead q after_lengths)) _ (named ts gs, ahead t.0 spare) _ t.1 refl)))))))

from_count : (o : ℕ) (ls : List ℕ) → o ≡ 1 + length ls → (0 < o) × (length ls ≡ o - 1)
from_count o ls e = (omega arith, omega arith)

pub header_again : (version : ℕ) (strings : Strings) (h : Header) (bytes : List ℕ) (place : ℕ) → SpellsHeader version strings h bytes → header version strings (ahead place bytes) ≡ Ok h
header_again version strings h bytes place (i, b, ns, spare, whole, known, stmt, base, range, opcodes, spells) =
    let count = from_count h.opcode_base h.lengths opcodes in
    ap (λ (z : List ℕ). header version strings (ahead place z)) (whole ∙ sym (regroup h.minimum_length i b h.line_range h.opcode_base (spelled.operations version) h.lengths ns spare))
    ∙ chain version strings h.minimum_length i b h.line_range h.opcode_base place h.lengths h.directories h.files ns spare range count.0 count.1 spells
    ∙ ap (λ (v : ℕ). Ok (record h { version = v; is_stmt = not (i == 0); line_base = cast_signed w8 b })) (sym known)
    ∙ ap (λ (s : Bool). Ok (record h { is_stmt = s; line_base = cast_signed w8 b })) (sym stmt)
    ∙ ap (λ (z : ℤ). Ok (record h { line_base = z })) (sym base)
