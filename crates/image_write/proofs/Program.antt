-- The line program of a written file goes through the rows of its lines.
use Rattle.std.proofs.Common.{◌≡◌, ◌<◌, ℕ, ◌+◌, ◌*◌, ◌%◌, ◌^◌, Bool, true, false, List, [], ◌∷◌, ◌++◌, length, refl, ap, ap₂, subst, ◌∙◌, sym, arith, append_assoc, lit<, if◌then◌else◌, cond, Option, Some, None, nat_lt}
use Rattle.std.specs.Prelude.{ℤ, pos, negsuc, ◌+ℤ◌, ◌-ℤ◌, ◌==◌, count_by}
use Rattle.std.specs.List.{concat, AllByRecursion}
use Rattle.std.proofs.Math.Nat.{mod-eq_of_lt}
use Rattle.std.proofs.lemmas.Int.{ints}
use Rattle.std.proofs.lemmas.Bool.{lt-ltb, eqb-true}
use Rattle.std.proofs.lemmas.List.{append-nil}
use Rattle.std.proofs.lemmas.List.Folds.{concat-append}
use Rattle.std.proofs.lemmas.List.Sums.{sum_by-append}
use Rattle.rv_decode.specs.Fields.{is_signed}
use Rattle.leb_cursor.specs.Ahead.{fits_64_signed}
use Rattle.dwarf_lines.specs.declared.Row.{Row}
use Rattle.dwarf_lines.specs.Registers.{File, Header, Operation, Copy, AdvancePc, AdvanceLine, EndSequence, SetAddress, State, empty_table, state_after, has_line, first_state, file_of, is_open}
use Rattle.dwarf_lines.specs.Spelling.{Spells, Goes}
use Rattle.byte_write.specs.Numbers.{double, uleb, sleb}
use Rattle.byte_write.specs.Programs.{set_address, end_sequence, advance_pc, advance_line, row, rows}
use Rattle.image_write.specs.Unit.{line_program}
use Rattle.image_write.specs.Lines.{files_of, file_at, row_at, rows_from, rows_of}
use Rattle.image_write.proofs.Leb.{uleb_spells, sleb_spells}

-- ---- the header and the states

abbrev pub lengths : List ℕ
lengths = 0 ∷ 1 ∷ 1 ∷ 1 ∷ 1 ∷ 0 ∷ 0 ∷ 0 ∷ 1 ∷ 0 ∷ 0 ∷ 1 ∷ []

-- the directory `.` in version 5
abbrev pub directories_of : ℕ → List (List ℕ)
directories_of v = if v == 5 then (46 ∷ []) ∷ [] else []

abbrev pub header_of : ℕ → List ℕ → Header
header_of v name = record { version = v; minimum_length = 4; is_stmt = true; line_base = negsuc 4; line_range = 14; opcode_base = 13; lengths = lengths; directories = directories_of v; files = files_of v name }

-- these files and rows so far, and the registers
abbrev stated : List File → List Row → ℕ → ℤ → State
stated files done address line = record {
  table = record { files = files; rows = done; skipped = 0 };
  first_file = 0;
  registers = record { address = address; file = 1; line = line; column = 0; is_stmt = true };
}

abbrev state_of : ℕ → List ℕ → List Row → ℕ → ℤ → State
state_of v name done address line = stated (files_of v name) done address line

abbrev at : ℕ → List ℕ → List Row → ℕ → ℕ → State
at v name done address line = state_of v name done address (pos line)

-- after the end of the sequence
abbrev pub ended : ℕ → List ℕ → List Row → State
ended v name done = at v name done 0 1

-- no sequence has ended
abbrev IsFirst : List Row → Type 0
IsFirst done = count_by (λ (r : Row). r.ends) done ≡ 0

-- no file is defined on the way
same_files : (v : ℕ) (name : List ℕ) (done : List Row) (address : ℕ) (line : ℤ) → stated (files_of v name ++ []) done address line ≡ state_of v name done address line
same_files v name done address line = ap (λ (files : List File). stated files done address line) (append-nil (files_of v name))

-- the file register 1 is the last file
file_by : (five : Bool) (f : File) → (let files : List File = if five then f ∷ f ∷ [] else f ∷ [] in
    (if five then (if nat_lt (0 + 1) (length files) then Some (0 + 1) else None) else (if nat_lt (0 + 0) (length files) then Some (0 + 0) else None)) ≡ Some (if five then 1 else 0))
file_by true f = refl
file_by false f = refl

file_is : (v : ℕ) (name : List ℕ) (done : List Row) (address : ℕ) (line : ℤ) → file_of (header_of v name) (state_of v name done address line) 1 ≡ Some (file_at v)
file_is v name done address line = file_by (v == 5) (record { directory = []; name = name })

-- ---- bytes that take a state to another

pub record Reaches (h : Header) (bytes : List ℕ) (s t : State) : Type 0 where
  pub codes : List (List ℕ)
  pub spelled : bytes ≡ concat codes
  pub goes : Goes h codes s t

none : (h : Header) (s : State) → Reaches h [] s s
none h s = record { codes = []; spelled = refl; goes = refl }

one : (h : Header) (op : Operation) (code : List ℕ) (s t : State) → Spells h op code → has_line h op s ≡ true → state_after h op s ≡ t → Reaches h code s t
one h op code s t spells has e = record { codes = code ∷ []; spelled = sym (append-nil code); goes = (op, spells, has, sym e) }

goes_on : (h : Header) (a b : List (List ℕ)) (s t u : State) → Goes h a s t → Goes h b t u → Goes h (a ++ b) s u
goes_on h [] b s t u e more = subst (λ (x : State). Goes h b x u) e more
goes_on h (code ∷ a) b s t u (op, spells, has, goes) more = (op, spells, has, goes_on h a b (state_after h op s) t u goes more)

both : (h : Header) (x y : List ℕ) (s t u : State) → Reaches h x s t → Reaches h y t u → Reaches h (x ++ y) s u
both h x y s t u first more = record {
  codes = first.codes ++ more.codes;
  spelled = ap₂ (λ (a b : List ℕ). a ++ b) first.spelled more.spelled ∙ sym (concat-append first.codes more.codes);
  goes = goes_on h first.codes more.codes s t u first.goes more.goes;
}

-- ---- one operation

by_words : (v : ℕ) (name : List ℕ) (done : List Row) (a l words : ℕ) → words < 2 ^ 21 → a + 4 * words < 2 ^ 64 → Reaches (header_of v name) (2 ∷ uleb words) (at v name done a l) (at v name done (a + 4 * words) l)
by_words v name done a l words few far =
    let low : a + words * 4 < 2 ^ 64 = omega arith in
    let moves : (a + words * 4) % 2 ^ 64 ≡ a + 4 * words = mod-eq_of_lt low ∙ omega arith in
    let wide : words < 2 ^ 64 = omega arith in
    one (header_of v name) (AdvancePc words) (2 ∷ uleb words) (at v name done a l) (at v name done (a + 4 * words) l)
    (uleb words, refl, lit< tt, lit< tt, (uleb_spells words few, wide)) refl
    (same_files v name (done ++ []) ((a + words * 4) % 2 ^ 64) (pos l) ∙ ap₂ (λ (so_far : List Row) (x : ℕ). at v name so_far x l) (append-nil done) moves)

not_moved : (a words : ℕ) → (words == 0) ≡ true → a ≡ a + 4 * words
not_moved a words e = omega (arith, eqb-true words 0 e)

by_advance_pc : (v : ℕ) (name : List ℕ) (done : List Row) (a l words : ℕ) → words < 2 ^ 21 → a + 4 * words < 2 ^ 64 → Reaches (header_of v name) (advance_pc words) (at v name done a l) (at v name done (a + 4 * words) l)
by_advance_pc v name done a l words few far = when (words == 0) refl
  where
    when : (b : Bool) → (words == 0) ≡ b → Reaches (header_of v name) (if b then [] else 2 ∷ uleb words) (at v name done a l) (at v name done (a + 4 * words) l)
    when true e = subst (λ (x : ℕ). Reaches (header_of v name) [] (at v name done a l) (at v name done x l)) (not_moved a words e) (none (header_of v name) (at v name done a l))
    when false e = by_words v name done a l words few far

fits : (z : ℤ) (new old : ℕ) → z ≡ pos new -ℤ pos old → new < 2 ^ 32 → old < 2 ^ 32 → (is_signed 35 z ≡ true) × (fits_64_signed z ≡ true)
fits (pos n) new old e low below =
    let less : n < 2 ^ 32 = omega (arith, ints) in
    (lt-ltb n (2 ^ 34) (omega arith), lt-ltb n (2 ^ 63) (omega arith))
fits (negsuc n) new old e low below =
    let less : n < 2 ^ 32 = omega (arith, ints) in
    (lt-ltb n (2 ^ 34) (omega arith), lt-ltb n (2 ^ 63) (omega arith))

line_after : (old new : ℕ) → pos old +ℤ (pos new -ℤ pos old) ≡ pos new
line_after old new = omega (arith, ints)

by_lines : (v : ℕ) (name : List ℕ) (done : List Row) (a old new : ℕ) → old < 2 ^ 32 → new < 2 ^ 32 → Reaches (header_of v name) (3 ∷ sleb (pos new -ℤ pos old)) (at v name done a old) (at v name done a new)
by_lines v name done a old new below low =
    let z = pos new -ℤ pos old in
    let small = fits z new old refl low below in
    one (header_of v name) (AdvanceLine z) (3 ∷ sleb z) (at v name done a old) (at v name done a new)
    (sleb z, refl, lit< tt, lit< tt, (sleb_spells z small.0, small.1)) refl
    (same_files v name (done ++ []) a (pos old +ℤ z) ∙ ap₂ (λ (so_far : List Row) (x : ℤ). state_of v name so_far a x) (append-nil done) (line_after old new))

by_advance_line : (v : ℕ) (name : List ℕ) (done : List Row) (a old new : ℕ) → old < 2 ^ 32 → new < 2 ^ 32 → Reaches (header_of v name) (advance_line old new) (at v name done a old) (at v name done a new)
by_advance_line v name done a old new below low = when (old == new) refl
  where
    when : (b : Bool) → (old == new) ≡ b → Reaches (header_of v name) (if b then [] else 3 ∷ sleb (pos new -ℤ pos old)) (at v name done a old) (at v name done a new)
    when true e = subst (λ (x : ℕ). Reaches (header_of v name) [] (at v name done a old) (at v name done a x)) (eqb-true old new e) (none (header_of v name) (at v name done a old))
    when false e = by_lines v name done a old new below low

abbrev numbered : ℕ → Option ℕ → ℕ → ℕ → Bool → Row
numbered sequence file a l ends = record { sequence = sequence; address = a; file = file; line = l; column = 0; is_stmt = true; ends = ends }

by_copy : (v : ℕ) (name : List ℕ) (done : List Row) (a l : ℕ) → l < 2 ^ 32 → IsFirst done → Reaches (header_of v name) (1 ∷ []) (at v name done a l) (at v name (done ++ row_at v a l false ∷ []) a l)
by_copy v name done a l low first =
    one (header_of v name) Copy (1 ∷ []) (at v name done a l) (at v name (done ++ row_at v a l false ∷ []) a l)
    ([], refl, lit< tt, lit< tt, refl) (lt-ltb l (2 ^ 32) low)
    (same_files v name (done ++ numbered (count_by (λ (r : Row). r.ends) done) (file_of (header_of v name) (at v name done a l) 1) a l false ∷ []) a (pos l)
    ∙ ap₂ (λ (n : ℕ) (file : Option ℕ). at v name (done ++ numbered n file a l false ∷ []) a l) first (file_is v name done a (pos l)))

by_end : (v : ℕ) (name : List ℕ) (done : List Row) (a l : ℕ) → l < 2 ^ 32 → IsFirst done → Reaches (header_of v name) end_sequence (at v name done a l) (ended v name (done ++ row_at v a l true ∷ []))
by_end v name done a l low first =
    one (header_of v name) EndSequence end_sequence (at v name done a l) (ended v name (done ++ row_at v a l true ∷ []))
    ([], (1 ∷ [], refl, ((lit< tt, refl), lit< tt))) (lt-ltb l (2 ^ 32) low)
    (same_files v name (done ++ numbered (count_by (λ (r : Row). r.ends) done) (file_of (header_of v name) (at v name done a l) 1) a l true ∷ []) 0 (pos 1)
    ∙ ap₂ (λ (n : ℕ) (file : Option ℕ). ended v name (done ++ numbered n file a l true ∷ [])) first (file_is v name done a (pos l)))

by_address : (v : ℕ) (name : List ℕ) → Reaches (header_of v name) (set_address 0x10000) (at v name [] 0 1) (at v name [] 0x10000 1)
unfolding double
by_address v name =
    one (header_of v name) (SetAddress 0x10000) (set_address 0x10000) (at v name [] 0 1) (at v name [] 0x10000 1)
    ((9 ∷ [], refl, ((lit< tt, refl), lit< tt)), lit< tt) refl (same_files v name [] 0x10000 (pos 1))

-- ---- the rows

still_first : (v : ℕ) (done : List Row) (a l : ℕ) → IsFirst done → IsFirst (done ++ row_at v a l false ∷ [])
still_first v done a l first = omega (arith, sum_by-append (λ (r : Row). cond r.ends 1 0) done (row_at v a l false ∷ []))

by_row : (v : ℕ) (name : List ℕ) (done : List Row) (a words old new : ℕ) → words < 2 ^ 21 → a + 4 * words < 2 ^ 64 → old < 2 ^ 32 → new < 2 ^ 32 → IsFirst done
    → Reaches (header_of v name) (row words old new) (at v name done a old) (at v name (done ++ row_at v (a + 4 * words) new false ∷ []) (a + 4 * words) new)
by_row v name done a words old new few far below low first =
    let h = header_of v name in
    let b = a + 4 * words in
    let moved = both h (advance_pc words) (advance_line old new) (at v name done a old) (at v name done b old) (at v name done b new) (by_advance_pc v name done a old words few far) (by_advance_line v name done b old new below low) in
    both h (advance_pc words ++ advance_line old new) (1 ∷ []) (at v name done a old) (at v name done b new) (at v name (done ++ row_at v b new false ∷ []) b new) moved (by_copy v name done b new low first)

chosen : (b : Bool) (v : ℕ) (name : List ℕ) (x y : List ℕ) (s : State) (done u w : List Row) → Reaches (header_of v name) x s (ended v name (done ++ u)) → Reaches (header_of v name) y s (ended v name (done ++ w))
    → Reaches (header_of v name) (if b then x else y) s (ended v name (done ++ (if b then u else w)))
chosen true v name x y s done u w p q = p
chosen false v name x y s done u w p q = q

abbrev pub AreLines : List ℕ → Type 0
AreLines lines = AllByRecursion (λ l. l < 2 ^ 32) lines

by_rows : (v : ℕ) (name : List ℕ) (lines : List ℕ) (done : List Row) (a words line : ℕ) → AreLines lines → line < 2 ^ 32 → words + length lines < 2 ^ 21 → a + 4 * (words + length lines) < 2 ^ 64 → IsFirst done
    → Reaches (header_of v name) (rows words line lines) (at v name done a line) (ended v name (done ++ rows_from v (a + 4 * words) line lines))
by_rows v name [] done a words line all low few far first =
    let h = header_of v name in
    let b = a + 4 * words in
    both h (advance_pc words) end_sequence (at v name done a line) (at v name done b line) (ended v name (done ++ row_at v b line true ∷ [])) (by_advance_pc v name done a line words (omega arith) (omega arith)) (by_end v name done b line low first)
by_rows v name (l ∷ more) done a words line all low few far first =
    let h = header_of v name in
    let b = a + 4 * words in
    let next : a + 4 * (words + 1) ≡ b + 4 = omega arith in
    let same = subst (λ (x : ℕ). Reaches h (rows (words + 1) line more) (at v name done a line) (ended v name (done ++ rows_from v x line more))) next (by_rows v name more done a (words + 1) line all.1 low (omega arith) (omega arith) first) in
    let so_far = done ++ row_at v b l false ∷ [] in
    let made = by_row v name done a words line l (omega arith) (omega arith) low all.0 first in
    let rest = by_rows v name more so_far b 1 l all.1 all.0 (omega arith) (omega arith) (still_first v done b l first) in
    let whole = both h (row words line l) (rows 1 l more) (at v name done a line) (at v name so_far b l) (ended v name (so_far ++ rows_from v (b + 4) l more)) made rest in
    let other = subst (λ (x : List Row). Reaches h (row words line l ++ rows 1 l more) (at v name done a line) (ended v name x)) (append_assoc done (row_at v b l false ∷ []) (rows_from v (b + 4) l more)) whole in
    chosen (l == line) v name (rows (words + 1) line more) (row words line l ++ rows 1 l more) (at v name done a line) done (rows_from v (b + 4) line more) (row_at v b l false ∷ rows_from v (b + 4) l more) same other

-- the program of a unit, from its beginning on
pub by_program : (v : ℕ) (name : List ℕ) (lines : List ℕ) → AreLines lines → length lines < 2 ^ 20 → Reaches (header_of v name) (line_program lines) (first_state (header_of v name) empty_table) (ended v name (rows_of v lines))
by_program v name [] all few =
    both (header_of v name) (set_address 0x10000) end_sequence (at v name [] 0 1) (at v name [] 0x10000 1) (ended v name (row_at v 0x10000 1 true ∷ [])) (by_address v name) (by_end v name [] 0x10000 1 (lit< tt) refl)
by_program v name (l ∷ more) all few =
    let h = header_of v name in
    let one_row = row_at v 0x10000 l false ∷ [] in
    let begin = both h (set_address 0x10000) (row 0 1 l) (at v name [] 0 1) (at v name [] 0x10000 1) (at v name one_row 0x10000 l) (by_address v name) (by_row v name [] 0x10000 0 1 l (lit< tt) (lit< tt) (lit< tt) all.0 refl) in
    both h (set_address 0x10000 ++ row 0 1 l) (rows 1 l more) (at v name [] 0 1) (at v name one_row 0x10000 l) (ended v name (one_row ++ rows_from v 0x10004 l more)) begin (by_rows v name more one_row 0x10000 1 l all.1 all.0 (omega arith) (omega arith) refl)

-- ---- the last row ends the sequence

abbrev pub IsClosed : List Row → Type 0
IsClosed all = (is_open all ≡ false) × (0 < length all)

behind : (r : Row) (all : List Row) → IsClosed all → IsClosed (r ∷ all)
behind r [] (closed, some) = absurd (omega arith)
behind r (next ∷ all) (closed, some) = (closed, omega arith)

one_closed : (b : Bool) (u v : List Row) → IsClosed u → IsClosed v → IsClosed (if b then u else v)
one_closed true u v p q = p
one_closed false u v p q = q

from_closed : (v : ℕ) (lines : List ℕ) (a line : ℕ) → IsClosed (rows_from v a line lines)
from_closed v [] a line = (refl, lit< tt)
from_closed v (l ∷ more) a line =
    one_closed (l == line) (rows_from v (a + 4) line more) (row_at v a l false ∷ rows_from v (a + 4) l more) (from_closed v more (a + 4) line) (behind (row_at v a l false) (rows_from v (a + 4) l more) (from_closed v more (a + 4) l))

pub rows_closed : (v : ℕ) (lines : List ℕ) → IsClosed (rows_of v lines)
rows_closed v [] = (refl, lit< tt)
rows_closed v (l ∷ more) = behind (row_at v 0x10000 l false) (rows_from v 0x10004 l more) (from_closed v more 0x10004 l)
