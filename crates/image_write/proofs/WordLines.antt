-- Each word of a written file has the line of its statement.
use Rattle.std.proofs.Common.{◌≡◌, ℕ, zero, suc, ◌+◌, ◌*◌, ◌<◌, ◌≤◌, Bool, true, false, List, [], ◌∷◌, length, get_or, Option, Some, None, refl, sym, ap, subst, ◌∙◌, arith, nat_lt, nat_le, ◌==◌, lt-ltb, le-ltb, le-leb, eqb-true, ne_eqb, if◌then◌else◌, option_and_then, option_map, length-append, Result, Ok, Err}
use Rattle.std.specs.Prelude.{◌&&◌, IfOk, ◌/◌, ◌%◌, slice_get}
use Rattle.std.proofs.lemmas.List.Elements.{All-contains, Contains-get_or}
use Rattle.std.proofs.lemmas.Bool.{and_from, or_left}
use Rattle.coz_types.specs.declared.image.Area.{Area}
use Rattle.coz_types.specs.Image.{ImageParts}
use Rattle.coz_types.specs.Labels.{is_escaped, escape_of, hex_digit, written}
use Rattle.elf_load.specs.declared.ElfFault.{ElfFault}
use Rattle.dwarf_lines.specs.declared.LineFault.{LineFault}
use Rattle.dwarf_lines.specs.declared.Row.{Row}
use Rattle.dwarf_lines.specs.Registers.{File, Table}
use Rattle.line_index.specs.Lines.{Line, line_with, entry_path, next_address, first_covering, line_of_row, is_executable, line_of}
use Rattle.rv_asm.specs.Assembled.{Program, IsProgram}
use Rattle.image_write.specs.File.{whole_pages, IsName, IsVersion, written_file}
use Rattle.image_write.specs.Image.{image_of}
use Rattle.image_write.specs.Lines.{files_of, file_at, row_at, rows_from, rows_of, table_of, read_table, line_where, line_in, HasLines}
use Rattle.image_write.proofs.Loading.{written_loads}
use Rattle.image_write.proofs.Written.{lines_found}

-- ---- the row of an address

abbrev more_rows : ℕ → Bool → ℕ → ℕ → ℕ → List ℕ → List Row
more_rows v same address line l ls = if same then rows_from v (address + 4) line ls else row_at v address l false ∷ rows_from v (address + 4) l ls

IsNext : ℕ → List Row → Type 0
IsNext address rows = (e : ℕ) × (address ≤ e) × (next_address 0 rows ≡ Some e)

next_by : (v : ℕ) (same : Bool) (address line l : ℕ) (ls : List ℕ) → IsNext (address + 4) (rows_from v (address + 4) line ls) → IsNext address (more_rows v same address line l ls)
unfolding IsNext
next_by v true address line l ls (e, more, is) = (e, omega arith, is)
next_by v false address line l ls next = (address, omega arith, refl)

next_is : (v address line : ℕ) (ls : List ℕ) → IsNext address (rows_from v address line ls)
unfolding IsNext
next_is v address line [] = (address, omega arith, refl)
next_is v address line (l ∷ ls) = next_by v (l == line) address line l ls (next_is v (address + 4) line ls)

abbrev picked : Bool → Row → ℕ → List Row → Option Row
picked here row a later = if here then Some row else first_covering a later

-- the row covers what is before the rows after it
covers_now : (v a at address line : ℕ) (later : List Row) → at ≤ a → a < address → IsNext address later → first_covering a (row_at v at line false ∷ later) ≡ Some (row_at v at line false)
unfolding IsNext
covers_now v a at address line later low high (e, more, is) =
    ap (λ o. picked (elim o as (λ x. Bool) [ Some end ↦ nat_le at a && nat_lt a end | None ↦ false ]) (row_at v at line false) a later) is
    ∙ ap (λ here. picked here (row_at v at line false) a later) (and_from (nat_le at a) (nat_lt a e) (le-leb at a low) (lt-ltb a e (omega arith)))

-- and not what is at the row after it or later
none_picked : (t : Bool) (row : Row) (a : ℕ) (later : List Row) → picked (t && false) row a later ≡ first_covering a later
none_picked true row a later = refl
none_picked false row a later = refl

passed : (v a at address line l : ℕ) (later : List Row) → address ≤ a → first_covering a (row_at v at line false ∷ row_at v address l false ∷ later) ≡ first_covering a (row_at v address l false ∷ later)
passed v a at address line l later low =
    ap (λ t. picked (nat_le at a && t) (row_at v at line false) a (row_at v address l false ∷ later)) (le-ltb a address low)
    ∙ none_picked (nat_le at a) (row_at v at line false) a (row_at v address l false ∷ later)

-- the first row at the address has the line
HasLine : ℕ → ℕ → ℕ → List Row → Type 0
HasLine v a line rows = (at : ℕ) × (first_covering a rows ≡ Some (row_at v at line false))

first_word : (v : ℕ) (same : Bool) (ls : List ℕ) (at address line l a : ℕ) → (l == line) ≡ same → at < address → a ≡ address → HasLine v a l (row_at v at line false ∷ more_rows v same address line l ls)
unfolding HasLine
first_word v true ls at address line l a e before here =
    let one : l ≡ line = eqb-true l line e in
    (at, covers_now v a at (address + 4) line (rows_from v (address + 4) line ls) (omega arith) (omega arith) (next_is v (address + 4) line ls) ∙ ap (λ n. Some (row_at v at n false)) (sym one))
first_word v false ls at address line l a e before here = (
  address,
  passed v a at address line l (rows_from v (address + 4) l ls) (omega arith)
      ∙ covers_now v a address (address + 4) l (rows_from v (address + 4) l ls) (omega arith) (omega arith) (next_is v (address + 4) l ls),
)

later_word : (v : ℕ) (same : Bool) (ls : List ℕ) (at address line l a wanted : ℕ) → at < address → address ≤ a
    → ((at line : ℕ) → at < address + 4 → HasLine v a wanted (row_at v at line false ∷ rows_from v (address + 4) line ls))
    → HasLine v a wanted (row_at v at line false ∷ more_rows v same address line l ls)
unfolding HasLine
later_word v true ls at address line l a wanted before here more = more at line (omega arith)
later_word v false ls at address line l a wanted before here more =
    let (b, is) = more address l (omega arith) in
    (b, passed v a at address line l (rows_from v (address + 4) l ls) here ∙ is)

-- in rows after one at an earlier address
word_line : (v : ℕ) (ls : List ℕ) (at address line k a : ℕ) → at < address → k < length ls → a ≡ address + 4 * k → HasLine v a (get_or ls k 0) (row_at v at line false ∷ rows_from v address line ls)
word_line v [] at address line k a before few e = absurd (omega arith)
word_line v (l ∷ ls) at address line zero a before few e = first_word v (l == line) ls at address line l a refl before (omega arith)
word_line v (l ∷ ls) at address line (suc k) a before few e =
    later_word v (l == line) ls at address line l a (get_or ls k 0) before (omega arith) (λ at line before. word_line v ls at (address + 4) line k a before (omega arith) (omega arith))

-- the k-th word
table_line : (v : ℕ) (ls : List ℕ) (k : ℕ) → k < length ls → HasLine v (0x10000 + 4 * k) (get_or ls k 0) (rows_of v ls)
unfolding HasLine
table_line v [] k few = absurd (omega arith)
table_line v (l ∷ ls) zero few = (0x10000, covers_now v (0x10000 + 4 * zero) 0x10000 0x10004 l (rows_from v 0x10004 l ls) (omega arith) (omega arith) (next_is v 0x10004 l ls))
table_line v (l ∷ ls) (suc k) few = word_line v ls 0x10000 0x10004 l k (0x10000 + 4 * suc k) (omega arith) (omega arith) (omega arith)

-- ---- the written path of a name

escaped_some : (t : Bool) (b : ℕ) → 0 < length (if t then 37 ∷ hex_digit (b / 16) ∷ hex_digit (b % 16) ∷ [] else b ∷ [])
escaped_some true b = omega arith
escaped_some false b = omega arith

written_some : (name : List ℕ) → 0 < length name → 0 < length (written name)
written_some [] some = absurd (omega arith)
written_some (b ∷ name) some = omega (arith, escaped_some (is_escaped b) b, length-append (escape_of b) (written name))

-- ---- the line of an address

abbrev only_file : List ℕ → File
only_file name = record { directory = []; name = name }

abbrev line_of_name : List ℕ → ℕ → Line
line_of_name name number = record { path = written name; number = number }

-- the last file is the source
source_by : (five : Bool) (f : File) → slice_get (if five then f ∷ f ∷ [] else f ∷ []) (if five then 1 else 0) ≡ Some f
source_by true f = refl
source_by false f = refl

row_line : (v : ℕ) (name : List ℕ) (at line : ℕ) → 0 < length name → 0 < line → line_of_row (files_of v name) (row_at v at line false) ≡ Some (line_of_name name line)
row_line v name at line named some =
    let path : entry_path (only_file name) ≡ Some (written name) =
    ap (λ (empty : Bool). if empty then None else Some (written name)) (ne_eqb (length (written name)) 0 (λ e. absurd (omega (arith, written_some name named)))) in
    ap (λ (none : Bool). if none then None else option_and_then (λ file. option_map (line_with line) (entry_path file)) (slice_get (files_of v name) (file_at v))) (ne_eqb line 0 (λ e. absurd (omega arith)))
    ∙ ap (λ (file : Option File). option_and_then (λ file. option_map (line_with line) (entry_path file)) file) (source_by (v == 5) (only_file name))
    ∙ ap (λ (p : Option (List ℕ)). option_map (line_with line) p) path

-- the address of each word has the word's line
pub word_has_line : (v : ℕ) (ls name : List ℕ) (areas : List Area) (k : ℕ) → 0 < length name → k < length ls → 0 < get_or ls k 0 → is_executable areas (0x10000 + 4 * k) ≡ true
    → line_of (table_of ls name v) areas (0x10000 + 4 * k) ≡ Some (line_of_name name (get_or ls k 0))
unfolding line_of table_of HasLine
word_has_line v ls name areas k named few some runs =
    let (at, is) = table_line v ls k few in
    ap (λ t. if t then option_and_then (line_of_row (files_of v name)) (first_covering (0x10000 + 4 * k) (rows_of v ls)) else None) runs
    ∙ ap (option_and_then (line_of_row (files_of v name))) is
    ∙ row_line v name at (get_or ls k 0) named some

-- ---- a written program

pub text_runs : (p : Program) (file : List ℕ) (k : ℕ) → 4 * k < length p.text → is_executable (image_of p file).areas (0x10000 + 4 * k) ≡ true
unfolding image_of
text_runs p file k within =
    or_left (nat_le 0x10000 (0x10000 + 4 * k) && nat_lt (0x10000 + 4 * k) (0x10000 + whole_pages p)) _
    (and_from (nat_le 0x10000 (0x10000 + 4 * k)) (nat_lt (0x10000 + 4 * k) (0x10000 + whole_pages p)) (le-leb 0x10000 (0x10000 + 4 * k) (omega arith)) (lt-ltb (0x10000 + 4 * k) (0x10000 + whole_pages p) (omega arith)))

-- each word of a program has a line
pub line_there : (p : Program) (k : ℕ) → IsProgram p → k < length p.lines → 0 < get_or p.lines k 0
line_there p k is few =
    let fits : (1 ≤ get_or p.lines k 0) × (get_or p.lines k 0 ≤ 65536) = All-contains (λ line. (1 ≤ line) × (line ≤ 65536)) p.lines (get_or p.lines k 0) is.lines_fit (Contains-get_or p.lines k 0 few) in
    omega (arith, fits.0)

words_have_lines : (p : Program) (name : List ℕ) (version : ℕ) → IsProgram p → IsName name → IsVersion version → HasLines p name (written_file p name version)
unfolding line_in
words_have_lines p name version is named right = λ k few.
    let file = written_file p name version in
    let a = 0x10000 + 4 * k in
    ap (λ (image : Result ImageParts ElfFault). line_where image (read_table file) a) (written_loads p name version is named)
    ∙ ap (λ (table : Option (Result Table LineFault)). line_where (Ok (image_of p file)) table a) (lines_found p name version is named right)
    ∙ word_has_line version p.lines name (image_of p file).areas k named.0 few (line_there p k is few) (text_runs p file k (omega (arith, is.whole)))

-- what a call wrote, if it is the written file
pub given_word_lines : {V E : Type 0} (bytes : V → List ℕ) (p : Program) (name : List ℕ) (version : ℕ) (r : Result V E) → IsName name → IsVersion version → IfOk r (λ v. bytes v ≡ written_file p name version) → IsProgram p → IfOk r (λ v. HasLines p name (bytes v))
given_word_lines bytes p name version (Ok v) named right e is = subst (λ (f : List ℕ). HasLines p name f) (sym e) (words_have_lines p name version is named right)
given_word_lines bytes p name version (Err x) named right e is = tt
