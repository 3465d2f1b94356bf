-- A written file has no fault, and its image is the program's.
use Rattle.std.proofs.Common.{◌≡◌, ℕ, ◌+◌, ◌-◌, ◌*◌, ◌/◌, ◌%◌, ◌≤◌, ◌<◌, ◌^◌, ◌==◌, Bool, true, false, not, ◌&&◌, ◌||◌, List, [], ◌∷◌, length, map, filter, min, Option, Some, None, Result, Ok, Err, refl, sym, ap, ap₂, subst, ◌∙◌, arith, find, option_map, nat_lt, nat_le, if◌then◌else◌, ne_eqb}
use Rattle.std.specs.Prelude.{sum_by, IfOk, unwrap_or}
use Rattle.std.specs.List.{AllByRecursion, list_any}
use Rattle.std.proofs.lemmas.Bool.{le-ltb, lt-ltb, le-leb, lt-leb, ltb-true}
use Rattle.coz_types.specs.declared.image.Area.{Area}
use Rattle.coz_types.specs.Image.{ImageParts}
use Rattle.elf_load.specs.declared.ElfKind.{ElfKind}
use Rattle.elf_load.specs.declared.ElfFault.{ElfFault}
use Rattle.elf_load.specs.declared.tables.Segment.{Segment}
use Rattle.elf_load.specs.declared.tables.Section.{Section}
use Rattle.elf_load.specs.Tables.{entry, phoff, phnum, shnum, segment_at, section_at, places, segments, sections, runs_past, is_area, is_load, is_executable, is_writable, is_interp, first_page, end_page, pages, share_page, has_address, has_place, has_bytes, is_compressed, holds_lines, load_areas}
use Rattle.elf_load.specs.Faults.{row, entry_row, first_segment, first_section, first_after, first_row, header_rows, rows_on, fault}
use Rattle.elf_load.specs.Loaded.{area_of, headers, image, load_answer}
use Rattle.elf_load.proofs.Rows.{table_fault}
use Rattle.elf_load.proofs.LoadLemmas.{WereRead, rows_same, parts_are, headed}
use Rattle.asm_values.specs.Addresses.{up_to_multiple}
use Rattle.rv_asm.specs.Assembled.{Program, IsProgram}
use Rattle.image_write.specs.Unit.{unit}
use Rattle.image_write.specs.File.{has_content, whole_pages, content_place, unit_place, names_place, headers_place, segment_count, file_with, written_file, IsName}
use Rattle.image_write.specs.Image.{text_area, data_area, image_of}
use Rattle.image_write.proofs.Lengths.{unit_small, unit_length}
use Rattle.image_write.proofs.Fields.{IsHeaded}
use Rattle.image_write.proofs.FileParts.{IsLaid, laid, small_room, text_header, data_header, no_section, text_section, data_section, line_section, names_section}

-- ---- rows that don't hold

row_none : (kind : ElfKind) (holds : Bool) (place : ℕ) → holds ≡ false → row kind holds place ≡ None
row_none kind true place e = absurd cc
row_none kind false place e = refl

entry_none : (kind : ElfKind) (found : Option ℕ) → found ≡ None → entry_row kind found ≡ None
entry_none kind None e = refl
entry_none kind (Some place) e = absurd cc

none_hold : (rows : List (Option ElfFault)) → AllByRecursion (λ r. r ≡ None) rows → first_row rows ≡ None
none_hold [] all = refl
none_hold (None ∷ rows) all = none_hold rows all.1
none_hold (Some f ∷ rows) all = let no : Some f ≡ None = all.0 in absurd cc

and_false : (b : Bool) → (b && false) ≡ false
and_false true = refl
and_false false = refl

and_none : (a b : Bool) → b ≡ false → (a && b) ≡ false
and_none a b e = ap (λ c. a && c) e ∙ and_false a

fits : (file : List ℕ) (from size : ℕ) → from + size ≤ length file → runs_past file from size ≡ false
fits file from size le = and_none (not (size == 0)) (nat_lt (length file) (from + size)) (le-ltb (length file) (from + size) le)

-- ---- the rows on the header

headers_none : (file : List ℕ) (start place count : ℕ) → IsHeaded file start place count → 64 + 56 * count ≤ length file → place + 320 ≤ length file → count ≤ 2 → first_row (header_rows file) ≡ None
headers_none file start place count is first last few =
    let long : 64 ≤ length file = is.long in
    none_hold (header_rows file) (
      row_none _ _ _ (le-ltb (length file) 64 long),
      (
        row_none _ _ _ (rw is.magic refl),
        (
          row_none _ _ _ (rw is.class refl),
          (
            row_none _ _ _ (rw is.order refl),
            (
              row_none _ _ _ (rw is.is_executable refl),
              (
                row_none _ _ _ (rw is.is_machine refl),
                (
                  row_none _ _ _ (rw is.has_flags refl),
                  (
                    row_none _ _ _ (rw is.has_phnum (ne_eqb count 65535 (λ e. omega arith))),
                    (
                      row_none _ _ _ (rw is.has_phentsize (and_false (not (phnum file == 0)))),
                      (
                        row_none _ _ _ (rw (is.has_phoff, is.has_phnum) (fits file 64 (56 * count) first)),
                        (
                          row_none _ _ _ (rw is.has_shentsize (and_false (not (shnum file == 0)))),
                          (
                            row_none _ _ _ (rw (is.has_shoff, is.has_shnum) (fits file place 320 last)),
                            (
                              row_none _ _ _ (rw (is.has_shnum, is.has_shstrndx) refl),
                              tt,
                            ),
                          ),
                        ),
                      ),
                    ),
                  ),
                ),
              ),
            ),
          ),
        ),
      ),
    )

-- ---- the tables

abbrev program_headers : Bool → Program → List Segment
program_headers content p = text_header p ∷ (if content then data_header p ∷ [] else [])

abbrev pub section_headers : List ℕ → Program → List Section
section_headers unit p = no_section unit p ∷ text_section unit p ∷ data_section unit p ∷ line_section unit p ∷ names_section unit p ∷ []

program_headers_are : (content : Bool) (p : Program) (file : List ℕ) → segment_at file 64 ≡ text_header p → (content ≡ true → segment_at file 120 ≡ data_header p)
    → map (segment_at file) (places 64 56 (if content then 2 else 1)) ≡ program_headers content p
program_headers_are true p file text data_is = ap₂ (λ (s t : Segment). s ∷ t ∷ []) text (data_is refl)
program_headers_are false p file text data_is = ap (λ (s : Segment). s ∷ []) text

segments_are : (unit : List ℕ) (p : Program) (file : List ℕ) → IsLaid unit p file → segments file ≡ program_headers (has_content p) p
segments_are unit p file is =
    ap₂ (λ (from count : ℕ). map (segment_at file) (places from 56 count)) is.is_headed.has_phoff is.is_headed.has_phnum
    ∙ program_headers_are (has_content p) p file is.text_read is.data_read

pub sections_are : (unit : List ℕ) (p : Program) (file : List ℕ) → IsLaid unit p file → sections file ≡ section_headers unit p
sections_are unit p file is =
    ap₂ (λ (from count : ℕ). map (section_at file) (places from 64 count)) is.is_headed.has_shoff is.is_headed.has_shnum
    ∙ (λ i. is.section_0 i ∷ is.section_1 i ∷ is.section_2 i ∷ is.section_3 i ∷ is.section_4 i ∷ [])

some_bytes : (n : ℕ) → 0 < n → (n == 0) ≡ false
some_bytes n some = ne_eqb n 0 (λ e. omega arith)

areas_are : (content : Bool) (p : Program) → 0 < length p.text → (content ≡ true → 0 < length p.content) → filter is_area (program_headers content p) ≡ program_headers content p
areas_are true p text some = rw (some_bytes (length p.text) text, some_bytes (length p.content) (some refl)) refl
areas_are false p text some = rw (some_bytes (length p.text) text) refl

-- ---- the rows on the tables

-- a fact of each of the program headers
each : (P : Segment → Type 0) (content : Bool) (p : Program) → P (text_header p) → (content ≡ true → P (data_header p)) → AllByRecursion P (program_headers content p)
each P true p text data_is = (text, (data_is refl, tt))
each P false p text data_is = (text, tt)

no_segment : (test : Segment → Bool) (ss : List Segment) → AllByRecursion (λ s. test s ≡ false) ss → first_segment test ss ≡ None
no_segment test [] all = refl
no_segment test (s ∷ ss) all = rw all.0 (no_segment test ss all.1)

no_section_has : (test : Section → Bool) (ss : List Section) → AllByRecursion (λ s. test s ≡ false) ss → first_section test ss ≡ None
no_section_has test [] all = refl
no_section_has test (s ∷ ss) all = rw all.0 (no_section_has test ss all.1)

-- where the program lies in memory, and how long the file is
record IsSmall (p : Program) (unit file : List ℕ) : Type 0 where
  long : length file ≡ headers_place unit p + 320
  some : 0 < length p.text
  text : length p.text ≤ 1048576
  content : length p.content ≤ 1048576
  room : has_content p ≡ true → content_place p ≡ 4096 + whole_pages p
  text_in : 4096 + length p.text ≤ length file
  content_in : content_place p + length p.content ≤ length file
  unit_in : unit_place p + length unit ≤ length file
  names_in : names_place unit p + 35 ≤ length file

both_false : (a b : Bool) → a ≡ false → b ≡ false → (a || b) ≡ false
both_false a b e f = rw (e, f) refl

low : (n : ℕ) → 0x10000 ≤ n → nat_lt (4096 * (n / 4096)) 0x1000 ≡ false
low n from = le-ltb (4096 * (n / 4096)) 0x1000 (omega arith)

high : (n : ℕ) → n ≤ 0x1000000 → nat_lt 0x2000000000 (4096 * (n / 4096)) ≡ false
high n to = le-ltb 0x2000000000 (4096 * (n / 4096)) (omega arith)

apart : (p : Program) → share_page (data_header p) (text_header p) ≡ false
apart p =
    let behind : end_page (text_header p) ≤ first_page (data_header p) = omega arith in
    rw (le-ltb (first_page (data_header p)) (end_page (text_header p)) behind) refl

no_shared : (content : Bool) (p : Program) → first_after (λ earlier s. list_any (share_page s) earlier) [] (program_headers content p) ≡ None
no_shared true p = rw (apart p) refl
no_shared false p = refl

few_pages : (content : Bool) (p : Program) → length p.text ≤ 1048576 → length p.content ≤ 1048576 → first_after (λ earlier s. nat_lt 0x4000000 (4096 * sum_by pages (s ∷ earlier))) [] (program_headers content p) ≡ None
few_pages true p text content =
    let one : nat_lt 0x4000000 (4096 * sum_by pages (text_header p ∷ [])) ≡ false = le-ltb _ _ (omega arith) in
    let two : nat_lt 0x4000000 (4096 * sum_by pages (data_header p ∷ text_header p ∷ [])) ≡ false = le-ltb _ _ (omega arith) in
    rw (one, two) refl
few_pages false p text content =
    let one : nat_lt 0x4000000 (4096 * sum_by pages (text_header p ∷ [])) ≡ false = le-ltb _ _ (omega arith) in
    rw one refl

entered : (file : List ℕ) (p : Program) (content : Bool) → IsProgram p → entry file ≡ p.entry
    → not (entry file % 4 == 0 && list_any (λ s. is_load s && is_executable s && has_address (entry file) s) (program_headers content p)) ≡ false
entered file p content is at =
    let low_end : nat_le 0x10000 p.entry ≡ true = le-leb 0x10000 p.entry is.entry_starts in
    let high_end : nat_lt p.entry (0x10000 + length p.text) ≡ true = lt-ltb p.entry (0x10000 + length p.text) is.entry_within in
    rw (at, is.entry_whole, low_end, high_end) refl

rows_none : (unit : List ℕ) (p : Program) (file : List ℕ) (content : Bool) → IsProgram p → IsSmall p unit file → entry file ≡ p.entry → content ≡ has_content p
    → first_row (rows_on file (program_headers content p) (section_headers unit p) (program_headers content p)) ≡ None
rows_none unit p file content is small at same =
    let has = λ (e : content ≡ true). sym same ∙ e in
    none_hold (rows_on file (program_headers content p) (section_headers unit p) (program_headers content p)) (
      entry_none _ _ (no_segment (λ s. is_load s && runs_past file s.offset s.filesz) (program_headers content p)
          (each (λ s. (is_load s && runs_past file s.offset s.filesz) ≡ false) content p (fits file 4096 (length p.text) small.text_in) (λ e. fits file (4096 + whole_pages p) (length p.content) (omega (arith, small.room (has e), small.content_in))))),
      (
        entry_none _ _ (no_section_has (λ s. has_bytes s && runs_past file s.offset s.size) (section_headers unit p)
            (refl, (fits file 4096 (length p.text) small.text_in, (fits file (content_place p) (length p.content) small.content_in, (fits file (unit_place p) (length unit) small.unit_in, (fits file (names_place unit p) 35 small.names_in, tt)))))),
        (
          entry_none _ _ (no_section_has (λ s. holds_lines file s && is_compressed s) (section_headers unit p)
              (and_false _, (and_false _, (and_false _, (and_false _, (and_false _, tt)))))),
          (
            entry_none _ _ (no_segment is_interp (program_headers content p) (each (λ s. is_interp s ≡ false) content p refl (λ e. refl))),
            (
              entry_none _ _ (no_segment (λ s. is_load s && nat_lt s.memsz s.filesz) (program_headers content p)
                  (each (λ s. (is_load s && nat_lt s.memsz s.filesz) ≡ false) content p (le-ltb (length p.text) (length p.text) (omega arith)) (λ e. le-ltb (length p.content) (length p.content) (omega arith)))),
              (
                entry_none _ _ (no_segment (λ s. nat_lt (4096 * first_page s) 0x1000 || nat_lt 0x2000000000 (4096 * end_page s)) (program_headers content p)
                    (each (λ s. (nat_lt (4096 * first_page s) 0x1000 || nat_lt 0x2000000000 (4096 * end_page s)) ≡ false) content p
                    (high (0x10000 + length p.text + 4095) (omega (arith, small.text)))
                    (λ e. both_false _ _ (low (0x10000 + whole_pages p) (omega arith)) (high (0x10000 + whole_pages p + length p.content + 4095) (omega (arith, small.text, small.content)))))),
                (
                  entry_none _ _ (no_segment (λ s. is_load s && is_writable s && is_executable s) (program_headers content p) (each (λ s. (is_load s && is_writable s && is_executable s) ≡ false) content p refl (λ e. refl))),
                  (
                    entry_none _ _ (no_shared content p),
                    (
                      entry_none _ _ (few_pages content p small.text small.content),
                      (
                        row_none _ _ 24 (entered file p content is at),
                        tt,
                      ),
                    ),
                  ),
                ),
              ),
            ),
          ),
        ),
      ),
    )

-- ---- the whole

text_made : (p : Program) (file : List ℕ) → 4096 ≤ length file → area_of file (text_header p) ≡ text_area p
text_made p file long =
    let size : 4096 * pages (text_header p) ≡ whole_pages p = omega arith in
    let offset : min 4096 (length file) ≡ 4096 = omega arith in
    λ i. record { start = 0x10000; size = size i; rights = record { read = true; write = false; execute = true }; vaddr = 0x10000; offset = offset i; filled = length p.text }

data_made : (p : Program) (file : List ℕ) → 4096 + whole_pages p ≤ length file → area_of file (data_header p) ≡ data_area p
data_made p file long =
    let start : 4096 * first_page (data_header p) ≡ 0x10000 + whole_pages p = omega arith in
    let size : 4096 * pages (data_header p) ≡ up_to_multiple 4096 (length p.content) = omega arith in
    let offset : min (4096 + whole_pages p) (length file) ≡ 4096 + whole_pages p = omega arith in
    λ i. record { start = start i; size = size i; rights = record { read = true; write = true; execute = false }; vaddr = 0x10000 + whole_pages p; offset = offset i; filled = length p.content }

areas_made : (content : Bool) (p : Program) (file : List ℕ) → 4096 ≤ length file → (content ≡ true → 4096 + whole_pages p ≤ length file)
    → map (area_of file) (program_headers content p) ≡ text_area p ∷ (if content then data_area p ∷ [] else [])
areas_made true p file long longer = ap₂ (λ (s t : Area). s ∷ t ∷ []) (text_made p file long) (data_made p file (longer refl))
areas_made false p file long longer = ap (λ (s : Area). s ∷ []) (text_made p file long)

none_holds : (content : Bool) (p : Program) → find (λ s. is_load s && has_place 64 s) (program_headers content p) ≡ None
none_holds true p =
    let behind : nat_le (4096 + whole_pages p) 64 ≡ false = lt-leb (4096 + whole_pages p) 64 (omega arith) in
    rw behind refl
none_holds false p = refl

no_headers : (unit : List ℕ) (p : Program) (file : List ℕ) → IsLaid unit p file → headers file ≡ 0
no_headers unit p file is =
    let at : phoff file ≡ 64 = is.is_headed.has_phoff in
    let none : find (λ s. is_load s && has_place (phoff file) s) (segments file) ≡ None =
    ap₂ (λ (place : ℕ) (ss : List Segment). find (λ s. is_load s && has_place place s) ss) at (segments_are unit p file is) ∙ none_holds (has_content p) p in
    ap (λ (o : Option Segment). unwrap_or (option_map (λ s. s.vaddr + phoff file - s.offset) o) 0) none

some_content : (n : ℕ) → nat_lt 0 n ≡ true → 0 < n
some_content n e = ltb-true 0 n e

room_is : (content : Bool) (n w : ℕ) → content ≡ true → 4096 + (if content then w else n) ≡ 4096 + w
room_is true n w e = refl
room_is false n w e = absurd cc

text_ends : (content : Bool) (n w : ℕ) → n ≤ w → 4096 + n ≤ 4096 + (if content then w else n)
text_ends true n w le = omega arith
text_ends false n w le = omega arith

is_small : (unit : List ℕ) (p : Program) (file : List ℕ) → IsProgram p → IsLaid unit p file → IsSmall p unit file
is_small unit p file is laid_out =
    let long : length file ≡ headers_place unit p + 320 = laid_out.is_long in
    let behind : 4096 + length p.text ≤ content_place p = text_ends (has_content p) (length p.text) (whole_pages p) (omega arith) in
    record {
      long = long;
      some = is.some;
      text = is.text_fits;
      content = is.content_fits;
      room = λ e. room_is (has_content p) (length p.text) (whole_pages p) e;
      text_in = omega arith;
      content_in = omega arith;
      unit_in = omega arith;
      names_in = omega arith;
    }

count_most : (content : Bool) → (if content then 2 else 1) ≤ 2
count_most true = omega arith
count_most false = omega arith

load_answer_when : (file : List ℕ) → fault file ≡ None → load_answer file ≡ Ok (image file)
unfolding load_answer
load_answer_when file e = rw (e, load_answer) refl

loads_laid : (unit : List ℕ) (p : Program) (file : List ℕ) → IsProgram p → IsLaid unit p file → load_answer file ≡ Ok (image_of p file)
unfolding image_of
loads_laid unit p file is laid_out =
    let content = has_content p in
    let ss = program_headers content p in
    let small = is_small unit p file is laid_out in
    let areas : ss ≡ load_areas file =
    sym (areas_are content p is.some (some_content (length p.content))) ∙ ap (λ (xs : List Segment). filter is_area xs) (sym (segments_are unit p file laid_out)) in
    let read : WereRead file ss (section_headers unit p) ss = record { segments_read = sym (segments_are unit p file laid_out); sections_read = sym (sections_are unit p file laid_out); areas_read = areas } in
    let few : segment_count p ≤ 2 = count_most content in
    let first = headers_none file p.entry (headers_place unit p) (segment_count p) laid_out.is_headed (omega (arith, small.text_in)) (omega (arith, small.long)) few in
    let second = sym (rows_same file ss (section_headers unit p) ss read) ∙ rows_none unit p file content is small laid_out.is_headed.has_entry refl in
    let none : fault file ≡ None = table_fault file (headed file first) ∙ second in
    let parts = parts_are file ss (section_headers unit p) ss (text_area p ∷ (if content then data_area p ∷ [] else [])) p.entry 0 (segment_count p) read
    (sym (areas_made content p file (omega (arith, small.text_in)) (λ e. omega (arith, small.content_in, small.room e))))
    (sym laid_out.is_headed.has_entry) (sym (no_headers unit p file laid_out)) (sym laid_out.is_headed.has_phnum) in
    load_answer_when file none ∙ ap (λ (x : ImageParts). Ok x) (sym parts)

pub unit_is_small : (p : Program) (name : List ℕ) (version : ℕ) → IsProgram p → IsName name → length (unit p.lines name version) < 2 ^ 33
unfolding unit
unit_is_small p name version is named = unit_small p.lines name version (omega (arith, is.whole, is.text_fits)) (omega (arith, named.1))

-- far below the length of the longest program's file
pub written_short : (p : Program) (name : List ℕ) (version : ℕ) → IsProgram p → IsName name → length (written_file p name version) ≤ 16777216
unfolding written_file unit
written_short p name version is named =
    let u = unit p.lines name version in
    let long = (laid u p is (unit_is_small p name version is named)).is_long in
    omega (arith, long, unit_length p.lines name version, small_room p, is.text_fits, is.content_fits, is.whole, named.1)

pub written_loads : (p : Program) (name : List ℕ) (version : ℕ) → IsProgram p → IsName name → load_answer (written_file p name version) ≡ Ok (image_of p (written_file p name version))
unfolding written_file
written_loads p name version is named =
    let u = unit p.lines name version in
    loads_laid u p (file_with u p) is (laid u p is (unit_is_small p name version is named))

-- what a call wrote, if it is the written file
pub given_loads : {V E : Type 0} (bytes : V → List ℕ) (p : Program) (name : List ℕ) (version : ℕ) (r : Result V E) → IsName name → IfOk r (λ v. bytes v ≡ written_file p name version) → IsProgram p → IfOk r (λ v. load_answer (bytes v) ≡ Ok (image_of p (bytes v)))
given_loads bytes p name version (Ok v) named e is = subst (λ (file : List ℕ). load_answer file ≡ Ok (image_of p file)) (sym e) (written_loads p name version is named)
given_loads bytes p name version (Err x) named e is = tt
