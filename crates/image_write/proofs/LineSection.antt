-- The line unit is the section of that name.
use Rattle.std.proofs.Common.{◌≡◌, ℕ, ◌+◌, ◌-◌, ◌*◌, ◌&&◌, List, [], ◌++◌, length, take, drop, replicate, Some, None, Option, option_map, find, refl, ap, ap₂, ◌∙◌, arith, append_assoc, length-append, nat_lt, if◌then◌else◌, Result, Ok, Err}
use Rattle.std.specs.Prelude.{codes, IfOk}
use Rattle.std.proofs.lemmas.List.{take_at, drop_at}
use Rattle.elf_load.specs.declared.tables.Section.{Section}
use Rattle.elf_load.specs.Tables.{section_at, sections, shoff, shstrndx, has_bytes, bytes_of, has_name}
use Rattle.elf_load.specs.Tables as tables
use Rattle.elf_load.specs.Loaded as loading
use Rattle.rv_asm.specs.Assembled.{Program, IsProgram}
use Rattle.image_write.specs.Unit.{unit}
use Rattle.image_write.specs.File.{names, names_place, names_end, headers_place, unit_place, file_with, written_file, IsName}
use Rattle.image_write.specs.File as file
use Rattle.image_write.proofs.FileParts.{IsLaid, laid, before_unit, length-before_unit, line_section, names_section}
use Rattle.image_write.proofs.Loading.{sections_are, section_headers, unit_is_small}

-- ---- the bytes of two sections

from_unit : (b u n z s : List ℕ) → b ++ u ++ n ++ z ++ s ≡ b ++ (u ++ (n ++ (z ++ s)))
from_unit b u n z s = simp append_assoc

from_names : (b u n z s : List ℕ) → b ++ u ++ n ++ z ++ s ≡ (b ++ u) ++ (n ++ (z ++ s))
from_names b u n z s = simp append_assoc

part_of : (x y rest whole : List ℕ) (offset size : ℕ) → whole ≡ x ++ (y ++ rest) → length x ≡ offset → length y ≡ size → take size (drop offset whole) ≡ y
part_of x y rest whole offset size is at long =
    ap (λ (zs : List ℕ). take size (drop offset zs)) is ∙ ap (λ (zs : List ℕ). take size zs) (drop_at x (y ++ rest) offset at) ∙ take_at y rest size long

gap : List ℕ → Program → List ℕ
gap u p = replicate (headers_place u p - names_end u p) 0

unit_bytes : (u : List ℕ) (p : Program) → bytes_of (file_with u p) (line_section u p) ≡ u
unfolding file_with gap
unit_bytes u p = part_of (before_unit u p) u (names ++ (gap u p ++ file.sections u p)) (file_with u p) (unit_place p) (length u) (from_unit (before_unit u p) u names (gap u p) (file.sections u p)) (length-before_unit u p) refl

names_bytes : (u : List ℕ) (p : Program) → bytes_of (file_with u p) (names_section u p) ≡ names
unfolding file_with gap
names_bytes u p =
    let at : length (before_unit u p ++ u) ≡ names_place u p = omega (arith, length-append (before_unit u p) u, length-before_unit u p) in
    part_of (before_unit u p ++ u) names (gap u p ++ file.sections u p) (file_with u p) (names_place u p) 35 (from_names (before_unit u p) u names (gap u p) (file.sections u p)) at refl

-- ---- the section by its name

abbrev names_by : List ℕ → ℕ → ℕ → Section → List ℕ
names_by f i n s = if nat_lt 0 i && nat_lt i n && has_bytes s then bytes_of f s else []

names_read : (u : List ℕ) (p : Program) (f : List ℕ) → IsLaid u p f → tables.names f ≡ bytes_of f (names_section u p)
names_read u p f is =
    let offset : headers_place u p + 64 * 4 ≡ headers_place u p + 64 + 64 + 64 + 64 = omega arith in
    let header : section_at f (shoff f + 64 * shstrndx f) ≡ names_section u p =
    ap₂ (λ (a b : ℕ). section_at f (a + 64 * b)) is.is_headed.has_shoff is.is_headed.has_shstrndx ∙ ap (λ (n : ℕ). section_at f n) offset ∙ is.section_4 in
    λ i. names_by f (is.is_headed.has_shstrndx i) (is.is_headed.has_shnum i) (header i)

abbrev search_by : List ℕ → List Section → Option Section
search_by ns ss = find (λ s. has_bytes s && has_name ns (codes ".debug_line") s) ss

line_found : (u : List ℕ) (p : Program) → search_by names (section_headers u p) ≡ Some (line_section u p)
line_found u p = refl

section_found : (u : List ℕ) (p : Program) → IsLaid u p (file_with u p) → loading.section (file_with u p) (codes ".debug_line") ≡ Some u
unfolding loading.section
section_found u p is =
    let f = file_with u p in
    let found : search_by (tables.names f) (sections f) ≡ Some (line_section u p) =
    ap₂ search_by (names_read u p f is ∙ names_bytes u p) (sections_are u p f is) ∙ line_found u p in
    ap (λ (o : Option Section). option_map (bytes_of f) o) found ∙ ap (λ (bytes : List ℕ). Some bytes) (unit_bytes u p)

-- no section has one of these names
abbrev search_for : List ℕ → List ℕ → List Section → Option Section
search_for name ns ss = find (λ s. has_bytes s && has_name ns name s) ss

absent : (u name : List ℕ) (p : Program) → search_for name names (section_headers u p) ≡ None → IsLaid u p (file_with u p) → loading.section (file_with u p) name ≡ None
unfolding loading.section
absent u name p none is =
    let f = file_with u p in
    let found : search_for name (tables.names f) (sections f) ≡ None =
    ap₂ (search_for name) (names_read u p f is ∙ names_bytes u p) (sections_are u p f is) ∙ none in
    ap (λ (o : Option Section). option_map (bytes_of f) o) found

no_texts_laid : (u : List ℕ) (p : Program) → IsLaid u p (file_with u p)
    → (loading.section (file_with u p) (codes ".debug_str") ≡ None) × (loading.section (file_with u p) (codes ".debug_line_str") ≡ None)
no_texts_laid u p is = (absent u (codes ".debug_str") p refl is, absent u (codes ".debug_line_str") p refl is)

-- the texts of the lines are all in their unit
pub no_texts : (p : Program) (name : List ℕ) (version : ℕ) → IsProgram p → IsName name
    → (loading.section (written_file p name version) (codes ".debug_str") ≡ None) × (loading.section (written_file p name version) (codes ".debug_line_str") ≡ None)
unfolding written_file
no_texts p name version is named = no_texts_laid (unit p.lines name version) p (laid (unit p.lines name version) p is (unit_is_small p name version is named))

pub unit_found : (p : Program) (name : List ℕ) (version : ℕ) → IsProgram p → IsName name → loading.section (written_file p name version) (codes ".debug_line") ≡ Some (unit p.lines name version)
unfolding written_file
unit_found p name version is named = section_found (unit p.lines name version) p (laid (unit p.lines name version) p is (unit_is_small p name version is named))

-- what a call wrote, if it is the written file
pub given_unit : {V E : Type 0} (bytes : V → List ℕ) (p : Program) (name : List ℕ) (version : ℕ) (r : Result V E) → IsName name → IfOk r (λ v. bytes v ≡ written_file p name version) → IsProgram p → IfOk r (λ v. loading.section (bytes v) (codes ".debug_line") ≡ Some (unit p.lines name version))
given_unit bytes p name version (Ok v) named e is = ap (λ (f : List ℕ). loading.section f (codes ".debug_line")) e ∙ unit_found p name version is named
given_unit bytes p name version (Err x) named e is = tt
