-- The bytes of a written file.
use Rattle.std.specs.Prelude.{◌≡◌, ℕ, ◌+◌, ◌-◌, ◌*◌, ◌<◌, ◌≤◌, Bool, List, [], ◌∷◌, ◌++◌, length, replicate, nat_lt, not, ◌==◌, if◌then◌else◌, codes}
use Rattle.std.specs.List.{AllPass}
use Rattle.coz_types.specs.declared.TheConstants.{MIN_VERSION, MAX_VERSION, MAX_WORD, PAGE}
use Rattle.asm_values.specs.declared.TheConstants.{TEXT_START}
use Rattle.rv_asm.specs.declared.state.TheConstants.{MAX_SECTION}
use Rattle.asm_values.specs.Addresses.{up_to_multiple}
use Rattle.rv_asm.specs.Assembled.{Program}
use Rattle.byte_write.specs.Numbers.{half, word, double}
use Rattle.byte_write.specs.Files.{header_places}
use Rattle.image_write.specs.Unit.{unit}

-- followed by zeros up to this length
abbrev pub filled_up : ℕ → List ℕ → List ℕ
filled_up n bytes = bytes ++ replicate (n - length bytes) 0

-- ---- places in the file

abbrev pub has_content : Program → Bool
has_content p = nat_lt 0 (length p.content)

abbrev pub whole_pages : Program → ℕ
whole_pages p = up_to_multiple PAGE (length p.text)

-- how many bytes the text has with the zeros before the data
abbrev pub text_room : Program → ℕ
text_room p = if has_content p then whole_pages p else length p.text

abbrev pub content_place : Program → ℕ
content_place p = PAGE + text_room p

abbrev pub unit_place : Program → ℕ
unit_place p = content_place p + length p.content

abbrev pub names_place : List ℕ → Program → ℕ
names_place unit p = unit_place p + length unit

-- ---- the names of the sections

abbrev pub with_end : List ℕ → List ℕ
with_end name = name ++ 0 ∷ []

abbrev pub names : List ℕ
names =
    0 ∷ [] ++ with_end (codes ".text") ++ with_end (codes ".data") ++ with_end (codes ".debug_line")
    ++ with_end (codes ".shstrtab")

abbrev pub names_end : List ℕ → Program → ℕ
names_end unit p = names_place unit p + length names

abbrev pub headers_place : List ℕ → Program → ℕ
headers_place unit p = up_to_multiple 8 (names_end unit p)

-- ---- headers

abbrev pub segment_count : Program → ℕ
segment_count p = if has_content p then 2 else 1

-- the entry, the offset of the section headers and how many segments there are
unfoldable pub file_header : ℕ → ℕ → ℕ → List ℕ
file_header entry headers segments =
    0x7F ∷ 0x45 ∷ 0x4C ∷ 0x46 ∷ 2 ∷ 1 ∷ 1 ∷ replicate 9 0
    ++ half 2
    ++ half 243
    ++ word 1
    ++ header_places entry headers
    ++ word 0
    ++ half 64
    ++ half 56
    ++ half segments
    ++ half 64
    ++ half 5
    ++ half 4

unfoldable pub segment : ℕ → ℕ → ℕ → ℕ → List ℕ
segment flags offset address size =
    word 1
    ++ word flags
    ++ double offset
    ++ double address
    ++ double address
    ++ double size
    ++ double size
    ++ double PAGE

unfoldable pub segments : Program → List ℕ
segments p =
    segment 5 PAGE TEXT_START (length p.text)
    ++ (if has_content p
    then segment 6 (PAGE + whole_pages p) (TEXT_START + whole_pages p) (length p.content) else [])

unfoldable pub section : ℕ → ℕ → ℕ → ℕ → ℕ → ℕ → List ℕ
section name kind flags offset size align =
    word name
    ++ word kind
    ++ double flags
    ++ double 0
    ++ double offset
    ++ double size
    ++ word 0
    ++ word 0
    ++ double align
    ++ double 0

unfoldable pub sections : List ℕ → Program → List ℕ
sections unit p =
    section 0 0 0 0 0 0
    ++ section 1 1 6 PAGE (length p.text) 4
    ++ section 7 1 3 (content_place p) (length p.content) 8
    ++ section 13 1 0 (unit_place p) (length unit) 1
    ++ section 25 3 0 (names_place unit p) (length names) 1

-- ---- the file

-- what is before the text
unfoldable pub front : List ℕ → Program → List ℕ
front unit p =
    filled_up PAGE (file_header p.entry (headers_place unit p) (segment_count p) ++ segments p)

-- with this line unit
unfoldable pub file_with : List ℕ → Program → List ℕ
file_with unit p =
    front unit p
    ++ filled_up (text_room p) p.text
    ++ p.content
    ++ unit
    ++ names
    ++ replicate (headers_place unit p - names_end unit p) 0
    ++ sections unit p

unfoldable pub written_file : Program → List ℕ → ℕ → List ℕ
written_file p name version = file_with (unit p.lines name version) p

-- ---- what can be written

abbrev pub IsName : List ℕ → Type 0
IsName name = (0 < length name) × (length name ≤ MAX_WORD) × AllPass (λ b. not (b == 0)) name

abbrev pub IsVersion : ℕ → Type 0
IsVersion version = (MIN_VERSION ≤ version) × (version ≤ MAX_VERSION)

abbrev pub IsWritable : Program → Type 0
IsWritable p =
    (length p.text ≤ MAX_SECTION) × (length p.content ≤ MAX_SECTION)
    × (length p.text ≡ 4 * length p.lines)
