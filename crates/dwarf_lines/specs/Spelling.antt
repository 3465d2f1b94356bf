-- Which sections spell which tables. A section is a concatenation of units,
-- and a program one of opcodes.
use Rattle.std.specs.Prelude.{◌≡◌, ℕ, ◌+◌, ◌-◌, ◌^◌, ◌<◌, ◌≤◌, ◌≢◌, ◌⊎◌, true, false, List, [], ◌∷◌, ◌++◌, length, slice_index, ℤ, not, ◌==◌, nat_le, drop, Bool, Some}
use Rattle.std.specs.List.{concat, AllByRecursion}
use Rattle.std.specs.Int.{w16, w32, w64, to_le_bytes, cast_signed, w8}
use Rattle.leb_cursor.specs.Numbers.{SpellsUnsigned, SpellsSigned}
use Rattle.leb_cursor.specs.Ahead.{fits_64_signed}
use Rattle.dwarf_lines.specs.Registers.{File, Table, Header, Operation, Copy, AdvancePc, AdvanceLine, SetFile, SetColumn, NegateStmt, ConstAddPc, FixedAdvancePc, Special, EndSequence, SetAddress, DefineFile, Pass, State, empty_table, state_after, has_line, first_state, is_open, directory}
use Rattle.dwarf_lines.specs.declared.forms.Form.{Form}
use Rattle.dwarf_lines.specs.declared.forms.Form.TheVariants.{String, Strp, LineStrp, Data1, Data2, Udata, Data4, Data8, Data16, Block}
use Rattle.dwarf_lines.specs.declared.forms.Format.{Format}
use Rattle.dwarf_lines.specs.Names.{Strings, form_for, Value, Text, Number, Other, Entry, empty_entry, entry_of, paths, files_of}

-- ---- numbers, texts and files

-- an unsigned number of 64 bits
abbrev pub IsUleb : ℕ → List ℕ → Type 0
IsUleb n bytes = SpellsUnsigned n bytes × (n < 2 ^ 64)

-- a text without zero bytes, and the zero byte that ends it
abbrev pub SpellsText : List ℕ → List ℕ → Type 0
SpellsText text bytes = AllByRecursion (λ b. 0 < b) text × (bytes ≡ text ++ 0 ∷ [])

-- a name, the number of its directory, a time and a length
abbrev pub SpellsFile : List (List ℕ) → File → List ℕ → Type 0
SpellsFile directories file bytes =
    (name : List ℕ) × (number : List ℕ) × (time : List ℕ) × (size : List ℕ)
    × (n : ℕ) × (t : ℕ) × (z : ℕ)
    × (bytes ≡ name ++ (number ++ (time ++ size)))
    × SpellsText file.name name × IsUleb n number × IsUleb t time × IsUleb z size
    × (file.directory ≡ directory directories n)

-- one spelling after the other
abbrev pub SpellsAll : {A : Type 0} → (A → List ℕ → Type 0) → List A → List ℕ → Type 0
SpellsAll Spells [] bytes = bytes ≡ []
SpellsAll Spells (x ∷ xs) bytes =
    (front : List ℕ) × (rest : List ℕ) × (bytes ≡ front ++ rest) × Spells x front
    × SpellsAll Spells xs rest

-- ---- opcodes (DWARF 4, 6.2.5)

-- an opcode below opcode_base, and its operands
abbrev pub SpellsStandard : Header → ℕ → (List ℕ → Type 0) → List ℕ → Type 0
SpellsStandard h o Operands code =
    (operands : List ℕ) × (code ≡ o ∷ operands) × (0 < o) × (o < h.opcode_base) × Operands operands

abbrev pub IsNothing : List ℕ → Type 0
IsNothing operands = operands ≡ []

-- a signed number of 64 bits
abbrev pub IsSleb : ℤ → List ℕ → Type 0
IsSleb z bytes = SpellsSigned z bytes × (fits_64_signed z ≡ true)

-- `count` unsigned ones, of whatever value
abbrev pub AreUlebs : ℕ → List ℕ → Type 0
AreUlebs count bytes = (ns : List ℕ) × (length ns ≡ count) × SpellsAll IsUleb ns bytes

-- a zero byte, a length and a body of that length
abbrev pub SpellsExtended : List ℕ → List ℕ → Type 0
SpellsExtended body code = (size : List ℕ) × (code ≡ (0 ∷ size) ++ body) × IsUleb (length body) size

-- opcodes without an effect of which the table says how many operands they have
abbrev pub operand_count : Header → ℕ → ℕ
operand_count h o = slice_index h.lengths (o - 1)

abbrev pub IsPassed : Header → List ℕ → Type 0
IsPassed h code =
    SpellsStandard h 7 IsNothing code
    ⊎ SpellsStandard h 10 IsNothing code
    ⊎ SpellsStandard h 11 IsNothing code
    ⊎ SpellsStandard h 12 (AreUlebs 1) code
    ⊎ ((o : ℕ) × (12 < o) × SpellsStandard h o (AreUlebs (operand_count h o)) code)
    ⊎ SpellsExtended [] code
    ⊎ ((e : ℕ) × (body : List ℕ) × (e ≢ 1) × (e ≢ 2) × (e ≡ 3 → h.version ≡ 5)
    × SpellsExtended (e ∷ body) code)

-- the bytes are a spelling of the operation
abbrev pub Spells : Header → Operation → List ℕ → Type 0
Spells h Copy code = SpellsStandard h 1 IsNothing code
Spells h (AdvancePc n) code = SpellsStandard h 2 (IsUleb n) code
Spells h (AdvanceLine z) code = SpellsStandard h 3 (IsSleb z) code
Spells h (SetFile n) code = SpellsStandard h 4 (IsUleb n) code
Spells h (SetColumn n) code = SpellsStandard h 5 (IsUleb n) code
Spells h NegateStmt code = SpellsStandard h 6 IsNothing code
Spells h ConstAddPc code = SpellsStandard h 8 IsNothing code
Spells h (FixedAdvancePc n) code =
    SpellsStandard h 9 (λ operands. operands ≡ to_le_bytes w16 n) code × (n < 2 ^ 16)
Spells h (Special o) code = (code ≡ o ∷ []) × (h.opcode_base ≤ o)
Spells h EndSequence code = (spare : List ℕ) × SpellsExtended (1 ∷ spare) code
Spells h (SetAddress a) code = SpellsExtended (2 ∷ to_le_bytes w64 a) code × (a < 2 ^ 64)
Spells h (DefineFile f) code =
    (file : List ℕ) × (spare : List ℕ)
    × SpellsExtended ((3 ∷ file) ++ spare) code × SpellsFile h.directories f file × (h.version ≢ 5)
Spells h Pass code = IsPassed h code

-- opcodes one after the other take a state to another
abbrev pub Goes : Header → List (List ℕ) → State → State → Type 0
Goes h [] s t = t ≡ s
Goes h (code ∷ codes) s t =
    (op : Operation) × Spells h op code × (has_line h op s ≡ true)
    × Goes h codes (state_after h op s) t

-- ---- directories and files of version 5 (DWARF 5, 6.2.4.1)

-- the text from a place of a section of texts up to a zero byte
abbrev pub IsTextAt : List ℕ → ℕ → List ℕ → Type 0
IsTextAt texts n text =
    (rest : List ℕ) × (drop n texts ≡ (text ++ 0 ∷ []) ++ rest) × AllByRecursion (λ b. 0 < b) text

-- four bytes, the place of a text
abbrev pub SpellsPlace : List ℕ → Value → List ℕ → Type 0
SpellsPlace texts v bytes =
    (n : ℕ) × (text : List ℕ) × (bytes ≡ to_le_bytes w32 n) × (n < 2 ^ 32)
    × IsTextAt texts n text × (v ≡ Text text)

abbrev pub SpellsValue : Strings → Form → Value → List ℕ → Type 0
SpellsValue strings String v bytes = (text : List ℕ) × SpellsText text bytes × (v ≡ Text text)
SpellsValue strings Strp v bytes = SpellsPlace strings.general v bytes
SpellsValue strings LineStrp v bytes = SpellsPlace strings.line v bytes
SpellsValue strings Data1 v bytes = (n : ℕ) × (bytes ≡ n ∷ []) × (v ≡ Number n)
SpellsValue strings Data2 v bytes =
    (n : ℕ) × (bytes ≡ to_le_bytes w16 n) × (n < 2 ^ 16) × (v ≡ Number n)
SpellsValue strings Udata v bytes = (n : ℕ) × IsUleb n bytes × (v ≡ Number n)
SpellsValue strings Data4 v bytes = (length bytes ≡ 4) × (v ≡ Other)
SpellsValue strings Data8 v bytes = (length bytes ≡ 8) × (v ≡ Other)
SpellsValue strings Data16 v bytes = (length bytes ≡ 16) × (v ≡ Other)
SpellsValue strings Block v bytes =
    (size : List ℕ) × (block : List ℕ) × (bytes ≡ size ++ block)
    × IsUleb (length block) size × (v ≡ Other)

-- a content and the number of a form that it may have
abbrev pub SpellsFormat : Format → List ℕ → Type 0
SpellsFormat f bytes =
    (content : List ℕ) × (code : List ℕ) × (n : ℕ) × (bytes ≡ content ++ code)
    × IsUleb f.content content × IsUleb n code × (form_for f.content n ≡ Some f.form)

-- a value for each format
abbrev pub SpellsValues : Strings → List Format → List Value → List ℕ → Type 0
SpellsValues strings [] [] bytes = bytes ≡ []
SpellsValues strings [] (v ∷ vs) bytes = ⊥
SpellsValues strings (f ∷ fs) [] bytes = ⊥
SpellsValues strings (f ∷ fs) (v ∷ vs) bytes =
    (front : List ℕ) × (rest : List ℕ) × (bytes ≡ front ++ rest)
    × SpellsValue strings f.form v front × SpellsValues strings fs vs rest

abbrev pub SpellsEntry : Strings → List Format → Entry → List ℕ → Type 0
SpellsEntry strings fs e bytes =
    (vs : List Value) × SpellsValues strings fs vs bytes × (e ≡ entry_of fs vs empty_entry)

-- the formats with their count, and the entries with theirs; without formats there are no entries
abbrev pub SpellsListed : Strings → List Entry → List ℕ → Type 0
SpellsListed strings entries bytes =
    (fs : List Format) × (formats : List ℕ) × (count : List ℕ) × (spelled : List ℕ)
    × (bytes ≡ length fs ∷ (formats ++ (count ++ spelled)))
    × SpellsAll SpellsFormat fs formats × IsUleb (length entries) count
    × SpellsAll (SpellsEntry strings fs) entries spelled
    × ((0 < length fs) ⊎ (length entries ≡ 0))

-- ---- units (DWARF 4, 6.2.4; DWARF 5, 6.2.4)

-- address_size and segment_selector_size, in version 5 alone
abbrev pub sizes : ℕ → List ℕ
sizes version = elim (version == 5) [ true ↦ 8 ∷ 0 ∷ [] | false ↦ [] ]

-- the count of operations for an instruction, from version 4 on
abbrev pub operations : ℕ → List ℕ
operations version = elim (nat_le 4 version) [ true ↦ 1 ∷ [] | false ↦ [] ]

-- directories and files, with their ends
abbrev pub SpellsNames : Bool → Strings → List (List ℕ) → List File → List ℕ → Type 0
SpellsNames true strings directories files bytes =
    (ds : List Entry) × (fs : List Entry) × (front : List ℕ) × (rest : List ℕ)
    × (bytes ≡ front ++ rest) × SpellsListed strings ds front × SpellsListed strings fs rest
    × (directories ≡ paths ds) × (files ≡ files_of directories fs)
SpellsNames false strings directories files bytes =
    (front : List ℕ) × (rest : List ℕ)
    × (bytes ≡ (front ++ 0 ∷ []) ++ (rest ++ 0 ∷ []))
    × SpellsAll SpellsText directories front × SpellsAll (SpellsFile directories) files rest
    × AllByRecursion (λ d. 0 < length d) directories
    × AllByRecursion (λ (f : File). 0 < length f.name) files

-- the header's bytes from minimum_instruction_length on, up to where header_length ends it
abbrev pub SpellsHeader : ℕ → Strings → Header → List ℕ → Type 0
SpellsHeader version strings h bytes =
    (is_stmt : ℕ) × (base : ℕ) × (names : List ℕ) × (spare : List ℕ)
    × (bytes ≡ (h.minimum_length ∷ operations version)
    ++ (is_stmt ∷ base ∷ h.line_range ∷ h.opcode_base ∷ h.lengths) ++ names ++ spare)
    × (h.version ≡ version)
    × (h.is_stmt ≡ not (is_stmt == 0))
    × (h.line_base ≡ cast_signed w8 base)
    × (0 < h.line_range)
    × (h.opcode_base ≡ 1 + length h.lengths)
    × SpellsNames (version == 5) strings h.directories h.files names

abbrev pub IsSupported : ℕ → Type 0
IsSupported version = (2 ≤ version) × (version ≤ 5)

-- what a unit of a version that is read has after its version
abbrev pub ReadsUnit : ℕ → Strings → List ℕ → Table → Table → Type 0
ReadsUnit version strings bytes t u =
    (h : Header) × (header : List ℕ) × (codes : List (List ℕ)) × (s : State)
    × (bytes ≡ sizes version ++ (to_le_bytes w32 (length header) ++ header ++ concat codes))
    × SpellsHeader version strings h header
    × Goes h codes (first_state h t) s
    × (is_open s.table.rows ≡ false)
    × (u ≡ s.table)

-- a unit takes a table to another: it is read, or passed over and counted
abbrev pub TakesUnit : Strings → List ℕ → Table → Table → Type 0
TakesUnit strings unit t u =
    (version : ℕ) × (bytes : List ℕ)
    × (unit ≡ to_le_bytes w32 (2 + length bytes) ++ to_le_bytes w16 version ++ bytes)
    × (2 + length bytes < 0xFFFFFFF0) × (version < 2 ^ 16)
    × ((IsSupported version × ReadsUnit version strings bytes t u)
    ⊎ ((IsSupported version → ⊥) × (u ≡ record t { skipped = t.skipped + 1 })))

abbrev pub Takes : Strings → List (List ℕ) → Table → Table → Type 0
Takes strings [] t u = u ≡ t
Takes strings (unit ∷ units) t u =
    (m : Table) × TakesUnit strings unit t m × Takes strings units m u

-- the table of a section
pub record IsTable (strings : Strings) (section : List ℕ) (table : Table) : Type 0 where
  pub units : List (List ℕ)
  pub whole : section ≡ concat units
  pub takes : Takes strings units empty_table table
