-- Reading a section field by field, up to the first fault.
use Rattle.std.specs.Prelude.{◌≡◌, ℕ, zero, suc, ◌+◌, ◌-◌, Bool, true, false, not, ◌&&◌, List, [], ◌∷◌, length, get_or, ℤ, Result, Ok, Err, nat_lt, nat_le, ◌==◌, ◌||◌, drop, take, position, Option, Some, None, if◌then◌else◌}
use Rattle.std.specs.Int.{w8, w16, w32, w64, cast_signed}
use Rattle.leb_cursor.specs.declared.Short.{Short}
use Rattle.leb_cursor.specs.declared.LebFault.{LebFault}
use Rattle.leb_cursor.specs.declared.LebFault.TheVariants as leb
use Rattle.leb_cursor.specs.Ahead.{Ahead, Reading, ◌>>=◌, up_to, number_at, bytes_at, part_at, text_at, uleb_at, sleb_at}
use Rattle.dwarf_lines.specs.declared.LineKind.{LineKind}
use Rattle.dwarf_lines.specs.declared.LineKind.TheVariants as kinds
use Rattle.dwarf_lines.specs.declared.LineFault.{LineFault}
use Rattle.failures.specs.declared.Failure.{Failure}
use Rattle.failures.specs.Answers.{Fails}
use Rattle.dwarf_lines.specs.Registers.{File, Table, Header, Operation, Copy, AdvancePc, AdvanceLine, SetFile, SetColumn, NegateStmt, ConstAddPc, FixedAdvancePc, Special, EndSequence, SetAddress, DefineFile, Pass, State, empty_table, state_after, has_line, first_state, is_open, directory}
use Rattle.dwarf_lines.specs.declared.forms.Form.{Form}
use Rattle.dwarf_lines.specs.declared.forms.Form.TheVariants.{String, Strp, LineStrp, Data1, Data2, Udata, Data4, Data8, Data16, Block}
use Rattle.dwarf_lines.specs.declared.forms.Format.{Format}
use Rattle.dwarf_lines.specs.Names.{Strings, form_for, Value, Text, Number, Other, Entry, empty_entry, entry_of, paths, files_of}

-- ---- fields

abbrev pub fault : LineKind → ℕ → LineFault
fault kind place = record { kind = kind; place = place }

-- what is read, unless the place has this fault
abbrev pub check : {X : Type 0} → Bool → LineKind → ℕ → X → Result X LineFault
check holds kind place x = if holds then Ok x else Err (fault kind place)

abbrev pub field : {X : Type 0} → Result X Short → Result X LineFault
field (Ok x) = Ok x
field (Err e) = Err (fault kinds.Short e.place)

abbrev pub leb_fault : LebFault → LineFault
leb_fault (leb.Short e) = fault kinds.Short e.place
leb_fault (leb.Wide place) = fault kinds.Wide place

abbrev pub leb_field : {X : Type 0} → Result X LebFault → Result X LineFault
leb_field (Ok x) = Ok x
leb_field (Err e) = Err (leb_fault e)

abbrev pub byte : Ahead → Reading ℕ LineFault
byte a = field (number_at w8 a)

abbrev pub half_field : Ahead → Reading ℕ LineFault
half_field a = field (number_at w16 a)

abbrev pub word : Ahead → Reading ℕ LineFault
word a = field (number_at w32 a)

abbrev pub unsigned_field : Ahead → Reading ℕ LineFault
unsigned_field a = leb_field (uleb_at a)

-- a byte that passes the test, else this fault at it
abbrev pub byte_that : (ℕ → Bool) → LineKind → Ahead → Reading ℕ LineFault
byte_that test kind a = do
  b ← byte a
  check (test b.0) kind a.place b

-- the next n bytes on their own; if there are fewer, Short at this offset
abbrev pub announced_bytes : ℕ → ℕ → Ahead → Reading Ahead LineFault
announced_bytes place n a =
    if nat_le n (length a.bytes) then field (part_at n a) else Err (fault kinds.Short place)

-- n unsigned numbers, of whatever value
unfoldable pub ahead_of_numbers : ℕ → Ahead → Result Ahead LineFault
ahead_of_numbers zero a = Ok a
ahead_of_numbers (suc n) a = do
  x ← unsigned_field a
  ahead_of_numbers n x.1

-- texts up to an empty one; the count bounds them
unfoldable pub texts : ℕ → Ahead → Reading (List (List ℕ)) LineFault
texts zero a = Ok ([], a)
texts (suc n) a = do
  text ← field (text_at a)
  elim (text.0) [
    | [] ↦ Ok ([], text.1)
    | b ∷ bs ↦ texts n text.1 >>= λ more. Ok (text.0 ∷ more.0, more.1)
  ]

-- what follows the name of a file
abbrev pub file_named : List (List ℕ) → List ℕ → Ahead → Reading File LineFault
file_named directories name a = do
  number ← unsigned_field a
  time ← unsigned_field number.1
  size ← unsigned_field time.1
  Ok (record { directory = directory directories number.0; name = name }, size.1)

abbrev pub file : List (List ℕ) → Ahead → Reading File LineFault
file directories a = do
  name ← field (text_at a)
  file_named directories name.0 name.1

-- files up to an empty name
unfoldable pub files : ℕ → List (List ℕ) → Ahead → Reading (List File) LineFault
files zero directories a = Ok ([], a)
files (suc n) directories a = do
  name ← field (text_at a)
  elim (name.0) [
    | [] ↦ Ok ([], name.1)
    | b ∷ bs ↦ file_named directories name.0 name.1 >>= λ first.
        files n directories first.1 >>= λ more.
        Ok (first.0 ∷ more.0, more.1)
  ]

-- ---- directories and files of version 5 (DWARF 5, 6.2.4.1)

-- four bytes, the place of a text in a section of texts; the text goes up to the next zero byte
abbrev pub text_in : List ℕ → Ahead → Reading Value LineFault
text_in texts a = do
  n ← word a
  up_to {X = Reading Value LineFault} (position (λ b. b == 0) (drop n.0 texts)) a
      (λ k. Ok (Text (take k (drop n.0 texts)), n.1))
      (Err (fault kinds.TextOut a.place))

abbrev pub own_text : Ahead → Reading Value LineFault
own_text a = do
  text ← field (text_at a)
  Ok (Text text.0, text.1)

abbrev pub number : Reading ℕ LineFault → Reading Value LineFault
number reads = do
  n ← reads
  Ok (Number n.0, n.1)

abbrev pub other_value : Reading (List ℕ) LineFault → Reading Value LineFault
other_value reads = do
  x ← reads
  Ok (Other, x.1)

abbrev pub block : Ahead → Reading (List ℕ) LineFault
block a = do
  size ← unsigned_field a
  field (bytes_at size.0 size.1)

abbrev pub value : Strings → Form → Ahead → Reading Value LineFault
value strings String a = own_text a
value strings Strp a = text_in strings.general a
value strings LineStrp a = text_in strings.line a
value strings Data1 a = number (byte a)
value strings Data2 a = number (half_field a)
value strings Udata a = number (unsigned_field a)
value strings Data4 a = other_value (field (bytes_at 4 a))
value strings Data8 a = other_value (field (bytes_at 8 a))
value strings Data16 a = other_value (field (bytes_at 16 a))
value strings Block a = other_value (block a)

-- the form that is there, else FormOut at this place
abbrev pub allowed_form : Option Form → ℕ → Result Form LineFault
allowed_form (Some form) place = Ok form
allowed_form None place = Err (fault kinds.FormOut place)

abbrev pub format : Ahead → Reading Format LineFault
format a = do
  content ← unsigned_field a
  code ← unsigned_field content.1
  form ← allowed_form (form_for content.0 code.0) content.1.place
  Ok (record { content = content.0; form = form }, code.1)

unfoldable pub formats : ℕ → Ahead → Reading (List Format) LineFault
formats zero a = Ok ([], a)
formats (suc n) a = do
  first ← format a
  more ← formats n first.1
  Ok (first.0 ∷ more.0, more.1)

-- a value for each format
unfoldable pub values : Strings → List Format → Ahead → Reading (List Value) LineFault
values strings [] a = Ok ([], a)
values strings (f ∷ fs) a = do
  first ← value strings f.form a
  more ← values strings fs first.1
  Ok (first.0 ∷ more.0, more.1)

abbrev pub entry : Strings → List Format → Ahead → Reading Entry LineFault
entry strings fs a = do
  vs ← values strings fs a
  Ok (entry_of fs vs.0 empty_entry, vs.1)

unfoldable pub entries : ℕ → Strings → List Format → Ahead → Reading (List Entry) LineFault
entries zero strings fs a = Ok ([], a)
entries (suc n) strings fs a = do
  first ← entry strings fs a
  more ← entries n strings fs first.1
  Ok (first.0 ∷ more.0, more.1)

-- a count of formats, the formats, a count of entries, and these
unfoldable pub entry_list : Strings → Ahead → Reading (List Entry) LineFault
entry_list strings a = do
  count ← byte a
  fs ← formats count.0 count.1
  n ← unsigned_field fs.1
  fine ← check (nat_lt 0 count.0 || n.0 == 0) kinds.EmptyEntries fs.1.place n
  entries fine.0 strings fs.0 fine.1

-- ---- header (DWARF 4, 6.2.4; DWARF 5, 6.2.4)

-- the directories' texts and the files
pub record Names : Type 0 where
  pub directories : List (List ℕ)
  pub files : List File

abbrev pub names_before_5 : Ahead → Reading Names LineFault
names_before_5 a = do
  directories ← texts (suc (length a.bytes)) a
  entries ← files (suc (length directories.1.bytes)) directories.0 directories.1
  Ok (record { directories = directories.0; files = entries.0 }, entries.1)

abbrev pub names_5 : Strings → Ahead → Reading Names LineFault
names_5 strings a = do
  directories ← entry_list strings a
  files ← entry_list strings directories.1
  Ok (
    record { directories = paths directories.0; files = files_of (paths directories.0) files.0 },
    files.1,
  )

abbrev pub names : Bool → Strings → Ahead → Reading Names LineFault
names true strings a = names_5 strings a
names false strings a = names_before_5 a

-- address_size and segment_selector_size, in version 5 alone
abbrev pub sizes : ℕ → Ahead → Result Ahead LineFault
sizes version a =
    elim (version == 5) [
      | true ↦ byte_that (λ n. n == 8) kinds.AddressSize a >>= λ size.
          byte_that (λ n. n == 0) kinds.SegmentSize size.1 >>= λ segment.
          Ok segment.1
      | false ↦ Ok a
    ]

abbrev pub operations : ℕ → Ahead → Result Ahead LineFault
operations version a =
    elim (nat_le 4 version) [
      | true ↦ byte_that (λ n. n == 1) kinds.ManyOps a >>= λ n. Ok n.1
      | false ↦ Ok a
    ]

-- from minimum_instruction_length on
unfoldable pub header : ℕ → Strings → Ahead → Result Header LineFault
header version strings a = do
  minimum ← byte a
  rest ← operations version minimum.1
  is_stmt ← byte rest
  base ← byte is_stmt.1
  range ← byte_that (λ n. nat_lt 0 n) kinds.ZeroRange base.1
  opcode_base ← byte_that (λ n. nat_lt 0 n) kinds.OpcodeBaseZero range.1
  lengths ← field (bytes_at (opcode_base.0 - 1) opcode_base.1)
  names ← names (version == 5) strings lengths.1
  Ok (record {
    version = version;
    minimum_length = minimum.0;
    is_stmt = not (is_stmt.0 == 0);
    line_base = cast_signed w8 base.0;
    line_range = range.0;
    opcode_base = opcode_base.0;
    lengths = lengths.0;
    directories = names.0.directories;
    files = names.0.files;
  })

-- ---- opcodes (DWARF 4, 6.2.5)

abbrev pub with_none : Operation → Ahead → Reading Operation LineFault
with_none op a = Ok (op, a)

abbrev pub with_unsigned : (ℕ → Operation) → Ahead → Reading Operation LineFault
with_unsigned op a = do
  n ← unsigned_field a
  Ok (op n.0, n.1)

abbrev pub with_signed : (ℤ → Operation) → Ahead → Reading Operation LineFault
with_signed op a = do
  z ← leb_field (sleb_at a)
  Ok (op z.0, z.1)

abbrev pub with_half : (ℕ → Operation) → Ahead → Reading Operation LineFault
with_half op a = do
  n ← half_field a
  Ok (op n.0, n.1)

abbrev pub operation_passed : ℕ → Ahead → Reading Operation LineFault
operation_passed n a = do
  rest ← ahead_of_numbers n a
  Ok (Pass, rest)

-- opcodes 1 to 12
abbrev pub standard : List (Ahead → Reading Operation LineFault)
standard =
    with_none Copy
    ∷ with_unsigned AdvancePc
    ∷ with_signed AdvanceLine
    ∷ with_unsigned SetFile
    ∷ with_unsigned SetColumn
    ∷ with_none NegateStmt
    ∷ with_none Pass
    ∷ with_none ConstAddPc
    ∷ with_half FixedAdvancePc
    ∷ with_none Pass
    ∷ with_none Pass
    ∷ operation_passed 1
    ∷ []

-- a body of this length, in an extended opcode at this place; what is left of the body is passed
abbrev pub address : ℕ → ℕ → Ahead → Result Operation LineFault
address place size a =
    if size == 9
    then (field (number_at w64 a) >>= λ n. Ok (SetAddress n.0))
    else Err (fault kinds.AddressLength place)

-- extended opcodes 0 to 3, after their number
abbrev pub extended_operations : Header → ℕ → ℕ → List (Ahead → Result Operation LineFault)
extended_operations h place size =
    (λ a. Ok Pass)
    ∷ (λ a. Ok EndSequence)
    ∷ address place size
    ∷ (λ a. elim (h.version == 5) [
      | true ↦ Ok Pass
      | false ↦ file h.directories a >>= λ f. Ok (DefineFile f.0)
    ])
    ∷ []

abbrev pub body : Header → ℕ → Ahead → Result Operation LineFault
body h place a =
    elim (a.bytes) [
      | [] ↦ Ok Pass
      | b ∷ bs ↦ byte a >>= λ e.
          get_or (extended_operations h place (length a.bytes)) e.0 (λ rest. Ok Pass) e.1
    ]

-- after the zero byte at this place
abbrev pub extended_at : Header → ℕ → Ahead → Reading Operation LineFault
extended_at h place a = do
  size ← unsigned_field a
  inside ← field (part_at size.0 size.1)
  op ← body h place inside.0
  Ok (op, inside.1)

-- after the opcode at this place
abbrev pub below_base : Header → ℕ → ℕ → Ahead → Reading Operation LineFault
below_base h place zero a = extended_at h place a
below_base h place (suc k) a = get_or standard k (operation_passed (get_or h.lengths k 0)) a

unfoldable pub operation : Header → Ahead → Reading Operation LineFault
operation h a = do
  o ← byte a
  elim (nat_lt o.0 h.opcode_base) [
    | true ↦ below_base h a.place o.0 o.1
    | false ↦ Ok (Special o.0, o.1)
  ]

-- the opcodes up to the end of the bytes, of which there are at most n
unfoldable pub program : ℕ → Header → State → Ahead → Result State LineFault
program zero h s a = Ok s
program (suc n) h s a =
    elim (a.bytes) [
      | [] ↦ check (not (is_open s.table.rows)) kinds.Unended a.place s
      | b ∷ bs ↦ operation h a >>= λ op.
          check (has_line h op.0 s) kinds.LineOut a.place (state_after h op.0 s) >>= λ next.
          program n h next op.1
    ]

-- the table when a program is done
abbrev pub finished_table : Result State LineFault → Result Table LineFault
finished_table reads = reads >>= λ s. Ok s.table

-- ---- units

abbrev pub is_read : ℕ → Bool
is_read version = nat_le 2 version && nat_le version 5

-- after the version, up to the unit's end
unfoldable pub unit_body : ℕ → Strings → Table → Ahead → Result Table LineFault
unit_body version strings t a = do
  state_after ← sizes version a
  size ← word state_after
  inside ← announced_bytes state_after.place size.0 size.1
  h ← header version strings inside.0
  finished_table (program (suc (length inside.1.bytes)) h (first_state h t) inside.1)

unfoldable pub unit : Strings → Table → Ahead → Reading Table LineFault
unit strings t a = do
  size ← word a
  long ← check (nat_lt size.0 0xFFFFFFF0) kinds.LongForm a.place size
  inside ← announced_bytes a.place long.0 long.1
  version ← half_field inside.0
  u ← elim (is_read version.0) [
    | true ↦ unit_body version.0 strings t version.1
    | false ↦ Ok (record t { skipped = t.skipped + 1 })
  ]
  Ok (u, inside.1)

unfoldable pub units : ℕ → Strings → Table → Ahead → Result Table LineFault
units zero strings t a = Ok t
units (suc n) strings t a =
    elim (a.bytes) [
      | [] ↦ Ok t
      | b ∷ bs ↦ unit strings t a >>= λ u. units n strings u.0 u.1
    ]

-- the table of a section, or its first fault
unfoldable pub reading : Strings → List ℕ → Result Table LineFault
reading strings section =
    units (suc (length section)) strings empty_table (record { place = 0; bytes = section })

-- ---- what calls answer

-- What a call answered that asks for no memory is what this reading gives.
abbrev pub Finds : {X A : Type 0} → (X → A) → Result X LineFault → Result A LineFault → Type 0
Finds view (Ok x) reads = reads ≡ Ok (view x)
Finds view (Err e) reads = reads ≡ Err e

-- The same of a walk over a cursor. After a fault the cursor is anywhere.
abbrev pub Walks : {X A : Type 0} → (X → A) → Result X LineFault → Ahead
    → Reading A LineFault → Type 0
Walks view (Ok x) new reads = reads ≡ Ok (view x, new)
Walks view (Err e) new reads = reads ≡ Err e

abbrev pub WalksOn : {X : Type 0} → Result X LineFault → Ahead → Result Ahead LineFault → Type 0
WalksOn (Ok x) new reads = reads ≡ Ok new
WalksOn (Err e) new reads = reads ≡ Err e

-- The same if memory may run out.
abbrev pub WalksOver : {X A : Type 0} → (X → A) → Result X (Failure LineFault) → Ahead
    → Reading A LineFault → Type 0
WalksOver view (Ok x) new reads = reads ≡ Ok (view x, new)
WalksOver view (Err e) new reads = Fails e reads
