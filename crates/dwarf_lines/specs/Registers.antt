-- What line programs change: the registers and the table so far (DWARF 4, 6.2.2).
use Rattle.std.specs.Prelude.{ℕ, zero, suc, ◌+◌, ◌-◌, ◌*◌, ◌/◌, ◌%◌, ◌^◌, Bool, true, false, not, List, [], ◌∷◌, ◌++◌, map, length, count_by, get_or, ℤ, pos, negsuc, ◌+ℤ◌, Option, Some, None, nat_lt, ◌==◌, if◌then◌else◌}
use Rattle.std.specs.Borrow.{Bor}
use Rattle.dwarf_lines.specs.declared.Row.{Row}
use Rattle.dwarf_lines.specs.declared.registers.Registers.{Registers}
use Rattle.dwarf_lines.specs.declared.FileName.{FileName}
use Rattle.dwarf_lines.specs.declared.LineTable.{LineTable}

-- a file by its directory, which may be empty, and its name
pub record File : Type 0 where
  pub directory : List ℕ
  pub name : List ℕ

-- the files and rows in the order of the section, and how many units were passed over
pub record Table : Type 0 where
  pub files : List File
  pub rows : List Row
  pub skipped : ℕ

abbrev pub empty_table : Table
empty_table = record { files = []; rows = []; skipped = 0 }

-- what the program of a unit needs of its header (DWARF 4, 6.2.4)
pub record Header : Type 0 where
  pub version : ℕ
  pub minimum_length : ℕ
  pub is_stmt : Bool
  pub line_base : ℤ
  pub line_range : ℕ
  pub opcode_base : ℕ
  pub lengths : List ℕ
  pub directories : List (List ℕ)
  pub files : List File

-- the registers at the beginning of each sequence (DWARF 4, 6.2.2)
abbrev pub first_registers : Header → Registers
first_registers h = record { address = 0; file = 1; line = pos 1; column = 0; is_stmt = h.is_stmt }

-- what an opcode says, with its operands (DWARF 4, 6.2.5)
pub data Operation : Type 0 where
  Copy : Operation
  AdvancePc : ℕ → Operation
  AdvanceLine : ℤ → Operation
  SetFile : ℕ → Operation
  SetColumn : ℕ → Operation
  NegateStmt : Operation
  ConstAddPc : Operation
  FixedAdvancePc : ℕ → Operation
  Special : ℕ → Operation
  EndSequence : Operation
  SetAddress : ℕ → Operation
  DefineFile : File → Operation
  -- it changes nothing
  Pass : Operation

-- by how much an opcode from opcode_base on moves the address and the line
abbrev pub address_step : Header → ℕ → ℕ
address_step h o = (o - h.opcode_base) / h.line_range * h.minimum_length

abbrev pub line_step : Header → ℕ → ℤ
line_step h o = h.line_base +ℤ pos ((o - h.opcode_base) % h.line_range)

abbrev pub with_address_moved : ℕ → Registers → Registers
with_address_moved step r = record r { address = (r.address + step) % 2 ^ 64 }

-- the registers after an operation, and at its row if it appends one
abbrev pub registers_after : Header → Operation → Registers → Registers
registers_after h Copy r = r
registers_after h (AdvancePc n) r = with_address_moved (n * h.minimum_length) r
registers_after h (AdvanceLine z) r = record r { line = r.line +ℤ z }
registers_after h (SetFile n) r = record r { file = n }
registers_after h (SetColumn n) r = record r { column = n }
registers_after h NegateStmt r = record r { is_stmt = not r.is_stmt }
registers_after h ConstAddPc r = with_address_moved (address_step h 255) r
registers_after h (FixedAdvancePc n) r = with_address_moved n r
registers_after h (Special o) r =
    record (with_address_moved (address_step h o) r) { line = r.line +ℤ line_step h o }
registers_after h EndSequence r = r
registers_after h (SetAddress a) r = record r { address = a }
registers_after h (DefineFile f) r = r
registers_after h Pass r = r

-- it appends a row
abbrev pub is_appending : Operation → Bool
is_appending Copy = true
is_appending (Special o) = true
is_appending EndSequence = true
is_appending _ = false

-- its row ends the sequence
abbrev pub is_ending : Operation → Bool
is_ending EndSequence = true
is_ending _ = false

-- the files that it defines
abbrev pub defined_files : Operation → List File
defined_files (DefineFile f) = f ∷ []
defined_files _ = []

-- within a unit: the table so far, where in it the unit's files begin, and the registers
pub record State : Type 0 where
  pub table : Table
  pub first_file : ℕ
  pub registers : Registers

-- the position of a file of the unit, counted from 1, if there is an entry
abbrev pub file_position : State → ℕ → Option ℕ
file_position s zero = None
file_position s (suc k) =
    if nat_lt (s.first_file + k) (length s.table.files) then Some (s.first_file + k) else None

abbrev pub natural : ℤ → ℕ
natural (pos n) = n
natural (negsuc n) = 0

-- it lies from 0 to 2^32 - 1
abbrev pub fits_line : ℤ → Bool
fits_line (pos n) = nat_lt n (2 ^ 32)
fits_line (negsuc n) = false

-- the position of a file of the unit, counted from 0, if there is an entry
abbrev pub file_from_0 : State → ℕ → Option ℕ
file_from_0 s k =
    if nat_lt (s.first_file + k) (length s.table.files) then Some (s.first_file + k) else None

-- files count from 0 in version 5, and from 1 before
abbrev pub file_of : Header → State → ℕ → Option ℕ
file_of h s n = if h.version == 5 then file_from_0 s n else file_position s n

-- the row of these registers
abbrev pub row : Header → State → Bool → Registers → Row
row h s is_last r = record {
  sequence = count_by (λ (row : Row). row.ends) s.table.rows;
  address = r.address;
  file = file_of h s r.file;
  line = natural r.line;
  column = r.column;
  is_stmt = r.is_stmt;
  ends = is_last;
}

-- the state after an operation
abbrev pub state_after : Header → Operation → State → State
state_after h op s =
    let r = registers_after h op s.registers in
    record s {
      table = record s.table {
        files = s.table.files ++ defined_files op;
        rows = s.table.rows ++ (if is_appending op then row h s (is_ending op) r ∷ [] else []);
      };
      registers = if is_ending op then first_registers h else r;
    }

-- if it appends a row, the row's line is a number of 32 bits
abbrev pub has_line : Header → Operation → State → Bool
has_line h op s =
    if is_appending op then fits_line (registers_after h op s.registers).line else true

-- the state before the first operation of a unit
abbrev pub first_state : Header → Table → State
first_state h t = record {
  table = record t { files = t.files ++ h.files };
  first_file = length t.files;
  registers = first_registers h;
}

-- the last row doesn't end its sequence
abbrev pub is_open : List Row → Bool
is_open [] = false
is_open (row ∷ []) = not row.ends
is_open (row ∷ next ∷ rows) = is_open (next ∷ rows)

-- the directory of that number, counted from 1; none is empty
abbrev pub directory : List (List ℕ) → ℕ → List ℕ
directory directories zero = []
directory directories (suc k) = get_or directories k []

-- a file without where its texts lie in memory
abbrev pub file_view : FileName → File
file_view f = record { directory = f.directory.now; name = f.name.now }

abbrev pub files_view : List FileName → List File
files_view files = map file_view files

abbrev pub texts_view : List (Bor (List ℕ)) → List (List ℕ)
texts_view texts = map (λ (t : Bor (List ℕ)). t.now) texts

-- a table without where it lies in memory
abbrev pub view : LineTable → Table
view t = record { files = files_view t.files; rows = t.rows; skipped = t.skipped }
