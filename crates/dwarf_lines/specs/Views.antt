-- What contracts see of headers, operations and tables that are being made.
use Rattle.std.specs.Prelude.{ℕ, List, map}
use Rattle.dwarf_lines.specs.declared.header.Header as coded
use Rattle.dwarf_lines.specs.declared.header.Names as coded_names
use Rattle.dwarf_lines.specs.declared.listed.Value.{Value}
use Rattle.dwarf_lines.specs.declared.listed.Value.TheVariants as value_code
use Rattle.dwarf_lines.specs.declared.listed.Entry.{Entry}
use Rattle.dwarf_lines.specs.declared.strings.Strings.{Strings}
use Rattle.dwarf_lines.specs.declared.strings.Sections.{Sections}
use Rattle.dwarf_lines.specs.declared.opcode.Operation.{Operation}
use Rattle.dwarf_lines.specs.declared.opcode.Operation.TheVariants as code
use Rattle.dwarf_lines.specs.declared.draft.Draft.{Draft}
use Rattle.dwarf_lines.specs.declared.registers.Registers.{Registers}
use Rattle.dwarf_lines.specs.Registers.{Table, State, file_view, files_view, texts_view, Copy, AdvancePc, AdvanceLine, SetFile, SetColumn, NegateStmt, ConstAddPc, FixedAdvancePc, Special, EndSequence, SetAddress, DefineFile, Pass}
use Rattle.dwarf_lines.specs.Registers as meaning
use Rattle.dwarf_lines.specs.Names as named
use Rattle.dwarf_lines.specs.Reading as reading

abbrev pub operation_view : Operation → meaning.Operation
operation_view code.Copy = Copy
operation_view (code.AdvancePc n) = AdvancePc n
operation_view (code.AdvanceLine z) = AdvanceLine z
operation_view (code.SetFile n) = SetFile n
operation_view (code.SetColumn n) = SetColumn n
operation_view code.NegateStmt = NegateStmt
operation_view code.ConstAddPc = ConstAddPc
operation_view (code.FixedAdvancePc n) = FixedAdvancePc n
operation_view (code.Special o) = Special o
operation_view code.EndSequence = EndSequence
operation_view (code.SetAddress a) = SetAddress a
operation_view (code.DefineFile f) = DefineFile (file_view f)
operation_view code.Pass = Pass

abbrev pub header_view : coded.Header → meaning.Header
header_view h = record {
  version = h.version;
  minimum_length = h.minimum_length;
  is_stmt = h.is_stmt;
  line_base = h.line_base;
  line_range = h.line_range;
  opcode_base = h.opcode_base;
  lengths = h.lengths.items;
  directories = texts_view h.directories.items;
  files = files_view h.files.items;
}

-- the table so far
abbrev pub so_far : Draft → Table
so_far d = record { files = files_view d.files.items; rows = d.rows.items; skipped = d.skipped }

-- within a unit whose files begin at this position, with these registers
abbrev pub state_of : Draft → ℕ → Registers → State
state_of d first_file registers = record {
  table = so_far d;
  first_file = first_file;
  registers = registers;
}

-- ---- version 5

abbrev pub value_view : Value → named.Value
value_view (value_code.Text t) = named.Text t.now
value_view (value_code.Number n) = named.Number n
value_view value_code.Other = named.Other

abbrev pub entry_view : Entry → named.Entry
entry_view e = record { path = e.path.now; directory = e.directory }

abbrev pub entries_view : List Entry → List named.Entry
entries_view es = map entry_view es

abbrev pub names_view : coded_names.Names → reading.Names
names_view n = record {
  directories = texts_view n.directories.items;
  files = files_view n.files.items;
}

abbrev pub strings_view : Strings → named.Strings
strings_view s = named.strings s.general.bytes.now s.line.bytes.now

abbrev pub sections_view : Sections → named.Strings
sections_view s = named.strings s.general.now s.line.now
