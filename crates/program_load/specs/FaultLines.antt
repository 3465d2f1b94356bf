-- The texts of the faults of a program, of its line table, of a selection, a plan, a source
-- and a profile, after the program's name.
use Rattle.std.specs.Prelude.{ℕ, List, ◌++◌, codes, decimal}
use Rattle.elf_load.specs.declared.ElfKind.{ElfKind}
use Rattle.elf_load.specs.declared.ElfKind.TheVariants.{NotElf, NotClass64, NotLittle, NotExec, NotRiscv, Compressed, HeaderOut, PackedLines, Interp, SizeOrder, AddressOut, WritableCode, SharedPage, TooMuch, EntryOut}
use Rattle.elf_load.specs.declared.ElfFault.{ElfFault}
use Rattle.dwarf_lines.specs.declared.LineKind.{LineKind}
use Rattle.dwarf_lines.specs.declared.LineKind.TheVariants.{Short, Wide, LongForm, ManyOps, ZeroRange, OpcodeBaseZero, LineOut, AddressLength, Unended, AddressSize, SegmentSize, FormOut, EmptyEntries, TextOut}
use Rattle.dwarf_lines.specs.declared.LineFault.{LineFault}
use Rattle.asm_tokens.specs.declared.AsmKind.{AsmKind}
use Rattle.asm_tokens.specs.declared.AsmKind.TheVariants.{Lines, Byte, Token, Twice, Name, Section, Operand, Range, Much, Missing, Far, Empty}
use Rattle.rv_asm.specs.declared.AsmFault.{AsmFault}
pub use Rattle.profile_reader.specs.ItemNames.{book_line}

abbrev pub elf_kind_name : ElfKind → List ℕ
elf_kind_name NotElf = codes "NotElf"
elf_kind_name NotClass64 = codes "NotClass64"
elf_kind_name NotLittle = codes "NotLittle"
elf_kind_name NotExec = codes "NotExec"
elf_kind_name NotRiscv = codes "NotRiscv"
elf_kind_name Compressed = codes "Compressed"
elf_kind_name HeaderOut = codes "HeaderOut"
elf_kind_name PackedLines = codes "PackedLines"
elf_kind_name Interp = codes "Interp"
elf_kind_name SizeOrder = codes "SizeOrder"
elf_kind_name AddressOut = codes "AddressOut"
elf_kind_name WritableCode = codes "WritableCode"
elf_kind_name SharedPage = codes "SharedPage"
elf_kind_name TooMuch = codes "TooMuch"
elf_kind_name EntryOut = codes "EntryOut"

abbrev pub program_line : ElfFault → List ℕ
program_line fault =
    codes "program: " ++ elf_kind_name fault.kind ++ codes " at " ++ decimal fault.place

abbrev pub line_kind_name : LineKind → List ℕ
line_kind_name Short = codes "Short"
line_kind_name Wide = codes "Wide"
line_kind_name LongForm = codes "LongForm"
line_kind_name ManyOps = codes "ManyOps"
line_kind_name ZeroRange = codes "ZeroRange"
line_kind_name OpcodeBaseZero = codes "OpcodeBaseZero"
line_kind_name LineOut = codes "LineOut"
line_kind_name AddressLength = codes "AddressLength"
line_kind_name Unended = codes "Unended"
line_kind_name AddressSize = codes "AddressSize"
line_kind_name SegmentSize = codes "SegmentSize"
line_kind_name FormOut = codes "FormOut"
line_kind_name EmptyEntries = codes "EmptyEntries"
line_kind_name TextOut = codes "TextOut"

abbrev pub table_line : LineFault → List ℕ
table_line fault =
    codes "lines: " ++ line_kind_name fault.kind ++ codes " at " ++ decimal fault.place

abbrev pub asm_kind_name : AsmKind → List ℕ
asm_kind_name Lines = codes "Lines"
asm_kind_name Byte = codes "Byte"
asm_kind_name Token = codes "Token"
asm_kind_name Twice = codes "Twice"
asm_kind_name Name = codes "Name"
asm_kind_name Section = codes "Section"
asm_kind_name Operand = codes "Operand"
asm_kind_name Range = codes "Range"
asm_kind_name Much = codes "Much"
asm_kind_name Missing = codes "Missing"
asm_kind_name Far = codes "Far"
asm_kind_name Empty = codes "Empty"

abbrev pub source_line : AsmFault → List ℕ
source_line fault =
    codes "source: " ++ asm_kind_name fault.kind ++ codes " at line " ++ decimal fault.line
    ++ codes " column " ++ decimal fault.column

abbrev pub no_line_line : List ℕ → List ℕ
no_line_line piece = codes "selection: no line " ++ piece

abbrev pub points_line : ℕ → List ℕ
points_line count = codes "selection: " ++ decimal count ++ codes " points"

abbrev pub plan_line : ℕ → List ℕ
plan_line count = codes "plan: " ++ decimal count ++ codes " experiments"
