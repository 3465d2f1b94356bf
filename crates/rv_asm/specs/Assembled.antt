-- The program that a source is assembled to, or its first fault.
use Rattle.std.specs.Prelude.{◌≡◌, ℕ, ◌+◌, ◌-◌, ◌*◌, ◌/◌, ◌%◌, ◌^◌, ◌<◌, ◌≤◌, All, Bool, true, false, not, ◌&&◌, List, [], ◌∷◌, ◌++◌, length, filter, is_some, flat_map, replicate, position, ℤ, pos, ◌-ℤ◌, Option, Some, None, Result, Ok, Err, nat_lt, nat_le, ◌==◌, if◌then◌else◌, bytes_eq, codes}
use Rattle.std.specs.Map.{update}
use Rattle.std.specs.Str.{byte}
use Rattle.std.specs.Int.{w32, w64, to_le_bytes}
use Rattle.rv_decode.specs.declared.Instr.{Instr}
use Rattle.rv_decode.specs.declared.Instr.TheVariants as instr
use Rattle.rv_decode.specs.declared.UpperOp.TheVariants.{Auipc}
use Rattle.rv_decode.specs.declared.ImmOp.TheVariants.{Addi}
use Rattle.rv_decode.specs.Fields.{is_signed, is_even}
use Rattle.rv_decode.specs.Instructions.{word_of}
use Rattle.asm_tokens.specs.declared.AsmKind.{AsmKind}
use Rattle.asm_tokens.specs.declared.AsmKind.TheVariants as kinds
use Rattle.rv_asm.specs.declared.lines.TheConstants.{MAX_LINES}
use Rattle.rv_asm.specs.declared.state.TheConstants.{MAX_SECTION}
use Rattle.rv_asm.specs.declared.AsmFault.{AsmFault}
use Rattle.rv_asm.specs.declared.Assembled.{Assembled}
use Rattle.rv_asm.specs.declared.state.Location.{Location}
use Rattle.asm_tokens.specs.declared.form.Form.{Form}
use Rattle.asm_tokens.specs.declared.form.Section.{Section}
use Rattle.asm_tokens.specs.declared.form.Section.TheVariants as sections
use Rattle.asm_tokens.specs.Tokens.{Read, wrong, ◌>>=◌, is_allowed, lines, Token, Name, Number, Text, Mark, Placed, tokens}
use Rattle.asm_tokens.specs.Table.{form_of}
use Rattle.asm_values.specs.declared.TheConstants.{TEXT_START}
use Rattle.asm_values.specs.Addresses.{up_to_multiple, text_address, data_address, entry_address}
use Rattle.asm_values.specs.Parts.{upper, lower}
use Rattle.rv_asm.specs.Statements.{Use, Piece, Encoded, BranchTo, JumpTo, AddressTo, AddressOf, Bytes, Zeros, size, Statement, Puts, Aligns, Enters, section_of, statement}

-- ---- the lines so far

-- a piece, its location and its line
pub record Put : Type 0 where
  pub line : ℕ
  pub location : Location
  pub piece : Piece

-- the places of the labels by their names, the section and how long each one is, and the pieces
-- in the order of the source
pub record State : Type 0 where
  pub labels : List ℕ → Option Location
  pub section : Section
  pub text : ℕ
  pub content : ℕ
  pub puts : List Put

abbrev pub start : State
start = record { labels = λ name. None; section = sections.Text; text = 0; content = 0; puts = [] }

-- how long the section is that is written now
abbrev pub section_length : State → ℕ
section_length s = elim (s.section) [ sections.Text ↦ s.text | sections.Data ↦ s.content ]

abbrev pub next_location : State → Location
next_location s = record { section = s.section; offset = section_length s }

-- ---- one more label, or one more statement

abbrev pub with_label : List ℕ → ℕ → State → Read State
with_label name column s =
    if is_some (s.labels name) then wrong kinds.Twice column
    else Ok (record s { labels = update bytes_eq s.labels name (Some (next_location s)) })

abbrev pub with_more : ℕ → State → State
with_more n s = elim (s.section) [
  | sections.Text ↦ record s { text = s.text + n }
  | sections.Data ↦ record s { content = s.content + n }
]

abbrev pub with_piece : ℕ → ℕ → Piece → State → Read State
with_piece line column piece s =
    if nat_lt MAX_SECTION (section_length s + size piece) then wrong kinds.Much column
    else Ok (with_more (size piece) (record s {
      puts = s.puts ++ record { line = line; location = next_location s; piece = piece } ∷ [];
    }))

-- one after the other
unfoldable pub with_pieces : ℕ → ℕ → List Piece → State → Read State
with_pieces line column [] s = Ok s
with_pieces line column (piece ∷ pieces) s =
    with_piece line column piece s >>= λ more. with_pieces line column pieces more

abbrev pub with_effect : ℕ → ℕ → Statement → State → Read State
with_effect line column (Puts pieces) s = with_pieces line column pieces s
with_effect line column (Aligns bits) s =
    with_piece line column
    (Zeros (up_to_multiple (2 ^ bits) (section_length s) - section_length s)) s
with_effect line column (Enters section) s = Ok (record s { section = section })

abbrev pub is_in_place : Option Section → Section → Bool
is_in_place None now = true
is_in_place (Some sections.Text) sections.Text = true
is_in_place (Some sections.Data) sections.Data = true
is_in_place check now = false

-- ---- a line

abbrev pub name_in : Token → Option (List ℕ)
name_in (Name n) = Some n
name_in (Number n) = None
name_in (Text bytes) = None
name_in (Mark m) = None

abbrev pub is_colon : Token → Bool
is_colon (Mark m) = m == byte ":"
is_colon (Name n) = false
is_colon (Number n) = false
is_colon (Text bytes) = false

abbrev pub form_named : Option (List ℕ) → Option Form
form_named None = None
form_named (Some name) = form_of name

-- the statement that begins with this token; the line's bytes end before this column
abbrev pub with_statement : ℕ → ℕ → Placed → List Placed → State → Read State
with_statement line end t ts s =
    elim (form_named (name_in t.token)) [
      | None ↦ wrong kinds.Name t.column
      | Some form ↦ elim (is_in_place (section_of form) s.section) [
        | false ↦ wrong kinds.Section t.column
        | true ↦ statement end form ts >>= λ what. with_effect line t.column what s
      ]
    ]

-- a token that begins a label, which a colon ends
abbrev pub label_in : Token → Token → Option (List ℕ)
label_in t c = if is_colon c then name_in t else None

-- labels, and then at most one statement
unfoldable pub take_tokens : ℕ → ℕ → List Placed → State → Read State
take_tokens line end [] s = Ok s
take_tokens line end (t ∷ []) s = with_statement line end t [] s
take_tokens line end (t ∷ c ∷ ts) s =
    elim (label_in t.token c.token) [
      | Some name ↦ with_label name t.column s >>= λ more. take_tokens line end ts more
      | None ↦ with_statement line end t (c ∷ ts) s
    ]

abbrev pub check : Bool → AsmKind → ℕ → Read Bool
check holds kind column = if holds then Ok holds else wrong kind column

-- each byte may stand in a line
abbrev pub byte_check : Option ℕ → Read Bool
byte_check None = Ok true
byte_check (Some k) = wrong kinds.Byte (k + 1)

abbrev pub take_line : ℕ → List ℕ → State → Read State
take_line n line s = do
  few ← check (nat_le n MAX_LINES) kinds.Lines 1
  allowed ← byte_check (position (λ b. not (is_allowed b)) line)
  ts ← tokens line
  take_tokens n (length line + 1) ts s

abbrev pub at_line : {A : Type 0} → ℕ → Read A → Result A AsmFault
at_line n (Ok x) = Ok x
at_line n (Err spot) = Err (record { kind = spot.kind; line = n; column = spot.column })

unfoldable pub take_lines : ℕ → List (List ℕ) → State → Result State AsmFault
take_lines n [] s = Ok s
take_lines n (line ∷ more) s = at_line n (take_line n line s) >>= λ t. take_lines (n + 1) more t

-- ---- after all lines: the bytes of the pieces

abbrev pub address : State → Location → ℕ
address s p = elim (p.section) [
  | sections.Text ↦ text_address p.offset
  | sections.Data ↦ data_address s.text p.offset
]

abbrev pub address_in : State → ℕ → Option Location → Read ℕ
address_in s column None = wrong kinds.Missing column
address_in s column (Some p) = Ok (address s p)

abbrev pub target : State → Use → Read ℕ
target s label = address_in s label.column (s.labels label.name)

-- how far a label is from an address, if an even signed number of `bits` bits reaches it
abbrev pub reach : State → ℕ → Use → ℕ → Read ℤ
reach s bits label from = do
  a ← target s label
  let far = pos a -ℤ pos from in
      if is_signed bits far && is_even far then Ok far
      else wrong kinds.Far label.column

abbrev pub word : Instr → List ℕ
word i = to_le_bytes w32 (word_of i)

-- an address as auipc and addi make it
unfoldable pub load_address : ℕ → ℤ → List ℕ
load_address rd far =
    word (instr.Upper Auipc rd (upper far)) ++ word (instr.Imm Addi rd rd (lower far))

abbrev pub bytes_at : State → ℕ → Piece → Read (List ℕ)
bytes_at s from (Encoded w) = Ok (to_le_bytes w32 w)
bytes_at s from (BranchTo op rs1 rs2 label) =
    reach s 13 label from >>= λ far. Ok (word (instr.Branch op rs1 rs2 far))
bytes_at s from (JumpTo rd label) = reach s 21 label from >>= λ far. Ok (word (instr.Jal rd far))
bytes_at s from (AddressTo rd label) =
    target s label >>= λ a. Ok (load_address rd (pos a -ℤ pos from))
bytes_at s from (AddressOf label) = target s label >>= λ a. Ok (to_le_bytes w64 a)
bytes_at s from (Bytes bytes) = Ok bytes
bytes_at s from (Zeros count) = Ok (replicate count 0)

-- a piece's bytes, its section and its line
pub record Filled : Type 0 where
  pub section : Section
  pub line : ℕ
  pub bytes : List ℕ

abbrev pub filled_piece : State → Put → Result Filled AsmFault
filled_piece s p =
    at_line p.line (bytes_at s (address s p.location) p.piece) >>= λ bytes.
    Ok (record { section = p.location.section; line = p.line; bytes = bytes })

unfoldable pub filled_pieces : State → List Put → Result (List Filled) AsmFault
filled_pieces s [] = Ok []
filled_pieces s (p ∷ ps) = do
  first ← filled_piece s p
  more ← filled_pieces s ps
  Ok (first ∷ more)

-- ---- the whole

-- what callers see of what was assembled
pub record Program : Type 0 where
  pub text : List ℕ
  pub content : List ℕ
  pub lines : List ℕ
  pub entry : ℕ

abbrev pub is_text : Section → Bool
is_text sections.Text = true
is_text sections.Data = false

abbrev pub text_of : List Filled → List Filled
text_of fs = filter (λ f. is_text f.section) fs

abbrev pub content_of : List Filled → List Filled
content_of fs = filter (λ f. not (is_text f.section)) fs

abbrev pub all_bytes : List Filled → List ℕ
all_bytes fs = flat_map (λ f. f.bytes) fs

-- the line of each word of the text
abbrev pub lines_of : List Filled → List ℕ
lines_of fs = flat_map (λ f. replicate (length f.bytes / 4) f.line) (text_of fs)

-- the offset of a location that is in the text
abbrev pub text_offset : Option Location → Option ℕ
text_offset None = None
text_offset (Some p) = if is_text p.section then Some p.offset else None

-- where the program begins
abbrev pub entry : State → ℕ
entry s = entry_address (text_offset (s.labels (codes "_start"))) s.text

abbrev pub program : State → List Filled → Program
program s fs = record {
  text = all_bytes (text_of fs);
  content = all_bytes (content_of fs);
  lines = lines_of fs;
  entry = entry s;
}

-- what every source without a fault is assembled to: some words, each with its line,
-- and the entry at one of them
pub record IsProgram (p : Program) : Type 0 where
  pub some : 0 < length p.text
  pub text_fits : length p.text ≤ MAX_SECTION
  pub content_fits : length p.content ≤ MAX_SECTION
  pub whole : length p.text ≡ 4 * length p.lines
  pub lines_fit : All (λ line. (1 ≤ line) × (line ≤ MAX_LINES)) p.lines
  pub entry_whole : p.entry % 4 ≡ 0
  pub entry_starts : TEXT_START ≤ p.entry
  pub entry_within : p.entry < TEXT_START + length p.text

unfoldable pub assembled : List ℕ → Result Program AsmFault
assembled source = do
  s ← take_lines 1 (lines source) start
  fs ← filled_pieces s s.puts
  if s.text == 0 then Err (record { kind = kinds.Empty; line = 1; column = 1 })
      else Ok (program s fs)

-- ---- what a call answered

abbrev pub view : Assembled → Program
view a = record { text = a.text; content = a.content; lines = a.lines; entry = a.entry }
