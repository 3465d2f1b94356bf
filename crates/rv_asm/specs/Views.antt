-- What contracts see of the code's values.
use Rattle.std.specs.Prelude.{◌≡◌, ℕ, ◌≤◌, List, [], ◌∷◌, ◌++◌, Option, None, Result, Ok, Err, option_map, map, length, drop, replicate, ◌/◌}
use denote.Ref.{Bor}
use Rattle.asm_tokens.specs.declared.line.TokenError.{TokenError}
use Rattle.asm_tokens.specs.declared.line.TokenError.TheVariants as errors
use Rattle.asm_tokens.specs.Tokens.{Placed, Read, ◌>>=◌}
use Rattle.asm_tokens.specs.declared.AsmKind.TheVariants as kinds
use Rattle.asm_tokens.specs.declared.line.Placed.{Placed as CodePlaced}
use Rattle.asm_tokens.specs.Views.{FailsLine, GivesLine, all_placed, placed_of}
use Rattle.rv_asm.specs.Statements.{Taking, Use, Piece, Encoded, BranchTo, JumpTo, AddressTo, AddressOf, Bytes, Zeros, Statement, Puts, Aligns, Enters, statement}
use Rattle.asm_tokens.specs.Registers.{number_of}
use Rattle.rv_asm.specs.declared.pieces.Piece.{Piece as CodePiece}
use Rattle.rv_asm.specs.declared.pieces.Piece.TheVariants as puts
use Rattle.rv_asm.specs.declared.pieces.Statement.{Statement as CodeStatement}
use Rattle.rv_asm.specs.declared.pieces.Statement.TheVariants as does
use Rattle.rv_asm.specs.declared.operands.NameUse.{NameUse}
use Rattle.rv_asm.specs.declared.operands.Operands.{Operands}
use Rattle.rv_asm.specs.declared.state.Location.{Location}
use Rattle.rv_asm.specs.declared.state.Put.{Put as CodePut}
use Rattle.rv_asm.specs.declared.state.State.{State as CodeState}
use Rattle.failures.specs.declared.Failure.{Failure}
use Rattle.failures.specs.declared.Failure.TheVariants as faults
use Rattle.rv_asm.specs.Assembled.{Put, State, label_in, Filled, all_bytes, text_of, content_of, lines_of}
use Rattle.failures.specs.Answers.{Fails}
use Rattle.rv_asm.specs.declared.AsmFault.{AsmFault}
use Rattle.rv_asm.specs.declared.fill.Filled.{Filled as CodeFilled}
use Rattle.asm_tokens.specs.declared.form.Form.{Form}
use Rattle.asm_tokens.specs.declared.form.Section.TheVariants as sections
use Rattle.std.specs.BTreeMap.{BTreeMap, get_by}
use Rattle.std.specs.Cmp.Lexicographic.{slice_cmp}
use Rattle.std.specs.Ordering.{nat_cmp}

-- What was done: now this is what is read of the line, or the line has a fault,
-- unless memory ran out.
abbrev pub Steps : {U A : Type 0} → Result U TokenError → A → Read A → Type 0
Steps (Ok u) new read = read ≡ Ok new
Steps (Err e) new read = FailsLine e read

abbrev pub use_of : NameUse → Use
use_of u = record { name = u.name.now; column = u.column }

-- the tokens that are left
abbrev pub tokens_left : Operands → List Placed
tokens_left operands = all_placed (drop operands.next operands.tokens.now)

-- What was answered is taken of the old operands, and the new ones are left of the same line,
-- unless memory ran out.
abbrev pub Takes : {X A : Type 0} → (X → A) → Result X TokenError → Operands
    → Operands → Taking A → Type 0
Takes view (Ok x) old new taking = (taking ≡ Ok (view x, tokens_left new)) × (new.end ≡ old.end)
Takes view (Err e) old new taking = FailsLine e taking

-- as `Takes`, of a call that returns no value
abbrev pub Passes : {U : Type 0} → Result U TokenError → Operands → Operands
    → Read (List Placed) → Type 0
Passes (Ok u) old new passing = (passing ≡ Ok (tokens_left new)) × (new.end ≡ old.end)
Passes (Err e) old new passing = FailsLine e passing

-- The first token is taken, or the line has no more.
abbrev pub TakesFirst : Result (Bor CodePlaced) TokenError → Operands → Operands → Type 0
TakesFirst (Ok first) old new =
    (tokens_left old ≡ placed_of first.now ∷ tokens_left new) × (new.end ≡ old.end)
TakesFirst (Err e) old new = (tokens_left old ≡ []) × (e ≡ errors.Fault kinds.Operand old.end)

-- Nothing is left, or the first token is one too many.
abbrev pub EndsThere : {U : Type 0} → Result U TokenError → List Placed → Type 0
EndsThere (Ok u) tokens = tokens ≡ []
EndsThere (Err e) [] = ⊥
EndsThere (Err e) (t ∷ ts) = e ≡ errors.Fault kinds.Operand t.column

abbrev pub piece_of : CodePiece → Piece
piece_of (puts.Encoded word) = Encoded word
piece_of (puts.Branch op rs1 rs2 label) = BranchTo op (number_of rs1) (number_of rs2) (use_of label)
piece_of (puts.Jump rd label) = JumpTo (number_of rd) (use_of label)
piece_of (puts.LoadAddress rd label) = AddressTo (number_of rd) (use_of label)
piece_of (puts.Address label) = AddressOf (use_of label)
piece_of (puts.Bytes bytes) = Bytes bytes.items
piece_of (puts.Zeros count) = Zeros count

abbrev pub statement_of : CodeStatement → Statement
statement_of (does.Puts ps) = Puts (map piece_of ps.items)
statement_of (does.Aligns bits) = Aligns bits
statement_of (does.Enters section) = Enters section

-- The answer is the statement of this form with these operands,
-- unless memory ran out.
abbrev pub Reads : Form → Result CodeStatement TokenError → Operands → Type 0
Reads form result operands =
    GivesLine statement_of result (statement operands.end form (tokens_left operands))

-- the multiple that a statement fills up to is at most 2^12
abbrev pub AlignsWithin : CodeStatement → Type 0
AlignsWithin (does.Puts ps) = Unit {0}
AlignsWithin (does.Aligns bits) = bits ≤ 12
AlignsWithin (does.Enters section) = Unit {0}

abbrev pub put_of : CodePut → Put
put_of p = record { line = p.line; location = p.location; piece = piece_of p.piece }

abbrev pub labels_of : BTreeMap (Bor (List ℕ)) Location → List ℕ → Option Location
labels_of labels name = get_by (λ k. slice_cmp nat_cmp name k.now) labels

abbrev pub state_of : CodeState → State
state_of s = record {
  labels = labels_of s.labels;
  section = s.section;
  text = s.text;
  content = s.content;
  puts = map put_of s.puts.items;
}

-- the label that a colon ends, if one begins there
abbrev pub label_front : List Placed → Option Use
label_front [] = None
label_front (t ∷ []) = None
label_front (t ∷ c ∷ ts) =
    option_map (λ name. record { name = name; column = t.column }) (label_in t.token c.token)

abbrev pub error_at : ℕ → TokenError → Failure AsmFault
error_at line errors.Memory = faults.Memory
error_at line (errors.Fault kind column) =
    faults.Fault (record { kind = kind; line = line; column = column })

-- ---- after all lines

-- the bytes of both sections, and the line of each word of the text
pub record Parts : Type 0 where
  pub text : List ℕ
  pub content : List ℕ
  pub lines : List ℕ

abbrev pub no_parts : Parts
no_parts = record { text = []; content = []; lines = [] }

abbrev pub parts_of : CodeFilled → Parts
parts_of f = record { text = f.text.items; content = f.content.items; lines = f.lines.items }

-- with the bytes of one more piece
abbrev pub with_filled : Parts → Filled → Parts
with_filled parts f = elim (f.section) [
  | sections.Text ↦ record {
    text = parts.text ++ f.bytes;
    content = parts.content;
    lines = parts.lines ++ replicate (length f.bytes / 4) f.line;
  }
  | sections.Data ↦ record {
    text = parts.text;
    content = parts.content ++ f.bytes;
    lines = parts.lines;
  }
]

abbrev pub with_next : Parts → Result Filled AsmFault → Result Parts AsmFault
with_next parts read = read >>= λ f. Ok (with_filled parts f)

-- the parts that these make together
abbrev pub all_parts : Result (List Filled) AsmFault → Result Parts AsmFault
all_parts read =
    read >>= λ fs.
    Ok (record {
      text = all_bytes (text_of fs);
      content = all_bytes (content_of fs);
      lines = lines_of fs;
    })

-- after these parts
abbrev pub with_all : Parts → Result (List Filled) AsmFault → Result Parts AsmFault
with_all parts read =
    read >>= λ fs.
    Ok (record {
      text = parts.text ++ all_bytes (text_of fs);
      content = parts.content ++ all_bytes (content_of fs);
      lines = parts.lines ++ lines_of fs;
    })

-- What was done: now this is what is read, or the source has a fault, unless memory ran out.
abbrev pub StepsAll : {U A : Type 0} → Result U (Failure AsmFault) → A → Result A AsmFault → Type 0
StepsAll (Ok u) new read = read ≡ Ok new
StepsAll (Err e) new read = Fails e read
