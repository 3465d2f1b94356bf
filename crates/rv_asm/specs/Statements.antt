-- Statements: their operands, and the pieces that they are assembled to.
use Rattle.std.specs.Prelude.{ℕ, ◌-◌, ◌*◌, ◌^◌, Bool, true, false, ◌&&◌, List, [], ◌∷◌, length, ℤ, pos, neg_ℤ, nat_abs, Option, Some, None, Ok, ◌==◌, if◌then◌else◌, int_le}
use Rattle.std.specs.Str.{byte}
use Rattle.std.specs.Int.{bytes_low_first}
use Rattle.rv_decode.specs.declared.Instr.{Instr}
use Rattle.rv_decode.specs.declared.Instr.TheVariants as instr
use Rattle.rv_decode.specs.declared.UpperOp.TheVariants.{Lui}
use Rattle.rv_decode.specs.declared.BranchOp.{BranchOp}
use Rattle.rv_decode.specs.declared.ImmOp.TheVariants.{Addi, Addiw}
use Rattle.rv_decode.specs.declared.AtomicOp.{AtomicOp}
use Rattle.rv_decode.specs.declared.AtomicOp.TheVariants.{Lr}
use Rattle.rv_decode.specs.Fields.{twos_complement, is_signed}
use Rattle.rv_decode.specs.Instructions.{amount_bits, word_of}
use Rattle.asm_tokens.specs.declared.AsmKind.TheVariants as kinds
use Rattle.asm_tokens.specs.declared.form.Form.{Form}
use Rattle.asm_tokens.specs.declared.form.Form.TheVariants as forms
use Rattle.asm_tokens.specs.declared.form.Section.{Section}
use Rattle.asm_tokens.specs.declared.form.Section.TheVariants as sections
use Rattle.asm_tokens.specs.declared.form.Size.{Size}
use Rattle.asm_tokens.specs.declared.form.Size.TheVariants as sizes
use Rattle.asm_tokens.specs.declared.form.Width.{Width}
use Rattle.asm_tokens.specs.declared.form.Width.TheVariants as widths
use Rattle.asm_tokens.specs.declared.form.Order.{Order}
use Rattle.asm_tokens.specs.declared.form.Order.TheVariants as orders
use Rattle.asm_tokens.specs.declared.form.Alone.{Alone}
use Rattle.asm_tokens.specs.declared.form.Alone.TheVariants as alone
use Rattle.asm_tokens.specs.Tokens.{Read, wrong, ◌>>=◌, Name, Number, Text, Mark, Placed}
use Rattle.asm_tokens.specs.Table.{register_of}
use Rattle.asm_values.specs.Parts.{lower, upper}
use Rattle.rv_asm.specs.declared.state.TheConstants.{MAX_SECTION}

-- a label where it is used
pub record Use : Type 0 where
  pub name : List ℕ
  pub column : ℕ

-- what a statement puts into its section
pub data Piece : Type 0 where
  Encoded : (word : ℕ) → Piece
  BranchTo : (op : BranchOp) (rs1 rs2 : ℕ) (label : Use) → Piece
  JumpTo : (rd : ℕ) (label : Use) → Piece
  AddressTo : (rd : ℕ) (label : Use) → Piece
  AddressOf : (label : Use) → Piece
  Bytes : (bytes : List ℕ) → Piece
  Zeros : (count : ℕ) → Piece

-- what a statement does: it puts pieces into its section, fills up to a multiple of 2^bits,
-- or enters a section
pub data Statement : Type 0 where
  Puts : (pieces : List Piece) → Statement
  Aligns : (bits : ℕ) → Statement
  Enters : (section : Section) → Statement

-- the section that a statement has to stand in, if it has one
abbrev pub section_of : Form → Option Section
section_of (forms.Enter section) = None
section_of forms.Global = None
section_of (forms.Numbers size) = Some sections.Data
section_of forms.Ascii = Some sections.Data
section_of forms.Zeros = Some sections.Data
section_of forms.Align = Some sections.Data
section_of form = Some sections.Text

abbrev pub size : Piece → ℕ
size (Encoded word) = 4
size (BranchTo op rs1 rs2 label) = 4
size (JumpTo rd label) = 4
size (AddressTo rd label) = 8
size (AddressOf label) = 8
size (Bytes bytes) = length bytes
size (Zeros count) = count

-- the bytes of a number of this size
abbrev pub bytes_of : Size → ℕ
bytes_of sizes.One = 1
bytes_of sizes.Four = 4
bytes_of sizes.Eight = 8

-- ---- the fields of an atomic (RISC-V unprivileged manual, the "A" extension)

abbrev pub is_wide : Width → Bool
is_wide widths.Word = false
is_wide widths.Double = true

abbrev pub is_acquire : Order → Bool
is_acquire orders.Relaxed = false
is_acquire orders.Acquire = true
is_acquire orders.Release = false
is_acquire orders.Both = true

abbrev pub is_release : Order → Bool
is_release orders.Relaxed = false
is_release orders.Acquire = false
is_release orders.Release = true
is_release orders.Both = true

-- the instructions without operands; a fence is of all accesses, before and after it
abbrev pub instruction_alone : Alone → Instr
instruction_alone alone.Ecall = instr.Ecall
instruction_alone alone.Ebreak = instr.Ebreak
instruction_alone alone.Fence = instr.Fence 0 0 0x0FF
instruction_alone alone.Nop = instr.Imm Addi 0 0 (pos 0)
instruction_alone alone.Ret = instr.Jalr 0 1 (pos 0)

-- ---- instructions that load a number

abbrev pub encoded_piece : Instr → Piece
encoded_piece i = Encoded (word_of i)

abbrev pub load_number : ℕ → ℤ → List Piece
load_number rd n =
    if is_signed 12 n then encoded_piece (instr.Imm Addi rd 0 n) ∷ []
    else encoded_piece (instr.Upper Lui rd (upper n))
    ∷ encoded_piece (instr.Imm Addiw rd rd (lower n)) ∷ []

-- ---- operands

-- what is read from the front of a line's tokens, and the tokens after it
abbrev pub Taking : Type 0 → Type 0
Taking A = Read (A × List Placed)

abbrev pub is_within : ℤ → ℤ → ℤ → Bool
is_within low high n = int_le low n && int_le n high

abbrev pub operand_or_fault : {A : Type 0} → Option A → ℕ → List Placed → Taking A
operand_or_fault (Some x) column ts = Ok (x, ts)
operand_or_fault None column ts = wrong kinds.Operand column

-- operands of a line whose bytes end before this column
module _ (end : ℕ) where
  -- a token that is no operand here, or the end
  abbrev pub no_operand : {A : Type 0} → List Placed → Read A
  no_operand [] = wrong kinds.Operand end
  no_operand (t ∷ ts) = wrong kinds.Operand t.column

  abbrev pub mark : ℕ → List Placed → Read (List Placed)
  mark m [] = no_operand []
  mark m (t ∷ ts) = elim (t.token) [
    | Mark n ↦ if m == n then Ok ts else wrong kinds.Operand t.column
    | Name name ↦ wrong kinds.Operand t.column
    | Number n ↦ wrong kinds.Operand t.column
    | Text bytes ↦ wrong kinds.Operand t.column
  ]

  abbrev pub name : List Placed → Taking Use
  name [] = no_operand []
  name (t ∷ ts) = elim (t.token) [
    | Name n ↦ Ok (record { name = n; column = t.column }, ts)
    | Mark n ↦ wrong kinds.Operand t.column
    | Number n ↦ wrong kinds.Operand t.column
    | Text bytes ↦ wrong kinds.Operand t.column
  ]

  abbrev pub number : ℤ → ℤ → List Placed → Taking ℤ
  number low high [] = no_operand []
  number low high (t ∷ ts) = elim (t.token) [
    | Number n ↦ if is_within low high n then Ok (n, ts) else wrong kinds.Range t.column
    | Name name ↦ wrong kinds.Operand t.column
    | Mark n ↦ wrong kinds.Operand t.column
    | Text bytes ↦ wrong kinds.Operand t.column
  ]

  abbrev pub text_operand : List Placed → Taking (List ℕ)
  text_operand [] = no_operand []
  text_operand (t ∷ ts) = elim (t.token) [
    | Text bytes ↦ Ok (bytes, ts)
    | Name name ↦ wrong kinds.Operand t.column
    | Mark n ↦ wrong kinds.Operand t.column
    | Number n ↦ wrong kinds.Operand t.column
  ]

  abbrev pub register : List Placed → Taking ℕ
  register ts = do
    n ← name ts
    operand_or_fault (register_of n.0.name) n.0.column n.1

  abbrev pub number_up_to : ℕ → List Placed → Taking ℕ
  number_up_to high ts = do
    n ← number (pos 0) (pos high) ts
    Ok (nat_abs n.0, n.1)

  abbrev pub immediate : List Placed → Taking ℤ
  immediate ts = number (neg_ℤ (pos 2048)) (pos 2047) ts

  -- the same after a comma
  abbrev pub then_name : List Placed → Taking Use
  then_name ts = mark (byte ",") ts >>= λ rest. name rest

  abbrev pub then_register : List Placed → Taking ℕ
  then_register ts = mark (byte ",") ts >>= λ rest. register rest

  abbrev pub then_immediate : List Placed → Taking ℤ
  then_immediate ts = mark (byte ",") ts >>= λ rest. immediate rest

  abbrev pub then_up_to : ℕ → List Placed → Taking ℕ
  then_up_to high ts = mark (byte ",") ts >>= λ rest. number_up_to high rest

  -- (rs1)
  abbrev pub base : List Placed → Taking ℕ
  base ts = do
    left ← mark (byte "(") ts
    r ← register left
    right ← mark (byte ")") r.1
    Ok (r.0, right)

  abbrev pub then_base : List Placed → Taking ℕ
  then_base ts = mark (byte ",") ts >>= λ rest. base rest

  -- the register that an atomic stores or combines; lr has none
  abbrev pub then_second : AtomicOp → List Placed → Taking ℕ
  then_second Lr ts = Ok (0, ts)
  then_second op ts = then_register ts

  -- this statement, if nothing is left
  abbrev pub whole : Statement → List Placed → Read Statement
  whole s [] = Ok s
  whole s (t ∷ ts) = wrong kinds.Operand t.column

  abbrev pub puts : List Piece → List Placed → Read Statement
  puts pieces ts = whole (Puts pieces) ts

  abbrev pub one : Instr → List Placed → Read Statement
  one i ts = puts (encoded_piece i ∷ []) ts

  -- a number of this size
  abbrev pub number_item : Size → ℤ → ℕ → Read Piece
  number_item size n column =
      let bits = 8 * bytes_of size in
      if is_within (neg_ℤ (pos (2 ^ (bits - 1)))) (pos (2 ^ bits - 1)) n
      then Ok (Bytes (bytes_low_first 0 (bytes_of size) (twos_complement bits n)))
      else wrong kinds.Range column

  -- a label, whose address has eight bytes
  abbrev pub label_item : Size → List ℕ → ℕ → Read Piece
  label_item sizes.Eight n column = Ok (AddressOf (record { name = n; column = column }))
  label_item size n column = wrong kinds.Operand column

  -- a number of this size, or a label if that is eight bytes
  abbrev pub item : Size → Placed → Read Piece
  item size t = elim (t.token) [
    | Name n ↦ label_item size n t.column
    | Number n ↦ number_item size n t.column
    | Mark n ↦ wrong kinds.Operand t.column
    | Text bytes ↦ wrong kinds.Operand t.column
  ]

  abbrev pub item_operand : Size → List Placed → Taking Piece
  item_operand size [] = no_operand []
  item_operand size (t ∷ ts) = item size t >>= λ p. Ok (p, ts)

  -- the same after a comma
  abbrev pub then_item : Size → List Placed → Taking Piece
  then_item size ts = mark (byte ",") ts >>= λ rest. item_operand size rest

  -- such items with a comma between each two
  abbrev pub items : Size → List Placed → Read (List Piece)
  items size [] = no_operand []
  items size (t ∷ []) = item size t >>= λ p. Ok (p ∷ [])
  items size (t ∷ c ∷ ts) = do
    p ← item size t
    comma ← mark (byte ",") (c ∷ [])
    ps ← items size ts
    Ok (p ∷ ps)

  -- ---- the forms: what the tokens after a statement's first word are assembled to

  unfoldable pub statement : Form → List Placed → Read Statement
  statement (forms.Register op) ts = do
    rd ← register ts
    rs1 ← then_register rd.1
    rs2 ← then_register rs1.1
    one (instr.Reg op rd.0 rs1.0 rs2.0) rs2.1
  statement (forms.Immediate op) ts = do
    rd ← register ts
    rs1 ← then_register rd.1
    n ← then_immediate rs1.1
    one (instr.Imm op rd.0 rs1.0 n.0) n.1
  statement (forms.Shift op) ts = do
    rd ← register ts
    rs1 ← then_register rd.1
    n ← then_up_to (2 ^ amount_bits op - 1) rs1.1
    one (instr.Shift op rd.0 rs1.0 n.0) n.1
  statement (forms.Load op) ts = do
    rd ← register ts
    n ← then_immediate rd.1
    rs1 ← base n.1
    one (instr.Load op rd.0 rs1.0 n.0) rs1.1
  statement forms.Jalr ts = do
    rd ← register ts
    n ← then_immediate rd.1
    rs1 ← base n.1
    one (instr.Jalr rd.0 rs1.0 n.0) rs1.1
  statement (forms.Store op) ts = do
    rs2 ← register ts
    n ← then_immediate rs2.1
    rs1 ← base n.1
    one (instr.Store op rs1.0 rs2.0 n.0) rs1.1
  statement (forms.Branch op) ts = do
    rs1 ← register ts
    rs2 ← then_register rs1.1
    label ← then_name rs2.1
    puts (BranchTo op rs1.0 rs2.0 label.0 ∷ []) label.1
  statement forms.Jal ts = do
    rd ← register ts
    label ← then_name rd.1
    puts (JumpTo rd.0 label.0 ∷ []) label.1
  statement (forms.Upper op) ts = do
    rd ← register ts
    n ← then_up_to 1048575 rd.1
    one (instr.Upper op rd.0 n.0) n.1
  statement (forms.Atomic op width order) ts = do
    rd ← register ts
    rs2 ← then_second op rd.1
    rs1 ← then_base rs2.1
    one (instr.Atomic op (is_wide width) (is_acquire order) (is_release order) rd.0 rs1.0 rs2.0)
        rs1.1
  statement (forms.Plain name) ts = one (instruction_alone name) ts
  statement forms.Move ts = do
    rd ← register ts
    rs1 ← then_register rd.1
    one (instr.Imm Addi rd.0 rs1.0 (pos 0)) rs1.1
  statement forms.Jump ts = do
    label ← name ts
    puts (JumpTo 0 label.0 ∷ []) label.1
  statement forms.LoadNumber ts = do
    rd ← register ts
    comma ← mark (byte ",") rd.1
    n ← number (neg_ℤ (pos (2 ^ 31))) (pos (2 ^ 31 - 1)) comma
    puts (load_number rd.0 n.0) n.1
  statement forms.LoadAddress ts = do
    rd ← register ts
    label ← then_name rd.1
    puts (AddressTo rd.0 label.0 ∷ []) label.1
  statement (forms.Enter section) ts = whole (Enters section) ts
  statement forms.Global ts = do
    label ← name ts
    puts [] label.1
  statement (forms.Numbers size) ts = items size ts >>= λ pieces. Ok (Puts pieces)
  statement forms.Ascii ts = do
    bytes ← text_operand ts
    puts (Bytes bytes.0 ∷ []) bytes.1
  statement forms.Zeros ts = do
    n ← number_up_to MAX_SECTION ts
    puts (Zeros n.0 ∷ []) n.1
  statement forms.Align ts = do
    n ← number_up_to 12 ts
    whole (Aligns n.0) n.1
