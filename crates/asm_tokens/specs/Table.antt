-- The table of statements, and the names of registers.
use Prim.Native.String.{String}
use Rattle.std.specs.Prelude.{ℕ, List, [], ◌∷◌, ◌++◌, Option, Some, None, option_map, map, if◌then◌else◌, codes, bytes_eq}
use Rattle.std.specs.List.{flat_map}
use Rattle.rv_decode.specs.declared.UpperOp.TheVariants.{Lui, Auipc}
use Rattle.rv_decode.specs.declared.BranchOp.TheVariants.{Beq, Bne, Blt, Bge, Bltu, Bgeu}
use Rattle.rv_decode.specs.declared.LoadOp.TheVariants.{Lb, Lh, Lw, Ld, Lbu, Lhu, Lwu}
use Rattle.rv_decode.specs.declared.StoreOp.TheVariants.{Sb, Sh, Sw, Sd}
use Rattle.rv_decode.specs.declared.ImmOp.TheVariants.{Addi, Slti, Sltiu, Xori, Ori, Andi, Addiw}
use Rattle.rv_decode.specs.declared.ShiftOp.TheVariants.{Slli, Srli, Srai, Slliw, Srliw, Sraiw}
use Rattle.rv_decode.specs.declared.RegOp.TheVariants.{Add, Sll, Slt, Sltu, Xor, Srl, Or, And, Sub, Sra, Mul, Mulh, Mulhsu, Mulhu, Div, Divu, Rem, Remu, Addw, Sllw, Srlw, Subw, Sraw, Mulw, Divw, Divuw, Remw, Remuw}
use Rattle.rv_decode.specs.declared.AtomicOp.{AtomicOp}
use Rattle.rv_decode.specs.declared.AtomicOp.TheVariants.{Lr, Amoadd, Amoswap, Sc, Amoxor, Amoor, Amoand, Amomin, Amomax, Amominu, Amomaxu}
use Rattle.asm_tokens.specs.declared.register.Register.{Register}
use Rattle.asm_tokens.specs.declared.register.Register.TheVariants.{X0, X1, X2, X3, X4, X5, X6, X7, X8, X9, X10, X11, X12, X13, X14, X15, X16, X17, X18, X19, X20, X21, X22, X23, X24, X25, X26, X27, X28, X29, X30, X31}
use Rattle.asm_tokens.specs.Registers.{number_of}
use Rattle.asm_tokens.specs.declared.form.Section.TheVariants as sections
use Rattle.asm_tokens.specs.declared.form.Size.TheVariants as sizes
use Rattle.asm_tokens.specs.declared.form.Width.{Width}
use Rattle.asm_tokens.specs.declared.form.Width.TheVariants.{Word, Double}
use Rattle.asm_tokens.specs.declared.form.Order.{Order}
use Rattle.asm_tokens.specs.declared.form.Order.TheVariants as orders
use Rattle.asm_tokens.specs.declared.form.Alone.TheVariants.{Ecall, Ebreak, Fence, Nop, Ret}
use Rattle.asm_tokens.specs.declared.form.Form.{Form}
use Rattle.asm_tokens.specs.declared.form.Form.TheVariants as forms

-- an entry of a table by names
abbrev pub Named : Type 0 → Type 0
Named A = List ℕ × A

abbrev pub with_name : {A : Type 0} → String → A → Named A
with_name name x = (codes name, x)

-- the first entry of that name
abbrev pub look_up : {A : Type 0} → List ℕ → List (Named A) → Option A
look_up name [] = None
look_up name (entry ∷ more) = if bytes_eq name entry.0 then Some entry.1 else look_up name more

abbrev pub plain_rows : List (Named Form)
plain_rows =
    with_name "add" (forms.Register Add)
    ∷ with_name "sll" (forms.Register Sll)
    ∷ with_name "slt" (forms.Register Slt)
    ∷ with_name "sltu" (forms.Register Sltu)
    ∷ with_name "xor" (forms.Register Xor)
    ∷ with_name "srl" (forms.Register Srl)
    ∷ with_name "or" (forms.Register Or)
    ∷ with_name "and" (forms.Register And)
    ∷ with_name "sub" (forms.Register Sub)
    ∷ with_name "sra" (forms.Register Sra)
    ∷ with_name "mul" (forms.Register Mul)
    ∷ with_name "mulh" (forms.Register Mulh)
    ∷ with_name "mulhsu" (forms.Register Mulhsu)
    ∷ with_name "mulhu" (forms.Register Mulhu)
    ∷ with_name "div" (forms.Register Div)
    ∷ with_name "divu" (forms.Register Divu)
    ∷ with_name "rem" (forms.Register Rem)
    ∷ with_name "remu" (forms.Register Remu)
    ∷ with_name "addw" (forms.Register Addw)
    ∷ with_name "sllw" (forms.Register Sllw)
    ∷ with_name "srlw" (forms.Register Srlw)
    ∷ with_name "subw" (forms.Register Subw)
    ∷ with_name "sraw" (forms.Register Sraw)
    ∷ with_name "mulw" (forms.Register Mulw)
    ∷ with_name "divw" (forms.Register Divw)
    ∷ with_name "divuw" (forms.Register Divuw)
    ∷ with_name "remw" (forms.Register Remw)
    ∷ with_name "remuw" (forms.Register Remuw)
    ∷ with_name "addi" (forms.Immediate Addi)
    ∷ with_name "slti" (forms.Immediate Slti)
    ∷ with_name "sltiu" (forms.Immediate Sltiu)
    ∷ with_name "xori" (forms.Immediate Xori)
    ∷ with_name "ori" (forms.Immediate Ori)
    ∷ with_name "andi" (forms.Immediate Andi)
    ∷ with_name "addiw" (forms.Immediate Addiw)
    ∷ with_name "slli" (forms.Shift Slli)
    ∷ with_name "srli" (forms.Shift Srli)
    ∷ with_name "srai" (forms.Shift Srai)
    ∷ with_name "slliw" (forms.Shift Slliw)
    ∷ with_name "srliw" (forms.Shift Srliw)
    ∷ with_name "sraiw" (forms.Shift Sraiw)
    ∷ with_name "lb" (forms.Load Lb)
    ∷ with_name "lh" (forms.Load Lh)
    ∷ with_name "lw" (forms.Load Lw)
    ∷ with_name "ld" (forms.Load Ld)
    ∷ with_name "lbu" (forms.Load Lbu)
    ∷ with_name "lhu" (forms.Load Lhu)
    ∷ with_name "lwu" (forms.Load Lwu)
    ∷ with_name "jalr" forms.Jalr
    ∷ with_name "sb" (forms.Store Sb)
    ∷ with_name "sh" (forms.Store Sh)
    ∷ with_name "sw" (forms.Store Sw)
    ∷ with_name "sd" (forms.Store Sd)
    ∷ with_name "beq" (forms.Branch Beq)
    ∷ with_name "bne" (forms.Branch Bne)
    ∷ with_name "blt" (forms.Branch Blt)
    ∷ with_name "bge" (forms.Branch Bge)
    ∷ with_name "bltu" (forms.Branch Bltu)
    ∷ with_name "bgeu" (forms.Branch Bgeu)
    ∷ with_name "jal" forms.Jal
    ∷ with_name "lui" (forms.Upper Lui)
    ∷ with_name "auipc" (forms.Upper Auipc)
    ∷ with_name "ecall" (forms.Plain Ecall)
    ∷ with_name "ebreak" (forms.Plain Ebreak)
    ∷ with_name "fence" (forms.Plain Fence)
    ∷ with_name "nop" (forms.Plain Nop)
    ∷ with_name "mv" forms.Move
    ∷ with_name "j" forms.Jump
    ∷ with_name "ret" (forms.Plain Ret)
    ∷ with_name "li" forms.LoadNumber
    ∷ with_name "la" forms.LoadAddress
    ∷ with_name ".text" (forms.Enter sections.Text)
    ∷ with_name ".data" (forms.Enter sections.Data)
    ∷ with_name ".globl" forms.Global
    ∷ with_name ".byte" (forms.Numbers sizes.One)
    ∷ with_name ".word" (forms.Numbers sizes.Four)
    ∷ with_name ".dword" (forms.Numbers sizes.Eight)
    ∷ with_name ".ascii" forms.Ascii
    ∷ with_name ".zero" forms.Zeros
    ∷ with_name ".align" forms.Align
    ∷ []

-- the atomics at their two widths, by their words without an order
abbrev pub atomics : List (Named (AtomicOp × Width))
atomics =
    with_name "lr.w" (Lr, Word)
    ∷ with_name "lr.d" (Lr, Double)
    ∷ with_name "sc.w" (Sc, Word)
    ∷ with_name "sc.d" (Sc, Double)
    ∷ with_name "amoadd.w" (Amoadd, Word)
    ∷ with_name "amoadd.d" (Amoadd, Double)
    ∷ with_name "amoswap.w" (Amoswap, Word)
    ∷ with_name "amoswap.d" (Amoswap, Double)
    ∷ with_name "amoxor.w" (Amoxor, Word)
    ∷ with_name "amoxor.d" (Amoxor, Double)
    ∷ with_name "amoor.w" (Amoor, Word)
    ∷ with_name "amoor.d" (Amoor, Double)
    ∷ with_name "amoand.w" (Amoand, Word)
    ∷ with_name "amoand.d" (Amoand, Double)
    ∷ with_name "amomin.w" (Amomin, Word)
    ∷ with_name "amomin.d" (Amomin, Double)
    ∷ with_name "amomax.w" (Amomax, Word)
    ∷ with_name "amomax.d" (Amomax, Double)
    ∷ with_name "amominu.w" (Amominu, Word)
    ∷ with_name "amominu.d" (Amominu, Double)
    ∷ with_name "amomaxu.w" (Amomaxu, Word)
    ∷ with_name "amomaxu.d" (Amomaxu, Double)
    ∷ []

-- the orders, by their suffixes in the name of an atomic
abbrev pub suffixes : List (Named Order)
suffixes =
    with_name "" orders.Relaxed
    ∷ with_name ".aq" orders.Acquire
    ∷ with_name ".rl" orders.Release
    ∷ with_name ".aqrl" orders.Both
    ∷ []

-- an atomic in each order
abbrev pub order_rows : Named (AtomicOp × Width) → List (Named Form)
order_rows atomic = map (λ s. (atomic.0 ++ s.0, forms.Atomic atomic.1.0 atomic.1.1 s.1)) suffixes

abbrev pub atomic_rows : List (Named Form)
atomic_rows = flat_map order_rows atomics

unfoldable pub rows : List (Named Form)
rows = plain_rows ++ atomic_rows

-- the form of the statement that begins with this word
unfoldable pub form_of : List ℕ → Option Form
unfolding rows
form_of name = look_up name rows

-- the registers' names
abbrev pub register_rows : List (Named Register)
register_rows =
    with_name "x0" X0 ∷ with_name "zero" X0
    ∷ with_name "x1" X1 ∷ with_name "ra" X1
    ∷ with_name "x2" X2 ∷ with_name "sp" X2
    ∷ with_name "x3" X3 ∷ with_name "gp" X3
    ∷ with_name "x4" X4 ∷ with_name "tp" X4
    ∷ with_name "x5" X5 ∷ with_name "t0" X5
    ∷ with_name "x6" X6 ∷ with_name "t1" X6
    ∷ with_name "x7" X7 ∷ with_name "t2" X7
    ∷ with_name "x8" X8 ∷ with_name "s0" X8 ∷ with_name "fp" X8
    ∷ with_name "x9" X9 ∷ with_name "s1" X9
    ∷ with_name "x10" X10 ∷ with_name "a0" X10
    ∷ with_name "x11" X11 ∷ with_name "a1" X11
    ∷ with_name "x12" X12 ∷ with_name "a2" X12
    ∷ with_name "x13" X13 ∷ with_name "a3" X13
    ∷ with_name "x14" X14 ∷ with_name "a4" X14
    ∷ with_name "x15" X15 ∷ with_name "a5" X15
    ∷ with_name "x16" X16 ∷ with_name "a6" X16
    ∷ with_name "x17" X17 ∷ with_name "a7" X17
    ∷ with_name "x18" X18 ∷ with_name "s2" X18
    ∷ with_name "x19" X19 ∷ with_name "s3" X19
    ∷ with_name "x20" X20 ∷ with_name "s4" X20
    ∷ with_name "x21" X21 ∷ with_name "s5" X21
    ∷ with_name "x22" X22 ∷ with_name "s6" X22
    ∷ with_name "x23" X23 ∷ with_name "s7" X23
    ∷ with_name "x24" X24 ∷ with_name "s8" X24
    ∷ with_name "x25" X25 ∷ with_name "s9" X25
    ∷ with_name "x26" X26 ∷ with_name "s10" X26
    ∷ with_name "x27" X27 ∷ with_name "s11" X27
    ∷ with_name "x28" X28 ∷ with_name "t3" X28
    ∷ with_name "x29" X29 ∷ with_name "t4" X29
    ∷ with_name "x30" X30 ∷ with_name "t5" X30
    ∷ with_name "x31" X31 ∷ with_name "t6" X31
    ∷ []

unfoldable pub register_of : List ℕ → Option ℕ
register_of name = option_map number_of (look_up name register_rows)
