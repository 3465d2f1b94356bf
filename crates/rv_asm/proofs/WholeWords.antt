-- Statements of the text put whole words into it.
use Rattle.std.proofs.Common.{◌≡◌, ℕ, ◌-◌, ◌%◌, ◌^◌, true, false, List, [], ◌∷◌, refl, Result, Ok, Err, if◌then◌else◌}
use Rattle.std.specs.Prelude.{IfOk, ℤ, pos, neg_ℤ}
use Rattle.std.specs.List.{AllByRecursion}
use Rattle.rv_decode.specs.declared.Instr.TheVariants as instr
use Rattle.rv_decode.specs.declared.UpperOp.TheVariants.{Lui}
use Rattle.rv_decode.specs.declared.ImmOp.TheVariants.{Addi, Addiw}
use Rattle.rv_decode.specs.Fields.{is_signed}
use Rattle.asm_tokens.specs.declared.form.Form.{Form}
use Rattle.asm_tokens.specs.declared.form.Form.TheVariants as forms
use Rattle.asm_tokens.specs.declared.form.Section.TheVariants as sections
use Rattle.asm_tokens.specs.Tokens.{◌>>=◌, Placed}
use Rattle.asm_values.specs.Parts.{upper, lower}
use Rattle.rv_asm.specs.Statements.{Piece, Statement, Puts, Aligns, Enters, size, section_of, load_number, encoded_piece, name, number, register, mark, base, then_name, then_register, then_immediate, then_up_to, then_base, then_second, whole, statement}
use Rattle.rv_asm.specs.Assembled.{is_in_place}

-- what follows has a property if what is read first has another
pub then_ok : {A B E : Type 0} (P : A → Type 0) (Q : B → Type 0) (r : Result A E) (f : A → Result B E) → IfOk r P → ((x : A) → P x → IfOk (f x) Q) → IfOk (r >>= f) Q
then_ok P Q (Ok x) f first next = next x first
then_ok P Q (Err e) f first next = tt

pub and_ok : {A B E : Type 0} (Q : B → Type 0) (r : Result A E) (f : A → Result B E) → ((x : A) → IfOk (f x) Q) → IfOk (r >>= f) Q
and_ok Q (Ok x) f next = next x
and_ok Q (Err e) f next = tt

abbrev pub IsWhole : Piece → Type 0
IsWhole piece = size piece % 4 ≡ 0

-- it puts nothing but whole words
abbrev pub IsCode : Statement → Type 0
IsCode (Puts pieces) = AllByRecursion IsWhole pieces
IsCode (Aligns bits) = ⊥
IsCode (Enters section) = Unit {0}

code : (end : ℕ) (s : Statement) (ts : List Placed) → IsCode s → IfOk (whole end s ts) IsCode
code end s [] is = is
code end s (t ∷ ts) is = tt

number_code : (rd : ℕ) (n : ℤ) → AllByRecursion IsWhole (load_number rd n)
number_code rd n =
    let one = encoded_piece (instr.Imm Addi rd 0 n) ∷ [] in
    let two = encoded_piece (instr.Upper Lui rd (upper n)) ∷ encoded_piece (instr.Imm Addiw rd rd (lower n)) ∷ [] in
    elim (is_signed 12 n) as (λ b. AllByRecursion IsWhole (if b then one else two)) [ true ↦ (refl, tt) | false ↦ (refl, (refl, tt)) ]

pub code_stands : (end : ℕ) (form : Form) (ts : List Placed) → is_in_place (section_of form) sections.Text ≡ true → IfOk (statement end form ts) IsCode
unfolding statement
code_stands end (forms.Register op) ts stands =
    and_ok IsCode (register end ts) _ (λ rd. and_ok IsCode (then_register end rd.1) _ (λ rs1. and_ok IsCode (then_register end rs1.1) _ (λ rs2. code end _ rs2.1 (refl, tt))))
code_stands end (forms.Immediate op) ts stands =
    and_ok IsCode (register end ts) _ (λ rd. and_ok IsCode (then_register end rd.1) _ (λ rs1. and_ok IsCode (then_immediate end rs1.1) _ (λ n. code end _ n.1 (refl, tt))))
code_stands end (forms.Shift op) ts stands =
    and_ok IsCode (register end ts) _ (λ rd. and_ok IsCode (then_register end rd.1) _ (λ rs1. and_ok IsCode (then_up_to end _ rs1.1) _ (λ n. code end _ n.1 (refl, tt))))
code_stands end (forms.Load op) ts stands =
    and_ok IsCode (register end ts) _ (λ rd. and_ok IsCode (then_immediate end rd.1) _ (λ n. and_ok IsCode (base end n.1) _ (λ rs1. code end _ rs1.1 (refl, tt))))
code_stands end forms.Jalr ts stands =
    and_ok IsCode (register end ts) _ (λ rd. and_ok IsCode (then_immediate end rd.1) _ (λ n. and_ok IsCode (base end n.1) _ (λ rs1. code end _ rs1.1 (refl, tt))))
code_stands end (forms.Store op) ts stands =
    and_ok IsCode (register end ts) _ (λ rs2. and_ok IsCode (then_immediate end rs2.1) _ (λ n. and_ok IsCode (base end n.1) _ (λ rs1. code end _ rs1.1 (refl, tt))))
code_stands end (forms.Branch op) ts stands =
    and_ok IsCode (register end ts) _ (λ rs1. and_ok IsCode (then_register end rs1.1) _ (λ rs2. and_ok IsCode (then_name end rs2.1) _ (λ label. code end _ label.1 (refl, tt))))
code_stands end forms.Jal ts stands =
    and_ok IsCode (register end ts) _ (λ rd. and_ok IsCode (then_name end rd.1) _ (λ label. code end _ label.1 (refl, tt)))
code_stands end (forms.Upper op) ts stands =
    and_ok IsCode (register end ts) _ (λ rd. and_ok IsCode (then_up_to end 1048575 rd.1) _ (λ n. code end _ n.1 (refl, tt)))
code_stands end (forms.Atomic op width order) ts stands =
    and_ok IsCode (register end ts) _ (λ rd. and_ok IsCode (then_second end op rd.1) _ (λ rs2. and_ok IsCode (then_base end rs2.1) _ (λ rs1. code end _ rs1.1 (refl, tt))))
code_stands end (forms.Plain name) ts stands = code end _ ts (refl, tt)
code_stands end forms.Move ts stands =
    and_ok IsCode (register end ts) _ (λ rd. and_ok IsCode (then_register end rd.1) _ (λ rs1. code end _ rs1.1 (refl, tt)))
code_stands end forms.Jump ts stands =
    and_ok IsCode (name end ts) _ (λ label. code end _ label.1 (refl, tt))
code_stands end forms.LoadNumber ts stands =
    and_ok IsCode (register end ts) _ (λ rd. and_ok IsCode (mark end _ rd.1) _ (λ comma. and_ok IsCode (number end (neg_ℤ (pos (2 ^ 31))) (pos (2 ^ 31 - 1)) comma) _ (λ n. code end (Puts (load_number rd.0 n.0)) n.1 (number_code rd.0 n.0))))
code_stands end forms.LoadAddress ts stands =
    and_ok IsCode (register end ts) _ (λ rd. and_ok IsCode (then_name end rd.1) _ (λ label. code end _ label.1 (refl, tt)))
code_stands end (forms.Enter section) ts stands = code end _ ts tt
code_stands end forms.Global ts stands =
    and_ok IsCode (name end ts) _ (λ label. code end _ label.1 tt)
code_stands end (forms.Numbers size) ts stands = absurd cc
code_stands end forms.Ascii ts stands = absurd cc
code_stands end forms.Zeros ts stands = absurd cc
code_stands end forms.Align ts stands = absurd cc
