use Rattle.std.proofs.Common.{rules, ◌≡◌, ℕ, List, ◌++◌, Ok, ap, sym, ◌∙◌, subst}
use Rattle.rv_decode.specs.declared.Instr.{Instr}
use Rattle.rv_decode.specs.declared.Instr.TheVariants as instr
use Rattle.rv_decode.specs.declared.UpperOp.TheVariants.{Auipc}
use Rattle.rv_decode.specs.declared.ImmOp.TheVariants.{Addi}
use Rattle.asm_tokens.specs.Tokens.{Read}
use Rattle.asm_values.specs.Parts.{upper, lower}
use Rattle.rv_asm.specs.Assembled.{word, load_address}
use Rattle.rv_asm.specs.Views.{Steps}
use Rattle.rv_asm.proofs.Filling.{two_words}
use Rattle.rv_asm.proofs.fill.write_address_load.Goals as goal

-- an instruction's word after these bytes
abbrev behind : List ℕ → Instr → Read (List ℕ)
behind out i = Ok (out ++ word i)

pub returns : goal.returns
unfolding load_address
returns c =
    let out = c.args.out.now.items in
    let one = c.write_instruction.new.out.items in
    let two = c.write_instruction-2.new.out.items in
    let first : c.far_upper.result ≡ instr.Upper Auipc c.args.rd (upper c.args.far) = search rules in
    let second : c.far_lower.result ≡ instr.Imm Addi c.args.rd c.args.rd (lower c.args.far) = search rules in
    two_words c.write_instruction-2.result out one two _ _
    (ap (behind out) (sym first) ∙ c.in_ok-write_instruction.ensures)
    (subst (λ i. Steps c.write_instruction-2.result two (behind one i)) second c.write_instruction-2.ensures)
