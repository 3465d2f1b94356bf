-- The memory after an instruction that does not store.
use Rattle.std.proofs.Common.{ℕ, ◌≡◌, ◌%◌, ◌==◌, Bool, cond, Option, Some, None, Result, Ok, Err, refl, ap, sym, ◌∙◌, true, false}
use Rattle.coz_types.specs.declared.ending.TrapCause.{TrapCause}
use Rattle.coz_types.specs.declared.ending.TrapCause.TheVariants.{Access, Misaligned, Break, Illegal}
use Rattle.rv_decode.specs.declared.Instr.{Instr}
use Rattle.rv_decode.specs.declared.Instr.TheVariants.{Upper, Jal, Jalr, Branch, Load, Store, Imm, Shift, Reg, Atomic, Fence, Ecall, Ebreak}
use Rattle.rv_decode.specs.Instructions.{instruction_of}
use Rattle.rv_alu.specs.Operations.{is_taken}
use Rattle.guest_memory.specs.Memory.{MemoryMap, fetch, load}
use Rattle.rv_execute.specs.declared.hart.Step.TheVariants.{Next, Fault}
use Rattle.rv_execute.specs.Execution.{Setting, register, address_at, Executed, execute, next, with_rd, jump, branch, fault, with_pc, with_register, pc_after, load_value, load_size}
use Rattle.hart_steps.specs.declared.code.Word.{Word}
use Rattle.hart_steps.specs.Words.{found, decoded, is_storing, may_store, IsWordAt}
use Rattle.hart_steps.specs.Steps.{step, stepped}
use Rattle.hart_steps.proofs.Steady.{regions-kept}

abbrev Keeps : MemoryMap → Executed → Type 0
Keeps m e = e.setting.memory ≡ m

either : {X : Type 0} (P : X → Type 0) (b : Bool) (x y : X) → P x → P y → P (cond b x y)
either P true x y p q = p
either P false x y p q = q

jump-keeps : (rd target : ℕ) (s : Setting) → Keeps s.memory (jump rd target s)
jump-keeps rd target s =
    let jumped : Executed = record { setting = record s { hart = with_pc target (with_register rd (pc_after s.hart) s.hart) }; step = Next } in
    either (Keeps s.memory) (target % 4 == 0) jumped (fault s Misaligned) refl refl

branch-keeps : (taken : Bool) (target : ℕ) (s : Setting) → Keeps s.memory (branch taken target s)
branch-keeps taken target s = either (Keeps s.memory) taken (jump 0 target s) (next s) (jump-keeps 0 target s) refl

loaded-keeps : (rd : ℕ) (f : ℕ → ℕ) (o : Option ℕ) (s : Setting) → Keeps s.memory (elim o [ None ↦ fault s Access | Some n ↦ with_rd rd (f n) s ])
loaded-keeps rd f None s = refl
loaded-keeps rd f (Some n) s = refl

never : {P : Type 0} → true ≡ false → P
never e = absurd (let no : true ≡ false = e in cc)

execute-keeps : (h : ℕ) (i : Instr) (s : Setting) → is_storing i ≡ false → Keeps s.memory (execute h i s)
unfolding execute
execute-keeps h (Upper op rd n) s e = refl
execute-keeps h (Jal rd offset) s e = jump-keeps rd _ s
execute-keeps h (Jalr rd rs1 offset) s e = jump-keeps rd _ s
execute-keeps h (Branch op rs1 rs2 offset) s e = branch-keeps (is_taken op (register s.hart rs1) (register s.hart rs2)) (address_at s.hart.pc offset) s
execute-keeps h (Load op rd rs1 offset) s e = loaded-keeps rd (load_value op) _ s
execute-keeps h (Store op rs1 rs2 offset) s e = never e
execute-keeps h (Imm op rd rs1 n) s e = refl
execute-keeps h (Shift op rd rs1 amount) s e = refl
execute-keeps h (Reg op rd rs1 rs2) s e = refl
execute-keeps h (Atomic op wide aq rl rd rs1 rs2) s e = never e
execute-keeps h (Fence rd rs1 bits) s e = refl
execute-keeps h Ecall s e = refl
execute-keeps h Ebreak s e = refl

decoded-keeps : (h : ℕ) (s : Setting) (o : Option Instr) → may_store o ≡ false → Keeps s.memory (stepped h s (decoded o))
decoded-keeps h s None e = refl
decoded-keeps h s (Some i) e = execute-keeps h i s e

-- a word that stands at the pc and does not store
pub word-keeps : (h : ℕ) (s : Setting) (word : Word) → IsWordAt s.memory s.hart.pc word → word.stores ≡ false → (step h s).setting.memory ≡ s.memory
word-keeps h s word at none =
    ap (λ (o : Option ℕ). (stepped h s (found o)).setting.memory) at.fetched
    ∙ decoded-keeps h s (instruction_of word.raw) (ap may_store (sym at.is.instr) ∙ sym at.is.stores ∙ none)

-- the image and the layout stay
stepped-regions : (h : ℕ) (s : Setting) (o : Result Instr TrapCause) → ((stepped h s o).setting.memory.image ≡ s.memory.image) × ((stepped h s o).setting.memory.layout ≡ s.memory.layout)
stepped-regions h s (Ok i) = regions-kept h i s
stepped-regions h s (Err cause) = (refl, refl)

pub step-regions : (h : ℕ) (s : Setting) → ((step h s).setting.memory.image ≡ s.memory.image) × ((step h s).setting.memory.layout ≡ s.memory.layout)
step-regions h s = stepped-regions h s (found (fetch s.memory s.hart.pc))
