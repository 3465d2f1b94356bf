-- For each opcode: what stands in a word of it is the instruction of that word, and the table's.
use Rattle.std.proofs.Common.{◌≡◌, ℕ, ◌+◌, ◌*◌, ◌/◌, ◌%◌, ◌^◌, ◌<◌, Bool, true, false, List, Option, Some, None, refl, ap, subst, sym, arith, ◌∙◌}
use Rattle.std.specs.Prelude.{◌||◌, if◌then◌else◌, IsTrue, ◌==◌, ◌≢◌}
use Rattle.std.specs.Option.{option_map, option_and_then}
use Rattle.std.proofs.lemmas.Grind.{common_steps}
use Rattle.rv_decode.specs.declared.Instr.{Instr}
use Rattle.rv_decode.specs.declared.Instr.TheVariants.{Upper, Jal, Jalr, Branch, Load, Store, Imm, Shift, Reg, Atomic, Fence, Ecall, Ebreak}
use Rattle.rv_decode.specs.declared.UpperOp.{UpperOp}
use Rattle.rv_decode.specs.declared.UpperOp.TheVariants.{Lui, Auipc}
use Rattle.rv_decode.specs.declared.BranchOp.{BranchOp}
use Rattle.rv_decode.specs.declared.LoadOp.{LoadOp}
use Rattle.rv_decode.specs.declared.ImmOp.{ImmOp}
use Rattle.rv_decode.specs.declared.ImmOp.TheVariants.{Addiw}
use Rattle.rv_decode.specs.declared.ShiftOp.{ShiftOp}
use Rattle.rv_decode.specs.declared.AtomicOp.{AtomicOp}
use Rattle.rv_decode.specs.Fields.{part, signed_bits}
use Rattle.rv_decode.specs.Table.{Code, code, operation_with, upper_code, upper_ops, branch_code, load_code, store_code, imm_code, shift_code, register_code, atomic_code, branch_ops, load_ops, store_ops, imm_ops, shift_ops, register_ops, atomic_ops}
use Rattle.rv_decode.specs.Instructions.{HasWord, is_second, immediate_in, store_in, branch_in, jump_in, amount_bits, operations_at, candidates, instruction_of, IsDecoded, IsInstructionOf}
use Rattle.rv_decode.specs.Forms.{jalr_of, branch_of, load_of, store_of, imm_of, shift_of, shift_or_imm_of, word_shift_of, word_shift_or_imm_of, register_of, atomic_with, atomic_of, fence_of, system_of}
use Rattle.rv_decode.proofs.Codes.{HasCode, operation_has_code}
use Rattle.rv_decode.proofs.Split.{sum_of_parts, upper_part, immediate_part, branch_part, jump_part, amount_part, funct6_part, funct5_part, aq_part, rl_part}
use Rattle.rv_decode.proofs.Reading.{read, reads, reading, bit}
use Rattle.rv_decode.proofs.Found.{upper_word, jal_word, jalr_word, branch_word, load_word, store_word, imm_word, register_word, fence_word, long_shift_word, word_shift_word, atomic_word, long_amount, word_amount}
use Rattle.rv_decode.proofs.Exact.{In, here, there, in_left, in_right, in_map, in_filter, fitting_in, mapped, tested, exact_by, same_as_table}

-- an answer is that of the word and that of the table
pub record Answers (w : ℕ) (found : Option Instr) : Type 0 where
  pub exact : IsInstructionOf w found
  pub table : found ≡ instruction_of w

answered : (w : ℕ) (found : Option Instr) → read w ≡ found → ((i : Instr) → found ≡ Some i → HasWord w i)
    → ((i : Instr) → found ≡ Some i → In i (candidates w)) → Answers w found
answered w found r has listed =
    let e : IsInstructionOf w found = exact_by w found r has in
    record { exact = e; table = same_as_table w found e listed }

one_answer : (w : ℕ) (j : Instr) → read w ≡ Some j → HasWord w j → In j (candidates w) → Answers w (Some j)
one_answer w j r h p =
    answered w (Some j) r
    (λ i e. let same : j ≡ i = cc in subst (HasWord w) same h)
    (λ i e. let same : j ≡ i = cc in subst (λ k. In k (candidates w)) same p)

no_answer : (w : ℕ) → read w ≡ None → Answers w None
no_answer w r = answered w None r (λ i e. absurd (cc)) (λ i e. absurd (cc))

-- the answer of a table
table_answer : {Op : Type 0} (code_of : Op → Code) (ops : List Op) (make : Op → Instr) (w opcode funct3 funct7 : ℕ)
    → read w ≡ option_map make (operation_with code_of ops (code opcode funct3 funct7))
    → ((op : Op) → HasCode (code_of op) opcode funct3 funct7 → HasWord w (make op))
    → ((op : Op) → operation_with code_of ops (code opcode funct3 funct7) ≡ Some op → In (make op) (candidates w))
    → Answers w (option_map make (operation_with code_of ops (code opcode funct3 funct7)))
table_answer code_of ops make w o f g r has listed =
    let found = operation_with code_of ops (code o f g) in
    answered w (option_map make found) r
    (mapped make (HasWord w) found (λ op s. has op (operation_has_code code_of ops o f g op s)))
    (mapped make (λ i. In i (candidates w)) found listed)

is_other : (a b : ℕ) → a == b ≡ false → a ≢ b
is_other a b t = grind (arith, common_steps)

is_same : (a b : ℕ) → a == b ≡ true → a ≡ b
is_same a b t = grind (arith, common_steps)

differ : (a b : ℕ) → a ≢ b → a == b ≡ false
differ a b n = grind (arith, common_steps)

-- the branch that a test takes
first : (x y : Option Instr) (b : Bool) → b ≡ true → (if b then x else y) ≡ x
first x y b t = ap (λ b. if b then x else y) t

second : (x y : Option Instr) (b : Bool) → b ≡ false → (if b then x else y) ≡ y
second x y b t = ap (λ b. if b then x else y) t

module _ (w : ℕ) (small : w < 2 ^ 32) where
  abbrev rd : ℕ
  rd = part w 7 5

  abbrev funct3 : ℕ
  funct3 = part w 12 3

  abbrev rs1 : ℕ
  rs1 = part w 15 5

  abbrev rs2 : ℕ
  rs2 = part w 20 5

  abbrev funct7 : ℕ
  funct7 = part w 25 7

  -- an answer by a test
  either : (x y : Option Instr) (b : Bool) → (b ≡ true → Answers w x) → (b ≡ false → Answers w y) → Answers w (if b then x else y)
  either x y b held failed = elim b as (λ c. b ≡ c → Answers w (if c then x else y)) [ true ↦ held | false ↦ failed ] refl

  -- what is read at an opcode
  read_at : (opcode : ℕ) → part w 0 7 ≡ opcode → read w ≡ reading rd funct3 rs1 rs2 funct7 opcode
  read_at opcode o = ap (reading rd funct3 rs1 rs2 funct7) o

  upper_listed : (op : UpperOp) → In op upper_ops → (upper_code op).opcode ≡ part w 0 7 → In (Upper op rd (part w 12 20)) (candidates w)
  upper_listed op p o =
      let fits : IsTrue ((upper_code op).opcode == part w 0 7) = grind (arith, common_steps) in
      in_left _ (in_left _ (in_left _ (in_left _ (in_left _ (in_left _ (in_left _ (in_left _
      (in_map (λ x. Upper x rd (part w 12 20)) (in_filter (λ x. (upper_code x).opcode == part w 0 7) op upper_ops p fits)))))))))

  pub lui_answers : part w 0 7 ≡ 0x37 → Answers w (Some (Upper Lui rd (part w 12 20)))
  lui_answers o =
      one_answer w (Upper Lui rd (part w 12 20))
      (read_at 0x37 o ∙ ap (λ n. Some (Upper Lui rd n)) (sym (upper_part w)))
      (upper_word w small Lui (sym o))
      (upper_listed Lui here (sym o))

  pub auipc_answers : part w 0 7 ≡ 0x17 → Answers w (Some (Upper Auipc rd (part w 12 20)))
  auipc_answers o =
      one_answer w (Upper Auipc rd (part w 12 20))
      (read_at 0x17 o ∙ ap (λ n. Some (Upper Auipc rd n)) (sym (upper_part w)))
      (upper_word w small Auipc (sym o))
      (upper_listed Auipc (there here) (sym o))

  pub jal_answers : part w 0 7 ≡ 0x6F → Answers w (Some (Jal rd (jump_in w)))
  jal_answers o =
      one_answer w (Jal rd (jump_in w))
      (read_at 0x6F o ∙ ap (λ n. Some (Jal rd (signed_bits 21 n))) (sym (jump_part w)))
      (jal_word w small o)
      (in_right _ here)

  pub jalr_answers : part w 0 7 ≡ 0x67 → Answers w (jalr_of w)
  jalr_answers o =
      either (Some (Jalr rd rs1 (immediate_in w))) None (funct3 == 0)
      (λ t. one_answer w (Jalr rd rs1 (immediate_in w))
      (read_at 0x67 o ∙ first _ _ _ t ∙ ap (λ n. Some (Jalr rd rs1 (signed_bits 12 n))) (sym (immediate_part w)))
      (jalr_word w small o (is_same funct3 0 t))
      (in_right _ (there here)))
      (λ t. no_answer w (read_at 0x67 o ∙ second _ _ _ t))

  pub branch_answers : part w 0 7 ≡ 0x63 → Answers w (branch_of w)
  branch_answers o =
      let make = λ (n : ℕ) (op : BranchOp). Branch op rs1 rs2 (signed_bits 13 n) in
      table_answer branch_code branch_ops (λ op. Branch op rs1 rs2 (branch_in w)) w 0x63 funct3 0
      (read_at 0x63 o ∙ ap (λ n. option_map (make n) (operation_with branch_code branch_ops (code 0x63 funct3 0))) (sym (branch_part w)))
      (λ op c. branch_word w small op o c)
      (λ op s. in_left _ (in_left _ (in_left _ (in_left _ (in_left _ (in_left _ (in_left _ (in_right _
      (in_map (λ x. Branch x rs1 rs2 (branch_in w)) (fitting_in branch_code branch_ops w 0x63 funct3 0 o op s))))))))))

  pub load_answers : part w 0 7 ≡ 0x03 → Answers w (load_of w)
  load_answers o =
      let make = λ (n : ℕ) (op : LoadOp). Load op rd rs1 (signed_bits 12 n) in
      table_answer load_code load_ops (λ op. Load op rd rs1 (immediate_in w)) w 0x03 funct3 0
      (read_at 0x03 o ∙ ap (λ n. option_map (make n) (operation_with load_code load_ops (code 0x03 funct3 0))) (sym (immediate_part w)))
      (λ op c. load_word w small op o c)
      (λ op s. in_left _ (in_left _ (in_left _ (in_left _ (in_left _ (in_left _ (in_right _
      (in_map (λ x. Load x rd rs1 (immediate_in w)) (fitting_in load_code load_ops w 0x03 funct3 0 o op s)))))))))

  pub store_answers : part w 0 7 ≡ 0x23 → Answers w (store_of w)
  store_answers o =
      table_answer store_code store_ops (λ op. Store op rs1 rs2 (store_in w)) w 0x23 funct3 0
      (read_at 0x23 o)
      (λ op c. store_word w small op o c)
      (λ op s. in_left _ (in_left _ (in_left _ (in_left _ (in_left _ (in_right _
      (in_map (λ x. Store x rs1 rs2 (store_in w)) (fitting_in store_code store_ops w 0x23 funct3 0 o op s))))))))

  shift_listed : (op : ShiftOp) (bits : ℕ) → In op (operations_at shift_code shift_ops w) → amount_bits op ≡ bits → In (Shift op rd rs1 (part w 20 bits)) (candidates w)
  shift_listed op bits p e =
      subst (λ n. In (Shift op rd rs1 (part w 20 n)) (candidates w)) e
      (in_left _ (in_left _ (in_left _ (in_right _ (in_map (λ x. Shift x rd rs1 (part w 20 (amount_bits x))) p)))))

  imm_listed : (op : ImmOp) → In op (operations_at imm_code imm_ops w) → In (Imm op rd rs1 (immediate_in w)) (candidates w)
  imm_listed op p = in_left _ (in_left _ (in_left _ (in_left _ (in_right _ (in_map (λ x. Imm x rd rs1 (immediate_in w)) p)))))

  shift_answers : part w 0 7 ≡ 0x13 → (funct3 == 1 || funct3 == 5) ≡ true → Answers w (shift_of w)
  shift_answers o t =
      let make = λ (n : ℕ) (op : ShiftOp). Shift op rd rs1 n in
      let found = λ (n : ℕ). operation_with shift_code shift_ops (code 0x13 funct3 n) in
      table_answer shift_code shift_ops (make (part w 20 6)) w 0x13 funct3 (part w 26 6 * 2)
      (read_at 0x13 o ∙ first _ _ _ t
      ∙ ap (λ n. option_map (make n) (found (funct7 / 2 * 2))) (sym (amount_part w))
      ∙ ap (λ n. option_map (make (part w 20 6)) (found n)) (sym (funct6_part w)))
      (λ op c. long_shift_word w small op o c)
      (λ op s.
      let c : HasCode (shift_code op) 0x13 funct3 (part w 26 6 * 2) = operation_has_code shift_code shift_ops 0x13 funct3 (part w 26 6 * 2) op s in
      shift_listed op 6 (fitting_in shift_code shift_ops w 0x13 funct3 (part w 26 6 * 2) o op s) (long_amount w small op c.same_opcode))

  imm_answers : part w 0 7 ≡ 0x13 → (funct3 == 1 || funct3 == 5) ≡ false → Answers w (imm_of w)
  imm_answers o t =
      let make = λ (n : ℕ) (op : ImmOp). Imm op rd rs1 (signed_bits 12 n) in
      table_answer imm_code imm_ops (λ op. Imm op rd rs1 (immediate_in w)) w 0x13 funct3 0
      (read_at 0x13 o ∙ second _ _ _ t
      ∙ ap (λ n. option_map (make n) (operation_with imm_code imm_ops (code 0x13 funct3 0))) (sym (immediate_part w)))
      (λ op c. imm_word w small op 0x13 o c)
      (λ op s. imm_listed op (fitting_in imm_code imm_ops w 0x13 funct3 0 o op s))

  pub shift_or_imm_answers : part w 0 7 ≡ 0x13 → Answers w (shift_or_imm_of w)
  shift_or_imm_answers o =
      either (shift_of w) (imm_of w) (funct3 == 1 || funct3 == 5) (λ t. shift_answers o t) (λ t. imm_answers o t)

  addiw_answers : part w 0 7 ≡ 0x1B → funct3 == 0 ≡ true → Answers w (Some (Imm Addiw rd rs1 (immediate_in w)))
  addiw_answers o t =
      let no_funct3 : funct3 ≡ 0 = is_same funct3 0 t in
      let found : operation_with imm_code imm_ops (code 0x1B funct3 0) ≡ Some Addiw = rw no_funct3 in
      one_answer w (Imm Addiw rd rs1 (immediate_in w))
      (read_at 0x1B o ∙ first _ _ _ t ∙ ap (λ n. Some (Imm Addiw rd rs1 (signed_bits 12 n))) (sym (immediate_part w)))
      (imm_word w small Addiw 0x1B o (operation_has_code imm_code imm_ops 0x1B funct3 0 Addiw found))
      (imm_listed Addiw (fitting_in imm_code imm_ops w 0x1B funct3 0 o Addiw found))

  word_shift_answers : part w 0 7 ≡ 0x1B → funct3 == 0 ≡ false → Answers w (word_shift_of w)
  word_shift_answers o t =
      table_answer shift_code shift_ops (λ op. Shift op rd rs1 rs2) w 0x1B funct3 funct7
      (read_at 0x1B o ∙ second _ _ _ t)
      (λ op c. word_shift_word w small op o c)
      (λ op s.
      let c : HasCode (shift_code op) 0x1B funct3 funct7 = operation_has_code shift_code shift_ops 0x1B funct3 funct7 op s in
      shift_listed op 5 (fitting_in shift_code shift_ops w 0x1B funct3 funct7 o op s) (word_amount w small op c.same_opcode))

  pub word_shift_or_imm_answers : part w 0 7 ≡ 0x1B → Answers w (word_shift_or_imm_of w)
  word_shift_or_imm_answers o =
      either (Some (Imm Addiw rd rs1 (immediate_in w))) (word_shift_of w) (funct3 == 0) (λ t. addiw_answers o t) (λ t. word_shift_answers o t)

  registers_answers : (opcode : ℕ) → part w 0 7 ≡ opcode → read w ≡ register_of opcode w → Answers w (register_of opcode w)
  registers_answers opcode o r =
      table_answer register_code register_ops (λ op. Reg op rd rs1 rs2) w opcode funct3 funct7
      r
      (λ op c. register_word w small op opcode o c)
      (λ op s. in_left _ (in_left _ (in_right _
      (in_map (λ x. Reg x rd rs1 rs2) (fitting_in register_code register_ops w opcode funct3 funct7 o op s)))))

  pub long_registers_answers : part w 0 7 ≡ 0x33 → Answers w (register_of 0x33 w)
  long_registers_answers o = registers_answers 0x33 o (read_at 0x33 o)

  pub word_registers_answers : part w 0 7 ≡ 0x3B → Answers w (register_of 0x3B w)
  word_registers_answers o = registers_answers 0x3B o (read_at 0x3B o)

  width_bit : (wide : Bool) → funct3 ≡ 2 + bit wide → part w 12 1 == 1 ≡ wide
  width_bit true f = grind (arith, common_steps)
  width_bit false f = grind (arith, common_steps)

  -- an atomic operation whose flags are these bits
  abbrev atomic_flagged : Bool → ℕ → ℕ → AtomicOp → Instr
  atomic_flagged wide aq rl op = Atomic op wide (aq == 1) (rl == 1) rd rs1 rs2

  abbrev atomic_tested : Bool → ℕ → ℕ → ℕ → Option Instr
  atomic_tested wide aq rl n =
      option_and_then (λ op. if is_second op rs2 then Some (atomic_flagged wide aq rl op) else None) (operation_with atomic_code atomic_ops (code 0x2F 2 n))

  -- the flags and the operation stand in funct7
  atomic_parts : (wide : Bool) → atomic_tested wide (funct7 / 2 % 2) (funct7 % 2) (funct7 / 4 * 4) ≡ atomic_with wide w
  atomic_parts wide =
      ap (atomic_tested wide (funct7 / 2 % 2) (funct7 % 2)) (sym (funct5_part w))
      ∙ ap (λ n. atomic_tested wide n (funct7 % 2) (part w 27 5 * 4)) (sym (aq_part w))
      ∙ ap (λ n. atomic_tested wide (part w 26 1) n (part w 27 5 * 4)) (sym (rl_part w))

  atomic_with_answers : (wide : Bool) → part w 0 7 ≡ 0x2F → funct3 ≡ 2 + bit wide
      → read w ≡ atomic_tested wide (funct7 / 2 % 2) (funct7 % 2) (funct7 / 4 * 4) → Answers w (atomic_with wide w)
  atomic_with_answers wide o f r =
      let make = atomic_flagged wide (part w 26 1) (part w 25 1) in
      let operation = part w 27 5 * 4 in
      let found = operation_with atomic_code atomic_ops (code 0x2F 2 operation) in
      answered w (atomic_with wide w)
      (r ∙ atomic_parts wide)
      (tested (λ op. is_second op rs2) make (HasWord w) found
      (λ op s t. atomic_word w small op wide o f (operation_has_code atomic_code atomic_ops 0x2F 2 operation op s) t))
      (tested (λ op. is_second op rs2) make (λ i. In i (candidates w)) found
      (λ op s t. subst (λ b. In (Atomic op b (part w 26 1 == 1) (part w 25 1 == 1) rd rs1 rs2) (candidates w)) (width_bit wide f)
      (in_left _ (in_right _ (in_map (atomic_flagged (part w 12 1 == 1) (part w 26 1) (part w 25 1)) (fitting_in atomic_code atomic_ops w 0x2F 2 operation o op s))))))

  pub atomic_answers : part w 0 7 ≡ 0x2F → Answers w (atomic_of w)
  atomic_answers o =
      either (atomic_with false w) (if funct3 == 3 then atomic_with true w else None) (funct3 == 2)
      (λ t. atomic_with_answers false o (is_same funct3 2 t) (read_at 0x2F o ∙ first _ _ _ t))
      (λ n. either (atomic_with true w) None (funct3 == 3)
      (λ t. atomic_with_answers true o (is_same funct3 3 t) (read_at 0x2F o ∙ second _ _ _ n ∙ first _ _ _ t))
      (λ t. no_answer w (read_at 0x2F o ∙ second _ _ _ n ∙ second _ _ _ t)))

  pub fence_answers : part w 0 7 ≡ 0x0F → Answers w (fence_of w)
  fence_answers o =
      either (Some (Fence rd rs1 (part w 20 12))) None (funct3 == 0)
      (λ t. one_answer w (Fence rd rs1 (part w 20 12))
      (read_at 0x0F o ∙ first _ _ _ t ∙ ap (λ n. Some (Fence rd rs1 n)) (sym (immediate_part w)))
      (fence_word w small o (is_same funct3 0 t))
      (in_right _ (there (there here))))
      (λ t. no_answer w (read_at 0x0F o ∙ second _ _ _ t))

  pub system_answers : part w 0 7 ≡ 0x73 → Answers w (system_of w)
  system_answers o =
      let whole = sum_of_parts w small in
      let rest : ℕ = rd * 2 ^ 7 + funct3 * 2 ^ 12 + rs1 * 2 ^ 15 + rs2 * 2 ^ 20 + funct7 * 2 ^ 25 in
      either (Some Ecall) (if w == 0x100073 then Some Ebreak else None) (w == 0x73)
      (λ t.
      let h : HasWord w Ecall = (refl, sym (is_same w 0x73 t)) in
      one_answer w Ecall (reads w Ecall h) h (in_right _ (there (there (there here)))))
      (λ n. either (Some Ebreak) None (w == 0x100073)
      (λ t.
      let h : HasWord w Ebreak = (refl, sym (is_same w 0x100073 t)) in
      one_answer w Ebreak (reads w Ebreak h) h (in_right _ (there (there (there (there here))))))
      (λ t.
      let not_call : w ≢ 0x73 = is_other w 0x73 n in
      let not_break : w ≢ 0x100073 = is_other w 0x100073 t in
      no_answer w (read_at 0x73 o ∙ second _ _ _ (differ rest 0 (omega arith)) ∙ second _ _ _ (differ rest (2 ^ 20) (omega arith)))))

  -- no instruction has another opcode
  pub none_answers :
      part w 0 7 ≢ 0x37 →
      part w 0 7 ≢ 0x17 →
      part w 0 7 ≢ 0x6F →
      part w 0 7 ≢ 0x67 →
      part w 0 7 ≢ 0x63 →
      part w 0 7 ≢ 0x03 →
      part w 0 7 ≢ 0x23 →
      part w 0 7 ≢ 0x13 →
      part w 0 7 ≢ 0x1B →
      part w 0 7 ≢ 0x33 →
      part w 0 7 ≢ 0x3B →
      part w 0 7 ≢ 0x2F →
      part w 0 7 ≢ 0x0F →
      part w 0 7 ≢ 0x73 → Answers w None
  none_answers n0 n1 n2 n3 n4 n5 n6 n7 n8 n9 n10 n11 n12 n13 =
      no_answer w (
      second _ _ _ (differ (part w 0 7) 0x37 n0)
      ∙ second _ _ _ (differ (part w 0 7) 0x17 n1)
      ∙ second _ _ _ (differ (part w 0 7) 0x6F n2)
      ∙ second _ _ _ (differ (part w 0 7) 0x67 n3)
      ∙ second _ _ _ (differ (part w 0 7) 0x63 n4)
      ∙ second _ _ _ (differ (part w 0 7) 0x03 n5)
      ∙ second _ _ _ (differ (part w 0 7) 0x23 n6)
      ∙ second _ _ _ (differ (part w 0 7) 0x13 n7)
      ∙ second _ _ _ (differ (part w 0 7) 0x1B n8)
      ∙ second _ _ _ (differ (part w 0 7) 0x33 n9)
      ∙ second _ _ _ (differ (part w 0 7) 0x3B n10)
      ∙ second _ _ _ (differ (part w 0 7) 0x2F n11)
      ∙ second _ _ _ (differ (part w 0 7) 0x0F n12)
      ∙ second _ _ _ (differ (part w 0 7) 0x73 n13))

  -- whatever the opcode, there is an exact answer, and it is the table's
  pub table_answers : Answers w (instruction_of w)
  table_answers =
      at 0x37 (λ o. of_table (lui_answers o)) (λ n0.
      at 0x17 (λ o. of_table (auipc_answers o)) (λ n1.
      at 0x6F (λ o. of_table (jal_answers o)) (λ n2.
      at 0x67 (λ o. of_table (jalr_answers o)) (λ n3.
      at 0x63 (λ o. of_table (branch_answers o)) (λ n4.
      at 0x03 (λ o. of_table (load_answers o)) (λ n5.
      at 0x23 (λ o. of_table (store_answers o)) (λ n6.
      at 0x13 (λ o. of_table (shift_or_imm_answers o)) (λ n7.
      at 0x1B (λ o. of_table (word_shift_or_imm_answers o)) (λ n8.
      at 0x33 (λ o. of_table (long_registers_answers o)) (λ n9.
      at 0x3B (λ o. of_table (word_registers_answers o)) (λ n10.
      at 0x2F (λ o. of_table (atomic_answers o)) (λ n11.
      at 0x0F (λ o. of_table (fence_answers o)) (λ n12.
      at 0x73 (λ o. of_table (system_answers o)) (λ n13.
      of_table (none_answers n0 n1 n2 n3 n4 n5 n6 n7 n8 n9 n10 n11 n12 n13)))))))))))))))
    where
      of_table : {found : Option Instr} → Answers w found → Answers w (instruction_of w)
      of_table a = subst (Answers w) a.table a

      at : (opcode : ℕ) → (part w 0 7 ≡ opcode → Answers w (instruction_of w)) → (part w 0 7 ≢ opcode → Answers w (instruction_of w))
          → Answers w (instruction_of w)
      at opcode same other =
          elim (part w 0 7 == opcode) as (λ t. part w 0 7 == opcode ≡ t → Answers w (instruction_of w)) [
            | true ↦ λ t. same (is_same (part w 0 7) opcode t)
            | false ↦ λ t. other (is_other (part w 0 7) opcode t)
          ] refl

is_decoded : (w : ℕ) (found : Option Instr) → IsInstructionOf w found → IsDecoded w found
is_decoded w (Some i) e = (e i).0 refl
is_decoded w None e = λ i r same. let none : None ≡ Some i = (e i).1 (r, same) in cc

-- what is promised of what is equal to an answer
pub promised : (w : ℕ) (found expected : Option Instr) → found ≡ expected → Answers w expected → record { decoded : IsDecoded w found; only : IsInstructionOf w found; table : found ≡ instruction_of w }
promised w found expected e a =
    let same : Answers w found = subst (Answers w) (sym e) a in
    record { decoded = is_decoded w found same.exact; only = same.exact; table = same.table }

-- the word of an instruction has that instruction in the table
pub instruction_of-word : (w : ℕ) (i : Instr) → w < 2 ^ 32 → HasWord w i → instruction_of w ≡ Some i
instruction_of-word w i small h = ((table_answers w small).exact i).1 h
