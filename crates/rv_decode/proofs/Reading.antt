-- What the fields of a word read as, and that the word of an instruction reads as that instruction.
use Rattle.std.proofs.Common.{◌≡◌, ℕ, ◌+◌, ◌*◌, ◌/◌, ◌%◌, ◌^◌, ◌<◌, Bool, true, false, Option, Some, None, refl, ap, subst, arith, ◌∙◌, ℤ, lit<}
use Rattle.std.specs.Prelude.{◌||◌, if◌then◌else◌, IsTrue, ◌==◌}
use Rattle.std.specs.Option.{option_map, option_and_then}
use Rattle.std.proofs.lemmas.Grind.{common_steps}
use Rattle.rv_decode.specs.declared.Instr.{Instr}
use Rattle.rv_decode.specs.declared.Instr.TheVariants.{Upper, Jal, Jalr, Branch, Load, Store, Imm, Shift, Reg, Atomic, Fence, Ecall, Ebreak}
use Rattle.rv_decode.specs.declared.UpperOp.{UpperOp}
use Rattle.rv_decode.specs.declared.UpperOp.TheVariants.{Lui, Auipc}
use Rattle.rv_decode.specs.declared.BranchOp.{BranchOp}
use Rattle.rv_decode.specs.declared.BranchOp.TheVariants.{Beq}
use Rattle.rv_decode.specs.declared.LoadOp.{LoadOp}
use Rattle.rv_decode.specs.declared.LoadOp.TheVariants.{Lb}
use Rattle.rv_decode.specs.declared.StoreOp.{StoreOp}
use Rattle.rv_decode.specs.declared.StoreOp.TheVariants.{Sb}
use Rattle.rv_decode.specs.declared.ImmOp.{ImmOp}
use Rattle.rv_decode.specs.declared.ImmOp.TheVariants.{Addi, Addiw}
use Rattle.rv_decode.specs.declared.ShiftOp.{ShiftOp}
use Rattle.rv_decode.specs.declared.ShiftOp.TheVariants.{Slli, Srli, Srai, Slliw, Srliw, Sraiw}
use Rattle.rv_decode.specs.declared.RegOp.{RegOp}
use Rattle.rv_decode.specs.declared.RegOp.TheVariants.{Add}
use Rattle.rv_decode.specs.declared.AtomicOp.{AtomicOp}
use Rattle.rv_decode.specs.declared.AtomicOp.TheVariants.{Amoadd}
use Rattle.rv_decode.specs.Fields.{part, twos_complement, signed_bits, is_signed, is_even}
use Rattle.rv_decode.specs.Table.{code, operation_with, upper_code, branch_code, load_code, store_code, imm_code, shift_code, register_code, atomic_code, branch_ops, load_ops, store_ops, imm_ops, shift_ops, register_ops, atomic_ops}
use Rattle.rv_decode.specs.Instructions.{HasWord, word_of, is_second, flag_field}
use Rattle.rv_decode.proofs.Codes.{Fits, FitsAlone, FitsOpcode, FitsAtomic, upper_fits, branch_fits, load_fits, store_fits, imm_fits, shift_fits, register_fits, atomic_fits}
use Rattle.rv_decode.proofs.Split.{Splits, splits_sum}
use Rattle.rv_decode.proofs.Signs.{even_twos, signed_twos, twos_below}

abbrev pub atomic_found : Bool → ℕ → ℕ → ℕ → ℕ → Option AtomicOp → Option Instr
atomic_found wide rd rs1 rs2 funct7 found =
    option_and_then
    (λ op. if is_second op rs2 then Some (Atomic op wide (funct7 / 2 % 2 == 1) (funct7 % 2 == 1) rd rs1 rs2) else None)
    found

module _ (rd funct3 rs1 rs2 funct7 : ℕ) where
  -- the immediates
  abbrev pub twelve : ℤ
  twelve = signed_bits 12 (rs2 + funct7 * 2 ^ 5)

  abbrev pub twelve_apart : ℤ
  twelve_apart = signed_bits 12 (rd + funct7 * 2 ^ 5)

  abbrev pub thirteen : ℤ
  thirteen = signed_bits 13 (rd / 2 * 2 + funct7 % 2 ^ 6 * 2 ^ 5 + rd % 2 * 2 ^ 11 + funct7 / 2 ^ 6 * 2 ^ 12)

  abbrev pub twenty_one : ℤ
  twenty_one = signed_bits 21 (rs2 / 2 * 2 + funct7 % 2 ^ 6 * 2 ^ 5 + rs2 % 2 * 2 ^ 11 + funct3 * 2 ^ 12 + rs1 * 2 ^ 15 + funct7 / 2 ^ 6 * 2 ^ 20)

  abbrev pub twenty : ℕ
  twenty = funct3 + rs1 * 2 ^ 3 + rs2 * 2 ^ 8 + funct7 * 2 ^ 13

  abbrev pub jalr_read : Option Instr
  jalr_read = if funct3 == 0 then Some (Jalr rd rs1 twelve) else None

  abbrev pub branch_read : Option Instr
  branch_read = option_map (λ op. Branch op rs1 rs2 thirteen) (operation_with branch_code branch_ops (code 0x63 funct3 0x00))

  abbrev pub load_read : Option Instr
  load_read = option_map (λ op. Load op rd rs1 twelve) (operation_with load_code load_ops (code 0x03 funct3 0x00))

  abbrev pub store_read : Option Instr
  store_read = option_map (λ op. Store op rs1 rs2 twelve_apart) (operation_with store_code store_ops (code 0x23 funct3 0x00))

  abbrev pub immediate_read : Option Instr
  immediate_read =
      if funct3 == 1 || funct3 == 5
      then option_map (λ op. Shift op rd rs1 (rs2 + funct7 % 2 * 2 ^ 5)) (operation_with shift_code shift_ops (code 0x13 funct3 (funct7 / 2 * 2)))
      else option_map (λ op. Imm op rd rs1 twelve) (operation_with imm_code imm_ops (code 0x13 funct3 0x00))

  abbrev pub word_immediate_read : Option Instr
  word_immediate_read =
      if funct3 == 0
      then Some (Imm Addiw rd rs1 twelve)
      else option_map (λ op. Shift op rd rs1 rs2) (operation_with shift_code shift_ops (code 0x1B funct3 funct7))

  abbrev pub register_read : ℕ → Option Instr
  register_read opcode = option_map (λ op. Reg op rd rs1 rs2) (operation_with register_code register_ops (code opcode funct3 funct7))

  abbrev pub atomic_of : Bool → Option Instr
  atomic_of wide = atomic_found wide rd rs1 rs2 funct7 (operation_with atomic_code atomic_ops (code 0x2F 2 (funct7 / 4 * 4)))

  abbrev pub atomic_read : Option Instr
  atomic_read = if funct3 == 2 then atomic_of false else if funct3 == 3 then atomic_of true else None

  abbrev pub fence_read : Option Instr
  fence_read = if funct3 == 0 then Some (Fence rd rs1 (rs2 + funct7 * 2 ^ 5)) else None

  abbrev pub system_read : Option Instr
  system_read =
      let rest = rd * 2 ^ 7 + funct3 * 2 ^ 12 + rs1 * 2 ^ 15 + rs2 * 2 ^ 20 + funct7 * 2 ^ 25 in
      if rest == 0 then Some Ecall else if rest == 2 ^ 20 then Some Ebreak else None

  abbrev pub reading : ℕ → Option Instr
  reading opcode =
      if opcode == 0x37 then Some (Upper Lui rd twenty)
      else if opcode == 0x17 then Some (Upper Auipc rd twenty)
      else if opcode == 0x6F then Some (Jal rd twenty_one)
      else if opcode == 0x67 then jalr_read
      else if opcode == 0x63 then branch_read
      else if opcode == 0x03 then load_read
      else if opcode == 0x23 then store_read
      else if opcode == 0x13 then immediate_read
      else if opcode == 0x1B then word_immediate_read
      else if opcode == 0x33 then register_read 0x33
      else if opcode == 0x3B then register_read 0x3B
      else if opcode == 0x2F then atomic_read
      else if opcode == 0x0F then fence_read
      else if opcode == 0x73 then system_read
      else None

abbrev pub read : ℕ → Option Instr
read w = reading (part w 7 5) (part w 12 3) (part w 15 5) (part w 20 5) (part w 25 7) (part w 0 7)

pub read_split : (w opcode rd funct3 rs1 rs2 funct7 : ℕ) → Splits w opcode rd funct3 rs1 rs2 funct7
    → read w ≡ reading rd funct3 rs1 rs2 funct7 opcode
read_split w o d f s t g p =
    ap (λ x. reading (part w 7 5) (part w 12 3) (part w 15 5) (part w 20 5) (part w 25 7) x) p.opcode_is
    ∙ ap (λ x. reading x (part w 12 3) (part w 15 5) (part w 20 5) (part w 25 7) o) p.rd_is
    ∙ ap (λ x. reading d x (part w 15 5) (part w 20 5) (part w 25 7) o) p.funct3_is
    ∙ ap (λ x. reading d f x (part w 20 5) (part w 25 7) o) p.rs1_is
    ∙ ap (λ x. reading d f s x (part w 25 7) o) p.rs2_is
    ∙ ap (λ x. reading d f s t x o) p.funct7_is

-- the fields of each operation of the table read as that operation
reading_upper : (op : UpperOp) (rd funct3 rs1 rs2 funct7 : ℕ)
    → reading rd funct3 rs1 rs2 funct7 (upper_code op).opcode ≡ Some (Upper op rd (twenty rd funct3 rs1 rs2 funct7))
reading_upper Lui d f s t g = refl
reading_upper _ d f s t g = refl

reading_branch : (op : BranchOp) (rd rs1 rs2 funct7 : ℕ)
    → reading rd (branch_code op).funct3 rs1 rs2 funct7 (branch_code op).opcode ≡ Some (Branch op rs1 rs2 (thirteen rd 0 rs1 rs2 funct7))
reading_branch Beq d s t g = refl
reading_branch _ d s t g = refl

reading_load : (op : LoadOp) (rd rs1 rs2 funct7 : ℕ)
    → reading rd (load_code op).funct3 rs1 rs2 funct7 (load_code op).opcode ≡ Some (Load op rd rs1 (twelve rd 0 rs1 rs2 funct7))
reading_load Lb d s t g = refl
reading_load _ d s t g = refl

reading_store : (op : StoreOp) (rd rs1 rs2 funct7 : ℕ)
    → reading rd (store_code op).funct3 rs1 rs2 funct7 (store_code op).opcode ≡ Some (Store op rs1 rs2 (twelve_apart rd 0 rs1 rs2 funct7))
reading_store Sb d s t g = refl
reading_store _ d s t g = refl

reading_imm : (op : ImmOp) (rd rs1 rs2 funct7 : ℕ)
    → reading rd (imm_code op).funct3 rs1 rs2 funct7 (imm_code op).opcode ≡ Some (Imm op rd rs1 (twelve rd 0 rs1 rs2 funct7))
reading_imm Addi d s t g = refl
reading_imm _ d s t g = refl

reading_register : (op : RegOp) (rd rs1 rs2 : ℕ)
    → reading rd (register_code op).funct3 rs1 rs2 (register_code op).funct7 (register_code op).opcode ≡ Some (Reg op rd rs1 rs2)
reading_register Add d s t = refl
reading_register _ d s t = refl

-- an immediate of 12 bits stands in rs2 and funct7
twelve_joined : (z : ℤ) → IsTrue (is_signed 12 z) → signed_bits 12 (twos_complement 12 z % 2 ^ 5 + twos_complement 12 z / 2 ^ 5 * 2 ^ 5) ≡ z
twelve_joined z h =
    let joined : twos_complement 12 z % 2 ^ 5 + twos_complement 12 z / 2 ^ 5 * 2 ^ 5 ≡ twos_complement 12 z = omega arith in
    ap (signed_bits 12) joined ∙ signed_twos 12 refl z h

reads_immediate : (w opcode rd funct3 rs1 : ℕ) (z : ℤ) (made : ℤ → Instr) → opcode < 2 ^ 7 → rd < 2 ^ 5 → funct3 < 2 ^ 3 → rs1 < 2 ^ 5 → IsTrue (is_signed 12 z)
    → opcode + funct3 * 2 ^ 12 + rd * 2 ^ 7 + rs1 * 2 ^ 15 + twos_complement 12 z * 2 ^ 20 ≡ w
    → reading rd funct3 rs1 (twos_complement 12 z % 2 ^ 5) (twos_complement 12 z / 2 ^ 5) opcode ≡ Some (made (twelve rd 0 rs1 (twos_complement 12 z % 2 ^ 5) (twos_complement 12 z / 2 ^ 5)))
    → read w ≡ Some (made z)
reads_immediate w o d f s z made ho hd hf hs in_range e reads =
    let below : twos_complement 12 z < 2 ^ 12 = twos_below 12 refl z in
    read_split w _ _ _ _ _ _ (splits_sum w o d f s (twos_complement 12 z % 2 ^ 5) (twos_complement 12 z / 2 ^ 5) ho hd hf hs (omega arith) (omega arith) (omega arith))
    ∙ reads
    ∙ ap (λ m. Some (made m)) (twelve_joined z in_range)

reads_jalr : (w rd rs1 : ℕ) (z : ℤ) → HasWord w (Jalr rd rs1 z) → read w ≡ Some (Jalr rd rs1 z)
reads_jalr w d s z h =
    let e : word_of (Jalr d s z) ≡ w = h.1 in
    reads_immediate w 0x67 d 0 s z (Jalr d s) (omega arith) (grind (arith, common_steps)) (omega arith) (grind (arith, common_steps)) (grind (arith, common_steps)) (omega arith) refl

reads_load : (w : ℕ) (op : LoadOp) (rd rs1 : ℕ) (z : ℤ) → HasWord w (Load op rd rs1 z) → read w ≡ Some (Load op rd rs1 z)
reads_load w op d s z h =
    let c : FitsAlone (load_code op) = load_fits op in
    let e : word_of (Load op d s z) ≡ w = h.1 in
    reads_immediate w _ d _ s z (Load op d s) c.opcode_fits (grind (arith, common_steps)) c.funct3_fits (grind (arith, common_steps)) (grind (arith, common_steps)) (omega arith) (reading_load op d s _ _)

reads_imm : (w : ℕ) (op : ImmOp) (rd rs1 : ℕ) (z : ℤ) → HasWord w (Imm op rd rs1 z) → read w ≡ Some (Imm op rd rs1 z)
reads_imm w op d s z h =
    let c : FitsAlone (imm_code op) = imm_fits op in
    let e : word_of (Imm op d s z) ≡ w = h.1 in
    reads_immediate w _ d _ s z (Imm op d s) c.opcode_fits (grind (arith, common_steps)) c.funct3_fits (grind (arith, common_steps)) (grind (arith, common_steps)) (omega arith) (reading_imm op d s _ _)

reads_store : (w : ℕ) (op : StoreOp) (rs1 rs2 : ℕ) (z : ℤ) → HasWord w (Store op rs1 rs2 z) → read w ≡ Some (Store op rs1 rs2 z)
reads_store w op s t z h =
    let c : FitsAlone (store_code op) = store_fits op in
    let rs1_fits : s < 2 ^ 5 = grind (arith, common_steps) in
    let rs2_fits : t < 2 ^ 5 = grind (arith, common_steps) in
    let in_range : IsTrue (is_signed 12 z) = grind (arith, common_steps) in
    let below : twos_complement 12 z < 2 ^ 12 = twos_below 12 refl z in
    let e : word_of (Store op s t z) ≡ w = h.1 in
    read_split w _ _ _ _ _ _ (splits_sum w (store_code op).opcode (twos_complement 12 z % 2 ^ 5) (store_code op).funct3 s t (twos_complement 12 z / 2 ^ 5) c.opcode_fits (omega arith) c.funct3_fits rs1_fits rs2_fits (omega arith) (omega arith))
    ∙ reading_store op _ s t _
    ∙ ap (λ m. Some (Store op s t m)) (twelve_joined z in_range)

reads_register : (w : ℕ) (op : RegOp) (rd rs1 rs2 : ℕ) → HasWord w (Reg op rd rs1 rs2) → read w ≡ Some (Reg op rd rs1 rs2)
reads_register w op d s t h =
    let c : Fits (register_code op) = register_fits op in
    let rd_fits : d < 2 ^ 5 = grind (arith, common_steps) in
    let rs1_fits : s < 2 ^ 5 = grind (arith, common_steps) in
    let rs2_fits : t < 2 ^ 5 = grind (arith, common_steps) in
    let e : word_of (Reg op d s t) ≡ w = h.1 in
    read_split w _ _ _ _ _ _ (splits_sum w _ d _ s t _ c.opcode_fits rd_fits c.funct3_fits rs1_fits rs2_fits c.funct7_fits (omega arith))
    ∙ reading_register op d s t

reads_branch : (w : ℕ) (op : BranchOp) (rs1 rs2 : ℕ) (z : ℤ) → HasWord w (Branch op rs1 rs2 z) → read w ≡ Some (Branch op rs1 rs2 z)
reads_branch w op s t z h =
    let c : FitsAlone (branch_code op) = branch_fits op in
    let rs1_fits : s < 2 ^ 5 = grind (arith, common_steps) in
    let rs2_fits : t < 2 ^ 5 = grind (arith, common_steps) in
    let in_range : IsTrue (is_signed 13 z) = grind (arith, common_steps) in
    let even : IsTrue (is_even z) = grind (arith, common_steps) in
    let below : twos_complement 13 z < 2 ^ 13 = twos_below 13 refl z in
    let no_half : twos_complement 13 z % 2 ≡ 0 = even_twos 13 refl z even in
    let e : word_of (Branch op s t z) ≡ w = h.1 in
    let low : ℕ = part (twos_complement 13 z) 11 1 + part (twos_complement 13 z) 1 4 * 2 in
    let high : ℕ = part (twos_complement 13 z) 5 6 + part (twos_complement 13 z) 12 1 * 2 ^ 6 in
    let joined : low / 2 * 2 + high % 2 ^ 6 * 2 ^ 5 + low % 2 * 2 ^ 11 + high / 2 ^ 6 * 2 ^ 12 ≡ twos_complement 13 z = omega arith in
    read_split w _ _ _ _ _ _ (splits_sum w (branch_code op).opcode low (branch_code op).funct3 s t high c.opcode_fits (omega arith) c.funct3_fits rs1_fits rs2_fits (omega arith) (omega arith))
    ∙ reading_branch op low s t high
    ∙ ap (λ m. Some (Branch op s t m)) (ap (signed_bits 13) joined ∙ signed_twos 13 refl z in_range)

-- 20 bits stand in funct3, rs1, rs2 and funct7
splits_twenty : (w opcode rd n : ℕ) → opcode < 2 ^ 7 → rd < 2 ^ 5 → n < 2 ^ 20 → opcode + rd * 2 ^ 7 + n * 2 ^ 12 ≡ w
    → Splits w opcode rd (part n 0 3) (part n 3 5) (part n 8 5) (part n 13 7)
splits_twenty w o d n ho hd hn e = splits_sum w o d (part n 0 3) (part n 3 5) (part n 8 5) (part n 13 7) ho hd (omega arith) (omega arith) (omega arith) (omega arith) (omega arith)

twenty_joined : (n : ℕ) → n < 2 ^ 20 → part n 0 3 + part n 3 5 * 2 ^ 3 + part n 8 5 * 2 ^ 8 + part n 13 7 * 2 ^ 13 ≡ n
twenty_joined n h = omega arith

reads_upper : (w : ℕ) (op : UpperOp) (rd value : ℕ) → HasWord w (Upper op rd value) → read w ≡ Some (Upper op rd value)
reads_upper w op d n h =
    let c : FitsOpcode (upper_code op) = upper_fits op in
    let rd_fits : d < 2 ^ 5 = grind (arith, common_steps) in
    let below : n < 2 ^ 20 = grind (arith, common_steps) in
    let e : word_of (Upper op d n) ≡ w = h.1 in
    read_split w _ _ _ _ _ _ (splits_twenty w (upper_code op).opcode d n c.opcode_fits rd_fits below (omega arith))
    ∙ reading_upper op d _ _ _ _
    ∙ ap (λ m. Some (Upper op d m)) (twenty_joined n below)

reads_jal : (w rd : ℕ) (z : ℤ) → HasWord w (Jal rd z) → read w ≡ Some (Jal rd z)
reads_jal w d z h =
    let rd_fits : d < 2 ^ 5 = grind (arith, common_steps) in
    let in_range : IsTrue (is_signed 21 z) = grind (arith, common_steps) in
    let even : IsTrue (is_even z) = grind (arith, common_steps) in
    let below : twos_complement 21 z < 2 ^ 21 = twos_below 21 refl z in
    let no_half : twos_complement 21 z % 2 ≡ 0 = even_twos 21 refl z even in
    let e : word_of (Jal d z) ≡ w = h.1 in
    let n : ℕ = part (twos_complement 21 z) 12 8 + part (twos_complement 21 z) 11 1 * 2 ^ 8 + part (twos_complement 21 z) 1 10 * 2 ^ 9 + part (twos_complement 21 z) 20 1 * 2 ^ 19 in
    let joined : part n 8 5 / 2 * 2 + part n 13 7 % 2 ^ 6 * 2 ^ 5 + part n 8 5 % 2 * 2 ^ 11 + part n 0 3 * 2 ^ 12 + part n 3 5 * 2 ^ 15 + part n 13 7 / 2 ^ 6 * 2 ^ 20 ≡ twos_complement 21 z = omega arith in
    read_split w _ _ _ _ _ _ (splits_twenty w 0x6F d n (omega arith) rd_fits (omega arith) (omega arith))
    ∙ ap (λ m. Some (Jal d m)) (ap (signed_bits 21) joined ∙ signed_twos 21 refl z in_range)

-- a shift by up to 63 has the highest bit of its amount in the lowest bit of funct7
reading_long_shift : (op : ShiftOp) (rd rs1 rs2 funct7 : ℕ) → (shift_code op).opcode ≡ 0x13 → funct7 / 2 * 2 ≡ (shift_code op).funct7
    → reading rd (shift_code op).funct3 rs1 rs2 funct7 (shift_code op).opcode ≡ Some (Shift op rd rs1 (rs2 + funct7 % 2 * 2 ^ 5))
reading_long_shift Slli d s t g o e = ap (λ x. option_map (λ op. Shift op d s (t + g % 2 * 2 ^ 5)) (operation_with shift_code shift_ops (code 0x13 1 x))) e
reading_long_shift Srli d s t g o e = ap (λ x. option_map (λ op. Shift op d s (t + g % 2 * 2 ^ 5)) (operation_with shift_code shift_ops (code 0x13 5 x))) e
reading_long_shift Srai d s t g o e = ap (λ x. option_map (λ op. Shift op d s (t + g % 2 * 2 ^ 5)) (operation_with shift_code shift_ops (code 0x13 5 x))) e
reading_long_shift _ d s t g o e = absurd (omega (arith, o))

reads_long_shift : (w : ℕ) (op : ShiftOp) (rd rs1 amount : ℕ) → (shift_code op).opcode ≡ 0x13 → (shift_code op).funct7 % 2 ≡ 0
    → rd < 2 ^ 5 → rs1 < 2 ^ 5 → amount < 2 ^ 6 → word_of (Shift op rd rs1 amount) ≡ w → read w ≡ Some (Shift op rd rs1 amount)
reads_long_shift w op d s n o g hd hs hn e =
    let c : Fits (shift_code op) = shift_fits op in
    let high : ℕ = (shift_code op).funct7 + n / 2 ^ 5 in
    let joined : n % 2 ^ 5 + high % 2 * 2 ^ 5 ≡ n = omega arith in
    read_split w _ _ _ _ _ _ (splits_sum w (shift_code op).opcode d (shift_code op).funct3 s (n % 2 ^ 5) high c.opcode_fits hd c.funct3_fits hs (omega arith) (omega arith) (omega arith))
    ∙ reading_long_shift op d s (n % 2 ^ 5) high o (omega arith)
    ∙ ap (λ m. Some (Shift op d s m)) joined

reads_word_shift : (w : ℕ) (op : ShiftOp) (rd rs1 amount : ℕ)
    → reading rd (shift_code op).funct3 rs1 amount (shift_code op).funct7 (shift_code op).opcode ≡ Some (Shift op rd rs1 amount)
    → rd < 2 ^ 5 → rs1 < 2 ^ 5 → amount < 2 ^ 5 → word_of (Shift op rd rs1 amount) ≡ w → read w ≡ Some (Shift op rd rs1 amount)
reads_word_shift w op d s n r hd hs hn e =
    let c : Fits (shift_code op) = shift_fits op in
    read_split w _ _ _ _ _ _ (splits_sum w _ d _ s n _ c.opcode_fits hd c.funct3_fits hs hn c.funct7_fits (omega arith)) ∙ r

reads_shift : (w : ℕ) (op : ShiftOp) (rd rs1 amount : ℕ) → HasWord w (Shift op rd rs1 amount) → read w ≡ Some (Shift op rd rs1 amount)
reads_shift w Slli d s n h = reads_long_shift w Slli d s n refl refl (grind (arith, common_steps)) (grind (arith, common_steps)) (grind (arith, common_steps)) h.1
reads_shift w Srli d s n h = reads_long_shift w Srli d s n refl refl (grind (arith, common_steps)) (grind (arith, common_steps)) (grind (arith, common_steps)) h.1
reads_shift w Srai d s n h = reads_long_shift w Srai d s n refl refl (grind (arith, common_steps)) (grind (arith, common_steps)) (grind (arith, common_steps)) h.1
reads_shift w Slliw d s n h = reads_word_shift w Slliw d s n refl (grind (arith, common_steps)) (grind (arith, common_steps)) (grind (arith, common_steps)) h.1
reads_shift w Srliw d s n h = reads_word_shift w Srliw d s n refl (grind (arith, common_steps)) (grind (arith, common_steps)) (grind (arith, common_steps)) h.1
reads_shift w Sraiw d s n h = reads_word_shift w Sraiw d s n refl (grind (arith, common_steps)) (grind (arith, common_steps)) (grind (arith, common_steps)) h.1

-- a flag as a number
abbrev pub bit : Bool → ℕ
bit true = 1
bit false = 0

chosen : (b : Bool) (i : Instr) → IsTrue b → (if b then Some i else None) ≡ Some i
chosen b i e = ap (λ c. if c then Some i else None) e

-- funct7 has the operation above the two flags
reading_atomic : (op : AtomicOp) (wide : Bool) (rd rs1 rs2 funct7 : ℕ) → IsTrue (is_second op rs2) → funct7 / 4 * 4 ≡ (atomic_code op).funct7
    → atomic_of rd 2 rs1 rs2 funct7 wide ≡ Some (Atomic op wide (funct7 / 2 % 2 == 1) (funct7 % 2 == 1) rd rs1 rs2)
reading_atomic Amoadd wide d s t g e f =
    ap (λ x. atomic_found wide d s t g (operation_with atomic_code atomic_ops (code 0x2F 2 x))) f
    ∙ chosen (is_second Amoadd t) (Atomic Amoadd wide (g / 2 % 2 == 1) (g % 2 == 1) d s t) e
reading_atomic op wide d s t g e f =
    ap (λ x. atomic_found wide d s t g (operation_with atomic_code atomic_ops (code 0x2F 2 x))) f
    ∙ chosen (is_second op t) (Atomic op wide (g / 2 % 2 == 1) (g % 2 == 1) d s t) e

reading_width : (wide : Bool) (rd rs1 rs2 funct7 : ℕ) → reading rd (2 + bit wide) rs1 rs2 funct7 0x2F ≡ atomic_of rd 2 rs1 rs2 funct7 wide
reading_width true d s t g = refl
reading_width false d s t g = refl

high_flag : (aq rl : Bool) (n : ℕ) → n % 4 ≡ 0 → ((n + bit aq * 2 + bit rl) / 2 % 2 == 1) ≡ aq
high_flag true true n e = grind arith
high_flag true false n e = grind arith
high_flag false true n e = grind arith
high_flag false false n e = grind arith

low_flag : (aq rl : Bool) (n : ℕ) → n % 4 ≡ 0 → ((n + bit aq * 2 + bit rl) % 2 == 1) ≡ rl
low_flag true true n e = grind arith
low_flag true false n e = grind arith
low_flag false true n e = grind arith
low_flag false false n e = grind arith

second_fits : (op : AtomicOp) (r : ℕ) → IsTrue (is_second op r) → r < 2 ^ 5
second_fits Amoadd r e = grind (arith, common_steps)
second_fits _ r e = grind (arith, common_steps)

pub flag_field-bit : (flag : Bool) (shift : ℕ) → flag_field flag shift ≡ bit flag * 2 ^ shift
flag_field-bit true shift = omega arith
flag_field-bit false shift = omega arith

bit_below : (flag : Bool) → bit flag < 2
bit_below true = lit< tt
bit_below false = lit< tt

reads_atomic : (w : ℕ) (op : AtomicOp) (wide aq rl : Bool) (rd rs1 rs2 : ℕ) → HasWord w (Atomic op wide aq rl rd rs1 rs2)
    → read w ≡ Some (Atomic op wide aq rl rd rs1 rs2)
reads_atomic w op wide aq rl d s t h =
    let c : FitsAtomic (atomic_code op) = atomic_fits op in
    let rd_fits : d < 2 ^ 5 = grind (arith, common_steps) in
    let rs1_fits : s < 2 ^ 5 = grind (arith, common_steps) in
    let second : IsTrue (is_second op t) = grind (arith, common_steps) in
    let rs2_fits : t < 2 ^ 5 = second_fits op t second in
    let e : word_of (Atomic op wide aq rl d s t) ≡ w = h.1 in
    let wide_is : flag_field wide 12 ≡ bit wide * 2 ^ 12 = flag_field-bit wide 12 in
    let aq_is : flag_field aq 26 ≡ bit aq * 2 ^ 26 = flag_field-bit aq 26 in
    let rl_is : flag_field rl 25 ≡ bit rl * 2 ^ 25 = flag_field-bit rl 25 in
    let wide_fits : bit wide < 2 = bit_below wide in
    let aq_fits : bit aq < 2 = bit_below aq in
    let rl_fits : bit rl < 2 = bit_below rl in
    let high : ℕ = (atomic_code op).funct7 + bit aq * 2 + bit rl in
    read_split w _ _ _ _ _ _ (splits_sum w 0x2F d (2 + bit wide) s t high (omega arith) rd_fits (omega arith) rs1_fits rs2_fits (omega arith) (omega arith))
    ∙ reading_width wide d s t high
    ∙ reading_atomic op wide d s t high second (omega arith)
    ∙ ap (λ x. Some (Atomic op wide x (high % 2 == 1) d s t)) (high_flag aq rl _ c.no_flags)
    ∙ ap (λ x. Some (Atomic op wide aq x d s t)) (low_flag aq rl _ c.no_flags)

reads_fence : (w rd rs1 bits : ℕ) → HasWord w (Fence rd rs1 bits) → read w ≡ Some (Fence rd rs1 bits)
reads_fence w d s n h =
    let rd_fits : d < 2 ^ 5 = grind (arith, common_steps) in
    let rs1_fits : s < 2 ^ 5 = grind (arith, common_steps) in
    let below : n < 2 ^ 12 = grind (arith, common_steps) in
    let e : word_of (Fence d s n) ≡ w = h.1 in
    let joined : n % 2 ^ 5 + n / 2 ^ 5 * 2 ^ 5 ≡ n = omega arith in
    read_split w _ _ _ _ _ _ (splits_sum w 0x0F d 0 s (n % 2 ^ 5) (n / 2 ^ 5) (omega arith) rd_fits (omega arith) rs1_fits (omega arith) (omega arith) (omega arith))
    ∙ ap (λ m. Some (Fence d s m)) joined

reads_ecall : (w : ℕ) → HasWord w Ecall → read w ≡ Some Ecall
reads_ecall w h = subst (λ w. read w ≡ Some Ecall) h.1 refl

reads_ebreak : (w : ℕ) → HasWord w Ebreak → read w ≡ Some Ebreak
reads_ebreak w h = subst (λ w. read w ≡ Some Ebreak) h.1 refl

-- the word of an instruction reads as that instruction
pub reads : (w : ℕ) (i : Instr) → HasWord w i → read w ≡ Some i
reads w (Upper op rd value) h = reads_upper w op rd value h
reads w (Jal rd offset) h = reads_jal w rd offset h
reads w (Jalr rd rs1 offset) h = reads_jalr w rd rs1 offset h
reads w (Branch op rs1 rs2 offset) h = reads_branch w op rs1 rs2 offset h
reads w (Load op rd rs1 offset) h = reads_load w op rd rs1 offset h
reads w (Store op rs1 rs2 offset) h = reads_store w op rs1 rs2 offset h
reads w (Imm op rd rs1 value) h = reads_imm w op rd rs1 value h
reads w (Shift op rd rs1 amount) h = reads_shift w op rd rs1 amount h
reads w (Reg op rd rs1 rs2) h = reads_register w op rd rs1 rs2 h
reads w (Atomic op wide aq rl rd rs1 rs2) h = reads_atomic w op wide aq rl rd rs1 rs2 h
reads w (Fence rd rs1 bits) h = reads_fence w rd rs1 bits h
reads w Ecall h = reads_ecall w h
reads w Ebreak h = reads_ebreak w h
