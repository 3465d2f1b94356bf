-- What is found in a word has that word, form by form.
use Rattle.std.proofs.Common.{◌≡◌, ℕ, ◌+◌, ◌*◌, ◌^◌, ◌<◌, Bool, refl, arith}
use Rattle.std.specs.Prelude.{IsTrue, ◌==◌, nat_lt}
use Rattle.std.proofs.lemmas.Grind.{common_steps}
use Rattle.rv_decode.specs.declared.Instr.TheVariants.{Upper, Jal, Jalr, Branch, Load, Store, Imm, Shift, Reg, Atomic, Fence}
use Rattle.rv_decode.specs.declared.UpperOp.{UpperOp}
use Rattle.rv_decode.specs.declared.BranchOp.{BranchOp}
use Rattle.rv_decode.specs.declared.LoadOp.{LoadOp}
use Rattle.rv_decode.specs.declared.StoreOp.{StoreOp}
use Rattle.rv_decode.specs.declared.ImmOp.{ImmOp}
use Rattle.rv_decode.specs.declared.ShiftOp.{ShiftOp}
use Rattle.rv_decode.specs.declared.ShiftOp.TheVariants.{Slli, Srli, Srai, Slliw, Srliw, Sraiw}
use Rattle.rv_decode.specs.declared.RegOp.{RegOp}
use Rattle.rv_decode.specs.declared.AtomicOp.{AtomicOp}
use Rattle.rv_decode.specs.Fields.{part, twos_complement, is_signed, is_even}
use Rattle.rv_decode.specs.Table.{upper_code, branch_code, load_code, store_code, imm_code, shift_code, register_code, atomic_code}
use Rattle.rv_decode.specs.Instructions.{HasWord, is_second, immediate_in, store_in, branch_in, jump_in, amount_bits, flag_field}
use Rattle.rv_decode.proofs.Codes.{HasCode, FitsOpcode, upper_fits}
use Rattle.rv_decode.proofs.Split.{sum_of_parts, upper_part}
use Rattle.rv_decode.proofs.Signs.{is_even_signed, is_signed_signed, twos_signed}
use Rattle.rv_decode.proofs.Reading.{bit, flag_field-bit}

module _ (w : ℕ) (small : w < 2 ^ 32) where
  pub upper_word : (op : UpperOp) → (upper_code op).opcode ≡ part w 0 7 → HasWord w (Upper op (part w 7 5) (part w 12 20))
  upper_word op o =
      let c : FitsOpcode (upper_code op) = upper_fits op in
      let whole = sum_of_parts w small in
      let joined = upper_part w in
      (grind (arith, common_steps), omega arith)

  pub jal_word : part w 0 7 ≡ 0x6F → HasWord w (Jal (part w 7 5) (jump_in w))
  jal_word o =
      let n : ℕ = part w 21 10 * 2 + part w 20 1 * 2 ^ 11 + part w 12 8 * 2 ^ 12 + part w 31 1 * 2 ^ 20 in
      let below : n < 2 ^ 21 = omega arith in
      let bits : twos_complement 21 (jump_in w) ≡ n = twos_signed 21 refl n below in
      let in_range : IsTrue (is_signed 21 (jump_in w)) = is_signed_signed 21 refl n below in
      let even : IsTrue (is_even (jump_in w)) = is_even_signed 21 refl n below (omega arith) in
      let whole = sum_of_parts w small in
      (grind (arith, common_steps), omega arith)

  pub jalr_word : part w 0 7 ≡ 0x67 → part w 12 3 ≡ 0 → HasWord w (Jalr (part w 7 5) (part w 15 5) (immediate_in w))
  jalr_word o f =
      let below : part w 20 12 < 2 ^ 12 = omega arith in
      let bits : twos_complement 12 (immediate_in w) ≡ part w 20 12 = twos_signed 12 refl (part w 20 12) below in
      let in_range : IsTrue (is_signed 12 (immediate_in w)) = is_signed_signed 12 refl (part w 20 12) below in
      let whole = sum_of_parts w small in
      (grind (arith, common_steps), omega arith)

  pub branch_word : (op : BranchOp) → part w 0 7 ≡ 0x63 → HasCode (branch_code op) 0x63 (part w 12 3) 0
      → HasWord w (Branch op (part w 15 5) (part w 20 5) (branch_in w))
  branch_word op o c =
      let n : ℕ = part w 8 4 * 2 + part w 25 6 * 2 ^ 5 + part w 7 1 * 2 ^ 11 + part w 31 1 * 2 ^ 12 in
      let below : n < 2 ^ 13 = omega arith in
      let bits : twos_complement 13 (branch_in w) ≡ n = twos_signed 13 refl n below in
      let in_range : IsTrue (is_signed 13 (branch_in w)) = is_signed_signed 13 refl n below in
      let even : IsTrue (is_even (branch_in w)) = is_even_signed 13 refl n below (omega arith) in
      let whole = sum_of_parts w small in
      (grind (arith, common_steps), omega arith)

  pub load_word : (op : LoadOp) → part w 0 7 ≡ 0x03 → HasCode (load_code op) 0x03 (part w 12 3) 0
      → HasWord w (Load op (part w 7 5) (part w 15 5) (immediate_in w))
  load_word op o c =
      let below : part w 20 12 < 2 ^ 12 = omega arith in
      let bits : twos_complement 12 (immediate_in w) ≡ part w 20 12 = twos_signed 12 refl (part w 20 12) below in
      let in_range : IsTrue (is_signed 12 (immediate_in w)) = is_signed_signed 12 refl (part w 20 12) below in
      let whole = sum_of_parts w small in
      (grind (arith, common_steps), omega arith)

  pub store_word : (op : StoreOp) → part w 0 7 ≡ 0x23 → HasCode (store_code op) 0x23 (part w 12 3) 0
      → HasWord w (Store op (part w 15 5) (part w 20 5) (store_in w))
  store_word op o c =
      let n : ℕ = part w 7 5 + part w 25 7 * 2 ^ 5 in
      let below : n < 2 ^ 12 = omega arith in
      let bits : twos_complement 12 (store_in w) ≡ n = twos_signed 12 refl n below in
      let in_range : IsTrue (is_signed 12 (store_in w)) = is_signed_signed 12 refl n below in
      let whole = sum_of_parts w small in
      (grind (arith, common_steps), omega arith)

  pub imm_word : (op : ImmOp) (opcode : ℕ) → part w 0 7 ≡ opcode → HasCode (imm_code op) opcode (part w 12 3) 0
      → HasWord w (Imm op (part w 7 5) (part w 15 5) (immediate_in w))
  imm_word op opcode o c =
      let below : part w 20 12 < 2 ^ 12 = omega arith in
      let bits : twos_complement 12 (immediate_in w) ≡ part w 20 12 = twos_signed 12 refl (part w 20 12) below in
      let in_range : IsTrue (is_signed 12 (immediate_in w)) = is_signed_signed 12 refl (part w 20 12) below in
      let whole = sum_of_parts w small in
      (grind (arith, common_steps), omega arith)

  pub register_word : (op : RegOp) (opcode : ℕ) → part w 0 7 ≡ opcode → HasCode (register_code op) opcode (part w 12 3) (part w 25 7)
      → HasWord w (Reg op (part w 7 5) (part w 15 5) (part w 20 5))
  register_word op opcode o c =
      let whole = sum_of_parts w small in
      (grind (arith, common_steps), omega arith)

  pub fence_word : part w 0 7 ≡ 0x0F → part w 12 3 ≡ 0 → HasWord w (Fence (part w 7 5) (part w 15 5) (part w 20 12))
  fence_word o f =
      let whole = sum_of_parts w small in
      (grind (arith, common_steps), omega arith)

  pub long_amount : (op : ShiftOp) → (shift_code op).opcode ≡ 0x13 → amount_bits op ≡ 6
  long_amount Slli e = refl
  long_amount Srli e = refl
  long_amount Srai e = refl
  long_amount _ e = absurd (omega (arith, e))

  pub long_shift_word : (op : ShiftOp) → part w 0 7 ≡ 0x13 → HasCode (shift_code op) 0x13 (part w 12 3) (part w 26 6 * 2)
      → HasWord w (Shift op (part w 7 5) (part w 15 5) (part w 20 6))
  long_shift_word op o c =
      let six : amount_bits op ≡ 6 = long_amount op c.same_opcode in
      let below : IsTrue (nat_lt (part w 20 6) (2 ^ amount_bits op)) = rw six (grind (arith, common_steps)) in
      let whole = sum_of_parts w small in
      (grind (arith, common_steps), omega arith)

  pub word_amount : (op : ShiftOp) → (shift_code op).opcode ≡ 0x1B → amount_bits op ≡ 5
  word_amount Slliw e = refl
  word_amount Srliw e = refl
  word_amount Sraiw e = refl
  word_amount _ e = absurd (omega (arith, e))

  pub word_shift_word : (op : ShiftOp) → part w 0 7 ≡ 0x1B → HasCode (shift_code op) 0x1B (part w 12 3) (part w 25 7)
      → HasWord w (Shift op (part w 7 5) (part w 15 5) (part w 20 5))
  word_shift_word op o c =
      let five : amount_bits op ≡ 5 = word_amount op c.same_opcode in
      let below : IsTrue (nat_lt (part w 20 5) (2 ^ amount_bits op)) = rw five (grind (arith, common_steps)) in
      let whole = sum_of_parts w small in
      (grind (arith, common_steps), omega arith)

  flag_field-test : (n shift : ℕ) → n < 2 → flag_field (n == 1) shift ≡ n * 2 ^ shift
  flag_field-test n shift h = grind (arith, common_steps)

  pub atomic_word : (op : AtomicOp) (wide : Bool) → part w 0 7 ≡ 0x2F → part w 12 3 ≡ 2 + bit wide → HasCode (atomic_code op) 0x2F 2 (part w 27 5 * 4)
      → IsTrue (is_second op (part w 20 5))
      → HasWord w (Atomic op wide (part w 26 1 == 1) (part w 25 1 == 1) (part w 7 5) (part w 15 5) (part w 20 5))
  atomic_word op wide o f c second =
      let whole = sum_of_parts w small in
      let wide_is : flag_field wide 12 ≡ bit wide * 2 ^ 12 = flag_field-bit wide 12 in
      let aq_is : flag_field (part w 26 1 == 1) 26 ≡ part w 26 1 * 2 ^ 26 = flag_field-test (part w 26 1) 26 (omega arith) in
      let rl_is : flag_field (part w 25 1 == 1) 25 ≡ part w 25 1 * 2 ^ 25 = flag_field-test (part w 25 1) 25 (omega arith) in
      (grind (arith, common_steps), omega arith)
