-- Every instruction is orderly.
use Rattle.std.proofs.Common.{ℕ, ◌≡◌, Bool, true, false, if◌then◌else◌, ◌*◌, ◌/◌, ◌%◌, ◌==◌, eqb, Option, Some, None, refl, ⊎_elim, get_or-set_other, slice_index, sym, subst, ap, ◌∙◌}
use Rattle.std.proofs.lemmas.Bool.{eqb-false, cases_Bool}
use Rattle.coz_types.specs.declared.ending.TrapCause.{TrapCause}
use Rattle.coz_types.specs.declared.ending.TrapCause.TheVariants.{Misaligned, Access, Break}
use Rattle.rv_decode.specs.declared.Instr.{Instr}
use Rattle.rv_decode.specs.declared.Instr.TheVariants.{Upper, Jal, Jalr, Branch, Load, Store, Imm, Shift, Reg, Atomic, Fence, Ecall, Ebreak}
use Rattle.rv_decode.specs.declared.AtomicOp.{AtomicOp}
use Rattle.rv_decode.specs.declared.AtomicOp.TheVariants.{Lr, Sc}
use Rattle.rv_execute.specs.declared.hart.HartState.{HartState}
use Rattle.rv_execute.specs.declared.hart.Step.TheVariants.{Next, Call, Fault}
use Rattle.rv_alu.specs.Operations.{register_result, immediate_result, shift_result, upper_result, is_taken, stored_result}
use Rattle.guest_memory.specs.Memory.{load, store}
use Rattle.rv_execute.specs.Reservations.{is_reserved}
use Rattle.rv_execute.specs.Execution.{Setting, Executed, with_register, pc_after, address_at, load_size, load_value, store_size, atomic_size, atomic_load_value, value, execute}
use Rattle.rv_execute.specs.Laws.{after_trap}

-- register 0 stays as it was, a call comes of ecall alone, and a trap leaves what `after_trap` says
pub record IsOrderly (h : ℕ) (i : Instr) (s : Setting) (e : Executed) : Type 0 where
  pub zero : slice_index e.setting.hart.registers 0 ≡ slice_index s.hart.registers 0
  pub call : e.step ≡ Call → (i ≡ Ecall) × (e.setting ≡ s)
  pub trap : (cause : TrapCause) → e.step ≡ Fault cause → e.setting ≡ after_trap h i s

-- what holds of both outcomes holds of the one that is picked
on_option : {X : Type 0} (P : Executed → Type 0) (o : Option X) (e : Executed) (f : X → Executed) → P e → ((x : X) → P (f x)) → P (elim o as (λ _. Executed) [ None ↦ e | Some x ↦ f x ])
on_option P None e f none some = none
on_option P (Some x) e f none some = some x

on_bool : (P : Executed → Type 0) (b : Bool) (e f : Executed) → P e → P f → P (if b then e else f)
on_bool P true e f p q = p
on_bool P false e f p q = q

zero-with_register : (rd n : ℕ) (hart : HartState) → slice_index (with_register rd n hart).registers 0 ≡ slice_index hart.registers 0
zero-with_register rd n hart =
    ⊎_elim
    (λ (is : eqb rd 0 ≡ true). rw is refl)
    (λ (isnt : eqb rd 0 ≡ false). rw isnt (get_or-set_other hart.registers rd 0 n 0 (λ (is : 0 ≡ rd). eqb-false rd 0 isnt (sym is))))
    (cases_Bool (eqb rd 0))

next_orderly : (h : ℕ) (i : Instr) (s t : Setting) → slice_index t.hart.registers 0 ≡ slice_index s.hart.registers 0 → IsOrderly h i s (record { setting = t; step = Next })
next_orderly h i s t zero = record { zero = zero; call = λ (is : Next ≡ Call). let no : ⊥ = cc in absurd no; trap = λ (cause : TrapCause) (is : Next ≡ Fault cause). let no : ⊥ = cc in absurd no }

fault_orderly : (h : ℕ) (i : Instr) (s : Setting) (cause : TrapCause) → slice_index (after_trap h i s).hart.registers 0 ≡ slice_index s.hart.registers 0 → IsOrderly h i s (record { setting = after_trap h i s; step = Fault cause })
fault_orderly h i s cause zero = record { zero = zero; call = λ (is : Fault cause ≡ Call). let no : ⊥ = cc in absurd no; trap = λ other is. refl }

atomic_orderly : (h : ℕ) (op : AtomicOp) (wide aq rl : Bool) (rd rs1 rs2 : ℕ) (s : Setting) → IsOrderly h (Atomic op wide aq rl rd rs1 rs2) s (execute h (Atomic op wide aq rl rd rs1 rs2) s)
unfolding execute
atomic_orderly h Lr wide aq rl rd rs1 rs2 s =
    let i : Instr = Atomic Lr wide aq rl rd rs1 rs2 in
    on_bool (IsOrderly h i s) (value s rs1 % atomic_size wide == 0) _ _
    (on_option (IsOrderly h i s) (load s.memory (value s rs1) (atomic_size wide)) _ _ (fault_orderly h i s Access refl)
    (λ n. next_orderly h i s _ (zero-with_register rd (atomic_load_value wide n) s.hart)))
    (fault_orderly h i s Misaligned refl)
atomic_orderly h Sc wide aq rl rd rs1 rs2 s =
    let i : Instr = Atomic Sc wide aq rl rd rs1 rs2 in
    on_bool (IsOrderly h i s) (value s rs1 % atomic_size wide == 0) _ _
    (on_option (IsOrderly h i s) (store (value s rs1) (atomic_size wide) (value s rs2) s.memory) _ _ (fault_orderly h i s Access refl)
    (λ memory. on_bool (IsOrderly h i s) (is_reserved h (value s rs1) s.reservations) _ _ (next_orderly h i s _ (zero-with_register rd 0 s.hart)) (next_orderly h i s _ (zero-with_register rd 1 s.hart))))
    (fault_orderly h i s Misaligned refl)
atomic_orderly h op wide aq rl rd rs1 rs2 s =
    let i : Instr = Atomic op wide aq rl rd rs1 rs2 in
    on_bool (IsOrderly h i s) (value s rs1 % atomic_size wide == 0) _ _
    (on_option (IsOrderly h i s) (load s.memory (value s rs1) (atomic_size wide)) _ _ (fault_orderly h i s Access refl)
    (λ old. on_option (IsOrderly h i s) (store (value s rs1) (atomic_size wide) (stored_result op wide old (value s rs2)) s.memory) _ _ (fault_orderly h i s Access refl)
    (λ memory. next_orderly h i s _ (zero-with_register rd (atomic_load_value wide old) s.hart))))
    (fault_orderly h i s Misaligned refl)

pub orderly : (h : ℕ) (i : Instr) (s : Setting) → IsOrderly h i s (execute h i s)
unfolding execute
orderly h (Upper op rd n) s = next_orderly h (Upper op rd n) s _ (zero-with_register rd (upper_result op n s.hart.pc) s.hart)
orderly h (Jal rd offset) s =
    let i : Instr = Jal rd offset in
    on_bool (IsOrderly h i s) (address_at s.hart.pc offset % 4 == 0) _ _
    (next_orderly h i s _ (zero-with_register rd (pc_after s.hart) s.hart))
    (fault_orderly h i s Misaligned refl)
orderly h (Jalr rd rs1 offset) s =
    let i : Instr = Jalr rd rs1 offset in
    on_bool (IsOrderly h i s) (address_at (value s rs1) offset / 2 * 2 % 4 == 0) _ _
    (next_orderly h i s _ (zero-with_register rd (pc_after s.hart) s.hart))
    (fault_orderly h i s Misaligned refl)
orderly h (Branch op rs1 rs2 offset) s =
    let i : Instr = Branch op rs1 rs2 offset in
    on_bool (IsOrderly h i s) (is_taken op (value s rs1) (value s rs2)) _ _
    (on_bool (IsOrderly h i s) (address_at s.hart.pc offset % 4 == 0) _ _ (next_orderly h i s _ refl) (fault_orderly h i s Misaligned refl))
    (next_orderly h i s _ refl)
orderly h (Load op rd rs1 offset) s =
    let i : Instr = Load op rd rs1 offset in
    on_option (IsOrderly h i s) (load s.memory (address_at (value s rs1) offset) (load_size op)) _ _ (fault_orderly h i s Access refl)
    (λ n. next_orderly h i s _ (zero-with_register rd (load_value op n) s.hart))
orderly h (Store op rs1 rs2 offset) s =
    let i : Instr = Store op rs1 rs2 offset in
    on_option (IsOrderly h i s) (store (address_at (value s rs1) offset) (store_size op) (value s rs2) s.memory) _ _ (fault_orderly h i s Access refl) (λ memory. next_orderly h i s _ refl)
orderly h (Imm op rd rs1 n) s =
    next_orderly h (Imm op rd rs1 n) s _ (zero-with_register rd (immediate_result op (value s rs1) n) s.hart)
orderly h (Shift op rd rs1 amount) s =
    next_orderly h (Shift op rd rs1 amount) s _ (zero-with_register rd (shift_result op (value s rs1) amount) s.hart)
orderly h (Reg op rd rs1 rs2) s =
    next_orderly h (Reg op rd rs1 rs2) s _ (zero-with_register rd (register_result op (value s rs1) (value s rs2)) s.hart)
orderly h (Atomic op wide aq rl rd rs1 rs2) s = atomic_orderly h op wide aq rl rd rs1 rs2 s
orderly h (Fence rd rs1 bits) s = next_orderly h (Fence rd rs1 bits) s _ refl
orderly h Ecall s = record { zero = refl; call = λ is. (refl, refl); trap = λ (cause : TrapCause) (is : Call ≡ Fault cause). let no : ⊥ = cc in absurd no }
orderly h Ebreak s = fault_orderly h Ebreak s Break refl

-- what the definition gives is orderly
pub orderly_as : {h : ℕ} {i : Instr} {s : Setting} (e : Executed) → e ≡ execute h i s → IsOrderly h i s e
orderly_as {h} {i} {s} e is = subst (IsOrderly h i s) (sym is) (orderly h i s)

call_at_ecall : (h : ℕ) (i : Instr) (s : Setting) → i ≡ Ecall → (execute h i s).step ≡ Call
unfolding execute
call_at_ecall h i s is = rw is refl

pub call_at_ecall_as : (h : ℕ) (i : Instr) (s : Setting) (e : Executed) → e ≡ execute h i s → i ≡ Ecall → e.step ≡ Call
call_at_ecall_as h i s e is here = ap (λ (x : Executed). x.step) is ∙ call_at_ecall h i s here
