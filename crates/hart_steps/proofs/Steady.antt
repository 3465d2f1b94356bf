-- Of all instructions only `ecall` is a call, and none changes a memory's image or its layout.
use Rattle.std.proofs.Common.{ℕ, ◌≡◌, ◌%◌, ◌==◌, Bool, cond, Option, Some, None, refl, ap, ◌∙◌, ◌⊎◌, inl, inr, true, false}
use Rattle.std.specs.Int.{bytes_low_first}
use Rattle.coz_types.specs.declared.ending.TrapCause.{TrapCause}
use Rattle.coz_types.specs.declared.ending.TrapCause.TheVariants.{Access, Misaligned, Break}
use Rattle.rv_decode.specs.declared.Instr.{Instr}
use Rattle.rv_decode.specs.declared.Instr.TheVariants.{Upper, Jal, Jalr, Branch, Load, Store, Imm, Shift, Reg, Atomic, Fence, Ecall, Ebreak}
use Rattle.rv_decode.specs.declared.AtomicOp.{AtomicOp}
use Rattle.rv_decode.specs.declared.AtomicOp.TheVariants.{Amoadd, Amoswap, Lr, Sc, Amoxor, Amoor, Amoand, Amomin, Amomax, Amominu, Amomaxu}
use Rattle.rv_alu.specs.Operations.{stored_result, is_taken}
use Rattle.guest_memory.specs.Memory.{MemoryMap, is_writable, load, store, with_number}
use Rattle.guest_memory.proofs.Runs.{same_regions-with_bytes}
use Rattle.rv_execute.specs.declared.hart.Step.TheVariants.{Next, Call, Fault}
use Rattle.rv_execute.specs.Reservations.{is_reserved, with_reservation, without_own}
use Rattle.rv_execute.specs.Execution.{Setting, register, address_at, Executed, execute, next, with_rd, jump, branch, fault, with_pc, with_register, pc_after, load_value, with_store, reserve, store_reserved, exchange, aligned_effect, atomic, atomic_size, atomic_load_value}

pub record Steady (m : MemoryMap) (e : Executed) : Type 0 where
  pub no_call : e.step ≡ Call → ⊥
  pub image : e.setting.memory.image ≡ m.image
  pub layout : e.setting.memory.layout ≡ m.layout

either : {X : Type 0} (P : X → Type 0) (b : Bool) (x y : X) → P x → P y → P (cond b x y)
either P true x y p q = p
either P false x y p q = q

next-steady : (s : Setting) → Steady s.memory (next s)
next-steady s = record { no_call = λ (p : Next ≡ Call). cc; image = refl; layout = refl }

put-steady : (rd n : ℕ) (s : Setting) → Steady s.memory (with_rd rd n s)
put-steady rd n s = record { no_call = λ (p : Next ≡ Call). cc; image = refl; layout = refl }

fault-steady : (cause : TrapCause) (s : Setting) → Steady s.memory (fault s cause)
fault-steady cause s = record { no_call = λ (p : Fault cause ≡ Call). cc; image = refl; layout = refl }

jump-steady : (rd target : ℕ) (s : Setting) → Steady s.memory (jump rd target s)
jump-steady rd target s =
    let jumped : Executed = record { setting = record s { hart = with_pc target (with_register rd (pc_after s.hart) s.hart) }; step = Next } in
    either (Steady s.memory) (target % 4 == 0) jumped (fault s Misaligned)
    (record { no_call = λ (p : Next ≡ Call). cc; image = refl; layout = refl }) (fault-steady Misaligned s)

branch-steady : (taken : Bool) (target : ℕ) (s : Setting) → Steady s.memory (branch taken target s)
branch-steady taken target s = either (Steady s.memory) taken (jump 0 target s) (next s) (jump-steady 0 target s) (next-steady s)

loaded-steady : (rd : ℕ) (f : ℕ → ℕ) (o : Option ℕ) (s : Setting) → Steady s.memory (elim o [ None ↦ fault s Access | Some n ↦ with_rd rd (f n) s ])
loaded-steady rd f None s = fault-steady Access s
loaded-steady rd f (Some n) s = put-steady rd (f n) s

-- a memory after a store, if there is one, keeps the regions
abbrev Keeps : MemoryMap → Option MemoryMap → Type 0
Keeps m None = Unit {0}
Keeps m (Some after) = (after.image ≡ m.image) × (after.layout ≡ m.layout)

store-keeps : (m : MemoryMap) (a size v : ℕ) → Keeps m (store a size v m)
store-keeps m a size v = either (Keeps m) (is_writable m a size) (Some (with_number a size v m)) None (same_regions-with_bytes m a (bytes_low_first 0 size v)) tt

stored-steady : (a size : ℕ) (o : Option MemoryMap) (s : Setting) → Keeps s.memory o → Steady s.memory (elim o [ None ↦ fault s Access | Some memory ↦ next (with_store a size memory s) ])
stored-steady a size None s k = fault-steady Access s
stored-steady a size (Some m) s k = record { no_call = λ (p : Next ≡ Call). cc; image = k.0; layout = k.1 }

put_stored-steady : (rd n a size : ℕ) (m : MemoryMap) (s : Setting) → Keeps s.memory (Some m) → Steady s.memory (with_rd rd n (with_store a size m s))
put_stored-steady rd n a size m s k = record { no_call = λ (p : Next ≡ Call). cc; image = k.0; layout = k.1 }

reserved-steady : (reserved : Bool) (rd a size : ℕ) (o : Option MemoryMap) (s : Setting) → Keeps s.memory o
    → Steady s.memory (elim o [ None ↦ fault s Access | Some memory ↦ cond reserved (with_rd rd 0 (with_store a size memory s)) (with_rd rd 1 s) ])
reserved-steady reserved rd a size None s k = fault-steady Access s
reserved-steady reserved rd a size (Some m) s k =
    either (Steady s.memory) reserved (with_rd rd 0 (with_store a size m s)) (with_rd rd 1 s) (put_stored-steady rd 0 a size m s k) (put-steady rd 1 s)

exchanged-steady : (rd n a size : ℕ) (o : Option MemoryMap) (s : Setting) → Keeps s.memory o
    → Steady s.memory (elim o [ None ↦ fault s Access | Some memory ↦ with_rd rd n (with_store a size memory s) ])
exchanged-steady rd n a size None s k = fault-steady Access s
exchanged-steady rd n a size (Some m) s k = put_stored-steady rd n a size m s k

reserve-steady : (h : ℕ) (wide : Bool) (rd a : ℕ) (o : Option ℕ) (s : Setting)
    → Steady s.memory (elim o [ None ↦ fault s Access | Some n ↦ with_rd rd (atomic_load_value wide n) (record s { reservations = with_reservation h a s.reservations }) ])
reserve-steady h wide rd a None s = fault-steady Access s
reserve-steady h wide rd a (Some n) s = record { no_call = λ (p : Next ≡ Call). cc; image = refl; layout = refl }

exchange-steady : (op : AtomicOp) (wide : Bool) (rd a n : ℕ) (o : Option ℕ) (s : Setting)
    → Steady s.memory (elim o [
      | None ↦ fault s Access
      | Some old ↦ elim (store a (atomic_size wide) (stored_result op wide old n) s.memory) [
        | None ↦ fault s Access
        | Some memory ↦ with_rd rd (atomic_load_value wide old) (with_store a (atomic_size wide) memory s)
      ]
    ])
exchange-steady op wide rd a n None s = fault-steady Access s
exchange-steady op wide rd a n (Some old) s =
    exchanged-steady rd (atomic_load_value wide old) a (atomic_size wide) (store a (atomic_size wide) (stored_result op wide old n) s.memory) s (store-keeps s.memory a (atomic_size wide) (stored_result op wide old n))

swapped-steady : (op : AtomicOp) (wide : Bool) (rd a n : ℕ) (s : Setting) → Steady s.memory (aligned_effect a wide (exchange op wide rd a n) s)
swapped-steady op wide rd a n s =
    either (Steady s.memory) (a % atomic_size wide == 0) (exchange op wide rd a n s) (fault s Misaligned)
    (exchange-steady op wide rd a n (load s.memory a (atomic_size wide)) s) (fault-steady Misaligned s)

abbrev freed : ℕ → Setting → Setting
freed h s = record s { reservations = without_own h s.reservations }

atomic-steady : (h : ℕ) (op : AtomicOp) (wide : Bool) (rd a n : ℕ) (s : Setting) → Steady s.memory (atomic h op wide rd a n s)
atomic-steady h Lr wide rd a n s =
    either (Steady s.memory) (a % atomic_size wide == 0) (reserve h wide rd a s) (fault s Misaligned)
    (reserve-steady h wide rd a (load s.memory a (atomic_size wide)) s) (fault-steady Misaligned s)
atomic-steady h Sc wide rd a n s =
    either (Steady s.memory) (a % atomic_size wide == 0) (store_reserved (is_reserved h a s.reservations) wide rd a n (freed h s)) (fault (freed h s) Misaligned)
    (reserved-steady (is_reserved h a s.reservations) rd a (atomic_size wide) (store a (atomic_size wide) n s.memory) (freed h s) (store-keeps s.memory a (atomic_size wide) n))
    (fault-steady Misaligned (freed h s))
atomic-steady h Amoadd wide rd a n s = swapped-steady Amoadd wide rd a n s
atomic-steady h Amoswap wide rd a n s = swapped-steady Amoswap wide rd a n s
atomic-steady h Amoxor wide rd a n s = swapped-steady Amoxor wide rd a n s
atomic-steady h Amoor wide rd a n s = swapped-steady Amoor wide rd a n s
atomic-steady h Amoand wide rd a n s = swapped-steady Amoand wide rd a n s
atomic-steady h Amomin wide rd a n s = swapped-steady Amomin wide rd a n s
atomic-steady h Amomax wide rd a n s = swapped-steady Amomax wide rd a n s
atomic-steady h Amominu wide rd a n s = swapped-steady Amominu wide rd a n s
atomic-steady h Amomaxu wide rd a n s = swapped-steady Amomaxu wide rd a n s

-- an instruction is steady, or it is `ecall`
pub execute-steady : (h : ℕ) (i : Instr) (s : Setting) → Steady s.memory (execute h i s) ⊎ (i ≡ Ecall)
unfolding execute
execute-steady h (Upper op rd n) s = inl (put-steady rd _ s)
execute-steady h (Jal rd offset) s = inl (jump-steady rd _ s)
execute-steady h (Jalr rd rs1 offset) s = inl (jump-steady rd _ s)
execute-steady h (Branch op rs1 rs2 offset) s = inl (branch-steady (is_taken op (register s.hart rs1) (register s.hart rs2)) (address_at s.hart.pc offset) s)
execute-steady h (Load op rd rs1 offset) s = inl (loaded-steady rd (load_value op) _ s)
execute-steady h (Store op rs1 rs2 offset) s = inl (stored-steady _ _ _ s (store-keeps s.memory _ _ _))
execute-steady h (Imm op rd rs1 n) s = inl (put-steady rd _ s)
execute-steady h (Shift op rd rs1 amount) s = inl (put-steady rd _ s)
execute-steady h (Reg op rd rs1 rs2) s = inl (put-steady rd _ s)
execute-steady h (Atomic op wide aq rl rd rs1 rs2) s = inl (atomic-steady h op wide rd _ _ s)
execute-steady h (Fence rd rs1 bits) s = inl (next-steady s)
execute-steady h Ecall s = inr refl
execute-steady h Ebreak s = inl (fault-steady Break s)

pub ecall-unchanged : (h : ℕ) (s : Setting) → (execute h Ecall s).setting ≡ s
unfolding execute
ecall-unchanged h s = refl

pub only_ecall : (h : ℕ) (i : Instr) (s : Setting) → (execute h i s).step ≡ Call → i ≡ Ecall
only_ecall h i s p =
    elim (execute-steady h i s) [ inl steady ↦ absurd (steady.no_call p) | inr e ↦ e ]

-- the image and the layout after an instruction are those before it
pub regions-kept : (h : ℕ) (i : Instr) (s : Setting) → ((execute h i s).setting.memory.image ≡ s.memory.image) × ((execute h i s).setting.memory.layout ≡ s.memory.layout)
regions-kept h i s =
    elim (execute-steady h i s) [
      | inl steady ↦ (steady.image, steady.layout)
      | inr e ↦
          let same : (execute h i s).setting ≡ s = ap (λ (x : Instr). (execute h x s).setting) e ∙ ecall-unchanged h s in
          (ap (λ (x : Setting). x.memory.image) same, ap (λ (x : Setting). x.memory.layout) same)
    ]
