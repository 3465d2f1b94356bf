-- An instruction has the same effect if the memory has another image.
use Rattle.std.proofs.Common.{◌≡◌, ℕ, ◌/◌, ◌*◌, ◌%◌, ◌==◌, Bool, true, false, Option, Some, None, option_map, if◌then◌else◌, refl, ap, ◌∙◌}
use Rattle.coz_types.specs.Image.{ImageParts}
use Rattle.coz_types.specs.declared.ending.TrapCause.TheVariants.{Access, Misaligned}
use Rattle.rv_execute.specs.declared.hart.Step.TheVariants.{Next}
use Rattle.rv_decode.specs.declared.Instr.{Instr}
use Rattle.rv_decode.specs.declared.Instr.TheVariants.{Upper, Jal, Jalr, Branch, Load, Store, Imm, Shift, Reg, Atomic, Fence, Ecall, Ebreak}
use Rattle.rv_decode.specs.declared.LoadOp.{LoadOp}
use Rattle.rv_decode.specs.declared.AtomicOp.{AtomicOp}
use Rattle.rv_decode.specs.declared.AtomicOp.TheVariants.{Lr, Sc, Amoadd, Amoswap, Amoxor, Amoor, Amoand, Amomin, Amomax, Amominu, Amomaxu}
use Rattle.rv_alu.specs.Operations.{is_taken, stored_result}
use Rattle.guest_memory.specs.Memory.{MemoryMap, load, store}
use Rattle.rv_execute.specs.Reservations.{is_reserved, with_reservation, without_own}
use Rattle.rv_execute.specs.Execution.{Setting, Executed, address_at, aligned_effect, atomic, atomic_load_value, atomic_size, branch, exchange, execute, fault, jump, load_size, load_to, load_value, next, pc_after, reserve, store_at, store_reserved, store_size, value, with_pc, with_rd, with_register, with_store}
use Rattle.function_runs.proofs.Memory.{moved, same_load, moved_store}

module _ (image : ImageParts) where
  -- the setting with the image
  abbrev pub moved_setting : Setting → Setting
  moved_setting s = record s { memory = moved image s.memory }

  abbrev pub moved_after : Executed → Executed
  moved_after e = record e { setting = moved_setting e.setting }

  by_test : (t : Bool) (x y : Executed) → (if t then moved_after x else moved_after y) ≡ moved_after (if t then x else y)
  by_test true x y = refl
  by_test false x y = refl

  abbrev jumped : ℕ → ℕ → Setting → Executed
  jumped rd target s = record {
    setting = record s { hart = with_pc target (with_register rd (pc_after s.hart) s.hart) };
    step = Next;
  }

  jumps : (rd target : ℕ) (s : Setting) → jump rd target (moved_setting s) ≡ moved_after (jump rd target s)
  jumps rd target s = by_test (target % 4 == 0) (jumped rd target s) (fault s Misaligned)

  branches : (taken : Bool) (target : ℕ) (s : Setting) → branch taken target (moved_setting s) ≡ moved_after (branch taken target s)
  branches true target s = jumps 0 target s
  branches false target s = refl

  loads : (op : LoadOp) (rd address : ℕ) (s : Setting) → load_to op rd address (moved_setting s) ≡ moved_after (load_to op rd address s)
  loads op rd address s =
      ap (λ (o : Option ℕ). elim o as (λ _. Executed) [ None ↦ fault (moved_setting s) Access | Some n ↦ with_rd rd (load_value op n) (moved_setting s) ]) (same_load image s.memory address (load_size op))
      ∙ by (load s.memory address (load_size op))
    where
      by : (o : Option ℕ) → (elim o as (λ _. Executed) [ None ↦ fault (moved_setting s) Access | Some n ↦ with_rd rd (load_value op n) (moved_setting s) ]) ≡ moved_after (elim o as (λ _. Executed) [ None ↦ fault s Access | Some n ↦ with_rd rd (load_value op n) s ])
      by None = refl
      by (Some n) = refl

  stores : (address size n : ℕ) (s : Setting) → store_at address size n (moved_setting s) ≡ moved_after (store_at address size n s)
  stores address size n s =
      ap (λ (o : Option MemoryMap). elim o as (λ _. Executed) [ None ↦ fault (moved_setting s) Access | Some m ↦ next (with_store address size m (moved_setting s)) ]) (moved_store image address size n s.memory)
      ∙ by (store address size n s.memory)
    where
      by : (o : Option MemoryMap) → (elim (option_map (moved image) o) as (λ _. Executed) [ None ↦ fault (moved_setting s) Access | Some m ↦ next (with_store address size m (moved_setting s)) ]) ≡ moved_after (elim o as (λ _. Executed) [ None ↦ fault s Access | Some m ↦ next (with_store address size m s) ])
      by None = refl
      by (Some m) = refl

  -- ---- atomics

  reserves : (h : ℕ) (wide : Bool) (rd address : ℕ) (s : Setting) → reserve h wide rd address (moved_setting s) ≡ moved_after (reserve h wide rd address s)
  reserves h wide rd address s =
      ap (λ (o : Option ℕ). elim o as (λ _. Executed) [ None ↦ fault (moved_setting s) Access | Some n ↦ with_rd rd (atomic_load_value wide n) (record (moved_setting s) { reservations = with_reservation h address s.reservations }) ]) (same_load image s.memory address (atomic_size wide))
      ∙ by (load s.memory address (atomic_size wide))
    where
      by : (o : Option ℕ) → (elim o as (λ _. Executed) [ None ↦ fault (moved_setting s) Access | Some n ↦ with_rd rd (atomic_load_value wide n) (record (moved_setting s) { reservations = with_reservation h address s.reservations }) ]) ≡ moved_after (elim o as (λ _. Executed) [ None ↦ fault s Access | Some n ↦ with_rd rd (atomic_load_value wide n) (record s { reservations = with_reservation h address s.reservations }) ])
      by None = refl
      by (Some n) = refl

  keeps : (reserved wide : Bool) (rd address n : ℕ) (s : Setting) → store_reserved reserved wide rd address n (moved_setting s) ≡ moved_after (store_reserved reserved wide rd address n s)
  keeps reserved wide rd address n s =
      ap (λ (o : Option MemoryMap). elim o as (λ _. Executed) [ None ↦ fault (moved_setting s) Access | Some m ↦ if reserved then with_rd rd 0 (with_store address (atomic_size wide) m (moved_setting s)) else with_rd rd 1 (moved_setting s) ]) (moved_store image address (atomic_size wide) n s.memory)
      ∙ by reserved (store address (atomic_size wide) n s.memory)
    where
      by : (t : Bool) (o : Option MemoryMap) → (elim (option_map (moved image) o) as (λ _. Executed) [ None ↦ fault (moved_setting s) Access | Some m ↦ if t then with_rd rd 0 (with_store address (atomic_size wide) m (moved_setting s)) else with_rd rd 1 (moved_setting s) ]) ≡ moved_after (elim o as (λ _. Executed) [ None ↦ fault s Access | Some m ↦ if t then with_rd rd 0 (with_store address (atomic_size wide) m s) else with_rd rd 1 s ])
      by t None = refl
      by true (Some m) = refl
      by false (Some m) = refl

  exchanges : (op : AtomicOp) (wide : Bool) (rd address n : ℕ) (s : Setting) → exchange op wide rd address n (moved_setting s) ≡ moved_after (exchange op wide rd address n s)
  exchanges op wide rd address n s =
      ap (λ (o : Option ℕ). elim o as (λ _. Executed) [ None ↦ fault (moved_setting s) Access | Some old ↦ stored_with old (store address (atomic_size wide) (stored_result op wide old n) (moved image s.memory)) ]) (same_load image s.memory address (atomic_size wide))
      ∙ by (load s.memory address (atomic_size wide))
    where
      stored_with : ℕ → Option MemoryMap → Executed
      stored_with old o = elim o as (λ _. Executed) [ None ↦ fault (moved_setting s) Access | Some m ↦ with_rd rd (atomic_load_value wide old) (with_store address (atomic_size wide) m (moved_setting s)) ]

      by_store : (old : ℕ) (o : Option MemoryMap) → stored_with old (option_map (moved image) o) ≡ moved_after (elim o as (λ _. Executed) [ None ↦ fault s Access | Some m ↦ with_rd rd (atomic_load_value wide old) (with_store address (atomic_size wide) m s) ])
      by_store old None = refl
      by_store old (Some m) = refl

      by : (o : Option ℕ) → (elim o as (λ _. Executed) [ None ↦ fault (moved_setting s) Access | Some old ↦ stored_with old (store address (atomic_size wide) (stored_result op wide old n) (moved image s.memory)) ])
          ≡ moved_after (elim o as (λ _. Executed) [ None ↦ fault s Access | Some old ↦ elim (store address (atomic_size wide) (stored_result op wide old n) s.memory) as (λ _. Executed) [ None ↦ fault s Access | Some m ↦ with_rd rd (atomic_load_value wide old) (with_store address (atomic_size wide) m s) ] ])
      by None = refl
      by (Some old) = ap (stored_with old) (moved_store image address (atomic_size wide) (stored_result op wide old n) s.memory) ∙ by_store old (store address (atomic_size wide) (stored_result op wide old n) s.memory)

  aligned : (address : ℕ) (wide : Bool) (effect : Setting → Executed) (s : Setting) → effect (moved_setting s) ≡ moved_after (effect s) → aligned_effect address wide effect (moved_setting s) ≡ moved_after (aligned_effect address wide effect s)
  aligned address wide effect s same =
      ap (λ (x : Executed). if address % atomic_size wide == 0 then x else fault (moved_setting s) Misaligned) same
      ∙ by_test (address % atomic_size wide == 0) (effect s) (fault s Misaligned)

  atomics : (h : ℕ) (op : AtomicOp) (wide : Bool) (rd address n : ℕ) (s : Setting) → atomic h op wide rd address n (moved_setting s) ≡ moved_after (atomic h op wide rd address n s)
  atomics h Lr wide rd address n s = aligned address wide (reserve h wide rd address) s (reserves h wide rd address s)
  atomics h Sc wide rd address n s = aligned address wide (store_reserved (is_reserved h address s.reservations) wide rd address n) (record s { reservations = without_own h s.reservations }) (keeps (is_reserved h address s.reservations) wide rd address n (record s { reservations = without_own h s.reservations }))
  atomics h Amoadd wide rd address n s = aligned address wide (exchange Amoadd wide rd address n) s (exchanges Amoadd wide rd address n s)
  atomics h Amoswap wide rd address n s = aligned address wide (exchange Amoswap wide rd address n) s (exchanges Amoswap wide rd address n s)
  atomics h Amoxor wide rd address n s = aligned address wide (exchange Amoxor wide rd address n) s (exchanges Amoxor wide rd address n s)
  atomics h Amoor wide rd address n s = aligned address wide (exchange Amoor wide rd address n) s (exchanges Amoor wide rd address n s)
  atomics h Amoand wide rd address n s = aligned address wide (exchange Amoand wide rd address n) s (exchanges Amoand wide rd address n s)
  atomics h Amomin wide rd address n s = aligned address wide (exchange Amomin wide rd address n) s (exchanges Amomin wide rd address n s)
  atomics h Amomax wide rd address n s = aligned address wide (exchange Amomax wide rd address n) s (exchanges Amomax wide rd address n s)
  atomics h Amominu wide rd address n s = aligned address wide (exchange Amominu wide rd address n) s (exchanges Amominu wide rd address n s)
  atomics h Amomaxu wide rd address n s = aligned address wide (exchange Amomaxu wide rd address n) s (exchanges Amomaxu wide rd address n s)

  -- ---- all instructions

  pub executes : (h : ℕ) (i : Instr) (s : Setting) → execute h i (moved_setting s) ≡ moved_after (execute h i s)
  unfolding execute
  executes h (Upper op rd n) s = refl
  executes h (Jal rd offset) s = jumps rd (address_at s.hart.pc offset) s
  executes h (Jalr rd rs1 offset) s = jumps rd (address_at (value s rs1) offset / 2 * 2) s
  executes h (Branch op rs1 rs2 offset) s = branches (is_taken op (value s rs1) (value s rs2)) (address_at s.hart.pc offset) s
  executes h (Load op rd rs1 offset) s = loads op rd (address_at (value s rs1) offset) s
  executes h (Store op rs1 rs2 offset) s = stores (address_at (value s rs1) offset) (store_size op) (value s rs2) s
  executes h (Imm op rd rs1 n) s = refl
  executes h (Shift op rd rs1 amount) s = refl
  executes h (Reg op rd rs1 rs2) s = refl
  executes h (Atomic op wide aq rl rd rs1 rs2) s = atomics h op wide rd (value s rs1) (value s rs2) s
  executes h (Fence rd rs1 bits) s = refl
  executes h Ecall s = refl
  executes h Ebreak s = refl
