-- The status of a fault, and which is out of memory.
use Rattle.std.proofs.Common.{◌≡◌, ◌≤◌, ℕ, List, refl, sym, ap, subst, arith, ◌⊎◌, inl, inr}
use Rattle.program_load.specs.declared.fault.Fault.{Fault}
use Rattle.file_read.specs.declared.fault.FileFault.TheVariants.{Usage, Read, Write, Long, Memory}
use Rattle.program_load.specs.declared.fault.Fault.TheVariants.{File, Program, Lines, NoLine, ManyPoints, ManyExperiments, Source, Profile}
use Rattle.program_load.specs.Answer.{IsMemoryFault, fault_status, fault_verdict}
use Rattle.program_load.specs.Verdict.{Verdict, text_verdict}

-- no fault has the status of a run
pub told_high : (fault : Fault) → 2 ≤ fault_status fault
told_high (File Usage) = omega arith
told_high (Program fault) = omega arith
told_high (Lines fault) = omega arith
told_high (File (Read path)) = omega arith
told_high (File Write) = omega arith
told_high (NoLine piece) = omega arith
told_high (ManyPoints count) = omega arith
told_high (File (Long path)) = omega arith
told_high (ManyExperiments count) = omega arith
told_high (File Memory) = omega arith
told_high (Source fault) = omega arith
told_high (Profile fault) = omega arith

-- a fault is out of memory, or it isn't
memory_or : (fault : Fault) → (fault ≡ File Memory) ⊎ (IsMemoryFault fault → ⊥)
memory_or (File Memory) = inl refl
memory_or (File Usage) = inr (λ no. no)
memory_or (Program fault) = inr (λ no. no)
memory_or (Lines fault) = inr (λ no. no)
memory_or (File (Read path)) = inr (λ no. no)
memory_or (File Write) = inr (λ no. no)
memory_or (NoLine piece) = inr (λ no. no)
memory_or (ManyPoints count) = inr (λ no. no)
memory_or (File (Long path)) = inr (λ no. no)
memory_or (ManyExperiments count) = inr (λ no. no)
memory_or (Source fault) = inr (λ no. no)
memory_or (Profile fault) = inr (λ no. no)

pub memory_is : (fault : Fault) → IsMemoryFault fault → fault ≡ File Memory
memory_is fault memory = elim (memory_or fault) [ inl is ↦ is | inr other ↦ absurd (other memory) ]

pub memory_status : (fault : Fault) → IsMemoryFault fault → fault_status fault ≡ 10
memory_status fault memory = ap fault_status (memory_is fault memory)

never : (fault : Fault) (text : List ℕ) → fault_verdict fault ≡ text_verdict text → ⊥
never fault text is = let e : fault_status fault ≡ 0 = ap (λ (v : Verdict). v.status) is in omega (arith, e, told_high fault)

-- if the verdict is a text, a fault is out of memory
pub is_memory : (fault : Fault) (text : List ℕ) → ((IsMemoryFault fault → ⊥) → fault_verdict fault ≡ text_verdict text) → IsMemoryFault fault
is_memory fault text settled =
    elim (memory_or fault) [ inl is ↦ subst IsMemoryFault (sym is) tt | inr other ↦ absurd (never fault text (settled other)) ]
