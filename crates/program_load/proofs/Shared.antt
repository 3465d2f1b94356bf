-- A fault that each program may have.
use Rattle.std.proofs.Common.{◌≡◌, Option, Some, None, ap}
use Rattle.std.specs.Prelude.{IsSomeAnd}
use Rattle.file_read.specs.declared.fault.FileFault.{FileFault}
use Rattle.file_read.specs.Reading as reading
use Rattle.program_load.specs.declared.fault.Fault.{Fault}
use Rattle.program_load.specs.declared.fault.Fault.TheVariants.{File, Program, Lines, NoLine, ManyPoints, ManyExperiments, Source, Profile}
use Rattle.program_load.specs.Answer.{IsMemoryFault, IsReadFault, shared_fault}

pub is_shared : (fault : Fault) (f : FileFault) → shared_fault fault ≡ Some f → fault ≡ File f
is_shared (File g) f is = let same : g ≡ f = cc in ap (λ (x : FileFault). File x) same
is_shared (Program fault) f is = let no : ⊥ = cc in absurd no
is_shared (Lines fault) f is = let no : ⊥ = cc in absurd no
is_shared (NoLine piece) f is = let no : ⊥ = cc in absurd no
is_shared (ManyPoints count) f is = let no : ⊥ = cc in absurd no
is_shared (ManyExperiments count) f is = let no : ⊥ = cc in absurd no
is_shared (Source fault) f is = let no : ⊥ = cc in absurd no
is_shared (Profile fault) f is = let no : ⊥ = cc in absurd no

-- a failed read is one of a file
pub read_shared : (fault : Fault) → IsReadFault fault → IsSomeAnd (shared_fault fault) reading.IsReadFault
read_shared (File f) is = is
read_shared (Program fault) is = absurd is
read_shared (Lines fault) is = absurd is
read_shared (NoLine piece) is = absurd is
read_shared (ManyPoints count) is = absurd is
read_shared (ManyExperiments count) is = absurd is
read_shared (Source fault) is = absurd is
read_shared (Profile fault) is = absurd is

pub shared_read : (fault : Fault) → IsSomeAnd (shared_fault fault) reading.IsReadFault → IsReadFault fault
shared_read (File f) is = is
shared_read (Program fault) is = absurd is
shared_read (Lines fault) is = absurd is
shared_read (NoLine piece) is = absurd is
shared_read (ManyPoints count) is = absurd is
shared_read (ManyExperiments count) is = absurd is
shared_read (Source fault) is = absurd is
shared_read (Profile fault) is = absurd is

-- a lack of memory is one of a file
pub memory_shared : (fault : Fault) → IsMemoryFault fault → IsSomeAnd (shared_fault fault) reading.IsMemoryFault
memory_shared (File f) is = is
memory_shared (Program fault) is = absurd is
memory_shared (Lines fault) is = absurd is
memory_shared (NoLine piece) is = absurd is
memory_shared (ManyPoints count) is = absurd is
memory_shared (ManyExperiments count) is = absurd is
memory_shared (Source fault) is = absurd is
memory_shared (Profile fault) is = absurd is

pub shared_memory : (fault : Fault) → IsSomeAnd (shared_fault fault) reading.IsMemoryFault → IsMemoryFault fault
shared_memory (File f) is = is
shared_memory (Program fault) is = absurd is
shared_memory (Lines fault) is = absurd is
shared_memory (NoLine piece) is = absurd is
shared_memory (ManyPoints count) is = absurd is
shared_memory (ManyExperiments count) is = absurd is
shared_memory (Source fault) is = absurd is
shared_memory (Profile fault) is = absurd is
