-- The fault of a status.
use Rattle.std.proofs.Common.{◌≡◌, ◌≤◌, ◌++◌, ℕ, List, Option, Some, None, codes, refl, arith}
use Rattle.std.specs.Prelude.{IsSomeAnd}
use Rattle.file_read.specs.declared.fault.FileFault.{FileFault}
use Rattle.file_read.specs.declared.fault.FileFault.TheVariants.{Usage, Read, Write, Long, Memory}
use Rattle.file_read.specs.Reading.{IsReadFault, IsMemoryFault}
use Rattle.coz_serve.specs.Faults.{IsFaultOf}

module _ (status : ℕ) (line : List ℕ) where
  pub two_up : (o : Option FileFault) → IsFaultOf o status line → 2 ≤ status
  two_up None is = is.no_text
  two_up (Some Usage) is = omega (arith, is.0)
  two_up (Some (Read path)) is = omega (arith, is.0)
  two_up (Some Write) is = omega (arith, is.0)
  two_up (Some (Long path)) is = omega (arith, is.0)
  two_up (Some Memory) is = omega (arith, is.0)

  pub is_usage : (o : Option FileFault) → IsFaultOf o status line → status ≡ 2 → (o ≡ Some Usage) × (line ≡ codes "usage")
  is_usage None is two = absurd (is.no_usage two)
  is_usage (Some Usage) is two = (refl, is.1)
  is_usage (Some (Read path)) is two = absurd (omega (arith, is.0, two))
  is_usage (Some Write) is two = absurd (omega (arith, is.0, two))
  is_usage (Some (Long path)) is two = absurd (omega (arith, is.0, two))
  is_usage (Some Memory) is two = absurd (omega (arith, is.0, two))

  pub is_write : (o : Option FileFault) → IsFaultOf o status line → status ≡ 6 → o ≡ Some Write
  is_write None is six = absurd (is.no_write six)
  is_write (Some Usage) is six = absurd (omega (arith, is.0, six))
  is_write (Some (Read path)) is six = absurd (omega (arith, is.0, six))
  is_write (Some Write) is six = refl
  is_write (Some (Long path)) is six = absurd (omega (arith, is.0, six))
  is_write (Some Memory) is six = absurd (omega (arith, is.0, six))

  pub memory_line : (o : Option FileFault) → IsFaultOf o status line → status ≡ 10 → line ≡ codes "memory"
  memory_line None is ten = absurd (is.no_memory ten)
  memory_line (Some Usage) is ten = absurd (omega (arith, is.0, ten))
  memory_line (Some (Read path)) is ten = absurd (omega (arith, is.0, ten))
  memory_line (Some Write) is ten = absurd (omega (arith, is.0, ten))
  memory_line (Some (Long path)) is ten = absurd (omega (arith, is.0, ten))
  memory_line (Some Memory) is ten = is.1

  pub is_read : (o : Option FileFault) → IsFaultOf o status line → status ≡ 5 → (path : _) × (o ≡ Some (Read path)) × (line ≡ codes "read: " ++ path.now)
  is_read None is five = absurd (is.no_read five)
  is_read (Some Usage) is five = absurd (omega (arith, is.0, five))
  is_read (Some (Read path)) is five = (path, refl, is.1)
  is_read (Some Write) is five = absurd (omega (arith, is.0, five))
  is_read (Some (Long path)) is five = absurd (omega (arith, is.0, five))
  is_read (Some Memory) is five = absurd (omega (arith, is.0, five))

  -- what a fault is has its status
  pub usage_status : (o : Option FileFault) → IsFaultOf o status line → o ≡ Some Usage → status ≡ 2
  usage_status (Some Usage) is same = is.0
  usage_status None is same = let no : ⊥ = cc in absurd no
  usage_status (Some (Read path)) is same = let no : ⊥ = cc in absurd no
  usage_status (Some Write) is same = let no : ⊥ = cc in absurd no
  usage_status (Some (Long path)) is same = let no : ⊥ = cc in absurd no
  usage_status (Some Memory) is same = let no : ⊥ = cc in absurd no

  pub memory_status : (o : Option FileFault) → IsFaultOf o status line → IsSomeAnd o IsMemoryFault → status ≡ 10
  memory_status None is memory = absurd memory
  memory_status (Some Usage) is memory = absurd memory
  memory_status (Some (Read path)) is memory = absurd memory
  memory_status (Some Write) is memory = absurd memory
  memory_status (Some (Long path)) is memory = absurd memory
  memory_status (Some Memory) is memory = is.0

  pub read_status : (o : Option FileFault) → IsFaultOf o status line → IsSomeAnd o IsReadFault → status ≡ 5
  read_status None is read = absurd read
  read_status (Some Usage) is read = absurd read
  read_status (Some (Read path)) is read = is.0
  read_status (Some Write) is read = absurd read
  read_status (Some (Long path)) is read = absurd read
  read_status (Some Memory) is read = absurd read

pub memory_is : (o : Option FileFault) → o ≡ Some Memory → IsSomeAnd o IsMemoryFault
memory_is (Some Memory) is = tt
memory_is None is = let no : ⊥ = cc in absurd no
memory_is (Some Usage) is = let no : ⊥ = cc in absurd no
memory_is (Some (Read path)) is = let no : ⊥ = cc in absurd no
memory_is (Some Write) is = let no : ⊥ = cc in absurd no
memory_is (Some (Long path)) is = let no : ⊥ = cc in absurd no

pub read_is : (o : Option FileFault) (path : _) → o ≡ Some (Read path) → IsSomeAnd o IsReadFault
read_is (Some (Read path)) p is = tt
read_is None p is = let no : ⊥ = cc in absurd no
read_is (Some Usage) p is = let no : ⊥ = cc in absurd no
read_is (Some Write) p is = let no : ⊥ = cc in absurd no
read_is (Some (Long path)) p is = let no : ⊥ = cc in absurd no
read_is (Some Memory) p is = let no : ⊥ = cc in absurd no
