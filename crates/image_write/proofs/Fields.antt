-- The fields of a written header are read again.
use Rattle.std.proofs.Common.{◌≡◌, ℕ, ◌+◌, ◌≤◌, ◌<◌, ◌^◌, List, [], ◌∷◌, ◌++◌, length, take, drop, refl, ap, ◌∙◌, arith, length-append}
use Rattle.std.specs.Prelude.{slice_index}
use Rattle.std.specs.Int.{Width, w32, w64, from_le_bytes}
use Rattle.std.proofs.Math.Seq.{drop-append-add}
use Rattle.std.proofs.lemmas.Nat.{from_le_bytes-to_le_bytes_2, from_le_bytes-to_le_bytes_4, from_le_bytes-to_le_bytes_8}
use Rattle.elf_load.specs.declared.tables.Segment.{Segment}
use Rattle.elf_load.specs.declared.tables.Section.{Section}
use Rattle.elf_load.specs.Tables.{number, kind_of, machine, entry, phoff, shoff, flags, phentsize, phnum, shentsize, shnum, shstrndx, segment_at, section_at}
use Rattle.byte_write.specs.Numbers.{half, word, double}
use Rattle.image_write.specs.File.{file_header, segment, section}
use Rattle.image_write.proofs.Fronts.{length-file_header}

-- the fields of a file's header, with the entry, the place of the section headers and how many segments there are
pub record IsHeaded (file : List ℕ) (start headers segments : ℕ) : Type 0 where
  pub long : 64 ≤ length file
  pub magic : take 4 file ≡ 0x7F ∷ 0x45 ∷ 0x4C ∷ 0x46 ∷ []
  pub class : slice_index file 4 ≡ 2
  pub order : slice_index file 5 ≡ 1
  pub is_executable : kind_of file ≡ 2
  pub is_machine : machine file ≡ 243
  pub has_entry : entry file ≡ start
  pub has_phoff : phoff file ≡ 64
  pub has_shoff : shoff file ≡ headers
  pub has_flags : flags file ≡ 0
  pub has_phentsize : phentsize file ≡ 56
  pub has_phnum : phnum file ≡ segments
  pub has_shentsize : shentsize file ≡ 64
  pub has_shnum : shnum file ≡ 5
  pub has_shstrndx : shstrndx file ≡ 4

pub headed : (start headers segments : ℕ) (rest : List ℕ) → start < 2 ^ 64 → headers < 2 ^ 64 → segments < 2 ^ 16 → IsHeaded (file_header start headers segments ++ rest) start headers segments
unfolding file_header number half word double
headed start headers segments rest low far few = record {
  long = omega (arith, length-append (file_header start headers segments) rest, length-file_header start headers segments);
  magic = refl;
  class = refl;
  order = refl;
  is_executable = refl;
  is_machine = refl;
  has_entry = from_le_bytes-to_le_bytes_8 start low;
  has_phoff = refl;
  has_shoff = from_le_bytes-to_le_bytes_8 headers far;
  has_flags = refl;
  has_phentsize = refl;
  has_phnum = from_le_bytes-to_le_bytes_2 segments few;
  has_shentsize = refl;
  has_shnum = refl;
  has_shstrndx = refl;
}

-- ---- entries of the tables

number_behind : (w : Width) (xs ys : List ℕ) (place k : ℕ) → place ≡ length xs + k → number w (xs ++ ys) place ≡ number w ys k
unfolding number
number_behind w xs ys place k at = ap (λ (n : ℕ). from_le_bytes w (drop n (xs ++ ys))) at ∙ ap (λ (zs : List ℕ). from_le_bytes w zs) (drop-append-add xs ys k)

-- a program header of loaded bytes
abbrev pub loaded_header : ℕ → ℕ → ℕ → ℕ → ℕ → Segment
loaded_header place flags offset address size = record { place = place; kind = 1; flags = flags; offset = offset; vaddr = address; filesz = size; memsz = size }

segment_front : (flags offset address size : ℕ) (rest : List ℕ) → flags < 2 ^ 32 → offset < 2 ^ 64 → address < 2 ^ 64 → size < 2 ^ 64
    → segment_at (segment flags offset address size ++ rest) 0 ≡ loaded_header 0 flags offset address size
unfolding segment number word double
segment_front flags offset address size rest a b c d = λ i. record {
  place = 0;
  kind = 1;
  flags = from_le_bytes-to_le_bytes_4 flags a i;
  offset = from_le_bytes-to_le_bytes_8 offset b i;
  vaddr = from_le_bytes-to_le_bytes_8 address c i;
  filesz = from_le_bytes-to_le_bytes_8 size d i;
  memsz = from_le_bytes-to_le_bytes_8 size d i;
}

segment_behind : (xs ys : List ℕ) (place : ℕ) → length xs ≡ place → segment_at (xs ++ ys) place ≡ record (segment_at ys 0) { place = place }
segment_behind xs ys place at = λ i. record {
  place = place;
  kind = number_behind w32 xs ys place 0 (omega arith) i;
  flags = number_behind w32 xs ys (place + 4) 4 (omega arith) i;
  offset = number_behind w64 xs ys (place + 8) 8 (omega arith) i;
  vaddr = number_behind w64 xs ys (place + 16) 16 (omega arith) i;
  filesz = number_behind w64 xs ys (place + 32) 32 (omega arith) i;
  memsz = number_behind w64 xs ys (place + 40) 40 (omega arith) i;
}

pub segment_read : (xs rest : List ℕ) (place flags offset address size : ℕ) → length xs ≡ place → flags < 2 ^ 32 → offset < 2 ^ 64 → address < 2 ^ 64 → size < 2 ^ 64
    → segment_at (xs ++ (segment flags offset address size ++ rest)) place ≡ loaded_header place flags offset address size
segment_read xs rest place flags offset address size at a b c d =
    segment_behind xs (segment flags offset address size ++ rest) place at
    ∙ ap (λ (s : Segment). record s { place = place }) (segment_front flags offset address size rest a b c d)

-- a section header
abbrev pub section_header : ℕ → ℕ → ℕ → ℕ → ℕ → ℕ → Section
section_header place name kind flags offset size = record { place = place; name = name; kind = kind; flags = flags; offset = offset; size = size }

section_front : (name kind flags offset size align : ℕ) (rest : List ℕ) → name < 2 ^ 32 → kind < 2 ^ 32 → flags < 2 ^ 64 → offset < 2 ^ 64 → size < 2 ^ 64
    → section_at (section name kind flags offset size align ++ rest) 0 ≡ section_header 0 name kind flags offset size
unfolding section number word double
section_front name kind flags offset size align rest a b c d e = λ i. record {
  place = 0;
  name = from_le_bytes-to_le_bytes_4 name a i;
  kind = from_le_bytes-to_le_bytes_4 kind b i;
  flags = from_le_bytes-to_le_bytes_8 flags c i;
  offset = from_le_bytes-to_le_bytes_8 offset d i;
  size = from_le_bytes-to_le_bytes_8 size e i;
}

section_behind : (xs ys : List ℕ) (place : ℕ) → length xs ≡ place → section_at (xs ++ ys) place ≡ record (section_at ys 0) { place = place }
section_behind xs ys place at = λ i. record {
  place = place;
  name = number_behind w32 xs ys place 0 (omega arith) i;
  kind = number_behind w32 xs ys (place + 4) 4 (omega arith) i;
  flags = number_behind w64 xs ys (place + 8) 8 (omega arith) i;
  offset = number_behind w64 xs ys (place + 24) 24 (omega arith) i;
  size = number_behind w64 xs ys (place + 32) 32 (omega arith) i;
}

pub section_read : (xs rest : List ℕ) (place name kind flags offset size align : ℕ) → length xs ≡ place → name < 2 ^ 32 → kind < 2 ^ 32 → flags < 2 ^ 64 → offset < 2 ^ 64 → size < 2 ^ 64
    → section_at (xs ++ (section name kind flags offset size align ++ rest)) place ≡ section_header place name kind flags offset size
section_read xs rest place name kind flags offset size align at a b c d e =
    section_behind xs (section name kind flags offset size align ++ rest) place at
    ∙ ap (λ (s : Section). record s { place = place }) (section_front name kind flags offset size align rest a b c d e)
