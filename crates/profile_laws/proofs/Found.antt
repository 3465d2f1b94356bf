-- Files that hold bytes, and programs that are read from them.
use Rattle.std.proofs.Common.{◌≡◌, ℕ, ◌<◌, ◌^◌, Bool, true, false, cond, List, [], ◌∷◌, drop, All, Option, Some, None, Result, Ok, Err, bytes_eq, sym, ap, subst, arith}
use Rattle.std.specs.List.{AllByRecursion}
use Rattle.std.specs.Int.{w64}
use Rattle.std.proofs.lemmas.List.Elements.{recursion_from_All}
use Rattle.coz_types.specs.Image.{ImageParts}
use Rattle.coz_files.specs.Held.{Held, file_at}
use Rattle.elf_load.specs.declared.ElfFault.{ElfFault}
use Rattle.elf_load.specs.Faults.{fault}
use Rattle.elf_load.specs.Tables.{number}
use Rattle.elf_load.specs.Loaded.{image, load_answer}
use Rattle.join_cli.proofs.Tables.{AreBytes, dropped}
use Rattle.join_cli.proofs.Indexed.{by_place}
use Rattle.coz_cli.specs.Headline.{IsInput}
use Rattle.profile_laws.specs.Headline.{HoldsBytes}

-- ---- files

in_entries : (held : Held) (path file : List ℕ) → AllByRecursion (λ entry. All (λ b. b < 256) entry.1) held → file_at held path ≡ Some file → All (λ b. b < 256) file
in_entries [] path file all is = absurd (let no : ⊥ = cc in no)
in_entries (entry ∷ rest) path file all is = by (bytes_eq entry.0 path) (in_entries rest path file all.1) is
  where
    by : (b : Bool) → (file_at rest path ≡ Some file → All (λ b. b < 256) file) → cond b (Some entry.1) (file_at rest path) ≡ Some file → All (λ b. b < 256) file
    by true rest_has e = let same : entry.1 ≡ file = cc in subst (All (λ b. b < 256)) same all.0
    by false rest_has e = rest_has e

pub file_bytes : (held : Held) (path file : List ℕ) → HoldsBytes held → file_at held path ≡ Some file → All (λ b. b < 256) file
file_bytes held path file all is = in_entries held path file (recursion_from_All (λ entry. All (λ b. b < 256) entry.1) held all) is

pub input_bytes : (held : Held) (named : Option (List ℕ)) (input : List ℕ) → HoldsBytes held → IsInput held named input → All (λ b. b < 256) input
input_bytes held None input all is = subst (All (λ b. b < 256)) (sym is) (λ k d lt. absurd (omega arith))
input_bytes held (Some path) input all is = file_bytes held path input all is

-- ---- programs

loaded : (file : List ℕ) (parts : ImageParts) → load_answer file ≡ Ok parts → image file ≡ parts
unfolding load_answer
loaded file parts is = by (fault file) is
  where
    by : (o : Option ElfFault) → ◌≡◌ {A = Result ImageParts ElfFault} (elim o [ None ↦ Ok (image file) | Some f ↦ Err f ]) (Ok parts) → image file ≡ parts
    by None e = cc
    by (Some f) e = absurd (let no : ⊥ = cc in no)

number_low : (file : List ℕ) → AreBytes file → number w64 file 24 < 2 ^ 64
unfolding number
number_low file all =
    let b = by_place (drop 24 file) (dropped 24 file all) in
    omega (arith, b 0, b 1, b 2, b 3, b 4, b 5, b 6, b 7)

pub entry_low : (file : List ℕ) (parts : ImageParts) → All (λ b. b < 256) file → load_answer file ≡ Ok parts → parts.entry < 2 ^ 64
unfolding image
entry_low file parts all is = subst (λ (p : ImageParts). p.entry < 2 ^ 64) (loaded file parts is) (number_low file (recursion_from_All (λ b. b < 256) file all))

pub file_is : (file : List ℕ) (parts : ImageParts) → load_answer file ≡ Ok parts → parts.file ≡ file
unfolding image
file_is file parts is = ap (λ (p : ImageParts). p.file) (sym (loaded file parts is))
