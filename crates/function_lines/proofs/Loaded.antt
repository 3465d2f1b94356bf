-- What was loaded of a file has its bytes.
use Rattle.std.proofs.Common.{◌≡◌, ℕ, false, ◌&&◌, List, Option, Some, None, Result, Ok, Err, sym, ap, ◌∙◌}
use Rattle.std.specs.Prelude.{codes}
use Rattle.coz_types.specs.Image.{ImageParts}
use Rattle.elf_load.specs.declared.ElfFault.{ElfFault}
use Rattle.elf_load.specs.Faults.{fault}
use Rattle.elf_load.specs.Loaded.{image, load_answer, section}
use Rattle.function_lines.specs.SameProgram.{is_same_image, is_same_program}
use Rattle.function_lines.specs.WithLines.{is_section, has_lines}

loaded_file : (file : List ℕ) (parts : ImageParts) → load_answer file ≡ Ok parts → parts.file ≡ file
unfolding load_answer image
loaded_file file parts e = by_fault (fault file) e
  where
    by_fault : (f : Option ElfFault) → (elim f as (λ x. Result ImageParts ElfFault) [ None ↦ Ok (image file) | Some f ↦ Err f ]) ≡ Ok parts → parts.file ≡ file
    by_fault None e = let same : image file ≡ parts = cc in ap (λ (p : ImageParts). p.file) (sym same)
    by_fault (Some f) e = absurd cc

pub relined : (given : ImageParts) (unit file : List ℕ) (parts : ImageParts) → load_answer file ≡ Ok parts
    → (is_same_image given parts && is_section (section parts.file (codes ".debug_line")) unit) ≡ has_lines given unit file
relined given unit file parts e =
    ap (λ (f : List ℕ). is_same_image given parts && is_section (section f (codes ".debug_line")) unit) (loaded_file file parts e)
    ∙ ap (λ (r : Result ImageParts ElfFault). is_same_program given r && is_section (section file (codes ".debug_line")) unit) (sym e)

pub not_loaded : (given : ImageParts) (unit file : List ℕ) (f : ElfFault) → load_answer file ≡ Err f → has_lines given unit file ≡ false
not_loaded given unit file f e = ap (λ (r : Result ImageParts ElfFault). is_same_program given r && is_section (section file (codes ".debug_line")) unit) e
