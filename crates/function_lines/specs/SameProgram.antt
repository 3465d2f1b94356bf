-- When two files load as the same program.
use Rattle.std.specs.Prelude.{ℕ, Bool, false, true, ◌&&◌, ◌==◌, List, [], ◌∷◌, take, drop, bytes_eq, Result, Ok, Err}
use Rattle.coz_types.specs.declared.image.Area.{Area}
use Rattle.coz_types.specs.declared.image.Rights.{Rights}
use Rattle.coz_types.specs.Image.{ImageParts}
use Rattle.elf_load.specs.declared.ElfFault.{ElfFault}

abbrev pub is_same : Bool → Bool → Bool
is_same true b = b
is_same false true = false
is_same false false = true

abbrev pub are_same_rights : Rights → Rights → Bool
are_same_rights r s =
    is_same r.read s.read && (is_same r.write s.write && is_same r.execute s.execute)

-- the bytes of the file that fill the area
abbrev pub bytes_in : List ℕ → Area → List ℕ
bytes_in file area = take area.filled (drop area.offset file)

-- the same pages with the same rights and bytes, wherever the bytes lie in the files
abbrev pub is_same_area : List ℕ → List ℕ → Area → Area → Bool
is_same_area file other a b =
    a.start == b.start
    && (a.size == b.size && (are_same_rights a.rights b.rights && (a.vaddr == b.vaddr
    && (a.filled == b.filled && bytes_eq (bytes_in file a) (bytes_in other b)))))

abbrev pub are_same_areas : List ℕ → List ℕ → List Area → List Area → Bool
are_same_areas file other [] [] = true
are_same_areas file other [] (b ∷ bs) = false
are_same_areas file other (a ∷ xs) [] = false
are_same_areas file other (a ∷ xs) (b ∷ bs) =
    is_same_area file other a b && are_same_areas file other xs bs

abbrev pub is_same_image : ImageParts → ImageParts → Bool
is_same_image p q =
    p.entry == q.entry
    && (p.headers == q.headers && (p.header_count == q.header_count
    && are_same_areas p.file q.file p.areas q.areas))

-- what was loaded is the program of this image
abbrev pub is_same_program : ImageParts → Result ImageParts ElfFault → Bool
is_same_program image (Ok other) = is_same_image image other
is_same_program image (Err fault) = false
