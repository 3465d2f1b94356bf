-- The pages that flags mark.
use Rattle.std.specs.Prelude.{ℕ, ◌+◌, Bool, true, false, List, [], ◌∷◌}

-- the numbers of the marked pages, if the first flag is of this page
abbrev pub marked_pages : ℕ → List Bool → List ℕ
marked_pages page [] = []
marked_pages page (f ∷ fs) =
    elim f [ true ↦ page ∷ marked_pages (page + 1) fs | false ↦ marked_pages (page + 1) fs ]
