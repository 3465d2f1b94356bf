-- Pages in chunks, and which chunks have a page that is touched.
use Rattle.std.specs.Prelude.{ℕ, ◌≡◌, ◌+◌, ◌/◌, ◌≤◌, ◌<◌, Bool, true, false, List, length, get_or, map}
use Rattle.coz_types.specs.declared.image.Rights.{Rights}
use Rattle.guest_memory.specs.declared.Page.{Page}

-- each page that is touched lies in a chunk of 64 that is marked
pub record AreMarked (pages : List Page) (marks : List Bool) : Type 0 where
  pub many : length marks ≡ length pages / 64 + 1
  pub marked : (k : ℕ) (d : Page) → k < length pages → (get_or pages k d).touched ≡ true
      → get_or marks (k / 64) false ≡ true

-- if the flag says so, no page from one up to another is touched
abbrev pub AreClean : ℕ → ℕ → Bool → List Page → Type 0
AreClean start end whole pages =
    (k : ℕ) (d : Page) → whole ≡ true → start ≤ k → k < end → k < length pages
    → (get_or pages k d).touched ≡ false

abbrev pub touched_with : Rights → Page
touched_with rights = record { rights = rights; touched = true }

abbrev pub rights_of : List Page → List Rights
rights_of pages = map (λ (p : Page). p.rights) pages
