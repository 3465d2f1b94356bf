-- Spans of pages: a function that gives for a first page the page after the last one.
use Rattle.std.specs.Prelude.{◌≡◌, ℕ, ◌<◌, ◌≤◌, Option, Some}
use Rattle.elf_load.specs.declared.tables.Segment.{Segment}
use Rattle.elf_load.specs.Tables.{first_page, end_page}

-- each has a page, and no two share one
pub record AreSpans (end_at : ℕ → Option ℕ) : Type 0 where
  pub some : (first end : ℕ) → end_at first ≡ Some end → first < end
  pub apart : (first end later last : ℕ) → end_at first ≡ Some end → end_at later ≡ Some last
      → first < later → end ≤ later

-- some span shares a page with this area
abbrev pub HasPageOf : (ℕ → Option ℕ) → Segment → Type 0
HasPageOf end_at area =
    (first : ℕ) × (end : ℕ) × (end_at first ≡ Some end) × (first < end_page area)
    × (first_page area < end)
