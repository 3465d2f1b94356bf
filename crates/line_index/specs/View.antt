-- What callers see of an index, and what it keeps beside.
use Rattle.std.specs.Prelude.{◌≡◌, ℕ, ◌<◌, ◌^◌, [], None, length, map, get_or, All}
use Rattle.std.specs.List.Sorted.{IsStrictlySortedBy}
use Rattle.line_index.specs.declared.LineIndex.TheInside.{Inside}
use Rattle.line_index.specs.Changes.{IsRising, changes_of}
use Rattle.line_index.specs.Lines.{IsRight, label}
use Rattle.line_index.specs.Keys.{HasPath, key_cmp, path_cmp, texts}
use Rattle.line_index.specs.Endings.{HoldsLines, IsSearchable}
use Rattle.line_index.specs.Turns.{turns}
use Rattle.line_index.specs.Index.{Index, line_at}

abbrev pub index_view : Inside → Index
index_view inside = record {
  lines = map (line_at (texts inside.paths.items)) inside.lines.items;
  entries = inside.entries;
  changes = changes_of inside.changes.items;
}

pub record IsWhole (inside : Inside) : Type 0 where
  pub few : length inside.lines.items < 2 ^ 32
  pub few_paths : length inside.paths.items < 2 ^ 32
  pub paths_rise : IsStrictlySortedBy path_cmp inside.paths.items
  pub searchable : IsSearchable (texts inside.paths.items) inside.endings
  pub endings : HoldsLines inside.lines.items inside.endings
  pub keys_rise : IsStrictlySortedBy key_cmp inside.lines.items
  pub have_paths : All (HasPath (texts inside.paths.items)) inside.lines.items
  pub right : All IsRight (map (line_at (texts inside.paths.items)) inside.lines.items)
  pub labels : inside.labels.items
      ≡ map label (map (line_at (texts inside.paths.items)) inside.lines.items)
  pub as_many : length inside.entries ≡ length inside.lines.items
  pub rising : IsRising 0 (changes_of inside.changes.items)
  pub turns : (k : ℕ)
      → get_or inside.turns k [] ≡ turns k None (changes_of inside.changes.items)
