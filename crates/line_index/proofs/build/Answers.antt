use Rattle.std.proofs.Common.{◌≡◌, ◌≤◌, ◌<◌, ◌^◌, ℕ, None, List, map, length, All, sym, ap, ◌∙◌, subst, arith}
use Rattle.std.specs.Global.{Vec}
use Rattle.coz_types.specs.declared.image.Area.{Area}
use Rattle.dwarf_lines.specs.declared.Row.{Row}
use Rattle.dwarf_lines.specs.Registers.{Table, files_view, view}
use Rattle.std.proofs.lemmas.List.{length-map}
use Rattle.line_index.specs.Changes.{change_of, changes_of}
use Rattle.line_index.specs.declared.changes.Change.{Change}
use Rattle.line_index.specs.Lines.{line_of}
use Rattle.line_index.specs.declared.lines.Key.{Key}
use Rattle.line_index.specs.Keys.{HasPath, texts, IsBelow}
use Rattle.line_index.proofs.Areas.{few_areas}
use Rattle.line_index.specs.Endings.{HoldsLines, IsSearchable}
use Rattle.line_index.specs.Turns.{turns}
use Rattle.line_index.specs.Index.{IsIndex, line_at}
use Rattle.line_index.proofs.Whole.{Built, is_index}
use Rattle.line_index.proofs.Righted.{have_paths, right_lines}
use Rattle.line_index.proofs.Listed.{is_listed}
use Rattle.line_index.proofs.Needed.{Names, same_line, same_index}
use Rattle.line_index.proofs.Building.{is_built, are_starts_of, labels_are, entries_many, rise_of, changes_many}
use Rattle.line_index.proofs.build.Goals as goal

pub covering_rows-requires-clause-few_areas : goal.covering_rows-requires-clause-few_areas
covering_rows-requires-clause-few_areas c =
    let few : length c.areas.result.now ≤ 67108864 = subst (λ (areas : List Area). length areas ≤ 67108864) (sym c.areas.ensures.areas) (few_areas c.args.image.now c.areas.ensures.valid) in
    omega arith

pub lines_of-requires : goal.lines_of-requires
lines_of-requires c =
    let covering : length c.deref-4.result.now ≡ length c.in_ok-covering.covering.items = ap length c.deref-4.ensures.value in
    let areas : length c.areas.result.now ≤ 67108864 = subst (λ (areas : List Area). length areas ≤ 67108864) (sym c.areas.ensures.areas) (few_areas c.args.image.now c.areas.ensures.valid) in
    let rows : length c.as_slice-rows.result.now ≡ length c.args.table.now.rows = ap length c.as_slice-rows.ensures in
    omega (arith, c.in_ok-covering.ensures.few, c.requires.few_rows)

pub parts_of-requires-clause-below : goal.parts_of-requires-clause-below
parts_of-requires-clause-below c =
    subst (λ n. All (IsBelow n) (changes_of c.deref-7.result.now)) (sym (ap length c.deref-6.ensures.value))
    (subst (λ (changes : List Change). All (IsBelow (length c.in_ok-lines.lines.keys.items)) changes) (sym (ap changes_of c.deref-7.ensures.value)) c.in_ok-lines.ensures.below)

abbrev needed : (c : goal.After-deref-7) → Table
needed c = record (view c.args.table.now) { files = files_view c.in_ok-named.named.items }

built : (c : goal.After-deref-7) → Built (needed c).files (needed c).rows c.args.image.now.areas (texts c.in_ok-places.places.paths.items) c.in_ok-places.places.positions.items c.in_ok-lines.lines.keys.items c.in_ok-covering.covering.items (changes_of c.in_ok-lines.lines.changes.items)
built c = is_built (needed c) c.args.image.now.areas c.areas.result.now c.as_slice-rows.result.now (files_view c.deref-2.result.now) c.in_ok-places.places.paths.items c.in_ok-places.places.positions.items c.deref-3.result.now c.in_ok-lines.lines.keys.items c.in_ok-covering.covering.items c.deref-4.result.now (changes_of c.in_ok-lines.lines.changes.items)
    c.areas.ensures.areas c.as_slice-rows.ensures (ap files_view c.deref-2.ensures.value) c.deref-3.ensures.value c.deref-4.ensures.value
    c.in_ok-places.ensures.in_order c.in_ok-places.ensures.placed c.in_ok-covering.ensures.values c.in_ok-covering.ensures.rises c.in_ok-lines.ensures.in_order c.in_ok-lines.ensures.each c.in_ok-lines.ensures.changes

few_lines : (c : goal.After-deref-7) → length c.in_ok-lines.lines.keys.items < 2 ^ 32
few_lines c =
    let covering : length c.deref-4.result.now ≡ length c.in_ok-covering.covering.items = ap length c.deref-4.ensures.value in
    let areas : length c.areas.result.now ≤ 67108864 = subst (λ (areas : List Area). length areas ≤ 67108864) (sym c.areas.ensures.areas) (few_areas c.args.image.now c.areas.ensures.valid) in
    let rows : length c.as_slice-rows.result.now ≡ length c.args.table.now.rows = ap length c.as_slice-rows.ensures in
    omega (arith, c.in_ok-lines.ensures.few, c.in_ok-covering.ensures.few, c.requires.few_rows)

have : (c : goal.After-deref-7) → All (HasPath (texts c.in_ok-places.places.paths.items)) c.in_ok-lines.lines.keys.items
have c = have_paths (needed c) c.args.image.now.areas c.in_ok-places.places.paths.items c.in_ok-places.places.positions.items c.in_ok-lines.lines.keys.items c.in_ok-covering.covering.items (changes_of c.in_ok-lines.lines.changes.items) (built c)

pub parts_of-requires-clause-few_lines : goal.parts_of-requires-clause-few_lines
parts_of-requires-clause-few_lines c = subst (λ (keys : List Key). length keys < 2 ^ 32) (sym c.deref-6.ensures.value) (few_lines c)

pub parts_of-requires-clause-few_changes : goal.parts_of-requires-clause-few_changes
parts_of-requires-clause-few_changes c =
    let covering : length c.deref-4.result.now ≡ length c.in_ok-covering.covering.items = ap length c.deref-4.ensures.value in
    let areas : length c.areas.result.now ≤ 67108864 = subst (λ (areas : List Area). length areas ≤ 67108864) (sym c.areas.ensures.areas) (few_areas c.args.image.now c.areas.ensures.valid) in
    let rows : length c.as_slice-rows.result.now ≡ length c.args.table.now.rows = ap length c.as_slice-rows.ensures in
    let many = changes_many c.as_slice-rows.result.now c.deref-3.result.now c.in_ok-lines.lines.keys.items c.deref-4.result.now (changes_of c.in_ok-lines.lines.changes.items) c.in_ok-lines.ensures.changes in
    let changes : length c.deref-7.result.now ≡ length c.in_ok-lines.lines.changes.items = ap length c.deref-7.ensures.value in
    omega (arith, many, changes, length-map c.in_ok-lines.lines.changes.items change_of, covering, areas, rows, c.in_ok-covering.ensures.few, c.requires.few_rows)

pub parts_of-requires-clause-have_paths : goal.parts_of-requires-clause-have_paths
parts_of-requires-clause-have_paths c =
    subst (λ (paths : List (Vec ℕ)). All (HasPath (texts paths)) c.deref-6.result.now) (sym c.deref-5.ensures.value)
    (subst (λ (keys : List Key). All (HasPath (texts c.in_ok-places.places.paths.items)) keys) (sym c.deref-6.ensures.value) (have c))

abbrev lined : goal.In_ok-parts → goal.After-deref-7
lined c = c.before.before.before

pub invariant_of-result : goal.invariant_of-result
invariant_of-result c =
    let covering : length c.deref-4.result.now ≡ length c.in_ok-covering.covering.items = ap length c.deref-4.ensures.value in
    let areas : length c.areas.result.now ≤ 67108864 = subst (λ (areas : List Area). length areas ≤ 67108864) (sym c.areas.ensures.areas) (few_areas c.args.image.now c.areas.ensures.valid) in
    let rows : length c.as_slice-rows.result.now ≡ length c.args.table.now.rows = ap length c.as_slice-rows.ensures in
    let files : length c.as_slice-files.result.now ≡ length c.args.table.now.files = ap length c.as_slice-files.ensures in
    let named : length c.deref-2.result.now ≡ length c.in_ok-named.named.items = ap length c.deref-2.ensures.value in
    record {
      few = omega (arith, c.in_ok-lines.ensures.few, c.in_ok-covering.ensures.few, c.requires.few_rows);
      paths_rise = c.in_ok-places.ensures.in_order;
      searchable = subst (λ (paths : List (Vec ℕ)). IsSearchable (texts paths) c.in_ok-parts.parts.endings) c.deref-5.ensures.value c.in_ok-parts.ensures.searchable;
      endings = subst (λ (keys : List Key). HoldsLines keys c.in_ok-parts.parts.endings) c.deref-6.ensures.value c.in_ok-parts.ensures.endings;
      keys_rise = c.in_ok-lines.ensures.in_order;
      few_paths = omega (arith, c.in_ok-places.ensures.few, named, c.in_ok-named.ensures.as_many, files, c.requires.few_files);
      have_paths = have_paths (needed (lined c)) c.args.image.now.areas c.in_ok-places.places.paths.items c.in_ok-places.places.positions.items c.in_ok-lines.lines.keys.items c.in_ok-covering.covering.items (changes_of c.in_ok-lines.lines.changes.items) (built (lined c));
      right = right_lines (needed (lined c)) c.args.image.now.areas c.in_ok-places.places.paths.items c.in_ok-places.places.positions.items c.in_ok-lines.lines.keys.items c.in_ok-covering.covering.items (changes_of c.in_ok-lines.lines.changes.items) (built (lined c)) c.in_ok-places.ensures.right c.in_ok-lines.ensures.numbered;
      labels = labels_are c.in_ok-parts.parts.labels.items c.deref-5.result.now c.in_ok-places.places.paths.items c.deref-6.result.now c.in_ok-lines.lines.keys.items c.deref-5.ensures.value c.deref-6.ensures.value c.in_ok-parts.ensures.labels;
      as_many = entries_many c.in_ok-parts.parts.entries (changes_of c.deref-7.result.now) (length c.deref-6.result.now) (length c.in_ok-lines.lines.keys.items) (ap length c.deref-6.ensures.value) c.in_ok-parts.ensures.entries;
      rising = rise_of c.as_slice-rows.result.now c.deref-3.result.now c.in_ok-lines.lines.keys.items c.deref-4.result.now c.in_ok-covering.covering.items (changes_of c.in_ok-lines.lines.changes.items) c.deref-4.ensures.value c.in_ok-covering.ensures.rises c.in_ok-lines.ensures.changes;
      turns = λ k. c.in_ok-parts.ensures.turns k ∙ ap (λ cs. turns k None (changes_of cs)) c.deref-7.ensures.value;
    }

the_lines : (c : goal.In_ok-parts) → (a : ℕ) → line_of (needed (lined c)) c.args.image.now.areas a ≡ line_of (view c.args.table.now) c.args.image.now.areas a
the_lines c =
    same_line (view c.args.table.now) c.args.image.now.areas c.in_ok-named.named.items c.as_slice-files.result.now c.in_ok-covering.covering.items (ap files_view (sym c.as_slice-files.ensures)) (built (lined c)).values
    (subst (λ (rows : List Row). All (λ (change : Change). Names rows c.in_ok-named.named.items c.as_slice-files.result.now change.position) c.in_ok-covering.covering.items) c.as_slice-rows.ensures
    (subst (λ (changes : List Change). All (λ (change : Change). Names c.as_slice-rows.result.now c.in_ok-named.named.items c.as_slice-files.result.now change.position) changes) c.deref.ensures.value c.in_ok-named.ensures.named))

the_index : (c : goal.In_ok-parts) → IsIndex (view c.args.table.now) c.args.image.now.areas (record { lines = map (line_at (texts c.in_ok-places.places.paths.items)) c.in_ok-lines.lines.keys.items; entries = c.in_ok-parts.parts.entries; changes = (changes_of c.in_ok-lines.lines.changes.items) })
the_index c =
    same_index (needed (lined c)) (view c.args.table.now) c.args.image.now.areas _ (the_lines c)
    (is_index (needed (lined c)) c.args.image.now.areas (texts c.in_ok-places.places.paths.items) c.in_ok-places.places.positions.items c.in_ok-lines.lines.keys.items c.in_ok-covering.covering.items (changes_of c.in_ok-lines.lines.changes.items) c.in_ok-parts.parts.entries (built (lined c))
    (are_starts_of (length c.deref-6.result.now) (length c.in_ok-lines.lines.keys.items) (changes_of c.deref-7.result.now) (changes_of c.in_ok-lines.lines.changes.items) c.in_ok-parts.parts.entries (ap length c.deref-6.ensures.value) (ap changes_of c.deref-7.ensures.value) c.in_ok-parts.ensures.entries))

pub returns-clause-index : goal.returns-clause-index
returns-clause-index c = the_index c.before.before.before

pub returns-clause-listed : goal.returns-clause-listed
returns-clause-listed c = is_listed (the_index c.before.before.before)
