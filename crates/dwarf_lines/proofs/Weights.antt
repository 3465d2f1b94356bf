-- A table has no more rows, and no more files, than its section has bytes.
use Rattle.std.proofs.Common.{◌≡◌, ℕ, zero, suc, ◌+◌, ◌≤◌, Bool, true, false, not, cond, List, [], ◌∷◌, length, Result, Ok, nat_lt, ap, arith, length-append}
use Rattle.std.proofs.lemmas.List.{length-map}
use Rattle.std.specs.Int.{w16, w32}
use Rattle.leb_cursor.specs.Ahead.{Ahead}
use Rattle.dwarf_lines.specs.declared.LineFault.{LineFault}
use Rattle.dwarf_lines.specs.declared.LineKind.TheVariants as kinds
use Rattle.dwarf_lines.specs.declared.Row.{Row}
use Rattle.dwarf_lines.specs.declared.LineTable.{LineTable}
use Rattle.dwarf_lines.specs.Bounds.{weight}
use Rattle.dwarf_lines.specs.Registers.{Table, Header, Operation, Copy, AdvancePc, AdvanceLine, SetFile, SetColumn, NegateStmt, ConstAddPc, FixedAdvancePc, Special, EndSequence, SetAddress, DefineFile, Pass, State, row, is_appending, is_ending, defined_files, registers_after, state_after, has_line, first_state, is_open, empty_table, file_view, view}
use Rattle.dwarf_lines.specs.Names.{Strings}
use Rattle.dwarf_lines.specs.Reading.{check, word, half_field, announced_bytes, sizes, header, operation, program, is_read, unit_body, unit, units, reading}
use Rattle.dwarf_lines.proofs.Programs.{bind_ok, wanted_ok}
use Rattle.dwarf_lines.proofs.Shorter.{number_left, announced_left, operation_less}
use Rattle.dwarf_lines.proofs.Fewer.{sizes_most, header_few}

-- ---- programs

-- an operation has a row or defines a file, and not both
one_at_most : (op : Operation) (row : Row) → length (defined_files op) + length (cond (is_appending op) (row ∷ []) []) ≤ 1
one_at_most Copy row = omega arith
one_at_most (AdvancePc n) row = omega arith
one_at_most (AdvanceLine z) row = omega arith
one_at_most (SetFile n) row = omega arith
one_at_most (SetColumn n) row = omega arith
one_at_most NegateStmt row = omega arith
one_at_most ConstAddPc row = omega arith
one_at_most (FixedAdvancePc n) row = omega arith
one_at_most (Special o) row = omega arith
one_at_most EndSequence row = omega arith
one_at_most (SetAddress a) row = omega arith
one_at_most (DefineFile f) row = omega arith
one_at_most Pass row = omega arith

weight_after : (h : Header) (op : Operation) (s : State) → weight (state_after h op s).table ≤ weight s.table + 1
weight_after h op s =
    let new : Row = row h s (is_ending op) (registers_after h op s.registers) in
    omega (arith, one_at_most op new, length-append s.table.files (defined_files op), length-append s.table.rows (cond (is_appending op) (new ∷ []) []))

state_is : (s t : State) → (let done : State → Result State LineFault = λ z. Ok z in done s ≡ done t) → s ≡ t
state_is s t e = cc

table_is : (t u : Table) → (let done : Table → Result Table LineFault = λ z. Ok z in done t ≡ done u) → t ≡ u
table_is t u e = cc

program_few : (n : ℕ) (h : Header) (s t : State) (place : ℕ) (bytes : List ℕ) → program n h s (record { place = place; bytes = bytes }) ≡ Ok t → weight t.table ≤ weight s.table + length bytes
unfolding program
program_few zero h s t place bytes e =
    let same : weight s.table ≡ weight t.table = ap (λ (u : State). weight u.table) (state_is s t e) in
    omega arith
program_few (suc n) h s t place [] e =
    let same : weight s.table ≡ weight t.table = ap (λ (u : State). weight u.table) (wanted_ok (not (is_open s.table.rows)) kinds.Unended place s t e).1 in
    omega arith
program_few (suc n) h s t place (b ∷ bs) e =
    let ahead : Ahead = record { place = place; bytes = b ∷ bs } in
    let op = bind_ok (operation h ahead) _ t e in
    let next = bind_ok (check (has_line h op.0.0 s) kinds.LineOut place (state_after h op.0.0 s)) _ t op.2 in
    let less = operation_less h ahead op.0.1 op.0.0 op.1 in
    let done : weight (state_after h op.0.0 s).table ≡ weight next.0.table = ap (λ (u : State). weight u.table) (wanted_ok (has_line h op.0.0 s) kinds.LineOut place (state_after h op.0.0 s) next.0 next.1).1 in
    let one = weight_after h op.0.0 s in
    let rest = program_few n h next.0 t op.0.1.place op.0.1.bytes next.2 in
    omega (arith, less, done, one, rest)

-- ---- units

unit_body_few : (version : ℕ) (strings : Strings) (t u : Table) (a : Ahead) → unit_body version strings t a ≡ Ok u → weight u ≤ weight t + length a.bytes
unfolding unit_body
unit_body_few version strings t u a e =
    let after = bind_ok (sizes version a) _ u e in
    let size = bind_ok (word after.0) _ u after.2 in
    let inside = bind_ok (announced_bytes after.0.place size.0.0 size.0.1) _ u size.2 in
    let read = bind_ok (header version strings inside.0.0) _ u inside.2 in
    let done = bind_ok (program (suc (length inside.0.1.bytes)) read.0 (first_state read.0 t) inside.0.1) _ u read.2 in
    let behind = sizes_most version a after.0 after.1 in
    let first = number_left w32 after.0 size.0.1 size.0.0 size.1 in
    let next = announced_left after.0.place size.0.0 size.0.1 inside.0.0 inside.0.1 inside.1 in
    let few = header_few version strings inside.0.0 read.0 read.1 in
    let files = length-append t.files read.0.files in
    let run = program_few (suc (length inside.0.1.bytes)) read.0 (first_state read.0 t) done.0 inside.0.1.place inside.0.1.bytes done.1 in
    let same : weight done.0.table ≡ weight u = ap weight (table_is done.0.table u done.2) in
    omega (arith, behind, first, next.0, next.1, few, files, run, same)

skipped_few : (t u : Table) (n : ℕ) → (let done : Table → Result Table LineFault = λ z. Ok z in done (record t { skipped = t.skipped + 1 }) ≡ done u) → 1 ≤ n → weight u ≤ weight t + n
skipped_few t u n e le =
    let same : weight (record t { skipped = t.skipped + 1 }) ≡ weight u = ap weight (table_is (record t { skipped = t.skipped + 1 }) u e) in
    omega arith

version_few : (reads : Bool) (version : ℕ) (strings : Strings) (t u : Table) (a : Ahead) (n : ℕ) → length a.bytes ≤ n → 1 ≤ n → (elim reads as (λ x. Result Table LineFault) [ true ↦ unit_body version strings t a | false ↦ Ok (record t { skipped = t.skipped + 1 }) ]) ≡ Ok u → weight u ≤ weight t + n
version_few true version strings t u a n le some e = omega (arith, unit_body_few version strings t u a e)
version_few false version strings t u a n le some e = skipped_few t u n e some

pair_is : (t u : Table) (a b : Ahead) → (let done : Table × Ahead → Result (Table × Ahead) LineFault = λ z. Ok z in done (t, a) ≡ done (u, b)) → (t ≡ u) × (a ≡ b)
pair_is t u a b e = let same : ◌≡◌ {A = Table × Ahead} (t, a) (u, b) = cc in (ap (λ (p : Table × Ahead). p.0) same, ap (λ (p : Table × Ahead). p.1) same)

unit_few : (strings : Strings) (t u : Table) (a b : Ahead) → unit strings t a ≡ Ok (u, b) → weight u + length b.bytes ≤ weight t + length a.bytes
unfolding unit
unit_few strings t u a b e =
    let size = bind_ok (word a) _ (u, b) e in
    let long = bind_ok (check (nat_lt size.0.0 0xFFFFFFF0) kinds.LongForm a.place size.0) _ (u, b) size.2 in
    let inside = bind_ok (announced_bytes a.place long.0.0 long.0.1) _ (u, b) long.2 in
    let version = bind_ok (half_field inside.0.0) _ (u, b) inside.2 in
    let made = bind_ok (elim (is_read version.0.0) as (λ x. Result Table LineFault) [ true ↦ unit_body version.0.0 strings t version.0.1 | false ↦ Ok (record t { skipped = t.skipped + 1 }) ]) _ (u, b) version.2 in
    let first = number_left w32 a size.0.1 size.0.0 size.1 in
    let fine = wanted_ok (nat_lt size.0.0 0xFFFFFFF0) kinds.LongForm a.place size.0 long.0 long.1 in
    let kept : length size.0.1.bytes ≡ length long.0.1.bytes = ap (λ (z : ℕ × Ahead). length z.1.bytes) fine.1 in
    let next = announced_left a.place long.0.0 long.0.1 inside.0.0 inside.0.1 inside.1 in
    let number = number_left w16 inside.0.0 version.0.1 version.0.0 version.1 in
    let grown = version_few (is_read version.0.0) version.0.0 strings t made.0 version.0.1 (length inside.0.0.bytes) (omega (arith, number)) (omega (arith, number)) made.1 in
    let ends = pair_is made.0 u inside.0.1 b made.2 in
    let same : weight made.0 ≡ weight u = ap weight ends.0 in
    let left : length inside.0.1.bytes ≡ length b.bytes = ap (λ (z : Ahead). length z.bytes) ends.1 in
    omega (arith, first, kept, next.0, next.1, grown, same, left)

units_few : (n : ℕ) (strings : Strings) (t u : Table) (place : ℕ) (bytes : List ℕ) → units n strings t (record { place = place; bytes = bytes }) ≡ Ok u → weight u ≤ weight t + length bytes
unfolding units
units_few zero strings t u place bytes e =
    let same : weight t ≡ weight u = ap weight (table_is t u e) in
    omega arith
units_few (suc n) strings t u place [] e =
    let same : weight t ≡ weight u = ap weight (table_is t u e) in
    omega arith
units_few (suc n) strings t u place (b ∷ bs) e =
    let ahead : Ahead = record { place = place; bytes = b ∷ bs } in
    let first = bind_ok (unit strings t ahead) _ u e in
    let one = unit_few strings t first.0.0 ahead first.0.1 first.1 in
    let rest = units_few n strings first.0.0 u first.0.1.place first.0.1.bytes first.2 in
    omega (arith, one, rest)

-- rows, files and skipped units together
pub weight_few : (strings : Strings) (section : List ℕ) (table : Table) → reading strings section ≡ Ok table → weight table ≤ length section
unfolding reading
weight_few strings section table e = omega (arith, units_few (suc (length section)) strings empty_table table 0 section e)

-- so the table of a section of at most 32 MiB can be indexed
pub few_rows_and_files : (strings : Strings) (section : List ℕ) (table : Table) → reading strings section ≡ Ok table → length section ≤ 33554432 → (length table.rows ≤ 33554432) × (length table.files ≤ 33554432)
few_rows_and_files strings section table e le =
    let few = weight_few strings section table e in
    (omega (arith, few), omega (arith, few))

-- and that of what was read of it
pub few_of_table : (strings : Strings) (section : List ℕ) (table : LineTable) → reading strings section ≡ Ok (view table) → length section ≤ 33554432 → (length table.rows ≤ 33554432) × (length table.files ≤ 33554432)
few_of_table strings section table e le =
    let few = few_rows_and_files strings section (view table) e le in
    (few.0, omega (arith, few.1, length-map table.files file_view))
