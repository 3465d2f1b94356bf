use Rattle.std.proofs.Common.{arith, ◌≡◌, ◌∙◌, ◌&&◌, ◌+◌, ◌-◌, ap, sym, find, ℕ, List, Option, Some, option_map, unwrap_or}
use Rattle.elf_load.specs.declared.tables.Segment.{Segment}
use Rattle.elf_load.specs.Tables.{is_load, has_place, segments, phoff}
use Rattle.elf_load.specs.Loaded.{headers}
use Rattle.elf_load.proofs.Rows.{room}
use Rattle.elf_load.proofs.Valid.{holder_ends}
use Rattle.elf_load.proofs.areas.headers.Goals as goal

-- what was found is what the definition finds
same_holder : (file : List ℕ) (place : ℕ) (ss : List Segment) (o : Option Segment) → o ≡ find (λ s. is_load s && has_place place s) ss → ss ≡ segments file → place ≡ phoff file → find (λ s. is_load s && has_place (phoff file) s) (segments file) ≡ o
same_holder file place ss o found is_ss is_place = sym (found ∙ (ap (λ (xs : List Segment). find (λ s. is_load s && has_place place s) xs) is_ss ∙ ap (λ (p : ℕ). find (λ s. is_load s && has_place p s) (segments file)) is_place))

pub double_at-place-requires : goal.double_at-place-requires
double_at-place-requires c = omega (arith, room c.args.file.now c.requires.headers)

pub overflow_add-result : goal.overflow_add-result
overflow_add-result c =
    let there = same_holder c.args.file.now c.double_at-place.result c.args.segments.now (Some c.in-Some.s.now) c.in-Some.ensures c.requires.segments c.double_at-place.ensures in
    let fits = holder_ends c.args.file.now (phoff c.args.file.now) c.in-Some.s.now c.requires.tables there in
    let place : c.double_at-place.result ≡ phoff c.args.file.now = c.double_at-place.ensures in
    omega (arith, fits.0, fits.1)

from_there : (file : List ℕ) (place : ℕ) (s : Segment) → find (λ s. is_load s && has_place (phoff file) s) (segments file) ≡ Some s → s.vaddr + phoff file - s.offset ≡ headers file
from_there file place s there = sym (ap (λ (o : Option Segment). unwrap_or (option_map (λ s. s.vaddr + phoff file - s.offset) o) 0) there)

pub returns-in-Some : goal.returns-in-Some
returns-in-Some c =
    let there = same_holder c.args.file.now c.double_at-place.result c.args.segments.now (Some c.in-Some.s.now) c.in-Some.ensures c.requires.segments c.double_at-place.ensures in
    let fits = holder_ends c.args.file.now (phoff c.args.file.now) c.in-Some.s.now c.requires.tables there in
    let place : c.double_at-place.result ≡ phoff c.args.file.now = c.double_at-place.ensures in
    let moved : c.in-Some.s.now.vaddr + (c.double_at-place.result - c.in-Some.s.now.offset) ≡ c.in-Some.s.now.vaddr + phoff c.args.file.now - c.in-Some.s.now.offset = omega (arith, fits.0) in
    moved ∙ from_there c.args.file.now c.double_at-place.result c.in-Some.s.now there

pub overflow_sub-result : goal.overflow_sub-result
overflow_sub-result c =
    let there = same_holder c.args.file.now c.double_at-place.result c.args.segments.now (Some c.in-Some.s.now) c.in-Some.ensures c.requires.segments c.double_at-place.ensures in
    let fits = holder_ends c.args.file.now (phoff c.args.file.now) c.in-Some.s.now c.requires.tables there in
    let place : c.double_at-place.result ≡ phoff c.args.file.now = c.double_at-place.ensures in
    omega (arith, fits.0)
