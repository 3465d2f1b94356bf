use Rattle.std.proofs.Common.{rules, arith, ◌≡◌, ℕ, List, length, sym, ap, subst, ◌∙◌}
use Rattle.std.proofs.lemmas.List.{length-map}
use Rattle.line_write.specs.Unit.{Sequence, view, views, unit, header, program, body, with_count}
use Rattle.line_write.specs.Lines.{GivesLines}
use Rattle.line_write.proofs.Lengths.{length-unit, few_sequences}
use Rattle.line_write.proofs.UnitReads.{unit_gives}
use Rattle.line_write.proofs.write_unit.Goals as goal

pub returns-then-len-clause-too_long : goal.returns-then-len-clause-too_long
returns-then-len-clause-too_long c =
    let all = views c.args.sequences.now in
    let long : c.len.result ≡ length c.in_ok-header.header.items = search rules in
    omega (arith, long, c.if-len.true, ap (λ (xs : List ℕ). length xs) c.in_ok-header.ensures, length-unit all)

pub program-requires-clause-few : goal.program-requires-clause-few
program-requires-clause-few c =
    let all = views c.args.sequences.now in
    let long : c.len.result ≡ length c.in_ok-header.header.items = search rules in
    omega (arith, long, c.if-len.false, ap (λ (xs : List ℕ). length xs) c.in_ok-header.ensures, few_sequences all, length-map c.args.sequences.now view)

pub returns-then-len-2-clause-too_long : goal.returns-then-len-2-clause-too_long
returns-then-len-2-clause-too_long c =
    let all = views c.args.sequences.now in
    let long : c.len-2.result ≡ length c.in_ok-header.header.items = search rules in
    let longer : c.len-3.result ≡ length c.in_ok-program.program.items = search rules in
    omega (arith, long, longer, c.if-len-2.true, ap (λ (xs : List ℕ). length xs) c.in_ok-header.ensures, ap (λ (xs : List ℕ). length xs) c.in_ok-program.ensures, length-unit all)

is_unit : (header_bytes program_bytes out : List ℕ) (all : List Sequence) → header_bytes ≡ header all → program_bytes ≡ program 1 all → out ≡ with_count (body header_bytes program_bytes) → out ≡ unit all
unfolding unit
is_unit header_bytes program_bytes out all h p o = o ∙ ap with_count (ap (λ (x : List ℕ). body x program_bytes) h ∙ ap (λ (x : List ℕ). body (header all) x) p)

pub returns-clause-bytes : goal.returns-clause-bytes
returns-clause-bytes c =
    is_unit c.deref.result.now c.deref-2.result.now c.in_ok-unit.field-0.items (views c.args.sequences.now)
    (c.deref.ensures.value ∙ c.in_ok-header.ensures) (c.deref-2.ensures.value ∙ c.in_ok-program.ensures) c.in_ok-unit.ensures

pub returns-clause-short : goal.returns-clause-short
returns-clause-short c =
    let all = views c.args.sequences.now in
    let e = returns-clause-bytes c in
    let long : c.len-2.result ≡ length c.in_ok-header.header.items = search rules in
    let longer : c.len-3.result ≡ length c.in_ok-program.program.items = search rules in
    omega (arith, long, longer, c.if-len-2.false, ap (λ (xs : List ℕ). length xs) e, ap (λ (xs : List ℕ). length xs) c.in_ok-header.ensures, ap (λ (xs : List ℕ). length xs) c.in_ok-program.ensures, length-unit all)

pub returns-clause-gives : goal.returns-clause-gives
returns-clause-gives c =
    let all = views c.args.sequences.now in
    let e = returns-clause-bytes c in
    subst (λ (xs : List ℕ). GivesLines all xs) (sym e) (unit_gives all c.requires.writable (omega (arith, returns-clause-short c, ap (λ (xs : List ℕ). length xs) e)))
