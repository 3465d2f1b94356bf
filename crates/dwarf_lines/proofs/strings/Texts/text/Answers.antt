use Rattle.std.proofs.Common.{◌≡◌, ℕ, List, Some, sym, ap, subst, ◌∙◌, arith}
use Rattle.std.specs.List.Sorted.{IsNonDecreasingBy}
use Rattle.dwarf_lines.specs.Zeros.{zeros_from, first_from}
use Rattle.dwarf_lines.proofs.Zeros.{zeros_rising, found, lost}
use Rattle.dwarf_lines.proofs.strings.Texts.text.Goals as goal

pub first_from-requires : goal.first_from-requires
first_from-requires c =
    let whole : zeros_from 0 c.args.self.now.bytes.now ≡ c.as_slice.result.now = sym (c.as_slice.ensures.value ∙ c.args.self.now.whole) in
    subst (λ (zs : List ℕ). IsNonDecreasingBy (λ (z : ℕ). z) zs) whole (zeros_rising 0 c.args.self.now.bytes.now)

pub between-requires-clause-order : goal.between-requires-clause-order
between-requires-clause-order c =
    let known = ap (λ (zs : List ℕ). first_from c.args.place zs) (c.as_slice.ensures.value ∙ c.args.self.now.whole) in
    let f = found c.args.place c.in-Some.end c.args.self.now.bytes.now (c.in-Some.ensures ∙ known) in
    f.0

pub between-requires-clause-inside : goal.between-requires-clause-inside
between-requires-clause-inside c =
    let known = ap (λ (zs : List ℕ). first_from c.args.place zs) (c.as_slice.ensures.value ∙ c.args.self.now.whole) in
    let f = found c.args.place c.in-Some.end c.args.self.now.bytes.now (c.in-Some.ensures ∙ known) in
    omega (arith, f.1)

pub returns-in-Some : goal.returns-in-Some
returns-in-Some c =
    let known = ap (λ (zs : List ℕ). first_from c.args.place zs) (c.as_slice.ensures.value ∙ c.args.self.now.whole) in
    let f = found c.args.place c.in-Some.end c.args.self.now.bytes.now (c.in-Some.ensures ∙ known) in
    ap (λ (t : List ℕ). Some t) c.between.ensures ∙ f.2

pub returns-in-None : goal.returns-in-None
returns-in-None c =
    let known = ap (λ (zs : List ℕ). first_from c.args.place zs) (c.as_slice.ensures.value ∙ c.args.self.now.whole) in
    lost c.args.place c.args.self.now.bytes.now (c.in-None.ensures ∙ known)
