use Rattle.std.proofs.Common.{ℕ, ◌≡◌, ◌+◌, ◌/◌, ◌%◌, ◌≤◌, List, [], length, get_or, arith, sym, ap, ◌∙◌}
use Rattle.std.proofs.lemmas.List.{get_or_default}
use Rattle.byteorder.specs.Endian.{little_from}
use Rattle.zero_bytes.proofs.Flat.{length-flat, piece_size, little-flat}
use Rattle.zero_bytes.proofs.Bytes.number.Goals as goal

pub index-requires : goal.index-requires
index-requires c =
    let s = c.self.inside in
    let ps = s.pieces.items in
    let many : length c.args.self.now ≡ s.count = ap (λ (bs : List ℕ). length bs) (sym c.self.view_is) ∙ length-flat ps s.count in
    let there = piece_size ps s.count c.args.offset c.self.invariant (omega (arith, many, c.requires.inside)) in
    omega (arith, there.0, s.pieces.ok.0)

pub returns-clause-number : goal.returns-clause-number
returns-clause-number c =
    let s = c.self.inside in
    let ps = s.pieces.items in
    let many : length c.args.self.now ≡ s.count = ap (λ (bs : List ℕ). length bs) (sym c.self.view_is) ∙ length-flat ps s.count in
    let there = piece_size ps s.count c.args.offset c.self.invariant (omega (arith, many, c.requires.inside)) in
    let here : c.index.result.now ≡ get_or ps (c.args.offset / 262144) [] = c.index.ensures ∙ get_or_default ps (c.args.offset / 262144) c.index.result.now [] there.0 in
    let fits : c.args.offset % 262144 + c.args.size ≤ 262144 = omega (arith, c.requires.page) in
    c.number.ensures.number
    ∙ ap (λ (bs : List ℕ). little_from (c.args.offset % 262144) c.args.size bs) here
    ∙ little-flat ps s.count c.args.offset c.args.size (omega (arith, many, c.requires.inside)) fits
    ∙ ap (λ (bs : List ℕ). little_from c.args.offset c.args.size bs) c.self.view_is
