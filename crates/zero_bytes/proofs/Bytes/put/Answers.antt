use Rattle.std.proofs.Common.{ℕ, ◌≡◌, ◌+◌, ◌/◌, ◌%◌, ◌≤◌, List, [], length, get_or, set, arith, sym, ap, ◌∙◌}
use Rattle.std.proofs.lemmas.List.{get_or_default}
use Rattle.zero_bytes.specs.Bytes.{bytes_with_put}
use Rattle.zero_bytes.specs.Pieces.{flat_from}
use Rattle.zero_bytes.proofs.Flat.{length-flat, piece_size, put-flat}
use Rattle.zero_bytes.proofs.Bytes.put.Goals as goal

pub index_mut-requires : goal.index_mut-requires
index_mut-requires c =
    let s = c.self.inside in
    let ps = s.pieces.items in
    let many : length c.args.self.now ≡ s.count = ap (λ (bs : List ℕ). length bs) (sym c.self.view_is) ∙ length-flat ps s.count in
    let there = piece_size ps s.count c.args.offset c.self.invariant (omega (arith, many, c.requires.inside)) in
    omega (arith, there.0, s.pieces.ok.0)

pub returns : goal.returns
returns c =
    let s = c.self.inside in
    let ps = s.pieces.items in
    let many : length c.args.self.now ≡ s.count = ap (λ (bs : List ℕ). length bs) (sym c.self.view_is) ∙ length-flat ps s.count in
    let there = piece_size ps s.count c.args.offset c.self.invariant (omega (arith, many, c.requires.inside)) in
    let here : c.index_mut.result.now ≡ get_or ps (c.args.offset / 262144) [] = c.index_mut.ensures.value ∙ get_or_default ps (c.args.offset / 262144) c.index_mut.result.now [] there.0 in
    let fits : c.args.offset % 262144 + length c.args.from.now ≤ 262144 = omega (arith, c.requires.page) in
    ap (λ (q : List ℕ). flat_from (set ps (c.args.offset / 262144) q) 0 s.count)
    (c.put.ensures ∙ ap (λ (bs : List ℕ). bytes_with_put (c.args.offset % 262144) c.args.from.now bs) here)
    ∙ put-flat ps s.count c.args.offset c.args.from.now there.0 there.1 (omega (arith, many, c.requires.inside)) fits
    ∙ ap (λ (bs : List ℕ). bytes_with_put c.args.offset c.args.from.now bs) c.self.view_is
