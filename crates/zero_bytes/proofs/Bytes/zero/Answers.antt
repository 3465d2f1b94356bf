use Rattle.std.proofs.Common.{ℕ, ◌≡◌, ◌/◌, ◌%◌, List, [], length, get_or, set, arith, sym, subst, ap, ◌∙◌}
use Rattle.std.proofs.lemmas.List.{get_or_default}
use Rattle.zero_bytes.specs.Bytes.{IsZeroedFrom}
use Rattle.zero_bytes.specs.Pieces.{flat_from}
use Rattle.zero_bytes.proofs.Flat.{length-flat, piece_size, zero-flat}
use Rattle.zero_bytes.proofs.Bytes.zero.Goals as goal

pub index_mut-requires : goal.index_mut-requires
index_mut-requires c =
    let s = c.self.inside in
    let ps = s.pieces.items in
    let many : length c.args.self.now ≡ s.count = ap (λ (bs : List ℕ). length bs) (sym c.self.view_is) ∙ length-flat ps s.count in
    let there = piece_size ps s.count c.args.start c.self.invariant (omega (arith, many, c.requires.inside)) in
    omega (arith, there.0, s.pieces.ok.0)

pub returns : goal.returns
returns c =
    let s = c.self.inside in
    let ps = s.pieces.items in
    let many : length c.args.self.now ≡ s.count = ap (λ (bs : List ℕ). length bs) (sym c.self.view_is) ∙ length-flat ps s.count in
    let there = piece_size ps s.count c.args.start c.self.invariant (omega (arith, many, c.requires.inside)) in
    let here : c.index_mut.result.now ≡ get_or ps (c.args.start / 262144) [] = c.index_mut.ensures.value ∙ get_or_default ps (c.args.start / 262144) c.index_mut.result.now [] there.0 in
    subst (λ (bs : List ℕ). IsZeroedFrom c.args.start bs (flat_from (set ps (c.args.start / 262144) c.zero.new.self) 0 s.count)) c.self.view_is
    (zero-flat ps s.count c.args.start c.zero.new.self there.0 c.requires.page (omega (arith, many, c.requires.inside))
    (subst (λ (p : List ℕ). IsZeroedFrom (c.args.start % 262144) p c.zero.new.self) here c.zero.ensures))
