use Rattle.std.proofs.Common.{ℕ, ◌≡◌, ◌/◌, ◌%◌, List, [], length, get_or, set, arith, sym, subst, ap, ◌∙◌}
use Rattle.std.proofs.lemmas.List.{get_or_default}
use Rattle.zero_bytes.specs.Bytes.{IsCopiedAt}
use Rattle.zero_bytes.specs.Pieces.{flat_from}
use Rattle.zero_bytes.proofs.Flat.{length-flat, piece_size, copy-flat}
use Rattle.zero_bytes.proofs.Bytes.copy_page.Goals as goal

pub index_mut-requires : goal.index_mut-requires
index_mut-requires c =
    let s = c.self.inside in
    let ps = s.pieces.items in
    let many : length c.args.self.now ≡ s.count = ap (λ (bs : List ℕ). length bs) (sym c.self.view_is) ∙ length-flat ps s.count in
    let there = piece_size ps s.count c.args.start c.self.invariant (omega (arith, many, c.requires.inside)) in
    omega (arith, there.0, s.pieces.ok.0)

pub index-requires : goal.index-requires
index-requires c =
    let s = c.self.inside in
    let ps = s.pieces.items in
    let many : length c.args.self.now ≡ s.count = ap (λ (bs : List ℕ). length bs) (sym c.self.view_is) ∙ length-flat ps s.count in
    let there = piece_size ps s.count c.args.start c.self.invariant (omega (arith, many, c.requires.inside)) in
    let o = c.other.inside in
    let others = o.pieces.items in
    let most : length c.args.other.now ≡ o.count = ap (λ (bs : List ℕ). length bs) (sym c.other.view_is) ∙ length-flat others o.count in
    let held = piece_size others o.count c.args.start c.other.invariant (omega (arith, most, c.requires.inside, c.requires.same_length)) in
    omega (arith, held.0, o.pieces.ok.0)

pub returns : goal.returns
returns c =
    let s = c.self.inside in
    let ps = s.pieces.items in
    let many : length c.args.self.now ≡ s.count = ap (λ (bs : List ℕ). length bs) (sym c.self.view_is) ∙ length-flat ps s.count in
    let there = piece_size ps s.count c.args.start c.self.invariant (omega (arith, many, c.requires.inside)) in
    let o = c.other.inside in
    let others = o.pieces.items in
    let most : length c.args.other.now ≡ o.count = ap (λ (bs : List ℕ). length bs) (sym c.other.view_is) ∙ length-flat others o.count in
    let held = piece_size others o.count c.args.start c.other.invariant (omega (arith, most, c.requires.inside, c.requires.same_length)) in
    let here : c.index_mut.result.now ≡ get_or ps (c.args.start / 262144) [] = c.index_mut.ensures.value ∙ get_or_default ps (c.args.start / 262144) c.index_mut.result.now [] there.0 in
    let from : c.index.result.now ≡ get_or others (c.args.start / 262144) [] = c.index.ensures ∙ get_or_default others (c.args.start / 262144) c.index.result.now [] held.0 in
    subst (λ (bs : List ℕ). IsCopiedAt c.args.start bs c.args.other.now (flat_from (set ps (c.args.start / 262144) c.copy_page.new.self) 0 s.count)) c.self.view_is
    (subst (λ (bs : List ℕ). IsCopiedAt c.args.start (flat_from ps 0 s.count) bs (flat_from (set ps (c.args.start / 262144) c.copy_page.new.self) 0 s.count)) c.other.view_is
    (copy-flat ps others s.count o.count c.args.start c.copy_page.new.self there.0 c.requires.page (omega (arith, many, c.requires.inside)) (omega (arith, most, c.requires.inside, c.requires.same_length))
    (subst (λ (p : List ℕ). IsCopiedAt (c.args.start % 262144) p (get_or others (c.args.start / 262144) []) c.copy_page.new.self) here
    (subst (λ (p : List ℕ). IsCopiedAt (c.args.start % 262144) c.index_mut.result.now p c.copy_page.new.self) from c.copy_page.ensures))))
