use Rattle.std.proofs.Common.{ℕ, List, sym, ap, ◌∙◌}
use Rattle.byteorder.specs.Endian.{little_from}
use Rattle.zero_bytes.proofs.Filled.{no_bytes, all_bytes, little-empty, filled-whole}
use Rattle.zero_bytes.proofs.piece.Piece.number.Goals as goal

pub returns-then-is_empty-clause-number : goal.returns-then-is_empty-clause-number
returns-then-is_empty-clause-number c =
    let s = c.self.inside in
    let none = no_bytes c.is_empty.result _ s.bytes.items c.is_empty.ensures s.bytes.ok.0 c.if-is_empty.true in
    sym (ap (λ (bs : List ℕ). little_from c.args.at c.args.size bs) (sym c.self.view_is) ∙ little-empty 262144 c.args.at c.args.size s.bytes.items none)

pub returns-else-is_empty-clause-number : goal.returns-else-is_empty-clause-number
returns-else-is_empty-clause-number c =
    let s = c.self.inside in
    let whole = all_bytes c.is_empty.result _ s.bytes.items c.is_empty.ensures s.bytes.ok.0 c.if-is_empty.false c.self.invariant.0 in
    c.number_of.ensures.number
    ∙ ap (λ (bs : List ℕ). little_from c.args.at c.args.size bs) (c.deref.ensures.value ∙ sym (filled-whole 262144 s.bytes.items whole) ∙ c.self.view_is)
