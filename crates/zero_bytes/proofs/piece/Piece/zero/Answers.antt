use Rattle.std.proofs.Common.{ℕ, ◌≡◌, List, length, sym, subst, ap, ◌∙◌}
use Rattle.zero_bytes.specs.Bytes.{IsZeroedFrom}
use Rattle.zero_bytes.proofs.Changed.{changed}
use Rattle.zero_bytes.proofs.Filled.{no_bytes, all_bytes, filled-whole, zero-empty}
use Rattle.zero_bytes.proofs.piece.Piece.zero.Goals as goal

pub returns-then-not-is_empty : goal.returns-then-not-is_empty
returns-then-not-is_empty c =
    let s = c.self.inside in
    let whole = all_bytes c.is_empty.result s.bytes.len s.bytes.items c.is_empty.ensures s.bytes.ok.0 c.if-not-is_empty.true c.self.invariant.0 in
    let many = c.zero_from.ensures.same_length ∙ ap (λ (bs : List ℕ). length bs) c.deref_mut.ensures.value in
    let old : c.deref_mut.result.now ≡ c.args.self.now = c.deref_mut.ensures.value ∙ sym (filled-whole 262144 s.bytes.items whole) ∙ c.self.view_is in
    subst (λ (bs : List ℕ). IsZeroedFrom c.args.at c.args.self.now bs) (sym (changed s.bytes c.zero_from.new.bytes many whole))
    (subst (λ (bs : List ℕ). IsZeroedFrom c.args.at bs c.zero_from.new.bytes) old c.zero_from.ensures)

pub returns-else-not-is_empty : goal.returns-else-not-is_empty
returns-else-not-is_empty c =
    let s = c.self.inside in
    let none = no_bytes c.is_empty.result s.bytes.len s.bytes.items c.is_empty.ensures s.bytes.ok.0 c.if-not-is_empty.false in
    subst (λ (bs : List ℕ). IsZeroedFrom c.args.at bs bs) c.self.view_is (zero-empty 262144 c.args.at s.bytes.items none)
