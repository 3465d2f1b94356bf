use Rattle.std.proofs.Common.{ℕ, ◌≡◌, List, length, sym, subst, ap, ◌∙◌}
use Rattle.zero_bytes.specs.Bytes.{IsCopiedAt}
use Rattle.zero_bytes.proofs.Changed.{changed}
use Rattle.zero_bytes.proofs.Filled.{no_bytes, all_bytes, filled-whole, copied-empty}
use Rattle.zero_bytes.proofs.piece.Piece.copy_page.Goals as goal

pub returns-then-is_empty : goal.returns-then-is_empty
returns-then-is_empty c =
    let o = c.other.inside in
    let none = no_bytes c.is_empty.result o.bytes.len o.bytes.items c.is_empty.ensures o.bytes.ok.0 c.if-is_empty.true in
    subst (λ (bs : List ℕ). IsCopiedAt c.args.at c.args.self.now bs c.zero.new.self) c.other.view_is
    (copied-empty 262144 c.args.at c.args.self.now o.bytes.items c.zero.new.self none c.zero.ensures)

pub returns-else-is_empty : goal.returns-else-is_empty
returns-else-is_empty c =
    let o = c.other.inside in
    let held = c.fill.new.bytes in
    let whole = all_bytes c.is_empty.result o.bytes.len o.bytes.items c.is_empty.ensures o.bytes.ok.0 c.if-is_empty.false c.other.invariant.0 in
    let many = c.copy_bytes.ensures.same_length ∙ ap (λ (bs : List ℕ). length bs) c.deref_mut.ensures.value in
    let old : c.deref_mut.result.now ≡ c.args.self.now = c.deref_mut.ensures.value ∙ c.fill.ensures.bytes ∙ c.self.view_is in
    let from : c.deref.result.now ≡ c.args.other.now = c.deref.ensures.value ∙ sym (filled-whole 262144 o.bytes.items whole) ∙ c.other.view_is in
    subst (λ (bs : List ℕ). IsCopiedAt c.args.at c.args.self.now c.args.other.now bs) (sym (changed held c.copy_bytes.new.bytes many c.fill.ensures.whole))
    (subst (λ (bs : List ℕ). IsCopiedAt c.args.at bs c.args.other.now c.copy_bytes.new.bytes) old
    (subst (λ (bs : List ℕ). IsCopiedAt c.args.at c.deref_mut.result.now bs c.copy_bytes.new.bytes) from c.copy_bytes.ensures))
