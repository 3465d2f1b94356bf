use Rattle.std.proofs.Common.{ℕ, ◌≡◌, ◌+◌, List, length, set, get_or, refl, sym, ap, ◌∙◌, subst, arith}
use Rattle.guest_memory.specs.declared.Page.{Page}
use Rattle.guest_memory.specs.Copies.{AreCopied}
use Rattle.guest_memory.proofs.Copied.{none, copied_more, copied_none}
use Rattle.guest_memory.proofs.copies.copy_pages.Goals as goal
use Rattle.guest_memory.proofs.copies.copy_pages.Goals.{then-pages-index, else-pages-index}

pub loop-index-preserved : goal.loop-index-preserved
loop-index-preserved c = record {
  copied = λ old old_bytes is.
      let before = c.loop-index.invariant.copied old old_bytes is in
      elim c.if-pages-index.branch [
        | then-pages-index w ↦
            let p : Page = get_or c.args.others.now c.loop-index.index none in
            subst (λ (ps : List Page). AreCopied (c.loop-index.index + 1) old c.args.others.now ps old_bytes c.args.from.now c.if-pages-index.bytes) (sym w.pages-is)
            (subst (λ (bs : List ℕ). AreCopied (c.loop-index.index + 1) old c.args.others.now (set c.loop-index.pages c.loop-index.index p) old_bytes c.args.from.now bs) (sym w.bytes-is)
            (copied_more c.loop-index.index old c.args.others.now c.loop-index.pages old_bytes c.args.from.now c.loop-index.bytes w.copy_page.new.self p none
            before (omega (arith, before.same_pages)) refl w.if-pages-index.true (omega (arith, before.same_pages)) w.copy_page.ensures))
        | else-pages-index w ↦
            subst (λ (ps : List Page). AreCopied (c.loop-index.index + 1) old c.args.others.now ps old_bytes c.args.from.now c.if-pages-index.bytes) (sym w.pages-is)
            (subst (λ (bs : List ℕ). AreCopied (c.loop-index.index + 1) old c.args.others.now c.loop-index.pages old_bytes c.args.from.now bs) (sym w.bytes-is)
            (copied_none c.loop-index.index old c.args.others.now c.loop-index.pages old_bytes c.args.from.now c.loop-index.bytes none
            before (omega (arith, before.same_pages)) w.if-pages-index.false (omega (arith, before.same_pages))))
      ];
  same_bytes = elim c.if-pages-index.branch [
    | then-pages-index w ↦ ap (λ (bs : List ℕ). length bs) w.bytes-is ∙ w.copy_page.ensures.same_length ∙ c.loop-index.invariant.same_bytes
    | else-pages-index w ↦ ap (λ (bs : List ℕ). length bs) w.bytes-is ∙ c.loop-index.invariant.same_bytes
  ];
}

pub returns-clause-copied : goal.returns-clause-copied
returns-clause-copied c = λ old old_bytes is.
    let end : c.loop-index.index ≡ c.args.end = omega arith in
    subst (λ (n : ℕ). AreCopied n old c.args.others.now c.loop-index.pages old_bytes c.args.from.now c.loop-index.bytes) end (c.loop-index.invariant.copied old old_bytes is)
