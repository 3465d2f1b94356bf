use Rattle.std.proofs.Common.{ℕ, ◌≡◌, ◌<◌, List, true, false, length, get_or, set, subst, refl, sym, ap, ◌∙◌, ⊎_elim, arith}
use Rattle.std.proofs.lemmas.Bool.{both_ways, cases_eq}
use Rattle.std.proofs.lemmas.List.{with_items_is, get_or-set_other, get_or-set_same}
use Rattle.guest_memory.specs.declared.Page.{Page}
use Rattle.guest_memory.specs.Marks.{AreMarked, AreClean}
use Rattle.guest_memory.specs.Memory.{no_rights}
use Rattle.guest_memory.proofs.Pieces.{rights-set_same}
use Rattle.guest_memory.proofs.pages.Pages.forget_touched.Goals as goal

pub loop-page-preserved : goal.loop-page-preserved
loop-page-preserved c =
    let d : Page = record { rights = no_rights; touched = false } in
    let inside : c.loop-page.page-index < length c.loop-page.page-items = omega arith in
    let p : Page = record { rights = (get_or c.loop-page.page-items c.loop-page.page-index d).rights; touched = false } in
    record {
      rights = rights-set_same c.loop-page.page-items c.loop-page.page-index p d refl ∙ c.loop-page.invariant.rights;
      clear = λ k e below.
          ⊎_elim
          (λ (s : k ≡ c.loop-page.page-index).
          ap (λ (q : ℕ). (get_or (set c.loop-page.page-items c.loop-page.page-index p) q e).touched) s
          ∙ ap (λ (q : Page). q.touched) (get_or-set_same c.loop-page.page-items c.loop-page.page-index p e inside))
          (λ (n : k ≡ c.loop-page.page-index → ⊥).
          ap (λ (q : Page). q.touched) (get_or-set_other c.loop-page.page-items c.loop-page.page-index k p e n) ∙ c.loop-page.invariant.clear k e (omega arith))
          (cases_eq k c.loop-page.page-index);
    }

pub invariant_of-self : goal.invariant_of-self
invariant_of-self c =
    let s = c.args.self.now in
    let same : length c.loop-page.page-items ≡ length s.each.items = c.loop-page.auto.page-items ∙ ap (λ (ps : List Page). length ps) c.deref_mut-page-items.ensures.value in
    let items = with_items_is s.each c.loop-page.page-items (same ∙ sym s.each.ok.0) in
    let clear : AreMarked c.loop-page.page-items c.fill.new.self.items = record {
      many = omega (arith, c.fill.ensures.len, s.marked.many);
      marked = λ k d below touched. absurd (both_ways (get_or c.loop-page.page-items k d).touched (c.loop-page.invariant.clear k d (omega arith)) touched);
    } in
    let clean : AreClean s.code s.code_end true c.loop-page.page-items = λ k d whole from to below. c.loop-page.invariant.clear k d (omega arith) in record {
      marked = subst (λ (ps : List Page). AreMarked ps c.fill.new.self.items) (sym items) clear;
      clean = subst (λ (ps : List Page). AreClean s.code s.code_end true ps) (sym items) clean;
    }
