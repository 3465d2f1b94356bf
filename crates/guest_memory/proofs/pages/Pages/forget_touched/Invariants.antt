use Rattle.std.proofs.Common.{ℕ, ◌≡◌, ◌<◌, false, get_or}
use Rattle.guest_memory.specs.declared.Page.{Page}
use Rattle.guest_memory.specs.Marks.{rights_of}
use Rattle.guest_memory.proofs.pages.Pages.forget_touched.Given as goal

abbrev pub invariant-loop-page : goal.invariant-loop-page
invariant-loop-page l = record {
  rights : rights_of l.page-items ≡ rights_of l.initial.page-items;
  clear : (k : ℕ) (d : Page) → k < l.page-index → (get_or l.page-items k d).touched ≡ false;
}
