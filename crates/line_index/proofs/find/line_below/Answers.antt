use Rattle.std.proofs.Common.{ℕ, ◌≤◌, List, length, subst}
use Rattle.line_index.specs.declared.endings.Ending.{Ending}
use Rattle.line_index.specs.Keys.{texts}
use Rattle.line_index.specs.Backwards.{IsStretch}
use Rattle.line_index.specs.Endings.{IsBetween, IsLeast}
use Rattle.line_index.proofs.Ranking.{StartsAt, below_is}
use Rattle.line_index.proofs.find.line_below.Goals as goal

pub returns : goal.returns
returns c = λ keys holds.
    below_is (texts c.args.paths.now) keys c.args.path.now c.args.number c.args.endings.now c.stretch_of-stretch.result.start c.stretch_of-stretch.result.end c.start_of-start.result c.start_of-end.result c.first_between.result holds
    (subst (λ (list : List ℕ). IsStretch (texts c.args.paths.now) list c.args.path.now c.stretch_of-stretch.result.start c.stretch_of-stretch.result.end) c.deref.ensures.value c.stretch_of-stretch.ensures)
    (subst (λ (list : List Ending). StartsAt list c.args.number c.stretch_of-stretch.result.start c.start_of-start.result) c.deref-2.ensures.value c.start_of-start.ensures.parted)
    (subst (λ (list : List Ending). StartsAt list c.args.number c.stretch_of-stretch.result.end c.start_of-end.result) c.deref-3.ensures.value c.start_of-end.ensures.parted)
    (subst (λ (list : List Ending). c.start_of-end.result ≤ length list) c.deref-3.ensures.value c.start_of-end.ensures.bound)
    (subst (λ (list : List Ending). IsLeast (IsBetween list c.start_of-start.result c.start_of-end.result) c.first_between.result) c.deref-4.ensures.value c.first_between.ensures)
