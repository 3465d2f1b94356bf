use Rattle.std.proofs.Common.{◌∙◌, sym}
use Rattle.plain_run.specs.Noting.{IsLeft}
use Rattle.plain_run.proofs.Walking.{done, few_harts, few_now, left_done}
use Rattle.plain_run.proofs.run.run_engine.Goals as goal

pub left_by-requires-clause-harts : goal.left_by-requires-clause-harts
left_by-requires-clause-harts c =
    let first = c.requires.first in
    few_harts first.image first.input _ _ _ (c.walk.ensures.walked first.image first.input first.first)

pub left_by-requires-clause-few : goal.left_by-requires-clause-few
left_by-requires-clause-few c =
    let first = c.requires.first in
    few_now first.image first.input _ _ _ (c.walk.ensures.walked first.image first.input first.first)

pub returns : goal.returns
returns c =
    left_done c.left_by.result (IsLeft c.walk.new.engine c.walk.new.waits c.in-Some.ending) _
    (λ left made. λ image input first. done image input _ _ _ (c.walk.ensures.walked image input first) c.in-Some.ending (sym c.ending.ensures ∙ c.in-Some.is) left made) c.left_by.ensures
