use Rattle.std.proofs.Common.{◌≡◌, ◌≤◌, ◌+◌, count_by, is_none, sym, ap, subst, ◌∙◌, arith, List, Option, true}
use Rattle.guest_pipes.specs.declared.ends.End.{End}
use Rattle.guest_pipes.specs.Pipes.{PipeMap, can_make, end_of, with_end}
use Rattle.guest_pipes.specs.declared.ends.PipeEnd.TheVariants.{Reading}
use Rattle.guest_pipes.proofs.FreeSlots.{some_free, one_less, two_free}
use Rattle.guest_pipes.proofs.Pipes.make_pipe.Goals as goal

pub open_end-reading-requires-clause-free : goal.open_end-reading-requires-clause-free
open_end-reading-requires-clause-free c =
    let can : can_make c.args.self.now ≡ true = sym c.can_make.ensures ∙ c.if-not-can_make.false in
    let two : 2 ≤ count_by is_none c.self.inside.ends = subst (λ (p : PipeMap). 2 ≤ count_by is_none p.ends) (sym c.self.view_is) (two_free c.args.self.now can) in
    some_free c.self.inside.ends (omega arith)

pub open_end-writing-requires-clause-free : goal.open_end-writing-requires-clause-free
open_end-writing-requires-clause-free c =
    let can : can_make c.args.self.now ≡ true = sym c.can_make.ensures ∙ c.if-not-can_make.false in
    let two : 2 ≤ count_by is_none c.self.inside.ends = subst (λ (p : PipeMap). 2 ≤ count_by is_none p.ends) (sym c.self.view_is) (two_free c.args.self.now can) in
    let less : count_by is_none (with_end (end_of c.free_pipe-pipe.result Reading) c.self.inside.ends) + 1 ≡ count_by is_none c.self.inside.ends = one_less c.self.inside.ends _ (some_free c.self.inside.ends (omega arith)) in
    let same : count_by is_none c.open_end-reading.new.ends ≡ count_by is_none (with_end (end_of c.free_pipe-pipe.result Reading) c.self.inside.ends) = ap (λ (es : List (Option End)). count_by is_none es) c.open_end-reading.ensures.ends in
    some_free c.open_end-reading.new.ends (omega arith)
