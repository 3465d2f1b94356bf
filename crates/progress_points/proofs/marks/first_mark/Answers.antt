use Rattle.std.proofs.Common.{sym, ◌∙◌}
use Rattle.progress_points.proofs.Searching.{below_first, above_last, all_below, found_there, not_there}
use Rattle.progress_points.proofs.marks.first_mark.Goals as goal

pub returns-then-address-first : goal.returns-then-address-first
returns-then-address-first c = sym (below_first c.args.address c.args.marks.now c.in_ok-first.first.now c.requires (sym c.in_ok-first.ensures.value) c.if-address-first.true)

pub returns-then-last-address : goal.returns-then-last-address
returns-then-last-address c = sym (above_last c.args.address c.args.marks.now c.in_ok-last.last.now c.requires (sym c.in_ok-last.ensures.value) c.if-last-address.true)

pub returns-in_err-mark : goal.returns-in_err-mark
returns-in_err-mark c = c.from_residual-in_err-mark.ensures ∙ sym (all_below c.args.address c.args.marks.now c.place_of.result c.place_of.ensures c.in_err-mark.ensures.lookup.3)

pub returns-then-mark-address : goal.returns-then-mark-address
returns-then-mark-address c =
    let found = c.in_ok-mark.ensures.lookup in
    sym (found_there c.args.address c.args.marks.now c.place_of.result c.in_ok-mark.mark.now c.place_of.ensures found.3.0 found.1 c.if-mark-address.true)

pub returns-else-mark-address : goal.returns-else-mark-address
returns-else-mark-address c =
    let found = c.in_ok-mark.ensures.lookup in
    sym (not_there c.args.address c.args.marks.now c.place_of.result c.in_ok-mark.mark.now c.requires c.place_of.ensures found.3.0 found.1 c.if-mark-address.false)
