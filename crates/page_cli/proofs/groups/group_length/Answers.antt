use Rattle.std.proofs.Common.{rules, ◌≡◌, ◌-◌, false, length, get_or, sym, ap₂, ◌∙◌, arith}
use Rattle.page_cli.specs.Page.{have_one_point}
use Rattle.profile_labels.proofs.FirstGroups.{group_at, at_place}
use Rattle.page_cli.proofs.groups.group_length.Goals as goal

pub returns-then-not-have_one_point-clause-group : goal.returns-then-not-have_one_point-clause-group
returns-then-not-have_one_point-clause-group c =
    let xs = c.args.curves.now in
    group_at have_one_point c.loop-i.i xs (search rules) (search rules) c.loop-i.invariant (λ d lt.
    let first : get_or xs (c.loop-i.i - 1) d ≡ c.index-curves-i.result = at_place xs (c.loop-i.i - 1) d _ (omega arith) (search rules) in
    let second : get_or xs c.loop-i.i d ≡ c.index-curves-i-in-loop-i.result = at_place xs c.loop-i.i d _ (omega arith) (search rules) in
    let other : c.have_one_point.result ≡ false = search rules in
    ap₂ have_one_point first second ∙ sym c.have_one_point.ensures ∙ other)

pub returns-clause-group : goal.returns-clause-group
returns-clause-group c =
    group_at have_one_point (length c.args.curves.now) c.args.curves.now c.requires (omega arith) (λ k d lt. c.loop-i.invariant k d (omega arith)) (λ d lt. absurd (omega (arith, lt)))
