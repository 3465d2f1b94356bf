use Rattle.std.proofs.Common.{rules, ◌≡◌, sym, subst}
use Rattle.average_curves.specs.declared.averaged.Averaged.{Averaged}
use Rattle.average_curves.specs.Curves.{IsAveraged}
use Rattle.average_parts.specs.Likeness.{averaged_of, count_points, count_runs, first_full}
use Rattle.average_parts.proofs.Roles.{averaged_sound}
use Rattle.average_parts.proofs.chosen.averaged_of.Goals as goal

pub returns-clause-sound : goal.returns-clause-sound
returns-clause-sound c =
    let parts = c.args.parts.items in
    let found : Averaged = record { profiles = c.new.result; seeds = c.len-count.result; exact = c.in_ok-seeds.field-0.exact } in
    let is : found ≡ averaged_of parts = search rules in
    subst IsAveraged (sym is) (averaged_sound parts (count_points parts) (count_runs (first_full parts)) c.requires.right c.requires.like c.requires.few)
