use Rattle.std.specs.List.{AllWithin}
use Rattle.profile_join.specs.Parts.{CameAs}
use Rattle.std.proofs.Common.{Some}
use Rattle.profile_join.proofs.likeness.baselines_agree.Given as goal

abbrev pub invariant-loop-i : goal.invariant-loop-i
invariant-loop-i l = AllWithin (CameAs (Some l.first)) l.summaries 0 l.i
