-- The blocks of other lines are no runs of this line.
use Rattle.std.proofs.Common.{Bool, ◌&&◌, ◌==◌, nat_lt, cond, find, Some, ap}
use Rattle.coz_types.specs.Labels.{Text}
use Rattle.coz_types.specs.declared.record.Summary.{Summary}
use Rattle.page_values.specs.Cost.{is_base, is_sped}
use Rattle.page_values.proofs.Along.{SkipsOthers}

abbrev pub block_label : Summary → Text
block_label s = s.selected

pub skips_base : (q : Text) → SkipsOthers block_label q (find (is_base q))
skips_base q x xs other = ap (λ (b : Bool). cond (b && x.speedup == 0) (Some x) (find (is_base q) xs)) other

pub skips_sped : (q : Text) → SkipsOthers block_label q (find (is_sped q))
skips_sped q x xs other = ap (λ (b : Bool). cond (b && nat_lt 0 x.speedup) (Some x) (find (is_sped q) xs)) other
