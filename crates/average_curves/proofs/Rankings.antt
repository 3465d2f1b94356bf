-- The ranking of curves is one.
use Rattle.std.proofs.Common.{◌≡◌, List}
use Rattle.std.specs.Cmp.{IsStrictWeakOrder}
use Rattle.std.specs.Cmp.Lexicographic.{options_total}
use Rattle.std.proofs.lemmas.Cmp.{nat_cmp_total, int_cmp_total, on_total, then_total, back_total}
use Rattle.std.proofs.lemmas.List.Sorted.{ranks_by}
use Rattle.profile_labels.proofs.Sorting.{stable_is_one}
use Rattle.average_curves.specs.Curves.{ranked_curves, ranks_before, IsRanking}
use Rattle.average_curves.specs.declared.curve.AverageCurve.{AverageCurve}

ranks : IsStrictWeakOrder ranks_before
ranks =
    ranks_by
    (then_total (on_total (λ (c : AverageCurve). c.point) nat_cmp_total) (back_total (on_total (λ (c : AverageCurve). c.area) (options_total int_cmp_total))))
    (λ (c : AverageCurve). c)

pub ranked_is : (curves found : List AverageCurve) → IsRanking curves found → found ≡ ranked_curves curves
ranked_is curves found is = stable_is_one ranks_before ranks curves found is.sorted is.stable
