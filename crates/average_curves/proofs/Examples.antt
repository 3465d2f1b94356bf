-- Examples: the order of curves, and what is rough.
use Rattle.std.proofs.Common.{◌≡◌, [], ◌∷◌, Some, None, true, false, pos, codes, refl}
use Rattle.average_curves.specs.declared.curve.AverageCurve.{AverageCurve}
use Rattle.average_curves.specs.declared.curve.Exactness.TheVariants.{Absent, Smooth}
use Rattle.average_curves.specs.Curves.{differ_if, ranks_before}

-- the mean of 244, -207 and 131 at speedup 50, against a base of three runs
abbrev fifth_line : AverageCurve
fifth_line = record {
  point = 0;
  selected = codes "two.s:5";
  area = Some (pos 56);
  error = Some 191;
  cost = Some 225;
  exact = Absent;
  steps = record { speedup = 0; value = Some (pos 0); error = Some 0 } ∷ record { speedup = 50; value = Some (pos 56); error = Some 191 } ∷ [];
}

-- no visits
abbrev silent_line : AverageCurve
silent_line = record {
  point = 0;
  selected = codes "two.s:9";
  area = None;
  error = None;
  cost = Some 0;
  exact = Smooth;
  steps = record { speedup = 50; value = None; error = None } ∷ [];
}

-- an absent area comes last
absent_last : ranks_before fifth_line silent_line ≡ true
absent_last = refl

never_first : ranks_before silent_line fifth_line ≡ false
never_first = refl

-- 700 and 56 differ by more than three errors of 191; 600 does not, and what is absent differs from nothing
rough_by_644 : differ_if (Some (pos 700)) (Some (pos 56)) (Some 191) ≡ true
rough_by_644 = refl

smooth_by_544 : differ_if (Some (pos 600)) (Some (pos 56)) (Some 191) ≡ false
smooth_by_544 = refl

smooth_if_absent : differ_if None (Some (pos 56)) (Some 191) ≡ false
smooth_if_absent = refl
