-- The lines that are named, one after the other.
use Rattle.std.proofs.Common.{◌≡◌, ℕ, zero, suc, ◌+◌, ◌<◌, List, [], ◌∷◌, ◌++◌, map, length, Bool, cond, refl, sym, ap, ◌∙◌, subst, arith}
use Rattle.std.specs.Prelude.{Result, Ok, Err, IfOk, get_or, ◌==◌}
use Rattle.std.specs.declared.cmp.Ordering.TheVariants.{Less, Equal, Greater}
use Rattle.std.specs.List.{All, AllByRecursion, range_with_len, slice_index_or}
use Rattle.std.specs.List.Sorted.{IsStrictlySortedBy}
use Rattle.std.specs.Ordering.{nat_cmp}
use Rattle.std.proofs.lemmas.Bool.{lt-ltb}
use Rattle.std.proofs.lemmas.List.{map-append}
use Rattle.std.proofs.lemmas.List.Elements.{All-map}
use Rattle.std.proofs.lemmas.List.FromFn.{map-range_with_len_more, get_or-range_with_len, length-range_with_len}
use Rattle.coz_types.specs.declared.LineId.{LineId}
use Rattle.line_index.specs.Index.{Index}
use Rattle.progress_points.specs.Points.{Points, IsPoints}
use Rattle.experiment_plan.specs.Selected.{id_of, ids}
use Rattle.program_load.specs.declared.fault.Fault.{Fault}

-- ---- all lines

range_more : (n : ℕ) → range_with_len 0 (n + 1) ≡ range_with_len 0 n ++ n ∷ []
range_more n = sym (same (range_with_len 0 (n + 1))) ∙ map-range_with_len_more (λ k. k) 0 n n (omega arith) ∙ ap (λ ns. ns ++ n ∷ []) (same (range_with_len 0 n))
  where
    same : (ns : List ℕ) → map (λ k. k) ns ≡ ns
    same [] = refl
    same (m ∷ ns) = ap (λ ms. m ∷ ms) (same ns)

-- one line more
pub one_line : (lines new : List LineId) (n : ℕ) → ids lines ≡ range_with_len 0 n → new ≡ lines ++ record { 0 = n } ∷ [] → ids new ≡ range_with_len 0 (n + 1)
one_line lines new n are is =
    ap ids is ∙ map-append id_of lines (record { 0 = n } ∷ []) ∙ ap (λ ns. ns ++ n ∷ []) are ∙ sym (range_more n)

less : (x y : ℕ) → x < y → nat_cmp x y ≡ Less
less x y lt = ap (λ (b : Bool). cond b Less (cond (x == y) Equal Greater)) (lt-ltb x y lt)

pub range_rises : (a n : ℕ) → IsStrictlySortedBy nat_cmp (range_with_len a n)
unfolding IsStrictlySortedBy
range_rises a zero = tt
range_rises a (suc n) = (above a (a + 1) n (omega arith), range_rises (a + 1) n)
  where
    above : (x a n : ℕ) → x < a → AllByRecursion (λ y. nat_cmp x y ≡ Less) (range_with_len a n)
    above x a zero lt = tt
    above x a (suc n) lt = (less x a lt, above x (a + 1) n (omega (arith, lt)))

-- each is below their number
pub all_below : (lines : List LineId) (n : ℕ) → ids lines ≡ range_with_len 0 n → All (λ (line : LineId). line.0 < n) lines
all_below lines n are = λ k d below.
    let within : k < n = omega (arith, below, same_length) in
    let is : 0 + k ≡ k = omega arith in
    subst (λ (m : ℕ). m < n) (sym (at k d below ∙ ap (λ (ns : List ℕ). get_or ns k d.0) are ∙ get_or-range_with_len 0 n k d.0 within ∙ is)) within
  where
    same_length : length lines ≡ n
    same_length = sym (mapped lines) ∙ ap length are ∙ length-range_with_len 0 n
      where
        mapped : (ls : List LineId) → length (ids ls) ≡ length ls
        mapped [] = refl
        mapped (l ∷ ls) = ap suc (mapped ls)

    at : (k : ℕ) (d : LineId) → k < length lines → (slice_index_or lines k d).0 ≡ get_or (ids lines) k d.0
    at k d below = go lines k
      where
        go : (ls : List LineId) (k : ℕ) → (slice_index_or ls k d).0 ≡ get_or (ids ls) k d.0
        go [] k = refl
        go (l ∷ ls) zero = refl
        go (l ∷ ls) (suc k) = go ls k

-- ---- labels of points

-- ---- points

-- the lines of points that were made of lines
pub points_below : (index : Index) (lines found : List LineId) (made : Result Points Fault) → found ≡ lines → All (λ (line : LineId). line.0 < length index.lines) lines
    → IfOk made (IsPoints index (ids found)) → IfOk made (λ points. All (λ line. line < length index.lines) points.lines)
points_below index lines found (Err fault) same all is = tt
points_below index lines found (Ok points) same all is =
    subst (All (λ line. line < length index.lines)) (sym (is.lines ∙ ap ids same)) (All-map (λ n. n < length index.lines) id_of lines all)
