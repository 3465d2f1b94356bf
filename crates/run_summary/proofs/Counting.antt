-- Counts of visits, point by point.
use Rattle.std.proofs.Common.{rules, ◌≡◌, ◌≤◌, ◌<◌, ℕ, ◌+◌, Bool, true, false, cond, ◌&&◌, ◌==◌, nat_le, List, [], ◌∷◌, map, take, length, get_or, set, refl, sym, ap, ap₂, add-zero, ◌∙◌, arith}
use Rattle.std.specs.Prelude.{count_by}
use Rattle.std.specs.List.{list_all, range_with_len}
use Rattle.std.proofs.lemmas.Bool.{le-leb}
use Rattle.std.proofs.lemmas.List.{length-set, length-take, get_or-set_same, get_or-set_other, get_or_read}
use Rattle.std.proofs.lemmas.List.Folds.{fold-map, list_all-map}
use Rattle.std.proofs.lemmas.List.FromFn.{fill_by_all}
use Rattle.std.proofs.lemmas.List.Sums.{count_by-le-length, count_by_more_yes, count_by_more_no}
use Rattle.coz_types.specs.declared.TheConstants.{MAX_COUNT}
use Rattle.coz_types.specs.declared.record.Visit.{Visit}
use Rattle.machines.specs.Shortened.{NetVisit}
use Rattle.machines.specs.KeptVisits.{net_of}
use Rattle.run_summary.specs.Kept.{counts_of}
use Rattle.run_summary.proofs.Hashing.{visit_at}

abbrev is_at : ℕ → Visit → Bool
is_at point visit = visit.point.0 == point

-- n counts, each of its own point's visits
pub record AreCounts (points : ℕ) (visits : List Visit) (counts : List ℕ) : Type 0 where
  pub size : length counts ≡ points
  pub each : (point : ℕ) → point < points → get_or counts point 0 ≡ count_by (is_at point) visits

-- a count is no more than the visits
pub count_fits : (points : ℕ) (visits : List Visit) (counts : List ℕ) (i at n : ℕ) → AreCounts points (take i visits) counts
    → at < points → n ≡ get_or counts at n → n ≤ i
count_fits points visits counts i at n are below read =
    omega (arith, get_or_read counts at n (omega (arith, are.size)) read 0, are.each at below, count_by-le-length (is_at at) (take i visits), length-take i visits)

-- the point of the visit at a place
abbrev pub point_at : List Visit → ℕ → ℕ
point_at visits i = (visit_at visits i).point.0

at_point : (visits : List Visit) (i point : ℕ) (b : Bool) → i < length visits → (point_at visits i == point) ≡ b
    → count_by (is_at point) (take (i + 1) visits) ≡ count_by (is_at point) (take i visits) + cond b 1 0
at_point visits i point true within e = count_by_more_yes (is_at point) visits i _ within e
at_point visits i point false within e = count_by_more_no (is_at point) visits i _ within e ∙ sym (add-zero _)

count_set : (counts : List ℕ) (at n point : ℕ) (b : Bool) → at < length counts → n ≡ get_or counts at n → (at == point) ≡ b
    → get_or (set counts at (n + 1)) point 0 ≡ get_or counts point 0 + cond b 1 0
count_set counts at n point true within read e =
    let same : at ≡ point = search (rules, e) in
    ap (λ (k : ℕ). get_or (set counts at (n + 1)) k 0) (sym same)
    ∙ get_or-set_same counts at (n + 1) 0 within
    ∙ ap (λ (k : ℕ). k + 1) (get_or_read counts at n within read 0 ∙ ap (λ (k : ℕ). get_or counts k 0) same)
count_set counts at n point false within read e = get_or-set_other counts at point (n + 1) 0 (search (rules, e)) ∙ sym (add-zero _)

-- one visit more, of a point whose count was n
pub counted : (points : ℕ) (visits : List Visit) (counts : List ℕ) (i at n : ℕ) → AreCounts points (take i visits) counts
    → i < length visits → at ≡ point_at visits i → at < points → n ≡ get_or counts at n
    → AreCounts points (take (i + 1) visits) (set counts at (n + 1))
counted points visits counts i at n are within is below read = record {
  size = length-set counts at (n + 1) ∙ are.size;
  each = λ point lt.
      count_set counts at n point (at == point) (omega (arith, are.size)) read refl
      ∙ ap (λ (m : ℕ). m + cond (at == point) 1 0) (are.each point lt)
      ∙ sym (at_point visits i point (at == point) within (ap (λ (k : ℕ). k == point) (sym is)));
}

-- a visit of a point that isn't one of n
pub passed : (points : ℕ) (visits : List Visit) (counts : List ℕ) (i at : ℕ) → AreCounts points (take i visits) counts
    → i < length visits → at ≡ point_at visits i → points ≤ at → AreCounts points (take (i + 1) visits) counts
passed points visits counts i at are within is past = record {
  size = are.size;
  each = λ point lt.
      are.each point lt ∙ sym (count_by_more_no (is_at point) visits i _ within (ap (λ (k : ℕ). k == point) (sym is) ∙ search (rules, past, lt)));
}

pub counts_are : (points : ℕ) (visits : List Visit) (counts : List ℕ) → AreCounts points visits counts → counts ≡ counts_of points (map net_of visits)
counts_are points visits counts are =
    fill_by_all (λ (point : ℕ). count_by (λ (visit : NetVisit). visit.point == point) (map net_of visits)) counts points 0 are.size
    (λ point below. are.each point below ∙ sym (fold-map (λ (n : ℕ) (visit : NetVisit). n + cond (visit.point == point) 1 0) net_of 0 visits))

all_pass : (p : ℕ → Bool) → ((n : ℕ) → p n ≡ true) → (ns : List ℕ) → list_all p ns ≡ true
all_pass p each [] = refl
all_pass p each (n ∷ ns) = ap₂ (λ (a b : Bool). a && b) (each n) (all_pass p each ns)

-- so few visits have small counts
pub counts_within : (points : ℕ) (visits : List NetVisit) → length visits ≤ 1048576 → list_all (λ (n : ℕ). nat_le n MAX_COUNT) (counts_of points visits) ≡ true
counts_within points visits few =
    let at : ℕ → ℕ = λ point. count_by (λ (visit : NetVisit). visit.point == point) visits in
    list_all-map (λ (n : ℕ). nat_le n MAX_COUNT) at (range_with_len 0 points)
    ∙ all_pass (λ (point : ℕ). nat_le (at point) MAX_COUNT) (λ point. le-leb _ _ (omega (arith, count_by-le-length (λ (visit : NetVisit). visit.point == point) visits))) (range_with_len 0 points)
