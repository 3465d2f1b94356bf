-- Marks of the lines of regions.
use Rattle.std.proofs.Common.{◌≡◌, ℕ, ◌+◌, ◌<◌, ◌≤◌, ◌↔◌, Bool, true, false, List, [], ◌∷◌, ◌++◌, length, take, get_or, map, find, slice_get, Option, Some, None, option_map, IfSome, refl, sym, ap, ap₂, ◌∙◌, subst, arith, cond, if◌then◌else◌}
use Rattle.std.specs.Prelude.{All, option_and_then}
use Rattle.std.specs.List.{AllByRecursion, cons_option, filter_map, range_with_len}
use Rattle.std.proofs.lemmas.List.{map-append, take_more}
use Rattle.std.proofs.lemmas.List.Elements.{filter_map-append, recursion_from_All}
use Rattle.std.proofs.lemmas.List.FromFn.{map-range_with_len_more}
use Rattle.std.proofs.lemmas.Option.{slice_get-get_or}
use Rattle.line_index.specs.Changes.{or_else}
use Rattle.line_index.specs.Lines.{Line}
use Rattle.line_remap.specs.declared.location.Location.{Location}
use Rattle.line_regions.specs.declared.lines.Region.{Region as coded}
use Rattle.line_remap.specs.Locations.{line_of_location}
use Rattle.line_regions.specs.Lines.{IsSpan, first_number, line_in, lines_at, mark_with, number_at}
use Rattle.line_remap.specs.Marks.{Mark, has_zero}
use Rattle.line_regions.specs.Regions.{Region, is_in, region_line, region_mark, region_marks, region_of, regions_of}
use Rattle.line_regions.proofs.Spans.{line_there, many}

-- ---- the number of the first region

abbrev own_number : Region → Line → Option ℕ
own_number region line = if is_in region line then Some region.first else None

-- with one region more
first_number_more : (regions : List Region) (region : Region) (line : Line) → first_number (regions ++ region ∷ []) line ≡ or_else (first_number regions line) (own_number region line)
first_number_more [] region line = by (is_in region line)
  where
    by : (t : Bool) → option_map (λ (r : Region). r.first) (cond t (Some region) None) ≡ (if t then Some region.first else None)
    by true = refl
    by false = refl
first_number_more (r ∷ regions) region line = by (is_in r line) (first_number_more regions region line)
  where
    by : (t : Bool) → first_number (regions ++ region ∷ []) line ≡ or_else (first_number regions line) (own_number region line)
        → option_map (λ (r : Region). r.first) (cond t (Some r) (find (λ r. is_in r line) (regions ++ region ∷ []))) ≡ or_else (option_map (λ (r : Region). r.first) (cond t (Some r) (find (λ r. is_in r line) regions))) (own_number region line)
    by true more = refl
    by false more = more

or_none : (o : Option ℕ) → o ≡ or_else o None
or_none None = refl
or_none (Some x) = refl

-- the numbers after one region more
pub one_region : (locations : List Location) (regions : List coded) (i : ℕ) (r : coded) (old new : List (Option ℕ)) (start end : ℕ) → i < length regions → r ≡ get_or regions i r
    → ((k : ℕ) → k < length locations → number_at old k ≡ first_number (regions_of (take i regions)) (line_in (lines_at locations) k))
    → IsSpan (lines_at locations) (region_of r) start end
    → ((k : ℕ) → start ≤ k → k < end → number_at new k ≡ or_else (number_at old k) (Some r.first))
    → ((k : ℕ) → (start ≤ k → k < end → ⊥) → number_at new k ≡ number_at old k)
    → (k : ℕ) → k < length locations → number_at new k ≡ first_number (regions_of (take (i + 1) regions)) (line_in (lines_at locations) k)
one_region locations regions i r old new start end lt is before span within others k less =
    by (is_in region line) refl
    ∙ sym (first_number_more (regions_of (take i regions)) region line)
    ∙ ap (λ rs. first_number rs line) (sym (map-append region_of (take i regions) (r ∷ [])))
    ∙ ap (λ (rs : List coded). first_number (regions_of rs) line) (sym (take_more regions i r lt ∙ ap (λ (x : coded). take i regions ++ x ∷ []) (sym is)))
  where
    region : Region
    region = region_of r

    line : Line
    line = line_in (lines_at locations) k

    here : (k : ℕ) → k < length locations → ((start ≤ k) × (k < end)) ↔ (is_in region (line_in (lines_at locations) k) ≡ true)
    here k less = span k (record { path = []; number = 0 }) (omega (arith, less, many locations))

    by : (t : Bool) → is_in region line ≡ t → number_at new k ≡ or_else (first_number (regions_of (take i regions)) line) (own_number region line)
    by true e =
        let inside = (here k less).1 e in
        within k inside.0 inside.1
        ∙ ap (λ o. or_else o (Some r.first)) (before k less)
        ∙ ap (λ (t : Bool). or_else (first_number (regions_of (take i regions)) line) (if t then Some region.first else None)) (sym e)
    by false e =
        others k (λ from less_end. let no : true ≡ false = sym ((here k less).0 (from, less_end)) ∙ e in let none : ⊥ = cc in none)
        ∙ before k less
        ∙ or_none (first_number (regions_of (take i regions)) line)
        ∙ ap (λ (t : Bool). or_else (first_number (regions_of (take i regions)) line) (if t then Some region.first else None)) (sym e)

numbered : (regions : List coded) → AllByRecursion (λ (r : coded). 0 < r.first) regions → (line : Line) → IfSome (first_number (regions_of regions) line) (λ n. 0 < n)
numbered [] all line = tt
numbered (r ∷ regions) all line = by (is_in (region_of r) line) (numbered regions all.1 line)
  where
    by : (t : Bool) → IfSome (first_number (regions_of regions) line) (λ n. 0 < n) → IfSome (option_map (λ (r : Region). r.first) (cond t (Some (region_of r)) (find (λ r. is_in r line) (regions_of regions)))) (λ n. 0 < n)
    by true more = all.0
    by false more = more

-- the number of a region that begins above 0
pub some_number : (regions : List coded) → All (λ (r : coded). 0 < r.first) regions → (line : Line) (number : Option ℕ) → number ≡ first_number (regions_of regions) line → IfSome number (λ n. 0 < n)
some_number regions all line number is = subst (λ (o : Option ℕ). IfSome o (λ n. 0 < n)) (sym is) (numbered regions (recursion_from_All (λ (r : coded). 0 < r.first) regions all) line)

-- ---- marks

range_more : (n : ℕ) → range_with_len 0 (n + 1) ≡ range_with_len 0 n ++ n ∷ []
range_more n = sym (same (range_with_len 0 (n + 1))) ∙ map-range_with_len_more (λ k. k) 0 n n (omega arith) ∙ ap (λ ns. ns ++ n ∷ []) (same (range_with_len 0 n))
  where
    same : (ns : List ℕ) → map (λ k. k) ns ≡ ns
    same [] = refl
    same (m ∷ ns) = ap (λ ms. m ∷ ms) (same ns)

-- the mark of the line of a location
mark_by : (location : Location) (k : ℕ) (regions : List Region) → mark_with location k (first_number regions (line_of_location location))
    ≡ cons_option (option_map (λ line. let m : Mark = record { position = k; line = line } in m) (region_line regions (line_of_location location))) []
mark_by location k regions = by (has_zero location.path.now) (find (λ region. is_in region (line_of_location location)) regions)
  where
    made : Option ℕ → Bool → List Mark
    made number t = elim number [
      | None ↦ []
      | Some number ↦ cond t [] (record { position = k; line = record { path = location.path.now; number = number } } ∷ [])
    ]

    by : (t : Bool) (found : Option Region) → made (option_map (λ (r : Region). r.first) found) t ≡ cons_option (option_map (λ line. let m : Mark = record { position = k; line = line } in m) (cond t None (option_map (λ (r : Region). record (line_of_location location) { number = r.first }) found))) []
    by true None = refl
    by true (Some r) = refl
    by false None = refl
    by false (Some r) = refl

-- one line more
pub one_mark : (locations : List Location) (regions : List Region) (k : ℕ) (location : Location) (number : Option ℕ) (old new : List Mark) → k < length locations → location ≡ get_or locations k location → number ≡ first_number regions (line_in (lines_at locations) k)
    → old ≡ filter_map (region_mark (lines_at locations) regions) (range_with_len 0 k) → new ≡ old ++ mark_with location k number
    → new ≡ filter_map (region_mark (lines_at locations) regions) (range_with_len 0 (k + 1))
one_mark locations regions k location number old new lt is numbers before made =
    let zero_line : Line = record { path = []; number = 0 } in
    let there : line_in (lines_at locations) k ≡ line_of_location location = line_there locations k location zero_line lt ∙ ap line_of_location (sym is) in
    let got : slice_get (lines_at locations) k ≡ Some (line_of_location location) = slice_get-get_or (lines_at locations) k zero_line (omega (arith, lt, many locations)) ∙ ap (λ (l : Line). Some l) there in
    made
    ∙ ap₂ (λ (ms : List Mark) (n : Option ℕ). ms ++ mark_with location k n) before (numbers ∙ ap (first_number regions) there)
    ∙ ap (λ (ms : List Mark). filter_map (region_mark (lines_at locations) regions) (range_with_len 0 k) ++ ms)
    (mark_by location k regions ∙ ap (λ (o : Option Line). cons_option (option_map (λ line. let m : Mark = record { position = k; line = line } in m) (option_and_then (region_line regions) o)) []) (sym got))
    ∙ sym (filter_map-append (region_mark (lines_at locations) regions) (range_with_len 0 k) (k ∷ []))
    ∙ ap (filter_map (region_mark (lines_at locations) regions)) (sym (range_more k))

pub all_marks : (locations : List Location) (regions : List Region) (n : ℕ) (marks : List Mark) → n ≡ length locations → marks ≡ filter_map (region_mark (lines_at locations) regions) (range_with_len 0 n) → marks ≡ region_marks (lines_at locations) regions
all_marks locations regions n marks is so_far = so_far ∙ ap (λ (m : ℕ). filter_map (region_mark (lines_at locations) regions) (range_with_len 0 m)) (is ∙ sym (many locations))
