-- The lines of a region stand side by side.
use Rattle.std.proofs.Common.{◌≡◌, ℕ, ◌<◌, ◌≤◌, ⊎_elim, inl, inr, Bool, true, false, ◌&&◌, List, [], length, get_or, Ordering, refl, sym, ap, ◌∙◌, arith, nat_le, le-leb, leb-true}
use Rattle.std.specs.Prelude.{AllPairs, bytes_eq}
use Rattle.std.specs.declared.cmp.Ordering.TheVariants.{Less, Equal, Greater}
use Rattle.std.specs.Ordering.{nat_cmp, ordering_then, ordering_reverse, is_lt, is_le, is_eq}
use Rattle.std.specs.Cmp.{IsTotalOrder, nat_cmp_total, on_total, then_total}
use Rattle.std.specs.Cmp.Lexicographic.{slice_cmp, nat_list_cmp_total}
use Rattle.std.specs.List.Sorted.{IsPartitionPoint, IsPartitionedBy}
use Rattle.std.proofs.lemmas.Bool.{and_parts, and_from, cases_eq, cases_lt}
use Rattle.std.proofs.lemmas.Cmp.{ranked}
use Rattle.std.proofs.lemmas.List.{get_or-map, length-map}
use Rattle.std.proofs.lemmas.Map.Text.{is_eq-slice_cmp}
use Rattle.line_index.specs.Lines.{Line, line_cmp}
use Rattle.line_remap.specs.declared.location.Location.{Location}
use Rattle.line_remap.specs.Locations.{line_of_location}
use Rattle.line_regions.specs.Lines.{IsBefore, IsSpan, lines_at}
use Rattle.line_regions.specs.Regions.{Region, is_in}

line_total : IsTotalOrder line_cmp
line_total = then_total (on_total (λ (l : Line). l.path) nat_list_cmp_total) (on_total (λ (l : Line). l.number) nat_cmp_total)

less_from : (r : Ordering) → is_lt r ≡ true → r ≡ Less
less_from Less e = refl
less_from Equal e = absurd cc
less_from Greater e = absurd cc

-- ---- lines that rise

earlier_less : (a b key : Line) → IsBefore a b → is_lt (line_cmp b key) ≡ true → is_lt (line_cmp a key) ≡ true
earlier_less a b key before less = ap is_lt (line_total.trans a b key (less_from (line_cmp a b) before) (less_from (line_cmp b key) less))

equal_less : (a b key : Line) → IsBefore a b → line_cmp b key ≡ Equal → line_cmp a key ≡ Less
equal_less a b key before same =
    let back : line_cmp b a ≡ Greater = line_total.antisymm b a ∙ ap ordering_reverse (less_from (line_cmp a b) before) in
    let turned : line_cmp key a ≡ Greater = sym (line_total.congr b key a same) ∙ back in
    line_total.antisymm a key ∙ ap ordering_reverse turned

earlier_upto : (a b key : Line) → IsBefore a b → is_le (line_cmp b key) ≡ true → is_le (line_cmp a key) ≡ true
earlier_upto a b key before = by (line_cmp b key) refl
  where
    by : (r : Ordering) → line_cmp b key ≡ r → is_le r ≡ true → is_le (line_cmp a key) ≡ true
    by Less e le = ap is_le (line_total.trans a b key (less_from (line_cmp a b) before) e)
    by Equal e le = ap is_le (equal_less a b key before e)
    by Greater e le = absurd cc

pub line_there : (locations : List Location) (k : ℕ) (d : Location) (e : Line) → k < length locations → get_or (lines_at locations) k e ≡ line_of_location (get_or locations k d)
line_there locations k d e lt = get_or-map line_of_location locations k d e lt

pub many : (locations : List Location) → length (lines_at locations) ≡ length locations
many locations = length-map locations line_of_location

-- what holds of a line holds of the earlier ones
parted : (test : Line → Bool) → ((a b : Line) → IsBefore a b → test b ≡ true → test a ≡ true) → (locations : List Location) → AllPairs IsBefore (lines_at locations) → IsPartitionedBy (λ (location : Location). test (line_of_location location)) locations
parted test downwards locations up i j d le lt e =
    elim (cases_eq i j) [
      | inl same ↦ ap (λ (k : ℕ). test (line_of_location (get_or locations k d))) same ∙ e
      | inr other ↦
          let less : i < j = omega (arith, other) in
          let line = line_of_location d in
          let before : IsBefore (get_or (lines_at locations) i line) (get_or (lines_at locations) j line) = up i j line less (omega (arith, many locations)) in
          sym (ap test (line_there locations i d line (omega arith)))
          ∙ downwards (get_or (lines_at locations) i line) (get_or (lines_at locations) j line) before (ap test (line_there locations j d line lt) ∙ e)
    ]

pub parted_less : (locations : List Location) (key : Line) → AllPairs IsBefore (lines_at locations) → IsPartitionedBy (λ (location : Location). is_lt (line_cmp (line_of_location location) key)) locations
parted_less locations key up = parted (λ line. is_lt (line_cmp line key)) (λ a b. earlier_less a b key) locations up

pub parted_upto : (locations : List Location) (key : Line) → AllPairs IsBefore (lines_at locations) → IsPartitionedBy (λ (location : Location). is_le (line_cmp (line_of_location location) key)) locations
parted_upto locations key up = parted (λ line. is_le (line_cmp line key)) (λ a b. earlier_upto a b key) locations up

-- ---- the lines of a region

least_from : (n f : ℕ) (r : Ordering) → r ≡ nat_cmp n f → is_lt r ≡ false → f ≤ n
least_from n f Less e not_less = absurd cc
least_from n f Equal e not_less = let same : n ≡ f = ranked n f Equal e in omega arith
least_from n f Greater e not_less = let more : f < n = ranked n f Greater e in omega arith

most_from : (n t : ℕ) (r : Ordering) → r ≡ nat_cmp n t → is_le r ≡ true → n ≤ t
most_from n t Less e le = let less : n < t = ranked n t Less e in omega arith
most_from n t Equal e le = let same : n ≡ t = ranked n t Equal e in omega arith
most_from n t Greater e le = absurd cc

from_least : (n f : ℕ) (r : Ordering) → r ≡ nat_cmp n f → f ≤ n → is_lt r ≡ false
from_least n f Less e le = let less : n < f = ranked n f Less e in absurd (omega arith)
from_least n f Equal e le = refl
from_least n f Greater e le = refl

from_most : (n t : ℕ) (r : Ordering) → r ≡ nat_cmp n t → n ≤ t → is_le r ≡ true
from_most n t Less e le = refl
from_most n t Equal e le = refl
from_most n t Greater e le = let more : t < n = ranked n t Greater e in absurd (omega arith)

-- a line that is not before the least and not behind the greatest of the region
between : (region : Region) (line : Line) (o : Ordering) → slice_cmp nat_cmp line.path region.path ≡ o → is_lt (ordering_then o (nat_cmp line.number region.first)) ≡ false → is_le (ordering_then o (nat_cmp line.number region.last)) ≡ true → is_in region line ≡ true
between region line Less e not_less upto = absurd cc
between region line Equal e not_less upto =
    let path : bytes_eq line.path region.path ≡ true = sym (is_eq-slice_cmp line.path region.path) ∙ ap is_eq e in
    let first : region.first ≤ line.number = least_from line.number region.first (nat_cmp line.number region.first) refl not_less in
    let last : line.number ≤ region.last = most_from line.number region.last (nat_cmp line.number region.last) refl upto in
    and_from (bytes_eq line.path region.path) (nat_le region.first line.number && nat_le line.number region.last) path
    (and_from (nat_le region.first line.number) (nat_le line.number region.last) (le-leb region.first line.number first) (le-leb line.number region.last last))
between region line Greater e not_less upto = absurd cc

equal_from : (r : Ordering) → is_eq r ≡ true → r ≡ Equal
equal_from Less e = absurd cc
equal_from Equal e = refl
equal_from Greater e = absurd cc

-- a line of the region
inside : (region : Region) (line : Line) → is_in region line ≡ true → (slice_cmp nat_cmp line.path region.path ≡ Equal) × (region.first ≤ line.number) × (line.number ≤ region.last)
inside region line e =
    let parts = and_parts (bytes_eq line.path region.path) (nat_le region.first line.number && nat_le line.number region.last) e in
    let numbers = and_parts (nat_le region.first line.number) (nat_le line.number region.last) parts.1 in
    (equal_from (slice_cmp nat_cmp line.path region.path) (is_eq-slice_cmp line.path region.path ∙ parts.0), leb-true region.first line.number numbers.0, leb-true line.number region.last numbers.1)

pub is_span : (locations : List Location) (region : Region) (start end : ℕ)
    → IsPartitionPoint (λ (p : Location). is_lt (line_cmp (line_of_location p) (record { path = region.path; number = region.first })) ≡ true) (λ (p : Location). is_lt (line_cmp (line_of_location p) (record { path = region.path; number = region.first })) ≡ false) locations start
    → IsPartitionPoint (λ (p : Location). is_le (line_cmp (line_of_location p) (record { path = region.path; number = region.last })) ≡ true) (λ (p : Location). is_le (line_cmp (line_of_location p) (record { path = region.path; number = region.last })) ≡ false) locations end
    → IsSpan (lines_at locations) region start end
is_span locations region start end before upto k d lt =
    let zero_location : Location = record { path = record { ref_ptr = (0, 0); now = [] }; number = 0 } in
    let within : k < length locations = omega (arith, lt, many locations) in
    let line : Line = line_of_location (get_or locations k zero_location) in
    let here : get_or (lines_at locations) k d ≡ line = line_there locations k zero_location d within in (
      λ h. ap (is_in region) here ∙ between region line (slice_cmp nat_cmp line.path region.path) refl (before.1 k zero_location h.0 within) (upto.0 k zero_location (omega arith) h.1),
      λ e.
          let is = inside region line (sym (ap (is_in region) here) ∙ e) in
          let not_less : is_lt (line_cmp line (record { path = region.path; number = region.first })) ≡ false =
          ap (λ o. is_lt (ordering_then o (nat_cmp line.number region.first))) is.0 ∙ from_least line.number region.first (nat_cmp line.number region.first) refl is.1 in
          let no_more : is_le (line_cmp line (record { path = region.path; number = region.last })) ≡ true =
          ap (λ o. is_le (ordering_then o (nat_cmp line.number region.last))) is.0 ∙ from_most line.number region.last (nat_cmp line.number region.last) refl is.2 in (
            ⊎_elim
                (λ less. let no : true ≡ false = sym (before.0 k zero_location (omega arith) less) ∙ not_less in let none : ⊥ = cc in absurd none)
                (λ le. le)
                (cases_lt k start),
            ⊎_elim
                (λ less. less)
                (λ le. let no : true ≡ false = sym no_more ∙ upto.1 k zero_location le within in let none : ⊥ = cc in absurd none)
                (cases_lt k end),
          ),
    )
