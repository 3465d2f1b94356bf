-- An index is what these functions give.
use Rattle.std.proofs.Common.{◌≡◌, ℕ, zero, suc, ◌+◌, inl, inr, ⊎_elim, Bool, true, false, not, List, [], ◌∷◌, map, filter, length, slice_get, Option, Some, None, option_map, option_and_then, position, Ordering, cond, ◌==◌, bytes_eq, nat_lt, refl, sym, ap, ap₂, ◌∙◌, subst, arith}
use Rattle.std.proofs.Math.Path.{fun_ext}
use Rattle.std.specs.declared.cmp.Ordering.TheVariants.{Less, Equal, Greater}
use Rattle.std.specs.Ordering.{nat_cmp, ordering_then}
use Rattle.std.specs.Cmp.{IsTotalOrder, nat_cmp_total, on_total, then_total}
use Rattle.std.specs.Cmp.Lexicographic.{slice_cmp, nat_list_cmp_total}
use Rattle.std.specs.FinMap.{IsAntisymmetric, slice_cmp-IsAntisymmetric, nat_cmp-IsAntisymmetric}
use Rattle.std.specs.List.{filter_map, cons_option, prefix_len}
use Rattle.std.specs.List.Sorted.{IsStrictlySortedBy}
use Rattle.std.proofs.lemmas.Bool.{eqb-true, eq-eqb, lt-ltb, and_from, and_parts, cases_Bool, false_from_ne_true}
use Rattle.std.proofs.lemmas.Option.{slice_get_within}
use Rattle.std.proofs.lemmas.Map.Keys.{sorted_tail, sorted_from_strictly_increasing}
use Rattle.std.proofs.lemmas.List.Kept.{IsStrictlySortedBy-filter}
use Rattle.std.proofs.lemmas.Slice.Eq.{bytes_eq-Decides}
use Rattle.coz_types.specs.declared.image.Area.{Area}
use Rattle.dwarf_lines.specs.Registers.{Table}
use Rattle.line_index.specs.Lines.{Line, line_of, line_cmp, is_line_named, Begins}
use Rattle.line_index.specs.Index.{Index, AreEntries, IsIndex, position_at}
use Rattle.line_index.specs.Listed.{in_order, bounds, lines_in, is_same, is_beginning, entries_in, position_in, IsListed}
use Rattle.line_index.proofs.Pieces.{Among, to_among, from_among, in_front, in_rest}
use Rattle.line_index.proofs.Beginnings.{both_parts, parts_both}
use Rattle.line_index.proofs.Order.{one_place}
use Rattle.line_index.proofs.Ordered.{in_order_sorted, of_in_order, to_in_order, same_sorted}
use Rattle.line_index.proofs.Bounds.{begins_at_bound}

-- ---- the order of lines

line_total : IsTotalOrder line_cmp
line_total = then_total (on_total (λ (l : Line). l.path) nat_list_cmp_total) (on_total (λ (l : Line). l.number) nat_cmp_total)

same_line_by : (l m : Line) (r : Ordering) → slice_cmp nat_cmp l.path m.path ≡ r → ordering_then r (nat_cmp l.number m.number) ≡ Equal → l ≡ m
same_line_by l m Less e is = let no : ⊥ = cc in absurd no
same_line_by l m Equal e is =
    let path = slice_cmp-IsAntisymmetric nat_cmp-IsAntisymmetric l.path m.path e in
    let number = nat_cmp-IsAntisymmetric l.number m.number is in
    λ i. record { path = path i; number = number i }
same_line_by l m Greater e is = let no : ⊥ = cc in absurd no

line_same : IsAntisymmetric line_cmp
line_same l m e = same_line_by l m (slice_cmp nat_cmp l.path m.path) refl e

-- ---- the test for a line

is_line_true : (l m : Line) → is_line_named l.path l.number m ≡ true → m ≡ l
is_line_true l m e =
    let parts = and_parts (m.number == l.number) (bytes_eq m.path l.path) e in
    let number = eqb-true m.number l.number parts.0 in
    let path = (bytes_eq-Decides m.path l.path).0 parts.1 in
    λ i. record { path = path i; number = number i }

true_is_line : (l : Line) → is_line_named l.path l.number l ≡ true
true_is_line l = and_from (l.number == l.number) (bytes_eq l.path l.path) (eq-eqb l.number l.number refl) ((bytes_eq-Decides l.path l.path).1 refl)

is_same_true : (l : Line) (line : Option Line) → is_same l line ≡ true → line ≡ Some l
is_same_true l None e = let no : ⊥ = cc in absurd no
is_same_true l (Some m) e = ap (λ x. Some x) (is_line_true l m e)

true_is_same : (l : Line) (line : Option Line) → line ≡ Some l → is_same l line ≡ true
true_is_same l line e = ap (is_same l) e ∙ true_is_line l

-- ---- where a line begins

line_begins : (table : Table) (areas : List Area) (l : Line) (a : ℕ) → is_beginning table areas l a ≡ true → Begins table areas l a
line_begins table areas l zero e = (is_same_true l (line_of table areas zero) e, λ b no same. absurd (omega arith))
line_begins table areas l (suc a) e =
    let parts = both_parts (is_same l (line_of table areas (suc a))) (is_same l (line_of table areas a)) e in (
      is_same_true l (line_of table areas (suc a)) parts.0,
      λ b next same.
          let at : b ≡ a = omega arith in
          let here : is_same l (line_of table areas a) ≡ true = true_is_same l (line_of table areas a) (subst (λ c. line_of table areas c ≡ Some l) at same) in
          let no : true ≡ false = sym here ∙ parts.1 in
          cc,
    )

begins_line : (table : Table) (areas : List Area) (l : Line) (a : ℕ) → Begins table areas l a → is_beginning table areas l a ≡ true
begins_line table areas l zero h = true_is_same l (line_of table areas zero) h.0
begins_line table areas l (suc a) h =
    parts_both (is_same l (line_of table areas (suc a))) (is_same l (line_of table areas a)) (true_is_same l (line_of table areas (suc a)) h.0)
    (false_from_ne_true (is_same l (line_of table areas a)) (λ e. h.1 a refl (is_same_true l (line_of table areas a) e)))

-- a line that an address has begins somewhere
begins_somewhere : (table : Table) (areas : List Area) (l : Line) (a : ℕ) → line_of table areas a ≡ Some l → (b : ℕ) × Begins table areas l b
begins_somewhere table areas l zero e = (zero, (e, λ b no same. absurd (omega arith)))
begins_somewhere table areas l (suc a) e =
    ⊎_elim
    (λ before. begins_somewhere table areas l a (is_same_true l (line_of table areas a) before))
    (λ differs. (suc a, line_begins table areas l (suc a) (parts_both (is_same l (line_of table areas (suc a))) (is_same l (line_of table areas a)) (true_is_same l (line_of table areas (suc a)) e) differs)))
    (cases_Bool (is_same l (line_of table areas a)))

-- ---- lines

gives_one : {X Y : Type 0} (f : X → Option Y) (y : Y) (x : X) (v : Option Y) (ys : List Y) → f x ≡ v → (Among y ys → (z : X) × (f z ≡ Some y)) → Among y (cons_option v ys) → (z : X) × (f z ≡ Some y)
gives_one f y x None ys e more h = more h
gives_one f y x (Some z) ys e more (inl same) = (x, e ∙ ap (λ w. Some w) same)
gives_one f y x (Some z) ys e more (inr h) = more h

given : {X Y : Type 0} (f : X → Option Y) (y : Y) (xs : List X) → Among y (filter_map f xs) → (x : X) × (f x ≡ Some y)
given f y [] h = absurd h
given f y (x ∷ xs) h = gives_one f y x (f x) (filter_map f xs) refl (given f y xs) h

gives : {X Y : Type 0} (f : X → Option Y) (y : Y) (x : X) (xs : List X) → Among x xs → f x ≡ Some y → Among y (filter_map f xs)
gives f y x [] h e = absurd h
gives f y x (z ∷ xs) (inl same) e = in_front y (f z) (filter_map f xs) (ap f same ∙ e)
gives f y x (z ∷ xs) (inr h) e = in_rest y (f z) (filter_map f xs) (gives f y x xs h e)

-- a line is listed just if an address has it
pub line_listed : (table : Table) (areas : List Area) (l : Line) (a : ℕ) → line_of table areas a ≡ Some l → Among l (lines_in table areas)
unfolding lines_in
line_listed table areas l a e =
    let start = begins_somewhere table areas l a e in
    to_in_order line_total line_same l (filter_map (line_of table areas) (bounds table areas))
    (gives (line_of table areas) l start.0 (bounds table areas) (begins_at_bound table areas l start.0 start.1) start.1.0)

pub listed_line : (table : Table) (areas : List Area) (l : Line) → Among l (lines_in table areas) → (a : ℕ) × (line_of table areas a ≡ Some l)
unfolding lines_in
listed_line table areas l h = given (line_of table areas) l (bounds table areas) (of_in_order line_total l (filter_map (line_of table areas) (bounds table areas)) h)

pub lines_rise : (table : Table) (areas : List Area) → IsStrictlySortedBy line_cmp (lines_in table areas)
unfolding lines_in
lines_rise table areas = in_order_sorted line_total (filter_map (line_of table areas) (bounds table areas))

-- the lines of an index are those
pub lines_are : {table : Table} {areas : List Area} {index : Index} → IsIndex table areas index → index.lines ≡ lines_in table areas
lines_are {table = table} {areas = areas} {index = index} i =
    same_sorted line_total index.lines (lines_in table areas) i.in_order (lines_rise table areas)
    (λ l h. let used = (i.used l).0 (from_among l index.lines h) in line_listed table areas l used.0 used.1)
    (λ l h. let one = (i.used l).1 (listed_line table areas l h) in to_among l index.lines one.0 one.1 one.2)

-- ---- entries

passed : {X : Type 0} (p : X → Bool) (z x : X) (xs ys : List X) (t : Bool) → p x ≡ t → (Among z ys → Among z xs × (p z ≡ true)) → Among z (cond t (x ∷ ys) ys) → Among z (x ∷ xs) × (p z ≡ true)
passed p z x xs ys true e more (inl same) = (inl same, ap p (sym same) ∙ e)
passed p z x xs ys true e more (inr h) = let rest = more h in (inr rest.0, rest.1)
passed p z x xs ys false e more h = let rest = more h in (inr rest.0, rest.1)

of_filter : {X : Type 0} (p : X → Bool) (z : X) (xs : List X) → Among z (filter p xs) → Among z xs × (p z ≡ true)
of_filter p z [] h = absurd h
of_filter p z (x ∷ xs) h = passed p z x xs (filter p xs) (p x) refl (of_filter p z xs) h

front_passes : {X : Type 0} (z x : X) (ys : List X) (t : Bool) → t ≡ true → x ≡ z → Among z (cond t (x ∷ ys) ys)
front_passes z x ys true e same = inl same
front_passes z x ys false e same = let no : ⊥ = cc in absurd no

rest_passes : {X : Type 0} (z x : X) (ys : List X) (t : Bool) → Among z ys → Among z (cond t (x ∷ ys) ys)
rest_passes z x ys true h = inr h
rest_passes z x ys false h = h

to_filter : {X : Type 0} (p : X → Bool) (z : X) (xs : List X) → Among z xs → p z ≡ true → Among z (filter p xs)
to_filter p z [] h e = absurd h
to_filter p z (x ∷ xs) (inl same) e = front_passes z x (filter p xs) (p x) (ap p same ∙ e) same
to_filter p z (x ∷ xs) (inr h) e = rest_passes z x (filter p xs) (p x) (to_filter p z xs h e)

-- a line's entry addresses are those at which it begins
pub entries_of : (table : Table) (areas : List Area) (l : Line) (es : List ℕ) → AreEntries table areas l es → es ≡ entries_in table areas l
unfolding entries_in
entries_of table areas l es are =
    let places : List ℕ = in_order nat_cmp (bounds table areas) in
    same_sorted nat_cmp_total es (filter (is_beginning table areas l) places) (sorted_from_strictly_increasing es are.rising) (IsStrictlySortedBy-filter nat_cmp (is_beginning table areas l) places (in_order_sorted nat_cmp_total (bounds table areas)))
    (λ a h.
    let here = (are.each a).0 (from_among a es h) in
    to_filter (is_beginning table areas l) a places (to_in_order nat_cmp_total nat_cmp-IsAntisymmetric a (bounds table areas) (begins_at_bound table areas l a here)) (begins_line table areas l a here))
    (λ a h.
    let parts = of_filter (is_beginning table areas l) a places h in
    let one = (are.each a).1 (line_begins table areas l a parts.1) in
    to_among a es one.0 one.1 one.2)

each_mapped : {X Y : Type 0} (f : X → Y) (xs : List X) (ys : List Y) → length ys ≡ length xs → ((k : ℕ) (x : X) (y : Y) → slice_get xs k ≡ Some x → slice_get ys k ≡ Some y → y ≡ f x) → ys ≡ map f xs
each_mapped f [] [] many each = refl
each_mapped f [] (y ∷ ys) many each = absurd (omega arith)
each_mapped f (x ∷ xs) [] many each = absurd (omega arith)
each_mapped f (x ∷ xs) (y ∷ ys) many each = ap₂ (λ z zs. z ∷ zs) (each 0 x y refl refl) (each_mapped f xs ys (omega arith) (λ k w v e g. each (suc k) w v e g))

pub entries_are : {table : Table} {areas : List Area} {index : Index} → IsIndex table areas index → index.entries ≡ map (entries_in table areas) (lines_in table areas)
entries_are {table = table} {areas = areas} {index = index} i =
    each_mapped (entries_in table areas) index.lines index.entries i.as_many (λ k l es at is. entries_of table areas l es (i.entries k l es at is)) ∙ ap (map (entries_in table areas)) (lines_are i)

-- ---- positions

passed_first : (p : Line → Bool) (l : Line) (lines : List Line) → p l ≡ true → prefix_len (λ m. not (p m)) (l ∷ lines) ≡ 0
passed_first p l lines e = ap (λ t. cond (not t) (1 + prefix_len (λ m. not (p m)) lines) 0) e

passed_later : (p : Line → Bool) (l : Line) (lines : List Line) (k : ℕ) → p l ≡ false → prefix_len (λ m. not (p m)) lines ≡ k → prefix_len (λ m. not (p m)) (l ∷ lines) ≡ suc k
passed_later p l lines k e rest =
    let more : 1 + prefix_len (λ m. not (p m)) lines ≡ suc k = omega (arith, rest) in
    ap (λ t. cond (not t) (1 + prefix_len (λ m. not (p m)) lines) 0) e ∙ more

not_line : (l m : Line) → (m ≡ l → ⊥) → is_line_named l.path l.number m ≡ false
not_line l m differs = false_from_ne_true (is_line_named l.path l.number m) (λ e. differs (is_line_true l m e))

some_is : {X : Type 0} (x y : X) → Some x ≡ Some y → x ≡ y
some_is x y e = cc

later_differs : (l m : Line) (lines : List Line) (k : ℕ) → IsStrictlySortedBy line_cmp (m ∷ lines) → slice_get lines k ≡ Some l → m ≡ l → ⊥
later_differs l m lines k up at e =
    let none : 0 ≡ suc k = one_place (m ∷ lines) 0 (suc k) l up (ap (λ x. Some x) e) at in
    omega arith

-- the first line that passes is the line itself
first_passed : (l : Line) (lines : List Line) (k : ℕ) → IsStrictlySortedBy line_cmp lines → slice_get lines k ≡ Some l → prefix_len (λ m. not (is_line_named l.path l.number m)) lines ≡ k
first_passed l [] k up at = let no : ⊥ = cc in absurd no
first_passed l (m ∷ lines) zero up at =
    passed_first (is_line_named l.path l.number) m lines (ap (is_line_named l.path l.number) (some_is m l at) ∙ true_is_line l)
first_passed l (m ∷ lines) (suc k) up at =
    passed_later (is_line_named l.path l.number) m lines k (not_line l m (later_differs l m lines k up at)) (first_passed l lines k (sorted_tail line_cmp m lines up) at)

place_of : (l : Line) (lines : List Line) (k : ℕ) → IsStrictlySortedBy line_cmp lines → slice_get lines k ≡ Some l → position (is_line_named l.path l.number) lines ≡ Some k
place_of l lines k up at =
    let first = first_passed l lines k up at in
    let within : nat_lt k (length lines) ≡ true = lt-ltb k (length lines) (slice_get_within lines k l at) in
    ap (λ n. cond (nat_lt n (length lines)) (Some n) None) first ∙ ap (λ t. cond t (Some k) None) within

position_by : (lines : List Line) (place : Option ℕ) (line : Option Line) → IsStrictlySortedBy line_cmp lines → option_map (slice_get lines) place ≡ option_map Some line → place ≡ option_and_then (λ l. position (is_line_named l.path l.number) lines) line
position_by lines None None up e = refl
position_by lines None (Some l) up e = let no : ⊥ = cc in absurd no
position_by lines (Some k) None up e = let no : ⊥ = cc in absurd no
position_by lines (Some k) (Some l) up e = let at : slice_get lines k ≡ Some l = cc in sym (place_of l lines k up at)

pub positions_are : {table : Table} {areas : List Area} {index : Index} → IsIndex table areas index → (a : ℕ) → position_at index a ≡ position_in table areas a
unfolding position_in
positions_are {table = table} {areas = areas} {index = index} i a =
    position_by index.lines (position_at index a) (line_of table areas a) i.in_order (i.positions a)
    ∙ ap (λ lines. option_and_then (λ l. position (is_line_named l.path l.number) lines) (line_of table areas a)) (lines_are i)

-- the same as functions
pub position_is : {table : Table} {areas : List Area} {index : Index} → IsIndex table areas index → position_at index ≡ position_in table areas
position_is i = fun_ext (λ a. positions_are i a)

pub is_listed : {table : Table} {areas : List Area} {index : Index} → IsIndex table areas index → IsListed table areas index
is_listed i = record { lines = lines_are i; entries = entries_are i; positions = positions_are i }
