-- Whether the bytes of a symbol lie in one executable area, by the starts and ends of these.
use Rattle.std.proofs.Common.{◌≡◌, ◌≢◌, ℕ, ◌+◌, ◌-◌, ◌<◌, ◌≤◌, ◌⊎◌, inl, inr, ⊎_elim, ◌↔◌, Bool, true, false, ◌&&◌, ◌==◌, cond, List, length, get_or, Option, Some, None, refl, sym, ap, ◌∙◌, subst, arith, nat_le, nat_lt, lt-ltb, le-leb, leb-true, ltb-true}
use Rattle.std.specs.Prelude.{All, AllPairs, IsSome, IsTrue}
use Rattle.std.specs.List.{list_any}
use Rattle.std.specs.Ordering.{nat_cmp, is_lt}
use Rattle.std.specs.declared.cmp.Ordering.TheVariants.{Less, Equal, Greater}
use Rattle.std.proofs.lemmas.Bool.{and_from, and_parts, cases_Bool, cases_eq, cases_lt, false_from_ne_true}
use Rattle.std.proofs.lemmas.List.{get_or_default}
use Rattle.std.proofs.lemmas.List.Elements.{All-get_or}
use Rattle.std.proofs.lemmas.List.Folds.{Any-from_list_any, list_any_at}
use Rattle.coz_types.specs.declared.image.Area.{Area}
use Rattle.coz_types.specs.Image.{AreApart, area_end}
use Rattle.elf_load.specs.Pages.{AreSpans}
use Rattle.elf_symbols.specs.declared.symbols.Symbol.{Symbol}
use Rattle.elf_symbols.specs.Code.{AddsEnd, AreEnds, HasWithin, IsCode, IsSpan, IsSpanOf}
use Rattle.elf_symbols.specs.Symbols.{is_in_area}

some_is : (x y : ℕ) → Some x ≡ Some y → x ≡ y
some_is x y e = cc

some_there : (o : Option ℕ) (v : ℕ) → o ≡ Some v → IsSome o
some_there o v e = rw e refl

-- ---- the order of numbers

less_is : (a b : ℕ) → nat_cmp a b ≡ Less → a < b
less_is a b e = by_less (nat_lt a b) (a == b) a b refl e
  where
    by_less : (l q : Bool) (a b : ℕ) → nat_lt a b ≡ l → cond l Less (cond q Equal Greater) ≡ Less → a < b
    by_less true q a b is e = ltb-true a b is
    by_less false true a b is e = absurd cc
    by_less false false a b is e = absurd cc

is_less : (a b : ℕ) → a < b → nat_cmp a b ≡ Less
is_less a b lt = rw (lt-ltb a b lt) refl

not_less : (a b : ℕ) → is_lt (nat_cmp a b) ≡ false → b ≤ a
not_less a b e =
    elim (cases_lt a b) [
      | inl lt ↦ let less : is_lt (nat_cmp a b) ≡ true = rw (is_less a b lt) refl in absurd cc
      | inr le ↦ le
    ]

-- ---- the last area that begins below a offset

last_decides : (g : ℕ → Option ℕ) (low high first end : ℕ) → AreSpans g → g first ≡ Some end → ((q v : ℕ) → q < high → g q ≡ Some v → q ≤ first) → HasWithin g low high → low < end
last_decides g low high first end spans there greatest (q, v, held, before, shared) =
    elim (cases_lt q first) [
      | inl less ↦
          let apart : v ≤ first = spans.apart q v first end held there less in
          let some : first < end = spans.some first end there in
          omega arith
      | inr not_less ↦
          let le : q ≤ first = greatest q v before held in
          let same : q ≡ first = omega arith in
          let ends : v ≡ end = some_is v end (sym held ∙ (ap g same ∙ there)) in
          omega arith
    ]

pub decided : (g : ℕ → Option ℕ) (low high first end : ℕ) → AreSpans g → g first ≡ Some end → nat_cmp first high ≡ Less → ((q : ℕ) → nat_cmp q high ≡ Less → IsSome (g q) → is_lt (nat_cmp first q) ≡ false)
    → IsTrue (nat_lt low end) ↔ HasWithin g low high
decided g low high first end spans held below greatest = (
  λ t. (first, end, held, less_is first high below, ltb-true low end t),
  λ has. lt-ltb low end (last_decides g low high first end spans held (λ q v less there. not_less first q (greatest q (is_less q high less) (some_there (g q) v there))) has),
)

-- ---- areas that share no page

area_span : (areas : List Area) (k : ℕ) (area : Area) → All IsSpan areas → k < length areas → get_or areas k area ≡ area → IsSpan area
area_span areas k area all lt is = subst IsSpan is (All-get_or IsSpan areas k area lt all)

same_area : (areas : List Area) (i j : ℕ) (a b : Area) → i ≡ j → i < length areas → get_or areas i a ≡ a → get_or areas j b ≡ b → a ≡ b
same_area areas i j a b same lt is_a is_b =
    sym is_a ∙ get_or_default areas i a b lt ∙ ap (λ (k : ℕ). get_or areas k b) same ∙ is_b

apart_areas : (areas : List Area) (i j : ℕ) (a b : Area) → AllPairs AreApart areas → i < j → j < length areas → get_or areas i a ≡ a → get_or areas j b ≡ b → AreApart a b
apart_areas areas i j a b apart less lt is_a is_b =
    let at_b : get_or areas j a ≡ b = get_or_default areas j a b lt ∙ is_b in
    subst (λ (y : Area). AreApart a y) at_b (subst (λ (x : Area). AreApart x (get_or areas j a)) is_a (apart i j a less lt))

turned : (a b : Area) → AreApart a b → AreApart b a
turned a b (inl before) = inr before
turned a b (inr behind) = inl behind

-- areas at two indexes
two_apart : (areas : List Area) (i j : ℕ) (a b : Area) → AllPairs AreApart areas → i ≢ j → i < length areas → j < length areas → get_or areas i a ≡ a → get_or areas j b ≡ b → AreApart a b
two_apart areas i j a b apart other lt lt' is_a is_b =
    elim (cases_lt i j) [
      | inl less ↦ apart_areas areas i j a b apart less lt' is_a is_b
      | inr le ↦
          let less : j < i = omega (arith, other) in
          turned b a (apart_areas areas j i b a apart less lt is_b is_a)
    ]

some_span : (areas : List Area) (g : ℕ → Option ℕ) → IsCode areas g → (first end : ℕ) → g first ≡ Some end → first < end
some_span areas g is first end there =
    let (k, area, lt, at, of) = is.ends.only first end there in
    let span = area_span areas k area is.spans lt at in
    let starts = of.starts in
    let ends = of.ends in
    let some = span.0 in
    omega arith

apart_by : (a b : Area) (first end later last : ℕ) → IsSpanOf first end a → IsSpanOf later last b → later < last → first < later → AreApart a b → end ≤ later
apart_by a b first end later last of of' some less (inl before) =
    let e = of.ends in
    let s = of'.starts in
    omega arith
apart_by a b first end later last of of' some less (inr behind) =
    let s = of.starts in
    let e = of'.ends in
    absurd (omega arith)

apart_spans : (areas : List Area) (g : ℕ → Option ℕ) → IsCode areas g → (first end later last : ℕ) → g first ≡ Some end → g later ≡ Some last → first < later → end ≤ later
apart_spans areas g is first end later last there there' less =
    let (i, a, lt, at, of) = is.ends.only first end there in
    let (j, b, lt', at', of') = is.ends.only later last there' in
    elim (cases_eq i j) [
      | inl same ↦
          let one : a ≡ b = same_area areas i j a b same lt at at' in
          let starts : a.start ≡ b.start = ap (λ (x : Area). x.start) one in
          let s = of.starts in
          let s' = of'.starts in
          absurd (omega arith)
      | inr other ↦ apart_by a b first end later last of of' (some_span areas g is later last there') less (two_apart areas i j a b is.apart other lt lt' at at')
    ]

pub spans_of : (areas : List Area) (g : ℕ → Option ℕ) → IsCode areas g → AreSpans g
spans_of areas g is = record { some = some_span areas g is; apart = apart_spans areas g is }

-- ---- one more area

ends_at : (areas : List Area) (n : ℕ) (area : Area) (g h : ℕ → Option ℕ) → All IsSpan areas → AllPairs AreApart areas → n < length areas → get_or areas n area ≡ area → AreEnds areas n g → AddsEnd area g h → area.rights.execute ≡ true → AreEnds areas (n + 1) h
ends_at areas n area g h spans apart lt is ends adds executable = record { each = each; only = only }
  where
    each : (k : ℕ) (d : Area) → k < n + 1 → (get_or areas k d).rights.execute ≡ true → h (get_or areas k d).start ≡ Some (area_end (get_or areas k d))
    each k d below exec =
        elim (cases_eq k n) [
          | inl same ↦
              let here : get_or areas k d ≡ area = ap (λ (j : ℕ). get_or areas j d) same ∙ get_or_default areas n d area lt ∙ is in
              subst (λ (x : Area). h x.start ≡ Some (area_end x)) (sym here) (adds.here executable)
          | inr other ↦
              let a = get_or areas k d in
              let at : get_or areas k a ≡ a = get_or_default areas k a d (omega (arith, other)) in
              let size_a = (area_span areas k a spans (omega (arith, other)) at).0 in
              let size = (area_span areas n area spans lt is).0 in
              let away : a.start ≢ area.start = λ e. (elim (two_apart areas k n a area apart other (omega (arith, other)) lt at is) [ inl before ↦ omega arith | inr behind ↦ omega arith ]) in
              adds.others a.start away ∙ ends.each k d (omega (arith, other)) exec
        ]

    only : (start end : ℕ) → h start ≡ Some end → (k : ℕ) × (x : Area) × (k < n + 1) × (get_or areas k x ≡ x) × IsSpanOf start end x
    only start end there =
        elim (cases_eq start area.start) [
          | inl same ↦
              let ends_here : end ≡ area_end area = some_is end (area_end area) (sym there ∙ (ap h same ∙ adds.here executable)) in
              (n, area, omega arith, is, record { executable = executable; starts = sym same; ends = sym ends_here })
          | inr other ↦
              let (k, x, below, at, of) = ends.only start end (sym (adds.others start other) ∙ there) in
              (k, x, omega arith, at, of)
        ]

ends_past : (areas : List Area) (n : ℕ) (area : Area) (g h : ℕ → Option ℕ) → n < length areas → get_or areas n area ≡ area → AreEnds areas n g → AddsEnd area g h → area.rights.execute ≡ false → AreEnds areas (n + 1) h
ends_past areas n area g h lt is ends adds plain = record { each = each; only = only }
  where
    each : (k : ℕ) (d : Area) → k < n + 1 → (get_or areas k d).rights.execute ≡ true → h (get_or areas k d).start ≡ Some (area_end (get_or areas k d))
    each k d below exec =
        elim (cases_eq k n) [
          | inl same ↦
              let here : get_or areas k d ≡ area = ap (λ (j : ℕ). get_or areas j d) same ∙ get_or_default areas n d area lt ∙ is in
              let no : true ≡ false = sym exec ∙ (ap (λ (x : Area). x.rights.execute) here ∙ plain) in
              absurd cc
          | inr other ↦ adds.none plain (get_or areas k d).start ∙ ends.each k d (omega (arith, other)) exec
        ]

    only : (start end : ℕ) → h start ≡ Some end → (k : ℕ) × (x : Area) × (k < n + 1) × (get_or areas k x ≡ x) × IsSpanOf start end x
    only start end there =
        let (k, x, below, at, of) = ends.only start end (sym (adds.none plain start) ∙ there) in
        (k, x, omega arith, at, of)

pub ends_more : (areas : List Area) (n : ℕ) (area : Area) (g h : ℕ → Option ℕ) → All IsSpan areas → AllPairs AreApart areas → n < length areas → get_or areas n area ≡ area → AreEnds areas n g → AddsEnd area g h → AreEnds areas (n + 1) h
ends_more areas n area g h spans apart lt is ends adds =
    ⊎_elim (ends_at areas n area g h spans apart lt is ends adds) (ends_past areas n area g h lt is ends adds) (cases_Bool area.rights.execute)

pub ends_none : (areas : List Area) (g : ℕ → Option ℕ) → ((q : ℕ) → g q ≡ None) → AreEnds areas 0 g
ends_none areas g none = record {
  each = λ k d below exec. absurd (omega arith);
  only = λ start end there. (let no : ⊥ = (let bad : None ≡ Some end = sym (none start) ∙ there in cc) in absurd no);
}

-- ---- what is asked of a symbol

by_result : (r b : Bool) → (r ≡ true → b ≡ true) → (b ≡ true → r ≡ true) → r ≡ b
by_result true true to back = refl
by_result true false to back = sym (to refl)
by_result false true to back = back refl
by_result false false to back = refl

-- an area that has all bytes of a symbol
record HasBytes (areas : List Area) (s : Symbol) : Type 0 where
  k : ℕ
  area : Area
  within : k < length areas
  at : get_or areas k area ≡ area
  executable : area.rights.execute ≡ true
  low : area.start ≤ s.address
  high : s.address + s.size ≤ area_end area

has_bytes : (areas : List Area) (s : Symbol) → list_any (is_in_area s) areas ≡ true → HasBytes areas s
has_bytes areas s e =
    let (k, area, lt, at, test) = Any-from_list_any (is_in_area s) areas e in
    let parts = and_parts area.rights.execute (nat_le area.start s.address && nat_le (s.address + s.size) (area.start + area.size)) test in
    let ends = and_parts (nat_le area.start s.address) (nat_le (s.address + s.size) (area.start + area.size)) parts.1 in
    record {
      k = k;
      area = area;
      within = lt;
      at = at;
      executable = parts.0;
      low = leb-true area.start s.address ends.0;
      high = leb-true (s.address + s.size) (area.start + area.size) ends.1;
    }

pub asked : (areas : List Area) (g : ℕ → Option ℕ) (s : Symbol) (last high : ℕ) (r : Bool) → IsCode areas g → 0 < s.size → last ≡ s.address + (s.size - 1) → high ≡ s.address + 1 → IsTrue r ↔ HasWithin g last high → r ≡ list_any (is_in_area s) areas
asked areas g s last high r is some is_last is_high iff = by_result r (list_any (is_in_area s) areas) to back
  where
    to : r ≡ true → list_any (is_in_area s) areas ≡ true
    to e =
        let (start, end, there, before, behind) = iff.0 e in
        let (k, area, lt, at, of) = is.ends.only start end there in
        let starts = of.starts in
        let ends = of.ends in
        list_any_at (is_in_area s) areas k area lt
        (ap (is_in_area s) at
        ∙ and_from area.rights.execute (nat_le area.start s.address && nat_le (s.address + s.size) (area.start + area.size)) of.executable
        (and_from (nat_le area.start s.address) (nat_le (s.address + s.size) (area.start + area.size)) (le-leb area.start s.address (omega arith)) (le-leb (s.address + s.size) (area.start + area.size) (omega arith))))

    back : list_any (is_in_area s) areas ≡ true → r ≡ true
    back e =
        let has = has_bytes areas s e in
        let area = has.area in
        let exec : (get_or areas has.k area).rights.execute ≡ true = ap (λ (x : Area). x.rights.execute) has.at ∙ has.executable in
        let there : g area.start ≡ Some (area_end area) = subst (λ (x : Area). g x.start ≡ Some (area_end x)) has.at (is.ends.each has.k area has.within exec) in
        let low = has.low in
        let below = has.high in
        iff.1 (area.start, area_end area, there, omega arith, omega arith)

-- no area reaches so far
pub too_far : (areas : List Area) (g : ℕ → Option ℕ) (s : Symbol) → IsCode areas g → 0 < s.size → (0x20_0000_0000 ≤ s.address) ⊎ (0x20_0000_0000 < s.size) → false ≡ list_any (is_in_area s) areas
too_far areas g s is some far = sym (false_from_ne_true (list_any (is_in_area s) areas) (λ e. no (has_bytes areas s e) far))
  where
    no : HasBytes areas s → (0x20_0000_0000 ≤ s.address) ⊎ (0x20_0000_0000 < s.size) → ⊥
    no has (inl far) =
        let span = area_span areas has.k has.area is.spans has.within has.at in
        let end = span.1 in
        let high = has.high in
        omega arith
    no has (inr far) =
        let span = area_span areas has.k has.area is.spans has.within has.at in
        let end = span.1 in
        let high = has.high in
        omega arith
