-- The spans of the areas so far, and whether the next area shares a page with one.
use Rattle.std.proofs.Common.{◌≡◌, ◌≢◌, ℕ, ◌<◌, ◌≤◌, ◌⊎◌, inl, inr, Bool, true, false, cond, ◌&&◌, ◌||◌, List, [], ◌∷◌, Option, Some, refl, sym, ap, ◌∙◌, arith, nat_lt, ◌==◌, ◌↔◌, ne_eqb}
use Rattle.std.specs.Prelude.{IsTrue, IsSome}
use Rattle.std.specs.List.{AllByRecursion, list_any}
use Rattle.std.specs.Ordering.{nat_cmp, is_lt, is_eq}
use Rattle.std.specs.declared.cmp.Ordering.TheVariants.{Less, Equal, Greater}
use Rattle.std.proofs.lemmas.Bool.{cases_lt, cases_eq, lt-ltb, le-ltb, ltb-true}
use Rattle.elf_load.specs.declared.tables.Segment.{Segment}
use Rattle.elf_load.specs.Tables.{first_page, end_page, share_page}
use Rattle.elf_load.specs.Pages.{AreSpans, HasPageOf}

some_is : (x y : ℕ) → Some x ≡ Some y → x ≡ y
some_is x y e = cc

-- the last span that begins before an area's end decides
pub last_decides : (g : ℕ → Option ℕ) (s : Segment) (first end : ℕ) → AreSpans g → g first ≡ Some end → first < end_page s → ((q v : ℕ) → q < end_page s → g q ≡ Some v → q ≤ first) → HasPageOf g s → first_page s < end
last_decides g s first end spans there below greatest (q, v, held, before, shared) =
    elim (cases_lt q first) [
      | inl less ↦
          let apart : v ≤ first = spans.apart q v first end held there less in
          let some : first < end = spans.some first end there in
          omega arith
      | inr not_less ↦
          let le : q ≤ first = greatest q v before held in
          let same : q ≡ first = omega arith in
          let ends : v ≡ end = some_is v end (sym held ∙ (ap g same ∙ there)) in
          omega arith
    ]

-- these are the spans of these areas
pub record SpansOf (g : ℕ → Option ℕ) (earlier : List Segment) : Type 0 where
  pub spans : AreSpans g
  pub held : AllByRecursion (λ e. g (first_page e) ≡ Some (end_page e)) earlier
  pub only : (q v : ℕ) → g q ≡ Some v → (s : Segment) → q < end_page s → first_page s < v → list_any (share_page s) earlier ≡ true

is_both : (a b : Bool) → (a && b) ≡ true → (a ≡ true) × (b ≡ true)
is_both true b e = (refl, e)
is_both false b e = absurd cc

either_is : (a b : Bool) → (a || b) ≡ true → (a ≡ true) ⊎ (b ≡ true)
either_is true b e = inl refl
either_is false b e = inr e

found_among : (g : ℕ → Option ℕ) (s : Segment) (earlier : List Segment) → AllByRecursion (λ e. g (first_page e) ≡ Some (end_page e)) earlier → list_any (share_page s) earlier ≡ true → HasPageOf g s
found_among g s [] held any = absurd cc
found_among g s (e ∷ es) held any =
    elim (either_is (share_page s e) (list_any (share_page s) es) any) [
      | inl here ↦
          let both = is_both (nat_lt (first_page s) (end_page e)) (nat_lt (first_page e) (end_page s)) here in
          (first_page e, end_page e, held.0, ltb-true _ _ both.1, ltb-true _ _ both.0)
      | inr more ↦ found_among g s es held.1 more
    ]

by_result : (r b : Bool) → (r ≡ true → b ≡ true) → (b ≡ true → r ≡ true) → r ≡ b
by_result true true to back = refl
by_result true false to back = sym (to refl)
by_result false true to back = back refl
by_result false false to back = refl

-- what is asked of the spans is what the row asks of the earlier areas
pub asked : (g : ℕ → Option ℕ) (s : Segment) (earlier : List Segment) (r : Bool) → SpansOf g earlier → IsTrue r ↔ HasPageOf g s → r ≡ list_any (share_page s) earlier
asked g s earlier r of iff =
    by_result r (list_any (share_page s) earlier)
    (λ e. let (q, v, held, before, shared) = iff.0 e in of.only q v held s before shared)
    (λ e. iff.1 (found_among g s earlier of.held e))

-- ---- the order of numbers

less_is : (a b : ℕ) → nat_cmp a b ≡ Less → a < b
less_is a b e = by_less (nat_lt a b) (a == b) a b refl e where
  by_less : (l q : Bool) (a b : ℕ) → nat_lt a b ≡ l → cond l Less (cond q Equal Greater) ≡ Less → a < b
  by_less true q a b is e = ltb-true a b is
  by_less false true a b is e = absurd cc
  by_less false false a b is e = absurd cc

is_less : (a b : ℕ) → a < b → nat_cmp a b ≡ Less
is_less a b lt = rw (lt-ltb a b lt) refl

not_less : (a b : ℕ) → is_lt (nat_cmp a b) ≡ false → b ≤ a
not_less a b e =
    elim (cases_lt a b) [
      | inl lt ↦ let less : is_lt (nat_cmp a b) ≡ true = rw (is_less a b lt) refl in absurd cc
      | inr le ↦ le
    ]

some_there : (o : Option ℕ) (v : ℕ) → o ≡ Some v → IsSome o
some_there o v e = rw e refl

-- ---- one more area

-- no span so far shares a page with an area that is alone
clear : (g : ℕ → Option ℕ) (s : Segment) (earlier : List Segment) → SpansOf g earlier → list_any (share_page s) earlier ≡ false → (q v : ℕ) → g q ≡ Some v → q < end_page s → first_page s < v → ⊥
clear g s earlier of alone q v held before shared = let no : true ≡ false = sym (of.only q v held s before shared) ∙ alone in cc

-- what the spans are after one more
pub record Adds (g h : ℕ → Option ℕ) (s : Segment) : Type 0 where
  pub here : h (first_page s) ≡ Some (end_page s)
  pub there : (q : ℕ) → q ≢ first_page s → h q ≡ g q

cases_at : (q : ℕ) (s : Segment) → (q ≡ first_page s) ⊎ (q ≢ first_page s)
cases_at q s = cases_eq q (first_page s)

end_is : (g h : ℕ → Option ℕ) (s : Segment) (q v : ℕ) → Adds g h s → q ≡ first_page s → h q ≡ Some v → v ≡ end_page s
end_is g h s q v adds at held = some_is v (end_page s) (sym held ∙ (ap h at ∙ adds.here))

still : (g h : ℕ → Option ℕ) (s : Segment) (q v : ℕ) → Adds g h s → q ≢ first_page s → h q ≡ Some v → g q ≡ Some v
still g h s q v adds other held = sym (adds.there q other) ∙ held

more_some : (g h : ℕ → Option ℕ) (s : Segment) (earlier : List Segment) → SpansOf g earlier → Adds g h s → first_page s < end_page s → (q v : ℕ) → h q ≡ Some v → q < v
more_some g h s earlier of adds some q v held =
    elim (cases_at q s) [
      | inl at ↦ let ends = end_is g h s q v adds at held in omega arith
      | inr other ↦ of.spans.some q v (still g h s q v adds other held)
    ]

more_apart : (g h : ℕ → Option ℕ) (s : Segment) (earlier : List Segment) → SpansOf g earlier → list_any (share_page s) earlier ≡ false → Adds g h s → first_page s < end_page s
    → (q v r w : ℕ) → h q ≡ Some v → h r ≡ Some w → q < r → v ≤ r
more_apart g h s earlier of alone adds some q v r w held held_later less =
    elim (cases_at q s) [
      | inl at ↦
          let ends : v ≡ end_page s = end_is g h s q v adds at held in
          let kept : g r ≡ Some w = still g h s r w adds (λ e. omega arith) held_later in
          let wide : r < w = of.spans.some r w kept in
          elim (cases_lt r (end_page s)) [
            | inl before ↦ absurd (clear g s earlier of alone r w kept before (omega arith))
            | inr after ↦ omega arith
          ]
      | inr other ↦
          let kept : g q ≡ Some v = still g h s q v adds other held in
          elim (cases_at r s) [
            | inl at ↦ elim (cases_lt (first_page s) v) [
              | inl shared ↦ absurd (clear g s earlier of alone q v kept (omega arith) shared)
              | inr apart ↦ omega arith
            ]
            | inr apart ↦ of.spans.apart q v r w kept (still g h s r w adds apart held_later) less
          ]
    ]

more_held : (g h : ℕ → Option ℕ) (s : Segment) (earlier : List Segment) → SpansOf g earlier → list_any (share_page s) earlier ≡ false → Adds g h s → first_page s < end_page s
    → (es : List Segment) → AllByRecursion (λ e. g (first_page e) ≡ Some (end_page e)) es → AllByRecursion (λ e. h (first_page e) ≡ Some (end_page e)) es
more_held g h s earlier of alone adds some [] held = tt
more_held g h s earlier of alone adds some (e ∷ es) held = (
  elim (cases_at (first_page e) s) [
    | inl at ↦
        let wide : first_page e < end_page e = of.spans.some (first_page e) (end_page e) held.0 in
        absurd (clear g s earlier of alone (first_page e) (end_page e) held.0 (omega arith) (omega arith))
    | inr other ↦ adds.there (first_page e) other ∙ held.0
  ],
  more_held g h s earlier of alone adds some es held.1,
)

or_true : (b : Bool) → (b || true) ≡ true
or_true true = refl
or_true false = refl

shares : (s t : Segment) → first_page s < end_page t → first_page t < end_page s → share_page t s ≡ true
shares s t before after = rw (lt-ltb (first_page t) (end_page s) after, lt-ltb (first_page s) (end_page t) before) refl

pub spans_more : (g h : ℕ → Option ℕ) (s : Segment) (earlier : List Segment) → SpansOf g earlier → list_any (share_page s) earlier ≡ false → first_page s < end_page s → Adds g h s → SpansOf h (s ∷ earlier)
spans_more g h s earlier of alone some adds = record {
  spans = record { some = more_some g h s earlier of adds some; apart = more_apart g h s earlier of alone adds some };
  held = (adds.here, more_held g h s earlier of alone adds some earlier of.held);
  only = λ q v held t before after. elim (cases_at q s) [
    | inl at ↦
        let ends : v ≡ end_page s = end_is g h s q v adds at held in
        rw (shares s t (omega arith) (omega arith)) refl
    | inr other ↦ rw (of.only q v (still g h s q v adds other held) t before after) (or_true (share_page t s))
  ];
}

-- the greatest span that begins before the area's end, compared to the area's first page
pub decided : (g : ℕ → Option ℕ) (s : Segment) (first end low high : ℕ) → AreSpans g → low ≡ first_page s → high ≡ end_page s → g first ≡ Some end → nat_cmp first high ≡ Less
    → ((q : ℕ) → nat_cmp q high ≡ Less → IsSome (g q) → is_lt (nat_cmp first q) ≡ false) → IsTrue (nat_lt low end) ↔ HasPageOf g s
decided g s first end low high spans is_low is_high held below greatest =
    let before : first < end_page s = rw (← is_high) (less_is first high below) in (
      λ t. (first, end, held, before, rw (← is_low) (ltb-true low end t)),
      λ has. lt-ltb low end (rw is_low (last_decides g s first end spans held before (λ q v less there. not_less first q (greatest q (is_less q high (rw is_high less)) (some_there (g q) v there))) has)),
    )

pub other_key : (k q : ℕ) → q ≢ k → is_eq (nat_cmp k q) ≡ false
other_key k q other =
    elim (cases_lt k q) [
      | inl less ↦ rw (lt-ltb k q less) refl
      | inr le ↦ rw (le-ltb k q le, ne_eqb k q (λ e. other (sym e))) refl
    ]
