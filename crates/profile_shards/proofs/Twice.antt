-- The first block that is in two parts is of the first line that is in two lists.
use Rattle.std.proofs.Common.{◌≡◌, ℕ, suc, ◌<◌, ◌≤◌, Bool, true, false, ◌==◌, ◌||◌, nat_lt, cond, if◌then◌else◌, inl, inr, ⊎_elim, List, [], ◌∷◌, map, filter, length, Some, None, refl, sym, ap, ap₂, subst, ◌∙◌, arith}
use Rattle.std.specs.List.{AllByRecursion, list_any}
use Rattle.std.specs.List.Sorted.{IsStrictlySortedBy, ties}
use Rattle.std.specs.Ordering.{is_lt, nat_cmp, ordering_then}
use Rattle.std.specs.declared.cmp.Ordering.TheVariants.{Less}
use Rattle.std.proofs.lemmas.Bool.{ltb-true, ltb-false}
use Rattle.std.proofs.lemmas.Bool.Decides.{nat_tests}
use Rattle.std.proofs.lemmas.List.{length-map}
use Rattle.coz_types.specs.Labels.{Text}
use Rattle.coz_types.specs.declared.record.Summary.{Summary}
use Rattle.profile_book.specs.declared.profile.Profile.{Profile}
use Rattle.profile_labels.specs.Sorted.{sorted_by}
use Rattle.profile_labels.proofs.Sorting.{sorted_rises, sorted_keeps}
use Rattle.profile_join.specs.Order.{tag_before}
use Rattle.profile_join.specs.Parts.{tag, tagged, first_alike, in_order}
use Rattle.profile_join.specs.declared.tagged.Tagged.{Tagged}
use Rattle.profile_join.proofs.Among.{Among, among_either, among_mapped, out_of_all, one_of}
use Rattle.profile_join.proofs.Blocks.{tags_rank}
use Rattle.profile_shards.specs.Shards.{AreBlocks, blocks_at, profile_at, holders, AreDisjoint, IsTwice}
use Rattle.profile_shards.proofs.Ties.{found_pair, single}
use Rattle.profile_shards.proofs.Held.{Right, blocks_cmp, held_all}

-- a block of lines is that of one of them
pub record IsBlock (block : ℕ → ℕ → Summary) (qs lines : List ℕ) (s : Summary) : Type 0 where
  pub line : ℕ
  pub speedup : ℕ
  pub there : Among line lines
  pub among : Among speedup qs
  pub is : block line speedup ≡ s

pub is_block : (block : ℕ → ℕ → Summary) (qs lines : List ℕ) (s : Summary) → Among s (blocks_at block qs lines) → IsBlock block qs lines s
is_block block qs lines s h =
    let at = out_of_all (λ (line : ℕ). map (block line) qs) s lines h in
    let of = among_mapped (block at.0) s qs at.2 in
    record { line = at.0; speedup = of.0; there = at.1; among = of.1; is = of.2 }

kept_among : {X : Type 0} (p : X → Bool) (x : X) (xs : List X) → Among x (filter p xs) → Among x xs
kept_among p x [] h = absurd h
kept_among p x (y ∷ ys) h = by (p y) h (kept_among p x ys)
  where
    by : (b : Bool) → Among x (cond b (y ∷ filter p ys) (filter p ys)) → (Among x (filter p ys) → Among x ys) → Among x (y ∷ ys)
    by true (inl e) more = inl e
    by true (inr h) more = inr (more h)
    by false h more = inr (more h)

-- a list of two that are tagged has two numbers
pub record AreTwo (numbers : List ℕ) (part : ℕ) : Type 0 where
  pub first : ℕ
  pub more : List ℕ
  pub second : numbers ≡ first ∷ part ∷ more

two_of : (s : Summary) (numbers : List ℕ) (a b : Tagged) (rest : List Tagged) → map (λ j. tag j s) numbers ≡ a ∷ b ∷ rest → AreTwo numbers b.part
two_of s [] a b rest e = absurd cc
two_of s (i ∷ []) a b rest e = absurd cc
two_of s (i ∷ k ∷ more) a b rest e =
    let same : tag k s ≡ b = cc in
    record { first = i; more = more; second = ap (λ n. i ∷ n ∷ more) (ap (λ (t : Tagged). t.part) same) }

none_holds : (m count : ℕ) (lines : List ℕ) → count ≤ m → AllByRecursion (λ line. line < count) lines → list_any (λ line. line == m) lines ≡ false
none_holds m count [] le all = refl
none_holds m count (l ∷ lines) le all =
    let below = all.0 in
    let other : (l == m) ≡ false = grind (arith, nat_tests, below, le) in
    ap₂ (λ a b. a || b) other (none_holds m count lines le all.1)

-- a line that the program hasn't is in no list
no_holders : (m count n : ℕ) (lists : List (List ℕ)) → count ≤ m → AllByRecursion (Right count) lists → holders m n lists ≡ []
no_holders m count n [] le right = refl
no_holders m count n (lines ∷ lists) le right =
    ap (λ b. if b then n ∷ holders m (suc n) lists else holders m (suc n) lists) (none_holds m count lines le right.0.below)
    ∙ no_holders m count (suc n) lists le right.1

module _ {count : ℕ} {label : ℕ → Text} {block : ℕ → ℕ → Summary} (are : AreBlocks count label block) (budget : ℕ) (points : List Text) (qs : List ℕ) (rising : IsStrictlySortedBy nat_cmp qs) where
  abbrev pub parts_at : List (List ℕ) → List Profile
  parts_at lists = map (profile_at budget points block qs) lists

  record IsTagged (t : Tagged) : Type 0 where
    line : ℕ
    speedup : ℕ
    few : line < count
    among : Among speedup qs
    is : tag t.part (block line speedup) ≡ t

  is_tagged : (n : ℕ) (lists : List (List ℕ)) → AllByRecursion (Right count) lists → (t : Tagged) → Among t (tagged n (parts_at lists)) → IsTagged t
  is_tagged n [] right t h = absurd h
  is_tagged n (lines ∷ lists) right t h = ⊎_elim here (is_tagged (suc n) lists right.1 t) (among_either t (map (tag n) (blocks_at block qs lines)) (tagged (suc n) (parts_at lists)) h)
    where
      here : Among t (map (tag n) (blocks_at block qs lines)) → IsTagged t
      here m =
          let at = among_mapped (tag n) t (blocks_at block qs lines) m in
          let of = is_block block qs lines at.0 at.1 in
          let part : n ≡ t.part = ap (λ (u : Tagged). u.part) at.2 in record {
            line = of.line;
            speedup = of.speedup;
            few = one_of (λ line. line < count) of.line lines right.0.below of.there;
            among = of.among;
            is = ap₂ (λ k (s : Summary). tag k s) (sym part) of.is ∙ at.2;
          }

  module _ (lists : List (List ℕ)) (right : AllByRecursion (Right count) lists) where
    abbrev all : List Tagged
    all = tagged 0 (parts_at lists)

    abbrev sorted : List Tagged
    sorted = sorted_by tag_before all

    -- as many that tie with a block of the line as there are lists that have it
    as_many : (m q : ℕ) → m < count → Among q qs → length (filter (ties tag_before (tag 0 (block m q))) sorted) ≡ length (holders m 0 lists)
    as_many m q few there =
        ap length (sorted_keeps tag_before tags_rank (tag 0 (block m q)) all ∙ held_all are 0 m q few qs rising there budget points 0 lists right)
        ∙ length-map (holders m 0 lists) (λ j. tag j (block m q))

    -- the first that is alike with the one before it tells the first line in two lists
    pub first_is_twice : (b : Tagged) → first_alike (in_order (parts_at lists)) ≡ Some b → (line : ℕ) × IsTwice lists line b.part × (b.summary.selected ≡ label line)
    unfolding in_order
    first_is_twice b found =
        let pair = found_pair sorted b (sorted_rises tag_before tags_rank all) found in
        let together = sym (sorted_keeps tag_before tags_rank b all) ∙ pair.together in
        let of : IsTagged b = is_tagged 0 lists right b (kept_among (ties tag_before b) b all (subst (Among b) (sym together) (inr (inl refl)))) in
        let two = two_of (block of.line of.speedup) (holders of.line 0 lists) pair.first b pair.more (sym (held_all are b.part of.line of.speedup of.few qs rising of.among budget points 0 lists right) ∙ ap (λ t. filter (ties tag_before t) all) of.is ∙ together) in (
          of.line,
          record {
            first = two.first;
            more = two.more;
            second = two.second;
            least = λ other lt.
                let few : other < count = omega (arith, lt, of.few) in
                let less : nat_cmp other of.line ≡ Less = grind (arith, nat_tests, lt) in
                let before : tag_before (tag 0 (block other of.speedup)) b ≡ true =
                ap (λ (t : Tagged). tag_before (tag 0 (block other of.speedup)) t) (sym of.is)
                ∙ ap is_lt (blocks_cmp are other of.line of.speedup of.speedup few of.few ∙ ap (λ o. ordering_then o (nat_cmp of.speedup of.speedup)) less)
                in
                subst (λ n. n ≤ 1) (as_many other of.speedup few of.among) (pair.least (tag 0 (block other of.speedup)) before);
          },
          ap (λ (t : Tagged). t.summary.selected) (sym of.is) ∙ are.selected of.line of.speedup,
        )

    -- if none is alike with the one before it, no line is in two lists
    pub none_is_twice : (q : ℕ) → Among q qs → first_alike (in_order (parts_at lists)) ≡ None → AreDisjoint lists
    unfolding in_order
    none_is_twice q there none line = by (nat_lt line count) refl
      where
        by : (b : Bool) → nat_lt line count ≡ b → length (holders line 0 lists) ≤ 1
        by true e = subst (λ n. n ≤ 1) (as_many line q (ltb-true line count e) there) (single sorted (tag 0 (block line q)) (sorted_rises tag_before tags_rank all) none)
        by false e = let none : length (holders line 0 lists) ≡ 0 = ap length (no_holders line count 0 lists (ltb-false line count e) right) in omega (arith, none)
