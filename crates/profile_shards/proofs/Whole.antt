-- The joined profile of lists of lines is that of all their lines together.
use Rattle.std.proofs.Common.{◌≡◌, ℕ, ◌<◌, Bool, true, ◌&&◌, List, [], ◌∷◌, ◌++◌, map, flat_map, Contains, refl, sym, ap, ap₂, subst, ◌∙◌}
use Rattle.std.specs.List.{AllByRecursion}
use Rattle.std.specs.List.Sorted.{IsStrictlySortedBy}
use Rattle.std.specs.Ordering.{is_lt, nat_cmp, ordering_then}
use Rattle.std.specs.declared.cmp.Ordering.TheVariants.{Less}
use Rattle.std.proofs.lemmas.Cmp.{nat_cmp_total, tied_itself}
use Rattle.std.proofs.lemmas.List.Elements.{All-head}
use Rattle.std.proofs.lemmas.List.Sorted.{IsPermutation-sym}
use Rattle.coz_types.specs.Labels.{Text, is_label}
use Rattle.coz_types.specs.declared.record.Summary.{Summary}
use Rattle.profile_book.specs.declared.profile.Profile.{Profile}
use Rattle.profile_book.specs.Profile.{is_rising, summary_before}
use Rattle.profile_join.specs.Parts.{blocks_of, IsJoined}
use Rattle.profile_join.proofs.Among.{Among, among_moved, among_map, among_mapped, into_all, out_of_all, to_among, from_among}
use Rattle.profile_join.proofs.Blocks.{blocks_strict, before_by_order}
use Rattle.profile_join.proofs.Rising.{same_rising}
use Rattle.profile_shards.specs.Shards.{AreBlocks, AreTogether, blocks_at, profile_at}
use Rattle.profile_shards.proofs.Held.{Right, blocks_cmp}
use Rattle.profile_shards.proofs.Twice.{is_block}

among_of : {X : Type 0} (x : X) (xs : List X) → Contains xs x → Among x xs
among_of x xs at = to_among x xs at.0 at.1 at.2

-- ---- lists of blocks that rise

abbrev IsAbove : Summary → List Summary → Type 0
IsAbove s ss = AllByRecursion (λ t. summary_before s t ≡ true) ss

abbrev AllRise : List Summary → Type 0
AllRise [] = Unit {0}
AllRise (s ∷ ss) = IsAbove s ss × AllRise ss

above_both : (s : Summary) (ss ts : List Summary) → IsAbove s ss → IsAbove s ts → IsAbove s (ss ++ ts)
above_both s [] ts one two = two
above_both s (t ∷ ss) ts one two = (one.0, above_both s ss ts one.1 two)

pub and_true : (p q : Bool) → p ≡ true → q ≡ true → (p && q) ≡ true
and_true p q e f = ap₂ (λ a b. a && b) e f

rising_of : (ss : List Summary) → AllRise ss → is_rising summary_before ss ≡ true
rising_of [] all = refl
rising_of (s ∷ []) all = refl
rising_of (s ∷ t ∷ ss) all = and_true (summary_before s t) (is_rising summary_before (t ∷ ss)) all.0.0 (rising_of (t ∷ ss) all.1)

module _ {count : ℕ} {label : ℕ → Text} {block : ℕ → ℕ → Summary} (are : AreBlocks count label block) where
  before : (l m q p : ℕ) → l < count → m < count → ordering_then (nat_cmp l m) (nat_cmp q p) ≡ Less → summary_before (block l q) (block m p) ≡ true
  before l m q p few few' less =
      before_by_order (block l q) (block m p) (labelled l q few) (labelled m p few') (ap is_lt (blocks_cmp are l m q p few few' ∙ less))
    where
      labelled : (n k : ℕ) → n < count → is_label (block n k).selected ≡ true
      labelled n k lt = subst (λ t. is_label t ≡ true) (sym (are.selected n k)) (are.right n lt)

  of_line : (l q : ℕ) (ps : List ℕ) → l < count → AllByRecursion (λ p. nat_cmp q p ≡ Less) ps → IsAbove (block l q) (map (block l) ps)
  of_line l q [] few all = tt
  of_line l q (p ∷ ps) few all = (before l l q p few few (ap (λ o. ordering_then o (nat_cmp q p)) (tied_itself nat_cmp_total l) ∙ all.0), of_line l q ps few all.1)

  of_later : (l m q : ℕ) (ps : List ℕ) → l < count → m < count → nat_cmp l m ≡ Less → IsAbove (block l q) (map (block m) ps)
  of_later l m q [] few few' less = tt
  of_later l m q (p ∷ ps) few few' less = (before l m q p few few' (ap (λ o. ordering_then o (nat_cmp q p)) less), of_later l m q ps few few' less)

  module _ (qs : List ℕ) (rising : IsStrictlySortedBy nat_cmp qs) where
    of_others : (l q : ℕ) (lines : List ℕ) → l < count → AllByRecursion (λ line. line < count) lines → AllByRecursion (λ line. nat_cmp l line ≡ Less) lines → IsAbove (block l q) (blocks_at block qs lines)
    of_others l q [] few below all = tt
    of_others l q (m ∷ lines) few below all =
        above_both (block l q) (map (block m) qs) (blocks_at block qs lines) (of_later l m q qs few below.0 all.0) (of_others l q lines few below.1 all.1)

    line_first : (l : ℕ) (ps : List ℕ) (rest : List Summary) → l < count → IsStrictlySortedBy nat_cmp ps → AllRise rest → ((q : ℕ) → IsAbove (block l q) rest) → AllRise (map (block l) ps ++ rest)
    unfolding IsStrictlySortedBy
    line_first l [] rest few up all above = all
    line_first l (p ∷ ps) rest few up all above = (
      above_both (block l p) (map (block l) ps) rest (of_line l p ps few up.0) (above p),
      line_first l ps rest few up.1 all above,
    )

    lines_rise : (lines : List ℕ) → IsStrictlySortedBy nat_cmp lines → AllByRecursion (λ line. line < count) lines → AllRise (blocks_at block qs lines)
    unfolding IsStrictlySortedBy
    lines_rise [] up below = tt
    lines_rise (l ∷ lines) up below =
        line_first l qs (blocks_at block qs lines) below.0 rising (lines_rise lines up.1 below.1) (λ q. of_others l q lines below.0 below.1 up.0)

    -- the blocks of rising lines rise
    pub blocks_rise : (lines : List ℕ) → IsStrictlySortedBy nat_cmp lines → AllByRecursion (λ line. line < count) lines → is_rising summary_before (blocks_at block qs lines) ≡ true
    blocks_rise lines up below = rising_of (blocks_at block qs lines) (lines_rise lines up below)

    module _ (budget : ℕ) (points : List Text) where
      abbrev parts : List (List ℕ) → List Profile
      parts lists = map (profile_at budget points block qs) lists

      -- a block of the parts is one of the whole, and the other way round
      into : (lists : List (List ℕ)) (whole : List ℕ) → ((l : ℕ) → Among l (flat_map (λ (lines : List ℕ). lines) lists) → Among l whole) → (s : Summary) → Among s (blocks_of (parts lists)) → Among s (blocks_at block qs whole)
      into lists whole to s h =
          let part = out_of_all (λ (p : Profile). p.summaries) s (parts lists) h in
          let list = among_mapped (profile_at budget points block qs) part.0 lists part.1 in
          let of = is_block block qs list.0 s (subst (λ (p : Profile). Among s p.summaries) (sym list.2) part.2) in
          let there : Among of.line whole = to of.line (into_all (λ (lines : List ℕ). lines) list.0 of.line lists list.1 of.there) in
          into_all (λ (l : ℕ). map (block l) qs) of.line s whole there (subst (λ t. Among t (map (block of.line) qs)) of.is (among_map (block of.line) of.speedup qs of.among))

      back : (lists : List (List ℕ)) (whole : List ℕ) → ((l : ℕ) → Among l whole → Among l (flat_map (λ (lines : List ℕ). lines) lists)) → (s : Summary) → Among s (blocks_at block qs whole) → Among s (blocks_of (parts lists))
      back lists whole from s h =
          let of = is_block block qs whole s h in
          let list = out_of_all (λ (lines : List ℕ). lines) of.line lists (from of.line of.there) in
          let there : Among s (blocks_at block qs list.0) =
          into_all (λ (l : ℕ). map (block l) qs) of.line s list.0 list.2 (subst (λ t. Among t (map (block of.line) qs)) of.is (among_map (block of.line) of.speedup qs of.among))
          in
          into_all (λ (p : Profile). p.summaries) (profile_at budget points block qs list.0) s (parts lists) (among_map (profile_at budget points block qs) list.0 lists list.1) there

      make : ℕ → List Text → List Summary → Profile
      make b ns ss = record { budget = b; points = ns; summaries = ss }

      -- what is joined is the profile of all lines
      pub joined_is : (list : List ℕ) (more : List (List ℕ)) (whole : List ℕ) → Right count whole → AreTogether count (list ∷ more) whole → (joined : Profile) → IsJoined (parts (list ∷ more)) joined → joined ≡ profile_at budget points block qs whole
      unfolding make
      joined_is list more whole right together joined is =
          let lists : List (List ℕ) = list ∷ more in
          let eb : joined.budget ≡ budget = sym (All-head (λ (p : Profile). p.budget ≡ joined.budget) (profile_at budget points block qs list) (parts more) is.budget) in
          let ep : joined.points ≡ points = sym (All-head (λ (p : Profile). p.points ≡ joined.points) (profile_at budget points block qs list) (parts more) is.points) in
          let es : joined.summaries ≡ blocks_at block qs whole =
          same_rising summary_before blocks_strict joined.summaries (blocks_at block qs whole) is.right.blocks_rise (blocks_rise whole right.rise right.below)
          (λ s h. into lists whole (λ l m. among_of l whole ((together.each l).1 (from_among l (flat_map (λ (lines : List ℕ). lines) lists) m))) s (among_moved joined.summaries (blocks_of (parts lists)) s (IsPermutation-sym (blocks_of (parts lists)) joined.summaries is.blocks) h))
          (λ s h. among_moved (blocks_of (parts lists)) joined.summaries s is.blocks (back lists whole (λ l m. among_of l (flat_map (λ (lines : List ℕ). lines) lists) ((together.each l).0 (from_among l whole m))) s h))
          in
          ap (λ ss. make joined.budget joined.points ss) es ∙ ap₂ (λ b ns. make b ns (blocks_at block qs whole)) eb ep
