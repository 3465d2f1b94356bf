-- Blocks in order with none twice are those of the joined profile.
use Rattle.std.proofs.Common.{◌≡◌, ℕ, suc, ◌+◌, ◌<◌, ◌≤◌, ◌-◌, drop, inr, option_map, Ok, Err, add-zero, length-append, Bool, true, false, ◌&&◌, if◌then◌else◌, List, [], ◌∷◌, ◌++◌, length, map, get_or, All, Option, Some, None, refl, sym, ap, ap₂, subst, ◌∙◌, arith}
use Rattle.std.specs.List.{AllByRecursion, list_all}
use Rattle.std.specs.Ordering.{is_lt, is_eq, ordering_reverse}
use Rattle.std.specs.declared.cmp.Ordering.{Ordering}
use Rattle.std.specs.declared.cmp.Ordering.TheVariants.{Less, Equal, Greater}
use Rattle.std.specs.List.Sorted.{IsPermutation}
use Rattle.std.proofs.lemmas.List.{map-append, length-drop}
use Rattle.std.proofs.lemmas.List.Elements.{All-contains, All-get_or, All-weaker}
use Rattle.std.proofs.lemmas.List.Sorted.{IsPermutation-map, IsPermutation-sym}
use Rattle.coz_types.specs.declared.TheConstants.{MAX_POINTS, MAX_NUMBER}
use Rattle.coz_types.specs.Labels.{Text, is_label, label_before}
use Rattle.coz_types.specs.Ranges.{IsSummary}
use Rattle.coz_types.specs.declared.record.Summary.{Summary}
use Rattle.profile_book.specs.declared.profile.Profile.{Profile}
use Rattle.profile_book.specs.Profile.{is_rising, summary_before, IsProfile}
use Rattle.profile_labels.proofs.Sorting.{Rises, sorted_rises}
use Rattle.profile_join.specs.Order.{block_cmp, tag_before, are_alike}
use Rattle.profile_join.specs.Parts.{blocks_of, tag, tagged, numbered, first_alike, head_of, IsKind, IsJoin, twice, twice_at, in_order}
use Rattle.profile_join.specs.declared.fault.PartKind.TheVariants.{Twice}
use Rattle.profile_join.specs.declared.fault.JoinError.TheVariants.{Unlike}
use Rattle.profile_join.proofs.Among.{Among, among_moved, among_map, from_among, out_of_all, each_of, one_of}
use Rattle.profile_join.specs.declared.tagged.NumberedPart.{NumberedPart}
use Rattle.profile_join.specs.declared.tagged.Tagged.{Tagged}
use Rattle.profile_join.proofs.InOrder.{sorted_moved}
use Rattle.profile_join.proofs.Blocks.{blocks_total, tags_rank, before_by_order}

untag_tag : (n : ℕ) (ss : List Summary) → map (λ (t : Tagged). t.summary) (map (tag n) ss) ≡ ss
untag_tag n [] = refl
untag_tag n (s ∷ ss) = ap (λ (l : List Summary). s ∷ l) (untag_tag n ss)

-- the tagged blocks are the blocks
pub untag_tagged : (n : ℕ) (parts : List Profile) → map (λ (t : Tagged). t.summary) (tagged n parts) ≡ blocks_of parts
untag_tagged n [] = refl
untag_tagged n (p ∷ parts) =
    map-append (λ (t : Tagged). t.summary) (map (tag n) p.summaries) (tagged (suc n) parts)
    ∙ ap₂ (λ (a b : List Summary). a ++ b) (untag_tag n p.summaries) (untag_tagged (suc n) parts)

pub all_blocks : (parts : List Profile) (tags : List Tagged) → IsPermutation (tagged 0 parts) tags → IsPermutation (blocks_of parts) (map (λ (t : Tagged). t.summary) tags)
all_blocks parts tags moved =
    subst (λ (ss : List Summary). IsPermutation ss (map (λ (t : Tagged). t.summary) tags)) (untag_tagged 0 parts)
    (IsPermutation-map (λ (t : Tagged). t.summary) (tagged 0 parts) tags moved)

abbrev AreLabelled : List Tagged → Type 0
AreLabelled tags = AllByRecursion (λ (t : Tagged). is_label t.summary.selected ≡ true) tags

strict : (o : Ordering) → is_lt (ordering_reverse o) ≡ false → is_eq o ≡ false → is_lt o ≡ true
strict Less e f = refl
strict Equal e f = absurd cc
strict Greater e f = absurd cc

step : (a b : Tagged) → is_label a.summary.selected ≡ true → is_label b.summary.selected ≡ true → tag_before b a ≡ false → are_alike a b ≡ false → summary_before a.summary b.summary ≡ true
step a b right other low apart =
    before_by_order a.summary b.summary right other
    (strict (block_cmp a.summary b.summary) (ap is_lt (sym (blocks_total.antisymm b.summary a.summary)) ∙ low) apart)

and_true : (p q : Bool) → p ≡ true → q ≡ true → (p && q) ≡ true
and_true true true e f = refl
and_true true false e f = f
and_true false q e f = e

apart_or : (b : Bool) (t : Tagged) (o : Option Tagged) → (if b then Some t else o) ≡ None → (b ≡ false) × (o ≡ None)
apart_or true t o e = absurd cc
apart_or false t o e = (refl, e)

-- if none is alike with the one before it, they rise strictly
pub rise : (tags : List Tagged) → Rises tag_before tags_rank tags → AreLabelled tags → first_alike tags ≡ None → is_rising summary_before (map (λ (t : Tagged). t.summary) tags) ≡ true
rise [] up right none = refl
rise (a ∷ []) up right none = refl
rise (a ∷ b ∷ rest) up right none =
    let two = apart_or (are_alike a b) b (first_alike (b ∷ rest)) none in
    and_true (summary_before a.summary b.summary) (is_rising summary_before (map (λ (t : Tagged). t.summary) (b ∷ rest)))
    (step a b right.0 right.1.0 up.0.0 two.0)
    (rise (b ∷ rest) up.1 right.1 two.1)

pub short_none : (tags : List Tagged) → length tags ≤ 1 → None ≡ first_alike tags
short_none [] le = refl
short_none (a ∷ []) le = refl
short_none (a ∷ b ∷ rest) le = absurd (omega (arith, le))

pub ends_short : (tags : List Tagged) (i : ℕ) → 1 ≤ i → length tags ≤ i → length (drop (i - 1) tags) ≤ 1
ends_short tags i some le = let e : length (drop (i - 1) tags) ≡ length tags - (i - 1) = length-drop (i - 1) tags in omega (arith, e, some, le)

-- one part more
numbered_more : (n : ℕ) (parts : List Profile) (p : Profile) → numbered n (parts ++ p ∷ []) ≡ numbered n parts ++ record { number = n + length parts; summaries = p.summaries } ∷ []
numbered_more n [] p = ap (λ m. record { number = m; summaries = p.summaries } ∷ []) (sym (add-zero n))
numbered_more n (q ∷ parts) p =
    ap (λ (l : List NumberedPart). record { number = n; summaries = q.summaries } ∷ l)
    (numbered_more (suc n) parts p ∙ ap (λ m. numbered (suc n) parts ++ record { number = m; summaries = p.summaries } ∷ []) (omega arith))

pub count_next : (yielded : List Profile) (part : Profile) (number : ℕ) → number ≡ length yielded → number + 1 ≡ length (yielded ++ part ∷ [])
count_next yielded part number e = let more = length-append yielded (part ∷ []) in omega (arith, e, more)

pub numbered_next : (yielded : List Profile) (part : Profile) (made new : List NumberedPart) (number : ℕ) → new ≡ made ++ record { number = number; summaries = part.summaries } ∷ [] → made ≡ numbered 0 yielded → number ≡ length yielded → new ≡ numbered 0 (yielded ++ part ∷ [])
numbered_next yielded part made new number is so_far count =
    let at : number ≡ 0 + length yielded = omega (arith, count) in
    is ∙ ap₂ (λ (l : List NumberedPart) m. l ++ record { number = m; summaries = part.summaries } ∷ []) so_far at ∙ sym (numbered_more 0 yielded part)

module _ (parts : List Profile) (some : 0 < length parts) (right : All IsProfile parts) (fine : All (λ (p : Profile). IsKind (head_of parts) p None) parts) where
  -- each block of the joined list is right
  block_right : (ss : List Summary) → IsPermutation (blocks_of parts) ss → (s : Summary) → Among s ss → IsSummary (length (head_of parts).points) s
  block_right ss moved s h =
      let at = out_of_all (λ (p : Profile). p.summaries) s parts (among_moved ss (blocks_of parts) s (IsPermutation-sym (blocks_of parts) ss moved) h) in
      let p : Profile = at.0 in
      let there = from_among p parts at.1 in
      let whole : IsProfile p = All-contains IsProfile parts p right there in
      let same = All-contains (λ (p : Profile). IsKind (head_of parts) p None) parts p fine there in
      subst (λ ns. IsSummary (length ns) s) same.1 (one_of (IsSummary (length p.points)) s p.summaries whole.summaries at.2)

  pub joins : (tags : List Tagged) → tags ≡ in_order parts → None ≡ first_alike tags
      → (budget : ℕ) (points : List Text) (ss : List Summary) → budget ≡ (head_of parts).budget → points ≡ (head_of parts).points → ss ≡ map (λ (t : Tagged). t.summary) tags
      → IsJoin parts (Ok (record { budget = budget; points = points; summaries = ss }))
  unfolding twice in_order
  joins tags is none budget points ss eb ep es =
      let all : IsPermutation (blocks_of parts) ss = subst (λ l. IsPermutation (blocks_of parts) l) (sym es) (all_blocks parts tags (subst (IsPermutation (tagged 0 parts)) (sym is) (sorted_moved (tagged 0 parts)))) in
      let first : Profile = get_or parts 0 (record { budget = 0; points = []; summaries = [] }) in
      let whole : IsProfile first = All-get_or IsProfile parts 0 (record { budget = 0; points = []; summaries = [] }) some right in
      let each : (s : Summary) → Among s ss → IsSummary (length (head_of parts).points) s = block_right ss all in
      let labels : AllByRecursion (λ (t : Tagged). is_label t.summary.selected ≡ true) tags =
      each_of (λ (t : Tagged). is_label t.summary.selected ≡ true) tags (λ t h. (each t.summary (subst (Among t.summary) (sym es) (among_map (λ (t : Tagged). t.summary) t tags h))).selected) in
      let up : Rises tag_before tags_rank tags = subst (Rises tag_before tags_rank) (sym is) (sorted_rises tag_before tags_rank (tagged 0 parts)) in (
        (fine, ap (λ ts. option_map twice_at (first_alike ts)) (sym is) ∙ ap (option_map twice_at) (sym none)),
        record {
          budget = All-weaker (λ (p : Profile). IsKind (head_of parts) p None) (λ (p : Profile). p.budget ≡ budget) (λ p f. f.0 ∙ sym eb) parts fine;
          points = All-weaker (λ (p : Profile). IsKind (head_of parts) p None) (λ (p : Profile). p.points ≡ points) (λ p f. f.1 ∙ sym ep) parts fine;
          right = record {
            budget = subst (λ n. n ≤ MAX_NUMBER) (sym eb) whole.budget;
            points = subst (λ (ns : List Text). length ns ≤ MAX_POINTS) (sym ep) whole.points;
            names = subst (λ (ns : List Text). list_all is_label ns ≡ true) (sym ep) whole.names;
            names_rise = subst (λ (ns : List Text). is_rising label_before ns ≡ true) (sym ep) whole.names_rise;
            summaries = subst (λ (ns : List Text). AllByRecursion (IsSummary (length ns)) ss) (sym ep) (each_of (IsSummary (length (head_of parts).points)) ss each);
            blocks_rise = ap (is_rising summary_before) es ∙ rise tags up labels (sym none);
          };
          blocks = all;
        },
      )

  -- a block that stands twice is the fault
  pub twice_is : (tags : List Tagged) (t : Tagged) → tags ≡ in_order parts → Some t ≡ first_alike tags → (label : Text) → label ≡ t.summary.selected
      → IsJoin parts (Err (Unlike (record { kind = Twice label; part = t.part })))
  unfolding twice in_order
  twice_is tags t is found label e =
      inr (fine, ap (λ ts. option_map twice_at (first_alike ts)) (sym is) ∙ ap (option_map twice_at) (sym found) ∙ ap (λ l. Some (record { kind = Twice l; part = t.part })) (sym e))
