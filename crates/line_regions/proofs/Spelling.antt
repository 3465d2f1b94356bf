-- The lines of a program rise, as their labels do.
use Rattle.std.proofs.Common.{◌≡◌, ℕ, ◌+◌, ◌<◌, ⊎_elim, true, List, [], ◌∷◌, ◌++◌, length, map, take, get_or, slice_get, Some, sym, ap, ◌∙◌, subst, arith}
use Rattle.std.specs.Prelude.{AllPairs}
use Rattle.std.proofs.lemmas.Bool.{cases_lt}
use Rattle.std.proofs.lemmas.List.{get_or-map, length-map, map-append, take_more}
use Rattle.std.proofs.lemmas.Option.{get_or_from_slice_get, slice_get-get_or, slice_get_within}
use Rattle.coz_types.specs.Labels.{Text, label_before}
use Rattle.line_index.specs.Lines.{Line}
use Rattle.line_remap.specs.declared.location.Location.{Location}
use Rattle.line_remap.specs.Locations.{line_of_location}
use Rattle.line_regions.specs.Lines.{IsBefore, lines_at}
use Rattle.line_remap.specs.Marks.{line_of_label}

-- the first labels rise
abbrev pub RiseTo : List Text → ℕ → Type 0
RiseTo labels n = (i j : ℕ) (a b : Text) → i < j → j < n → slice_get labels i ≡ Some a → slice_get labels j ≡ Some b → label_before a b ≡ true

pub rise_more : (labels : List Text) (n : ℕ) (text : Text) → slice_get labels n ≡ Some text → RiseTo labels n → ((earlier : ℕ) (other : Text) → earlier < n → slice_get labels earlier ≡ Some other → label_before other text ≡ true) → RiseTo labels (n + 1)
rise_more labels n text there rise before i j a b less lt one two =
    ⊎_elim (λ in_old. rise i j a b less in_old one two) (λ le. here (omega (arith, lt, le))) (cases_lt j n)
  where
    here : j ≡ n → label_before a b ≡ true
    here same =
        let both : Some b ≡ Some text = sym two ∙ ap (slice_get labels) same ∙ there in
        let is : b ≡ text = cc in
        ap (label_before a) is ∙ before i a (omega (arith, less, same)) one

pub all_rise : (labels : List Text) (lines : List Line) (n : ℕ) → n ≡ length labels → RiseTo labels n → lines ≡ map line_of_label labels → AllPairs IsBefore lines
all_rise labels lines n whole rise are i j d less lt =
    let in_labels : j < length labels = omega (arith, lt, ap length are, length-map labels line_of_label) in
    let a = get_or labels i [] in
    let b = get_or labels j [] in
    let one : get_or lines i d ≡ line_of_label a = ap (λ (ls : List Line). get_or ls i d) are ∙ get_or-map line_of_label labels i [] d (omega (arith, less, in_labels)) in
    let two : get_or lines j d ≡ line_of_label b = ap (λ (ls : List Line). get_or ls j d) are ∙ get_or-map line_of_label labels j [] d in_labels in
    subst (λ (l : Line). IsBefore l (get_or lines j d)) (sym one)
    (subst (λ (l : Line). IsBefore (line_of_label a) l) (sym two)
    (rise i j a b less (omega (arith, in_labels, whole)) (slice_get-get_or labels i [] (omega (arith, less, in_labels))) (slice_get-get_or labels j [] in_labels)))

pub lines_more : (labels : List Text) (n : ℕ) (text : Text) (locations new : List Location) (location : Location) → slice_get labels n ≡ Some text → line_of_location location ≡ line_of_label text → new ≡ locations ++ location ∷ [] → lines_at locations ≡ map line_of_label (take n labels) → lines_at new ≡ map line_of_label (take (n + 1) labels)
lines_more labels n text locations new location there is made before =
    ap lines_at made
    ∙ map-append line_of_location locations (location ∷ [])
    ∙ ap (λ (l : Line). lines_at locations ++ l ∷ []) is
    ∙ ap (λ (ls : List Line). ls ++ line_of_label text ∷ []) before
    ∙ sym (map-append line_of_label (take n labels) (text ∷ []))
    ∙ ap (map line_of_label) (ap (λ (t : Text). take n labels ++ t ∷ []) (sym (get_or_from_slice_get labels n text [] there)) ∙ sym (take_more labels n [] (slice_get_within labels n text there)))
