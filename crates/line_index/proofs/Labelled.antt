-- The labels of lines in order: each is right, and they rise.
use Rattle.std.proofs.Common.{◌≡◌, ℕ, ◌<◌, List, [], ◌++◌, Option, Some, None, option_map, IfSome, map, get_or, slice_get, All, Contains, true, refl, sym, ap, ◌∙◌, subst}
use Rattle.std.specs.List.{cons_option}
use Rattle.std.specs.Ordering.{is_lt}
use Rattle.std.specs.List.Sorted.{IsStrictlySortedBy}
use Rattle.std.proofs.lemmas.List.Elements.{All-get_or, All-append, All-nil, All-push, All-contains, All-contains_itself, All-weaker}
use Rattle.std.proofs.lemmas.Map.Keys.{Less-from_sorted}
use Rattle.std.proofs.lemmas.Option.{slice_get-map, slice_get_within, get_or_from_slice_get}
use Rattle.coz_types.specs.Labels.{Text, is_label, label_before}
use Rattle.coz_types.proofs.Labels.{label_is, before_is}
use Rattle.line_index.specs.Lines.{Line, IsRight, label, line_cmp}

-- ---- lists

pub all_more : {X : Type 0} (P : X → Type 0) (xs : List X) (x : Option X) → All P xs → IfSome x P → All P (xs ++ cons_option x [])
all_more P xs None all one = All-append P xs [] all (All-nil P)
all_more P xs (Some x) all one = All-push P xs x all one

-- what holds of all elements of a list holds of those of a list with no others
pub all_of : {X : Type 0} (P : X → Type 0) (xs ys : List X) → ((x : X) → Contains ys x → Contains xs x) → All P xs → All P ys
all_of P xs ys from all = All-weaker (Contains ys) P (λ y h. All-contains P xs y all (from y h)) ys (All-contains_itself ys)

-- ---- labels

line_there : (line : Option Line) (text : Text) → option_map label line ≡ Some text → (l : Line) × (line ≡ Some l) × (label l ≡ text)
line_there None text e = let no : ⊥ = cc in absurd no
line_there (Some l) text e = let same : label l ≡ text = cc in (l, refl, same)

labelled : (lines : List Line) (k : ℕ) (text : Text) → slice_get (map label lines) k ≡ Some text → (l : Line) × (slice_get lines k ≡ Some l) × (label l ≡ text)
labelled lines k text e = line_there (slice_get lines k) text (sym (slice_get-map label lines k) ∙ e)

right_at : (lines : List Line) (k : ℕ) (l : Line) → All IsRight lines → slice_get lines k ≡ Some l → IsRight l
right_at lines k l all at = subst IsRight (get_or_from_slice_get lines k l l at) (All-get_or IsRight lines k l (slice_get_within lines k l at) all)

pub right_label : (lines : List Line) (k : ℕ) (text : Text) → All IsRight lines → slice_get (map label lines) k ≡ Some text → is_label text ≡ true
right_label lines k text all e =
    let found = labelled lines k text e in
    let l : Line = found.0 in
    let right = right_at lines k l all found.1 in
    ap is_label (sym found.2) ∙ label_is l.path l.number right.named right.written right.positive right.small

pub labels_rise : (lines : List Line) (j k : ℕ) (first second : Text) → IsStrictlySortedBy line_cmp lines → All IsRight lines → j < k → slice_get (map label lines) j ≡ Some first → slice_get (map label lines) k ≡ Some second → label_before first second ≡ true
labels_rise lines j k first second up all lt e f =
    let one = labelled lines j first e in
    let two = labelled lines k second f in
    let l : Line = one.0 in
    let m : Line = two.0 in
    let less = Less-from_sorted line_cmp lines j k l up lt (slice_get_within lines k m two.1) in
    let here = ap (λ n. line_cmp n (get_or lines k l)) (get_or_from_slice_get lines j l l one.1) in
    let there = ap (λ n. line_cmp l n) (get_or_from_slice_get lines k m l two.1) in
    ap (λ t. label_before t second) (sym one.2) ∙ ap (λ t. label_before (label l) t) (sym two.2)
    ∙ before_is l.path m.path l.number m.number (right_at lines j l all one.1).small (right_at lines k m all two.1).small
    ∙ ap is_lt (sym there ∙ sym here ∙ less)
