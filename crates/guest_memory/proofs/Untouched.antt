-- The pages of a span are as in the first memory while none of them is touched.
use Rattle.std.proofs.Common.{ℕ, ◌≡◌, ◌+◌, ◌-◌, ◌*◌, ◌/◌, ◌%◌, ◌≤◌, ◌<◌, true, false, List, length, get_or, arith, refl, sym, ap, subst, ◌∙◌}
use Rattle.coz_types.specs.Image.{ImageParts}
use Rattle.coz_types.specs.Maps.{value_or}
use Rattle.guest_memory.specs.declared.Layout.{Layout}
use Rattle.guest_memory.specs.declared.Span.{Span}
use Rattle.guest_memory.specs.declared.Page.{Page}
use Rattle.guest_memory.specs.Spans.{numbers}
use Rattle.guest_memory.specs.Memory.{MemoryMap, first_memory, no_rights, byte_at, rights_at, IsFirstFrom}
use Rattle.guest_memory.specs.Shown.{map_of, IsMemory, IsSound, IsFirstPage}
use Rattle.guest_memory.specs.Marks.{AreClean, touched_with}
use Rattle.guest_memory.proofs.Laid.{stands, hit_at}
use Rattle.guest_memory.proofs.Shows.{rights-found, byte-map_of, image-map_of, layout-map_of}

-- what a memory shows was made from the image and the layout of its fields
made : (image : ImageParts) (layout : Layout) (spans : List Span) (pages : List Page) (bytes : List ℕ) (m : MemoryMap) → map_of image layout spans pages bytes ≡ m → first_memory image layout ≡ first_memory m.image m.layout
made image layout spans pages bytes m view =
    ap (λ (i : ImageParts). first_memory i layout) (sym (image-map_of image layout spans pages bytes) ∙ ap (λ (x : MemoryMap). x.image) view)
    ∙ ap (λ (l : Layout). first_memory m.image l) (sym (layout-map_of image layout spans pages bytes) ∙ ap (λ (x : MemoryMap). x.layout) view)

pub first_from : (image : ImageParts) (layout : Layout) (spans : List Span) (pages : List Page) (bytes : List ℕ) (m : MemoryMap) (j : ℕ) (d : Span) → IsMemory image layout spans pages bytes
    → map_of image layout spans pages bytes ≡ m → j < length spans
    → AreClean (get_or spans j d).at ((get_or spans j d).at + (get_or spans j d).count) true pages
    → IsFirstFrom ((get_or spans j d).first * 4096) ((get_or spans j d).count * 4096) m
unfolding IsFirstPage
first_from image layout spans pages bytes m j d is view inside clean a from below =
    let s = get_or spans j d in
    let page = a / 4096 in
    let k = s.at + (page - s.first) in
    let above : s.first ≤ page = omega (arith, from) in
    let within : page - s.first < s.count = omega (arith, from, below) in
    let t = stands 0 0 spans j d is.sound.laid inside in
    let here : k < length (numbers spans) = omega (arith, t.within, within) in
    let hit : get_or (numbers spans) k 0 ≡ page = hit_at spans j k d page is.sound.laid inside above within refl in
    let e : Page = touched_with no_rights in
    let untouched : (get_or pages k e).touched ≡ false = clean k e refl (omega arith) (omega (arith, within)) (omega (arith, here, is.sound.each_page)) in
    let first = is.first k e here untouched in
    let again = made image layout spans pages bytes m view in
    let place : get_or (numbers spans) k 0 * 4096 + a % 4096 ≡ a = ap (λ (q : ℕ). q * 4096 + a % 4096) hit ∙ (let f : page * 4096 + a % 4096 ≡ a = omega arith in f) in
    let low : a % 4096 < 4096 = omega arith in (
      ap (λ (x : MemoryMap). value_or no_rights x.rights page) (sym view)
          ∙ rights-found image layout spans pages bytes k e page is.sound (here, hit)
          ∙ first.0
          ∙ ap (λ (q : ℕ). value_or no_rights (first_memory image layout).rights q) hit
          ∙ ap (λ (x : MemoryMap). rights_at x a) again,
      ap (λ (x : MemoryMap). byte_at x a) (sym view)
          ∙ byte-map_of image layout spans pages bytes k a is.sound here hit
          ∙ first.1 (a % 4096) low
          ∙ ap (λ (q : ℕ). byte_at (first_memory image layout) q) place
          ∙ ap (λ (x : MemoryMap). byte_at x a) again,
    )

-- the first page of a span that has pages
pub first_low : (spans : List Span) (pages : List Page) (bytes : List ℕ) (j : ℕ) (d : Span) → IsSound spans pages bytes → j < length spans → 0 < (get_or spans j d).count → (get_or spans j d).first < 0x4000000
first_low spans pages bytes j d is inside some =
    let s = get_or spans j d in
    let k = s.at + (s.first - s.first) in
    let t = stands 0 0 spans j d is.laid inside in
    let hit : get_or (numbers spans) k 0 ≡ s.first = hit_at spans j k d s.first is.laid inside (omega arith) (omega (arith, some)) refl in
    subst (λ (n : ℕ). n < 0x4000000) hit (is.low k (omega (arith, t.within, some)))
