-- What the index of a program's table keeps.
use Rattle.std.proofs.Common.{◌≡◌, ℕ, ◌+◌, ◌<◌, ◌↔◌, Bool, true, false, ◌&&◌, List, [], length, get_or, slice_get, Contains, Option, Some, None, option_map, All, refl, sym, ap, ◌∙◌, subst, arith, nat_le, nat_lt, eqb-true, eq-eqb, ltb-true, if◌then◌else◌}
use Rattle.std.proofs.lemmas.Bool.{and_parts, false_from_ne_true}
use Rattle.std.proofs.lemmas.List.Elements.{All-get_or}
use Rattle.std.proofs.lemmas.List.Folds.{Any-from_list_any}
use Rattle.std.proofs.lemmas.Option.{slice_get_within, slice_get-get_or}
use Rattle.coz_types.specs.declared.image.Area.{Area}
use Rattle.coz_types.specs.Image.{ImageParts, IsAreaOf, IsImage}
use Rattle.dwarf_lines.specs.Registers.{Table}
use Rattle.line_index.specs.Index.{Index, IsIndex, has_line, position_at}
use Rattle.line_index.specs.Keys.{is_at}
use Rattle.line_index.specs.Lines.{Line, Begins, is_executable, line_of}
use Rattle.line_index.proofs.Order.{one_place}
use Rattle.line_remap.specs.Sound.{BeginsAt, IsIndexOf, IsSound}

-- ---- positions

position_is : (k : ℕ) (position : Option ℕ) → is_at k position ≡ true → position ≡ Some k
position_is k None e = absurd cc
position_is k (Some j) e = ap (λ (n : ℕ). Some n) (eqb-true j k e)

is_position : (k : ℕ) (position : Option ℕ) → position ≡ Some k → is_at k position ≡ true
is_position k position e = ap (is_at k) e ∙ eq-eqb k k refl

module _ (table : Table) (areas : List Area) (index : Index) (is : IsIndex table areas index) where
  some_line : (k : ℕ) (line : Option Line) → Some (slice_get index.lines k) ≡ option_map Some line → (l : Line) × (line ≡ Some l) × (slice_get index.lines k ≡ Some l)
  some_line k None e = absurd cc
  some_line k (Some l) e = let same : slice_get index.lines k ≡ Some l = cc in (l, refl, same)

  -- the line at a position that an address has
  line_there : (a k : ℕ) → position_at index a ≡ Some k → (l : Line) × (line_of table areas a ≡ Some l) × (slice_get index.lines k ≡ Some l)
  line_there a k at = some_line k (line_of table areas a) (sym (ap (option_map (slice_get index.lines)) at) ∙ is.positions a)

  by_position : (k : ℕ) (l : Line) (position : Option ℕ) → option_map (slice_get index.lines) position ≡ Some (Some l) → slice_get index.lines k ≡ Some l → position ≡ Some k
  by_position k l None e at = absurd cc
  by_position k l (Some j) e at =
      let there : slice_get index.lines j ≡ Some l = cc in
      ap (λ (n : ℕ). Some n) (one_place index.lines j k l is.in_order there at)

  position_there : (a k : ℕ) (l : Line) → line_of table areas a ≡ Some l → slice_get index.lines k ≡ Some l → position_at index a ≡ Some k
  position_there a k l has at = by_position k l (position_at index a) (is.positions a ∙ ap (λ o. option_map Some o) has) at

  within : (a k : ℕ) → position_at index a ≡ Some k → k < length index.lines
  within a k at = let there = line_there a k at in slice_get_within index.lines k there.0 there.2

  to_line : (k a : ℕ) (l : Line) → slice_get index.lines k ≡ Some l → has_line index k a ≡ true → line_of table areas a ≡ Some l
  to_line k a l at has =
      let there = line_there a k (position_is k (position_at index a) has) in
      let same : there.0 ≡ l = let both : Some there.0 ≡ Some l = sym there.2 ∙ at in cc in
      there.1 ∙ ap (λ (m : Line). Some m) same

  from_line : (k a : ℕ) (l : Line) → slice_get index.lines k ≡ Some l → line_of table areas a ≡ Some l → has_line index k a ≡ true
  from_line k a l at has = is_position k (position_at index a) (position_there a k l has at)

  -- ---- where a line begins

  begins_at : (k a : ℕ) (l : Line) → slice_get index.lines k ≡ Some l → Begins table areas l a → BeginsAt index k a
  begins_at k a l at h = (
    from_line k a l at h.0,
    λ b next. false_from_ne_true (has_line index k b) (λ e. h.1 b next (to_line k b l at e)),
  )

  at_begins : (k a : ℕ) (l : Line) → slice_get index.lines k ≡ Some l → BeginsAt index k a → Begins table areas l a
  at_begins k a l at h = (
    to_line k a l at h.0,
    λ b next same. let no : true ≡ false = sym (from_line k b l at same) ∙ h.1 b next in cc,
  )

  entries : (k a : ℕ) → k < length index.lines → Contains (get_or index.entries k []) a ↔ BeginsAt index k a
  entries k a lt =
      let zero_line : Line = record { path = []; number = 0 } in
      let l = get_or index.lines k zero_line in
      let at : slice_get index.lines k ≡ Some l = slice_get-get_or index.lines k zero_line lt in
      let es : slice_get index.entries k ≡ Some (get_or index.entries k []) = slice_get-get_or index.entries k [] (omega (arith, is.as_many)) in
      let each = (is.entries k l (get_or index.entries k []) at es).each a in
      (λ c. begins_at k a l at (each.0 c), λ h. each.1 (at_begins k a l at h))

-- ---- executable addresses

by_executable : (table : Table) (areas : List Area) (a : ℕ) (l : Line) (t : Bool) (line : Option Line) → is_executable areas a ≡ t → (if t then line else None) ≡ Some l → is_executable areas a ≡ true
by_executable table areas a l true line is e = is
by_executable table areas a l false line is e = absurd cc

executable : (table : Table) (areas : List Area) (a : ℕ) (l : Line) → line_of table areas a ≡ Some l → is_executable areas a ≡ true
unfolding line_of
executable table areas a l e = by_executable table areas a l (is_executable areas a) _ refl e

low_executable : (file : List ℕ) (areas : List Area) (a : ℕ) → All (IsAreaOf file) areas → is_executable areas a ≡ true → a < 0x20_0000_0000
low_executable file areas a each e =
    let found = Any-from_list_any (λ (area : Area). area.rights.execute && (nat_le area.start a && nat_lt a (area.start + area.size))) areas e in
    let area = found.1 in
    let of : IsAreaOf file area = subst (IsAreaOf file) found.3 (All-get_or (IsAreaOf file) areas found.0 area found.2 each) in
    let parts = and_parts area.rights.execute (nat_le area.start a && nat_lt a (area.start + area.size)) found.4 in
    let below = ltb-true a (area.start + area.size) (and_parts (nat_le area.start a) (nat_lt a (area.start + area.size)) parts.1).1 in
    omega (arith, of.high, below)

pub sound : (image : ImageParts) (index : Index) → IsImage image → IsIndexOf image.areas index → IsSound index
sound image index valid (table, is) = record {
  within = within table image.areas index is;
  low = λ k a has. (let there = line_there table image.areas index is a k (position_is k (position_at index a) has) in
      low_executable image.file image.areas a valid.each (executable table image.areas a there.0 there.1));
  as_many = is.as_many;
  entries = entries table image.areas index is;
}
