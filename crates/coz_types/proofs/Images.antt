-- Images of one area.
use Rattle.std.proofs.Common.{◌≡◌, ℕ, ◌+◌, ◌%◌, ◌≤◌, Bool, true, List, [], ◌∷◌, length, nat_le, nat_lt, ◌==◌, refl, subst, arith, lit<, eqb-true, leb-true, ltb-true}
use Rattle.std.specs.Prelude.{◌&&◌, not}
use Rattle.std.proofs.lemmas.Bool.{and_parts}
use Rattle.std.proofs.lemmas.List.Elements.{All-from_recursion}
use Rattle.std.proofs.lemmas.List.Kept.{AllPairs-cons}
use Rattle.coz_types.specs.declared.TheConstants.{PAGE, LOAD_END, MAX_LOADED}
use Rattle.coz_types.specs.declared.image.Area.{Area}
use Rattle.coz_types.specs.Image.{IsAreaOf, IsImage, IsExecutableAt, AreApart, area_end}

one_area : (file : List ℕ) (area : Area) (entry headers header_count : ℕ)
    → IsAreaOf file area → area.size ≤ MAX_LOADED → entry % 4 ≡ 0 → IsExecutableAt entry area
    → IsImage (record { file = file; areas = area ∷ []; entry = entry; headers = headers; header_count = header_count })
one_area file area entry headers header_count is fits aligned entered = record {
  each = All-from_recursion (IsAreaOf file) (area ∷ []) (is, tt);
  apart = AllPairs-cons AreApart area [] (λ k d below. absurd (omega arith))
      (λ i j d less below. absurd (omega arith));
  together = omega arith;
  aligned = aligned;
  entered = (0, area, lit< tt, refl, entered);
}

-- whether an area of text that is filled with n bytes of a file may be all that is loaded of it
abbrev pub is_text : ℕ → Area → ℕ → Bool
is_text bytes area entry =
    (area.start % PAGE == 0) && ((area.size % PAGE == 0) && (nat_le area.size MAX_LOADED && (nat_le PAGE area.start && (nat_le (area_end area) LOAD_END
    && (nat_le area.start area.vaddr && (nat_lt area.vaddr (area_end area) && (nat_le (area.vaddr + area.filled) (area_end area) && (nat_le (area.offset + area.filled) bytes
    && (not area.rights.write && (area.rights.execute && ((entry % 4 == 0) && (nat_le area.start entry && nat_lt entry (area_end area)))))))))))))

-- the image of such an area, as a computation tells
pub one_text : (file : List ℕ) (area : Area) (entry headers header_count bytes : ℕ) → bytes ≤ length file → is_text bytes area entry ≡ true
    → IsImage (record { file = file; areas = area ∷ []; entry = entry; headers = headers; header_count = header_count })
one_text file area entry headers header_count bytes has e =
    let p1 = and_parts (area.start % PAGE == 0) _ e in
    let p2 = and_parts (area.size % PAGE == 0) _ p1.1 in
    let p3 = and_parts (nat_le area.size MAX_LOADED) _ p2.1 in
    let p4 = and_parts (nat_le PAGE area.start) _ p3.1 in
    let p5 = and_parts (nat_le (area_end area) LOAD_END) _ p4.1 in
    let p6 = and_parts (nat_le area.start area.vaddr) _ p5.1 in
    let p7 = and_parts (nat_lt area.vaddr (area_end area)) _ p6.1 in
    let p8 = and_parts (nat_le (area.vaddr + area.filled) (area_end area)) _ p7.1 in
    let p9 = and_parts (nat_le (area.offset + area.filled) bytes) _ p8.1 in
    let p10 = and_parts (not area.rights.write) _ p9.1 in
    let p11 = and_parts area.rights.execute _ p10.1 in
    let p12 = and_parts (entry % 4 == 0) _ p11.1 in
    let p13 = and_parts (nat_le area.start entry) _ p12.1 in
    let fits : area.offset + area.filled ≤ bytes = leb-true _ _ p9.0 in
    one_area file area entry headers header_count
    (record {
      whole_start = eqb-true _ _ p1.0;
      whole_size = eqb-true _ _ p2.0;
      low = leb-true _ _ p4.0;
      high = leb-true _ _ p5.0;
      fill_starts = leb-true _ _ p6.0;
      fill_starts_within = ltb-true _ _ p7.0;
      fill_ends = leb-true _ _ p8.0;
      in_file = omega (arith, fits);
      no_write_execute = λ write execute. let no : not true ≡ true = subst (λ b. not b ≡ true) write p10.0 in absurd cc;
    })
    (leb-true _ _ p3.0) (eqb-true _ _ p12.0) (p11.0, leb-true _ _ p13.0, ltb-true _ _ p13.1)
