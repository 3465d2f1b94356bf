-- What is read as a section is spelled so.
use Rattle.std.proofs.Common.{◌≡◌, ℕ, zero, suc, ◌+◌, ◌^◌, ◌<◌, ◌⊎◌, inl, inr, Bool, true, false, cond, ◌&&◌, nat_lt, nat_le, List, [], ◌∷◌, ◌++◌, length, Result, Ok, Err, refl, sym, ap, subst, ◌∙◌, arith, append_assoc, lit<}
use Rattle.std.specs.List.{concat}
use Rattle.std.specs.Int.{w16, w32, to_le_bytes}
use Rattle.std.proofs.lemmas.Bool.{ltb-true, leb-true, le-leb}
use Rattle.std.proofs.lemmas.List.{length-append}
use Rattle.leb_cursor.specs.Ahead.{Ahead, Reading, part_at}
use Rattle.leb_cursor.proofs.Exact.{IsBytes, Consumes, ahead, IsNumber, IsPart, word_takes, half_takes, part_takes}
use Rattle.dwarf_lines.specs.declared.LineFault.{LineFault}
use Rattle.dwarf_lines.specs.declared.LineKind.TheVariants as kinds
use Rattle.dwarf_lines.specs.Registers.{Table, Header, Operation, Copy, AdvancePc, AdvanceLine, SetFile, SetColumn, NegateStmt, ConstAddPc, FixedAdvancePc, Special, EndSequence, SetAddress, DefineFile, Pass, State, first_state, empty_table}
use Rattle.dwarf_lines.specs.Names.{Strings}
use Rattle.dwarf_lines.specs.Spelling as spelled
use Rattle.dwarf_lines.specs.Spelling.{SpellsStandard, SpellsExtended, IsPassed, Spells, SpellsHeader, IsSupported, ReadsUnit, TakesUnit, Takes, IsTable}
use Rattle.dwarf_lines.specs.Reading.{fault, field, check, word, half_field, announced_bytes, header, program, is_read, sizes, unit_body, unit, units, reading}
use Rattle.dwarf_lines.proofs.Programs.{bind_ok, wanted_ok, program_takes}
use Rattle.dwarf_lines.proofs.Headers.{field_ok, ok_is}
use Rattle.dwarf_lines.proofs.Heads.{header_takes, sizes_takes, enough}
use Rattle.dwarf_lines.proofs.Extended.{operation_takes}

-- ---- each spelling of an operation begins with its opcode

standard_begins : (h : Header) (o : ℕ) (Operands : List ℕ → Type 0) (code : List ℕ) → SpellsStandard h o Operands code → (o : ℕ) × (rest : List ℕ) × (code ≡ o ∷ rest)
standard_begins h o Operands code is = (o, is.0, is.1)

extended_begins : (body code : List ℕ) → SpellsExtended body code → (o : ℕ) × (rest : List ℕ) × (code ≡ o ∷ rest)
extended_begins body code is = (0, is.0 ++ body, is.1)

passed_begins : (h : Header) (code : List ℕ) → IsPassed h code → (o : ℕ) × (rest : List ℕ) × (code ≡ o ∷ rest)
passed_begins h code (inl is) = standard_begins h 7 _ code is
passed_begins h code (inr (inl is)) = standard_begins h 10 _ code is
passed_begins h code (inr (inr (inl is))) = standard_begins h 11 _ code is
passed_begins h code (inr (inr (inr (inl is)))) = standard_begins h 12 _ code is
passed_begins h code (inr (inr (inr (inr (inl is))))) = standard_begins h is.0 _ code is.2
passed_begins h code (inr (inr (inr (inr (inr (inl is)))))) = extended_begins [] code is
passed_begins h code (inr (inr (inr (inr (inr (inr is)))))) = extended_begins (is.0 ∷ is.1) code is.5

pub begins : (h : Header) (op : Operation) (code : List ℕ) → Spells h op code → (o : ℕ) × (rest : List ℕ) × (code ≡ o ∷ rest)
begins h Copy code is = standard_begins h 1 _ code is
begins h (AdvancePc n) code is = standard_begins h 2 _ code is
begins h (AdvanceLine z) code is = standard_begins h 3 _ code is
begins h (SetFile n) code is = standard_begins h 4 _ code is
begins h (SetColumn n) code is = standard_begins h 5 _ code is
begins h NegateStmt code is = standard_begins h 6 _ code is
begins h ConstAddPc code is = standard_begins h 8 _ code is
begins h (FixedAdvancePc n) code is = standard_begins h 9 _ code is.0
begins h (Special o) code is = (o, [], is.0)
begins h EndSequence code is = extended_begins (1 ∷ is.0) code is.1
begins h (SetAddress a) code is = extended_begins _ code is.0
begins h (DefineFile f) code is = extended_begins ((3 ∷ is.0) ++ is.1) code is.2
begins h Pass code is = passed_begins h code is

-- ---- units

part_ok : (fine : Bool) (place n : ℕ) (a : Ahead) (x : Ahead × Ahead) → cond {A = Reading Ahead LineFault} fine (field (part_at n a)) (Err (fault kinds.Short place)) ≡ Ok x → part_at n a ≡ Ok x
part_ok true place n a x e = field_ok (part_at n a) x e
part_ok false place n a x e = absurd cc

announced_takes : (place n : ℕ) (a : Ahead) (x : Ahead × Ahead) → IsBytes a.bytes → announced_bytes place n a ≡ Ok x → Consumes (IsPart n a x.0) a x.1
announced_takes place n a x fits e = part_takes n a x.0 x.1 fits (part_ok (nat_le n (length a.bytes)) place n a x e)

-- a number, n bytes, and the rest
three : (w : List ℕ) (n : ℕ) (number body rest whole mid x : List ℕ) → whole ≡ number ++ mid → number ≡ w → mid ≡ body ++ rest → body ≡ x → whole ≡ w ++ x ++ rest
three w n number body rest whole mid x e is f same = e ∙ ap (λ (z : List ℕ). number ++ z) f ∙ sym (append_assoc number body rest) ∙ ap (λ (z : List ℕ). z ++ body ++ rest) is ∙ ap (λ (z : List ℕ). w ++ z ++ rest) same

reads_by : (version : ℕ) (strings : Strings) (t : Table) (start a b p c : Ahead) (n : ℕ) (h : Header) (s : State) → Consumes (λ code. code ≡ spelled.sizes version) start a → Consumes (IsNumber w32 (2 ^ 32) n) a b → Consumes (IsPart n b p) b c → SpellsHeader version strings h p.bytes
    → program (suc (length c.bytes)) h (first_state h t) c ≡ Ok s → ReadsUnit version strings start.bytes t s.table
reads_by version strings t start a b p c n h s two number part head e =
    let run = program_takes h (λ a op b. operation_takes h a (op, b)) (begins h) (suc (length c.bytes)) (first_state h t) s c.place c.bytes part.rest (enough (length c.bytes)) e in
    let len : n ≡ length p.bytes = sym part.is.len in
    let whole : a.bytes ≡ to_le_bytes w32 n ++ p.bytes ++ c.bytes = three (to_le_bytes w32 n) n number.code part.code c.bytes a.bytes b.bytes p.bytes number.parts number.is.0 part.parts part.is.bytes in
    let after : a.bytes ≡ to_le_bytes w32 (length p.bytes) ++ p.bytes ++ concat run.0 = whole ∙ ap (λ (k : ℕ). to_le_bytes w32 k ++ p.bytes ++ c.bytes) len ∙ ap (λ (z : List ℕ). to_le_bytes w32 (length p.bytes) ++ p.bytes ++ z) run.1 in
    (h, p.bytes, run.0, s, two.parts ∙ ap (λ (z : List ℕ). z ++ a.bytes) two.is ∙ ap (λ (z : List ℕ). spelled.sizes version ++ z) after, head, run.2, run.3, refl)

body_takes : (version : ℕ) (strings : Strings) (t u : Table) (start : Ahead) → IsBytes start.bytes → unit_body version strings t start ≡ Ok u → ReadsUnit version strings start.bytes t u
unfolding unit_body
body_takes version strings t u start begin e =
    let after = bind_ok (sizes version start) _ u e in
    let a = after.0 in
    let two = sizes_takes version start a begin after.1 in
    let fits = two.rest in
    let size = bind_ok (word a) _ u after.2 in
    let c = word_takes a size.0.1 size.0.0 fits (field_ok _ _ size.1) in
    let inside = bind_ok (announced_bytes a.place size.0.0 size.0.1) _ u size.2 in
    let d = announced_takes a.place size.0.0 size.0.1 inside.0 c.rest inside.1 in
    let h = bind_ok (header version strings inside.0.0) _ u inside.2 in
    let head = header_takes version strings inside.0.0 h.0 d.is.fits h.1 in
    let s = bind_ok (program (suc (length inside.0.1.bytes)) h.0 (first_state h.0 t) inside.0.1) _ u h.2 in
    subst (ReadsUnit version strings start.bytes t) (ok_is s.0.table u s.2) (reads_by version strings t start a size.0.1 inside.0.0 inside.0.1 size.0.0 h.0 s.0 two c d head s.1)

pub both_true : (a b : Bool) → (a && b) ≡ true → (a ≡ true) × (b ≡ true)
both_true true b e = (refl, e)
both_true false b e = absurd cc

not_both : (a b : Bool) → (a && b) ≡ false → (a ≡ true) × (b ≡ true) → ⊥
not_both a b e both = let no : true ≡ false = sym (ap (λ (x : Bool). x && b) both.0 ∙ both.1) ∙ e in absurd cc

decided : (version : ℕ) (strings : Strings) (reads : Bool) (t u : Table) (a : Ahead) → is_read version ≡ reads → IsBytes a.bytes
    → (elim reads as (λ x. Result Table LineFault) [ true ↦ unit_body version strings t a | false ↦ Ok (record t { skipped = t.skipped + 1 }) ]) ≡ Ok u
    → (IsSupported version × ReadsUnit version strings a.bytes t u) ⊎ ((IsSupported version → ⊥) × (u ≡ record t { skipped = t.skipped + 1 }))
decided version strings true t u a is fits e =
    let both = both_true (nat_le 2 version) (nat_le version 5) is in
    inl ((leb-true _ _ both.0, leb-true _ _ both.1), body_takes version strings t u a fits e)
decided version strings false t u a is fits e =
    inr ((λ in_range. not_both (nat_le 2 version) (nat_le version 5) is (le-leb _ _ in_range.0, le-leb _ _ in_range.1)), sym (ok_is (record t { skipped = t.skipped + 1 }) u e))

unit_by : (strings : Strings) (t u : Table) (a b p c v : Ahead) (n version : ℕ) → Consumes (IsNumber w32 (2 ^ 32) n) a b → n < 0xFFFFFFF0 → Consumes (IsPart n b p) b c → Consumes (IsNumber w16 (2 ^ 16) version) p v
    → (IsSupported version × ReadsUnit version strings v.bytes t u) ⊎ ((IsSupported version → ⊥) × (u ≡ record t { skipped = t.skipped + 1 }))
    → Consumes (λ code. TakesUnit strings code t u) a c
unit_by strings t u a b p c v n version number small part half which =
    let inside : p.bytes ≡ to_le_bytes w16 version ++ v.bytes = half.parts ∙ ap (λ (z : List ℕ). z ++ v.bytes) half.is.0 in
    let len : n ≡ 2 + length v.bytes = sym part.is.len ∙ ap (λ (z : List ℕ). length z) inside ∙ length-append (to_le_bytes w16 version) v.bytes in
    record {
      code = number.code ++ part.code;
      parts = number.parts ∙ ap (λ (z : List ℕ). number.code ++ z) part.parts ∙ sym (append_assoc number.code part.code c.bytes);
      is = (
        version,
        v.bytes,
        ap (λ (z : List ℕ). z ++ part.code) number.is.0 ∙ ap (λ (k : ℕ). to_le_bytes w32 k ++ part.code) len ∙ ap (λ (z : List ℕ). to_le_bytes w32 (2 + length v.bytes) ++ z) (part.is.bytes ∙ inside) ∙ sym (append_assoc (to_le_bytes w32 (2 + length v.bytes)) (to_le_bytes w16 version) v.bytes),
        subst (λ (k : ℕ). k < 0xFFFFFFF0) len small,
        half.is.1,
        which,
      );
      place = omega (arith, number.place, part.place, length-append number.code part.code);
      rest = part.rest;
    }

unit_takes : (strings : Strings) (t : Table) (a : Ahead) (y : Table × Ahead) → IsBytes a.bytes → unit strings t a ≡ Ok y → Consumes (λ code. TakesUnit strings code t y.0) a y.1
unfolding unit
unit_takes strings t a y fits e =
    let size = bind_ok (word a) _ y e in
    let c = word_takes a size.0.1 size.0.0 fits (field_ok _ _ size.1) in
    let long = bind_ok (check (nat_lt size.0.0 0xFFFFFFF0) kinds.LongForm a.place size.0) _ y size.2 in
    let w = wanted_ok (nat_lt size.0.0 0xFFFFFFF0) kinds.LongForm a.place size.0 long.0 long.1 in
    let inside = bind_ok (announced_bytes a.place long.0.0 long.0.1) _ y long.2 in
    let moved : announced_bytes a.place size.0.0 size.0.1 ≡ Ok inside.0 = subst (λ (z : ℕ × Ahead). announced_bytes a.place z.0 z.1 ≡ Ok inside.0) (sym w.1) inside.1 in
    let d = announced_takes a.place size.0.0 size.0.1 inside.0 c.rest moved in
    let version = bind_ok (half_field inside.0.0) _ y inside.2 in
    let v = half_takes inside.0.0 version.0.1 version.0.0 d.is.fits (field_ok _ _ version.1) in
    let u = bind_ok (elim (is_read version.0.0) as (λ x. Result Table LineFault) [ true ↦ unit_body version.0.0 strings t version.0.1 | false ↦ Ok (record t { skipped = t.skipped + 1 }) ]) _ y version.2 in
    let which = decided version.0.0 strings (is_read version.0.0) t u.0 version.0.1 refl v.rest u.1 in
    subst (λ (z : Table × Ahead). Consumes (λ code. TakesUnit strings code t z.0) a z.1) (ok_is (u.0, inside.0.1) y u.2)
    (unit_by strings t u.0 a size.0.1 inside.0.0 inside.0.1 version.0.1 size.0.0 version.0.0 c (ltb-true _ _ w.0) d v which)

long_enough : (unit t w : List ℕ) → unit ≡ w ++ t → 0 < length w → 0 < length unit
long_enough unit t w e some = rw e (omega (arith, length-append w t))

pub units_takes : (n : ℕ) (strings : Strings) (t u : Table) (place : ℕ) (bytes : List ℕ) → IsBytes bytes → length bytes < n → units n strings t (ahead place bytes) ≡ Ok u → (us : List (List ℕ)) × (bytes ≡ concat us) × Takes strings us t u
unfolding units
units_takes zero strings t u place bytes fits lt e = absurd (omega arith)
units_takes (suc n) strings t u place [] fits lt e = ([], refl, sym (ok_is t u e))
units_takes (suc n) strings t u place (b ∷ bs) fits lt e =
    let x = bind_ok (unit strings t (ahead place (b ∷ bs))) _ u e in
    let c = unit_takes strings t (ahead place (b ∷ bs)) x.0 fits x.1 in
    let some : 0 < length c.code = long_enough c.code c.is.1 (to_le_bytes w32 (2 + length c.is.1) ++ to_le_bytes w16 c.is.0) c.is.2 (lit< tt) in
    let less : length x.0.1.bytes < n = omega (arith, ap (λ (z : List ℕ). length z) c.parts, length-append c.code x.0.1.bytes) in
    let more = units_takes n strings x.0.0 u x.0.1.place x.0.1.bytes c.rest less x.2 in
    (c.code ∷ more.0, c.parts ∙ ap (λ (z : List ℕ). c.code ++ z) more.1, (x.0.0, c.is, more.2))

-- what is read is a table of the section
pub reading_takes : (strings : Strings) (section : List ℕ) (t : Table) → IsBytes section → reading strings section ≡ Ok t → IsTable strings section t
unfolding reading
reading_takes strings section t fits e =
    let x = units_takes (suc (length section)) strings empty_table t 0 section fits (omega arith) e in
    record { units = x.0; whole = x.1; takes = x.2 }
