-- What is read as directories and files of version 5 is a spelling of them.
use Rattle.std.proofs.Common.{◌≡◌, ℕ, zero, suc, ◌^◌, ◌<◌, ◌⊎◌, inl, inr, Bool, true, false, ◌==◌, ◌||◌, nat_lt, List, [], ◌∷◌, ◌++◌, length, take, drop, position, Option, Some, None, Ok, Err, refl, sym, ap, subst, ◌∙◌}
use Rattle.std.specs.Int.{w16, w32}
use Rattle.std.proofs.lemmas.Bool.{ltb-true, eqb-true}
use Rattle.leb_cursor.specs.Ahead.{Ahead, Reading, up_to, bytes_at, text_at}
use Rattle.leb_cursor.proofs.Exact.{IsBytes, Consumes, mapped_to, bytes_takes, half_takes, word_takes, text_takes, text_of, IsEnded, IsNumber}
use Rattle.dwarf_lines.specs.declared.LineFault.{LineFault}
use Rattle.dwarf_lines.specs.declared.LineKind.TheVariants as kinds
use Rattle.dwarf_lines.specs.declared.forms.Form.{Form}
use Rattle.dwarf_lines.specs.declared.forms.Form.TheVariants.{String, Strp, LineStrp, Data1, Data2, Udata, Data4, Data8, Data16, Block}
use Rattle.dwarf_lines.specs.declared.forms.Format.{Format}
use Rattle.dwarf_lines.specs.Names.{Strings, form_for, Value, Text, Number, Other, Entry, empty_entry, entry_of, paths, files_of}
use Rattle.dwarf_lines.specs.Spelling.{IsUleb, SpellsAll, SpellsPlace, SpellsValue, SpellsFormat, SpellsValues, SpellsEntry, SpellsListed, SpellsNames}
use Rattle.dwarf_lines.specs.Reading.{fault, field, check, byte, half_field, word, unsigned_field, text_in, own_text, number, other_value, block, value, allowed_form, format, formats, values, entry, entries, entry_list, Names, names_5}
use Rattle.dwarf_lines.proofs.Programs.{bind_ok, wanted_ok}
use Rattle.dwarf_lines.proofs.Opcodes.{Consumes-then, unsigned_takes}
use Rattle.dwarf_lines.proofs.Headers.{field_ok, ok_is, one_takes, stays}

-- ---- values

own_takes : (strings : Strings) (a : Ahead) (y : Value × Ahead) → IsBytes a.bytes → own_text a ≡ Ok y → Consumes (SpellsValue strings String y.0) a y.1
own_takes strings a y fits e =
    let x = bind_ok (field (text_at a)) _ y e in
    let c = text_takes a x.0.1 x.0.0 fits (field_ok (text_at a) x.0 x.1) in
    subst (λ (z : Value × Ahead). Consumes (SpellsValue strings String z.0) a z.1) (ok_is (Text x.0.0, x.0.1) y x.2)
    (mapped_to (IsEnded x.0.0) (SpellsValue strings String (Text x.0.0)) a x.0.1 (λ code is. (x.0.0, is, refl)) c)

found_takes : (texts : List ℕ) (n : ℕ) (a c : Ahead) (o : Option ℕ) (y : Value × Ahead) → position (λ b. b == 0) (drop n texts) ≡ o → Consumes (IsNumber w32 (2 ^ 32) n) a c
    → up_to {X = Reading Value LineFault} o a (λ k. Ok (Text (take k (drop n texts)), c)) (Err (fault kinds.TextOut a.place)) ≡ Ok y → Consumes (SpellsPlace texts y.0) a y.1
found_takes texts n a c None y found place e = absurd cc
found_takes texts n a c (Some k) y found place e =
    let t = text_of (drop n texts) k found in
    let text : List ℕ = take k (drop n texts) in
    subst (λ (z : Value × Ahead). Consumes (SpellsPlace texts z.0) a z.1) (ok_is (Text text, c) y e)
    (mapped_to (IsNumber w32 (2 ^ 32) n) (SpellsPlace texts (Text text)) a c (λ code is. (n, text, is.0, is.1, (drop (suc k) (drop n texts), t.1, t.0), refl)) place)

place_takes : (texts : List ℕ) (a : Ahead) (y : Value × Ahead) → IsBytes a.bytes → text_in texts a ≡ Ok y → Consumes (SpellsPlace texts y.0) a y.1
place_takes texts a y fits e =
    let n = bind_ok (word a) _ y e in
    let c = word_takes a n.0.1 n.0.0 fits (field_ok _ _ n.1) in
    found_takes texts n.0.0 a n.0.1 (position (λ b. b == 0) (drop n.0.0 texts)) y refl c n.2

-- a number, by what spells it
numbered : (Is : ℕ → List ℕ → Type 0) (P : Value → List ℕ → Type 0) (reads : Reading ℕ LineFault) (a : Ahead) (y : Value × Ahead)
    → ((n : ℕ) (b : Ahead) → reads ≡ Ok (n, b) → Consumes (Is n) a b) → ((n : ℕ) (code : List ℕ) → Is n code → P (Number n) code) → number reads ≡ Ok y → Consumes (P y.0) a y.1
numbered Is P reads a y takes into e =
    let x = bind_ok reads _ y e in
    subst (λ (z : Value × Ahead). Consumes (P z.0) a z.1) (ok_is (Number x.0.0, x.0.1) y x.2) (mapped_to (Is x.0.0) (P (Number x.0.0)) a x.0.1 (into x.0.0) (takes x.0.0 x.0.1 x.1))

othered : (Is : List ℕ → List ℕ → Type 0) (P : Value → List ℕ → Type 0) (reads : Reading (List ℕ) LineFault) (a : Ahead) (y : Value × Ahead)
    → ((x : List ℕ) (b : Ahead) → reads ≡ Ok (x, b) → Consumes (Is x) a b) → ((x code : List ℕ) → Is x code → P Other code) → other_value reads ≡ Ok y → Consumes (P y.0) a y.1
othered Is P reads a y takes into e =
    let x = bind_ok reads _ y e in
    subst (λ (z : Value × Ahead). Consumes (P z.0) a z.1) (ok_is (Other, x.0.1) y x.2) (mapped_to (Is x.0.0) (P Other) a x.0.1 (into x.0.0) (takes x.0.0 x.0.1 x.1))

abbrev AreBytes : ℕ → List ℕ → List ℕ → Type 0
AreBytes n x code = (code ≡ x) × (length x ≡ n)

sized : (n : ℕ) (a : Ahead) (x : List ℕ) (b : Ahead) → IsBytes a.bytes → field (bytes_at n a) ≡ Ok (x, b) → Consumes (AreBytes n x) a b
sized n a x b fits e = bytes_takes n a b x fits (field_ok _ _ e)

long : (n : ℕ) (x code : List ℕ) → AreBytes n x code → length code ≡ n
long n x code is = ap (λ (z : List ℕ). length z) is.0 ∙ is.1

abbrev IsBlock : List ℕ → List ℕ → Type 0
IsBlock x code = (size : List ℕ) × (block : List ℕ) × (code ≡ size ++ block) × IsUleb (length block) size

block_takes : (a : Ahead) (x : List ℕ) (b : Ahead) → IsBytes a.bytes → block a ≡ Ok (x, b) → Consumes (IsBlock x) a b
block_takes a x b fits e =
    let size = bind_ok (unsigned_field a) _ (x, b) e in
    let c = unsigned_takes a size.0.1 size.0.0 fits size.1 in
    Consumes-then (IsUleb size.0.0) (AreBytes size.0.0 x) (IsBlock x) a size.0.1 b
    (λ front rest u is. (front, rest, refl, subst (λ (k : ℕ). IsUleb k front) (sym (long size.0.0 x rest is)) u)) c (sized size.0.0 size.0.1 x b c.rest size.2)

pub value_takes : (strings : Strings) (form : Form) (a : Ahead) (y : Value × Ahead) → IsBytes a.bytes → value strings form a ≡ Ok y → Consumes (SpellsValue strings form y.0) a y.1
value_takes strings String a y fits e = own_takes strings a y fits e
value_takes strings Strp a y fits e = place_takes strings.general a y fits e
value_takes strings LineStrp a y fits e = place_takes strings.line a y fits e
value_takes strings Data1 a y fits e = numbered (λ n code. code ≡ n ∷ []) (SpellsValue strings Data1) (byte a) a y (λ n b r. one_takes a b n fits r) (λ n code is. (n, is, refl)) e
value_takes strings Data2 a y fits e = numbered (IsNumber w16 (2 ^ 16)) (SpellsValue strings Data2) (half_field a) a y (λ n b r. half_takes a b n fits (field_ok _ _ r)) (λ n code is. (n, is.0, is.1, refl)) e
value_takes strings Udata a y fits e = numbered IsUleb (SpellsValue strings Udata) (unsigned_field a) a y (λ n b r. unsigned_takes a b n fits r) (λ n code is. (n, is, refl)) e
value_takes strings Data4 a y fits e = othered (AreBytes 4) (SpellsValue strings Data4) (field (bytes_at 4 a)) a y (λ x b r. sized 4 a x b fits r) (λ x code is. (long 4 x code is, refl)) e
value_takes strings Data8 a y fits e = othered (AreBytes 8) (SpellsValue strings Data8) (field (bytes_at 8 a)) a y (λ x b r. sized 8 a x b fits r) (λ x code is. (long 8 x code is, refl)) e
value_takes strings Data16 a y fits e = othered (AreBytes 16) (SpellsValue strings Data16) (field (bytes_at 16 a)) a y (λ x b r. sized 16 a x b fits r) (λ x code is. (long 16 x code is, refl)) e
value_takes strings Block a y fits e = othered IsBlock (SpellsValue strings Block) (block a) a y (λ x b r. block_takes a x b fits r) (λ x code is. (is.0, is.1, is.2, is.3, refl)) e

-- ---- formats

allowed_ok : (o : Option Form) (place : ℕ) (form : Form) → allowed_form o place ≡ Ok form → o ≡ Some form
allowed_ok None place form e = absurd cc
allowed_ok (Some f) place form e = cc

format_takes : (a : Ahead) (y : Format × Ahead) → IsBytes a.bytes → format a ≡ Ok y → Consumes (SpellsFormat y.0) a y.1
format_takes a y fits e =
    let content = bind_ok (unsigned_field a) _ y e in
    let code = bind_ok (unsigned_field content.0.1) _ y content.2 in
    let form = bind_ok (allowed_form (form_for content.0.0 code.0.0) content.0.1.place) _ y code.2 in
    let c = unsigned_takes a content.0.1 content.0.0 fits content.1 in
    let d = unsigned_takes content.0.1 code.0.1 code.0.0 c.rest code.1 in
    let fine = allowed_ok (form_for content.0.0 code.0.0) content.0.1.place form.0 form.1 in
    let made : Format = record { content = content.0.0; form = form.0 } in
    subst (λ (z : Format × Ahead). Consumes (SpellsFormat z.0) a z.1) (ok_is (made, code.0.1) y form.2)
    (Consumes-then (IsUleb content.0.0) (IsUleb code.0.0) (SpellsFormat made) a content.0.1 code.0.1 (λ front rest u v. (front, rest, code.0.0, refl, u, v, fine)) c d)

-- n, one after the other
abbrev AreAll : {A : Type 0} → (A → List ℕ → Type 0) → ℕ → List A → List ℕ → Type 0
AreAll Is n xs code = SpellsAll Is xs code × (length xs ≡ n)

all_more : {A : Type 0} (Is : A → List ℕ → Type 0) (n : ℕ) (x : A) (xs : List A) (front rest : List ℕ) → Is x front → AreAll Is n xs rest → AreAll Is (suc n) (x ∷ xs) (front ++ rest)
all_more Is n x xs front rest is more = ((front, rest, refl, is, more.0), ap suc more.1)

formats_takes : (n : ℕ) (a : Ahead) (y : List Format × Ahead) → IsBytes a.bytes → formats n a ≡ Ok y → Consumes (AreAll SpellsFormat n y.0) a y.1
unfolding formats
formats_takes zero a y fits e = subst (λ (z : List Format × Ahead). Consumes (AreAll SpellsFormat 0 z.0) a z.1) (ok_is ([], a) y e) (stays (AreAll SpellsFormat 0 []) a fits (refl, refl))
formats_takes (suc n) a y fits e =
    let first = bind_ok (format a) _ y e in
    let more = bind_ok (formats n first.0.1) _ y first.2 in
    let c = format_takes a first.0 fits first.1 in
    let d = formats_takes n first.0.1 more.0 c.rest more.1 in
    subst (λ (z : List Format × Ahead). Consumes (AreAll SpellsFormat (suc n) z.0) a z.1) (ok_is (first.0.0 ∷ more.0.0, more.0.1) y more.2)
    (Consumes-then (SpellsFormat first.0.0) (AreAll SpellsFormat n more.0.0) (AreAll SpellsFormat (suc n) (first.0.0 ∷ more.0.0)) a first.0.1 more.0.1 (all_more SpellsFormat n first.0.0 more.0.0) c d)

-- ---- entries

values_takes : (strings : Strings) (fs : List Format) (a : Ahead) (y : List Value × Ahead) → IsBytes a.bytes → values strings fs a ≡ Ok y → Consumes (SpellsValues strings fs y.0) a y.1
unfolding values
values_takes strings [] a y fits e = subst (λ (z : List Value × Ahead). Consumes (SpellsValues strings [] z.0) a z.1) (ok_is ([], a) y e) (stays (SpellsValues strings [] []) a fits refl)
values_takes strings (f ∷ fs) a y fits e =
    let first = bind_ok (value strings f.form a) _ y e in
    let more = bind_ok (values strings fs first.0.1) _ y first.2 in
    let c = value_takes strings f.form a first.0 fits first.1 in
    let d = values_takes strings fs first.0.1 more.0 c.rest more.1 in
    subst (λ (z : List Value × Ahead). Consumes (SpellsValues strings (f ∷ fs) z.0) a z.1) (ok_is (first.0.0 ∷ more.0.0, more.0.1) y more.2)
    (Consumes-then (SpellsValue strings f.form first.0.0) (SpellsValues strings fs more.0.0) (SpellsValues strings (f ∷ fs) (first.0.0 ∷ more.0.0)) a first.0.1 more.0.1 (λ front rest is others. (front, rest, refl, is, others)) c d)

pub entry_takes : (strings : Strings) (fs : List Format) (a : Ahead) (y : Entry × Ahead) → IsBytes a.bytes → entry strings fs a ≡ Ok y → Consumes (SpellsEntry strings fs y.0) a y.1
entry_takes strings fs a y fits e =
    let vs = bind_ok (values strings fs a) _ y e in
    subst (λ (z : Entry × Ahead). Consumes (SpellsEntry strings fs z.0) a z.1) (ok_is (entry_of fs vs.0.0 empty_entry, vs.0.1) y vs.2)
    (mapped_to (SpellsValues strings fs vs.0.0) (SpellsEntry strings fs (entry_of fs vs.0.0 empty_entry)) a vs.0.1 (λ code is. (vs.0.0, is, refl)) (values_takes strings fs a vs.0 fits vs.1))

pub entries_takes : (n : ℕ) (strings : Strings) (fs : List Format) (a : Ahead) (y : List Entry × Ahead) → IsBytes a.bytes → entries n strings fs a ≡ Ok y → Consumes (AreAll (SpellsEntry strings fs) n y.0) a y.1
unfolding entries
entries_takes zero strings fs a y fits e = subst (λ (z : List Entry × Ahead). Consumes (AreAll (SpellsEntry strings fs) 0 z.0) a z.1) (ok_is ([], a) y e) (stays (AreAll (SpellsEntry strings fs) 0 []) a fits (refl, refl))
entries_takes (suc n) strings fs a y fits e =
    let first = bind_ok (entry strings fs a) _ y e in
    let more = bind_ok (entries n strings fs first.0.1) _ y first.2 in
    let c = entry_takes strings fs a first.0 fits first.1 in
    let d = entries_takes n strings fs first.0.1 more.0 c.rest more.1 in
    subst (λ (z : List Entry × Ahead). Consumes (AreAll (SpellsEntry strings fs) (suc n) z.0) a z.1) (ok_is (first.0.0 ∷ more.0.0, more.0.1) y more.2)
    (Consumes-then (SpellsEntry strings fs first.0.0) (AreAll (SpellsEntry strings fs) n more.0.0) (AreAll (SpellsEntry strings fs) (suc n) (first.0.0 ∷ more.0.0)) a first.0.1 more.0.1 (all_more (SpellsEntry strings fs) n first.0.0 more.0.0) c d)

-- ---- a list of entries with its formats

either : (k n : ℕ) (some : Bool) → nat_lt 0 k ≡ some → (some || (n == 0)) ≡ true → (0 < k) ⊎ (n ≡ 0)
either k n true is e = inl (ltb-true 0 k is)
either k n false is e = inr (eqb-true n 0 e)

abbrev Rest : Strings → ℕ → List Format → List Entry → List ℕ → Type 0
Rest strings n fs es code = (count : List ℕ) × (spelled : List ℕ) × (code ≡ count ++ spelled) × IsUleb n count × AreAll (SpellsEntry strings fs) n es spelled

joined : (strings : Strings) (k n : ℕ) (fs : List Format) (es : List Entry) (x y z : List ℕ) → (0 < k) ⊎ (n ≡ 0) → x ≡ k ∷ [] → AreAll SpellsFormat k fs y → Rest strings n fs es z → SpellsListed strings es (x ++ (y ++ z))
joined strings k n fs es x y z some one formatted (count, spelled, whole, u, (all, len)) =
    let top : x ++ (y ++ z) ≡ length fs ∷ (y ++ (count ++ spelled)) =
    ap (λ (w : List ℕ). w ++ (y ++ z)) (one ∙ ap (λ (j : ℕ). j ∷ []) (sym formatted.1)) ∙ ap (λ (w : List ℕ). length fs ∷ (y ++ w)) whole in
    let fine : (0 < length fs) ⊎ (length es ≡ 0) = subst (λ (j : ℕ). (0 < length fs) ⊎ (j ≡ 0)) (sym len) (subst (λ (j : ℕ). (0 < j) ⊎ (n ≡ 0)) (sym formatted.1) some) in
    (fs, y, count, spelled, top, formatted.0, subst (λ (j : ℕ). IsUleb j count) (sym len) u, all, fine)

pub listed_takes : (strings : Strings) (a : Ahead) (y : List Entry × Ahead) → IsBytes a.bytes → entry_list strings a ≡ Ok y → Consumes (SpellsListed strings y.0) a y.1
unfolding entry_list
listed_takes strings a y fits e =
    let count = bind_ok (byte a) _ y e in
    let c = one_takes a count.0.1 count.0.0 fits count.1 in
    let fs = bind_ok (formats count.0.0 count.0.1) _ y count.2 in
    let d = formats_takes count.0.0 count.0.1 fs.0 c.rest fs.1 in
    let n = bind_ok (unsigned_field fs.0.1) _ y fs.2 in
    let u = unsigned_takes fs.0.1 n.0.1 n.0.0 d.rest n.1 in
    let fine = bind_ok (check (nat_lt 0 count.0.0 || (n.0.0 == 0)) kinds.EmptyEntries fs.0.1.place n.0) _ y n.2 in
    let w = wanted_ok (nat_lt 0 count.0.0 || (n.0.0 == 0)) kinds.EmptyEntries fs.0.1.place n.0 fine.0 fine.1 in
    let read : entries n.0.0 strings fs.0.0 n.0.1 ≡ Ok y = subst (λ (z : ℕ × Ahead). entries z.0 strings fs.0.0 z.1 ≡ Ok y) (sym w.1) fine.2 in
    let es = entries_takes n.0.0 strings fs.0.0 n.0.1 y u.rest read in
    let some = either count.0.0 n.0.0 (nat_lt 0 count.0.0) refl w.0 in
    let tail = Consumes-then (IsUleb n.0.0) (AreAll (SpellsEntry strings fs.0.0) n.0.0 y.0) (Rest strings n.0.0 fs.0.0 y.0) fs.0.1 n.0.1 y.1 (λ front rest is all. (front, rest, refl, is, all)) u es in
    let formatted = Consumes-then (AreAll SpellsFormat count.0.0 fs.0.0) (Rest strings n.0.0 fs.0.0 y.0) (λ code. (p : List ℕ) × (q : List ℕ) × (code ≡ p ++ q) × AreAll SpellsFormat count.0.0 fs.0.0 p × Rest strings n.0.0 fs.0.0 y.0 q) count.0.1 fs.0.1 y.1 (λ front rest is others. (front, rest, refl, is, others)) d tail in
    Consumes-then (λ code. code ≡ count.0.0 ∷ []) _ (SpellsListed strings y.0) a count.0.1 y.1
    (λ front rest one both. subst (λ (z : List ℕ). SpellsListed strings y.0 (front ++ z)) (sym both.2) (joined strings count.0.0 n.0.0 fs.0.0 y.0 front both.0 both.1 some one both.3 both.4)) c formatted

pub names_takes : (strings : Strings) (a : Ahead) (y : Names × Ahead) → IsBytes a.bytes → names_5 strings a ≡ Ok y → Consumes (SpellsNames true strings y.0.directories y.0.files) a y.1
names_takes strings a y fits e =
    let ds = bind_ok (entry_list strings a) _ y e in
    let fs = bind_ok (entry_list strings ds.0.1) _ y ds.2 in
    let c = listed_takes strings a ds.0 fits ds.1 in
    let d = listed_takes strings ds.0.1 fs.0 c.rest fs.1 in
    let made : Names = record { directories = paths ds.0.0; files = files_of (paths ds.0.0) fs.0.0 } in
    subst (λ (z : Names × Ahead). Consumes (SpellsNames true strings z.0.directories z.0.files) a z.1) (ok_is (made, fs.0.1) y fs.2)
    (Consumes-then (SpellsListed strings ds.0.0) (SpellsListed strings fs.0.0) (SpellsNames true strings made.directories made.files) a ds.0.1 fs.0.1 (λ front rest is others. (ds.0.0, fs.0.0, front, rest, refl, is, others, refl, refl)) c d)
