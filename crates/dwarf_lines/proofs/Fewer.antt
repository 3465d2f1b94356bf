-- A header has at most as many files as bytes: in every version a file takes a byte or more.
use Rattle.std.proofs.Common.{◌≡◌, ℕ, zero, suc, ◌+◌, ◌-◌, ◌<◌, ◌≤◌, Bool, true, false, ◌||◌, nat_lt, nat_le, List, [], ◌∷◌, length, take, drop, Option, Some, None, position, Result, Ok, Err, ◌==◌, refl, sym, ap, subst, arith}
use Rattle.std.specs.Int.{w16, w32}
use Rattle.std.proofs.lemmas.Bool.{eqb-true}
use Rattle.std.proofs.lemmas.List.{length-map}
use Rattle.leb_cursor.specs.Ahead.{Ahead, Reading, ◌>>=◌, up_to, bytes_at, text_at}
use Rattle.dwarf_lines.specs.declared.LineFault.{LineFault}
use Rattle.dwarf_lines.specs.declared.LineKind.{LineKind}
use Rattle.dwarf_lines.specs.declared.LineKind.TheVariants as kinds
use Rattle.dwarf_lines.specs.declared.forms.Form.{Form}
use Rattle.dwarf_lines.specs.declared.forms.Form.TheVariants.{String, Strp, LineStrp, Data1, Data2, Udata, Data4, Data8, Data16, Block}
use Rattle.dwarf_lines.specs.declared.forms.Format.{Format}
use Rattle.dwarf_lines.specs.Registers.{Header, File}
use Rattle.dwarf_lines.specs.Names.{Strings, Value, Text, Number, Other, Entry, form_for, paths, files_of, directory_of}
use Rattle.dwarf_lines.specs.Reading.{fault, field, check, byte, half_field, word, unsigned_field, byte_that, texts, files, text_in, own_text, number, other_value, block, value, allowed_form, format, formats, values, entry, entries, entry_list, Names, names, sizes, operations, header}
use Rattle.dwarf_lines.proofs.Programs.{bind_ok, wanted_ok}
use Rattle.dwarf_lines.proofs.Headers.{field_ok}
use Rattle.dwarf_lines.proofs.Shorter.{IsLess, IsMost, second, ok_is, made_is, bytes_left, number_left, byte_left, text_less, unsigned_less, texts_most, files_few}

-- ---- values

place_by : (texts : List ℕ) (n : ℕ) (o : Option ℕ) (a c b : Ahead) (v : Value) → IsLess a c
    → up_to {X = Reading Value LineFault} o a (λ k. Ok (Text (take k (drop n texts)), c)) (Err (fault kinds.TextOut a.place)) ≡ Ok (v, b) → IsLess a b
place_by texts n None a c b v less e = absurd cc
place_by texts n (Some k) a c b v less e = subst (IsLess a) (second (Text (take k (drop n texts))) v c b e) less

place_less : (texts : List ℕ) (a b : Ahead) (v : Value) → text_in texts a ≡ Ok (v, b) → IsLess a b
place_less texts a b v e =
    let n = bind_ok (word a) _ (v, b) e in
    place_by texts n.0.0 (position (λ b. b == 0) (drop n.0.0 texts)) a n.0.1 b v (omega (arith, number_left w32 a n.0.1 n.0.0 n.1)) n.2

number_less : (r : Reading ℕ LineFault) (a b : Ahead) (v : Value) → ((n : ℕ) (c : Ahead) → r ≡ Ok (n, c) → IsLess a c) → number r ≡ Ok (v, b) → IsLess a b
number_less r a b v less e =
    let n = bind_ok r _ (v, b) e in
    subst (IsLess a) (second (Number n.0.0) v n.0.1 b n.2) (less n.0.0 n.0.1 n.1)

other_less : (r : Reading (List ℕ) LineFault) (a b : Ahead) (v : Value) → ((x : List ℕ) (c : Ahead) → r ≡ Ok (x, c) → IsLess a c) → other_value r ≡ Ok (v, b) → IsLess a b
other_less r a b v less e =
    let x = bind_ok r _ (v, b) e in
    subst (IsLess a) (second Other v x.0.1 b x.2) (less x.0.0 x.0.1 x.1)

own_less : (a b : Ahead) (v : Value) → own_text a ≡ Ok (v, b) → IsLess a b
own_less a b v e =
    let text = bind_ok (field (text_at a)) _ (v, b) e in
    subst (IsLess a) (second (Text text.0.0) v text.0.1 b text.2) (text_less a text.0.1 text.0.0 text.1)

fixed_less : (k : ℕ) (a c : Ahead) (x : List ℕ) → 0 < k → field (bytes_at k a) ≡ Ok (x, c) → IsLess a c
fixed_less k a c x some e = omega (arith, some, bytes_left k a c x (field_ok (bytes_at k a) (x, c) e))

block_less : (a c : Ahead) (x : List ℕ) → block a ≡ Ok (x, c) → IsLess a c
block_less a c x e =
    let size = bind_ok (unsigned_field a) _ (x, c) e in
    omega (arith, unsigned_less a size.0.1 size.0.0 size.1, bytes_left size.0.0 size.0.1 c x (field_ok (bytes_at size.0.0 size.0.1) (x, c) size.2))

value_less : (strings : Strings) (form : Form) (a b : Ahead) (v : Value) → value strings form a ≡ Ok (v, b) → IsLess a b
value_less strings String a b v e = own_less a b v e
value_less strings Strp a b v e = place_less strings.general a b v e
value_less strings LineStrp a b v e = place_less strings.line a b v e
value_less strings Data1 a b v e = number_less (byte a) a b v (λ n c f. omega (arith, byte_left a c n f)) e
value_less strings Data2 a b v e = number_less (half_field a) a b v (λ n c f. omega (arith, number_left w16 a c n f)) e
value_less strings Udata a b v e = number_less (unsigned_field a) a b v (λ n c f. unsigned_less a c n f) e
value_less strings Data4 a b v e = other_less (field (bytes_at 4 a)) a b v (λ x c f. fixed_less 4 a c x (omega arith) f) e
value_less strings Data8 a b v e = other_less (field (bytes_at 8 a)) a b v (λ x c f. fixed_less 8 a c x (omega arith) f) e
value_less strings Data16 a b v e = other_less (field (bytes_at 16 a)) a b v (λ x c f. fixed_less 16 a c x (omega arith) f) e
value_less strings Block a b v e = other_less (block a) a b v (λ x c f. block_less a c x f) e

-- ---- entries

values_most : (strings : Strings) (fs : List Format) (a b : Ahead) (vs : List Value) → values strings fs a ≡ Ok (vs, b) → IsMost a b
unfolding values
values_most strings [] a b vs e = subst (IsMost a) (second [] vs a b e) (omega arith)
values_most strings (f ∷ fs) a b vs e =
    let v = bind_ok (value strings f.form a) _ (vs, b) e in
    let more = bind_ok (values strings fs v.0.1) _ (vs, b) v.2 in
    let less = value_less strings f.form a v.0.1 v.0.0 v.1 in
    subst (IsMost a) (second (v.0.0 ∷ more.0.0) vs more.0.1 b more.2) (omega (arith, less, values_most strings fs v.0.1 more.0.1 more.0.0 more.1))

values_less : (strings : Strings) (fs : List Format) (a b : Ahead) (vs : List Value) → 0 < length fs → values strings fs a ≡ Ok (vs, b) → IsLess a b
unfolding values
values_less strings [] a b vs some e = absurd (omega arith)
values_less strings (f ∷ fs) a b vs some e =
    let v = bind_ok (value strings f.form a) _ (vs, b) e in
    let more = bind_ok (values strings fs v.0.1) _ (vs, b) v.2 in
    let less = value_less strings f.form a v.0.1 v.0.0 v.1 in
    subst (IsLess a) (second (v.0.0 ∷ more.0.0) vs more.0.1 b more.2) (omega (arith, less, values_most strings fs v.0.1 more.0.1 more.0.0 more.1))

entry_less : (strings : Strings) (fs : List Format) (a b : Ahead) (x : Entry) → 0 < length fs → entry strings fs a ≡ Ok (x, b) → IsLess a b
entry_less strings fs a b x some e =
    let vs = bind_ok (values strings fs a) _ (x, b) e in
    subst (IsLess a) (second _ x vs.0.1 b vs.2) (values_less strings fs a vs.0.1 vs.0.0 some vs.1)

-- n, and the bytes after them
abbrev Fit : {A : Type 0} → List A → Ahead → Ahead → Type 0
Fit xs a b = length xs + length b.bytes ≤ length a.bytes

fit_is : {A : Type 0} (xs ys : List A) (a b c : Ahead) → (let done : List A × Ahead → Reading (List A) LineFault = λ z. Ok z in done (xs, b) ≡ done (ys, c)) → Fit xs a b → Fit ys a c
fit_is xs ys a b c e few = let both = ok_is (xs, b) (ys, c) e in subst (λ (y : List _ × Ahead). Fit y.0 a y.1) both few

entries_few : (n : ℕ) (strings : Strings) (fs : List Format) (a b : Ahead) (xs : List Entry) → 0 < length fs → entries n strings fs a ≡ Ok (xs, b) → Fit xs a b
unfolding entries
entries_few zero strings fs a b xs some e = fit_is [] xs a a b e (omega arith)
entries_few (suc n) strings fs a b xs some e =
    let x = bind_ok (entry strings fs a) _ (xs, b) e in
    let more = bind_ok (entries n strings fs x.0.1) _ (xs, b) x.2 in
    let less = entry_less strings fs a x.0.1 x.0.0 some x.1 in
    fit_is (x.0.0 ∷ more.0.0) xs a more.0.1 b more.2 (omega (arith, less, entries_few n strings fs x.0.1 more.0.1 more.0.0 some more.1))

no_entries : (strings : Strings) (fs : List Format) (a b : Ahead) (xs : List Entry) → entries 0 strings fs a ≡ Ok (xs, b) → Fit xs a b
unfolding entries
no_entries strings fs a b xs e = fit_is [] xs a a b e (omega arith)

format_most : (a b : Ahead) (f : Format) → format a ≡ Ok (f, b) → IsMost a b
format_most a b f e =
    let content = bind_ok (unsigned_field a) _ (f, b) e in
    let code = bind_ok (unsigned_field content.0.1) _ (f, b) content.2 in
    let form = bind_ok (allowed_form (form_for content.0.0 code.0.0) content.0.1.place) _ (f, b) code.2 in
    let first = unsigned_less a content.0.1 content.0.0 content.1 in
    let next = unsigned_less content.0.1 code.0.1 code.0.0 code.1 in
    subst (IsMost a) (second _ f code.0.1 b form.2) (omega (arith, first, next))

-- as many as are counted
abbrev AreSo : ℕ → List Format → Ahead → Ahead → Type 0
AreSo n fs a b = (length fs ≡ n) × IsMost a b

formats_so : (n : ℕ) (a b : Ahead) (fs : List Format) → formats n a ≡ Ok (fs, b) → AreSo n fs a b
unfolding formats
formats_so zero a b fs e = let both = ok_is ([], a) (fs, b) e in subst (λ (y : List Format × Ahead). (length y.0 ≡ 0) × IsMost a y.1) both (refl, omega arith)
formats_so (suc n) a b fs e =
    let f = bind_ok (format a) _ (fs, b) e in
    let more = bind_ok (formats n f.0.1) _ (fs, b) f.2 in
    let first = format_most a f.0.1 f.0.0 f.1 in
    let others = formats_so n f.0.1 more.0.1 more.0.0 more.1 in
    let both = ok_is (f.0.0 ∷ more.0.0, more.0.1) (fs, b) more.2 in
    subst (λ (y : List Format × Ahead). (length y.0 ≡ suc n) × IsMost a y.1) both (ap suc others.0, omega (arith, first, others.1))

-- without formats there are no entries
counted_few : (count n : ℕ) (strings : Strings) (fs : List Format) (a b : Ahead) (xs : List Entry) → length fs ≡ count → (nat_lt 0 count || n == 0) ≡ true → entries n strings fs a ≡ Ok (xs, b) → Fit xs a b
counted_few zero n strings fs a b xs len fine e =
    let none : n ≡ 0 = eqb-true n 0 fine in
    no_entries strings fs a b xs (subst (λ (m : ℕ). entries m strings fs a ≡ Ok (xs, b)) none e)
counted_few (suc count) n strings fs a b xs len fine e = entries_few n strings fs a b xs (omega (arith, len)) e

listed_few : (strings : Strings) (a b : Ahead) (xs : List Entry) → entry_list strings a ≡ Ok (xs, b) → Fit xs a b
unfolding entry_list
listed_few strings a b xs e =
    let count = bind_ok (byte a) _ (xs, b) e in
    let fs = bind_ok (formats count.0.0 count.0.1) _ (xs, b) count.2 in
    let n = bind_ok (unsigned_field fs.0.1) _ (xs, b) fs.2 in
    let fine = bind_ok (check (nat_lt 0 count.0.0 || n.0.0 == 0) kinds.EmptyEntries fs.0.1.place n.0) _ (xs, b) n.2 in
    let w = wanted_ok (nat_lt 0 count.0.0 || n.0.0 == 0) kinds.EmptyEntries fs.0.1.place n.0 fine.0 fine.1 in
    let so = formats_so count.0.0 count.0.1 fs.0.1 fs.0.0 fs.1 in
    let few = counted_few count.0.0 n.0.0 strings fs.0.0 n.0.1 b xs so.0 w.0 (subst (λ (z : ℕ × Ahead). entries z.0 strings fs.0.0 z.1 ≡ Ok (xs, b)) (sym w.1) fine.2) in
    omega (arith, byte_left a count.0.1 count.0.0 count.1, so.1, unsigned_less fs.0.1 n.0.1 n.0.0 n.1, few)

-- ---- the header

names_few : (five : Bool) (strings : Strings) (a : Ahead) (y : Names × Ahead) → names five strings a ≡ Ok y → length y.0.files ≤ length a.bytes
names_few true strings a y e =
    let ds = bind_ok (entry_list strings a) _ y e in
    let fs = bind_ok (entry_list strings ds.0.1) _ y ds.2 in
    let first = listed_few strings a ds.0.1 ds.0.0 ds.1 in
    let next = listed_few strings ds.0.1 fs.0.1 fs.0.0 fs.1 in
    let made : Names = record { directories = paths ds.0.0; files = files_of (paths ds.0.0) fs.0.0 } in
    let filed : Entry → File = λ x. record { directory = directory_of (paths ds.0.0) x.directory; name = x.path } in
    subst (λ (z : Names × Ahead). length z.0.files ≤ length a.bytes) (ok_is (made, fs.0.1) y fs.2)
    (omega (arith, first, next, length-map fs.0.0 filed))
names_few false strings a y e =
    let ds = bind_ok (texts (suc (length a.bytes)) a) _ y e in
    let fs = bind_ok (files (suc (length ds.0.1.bytes)) ds.0.0 ds.0.1) _ y ds.2 in
    let first = texts_most (suc (length a.bytes)) a ds.0.1 ds.0.0 ds.1 in
    let next = files_few (suc (length ds.0.1.bytes)) ds.0.0 ds.0.1 fs.0.1 fs.0.0 fs.1 in
    let made : Names = record { directories = ds.0.0; files = fs.0.0 } in
    subst (λ (z : Names × Ahead). length z.0.files ≤ length a.bytes) (ok_is (made, fs.0.1) y fs.2) (omega (arith, first, next))

that_most : (test : ℕ → Bool) (kind : LineKind) (a : Ahead) (x : ℕ × Ahead) → byte_that test kind a ≡ Ok x → IsMost a x.1
that_most test kind a x e =
    let b = bind_ok (byte a) _ x e in
    let w = wanted_ok (test b.0.0) kind a.place b.0 x b.2 in
    subst (λ (y : ℕ × Ahead). IsMost a y.1) w.1 (omega (arith, byte_left a b.0.1 b.0.0 b.1))

sizes_by : (five : Bool) (a b : Ahead)
    → (elim five as (λ x. Result Ahead LineFault) [
      | true ↦ byte_that (λ n. n == 8) kinds.AddressSize a >>= λ size. byte_that (λ n. n == 0) kinds.SegmentSize size.1 >>= λ segment. Ok segment.1
      | false ↦ Ok a
    ]) ≡ Ok b → IsMost a b
sizes_by true a b e =
    let size = bind_ok (byte_that (λ n. n == 8) kinds.AddressSize a) _ b e in
    let segment = bind_ok (byte_that (λ n. n == 0) kinds.SegmentSize size.0.1) _ b size.2 in
    let first = that_most (λ n. n == 8) kinds.AddressSize a size.0 size.1 in
    let next = that_most (λ n. n == 0) kinds.SegmentSize size.0.1 segment.0 segment.1 in
    subst (IsMost a) (made_is segment.0.1 b segment.2) (omega (arith, first, next))
sizes_by false a b e = subst (IsMost a) (made_is a b e) (omega arith)

pub sizes_most : (version : ℕ) (a b : Ahead) → sizes version a ≡ Ok b → IsMost a b
sizes_most version a b e = sizes_by (version == 5) a b e

operations_by : (four : Bool) (a b : Ahead)
    → (elim four as (λ x. Result Ahead LineFault) [ true ↦ byte_that (λ n. n == 1) kinds.ManyOps a >>= λ n. Ok n.1 | false ↦ Ok a ]) ≡ Ok b → IsMost a b
operations_by true a b e =
    let x = bind_ok (byte_that (λ n. n == 1) kinds.ManyOps a) (λ n. Ok n.1) b e in
    subst (IsMost a) (made_is x.0.1 b x.2) (that_most (λ n. n == 1) kinds.ManyOps a x.0 x.1)
operations_by false a b e = subst (IsMost a) (made_is a b e) (omega arith)

along : (n f x0 x1 x2 x3 x4 x5 x6 x7 : ℕ) → x1 + 1 ≡ x0 → x2 ≤ x1 → x3 + 1 ≡ x2 → x4 + 1 ≡ x3 → x5 ≤ x4 → x6 ≤ x5 → x7 + n ≡ x6 → f ≤ x7 → f ≤ x0
along n f x0 x1 x2 x3 x4 x5 x6 x7 c0 c1 c2 c3 c4 c5 c6 c7 = omega arith

header_is : (x y : Header) → (let done : Header → Result Header LineFault = λ z. Ok z in done x ≡ done y) → x ≡ y
header_is x y e = cc

-- a header with at most n files, or a fault
record HasFew (n : ℕ) (r : Result Header LineFault) : Type 0 where
  few : (h : Header) → r ≡ Ok h → length h.files ≤ n

then_few : {A : Type 0} (n : ℕ) (r : Result A LineFault) (f : A → Result Header LineFault) → ((x : A) → r ≡ Ok x → HasFew n (f x)) → HasFew n (r >>= f)
then_few n (Ok x) f each = each x refl
then_few n (Err d) f each = record { few = λ h e. absurd cc }

made_few : (n : ℕ) (g : Header) → length g.files ≤ n → HasFew n (Ok g)
made_few n g le = record { few = λ h e. subst (λ (x : Header). length x.files ≤ n) (header_is g h e) le }

has_few : (version : ℕ) (strings : Strings) (a : Ahead) → HasFew (length a.bytes) (header version strings a)
unfolding header
has_few version strings a =
    then_few (length a.bytes) (byte a) _ (λ minimum e0.
    then_few (length a.bytes) (operations version minimum.1) _ (λ rest e1.
    then_few (length a.bytes) (byte rest) _ (λ is_stmt e2.
    then_few (length a.bytes) (byte is_stmt.1) _ (λ base e3.
    then_few (length a.bytes) (byte_that (λ n. nat_lt 0 n) kinds.ZeroRange base.1) _ (λ range e4.
    then_few (length a.bytes) (byte_that (λ n. nat_lt 0 n) kinds.OpcodeBaseZero range.1) _ (λ opcode_base e5.
    then_few (length a.bytes) (field (bytes_at (opcode_base.0 - 1) opcode_base.1)) _ (λ lengths e6.
    then_few (length a.bytes) (names (version == 5) strings lengths.1) _ (λ ns e7.
    made_few (length a.bytes) _
    (along _ _ _ _ _ _ _ _ _ _
    (byte_left a minimum.1 minimum.0 e0)
    (operations_by (nat_le 4 version) minimum.1 rest e1)
    (byte_left rest is_stmt.1 is_stmt.0 e2)
    (byte_left is_stmt.1 base.1 base.0 e3)
    (that_most (λ n. nat_lt 0 n) kinds.ZeroRange base.1 range e4)
    (that_most (λ n. nat_lt 0 n) kinds.OpcodeBaseZero range.1 opcode_base e5)
    (bytes_left (opcode_base.0 - 1) opcode_base.1 lengths.1 lengths.0 (field_ok _ _ e6))
    (names_few (version == 5) strings lengths.1 ns e7))))))))))

pub header_few : (version : ℕ) (strings : Strings) (a : Ahead) (h : Header) → header version strings a ≡ Ok h → length h.files ≤ length a.bytes
header_few version strings a h e = (has_few version strings a).few h e
