-- Spelled directories and files of version 5 are read.
use Rattle.std.proofs.Common.{◌≡◌, ℕ, suc, ◌+◌, ◌^◌, ◌<◌, ◌⊎◌, inl, inr, Bool, true, false, ◌==◌, ◌||◌, nat_lt, List, [], ◌∷◌, ◌++◌, length, take, drop, position, Option, Ok, Err, refl, sym, ap, ◌∙◌, append_assoc}
use Rattle.std.specs.List.{AllByRecursion}
use Rattle.std.specs.Int.{w16, w32, to_le_bytes}
use Rattle.std.proofs.lemmas.Bool.{lt-ltb}
use Rattle.std.proofs.lemmas.List.{take_at}
use Rattle.leb_cursor.specs.Ahead.{Ahead, Reading, up_to, bytes_at, text_at}
use Rattle.leb_cursor.proofs.Exact.{ahead}
use Rattle.leb_cursor.proofs.Again.{bytes_again, half_again, word_again, text_again, zero_place}
use Rattle.dwarf_lines.specs.declared.LineFault.{LineFault}
use Rattle.dwarf_lines.specs.declared.LineKind.TheVariants as kinds
use Rattle.dwarf_lines.specs.declared.forms.Form.{Form}
use Rattle.dwarf_lines.specs.declared.forms.Form.TheVariants.{String, Strp, LineStrp, Data1, Data2, Udata, Data4, Data8, Data16, Block}
use Rattle.dwarf_lines.specs.declared.forms.Format.{Format}
use Rattle.dwarf_lines.specs.Names.{Strings, form_for, Value, Text, Number, Other, Entry, paths, files_of}
use Rattle.dwarf_lines.specs.Spelling.{IsUleb, SpellsAll, SpellsPlace, SpellsValue, SpellsFormat, SpellsValues, SpellsEntry, SpellsListed}
use Rattle.dwarf_lines.specs.Reading.{fault, field, check, byte, half_field, word, unsigned_field, text_in, own_text, number, other_value, block, value, allowed_form, format, formats, values, entry, entries, entry_list, Names, names_5}
use Rattle.dwarf_lines.proofs.Again.{unsigned_back}
use Rattle.dwarf_lines.proofs.HeadersAgain.{bind_through, ReadsTo, byte_back, wanted_back}

-- ---- values

own_back : (v : Value) (strings : Strings) (place : ℕ) (code rest : List ℕ) → SpellsValue strings String v code → ReadsTo (own_text (ahead place (code ++ rest))) v rest
own_back v strings place code rest (text, (all, whole), is) = (
  place + suc (length text),
  ap (λ (z : List ℕ). own_text (ahead place (z ++ rest))) whole
      ∙ bind_through (field (text_at (ahead place ((text ++ 0 ∷ []) ++ rest)))) _ (text, ahead (place + suc (length text)) rest) _ (ap field (text_again place text rest all))
      (ap (λ (w : Value). Ok (w, ahead (place + suc (length text)) rest)) (sym is)),
)

-- a text in a section, from what stands at its place
found_back : (left text spare : List ℕ) (place : ℕ) (a c : Ahead) → left ≡ (text ++ 0 ∷ []) ++ spare → AllByRecursion (λ b. 0 < b) text
    → up_to {X = Reading Value LineFault} (position (λ b. b == 0) left) a (λ k. Ok (Text (take k left), c)) (Err (fault kinds.TextOut place)) ≡ Ok (Text text, c)
found_back left text spare place a c e all =
    let front : take (length text) ((text ++ 0 ∷ []) ++ spare) ≡ text = ap (λ (z : List ℕ). take (length text) z) (append_assoc text (0 ∷ []) spare) ∙ take_at text ((0 ∷ []) ++ spare) (length text) refl in
    rw (e, zero_place text spare all, front) refl

place_back : (texts : List ℕ) (v : Value) (place : ℕ) (code rest : List ℕ) → SpellsPlace texts v code → ReadsTo (text_in texts (ahead place (code ++ rest))) v rest
place_back texts v place code rest (n, text, whole, small, (spare, there, all), is) = (
  place + 4,
  ap (λ (z : List ℕ). text_in texts (ahead place (z ++ rest))) whole
      ∙ bind_through (word (ahead place (to_le_bytes w32 n ++ rest))) _ (n, ahead (place + 4) rest) _ (ap field (word_again n place rest small))
      (found_back (drop n texts) text spare place (ahead place (to_le_bytes w32 n ++ rest)) (ahead (place + 4) rest) there all ∙ ap (λ (w : Value). Ok (w, ahead (place + 4) rest)) (sym is)),
)

number_back : (reads : Reading ℕ LineFault) (n : ℕ) (v : Value) (rest : List ℕ) → ReadsTo reads n rest → v ≡ Number n → ReadsTo (number reads) v rest
number_back reads n v rest read is = (read.0, bind_through reads _ (n, ahead read.0 rest) _ read.1 (ap (λ (w : Value). Ok (w, ahead read.0 rest)) (sym is)))

other_back : (reads : Reading (List ℕ) LineFault) (x : List ℕ) (v : Value) (rest : List ℕ) → ReadsTo reads x rest → v ≡ Other → ReadsTo (other_value reads) v rest
other_back reads x v rest read is = (read.0, bind_through reads _ (x, ahead read.0 rest) _ read.1 (ap (λ (w : Value). Ok (w, ahead read.0 rest)) (sym is)))

sized_back : (n place : ℕ) (code rest : List ℕ) → length code ≡ n → ReadsTo (field (bytes_at n (ahead place (code ++ rest)))) code rest
sized_back n place code rest len = (place + n, ap field (bytes_again n place code rest len))

block_back : (place : ℕ) (size x code rest : List ℕ) → code ≡ size ++ x → IsUleb (length x) size → ReadsTo (block (ahead place (code ++ rest))) x rest
block_back place size x code rest whole u = (
  place + length size + length x,
  ap (λ (z : List ℕ). block (ahead place z)) (ap (λ (z : List ℕ). z ++ rest) whole ∙ append_assoc size x rest)
      ∙ bind_through (unsigned_field (ahead place (size ++ (x ++ rest)))) _ (length x, ahead (place + length size) (x ++ rest)) _ (unsigned_back (length x) place size (x ++ rest) u)
      (ap field (bytes_again (length x) (place + length size) x rest refl)),
)

byte_read : (n place : ℕ) (code rest : List ℕ) → code ≡ n ∷ [] → ReadsTo (byte (ahead place (code ++ rest))) n rest
byte_read n place code rest whole = (place + 1, ap (λ (z : List ℕ). byte (ahead place (z ++ rest))) whole ∙ byte_back n place rest)

half_read : (n place : ℕ) (code rest : List ℕ) → code ≡ to_le_bytes w16 n → n < 2 ^ 16 → ReadsTo (half_field (ahead place (code ++ rest))) n rest
half_read n place code rest whole small = (place + 2, ap (λ (z : List ℕ). half_field (ahead place (z ++ rest))) whole ∙ ap field (half_again n place rest small))

pub value_back : (strings : Strings) (form : Form) (v : Value) (place : ℕ) (code rest : List ℕ) → SpellsValue strings form v code → ReadsTo (value strings form (ahead place (code ++ rest))) v rest
value_back strings String v place code rest is = own_back v strings place code rest is
value_back strings Strp v place code rest is = place_back strings.general v place code rest is
value_back strings LineStrp v place code rest is = place_back strings.line v place code rest is
value_back strings Data1 v place code rest (n, whole, is) = number_back (byte (ahead place (code ++ rest))) n v rest (byte_read n place code rest whole) is
value_back strings Data2 v place code rest (n, whole, small, is) = number_back (half_field (ahead place (code ++ rest))) n v rest (half_read n place code rest whole small) is
value_back strings Udata v place code rest (n, u, is) = number_back (unsigned_field (ahead place (code ++ rest))) n v rest (place + length code, unsigned_back n place code rest u) is
value_back strings Data4 v place code rest (len, is) = other_back (field (bytes_at 4 (ahead place (code ++ rest)))) code v rest (sized_back 4 place code rest len) is
value_back strings Data8 v place code rest (len, is) = other_back (field (bytes_at 8 (ahead place (code ++ rest)))) code v rest (sized_back 8 place code rest len) is
value_back strings Data16 v place code rest (len, is) = other_back (field (bytes_at 16 (ahead place (code ++ rest)))) code v rest (sized_back 16 place code rest len) is
value_back strings Block v place code rest (size, x, whole, u, is) = other_back (block (ahead place (code ++ rest))) x v rest (block_back place size x code rest whole u) is

-- ---- formats

format_back : (f : Format) (place : ℕ) (code rest : List ℕ) → SpellsFormat f code → ReadsTo (format (ahead place (code ++ rest))) f rest
format_back f place code rest (content, form, n, whole, u, w, fine) =
    let p : ℕ = place + length content in (
      p + length form,
      ap (λ (z : List ℕ). format (ahead place z)) (ap (λ (z : List ℕ). z ++ rest) whole ∙ append_assoc content form rest)
          ∙ bind_through (unsigned_field (ahead place (content ++ (form ++ rest)))) _ (f.content, ahead p (form ++ rest)) _ (unsigned_back f.content place content (form ++ rest) u)
          (bind_through (unsigned_field (ahead p (form ++ rest))) _ (n, ahead (p + length form) rest) _ (unsigned_back n p form rest w)
          (bind_through (allowed_form (form_for f.content n) p) _ f.form _ (ap (λ (o : Option Form). allowed_form o p) fine) refl)),
    )

formats_back : (fs : List Format) (place : ℕ) (code rest : List ℕ) → SpellsAll SpellsFormat fs code → ReadsTo (formats (length fs) (ahead place (code ++ rest))) fs rest
unfolding formats
formats_back [] place code rest is = (place, ap (λ (z : List ℕ). Ok ([], ahead place (z ++ rest))) is)
formats_back (f ∷ fs) place code rest (front, others, whole, is, tail) =
    let first = format_back f place front (others ++ rest) is in
    let more = formats_back fs first.0 others rest tail in (
      more.0,
      ap (λ (z : List ℕ). formats (suc (length fs)) (ahead place z)) (ap (λ (z : List ℕ). z ++ rest) whole ∙ append_assoc front others rest)
          ∙ bind_through (format (ahead place (front ++ (others ++ rest)))) _ (f, ahead first.0 (others ++ rest)) _ first.1
          (bind_through (formats (length fs) (ahead first.0 (others ++ rest))) _ (fs, ahead more.0 rest) _ more.1 refl),
    )

-- ---- entries

values_back : (strings : Strings) (fs : List Format) (vs : List Value) (place : ℕ) (code rest : List ℕ) → SpellsValues strings fs vs code → ReadsTo (values strings fs (ahead place (code ++ rest))) vs rest
unfolding values
values_back strings [] [] place code rest is = (place, ap (λ (z : List ℕ). Ok ([], ahead place (z ++ rest))) is)
values_back strings [] (v ∷ vs) place code rest is = absurd is
values_back strings (f ∷ fs) [] place code rest is = absurd is
values_back strings (f ∷ fs) (v ∷ vs) place code rest (front, others, whole, is, tail) =
    let first = value_back strings f.form v place front (others ++ rest) is in
    let more = values_back strings fs vs first.0 others rest tail in (
      more.0,
      ap (λ (z : List ℕ). values strings (f ∷ fs) (ahead place z)) (ap (λ (z : List ℕ). z ++ rest) whole ∙ append_assoc front others rest)
          ∙ bind_through (value strings f.form (ahead place (front ++ (others ++ rest)))) _ (v, ahead first.0 (others ++ rest)) _ first.1
          (bind_through (values strings fs (ahead first.0 (others ++ rest))) _ (vs, ahead more.0 rest) _ more.1 refl),
    )

entry_back : (strings : Strings) (fs : List Format) (e : Entry) (place : ℕ) (code rest : List ℕ) → SpellsEntry strings fs e code → ReadsTo (entry strings fs (ahead place (code ++ rest))) e rest
entry_back strings fs e place code rest (vs, spelled, is) =
    let read = values_back strings fs vs place code rest spelled in
    (read.0, bind_through (values strings fs (ahead place (code ++ rest))) _ (vs, ahead read.0 rest) _ read.1 (ap (λ (d : Entry). Ok (d, ahead read.0 rest)) (sym is)))

entries_back : (strings : Strings) (fs : List Format) (es : List Entry) (place : ℕ) (code rest : List ℕ) → SpellsAll (SpellsEntry strings fs) es code → ReadsTo (entries (length es) strings fs (ahead place (code ++ rest))) es rest
unfolding entries
entries_back strings fs [] place code rest is = (place, ap (λ (z : List ℕ). Ok ([], ahead place (z ++ rest))) is)
entries_back strings fs (e ∷ es) place code rest (front, others, whole, is, tail) =
    let first = entry_back strings fs e place front (others ++ rest) is in
    let more = entries_back strings fs es first.0 others rest tail in (
      more.0,
      ap (λ (z : List ℕ). entries (suc (length es)) strings fs (ahead place z)) (ap (λ (z : List ℕ). z ++ rest) whole ∙ append_assoc front others rest)
          ∙ bind_through (entry strings fs (ahead place (front ++ (others ++ rest)))) _ (e, ahead first.0 (others ++ rest)) _ first.1
          (bind_through (entries (length es) strings fs (ahead first.0 (others ++ rest))) _ (es, ahead more.0 rest) _ more.1 refl),
    )

-- ---- a list of entries with its formats

or_right : (b c : Bool) → c ≡ true → (b || c) ≡ true
or_right true c e = refl
or_right false c e = e

some_or_none : (k n : ℕ) → (0 < k) ⊎ (n ≡ 0) → (nat_lt 0 k || (n == 0)) ≡ true
some_or_none k n (inl lt) = ap (λ (b : Bool). b || (n == 0)) (lt-ltb 0 k lt)
some_or_none k n (inr none) = or_right (nat_lt 0 k) (n == 0) (ap (λ (m : ℕ). m == 0) none)

listed_back : (strings : Strings) (es : List Entry) (place : ℕ) (code rest : List ℕ) → SpellsListed strings es code → ReadsTo (entry_list strings (ahead place (code ++ rest))) es rest
unfolding entry_list
listed_back strings es place code rest (fs, formatted, count, spelled, whole, are_formats, u, are_entries, some) =
    let k : ℕ = length fs in
    let n : ℕ = length es in
    let after_count : List ℕ = spelled ++ rest in
    let after_formats : List ℕ = count ++ after_count in
    let line : code ++ rest ≡ k ∷ (formatted ++ after_formats) =
    ap (λ (z : List ℕ). z ++ rest) whole ∙ ap (λ (z : List ℕ). k ∷ z) (append_assoc formatted (count ++ spelled) rest ∙ ap (λ (z : List ℕ). formatted ++ z) (append_assoc count spelled rest)) in
    let f = formats_back fs (place + 1) formatted after_formats are_formats in
    let p : ℕ = f.0 in
    let q : ℕ = p + length count in
    let e = entries_back strings fs es q spelled rest are_entries in (
      e.0,
      ap (λ (z : List ℕ). entry_list strings (ahead place z)) line
          ∙ bind_through (byte (ahead place (k ∷ (formatted ++ after_formats)))) _ (k, ahead (place + 1) (formatted ++ after_formats)) _ (byte_back k place (formatted ++ after_formats))
          (bind_through (formats k (ahead (place + 1) (formatted ++ after_formats))) _ (fs, ahead p after_formats) _ f.1
          (bind_through (unsigned_field (ahead p after_formats)) _ (n, ahead q after_count) _ (unsigned_back n p count after_count u)
          (bind_through (check (nat_lt 0 k || (n == 0)) kinds.EmptyEntries p (n, ahead q after_count)) _ (n, ahead q after_count) _ (wanted_back (nat_lt 0 k || (n == 0)) kinds.EmptyEntries p (n, ahead q after_count) (some_or_none k n some)) e.1))),
    )

pub names_back : (strings : Strings) (directories : List (List ℕ)) (ds fs : List Entry) (place : ℕ) (code front others rest : List ℕ) → code ≡ front ++ others → SpellsListed strings ds front → SpellsListed strings fs others
    → directories ≡ paths ds → ReadsTo (names_5 strings (ahead place (code ++ rest))) (record { directories = directories; files = files_of directories fs }) rest
names_back strings directories ds fs place code front others rest whole is-d is-f same =
    let d = listed_back strings ds place front (others ++ rest) is-d in
    let f = listed_back strings fs d.0 others rest is-f in
    let made : List (List ℕ) → Names = λ paths. record { directories = paths; files = files_of paths fs } in (
      f.0,
      ap (λ (z : List ℕ). names_5 strings (ahead place z)) (ap (λ (z : List ℕ). z ++ rest) whole ∙ append_assoc front others rest)
          ∙ bind_through (entry_list strings (ahead place (front ++ (others ++ rest)))) _ (ds, ahead d.0 (others ++ rest)) _ d.1
          (bind_through (entry_list strings (ahead d.0 (others ++ rest))) _ (fs, ahead f.0 rest) _ f.1 (ap (λ (paths : List (List ℕ)). Ok (made paths, ahead f.0 rest)) (sym same))),
    )
