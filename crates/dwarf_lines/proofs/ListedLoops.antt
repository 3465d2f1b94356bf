-- Steps of the loops over a count of items.
use Rattle.std.proofs.Common.{◌≡◌, ℕ, zero, suc, ◌+◌, ◌-◌, ◌<◌, ◌≤◌, List, [], ◌∷◌, ◌++◌, length, get_or, drop, Ok, Err, refl, sym, ap, ◌∙◌, arith}
use Rattle.std.proofs.lemmas.List.{append-nil}
use Rattle.leb_cursor.specs.Ahead.{Ahead, Reading, ◌>>=◌}
use Rattle.dwarf_lines.specs.declared.LineFault.{LineFault}
use Rattle.dwarf_lines.specs.declared.forms.Format.{Format}
use Rattle.dwarf_lines.specs.Names.{Strings, Value, Entry, entry_of, with_value}
use Rattle.dwarf_lines.specs.Reading.{format, formats, value, values, entry, entries}
use Rattle.dwarf_lines.proofs.Loops.{joined, joined_step}

module _ {A : Type 0} (one : Ahead → Reading A LineFault) (many : ℕ → Ahead → Reading (List A) LineFault)
    (none : (a : Ahead) → many 0 a ≡ Ok ([], a))
    (next : (n : ℕ) (a : Ahead) → many (suc n) a ≡ (one a >>= λ first. many n first.1 >>= λ more. Ok (first.0 ∷ more.0, more.1)))
  where
    pub many_next : (count i : ℕ) (xs : List A) (x : A) (a b : Ahead) (total : Reading (List A) LineFault) → i < count → one a ≡ Ok (x, b) → joined xs (many (count - i) a) ≡ total → joined (xs ++ x ∷ []) (many (count - (i + 1)) b) ≡ total
    many_next count i xs x a b total lt read so_far =
        let k : count - i ≡ suc (count - (i + 1)) = omega arith in
        joined_step xs x (many (count - (i + 1)) b) ∙ ap (λ r. joined xs (r >>= λ first. many (count - (i + 1)) first.1 >>= λ more. Ok (first.0 ∷ more.0, more.1))) (sym read)
        ∙ ap (joined xs) (sym (next (count - (i + 1)) a)) ∙ ap (λ (n : ℕ). joined xs (many n a)) (sym k) ∙ so_far

    pub many_fault : (count i : ℕ) (xs : List A) (a : Ahead) (f : LineFault) (total : Reading (List A) LineFault) → i < count → one a ≡ Err f → joined xs (many (count - i) a) ≡ total → total ≡ Err f
    many_fault count i xs a f total lt read so_far =
        let k : count - i ≡ suc (count - (i + 1)) = omega arith in
        sym so_far ∙ ap (λ (n : ℕ). joined xs (many n a)) k ∙ ap (joined xs) (next (count - (i + 1)) a)
        ∙ ap (λ r. joined xs (r >>= λ first. many (count - (i + 1)) first.1 >>= λ more. Ok (first.0 ∷ more.0, more.1))) read

    pub many_end : (xs : List A) (count i : ℕ) (a : Ahead) (total : Reading (List A) LineFault) → count - i ≡ 0 → joined xs (many (count - i) a) ≡ total → total ≡ Ok (xs, a)
    many_end xs count i a total left so_far =
        sym so_far ∙ ap (λ (n : ℕ). joined xs (many n a)) left ∙ ap (joined xs) (none a) ∙ ap (λ (ys : List A). Ok (ys, a)) (append-nil xs)

formats_none : (a : Ahead) → formats 0 a ≡ Ok ([], a)
unfolding formats
formats_none a = refl

formats_more : (n : ℕ) (a : Ahead) → formats (suc n) a ≡ (format a >>= λ first. formats n first.1 >>= λ more. Ok (first.0 ∷ more.0, more.1))
unfolding formats
formats_more n a = refl

pub formats_next : (count i : ℕ) (xs : List Format) (x : Format) (a b : Ahead) (total : Reading (List Format) LineFault) → i < count → format a ≡ Ok (x, b) → joined xs (formats (count - i) a) ≡ total → joined (xs ++ x ∷ []) (formats (count - (i + 1)) b) ≡ total
formats_next = many_next format formats formats_none formats_more

pub formats_fault : (count i : ℕ) (xs : List Format) (a : Ahead) (f : LineFault) (total : Reading (List Format) LineFault) → i < count → format a ≡ Err f → joined xs (formats (count - i) a) ≡ total → total ≡ Err f
formats_fault = many_fault format formats formats_none formats_more

pub formats_end : (xs : List Format) (count i : ℕ) (a : Ahead) (total : Reading (List Format) LineFault) → count - i ≡ 0 → joined xs (formats (count - i) a) ≡ total → total ≡ Ok (xs, a)
formats_end = many_end format formats formats_none formats_more

-- ---- entries

entries_none : (strings : Strings) (fs : List Format) (a : Ahead) → entries 0 strings fs a ≡ Ok ([], a)
unfolding entries
entries_none strings fs a = refl

entries_more : (strings : Strings) (fs : List Format) (n : ℕ) (a : Ahead) → entries (suc n) strings fs a ≡ (entry strings fs a >>= λ first. entries n strings fs first.1 >>= λ more. Ok (first.0 ∷ more.0, more.1))
unfolding entries
entries_more strings fs n a = refl

pub entries_next : (strings : Strings) (fs : List Format) (count i : ℕ) (xs : List Entry) (x : Entry) (a b : Ahead) (total : Reading (List Entry) LineFault) → i < count → entry strings fs a ≡ Ok (x, b) → joined xs (entries (count - i) strings fs a) ≡ total → joined (xs ++ x ∷ []) (entries (count - (i + 1)) strings fs b) ≡ total
entries_next strings fs = many_next (λ a. entry strings fs a) (λ n a. entries n strings fs a) (entries_none strings fs) (entries_more strings fs)

pub entries_fault : (strings : Strings) (fs : List Format) (count i : ℕ) (xs : List Entry) (a : Ahead) (f : LineFault) (total : Reading (List Entry) LineFault) → i < count → entry strings fs a ≡ Err f → joined xs (entries (count - i) strings fs a) ≡ total → total ≡ Err f
entries_fault strings fs = many_fault (λ a. entry strings fs a) (λ n a. entries n strings fs a) (entries_none strings fs) (entries_more strings fs)

pub entries_end : (strings : Strings) (fs : List Format) (xs : List Entry) (count i : ℕ) (a : Ahead) (total : Reading (List Entry) LineFault) → count - i ≡ 0 → joined xs (entries (count - i) strings fs a) ≡ total → total ≡ Ok (xs, a)
entries_end strings fs = many_end (λ a. entry strings fs a) (λ n a. entries n strings fs a) (entries_none strings fs) (entries_more strings fs)

-- ---- the fields of an entry

-- what the values make of the entry so far
abbrev pub made : List Format → Entry → List Value × Ahead → Reading Entry LineFault
made fs e vs = Ok (entry_of fs vs.0 e, vs.1)

abbrev led : Value → List Value × Ahead → Reading (List Value) LineFault
led v more = Ok (v ∷ more.0, more.1)

-- the fields that are left, after the entry so far
abbrev pub rest_of : Strings → List Format → Entry → Ahead → Reading Entry LineFault
rest_of strings fs e a = values strings fs a >>= made fs e

abbrev led_by : Strings → List Format → Value × Ahead → Reading (List Value) LineFault
led_by strings fs first = values strings fs first.1 >>= led first.0

taken : (f : Format) (fs : List Format) (v : Value) (e : Entry) (r : Reading (List Value) LineFault) → ((r >>= led v) >>= made (f ∷ fs) e) ≡ (r >>= made fs (with_value f.content v e))
taken f fs v e (Ok more) = refl
taken f fs v e (Err d) = refl

pub fields_next : (strings : Strings) (f : Format) (fs : List Format) (v : Value) (e : Entry) (a b : Ahead) → value strings f.form a ≡ Ok (v, b) → rest_of strings (f ∷ fs) e a ≡ rest_of strings fs (with_value f.content v e) b
unfolding values
fields_next strings f fs v e a b read = ap (λ (r : Reading Value LineFault). (r >>= led_by strings fs) >>= made (f ∷ fs) e) read ∙ taken f fs v e (values strings fs b)

pub fields_fault : (strings : Strings) (f : Format) (fs : List Format) (e : Entry) (a : Ahead) (d : LineFault) → value strings f.form a ≡ Err d → rest_of strings (f ∷ fs) e a ≡ Err d
unfolding values
fields_fault strings f fs e a d read = ap (λ (r : Reading Value LineFault). (r >>= led_by strings fs) >>= made (f ∷ fs) e) read

pub fields_end : (strings : Strings) (e : Entry) (a : Ahead) → rest_of strings [] e a ≡ Ok (e, a)
unfolding values
fields_end strings e a = refl

pub drop_one : (fs : List Format) (i : ℕ) (d : Format) → i < length fs → drop i fs ≡ get_or fs i d ∷ drop (i + 1) fs
drop_one [] i d lt = absurd (omega arith)
drop_one (f ∷ fs) zero d lt = refl
drop_one (f ∷ fs) (suc i) d lt = let same : suc i + 1 ≡ suc (i + 1) = omega arith in drop_one fs i d (omega arith) ∙ ap (λ (n : ℕ). get_or fs i d ∷ drop n (f ∷ fs)) (sym same)

pub drop_all : (fs : List Format) (i : ℕ) → length fs ≤ i → drop i fs ≡ []
drop_all [] zero le = refl
drop_all [] (suc i) le = refl
drop_all (f ∷ fs) zero le = absurd (omega arith)
drop_all (f ∷ fs) (suc i) le = drop_all fs i (omega arith)

-- the loop over the formats
pub loop_next : (strings : Strings) (fs : List Format) (i : ℕ) (d : Format) (v : Value) (e : Entry) (a b : Ahead) (total : Reading Entry LineFault) → i < length fs → value strings (get_or fs i d).form a ≡ Ok (v, b)
    → rest_of strings (drop i fs) e a ≡ total → rest_of strings (drop (i + 1) fs) (with_value (get_or fs i d).content v e) b ≡ total
loop_next strings fs i d v e a b total lt read so_far =
    sym (fields_next strings (get_or fs i d) (drop (i + 1) fs) v e a b read) ∙ ap (λ (gs : List Format). rest_of strings gs e a) (sym (drop_one fs i d lt)) ∙ so_far

pub loop_fault : (strings : Strings) (fs : List Format) (i : ℕ) (d : Format) (e : Entry) (a : Ahead) (f : LineFault) (total : Reading Entry LineFault) → i < length fs → value strings (get_or fs i d).form a ≡ Err f
    → rest_of strings (drop i fs) e a ≡ total → total ≡ Err f
loop_fault strings fs i d e a f total lt read so_far =
    sym so_far ∙ ap (λ (gs : List Format). rest_of strings gs e a) (drop_one fs i d lt) ∙ fields_fault strings (get_or fs i d) (drop (i + 1) fs) e a f read

pub loop_end : (strings : Strings) (fs : List Format) (i : ℕ) (e : Entry) (a : Ahead) (total : Reading Entry LineFault) → length fs ≤ i → rest_of strings (drop i fs) e a ≡ total → total ≡ Ok (e, a)
loop_end strings fs i e a total le so_far = sym so_far ∙ ap (λ (gs : List Format). rest_of strings gs e a) (drop_all fs i le) ∙ fields_end strings e a
