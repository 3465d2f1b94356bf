-- The line program goes through the rows of its sequences.
use Rattle.std.proofs.Common.{◌≡◌, ◌<◌, ◌≤◌, ℕ, suc, ◌+◌, ◌-◌, ◌^◌, Bool, true, false, List, [], ◌∷◌, ◌++◌, map, length, refl, ap, ap₂, subst, ◌∙◌, sym, arith, append_assoc, lit<, if◌then◌else◌, cond, Option, Some, None, nat_lt}
use Rattle.std.specs.Prelude.{ℤ, pos, negsuc, ◌+ℤ◌, count_by}
use Rattle.std.specs.List.{concat, AllByRecursion}
use Rattle.std.proofs.lemmas.Int.{ints}
use Rattle.std.proofs.lemmas.Bool.{lt-ltb}
use Rattle.std.proofs.lemmas.List.{append-nil, length-map}
use Rattle.std.proofs.lemmas.List.Folds.{concat-append}
use Rattle.std.proofs.lemmas.List.Sums.{sum_by-append}
use Rattle.dwarf_lines.specs.declared.Row.{Row}
use Rattle.dwarf_lines.specs.Registers.{File, Header, Operation, Copy, AdvanceLine, SetFile, EndSequence, SetAddress, State, state_after, has_line, file_of as file_by, is_open}
use Rattle.dwarf_lines.specs.Spelling.{Spells, Goes}
use Rattle.byte_write.specs.Numbers.{double, leb}
use Rattle.byte_write.specs.Programs.{set_address, set_line, end_sequence}
use Rattle.line_write.specs.Unit.{Sequence, IsWritable, spelled, program}
use Rattle.line_write.specs.Lines.{file_of, row_at, rows}
use Rattle.line_write.proofs.Leb.{leb_spells, leb_spells_signed}

-- ---- the header and the states

abbrev pub lengths : List ℕ
lengths = 0 ∷ 1 ∷ 1 ∷ 1 ∷ 1 ∷ 0 ∷ 0 ∷ 0 ∷ 1 ∷ 0 ∷ 0 ∷ 1 ∷ []

abbrev pub header_of : List Sequence → Header
header_of all = record { version = 4; minimum_length = 4; is_stmt = true; line_base = negsuc 4; line_range = 14; opcode_base = 13; lengths = lengths; directories = []; files = map file_of all }

-- these files and rows so far, and the registers
abbrev stated : List File → List Row → ℕ → ℕ → ℤ → State
stated files done address file line = record {
  table = record { files = files; rows = done; skipped = 0 };
  first_file = 0;
  registers = record { address = address; file = file; line = line; column = 0; is_stmt = true };
}

abbrev at : List Sequence → List Row → ℕ → ℕ → ℤ → State
at all done address file line = stated (map file_of all) done address file line

-- between two sequences
abbrev pub between : List Sequence → List Row → State
between all done = at all done 0 1 (pos 1)

-- this number of sequences have ended
abbrev HasEnded : ℕ → List Row → Type 0
HasEnded k done = count_by (λ (r : Row). r.ends) done ≡ k

-- no file is defined on the way
same_files : (all : List Sequence) (done : List Row) (address file : ℕ) (line : ℤ) → stated (map file_of all ++ []) done address file line ≡ at all done address file line
same_files all done address file line = ap (λ (files : List File). stated files done address file line) (append-nil (map file_of all))

file_is : (all : List Sequence) (done : List Row) (address k : ℕ) (line : ℤ) → k < length all → file_by (header_of all) (at all done address (suc k) line) (suc k) ≡ Some k
file_is all done address k line within =
    let same : 0 + k ≡ k = omega arith in
    ap (λ (j : ℕ). if nat_lt j (length (map file_of all)) then Some j else None) same
    ∙ ap (λ (b : Bool). if b then Some k else None) (lt-ltb k (length (map file_of all)) (subst (λ (n : ℕ). k < n) (sym (length-map all file_of)) within))

-- ---- bytes that take a state to another

pub record Reaches (h : Header) (bytes : List ℕ) (s t : State) : Type 0 where
  pub codes : List (List ℕ)
  pub spelled : bytes ≡ concat codes
  pub goes : Goes h codes s t

none : (h : Header) (s : State) → Reaches h [] s s
none h s = record { codes = []; spelled = refl; goes = refl }

one : (h : Header) (op : Operation) (code : List ℕ) (s t : State) → Spells h op code → has_line h op s ≡ true → state_after h op s ≡ t → Reaches h code s t
one h op code s t spells has e = record { codes = code ∷ []; spelled = sym (append-nil code); goes = (op, spells, has, sym e) }

goes_on : (h : Header) (a b : List (List ℕ)) (s t u : State) → Goes h a s t → Goes h b t u → Goes h (a ++ b) s u
goes_on h [] b s t u e more = subst (λ (x : State). Goes h b x u) e more
goes_on h (code ∷ a) b s t u (op, spells, has, goes) more = (op, spells, has, goes_on h a b (state_after h op s) t u goes more)

both : (h : Header) (x y : List ℕ) (s t u : State) → Reaches h x s t → Reaches h y t u → Reaches h (x ++ y) s u
both h x y s t u first more = record {
  codes = first.codes ++ more.codes;
  spelled = ap₂ (λ (a b : List ℕ). a ++ b) first.spelled more.spelled ∙ sym (concat-append first.codes more.codes);
  goes = goes_on h first.codes more.codes s t u first.goes more.goes;
}

-- ---- one operation

by_address : (all : List Sequence) (done : List Row) (a f b : ℕ) (l : ℤ) → b < 2 ^ 64 → Reaches (header_of all) (set_address b) (at all done a f l) (at all done b f l)
unfolding double
by_address all done a f b l fits =
    one (header_of all) (SetAddress b) (set_address b) (at all done a f l) (at all done b f l)
    ((9 ∷ [], refl, ((lit< tt, refl), lit< tt)), fits) refl
    (same_files all (done ++ []) b f l ∙ ap (λ (so_far : List Row). at all so_far b f l) (append-nil done))

by_file : (all : List Sequence) (done : List Row) (a f n : ℕ) (l : ℤ) → n < 2 ^ 34 → Reaches (header_of all) (4 ∷ leb n) (at all done a f l) (at all done a n l)
by_file all done a f n l fits =
    one (header_of all) (SetFile n) (4 ∷ leb n) (at all done a f l) (at all done a n l)
    (leb n, refl, lit< tt, lit< tt, (leb_spells n fits, omega arith)) refl
    (same_files all (done ++ []) a n l ∙ ap (λ (so_far : List Row). at all so_far a n l) (append-nil done))

line_after : (n : ℕ) → 0 < n → pos 1 +ℤ pos (n - 1) ≡ pos n
line_after n some = omega (arith, ints)

by_line : (all : List Sequence) (done : List Row) (a f n : ℕ) → 0 < n → n < 2 ^ 32 → Reaches (header_of all) (3 ∷ leb (n - 1)) (at all done a f (pos 1)) (at all done a f (pos n))
by_line all done a f n some fits =
    one (header_of all) (AdvanceLine (pos (n - 1))) (3 ∷ leb (n - 1)) (at all done a f (pos 1)) (at all done a f (pos n))
    (leb (n - 1), refl, lit< tt, lit< tt, (leb_spells_signed (n - 1) (omega arith), lt-ltb (n - 1) (2 ^ 63) (omega arith))) refl
    (same_files all (done ++ []) a f (pos 1 +ℤ pos (n - 1)) ∙ ap₂ (λ (so_far : List Row) (x : ℤ). at all so_far a f x) (append-nil done) (line_after n some))

abbrev numbered : ℕ → Option ℕ → ℕ → ℕ → Bool → Row
numbered sequence file a l ends = record { sequence = sequence; address = a; file = file; line = l; column = 0; is_stmt = true; ends = ends }

by_copy : (all : List Sequence) (done : List Row) (k a l : ℕ) → l < 2 ^ 32 → k < length all → HasEnded k done → Reaches (header_of all) (1 ∷ []) (at all done a (suc k) (pos l)) (at all (done ++ row_at k a l false ∷ []) a (suc k) (pos l))
by_copy all done k a l low within ended =
    one (header_of all) Copy (1 ∷ []) (at all done a (suc k) (pos l)) (at all (done ++ row_at k a l false ∷ []) a (suc k) (pos l))
    ([], refl, lit< tt, lit< tt, refl) (lt-ltb l (2 ^ 32) low)
    (same_files all (done ++ numbered (count_by (λ (r : Row). r.ends) done) (file_by (header_of all) (at all done a (suc k) (pos l)) (suc k)) a l false ∷ []) a (suc k) (pos l)
    ∙ ap₂ (λ (n : ℕ) (file : Option ℕ). at all (done ++ numbered n file a l false ∷ []) a (suc k) (pos l)) ended (file_is all done a k (pos l) within))

by_end : (all : List Sequence) (done : List Row) (k a l : ℕ) → l < 2 ^ 32 → k < length all → HasEnded k done → Reaches (header_of all) end_sequence (at all done a (suc k) (pos l)) (between all (done ++ row_at k a l true ∷ []))
by_end all done k a l low within ended =
    one (header_of all) EndSequence end_sequence (at all done a (suc k) (pos l)) (between all (done ++ row_at k a l true ∷ []))
    ([], (1 ∷ [], refl, ((lit< tt, refl), lit< tt))) (lt-ltb l (2 ^ 32) low)
    (same_files all (done ++ numbered (count_by (λ (r : Row). r.ends) done) (file_by (header_of all) (at all done a (suc k) (pos l)) (suc k)) a l true ∷ []) 0 1 (pos 1)
    ∙ ap₂ (λ (n : ℕ) (file : Option ℕ). between all (done ++ numbered n file a l true ∷ [])) ended (file_is all done a k (pos l) within))

-- ---- one sequence

still : (done : List Row) (k a l : ℕ) → HasEnded k done → HasEnded k (done ++ row_at k a l false ∷ [])
still done k a l ended = omega (arith, ended, sum_by-append (λ (r : Row). cond r.ends 1 0) done (row_at k a l false ∷ []))

one_more : (done : List Row) (k a b l : ℕ) → HasEnded k done → HasEnded (suc k) (done ++ row_at k a l false ∷ row_at k b l true ∷ [])
one_more done k a b l ended = omega (arith, ended, sum_by-append (λ (r : Row). cond r.ends 1 0) done (row_at k a l false ∷ row_at k b l true ∷ []))

by_set_line : (all : List Sequence) (done : List Row) (k a n : ℕ) → 0 < n → n < 2 ^ 32 → k < length all → suc k < 2 ^ 34 → HasEnded k done
    → Reaches (header_of all) (set_line (suc k) n) (at all done a 1 (pos 1)) (at all (done ++ row_at k a n false ∷ []) a (suc k) (pos n))
by_set_line all done k a n some fits within few ended =
    let h = header_of all in
    let last = at all (done ++ row_at k a n false ∷ []) a (suc k) (pos n) in
    both h (4 ∷ leb (suc k)) ((3 ∷ leb (n - 1)) ++ 1 ∷ []) (at all done a 1 (pos 1)) (at all done a (suc k) (pos 1)) last
    (by_file all done a 1 (suc k) (pos 1) few)
    (both h (3 ∷ leb (n - 1)) (1 ∷ []) (at all done a (suc k) (pos 1)) (at all done a (suc k) (pos n)) last (by_line all done a (suc k) n some fits) (by_copy all done k a n fits within ended))

by_sequence : (all : List Sequence) (done : List Row) (k : ℕ) (s : Sequence) → IsWritable s → k < length all → suc k < 2 ^ 34 → HasEnded k done
    → Reaches (header_of all) (spelled (suc k) s) (between all done) (between all (done ++ row_at k s.address s.number false ∷ row_at k (s.address + s.size) s.number true ∷ []))
by_sequence all done k s right within few ended =
    let h = header_of all in
    let a = s.address in
    let b = s.address + s.size in
    let first = row_at k a s.number false in
    let last = row_at k b s.number true in
    let so_far = done ++ first ∷ [] in
    let ending : Reaches h (set_address b ++ end_sequence) (at all so_far a (suc k) (pos s.number)) (between all (so_far ++ last ∷ [])) =
    both h (set_address b) end_sequence (at all so_far a (suc k) (pos s.number)) (at all so_far b (suc k) (pos s.number)) (between all (so_far ++ last ∷ []))
    (by_address all so_far a (suc k) b (pos s.number) right.within) (by_end all so_far k b s.number right.small within (still done k a s.number ended)) in
    let rest = both h (set_line (suc k) s.number) (set_address b ++ end_sequence) (at all done a 1 (pos 1)) (at all so_far a (suc k) (pos s.number)) (between all (so_far ++ last ∷ []))
    (by_set_line all done k a s.number right.numbered right.small within few ended) ending in
    let whole = both h (set_address a) (set_line (suc k) s.number ++ (set_address b ++ end_sequence)) (between all done) (at all done a 1 (pos 1)) (between all (so_far ++ last ∷ []))
    (by_address all done 0 1 a (pos 1) (omega (arith, right.within))) rest in
    subst (λ (all_rows : List Row). Reaches h (spelled (suc k) s) (between all done) (between all all_rows)) (append_assoc done (first ∷ []) (last ∷ [])) whole

-- ---- all sequences

abbrev pub AreWritable : List Sequence → Type 0
AreWritable all = AllByRecursion IsWritable all

pub by_program : (all more : List Sequence) (done : List Row) (k : ℕ) → AreWritable more → k + length more ≤ length all → length all < 2 ^ 33 → HasEnded k done
    → Reaches (header_of all) (program (suc k) more) (between all done) (between all (done ++ rows k more))
by_program all [] done k right within few ended = subst (λ (rows : List Row). Reaches (header_of all) [] (between all done) (between all rows)) (sym (append-nil done)) (none (header_of all) (between all done))
by_program all (s ∷ more) done k right within few ended =
    let h = header_of all in
    let two = row_at k s.address s.number false ∷ row_at k (s.address + s.size) s.number true ∷ [] in
    let so_far = done ++ two in
    let first = by_sequence all done k s right.0 (omega arith) (omega arith) ended in
    let rest = by_program all more so_far (suc k) right.1 (omega arith) few (one_more done k s.address (s.address + s.size) s.number ended) in
    let whole = both h (spelled (suc k) s) (program (suc (suc k)) more) (between all done) (between all so_far) (between all (so_far ++ rows (suc k) more)) first rest in
    subst (λ (rows : List Row). Reaches h (program (suc k) (s ∷ more)) (between all done) (between all rows)) (append_assoc done two (rows (suc k) more)) whole

-- ---- the last row ends the sequence

closed_by : (r : Row) (all : List Row) → r.ends ≡ true → is_open all ≡ false → is_open (r ∷ all) ≡ false
closed_by r [] ends closed = rw ends refl
closed_by r (next ∷ all) ends closed = closed

pub rows_closed : (k : ℕ) (all : List Sequence) → is_open (rows k all) ≡ false
rows_closed k [] = refl
rows_closed k (s ∷ more) = closed_by (row_at k (s.address + s.size) s.number true) (rows (suc k) more) refl (rows_closed (suc k) more)
