-- Steps of the loops over a cursor.
use Rattle.std.proofs.Common.{◌≡◌, ◌≢◌, ℕ, zero, suc, ◌+◌, ◌-◌, ◌<◌, Bool, true, false, not, ◌==◌, List, [], ◌∷◌, ◌++◌, length, Result, Ok, Err, refl, sym, ap, ◌∙◌, arith, append_assoc}
use Rattle.std.proofs.lemmas.Bool.{eqb-true}
use Rattle.std.proofs.lemmas.List.{append-nil}
use Rattle.leb_cursor.specs.Ahead.{Ahead, Reading, ◌>>=◌, text_at}
use Rattle.dwarf_lines.specs.declared.LineFault.{LineFault}
use Rattle.failures.specs.declared.Failure.{Failure}
use Rattle.failures.specs.declared.Failure.TheVariants as errors
use Rattle.dwarf_lines.specs.declared.LineKind.TheVariants as kinds
use Rattle.dwarf_lines.specs.Registers.{File, Table, Header, Operation, State, state_after, has_line, is_open}
use Rattle.dwarf_lines.specs.Names.{Strings}
use Rattle.dwarf_lines.specs.Reading.{fault, field, check, unsigned_field, ahead_of_numbers, texts, file_named, files, operation, program, finished_table, unit, units}
use Rattle.failures.specs.Answers.{Fails}
use Rattle.dwarf_lines.proofs.Shorter.{IsLess, text_less, named_less, operation_less, unit_less}

-- one more is passed
pub pass_step : (count i n : ℕ) (a b : Ahead) (total : Result Ahead LineFault) → i < count → unsigned_field a ≡ Ok (n, b) → ahead_of_numbers (count - i) a ≡ total → ahead_of_numbers (count - (i + 1)) b ≡ total
unfolding ahead_of_numbers
pass_step count i n a b total lt read so_far =
    let k : count - i ≡ suc (count - (i + 1)) = omega arith in
    let one : ahead_of_numbers (count - i) a ≡ ahead_of_numbers (count - (i + 1)) b = rw (k, read) refl in
    sym one ∙ so_far

same_step : {A B E : Type 0} (r : Result A E) (f g : A → Result B E) → ((x : A) → r ≡ Ok x → f x ≡ g x) → (r >>= f) ≡ (r >>= g)
same_step (Ok x) f g same = same x refl
same_step (Err e) f g same = refl

-- a list that is read on, with the items so far in front
abbrev pub joined : {A : Type 0} → List A → Reading (List A) LineFault → Reading (List A) LineFault
joined xs reads = reads >>= λ more. Ok (xs ++ more.0, more.1)

pub joined_step : {A : Type 0} (xs : List A) (x : A) (r : Reading (List A) LineFault) → joined (xs ++ x ∷ []) r ≡ joined xs (r >>= λ more. Ok (x ∷ more.0, more.1))
joined_step xs x (Ok more) = ap (λ (ys : List _). Ok (ys, more.1)) (append_assoc xs (x ∷ []) more.0)
joined_step xs x (Err e) = refl

-- a text is empty if its length is 0
pub is_nothing : (text : List ℕ) → (length text == 0) ≡ true → text ≡ []
is_nothing [] e = refl
is_nothing (x ∷ xs) e = absurd (omega (arith, eqb-true (length (x ∷ xs)) 0 e))

pub is_something : (text : List ℕ) → (length text == 0) ≡ false → text ≢ []
is_something [] e none = absurd cc
is_something (x ∷ xs) e none = absurd cc

-- ---- texts

texts_go : (n : ℕ) (text : List ℕ) (b : Ahead) → Reading (List (List ℕ)) LineFault
texts_go n text b = elim text as (λ x. Reading (List (List ℕ)) LineFault) [ [] ↦ Ok ([], b) | ◌∷◌ c cs ↦ texts n b >>= λ more. Ok (text ∷ more.0, more.1) ]

texts_same : (n m : ℕ) (text : List ℕ) (b : Ahead) → texts n b ≡ texts m b → texts_go n text b ≡ texts_go m text b
unfolding texts_go
texts_same n m [] b e = refl
texts_same n m (c ∷ cs) b e = ap (λ (r : Reading (List (List ℕ)) LineFault). r >>= λ more. Ok ((c ∷ cs) ∷ more.0, more.1)) e

-- more than enough steps read the same
pub texts_enough : (n m : ℕ) (a : Ahead) → length a.bytes < n → length a.bytes < m → texts n a ≡ texts m a
unfolding texts texts_go
texts_enough zero m a lt more = absurd (omega arith)
texts_enough (suc n) zero a lt more = absurd (omega arith)
texts_enough (suc n) (suc m) a lt more =
    same_step (field (text_at a)) _ _
    (λ text e.
    let less = text_less a text.1 text.0 e in
    texts_same n m text.0 text.1 (texts_enough n m text.1 (omega arith) (omega arith)))

-- one more text
pub texts_next : (ds : List (List ℕ)) (text : List ℕ) (a b : Ahead) (total : Reading (List (List ℕ)) LineFault) → text ≢ [] → field (text_at a) ≡ Ok (text, b)
    → joined ds (texts (suc (length a.bytes)) a) ≡ total → joined (ds ++ text ∷ []) (texts (suc (length b.bytes)) b) ≡ total
unfolding texts
texts_next ds [] a b total some e so_far = absurd (some refl)
texts_next ds (c ∷ cs) a b total some e so_far =
    let less = text_less a b (c ∷ cs) e in
    let one : texts (suc (length a.bytes)) a ≡ (texts (suc (length b.bytes)) b >>= λ more. Ok ((c ∷ cs) ∷ more.0, more.1)) =
    rw e (ap (λ (r : Reading (List (List ℕ)) LineFault). r >>= λ more. Ok ((c ∷ cs) ∷ more.0, more.1)) (texts_enough (length a.bytes) (suc (length b.bytes)) b less (omega arith))) in
    joined_step ds (c ∷ cs) (texts (suc (length b.bytes)) b) ∙ ap (λ (r : Reading (List (List ℕ)) LineFault). joined ds r) (sym one) ∙ so_far

-- the empty one
pub texts_end : (ds : List (List ℕ)) (text : List ℕ) (a b : Ahead) (total : Reading (List (List ℕ)) LineFault) → text ≡ [] → field (text_at a) ≡ Ok (text, b)
    → joined ds (texts (suc (length a.bytes)) a) ≡ total → total ≡ Ok (ds, b)
unfolding texts
texts_end ds text a b total none e so_far =
    let one : texts (suc (length a.bytes)) a ≡ Ok ([], b) = rw (e, none) refl in
    sym so_far ∙ ap (λ (r : Reading (List (List ℕ)) LineFault). joined ds r) one ∙ ap (λ (xs : List (List ℕ)). Ok (xs, b)) (append-nil ds)

pub texts_fault : (ds : List (List ℕ)) (a : Ahead) (f : LineFault) (total : Reading (List (List ℕ)) LineFault) → field (text_at a) ≡ Err f
    → joined ds (texts (suc (length a.bytes)) a) ≡ total → total ≡ Err f
unfolding texts
texts_fault ds a f total e so_far =
    let one : texts (suc (length a.bytes)) a ≡ Err f = rw e refl in
    sym so_far ∙ ap (λ (r : Reading (List (List ℕ)) LineFault). joined ds r) one

-- ---- files

abbrev files_after : ℕ → List (List ℕ) → File × Ahead → Reading (List File) LineFault
files_after n directories first = files n directories first.1 >>= λ more. Ok (first.0 ∷ more.0, more.1)

files_go : (n : ℕ) (directories : List (List ℕ)) (name : List ℕ) (b : Ahead) → Reading (List File) LineFault
files_go n directories name b = elim name as (λ x. Reading (List File) LineFault) [ [] ↦ Ok ([], b) | ◌∷◌ c cs ↦ file_named directories name b >>= files_after n directories ]

files_same : (n m : ℕ) (directories : List (List ℕ)) (name : List ℕ) (b : Ahead) → ((c : Ahead) → IsLess b c → files n directories c ≡ files m directories c) → files_go n directories name b ≡ files_go m directories name b
unfolding files_go
files_same n m directories [] b same = refl
files_same n m directories (c ∷ cs) b same =
    same_step (file_named directories (c ∷ cs) b) _ _
    (λ first e. ap (λ (r : Reading (List File) LineFault). r >>= λ more. Ok (first.0 ∷ more.0, more.1)) (same first.1 (named_less directories (c ∷ cs) b first.1 first.0 e)))

pub files_enough : (n m : ℕ) (directories : List (List ℕ)) (a : Ahead) → length a.bytes < n → length a.bytes < m → files n directories a ≡ files m directories a
unfolding files files_go
files_enough zero m directories a lt more = absurd (omega arith)
files_enough (suc n) zero directories a lt more = absurd (omega arith)
files_enough (suc n) (suc m) directories a lt more =
    same_step (field (text_at a)) _ _
    (λ name e.
    let less = text_less a name.1 name.0 e in
    files_same n m directories name.0 name.1 (λ c then. files_enough n m directories c (omega arith) (omega arith)))

-- one more file
pub files_next : (directories : List (List ℕ)) (fs : List File) (name : List ℕ) (f : File) (a b c : Ahead) (total : Reading (List File) LineFault) → name ≢ [] → field (text_at a) ≡ Ok (name, b) → file_named directories name b ≡ Ok (f, c)
    → joined fs (files (suc (length a.bytes)) directories a) ≡ total → joined (fs ++ f ∷ []) (files (suc (length c.bytes)) directories c) ≡ total
unfolding files
files_next directories fs [] f a b c total some e g so_far = absurd (some refl)
files_next directories fs (t ∷ ts) f a b c total some e g so_far =
    let less = text_less a b (t ∷ ts) e in
    let then = named_less directories (t ∷ ts) b c f g in
    let one : files (suc (length a.bytes)) directories a ≡ (files (suc (length c.bytes)) directories c >>= λ more. Ok (f ∷ more.0, more.1)) =
    rw (e, g) (ap (λ (r : Reading (List File) LineFault). r >>= λ more. Ok (f ∷ more.0, more.1)) (files_enough (length a.bytes) (suc (length c.bytes)) directories c (omega arith) (omega arith))) in
    joined_step fs f (files (suc (length c.bytes)) directories c) ∙ ap (λ (r : Reading (List File) LineFault). joined fs r) (sym one) ∙ so_far

-- the empty name
pub files_end : (directories : List (List ℕ)) (fs : List File) (name : List ℕ) (a b : Ahead) (total : Reading (List File) LineFault) → name ≡ [] → field (text_at a) ≡ Ok (name, b)
    → joined fs (files (suc (length a.bytes)) directories a) ≡ total → total ≡ Ok (fs, b)
unfolding files
files_end directories fs name a b total none e so_far =
    let one : files (suc (length a.bytes)) directories a ≡ Ok ([], b) = rw (e, none) refl in
    sym so_far ∙ ap (λ (r : Reading (List File) LineFault). joined fs r) one ∙ ap (λ (xs : List File). Ok (xs, b)) (append-nil fs)

pub files_fault : (directories : List (List ℕ)) (fs : List File) (a : Ahead) (f : LineFault) (total : Reading (List File) LineFault) → field (text_at a) ≡ Err f
    → joined fs (files (suc (length a.bytes)) directories a) ≡ total → total ≡ Err f
unfolding files
files_fault directories fs a f total e so_far =
    let one : files (suc (length a.bytes)) directories a ≡ Err f = rw e refl in
    sym so_far ∙ ap (λ (r : Reading (List File) LineFault). joined fs r) one

pub named_fault : (directories : List (List ℕ)) (fs : List File) (name : List ℕ) (a b : Ahead) (f : LineFault) (total : Reading (List File) LineFault) → name ≢ [] → field (text_at a) ≡ Ok (name, b) → file_named directories name b ≡ Err f
    → joined fs (files (suc (length a.bytes)) directories a) ≡ total → total ≡ Err f
unfolding files
named_fault directories fs [] a b f total some e g so_far = absurd (some refl)
named_fault directories fs (t ∷ ts) a b f total some e g so_far =
    let one : files (suc (length a.bytes)) directories a ≡ Err f = rw (e, g) refl in
    sym so_far ∙ ap (λ (r : Reading (List File) LineFault). joined fs r) one

-- ---- opcodes of a program

-- more than enough steps read the same
pub program_enough : (n m : ℕ) (h : Header) (s : State) (place : ℕ) (bytes : List ℕ) → length bytes < n → length bytes < m → program n h s (record { place = place; bytes = bytes }) ≡ program m h s (record { place = place; bytes = bytes })
unfolding program
program_enough zero m h s place bytes lt more = absurd (omega arith)
program_enough (suc n) zero h s place bytes lt more = absurd (omega arith)
program_enough (suc n) (suc m) h s place [] lt more = refl
program_enough (suc n) (suc m) h s place (b ∷ bs) lt more =
    let a : Ahead = record { place = place; bytes = b ∷ bs } in
    same_step (operation h a) _ _
    (λ op e.
    let less = operation_less h a op.1 op.0 e in
    same_step (check (has_line h op.0 s) kinds.LineOut place (state_after h op.0 s)) _ _
    (λ next _. program_enough n m h next op.1.place op.1.bytes (omega arith) (omega arith)))

step_by : (h : Header) (s t : State) (place : ℕ) (bytes : List ℕ) (b : Ahead) (op : Operation) → 0 < length bytes → operation h (record { place = place; bytes = bytes }) ≡ Ok (op, b) → check (has_line h op s) kinds.LineOut place (state_after h op s) ≡ Ok t
    → program (suc (length bytes)) h s (record { place = place; bytes = bytes }) ≡ program (suc (length b.bytes)) h t b
unfolding program
step_by h s t place [] b op some read fine = absurd (omega arith)
step_by h s t place (x ∷ xs) b op some read fine =
    let less = operation_less h (record { place = place; bytes = x ∷ xs }) b op read in
    rw (read, fine) (program_enough (length (x ∷ xs)) (suc (length b.bytes)) h t b.place b.bytes less (omega arith))

-- one operation is done
pub program_next : (h : Header) (s t : State) (a b : Ahead) (op : Operation) (total : Result State LineFault) → 0 < length a.bytes → operation h a ≡ Ok (op, b) → check (has_line h op s) kinds.LineOut a.place (state_after h op s) ≡ Ok t
    → program (suc (length a.bytes)) h s a ≡ total → program (suc (length b.bytes)) h t b ≡ total
program_next h s t a b op total some read fine so_far = sym (step_by h s t a.place a.bytes b op some read fine) ∙ so_far

operation_fault_by : (h : Header) (s : State) (place : ℕ) (bytes : List ℕ) (f : LineFault) → 0 < length bytes → operation h (record { place = place; bytes = bytes }) ≡ Err f → program (suc (length bytes)) h s (record { place = place; bytes = bytes }) ≡ Err f
unfolding program
operation_fault_by h s place [] f some e = absurd (omega arith)
operation_fault_by h s place (x ∷ xs) f some e = rw e refl

pub operation_fault : (h : Header) (s : State) (a : Ahead) (f : LineFault) → 0 < length a.bytes → operation h a ≡ Err f → program (suc (length a.bytes)) h s a ≡ Err f
operation_fault h s a f some e = operation_fault_by h s a.place a.bytes f some e

line_fault_by : (h : Header) (s : State) (place : ℕ) (bytes : List ℕ) (b : Ahead) (op : Operation) (f : LineFault) → 0 < length bytes → operation h (record { place = place; bytes = bytes }) ≡ Ok (op, b) → check (has_line h op s) kinds.LineOut place (state_after h op s) ≡ Err f
    → program (suc (length bytes)) h s (record { place = place; bytes = bytes }) ≡ Err f
unfolding program
line_fault_by h s place [] b op f some read e = absurd (omega arith)
line_fault_by h s place (x ∷ xs) b op f some read e = rw (read, e) refl

pub line_fault : (h : Header) (s : State) (a b : Ahead) (op : Operation) (f : LineFault) → 0 < length a.bytes → operation h a ≡ Ok (op, b) → check (has_line h op s) kinds.LineOut a.place (state_after h op s) ≡ Err f → program (suc (length a.bytes)) h s a ≡ Err f
line_fault h s a b op f some read e = line_fault_by h s a.place a.bytes b op f some read e

program_end_by : (h : Header) (s : State) (place : ℕ) (bytes : List ℕ) → length bytes ≡ 0 → program (suc (length bytes)) h s (record { place = place; bytes = bytes }) ≡ check (not (is_open s.table.rows)) kinds.Unended place s
unfolding program
program_end_by h s place [] e = refl
program_end_by h s place (x ∷ xs) e = absurd (omega arith)

-- at the end no sequence may be open
pub program_end : (h : Header) (s : State) (a : Ahead) → length a.bytes ≡ 0 → program (suc (length a.bytes)) h s a ≡ check (not (is_open s.table.rows)) kinds.Unended a.place s
program_end h s a e = program_end_by h s a.place a.bytes e

pub program_open : (h : Header) (s : State) (a : Ahead) (total : Result State LineFault) → length a.bytes ≡ 0 → is_open s.table.rows ≡ true → program (suc (length a.bytes)) h s a ≡ total → finished_table total ≡ Err (fault kinds.Unended a.place)
program_open h s a total none open_ so_far =
    let end = sym so_far ∙ program_end h s a none in
    ap finished_table end ∙ ap (λ (b : Bool). finished_table (check (not b) kinds.Unended a.place s)) open_

pub program_closed : (h : Header) (s : State) (a : Ahead) (total : Result State LineFault) → length a.bytes ≡ 0 → is_open s.table.rows ≡ false → program (suc (length a.bytes)) h s a ≡ total → finished_table total ≡ Ok s.table
program_closed h s a total none closed so_far =
    let end = sym so_far ∙ program_end h s a none in
    ap finished_table end ∙ ap (λ (b : Bool). finished_table (check (not b) kinds.Unended a.place s)) closed

-- an operation that can't be done ends the program with its fault, or by running out of memory
pub apply_fault : (h : Header) (s : State) (a b : Ahead) (op : Operation) (e : Failure LineFault) (total : Result State LineFault) → 0 < length a.bytes → operation h a ≡ Ok (op, b) → Fails e (check (has_line h op s) kinds.LineOut a.place (state_after h op s))
    → program (suc (length a.bytes)) h s a ≡ total → Fails e (finished_table total)
apply_fault h s a b op errors.Memory total some read fails so_far = tt
apply_fault h s a b op (errors.Fault f) total some read fails so_far = ap finished_table (sym so_far ∙ line_fault h s a b op f some read fails)

-- ---- units

units_enough_by : (n m : ℕ) (strings : Strings) (t : Table) (place : ℕ) (bytes : List ℕ) → length bytes < n → length bytes < m → units n strings t (record { place = place; bytes = bytes }) ≡ units m strings t (record { place = place; bytes = bytes })
unfolding units
units_enough_by zero m strings t place bytes lt more = absurd (omega arith)
units_enough_by (suc n) zero strings t place bytes lt more = absurd (omega arith)
units_enough_by (suc n) (suc m) strings t place [] lt more = refl
units_enough_by (suc n) (suc m) strings t place (b ∷ bs) lt more =
    let a : Ahead = record { place = place; bytes = b ∷ bs } in
    same_step (unit strings t a) _ _
    (λ u e.
    let less = unit_less strings t u.0 a u.1 e in
    units_enough_by n m strings u.0 u.1.place u.1.bytes (omega arith) (omega arith))

units_by : (strings : Strings) (t u : Table) (place : ℕ) (bytes : List ℕ) (b : Ahead) → 0 < length bytes → unit strings t (record { place = place; bytes = bytes }) ≡ Ok (u, b)
    → units (suc (length bytes)) strings t (record { place = place; bytes = bytes }) ≡ units (suc (length b.bytes)) strings u b
unfolding units
units_by strings t u place [] b some e = absurd (omega arith)
units_by strings t u place (x ∷ xs) b some e =
    let less = unit_less strings t u (record { place = place; bytes = x ∷ xs }) b e in
    rw e (units_enough_by (length (x ∷ xs)) (suc (length b.bytes)) strings u b.place b.bytes less (omega arith))

-- one more unit
pub units_next : (strings : Strings) (t u : Table) (a b : Ahead) (total : Result Table LineFault) → 0 < length a.bytes → unit strings t a ≡ Ok (u, b) → units (suc (length a.bytes)) strings t a ≡ total → units (suc (length b.bytes)) strings u b ≡ total
units_next strings t u a b total some e so_far = sym (units_by strings t u a.place a.bytes b some e) ∙ so_far

units_fault_by : (strings : Strings) (t : Table) (place : ℕ) (bytes : List ℕ) (f : LineFault) → 0 < length bytes → unit strings t (record { place = place; bytes = bytes }) ≡ Err f → units (suc (length bytes)) strings t (record { place = place; bytes = bytes }) ≡ Err f
unfolding units
units_fault_by strings t place [] f some e = absurd (omega arith)
units_fault_by strings t place (x ∷ xs) f some e = rw e refl

pub units_fault : (strings : Strings) (t : Table) (a : Ahead) (f : LineFault) → 0 < length a.bytes → unit strings t a ≡ Err f → units (suc (length a.bytes)) strings t a ≡ Err f
units_fault strings t a f some e = units_fault_by strings t a.place a.bytes f some e

units_end_by : (strings : Strings) (t : Table) (place : ℕ) (bytes : List ℕ) → length bytes ≡ 0 → units (suc (length bytes)) strings t (record { place = place; bytes = bytes }) ≡ Ok t
unfolding units
units_end_by strings t place [] e = refl
units_end_by strings t place (x ∷ xs) e = absurd (omega arith)

pub units_end : (strings : Strings) (t : Table) (a : Ahead) → length a.bytes ≡ 0 → units (suc (length a.bytes)) strings t a ≡ Ok t
units_end strings t a e = units_end_by strings t a.place a.bytes e
