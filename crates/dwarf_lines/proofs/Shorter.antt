-- What each field leaves ahead is shorter.
use Rattle.std.proofs.Common.{◌≡◌, ℕ, zero, suc, ◌+◌, ◌^◌, ◌<◌, ◌≤◌, Bool, true, false, cond, nat_lt, nat_le, List, [], ◌∷◌, length, get_or, take, Option, Some, None, option_map, position, Result, Ok, Err, ℤ, ◌==◌, refl, ap, subst, arith}
use Rattle.std.specs.Int.{Width, w8, w16, w32, byte_len, from_le_bytes}
use Rattle.std.proofs.lemmas.Bool.{leb-true}
use Rattle.std.proofs.lemmas.List.{length-drop, length-take-le}
use Rattle.leb_cursor.specs.declared.Short.{Short}
use Rattle.leb_cursor.specs.declared.LebFault.{LebFault}
use Rattle.leb_cursor.specs.declared.LebFault.TheVariants as leb
use Rattle.leb_cursor.specs.Ahead.{Ahead, Reading, ◌>>=◌, ahead_past, short_at, up_to, in_range, number_at, bytes_at, part_at, text_at, uleb_at, sleb_at, fits_64_signed}
use Rattle.leb_cursor.specs.Numbers.{low_bits, signed_low_bits}
use Rattle.leb_cursor.proofs.Exact.{bind_is}
use Rattle.dwarf_lines.specs.declared.LineFault.{LineFault}
use Rattle.dwarf_lines.specs.declared.LineKind.TheVariants as kinds
use Rattle.dwarf_lines.specs.Registers.{File, Table, Header, Operation, Special, Copy, AdvancePc, SetFile, SetColumn, NegateStmt, ConstAddPc, FixedAdvancePc, AdvanceLine, Pass}
use Rattle.dwarf_lines.specs.Names.{Strings}
use Rattle.dwarf_lines.specs.Reading.{fault, field, leb_field, check, byte, half_field, word, unsigned_field, announced_bytes, ahead_of_numbers, texts, file_named, files, with_none, with_unsigned, with_signed, with_half, operation_passed, standard, body, extended_at, below_base, operation, is_read, unit_body, unit}
use Rattle.dwarf_lines.proofs.Programs.{bind_ok, wanted_ok}
use Rattle.dwarf_lines.proofs.Headers.{field_ok}
use Rattle.dwarf_lines.proofs.Opcodes.{leb_ok}

-- fewer bytes are ahead, or as many
abbrev pub IsLess : Ahead → Ahead → Type 0
IsLess a b = length b.bytes < length a.bytes

abbrev pub IsMost : Ahead → Ahead → Type 0
IsMost a b = length b.bytes ≤ length a.bytes

least : (a b c : Ahead) → IsLess a b → IsMost b c → IsLess a c
least a b c first then = omega arith

most : (a b c : Ahead) → IsMost a b → IsMost b c → IsMost a c
most a b c first then = omega arith

at_most : (a b : Ahead) → IsLess a b → IsMost a b
at_most a b less = omega arith

-- ---- fields of the cursor

pub ok_is : {A E : Type 0} (x y : A) → (let done : A → Result A E = λ z. Ok z in done x ≡ done y) → x ≡ y
ok_is x y e = cc

pub made_is : (x y : Ahead) → (let done : Ahead → Result Ahead LineFault = λ z. Ok z in done x ≡ done y) → x ≡ y
made_is x y e = cc

pub second : {X E : Type 0} (x y : X) (a b : Ahead) → (let done : X × Ahead → Result (X × Ahead) E = λ z. Ok z in done (x, a) ≡ done (y, b)) → a ≡ b
second x y a b e = ap (λ (r : Result (_ × Ahead) _). elim r as (λ z. Ahead) [ Ok p ↦ p.1 | Err d ↦ a ]) e

bytes_by : (fits : Bool) (n : ℕ) (a b : Ahead) (x : List ℕ) → nat_le n (length a.bytes) ≡ fits → cond {A = Reading (List ℕ) Short} fits (Ok (take n a.bytes, ahead_past n a)) (Err (short_at a)) ≡ Ok (x, b) → length b.bytes + n ≡ length a.bytes
bytes_by true n a b x is e =
    let same : ahead_past n a ≡ b = second (take n a.bytes) x (ahead_past n a) b e in
    let room = leb-true n (length a.bytes) is in
    subst (λ (c : Ahead). length c.bytes + n ≡ length a.bytes) same (omega (arith, length-drop n a.bytes, room))
bytes_by false n a b x is e = absurd cc

pub bytes_left : (n : ℕ) (a b : Ahead) (x : List ℕ) → bytes_at n a ≡ Ok (x, b) → length b.bytes + n ≡ length a.bytes
bytes_left n a b x e = bytes_by (nat_le n (length a.bytes)) n a b x refl e

-- of a number of fixed width
pub number_left : (w : Width) (a b : Ahead) (n : ℕ) → field (number_at w a) ≡ Ok (n, b) → length b.bytes + byte_len w ≡ length a.bytes
number_left w a b n e =
    let x = bind_is (bytes_at (byte_len w) a) _ (n, b) (field_ok (number_at w a) (n, b) e) in
    subst (λ (c : Ahead). length c.bytes + byte_len w ≡ length a.bytes) (second (from_le_bytes w x.0.0) n x.0.1 b x.2) (bytes_left (byte_len w) a x.0.1 x.0.0 x.1)

pub byte_left : (a b : Ahead) (n : ℕ) → byte a ≡ Ok (n, b) → length b.bytes + 1 ≡ length a.bytes
byte_left = number_left w8

part_by : (fits : Bool) (n : ℕ) (a p b : Ahead) → nat_le n (length a.bytes) ≡ fits → cond {A = Reading Ahead Short} fits (Ok (record { place = a.place; bytes = take n a.bytes }, ahead_past n a)) (Err (short_at a)) ≡ Ok (p, b) → (length p.bytes ≡ n) × (length b.bytes + n ≡ length a.bytes)
part_by true n a p b is e =
    let inside : Ahead = record { place = a.place; bytes = take n a.bytes } in
    let both = ok_is (inside, ahead_past n a) (p, b) e in
    let room = leb-true n (length a.bytes) is in
    subst (λ (y : Ahead × Ahead). (length y.0.bytes ≡ n) × (length y.1.bytes + n ≡ length a.bytes)) both (length-take-le n a.bytes room, omega (arith, length-drop n a.bytes, room))
part_by false n a p b is e = absurd cc

-- of a part, and what follows it
pub part_left : (n : ℕ) (a p b : Ahead) → field (part_at n a) ≡ Ok (p, b) → (length p.bytes ≡ n) × (length b.bytes + n ≡ length a.bytes)
part_left n a p b e = part_by (nat_le n (length a.bytes)) n a p b refl (field_ok (part_at n a) (p, b) e)

past_less : (k x : ℕ) (xs : List ℕ) (a : Ahead) → a.bytes ≡ x ∷ xs → IsLess a (ahead_past (suc k) a)
past_less k x xs a e = omega (arith, length-drop (suc k) a.bytes, ap (λ (z : List ℕ). length z) e)

text_by : (o : Option ℕ) (a b : Ahead) (x : ℕ) (xs t : List ℕ) → a.bytes ≡ x ∷ xs → up_to {X = Reading (List ℕ) Short} o a (λ k. Ok (take k a.bytes, ahead_past (suc k) a)) (Err (short_at a)) ≡ Ok (t, b) → IsLess a b
text_by None a b x xs t some e = absurd cc
text_by (Some k) a b x xs t some e = subst (IsLess a) (second (take k a.bytes) t (ahead_past (suc k) a) b e) (past_less k x xs a some)

text_of : (place : ℕ) (bytes t : List ℕ) (b : Ahead) → text_at (record { place = place; bytes = bytes }) ≡ Ok (t, b) → IsLess (record { place = place; bytes = bytes }) b
text_of place [] t b e = absurd cc
text_of place (x ∷ xs) t b e = text_by (position (λ b. b == 0) (x ∷ xs)) (record { place = place; bytes = x ∷ xs }) b x xs t refl e

pub text_less : (a b : Ahead) (t : List ℕ) → field (text_at a) ≡ Ok (t, b) → IsLess a b
text_less a b t e = text_of a.place a.bytes t b (field_ok (text_at a) (t, b) e)

ranged : {X : Type 0} (fits : Bool) (value x : X) (k : ℕ) (a b : Ahead) → in_range fits value k a ≡ Ok (x, b) → ahead_past k a ≡ b
ranged true value x k a b e = second value x (ahead_past k a) b e
ranged false value x k a b e = absurd cc

leb_by : {X : Type 0} (value : ℕ → X) (fits : ℕ → Bool) (o : Option ℕ) (a b : Ahead) (y : ℕ) (ys : List ℕ) (x : X) → a.bytes ≡ y ∷ ys
    → up_to {X = Reading X LebFault} (option_map suc o) a (λ k. in_range (fits k) (value k) k a) (Err (leb.Short (short_at a))) ≡ Ok (x, b) → IsLess a b
leb_by value fits None a b y ys x some e = absurd cc
leb_by value fits (Some k) a b y ys x some e = subst (IsLess a) (ranged (fits (suc k)) (value (suc k)) x (suc k) a b e) (past_less k y ys a some)

uleb_of : (place : ℕ) (bytes : List ℕ) (n : ℕ) (b : Ahead) → uleb_at (record { place = place; bytes = bytes }) ≡ Ok (n, b) → IsLess (record { place = place; bytes = bytes }) b
uleb_of place [] n b e = absurd cc
uleb_of place (y ∷ ys) n b e = leb_by (λ k. low_bits (take k (y ∷ ys))) (λ k. nat_lt (low_bits (take k (y ∷ ys))) (2 ^ 64)) (position (λ b. nat_lt b 128) (y ∷ ys)) (record { place = place; bytes = y ∷ ys }) b y ys n refl e

pub unsigned_less : (a b : Ahead) (n : ℕ) → unsigned_field a ≡ Ok (n, b) → IsLess a b
unsigned_less a b n e = uleb_of a.place a.bytes n b (leb_ok (uleb_at a) (n, b) e)

sleb_of : (place : ℕ) (bytes : List ℕ) (z : ℤ) (b : Ahead) → sleb_at (record { place = place; bytes = bytes }) ≡ Ok (z, b) → IsLess (record { place = place; bytes = bytes }) b
sleb_of place [] z b e = absurd cc
sleb_of place (y ∷ ys) z b e = leb_by (λ k. signed_low_bits (take k (y ∷ ys))) (λ k. fits_64_signed (signed_low_bits (take k (y ∷ ys)))) (position (λ b. nat_lt b 128) (y ∷ ys)) (record { place = place; bytes = y ∷ ys }) b y ys z refl e

signed_less : (a b : Ahead) (z : ℤ) → leb_field (sleb_at a) ≡ Ok (z, b) → IsLess a b
signed_less a b z e = sleb_of a.place a.bytes z b (leb_ok (sleb_at a) (z, b) e)

announced_by : (fine : Bool) (place n : ℕ) (a : Ahead) (x : Ahead × Ahead) → cond {A = Reading Ahead LineFault} fine (field (part_at n a)) (Err (fault kinds.Short place)) ≡ Ok x → field (part_at n a) ≡ Ok x
announced_by true place n a x e = e
announced_by false place n a x e = absurd cc

pub announced_left : (place n : ℕ) (a p b : Ahead) → announced_bytes place n a ≡ Ok (p, b) → (length p.bytes ≡ n) × (length b.bytes + n ≡ length a.bytes)
announced_left place n a p b e = part_left n a p b (announced_by (nat_le n (length a.bytes)) place n a (p, b) e)

-- ---- files

pub named_less : (directories : List (List ℕ)) (name : List ℕ) (a b : Ahead) (f : File) → file_named directories name a ≡ Ok (f, b) → IsLess a b
named_less directories name a b f e =
    let n = bind_ok (unsigned_field a) _ (f, b) e in
    let t = bind_ok (unsigned_field n.0.1) _ (f, b) n.2 in
    let z = bind_ok (unsigned_field t.0.1) _ (f, b) t.2 in
    let first = unsigned_less a n.0.1 n.0.0 n.1 in
    let next = unsigned_less n.0.1 t.0.1 t.0.0 t.1 in
    let last = unsigned_less t.0.1 z.0.1 z.0.0 z.1 in
    subst (IsLess a) (second _ f z.0.1 b z.2) (least a n.0.1 z.0.1 first (most n.0.1 t.0.1 z.0.1 (at_most n.0.1 t.0.1 next) (at_most t.0.1 z.0.1 last)))

text_go : (n : ℕ) (text : List ℕ) (a b : Ahead) (ts : List (List ℕ)) → ((c : Ahead) (us : List (List ℕ)) → texts n a ≡ Ok (us, c) → IsMost a c)
    → (elim text as (λ x. Reading (List (List ℕ)) LineFault) [ [] ↦ Ok ([], a) | ◌∷◌ c cs ↦ texts n a >>= λ more. Ok (text ∷ more.0, more.1) ]) ≡ Ok (ts, b) → IsMost a b
text_go n [] a b ts again e = subst (IsMost a) (second [] ts a b e) (omega arith)
text_go n (c ∷ cs) a b ts again e =
    let x = bind_ok (texts n a) (λ more. Ok ((c ∷ cs) ∷ more.0, more.1)) (ts, b) e in
    subst (IsMost a) (second ((c ∷ cs) ∷ x.0.0) ts x.0.1 b x.2) (again x.0.1 x.0.0 x.1)

pub texts_most : (n : ℕ) (a b : Ahead) (ts : List (List ℕ)) → texts n a ≡ Ok (ts, b) → IsMost a b
unfolding texts
texts_most zero a b ts e = subst (IsMost a) (second [] ts a b e) (omega arith)
texts_most (suc n) a b ts e =
    let x = bind_ok (field (text_at a)) _ (ts, b) e in
    most a x.0.1 b (at_most a x.0.1 (text_less a x.0.1 x.0.0 x.1)) (text_go n x.0.0 x.0.1 b ts (λ c us f. texts_most n x.0.1 c us f) x.2)

-- each file takes a byte or more
abbrev pub AreFew : List File → Ahead → Ahead → Type 0
AreFew fs a b = length fs + length b.bytes ≤ length a.bytes

few_is : (fs gs : List File) (a b c : Ahead) → (let done : List File × Ahead → Reading (List File) LineFault = λ z. Ok z in done (fs, b) ≡ done (gs, c)) → AreFew fs a b → AreFew gs a c
few_is fs gs a b c e few = let both = ok_is (fs, b) (gs, c) e in subst (λ (y : List File × Ahead). AreFew y.0 a y.1) both few

files_go : (n : ℕ) (directories : List (List ℕ)) (name : List ℕ) (a b : Ahead) (fs : List File) → ((c d : Ahead) (gs : List File) → files n directories c ≡ Ok (gs, d) → AreFew gs c d)
    → (elim name as (λ x. Reading (List File) LineFault) [ [] ↦ Ok ([], a) | ◌∷◌ c cs ↦ file_named directories name a >>= λ first. files n directories first.1 >>= λ more. Ok (first.0 ∷ more.0, more.1) ]) ≡ Ok (fs, b) → AreFew fs a b
files_go n directories [] a b fs again e = few_is [] fs a a b e (omega arith)
files_go n directories (t ∷ ts) a b fs again e =
    let f = bind_ok (file_named directories (t ∷ ts) a) _ (fs, b) e in
    let x = bind_ok (files n directories f.0.1) (λ more. Ok (f.0.0 ∷ more.0, more.1)) (fs, b) f.2 in
    let less = named_less directories (t ∷ ts) a f.0.1 f.0.0 f.1 in
    let few = again f.0.1 x.0.1 x.0.0 x.1 in
    few_is (f.0.0 ∷ x.0.0) fs a x.0.1 b x.2 (omega arith)

pub files_few : (n : ℕ) (directories : List (List ℕ)) (a b : Ahead) (fs : List File) → files n directories a ≡ Ok (fs, b) → AreFew fs a b
unfolding files
files_few zero directories a b fs e = few_is [] fs a a b e (omega arith)
files_few (suc n) directories a b fs e =
    let x = bind_ok (field (text_at a)) _ (fs, b) e in
    let less = text_less a x.0.1 x.0.0 x.1 in
    let few = files_go n directories x.0.0 x.0.1 b fs (λ c d gs f. files_few n directories c d gs f) x.2 in
    omega arith

-- ---- opcodes

pass_most : (n : ℕ) (a b : Ahead) → ahead_of_numbers n a ≡ Ok b → IsMost a b
unfolding ahead_of_numbers
pass_most zero a b e = let same : a ≡ b = made_is a b e in subst (IsMost a) same (omega arith)
pass_most (suc n) a b e =
    let x = bind_ok (unsigned_field a) (λ x. ahead_of_numbers n x.1) b e in
    most a x.0.1 b (at_most a x.0.1 (unsigned_less a x.0.1 x.0.0 x.1)) (pass_most n x.0.1 b x.2)

none_most : (made op : Operation) (a b : Ahead) → with_none made a ≡ Ok (op, b) → IsMost a b
none_most made op a b e = subst (IsMost a) (second made op a b e) (omega arith)

unsigned_most : (made : ℕ → Operation) (op : Operation) (a b : Ahead) → with_unsigned made a ≡ Ok (op, b) → IsMost a b
unsigned_most made op a b e =
    let x = bind_ok (unsigned_field a) (λ n. Ok (made n.0, n.1)) (op, b) e in
    subst (IsMost a) (second (made x.0.0) op x.0.1 b x.2) (at_most a x.0.1 (unsigned_less a x.0.1 x.0.0 x.1))

signed_most : (made : ℤ → Operation) (op : Operation) (a b : Ahead) → with_signed made a ≡ Ok (op, b) → IsMost a b
signed_most made op a b e =
    let x = bind_ok (leb_field (sleb_at a)) (λ z. Ok (made z.0, z.1)) (op, b) e in
    subst (IsMost a) (second (made x.0.0) op x.0.1 b x.2) (at_most a x.0.1 (signed_less a x.0.1 x.0.0 x.1))

half_most : (made : ℕ → Operation) (op : Operation) (a b : Ahead) → with_half made a ≡ Ok (op, b) → IsMost a b
half_most made op a b e =
    let x = bind_ok (half_field a) (λ n. Ok (made n.0, n.1)) (op, b) e in
    subst (IsMost a) (second (made x.0.0) op x.0.1 b x.2) (omega (arith, number_left w16 a x.0.1 x.0.0 x.1))

passing_most : (n : ℕ) (op : Operation) (a b : Ahead) → operation_passed n a ≡ Ok (op, b) → IsMost a b
passing_most n op a b e =
    let x = bind_ok (ahead_of_numbers n a) (λ rest. Ok (Pass, rest)) (op, b) e in
    subst (IsMost a) (second Pass op x.0 b x.2) (pass_most n a x.0 x.1)

standard_most : (n k : ℕ) (op : Operation) (a b : Ahead) → get_or standard k (operation_passed n) a ≡ Ok (op, b) → IsMost a b
standard_most n zero op a b e = none_most Copy op a b e
standard_most n (suc zero) op a b e = unsigned_most AdvancePc op a b e
standard_most n (suc (suc zero)) op a b e = signed_most AdvanceLine op a b e
standard_most n (suc (suc (suc zero))) op a b e = unsigned_most SetFile op a b e
standard_most n (suc (suc (suc (suc zero)))) op a b e = unsigned_most SetColumn op a b e
standard_most n (suc (suc (suc (suc (suc zero))))) op a b e = none_most NegateStmt op a b e
standard_most n (suc (suc (suc (suc (suc (suc zero)))))) op a b e = none_most Pass op a b e
standard_most n (suc (suc (suc (suc (suc (suc (suc zero))))))) op a b e = none_most ConstAddPc op a b e
standard_most n (suc (suc (suc (suc (suc (suc (suc (suc zero)))))))) op a b e = half_most FixedAdvancePc op a b e
standard_most n (suc (suc (suc (suc (suc (suc (suc (suc (suc zero))))))))) op a b e = none_most Pass op a b e
standard_most n (suc (suc (suc (suc (suc (suc (suc (suc (suc (suc zero)))))))))) op a b e = none_most Pass op a b e
standard_most n (suc (suc (suc (suc (suc (suc (suc (suc (suc (suc (suc zero))))))))))) op a b e = passing_most 1 op a b e
standard_most n (suc (suc (suc (suc (suc (suc (suc (suc (suc (suc (suc (suc k)))))))))))) op a b e = passing_most n op a b e

extended_most : (h : Header) (place : ℕ) (op : Operation) (a b : Ahead) → extended_at h place a ≡ Ok (op, b) → IsMost a b
extended_most h place op a b e =
    let size = bind_ok (unsigned_field a) _ (op, b) e in
    let inside = bind_ok (field (part_at size.0.0 size.0.1)) _ (op, b) size.2 in
    let made = bind_ok (body h place inside.0.0) _ (op, b) inside.2 in
    let first = unsigned_less a size.0.1 size.0.0 size.1 in
    let next = part_left size.0.0 size.0.1 inside.0.0 inside.0.1 inside.1 in
    subst (IsMost a) (second made.0 op inside.0.1 b made.2) (omega (arith, first, next.1))

below_most : (h : Header) (place k : ℕ) (op : Operation) (a b : Ahead) → below_base h place k a ≡ Ok (op, b) → IsMost a b
below_most h place zero op a b e = extended_most h place op a b e
below_most h place (suc k) op a b e = standard_most (get_or h.lengths k 0) k op a b e

operation_by : (h : Header) (below : Bool) (place o : ℕ) (op : Operation) (a b : Ahead) → (elim below as (λ x. Reading Operation LineFault) [ true ↦ below_base h place o a | false ↦ Ok (Special o, a) ]) ≡ Ok (op, b) → IsMost a b
operation_by h true place o op a b e = below_most h place o op a b e
operation_by h false place o op a b e = subst (IsMost a) (second (Special o) op a b e) (omega arith)

pub operation_less : (h : Header) (a b : Ahead) (op : Operation) → operation h a ≡ Ok (op, b) → IsLess a b
unfolding operation
operation_less h a b op e =
    let o = bind_ok (byte a) _ (op, b) e in
    let first = byte_left a o.0.1 o.0.0 o.1 in
    let then = operation_by h (nat_lt o.0.0 h.opcode_base) a.place o.0.0 op o.0.1 b o.2 in
    omega (arith, first, then)

-- ---- units

pub unit_less : (strings : Strings) (t u : Table) (a b : Ahead) → unit strings t a ≡ Ok (u, b) → IsLess a b
unfolding unit
unit_less strings t u a b e =
    let size = bind_ok (word a) _ (u, b) e in
    let long = bind_ok (check (nat_lt size.0.0 0xFFFFFFF0) kinds.LongForm a.place size.0) _ (u, b) size.2 in
    let inside = bind_ok (announced_bytes a.place long.0.0 long.0.1) _ (u, b) long.2 in
    let version = bind_ok (half_field inside.0.0) _ (u, b) inside.2 in
    let made = bind_ok (elim (is_read version.0.0) as (λ x. Result Table LineFault) [ true ↦ unit_body version.0.0 strings t version.0.1 | false ↦ Ok (record t { skipped = t.skipped + 1 }) ]) _ (u, b) version.2 in
    let first = number_left w32 a size.0.1 size.0.0 size.1 in
    let fine = wanted_ok (nat_lt size.0.0 0xFFFFFFF0) kinds.LongForm a.place size.0 long.0 long.1 in
    let next = announced_left a.place long.0.0 long.0.1 inside.0.0 inside.0.1 inside.1 in
    let moved : size.0.1 ≡ long.0.1 = ap (λ (z : ℕ × Ahead). z.1) fine.1 in
    let kept : length size.0.1.bytes ≡ length long.0.1.bytes = ap (λ (z : Ahead). length z.bytes) moved in
    subst (IsLess a) (second made.0 u inside.0.1 b made.2) (omega (arith, first, next.1, kept))
