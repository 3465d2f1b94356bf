-- What is spelled so is read again, whatever follows.
use Rattle.std.proofs.Common.{◌≡◌, ◌≢◌, ℕ, zero, suc, ◌+◌, ◌-◌, ◌^◌, ◌<◌, ◌≤◌, inl, inr, Bool, true, false, nat_lt, ◌==◌, List, [], ◌∷◌, ◌++◌, length, get_or, Result, Ok, refl, sym, ap, subst, ◌∙◌, arith, append_assoc}
use Rattle.std.specs.List.{concat}
use Rattle.std.specs.Int.{w16, w64, to_le_bytes}
use Rattle.std.proofs.lemmas.Bool.{lt-ltb, le-ltb, ne_eqb}
use Rattle.std.proofs.lemmas.List.{length-append}
use Rattle.std.proofs.lemmas.Nat.{from_le_bytes-to_le_bytes_8}
use Rattle.leb_cursor.specs.Ahead.{Ahead, Reading, ◌>>=◌}
use Rattle.leb_cursor.proofs.Exact.{ahead, uleb_again}
use Rattle.leb_cursor.proofs.Again.{byte_again, half_again, part_again, text_again, sleb_again}
use Rattle.dwarf_lines.specs.declared.LineFault.{LineFault}
use Rattle.dwarf_lines.specs.Registers.{File, Header, State, is_open, directory, Operation, Copy, AdvancePc, AdvanceLine, SetFile, SetColumn, NegateStmt, ConstAddPc, FixedAdvancePc, Special, EndSequence, SetAddress, DefineFile, Pass}
use Rattle.dwarf_lines.specs.Spelling.{IsUleb, IsSleb, AreUlebs, SpellsAll, SpellsFile, SpellsStandard, SpellsExtended, IsNothing, IsPassed, Spells, Goes}
use Rattle.dwarf_lines.specs.Reading.{field, leb_field, byte, half_field, unsigned_field, ahead_of_numbers, operation_passed, file, body, below_base, operation, program, with_half}
use Rattle.dwarf_lines.proofs.Programs.{program_again}
use Rattle.dwarf_lines.proofs.Units.{begins}

-- the same bytes at the same place
abbrev Reads : {A : Type 0} → Result (A × Ahead) LineFault → A → ℕ → List ℕ → Type 0
Reads r x place rest = r ≡ Ok (x, ahead place rest)

moved : {A : Type 0} (r : Result (A × Ahead) LineFault) (x : A) (p q : ℕ) (rest : List ℕ) → p ≡ q → Reads r x p rest → Reads r x q rest
moved r x p q rest e is = subst (λ (n : ℕ). Reads r x n rest) e is

pub unsigned_back : (n place : ℕ) (code rest : List ℕ) → IsUleb n code → unsigned_field (ahead place (code ++ rest)) ≡ Ok (n, ahead (place + length code) rest)
unsigned_back n place code rest is = ap leb_field (uleb_again n place code rest is)

pass_back : (ns : List ℕ) (place : ℕ) (code rest : List ℕ) → SpellsAll IsUleb ns code → ahead_of_numbers (length ns) (ahead place (code ++ rest)) ≡ Ok (ahead (place + length code) rest)
unfolding ahead_of_numbers
pass_back [] place code rest is = let same : place + 0 ≡ place = omega arith in rw (is, same) refl
pass_back (n ∷ ns) place code rest is =
    let front = is.0 in
    let others = is.1 in
    let parts : code ++ rest ≡ front ++ (others ++ rest) = ap (λ (z : List ℕ). z ++ rest) is.2 ∙ append_assoc front others rest in
    let sum : place + length front + length others ≡ place + length code = omega (arith, ap (λ (z : List ℕ). length z) is.2, length-append front others) in
    rw (parts, unsigned_back n place front (others ++ rest) is.3) (pass_back ns (place + length front) others rest is.4 ∙ ap (λ (p : ℕ). Ok (ahead p rest)) sum)

passing_back : (count place : ℕ) (code rest : List ℕ) → AreUlebs count code → operation_passed count (ahead place (code ++ rest)) ≡ Ok (Pass, ahead (place + length code) rest)
passing_back count place code rest is =
    let run : ahead_of_numbers count (ahead place (code ++ rest)) ≡ Ok (ahead (place + length code) rest) = subst (λ (n : ℕ). ahead_of_numbers n (ahead place (code ++ rest)) ≡ Ok (ahead (place + length code) rest)) is.1 (pass_back is.0 place code rest is.2) in
    rw run refl

file_back : (directories : List (List ℕ)) (f : File) (place : ℕ) (code rest : List ℕ) → SpellsFile directories f code → file directories (ahead place (code ++ rest)) ≡ Ok (f, ahead (place + length code) rest)
file_back directories f place code rest (name, number, time, size, n, t, z, whole, text, is-n, is-t, is-z, known) =
    let parts : code ++ rest ≡ (f.name ++ 0 ∷ []) ++ (number ++ (time ++ (size ++ rest))) =
    ap (λ (x : List ℕ). x ++ rest) (whole ∙ ap (λ (x : List ℕ). x ++ (number ++ (time ++ size))) text.1)
    ∙ append_assoc (f.name ++ 0 ∷ []) (number ++ (time ++ size)) rest
    ∙ ap (λ (x : List ℕ). (f.name ++ 0 ∷ []) ++ x) (append_assoc number (time ++ size) rest ∙ ap (λ (x : List ℕ). number ++ x) (append_assoc time size rest)) in
    let sum : place + suc (length f.name) + length number + length time + length size ≡ place + length code =
    omega (arith, ap (λ (x : List ℕ). length x) whole, ap (λ (x : List ℕ). length x) text.1, length-append name (number ++ (time ++ size)), length-append number (time ++ size), length-append time size, length-append f.name (0 ∷ [])) in
    let made : File = record { directory = directory directories n; name = f.name } in
    let same : made ≡ f = ap (λ (d : List ℕ). record { directory = d; name = f.name }) (sym known) in
    rw (
      parts,
      text_again place f.name (number ++ (time ++ (size ++ rest))) text.0,
      unsigned_back n (place + suc (length f.name)) number (time ++ (size ++ rest)) is-n,
      unsigned_back t (place + suc (length f.name) + length number) time (size ++ rest) is-t,
      unsigned_back z (place + suc (length f.name) + length number + length time) size rest is-z,
    )
    (ap (λ (g : File). Ok (g, ahead (place + suc (length f.name) + length number + length time + length size) rest)) same ∙ ap (λ (p : ℕ). Ok (f, ahead p rest)) sum)

-- an opcode below opcode_base, from what its operands read as
pub bind_to : {A B : Type 0} (r : Result A LineFault) (f : A → Result B LineFault) (x : A) → r ≡ Ok x → (r >>= f) ≡ f x
bind_to r f x e = ap (λ z. z >>= f) e

-- the rest of an operation's reading, after its opcode
abbrev after_opcode : Header → ℕ → ℕ × Ahead → Reading Operation LineFault
after_opcode h place o = elim (nat_lt o.0 h.opcode_base) [ true ↦ below_base h place o.0 o.1 | false ↦ Ok (Special o.0, o.1) ]

below_by : (h : Header) (place o : ℕ) (a : Ahead) → o < h.opcode_base → after_opcode h place (o, a) ≡ below_base h place o a
below_by h place o a below = ap (λ (b : Bool). elim b as (λ x. Reading Operation LineFault) [ true ↦ below_base h place o a | false ↦ Ok (Special o, a) ]) (lt-ltb o h.opcode_base below)

special_by : (h : Header) (place o : ℕ) (a : Ahead) → h.opcode_base ≤ o → after_opcode h place (o, a) ≡ Ok (Special o, a)
special_by h place o a high = ap (λ (b : Bool). elim b as (λ x. Reading Operation LineFault) [ true ↦ below_base h place o a | false ↦ Ok (Special o, a) ]) (le-ltb o h.opcode_base high)

opcode_read : (h : Header) (o place : ℕ) (rest : List ℕ) → operation h (ahead place (o ∷ rest)) ≡ after_opcode h place (o, ahead (place + 1) rest)
unfolding operation
opcode_read h o place rest = bind_to (byte (ahead place (o ∷ rest))) (after_opcode h place) (o, ahead (place + 1) rest) (ap field (byte_again o place rest))

standard_back : (h : Header) (op : Operation) (o place : ℕ) (code rest operands : List ℕ) → code ≡ o ∷ operands → o < h.opcode_base
    → Reads (below_base h place o (ahead (place + 1) (operands ++ rest))) op (place + 1 + length operands) rest → Reads (operation h (ahead place (code ++ rest))) op (place + length code) rest
standard_back h op o place code rest operands whole below is =
    let sum : place + 1 + length operands ≡ place + length code = omega (arith, ap (λ (x : List ℕ). length x) whole) in
    let parts : code ++ rest ≡ o ∷ (operands ++ rest) = ap (λ (x : List ℕ). x ++ rest) whole in
    ap (λ (x : List ℕ). operation h (ahead place x)) parts ∙ opcode_read h o place (operands ++ rest) ∙ below_by h place o (ahead (place + 1) (operands ++ rest)) below ∙ moved _ op _ _ rest sum is

nothing_back : (op : Operation) (place : ℕ) (operands rest : List ℕ) → operands ≡ [] → Reads (Ok (op, ahead (place + 1) (operands ++ rest))) op (place + 1 + length operands) rest
nothing_back op place operands rest e =
    let sum : place + 1 ≡ place + 1 + length operands = omega (arith, ap (λ (x : List ℕ). length x) e) in
    moved (Ok (op, ahead (place + 1) (operands ++ rest))) op (place + 1) (place + 1 + length operands) rest sum (ap (λ (x : List ℕ). Ok (op, ahead (place + 1) (x ++ rest))) e)

-- an extended opcode, from what its body reads as
extended_back : (h : Header) (op : Operation) (place : ℕ) (bytes code rest : List ℕ) → 0 < h.opcode_base → SpellsExtended bytes code → ((p : ℕ) → body h place (ahead p bytes) ≡ Ok op)
    → operation h (ahead place (code ++ rest)) ≡ Ok (op, ahead (place + length code) rest)
extended_back h op place bytes code rest some is reads =
    let size = is.0 in
    let parts : (size ++ bytes) ++ rest ≡ size ++ (bytes ++ rest) = append_assoc size bytes rest in
    let sum : place + 1 + length size + length bytes ≡ place + 1 + length (size ++ bytes) = omega (arith, length-append size bytes) in
    standard_back h op 0 place code rest (size ++ bytes) is.1 some
    (rw (parts, unsigned_back (length bytes) (place + 1) size (bytes ++ rest) is.2, part_again (length bytes) (place + 1 + length size) bytes rest refl, reads (place + 1 + length size)) (ap (λ (p : ℕ). Ok (op, ahead p rest)) sum))

other_body : (h : Header) (place e p : ℕ) (bytes : List ℕ) → e ≢ 1 → e ≢ 2 → (e ≡ 3 → h.version ≡ 5) → body h place (ahead p (e ∷ bytes)) ≡ Ok Pass
other_body h place zero p bytes not1 not2 not3 = rw (byte_again 0 p bytes) refl
other_body h place (suc zero) p bytes not1 not2 not3 = absurd (not1 refl)
other_body h place (suc (suc zero)) p bytes not1 not2 not3 = absurd (not2 refl)
other_body h place (suc (suc (suc zero))) p bytes not1 not2 not3 =
    let five : (h.version == 5) ≡ true = ap (λ (x : ℕ). x == 5) (not3 refl) in
    rw (byte_again 3 p bytes, five) refl
other_body h place (suc (suc (suc (suc k)))) p bytes not1 not2 not3 = rw (byte_again (suc (suc (suc (suc k)))) p bytes) refl

end_body : (h : Header) (place p : ℕ) (spare : List ℕ) → body h place (ahead p (1 ∷ spare)) ≡ Ok EndSequence
end_body h place p spare = rw (byte_again 1 p spare) refl

address_body : (h : Header) (place p a : ℕ) → a < 2 ^ 64 → body h place (ahead p (2 ∷ to_le_bytes w64 a)) ≡ Ok (SetAddress a)
address_body h place p a lt = ap (λ (n : ℕ). Ok (SetAddress n)) (from_le_bytes-to_le_bytes_8 a lt)

file_body : (h : Header) (place p : ℕ) (f : File) (code spare : List ℕ) → SpellsFile h.directories f code → h.version ≢ 5 → body h place (ahead p (3 ∷ (code ++ spare))) ≡ Ok (DefineFile f)
file_body h place p f code spare is before =
    let old : (h.version == 5) ≡ false = ne_eqb h.version 5 before in
    rw (byte_again 3 p (code ++ spare), old, file_back h.directories f (p + 1) code spare is) refl

-- ---- every operation

std : (h : Header) (op : Operation) (o place : ℕ) (Operands : List ℕ → Type 0) (code rest : List ℕ) → SpellsStandard h o Operands code
    → ((operands : List ℕ) → Operands operands → Reads (below_base h place o (ahead (place + 1) (operands ++ rest))) op (place + 1 + length operands) rest) → Reads (operation h (ahead place (code ++ rest))) op (place + length code) rest
std h op o place Operands code rest is reads = standard_back h op o place code rest is.0 is.1 is.3 (reads is.0 is.4)

large_at : (h : Header) (j place : ℕ) (a : Ahead) → 12 ≤ j → below_base h place (suc j) a ≡ operation_passed (get_or h.lengths j 0) a
large_at h zero place a large = absurd (omega arith)
large_at h (suc zero) place a large = absurd (omega arith)
large_at h (suc (suc zero)) place a large = absurd (omega arith)
large_at h (suc (suc (suc zero))) place a large = absurd (omega arith)
large_at h (suc (suc (suc (suc zero)))) place a large = absurd (omega arith)
large_at h (suc (suc (suc (suc (suc zero))))) place a large = absurd (omega arith)
large_at h (suc (suc (suc (suc (suc (suc zero)))))) place a large = absurd (omega arith)
large_at h (suc (suc (suc (suc (suc (suc (suc zero))))))) place a large = absurd (omega arith)
large_at h (suc (suc (suc (suc (suc (suc (suc (suc zero)))))))) place a large = absurd (omega arith)
large_at h (suc (suc (suc (suc (suc (suc (suc (suc (suc zero))))))))) place a large = absurd (omega arith)
large_at h (suc (suc (suc (suc (suc (suc (suc (suc (suc (suc zero)))))))))) place a large = absurd (omega arith)
large_at h (suc (suc (suc (suc (suc (suc (suc (suc (suc (suc (suc zero))))))))))) place a large = absurd (omega arith)
large_at h (suc (suc (suc (suc (suc (suc (suc (suc (suc (suc (suc (suc k)))))))))))) place a large = refl

large_back : (h : Header) (o place : ℕ) (operands rest : List ℕ) → 12 < o → AreUlebs (get_or h.lengths (o - 1) 0) operands → Reads (below_base h place o (ahead (place + 1) (operands ++ rest))) Pass (place + 1 + length operands) rest
large_back h zero place operands rest large u = absurd (omega arith)
large_back h (suc j) place operands rest large u =
    let same : suc j - 1 ≡ j = omega arith in
    let v : AreUlebs (get_or h.lengths j 0) operands = subst (λ (k : ℕ). AreUlebs (get_or h.lengths k 0) operands) same u in
    large_at h j place (ahead (place + 1) (operands ++ rest)) (omega arith) ∙ passing_back (get_or h.lengths j 0) (place + 1) operands rest v

half_back : (n place : ℕ) (operands rest : List ℕ) → n < 2 ^ 16 → operands ≡ to_le_bytes w16 n → Reads (with_half FixedAdvancePc (ahead (place + 1) (operands ++ rest))) (FixedAdvancePc n) (place + 1 + length operands) rest
half_back n place operands rest lt e =
    let read : Reads (half_field (ahead (place + 1) (operands ++ rest))) n (place + 1 + length operands) rest =
    ap (λ (x : List ℕ). half_field (ahead (place + 1) (x ++ rest))) e ∙ ap field (half_again n (place + 1) rest lt) ∙ ap (λ (p : ℕ). Ok (n, ahead p rest)) (ap (λ (k : ℕ). place + 1 + k) (ap (λ (x : List ℕ). length x) (sym e))) in
    bind_to (half_field (ahead (place + 1) (operands ++ rest))) (λ x. Ok (FixedAdvancePc x.0, x.1)) (n, ahead (place + 1 + length operands) rest) read

special_back : (h : Header) (o place : ℕ) (code rest : List ℕ) → code ≡ o ∷ [] → h.opcode_base ≤ o → Reads (operation h (ahead place (code ++ rest))) (Special o) (place + length code) rest
special_back h o place code rest one high =
    let sum : place + 1 ≡ place + length code = omega (arith, ap (λ (x : List ℕ). length x) one) in
    ap (λ (x : List ℕ). operation h (ahead place (x ++ rest))) one ∙ opcode_read h o place rest ∙ special_by h place o (ahead (place + 1) rest) high ∙ ap (λ (p : ℕ). Ok (Special o, ahead p rest)) sum

passed_back : (h : Header) (place : ℕ) (code rest : List ℕ) → 0 < h.opcode_base → IsPassed h code → Reads (operation h (ahead place (code ++ rest))) Pass (place + length code) rest
passed_back h place code rest some (inl is) = std h Pass 7 place IsNothing code rest is (λ operands e. nothing_back Pass place operands rest e)
passed_back h place code rest some (inr (inl is)) = std h Pass 10 place IsNothing code rest is (λ operands e. nothing_back Pass place operands rest e)
passed_back h place code rest some (inr (inr (inl is))) = std h Pass 11 place IsNothing code rest is (λ operands e. nothing_back Pass place operands rest e)
passed_back h place code rest some (inr (inr (inr (inl is)))) = std h Pass 12 place (AreUlebs 1) code rest is (λ operands u. passing_back 1 (place + 1) operands rest u)
passed_back h place code rest some (inr (inr (inr (inr (inl is))))) = std h Pass is.0 place _ code rest is.2 (λ operands u. large_back h is.0 place operands rest is.1 u)
passed_back h place code rest some (inr (inr (inr (inr (inr (inl is)))))) = extended_back h Pass place [] code rest some is (λ p. refl)
passed_back h place code rest some (inr (inr (inr (inr (inr (inr is)))))) = extended_back h Pass place (is.0 ∷ is.1) code rest some is.5 (λ p. other_body h place is.0 p is.1 is.2 is.3 is.4)

pub operation_again : (h : Header) (op : Operation) (place : ℕ) (code rest : List ℕ) → 0 < h.opcode_base → Spells h op code → Reads (operation h (ahead place (code ++ rest))) op (place + length code) rest
operation_again h Copy place code rest some is = std h Copy 1 place IsNothing code rest is (λ operands e. nothing_back Copy place operands rest e)
operation_again h (AdvancePc n) place code rest some is = std h (AdvancePc n) 2 place (IsUleb n) code rest is (λ operands u. rw (unsigned_back n (place + 1) operands rest u) refl)
operation_again h (AdvanceLine z) place code rest some is = std h (AdvanceLine z) 3 place (IsSleb z) code rest is (λ operands u. rw (sleb_again z (place + 1) operands rest u) refl)
operation_again h (SetFile n) place code rest some is = std h (SetFile n) 4 place (IsUleb n) code rest is (λ operands u. rw (unsigned_back n (place + 1) operands rest u) refl)
operation_again h (SetColumn n) place code rest some is = std h (SetColumn n) 5 place (IsUleb n) code rest is (λ operands u. rw (unsigned_back n (place + 1) operands rest u) refl)
operation_again h NegateStmt place code rest some is = std h NegateStmt 6 place IsNothing code rest is (λ operands e. nothing_back NegateStmt place operands rest e)
operation_again h ConstAddPc place code rest some is = std h ConstAddPc 8 place IsNothing code rest is (λ operands e. nothing_back ConstAddPc place operands rest e)
operation_again h (FixedAdvancePc n) place code rest some is = std h (FixedAdvancePc n) 9 place _ code rest is.0 (λ operands e. half_back n place operands rest is.1 e)
operation_again h (Special o) place code rest some is = special_back h o place code rest is.0 is.1
operation_again h EndSequence place code rest some is = extended_back h EndSequence place (1 ∷ is.0) code rest some is.1 (λ p. end_body h place p is.0)
operation_again h (SetAddress a) place code rest some is = extended_back h (SetAddress a) place (2 ∷ to_le_bytes w64 a) code rest some is.0 (λ p. address_body h place p a is.1)
operation_again h (DefineFile f) place code rest some is = extended_back h (DefineFile f) place ((3 ∷ is.0) ++ is.1) code rest some is.2 (λ p. file_body h place p f is.0 is.1 is.3 is.4)
operation_again h Pass place code rest some is = passed_back h place code rest some is

-- a spelled program is read
pub programs_again : (h : Header) → 0 < h.opcode_base → (n : ℕ) (codes : List (List ℕ)) (s t : State) (place : ℕ) → length (concat codes) < n → Goes h codes s t → is_open t.table.rows ≡ false
    → program n h s (ahead place (concat codes)) ≡ Ok t
programs_again h some = program_again h (λ op o code rest place is. operation_again h op place (o ∷ code) rest some is) (begins h)
