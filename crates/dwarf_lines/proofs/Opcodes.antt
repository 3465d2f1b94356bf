-- What is read as an opcode below opcode_base is a spelling of it.
use Rattle.std.proofs.Common.{◌≡◌, ℕ, zero, suc, ◌-◌, ◌<◌, ◌≤◌, List, [], ◌∷◌, ◌++◌, get_or, Result, Ok, Err, refl, sym, ap, subst, ◌∙◌, arith, append_assoc, inl, inr}
use Rattle.std.proofs.lemmas.List.{length-append}
use Rattle.leb_cursor.specs.declared.LebFault.{LebFault}
use Rattle.leb_cursor.specs.Ahead.{Ahead, uleb_at}
use Rattle.leb_cursor.proofs.Exact.{IsBytes, Consumes, uleb_takes}
use Rattle.dwarf_lines.specs.declared.LineFault.{LineFault}
use Rattle.dwarf_lines.specs.Registers.{Header, Operation, Copy, AdvancePc, SetFile, SetColumn, NegateStmt, ConstAddPc, Pass}
use Rattle.dwarf_lines.specs.Spelling.{SpellsStandard, IsNothing, IsUleb, AreUlebs, IsPassed, Spells}
use Rattle.dwarf_lines.specs.Reading.{leb_field, unsigned_field, ahead_of_numbers, operation_passed, with_none, with_unsigned, standard}
use Rattle.dwarf_lines.proofs.Programs.{bind_ok}

pub leb_ok : {X : Type 0} (r : Result X LebFault) (x : X) → leb_field r ≡ Ok x → r ≡ Ok x
leb_ok (Ok y) x e = cc
leb_ok (Err d) x e = absurd cc

pub unsigned_takes : (a b : Ahead) (n : ℕ) → IsBytes a.bytes → unsigned_field a ≡ Ok (n, b) → Consumes (IsUleb n) a b
unsigned_takes a b n fits e = uleb_takes a b n fits (leb_ok (uleb_at a) (n, b) e)

-- one after the other
pub Consumes-then : (P Q R : List ℕ → Type 0) (a b c : Ahead) → ((x y : List ℕ) → P x → Q y → R (x ++ y)) → Consumes P a b → Consumes Q b c → Consumes R a c
Consumes-then P Q R a b c both p q = record {
  code = p.code ++ q.code;
  parts = p.parts ∙ ap (λ (t : List ℕ). p.code ++ t) q.parts ∙ sym (append_assoc p.code q.code c.bytes);
  is = both p.code q.code p.is q.is;
  place = omega (arith, p.place, q.place, length-append p.code q.code);
  rest = q.rest;
}

-- nothing was read
stays : (P : List ℕ → Type 0) (a : Ahead) → IsBytes a.bytes → P [] → Consumes P a a
stays P a fits is = record { code = []; parts = refl; is = is; place = omega arith; rest = fits }

ok_is : {A : Type 0} (x y : A) → (let done : A → Result A LineFault = λ z. Ok z in done x ≡ done y) → x ≡ y
ok_is x y e = cc

pub pass_takes : (n : ℕ) (a b : Ahead) → IsBytes a.bytes → ahead_of_numbers n a ≡ Ok b → Consumes (AreUlebs n) a b
unfolding ahead_of_numbers
pass_takes zero a b fits e = subst (Consumes (AreUlebs 0) a) (ok_is a b e) (stays (AreUlebs 0) a fits ([], refl, refl))
pass_takes (suc n) a b fits e =
    let x = bind_ok (unsigned_field a) (λ x. ahead_of_numbers n x.1) b e in
    let one = unsigned_takes a x.0.1 x.0.0 fits x.1 in
    let more = pass_takes n x.0.1 b one.rest x.2 in
    Consumes-then (IsUleb x.0.0) (AreUlebs n) (AreUlebs (suc n)) a x.0.1 b (λ front rest first others. (x.0.0 ∷ others.0, ap suc others.1, (front, rest, refl, first, others.2))) one more

-- what an opcode's operands are, in the words of the table
abbrev pub After : Header → ℕ → Operation → List ℕ → Type 0
After h o op operands = Spells h op (o ∷ operands)

none_takes : (h : Header) (o : ℕ) (made op : Operation) (a b : Ahead) → IsBytes a.bytes → After h o made [] → with_none made a ≡ Ok (op, b) → Consumes (After h o op) a b
none_takes h o made op a b fits is e =
    let both = ok_is (made, a) (op, b) e in
    subst (λ (x : Operation × Ahead). Consumes (After h o x.0) a x.1) both (stays (After h o made) a fits is)

mapped : (P Q : List ℕ → Type 0) (a b : Ahead) → ((x : List ℕ) → P x → Q x) → Consumes P a b → Consumes Q a b
mapped P Q a b f c = record { code = c.code; parts = c.parts; is = f c.code c.is; place = c.place; rest = c.rest }

unsigned_operand : (h : Header) (o : ℕ) (made : ℕ → Operation) (op : Operation) (a b : Ahead) → IsBytes a.bytes → ((n : ℕ) (x : List ℕ) → IsUleb n x → After h o (made n) x) → with_unsigned made a ≡ Ok (op, b) → Consumes (After h o op) a b
unsigned_operand h o made op a b fits is e =
    let x = bind_ok (unsigned_field a) (λ n. Ok (made n.0, n.1)) (op, b) e in
    let both = ok_is (made x.0.0, x.0.1) (op, b) x.2 in
    subst (λ (y : Operation × Ahead). Consumes (After h o y.0) a y.1) both (mapped (IsUleb x.0.0) (After h o (made x.0.0)) a x.0.1 (is x.0.0) (unsigned_takes a x.0.1 x.0.0 fits x.1))

passed_operands : (h : Header) (o count : ℕ) (op : Operation) (a b : Ahead) → IsBytes a.bytes → ((x : List ℕ) → AreUlebs count x → IsPassed h (o ∷ x)) → operation_passed count a ≡ Ok (op, b) → Consumes (After h o op) a b
passed_operands h o count op a b fits is e =
    let x = bind_ok (ahead_of_numbers count a) (λ rest. Ok (Pass, rest)) (op, b) e in
    let both = ok_is (Pass, x.0) (op, b) x.2 in
    subst (λ (y : Operation × Ahead). Consumes (After h o y.0) a y.1) both (mapped (AreUlebs count) (After h o Pass) a x.0 is (pass_takes count a x.0 fits x.1))

standard_is : (h : Header) (o : ℕ) (Operands : List ℕ → Type 0) (x : List ℕ) → 0 < o → o < h.opcode_base → Operands x → SpellsStandard h o Operands (o ∷ x)
standard_is h o Operands x positive below is = (x, refl, positive, below, is)

large_operands : (h : Header) (j : ℕ) (op : Operation) (a b : Ahead) → IsBytes a.bytes → 12 ≤ j → suc j < h.opcode_base → operation_passed (get_or h.lengths j 0) a ≡ Ok (op, b) → Consumes (After h (suc j) op) a b
large_operands h j op a b fits large below e =
    let same : suc j - 1 ≡ j = omega arith in
    passed_operands h (suc j) (get_or h.lengths j 0) op a b fits
    (λ x is. inr (inr (inr (inr (inl (suc j, omega arith, rw same (standard_is h (suc j) (AreUlebs (get_or h.lengths j 0)) x (omega arith) below is)))))))
    e

module _ (h : Header) (op : Operation) (a b : Ahead) (fits : IsBytes a.bytes)
    (signed : 3 < h.opcode_base → get_or standard 2 (operation_passed 0) a ≡ Ok (op, b) → Consumes (After h 3 op) a b)
    (half : 9 < h.opcode_base → get_or standard 8 (operation_passed 0) a ≡ Ok (op, b) → Consumes (After h 9 op) a b)
  where
    -- what is read after an opcode from 1 on below opcode_base
    pub standard_takes : (k : ℕ) → suc k < h.opcode_base → get_or standard k (operation_passed (get_or h.lengths k 0)) a ≡ Ok (op, b) → Consumes (After h (suc k) op) a b
    standard_takes zero below e = none_takes h 1 Copy op a b fits (standard_is h 1 IsNothing [] (omega arith) below refl) e
    standard_takes (suc zero) below e = unsigned_operand h 2 AdvancePc op a b fits (λ n x is. standard_is h 2 (IsUleb n) x (omega arith) below is) e
    standard_takes (suc (suc zero)) below e = signed below e
    standard_takes (suc (suc (suc zero))) below e = unsigned_operand h 4 SetFile op a b fits (λ n x is. standard_is h 4 (IsUleb n) x (omega arith) below is) e
    standard_takes (suc (suc (suc (suc zero)))) below e = unsigned_operand h 5 SetColumn op a b fits (λ n x is. standard_is h 5 (IsUleb n) x (omega arith) below is) e
    standard_takes (suc (suc (suc (suc (suc zero))))) below e = none_takes h 6 NegateStmt op a b fits (standard_is h 6 IsNothing [] (omega arith) below refl) e
    standard_takes (suc (suc (suc (suc (suc (suc zero)))))) below e = none_takes h 7 Pass op a b fits (inl (standard_is h 7 IsNothing [] (omega arith) below refl)) e
    standard_takes (suc (suc (suc (suc (suc (suc (suc zero))))))) below e = none_takes h 8 ConstAddPc op a b fits (standard_is h 8 IsNothing [] (omega arith) below refl) e
    standard_takes (suc (suc (suc (suc (suc (suc (suc (suc zero)))))))) below e = half below e
    standard_takes (suc (suc (suc (suc (suc (suc (suc (suc (suc zero))))))))) below e = none_takes h 10 Pass op a b fits (inr (inl (standard_is h 10 IsNothing [] (omega arith) below refl))) e
    standard_takes (suc (suc (suc (suc (suc (suc (suc (suc (suc (suc zero)))))))))) below e = none_takes h 11 Pass op a b fits (inr (inr (inl (standard_is h 11 IsNothing [] (omega arith) below refl)))) e
    standard_takes (suc (suc (suc (suc (suc (suc (suc (suc (suc (suc (suc zero))))))))))) below e =
        passed_operands h 12 1 op a b fits (λ x is. inr (inr (inr (inl (standard_is h 12 (AreUlebs 1) x (omega arith) below is))))) e
    standard_takes (suc (suc (suc (suc (suc (suc (suc (suc (suc (suc (suc (suc k)))))))))))) below e =
        large_operands h (suc (suc (suc (suc (suc (suc (suc (suc (suc (suc (suc (suc k)))))))))))) op a b fits (omega arith) below e
