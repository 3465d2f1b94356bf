-- What is read as an operation is a spelling of it.
use Rattle.std.proofs.Common.{◌≡◌, ◌≢◌, ℕ, zero, suc, ◌+◌, ◌^◌, ◌<◌, inl, inr, Bool, true, false, cond, ◌==◌, nat_lt, List, [], ◌∷◌, ◌++◌, length, get_or, Result, Ok, Err, refl, sym, ap, subst, ◌∙◌, arith}
use Rattle.std.specs.Int.{w16, w64, to_le_bytes}
use Rattle.std.proofs.lemmas.Bool.{ltb-true, ltb-false, eqb-true}
use Rattle.std.proofs.lemmas.List.{length-append, append-nil, nil_from_length}
use Rattle.leb_cursor.specs.Ahead.{Ahead, Reading, ◌>>=◌, number_at, part_at, text_at, sleb_at}
use Rattle.leb_cursor.proofs.Exact.{IsBytes, Consumes, ahead, mapped_to, IsEnded, text_takes, half_takes, double_takes, part_takes, sleb_takes, IsSleb, IsNumber, IsPart}
use Rattle.dwarf_lines.specs.declared.LineFault.{LineFault}
use Rattle.dwarf_lines.specs.declared.LineKind.TheVariants as kinds
use Rattle.dwarf_lines.specs.Registers.{File, Header, directory, Operation, AdvanceLine, FixedAdvancePc, Special, EndSequence, SetAddress, DefineFile, Pass}
use Rattle.dwarf_lines.specs.Spelling.{IsUleb, SpellsText, SpellsFile, SpellsExtended, Spells}
use Rattle.dwarf_lines.specs.Reading.{fault, field, leb_field, byte, half_field, unsigned_field, file, extended_operations, body, extended_at, below_base, operation, with_signed, with_half}
use Rattle.dwarf_lines.proofs.Programs.{bind_ok}
use Rattle.dwarf_lines.proofs.Opcodes.{Consumes-then, unsigned_takes, standard_takes, leb_ok, After}
use Rattle.dwarf_lines.proofs.Headers.{field_ok, ok_is, one_takes, Follows, named_takes}

whole_file : (directories : List (List ℕ)) (name : List ℕ) (f : File) (x y : List ℕ) → IsEnded name x → Follows directories name f y → SpellsFile directories f (x ++ y)
whole_file directories name f x y is follows =
    let same : name ≡ f.name = ap (λ (g : File). g.name) follows.10 in
    let known : directory directories follows.3 ≡ f.directory = ap (λ (g : File). g.directory) follows.10 in
    (x, follows.0, follows.1, follows.2, follows.3, follows.4, follows.5, ap (λ (z : List ℕ). x ++ z) follows.6, subst (λ (t : List ℕ). SpellsText t x) same is, follows.7, follows.8, follows.9, sym known)

pub file_takes : (directories : List (List ℕ)) (a : Ahead) (y : File × Ahead) → IsBytes a.bytes → file directories a ≡ Ok y → Consumes (SpellsFile directories y.0) a y.1
file_takes directories a y fits e =
    let x = bind_ok (field (text_at a)) _ y e in
    let c = text_takes a x.0.1 x.0.0 fits (field_ok (text_at a) x.0 x.1) in
    Consumes-then (IsEnded x.0.0) (Follows directories x.0.0 y.0) (SpellsFile directories y.0) a x.0.1 y.1 (whole_file directories x.0.0 y.0) c (named_takes directories x.0.0 x.0.1 y c.rest x.2)

-- ---- extended opcodes

-- an extended opcode with this body is a spelling of the operation
abbrev IsBodyOf : Header → Operation → List ℕ → Type 0
IsBodyOf h op bytes = (code : List ℕ) → SpellsExtended bytes code → Spells h op code

op_is : (x y : Operation) → (let done : Operation → Result Operation LineFault = λ z. Ok z in done x ≡ done y) → x ≡ y
op_is x y e = cc

address_takes : (h : Header) (place : ℕ) (nine : Bool) (a : Ahead) (op : Operation) → IsBytes a.bytes → (length a.bytes + 1 == 9) ≡ nine
    → cond {A = Result Operation LineFault} nine (field (number_at w64 a) >>= λ n. Ok (SetAddress n.0)) (Err (fault kinds.AddressLength place)) ≡ Ok op → IsBodyOf h op (2 ∷ a.bytes)
address_takes h place false a op fits is e = absurd cc
address_takes h place true a op fits is e =
    let x = bind_ok (field (number_at w64 a)) _ op e in
    let c = double_takes a x.0.1 x.0.0 fits (field_ok _ _ x.1) in
    let nine : length a.bytes + 1 ≡ 9 = eqb-true _ _ is in
    let eight : length c.code ≡ 8 = ap (λ (z : List ℕ). length z) c.is.0 in
    let none : x.0.1.bytes ≡ [] = nil_from_length x.0.1.bytes (omega (arith, ap (λ (z : List ℕ). length z) c.parts, length-append c.code x.0.1.bytes)) in
    let all : a.bytes ≡ to_le_bytes w64 x.0.0 = c.parts ∙ ap (λ (z : List ℕ). c.code ++ z) none ∙ append-nil c.code ∙ c.is.0 in
    subst (λ (o : Operation). IsBodyOf h o (2 ∷ a.bytes)) (op_is (SetAddress x.0.0) op x.2)
    (λ code is. (subst (λ (z : List ℕ). SpellsExtended (2 ∷ z) code) all is, c.is.1))

passed_body : (h : Header) (e : ℕ) (bytes : List ℕ) (op : Operation) → e ≢ 1 → e ≢ 2 → e ≢ 3 → Pass ≡ op → IsBodyOf h op (e ∷ bytes)
passed_body h e bytes op not1 not2 not3 is = subst (λ (o : Operation). IsBodyOf h o (e ∷ bytes)) is (λ code s. inr (inr (inr (inr (inr (inr (e, bytes, not1, not2, (λ f. absurd (not3 f)), s)))))))

not_five : (version : ℕ) → (version == 5) ≡ false → version ≢ 5
not_five version is five = let no : true ≡ false = sym (ap (λ (x : ℕ). x == 5) five) ∙ is in absurd cc

third_takes : (h : Header) (five : Bool) (a : Ahead) (op : Operation) → IsBytes a.bytes → (h.version == 5) ≡ five
    → (elim five as (λ x. Result Operation LineFault) [ true ↦ Ok Pass | false ↦ file h.directories a >>= λ f. Ok (DefineFile f.0) ]) ≡ Ok op → IsBodyOf h op (3 ∷ a.bytes)
third_takes h true a op fits is e = subst (λ (o : Operation). IsBodyOf h o (3 ∷ a.bytes)) (op_is Pass op e)
    (λ code s. inr (inr (inr (inr (inr (inr (3, a.bytes, (λ f. omega arith), (λ f. omega arith), (λ f. eqb-true h.version 5 is), s)))))))
third_takes h false a op fits is e =
    let x = bind_ok (file h.directories a) _ op e in
    let c = file_takes h.directories a x.0 fits x.1 in
    subst (λ (o : Operation). IsBodyOf h o (3 ∷ a.bytes)) (op_is (DefineFile x.0.0) op x.2)
    (λ code s. (c.code, x.0.1.bytes, subst (λ (z : List ℕ). SpellsExtended (3 ∷ z) code) c.parts s, c.is, not_five h.version is))

number_takes : (h : Header) (place e : ℕ) (a : Ahead) (op : Operation) → IsBytes a.bytes → get_or (extended_operations h place (length a.bytes + 1)) e (λ rest. Ok Pass) a ≡ Ok op → IsBodyOf h op (e ∷ a.bytes)
number_takes h place zero a op fits e = passed_body h 0 a.bytes op (λ f. cc) (λ f. cc) (λ f. cc) (op_is Pass op e)
number_takes h place (suc zero) a op fits e = subst (λ (o : Operation). IsBodyOf h o (1 ∷ a.bytes)) (op_is EndSequence op e) (λ code is. (a.bytes, is))
number_takes h place (suc (suc zero)) a op fits e = address_takes h place (length a.bytes + 1 == 9) a op fits refl e
number_takes h place (suc (suc (suc zero))) a op fits e = third_takes h (h.version == 5) a op fits refl e
number_takes h place (suc (suc (suc (suc k)))) a op fits e = passed_body h (suc (suc (suc (suc k)))) a.bytes op (λ f. omega arith) (λ f. omega arith) (λ f. omega arith) (op_is Pass op e)

more : (n : ℕ) → suc n ≡ n + 1
more n = omega arith

body_on : (h : Header) (place first : ℕ) (bytes : List ℕ) (op : Operation) → IsBytes bytes → body h place (ahead first bytes) ≡ Ok op → IsBodyOf h op bytes
body_on h place first [] op fits e = subst (λ (o : Operation). IsBodyOf h o []) (op_is Pass op e) (λ code is. inr (inr (inr (inr (inr (inl is))))))
body_on h place first (b ∷ bs) op fits e =
    let a : Ahead = ahead first (b ∷ bs) in
    let x = bind_ok (byte a) _ op e in
    let c = one_takes a x.0.1 x.0.0 fits x.1 in
    let whole : b ∷ bs ≡ x.0.0 ∷ x.0.1.bytes = c.parts ∙ ap (λ (z : List ℕ). z ++ x.0.1.bytes) c.is in
    let size : length (b ∷ bs) ≡ length x.0.1.bytes + 1 = ap (λ (z : List ℕ). length z) whole ∙ more (length x.0.1.bytes) in
    let same = subst (λ (n : ℕ). get_or (extended_operations h place n) x.0.0 (λ rest. Ok Pass) x.0.1 ≡ Ok op) size x.2 in
    subst (IsBodyOf h op) (sym whole) (number_takes h place x.0.0 x.0.1 op c.rest same)

body_takes : (h : Header) (place : ℕ) (a : Ahead) (op : Operation) → IsBytes a.bytes → body h place a ≡ Ok op → IsBodyOf h op a.bytes
body_takes h place a op fits e = body_on h place a.place a.bytes op fits e

together : (h : Header) (op : Operation) (n : ℕ) (a p : Ahead) (x y : List ℕ) → IsBodyOf h op p.bytes → IsUleb n x → IsPart n a p y → After h 0 op (x ++ y)
together h op n a p x y is size part = is (0 ∷ (x ++ y)) (x, ap (λ (z : List ℕ). 0 ∷ (x ++ z)) part.bytes, subst (λ (k : ℕ). IsUleb k x) (sym part.len) size)

pub extended_takes : (h : Header) (place : ℕ) (a : Ahead) (y : Operation × Ahead) → IsBytes a.bytes → extended_at h place a ≡ Ok y → Consumes (After h 0 y.0) a y.1
extended_takes h place a y fits e =
    let size = bind_ok (unsigned_field a) _ y e in
    let c = unsigned_takes a size.0.1 size.0.0 fits size.1 in
    let inside = bind_ok (field (part_at size.0.0 size.0.1)) _ y size.2 in
    let d = part_takes size.0.0 size.0.1 inside.0.0 inside.0.1 c.rest (field_ok _ _ inside.1) in
    let op = bind_ok (body h place inside.0.0) _ y inside.2 in
    let is = body_takes h place inside.0.0 op.0 d.is.fits op.1 in
    subst (λ (z : Operation × Ahead). Consumes (After h 0 z.0) a z.1) (ok_is (op.0, inside.0.1) y op.2)
    (Consumes-then (IsUleb size.0.0) (IsPart size.0.0 size.0.1 inside.0.0) (After h 0 op.0) a size.0.1 inside.0.1 (λ front back. together h op.0 size.0.0 size.0.1 inside.0.0 front back is) c d)

-- ---- every operation

signed_operand : (h : Header) (op : Operation) (a b : Ahead) → IsBytes a.bytes → 3 < h.opcode_base → with_signed AdvanceLine a ≡ Ok (op, b) → Consumes (After h 3 op) a b
signed_operand h op a b fits below e =
    let x = bind_ok (leb_field (sleb_at a)) _ (op, b) e in
    let c = sleb_takes a x.0.1 x.0.0 fits (leb_ok _ _ x.1) in
    subst (λ (y : Operation × Ahead). Consumes (After h 3 y.0) a y.1) (ok_is (AdvanceLine x.0.0, x.0.1) (op, b) x.2)
    (mapped_to (IsSleb x.0.0) (After h 3 (AdvanceLine x.0.0)) a x.0.1 (λ code is. (code, refl, omega arith, below, is)) c)

half_operand : (h : Header) (op : Operation) (a b : Ahead) → IsBytes a.bytes → 9 < h.opcode_base → with_half FixedAdvancePc a ≡ Ok (op, b) → Consumes (After h 9 op) a b
half_operand h op a b fits below e =
    let x = bind_ok (half_field a) _ (op, b) e in
    let c = half_takes a x.0.1 x.0.0 fits (field_ok _ _ x.1) in
    subst (λ (y : Operation × Ahead). Consumes (After h 9 y.0) a y.1) (ok_is (FixedAdvancePc x.0.0, x.0.1) (op, b) x.2)
    (mapped_to (IsNumber w16 (2 ^ 16) x.0.0) (After h 9 (FixedAdvancePc x.0.0)) a x.0.1 (λ code is. ((code, refl, omega arith, below, is.0), is.1)) c)

below_takes : (h : Header) (place o : ℕ) (a b : Ahead) (op : Operation) → IsBytes a.bytes → o < h.opcode_base → below_base h place o a ≡ Ok (op, b) → Consumes (After h o op) a b
below_takes h place zero a b op fits below e = extended_takes h place a (op, b) fits e
below_takes h place (suc k) a b op fits below e = standard_takes h op a b fits (signed_operand h op a b fits) (half_operand h op a b fits) k below e

joined : (h : Header) (op : Operation) (o : ℕ) (x y : List ℕ) → x ≡ o ∷ [] → After h o op y → Spells h op (x ++ y)
joined h op o x y one is = subst (λ (z : List ℕ). Spells h op (z ++ y)) (sym one) is

operation_by : (h : Header) (below : Bool) (a : Ahead) (o : ℕ) (after : Ahead) (y : Operation × Ahead) → IsBytes a.bytes → nat_lt o h.opcode_base ≡ below → Consumes (λ code. code ≡ o ∷ []) a after
    → (elim below as (λ x. Reading Operation LineFault) [ true ↦ below_base h a.place o after | false ↦ Ok (Special o, after) ]) ≡ Ok y → Consumes (Spells h y.0) a y.1
operation_by h true a o after y fits is c e =
    Consumes-then (λ code. code ≡ o ∷ []) (After h o y.0) (Spells h y.0) a after y.1 (joined h y.0 o) c (below_takes h a.place o after y.1 y.0 c.rest (ltb-true _ _ is) e)
operation_by h false a o after y fits is c e =
    subst (λ (z : Operation × Ahead). Consumes (Spells h z.0) a z.1) (ok_is (Special o, after) y e) (mapped_to (λ code. code ≡ o ∷ []) (Spells h (Special o)) a after (λ code one. (one, ltb-false _ _ is)) c)

pub operation_takes : (h : Header) (a : Ahead) (y : Operation × Ahead) → IsBytes a.bytes → operation h a ≡ Ok y → Consumes (Spells h y.0) a y.1
unfolding operation
operation_takes h a y fits e =
    let o = bind_ok (byte a) _ y e in
    operation_by h (nat_lt o.0.0 h.opcode_base) a o.0.0 o.0.1 y fits refl (one_takes a o.0.1 o.0.0 fits o.1) o.2
