-- What is read as a header is a spelling of it, in any version.
use Rattle.std.proofs.Common.{◌≡◌, ℕ, suc, ◌+◌, ◌-◌, ◌<◌, Bool, true, false, not, List, [], ◌∷◌, ◌++◌, length, nat_lt, ◌==◌, Result, Ok, refl, sym, ap, subst, ◌∙◌, arith, append_assoc}
use Rattle.std.specs.Int.{w8, cast_signed}
use Rattle.std.proofs.lemmas.Bool.{ltb-true, eqb-true}
use Rattle.leb_cursor.specs.Ahead.{Ahead, ◌>>=◌, bytes_at}
use Rattle.leb_cursor.proofs.Exact.{IsBytes, Consumes, bytes_takes}
use Rattle.dwarf_lines.specs.declared.LineFault.{LineFault}
use Rattle.dwarf_lines.specs.declared.LineKind.TheVariants as kinds
use Rattle.dwarf_lines.specs.Registers.{File, Header}
use Rattle.dwarf_lines.specs.Names.{Strings}
use Rattle.dwarf_lines.specs.Spelling.{SpellsNames, SpellsHeader}
use Rattle.dwarf_lines.specs.Spelling as spelled
use Rattle.dwarf_lines.specs.Reading.{field, byte, byte_that, operations, sizes, texts, files, Names, names, header}
use Rattle.dwarf_lines.proofs.Programs.{bind_ok}
use Rattle.dwarf_lines.proofs.Opcodes.{Consumes-then}
use Rattle.dwarf_lines.proofs.Headers.{field_ok, ok_is, one_takes, that_takes, stays, operations_takes, AreTexts, texts_takes, AreFiles, files_takes}
use Rattle.dwarf_lines.proofs.ListedTakes.{names_takes}

pub enough : (x : ℕ) → x < suc x
enough x = omega arith

-- ---- the two sizes of version 5

-- two bytes, each as it has to be
two_bytes : (m n : ℕ) (x y : List ℕ) → (m == 8) ≡ true → (n == 0) ≡ true → x ≡ m ∷ [] → y ≡ n ∷ [] → x ++ y ≡ 8 ∷ 0 ∷ []
two_bytes m n x y e f is-x is-y =
    ap (λ (z : List ℕ). z ++ y) (is-x ∙ ap (λ (k : ℕ). k ∷ []) (eqb-true m 8 e)) ∙ ap (λ (z : List ℕ). 8 ∷ z) (is-y ∙ ap (λ (k : ℕ). k ∷ []) (eqb-true n 0 f))

sizes_by : (five : Bool) (a b : Ahead) → IsBytes a.bytes
    → (elim five as (λ x. Result Ahead LineFault) [
      | true ↦ byte_that (λ n. n == 8) kinds.AddressSize a >>= λ size. byte_that (λ n. n == 0) kinds.SegmentSize size.1 >>= λ segment. Ok segment.1
      | false ↦ Ok a
    ]) ≡ Ok b
    → Consumes (λ code. code ≡ (elim five as (λ x. List ℕ) [ true ↦ 8 ∷ 0 ∷ [] | false ↦ [] ])) a b
sizes_by true a b fits e =
    let size = bind_ok (byte_that (λ n. n == 8) kinds.AddressSize a) _ b e in
    let c = that_takes (λ n. n == 8) kinds.AddressSize a size.0 fits size.1 in
    let segment = bind_ok (byte_that (λ n. n == 0) kinds.SegmentSize size.0.1) _ b size.2 in
    let d = that_takes (λ n. n == 0) kinds.SegmentSize size.0.1 segment.0 c.0.rest segment.1 in
    subst (Consumes (λ code. code ≡ 8 ∷ 0 ∷ []) a) (ok_is segment.0.1 b segment.2)
    (Consumes-then (λ code. code ≡ size.0.0 ∷ []) (λ code. code ≡ segment.0.0 ∷ []) (λ code. code ≡ 8 ∷ 0 ∷ []) a size.0.1 segment.0.1 (λ x y. two_bytes size.0.0 segment.0.0 x y c.1 d.1) c.0 d.0)
sizes_by false a b fits e = subst (Consumes (λ code. code ≡ []) a) (ok_is a b e) (stays (λ code. code ≡ []) a fits refl)

pub sizes_takes : (version : ℕ) (a b : Ahead) → IsBytes a.bytes → sizes version a ≡ Ok b → Consumes (λ code. code ≡ spelled.sizes version) a b
sizes_takes version a b fits e = sizes_by (version == 5) a b fits e

-- ---- directories and files

beside : (front rest p q : List ℕ) → front ≡ p ++ 0 ∷ [] → rest ≡ q ++ 0 ∷ [] → front ++ rest ≡ (p ++ 0 ∷ []) ++ (q ++ 0 ∷ [])
beside front rest p q e f = ap (λ (z : List ℕ). z ++ rest) e ∙ ap (λ (z : List ℕ). (p ++ 0 ∷ []) ++ z) f

all_names_take : (five : Bool) (strings : Strings) (a : Ahead) (y : Names × Ahead) → IsBytes a.bytes → names five strings a ≡ Ok y → Consumes (SpellsNames five strings y.0.directories y.0.files) a y.1
all_names_take true strings a y fits e = names_takes strings a y fits e
all_names_take false strings a y fits e =
    let ds = bind_ok (texts (suc (length a.bytes)) a) _ y e in
    let c = texts_takes (suc (length a.bytes)) a ds.0.1 ds.0.0 fits (enough (length a.bytes)) ds.1 in
    let fs = bind_ok (files (suc (length ds.0.1.bytes)) ds.0.0 ds.0.1) _ y ds.2 in
    let d = files_takes (suc (length ds.0.1.bytes)) ds.0.0 ds.0.1 fs.0.1 fs.0.0 c.rest (enough (length ds.0.1.bytes)) fs.1 in
    let made : Names = record { directories = ds.0.0; files = fs.0.0 } in
    subst (λ (z : Names × Ahead). Consumes (SpellsNames false strings z.0.directories z.0.files) a z.1) (ok_is (made, fs.0.1) y fs.2)
    (Consumes-then (AreTexts ds.0.0) (AreFiles ds.0.0 fs.0.0) (SpellsNames false strings ds.0.0 fs.0.0) a ds.0.1 fs.0.1 (λ front rest x z. (x.0, z.0, beside front rest x.0 z.0 x.1 z.1, x.2, z.2, x.3, z.3)) c d)

-- ---- the header

pub regroup : (m i b r o : ℕ) (ops ls ns spare : List ℕ)
    → m ∷ (ops ++ (i ∷ b ∷ r ∷ o ∷ (ls ++ (ns ++ spare)))) ≡ (m ∷ ops) ++ (i ∷ b ∷ r ∷ o ∷ ls) ++ ns ++ spare
regroup m i b r o ops ls ns spare =
    sym (append_assoc ((m ∷ ops) ++ (i ∷ b ∷ r ∷ o ∷ ls)) ns spare
    ∙ append_assoc (m ∷ ops) (i ∷ b ∷ r ∷ o ∷ ls) (ns ++ spare))

in_front : (code x y z : List ℕ) → x ≡ code ++ y → y ≡ z → x ≡ code ++ z
in_front code x y z e f = e ∙ ap (λ (r : List ℕ). code ++ r) f

byte_in_front : (n : ℕ) (code x y z : List ℕ) → x ≡ code ++ y → code ≡ n ∷ [] → y ≡ z → x ≡ n ∷ z
byte_in_front n code x y z e one f = e ∙ ap (λ (r : List ℕ). r ++ y) one ∙ ap (λ (r : List ℕ). n ∷ r) f

one_more : (n : ℕ) (ls : List ℕ) → 0 < n → length ls ≡ n - 1 → n ≡ 1 + length ls
one_more n ls some len = omega arith

-- all fields together
spelled_by : (version : ℕ) (strings : Strings) (m i b r o : ℕ) (ls : List ℕ) (ds : List (List ℕ)) (fs : List File) (a0 a1 a2 a3 a4 a5 a6 a7 a8 : Ahead)
    → Consumes (λ code. code ≡ m ∷ []) a0 a1 → Consumes (λ code. code ≡ spelled.operations version) a1 a2
    → Consumes (λ code. code ≡ i ∷ []) a2 a3 → Consumes (λ code. code ≡ b ∷ []) a3 a4
    → Consumes (λ code. code ≡ r ∷ []) a4 a5 → Consumes (λ code. code ≡ o ∷ []) a5 a6
    → Consumes (λ code. (code ≡ ls) × (length ls ≡ o - 1)) a6 a7 → Consumes (SpellsNames (version == 5) strings ds fs) a7 a8 → 0 < r → 0 < o
    → SpellsHeader version strings (record { version = version; minimum_length = m; is_stmt = not (i == 0); line_base = cast_signed w8 b; line_range = r; opcode_base = o; lengths = ls; directories = ds; files = fs }) a0.bytes
spelled_by version strings m i b r o ls ds fs a0 a1 a2 a3 a4 a5 a6 a7 a8 c0 c1 c2 c3 c4 c5 c6 c7 some_range some_base =
    let ops = spelled.operations version in
    let spare = a8.bytes in
    let end6 : a6.bytes ≡ ls ++ (c7.code ++ spare) = in_front ls a6.bytes a7.bytes (c7.code ++ spare) (c6.parts ∙ ap (λ (x : List ℕ). x ++ a7.bytes) c6.is.0) c7.parts in
    let end5 : a5.bytes ≡ o ∷ (ls ++ (c7.code ++ spare)) = byte_in_front o c5.code a5.bytes a6.bytes _ c5.parts c5.is end6 in
    let end4 : a4.bytes ≡ r ∷ o ∷ (ls ++ (c7.code ++ spare)) = byte_in_front r c4.code a4.bytes a5.bytes _ c4.parts c4.is end5 in
    let end3 : a3.bytes ≡ b ∷ r ∷ o ∷ (ls ++ (c7.code ++ spare)) = byte_in_front b c3.code a3.bytes a4.bytes _ c3.parts c3.is end4 in
    let end2 : a2.bytes ≡ i ∷ b ∷ r ∷ o ∷ (ls ++ (c7.code ++ spare)) = byte_in_front i c2.code a2.bytes a3.bytes _ c2.parts c2.is end3 in
    let end1 : a1.bytes ≡ ops ++ (i ∷ b ∷ r ∷ o ∷ (ls ++ (c7.code ++ spare))) = in_front ops a1.bytes a2.bytes _ (c1.parts ∙ ap (λ (x : List ℕ). x ++ a2.bytes) c1.is) end2 in
    let end0 : a0.bytes ≡ m ∷ (ops ++ (i ∷ b ∷ r ∷ o ∷ (ls ++ (c7.code ++ spare)))) = byte_in_front m c0.code a0.bytes a1.bytes _ c0.parts c0.is end1 in
    (i, b, c7.code, spare, end0 ∙ regroup m i b r o ops ls c7.code spare, refl, refl, refl, some_range, one_more o ls some_base c6.is.1, c7.is)

pub header_takes : (version : ℕ) (strings : Strings) (a : Ahead) (h : Header) → IsBytes a.bytes → header version strings a ≡ Ok h → SpellsHeader version strings h a.bytes
unfolding header
header_takes version strings a h fits e =
    let minimum = bind_ok (byte a) _ h e in
    let c0 = one_takes a minimum.0.1 minimum.0.0 fits minimum.1 in
    let rest = bind_ok (operations version minimum.0.1) _ h minimum.2 in
    let c1 = operations_takes version minimum.0.1 rest.0 c0.rest rest.1 in
    let is_stmt = bind_ok (byte rest.0) _ h rest.2 in
    let c2 = one_takes rest.0 is_stmt.0.1 is_stmt.0.0 c1.rest is_stmt.1 in
    let base = bind_ok (byte is_stmt.0.1) _ h is_stmt.2 in
    let c3 = one_takes is_stmt.0.1 base.0.1 base.0.0 c2.rest base.1 in
    let range = bind_ok (byte_that (λ n. nat_lt 0 n) kinds.ZeroRange base.0.1) _ h base.2 in
    let c4 = that_takes (λ n. nat_lt 0 n) kinds.ZeroRange base.0.1 range.0 c3.rest range.1 in
    let opcode_base = bind_ok (byte_that (λ n. nat_lt 0 n) kinds.OpcodeBaseZero range.0.1) _ h range.2 in
    let c5 = that_takes (λ n. nat_lt 0 n) kinds.OpcodeBaseZero range.0.1 opcode_base.0 c4.0.rest opcode_base.1 in
    let lengths = bind_ok (field (bytes_at (opcode_base.0.0 - 1) opcode_base.0.1)) _ h opcode_base.2 in
    let c6 = bytes_takes (opcode_base.0.0 - 1) opcode_base.0.1 lengths.0.1 lengths.0.0 c5.0.rest (field_ok _ _ lengths.1) in
    let ns = bind_ok (names (version == 5) strings lengths.0.1) _ h lengths.2 in
    let c7 = all_names_take (version == 5) strings lengths.0.1 ns.0 c6.rest ns.1 in
    let is = spelled_by version strings minimum.0.0 is_stmt.0.0 base.0.0 range.0.0 opcode_base.0.0 lengths.0.0 ns.0.0.directories ns.0.0.files a minimum.0.1 rest.0 is_stmt.0.1 base.0.1 range.0.1 opcode_base.0.1 lengths.0.1 ns.0.1
    c0 c1 c2 c3 c4.0 c5.0 c6 c7 (ltb-true _ _ c4.1) (ltb-true _ _ c5.1) in
    subst (λ (g : Header). SpellsHeader version strings g a.bytes) (ok_is _ h ns.2) is
