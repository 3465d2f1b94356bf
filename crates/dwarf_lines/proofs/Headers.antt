-- What is read as a header is a spelling of it.
use Rattle.std.proofs.Common.{◌≡◌, ℕ, zero, suc, ◌<◌, ◌≤◌, Bool, true, false, nat_le, List, [], ◌∷◌, ◌++◌, length, ◌==◌, Result, Ok, Err, refl, sym, ap, subst, ◌∙◌, arith, append_assoc}
use Rattle.std.specs.List.{AllByRecursion}
use Rattle.std.specs.Int.{w8}
use Rattle.std.proofs.lemmas.List.{length-append}
use Rattle.std.proofs.lemmas.Bool.{eqb-true}
use Rattle.leb_cursor.specs.declared.Short.{Short}
use Rattle.leb_cursor.specs.Ahead.{Ahead, Reading, ◌>>=◌, text_at, number_at}
use Rattle.leb_cursor.proofs.Exact.{IsBytes, Consumes, mapped_to, byte_takes, text_takes, IsEnded}
use Rattle.dwarf_lines.specs.declared.LineFault.{LineFault}
use Rattle.dwarf_lines.specs.declared.LineKind.{LineKind}
use Rattle.dwarf_lines.specs.declared.LineKind.TheVariants as kinds
use Rattle.dwarf_lines.specs.Registers.{File, directory}
use Rattle.dwarf_lines.specs.Spelling.{IsUleb, SpellsText, SpellsFile, SpellsAll}
use Rattle.dwarf_lines.specs.Spelling as spelled
use Rattle.dwarf_lines.specs.Reading.{field, byte, byte_that, unsigned_field, operations, texts, file_named, files}
use Rattle.dwarf_lines.proofs.Programs.{bind_ok, wanted_ok}
use Rattle.dwarf_lines.proofs.Opcodes.{Consumes-then, unsigned_takes}

pub field_ok : {X : Type 0} (r : Result X Short) (x : X) → field r ≡ Ok x → r ≡ Ok x
field_ok (Ok y) x e = cc
field_ok (Err d) x e = absurd cc

pub ok_is : {A : Type 0} (x y : A) → (let done : A → Result A LineFault = λ z. Ok z in done x ≡ done y) → x ≡ y
ok_is x y e = cc

pub one_takes : (a b : Ahead) (n : ℕ) → IsBytes a.bytes → byte a ≡ Ok (n, b) → Consumes (λ code. code ≡ n ∷ []) a b
one_takes a b n fits e = byte_takes a b n fits (field_ok (number_at w8 a) (n, b) e)

pub that_takes : (test : ℕ → Bool) (kind : LineKind) (a : Ahead) (x : ℕ × Ahead) → IsBytes a.bytes → byte_that test kind a ≡ Ok x → Consumes (λ code. code ≡ x.0 ∷ []) a x.1 × (test x.0 ≡ true)
that_takes test kind a x fits e =
    let b = bind_ok (byte a) _ x e in
    let w = wanted_ok (test b.0.0) kind a.place b.0 x b.2 in
    subst (λ (y : ℕ × Ahead). Consumes (λ code. code ≡ y.0 ∷ []) a y.1 × (test y.0 ≡ true)) w.1 (one_takes a b.0.1 b.0.0 fits b.1, w.0)

-- nothing was read
pub stays : (P : List ℕ → Type 0) (a : Ahead) → IsBytes a.bytes → P [] → Consumes P a a
stays P a fits is = record { code = []; parts = refl; is = is; place = omega arith; rest = fits }

is_one : (n : ℕ) (code : List ℕ) → (n == 1) ≡ true → code ≡ n ∷ [] → code ≡ 1 ∷ []
is_one n code test e = e ∙ ap (λ (x : ℕ). x ∷ []) (eqb-true n 1 test)

operations_by : (four : Bool) (a b : Ahead) → IsBytes a.bytes
    → (elim four as (λ x. Result Ahead LineFault) [ true ↦ byte_that (λ n. n == 1) kinds.ManyOps a >>= λ n. Ok n.1 | false ↦ Ok a ]) ≡ Ok b
    → Consumes (λ code. code ≡ (elim four as (λ x. List ℕ) [ true ↦ 1 ∷ [] | false ↦ [] ])) a b
operations_by true a b fits e =
    let x = bind_ok (byte_that (λ n. n == 1) kinds.ManyOps a) _ b e in
    let t = that_takes (λ n. n == 1) kinds.ManyOps a x.0 fits x.1 in
    subst (Consumes (λ code. code ≡ 1 ∷ []) a) (ok_is x.0.1 b x.2) (mapped_to _ (λ code. code ≡ 1 ∷ []) a x.0.1 (λ code. is_one x.0.0 code t.1) t.0)
operations_by false a b fits e = subst (Consumes (λ code. code ≡ []) a) (ok_is a b e) (stays (λ code. code ≡ []) a fits refl)

pub operations_takes : (version : ℕ) (a b : Ahead) → IsBytes a.bytes → operations version a ≡ Ok b → Consumes (λ code. code ≡ spelled.operations version) a b
operations_takes version a b fits e = operations_by (nat_le 4 version) a b fits e

-- ---- lists of texts and of files

-- the texts, each with its end, and the empty one
abbrev pub AreTexts : List (List ℕ) → List ℕ → Type 0
AreTexts ts code = (x : List ℕ) × (code ≡ x ++ 0 ∷ []) × SpellsAll SpellsText ts x × AllByRecursion (λ d. 0 < length d) ts

texts_end : (code : List ℕ) → IsEnded [] code → AreTexts [] code
texts_end code is = ([], is.1, refl, tt)

texts_more : (text : List ℕ) (ts : List (List ℕ)) (x y : List ℕ) → 0 < length text → IsEnded text x → AreTexts ts y → AreTexts (text ∷ ts) (x ++ y)
texts_more text ts x y some is more = (x ++ more.0, ap (λ (z : List ℕ). x ++ z) more.1 ∙ sym (append_assoc x more.0 (0 ∷ [])), (x, more.0, refl, is, more.2), (some, more.3))

less : (a b : Ahead) (text : List ℕ) → Consumes (IsEnded text) a b → length b.bytes < length a.bytes
less a b text c = rw (c.parts, c.is.1) (omega (arith, length-append (text ++ 0 ∷ []) b.bytes, length-append text (0 ∷ [])))

texts_go : (n : ℕ) (text : List ℕ) (a after b : Ahead) (ts : List (List ℕ)) → IsBytes a.bytes → Consumes (IsEnded text) a after
    → ((c : Ahead) (us : List (List ℕ)) → texts n after ≡ Ok (us, c) → Consumes (AreTexts us) after c)
    → (elim text as (λ x. Reading (List (List ℕ)) LineFault) [ [] ↦ Ok ([], after) | ◌∷◌ b bs ↦ texts n after >>= λ more. Ok (text ∷ more.0, more.1) ]) ≡ Ok (ts, b)
    → Consumes (AreTexts ts) a b
texts_go n [] a after b ts fits c again e =
    subst (λ (y : List (List ℕ) × Ahead). Consumes (AreTexts y.0) a y.1) (ok_is ([], after) (ts, b) e) (mapped_to (IsEnded []) (AreTexts []) a after texts_end c)
texts_go n (t ∷ text) a after b ts fits c again e =
    let x = bind_ok (texts n after) _ (ts, b) e in
    subst (λ (y : List (List ℕ) × Ahead). Consumes (AreTexts y.0) a y.1) (ok_is ((t ∷ text) ∷ x.0.0, x.0.1) (ts, b) x.2)
    (Consumes-then (IsEnded (t ∷ text)) (AreTexts x.0.0) (AreTexts ((t ∷ text) ∷ x.0.0)) a after x.0.1 (λ front back. texts_more (t ∷ text) x.0.0 front back (omega arith)) c (again x.0.1 x.0.0 x.1))

pub texts_takes : (n : ℕ) (a b : Ahead) (ts : List (List ℕ)) → IsBytes a.bytes → length a.bytes < n → texts n a ≡ Ok (ts, b) → Consumes (AreTexts ts) a b
unfolding texts
texts_takes zero a b ts fits lt e = absurd (omega arith)
texts_takes (suc n) a b ts fits lt e =
    let x = bind_ok (field (text_at a)) _ (ts, b) e in
    let c = text_takes a x.0.1 x.0.0 fits (field_ok (text_at a) x.0 x.1) in
    let shorter = less a x.0.1 x.0.0 c in
    texts_go n x.0.0 a x.0.1 b ts fits c (λ d us f. texts_takes n x.0.1 d us c.rest (omega arith) f) x.2

-- what follows the name of a file
abbrev pub Follows : List (List ℕ) → List ℕ → File → List ℕ → Type 0
Follows directories name file code =
    (number : List ℕ) × (time : List ℕ) × (size : List ℕ) × (n : ℕ) × (t : ℕ) × (z : ℕ)
    × (code ≡ number ++ (time ++ size)) × IsUleb n number × IsUleb t time × IsUleb z size
    × (record { directory = directory directories n; name = name } ≡ file)

pub named_takes : (directories : List (List ℕ)) (name : List ℕ) (a : Ahead) (y : File × Ahead) → IsBytes a.bytes → file_named directories name a ≡ Ok y → Consumes (Follows directories name y.0) a y.1
named_takes directories name a y fits e =
    let n = bind_ok (unsigned_field a) _ y e in
    let t = bind_ok (unsigned_field n.0.1) _ y n.2 in
    let z = bind_ok (unsigned_field t.0.1) _ y t.2 in
    let cn = unsigned_takes a n.0.1 n.0.0 fits n.1 in
    let ct = unsigned_takes n.0.1 t.0.1 t.0.0 cn.rest t.1 in
    let cz = unsigned_takes t.0.1 z.0.1 z.0.0 ct.rest z.1 in
    let made : File = record { directory = directory directories n.0.0; name = name } in
    subst (λ (w : File × Ahead). Consumes (Follows directories name w.0) a w.1) (ok_is (made, z.0.1) y z.2) (record {
      code = cn.code ++ (ct.code ++ cz.code);
      parts = cn.parts ∙ ap (λ (r : List ℕ). cn.code ++ r) (ct.parts ∙ ap (λ (r : List ℕ). ct.code ++ r) cz.parts ∙ sym (append_assoc ct.code cz.code z.0.1.bytes)) ∙ sym (append_assoc cn.code (ct.code ++ cz.code) z.0.1.bytes);
      is = (cn.code, ct.code, cz.code, n.0.0, t.0.0, z.0.0, refl, cn.is, ct.is, cz.is, refl);
      place = omega (arith, cn.place, ct.place, cz.place, length-append cn.code (ct.code ++ cz.code), length-append ct.code cz.code);
      rest = cz.rest;
    })

-- the files, and the empty name
abbrev pub AreFiles : List (List ℕ) → List File → List ℕ → Type 0
AreFiles directories fs code = (x : List ℕ) × (code ≡ x ++ 0 ∷ []) × SpellsAll (SpellsFile directories) fs x × AllByRecursion (λ (f : File). 0 < length f.name) fs

files_end : (directories : List (List ℕ)) (code : List ℕ) → IsEnded [] code → AreFiles directories [] code
files_end directories code is = ([], is.1, refl, tt)

one_file : (directories : List (List ℕ)) (name : List ℕ) (f : File) (x y : List ℕ) → 0 < length name → IsEnded name x → Follows directories name f y → SpellsFile directories f (x ++ y) × (0 < length f.name)
one_file directories name f x y some is follows =
    let same : name ≡ f.name = ap (λ (g : File). g.name) follows.10 in
    let known : directory directories follows.3 ≡ f.directory = ap (λ (g : File). g.directory) follows.10 in
    ((x, follows.0, follows.1, follows.2, follows.3, follows.4, follows.5, ap (λ (z : List ℕ). x ++ z) follows.6, subst (λ (t : List ℕ). SpellsText t x) same is, follows.7, follows.8, follows.9, sym known), subst (λ (t : List ℕ). 0 < length t) same some)

files_more : (directories : List (List ℕ)) (f : File) (fs : List File) (x y : List ℕ) → SpellsFile directories f x × (0 < length f.name) → AreFiles directories fs y → AreFiles directories (f ∷ fs) (x ++ y)
files_more directories f fs x y first more = (x ++ more.0, ap (λ (z : List ℕ). x ++ z) more.1 ∙ sym (append_assoc x more.0 (0 ∷ [])), (x, more.0, refl, first.0, more.2), (first.1, more.3))

pub not_longer : (P : List ℕ → Type 0) (a b : Ahead) → Consumes P a b → length b.bytes ≤ length a.bytes
not_longer P a b c = rw c.parts (omega (arith, length-append c.code b.bytes))

files_go : (n : ℕ) (directories : List (List ℕ)) (name : List ℕ) (a after b : Ahead) (fs : List File) → IsBytes a.bytes → Consumes (IsEnded name) a after
    → ((c d : Ahead) (gs : List File) → IsBytes c.bytes → length c.bytes ≤ length after.bytes → files n directories c ≡ Ok (gs, d) → Consumes (AreFiles directories gs) c d)
    → (elim name as (λ x. Reading (List File) LineFault) [ [] ↦ Ok ([], after) | ◌∷◌ b bs ↦ file_named directories name after >>= λ first. files n directories first.1 >>= λ more. Ok (first.0 ∷ more.0, more.1) ]) ≡ Ok (fs, b)
    → Consumes (AreFiles directories fs) a b
files_go n directories [] a after b fs fits c again e =
    subst (λ (y : List File × Ahead). Consumes (AreFiles directories y.0) a y.1) (ok_is ([], after) (fs, b) e) (mapped_to (IsEnded []) (AreFiles directories []) a after (files_end directories) c)
files_go n directories (t ∷ name) a after b fs fits c again e =
    let f = bind_ok (file_named directories (t ∷ name) after) _ (fs, b) e in
    let x = bind_ok (files n directories f.0.1) _ (fs, b) f.2 in
    let cf = named_takes directories (t ∷ name) after f.0 c.rest f.1 in
    let one : Consumes (λ code. SpellsFile directories f.0.0 code × (0 < length f.0.0.name)) a f.0.1 =
    Consumes-then (IsEnded (t ∷ name)) (Follows directories (t ∷ name) f.0.0) _ a after f.0.1 (λ front back. one_file directories (t ∷ name) f.0.0 front back (omega arith)) c cf in
    let more = again f.0.1 x.0.1 x.0.0 cf.rest (not_longer _ after f.0.1 cf) x.1 in
    subst (λ (y : List File × Ahead). Consumes (AreFiles directories y.0) a y.1) (ok_is (f.0.0 ∷ x.0.0, x.0.1) (fs, b) x.2)
    (Consumes-then _ (AreFiles directories x.0.0) (AreFiles directories (f.0.0 ∷ x.0.0)) a f.0.1 x.0.1 (λ front back. files_more directories f.0.0 x.0.0 front back) one more)

pub files_takes : (n : ℕ) (directories : List (List ℕ)) (a b : Ahead) (fs : List File) → IsBytes a.bytes → length a.bytes < n → files n directories a ≡ Ok (fs, b) → Consumes (AreFiles directories fs) a b
unfolding files
files_takes zero directories a b fs fits lt e = absurd (omega arith)
files_takes (suc n) directories a b fs fits lt e =
    let x = bind_ok (field (text_at a)) _ (fs, b) e in
    let c = text_takes a x.0.1 x.0.0 fits (field_ok (text_at a) x.0 x.1) in
    let shorter = less a x.0.1 x.0.0 c in
    files_go n directories x.0.0 a x.0.1 b fs fits c (λ c' d gs fits' le f. files_takes n directories c' d gs fits' (omega arith) f) x.2
