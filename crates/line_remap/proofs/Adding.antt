-- Sequences that are added behind others.
use Rattle.std.proofs.Common.{◌≡◌, ℕ, ◌+◌, ◌<◌, List, [], ◌∷◌, ◌++◌, length, take, get_or, refl, sym, ap, ◌∙◌, subst, append_assoc, add-one}
use Rattle.std.specs.List.{AllZip}
use Rattle.std.proofs.Math.Seq.{take-suc}
use Rattle.std.proofs.lemmas.List.{append-nil, map-append}
use Rattle.std.proofs.lemmas.List.Elements.{All-append, All-nil, All-push, filter_map-append}
use Rattle.line_index.specs.Index.{Index}
use Rattle.line_write.specs.declared.Sequence.{Sequence as coded}
use Rattle.line_write.specs.Unit.{IsWritable, Sequence, view, views}
use Rattle.line_remap.specs.declared.marks.Mark.{Mark as coded_mark}
use Rattle.line_remap.specs.Marks.{Mark, kept_mark, kept_marks, mark_of, marks_of, positions_of}
use Rattle.coz_types.specs.declared.LineId.{LineId}
use Rattle.line_remap.specs.Runs.{Adds, AreKept, AreRuns}

zip_push : {A B : Type 0} (R : A → B → Type 0) (xs : List A) (ys : List B) (x : A) (y : B) → AllZip R xs ys → R x y → AllZip R (xs ++ x ∷ []) (ys ++ y ∷ [])
zip_push R [] [] x y all one = (one, tt)
zip_push R [] (z ∷ ys) x y all one = absurd all
zip_push R (w ∷ xs) [] x y all one = absurd all
zip_push R (w ∷ xs) (z ∷ ys) x y all one = (all.0, zip_push R xs ys x y all.1 one)

taken_more : {A : Type 0} (xs : List A) (i : ℕ) (x : A) → i < length xs → x ≡ get_or xs i x → take (i + 1) xs ≡ take i xs ++ x ∷ []
taken_more xs i x lt is = ap (λ (n : ℕ). take n xs) (add-one i) ∙ take-suc xs i x lt ∙ ap (λ y. take i xs ++ y ∷ []) (sym is)

views_push : (old new : List coded) (s : coded) → new ≡ old ++ s ∷ [] → views new ≡ views old ++ view s ∷ []
views_push old new s e = ap views e ∙ map-append view old (s ∷ [])

pub adds_none : (Are : List Sequence → Type 0) (old : List Sequence) → Are [] → Adds Are old old
adds_none Are old none = record { more = []; whole = sym (append-nil old); are = none; writable = All-nil IsWritable }

-- one more sequence, for the next element of a list
pub adds_next : {A : Type 0} (R : A → Sequence → Type 0) (xs : List A) (i : ℕ) (x : A) (old : List Sequence) (mid new : List coded) (s : coded) → Adds (AllZip R (take i xs)) old (views mid) → i < length xs → x ≡ get_or xs i x → R x (view s) → IsWritable (view s) → new ≡ mid ++ s ∷ []
    → Adds (AllZip R (take (i + 1) xs)) old (views new)
adds_next R xs i x old mid new s adds lt is one right pushed = record {
  more = adds.more ++ view s ∷ [];
  whole = views_push mid new s pushed ∙ ap (λ ss. ss ++ view s ∷ []) adds.whole ∙ append_assoc old adds.more (view s ∷ []);
  are = subst (λ ys. AllZip R ys (adds.more ++ view s ∷ [])) (sym (taken_more xs i x lt is)) (zip_push R (take i xs) adds.more x (view s) adds.are one);
  writable = All-push IsWritable adds.more (view s) adds.writable right;
}

kept_push : (index : Index) (marks : List Mark) (m : Mark) (all more : List Sequence) → AreKept index marks all → AreRuns index m more → AreKept index (marks ++ m ∷ []) (all ++ more)
kept_push index [] m all more none runs = (more, [], ap (λ ss. ss ++ more) none ∙ sym (append-nil more), runs, refl)
kept_push index (n ∷ marks) m all more (front, back, whole, first, rest) runs =
    (front, back ++ more, ap (λ ss. ss ++ more) whole ∙ append_assoc front back more, first, kept_push index marks m back more rest runs)

-- the runs of the next mark
pub adds_mark : (index : Index) (marks : List coded_mark) (i : ℕ) (m : coded_mark) (old mid new : List Sequence) → Adds (AreKept index (marks_of (take i marks))) old mid → i < length marks → m ≡ get_or marks i m → Adds (AreRuns index (mark_of m)) mid new
    → Adds (AreKept index (marks_of (take (i + 1) marks))) old new
adds_mark index marks i m old mid new adds lt is runs = record {
  more = adds.more ++ runs.more;
  whole = runs.whole ∙ ap (λ ss. ss ++ runs.more) adds.whole ∙ append_assoc old adds.more runs.more;
  are = subst (λ ms. AreKept index ms (adds.more ++ runs.more)) (sym (ap marks_of (taken_more marks i m lt is) ∙ map-append mark_of (take i marks) (m ∷ []))) (kept_push index (marks_of (take i marks)) (mark_of m) adds.more runs.more adds.are runs.are);
  writable = All-append IsWritable adds.more runs.more adds.writable runs.writable;
}

-- ---- kept lines

pub kept_next : (index : Index) (kept : List LineId) (i : ℕ) (old new : List coded_mark) → i < length kept → marks_of old ≡ kept_marks index (positions_of (take i kept)) → marks_of new ≡ marks_of old ++ kept_marks index ((get_or kept i (record { 0 = 0 })).0 ∷ [])
    → marks_of new ≡ kept_marks index (positions_of (take (i + 1) kept))
kept_next index kept i old new lt before made =
    let zero_line : LineId = record { 0 = 0 } in
    let line = get_or kept i zero_line in
    let more : take (i + 1) kept ≡ take i kept ++ line ∷ [] = ap (λ (n : ℕ). take n kept) (add-one i) ∙ take-suc kept i zero_line lt in
    made
    ∙ ap (λ ms. ms ++ kept_marks index (line.0 ∷ [])) before
    ∙ sym (filter_map-append (kept_mark index) (positions_of (take i kept)) (line.0 ∷ []))
    ∙ ap (λ ks. kept_marks index ks) (sym (map-append (λ (l : LineId). l.0) (take i kept) (line ∷ [])))
    ∙ ap (λ ls. kept_marks index (positions_of ls)) (sym more)
