use Rattle.std.proofs.Common.{◌≡◌, ◌<◌, ℕ, zero, suc, ◌+◌, List, [], ◌∷◌, ◌++◌, length, drop, get_or, sym, ap, subst, ◌∙◌, arith, append_assoc}
use Rattle.std.specs.List.{AllByRecursion}
use Rattle.std.proofs.Math.Seq.{drop-cons}
use Rattle.std.proofs.lemmas.List.Elements.{recursion_from_All}
use Rattle.line_write.specs.declared.Sequence.{Sequence as coded}
use Rattle.line_write.specs.Unit.{IsWritable, view, views, spelled, program}
use Rattle.line_write.proofs.program.program.Goals as goal

writable_at : (xs : List coded) (i : ℕ) (x : coded) → AllByRecursion IsWritable (views xs) → i < length xs → x ≡ get_or xs i x → IsWritable (view x)
writable_at [] i x all within is = absurd (omega arith)
writable_at (y ∷ ys) zero x all within is = subst (λ (z : coded). IsWritable (view z)) (sym is) all.0
writable_at (y ∷ ys) (suc i) x all within is = writable_at ys i x all.1 (omega arith) is

pub push_sequence-requires-clause-number : goal.push_sequence-requires-clause-number
push_sequence-requires-clause-number c =
    (writable_at c.args.sequences.now c.loop-sequence.sequence-index c.sequence-item.result (recursion_from_All IsWritable (views c.args.sequences.now) c.requires.writable) c.loop-sequence-test.true c.sequence-item.is).numbered

pub push_sequence-requires-clause-within : goal.push_sequence-requires-clause-within
push_sequence-requires-clause-within c =
    (writable_at c.args.sequences.now c.loop-sequence.sequence-index c.sequence-item.result (recursion_from_All IsWritable (views c.args.sequences.now) c.requires.writable) c.loop-sequence-test.true c.sequence-item.is).within

one_more : (xs : List coded) (i file next : ℕ) (x : coded) (out new all : List ℕ) → i < length xs → x ≡ get_or xs i x → next ≡ suc file → out ++ program file (views (drop i xs)) ≡ all → new ≡ out ++ spelled file (view x) → new ++ program next (views (drop (suc i) xs)) ≡ all
one_more xs i file next x out new all within is after before made =
    let rest = program (suc file) (views (drop (suc i) xs)) in
    let split : drop i xs ≡ x ∷ drop (suc i) xs = drop-cons xs i x within ∙ ap (λ (y : coded). y ∷ drop (suc i) xs) (sym is) in
    ap (λ (n : ℕ). new ++ program n (views (drop (suc i) xs))) after
    ∙ ap (λ (o : List ℕ). o ++ rest) made
    ∙ append_assoc out (spelled file (view x)) rest
    ∙ sym (ap (λ (ys : List coded). out ++ program file (views ys)) split)
    ∙ before

pub loop-sequence-preserved : goal.loop-sequence-preserved
loop-sequence-preserved c =
    let i = c.loop-sequence.sequence-index in
    let next : suc i ≡ i + 1 = omega arith in
    let whole = one_more c.args.sequences.now i c.loop-sequence.file (c.loop-sequence.file + 1) c.sequence-item.result c.loop-sequence.out.items c.push_sequence.new.out.items (program 1 (views c.args.sequences.now)) c.loop-sequence-test.true c.sequence-item.is (omega arith) c.loop-sequence.invariant.1 c.in_ok-push_sequence.ensures in
    (ap (λ (n : ℕ). n + 1) c.loop-sequence.invariant.0, subst (λ (j : ℕ). c.push_sequence.new.out.items ++ program (c.loop-sequence.file + 1) (views (drop j c.args.sequences.now)) ≡ program 1 (views c.args.sequences.now)) next whole)
