-- The line of an address by the sequences of kept lines and of functions.
use Rattle.std.proofs.Common.{◌≡◌, ℕ, zero, suc, ◌+◌, ◌<◌, ◌≤◌, inl, inr, ⊎_elim, Bool, true, false, ◌&&◌, List, [], ◌∷◌, ◌++◌, length, get_or, Option, Some, None, option_map, option_and_then, refl, sym, ap, ap₂, ◌∙◌, subst, arith, find, cond, nat_le, nat_lt, ◌==◌, ltb-true, leb-true, lt-ltb, le-leb, if◌then◌else◌}
use Rattle.std.specs.List.{AllByRecursion, AllZip}
use Rattle.std.proofs.lemmas.Bool.{and_parts, and_from, cases_Bool, cases_lt, false_from_ne_true}
use Rattle.coz_types.specs.Image.{ImageParts}
use Rattle.line_index.specs.Changes.{or_else}
use Rattle.line_index.specs.Index.{Index, has_line, position_at}
use Rattle.line_index.proofs.Pieces.{Among, to_among}
use Rattle.line_write.specs.Lines.{first_line, has_address, line_of_sequence}
use Rattle.line_write.specs.Unit.{Sequence}
use Rattle.elf_symbols.specs.declared.symbols.Symbol.{Symbol}
use Rattle.function_lines.specs.ByFunction.{line_by_function, reaches}
use Rattle.line_remap.specs.Marks.{Mark, marked}
use Rattle.line_remap.specs.Runs.{AreKept, AreRuns, IsRun}
use Rattle.function_sequences.specs.Sequences.{AreFunctions, AreSequences, falling, function_line, functions_in, names_in}
use Rattle.line_remap.specs.Sound.{BeginsAt, IsSound}

pub first_line-append : (xs ys : List Sequence) (a : ℕ) → first_line (xs ++ ys) a ≡ or_else (first_line xs a) (first_line ys a)
first_line-append [] ys a = refl
first_line-append (s ∷ xs) ys a = by (has_address a s) (first_line-append xs ys a)
  where
    by : (t : Bool) → first_line (xs ++ ys) a ≡ or_else (first_line xs a) (first_line ys a) → option_map line_of_sequence (cond t (Some s) (find (has_address a) (xs ++ ys))) ≡ or_else (option_map line_of_sequence (cond t (Some s) (find (has_address a) xs))) (first_line ys a)
    by true rest = refl
    by false rest = rest

-- ---- the runs of a line

-- an address with the line lies behind a beginning, and all between have the line
record IsReached (index : Index) (k a : ℕ) : Type 0 where
  start : ℕ
  below : start ≤ a
  begins : BeginsAt index k start
  between : (b : ℕ) → start ≤ b → b ≤ a → has_line index k b ≡ true

only_zero : (index : Index) (k b : ℕ) → b ≤ 0 → has_line index k 0 ≡ true → has_line index k b ≡ true
only_zero index k b le has = let at : 0 ≡ b = omega arith in subst (λ n. has_line index k n ≡ true) at has

reached : (index : Index) (k a : ℕ) → has_line index k a ≡ true → IsReached index k a
reached index k zero has = record {
  start = 0;
  below = omega arith;
  begins = (has, λ b next. absurd (omega arith));
  between = λ b low high. only_zero index k b high has;
}
reached index k (suc a) has = ⊎_elim (λ e. before (reached index k a e)) begins_here (cases_Bool (has_line index k a))
  where
    before : IsReached index k a → IsReached index k (suc a)
    before r =
        let below = r.below in
        record {
          start = r.start;
          below = omega arith;
          begins = r.begins;
          between = λ b low high. ⊎_elim
              (λ (lt : b < suc a). r.between b low (omega arith))
              (λ (le : suc a ≤ b). (let at : suc a ≡ b = omega arith in subst (λ n. has_line index k n ≡ true) at has))
              (cases_lt b (suc a));
        }

    begins_here : has_line index k a ≡ false → IsReached index k (suc a)
    begins_here e = record {
      start = suc a;
      below = omega arith;
      begins = (has, λ b next. (let at : a ≡ b = omega arith in subst (λ n. has_line index k n ≡ false) at e));
      between = λ b low high. (let at : suc a ≡ b = omega arith in subst (λ n. has_line index k n ≡ true) at has);
    }

module _ (index : Index) (m : Mark) (a : ℕ) where
  not_in_run : (entry : ℕ) (s : Sequence) → has_line index m.position a ≡ false → IsRun index m entry s → has_address a s ≡ false
  not_in_run entry s none run = false_from_ne_true (has_address a s) (λ e.
      (let parts = and_parts (nat_le s.address a) (nat_lt a (s.address + s.size)) e in
      let has = run.inside a (leb-true s.address a parts.0) (ltb-true a (s.address + s.size) parts.1) in
      let no : true ≡ false = sym has ∙ none in
      cc))

  none_here : has_line index m.position a ≡ false → (es : List ℕ) (ss : List Sequence) → AllZip (IsRun index m) es ss → first_line ss a ≡ None
  none_here none [] [] all = refl
  none_here none [] (s ∷ ss) all = absurd all
  none_here none (e ∷ es) [] all = absurd all
  none_here none (e ∷ es) (s ∷ ss) all =
      ap (λ t. option_map line_of_sequence (cond t (Some s) (find (has_address a) ss))) (not_in_run e s none all.0)
      ∙ none_here none es ss all.1

  in_run : IsReached index m.position a → (s : Sequence) → (r : IsReached index m.position a) → IsRun index m r.start s → has_address a s ≡ true
  in_run r' s r run =
      let below = r.below in
      let at = run.address in
      and_from (nat_le s.address a) (nat_lt a (s.address + s.size)) (le-leb s.address a (omega arith))
      (lt-ltb a (s.address + s.size) (⊎_elim
      (λ (lt : a < s.address + s.size). lt)
      (λ (le : s.address + s.size ≤ a).
      (let no : true ≡ false = sym (r.between (s.address + s.size) (omega arith) le) ∙ run.end in absurd cc))
      (cases_lt a (s.address + s.size))))

  some_here : (r : IsReached index m.position a) (es : List ℕ) (ss : List Sequence) → AllZip (IsRun index m) es ss → Among r.start es → first_line ss a ≡ Some m.line
  some_here r [] ss all among = absurd among
  some_here r (e ∷ es) [] all among = absurd all
  some_here r (e ∷ es) (s ∷ ss) all (inl same) =
      let run : IsRun index m r.start s = subst (λ n. IsRun index m n s) same all.0 in
      ap (λ t. option_map line_of_sequence (cond t (Some s) (find (has_address a) ss))) (in_run r s r run)
      ∙ ap (λ l. Some l) all.0.line
  some_here r (e ∷ es) (s ∷ ss) all (inr more) = by (has_address a s) (some_here r es ss all.1 more)
    where
      by : (t : Bool) → first_line ss a ≡ Some m.line → option_map line_of_sequence (cond t (Some s) (find (has_address a) ss)) ≡ Some m.line
      by true rest = ap (λ l. Some l) all.0.line
      by false rest = rest

  pub runs_line : IsSound index → m.position < length index.lines → (ss : List Sequence) → AreRuns index m ss → first_line ss a ≡ (if has_line index m.position a then Some m.line else None)
  runs_line sound lt ss runs = ⊎_elim has lacks (cases_Bool (has_line index m.position a))
    where
      has : has_line index m.position a ≡ true → first_line ss a ≡ (if has_line index m.position a then Some m.line else None)
      has e =
          let r = reached index m.position a e in
          let one = (sound.entries m.position r.start lt).1 r.begins in
          some_here r (get_or index.entries m.position []) ss runs (to_among r.start (get_or index.entries m.position []) one.0 one.1 one.2)
          ∙ sym (ap (λ t. if t then Some m.line else None) e)

      lacks : has_line index m.position a ≡ false → first_line ss a ≡ (if has_line index m.position a then Some m.line else None)
      lacks e = none_here e (get_or index.entries m.position []) ss runs ∙ sym (ap (λ t. if t then Some m.line else None) e)

-- ---- kept lines

no_marks : (position : Option ℕ) → None ≡ option_and_then (marked []) position
no_marks None = refl
no_marks (Some k) = refl

one_mark : (m : Mark) (more : List Mark) (position : Option ℕ) → or_else (if (elim position as (λ _. Bool) [ None ↦ false | Some j ↦ j == m.position ]) then Some m.line else None) (option_and_then (marked more) position) ≡ option_and_then (marked (m ∷ more)) position
one_mark m more None = refl
one_mark m more (Some j) = by (j == m.position)
  where
    by : (t : Bool) → or_else (if t then Some m.line else None) (marked more j) ≡ option_map (λ (m : Mark). m.line) (cond t (Some m) (find (λ (m : Mark). j == m.position) more))
    by true = refl
    by false = refl

kept_line : (index : Index) → IsSound index → (a : ℕ) (marks : List Mark) → AllByRecursion (λ (m : Mark). m.position < length index.lines) marks → (all : List Sequence) → AreKept index marks all
    → first_line all a ≡ option_and_then (marked marks) (position_at index a)
kept_line index sound a [] within all none = ap (λ ss. first_line ss a) none ∙ no_marks (position_at index a)
kept_line index sound a (m ∷ more) within all (front, back, whole, runs, rest) =
    ap (λ ss. first_line ss a) whole
    ∙ first_line-append front back a
    ∙ ap₂ or_else (runs_line index m a sound within.0 front runs) (kept_line index sound a more within.1 back rest)
    ∙ one_mark m more (position_at index a)

-- ---- functions

own_line_of : (index : Index) (names : List ℕ) (a : ℕ) (symbols : List Symbol) (all : List Sequence) → AreFunctions index names symbols all
    → first_line all a ≡ option_map (function_line index names) (find (reaches a) symbols)
own_line_of index names a [] [] are = refl
own_line_of index names a [] (s ∷ ss) are = absurd are
own_line_of index names a (f ∷ fs) [] are = absurd are
own_line_of index names a (f ∷ fs) (s ∷ ss) are =
    ap (λ t. option_map line_of_sequence (cond t (Some s) (find (has_address a) ss))) same ∙ by (reaches a f) (own_line_of index names a fs ss are.1)
  where
    same : has_address a s ≡ reaches a f
    same = ap₂ (λ (x n : ℕ). nat_le x a && nat_lt a (x + n)) are.0.address are.0.size

    by : (t : Bool) → first_line ss a ≡ option_map (function_line index names) (find (reaches a) fs) → option_map line_of_sequence (cond t (Some s) (find (has_address a) ss)) ≡ option_map (function_line index names) (cond t (Some f) (find (reaches a) fs))
    by true rest = ap (λ l. Some l) are.0.line
    by false rest = rest

-- ---- all sequences

pub sequences_line : (image : ImageParts) (index : Index) → IsSound index → (marks : List Mark) → AllByRecursion (λ (m : Mark). m.position < length index.lines) marks → (all : List Sequence) → AreSequences image index marks all → (a : ℕ)
    → first_line all a ≡ line_by_function image index marks a
sequences_line image index sound marks within all (kept, own, whole, are, rest) a =
    ap (λ ss. first_line ss a) whole
    ∙ first_line-append kept own a
    ∙ ap₂ or_else (kept_line index sound a marks within kept are) (own_line_of index (names_in image.file) a (falling (functions_in image)) own rest)
