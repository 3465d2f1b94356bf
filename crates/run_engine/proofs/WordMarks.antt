-- The marks of a setting, and what they say.
use Rattle.std.proofs.Common.{◌≡◌, ℕ, ◌+◌, ◌-◌, ◌*◌, ◌/◌, ◌%◌, ◌≤◌, ◌<◌, Bool, true, false, not, ◌&&◌, ◌==◌, if◌then◌else◌, nat_le, nat_lt, length, get_or, set, Option, Some, None, refl, sym, ap, subst, ◌∙◌, arith, eqb-true, ◌⊎◌, inl, inr}
use Rattle.std.proofs.lemmas.Bool.{cases_eq}
use Rattle.std.proofs.lemmas.Bool.Decides.{nat_tests}
use Rattle.std.proofs.lemmas.List.{length-set, get_or-set_same, get_or-set_other}
use Rattle.code_words.specs.declared.marks.Mark.{Mark}
use Rattle.code_words.specs.Marks.{MarkMap, no_mark, with_mark, has_word_at, mark_at, is_selected_line, is_quiet, is_quiet_at}
use Rattle.progress_points.specs.Points.{point_of}
use Rattle.run_engine.specs.declared.choice.Setting.{Setting}
use Rattle.run_engine.specs.Run.{is_selecting}
use Rattle.run_engine.specs.Marked.{IsMarked, AreMarks}

-- where a mark is
pub record IsWord (m : MarkMap) (a : ℕ) (mark : Mark) : Type 0 where
  pub low : m.start ≤ a
  pub whole : (a - m.start) % 4 ≡ 0
  pub within : (a - m.start) / 4 < length m.marks
  pub has : get_or m.marks ((a - m.start) / 4) no_mark ≡ mark

some_if : (b : Bool) (given mark : Mark) → (if b then Some given else None) ≡ Some mark → (b ≡ true) × (given ≡ mark)
some_if true given mark e = (refl, (let same : given ≡ mark = cc in same))
some_if false given mark e = absurd (let no : ◌≡◌ {A = Option Mark} None (Some mark) = e in cc)

all_three : (p q r : Bool) → (p && q && r) ≡ true → (p ≡ true) × (q ≡ true) × (r ≡ true)
all_three true true true e = (refl, refl, refl)
all_three true true false e = absurd (let no : false ≡ true = e in cc)
all_three true false r e = absurd (let no : false ≡ true = e in cc)
all_three false q r e = absurd (let no : false ≡ true = e in cc)

low_of : (m n : ℕ) → nat_le m n ≡ true → m ≤ n
low_of m n e = grind (arith, nat_tests)

less_of : (m n : ℕ) → nat_lt m n ≡ true → m < n
less_of m n e = grind (arith, nat_tests)

pub word_of : (m : MarkMap) (a : ℕ) (mark : Mark) → mark_at m a ≡ Some mark → IsWord m a mark
word_of m a mark e =
    let there = some_if (has_word_at m.start (length m.marks) a) (get_or m.marks ((a - m.start) / 4) no_mark) mark e in
    let parts = all_three (nat_le m.start a) ((a - m.start) % 4 == 0) (nat_lt ((a - m.start) / 4) (length m.marks)) there.0 in
    record {
      low = low_of m.start a parts.0;
      whole = eqb-true ((a - m.start) % 4) 0 parts.1;
      within = less_of ((a - m.start) / 4) (length m.marks) parts.2;
      has = there.1;
    }

-- the words before a place are marked
abbrev pub AreMarkedBefore : Setting → MarkMap → ℕ → Type 0
AreMarkedBefore setting m place = (a : ℕ) (mark : Mark) → IsWord m a mark → a < m.start + 4 * place → IsMarked setting a mark

pub none_before : (setting : Setting) (m : MarkMap) → AreMarkedBefore setting m 0
none_before setting m a mark word below = absurd (omega (arith, word.low, below))

module _ (setting : Setting) (m : MarkMap) (place : ℕ) (given : Mark) (within : place < length m.marks) (before : AreMarkedBefore setting m place) (right : IsMarked setting (m.start + 4 * place) given) where
  one_by : (a : ℕ) (mark : Mark) → IsWord (with_mark place given m) a mark → a < m.start + 4 * (place + 1) → (place ≡ (a - m.start) / 4) ⊎ (place ≡ (a - m.start) / 4 → ⊥) → IsMarked setting a mark
  one_by a mark word below (inl same) =
      let there : m.start + 4 * place ≡ a = omega (arith, same, word.low, word.whole) in
      let is : given ≡ mark = sym (get_or-set_same m.marks place given no_mark within) ∙ ap (λ (k : ℕ). get_or (set m.marks place given) k no_mark) same ∙ word.has in
      subst (λ (n : ℕ). IsMarked setting n mark) there (subst (IsMarked setting (m.start + 4 * place)) is right)
  one_by a mark word below (inr other) =
      before a mark
      (record {
        low = word.low;
        whole = word.whole;
        within = subst (λ (n : ℕ). (a - m.start) / 4 < n) (length-set m.marks place given) word.within;
        has = sym (get_or-set_other m.marks place ((a - m.start) / 4) given no_mark (λ e. other (sym e))) ∙ word.has;
      })
      (omega (arith, word.low, word.whole, below, other))

  -- and one more
  pub one_more : AreMarkedBefore setting (with_mark place given m) (place + 1)
  one_more a mark word below = one_by a mark word below (cases_eq place ((a - m.start) / 4))

-- all of them
pub all_marked : (setting : Setting) (m : MarkMap) (place : ℕ) → length m.marks ≤ place → AreMarkedBefore setting m place → AreMarks setting m
all_marked setting m place past before a mark e =
    let word = word_of m a mark e in
    before a mark word (omega (arith, past, word.low, word.within))

-- where all is quiet there is no point, and not the selected line
pub record IsPlain (setting : Setting) (a : ℕ) : Type 0 where
  pub point : point_of setting.points.now a ≡ None
  pub line : is_selecting setting a ≡ false

neither : (b c : Bool) → (not b && not c) ≡ true → (b ≡ false) × (c ≡ false)
neither false false e = (refl, refl)
neither false true e = absurd (let no : false ≡ true = e in cc)
neither true c e = absurd (let no : false ≡ true = e in cc)

pub plain_where : (setting : Setting) (m : MarkMap) (a : ℕ) → AreMarks setting m → is_quiet_at m a ≡ true → IsPlain setting a
plain_where setting m a are quiet = go (mark_at m a) refl quiet
  where
    go : (o : Option Mark) → mark_at m a ≡ o → is_quiet o ≡ true → IsPlain setting a
    go None is q = absurd (let no : false ≡ true = q in cc)
    go (Some mark) is q =
        let both = neither (is_selected_line mark.line) mark.point q in
        let right : IsMarked setting a mark = are a mark is in
        record { point = right.point both.1; line = right.line both.0 }
