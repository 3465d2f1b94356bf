-- Words that were decoded ahead, in a memory whose code is as at first.
use Rattle.std.proofs.Common.{ℕ, ◌≡◌, ◌+◌, ◌*◌, ◌<◌, ◌≤◌, Bool, true, false, List, length, get_or, set, Some, arith, refl, sym, ap, ap₂, subst, ◌∙◌, ⊎_elim}
use Rattle.std.proofs.lemmas.Bool.{cases_eq}
use Rattle.std.proofs.lemmas.List.{get_or-set_same, get_or-set_other}
use Rattle.coz_types.specs.Image.{ImageParts}
use Rattle.guest_memory.specs.declared.Layout.{Layout}
use Rattle.guest_memory.specs.Memory.{MemoryMap, first_memory, fetch}
use Rattle.rv_execute.specs.Execution.{Setting, Executed}
use Rattle.hart_steps.specs.declared.code.Word.{Word}
use Rattle.hart_steps.specs.Words.{IsWord, IsWordAt}
use Rattle.hart_steps.specs.Code.{CodeMap, IsCodeOf, IsIntact, AreWordsFrom, AreDecoded}
use Rattle.hart_steps.specs.Steps.{step}
use Rattle.hart_steps.proofs.AsFirst.{as_first}
use Rattle.hart_steps.proofs.Unstored.{word-keeps, step-regions}

-- one word more is decoded
pub one_word_more : (m : MemoryMap) (start k : ℕ) (words : List Word) (w : Word) → AreWordsFrom m start k words → k < length words → IsWordAt m (start + 4 * k) w → AreWordsFrom m start (k + 1) (set words k w)
one_word_more m start k words w so_far inside at j d below =
    ⊎_elim
    (λ (e : j ≡ k).
    subst (λ (x : Word). IsWordAt m (start + 4 * j) x) (sym (ap (λ (q : ℕ). get_or (set words k w) q d) e ∙ get_or-set_same words k w d inside))
    (subst (λ (q : ℕ). IsWordAt m (start + 4 * q) w) (sym e) at))
    (λ (n : j ≡ k → ⊥). subst (λ (x : Word). IsWordAt m (start + 4 * j) x) (sym (get_or-set_other words k j w d n)) (so_far j d (omega (arith, below, n))))
    (cases_eq j k)

-- the word of a place is what stands at its address
pub word_intact : (code : CodeMap) (words : List Word) (m : MemoryMap) (a k : ℕ) (w d : Word) → AreDecoded code words → IsCodeOf code m → IsIntact code m → k < code.count → code.start + 4 * k ≡ a → w ≡ get_or words k d → IsWordAt m a w
word_intact code words m a k w d decoded of intact below place is =
    let first : MemoryMap = first_memory code.image code.layout in
    let at : IsWordAt first (code.start + 4 * k) (get_or words k d) = decoded.each k d below in
    let same : fetch m a ≡ fetch first a =
    as_first m code.start (4 * code.count) a intact (omega (arith, place)) (omega (arith, place, below))
    ∙ ap₂ (λ (i : ImageParts) (l : Layout). fetch (first_memory i l) a) (sym of.image) (sym of.layout) in
    record {
      fetched = same ∙ ap (λ (b : ℕ). fetch first b) (sym place) ∙ at.fetched ∙ ap (λ (x : Word). Some x.raw) (sym is);
      is = subst (λ (x : Word). IsWord x) (sym is) at.is;
    }

by_case : {P : Type 0} (b : Bool) → (b ≡ true → P) → (b ≡ false → P) → P
by_case true if_so if_not = if_so refl
by_case false if_so if_not = if_not refl

-- code that was intact before a word was executed is so if it was looked at after each store
pub still_intact : (h : ℕ) (code : CodeMap) (s : Setting) (word : Word) (e : Executed) → e ≡ step h s → IsWordAt s.memory s.hart.pc word → IsIntact code s.memory → (word.stores ≡ true → IsIntact code e.setting.memory) → IsIntact code e.setting.memory
still_intact h code s word e is at intact after =
    by_case word.stores after
    (λ none. subst (λ (m : MemoryMap). IsIntact code m) (sym (ap (λ (x : Executed). x.setting.memory) is ∙ word-keeps h s word at none)) intact)

pub still_code : (h : ℕ) (code : CodeMap) (s : Setting) (e : Executed) → e ≡ step h s → IsCodeOf code s.memory → IsCodeOf code e.setting.memory
still_code h code s e is of =
    let kept = step-regions h s in
    record {
      image = of.image ∙ sym (ap (λ (x : Executed). x.setting.memory.image) is ∙ kept.0);
      layout = of.layout ∙ sym (ap (λ (x : Executed). x.setting.memory.layout) is ∙ kept.1);
    }
