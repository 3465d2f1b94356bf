-- What stands in a word of an opcode is the instruction of that word, and the first of the table's candidates that has it.
use Rattle.std.proofs.Common.{◌≡◌, ℕ, Bool, true, false, cond, List, [], ◌∷◌, ◌++◌, map, Option, Some, None, refl, ap, subst, sym, arith, ◌∙◌}
use Rattle.std.specs.Prelude.{◌&&◌, if◌then◌else◌, IsTrue, ◌==◌, find, filter, ◌≢◌}
use Rattle.std.specs.Option.{option_map, option_and_then}
use Rattle.std.proofs.lemmas.Grind.{common_steps}
use Rattle.rv_decode.specs.declared.Instr.{Instr}
use Rattle.rv_decode.specs.Fields.{part}
use Rattle.rv_decode.specs.Table.{Code, code, is_same_code, operation_with}
use Rattle.rv_decode.specs.Instructions.{HasWord, has_word, operations_at, candidates, instruction_of, IsInstructionOf}
use Rattle.rv_decode.proofs.Codes.{HasCode, operation_has_code}
use Rattle.rv_decode.proofs.Reading.{read, reads}
use Rattle.rv_decode.proofs.Laws.{instruction_has_word}

-- x stands in a list
pub data In {A : Type 0} (x : A) : List A → Type 0 where
  here : {xs : List A} → In x (x ∷ xs)
  there : {y : A} {xs : List A} → In x xs → In x (y ∷ xs)

pub in_left : {A : Type 0} {x : A} {xs : List A} (ys : List A) → In x xs → In x (xs ++ ys)
in_left ys here = here
in_left ys (there p) = there (in_left ys p)

pub in_right : {A : Type 0} {x : A} (xs : List A) {ys : List A} → In x ys → In x (xs ++ ys)
in_right [] p = p
in_right (x ∷ xs) p = there (in_right xs p)

pub in_map : {A B : Type 0} (f : A → B) {x : A} {xs : List A} → In x xs → In (f x) (map f xs)
in_map f here = here
in_map f (there p) = there (in_map f p)

pub in_filter : {A : Type 0} (test : A → Bool) (x : A) (xs : List A) → In x xs → IsTrue (test x) → In x (filter test xs)
in_filter test x _ (here {xs}) t = subst (λ b. In x (cond b (x ∷ filter test xs) (filter test xs))) (sym t) here
in_filter test x _ (there {y} {xs} p) t =
    elim (test y) as (λ b. In x (cond b (y ∷ filter test xs) (filter test xs))) [
      | true ↦ there (in_filter test x xs p t)
      | false ↦ in_filter test x xs p t
    ]

pub found_in : {A : Type 0} (test : A → Bool) (xs : List A) (x : A) → find test xs ≡ Some x → In x xs
found_in test [] x e = absurd (cc)
found_in test (y ∷ ys) x e =
    elim (test y) as (λ b. cond b (Some y) (find test ys) ≡ Some x → In x (y ∷ ys)) [
      | true ↦ λ s. let same : y ≡ x = cc in subst (λ z. In z (y ∷ ys)) same here
      | false ↦ λ s. there (found_in test ys x s)
    ] e

finds : {A : Type 0} (test : A → Bool) (x : A) (xs : List A) → In x xs → IsTrue (test x) → find test xs ≢ None
finds test x _ (here {xs}) t e = let s : Some x ≡ None = sym (ap (λ b. cond b (Some x) (find test xs)) t) ∙ e in cc
finds test x _ (there {y} {xs} p) t e =
    elim (test y) as (λ b. cond b (Some y) (find test xs) ≡ None → ⊥) [
      | true ↦ λ s. cc
      | false ↦ λ s. finds test x xs p t s
    ] e

and_equal : (b : Bool) (m n : ℕ) → IsTrue b → m ≡ n → IsTrue (b && m == n)
and_equal b m n t e = grind (arith, common_steps)

-- an exact answer that stands among the candidates is the table's
pub same_as_table : (w : ℕ) (found : Option Instr) → IsInstructionOf w found → ((i : Instr) → found ≡ Some i → In i (candidates w))
    → found ≡ instruction_of w
same_as_table w found exact listed =
    elim (instruction_of w) as (λ o. instruction_of w ≡ o → found ≡ o) [
      | Some i ↦ λ e. (exact i).1 (instruction_has_word w i e)
      | None ↦ λ e. not_found found exact listed e
    ] refl
  where
    not_found : (found : Option Instr) → IsInstructionOf w found → ((i : Instr) → found ≡ Some i → In i (candidates w))
        → find (has_word w) (candidates w) ≡ None → found ≡ None
    not_found None exact listed e = refl
    not_found (Some i) exact listed e =
        let h : HasWord w i = (exact i).0 refl in
        absurd (finds (has_word w) i (candidates w) (listed i refl) (and_equal _ _ w h.0 h.1) e)

-- what is read and has the word is the word's instruction
pub exact_by : (w : ℕ) (found : Option Instr) → read w ≡ found → ((i : Instr) → found ≡ Some i → HasWord w i) → IsInstructionOf w found
exact_by w found r has i = (has i, λ h. sym r ∙ reads w i h)

-- each answer of a table
module _ {Op : Type 0} (code_of : Op → Code) (ops : List Op) where
  pub fitting_in : (w opcode funct3 funct7 : ℕ) → part w 0 7 ≡ opcode
      → (op : Op) → operation_with code_of ops (code opcode funct3 funct7) ≡ Some op → In op (operations_at code_of ops w)
  fitting_in w opcode funct3 funct7 o op e =
      let c : HasCode (code_of op) opcode funct3 funct7 = operation_has_code code_of ops opcode funct3 funct7 op e in
      let fits : IsTrue ((code_of op).opcode == part w 0 7) = grind (arith, common_steps) in
      let listed : In op ops = found_in (λ x. is_same_code (code_of x) (code opcode funct3 funct7)) ops op e in
      in_filter (λ x. (code_of x).opcode == part w 0 7) op ops listed fits

pub mapped : {Op : Type 0} (make : Op → Instr) (P : Instr → Type 0) (found : Option Op)
    → ((op : Op) → found ≡ Some op → P (make op))
    → (i : Instr) → option_map make found ≡ Some i → P i
mapped make P (Some op) h i e = let same : make op ≡ i = cc in subst P same (h op refl)
mapped make P None h i e = absurd (cc)

-- each answer of a table that passes a test
pub tested : {Op : Type 0} (test : Op → Bool) (make : Op → Instr) (P : Instr → Type 0) (found : Option Op)
    → ((op : Op) → found ≡ Some op → IsTrue (test op) → P (make op))
    → (i : Instr) → option_and_then (λ op. if test op then Some (make op) else None) found ≡ Some i → P i
tested test make P (Some op) h i e =
    elim (test op) as (λ b. test op ≡ b → (if b then Some (make op) else None) ≡ Some i → P i) [
      | true ↦ λ t s. let same : make op ≡ i = cc in subst P same (h op refl t)
      | false ↦ λ t s. absurd (cc)
    ] refl e
tested test make P None h i e = absurd (cc)
