-- The bytes of the pieces, one by one.
use Rattle.std.proofs.Common.{◌≡◌, ◌<◌, length, ℕ, ◌+◌, List, [], ◌∷◌, ◌++◌, drop, map, refl, Ok, Err, Result, ap, ap₂, ◌∙◌, sym, slice_index_or, replicate, ◌/◌}
use Rattle.std.proofs.lemmas.List.{append_assoc, append-nil, drop_more}
use Rattle.rv_asm.specs.declared.AsmFault.{AsmFault}
use Rattle.failures.specs.declared.Failure.{Failure}
use Rattle.failures.specs.declared.Failure.TheVariants as faults
use Rattle.asm_tokens.specs.declared.form.Section.{Section}
use Rattle.asm_tokens.specs.declared.form.Section.TheVariants as sections
use Rattle.rv_asm.specs.declared.state.Put.{Put as CodePut}
use Rattle.asm_tokens.specs.declared.line.TokenError.{TokenError}
use Rattle.asm_tokens.specs.declared.line.TokenError.TheVariants as errors
use Rattle.asm_tokens.specs.Tokens.{Read, ◌>>=◌}
use Rattle.rv_asm.specs.Assembled.{State, Filled, filled_piece, filled_pieces, all_bytes, text_of, content_of, lines_of}
use Rattle.failures.specs.Answers.{Fails}
use Rattle.rv_asm.specs.Views.{Steps, Parts, no_parts, with_filled, with_next, all_parts, with_all, put_of}

-- two words, one after the other, unless memory ran out
pub two_words : {U : Type 0} (r : Result U TokenError) (out one two first second : List ℕ) → ◌≡◌ {A = Read (List ℕ)} (Ok (out ++ first)) (Ok one) → Steps r two (Ok (one ++ second)) → Steps r two (Ok (out ++ (first ++ second)))
two_words (Ok u) out one two first second e f =
    let start : out ++ first ≡ one = cc in
    ap Ok (sym (append_assoc out first second)) ∙ ap (λ xs. Ok (xs ++ second)) start ∙ f
two_words (Err errors.Memory) out one two first second e f = tt
two_words (Err (errors.Fault kind column)) out one two first second e f = absurd cc

one_more : (parts : Parts) (section : Section) (line : ℕ) (bytes : List ℕ) (rest : Result (List Filled) AsmFault)
    → with_all parts (rest >>= λ more. Ok (record { section = section; line = line; bytes = bytes } ∷ more)) ≡ with_all (with_filled parts (record { section = section; line = line; bytes = bytes })) rest
one_more parts section line bytes (Err e) = refl
one_more parts sections.Text line bytes (Ok fs) =
    ap₂ (λ text lines. Ok (record { text = text; content = parts.content ++ all_bytes (content_of fs); lines = lines }))
    (sym (append_assoc parts.text bytes (all_bytes (text_of fs))))
    (sym (append_assoc parts.lines (replicate (length bytes / 4) line) (lines_of fs)))
one_more parts sections.Data line bytes (Ok fs) =
    ap (λ content. Ok (record { text = parts.text ++ all_bytes (text_of fs); content = content; lines = parts.lines ++ lines_of fs })) (sym (append_assoc parts.content bytes (all_bytes (content_of fs))))

over : (parts new : Parts) (first : Result Filled AsmFault) (rest : Result (List Filled) AsmFault) → with_next parts first ≡ Ok new
    → with_all parts (first >>= λ f. rest >>= λ more. Ok (f ∷ more)) ≡ with_all new rest
over parts new (Err e) rest h = absurd cc
over parts new (Ok f) rest h =
    let same : with_filled parts f ≡ new = cc in
    one_more parts f.section f.line f.bytes rest ∙ ap (λ p. with_all p rest) same

-- the loop's equation goes on over a piece
pub over_put : (s : State) (ps : List CodePut) (i : ℕ) (p : CodePut) (parts new : Parts) (all : Result Parts AsmFault)
    → i < length ps → p ≡ slice_index_or ps i p → with_next parts (filled_piece s (put_of p)) ≡ Ok new
    → with_all parts (filled_pieces s (map put_of (drop i ps))) ≡ all
    → with_all new (filled_pieces s (map put_of (drop (i + 1) ps))) ≡ all
unfolding filled_pieces
over_put s ps i p parts new all more at h kept =
    sym (over parts new (filled_piece s (put_of p)) (filled_pieces s (map put_of (drop (i + 1) ps))) h)
    ∙ ap (λ xs. with_all parts (filled_pieces s (map put_of xs))) (sym (drop_more ps i p more ∙ ap (λ x. x ∷ drop (i + 1) ps) (sym at)))
    ∙ kept

failed : (parts : Parts) (first : Result Filled AsmFault) (rest : Result (List Filled) AsmFault) (f : AsmFault) → with_next parts first ≡ Err f
    → with_all parts (first >>= λ x. rest >>= λ more. Ok (x ∷ more)) ≡ Err f
failed parts (Err e) rest f h = cc
failed parts (Ok x) rest f h = absurd cc

-- and ends at a fault
pub at_fault : (s : State) (ps : List CodePut) (i : ℕ) (p : CodePut) (parts : Parts) (all : Result Parts AsmFault) (e : Failure AsmFault)
    → i < length ps → p ≡ slice_index_or ps i p → Fails e (with_next parts (filled_piece s (put_of p)))
    → with_all parts (filled_pieces s (map put_of (drop i ps))) ≡ all
    → Fails e all
unfolding filled_pieces
at_fault s ps i p parts all faults.Memory more at h kept = tt
at_fault s ps i p parts all (faults.Fault f) more at h kept =
    sym kept
    ∙ ap (λ xs. with_all parts (filled_pieces s (map put_of xs))) (drop_more ps i p more ∙ ap (λ x. x ∷ drop (i + 1) ps) (sym at))
    ∙ failed parts (filled_piece s (put_of p)) (filled_pieces s (map put_of (drop (i + 1) ps))) f h

pub from_nothing : (read : Result (List Filled) AsmFault) → with_all no_parts read ≡ all_parts read
from_nothing read = refl

pub at_end : (s : State) (parts : Parts) (ps : List CodePut) → ps ≡ [] → with_all parts (filled_pieces s (map put_of ps)) ≡ Ok parts
unfolding filled_pieces
at_end s parts ps e =
    ap (λ xs. with_all parts (filled_pieces s (map put_of xs))) e
    ∙ (λ i. Ok (record { text = append-nil parts.text i; content = append-nil parts.content i; lines = append-nil parts.lines i }))
