-- A source without a fault is assembled to a program.
use Rattle.std.proofs.Common.{◌≡◌, ℕ, zero, suc, ◌+◌, ◌*◌, ◌/◌, ◌%◌, ◌≤◌, ◌<◌, ◌==◌, Bool, true, false, List, [], ◌∷◌, ◌++◌, length, replicate, Option, Some, None, refl, sym, subst, ◌∙◌, arith, length-append, Result, Ok, Err, nat_lt, if◌then◌else◌}
use Rattle.std.specs.Prelude.{IfOk, codes}
use Rattle.std.specs.List.{AllByRecursion}
use Rattle.std.proofs.lemmas.Bool.{ltb-true, eqb-false}
use Rattle.std.proofs.lemmas.List.{length-replicate}
use Rattle.std.proofs.lemmas.List.Elements.{All-from_recursion}
use Rattle.asm_tokens.specs.declared.AsmKind.TheVariants as kinds
use Rattle.rv_asm.specs.declared.AsmFault.{AsmFault}
use Rattle.asm_tokens.specs.declared.form.Section.{Section}
use Rattle.asm_tokens.specs.declared.form.Section.TheVariants as sections
use Rattle.rv_asm.specs.declared.state.Location.{Location}
use Rattle.asm_tokens.specs.Tokens.{lines}
use Rattle.rv_asm.specs.Statements.{Piece, Encoded, BranchTo, JumpTo, AddressTo, AddressOf, Bytes, Zeros, size}
use Rattle.asm_values.specs.Addresses.{entry_address}
use Rattle.rv_asm.specs.Assembled.{Put, State, start, take_lines, target, reach, load_address, bytes_at, Filled, at_line, address, filled_piece, filled_pieces, Program, IsProgram, text_of, content_of, all_bytes, lines_of, text_offset, entry, program, assembled}
use Rattle.rv_asm.proofs.WholeWords.{then_ok, and_ok}
use Rattle.rv_asm.proofs.States.{text_size, content_size, total, IsLine, IsPut, IsRight, start_right, at_line_ok, lines_right}

-- ---- the bytes of the pieces

as_long : (s : State) (from : ℕ) (piece : Piece) → IfOk (bytes_at s from piece) (λ bytes. length bytes ≡ size piece)
unfolding load_address
as_long s from (Encoded w) = refl
as_long s from (BranchTo op rs1 rs2 label) = and_ok (λ (bytes : List ℕ). length bytes ≡ 4) (reach s 13 label from) _ (λ far. refl)
as_long s from (JumpTo rd label) = and_ok (λ (bytes : List ℕ). length bytes ≡ 4) (reach s 21 label from) _ (λ far. refl)
as_long s from (AddressTo rd label) = and_ok (λ (bytes : List ℕ). length bytes ≡ 8) (target s label) _ (λ a. refl)
as_long s from (AddressOf label) = and_ok (λ (bytes : List ℕ). length bytes ≡ 8) (target s label) _ (λ a. refl)
as_long s from (Bytes bytes) = refl
as_long s from (Zeros count) = length-replicate count 0

-- the bytes of a piece, as long as it
abbrev Fills : Put → Filled → Type 0
Fills p f = (bytes : List ℕ) × (length bytes ≡ size p.piece) × (f ≡ record { section = p.location.section; line = p.line; bytes = bytes })

fills : (s : State) (p : Put) → IfOk (filled_piece s p) (Fills p)
fills s p =
    then_ok (λ (bytes : List ℕ). length bytes ≡ size p.piece) (Fills p) (at_line p.line (bytes_at s (address s p.location) p.piece)) _
    (at_line_ok (λ (bytes : List ℕ). length bytes ≡ size p.piece) p.line (bytes_at s (address s p.location) p.piece) (as_long s (address s p.location) p.piece))
    (λ bytes long. (bytes, long, refl))

-- both sections are as long as their pieces, and the words have their lines
record AreFilled (ps : List Put) (fs : List Filled) : Type 0 where
  text : length (all_bytes (text_of fs)) ≡ total text_size ps
  content : length (all_bytes (content_of fs)) ≡ total content_size ps
  words : 4 * length (lines_of fs) ≡ total text_size ps
  lines : AllByRecursion IsLine (lines_of fs)

lines_behind : (n line : ℕ) (more : List ℕ) → IsLine line → AllByRecursion IsLine more → AllByRecursion IsLine (replicate n line ++ more)
lines_behind zero line more is all = all
lines_behind (suc n) line more is all = (is, lines_behind n line more is all)

one_more : (line : ℕ) (section : Section) (offset : ℕ) (piece : Piece) (bytes : List ℕ) (ps : List Put) (fs : List Filled) → length bytes ≡ size piece
    → IsPut (record { line = line; location = record { section = section; offset = offset }; piece = piece }) → AreFilled ps fs
    → AreFilled (record { line = line; location = record { section = section; offset = offset }; piece = piece } ∷ ps) (record { section = section; line = line; bytes = bytes } ∷ fs)
one_more line sections.Text offset piece bytes ps fs long is so_far =
    let whole : size piece % 4 ≡ 0 = is.0 refl in
    let words : 4 * (length bytes / 4) ≡ size piece = omega arith in
    record {
      text = omega (arith, length-append bytes (all_bytes (text_of fs)), so_far.text);
      content = omega (arith, so_far.content);
      words = omega (arith, length-append (replicate (length bytes / 4) line) (lines_of fs), length-replicate (length bytes / 4) line, so_far.words);
      lines = lines_behind (length bytes / 4) line (lines_of fs) is.1 so_far.lines;
    }
one_more line sections.Data offset piece bytes ps fs long is so_far = record {
  text = omega (arith, so_far.text);
  content = omega (arith, length-append bytes (all_bytes (content_of fs)), so_far.content);
  words = omega (arith, so_far.words);
  lines = so_far.lines;
}

all_fill : (s : State) (ps : List Put) → AllByRecursion IsPut ps → IfOk (filled_pieces s ps) (AreFilled ps)
unfolding filled_pieces
all_fill s [] is = record { text = refl; content = refl; words = refl; lines = tt }
all_fill s (p ∷ ps) is =
    then_ok (Fills p) (AreFilled (p ∷ ps)) (filled_piece s p) _ (fills s p) (λ f (bytes, long, same).
    then_ok (AreFilled ps) (AreFilled (p ∷ ps)) (filled_pieces s ps) _ (all_fill s ps is.1) (λ fs so_far.
    subst (λ (g : Filled). AreFilled (p ∷ ps) (g ∷ fs)) (sym same) (one_more p.line p.location.section p.location.offset p.piece bytes ps fs long is.0 so_far)))

-- ---- the entry

abbrev IsEntry : ℕ → ℕ → Type 0
IsEntry size entry = (entry % 4 ≡ 0) × (0x10000 ≤ entry) × (entry < 0x10000 + size)

within : (inside : Bool) (s : State) (offset : ℕ) → nat_lt offset s.text ≡ inside → 0 < s.text → offset % 4 ≡ 0 → IsEntry s.text (if inside then 0x10000 + offset else 0x10000)
within true s offset e some whole = let less : offset < s.text = ltb-true _ _ e in (omega arith, omega arith, omega arith)
within false s offset e some whole = (refl, omega arith, omega arith)

at_place : (section : Section) (offset : ℕ) (s : State) → 0 < s.text → (section ≡ sections.Text → offset % 4 ≡ 0) → IsEntry s.text (entry_address (text_offset (Some (record { section = section; offset = offset }))) s.text)
at_place sections.Text offset s some whole = within (nat_lt offset s.text) s offset refl some (whole refl)
at_place sections.Data offset s some whole = (refl, omega arith, omega arith)

begins : (o : Option Location) (s : State) → 0 < s.text → ((p : Location) → o ≡ Some p → p.section ≡ sections.Text → p.offset % 4 ≡ 0) → IsEntry s.text (entry_address (text_offset o) s.text)
begins None s some whole = (refl, omega arith, omega arith)
begins (Some p) s some whole = at_place p.section p.offset s some (whole p refl)

-- ---- the whole

made : (s : State) (fs : List Filled) → IsRight s → AreFilled s.puts fs → 0 < s.text → IsProgram (program s fs)
made s fs right parts some =
    let start = begins (s.labels (codes "_start")) s some (right.labels_whole (codes "_start")) in
    let text : length (all_bytes (text_of fs)) ≡ s.text = parts.text ∙ right.text_total in
    let content : length (all_bytes (content_of fs)) ≡ s.content = parts.content ∙ right.content_total in
    record {
      some = omega arith;
      text_fits = omega (arith, right.text_fits);
      content_fits = omega (arith, right.content_fits);
      whole = parts.text ∙ sym parts.words;
      lines_fit = All-from_recursion IsLine (lines_of fs) parts.lines;
      entry_whole = start.0;
      entry_starts = start.1;
      entry_within = omega (arith, start.2);
    }

not_empty : (empty : Bool) (s : State) (fs : List Filled) → (s.text == 0) ≡ empty → IsRight s → AreFilled s.puts fs
    → (let read : Result Program AsmFault = if empty then Err (record { kind = kinds.Empty; line = 1; column = 1 }) else Ok (program s fs) in IfOk read IsProgram)
not_empty true s fs e right parts = tt
not_empty false s fs e right parts =
    let other = eqb-false s.text 0 e in
    made s fs right parts (omega (arith, other))

is_program : (source : List ℕ) → IfOk (assembled source) IsProgram
unfolding assembled
is_program source =
    then_ok IsRight IsProgram (take_lines 1 (lines source) start) _ (lines_right 1 (lines source) start (omega arith) start_right) (λ s right.
    then_ok (AreFilled s.puts) IsProgram (filled_pieces s s.puts) _ (all_fill s s.puts right.puts_right) (λ fs parts.
    not_empty (s.text == 0) s fs refl right parts))

-- the result of a call, if the source is assembled to it
pub given : (source : List ℕ) (p : Program) → assembled source ≡ Ok p → IsProgram p
given source p e = subst (λ r. IfOk r IsProgram) e (is_program source)
