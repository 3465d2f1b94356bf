-- What the lines so far have made is right: whole words in the text, sections within their limit, labels of the text at words.
use Rattle.std.proofs.Common.{◌≡◌, ℕ, ◌+◌, ◌-◌, ◌^◌, ◌%◌, ◌≤◌, Bool, true, false, List, [], ◌∷◌, ◌++◌, Option, Some, None, refl, sym, ap, ◌∙◌, arith, Result, Ok, Err, nat_lt, nat_le, if◌then◌else◌}
use Rattle.std.specs.Prelude.{IfOk, bytes_eq, is_some, not, position}
use Rattle.std.specs.Map.{update}
use Rattle.std.specs.List.{AllByRecursion}
use Rattle.std.proofs.lemmas.Bool.{ltb-false, leb-true}
use Rattle.asm_tokens.specs.declared.AsmKind.TheVariants as kinds
use Rattle.asm_tokens.specs.declared.form.Form.{Form}
use Rattle.asm_tokens.specs.declared.form.Section.{Section}
use Rattle.asm_tokens.specs.declared.form.Section.TheVariants as sections
use Rattle.rv_asm.specs.declared.lines.TheConstants.{MAX_LINES}
use Rattle.rv_asm.specs.declared.state.TheConstants.{MAX_SECTION}
use Rattle.rv_asm.specs.declared.state.Location.{Location}
use Rattle.asm_tokens.specs.Tokens.{Read, wrong, ◌>>=◌, Placed, tokens, is_allowed}
use Rattle.rv_asm.specs.Statements.{Piece, Zeros, Statement, Puts, Aligns, Enters, size, section_of, statement}
use Rattle.asm_values.specs.Addresses.{up_to_multiple}
use Rattle.rv_asm.specs.Assembled.{Put, State, start, section_length, next_location, with_label, with_more, with_piece, with_pieces, with_effect, is_in_place, form_named, name_in, label_in, with_statement, take_tokens, check, byte_check, take_line, at_line, take_lines}
use Rattle.rv_asm.proofs.WholeWords.{then_ok, and_ok, IsWhole, IsCode, code_stands}

abbrev pub text_size : Put → ℕ
text_size p = elim (p.location.section) [ sections.Text ↦ size p.piece | sections.Data ↦ 0 ]

abbrev pub content_size : Put → ℕ
content_size p = elim (p.location.section) [ sections.Text ↦ 0 | sections.Data ↦ size p.piece ]

abbrev pub total : (Put → ℕ) → List Put → ℕ
total f [] = 0
total f (p ∷ ps) = f p + total f ps

total_more : (f : Put → ℕ) (ps : List Put) (p : Put) → total f (ps ++ p ∷ []) ≡ total f ps + f p
total_more f [] p = omega arith
total_more f (q ∷ ps) p = omega (arith, total_more f ps p)

abbrev pub IsLine : ℕ → Type 0
IsLine line = (1 ≤ line) × (line ≤ MAX_LINES)

abbrev pub IsPut : Put → Type 0
IsPut p = (p.location.section ≡ sections.Text → IsWhole p.piece) × IsLine p.line

all_more : (ps : List Put) (p : Put) → AllByRecursion IsPut ps → IsPut p → AllByRecursion IsPut (ps ++ p ∷ [])
all_more [] p all is = (is, tt)
all_more (q ∷ ps) p all is = (all.0, all_more ps p all.1 is)

pub record IsRight (s : State) : Type 0 where
  pub text_whole : s.text % 4 ≡ 0
  pub text_fits : s.text ≤ MAX_SECTION
  pub content_fits : s.content ≤ MAX_SECTION
  pub labels_whole : (name : List ℕ) (p : Location) → s.labels name ≡ Some p → p.section ≡ sections.Text → p.offset % 4 ≡ 0
  pub text_total : total text_size s.puts ≡ s.text
  pub content_total : total content_size s.puts ≡ s.content
  pub puts_right : AllByRecursion IsPut s.puts

pub start_right : IsRight start
start_right = record {
  text_whole = refl;
  text_fits = omega arith;
  content_fits = omega arith;
  labels_whole = λ name p e. absurd cc;
  text_total = refl;
  content_total = refl;
  puts_right = tt;
}

-- ---- a piece

-- right, and in the same section
abbrev Keeps : Section → State → Type 0
Keeps section s = IsRight s × (s.section ≡ section)

with_more_right : (section : Section) (s : State) (line : ℕ) (piece : Piece) → IsLine line → IsRight s → (section ≡ sections.Text → IsWhole piece)
    → section_length (record s { section = section }) + size piece ≤ MAX_SECTION
    → Keeps section (with_more (size piece) (record s { section = section; puts = s.puts ++ record { line = line; location = next_location (record s { section = section }); piece = piece } ∷ [] }))
with_more_right sections.Text s line piece is right whole room =
    let p : Put = record { line = line; location = record { section = sections.Text; offset = s.text }; piece = piece } in
    let words : size piece % 4 ≡ 0 = whole refl in
    let with_more_whole : (s.text + size piece) % 4 ≡ 0 = omega (arith, right.text_whole) in (
      record {
        text_whole = with_more_whole;
        text_fits = room;
        content_fits = right.content_fits;
        labels_whole = right.labels_whole;
        text_total = omega (arith, total_more text_size s.puts p, right.text_total);
        content_total = omega (arith, total_more content_size s.puts p, right.content_total);
        puts_right = all_more s.puts p right.puts_right (whole, is);
      },
      refl,
    )
with_more_right sections.Data s line piece is right whole room =
    let p : Put = record { line = line; location = record { section = sections.Data; offset = s.content }; piece = piece } in (
      record {
        text_whole = right.text_whole;
        text_fits = right.text_fits;
        content_fits = room;
        labels_whole = right.labels_whole;
        text_total = omega (arith, total_more text_size s.puts p, right.text_total);
        content_total = omega (arith, total_more content_size s.puts p, right.content_total);
        puts_right = all_more s.puts p right.puts_right (whole, is);
      },
      refl,
    )

placed_by : (much : Bool) (line column : ℕ) (piece : Piece) (s : State) → nat_lt MAX_SECTION (section_length s + size piece) ≡ much → IsLine line → IsRight s → (s.section ≡ sections.Text → IsWhole piece)
    → IfOk (if much then wrong kinds.Much column else Ok (with_more (size piece) (record s { puts = s.puts ++ record { line = line; location = next_location s; piece = piece } ∷ [] }))) (Keeps s.section)
placed_by true line column piece s e is right whole = tt
placed_by false line column piece s e is right whole = with_more_right s.section s line piece is right whole (ltb-false _ _ e)

piece_right : (line column : ℕ) (piece : Piece) (s : State) → IsLine line → IsRight s → (s.section ≡ sections.Text → IsWhole piece) → IfOk (with_piece line column piece s) (Keeps s.section)
piece_right line column piece s is right whole = placed_by (nat_lt MAX_SECTION (section_length s + size piece)) line column piece s refl is right whole

pieces_right : (line column : ℕ) (pieces : List Piece) (s : State) → IsLine line → IsRight s → (s.section ≡ sections.Text → AllByRecursion IsWhole pieces) → IfOk (with_pieces line column pieces s) IsRight
unfolding with_pieces
pieces_right line column [] s is right whole = right
pieces_right line column (piece ∷ pieces) s is right whole =
    then_ok (Keeps s.section) IsRight (with_piece line column piece s) _ (piece_right line column piece s is right (λ e. (whole e).0))
    (λ more kept. pieces_right line column pieces more is kept.0 (λ e. (whole (sym kept.1 ∙ e)).1))

-- ---- a statement

entered : (s : State) (section : Section) → IsRight s → IsRight (record s { section = section })
entered s section right = record {
  text_whole = right.text_whole;
  text_fits = right.text_fits;
  content_fits = right.content_fits;
  labels_whole = right.labels_whole;
  text_total = right.text_total;
  content_total = right.content_total;
  puts_right = right.puts_right;
}

first_of : {A E : Type 0} (P Q : A → Type 0) (r : Result A E) → ((x : A) → P x → Q x) → IfOk r P → IfOk r Q
first_of P Q (Ok x) all is = all x is
first_of P Q (Err e) all is = tt

all_ok : {A E : Type 0} (P : A → Type 0) (r : Result A E) → ((x : A) → P x) → IfOk r P
all_ok P (Ok x) all = all x
all_ok P (Err e) all = tt

with_effect_right : (line column : ℕ) (what : Statement) (s : State) → IsLine line → IsRight s → (s.section ≡ sections.Text → IsCode what) → IfOk (with_effect line column what s) IsRight
with_effect_right line column (Puts pieces) s is right code = pieces_right line column pieces s is right code
with_effect_right line column (Aligns bits) s is right code =
    let zeros : Piece = Zeros (up_to_multiple (2 ^ bits) (section_length s) - section_length s) in
    first_of (Keeps s.section) IsRight (with_piece line column zeros s) (λ t kept. kept.0) (piece_right line column zeros s is right (λ e. absurd {0} (code e)))
with_effect_right line column (Enters section) s is right code = entered s section right

in_section : (section : Section) (end : ℕ) (form : Form) (ts : List Placed) → is_in_place (section_of form) section ≡ true → IfOk (statement end form ts) (λ what. section ≡ sections.Text → IsCode what)
in_section sections.Text end form ts stands = first_of IsCode (λ what. sections.Text ≡ sections.Text → IsCode what) (statement end form ts) (λ what code e. code) (code_stands end form ts stands)
in_section sections.Data end form ts stands = all_ok (λ what. sections.Data ≡ sections.Text → IsCode what) (statement end form ts) (λ what e. absurd cc)

stands_right : (stands : Bool) (form : Form) (line end : ℕ) (t : Placed) (ts : List Placed) (s : State) → is_in_place (section_of form) s.section ≡ stands → IsLine line → IsRight s
    → IfOk (elim stands as (λ b. Read State) [ false ↦ wrong kinds.Section t.column | true ↦ statement end form ts >>= λ what. with_effect line t.column what s ]) IsRight
stands_right false form line end t ts s e is right = tt
stands_right true form line end t ts s e is right =
    then_ok (λ what. s.section ≡ sections.Text → IsCode what) IsRight (statement end form ts) _ (in_section s.section end form ts e) (λ what code. with_effect_right line t.column what s is right code)

form_named_right : (o : Option Form) (line end : ℕ) (t : Placed) (ts : List Placed) (s : State) → IsLine line → IsRight s
    → IfOk (elim o as (λ x. Read State) [
      | None ↦ wrong kinds.Name t.column
      | Some form ↦ elim (is_in_place (section_of form) s.section) [ false ↦ wrong kinds.Section t.column | true ↦ statement end form ts >>= λ what. with_effect line t.column what s ]
    ]) IsRight
form_named_right None line end t ts s is right = tt
form_named_right (Some form) line end t ts s is right = stands_right (is_in_place (section_of form) s.section) form line end t ts s refl is right

with_statement_right : (line end : ℕ) (t : Placed) (ts : List Placed) (s : State) → IsLine line → IsRight s → IfOk (with_statement line end t ts s) IsRight
with_statement_right line end t ts s is right = form_named_right (form_named (name_in t.token)) line end t ts s is right

-- ---- a label

at_name : (same : Bool) (section_length p : Location) (old : Option Location) → (section_length.section ≡ sections.Text → section_length.offset % 4 ≡ 0) → (old ≡ Some p → p.section ≡ sections.Text → p.offset % 4 ≡ 0)
    → (if same then Some section_length else old) ≡ Some p → p.section ≡ sections.Text → p.offset % 4 ≡ 0
at_name true section_length p old whole others e text =
    let same : section_length ≡ p = cc in
    ap (λ (q : Location). q.offset % 4) (sym same) ∙ whole (ap (λ (q : Location). q.section) same ∙ text)
at_name false section_length p old whole others e text = others e text

section_length_whole : (section : Section) (s : State) → IsRight s → section ≡ sections.Text → section_length (record s { section = section }) % 4 ≡ 0
section_length_whole sections.Text s right e = right.text_whole
section_length_whole sections.Data s right e = absurd cc

labelled_right : (there : Bool) (name : List ℕ) (column : ℕ) (s : State) → IsRight s → IfOk (if there then wrong kinds.Twice column else Ok (record s { labels = update bytes_eq s.labels name (Some (next_location s)) })) IsRight
labelled_right true name column s right = tt
labelled_right false name column s right = record {
  text_whole = right.text_whole;
  text_fits = right.text_fits;
  content_fits = right.content_fits;
  labels_whole = λ q p e text. at_name (bytes_eq name q) (next_location s) p (s.labels q) (section_length_whole s.section s right) (right.labels_whole q p) e text;
  text_total = right.text_total;
  content_total = right.content_total;
  puts_right = right.puts_right;
}

label_right : (name : List ℕ) (column : ℕ) (s : State) → IsRight s → IfOk (with_label name column s) IsRight
label_right name column s right = labelled_right (is_some (s.labels name)) name column s right

-- ---- lines

tokens_right : (line end : ℕ) (ts : List Placed) (s : State) → IsLine line → IsRight s → IfOk (take_tokens line end ts s) IsRight
unfolding take_tokens
tokens_right line end [] s is right = right
tokens_right line end (t ∷ []) s is right = with_statement_right line end t [] s is right
tokens_right line end (t ∷ c ∷ ts) s is right =
    elim (label_in t.token c.token) as (λ o. IfOk (elim o as (λ x. Read State) [
      | Some name ↦ with_label name t.column s >>= λ more. take_tokens line end ts more
      | None ↦ with_statement line end t (c ∷ ts) s
    ]) IsRight) [
      | Some name ↦ then_ok IsRight IsRight (with_label name t.column s) _ (label_right name t.column s right) (λ more kept. tokens_right line end ts more is kept)
      | None ↦ with_statement_right line end t (c ∷ ts) s is right
    ]

few_by : (few : Bool) (n : ℕ) → nat_le n MAX_LINES ≡ few → IfOk (check few kinds.Lines 1) (λ b. n ≤ MAX_LINES)
few_by true n e = leb-true _ _ e
few_by false n e = tt

line_right : (n : ℕ) (line : List ℕ) (s : State) → 1 ≤ n → IsRight s → IfOk (take_line n line s) IsRight
line_right n line s some right =
    then_ok (λ b. n ≤ MAX_LINES) IsRight (check (nat_le n MAX_LINES) kinds.Lines 1) _ (few_by (nat_le n MAX_LINES) n refl) (λ b few.
    and_ok IsRight (byte_check (position (λ b. not (is_allowed b)) line)) _ (λ allowed.
    and_ok IsRight (tokens line) _ (λ ts. tokens_right n _ ts s (some, few) right)))

pub at_line_ok : {A : Type 0} (P : A → Type 0) (n : ℕ) (r : Read A) → IfOk r P → IfOk (at_line n r) P
at_line_ok P n (Ok x) is = is
at_line_ok P n (Err spot) is = tt

pub lines_right : (n : ℕ) (lines : List (List ℕ)) (s : State) → 1 ≤ n → IsRight s → IfOk (take_lines n lines s) IsRight
unfolding take_lines
lines_right n [] s some right = right
lines_right n (line ∷ more) s some right =
    then_ok IsRight IsRight (at_line n (take_line n line s)) _ (at_line_ok IsRight n (take_line n line s) (line_right n line s some right)) (λ t kept. lines_right (n + 1) more t (omega arith) kept)
