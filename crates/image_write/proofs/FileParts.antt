-- Where the parts of a written file lie.
use Rattle.std.proofs.Common.{◌≡◌, ℕ, ◌+◌, ◌-◌, ◌≤◌, ◌<◌, ◌^◌, Bool, true, false, List, [], ◌++◌, length, replicate, sym, ap, subst, ◌∙◌, arith, append_assoc, length-append, if◌then◌else◌}
use Rattle.std.proofs.lemmas.List.{length-replicate, append-nil}
use Rattle.elf_load.specs.declared.tables.Segment.{Segment}
use Rattle.elf_load.specs.declared.tables.Section.{Section}
use Rattle.elf_load.specs.Tables.{segment_at, section_at}
use Rattle.asm_values.specs.Addresses.{up_to_multiple}
use Rattle.rv_asm.specs.Assembled.{Program, IsProgram}
use Rattle.image_write.specs.File.{filled_up, has_content, whole_pages, text_room, content_place, unit_place, names_place, names, names_end, headers_place, segment_count, file_header, segment, segments, section, sections, front, file_with}
use Rattle.image_write.proofs.Lengths.{length-word, length-double}
use Rattle.image_write.proofs.Fronts.{length-file_header, length-segment, headers_short}
use Rattle.image_write.proofs.Fields.{IsHeaded, headed, loaded_header, section_header, segment_read, section_read}

abbrev pub text_header : Program → Segment
text_header p = loaded_header 64 5 4096 0x10000 (length p.text)

abbrev pub data_header : Program → Segment
data_header p = loaded_header 120 6 (4096 + whole_pages p) (0x10000 + whole_pages p) (length p.content)

-- the section headers, from the first one's offset on
abbrev pub no_section : List ℕ → Program → Section
no_section unit p = section_header (headers_place unit p) 0 0 0 0 0

abbrev pub text_section : List ℕ → Program → Section
text_section unit p = section_header (headers_place unit p + 64) 1 1 6 4096 (length p.text)

abbrev pub data_section : List ℕ → Program → Section
data_section unit p = section_header (headers_place unit p + 64 + 64) 7 1 3 (content_place p) (length p.content)

abbrev pub line_section : List ℕ → Program → Section
line_section unit p = section_header (headers_place unit p + 64 + 64 + 64) 13 1 0 (unit_place p) (length unit)

abbrev pub names_section : List ℕ → Program → Section
names_section unit p = section_header (headers_place unit p + 64 + 64 + 64 + 64) 25 3 0 (names_place unit p) 35

-- what is read of the file
pub record IsLaid (unit : List ℕ) (p : Program) (file : List ℕ) : Type 0 where
  pub is_headed : IsHeaded file p.entry (headers_place unit p) (segment_count p)
  pub is_long : length file ≡ headers_place unit p + 320
  pub text_read : segment_at file 64 ≡ text_header p
  pub data_read : has_content p ≡ true → segment_at file 120 ≡ data_header p
  pub section_0 : section_at file (headers_place unit p) ≡ no_section unit p
  pub section_1 : section_at file (headers_place unit p + 64) ≡ text_section unit p
  pub section_2 : section_at file (headers_place unit p + 64 + 64) ≡ data_section unit p
  pub section_3 : section_at file (headers_place unit p + 64 + 64 + 64) ≡ line_section unit p
  pub section_4 : section_at file (headers_place unit p + 64 + 64 + 64 + 64) ≡ names_section unit p

-- ---- lengths

length-filled_up : (n : ℕ) (bytes : List ℕ) → length bytes ≤ n → length (filled_up n bytes) ≡ n
length-filled_up n bytes fits = omega (arith, length-append bytes (replicate (n - length bytes) 0), length-replicate {A = ℕ} (n - length bytes) 0)

room_by : (content : Bool) (n : ℕ) → n ≤ (if content then up_to_multiple 4096 n else n)
room_by true n = omega arith
room_by false n = omega arith

room_most : (content : Bool) (n : ℕ) → (if content then up_to_multiple 4096 n else n) ≤ n + 4095
room_most true n = omega arith
room_most false n = omega arith

pub in_room : (p : Program) → length p.text ≤ text_room p
in_room p = room_by (has_content p) (length p.text)

pub small_room : (p : Program) → text_room p ≤ length p.text + 4095
small_room p = room_most (has_content p) (length p.text)

few_segments : (content : Bool) → (if content then 2 else 1) < 2 ^ 16
few_segments true = omega arith
few_segments false = omega arith

length-front : (unit : List ℕ) (p : Program) → length (front unit p) ≡ 4096
unfolding front
length-front unit p = length-filled_up 4096 (file_header p.entry (headers_place unit p) (segment_count p) ++ segments p) (headers_short p.entry (headers_place unit p) (segment_count p) p)

pub length-section : (name kind flags offset size align : ℕ) → length (section name kind flags offset size align) ≡ 64
unfolding section
length-section name kind flags offset size align = simp (length-append, length-word, length-double)

-- what is before the unit, and before the section headers
abbrev pub before_unit : List ℕ → Program → List ℕ
before_unit unit p = front unit p ++ filled_up (text_room p) p.text ++ p.content

abbrev pub before_sections : List ℕ → Program → List ℕ
before_sections unit p = before_unit unit p ++ unit ++ names ++ replicate (headers_place unit p - names_end unit p) 0

pub length-before_unit : (unit : List ℕ) (p : Program) → length (before_unit unit p) ≡ unit_place p
length-before_unit unit p =
    omega (arith, length-append (front unit p ++ filled_up (text_room p) p.text) p.content, length-append (front unit p) (filled_up (text_room p) p.text), length-front unit p, length-filled_up (text_room p) p.text (in_room p))

length-before_sections : (unit : List ℕ) (p : Program) → length (before_sections unit p) ≡ headers_place unit p
length-before_sections unit p =
    let gap : List ℕ = replicate (headers_place unit p - names_end unit p) 0 in
    omega (arith, length-append (before_unit unit p ++ unit ++ names) gap, length-append (before_unit unit p ++ unit) names, length-append (before_unit unit p) unit, length-before_unit unit p, length-replicate {A = ℕ} (headers_place unit p - names_end unit p) 0)

-- ---- the same bytes, apart at other places

from_front : (h s f t c u n z e : List ℕ) → (h ++ s ++ f) ++ t ++ c ++ u ++ n ++ z ++ e ≡ h ++ (s ++ (f ++ (t ++ (c ++ (u ++ (n ++ (z ++ e)))))))
from_front h s f t c u n z e = simp append_assoc

at_first : (h a d r : List ℕ) → h ++ ((a ++ d) ++ r) ≡ h ++ (a ++ (d ++ r))
at_first h a d r = simp append_assoc

at_second : (h a d r : List ℕ) → h ++ ((a ++ d) ++ r) ≡ (h ++ a) ++ (d ++ r)
at_second h a d r = simp append_assoc

at_0 : (x a b c d e : List ℕ) → x ++ (a ++ b ++ c ++ d ++ e) ≡ x ++ (a ++ (b ++ c ++ d ++ e))
at_0 x a b c d e = simp append_assoc

at_1 : (x a b c d e : List ℕ) → x ++ (a ++ b ++ c ++ d ++ e) ≡ (x ++ a) ++ (b ++ (c ++ d ++ e))
at_1 x a b c d e = simp append_assoc

at_2 : (x a b c d e : List ℕ) → x ++ (a ++ b ++ c ++ d ++ e) ≡ (x ++ a ++ b) ++ (c ++ (d ++ e))
at_2 x a b c d e = simp append_assoc

at_3 : (x a b c d e : List ℕ) → x ++ (a ++ b ++ c ++ d ++ e) ≡ (x ++ a ++ b ++ c) ++ (d ++ e)
at_3 x a b c d e = simp append_assoc

at_4 : (x a b c d e : List ℕ) → x ++ (a ++ b ++ c ++ d ++ e) ≡ (x ++ a ++ b ++ c ++ d) ++ (e ++ [])
at_4 x a b c d e = simp (append_assoc, append-nil)

-- ---- the program headers

abbrev text_bytes : Program → List ℕ
text_bytes p = segment 5 4096 0x10000 (length p.text)

abbrev data_bytes : Program → List ℕ
data_bytes p = segment 6 (4096 + whole_pages p) (0x10000 + whole_pages p) (length p.content)

segments_first : (b : Bool) (h t d r : List ℕ) → h ++ ((t ++ (if b then d else [])) ++ r) ≡ h ++ (t ++ ((if b then d else []) ++ r))
segments_first b h t d r = at_first h t (if b then d else []) r

segments_second : (b : Bool) (h t d r : List ℕ) → b ≡ true → h ++ ((t ++ (if b then d else [])) ++ r) ≡ (h ++ t) ++ (d ++ r)
segments_second true h t d r e = at_second h t d r
segments_second false h t d r e = absurd cc

read_text : (h r : List ℕ) (p : Program) → length h ≡ 64 → length p.text ≤ 1048576 → segment_at (h ++ (segments p ++ r)) 64 ≡ text_header p
unfolding segments
read_text h r p at fits =
    ap (λ f. segment_at f 64) (segments_first (has_content p) h (text_bytes p) (data_bytes p) r)
    ∙ segment_read h ((if has_content p then data_bytes p else []) ++ r) 64 5 4096 0x10000 (length p.text) at (omega arith) (omega arith) (omega arith) (omega arith)

read_data : (h r : List ℕ) (p : Program) → length h ≡ 64 → length p.text ≤ 1048576 → length p.content ≤ 1048576 → has_content p ≡ true → segment_at (h ++ (segments p ++ r)) 120 ≡ data_header p
unfolding segments
read_data h r p at fits small some =
    ap (λ f. segment_at f 120) (segments_second (has_content p) h (text_bytes p) (data_bytes p) r some)
    ∙ segment_read (h ++ text_bytes p) r 120 6 (4096 + whole_pages p) (0x10000 + whole_pages p) (length p.content) (omega (arith, length-append h (text_bytes p), length-segment 5 4096 0x10000 (length p.text))) (omega arith) (omega arith) (omega arith) (omega arith)

-- ---- the section headers

module _ (unit : List ℕ) (p : Program) (x : List ℕ) where
  abbrev s0 : List ℕ
  s0 = section 0 0 0 0 0 0

  abbrev s1 : List ℕ
  s1 = section 1 1 6 4096 (length p.text) 4

  abbrev s2 : List ℕ
  s2 = section 7 1 3 (content_place p) (length p.content) 8

  abbrev s3 : List ℕ
  s3 = section 13 1 0 (unit_place p) (length unit) 1

  abbrev s4 : List ℕ
  s4 = section 25 3 0 (names_place unit p) (length names) 1

  module _ (at : length x ≡ headers_place unit p) (text : length p.text ≤ 1048576) (content : length p.content ≤ 1048576) (small : length unit < 2 ^ 33) where
    read_0 : section_at (x ++ sections unit p) (headers_place unit p) ≡ no_section unit p
    unfolding sections
    read_0 = ap (λ f. section_at f (headers_place unit p)) (at_0 x s0 s1 s2 s3 s4) ∙ section_read x (s1 ++ s2 ++ s3 ++ s4) (headers_place unit p) 0 0 0 0 0 0 at (omega arith) (omega arith) (omega arith) (omega arith) (omega arith)

    one : length (x ++ s0) ≡ headers_place unit p + 64
    one = omega (arith, at, length-append x s0, length-section 0 0 0 0 0 0)

    two : length (x ++ s0 ++ s1) ≡ headers_place unit p + 64 + 64
    two = omega (arith, one, length-append (x ++ s0) s1, length-section 1 1 6 4096 (length p.text) 4)

    three : length (x ++ s0 ++ s1 ++ s2) ≡ headers_place unit p + 64 + 64 + 64
    three = omega (arith, two, length-append (x ++ s0 ++ s1) s2, length-section 7 1 3 (content_place p) (length p.content) 8)

    four : length (x ++ s0 ++ s1 ++ s2 ++ s3) ≡ headers_place unit p + 64 + 64 + 64 + 64
    four = omega (arith, three, length-append (x ++ s0 ++ s1 ++ s2) s3, length-section 13 1 0 (unit_place p) (length unit) 1)

    read_1 : section_at (x ++ sections unit p) (headers_place unit p + 64) ≡ text_section unit p
    unfolding sections
    read_1 = ap (λ f. section_at f (headers_place unit p + 64)) (at_1 x s0 s1 s2 s3 s4) ∙ section_read (x ++ s0) (s2 ++ s3 ++ s4) (headers_place unit p + 64) 1 1 6 4096 (length p.text) 4 one (omega arith) (omega arith) (omega arith) (omega arith) (omega (arith, text))

    read_2 : section_at (x ++ sections unit p) (headers_place unit p + 64 + 64) ≡ data_section unit p
    unfolding sections
    read_2 = ap (λ f. section_at f (headers_place unit p + 64 + 64)) (at_2 x s0 s1 s2 s3 s4) ∙ section_read (x ++ s0 ++ s1) (s3 ++ s4) (headers_place unit p + 64 + 64) 7 1 3 (content_place p) (length p.content) 8 two (omega arith) (omega arith) (omega arith) (omega (arith, text, small_room p)) (omega (arith, content))

    read_3 : section_at (x ++ sections unit p) (headers_place unit p + 64 + 64 + 64) ≡ line_section unit p
    unfolding sections
    read_3 = ap (λ f. section_at f (headers_place unit p + 64 + 64 + 64)) (at_3 x s0 s1 s2 s3 s4) ∙ section_read (x ++ s0 ++ s1 ++ s2) s4 (headers_place unit p + 64 + 64 + 64) 13 1 0 (unit_place p) (length unit) 1 three (omega arith) (omega arith) (omega arith) (omega (arith, text, content, small_room p)) (omega (arith, small))

    read_4 : section_at (x ++ sections unit p) (headers_place unit p + 64 + 64 + 64 + 64) ≡ names_section unit p
    unfolding sections
    read_4 = ap (λ f. section_at f (headers_place unit p + 64 + 64 + 64 + 64)) (at_4 x s0 s1 s2 s3 s4) ∙ section_read (x ++ s0 ++ s1 ++ s2 ++ s3) [] (headers_place unit p + 64 + 64 + 64 + 64) 25 3 0 (names_place unit p) (length names) 1 four (omega arith) (omega arith) (omega arith) (omega (arith, text, content, small, small_room p)) (omega arith)

    pub length-sections : length (x ++ sections unit p) ≡ headers_place unit p + 320
    unfolding sections
    length-sections = omega (arith, four, ap length (at_4 x s0 s1 s2 s3 s4), length-append (x ++ s0 ++ s1 ++ s2 ++ s3) (s4 ++ []), ap length (append-nil s4), length-section 25 3 0 (names_place unit p) (length names) 1)

-- ---- the whole

pub laid : (unit : List ℕ) (p : Program) → IsProgram p → length unit < 2 ^ 33 → IsLaid unit p (file_with unit p)
unfolding file_with front
laid unit p is small =
    let h = file_header p.entry (headers_place unit p) (segment_count p) in
    let f : List ℕ = replicate (4096 - length (h ++ segments p)) 0 in
    let t : List ℕ = filled_up (text_room p) p.text in
    let z : List ℕ = replicate (headers_place unit p - names_end unit p) 0 in
    let r : List ℕ = f ++ (t ++ (p.content ++ (unit ++ (names ++ (z ++ sections unit p))))) in
    let whole : file_with unit p ≡ h ++ (segments p ++ r) = from_front h (segments p) f t p.content unit names z (sections unit p) in
    let x = before_sections unit p in
    let at = length-before_sections unit p in
    let long : length h ≡ 64 = length-file_header p.entry (headers_place unit p) (segment_count p) in
    record {
      is_headed = subst (λ g. IsHeaded g p.entry (headers_place unit p) (segment_count p)) (sym whole)
          (headed p.entry (headers_place unit p) (segment_count p) (segments p ++ r) (omega (arith, is.entry_within, is.text_fits)) (omega (arith, small, small_room p, is.text_fits, is.content_fits)) (few_segments (has_content p)));
      is_long = length-sections unit p x at is.text_fits is.content_fits small;
      text_read = ap (λ g. segment_at g 64) whole ∙ read_text h r p long is.text_fits;
      data_read = λ some. ap (λ g. segment_at g 120) whole ∙ read_data h r p long is.text_fits is.content_fits some;
      section_0 = read_0 unit p x at is.text_fits is.content_fits small;
      section_1 = read_1 unit p x at is.text_fits is.content_fits small;
      section_2 = read_2 unit p x at is.text_fits is.content_fits small;
      section_3 = read_3 unit p x at is.text_fits is.content_fits small;
      section_4 = read_4 unit p x at is.text_fits is.content_fits small;
    }
