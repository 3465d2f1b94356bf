-- How long the headers before the text are.
use Rattle.std.proofs.Common.{◌≡◌, ◌≤◌, ℕ, ◌+◌, true, false, [], ◌++◌, length, arith, length-append, if◌then◌else◌}
use Rattle.rv_asm.specs.Assembled.{Program}
use Rattle.image_write.specs.File.{file_header, segment, segments, has_content, whole_pages}
use Rattle.image_write.proofs.Lengths.{length-half, length-word, length-double}

pub length-segment : (flags offset address size : ℕ) → length (segment flags offset address size) ≡ 56
unfolding segment
length-segment flags offset address size = simp (length-append, length-word, length-double)

pub length-segments : (p : Program) → length (segments p) ≤ 112
unfolding segments
length-segments p =
    let content = segment 6 (4096 + whole_pages p) (0x10000 + whole_pages p) (length p.content) in
    let text = segment 5 4096 0x10000 (length p.text) in
    elim (has_content p) as (λ b. length (text ++ (if b then content else [])) ≤ 112) [
      | true ↦ omega (arith, length-append text content, length-segment 5 4096 0x10000 (length p.text), length-segment 6 (4096 + whole_pages p) (0x10000 + whole_pages p) (length p.content))
      | false ↦ omega (arith, length-append {A = ℕ} text [], length-segment 5 4096 0x10000 (length p.text))
    ]

pub length-file_header : (entry headers count : ℕ) → length (file_header entry headers count) ≡ 64
unfolding file_header
length-file_header entry headers count = simp (length-append, length-half, length-word, length-double)

pub headers_short : (entry headers count : ℕ) (p : Program) → length (file_header entry headers count ++ segments p) ≤ 4096
headers_short entry headers count p = omega (arith, length-append (file_header entry headers count) (segments p), length-file_header entry headers count, length-segments p)
