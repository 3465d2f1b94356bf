-- Small sources, and what they stand for.
use Rattle.std.proofs.Common.{◌≡◌, ℕ, List, [], ◌∷◌, refl, Ok}
use Rattle.std.specs.Prelude.{codes}
use Rattle.asm_tokens.specs.Tokens.{tokens}
use Rattle.asm_tokens.specs.Table.{rows, form_of, register_of}
use Rattle.asm_values.specs.declared.TheConstants.{TEXT_START}
use Rattle.rv_asm.specs.Statements.{statement}
use Rattle.rv_asm.specs.Assembled.{Program, assembled, take_lines, take_tokens, with_pieces, load_address, filled_pieces}

-- these bytes of text, of these lines, with no data and no other beginning
abbrev of_text : List ℕ → List ℕ → Program
of_text text lines = record { text = text; content = []; lines = lines; entry = TEXT_START }

program_1 : assembled (codes "li a0, 0xfF") ≡ Ok (of_text (19 ∷ 5 ∷ 240 ∷ 15 ∷ []) (1 ∷ []))
unfolding assembled take_lines take_tokens with_pieces load_address filled_pieces tokens statement form_of rows register_of
program_1 = refl

program_2 : assembled (codes "slli a0, a0, 63") ≡ Ok (of_text (19 ∷ 21 ∷ 245 ∷ 3 ∷ []) (1 ∷ []))
unfolding assembled take_lines take_tokens with_pieces load_address filled_pieces tokens statement form_of rows register_of
program_2 = refl

program_3 : assembled (codes "li a0, -2147483648") ≡ Ok (of_text (55 ∷ 5 ∷ 0 ∷ 128 ∷ 27 ∷ 5 ∷ 5 ∷ 0 ∷ []) (1 ∷ 1 ∷ []))
unfolding assembled take_lines take_tokens with_pieces load_address filled_pieces tokens statement form_of rows register_of
program_3 = refl

program_4 : assembled (codes "li a0, 2147483647") ≡ Ok (of_text (55 ∷ 5 ∷ 0 ∷ 128 ∷ 27 ∷ 5 ∷ 245 ∷ 255 ∷ []) (1 ∷ 1 ∷ []))
unfolding assembled take_lines take_tokens with_pieces load_address filled_pieces tokens statement form_of rows register_of
program_4 = refl

program_5 : assembled (codes "li a0, 2048") ≡ Ok (of_text (55 ∷ 21 ∷ 0 ∷ 0 ∷ 27 ∷ 5 ∷ 5 ∷ 128 ∷ []) (1 ∷ 1 ∷ []))
unfolding assembled take_lines take_tokens with_pieces load_address filled_pieces tokens statement form_of rows register_of
program_5 = refl

program_6 : assembled (codes "li a0, -2049") ≡ Ok (of_text (55 ∷ 245 ∷ 255 ∷ 255 ∷ 27 ∷ 5 ∷ 245 ∷ 127 ∷ []) (1 ∷ 1 ∷ []))
unfolding assembled take_lines take_tokens with_pieces load_address filled_pieces tokens statement form_of rows register_of
program_6 = refl

program_7 : assembled (codes "li a0, 4096") ≡ Ok (of_text (55 ∷ 21 ∷ 0 ∷ 0 ∷ 27 ∷ 5 ∷ 5 ∷ 0 ∷ []) (1 ∷ 1 ∷ []))
unfolding assembled take_lines take_tokens with_pieces load_address filled_pieces tokens statement form_of rows register_of
program_7 = refl

program_8 : assembled (codes "li a0, 69376") ≡ Ok (of_text (55 ∷ 21 ∷ 1 ∷ 0 ∷ 27 ∷ 5 ∷ 5 ∷ 240 ∷ []) (1 ∷ 1 ∷ []))
unfolding assembled take_lines take_tokens with_pieces load_address filled_pieces tokens statement form_of rows register_of
program_8 = refl

program_9 : assembled (codes "nop\n.data\nx: .byte 1\n.align 3\ny: .dword y, x, 5\n") ≡ Ok (record {
  text = 19 ∷ 0 ∷ 0 ∷ 0 ∷ [];
  content = 1 ∷ 0 ∷ 0 ∷ 0 ∷ 0 ∷ 0 ∷ 0 ∷ 0 ∷ 8 ∷ 16 ∷ 1 ∷ 0 ∷ 0 ∷ 0 ∷ 0 ∷ 0 ∷ 0 ∷ 16 ∷ 1 ∷ 0 ∷ 0 ∷ 0 ∷ 0 ∷ 0 ∷ 5 ∷ 0 ∷ 0 ∷ 0 ∷ 0 ∷ 0 ∷ 0 ∷ 0 ∷ [];
  lines = 1 ∷ [];
  entry = 65536;
})
unfolding assembled take_lines take_tokens with_pieces load_address filled_pieces tokens statement form_of rows register_of
program_9 = refl

program_10 : assembled (codes "j t\n.data\n.zero 2\nt: .byte 1") ≡ Ok (record {
  text = 111 ∷ 16 ∷ 32 ∷ 0 ∷ [];
  content = 0 ∷ 0 ∷ 1 ∷ [];
  lines = 1 ∷ [];
  entry = 65536;
})
unfolding assembled take_lines take_tokens with_pieces load_address filled_pieces tokens statement form_of rows register_of
program_10 = refl

program_11 : assembled (codes "jalr x0, 0(x0)\n") ≡ Ok (of_text (103 ∷ 0 ∷ 0 ∷ 0 ∷ []) (1 ∷ []))
unfolding assembled take_lines take_tokens with_pieces load_address filled_pieces tokens statement form_of rows register_of
program_11 = refl

program_12 : assembled (codes "lr.w a0, (a1)") ≡ Ok (of_text (47 ∷ 165 ∷ 5 ∷ 16 ∷ []) (1 ∷ []))
unfolding assembled take_lines take_tokens with_pieces load_address filled_pieces tokens statement form_of rows register_of
program_12 = refl

program_13 : assembled (codes "sc.d.aqrl a0, a1, (a2)") ≡ Ok (of_text (47 ∷ 53 ∷ 182 ∷ 30 ∷ []) (1 ∷ []))
unfolding assembled take_lines take_tokens with_pieces load_address filled_pieces tokens statement form_of rows register_of
program_13 = refl

program_14 : assembled (codes "amomaxu.d.rl t6, s11, (s10)") ≡ Ok (of_text (175 ∷ 63 ∷ 189 ∷ 227 ∷ []) (1 ∷ []))
unfolding assembled take_lines take_tokens with_pieces load_address filled_pieces tokens statement form_of rows register_of
program_14 = refl

program_15 : assembled (codes "amominu.w.aq fp, s0, (zero)") ≡ Ok (of_text (47 ∷ 36 ∷ 128 ∷ 196 ∷ []) (1 ∷ []))
unfolding assembled take_lines take_tokens with_pieces load_address filled_pieces tokens statement form_of rows register_of
program_15 = refl

program_16 : assembled (codes "fence") ≡ Ok (of_text (15 ∷ 0 ∷ 240 ∷ 15 ∷ []) (1 ∷ []))
unfolding assembled take_lines take_tokens with_pieces load_address filled_pieces tokens statement form_of rows register_of
program_16 = refl

program_17 : assembled (codes "nop\n_start: nop") ≡ Ok (record {
  text = 19 ∷ 0 ∷ 0 ∷ 0 ∷ 19 ∷ 0 ∷ 0 ∷ 0 ∷ [];
  content = [];
  lines = 1 ∷ 2 ∷ [];
  entry = 65540;
})
unfolding assembled take_lines take_tokens with_pieces load_address filled_pieces tokens statement form_of rows register_of
program_17 = refl

program_18 : assembled (codes "nop\n_start:") ≡ Ok (of_text (19 ∷ 0 ∷ 0 ∷ 0 ∷ []) (1 ∷ []))
unfolding assembled take_lines take_tokens with_pieces load_address filled_pieces tokens statement form_of rows register_of
program_18 = refl

program_19 : assembled (codes ".data\n_start: .byte 1\n.text\nnop") ≡ Ok (record {
  text = 19 ∷ 0 ∷ 0 ∷ 0 ∷ [];
  content = 1 ∷ [];
  lines = 4 ∷ [];
  entry = 65536;
})
unfolding assembled take_lines take_tokens with_pieces load_address filled_pieces tokens statement form_of rows register_of
program_19 = refl

program_20 : assembled (codes ".data\n.ascii \"a#\\t\\n\\\\\\\"\\0\" # c\n.text\nnop") ≡ Ok (record {
  text = 19 ∷ 0 ∷ 0 ∷ 0 ∷ [];
  content = 97 ∷ 35 ∷ 9 ∷ 10 ∷ 92 ∷ 34 ∷ 0 ∷ [];
  lines = 4 ∷ [];
  entry = 65536;
})
unfolding assembled take_lines take_tokens with_pieces load_address filled_pieces tokens statement form_of rows register_of
program_20 = refl

program_21 : assembled (codes "addi a0,x0,-0x10") ≡ Ok (of_text (19 ∷ 5 ∷ 0 ∷ 255 ∷ []) (1 ∷ []))
unfolding assembled take_lines take_tokens with_pieces load_address filled_pieces tokens statement form_of rows register_of
program_21 = refl

program_22 : assembled (codes ".data\n.word -2147483648, 4294967295, 0x12345678\n.text\nnop") ≡ Ok (record {
  text = 19 ∷ 0 ∷ 0 ∷ 0 ∷ [];
  content = 0 ∷ 0 ∷ 0 ∷ 128 ∷ 255 ∷ 255 ∷ 255 ∷ 255 ∷ 120 ∷ 86 ∷ 52 ∷ 18 ∷ [];
  lines = 4 ∷ [];
  entry = 65536;
})
unfolding assembled take_lines take_tokens with_pieces load_address filled_pieces tokens statement form_of rows register_of
program_22 = refl

program_23 : assembled (codes ".data\n.dword -9223372036854775808, 18446744073709551615\n.text\nnop") ≡ Ok (record {
  text = 19 ∷ 0 ∷ 0 ∷ 0 ∷ [];
  content = 0 ∷ 0 ∷ 0 ∷ 0 ∷ 0 ∷ 0 ∷ 0 ∷ 128 ∷ 255 ∷ 255 ∷ 255 ∷ 255 ∷ 255 ∷ 255 ∷ 255 ∷ 255 ∷ [];
  lines = 4 ∷ [];
  entry = 65536;
})
unfolding assembled take_lines take_tokens with_pieces load_address filled_pieces tokens statement form_of rows register_of
program_23 = refl

program_24 : assembled (codes "lui a0, 1048575\nauipc ra, 1") ≡ Ok (of_text (55 ∷ 245 ∷ 255 ∷ 255 ∷ 151 ∷ 16 ∷ 0 ∷ 0 ∷ []) (1 ∷ 2 ∷ []))
unfolding assembled take_lines take_tokens with_pieces load_address filled_pieces tokens statement form_of rows register_of
program_24 = refl

program_25 : assembled (codes "nop\r") ≡ Ok (of_text (19 ∷ 0 ∷ 0 ∷ 0 ∷ []) (1 ∷ []))
unfolding assembled take_lines take_tokens with_pieces load_address filled_pieces tokens statement form_of rows register_of
program_25 = refl

program_26 : assembled (codes "j j\nj: nop") ≡ Ok (of_text (111 ∷ 0 ∷ 64 ∷ 0 ∷ 19 ∷ 0 ∷ 0 ∷ 0 ∷ []) (1 ∷ 2 ∷ []))
unfolding assembled take_lines take_tokens with_pieces load_address filled_pieces tokens statement form_of rows register_of
program_26 = refl

program_27 : assembled (codes "li: li a0, 2048") ≡ Ok (of_text (55 ∷ 21 ∷ 0 ∷ 0 ∷ 27 ∷ 5 ∷ 5 ∷ 128 ∷ []) (1 ∷ 1 ∷ []))
unfolding assembled take_lines take_tokens with_pieces load_address filled_pieces tokens statement form_of rows register_of
program_27 = refl

program_28 : assembled (codes "a: b: c: sd ra, -2048(sp) # x:\nbgeu t0, t1, a\njal ra, c\nj b") ≡ Ok (of_text (35 ∷ 48 ∷ 17 ∷ 128 ∷ 227 ∷ 254 ∷ 98 ∷ 254 ∷ 239 ∷ 240 ∷ 159 ∷ 255 ∷ 111 ∷ 240 ∷ 95 ∷ 255 ∷ []) (1 ∷ 2 ∷ 3 ∷ 4 ∷ []))
unfolding assembled take_lines take_tokens with_pieces load_address filled_pieces tokens statement form_of rows register_of
program_28 = refl

program_29 : assembled (codes "x: .data\n.byte -128, 255, 1\n.align 2\n.word 1\n.text\nla t0, x\nla t1, y\n.data\ny: .ascii \"\"\n.byte 7") ≡ Ok (record {
  text = 151 ∷ 2 ∷ 0 ∷ 0 ∷ 147 ∷ 130 ∷ 2 ∷ 0 ∷ 23 ∷ 19 ∷ 0 ∷ 0 ∷ 19 ∷ 3 ∷ 3 ∷ 0 ∷ [];
  content = 128 ∷ 255 ∷ 1 ∷ 0 ∷ 1 ∷ 0 ∷ 0 ∷ 0 ∷ 7 ∷ [];
  lines = 6 ∷ 6 ∷ 7 ∷ 7 ∷ [];
  entry = 65536;
})
unfolding assembled take_lines take_tokens with_pieces load_address filled_pieces tokens statement form_of rows register_of
program_29 = refl

program_30 : assembled (codes "nop\n\tjalr ra, 2047(t6)\t\r\n\nebreak") ≡ Ok (of_text (19 ∷ 0 ∷ 0 ∷ 0 ∷ 231 ∷ 128 ∷ 255 ∷ 127 ∷ 115 ∷ 0 ∷ 16 ∷ 0 ∷ []) (1 ∷ 2 ∷ 4 ∷ []))
unfolding assembled take_lines take_tokens with_pieces load_address filled_pieces tokens statement form_of rows register_of
program_30 = refl

program_31 : assembled (codes ".Lx_1: j .Lx_1") ≡ Ok (of_text (111 ∷ 0 ∷ 0 ∷ 0 ∷ []) (1 ∷ []))
unfolding assembled take_lines take_tokens with_pieces load_address filled_pieces tokens statement form_of rows register_of
program_31 = refl

program_32 : assembled (codes ".data\n.ascii \"\t\r\"\n.text\nnop") ≡ Ok (record {
  text = 19 ∷ 0 ∷ 0 ∷ 0 ∷ [];
  content = 9 ∷ 13 ∷ [];
  lines = 4 ∷ [];
  entry = 65536;
})
unfolding assembled take_lines take_tokens with_pieces load_address filled_pieces tokens statement form_of rows register_of
program_32 = refl
