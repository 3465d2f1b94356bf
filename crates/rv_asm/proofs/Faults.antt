-- Sources that are refused, each with its first fault.
use Rattle.std.proofs.Common.{◌≡◌, ℕ, [], ◌∷◌, refl, Err}
use Rattle.std.specs.Prelude.{Result, codes}
use Rattle.asm_tokens.specs.declared.AsmKind.{AsmKind}
use Rattle.asm_tokens.specs.declared.AsmKind.TheVariants as kinds
use Rattle.rv_asm.specs.declared.AsmFault.{AsmFault}
use Rattle.asm_tokens.specs.Tokens.{tokens}
use Rattle.asm_tokens.specs.Table.{rows, form_of, register_of}
use Rattle.rv_asm.specs.Statements.{statement}
use Rattle.rv_asm.specs.Assembled.{Program, assembled, take_lines, take_tokens, with_pieces, load_address, filled_pieces}

abbrev fault : AsmKind → ℕ → ℕ → Result Program AsmFault
fault kind line column = Err (record { kind = kind; line = line; column = column })

fault_one : assembled (codes "addi a0, x0, 2048") ≡ fault kinds.Range 1 14
unfolding assembled take_lines take_tokens with_pieces load_address filled_pieces tokens statement form_of rows register_of
fault_one = refl

fault_2 : assembled (codes "    addi a0, x0, 2048") ≡ fault kinds.Range 1 18
unfolding assembled take_lines take_tokens with_pieces load_address filled_pieces tokens statement form_of rows register_of
fault_2 = refl

fault_3 : assembled (codes "addi a0 x0, 0") ≡ fault kinds.Operand 1 9
unfolding assembled take_lines take_tokens with_pieces load_address filled_pieces tokens statement form_of rows register_of
fault_3 = refl

fault_4 : assembled (codes "foo") ≡ fault kinds.Name 1 1
unfolding assembled take_lines take_tokens with_pieces load_address filled_pieces tokens statement form_of rows register_of
fault_4 = refl

fault_5 : assembled (codes "j nowhere") ≡ fault kinds.Missing 1 3
unfolding assembled take_lines take_tokens with_pieces load_address filled_pieces tokens statement form_of rows register_of
fault_5 = refl

fault_6 : assembled (codes ".data\naddi x0, x0, 0") ≡ fault kinds.Section 2 1
unfolding assembled take_lines take_tokens with_pieces load_address filled_pieces tokens statement form_of rows register_of
fault_6 = refl

fault_7 : assembled (codes "nop ; x") ≡ fault kinds.Token 1 5
unfolding assembled take_lines take_tokens with_pieces load_address filled_pieces tokens statement form_of rows register_of
fault_7 = refl

fault_8 : assembled (codes "nop @") ≡ fault kinds.Token 1 5
unfolding assembled take_lines take_tokens with_pieces load_address filled_pieces tokens statement form_of rows register_of
fault_8 = refl

fault_9 : assembled (codes "x: x: nop") ≡ fault kinds.Twice 1 4
unfolding assembled take_lines take_tokens with_pieces load_address filled_pieces tokens statement form_of rows register_of
fault_9 = refl

fault_10 : assembled (codes "  .byte 1") ≡ fault kinds.Section 1 3
unfolding assembled take_lines take_tokens with_pieces load_address filled_pieces tokens statement form_of rows register_of
fault_10 = refl

fault_11 : assembled (codes ".data\n.byte 256") ≡ fault kinds.Range 2 7
unfolding assembled take_lines take_tokens with_pieces load_address filled_pieces tokens statement form_of rows register_of
fault_11 = refl

fault_12 : assembled (codes ".data\n.byte -129") ≡ fault kinds.Range 2 7
unfolding assembled take_lines take_tokens with_pieces load_address filled_pieces tokens statement form_of rows register_of
fault_12 = refl

fault_13 : assembled (codes ".data\n.byte 1,") ≡ fault kinds.Operand 2 9
unfolding assembled take_lines take_tokens with_pieces load_address filled_pieces tokens statement form_of rows register_of
fault_13 = refl

fault_14 : assembled (codes ".data\n.byte 1 2") ≡ fault kinds.Operand 2 9
unfolding assembled take_lines take_tokens with_pieces load_address filled_pieces tokens statement form_of rows register_of
fault_14 = refl

fault_15 : assembled (codes ".data\n.byte") ≡ fault kinds.Operand 2 6
unfolding assembled take_lines take_tokens with_pieces load_address filled_pieces tokens statement form_of rows register_of
fault_15 = refl

fault_16 : assembled (codes ".data\n.dword a\n") ≡ fault kinds.Missing 2 8
unfolding assembled take_lines take_tokens with_pieces load_address filled_pieces tokens statement form_of rows register_of
fault_16 = refl

fault_17 : assembled (110 ∷ 111 ∷ 112 ∷ 195 ∷ []) ≡ fault kinds.Byte 1 4
unfolding assembled take_lines take_tokens with_pieces load_address filled_pieces tokens statement form_of rows register_of
fault_17 = refl

fault_18 : assembled (35 ∷ 32 ∷ 1 ∷ []) ≡ fault kinds.Byte 1 3
unfolding assembled take_lines take_tokens with_pieces load_address filled_pieces tokens statement form_of rows register_of
fault_18 = refl

fault_19 : assembled (110 ∷ 111 ∷ 112 ∷ 10 ∷ 64 ∷ 1 ∷ []) ≡ fault kinds.Byte 2 2
unfolding assembled take_lines take_tokens with_pieces load_address filled_pieces tokens statement form_of rows register_of
fault_19 = refl

fault_20 : assembled (codes "li a0, 12x") ≡ fault kinds.Token 1 8
unfolding assembled take_lines take_tokens with_pieces load_address filled_pieces tokens statement form_of rows register_of
fault_20 = refl

fault_21 : assembled (codes "li a0, -") ≡ fault kinds.Token 1 8
unfolding assembled take_lines take_tokens with_pieces load_address filled_pieces tokens statement form_of rows register_of
fault_21 = refl

fault_22 : assembled (codes "li a0, 0x") ≡ fault kinds.Token 1 8
unfolding assembled take_lines take_tokens with_pieces load_address filled_pieces tokens statement form_of rows register_of
fault_22 = refl

fault_23 : assembled (codes "add a0, a1") ≡ fault kinds.Operand 1 11
unfolding assembled take_lines take_tokens with_pieces load_address filled_pieces tokens statement form_of rows register_of
fault_23 = refl

fault_24 : assembled (codes "add a0, a1,   # c") ≡ fault kinds.Operand 1 18
unfolding assembled take_lines take_tokens with_pieces load_address filled_pieces tokens statement form_of rows register_of
fault_24 = refl

fault_25 : assembled (codes "lw a0, 0(a1") ≡ fault kinds.Operand 1 12
unfolding assembled take_lines take_tokens with_pieces load_address filled_pieces tokens statement form_of rows register_of
fault_25 = refl

fault_26 : assembled (codes "lw a0, (a1)") ≡ fault kinds.Operand 1 8
unfolding assembled take_lines take_tokens with_pieces load_address filled_pieces tokens statement form_of rows register_of
fault_26 = refl

fault_27 : assembled (codes "la a0, q\nj p") ≡ fault kinds.Missing 1 8
unfolding assembled take_lines take_tokens with_pieces load_address filled_pieces tokens statement form_of rows register_of
fault_27 = refl

fault_28 : assembled (codes ".data\n.ascii \"a\\q\"") ≡ fault kinds.Token 2 8
unfolding assembled take_lines take_tokens with_pieces load_address filled_pieces tokens statement form_of rows register_of
fault_28 = refl

fault_29 : assembled (codes ".data\n.ascii \"a") ≡ fault kinds.Token 2 8
unfolding assembled take_lines take_tokens with_pieces load_address filled_pieces tokens statement form_of rows register_of
fault_29 = refl

fault_30 : assembled (codes "nop \"") ≡ fault kinds.Token 1 5
unfolding assembled take_lines take_tokens with_pieces load_address filled_pieces tokens statement form_of rows register_of
fault_30 = refl

fault_31 : assembled (codes "slliw a0, a0, 32") ≡ fault kinds.Range 1 15
unfolding assembled take_lines take_tokens with_pieces load_address filled_pieces tokens statement form_of rows register_of
fault_31 = refl

fault_32 : assembled (codes "srai a0, a0, 64") ≡ fault kinds.Range 1 14
unfolding assembled take_lines take_tokens with_pieces load_address filled_pieces tokens statement form_of rows register_of
fault_32 = refl

fault_33 : assembled (codes "li a0, 2147483648") ≡ fault kinds.Range 1 8
unfolding assembled take_lines take_tokens with_pieces load_address filled_pieces tokens statement form_of rows register_of
fault_33 = refl

fault_34 : assembled (codes "li a0, -2147483649") ≡ fault kinds.Range 1 8
unfolding assembled take_lines take_tokens with_pieces load_address filled_pieces tokens statement form_of rows register_of
fault_34 = refl

fault_35 : assembled (codes "5: nop") ≡ fault kinds.Name 1 1
unfolding assembled take_lines take_tokens with_pieces load_address filled_pieces tokens statement form_of rows register_of
fault_35 = refl

fault_36 : assembled (codes "a : nop\n a: nop") ≡ fault kinds.Twice 2 2
unfolding assembled take_lines take_tokens with_pieces load_address filled_pieces tokens statement form_of rows register_of
fault_36 = refl

fault_37 : assembled (codes ":") ≡ fault kinds.Name 1 1
unfolding assembled take_lines take_tokens with_pieces load_address filled_pieces tokens statement form_of rows register_of
fault_37 = refl

fault_38 : assembled (codes ".text 5") ≡ fault kinds.Operand 1 7
unfolding assembled take_lines take_tokens with_pieces load_address filled_pieces tokens statement form_of rows register_of
fault_38 = refl

fault_39 : assembled (codes ".globl 5") ≡ fault kinds.Operand 1 8
unfolding assembled take_lines take_tokens with_pieces load_address filled_pieces tokens statement form_of rows register_of
fault_39 = refl

fault_40 : assembled (codes ".globl x") ≡ fault kinds.Empty 1 1
unfolding assembled take_lines take_tokens with_pieces load_address filled_pieces tokens statement form_of rows register_of
fault_40 = refl

fault_41 : assembled (codes ".data\n.zero 1048577") ≡ fault kinds.Range 2 7
unfolding assembled take_lines take_tokens with_pieces load_address filled_pieces tokens statement form_of rows register_of
fault_41 = refl

fault_42 : assembled (codes ".data\n.align 13") ≡ fault kinds.Range 2 8
unfolding assembled take_lines take_tokens with_pieces load_address filled_pieces tokens statement form_of rows register_of
fault_42 = refl

fault_43 : assembled (codes ".data\nnop") ≡ fault kinds.Section 2 1
unfolding assembled take_lines take_tokens with_pieces load_address filled_pieces tokens statement form_of rows register_of
fault_43 = refl

fault_44 : assembled (codes ".align 2") ≡ fault kinds.Section 1 1
unfolding assembled take_lines take_tokens with_pieces load_address filled_pieces tokens statement form_of rows register_of
fault_44 = refl

fault_45 : assembled (codes "beq a0, a1, t\n.data\n.zero 4095\n t: .byte 1") ≡ fault kinds.Far 1 13
unfolding assembled take_lines take_tokens with_pieces load_address filled_pieces tokens statement form_of rows register_of
fault_45 = refl

fault_46 : assembled (codes "beq a0, a1, t\n.data\n.zero 1\nt: .byte 1") ≡ fault kinds.Far 1 13
unfolding assembled take_lines take_tokens with_pieces load_address filled_pieces tokens statement form_of rows register_of
fault_46 = refl

fault_47 : assembled (codes "\n\n") ≡ fault kinds.Empty 1 1
unfolding assembled take_lines take_tokens with_pieces load_address filled_pieces tokens statement form_of rows register_of
fault_47 = refl

fault_48 : assembled (codes "nop nop") ≡ fault kinds.Operand 1 5
unfolding assembled take_lines take_tokens with_pieces load_address filled_pieces tokens statement form_of rows register_of
fault_48 = refl

fault_49 : assembled (codes "addi a0, a1, 5:") ≡ fault kinds.Operand 1 15
unfolding assembled take_lines take_tokens with_pieces load_address filled_pieces tokens statement form_of rows register_of
fault_49 = refl

fault_50 : assembled (codes "lr.w.aq a0, a1") ≡ fault kinds.Operand 1 13
unfolding assembled take_lines take_tokens with_pieces load_address filled_pieces tokens statement form_of rows register_of
fault_50 = refl

fault_51 : assembled (codes ".data\n.byte 300 x") ≡ fault kinds.Range 2 7
unfolding assembled take_lines take_tokens with_pieces load_address filled_pieces tokens statement form_of rows register_of
fault_51 = refl

fault_52 : assembled (codes "j a\n.data\n.dword b") ≡ fault kinds.Missing 1 3
unfolding assembled take_lines take_tokens with_pieces load_address filled_pieces tokens statement form_of rows register_of
fault_52 = refl

fault_53 : assembled (codes "_start:") ≡ fault kinds.Empty 1 1
unfolding assembled take_lines take_tokens with_pieces load_address filled_pieces tokens statement form_of rows register_of
fault_53 = refl

fault_54 : assembled (codes "addi a0, x0, 0-1") ≡ fault kinds.Operand 1 15
unfolding assembled take_lines take_tokens with_pieces load_address filled_pieces tokens statement form_of rows register_of
fault_54 = refl

fault_55 : assembled (codes "addi a0, x0, 1--1") ≡ fault kinds.Token 1 15
unfolding assembled take_lines take_tokens with_pieces load_address filled_pieces tokens statement form_of rows register_of
fault_55 = refl

fault_56 : assembled (codes ".globl nop nop") ≡ fault kinds.Operand 1 12
unfolding assembled take_lines take_tokens with_pieces load_address filled_pieces tokens statement form_of rows register_of
fault_56 = refl

fault_57 : assembled (codes ".dword 1") ≡ fault kinds.Section 1 1
unfolding assembled take_lines take_tokens with_pieces load_address filled_pieces tokens statement form_of rows register_of
fault_57 = refl

fault_58 : assembled (codes ".data\n.word -2147483649") ≡ fault kinds.Range 2 7
unfolding assembled take_lines take_tokens with_pieces load_address filled_pieces tokens statement form_of rows register_of
fault_58 = refl

fault_59 : assembled (codes ".data\n.dword 18446744073709551616") ≡ fault kinds.Range 2 8
unfolding assembled take_lines take_tokens with_pieces load_address filled_pieces tokens statement form_of rows register_of
fault_59 = refl

fault_60 : assembled (codes "li a0, 99999999999999999999999999999999999") ≡ fault kinds.Range 1 8
unfolding assembled take_lines take_tokens with_pieces load_address filled_pieces tokens statement form_of rows register_of
fault_60 = refl

fault_61 : assembled (codes "lui a0, 1048576") ≡ fault kinds.Range 1 9
unfolding assembled take_lines take_tokens with_pieces load_address filled_pieces tokens statement form_of rows register_of
fault_61 = refl

fault_62 : assembled (codes "lui a0, -1") ≡ fault kinds.Range 1 9
unfolding assembled take_lines take_tokens with_pieces load_address filled_pieces tokens statement form_of rows register_of
fault_62 = refl

fault_63 : assembled (codes "x") ≡ fault kinds.Name 1 1
unfolding assembled take_lines take_tokens with_pieces load_address filled_pieces tokens statement form_of rows register_of
fault_63 = refl

fault_64 : assembled (codes "x:") ≡ fault kinds.Empty 1 1
unfolding assembled take_lines take_tokens with_pieces load_address filled_pieces tokens statement form_of rows register_of
fault_64 = refl

fault_65 : assembled (codes "jal x1, x1") ≡ fault kinds.Missing 1 9
unfolding assembled take_lines take_tokens with_pieces load_address filled_pieces tokens statement form_of rows register_of
fault_65 = refl

fault_66 : assembled (codes "mv a0, a8") ≡ fault kinds.Operand 1 8
unfolding assembled take_lines take_tokens with_pieces load_address filled_pieces tokens statement form_of rows register_of
fault_66 = refl

fault_67 : assembled (codes "add x32, x0, x0") ≡ fault kinds.Operand 1 5
unfolding assembled take_lines take_tokens with_pieces load_address filled_pieces tokens statement form_of rows register_of
fault_67 = refl

fault_68 : assembled (codes "add x00, x0, x0") ≡ fault kinds.Operand 1 5
unfolding assembled take_lines take_tokens with_pieces load_address filled_pieces tokens statement form_of rows register_of
fault_68 = refl

fault_69 : assembled (codes "addi a0, a1, b") ≡ fault kinds.Operand 1 14
unfolding assembled take_lines take_tokens with_pieces load_address filled_pieces tokens statement form_of rows register_of
fault_69 = refl

fault_70 : assembled (codes "ret 1") ≡ fault kinds.Operand 1 5
unfolding assembled take_lines take_tokens with_pieces load_address filled_pieces tokens statement form_of rows register_of
fault_70 = refl

fault_71 : assembled (codes ".ascii \"x\"") ≡ fault kinds.Section 1 1
unfolding assembled take_lines take_tokens with_pieces load_address filled_pieces tokens statement form_of rows register_of
fault_71 = refl

fault_72 : assembled (codes ".data\n.zero -1") ≡ fault kinds.Range 2 7
unfolding assembled take_lines take_tokens with_pieces load_address filled_pieces tokens statement form_of rows register_of
fault_72 = refl

fault_73 : assembled (codes "add a0, a1\r") ≡ fault kinds.Operand 1 12
unfolding assembled take_lines take_tokens with_pieces load_address filled_pieces tokens statement form_of rows register_of
fault_73 = refl

fault_74 : assembled (codes ".data\n.ascii \"q\" \"r\"") ≡ fault kinds.Operand 2 12
unfolding assembled take_lines take_tokens with_pieces load_address filled_pieces tokens statement form_of rows register_of
fault_74 = refl

fault_75 : assembled (codes "\"a\"") ≡ fault kinds.Name 1 1
unfolding assembled take_lines take_tokens with_pieces load_address filled_pieces tokens statement form_of rows register_of
fault_75 = refl

fault_76 : assembled (codes "beq x0, x0, a\na: .data\nbne x0, x0, a") ≡ fault kinds.Section 3 1
unfolding assembled take_lines take_tokens with_pieces load_address filled_pieces tokens statement form_of rows register_of
fault_76 = refl

fault_77 : assembled (codes ".align 2\nfoo") ≡ fault kinds.Section 1 1
unfolding assembled take_lines take_tokens with_pieces load_address filled_pieces tokens statement form_of rows register_of
fault_77 = refl

fault_78 : assembled (codes "beq a0, a1 x") ≡ fault kinds.Operand 1 12
unfolding assembled take_lines take_tokens with_pieces load_address filled_pieces tokens statement form_of rows register_of
fault_78 = refl

fault_79 : assembled (codes "beq a0, 5, x") ≡ fault kinds.Operand 1 9
unfolding assembled take_lines take_tokens with_pieces load_address filled_pieces tokens statement form_of rows register_of
fault_79 = refl

fault_80 : assembled (codes "lw a0, 4 a1") ≡ fault kinds.Operand 1 10
unfolding assembled take_lines take_tokens with_pieces load_address filled_pieces tokens statement form_of rows register_of
fault_80 = refl

fault_81 : assembled (codes "lw a0, 4)a1(") ≡ fault kinds.Operand 1 9
unfolding assembled take_lines take_tokens with_pieces load_address filled_pieces tokens statement form_of rows register_of
fault_81 = refl

fault_82 : assembled (codes "sub a0, a1, 5") ≡ fault kinds.Operand 1 13
unfolding assembled take_lines take_tokens with_pieces load_address filled_pieces tokens statement form_of rows register_of
fault_82 = refl

fault_83 : assembled (codes "sub a0, a1, a2 a3") ≡ fault kinds.Operand 1 16
unfolding assembled take_lines take_tokens with_pieces load_address filled_pieces tokens statement form_of rows register_of
fault_83 = refl

fault_84 : assembled (codes ".data\n.ascii 5") ≡ fault kinds.Operand 2 8
unfolding assembled take_lines take_tokens with_pieces load_address filled_pieces tokens statement form_of rows register_of
fault_84 = refl

fault_85 : assembled (codes "1a: nop") ≡ fault kinds.Token 1 1
unfolding assembled take_lines take_tokens with_pieces load_address filled_pieces tokens statement form_of rows register_of
fault_85 = refl

fault_86 : assembled (codes "-1: nop") ≡ fault kinds.Name 1 1
unfolding assembled take_lines take_tokens with_pieces load_address filled_pieces tokens statement form_of rows register_of
fault_86 = refl

fault_87 : assembled (codes "a:b:c") ≡ fault kinds.Name 1 5
unfolding assembled take_lines take_tokens with_pieces load_address filled_pieces tokens statement form_of rows register_of
fault_87 = refl

fault_88 : assembled (codes "a:b:c:") ≡ fault kinds.Empty 1 1
unfolding assembled take_lines take_tokens with_pieces load_address filled_pieces tokens statement form_of rows register_of
fault_88 = refl

fault_89 : assembled (codes "lr.w.aqrl.x a0, (a1)") ≡ fault kinds.Name 1 1
unfolding assembled take_lines take_tokens with_pieces load_address filled_pieces tokens statement form_of rows register_of
fault_89 = refl

fault_90 : assembled (codes "LI a0, 1") ≡ fault kinds.Name 1 1
unfolding assembled take_lines take_tokens with_pieces load_address filled_pieces tokens statement form_of rows register_of
fault_90 = refl
