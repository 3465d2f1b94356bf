-- The text of each kind, its holes filled, is that of its lines.
use Prim.Native.String.{String}
use Rattle.std.proofs.Common.{◌≡◌, ℕ, zero, suc, ◌+◌, ◌%◌, ◌<◌, ◌≤◌, List, [], ◌∷◌, ◌++◌, length, refl, sym, ap, ◌∙◌, arith, append_assoc, decimal, inl, inr, Bor}
use Rattle.std.specs.Prelude.{codes, ◌⊎◌}
use Rattle.work_gen.specs.declared.kinds.Kind.{Kind}
use Rattle.work_gen.specs.Text.{Line, text_of_lines, statements, turning_lines, locking_lines, next, draw_of, of_kind, block}
use Rattle.work_gen.specs.Drawn.{block_text, IsDrawn}

-- the lines of a block under a lock: up to its first branch, up to its jump, and after its work
abbrev pub begins : List String
begins = "li t0, 1" ∷ "amoswap.w.aq t1, t0, (a4)" ∷ []

abbrev pub sleeps : List String
sleeps = "mv a0, a4" ∷ "li a1, 0" ∷ "li a2, 1" ∷ "li a7, 98" ∷ "ecall" ∷ []

abbrev pub adds : List String
adds = "ld t2, 0(a5)" ∷ "addi t2, t2, 1" ∷ "sd t2, 0(a5)" ∷ "amoswap.w.rl t1, x0, (a4)" ∷ "mv a0, a4" ∷ "li a1, 1" ∷ "li a2, 1" ∷ "li a7, 98" ∷ "ecall" ∷ []

-- a number after which a line ends
ended : (ds rest more : List ℕ) → rest ≡ more → (ds ++ codes "\n") ++ rest ≡ ds ++ (codes "\n" ++ more)
ended ds rest more e = append_assoc ds (codes "\n") rest ∙ ap (λ t. ds ++ (codes "\n" ++ t)) e

-- the number of a label
named : (ds rest more : List ℕ) → rest ≡ more → ((ds ++ codes ":") ++ codes "\n") ++ rest ≡ ds ++ (codes ":\n" ++ more)
named ds rest more e = ended (ds ++ codes ":") rest more e ∙ append_assoc ds (codes ":") (codes "\n" ++ more)

pub turning_text : (work : Line) (n i : ℕ)
    → codes "    li t0, " ++ (decimal n ++ (codes "\nb" ++ (decimal i ++ (codes ":\n" ++ ((work ++ codes "\n") ++ (codes "    addi t0, t0, -1\n    bne t0, x0, b" ++ (decimal i ++ codes "\n")))))))
    ≡ text_of_lines (turning_lines work n i)
turning_text work n i =
    let back = ap (λ t. (work ++ codes "\n") ++ (codes "    addi t0, t0, -1\n    bne t0, x0, b" ++ t)) (ended (decimal i) [] [] refl) in
    sym (ap (λ t. codes "    li t0, " ++ t) (ended (decimal n) _ _ (ap (λ t. codes "b" ++ t) (named (decimal i) _ _ back))))

pub locking_text : (work : List Line) (i : ℕ)
    → codes "b" ++ (decimal i ++ (codes ":\n    li t0, 1\n    amoswap.w.aq t1, t0, (a4)\n    beq t1, x0, c" ++ (decimal i
    ++ (codes "\n    mv a0, a4\n    li a1, 0\n    li a2, 1\n    li a7, 98\n    ecall\n    j b" ++ (decimal i ++ (codes "\nc" ++ (decimal i ++ (codes ":\n" ++ text_of_lines (work ++ statements adds)))))))))
    ≡ text_of_lines (locking_lines work i)
locking_text work i =
    let d = decimal i in
    let over = ap (λ t. codes "    mv a0, a4\n    li a1, 0\n    li a2, 1\n    li a7, 98\n    ecall\n    j b" ++ t) (ended d _ _ (ap (λ t. codes "c" ++ t) (named d _ _ refl))) in
    sym (ap (λ t. codes "b" ++ t) (named d _ _ (ap (λ t. codes "    li t0, 1\n    amoswap.w.aq t1, t0, (a4)\n    beq t1, x0, c" ++ t) (ended d _ _ over))))

-- the kind of this number
pub record IsKind (k : ℕ) (kind : Bor Kind) : Type 0 where
  pub text : (i state after : ℕ) → block_text (record { kind = kind; turns = 1 + draw_of (next state) % 20; after = after }) i ≡ text_of_lines (of_kind k i state).0
  pub lines : (i state : ℕ) → kind.now.lines ≡ length (of_kind k i state).0

pub below_four : (k : ℕ) → k < 4 → (k ≡ 0) ⊎ (k ≡ 1) ⊎ (k ≡ 2) ⊎ (k ≡ 3)
below_four zero few = inl refl
below_four (suc zero) few = inr (inl refl)
below_four (suc (suc zero)) few = inr (inr (inl refl))
below_four (suc (suc (suc zero))) few = inr (inr (inr refl))
below_four (suc (suc (suc (suc k)))) few = absurd (omega arith)

-- no kind has more lines
kind_few : (k i state : ℕ) → length (of_kind k i state).0 ≤ 21
kind_few zero i state = omega arith
kind_few (suc zero) i state = omega arith
kind_few (suc (suc zero)) i state = omega arith
kind_few (suc (suc (suc zero))) i state = omega arith
kind_few (suc (suc (suc (suc k)))) i state = omega arith

pub block_few : (i state : ℕ) → length (block i state).0 ≤ 21
block_few i state = kind_few (draw_of (next state) % 4) i (next state)

-- a loop draws its turns too
pub looped : (k i state : ℕ) → k < 2 → next state ≡ (of_kind k i state).1
looped zero i state few = refl
looped (suc zero) i state few = refl
looped (suc (suc k)) i state few = absurd (omega arith)

pub locked : (k i state : ℕ) → 2 ≤ k → state ≡ (of_kind k i state).1
locked zero i state more = absurd (omega arith)
locked (suc zero) i state more = absurd (omega arith)
locked (suc (suc zero)) i state more = refl
locked (suc (suc (suc zero))) i state more = refl
locked (suc (suc (suc (suc k)))) i state more = refl

pub drawn_is : (state number draw after : ℕ) (kind : Bor Kind) → number ≡ draw_of (next state) → draw ≡ draw_of (next (next state)) → IsKind (number % 4) kind
    → ((i : ℕ) → after ≡ (of_kind (number % 4) i (next state)).1) → IsDrawn state (record { kind = kind; turns = 1 + draw % 20; after = after })
drawn_is state number draw after kind number_is draw_is is then = record {
  text = λ i. ap (λ d. block_text (record { kind = kind; turns = 1 + d % 20; after = after }) i) draw_is ∙ is.text i (next state) after ∙ ap (λ k. text_of_lines (of_kind (k % 4) i (next state)).0) number_is;
  lines = λ i. is.lines i (next state) ∙ ap (λ k. length (of_kind (k % 4) i (next state)).0) number_is;
  after = λ i. then i ∙ ap (λ k. (of_kind (k % 4) i (next state)).1) number_is;
}
