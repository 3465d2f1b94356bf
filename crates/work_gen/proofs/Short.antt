-- How many bytes a generated text has at most.
use Rattle.std.proofs.Common.{ℕ, zero, suc, ◌+◌, ◌*◌, ◌%◌, ◌<◌, ◌≤◌, List, [], ◌∷◌, ◌++◌, length, get_or, arith, length-append, decimal, refl, ◌≡◌, true}
use Rattle.std.specs.Prelude.{codes, nat_le}
use Rattle.std.specs.List.{AllByRecursion, list_all}
use Rattle.std.proofs.lemmas.Bool.{and_parts, leb-true}
use Rattle.std.proofs.lemmas.Fmt.{length-decimal-le}
use Rattle.work_gen.specs.Text.{Line, b, c, next, draw_of, statement, statements, label, line_saying, turning_lines, locking_lines, locked_block, kinds, block, blocks, text_of_lines, opening, before_point, ending, generated}
use Rattle.work_gen.proofs.Blocks.{all_blocks}
use Rattle.work_gen.proofs.BlockTexts.{sleeps, adds}

abbrev IsShort : Line → Type 0
IsShort line = length line ≤ 40

abbrev AreShort : List Line → Type 0
AreShort ls = AllByRecursion IsShort ls

both_short : (ls ms : List Line) → AreShort ls → AreShort ms → AreShort (ls ++ ms)
both_short [] ms first more = more
both_short (l ∷ ls) ms first more = (first.0, both_short ls ms first.1 more)

-- a line that ends in a number
numbered : (front : List ℕ) (n : ℕ) → length front ≤ 30 → n < 10000 → IsShort (front ++ decimal n)
numbered front n short few = omega (arith, length-append front (decimal n), length-decimal-le 4 n (omega arith) few (omega arith))

named : (letter : List ℕ) (i : ℕ) → length letter ≤ 30 → i < 10000 → IsShort ((letter ++ decimal i) ++ codes ":")
named letter i short few = omega (arith, length-append (letter ++ decimal i) (codes ":"), length-append letter (decimal i), length-decimal-le 4 i (omega arith) few (omega arith))

-- a list of fixed lines
tested : (ls : List Line) → list_all (λ line. nat_le (length line) 40) ls ≡ true → AreShort ls
tested [] all = tt
tested (l ∷ ls) all =
    let parts = and_parts (nat_le (length l) 40) (list_all (λ line. nat_le (length line) 40) ls) all in
    (leb-true (length l) 40 parts.0, tested ls parts.1)

-- ---- blocks

turning_short : (work : Line) (n i : ℕ) → IsShort work → n < 10000 → i < 10000 → AreShort (turning_lines work n i)
turning_short work n i short few small = (
  numbered (codes "    li t0, ") n (omega arith) few,
  (named (codes "b") i (omega arith) small, (short, (omega arith, (numbered (codes "    bne t0, x0, b") i (omega arith) small, tt)))),
)

locking_short : (work : List Line) (i : ℕ) → AreShort work → i < 10000 → AreShort (locking_lines work i)
locking_short work i short small =
    let added = both_short work (statements adds) short (tested (statements adds) refl) in
    let behind : AreShort (statement (codes "j " ++ b i) ∷ label (c i) ∷ work ++ statements adds) = (numbered (codes "    j b") i (omega arith) small, (named (codes "c") i (omega arith) small, added)) in
    let waiting = both_short (statements sleeps) (statement (codes "j " ++ b i) ∷ label (c i) ∷ work ++ statements adds) (tested (statements sleeps) refl) behind in (
      named (codes "b") i (omega arith) small,
      (omega arith, (omega arith, (numbered (codes "    beq t1, x0, c") i (omega arith) small, waiting))),
    )

kind_short : (k i state : ℕ) → i < 10000 → AreShort (get_or kinds k (locked_block []) i state).0
kind_short zero i state few = turning_short (line_saying "mul t1, t1, t0") (1 + draw_of (next state) % 20) i (omega arith) (omega arith) few
kind_short (suc zero) i state few = turning_short (line_saying "div t1, t1, t0") (1 + draw_of (next state) % 20) i (omega arith) (omega arith) few
kind_short (suc (suc zero)) i state few = locking_short [] i tt few
kind_short (suc (suc (suc zero))) i state few = locking_short (line_saying "div t3, t3, t0" ∷ []) i (omega arith, tt) few
kind_short (suc (suc (suc (suc k)))) i state few = locking_short [] i tt few

blocks_short : (count i state : ℕ) → i + count ≤ 2000 → AreShort (blocks i count state)
blocks_short zero i state few = tt
blocks_short (suc count) i state few =
    let first = block i state in
    both_short first.0 (blocks (i + 1) count first.1) (kind_short (draw_of (next state) % 4) i (next state) (omega arith)) (blocks_short count (i + 1) first.1 (omega arith))

-- ---- the whole

all_bytes_short : (ls : List Line) → AreShort ls → length (text_of_lines ls) ≤ 41 * length ls
all_bytes_short [] all = omega arith
all_bytes_short (l ∷ ls) all = omega (arith, length-append (l ++ codes "\n") (text_of_lines ls), length-append l (codes "\n"), all.0, all_bytes_short ls all.1)

middle : List Line
middle = statements ("la a0, ended" ∷ "li a1, 1" ∷ [])

pub generated_short : (seed size : ℕ) → size ≤ 2000 → length (generated seed size).text ≤ 2097152
unfolding generated middle
generated_short seed size few =
    let some = all_blocks size 0 seed (omega arith) in
    let whole = before_point seed size ++ ending in
    let blocks_are = blocks_short size 0 seed (omega arith) in
    let before = both_short opening (blocks 0 size seed ++ middle) (tested opening refl) (both_short (blocks 0 size seed) middle blocks_are (tested middle refl)) in
    let all = both_short (before_point seed size) ending before (tested ending refl) in
    omega (arith, all_bytes_short whole all, length-append (before_point seed size) ending, length-append opening (blocks 0 size seed ++ middle), length-append (blocks 0 size seed) middle, some.few)
