use Rattle.std.proofs.Common.{◌≡◌, ℕ, ◌%◌, ◌/◌, ◌≤◌, ◌+◌, ◌^◌, ◌==◌, false, nat_lt, sym, ◌∙◌, refl, arith}
use Rattle.std.proofs.lemmas.Bool.{ne_eqb, le-ltb}
use Rattle.std.proofs.lemmas.Nat.{mod_below}
use Rattle.timing_laws.specs.Noted.{splitmix, chance, is_doubled}
use Rattle.timing_model.proofs.jitter.is_doubled_by.Goals as goal

-- with a seed
seeded : (seed hart count key drawn most : ℕ) → (seed == 0) ≡ false → key ≡ splitmix seed hart → drawn ≡ splitmix key count → most ≡ chance key (count / 1000) → nat_lt (drawn % 100) most ≡ is_doubled seed hart count
unfolding is_doubled
seeded seed hart count key drawn most some key_is drawn_is most_is = rw (drawn_is, most_is, key_is, some) refl

-- no chance is so great
above : (drawn n : ℕ) → 21 ≤ drawn → false ≡ nat_lt drawn (n % 21)
above drawn n high = sym (le-ltb drawn (n % 21) (omega (arith, high, mod_below n 21 (omega arith))))

above_each : (drawn key block : ℕ) → 21 ≤ drawn → false ≡ nat_lt drawn (chance key block)
unfolding chance
above_each drawn key block high = above drawn (splitmix key (2 ^ 63 + block)) high

pub returns-then-drawn-lt-CHANCES : goal.returns-then-drawn-lt-CHANCES
returns-then-drawn-lt-CHANCES c seed hart some is =
    seeded seed hart c.args.count c.args.key c.splitmix-drawn.result c.chance.result (ne_eqb seed 0 some) is c.splitmix-drawn.ensures c.chance.ensures

pub returns-else-drawn-lt-CHANCES : goal.returns-else-drawn-lt-CHANCES
returns-else-drawn-lt-CHANCES c seed hart some is =
    le-ltb (c.splitmix-drawn.result % 100) 21 (omega (arith, c.if-drawn-lt-CHANCES.false))
    ∙ above_each (c.splitmix-drawn.result % 100) c.args.key (c.args.count / 1000) (omega (arith, c.if-drawn-lt-CHANCES.false))
    ∙ seeded seed hart c.args.count c.args.key c.splitmix-drawn.result (chance c.args.key (c.args.count / 1000)) (ne_eqb seed 0 some) is c.splitmix-drawn.ensures refl
