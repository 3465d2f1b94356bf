use Rattle.std.proofs.Common.{arith, inl, inr, ◌≡◌, ◌∙◌, sym, ap, ℕ, List, ◌+◌, true, false, ◌==◌, get_or, drop, length}
use Rattle.std.proofs.lemmas.List.{get_or-drop}
use Rattle.elf_load.proofs.NameLemmas.{no_text, front_text}
use Rattle.elf_load.proofs.faults.is_text.Goals as goal
use Rattle.elf_load.proofs.faults.is_text.Goals.{then-contains-via-then-contains, then-contains-via-else-contains+then-bytes-name}

pub returns-then-contains : goal.returns-then-contains
returns-then-contains c =
    no_text c.args.bytes.now c.args.name.now (elim c.then-contains.branch [
      | then-contains-via-then-contains w ↦ inl (sym c.contains.ensures.value ∙ w.if-contains.true)
      | then-contains-via-else-contains+then-bytes-name w ↦ inr w.if-bytes-name.true
    ])

-- the byte after the front
at_end : (n : ℕ) (bytes rest : List ℕ) → rest ≡ drop n bytes → (get_or rest 0 0 == 0) ≡ (get_or bytes n 0 == 0)
at_end n bytes rest is =
    let first : n + 0 ≡ n = omega arith in
    ap (λ (x : List ℕ). get_or x 0 0 == 0) is ∙ (ap (λ (x : ℕ). x == 0) (get_or-drop n bytes 0 0) ∙ ap (λ (k : ℕ). get_or bytes k 0 == 0) first)

pub returns-then-eq : goal.returns-then-eq
returns-then-eq c =
    let name = c.args.name.now in
    front_text c.args.bytes.now name c.split_at.result.0.now true _ c.if-bytes-name.false (sym c.contains.ensures.value ∙ c.if-contains.false) c.split_at.ensures.front c.if-eq.ensures (at_end (length name) c.args.bytes.now c.split_at.result.1.now c.split_at.ensures.back)

pub returns-else-eq : goal.returns-else-eq
returns-else-eq c =
    let name = c.args.name.now in
    c.if-eq.false ∙ front_text c.args.bytes.now name c.split_at.result.0.now false _ c.if-bytes-name.false (sym c.contains.ensures.value ∙ c.if-contains.false) c.split_at.ensures.front c.if-eq.ensures (at_end (length name) c.args.bytes.now c.split_at.result.1.now c.split_at.ensures.back)
