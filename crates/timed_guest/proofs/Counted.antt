-- The counts of notes after a retirement.
use Rattle.std.proofs.Common.{◌≡◌, ℕ, ◌+◌, ◌≤◌, ◌⊎◌, inl, inr, List, [], ◌∷◌, Option, Some, None, get_or, unwrap_or, subst, sym, arith}
use Rattle.std.proofs.lemmas.Bool.{cases_eq}
use Rattle.machines.specs.Places.{change, change_each}
use Rattle.machines.proofs.Maps.{change_same, change_other}
use Rattle.timing_laws.specs.Noted.{Note, first_note, note_of, noted, made, notes_after}

-- no hart has retired more than n
abbrev pub AreFew : ℕ → List (Option Note) → Type 0
AreFew n notes = (k : ℕ) → (note_of notes k).count ≤ n

abbrev IsFew : ℕ → Option Note → Type 0
IsFew n o = (unwrap_or o first_note).count ≤ n

change_by : (n h k : ℕ) (f : Option Note → Option Note) (notes : List (Option Note)) → AreFew n notes → IsFew n (f (get_or notes h None)) → (h ≡ k) ⊎ (h ≡ k → ⊥) → IsFew n (get_or (change None h f notes) k None)
change_by n h k f notes few changed (inl same) = subst (λ (j : ℕ). IsFew n (get_or (change None h f notes) j None)) same (subst (IsFew n) (sym (change_same None h f notes)) changed)
change_by n h k f notes few changed (inr other) = subst (IsFew n) (sym (change_other None h k f notes other)) (few k)

change_few : (n h : ℕ) (f : Option Note → Option Note) (notes : List (Option Note)) → AreFew n notes → IsFew n (f (get_or notes h None)) → AreFew n (change None h f notes)
change_few n h f notes few changed = λ k. change_by n h k f notes few changed (cases_eq h k)

made_few : (n : ℕ) (last : Option ℕ) (o : Option Note) → IsFew n o → IsFew n (made last o)
made_few n last None few = omega arith
made_few n last (Some note) few = few

each_few : (n : ℕ) (last : Option ℕ) (hs : List ℕ) (notes : List (Option Note)) → AreFew n notes → AreFew n (change_each None hs (λ _. made last) notes)
each_few n last [] notes few = few
each_few n last (h ∷ hs) notes few =
    each_few n last hs (change None h (made last) notes) (change_few n h (made last) notes few (made_few n last (get_or notes h None) (few h)))

more : (n : ℕ) (notes : List (Option Note)) → AreFew n notes → AreFew (n + 1) notes
more n notes few = λ k. let less = few k in omega (arith, less)

pub after_few : (n : ℕ) (line : Option ℕ) (h : ℕ) (others : List ℕ) (notes : List (Option Note)) → AreFew n notes → AreFew (n + 1) (notes_after line h others notes)
after_few n line h others notes few =
    let less = few h in
    each_few (n + 1) (noted line (note_of notes h)).last others (change None h (λ _. Some (noted line (note_of notes h))) notes)
    (change_few (n + 1) h (λ _. Some (noted line (note_of notes h))) notes (more n notes few) (omega (arith, less)))
