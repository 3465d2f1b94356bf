-- Notes of harts that were made, one by one.
use Rattle.std.proofs.Common.{◌≡◌, ℕ, zero, suc, ◌+◌, ◌<◌, List, [], ◌∷◌, length, drop, drop-cons, add-one, Option, Some, None, get_or, unwrap_or, map, refl, sym, ap, ◌∙◌, arith}
use Rattle.std.proofs.lemmas.List.{length-map}
use Rattle.coz_types.specs.declared.HartId.{HartId}
use Rattle.machines.specs.Places.{change, change_each}
use Rattle.coz_types.specs.declared.LineId.{LineId}
use Rattle.timing_laws.specs.Noted.{Note, first_note, made, note_of, noted}
use Rattle.timing_state.specs.declared.notes.Note.{Note as HeldNote}
use Rattle.timing_steps.specs.State.{number_of}
use Rattle.timing_state.specs.Notes.{held_note, notes_of, note_as}
use Rattle.timing_state.proofs.Maps.{change_read, map_change, map_get}

-- a note that is put
pub put_note : (h : ℕ) (v : Option HeldNote) (notes : List (Option HeldNote)) → notes_of (change None h (λ _. v) notes) ≡ change None h (λ _. held_note v) (notes_of notes)
put_note h v notes = map_change held_note None h v notes

pub read_note : (h : ℕ) (notes : List (Option HeldNote)) → get_or (notes_of notes) h None ≡ held_note (get_or notes h None)
read_note h notes = map_get held_note notes h None

-- the note of a hart that retires an instruction
pub put_noted : (h : ℕ) (line : Option LineId) (after : HeldNote) (n : Note) (notes new : List (Option HeldNote)) → note_as after ≡ noted (number_of line) n
    → new ≡ change None h (λ _. Some after) notes
    → notes_of new ≡ change None h (λ _. Some (noted (number_of line) n)) (notes_of notes)
put_noted h line after n notes new is put =
    ap (λ (ns : List (Option HeldNote)). notes_of ns) put
    ∙ put_note h (Some after) notes
    ∙ ap (λ (q : Note). change None h (λ _. Some q) (notes_of notes)) is

-- a hart that has a note
pub held_low : (h : ℕ) (before : HeldNote) (notes : List (Option HeldNote)) → Some before ≡ get_or notes h None → h < length notes
held_low h before [] is = absurd (let no : ◌≡◌ {A = Option HeldNote} (Some before) None = is in cc)
held_low zero before (n ∷ notes) is = omega arith
held_low (suc h) before (n ∷ notes) is = let less : h < length notes = held_low h before notes is in omega (arith, less)

pub held_note_of : (h : ℕ) (before : HeldNote) (notes : List (Option HeldNote)) → Some before ≡ get_or notes h None → note_as before ≡ note_of (notes_of notes) h
held_note_of h before notes is =
    ap (λ (o : Option HeldNote). unwrap_or (held_note o) first_note) is
    ∙ ap (λ (o : Option Note). unwrap_or o first_note) (sym (read_note h notes))

-- the note of a hart that was made or woken
pub put_made : (h : ℕ) (last : Option LineId) (v : HeldNote) (notes : List (Option HeldNote))
    → Some (note_as v) ≡ made (number_of last) (held_note (get_or notes h None))
    → notes_of (change None h (λ _. Some v) notes) ≡ change None h (made (number_of last)) (notes_of notes)
put_made h last v notes is =
    put_note h (Some v) notes
    ∙ ap (λ (n : Option Note). change None h (λ _. n) (notes_of notes)) (is ∙ ap (made (number_of last)) (sym (read_note h notes)))
    ∙ change_read None h (made (number_of last)) (notes_of notes)

-- one more of the harts that were made
pub made_more : (harts : List HartId) (i : ℕ) (d : HartId) (last : Option LineId) (v : HeldNote) (notes new : List (Option HeldNote)) (whole : List (Option Note)) → i < length harts
    → Some (note_as v) ≡ made (number_of last) (held_note (get_or notes (get_or harts i d).0 None))
    → new ≡ change None (get_or harts i d).0 (λ _. Some v) notes
    → change_each None (drop i (map (λ (hart : HartId). hart.0) harts)) (λ _. made (number_of last)) (notes_of notes) ≡ whole
    → change_each None (drop (i + 1) (map (λ (hart : HartId). hart.0) harts)) (λ _. made (number_of last)) (notes_of new) ≡ whole
made_more harts i d last v notes new whole below note put before =
    let f : HartId → ℕ = λ hart. hart.0 in
    let len : length (map f harts) ≡ length harts = length-map harts f in
    let next : drop i (map f harts) ≡ (get_or harts i d).0 ∷ drop (i + 1) (map f harts) =
    drop-cons (map f harts) i d.0 (omega (arith, len, below)) ∙ rw (map_get f harts i d, add-one) refl in
    ap (λ (ns : List (Option HeldNote)). change_each None (drop (i + 1) (map f harts)) (λ _. made (number_of last)) (notes_of ns)) put
    ∙ ap (λ (ns : List (Option Note)). change_each None (drop (i + 1) (map f harts)) (λ _. made (number_of last)) ns) (put_made (get_or harts i d).0 last v notes note)
    ∙ sym (ap (λ (hs : List ℕ). change_each None hs (λ _. made (number_of last)) (notes_of notes)) next)
    ∙ before
