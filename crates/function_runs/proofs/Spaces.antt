-- What a call does to a space, it does with another image and other load areas of the same pages too.
use Rattle.std.proofs.Common.{◌≡◌, ℕ, zero, suc, ◌+◌, ◌-◌, ◌*◌, ◌==◌, Bool, true, false, not, ◌&&◌, ◌||◌, nat_le, nat_lt, List, Option, Some, None, if◌then◌else◌, refl, ap, ap₂, ◌∙◌}
use Rattle.std.specs.Prelude.{ℤ, pos}
use Rattle.std.specs.List.{list_any}
use Rattle.coz_types.specs.Image.{ImageParts}
use Rattle.coz_types.specs.declared.image.Area.{Area}
use Rattle.guest_memory.specs.Memory.{MemoryMap, no_rights, read_and_write, with_rights_from, with_zeros}
use Rattle.guest_memory.specs.Regions.{brk_base, brk_end, page_of, page_size, pages_for, stack_base}
use Rattle.guest_areas.specs.Answers.{no_memory, no_access, invalid_argument}
use Rattle.guest_areas.specs.Space.{Answered, RegionMap, Space, free_run, has_power, is_each, is_in_area, is_in_map, is_in_run, is_known, is_page_start, map, memory_between, protect, refused_answer, rights_of, space, unmap, with_break, with_run, without_run}
use Rattle.function_runs.proofs.Memory.{moved, moved_rights}

module _ (image : ImageParts) (others : List Area → List Area) (pages : (areas : List Area) (page : ℕ) → list_any (is_in_area page) (others areas) ≡ list_any (is_in_area page) areas) where
  abbrev pub moved_regions : RegionMap → RegionMap
  moved_regions r = record r { areas = others r.areas }

  -- the space with the image and the areas
  abbrev pub moved_space : Space → Space
  moved_space s = space (moved_regions s.regions) (moved image s.memory)

  abbrev pub moved_answer : Answered → Answered
  moved_answer a = record a { space = moved_space a.space }

  record IsMoved (given a : Answered) : Type 0 where
    is : given ≡ moved_answer a

  choose : (t : Bool) {given other a b : Answered} → IsMoved given a → IsMoved other b → IsMoved (if t then given else other) (if t then a else b)
  choose true p q = p
  choose false p q = q

  refuses : (z : ℤ) (s : Space) → IsMoved (refused_answer z (moved_space s)) (refused_answer z s)
  refuses z s = record { is = refl }

  -- ---- brk

  between : (old new : ℕ) (m : MemoryMap) → memory_between old new (moved image m) ≡ moved image (memory_between old new m)
  between old new m =
      ap₂ (λ (x y : MemoryMap). if nat_lt old new then with_zeros old (new - old) x else y) (moved_rights image old (new - old) read_and_write m) (moved_rights image new (old - new) no_rights m)
      ∙ by (nat_lt old new)
    where
      by : (t : Bool) → (if t then with_zeros old (new - old) (moved image (with_rights_from old (new - old) read_and_write m)) else moved image (with_rights_from new (old - new) no_rights m))
          ≡ moved image (if t then with_zeros old (new - old) (with_rights_from old (new - old) read_and_write m) else with_rights_from new (old - new) no_rights m)
      by true = refl
      by false = refl

  pub breaks : (to : ℕ) (s : Space) → with_break to (moved_space s) ≡ moved_space (with_break to s)
  unfolding with_break
  breaks to s =
      ap (λ (m : MemoryMap). if nat_le brk_base to && nat_le to (brk_end s.regions.layout) then space (record (moved_regions s.regions) { break = to }) m else moved_space s) (between (pages_for s.regions.break) (pages_for to) s.memory)
      ∙ by (nat_le brk_base to && nat_le to (brk_end s.regions.layout))
    where
      by : (t : Bool) → (if t then space (record (moved_regions s.regions) { break = to }) (moved image (memory_between (pages_for s.regions.break) (pages_for to) s.memory)) else moved_space s)
          ≡ moved_space (if t then space (record s.regions { break = to }) (memory_between (pages_for s.regions.break) (pages_for to) s.memory) else s)
      by true = refl
      by false = refl

  -- ---- mmap, munmap and mprotect

  runs : (first count protection : ℕ) (s : Space) → with_run first count protection (moved_space s) ≡ moved_space (with_run first count protection s)
  runs first count protection s =
      ap (λ (m : MemoryMap). space (moved_regions (with_run first count protection s).regions) (with_zeros first count m)) (moved_rights image first count (rights_of protection) s.memory)

  runs_less : (first count : ℕ) (s : Space) → without_run first count (moved_space s) ≡ moved_space (without_run first count s)
  runs_less first count s =
      ap (λ (m : MemoryMap). space (moved_regions (without_run first count s).regions) m) (moved_rights image first count no_rights s.memory)

  mapped : (length protection : ℕ) (s : Space) → IsMoved (map length protection (moved_space s)) (map length protection s)
  unfolding map
  mapped length protection s =
      choose (length == 0) (refuses invalid_argument s) (choose (has_power protection 4) (refuses no_access s) (by (free_run s.regions (pages_for length))))
    where
      by : (o : Option ℕ) → IsMoved
          (elim o as (λ _. Answered) [ None ↦ refused_answer no_memory (moved_space s) | Some first ↦ record { answer = pos (first * page_size); space = with_run first (pages_for length) protection (moved_space s) } ])
          (elim o as (λ _. Answered) [ None ↦ refused_answer no_memory s | Some first ↦ record { answer = pos (first * page_size); space = with_run first (pages_for length) protection s } ])
      by None = refuses no_memory s
      by (Some first) = record { is = ap (λ (x : Space). let a : Answered = record { answer = pos (first * page_size); space = x } in a) (runs first (pages_for length) protection s) }

  pub maps : (length protection : ℕ) (s : Space) → map length protection (moved_space s) ≡ moved_answer (map length protection s)
  maps length protection s = (mapped length protection s).is

  unmapped : (address length : ℕ) (s : Space) → IsMoved (unmap address length (moved_space s)) (unmap address length s)
  unfolding unmap
  unmapped address length s =
      choose (not (is_page_start address) || length == 0 || not (is_in_map s.regions.layout address length)) (refuses invalid_argument s)
      (record { is = ap (λ (x : Space). let a : Answered = record { answer = pos 0; space = x } in a) (runs_less (page_of address) (pages_for length) s) })

  pub unmaps : (address length : ℕ) (s : Space) → unmap address length (moved_space s) ≡ moved_answer (unmap address length s)
  unmaps address length s = (unmapped address length s).is

  known : (r : RegionMap) (page : ℕ) → is_known (moved_regions r) page ≡ is_known r page
  known r page =
      ap (λ (t : Bool). list_any (λ p. p == page) r.mapped || is_in_run (page_of brk_base) (pages_for r.break - page_of brk_base) page || is_in_run (page_of (stack_base r.layout)) (page_of r.layout.stack) page || t) (pages r.areas page)

  each_known : (r : RegionMap) (first count : ℕ) → is_each (is_known (moved_regions r)) first count ≡ is_each (is_known r) first count
  each_known r first zero = refl
  each_known r first (suc count) =
      ap₂ (λ (here rest : Bool). elim here as (λ _. Bool) [ true ↦ rest | false ↦ false ]) (known r first) (each_known r (first + 1) count)

  protected : (address length protection : ℕ) (s : Space) → IsMoved (protect address length protection (moved_space s)) (protect address length protection s)
  unfolding protect
  protected address length protection s =
      choose (not (is_page_start address)) (refuses invalid_argument s) (choose (length == 0) (refuses (pos 0) s) (choose (has_power protection 4) (refuses no_access s)
      (record { is = ap (λ (t : Bool). if not t then refused_answer no_memory (moved_space s) else given) (each_known s.regions (page_of address) (pages_for length)) ∙ (choose (not (is_each (is_known s.regions) (page_of address) (pages_for length))) (refuses no_memory s) last).is })))
    where
      given : Answered
      given = record { answer = pos 0; space = space (moved_regions s.regions) (with_rights_from (page_of address) (pages_for length) (rights_of protection) (moved image s.memory)) }

      after : Answered
      after = record { answer = pos 0; space = space s.regions (with_rights_from (page_of address) (pages_for length) (rights_of protection) s.memory) }

      last : IsMoved given after
      last = record { is = ap (λ (m : MemoryMap). let a : Answered = record { answer = pos 0; space = space (moved_regions s.regions) m } in a) (moved_rights image (page_of address) (pages_for length) (rights_of protection) s.memory) }

  pub protects : (address length protection : ℕ) (s : Space) → protect address length protection (moved_space s) ≡ moved_answer (protect address length protection s)
  protects address length protection s = (protected address length protection s).is
