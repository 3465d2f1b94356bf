-- What a memory does, it does with another image too: no access reads the image.
use Rattle.std.proofs.Common.{◌≡◌, ℕ, zero, suc, ◌+◌, ◌*◌, Bool, true, false, List, [], ◌∷◌, Some, None, option_map, if◌then◌else◌, refl, ap, ap₂, ◌∙◌}
use Rattle.std.specs.Int.{bytes_low_first}
use Rattle.coz_types.specs.declared.image.Rights.{Rights}
use Rattle.coz_types.specs.Image.{ImageParts}
use Rattle.guest_memory.specs.Memory.{MemoryMap, byte_at, bytes_at, is_allowed, is_writable, load, fetch, number_at, rights_at, store, with_byte, with_bytes, with_number, with_rights, with_rights_from}

module _ (image : ImageParts) where
  -- the memory with the image
  abbrev pub moved : MemoryMap → MemoryMap
  moved m = record m { image = image }

  pub same_allowed : (right : Rights → Bool) (m : MemoryMap) (a n : ℕ) → is_allowed right (moved m) a n ≡ is_allowed right m a n
  same_allowed right m a zero = refl
  same_allowed right m a (suc n) = ap (λ (t : Bool). elim (right (rights_at m a)) as (λ _. Bool) [ true ↦ t | false ↦ false ]) (same_allowed right m (a + 1) n)

  pub same_number : (m : MemoryMap) (a n : ℕ) → number_at (moved m) a n ≡ number_at m a n
  same_number m a zero = refl
  same_number m a (suc n) = ap (λ (rest : ℕ). byte_at m a + 256 * rest) (same_number m (a + 1) n)

  pub same_bytes : (m : MemoryMap) (a n : ℕ) → bytes_at (moved m) a n ≡ bytes_at m a n
  same_bytes m a zero = refl
  same_bytes m a (suc n) = ap (λ (rest : List ℕ). byte_at m a ∷ rest) (same_bytes m (a + 1) n)

  pub moved_bytes : (a : ℕ) (bs : List ℕ) (m : MemoryMap) → with_bytes a bs (moved m) ≡ moved (with_bytes a bs m)
  moved_bytes a [] m = refl
  moved_bytes a (b ∷ bs) m = moved_bytes (a + 1) bs (with_byte a b m)

  pub moved_rights : (page n : ℕ) (r : Rights) (m : MemoryMap) → with_rights_from page n r (moved m) ≡ moved (with_rights_from page n r m)
  moved_rights page zero r m = refl
  moved_rights page (suc n) r m = moved_rights (page + 1) n r (with_rights page r m)

  pub same_load : (m : MemoryMap) (a n : ℕ) → load (moved m) a n ≡ load m a n
  same_load m a n = ap₂ (λ (t : Bool) (k : ℕ). if t then Some k else None) (same_allowed (λ r. r.read) m a n) (same_number m a n)

  pub same_fetch : (m : MemoryMap) (a : ℕ) → fetch (moved m) a ≡ fetch m a
  same_fetch m a = ap₂ (λ (t : Bool) (k : ℕ). if t then Some k else None) (same_allowed (λ r. r.execute) m a 4) (same_number m a 4)

  pub moved_store : (a n value : ℕ) (m : MemoryMap) → store a n value (moved m) ≡ option_map moved (store a n value m)
  moved_store a n value m =
      ap₂ (λ (t : Bool) (x : MemoryMap). if t then Some x else None) (same_allowed (λ r. r.write) m a n) (moved_bytes a (bytes_low_first 0 n value) m)
      ∙ by (is_writable m a n)
    where
      by : (t : Bool) → (if t then Some (moved (with_number a n value m)) else None) ≡ option_map moved (if t then Some (with_number a n value m) else None)
      by true = refl
      by false = refl
