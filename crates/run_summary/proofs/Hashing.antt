-- The bytes that are hashed, and those of a digest.
use Rattle.std.proofs.Common.{◌≡◌, ◌<◌, ℕ, zero, suc, ◌+◌, ◌%◌, ◌/◌, ◌^◌, Bool, true, ◌&&◌, nat_lt, List, [], ◌∷◌, ◌++◌, length, map, take, get_or, refl, sym, ap, ap₂, ◌∙◌, arith, append-nil}
use Rattle.std.specs.List.{list_all}
use Rattle.std.specs.Int.{bytes_high_first, byte_at, to_be_bytes, w32}
use Rattle.std.specs.Prelude.{slice_index}
use Rattle.std.proofs.lemmas.Bool.{lt-ltb}
use Rattle.std.proofs.lemmas.List.{map-append, take_more}
use Rattle.std.proofs.lemmas.List.Concat.{flat_map-append}
use Rattle.std.proofs.lemmas.List.Folds.{list_all-append}
use Rattle.coz_types.specs.declared.record.Visit.{Visit}
use Rattle.coz_types.specs.Ranges.{IsDigest}
use Rattle.sha2.specs.Sha256.{sha256, digest_bytes, final_hash, initial_hash_256}
use Rattle.sha2.proofs.Facts256.{length-sha256}
use Rattle.machines.specs.KeptVisits.{net_of}
use Rattle.run_summary.specs.Kept.{visit_bytes, visits_bytes}

-- the visit at a place
abbrev pub visit_at : List Visit → ℕ → Visit
visit_at visits i = get_or visits i (record { point = record { 0 = 0 }; hart = record { 0 = 0 }; time = 0; delay = 0 })

-- the bytes of one visit more
pub one_more : (visits : List Visit) (i : ℕ) (bytes : List ℕ) → i < length visits → bytes ≡ visit_bytes (net_of (visit_at visits i))
    → visits_bytes (map net_of (take (i + 1) visits)) ≡ visits_bytes (map net_of (take i visits)) ++ bytes
one_more visits i bytes within is =
    let so_far : List ℕ = visits_bytes (map net_of (take i visits)) in
    let visit : Visit = visit_at visits i in
    ap (λ (some : List Visit). visits_bytes (map net_of some)) (take_more visits i _ within)
    ∙ ap visits_bytes (map-append net_of (take i visits) (visit ∷ []))
    ∙ flat_map-append visit_bytes (map net_of (take i visits)) (net_of visit ∷ [])
    ∙ ap (λ (last : List ℕ). so_far ++ last) (append-nil (visit_bytes (net_of visit)) ∙ sym is)

byte_fits : (i n : ℕ) → nat_lt (byte_at i n) 256 ≡ true
byte_fits zero n = lt-ltb _ _ (omega arith)
byte_fits (suc i) n = let m : ℕ = n / 256 ^ suc i in lt-ltb (m % 256) 256 (omega arith)

bytes_fit : (k n : ℕ) → list_all (λ (b : ℕ). nat_lt b 256) (bytes_high_first k n) ≡ true
bytes_fit zero n = refl
bytes_fit (suc k) n = ap₂ (λ (a b : Bool). a && b) (byte_fits k n) (bytes_fit k n)

words_fit : (hash : List ℕ) (n : ℕ) → list_all (λ (b : ℕ). nat_lt b 256) (digest_bytes hash n) ≡ true
unfolding digest_bytes
words_fit hash zero = refl
words_fit hash (suc n) =
    list_all-append (λ (b : ℕ). nat_lt b 256) (digest_bytes hash n) (to_be_bytes w32 (slice_index hash n))
    ∙ ap₂ (λ (a b : Bool). a && b) (words_fit hash n) (bytes_fit 4 (slice_index hash n))

pub sha256_is : (message : List ℕ) → IsDigest (sha256 message)
unfolding sha256
sha256_is message = record { size = length-sha256 message; bytes_fit = words_fit (final_hash initial_hash_256 message) 8 }
