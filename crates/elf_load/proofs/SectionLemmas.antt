-- A search among the section headers, one after the other.
use Rattle.std.proofs.Common.{◌≡◌, ℕ, ◌+◌, ◌-◌, ◌*◌, ◌<◌, ◌≤◌, Bool, true, false, ◌&&◌, cond, List, map, find, Option, Some, None, option_map, refl, sym, ap, ◌∙◌, arith}
use Rattle.elf_load.specs.declared.tables.Section.{Section}
use Rattle.elf_load.specs.Tables.{section_at, sections, places, shoff, shnum, has_bytes, has_name, is_named, names, bytes_of}
use Rattle.elf_load.specs.Loaded.{section}
use Rattle.elf_load.proofs.TableLemmas.{entries_next}

abbrev pub wanted : List ℕ → List ℕ → Section → Bool
wanted file name s = has_bytes s && is_named file name s

-- those from some number on
abbrev pub left : List ℕ → ℕ → List Section
left file k = map (section_at file) (places (shoff file + 64 * k) 64 (shnum file - k))

-- what a search among those that are left does with the next one
pub next : (file name : List ℕ) (k : ℕ) (s : Section) → k < shnum file → s ≡ section_at file (shoff file + 64 * k)
    → find (wanted file name) (left file k) ≡ cond (wanted file name s) (Some s) (find (wanted file name) (left file (k + 1)))
next file name k s below is =
    ap (λ (ss : List Section). find (wanted file name) ss) (entries_next (section_at file) (shoff file) 64 k (shnum file) below)
    ∙ ap (λ (x : Section). cond (wanted file name x) (Some x) (find (wanted file name) (left file (k + 1)))) (sym is)

pub both_hold : (file name names_now : List ℕ) (s : Section) (b n : Bool) → names_now ≡ names file → b ≡ has_bytes s → n ≡ has_name names_now name s → b ≡ true → n ≡ true → wanted file name s ≡ true
both_hold file name names_now s b n is_names is_b is_n bt nt =
    let bytes : has_bytes s ≡ true = sym is_b ∙ bt in
    let named : is_named file name s ≡ true = ap (λ (ns : List ℕ). has_name ns name s) (sym is_names) ∙ (sym is_n ∙ nt) in
    rw (bytes, named) refl

and_false : (b : Bool) → (b && false) ≡ false
and_false true = refl
and_false false = refl

pub not_named : (file name names_now : List ℕ) (s : Section) (n : Bool) → names_now ≡ names file → n ≡ has_name names_now name s → n ≡ false → wanted file name s ≡ false
not_named file name names_now s n is_names is_n nf =
    let other : is_named file name s ≡ false = ap (λ (ns : List ℕ). has_name ns name s) (sym is_names) ∙ (sym is_n ∙ nf) in
    rw other (and_false (has_bytes s))

pub no_bytes : (file name : List ℕ) (s : Section) (b : Bool) → b ≡ has_bytes s → b ≡ false → wanted file name s ≡ false
no_bytes file name s b is_b bf =
    let none : has_bytes s ≡ false = sym is_b ∙ bf in
    rw none refl

pub found : (file name : List ℕ) (o : Option Section) → o ≡ find (wanted file name) (sections file) → option_map (bytes_of file) o ≡ section file name
unfolding section
found file name o is = ap (λ (x : Option Section). option_map (bytes_of file) x) is

pub none_left : (file name : List ℕ) (k : ℕ) → shnum file ≤ k → find (wanted file name) (left file k) ≡ None
none_left file name k le =
    let nothing : shnum file - k ≡ 0 = omega arith in
    ap (λ (n : ℕ). find (wanted file name) (map (section_at file) (places (shoff file + 64 * k) 64 n))) nothing
