-- Reading one after the other, as loops do.
use Rattle.std.proofs.Common.{◌≡◌, ℕ, zero, suc, ◌-◌, ◌+◌, ◌≤◌, ◌<◌, Bool, true, false, List, [], ◌∷◌, ◌++◌, length, Option, Some, Result, Ok, Err, refl, sym, ap, ◌∙◌, append_assoc, length-append, arith}
use Rattle.std.specs.Prelude.{slice_get}
use Rattle.std.proofs.lemmas.List.{append-nil}
use Rattle.coz_types.specs.Labels.{Text}
use Rattle.coz_types.specs.declared.record.Summary.{Summary}
use Rattle.profile_reader.specs.declared.fault.BookFault.{BookFault}
use Rattle.failures.specs.declared.Failure.{Failure}
use Rattle.failures.specs.declared.Failure.TheVariants as errors
use Rattle.profile_reader.specs.Reading.{Ahead, bind, name_at, names_at, count_at, counts_at, block_at, blocks_at, is_done}
use Rattle.failures.specs.Answers.{Fails}

-- what was read before, and what is still read
abbrev pub with_front : {X : Type 0} → List X → Result (List X × Ahead) BookFault → Result (List X × Ahead) BookFault
with_front front (Ok x) = Ok (front ++ x.0, x.1)
with_front front (Err f) = Err f

regroup : {X : Type 0} (front : List X) (n : X) (read : Result (List X × Ahead) BookFault) → with_front front (bind read (λ x. Ok (n ∷ x.0, x.1))) ≡ with_front (front ++ n ∷ []) read
unfolding bind
regroup {X = X} front n (Ok x) = ap (λ (ns : List X). let r : Result (List X × Ahead) BookFault = Ok (ns, x.1) in r) (simp append_assoc refl)
regroup front n (Err f) = refl

-- ---- counts

pub count_goes_on : (front : List ℕ) (all i : ℕ) (a : Ahead) (n : ℕ) (b : Ahead) (total : Result (List ℕ × Ahead) BookFault) → i < all → count_at i a ≡ Ok (n, b)
    → with_front front (counts_at (all - i) i a) ≡ total → with_front (front ++ n ∷ []) (counts_at (all - (i + 1)) (i + 1) b) ≡ total
unfolding counts_at bind
count_goes_on front all i a n b total lt h so_far =
    let k : all - i ≡ suc (all - (i + 1)) = omega arith in
    let next : suc i ≡ i + 1 = omega arith in
    let one : with_front front (counts_at (all - i) i a) ≡ with_front (front ++ n ∷ []) (counts_at (all - (i + 1)) (i + 1) b) = rw (k, h) (regroup front n (counts_at (all - (i + 1)) (suc i) b) ∙ ap (λ (j : ℕ). with_front (front ++ n ∷ []) (counts_at (all - (i + 1)) j b)) next) in
    sym one ∙ so_far

pub count_ends : (e : Failure BookFault) (front : List ℕ) (all i : ℕ) (a : Ahead) (total : Result (List ℕ × Ahead) BookFault) → i < all → Fails e (count_at i a)
    → with_front front (counts_at (all - i) i a) ≡ total → Fails e total
unfolding counts_at bind
count_ends errors.Memory front all i a total lt h so_far = tt
count_ends (errors.Fault f) front all i a total lt h so_far =
    let k : all - i ≡ suc (all - (i + 1)) = omega arith in
    let one : with_front front (counts_at (all - i) i a) ≡ Err f = rw (k, h) refl in
    sym so_far ∙ one

pub counts_done : (front : List ℕ) (all i : ℕ) (a : Ahead) (total : Result (List ℕ × Ahead) BookFault) → all ≤ i → with_front front (counts_at (all - i) i a) ≡ total → total ≡ Ok (front, a)
unfolding counts_at
counts_done front all i a total le so_far =
    let k : all - i ≡ 0 = omega arith in
    let one : with_front front (counts_at (all - i) i a) ≡ Ok (front, a) = rw k (ap (λ (ns : List ℕ). let r : Result (List ℕ × Ahead) BookFault = Ok (ns, a) in r) (append-nil front)) in
    sym so_far ∙ one

-- ---- names

get_end : {X : Type 0} (front : List X) (x : X) → slice_get (front ++ x ∷ []) (length front) ≡ Some x
get_end [] x = refl
get_end (y ∷ front) x = get_end front x

pub last_pushed : {X : Type 0} (front : List X) (x : X) → slice_get (front ++ x ∷ []) (length (front ++ x ∷ []) - 1) ≡ Some x
last_pushed {X = X} front x =
    let e : length (front ++ x ∷ []) - 1 ≡ length front = omega (arith, length-append front (x ∷ [])) in
    ap (λ (n : ℕ). slice_get (front ++ x ∷ []) n) e ∙ get_end front x

abbrev pub last_in : {X : Type 0} → List X → Option X
last_in xs = slice_get xs (length xs - 1)

pub name_goes_on : (front : List Text) (all i : ℕ) (a : Ahead) (name : Text) (b : Ahead) (total : Result (List Text × Ahead) BookFault) → i < all → name_at i (last_in front) a ≡ Ok (name, b)
    → with_front front (names_at (all - i) i (last_in front) a) ≡ total → with_front (front ++ name ∷ []) (names_at (all - (i + 1)) (i + 1) (last_in (front ++ name ∷ [])) b) ≡ total
unfolding names_at bind
name_goes_on front all i a name b total lt h so_far =
    let k : all - i ≡ suc (all - (i + 1)) = omega arith in
    let next : suc i ≡ i + 1 = omega arith in
    let one : with_front front (names_at (all - i) i (last_in front) a) ≡ with_front (front ++ name ∷ []) (names_at (all - (i + 1)) (suc i) (Some name) b) = rw (k, h) (regroup front name (names_at (all - (i + 1)) (suc i) (Some name) b)) in
    ap (λ (last : Option Text). with_front (front ++ name ∷ []) (names_at (all - (i + 1)) (i + 1) last b)) (last_pushed front name)
    ∙ ap (λ (j : ℕ). with_front (front ++ name ∷ []) (names_at (all - (i + 1)) j (Some name) b)) (sym next)
    ∙ sym one ∙ so_far

pub name_ends : (e : Failure BookFault) (front : List Text) (all i : ℕ) (last : Option Text) (a : Ahead) (total : Result (List Text × Ahead) BookFault) → i < all → Fails e (name_at i last a)
    → with_front front (names_at (all - i) i last a) ≡ total → Fails e total
unfolding names_at bind
name_ends errors.Memory front all i last a total lt h so_far = tt
name_ends (errors.Fault f) front all i last a total lt h so_far =
    let k : all - i ≡ suc (all - (i + 1)) = omega arith in
    let one : with_front front (names_at (all - i) i last a) ≡ Err f = rw (k, h) refl in
    sym so_far ∙ one

pub names_done : (front : List Text) (all i : ℕ) (last : Option Text) (a : Ahead) (total : Result (List Text × Ahead) BookFault) → all ≤ i → with_front front (names_at (all - i) i last a) ≡ total → total ≡ Ok (front, a)
unfolding names_at
names_done front all i last a total le so_far =
    let k : all - i ≡ 0 = omega arith in
    let one : with_front front (names_at (all - i) i last a) ≡ Ok (front, a) = rw k (ap (λ (ns : List Text). let r : Result (List Text × Ahead) BookFault = Ok (ns, a) in r) (append-nil front)) in
    sym so_far ∙ one

-- ---- blocks

abbrev pub with_blocks : List Summary → Result (List Summary) BookFault → Result (List Summary) BookFault
with_blocks front (Ok x) = Ok (front ++ x)
with_blocks front (Err f) = Err f

regroup_blocks : (front : List Summary) (s : Summary) (read : Result (List Summary) BookFault) → with_blocks front (bind read (λ x. Ok (s ∷ x))) ≡ with_blocks (front ++ s ∷ []) read
unfolding bind
regroup_blocks front s (Ok x) = ap (λ (ss : List Summary). let r : Result (List Summary) BookFault = Ok ss in r) (simp append_assoc refl)
regroup_blocks front s (Err f) = refl

pub block_opens : (left all : ℕ) (last : Option Summary) (a : Ahead) → is_done a.items ≡ false → blocks_at (suc left) all last a ≡ bind (block_at all last a) (λ first. bind (blocks_at left all (Some first.0) first.1) (λ others. Ok (first.0 ∷ others)))
unfolding blocks_at
block_opens left all last a e = ap (λ (b : Bool). elim b as (λ _. Result (List Summary) BookFault) [ true ↦ Ok [] | false ↦ bind (block_at all last a) (λ first. bind (blocks_at left all (Some first.0) first.1) (λ others. Ok (first.0 ∷ others))) ]) e

pub block_goes_on : (front : List Summary) (most turn all : ℕ) (a : Ahead) (s : Summary) (b : Ahead) (total : Result (List Summary) BookFault) → turn < most → is_done a.items ≡ false → block_at all (last_in front) a ≡ Ok (s, b)
    → with_blocks front (blocks_at (most - turn) all (last_in front) a) ≡ total → with_blocks (front ++ s ∷ []) (blocks_at (most - (turn + 1)) all (last_in (front ++ s ∷ [])) b) ≡ total
unfolding bind
block_goes_on front most turn all a s b total lt some h so_far =
    let k : most - turn ≡ suc (most - (turn + 1)) = omega arith in
    let one : with_blocks front (blocks_at (most - turn) all (last_in front) a) ≡ with_blocks (front ++ s ∷ []) (blocks_at (most - (turn + 1)) all (Some s) b) =
    ap (λ (n : ℕ). with_blocks front (blocks_at n all (last_in front) a)) k
    ∙ ap (λ (r : Result (List Summary) BookFault). with_blocks front r) (block_opens (most - (turn + 1)) all (last_in front) a some)
    ∙ ap (λ (r : Result (Summary × Ahead) BookFault). with_blocks front (bind r (λ first. bind (blocks_at (most - (turn + 1)) all (Some first.0) first.1) (λ others. Ok (first.0 ∷ others))))) h
    ∙ regroup_blocks front s (blocks_at (most - (turn + 1)) all (Some s) b) in
    ap (λ (last : Option Summary). with_blocks (front ++ s ∷ []) (blocks_at (most - (turn + 1)) all last b)) (last_pushed front s)
    ∙ sym one ∙ so_far

pub block_ends : (e : Failure BookFault) (front : List Summary) (most turn all : ℕ) (last : Option Summary) (a : Ahead) (total : Result (List Summary) BookFault) → turn < most → is_done a.items ≡ false → Fails e (block_at all last a)
    → with_blocks front (blocks_at (most - turn) all last a) ≡ total → Fails e total
unfolding bind
block_ends errors.Memory front most turn all last a total lt some h so_far = tt
block_ends (errors.Fault f) front most turn all last a total lt some h so_far =
    let k : most - turn ≡ suc (most - (turn + 1)) = omega arith in
    let one : with_blocks front (blocks_at (most - turn) all last a) ≡ Err f =
    ap (λ (n : ℕ). with_blocks front (blocks_at n all last a)) k
    ∙ ap (λ (r : Result (List Summary) BookFault). with_blocks front r) (block_opens (most - (turn + 1)) all last a some)
    ∙ ap (λ (r : Result (Summary × Ahead) BookFault). with_blocks front (bind r (λ first. bind (blocks_at (most - (turn + 1)) all (Some first.0) first.1) (λ others. Ok (first.0 ∷ others))))) h in
    sym so_far ∙ one

pub all_read : (left all : ℕ) (last : Option Summary) (a : Ahead) → is_done a.items ≡ true → blocks_at left all last a ≡ Ok []
unfolding blocks_at
all_read zero all last a e = refl
all_read (suc left) all last a e = ap (λ (b : Bool). elim b as (λ _. Result (List Summary) BookFault) [ true ↦ Ok [] | false ↦ bind (block_at all last a) (λ first. bind (blocks_at left all (Some first.0) first.1) (λ others. Ok (first.0 ∷ others))) ]) e

pub blocks_end : (front : List Summary) (left all : ℕ) (last : Option Summary) (a : Ahead) (total : Result (List Summary) BookFault) → is_done a.items ≡ true → with_blocks front (blocks_at left all last a) ≡ total → total ≡ Ok front
blocks_end front left all last a total e so_far =
    sym so_far ∙ ap (λ (r : Result (List Summary) BookFault). with_blocks front r) (all_read left all last a e) ∙ ap (λ (ss : List Summary). let r : Result (List Summary) BookFault = Ok ss in r) (append-nil front)

pub blocks_done : (front : List Summary) (most turn all : ℕ) (last : Option Summary) (a : Ahead) (total : Result (List Summary) BookFault) → most ≤ turn → with_blocks front (blocks_at (most - turn) all last a) ≡ total → total ≡ Ok front
unfolding blocks_at
blocks_done front most turn all last a total le so_far =
    let k : most - turn ≡ 0 = omega arith in
    let one : with_blocks front (blocks_at (most - turn) all last a) ≡ Ok front = rw k (ap (λ (ss : List Summary). let r : Result (List Summary) BookFault = Ok ss in r) (append-nil front)) in
    sym so_far ∙ one
