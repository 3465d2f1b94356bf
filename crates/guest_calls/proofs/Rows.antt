-- What the functions of the calls share.
use Rattle.std.proofs.Common.{ℕ, zero, suc, ◌-◌, min, ⊎_elim, ◌≡◌, ◌≢◌, ◌+◌, ◌<◌, ◌≤◌, ◌^◌, ◌++◌, List, [], ◌∷◌, length, take, set, Bool, true, false, if◌then◌else◌, Option, Some, None, refl, sym, ap, ◌∙◌, arith, pos, replicate, get_or}
use Rattle.std.proofs.lemmas.Bool.{ne_eqb}
use Rattle.std.proofs.lemmas.Bool.{cases_lt}
use Rattle.std.proofs.lemmas.List.{get_or_past, take_all}
use Rattle.std.proofs.Math.Nat.{mod-eq_of_lt}
use Rattle.std.proofs.Math.Seq.{take-append-add}
use Rattle.coz_types.specs.Maps.{Map, value_at}
use Rattle.coz_types.specs.Image.{ImageParts}
use Rattle.machines.specs.declared.Fate.{Fate}
use Rattle.machines.specs.Guest.{Retirement}
use Rattle.guest_memory.specs.declared.Layout.{Layout}
use Rattle.guest_memory.specs.Memory.{MemoryMap, with_bytes, is_readable, byte_at, bytes_at, first_memory}
use Rattle.guest_memory.proofs.Runs.{allowed_from, allowed_each, length-bytes_at, same_regions-with_bytes, same_regions-first}
use Rattle.guest_areas.specs.Space.{RegionMap, Space, space}
use Rattle.guest_areas.specs.Entry.{stack_pointer, first_space}
use Rattle.guest_futex.specs.Waiters.{Waiter}
use Rattle.guest_pipes.specs.Pipes.{PipeMap, no_pipes}
use Rattle.rv_execute.specs.Reservations.{Reservations}
use Rattle.guest_calls.specs.declared.hart.Hart.{Hart}
use Rattle.guest_calls.specs.Output.{Written, with_bytes_written}
use Rattle.guest_calls.specs.Guest.{Guest, IsMade, no_hart, is_running, is_running_status, hart_from, first_hart, first_guest}
use Rattle.guest_calls.specs.Kept.{guest_of, Parts, AreShared}
use Rattle.guest_calls.proofs.Shared.{still_shared}
use Rattle.guest_calls.specs.Calls.{retirement, number, with_reply, with_answer, leave, exit, is_cleared, woken_at_exit, cleared, unsupported, calls, call_of}

-- an answer that fits stands as it is
pub answered_count : (n h : ℕ) (g : Guest) → n < 2 ^ 64 → with_reply n h g ≡ with_answer (pos n) h g
answered_count n h g fits = ap (λ (x : ℕ). with_reply x h g) (sym (mod-eq_of_lt fits))

pub shares-stored : (r : Parts) (m after : MemoryMap) (a : ℕ) (bs : List ℕ) → AreShared r m → after ≡ with_bytes a bs m → AreShared r after
shares-stored r m after a bs shared e =
    let kept = same_regions-with_bytes m a bs in
    still_shared r m after (ap (λ (x : MemoryMap). x.image) e ∙ kept.0) (ap (λ (x : MemoryMap). x.layout) e ∙ kept.1) shared

pub readable-part : (m : MemoryMap) (a n k : ℕ) → is_readable m a n ≡ true → k ≤ n → is_readable m a k ≡ true
readable-part m a n k may fits =
    allowed_from (λ r. r.read) m a k (λ j below. allowed_each (λ r. r.read) m a n may j (omega arith))

-- the first memory has the layout that it was made with
pub first-again : (m : MemoryMap) (image : ImageParts) (layout : Layout) → m ≡ first_memory image layout → m ≡ first_memory image m.layout
first-again m image layout e =
    let kept = same_regions-first image layout in
    e ∙ ap (first_memory image) (sym (ap (λ (x : MemoryMap). x.layout) e ∙ kept.1))

each_case : (h : ℕ) (b : Bool) (hs : List ℕ) (x y : Guest) → leave h (if b then hs else []) (if b then x else y) ≡ (if b then leave h hs x else leave h [] y)
each_case h true hs x y = refl
each_case h false hs x y = refl

-- a hart leaves with the guest and the woken harts of each case
pub exit-is : (g after : Guest) (h : ℕ) (others : List ℕ) (left : Guest) (fate : Fate)
    → others ≡ (if is_cleared g h then woken_at_exit g h else []) → after ≡ (if is_cleared g h then cleared g h else g)
    → retirement left fate [] ≡ leave h [] after → retirement left fate others ≡ exit g h
unfolding exit
exit-is g after h others left fate woken is leaves =
    ap (λ (r : Retirement Guest). record r { others = others }) leaves
    ∙ ap (λ (x : Guest). leave h others x) is
    ∙ ap (λ (hs : List ℕ). leave h hs (if is_cleared g h then cleared g h else g)) woken
    ∙ each_case h (is_cleared g h) (woken_at_exit g h) (cleared g h) g

-- a call by its number
known_or : Guest → ℕ → ℕ → Option (Guest → ℕ → ℕ → Retirement Guest) → Retirement Guest
known_or g h v o = elim o [ None ↦ unsupported g h | Some call ↦ call g h v ]

pub call-known : (g : Guest) (h v n : ℕ) (call : Guest → ℕ → ℕ → Retirement Guest) → n ≡ number g h → value_at calls n ≡ Some call → call g h v ≡ call_of g h v
unfolding call_of known_or
call-known g h v n call e at = ap (known_or g h v) (sym at) ∙ ap (λ (x : ℕ). known_or g h v (value_at calls x)) e

pub call-unknown : (g : Guest) (h v n : ℕ) → n ≡ number g h → value_at calls n ≡ None → unsupported g h ≡ call_of g h v
unfolding call_of known_or
call-unknown g h v n e at = ap (known_or g h v) (sym at) ∙ ap (λ (x : ℕ). known_or g h v (value_at calls x)) e

skipped : {X : Type 0} (k n : ℕ) (x : X) (es : Map X) → n ≢ k → value_at ((k, x) ∷ es) n ≡ value_at es n
skipped k n x es apart = rw (ne_eqb k n (λ e. apart (sym e)), value_at) refl

-- the number is no key
abbrev HasNo : {X : Type 0} → Map X → ℕ → Type 0
HasNo [] n = Unit {0}
HasNo (e ∷ es) n = (n ≢ e.0) × HasNo es n

absent : {X : Type 0} (m : Map X) (n : ℕ) → HasNo m n → value_at m n ≡ None
absent [] n no_key = refl
absent (e ∷ es) n no_key = skipped e.0 n e.1 es no_key.0 ∙ absent es n no_key.1

pub unknown : (n : ℕ) → n ≢ 29 → n ≢ 57 → n ≢ 59 → n ≢ 62 → n ≢ 63 → n ≢ 64 → n ≢ 65 → n ≢ 66 → n ≢ 93 → n ≢ 94 → n ≢ 96 → n ≢ 98 → n ≢ 101 → n ≢ 113 → n ≢ 124 → n ≢ 135 → n ≢ 172 → n ≢ 178 → n ≢ 214 → n ≢ 215 → n ≢ 216 → n ≢ 220 → n ≢ 222 → n ≢ 226 → n ≢ 233 → value_at calls n ≡ None
unknown n n29 n57 n59 n62 n63 n64 n65 n66 n93 n94 n96 n98 n101 n113 n124 n135 n172 n178 n214 n215 n216 n220 n222 n226 n233 = absent calls n (n29, (n57, (n59, (n62, (n63, (n64, (n65, (n66, (n93, (n94, (n96, (n98, (n101, (n113, (n124, (n135, (n172, (n178, (n214, (n215, (n216, (n220, (n222, (n226, (n233, tt)))))))))))))))))))))))))

-- a running hart was made
pub made-running : (hs : List Hart) (h : ℕ) → is_running_status (get_or hs h no_hart).status ≡ true → h < length hs
made-running hs h runs =
    ⊎_elim (λ (below : h < length hs). below)
    (λ (past : length hs ≤ h). absurd (let never : false ≡ true = ap (λ (x : Hart). is_running_status x.status) (sym (get_or_past hs h no_hart past)) ∙ runs in cc))
    (cases_lt h (length hs))

pub running-made : (g : Guest) (h : ℕ) → is_running g h ≡ true → IsMade g h
running-made g h runs = made-running g.harts h runs

-- what is appended to an output
bytes_prefix : (m : MemoryMap) (a n k : ℕ) → k ≤ n → take k (bytes_at m a n) ≡ bytes_at m a k
bytes_prefix m a n zero fits = refl
bytes_prefix m a zero (suc k) fits = absurd (omega arith)
bytes_prefix m a (suc n) (suc k) fits = ap (λ (bs : List ℕ). byte_at m a ∷ bs) (bytes_prefix m (a + 1) n k (omega arith))

cut_bytes : (m : MemoryMap) (a n room : ℕ) → take room (bytes_at m a n) ≡ bytes_at m a (min n room)
cut_bytes m a n room =
    ⊎_elim
    (λ (less : room < n). bytes_prefix m a n room (omega arith) ∙ ap (bytes_at m a) (let e : room ≡ min n room = omega arith in e))
    (λ (more : n ≤ room). take_all room (bytes_at m a n) (omega (arith, length-bytes_at m a n)) ∙ ap (bytes_at m a) (let e : n ≡ min n room = omega arith in e))
    (cases_lt room n)

abbrev pub written : List ℕ → ℕ → Written
written bytes limit = record { bytes = bytes; limit = limit }

pub appended : (bytes now : List ℕ) (limit n k : ℕ) (m : MemoryMap) (a : ℕ) (old : Written) → length bytes ≤ limit → k ≡ min n (limit - length bytes) → now ≡ bytes ++ bytes_at m a k → written bytes limit ≡ old
    → written now limit ≡ with_bytes_written (bytes_at m a n) old
appended bytes now limit n k m a old inside e new was =
    let cut : take limit (bytes ++ bytes_at m a n) ≡ bytes ++ bytes_at m a k =
    ap (λ (l : ℕ). take l (bytes ++ bytes_at m a n)) (let f : limit ≡ length bytes + (limit - length bytes) = omega arith in f)
    ∙ take-append-add bytes (bytes_at m a n) (limit - length bytes)
    ∙ ap (λ (bs : List ℕ). bytes ++ bs) (cut_bytes m a n (limit - length bytes))
    ∙ ap (λ (l : ℕ). bytes ++ bytes_at m a l) (sym e) in
    ap (λ (bs : List ℕ). written bs limit) (new ∙ sym cut)
    ∙ ap (with_bytes_written (bytes_at m a n)) was

pub first-layout : (m : MemoryMap) (image : ImageParts) (layout : Layout) → m ≡ first_memory image layout → m.layout ≡ layout
first-layout m image layout e = ap (λ (x : MemoryMap). x.layout) e ∙ (same_regions-first image layout).1

pub first-made : (items : List Hart) (regions : RegionMap) (m : MemoryMap) (rs : Reservations) (ws : List Waiter) (ps : PipeMap) (input : List ℕ) (output : Written) (image : ImageParts) (limit : ℕ) (layout : Layout) → items ≡ first_hart image ∷ []
    → space regions m ≡ first_space image layout → rs ≡ [] → ws ≡ [] → ps ≡ no_pipes → output ≡ written [] limit → guest_of items regions m rs ws ps input input output ≡ first_guest image input limit layout
unfolding first_guest
first-made items regions m rs ws ps input output image limit layout hs sp none idle closed empty =
    ap (λ (x : List Hart). guest_of x regions m rs ws ps input input output) hs
    ∙ ap (λ (x : Space). guest_of (first_hart image ∷ []) x.regions x.memory rs ws ps input input output) sp
    ∙ ap (λ (x : Reservations). guest_of (first_hart image ∷ []) (first_space image layout).regions (first_space image layout).memory x ws ps input input output) none
    ∙ ap (λ (x : List Waiter). guest_of (first_hart image ∷ []) (first_space image layout).regions (first_space image layout).memory [] x ps input input output) idle
    ∙ ap (λ (x : PipeMap). guest_of (first_hart image ∷ []) (first_space image layout).regions (first_space image layout).memory [] [] x input input output) closed
    ∙ ap (λ (x : Written). guest_of (first_hart image ∷ []) (first_space image layout).regions (first_space image layout).memory [] [] no_pipes input input x) empty

pub first-hart : (items before : List Hart) (hart : Hart) (sp entry : ℕ) (image : ImageParts) → items ≡ before ++ hart ∷ [] → before ≡ []
    → hart ≡ hart_from (record { registers = set (replicate 32 0) 2 sp; pc = entry }) 0 → sp ≡ stack_pointer → entry ≡ image.entry → items ≡ first_hart image ∷ []
first-hart items before hart sp entry image pushed empty made top start =
    pushed
    ∙ ap (λ (x : List Hart). x ++ hart ∷ []) empty
    ∙ ap (λ (x : Hart). x ∷ []) (made ∙ ap (λ (x : ℕ). hart_from (record { registers = set (replicate 32 0) 2 x; pc = entry }) 0) top ∙ ap (λ (x : ℕ). hart_from (record { registers = set (replicate 32 0) 2 stack_pointer; pc = x }) 0) start)
