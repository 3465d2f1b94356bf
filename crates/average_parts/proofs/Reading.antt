-- The profiles in the files of paths, one more at a time.
use Rattle.std.proofs.Common.{◌≡◌, ℕ, zero, suc, ◌+◌, ◌<◌, List, [], ◌∷◌, ◌++◌, map, take, drop, length, length-append, get_or, string_bytes, All, Option, None, Some, IfSome, Result, Ok, Err, IfErr, inl, inr, refl, sym, ap, ap₂, subst, ◌∙◌, arith}
use Rattle.std.specs.Global.{Vec}
use Rattle.std.specs.declared.string.String.{String}
use Rattle.std.specs.declared.alloc.Global.{Global}
use Rattle.std.proofs.lemmas.List.Elements.{All-push}
use Rattle.std.proofs.lemmas.Option.{slice_get-get_or}
use Rattle.std.proofs.lemmas.List.{take_more, drop_more, take-append-drop}
use Rattle.coz_types.specs.Labels.{Text}
use Rattle.coz_files.specs.Held.{Held, file_at}
use Rattle.coz_files.specs.Verdict.{Verdict}
use Rattle.file_read.specs.Reading as reading
use Rattle.file_read.specs.Reading.{read_verdict}
use Rattle.file_read.proofs.ReadBytes.{told_by}
use Rattle.profile_book.specs.declared.profile.Profile.{Profile as Book}
use Rattle.profile_reader.specs.Grammar.{book_fault}
use Rattle.profile_reader.specs.Parsed.{parsed_profile}
use Rattle.profile_reader.specs.declared.fault.BookFault.{BookFault}
use Rattle.profile_reader.proofs.Only.{told_is}
use Rattle.profile_book.specs.Profile.{IsTextOf}
use Rattle.average_parts.specs.declared.fault.Fault.{Fault}
use Rattle.average_parts.specs.declared.fault.Fault.TheVariants as faults
use Rattle.file_read.specs.declared.fault.FileFault.{FileFault}
use Rattle.file_read.specs.declared.fault.FileFault.TheVariants as file
use Rattle.average_parts.specs.Answer.{fault_verdict, judged, IsMemory, IsOfPath, IsOfPaths, Settles}
use Rattle.timing_model.specs.declared.timing.Timing.{Timing}
use Rattle.average_parts.specs.declared.part.Part.{Part}
use Rattle.timing_reader.specs.Reading.{timed_text}
use Rattle.average_parts.specs.Verdict.{book_in, book_of, timed_in, part_in, part_before, parts_in, IsRightPart}

-- the profile that was read is the text's
pub book_read : (path bytes : Text) (t : Timing) (p : Book) → book_fault bytes ≡ None → IsTextOf p bytes
    → ◌≡◌ {A = Result Part Verdict} (Ok (record { timing = t; profile = p })) (book_in path t (book_fault bytes) (parsed_profile bytes))
book_read path bytes t p none is =
    ap (λ (q : Book). book_in path t None q) (sym (told_is bytes p is))
    ∙ ap (λ (fault : Option BookFault). book_in path t fault (parsed_profile bytes)) (sym none)

-- ---- one file

module _ (path : Text) where
  -- what is known of the reading of the path's file
  abbrev pub ReadsFile : Option Held → ℕ → ℕ → Result (Vec ℕ) FileFault → Type 0
  ReadsFile known before now step =
      IfSome known (λ held. (reading.IsMemory step → ⊥) → (next : Text → Verdict) → reading.SettlesThen (λ file. next file.items) (read_verdict 268435456 path (file_at held path) next) before now step)

  pub unread : (known : Option Held) (before now : ℕ) (fault : FileFault) → ReadsFile known before now (Err fault)
      → IfSome known (λ held. (IsMemory {A = Part} (Err (faults.File fault)) → ⊥) → Settles {A = Part} (λ (p : Part). p) (part_in path (file_at held path)) before now (Err (faults.File fault)))
  unread None before now fault reads = tt
  unread (Some held) before now fault reads = λ other. elim (told_by (λ (file : Vec ℕ). file.items) 268435456 path (file_at held path) before now (Err fault) (reads other)) [
    | inl is ↦ inl (ap (book_of path) is)
    | inr failed ↦ inr failed
  ]

  pub part_of_file : (known : Option Held) (before now : ℕ) (file : Vec ℕ) (answer : Result Part Fault) → ReadsFile known before now (Ok file)
      → ((IsMemory answer → ⊥) → judged (λ (p : Part). p) answer ≡ timed_in path (timed_text file.items))
      → IfSome known (λ held. (IsMemory answer → ⊥) → Settles (λ (p : Part). p) (part_in path (file_at held path)) before now answer)
  part_of_file None before now file answer reads is = tt
  part_of_file (Some held) before now file answer reads is = λ other. elim (told_by (λ (file : Vec ℕ). file.items) 268435456 path (file_at held path) before now (Ok file) (reads (λ no. no))) [
    | inl same ↦ inl (is other ∙ ap (book_of path) same)
    | inr failed ↦ absurd failed.0
  ]

-- ---- files one after the other

-- parts before others
abbrev both : Result (List Part) Verdict → Result (List Part) Verdict → Result (List Part) Verdict
both (Err refused) rest = Err refused
both (Ok parts) (Err refused) = Err refused
both (Ok parts) (Ok more) = Ok (parts ++ more)

none_before : (rest : Result (List Part) Verdict) → rest ≡ both (Ok []) rest
none_before (Err refused) = refl
none_before (Ok more) = refl

one_before : (p : Result Part Verdict) (a b : Result (List Part) Verdict) → part_before p (both a b) ≡ both (part_before p a) b
one_before (Err refused) a b = refl
one_before (Ok part) (Err refused) b = refl
one_before (Ok part) (Ok parts) (Err refused) = refl
one_before (Ok part) (Ok parts) (Ok more) = refl

module _ (held : Held) where
  part_at : Text → Result Part Verdict
  part_at path = part_in path (file_at held path)

  split : (xs ys : List Text) → parts_in (xs ++ ys) held ≡ both (parts_in xs held) (parts_in ys held)
  split [] ys = none_before (parts_in ys held)
  split (x ∷ xs) ys =
      ap (part_before (part_in x (file_at held x))) (split xs ys)
      ∙ one_before (part_in x (file_at held x)) (parts_in xs held) (parts_in ys held)

  module _ (paths : List Text) (i : ℕ) (path : Text) (parts : List Part) (lt : i < length paths) (at : get_or paths i [] ≡ path) (so_far : parts_in (take i paths) held ≡ Ok parts) where
    -- one more part
    pub part_more : (part : Part) → part_in path (file_at held path) ≡ Ok part → parts_in (take (i + 1) paths) held ≡ Ok (parts ++ part ∷ [])
    part_more part is =
        ap (λ (ps : List Text). parts_in ps held) (take_more paths i [] lt)
        ∙ split (take i paths) (get_or paths i [] ∷ [])
        ∙ ap₂ both so_far (ap (λ (p : Text). parts_in (p ∷ []) held) at ∙ ap (λ (p : Result Part Verdict). part_before p (Ok [])) is)

    -- a file without a part decides
    pub part_stops : (refused : Verdict) → part_in path (file_at held path) ≡ Err refused → parts_in paths held ≡ Err refused
    part_stops refused is =
        ap (λ (ps : List Text). parts_in ps held) (sym (take-append-drop i paths) ∙ ap (λ (ps : List Text). take i paths ++ ps) (drop_more paths i [] lt))
        ∙ split (take i paths) (get_or paths i [] ∷ drop (i + 1) paths)
        ∙ ap₂ both so_far (ap (λ (p : Text). parts_in (p ∷ drop (i + 1) paths) held) at ∙ ap (λ (p : Result Part Verdict). part_before p (parts_in (drop (i + 1) paths) held)) is)

-- the text of a word at its place
pub text_at : (words : List (String Global)) (i : ℕ) (word : String Global) → i < length words → word ≡ get_or words i word → get_or (map string_bytes words) i [] ≡ string_bytes word
text_at [] i word lt is = absurd (omega (arith, lt))
text_at (w ∷ words) zero word lt is = ap string_bytes (sym is)
text_at (w ∷ words) (suc i) word lt is = text_at words i word (omega (arith, lt)) is

module _ (paths : List Text) (i : ℕ) (path : Text) (parts : List Part) (lt : i < length paths) (at : get_or paths i [] ≡ path) where
  abbrev pub SoFar : Option Held → Type 0
  SoFar told = IfSome told (λ held. parts_in (take i paths) held ≡ Ok parts)

  abbrev pub ReadsPart : ℕ → ℕ → Result Part Fault → Option Held → Type 0
  ReadsPart before now step told = IfSome told (λ held. (IsMemory step → ⊥) → Settles (λ (p : Part). p) (part_in path (file_at held path)) before now step)

  read_so_far : (told : Option Held) → SoFar told → IfSome told (λ held. IfErr (parts_in (take i paths) held) (λ _. ⊥))
  read_so_far None so_far = tt
  read_so_far (Some held) so_far = subst (λ (r : Result (List Part) Verdict). IfErr r (λ _. ⊥)) (sym so_far) tt

  -- a fault of a path is one of the paths
  pub of_paths : (told : Option Held) (fault : Fault) → SoFar told → IsOfPath path fault → IsOfPaths paths told fault
  of_paths told (faults.File (file.Read p)) so_far is = record {
    place = i;
    at = slice_get-get_or paths i [] lt ∙ ap (λ (t : Text). Some t) (at ∙ sym is);
    before = read_so_far told so_far;
  }
  of_paths told (faults.File file.Usage) so_far is = absurd is
  of_paths told (faults.File file.Write) so_far is = absurd is
  of_paths told (faults.File (file.Long p)) so_far is = tt
  of_paths told (faults.File file.Memory) so_far is = tt
  of_paths told (faults.Profile f p) so_far is = tt
  of_paths told (faults.Unlike k p) so_far is = absurd is

  stop_by : {A : Type 0} (view : A → List Part) (told : Option Held) (before now : ℕ) (fault : Fault) → SoFar told → ReadsPart before now (Err fault) told
      → IfSome told (λ held. (IsMemory {A = A} (Err fault) → ⊥) → Settles {A = A} view (parts_in paths held) before now (Err fault))
  stop_by view None before now fault so_far reads = tt
  stop_by view (Some held) before now fault so_far reads = λ other. elim (reads other) [
    | inl is ↦ inl (sym (part_stops held paths i path parts lt at so_far (fault_verdict fault) (sym is)))
    | inr failed ↦ inr failed
  ]

  -- a file without a part settles
  pub stop_settles : {A : Type 0} (view : A → List Part) (told known : Option Held) (before early now : ℕ) (fault : Fault) → known ≡ told → early ≡ before → SoFar told → ReadsPart early now (Err fault) known
      → IfSome told (λ held. (IsMemory {A = A} (Err fault) → ⊥) → Settles {A = A} view (parts_in paths held) before now (Err fault))
  stop_settles view told known before early now fault same steady so_far reads =
      stop_by view told before now fault so_far
      (subst (λ (n : ℕ). ReadsPart n now (Err fault) told) steady (subst (λ (k : Option Held). ReadsPart early now (Err fault) k) same reads))

  more_by : (told : Option Held) (before now : ℕ) (part : Part) (new : List Part) → SoFar told → ReadsPart before now (Ok part) told → new ≡ parts ++ part ∷ []
      → IfSome told (λ held. parts_in (take (i + 1) paths) held ≡ Ok new)
  more_by None before now part new so_far reads is = tt
  more_by (Some held) before now part new so_far reads is = elim (reads (λ no. no)) [
    | inl same ↦ part_more held paths i path parts lt at so_far part (sym same) ∙ ap (λ (ps : List Part). Ok ps) (sym is)
    | inr failed ↦ absurd failed.0
  ]

  -- one more part is read
  pub more_read : (told known : Option Held) (before now : ℕ) (part : Part) (new : List Part) → known ≡ told → SoFar told → ReadsPart before now (Ok part) known → new ≡ parts ++ part ∷ []
      → IfSome told (λ held. parts_in (take (i + 1) paths) held ≡ Ok new)
  more_read told known before now part new same so_far reads is =
      more_by told before now part new so_far (subst (λ (k : Option Held). ReadsPart before now (Ok part) k) same reads) is

pub more_right : (parts : List Part) (part : Part) (new : List Part) → All IsRightPart parts → IsRightPart part → new ≡ parts ++ part ∷ [] → All IsRightPart new
more_right parts part new all right is = subst (λ (ps : List Part). All IsRightPart ps) (sym is) (All-push IsRightPart parts part all right)

pub more_many : (parts : List Part) (part : Part) (new : List Part) (i : ℕ) → length parts ≡ i → new ≡ parts ++ part ∷ [] → length new ≡ i + 1
more_many parts part new i many is = ap length is ∙ length-append parts (part ∷ []) ∙ ap (λ (n : ℕ). n + 1) many
