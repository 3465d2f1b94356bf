-- The files of profiles of lists of a program's lines are joined to the profile of all their lines.
use Rattle.std.proofs.Common.{◌≡◌, ℕ, ◌≤◌, Bool, true, false, cond, List, ◌∷◌, ◌++◌, codes, map, length, All, Option, None, Some, IfSome, sym, ap, subst, ◌∙◌, arith}
use Rattle.std.proofs.Math.Path.{fun_ext}
use Rattle.std.specs.List.{list_all}
use Rattle.std.specs.Io.KnownBytes.{Appends}
use Rattle.coz_types.specs.Image.{ImageParts}
use Rattle.coz_types.specs.Labels.{Text}
use Rattle.coz_types.specs.declared.record.Summary.{Summary}
use Rattle.coz_files.specs.Held.{Held, file_at}
use Rattle.coz_files.specs.Puts.{AppendsPrefix}
use Rattle.coz_files.specs.Verdict.{Verdict, IsOfVerdict}
use Rattle.coz_serve.specs.Serves.{HasVerdict}
use Rattle.line_index.specs.Index.{Index, position_at}
use Rattle.progress_points.specs.Points.{Points, point_of}
use Rattle.experiment_plan.specs.Selected.{rising_numbers}
use Rattle.profile_book.specs.Profile.{IsProfile, profile_text}
use Rattle.profile_book.specs.declared.profile.Profile.{Profile}
use Rattle.profile_shards.specs.Shards.{AreLines, AreTogether, AreDisjoint, IsTwice, profile_at}
use Rattle.profile_pool.specs.Profiles.{profile_of_lines, record_in}
use Rattle.join_parts.specs.Words.{paths_in}
use Rattle.join_parts.specs.Verdict.{IsVerdict, has_exited, profile_status}
use Rattle.join_parts.specs.Program.{join_program}
use Rattle.join_parts.specs.Shards.{HoldProfiles, IsShardsVerdict, twice_line}
use Rattle.join_parts.proofs.Sharded.{shards_verdict}
use Rattle.join_cli.specs.Shards.{AreIndexed, IsAsked, HoldTexts, JoinsShards, JoinsAllShards}
use Rattle.join_cli.specs.Ranges.{ProfilesAreRight}
use Rattle.join_cli.proofs.Blocks.{are_blocks, block_at, profile_is, some_speedups, speedups_rise}
use Rattle.join_cli.proofs.Indexed.{rise, right}
use Rattle.join_cli.proofs.Profiles.{IsSound, profile_right, profiles_right}
use Rattle.line_index.specs.Lines.{label_at}

-- ---- the verdict

module _ (image : ImageParts) (index : Index) (points : Points) (input : List ℕ) (budget : ℕ) (speedups : List ℕ) where
  abbrev made_of : List ℕ → Profile
  made_of lines = profile_of_lines image index points input budget speedups lines

  abbrev block : ℕ → ℕ → Summary
  block line speedup = block_at image index.lines (position_at index) (point_of points) points.lines input budget line speedup

  abbrev blocks_of : List ℕ → Profile
  blocks_of lines = profile_at budget (map (label_at index.lines) points.lines) block (rising_numbers (0 ∷ speedups)) lines

  made_is : (lines : List ℕ) → made_of lines ≡ blocks_of lines
  unfolding record_in
  made_is lines = profile_is image index.lines (position_at index) (point_of points) points.lines input budget speedups lines

  sound : AreIndexed image index → IsAsked index points input budget speedups → IsSound image index.lines points.lines input budget speedups
  sound are asked = record {
    entry = are.entry;
    file = are.bytes;
    rise = rise image index are;
    right = right image index are;
    some_budget = asked.some_budget;
    small_budget = asked.small_budget;
    points_are = asked.lines;
    few = asked.few;
    slow = asked.slow;
    bytes = asked.bytes;
  }

  holds_blocks : (words : List Text) (held : Held) (lists : List (List ℕ)) → All IsProfile (map blocks_of lists) → HoldTexts words held (map made_of lists) → HoldProfiles words held (map blocks_of lists)
  holds_blocks words held lists right hold =
      let same : map made_of lists ≡ map blocks_of lists = ap (λ (f : List ℕ → Profile). map f lists) (fun_ext made_is) in
      record {
        paths = hold.paths;
        named = hold.named;
        files = subst (λ (ps : List Profile). map (file_at held) hold.paths ≡ map (λ (p : Profile). Some (profile_text p)) ps) same hold.files;
        right = right;
        short = subst (λ (ps : List Profile). All (λ (p : Profile). length (profile_text p) ≤ 268435456) ps) same hold.short;
      }

  verdict_is : (words : List Text) (held : Held) (lists : List (List ℕ)) (whole : List ℕ) → AreIndexed image index → IsAsked index points input budget speedups → All (AreLines (length index.lines)) lists → AreTogether (length index.lines) lists whole
      → (hold : HoldTexts words held (map made_of lists)) → (v : Verdict) → IsVerdict words held v → IsShardsVerdict lists (made_of whole) (label_at index.lines) hold.paths v
  unfolding holds_blocks
  verdict_is words held lists whole are asked lines together hold v is =
      let right_all : All IsProfile (map blocks_of lists) = profiles_right image index.lines (position_at index) (point_of points) points.lines input budget speedups (sound are asked) lists lines in
      let blocks = are_blocks image index.lines (position_at index) (point_of points) points.lines input budget (rise image index are) (right image index are) in
      let law = shards_verdict (length index.lines) (label_at index.lines) block blocks budget (map (label_at index.lines) points.lines)
      (rising_numbers (0 ∷ speedups)) lists whole (some_speedups speedups) (speedups_rise speedups) lines together words held (holds_blocks words held lists right_all hold) v is in
      subst (λ (p : Profile). IsShardsVerdict lists p (label_at index.lines) hold.paths v) (sym (made_is whole)) law

-- ---- the ranges

pub profiles_are_right : ProfilesAreRight
profiles_are_right image index points input budget speedups lines are asked rise =
    subst IsProfile (sym (made_is image index points input budget speedups lines))
    (profile_right image index.lines (position_at index) (point_of points) points.lines input budget speedups (sound image index points input budget speedups are asked) lines rise)

-- ---- what is left

low_by : (b : Bool) → cond b 0 1 ≤ 1
low_by true = omega arith
low_by false = omega arith

low : (p : Profile) → profile_status p ≤ 1
low p = low_by (list_all (λ (s : Summary). has_exited s.outcome.ending) p.summaries)

module _ (words : List Text) (told : Option Held) (Tells : Text → Type 0) (before now : Option Text) (status : ℕ) where
  abbrev Has : Held → (Verdict → Type 0) → Type 0
  Has held P = HasVerdict (join_program words told) held P

  abbrev IfVerdict : Option Held → Type 0
  IfVerdict o = IfSome o (λ held. IsOfVerdict status → Has held (λ v. status ≡ v.status))

  abbrev IfText : Option Held → Type 0
  IfText o = IfSome o (λ held. status ≤ 1 → Has held (λ v. (status ≡ v.status) × Appends before now v.text))

  abbrev IfTorn : Option Held → Type 0
  IfTorn o = IfSome o (λ held. status ≡ 6 → Has held (λ v. AppendsPrefix before now v.text))

  abbrev IfLine : Option Held → Type 0
  IfLine o = 2 ≤ status → (line : Text) × (IsOfVerdict status → IfSome o (λ held. Has held (λ v. (status ≡ v.status) × (line ≡ codes "coz-join: " ++ v.line)))) × Tells line

  module _ (held : Held) (of_verdict : IfVerdict (Some held)) (text : IfText (Some held)) (torn : IfTorn (Some held)) (line : IfLine (Some held)) (lists : List (List ℕ)) (whole : Profile) (label : ℕ → Text) (paths : List Text)
      (law : (v : Verdict) → IsVerdict words held v → IsShardsVerdict lists whole label paths v) where
    status_of : AreDisjoint lists → IsOfVerdict status → status ≡ profile_status whole
    status_of disjoint of =
        let v = of_verdict of in
        v.2 ∙ ap (λ (w : Verdict). w.status) ((law v.0 v.1).joined disjoint)

    text_of : AreDisjoint lists → status ≤ 1 → Appends before now (profile_text whole)
    text_of disjoint small =
        let v = text small in
        subst (λ (w : Verdict). Appends before now w.text) ((law v.0 v.1).joined disjoint) v.2.1

    told_of : (place part : ℕ) → IsTwice lists place part → IsOfVerdict status → status ≡ 14 → Tells (codes "coz-join: " ++ twice_line (label place) paths part)
    told_of place part two of high =
        let told = line (omega (arith, high)) in
        let v = told.1 of in
        subst Tells (v.2.1 ∙ ap (λ (w : Verdict). codes "coz-join: " ++ w.line) ((law v.0 v.1).twice place part two)) told.2

    joins : JoinsShards lists whole label paths Tells before now status
    joins = record {
      joined = λ disjoint of.
          let same = status_of disjoint of in
          (same, text_of disjoint (subst (λ (n : ℕ). n ≤ 1) (sym same) (low whole)));
      prefix = λ disjoint six.
          let v = torn six in
          subst (λ (w : Verdict). AppendsPrefix before now w.text) ((law v.0 v.1).joined disjoint) v.2;
      twice = λ place part two of.
          let v = of_verdict of in
          let high : status ≡ 14 = v.2 ∙ ap (λ (w : Verdict). w.status) ((law v.0 v.1).twice place part two) in
          (high, told_of place part two of high);
    }

  pub joins_shards : (o : Option Held) → IfVerdict o → IfText o → IfTorn o → IfLine o
      → IfSome o (λ held. JoinsAllShards words held Tells before now status)
  joins_shards None of_verdict text torn line = tt
  joins_shards (Some held) of_verdict text torn line =
      λ image index points input budget speedups lists whole are asked lines together hold.
      joins held of_verdict text torn line lists (profile_of_lines image index points input budget speedups whole) (label_at index.lines) hold.paths
      (verdict_is image index points input budget speedups words held lists whole are asked lines together hold)

-- words that ask for the program's help or its version name no files of profiles
pub no_shards : (words : List Text) (told : Option Held) (Tells : Text → Type 0) (before now : Option Text) (status : ℕ) → paths_in words ≡ None → IfSome told (λ held. JoinsAllShards words held Tells before now status)
no_shards words None Tells before now status none = tt
no_shards words (Some held) Tells before now status none = λ image index points input budget speedups lists whole are asked lines together hold. absurd (no_paths hold.paths (sym none ∙ hold.named))
  where
    no_paths : (paths : List Text) → ◌≡◌ {A = Option (List Text)} None (Some paths) → ⊥
    no_paths paths is = cc
