-- The positional of a request can be a name in a file, its version that of a line table, a profile has workers, and latencies have a line.
use Rattle.std.proofs.Common.{◌≡◌, ◌≤◌, not, ◌==◌, nat_le, length, true, subst, refl, sym}
use Rattle.std.specs.Prelude.{IsSome, is_some, ◌&&◌}
use Rattle.std.proofs.lemmas.Bool.{and_parts, leb-true, ltb-true}
use Rattle.std.proofs.lemmas.List.Sums.{AllPass-from_list_all}
use Rattle.image_write.specs.File.{IsName, IsVersion}
use Rattle.coz_words.specs.Request.{IsFit, has_needed, has_no_zero, has_option, dwarf_name, workers_name}
use Rattle.coz_words.specs.declared.command.Command.{Command}
use Rattle.coz_words.specs.declared.command.Command.TheVariants.{Profile, Asm, Latency}
use Rattle.coz_words.specs.declared.request.Request.{Request}

pub named : (request : Request) → IsFit request → IsName request.target
named request fit =
    let word = and_parts (has_no_zero request.target) (nat_le (length request.target) 131072) fit.word in
    (ltb-true 0 (length request.target) fit.some, leb-true (length request.target) 131072 word.1, AllPass-from_list_all (λ b. not (b == 0)) request.target word.0)

pub version : (request : Request) → IsFit request → request.command ≡ Asm → IsVersion request.dwarf
version request fit asm = (fit.some_dwarf (subst (λ (c : Command). has_option c dwarf_name ≡ true) (sym asm) refl), fit.dwarf)

pub some_workers : (request : Request) → IsFit request → request.command ≡ Profile → 1 ≤ request.workers
some_workers request fit profile = fit.some_workers (subst (λ (c : Command). has_option c workers_name ≡ true) (sym profile) refl)

pub some_line : (request : Request) → IsFit request → request.command ≡ Latency → IsSome request.line
some_line request fit latency =
    let needed : has_needed Latency request.line request.arrive request.depart ≡ true =
    subst (λ (c : Command). has_needed c request.line request.arrive request.depart ≡ true) latency fit.needed in
    let two = and_parts (is_some request.line && is_some request.arrive) (is_some request.depart) needed in
    (and_parts (is_some request.line) (is_some request.arrive) two.0).0
