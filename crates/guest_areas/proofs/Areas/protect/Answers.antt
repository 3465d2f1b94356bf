use Rattle.std.proofs.Common.{ℕ, ◌≡◌, Bool, true, false, sym, ap, ◌∙◌, subst}
use Rattle.std.specs.Prelude.{pos}
use Rattle.coz_types.specs.declared.image.Rights.{Rights}
use Rattle.guest_memory.specs.Memory.{MemoryMap, with_rights_from}
use Rattle.guest_memory.specs.Regions.{page_of, pages_for, IsKnown}
use Rattle.guest_areas.specs.Space.{RegionMap, Space, space, Answered, rights_of, is_each, is_known, protect}
use Rattle.guest_areas.specs.Kept.{regions_of}
use Rattle.guest_areas.proofs.KnownPages.{known_page, each_at, shared}
use Rattle.guest_areas.specs.Space.{SharesRegions}
use Rattle.guest_areas.proofs.Shares.{protect-shares}
use Rattle.guest_areas.proofs.Calls.{protect-start, protect-empty, protect-execute, protect-unknown, protect-done}
use Rattle.guest_areas.proofs.Areas.protect.Goals as goal

pub returns-then-address-ne0-clause-answer : goal.returns-then-address-ne0-clause-answer
returns-then-address-ne0-clause-answer c =
    ap (λ (a : Answered). a.answer) (sym (protect-start c.args.address c.args.length c.args.protection (space c.args.self.now c.args.memory.now) c.if-address-ne0.true))

pub returns-then-address-ne0-clause-space : goal.returns-then-address-ne0-clause-space
returns-then-address-ne0-clause-space c =
    ap (λ (a : Answered). a.space) (sym (protect-start c.args.address c.args.length c.args.protection (space c.args.self.now c.args.memory.now) c.if-address-ne0.true))

pub returns-then-length-eq0-clause-answer : goal.returns-then-length-eq0-clause-answer
returns-then-length-eq0-clause-answer c =
    ap (λ (a : Answered). a.answer) (sym (protect-empty c.args.address c.args.length c.args.protection (space c.args.self.now c.args.memory.now) c.if-address-ne0.false c.if-length-eq0.true))

pub returns-then-length-eq0-clause-space : goal.returns-then-length-eq0-clause-space
returns-then-length-eq0-clause-space c =
    ap (λ (a : Answered). a.space) (sym (protect-empty c.args.address c.args.length c.args.protection (space c.args.self.now c.args.memory.now) c.if-address-ne0.false c.if-length-eq0.true))

pub returns-then-asks_execute-clause-answer : goal.returns-then-asks_execute-clause-answer
returns-then-asks_execute-clause-answer c =
    ap (λ (a : Answered). a.answer) (sym (protect-execute c.args.address c.args.length c.args.protection (space c.args.self.now c.args.memory.now) c.if-address-ne0.false c.if-length-eq0.false
    (sym c.asks_execute.ensures ∙ c.if-asks_execute.true)))

pub returns-then-asks_execute-clause-space : goal.returns-then-asks_execute-clause-space
returns-then-asks_execute-clause-space c =
    ap (λ (a : Answered). a.space) (sym (protect-execute c.args.address c.args.length c.args.protection (space c.args.self.now c.args.memory.now) c.if-address-ne0.false c.if-length-eq0.false
    (sym c.asks_execute.ensures ∙ c.if-asks_execute.true)))

-- whether the program has each page, by the definition
each : (r : RegionMap) (first count len : ℕ) (answer : Bool) (b : Bool) → count ≡ pages_for len → answer ≡ is_each (is_known r) first count → answer ≡ b → is_each (is_known r) first (pages_for len) ≡ b
each r first count len answer b is e t = ap (λ (n : ℕ). is_each (is_known r) first n) (sym is) ∙ sym e ∙ t

pub returns-then-not-has_each-clause-answer : goal.returns-then-not-has_each-clause-answer
returns-then-not-has_each-clause-answer c =
    ap (λ (a : Answered). a.answer) (sym (protect-unknown c.args.address c.args.length c.args.protection (space c.args.self.now c.args.memory.now) c.if-address-ne0.false c.if-length-eq0.false
    (sym c.asks_execute.ensures ∙ c.if-asks_execute.false)
    (each c.args.self.now (page_of c.args.address) c.pages_for-count.result c.args.length c.has_each.result false c.pages_for-count.ensures.value c.has_each.ensures c.if-not-has_each.true)))

pub returns-then-not-has_each-clause-space : goal.returns-then-not-has_each-clause-space
returns-then-not-has_each-clause-space c =
    ap (λ (a : Answered). a.space) (sym (protect-unknown c.args.address c.args.length c.args.protection (space c.args.self.now c.args.memory.now) c.if-address-ne0.false c.if-length-eq0.false
    (sym c.asks_execute.ensures ∙ c.if-asks_execute.false)
    (each c.args.self.now (page_of c.args.address) c.pages_for-count.result c.args.length c.has_each.result false c.pages_for-count.ensures.value c.has_each.ensures c.if-not-has_each.true)))

pub give-requires-clause-known : goal.give-requires-clause-known
give-requires-clause-known c q from below =
    let all : is_each (is_known c.args.self.now) (page_of c.args.address) c.pages_for-count.result ≡ true = sym c.has_each.ensures ∙ c.if-not-has_each.false in
    let here : is_known (regions_of c.self.inside.areas.items c.self.inside.layout c.self.inside.end c.self.inside.mapped.items) q ≡ true =
    ap (λ (r : RegionMap). is_known r q) c.self.view_is ∙ each_at (is_known c.args.self.now) (page_of c.args.address) c.pages_for-count.result q all from below in
    shared c.args.self.now c.args.memory.now q c.requires
    (subst (λ (r : RegionMap). IsKnown r.areas r.layout q) c.self.view_is
    (known_page c.self.inside.areas.items c.self.inside.layout c.self.inside.end c.self.inside.mapped.items q c.self.invariant.kept here))

-- the space after the rights were set
set_ : (c : goal.After-give) → (let a : Answered = record { answer = pos 0; space = space c.args.self.now c.give.new.self } in a) ≡ protect c.args.address c.args.length c.args.protection (space c.args.self.now c.args.memory.now)
set_ c =
    let memory : c.give.new.self ≡ with_rights_from (page_of c.args.address) (pages_for c.args.length) (rights_of c.args.protection) c.args.memory.now =
    c.give.ensures
    ∙ ap (λ (r : Rights). with_rights_from (page_of c.args.address) c.pages_for-count.result r c.args.memory.now) c.rights_of.ensures
    ∙ ap (λ (n : ℕ). with_rights_from (page_of c.args.address) n (rights_of c.args.protection) c.args.memory.now) c.pages_for-count.ensures.value in
    ap (λ (m : MemoryMap). let a : Answered = record { answer = pos 0; space = space c.args.self.now m } in a) memory
    ∙ sym (protect-done c.args.address c.args.length c.args.protection (space c.args.self.now c.args.memory.now) c.if-address-ne0.false c.if-length-eq0.false
    (sym c.asks_execute.ensures ∙ c.if-asks_execute.false)
    (each c.args.self.now (page_of c.args.address) c.pages_for-count.result c.args.length c.has_each.result true c.pages_for-count.ensures.value c.has_each.ensures c.if-not-has_each.false))

pub returns-clause-answer : goal.returns-clause-answer
returns-clause-answer c = ap (λ (a : Answered). a.answer) (set_ c)

pub returns-clause-space : goal.returns-clause-space
returns-clause-space c = ap (λ (a : Answered). a.space) (set_ c)

pub returns-clause-shared : goal.returns-clause-shared
returns-clause-shared c =
    subst (λ (s : Space). SharesRegions s.regions s.memory) (sym (returns-clause-space c))
    (protect-shares c.args.address c.args.length c.args.protection (space c.args.self.now c.args.memory.now) c.requires)
