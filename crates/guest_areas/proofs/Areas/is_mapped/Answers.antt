use Rattle.std.proofs.Common.{◌≡◌, ◌-◌, ◌≤◌, ◌<◌, length, false, eqb, ltb, arith, sym, ap, ◌∙◌, ⊎_elim, inl, inr}
use Rattle.std.proofs.lemmas.Bool.{cases_lt, both_ways, leb-true, ltb-true, lt-ltb}
use Rattle.std.specs.List.{list_any}
use Rattle.std.proofs.lemmas.List.{get_or_read}
use Rattle.guest_areas.specs.Space.{RegionMap}
use Rattle.guest_areas.proofs.MarkLemmas.{marked_page, marked_no_page}
use Rattle.guest_areas.proofs.Areas.is_mapped.Goals as goal
use Rattle.guest_areas.proofs.Areas.is_mapped.Goals.{then-page, else-page}

pub returns-then-page-len : goal.returns-then-page-len
returns-then-page-len c =
    elim c.if-page.branch [
      | then-page w ↦
          let below : c.args.page - 34603008 < w.len.result = ltb-true (c.args.page - 34603008) w.len.result (sym w.value-is ∙ c.if-page-len.true) in
          let inside : c.args.page - 34603008 < length c.self.inside.mapped.items = omega (arith, w.len.ensures, c.self.inside.mapped.ok.0) in
          get_or_read c.self.inside.mapped.items (c.args.page - 34603008) c.index.result.now inside c.index.ensures false
          ∙ marked_page 34603008 (c.args.page - 34603008) c.args.page c.self.inside.mapped.items (omega arith) inside
          ∙ ap (λ (r : RegionMap). list_any (λ p. eqb p c.args.page) r.mapped) c.self.view_is
      | else-page w ↦
          let low : c.args.page < 34603008 = w.if-page.false in
          let high : 34603008 ≤ c.args.page = leb-true 34603008 c.args.page (sym w.value-is ∙ c.if-page-len.true) in
          absurd (omega arith)
    ]

pub returns-else-page-len : goal.returns-else-page-len
returns-else-page-len c =
    elim c.if-page.branch [
      | then-page w ↦
          let out : ltb (c.args.page - 34603008) w.len.result ≡ false = sym w.value-is ∙ c.if-page-len.false in
          let above : w.len.result ≤ c.args.page - 34603008 = ⊎_elim
          (λ (l : c.args.page - 34603008 < w.len.result). absurd (both_ways (ltb (c.args.page - 34603008) w.len.result) out (lt-ltb (c.args.page - 34603008) w.len.result l)))
          (λ (l : w.len.result ≤ c.args.page - 34603008). l) (cases_lt (c.args.page - 34603008) w.len.result) in
          let from : 34603008 ≤ c.args.page = w.if-page.true in
          c.if-page-len.false
          ∙ sym (marked_no_page 34603008 c.args.page c.self.inside.mapped.items (inr (omega (arith, w.len.ensures, c.self.inside.mapped.ok.0))))
          ∙ ap (λ (r : RegionMap). list_any (λ p. eqb p c.args.page) r.mapped) c.self.view_is
      | else-page w ↦
          c.if-page-len.false
          ∙ sym (marked_no_page 34603008 c.args.page c.self.inside.mapped.items (inl w.if-page.false))
          ∙ ap (λ (r : RegionMap). list_any (λ p. eqb p c.args.page) r.mapped) c.self.view_is
    ]
