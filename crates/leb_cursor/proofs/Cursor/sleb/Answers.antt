use Rattle.std.proofs.Common.{rules, ap, sym, ◌∙◌}
use Rattle.leb_cursor.specs.Ahead.{Ahead, sleb_at}
use Rattle.leb_cursor.proofs.SignLemmas.{sleb_read}
use Rattle.leb_cursor.proofs.Cursor.sleb.Goals as goal

pub returns-in-Some-signed_value_of : goal.returns-in-Some-signed_value_of
returns-in-Some-signed_value_of c =
    let inside = c.self.inside in
    ap (λ (a : Ahead). sleb_at a) (sym c.self.view_is)
    ∙ sleb_read (record { place = inside.place; bytes = inside.bytes.now }) c.in-Some.last c.split_at.result.0.now c.split_at.result.1.now c.in-Some-signed_value_of.value (search rules) c.split_at.ensures.front c.split_at.ensures.back c.in-Some-signed_value_of.ensures
