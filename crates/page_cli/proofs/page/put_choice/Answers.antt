use Rattle.profile_book.proofs.Gathering.{gathers_as}
use Rattle.std.proofs.Common.{Bool, ap, sym}
use Rattle.page_cli.specs.Page.{choice_text}
use Rattle.page_cli.proofs.page.put_choice.Goals as goal

pub returns-then-tables : goal.returns-then-tables
returns-then-tables g c = gathers_as (sym (ap (λ (tables : Bool). choice_text tables (c.args.index, c.args.label.now)) c.if-tables.true)) c.put_link.ensures

pub returns-else-tables : goal.returns-else-tables
returns-else-tables g c = gathers_as (sym (ap (λ (tables : Bool). choice_text tables (c.args.index, c.args.label.now)) c.if-tables.false)) c.put_name.ensures
