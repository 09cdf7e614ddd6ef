use Rattle.std.proofs.Common.{◌∙◌, ap}
use Rattle.std.specs.Prelude.{is_some}
use Rattle.std.specs.List.{list_any}
use Rattle.pl_build.specs.StringTable.{has_text}
use Rattle.pl_build.specs.declared.string_table.StringTable.{StringTable}
use Rattle.pl_build.proofs.TextLaws.{stands_in}
use Rattle.pl_build.proofs.string_table.TableMaker.has.Goals as goal

pub returns : goal.returns
returns c =
    c.is_some.ensures ∙ ap is_some c.first.ensures ∙ stands_in has_text c.self.inside.table.entries c.self.inside.index c.args.text.now c.self.invariant
    ∙ ap (λ (t : StringTable). list_any (has_text c.args.text.now) t.entries) c.self.view_is
