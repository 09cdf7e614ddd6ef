use Rattle.std.proofs.Common.{◌∙◌, ap, sym}
use Rattle.std.specs.Prelude.{is_some}
use Rattle.std.proofs.lemmas.Map.Text.{btree_map_updates_str}
use Rattle.pl_build.proofs.TextLaws.{noted_again, noted_new}
use Rattle.pl_build.proofs.text_index.TextIndex.note_text.Goals as goal

pub returns-then-is_some : goal.returns-then-is_some
returns-then-is_some c = noted_again c.args.self.now c.args.text.now c.args.place (ap is_some (sym c.first.ensures) ∙ sym c.is_some.ensures ∙ c.if-is_some.true)

pub returns : goal.returns
returns c =
    let text = c.args.text.now in
    let updates = btree_map_updates_str text c.args.self.now.places c.insert.new.self _ c.in_ok-insert.ensures.updates in
    noted_new c.args.self.now (record { places = c.insert.new.self }) text c.args.place (ap is_some (sym c.first.ensures) ∙ sym c.is_some.ensures ∙ c.if-is_some.false) updates
