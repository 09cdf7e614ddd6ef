use Rattle.std.proofs.Common.{◌∙◌, ap, sym}
use Rattle.std.specs.Prelude.{is_some}
use Rattle.pl_build.proofs.PackedIndexLaws.{offset_again, offset_new}
use Rattle.pl_build.proofs.packed_index.PackedIndex.note_offset.Goals as goal

pub returns-then-is_some : goal.returns-then-is_some
returns-then-is_some c = offset_again c.args.self.now c.args.offset c.args.place (ap is_some (sym c.first.ensures) ∙ sym c.is_some.ensures ∙ c.if-is_some.true)

pub returns : goal.returns
returns c =
    offset_new c.args.self.now (record { places = c.insert.new.self }) c.args.offset c.args.place (ap is_some (sym c.first.ensures) ∙ sym c.is_some.ensures ∙ c.if-is_some.false) (c.in_ok-insert.ensures.updates).0
