use Rattle.std.proofs.Common.{ℕ, Some, length, refl, sym, subst}
use Rattle.pl_build.specs.StringTable.{has_text}
use Rattle.pl_build.specs.TextIndex.{IsIndexOf, IsNoted, is_text}
use Rattle.pl_build.specs.declared.string_table.Entry.{Entry}
use Rattle.pl_build.specs.declared.string_table.StringTable.{StringTable}
use Rattle.pl_build.proofs.TextLaws.{index_push, noted_as}
use Rattle.pl_build.proofs.string_table.add_text.Goals as goal

pub invariant_of-result : goal.invariant_of-result
invariant_of-result c =
    let table = c.strings.inside.table in
    let entry : Entry = record { text = c.args.text.now; at = length table.bytes } in
    let noted = subst (λ (n : ℕ). IsNoted is_text c.strings.inside.index (Some c.args.text.now) n c.note.new.self) c.len.ensures c.in_ok-note.ensures in
    subst (λ (t : StringTable). IsIndexOf has_text t.entries c.note.new.self) (sym c.in_ok-table.ensures)
    (index_push has_text table.entries c.strings.inside.index c.note.new.self entry (noted_as has_text c.strings.inside.index c.note.new.self entry (Some c.args.text.now) (length table.entries) (λ q. refl) noted) c.strings.invariant)
