use Rattle.std.proofs.Common.{◌≡◌, ap, ◌∙◌, length, arith}
use Rattle.pl_form.proofs.EntryLaws.{length-library_entries, length-moved_tags}
use Rattle.pl_form.proofs.library.library_table.Goals as goal

pub put_bytes-requires : goal.put_bytes-requires
put_bytes-requires c =
    let entries : length c.deref.result.now ≡ 32 = ap length (c.deref.ensures.value ∙ c.in_ok-entries.ensures) ∙ length-library_entries c.args.mark.now.stamp c.args.mark.now.checksum in
    let table : length c.deref_mut.result.now ≡ length c.args.table.now = ap length (c.deref_mut.ensures.value ∙ c.in_ok-moved.ensures) ∙ length-moved_tags c.args.mark.now.slot c.args.tags c.args.table.now (omega (arith, c.requires)) in
    omega (arith, entries, table, c.requires)
