use Rattle.std.proofs.Common.{◌≡◌, length, ap, ◌∙◌, arith}
use Rattle.pl_form.proofs.EntryLaws.{length-program_entries}
use Rattle.pl_form.proofs.program.program_table.Goals as goal

pub put_bytes-requires : goal.put_bytes-requires
put_bytes-requires c =
    let entries : length c.deref.result.now ≡ 64 = ap length (c.deref.ensures.value ∙ c.in_ok-entries.ensures) ∙ length-program_entries c.args.last.now c.args.lists.now in
    omega (arith, entries, ap length c.deref_mut-2.ensures.value, c.name_strings.auto.table, ap length c.deref_mut.ensures.value, ap length c.in_ok-table.ensures.items, c.requires.spare)
