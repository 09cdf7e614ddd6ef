use Rattle.std.proofs.Common.{rules, List, sym, subst}
use Rattle.pl_folder.specs.declared.call.Call.{Call}
use Rattle.pl_folder.specs.Entries.{entries_of}
use Rattle.pl_folder.specs.Kept.{IsKept}
use Rattle.pl_folder.specs.Replay.{replay, started}
use Rattle.pl_folder.specs.Tables.{started_with, table_files}
use Rattle.pl_folder.proofs.StartedLemmas.{Entry, started_kept}
use Rattle.pl_folder.proofs.memory_folder.MemoryFolder.started.Goals as goal

pub invariant_of-result : goal.invariant_of-result
invariant_of-result c = record {
  room = search rules;
  made = search rules;
  kept =
      let files = c.args.files.files.items in
      subst (λ (calls : List Call). IsKept (table_files c.args.files) (replay calls (started_with c.in_ok-copy.field-0)).now) (sym c.in_ok-with_capacity.ensures.items)
      (subst (λ (es : List Entry). IsKept (table_files c.args.files) (started es).now) (sym c.in_ok-copy.ensures) (started_kept (entries_of files)));
}
