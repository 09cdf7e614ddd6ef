use Rattle.std.proofs.Common.{rules, refl, ap, ◌∙◌}
use Rattle.pl_folder.specs.declared.call.Call.TheVariants.{Remove}
use Rattle.pl_folder.specs.Disk.{after}
use Rattle.pl_folder.specs.InMemory.{folder_disk, folder_files}
use Rattle.pl_folder.specs.States as state
use Rattle.pl_folder.specs.Tables.{table_files}
use Rattle.pl_folder.proofs.RecordLemmas.{disk_after, kept_after, remove_kept}
use Rattle.std.specs.FinMap.{remove}
use Rattle.pl_folder.proofs.memory_folder.MemoryFolderFolder.remove.Goals as goal

pub invariant_of-self : goal.invariant_of-self
invariant_of-self c = record {
  room = search rules;
  made = search rules;
  kept = kept_after c.call.new.self (Remove c.new-name.result) c.record.new.past.items (table_files c.remove.new.self) c.record.ensures.items
      (remove_kept c.call.new.self (table_files c.remove.new.self) c.args.name.now c.new-name.result c.new-name.ensures c.remove.ensures);
}

pub returns-clause-calls : goal.returns-clause-calls
returns-clause-calls c = record {
  tells = refl;
  records = refl;
  referent = refl;
  files = λ told. c.remove.ensures ∙ ap (λ t. remove (table_files t) c.args.name.now) c.in_ok-call.ensures.same.0;
  disk = λ told.
      disk_after c.args.self.now c.call.new.self (Remove c.new-name.result) c.record.new.past.items c.record.ensures.items c.in_ok-call.ensures.open.0 c.in_ok-call.ensures.same.1
      ∙ ap (λ n. after (state.removed n (folder_disk c.args.self.now).now) (folder_disk c.args.self.now)) c.new-name.ensures;
  count = c.in_ok-call.ensures.count;
}
