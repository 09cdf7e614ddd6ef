use Rattle.std.proofs.Common.{rules, refl, ap, ◌∙◌}
use Rattle.pl_folder.specs.declared.call.Call.TheVariants.{Create}
use Rattle.pl_folder.specs.Disk.{after}
use Rattle.pl_folder.specs.Effects.{files_after_create}
use Rattle.pl_folder.specs.InMemory.{folder_disk}
use Rattle.pl_folder.specs.States as state
use Rattle.pl_folder.specs.Tables.{table_files}
use Rattle.pl_folder.proofs.RecordLemmas.{create_kept, disk_after, kept_after}
use Rattle.pl_folder.proofs.memory_folder.MemoryFolderFolder.create.Goals as goal

pub invariant_of-self-2 : goal.invariant_of-self-2
invariant_of-self-2 c = record {
  room = search rules;
  made = search rules;
  kept = kept_after c.call.new.self (Create c.new-name.result) c.record.new.past.items (table_files c.create.new.self) c.record.ensures.items
      (create_kept c.call.new.self (table_files c.create.new.self) c.args.name.now c.new-name.result c.new-name.ensures c.in_ok-create.ensures.ok);
}

pub returns-clause-calls : goal.returns-clause-calls
returns-clause-calls c = record {
  tells = refl;
  records = refl;
  referent = refl;
  files = λ told. c.in_ok-create.ensures.ok ∙ ap (λ t. files_after_create (table_files t) c.args.name.now) c.in_ok-call.ensures.same.0;
  disk = λ told.
      disk_after c.args.self.now c.call.new.self (Create c.new-name.result) c.record.new.past.items c.record.ensures.items c.in_ok-call.ensures.open.0 c.in_ok-call.ensures.same.1
      ∙ ap (λ n. after (state.created n (folder_disk c.args.self.now).now) (folder_disk c.args.self.now)) c.new-name.ensures;
  count = c.in_ok-call.ensures.count;
}
