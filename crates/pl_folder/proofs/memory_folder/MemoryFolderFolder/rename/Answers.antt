use Rattle.std.proofs.Common.{rules, refl, ap, ◌∙◌, ◌≡◌, subst, sym, true}
use Rattle.pl_folder.specs.declared.call.Call.TheVariants.{Rename}
use Rattle.pl_folder.specs.Disk.{after}
use Rattle.pl_folder.specs.InMemory.{folder_disk, folder_files}
use Rattle.pl_folder.specs.States as state
use Rattle.pl_folder.specs.Tables.{table_files}
use Rattle.pl_folder.proofs.RecordLemmas.{disk_after, kept_after, rename_kept}
use Rattle.std.specs.Prelude.{is_some}
use Rattle.std.specs.FinMap.{get}
use Rattle.pl_folder.specs.Effects.{files_after_rename}
use Rattle.pl_folder.specs.Entries.{name_bytes}
use Rattle.pl_folder.proofs.memory_folder.MemoryFolderFolder.rename.Goals as goal

pub invariant_of-self : goal.invariant_of-self
invariant_of-self c = record {
  room = search rules;
  made = search rules;
  kept = kept_after c.call.new.self (Rename c.new-from.result c.new-to.result) c.record.new.past.items (table_files c.rename.new.self) c.record.ensures.items
      (rename_kept c.call.new.self (table_files c.rename.new.self) c.args.from.now c.new-from.result c.new-from.ensures c.args.to.now c.new-to.result c.new-to.ensures (subst (λ t. is_some (get (table_files t) c.args.from.now) ≡ true) (sym c.in_ok-call.ensures.same.0) c.requires.there) c.rename.ensures);
}

pub returns-clause-calls : goal.returns-clause-calls
returns-clause-calls c = record {
  tells = refl;
  records = refl;
  referent = refl;
  files = λ told. c.rename.ensures ∙ ap (λ t. files_after_rename (table_files t) c.args.from.now c.args.to.now) c.in_ok-call.ensures.same.0;
  disk = λ told.
      disk_after c.args.self.now c.call.new.self (Rename c.new-from.result c.new-to.result) c.record.new.past.items c.record.ensures.items c.in_ok-call.ensures.open.0 c.in_ok-call.ensures.same.1
      ∙ ap (λ n. after (state.renamed n (name_bytes c.new-to.result) (folder_disk c.args.self.now).now) (folder_disk c.args.self.now)) c.new-from.ensures
      ∙ ap (λ n. after (state.renamed c.args.from.now n (folder_disk c.args.self.now).now) (folder_disk c.args.self.now)) c.new-to.ensures;
  count = c.in_ok-call.ensures.count;
}
