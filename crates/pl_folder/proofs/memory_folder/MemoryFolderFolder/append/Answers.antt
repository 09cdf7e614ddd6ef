use Rattle.std.proofs.Common.{rules, refl, ap, ◌∙◌, ◌≡◌, arith, inl, subst, sym, true}
use Rattle.pl_folder.specs.declared.call.Call.TheVariants.{Append}
use Rattle.pl_folder.specs.Disk.{after}
use Rattle.pl_folder.specs.InMemory.{folder_disk, folder_files}
use Rattle.pl_folder.specs.States as state
use Rattle.pl_folder.specs.Tables.{table_files}
use Rattle.pl_folder.proofs.RecordLemmas.{disk_after, kept_after, append_kept}
use Rattle.std.specs.Prelude.{is_some}
use Rattle.std.specs.FinMap.{get}
use Rattle.pl_folder.specs.Effects.{files_after_append}
use Rattle.pl_folder.specs.declared.fault.FolderFault.TheVariants.{Failed}
use Rattle.pl_folder.proofs.CallLaws.{passed}
use Rattle.pl_folder.proofs.TableLemmas.{none_more}
use Rattle.pl_folder.proofs.memory_folder.MemoryFolderFolder.append.Goals as goal

pub returns-in_err-call-clause-calls : goal.returns-in_err-call-clause-calls
returns-in_err-call-clause-calls c = passed c.from_residual.result Failed c.from_residual.ensures.1 (record {
  tells = refl;
  records = refl;
  referent = refl;
  files = λ told. (0, omega arith, ap table_files c.call.ensures.same.0 ∙ sym (none_more (folder_files c.args.self.now) c.args.name.now c.args.bytes.now c.requires.there));
  disk = λ told. inl c.in_err-call.ensures.waited;
  count = c.in_err-call.ensures.count;
})

pub invariant_of-self-2 : goal.invariant_of-self-2
invariant_of-self-2 c = record {
  room = search rules;
  made = search rules;
  kept = kept_after c.call.new.self (Append c.new-name.result c.in_ok-more.more) c.record.new.past.items (table_files c.append.new.self) c.record.ensures.items
      (append_kept c.call.new.self (table_files c.append.new.self) c.args.name.now c.new-name.result c.new-name.ensures c.in_ok-more.more c.args.bytes.now c.in_ok-more.ensures.items (subst (λ t. is_some (get (table_files t) c.args.name.now) ≡ true) (sym c.in_ok-call.ensures.same.0) c.requires.there) c.in_ok-append.ensures.ok);
}

pub returns-clause-calls : goal.returns-clause-calls
returns-clause-calls c = record {
  tells = refl;
  records = refl;
  referent = refl;
  files = λ told. c.in_ok-append.ensures.ok ∙ ap (λ t. files_after_append (table_files t) c.args.name.now c.args.bytes.now) c.in_ok-call.ensures.same.0;
  disk = λ told.
      disk_after c.args.self.now c.call.new.self (Append c.new-name.result c.in_ok-more.more) c.record.new.past.items c.record.ensures.items c.in_ok-call.ensures.open.0 c.in_ok-call.ensures.same.1
      ∙ ap (λ n. after (state.appended n c.in_ok-more.more.items (folder_disk c.args.self.now).now) (folder_disk c.args.self.now)) c.new-name.ensures
      ∙ ap (λ b. after (state.appended c.args.name.now b (folder_disk c.args.self.now).now) (folder_disk c.args.self.now)) c.in_ok-more.ensures.items;
  count = c.in_ok-call.ensures.count;
}
