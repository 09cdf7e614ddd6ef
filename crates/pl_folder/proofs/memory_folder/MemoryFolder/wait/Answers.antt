use Rattle.std.proofs.Common.{rules, refl}
use Rattle.pl_folder.specs.declared.call.Call.TheVariants.{Nothing}
use Rattle.pl_folder.specs.Tables.{table_files}
use Rattle.pl_folder.proofs.RecordLemmas.{disk_after, kept_after}
use Rattle.pl_folder.proofs.memory_folder.MemoryFolder.wait.Goals as goal

pub invariant_of-self : goal.invariant_of-self
invariant_of-self c = record {
  room = search rules;
  made = search rules;
  kept = kept_after c.args.self.now Nothing c.record.new.past.items (table_files c.args.self.now.files) c.record.ensures.items c.args.self.now.kept;
}

pub returns-clause-disk : goal.returns-clause-disk
returns-clause-disk c = disk_after c.args.self.now c.args.self.now Nothing c.record.new.past.items c.record.ensures.items refl refl
