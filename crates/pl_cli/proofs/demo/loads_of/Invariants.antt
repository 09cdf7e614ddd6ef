use Rattle.std.proofs.Common.{◌≡◌, take}
use Rattle.std.specs.Prelude.{count_by}
use Rattle.std.specs.List.{flat_map}
use Rattle.pl_folder.specs.InMemory.{quiet_files}
use Rattle.pl_cli.specs.Demo.{is_fast, load, text_of}
use Rattle.pl_cli.proofs.demo.loads_of.Given as goal

abbrev pub invariant-loop-name : goal.invariant-loop-name
invariant-loop-name l = record {
  texts : l.texts.items ≡ flat_map (λ name. text_of (load (quiet_files l.fn.folder) name)) (take l.name-index l.names);
  fast : l.fast ≡ count_by (λ name. is_fast (load (quiet_files l.fn.folder) name)) (take l.name-index l.names);
  same : quiet_files l.folder ≡ quiet_files l.fn.folder;
}
