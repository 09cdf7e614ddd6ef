use Rattle.std.proofs.Common.{◌≡◌, List, ◌∙◌, ap, length, refl}
use Rattle.pl_folder.specs.InMemory.{quiet_files}
use Rattle.pl_gen.specs.declared.set.DemoFile.{DemoFile}
use Rattle.pl_demo.specs.Demo.{folder}
use Rattle.pl_demo.proofs.SetLemmas.{counts_are, folder_is, programs_are, size_is}
use Rattle.pl_demo.proofs.set.demo_folder.Goals as goal

pub returns-clause-folder : goal.returns-clause-folder
returns-clause-folder c =
    folder_is c.args.number c.in_ok-set.set.items c.as_slice-files.result.now (quiet_files c.in_ok-folder.folder) (quiet_files c.make_files.new.folder) (quiet_files c.prelink.new.folder) (quiet_files c.all_counts.new.folder)
    c.in_ok-set.ensures c.as_slice-files.ensures.value c.in_ok-folder.ensures c.in_ok-make_files.ensures c.in_ok-prelink.ensures c.in_ok-counts.ensures.same

pub returns-clause-counts : goal.returns-clause-counts
returns-clause-counts c =
    let at : quiet_files c.prelink.new.folder ≡ folder c.args.number =
    folder_is c.args.number c.in_ok-set.set.items c.as_slice-files.result.now (quiet_files c.in_ok-folder.folder) (quiet_files c.make_files.new.folder) (quiet_files c.prelink.new.folder) (quiet_files c.prelink.new.folder)
    c.in_ok-set.ensures c.as_slice-files.ensures.value c.in_ok-folder.ensures c.in_ok-make_files.ensures c.in_ok-prelink.ensures refl in
    c.in_ok-counts.ensures.counts ∙ counts_are c.args.number c.in_ok-set.set.items c.as_slice-files.result.now c.in_ok-set.ensures c.as_slice-files.ensures.value (quiet_files c.prelink.new.folder) at

pub returns-clause-programs : goal.returns-clause-programs
returns-clause-programs c = c.in_ok-programs.ensures ∙ programs_are c.args.number c.in_ok-set.set.items c.as_slice-files.result.now c.in_ok-set.ensures c.as_slice-files.ensures.value

pub returns-clause-size : goal.returns-clause-size
returns-clause-size c = ap (λ (files : List DemoFile). length files) c.as_slice-files.ensures.value ∙ size_is c.args.number c.in_ok-set.set.items c.in_ok-set.ensures
