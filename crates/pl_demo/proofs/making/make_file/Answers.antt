use Rattle.std.proofs.Common.{◌≡◌, false, rules, true}
use Rattle.pl_base.specs.Names.{is_valid_name}
use Rattle.pl_base.proofs.NameLaws.{valid_length}
use Rattle.pl_folder.specs.InMemory.{quiet_files}
use Rattle.pl_demo.proofs.AnswerLemmas.{on_ok}
use Rattle.pl_demo.proofs.MakingLemmas.{was_made, was_not_made}
use Rattle.pl_demo.proofs.making.make_file.Goals as goal

pub returns-then-not-is_valid_name : goal.returns-then-not-is_valid_name
returns-then-not-is_valid_name c =
    let invalid : is_valid_name c.args.name.now ≡ false = search rules in
    was_not_made (quiet_files c.args.folder.now) c.args.name.now c.args.recipe.now invalid

pub put_made-requires : goal.put_made-requires
put_made-requires c =
    let valid : is_valid_name c.args.name.now ≡ true = search rules in
    valid_length c.args.name.now valid

pub returns : goal.returns
returns c =
    let valid : is_valid_name c.args.name.now ≡ true = search rules in
    on_ok c.put_made.result (was_made (quiet_files c.args.folder.now) c.args.name.now c.args.recipe.now c.in_ok-bytes.bytes (quiet_files c.put_made.new.folder) valid c.in_ok-bytes.ensures) c.put_made.ensures
