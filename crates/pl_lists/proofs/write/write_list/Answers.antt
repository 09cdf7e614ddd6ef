use Rattle.std.proofs.Common.{◌≡◌, ◌++◌, rules, length}
use Rattle.pl_lists.specs.Lists.{list_bytes, list_strings}
use Rattle.pl_lists.proofs.WriteLaws.{is_list_of}
use Rattle.pl_lists.proofs.write.write_list.Goals as goal

pub returns-clause-spelled : goal.returns-clause-spelled
returns-clause-spelled c = λ spelled.
    let before = c.args.strings.now.items in
    let rows = c.args.rows.now in
    let table : c.in_ok-table.table.items ≡ list_bytes (length before) rows = search rules in
    let strings : c.extend_from_slice.new.self.items ≡ before ++ list_strings rows = search rules in
    is_list_of before _ _ rows c.requires table strings spelled
