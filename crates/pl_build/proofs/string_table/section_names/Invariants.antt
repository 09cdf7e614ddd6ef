use Rattle.std.proofs.Common.{◌≡◌, drop}
use Rattle.std.specs.List.{fold}
use Rattle.pl_build.specs.StringTable.{role_text_added, section_names}
use Rattle.pl_build.proofs.string_table.section_names.Given as goal

abbrev pub invariant-loop-role : goal.invariant-loop-role
invariant-loop-role l = fold role_text_added l.strings (drop l.role-index l.roles) ≡ section_names l.roles
