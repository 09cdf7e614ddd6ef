use Rattle.std.proofs.Common.{◌≡◌, ◌++◌, drop, map}
use Rattle.std.specs.Option.{option_map}
use Rattle.pl_scope.specs.Folder.{all_from, all_entries}
use Rattle.pl_scope.proofs.folder.all_entries.Given as goal

abbrev pub invariant-loop-row : goal.invariant-loop-row
invariant-loop-row l = l.entries.items ++ all_from l.row (drop l.row (map (option_map (λ o. o.now)) l.objects)) ≡ all_entries (map (option_map (λ o. o.now)) l.objects)
