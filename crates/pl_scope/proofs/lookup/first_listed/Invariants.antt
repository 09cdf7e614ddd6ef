use Rattle.std.proofs.Common.{take}
use Rattle.std.specs.List.{filter_map}
use Rattle.std.specs.Option.{option_map}
use Rattle.pl_scope.specs.Folder.{placed}
use Rattle.pl_scope.specs.ScopeIndex.{IsBest}
use Rattle.pl_scope.specs.Scope.{objects}
use Rattle.pl_scope.proofs.lookup.first_listed.Given as goal

abbrev pub invariant-loop-entry : goal.invariant-loop-entry
invariant-loop-entry l =
    IsBest (objects l.scope) l.wanted.name.now l.wanted.class (option_map (λ x. x.now) l.wanted.version) l.start (filter_map (placed l.among.positions.now) (take l.entry-index l.entries)) l.best
