use Rattle.std.proofs.Common.{ℕ, ◌<◌, length, sym, subst}
use Rattle.pl_scope.specs.Scope.{objects}
use Rattle.pl_scope.proofs.MemberLaws.{length_objects}
use Rattle.pl_scope.proofs.FolderLaws.{alone_found, only_in, within_by}
use Rattle.pl_scope.proofs.lookup.first_alone.Goals as goal

pub best_at_alone-requires-clause-within : goal.best_at_alone-requires-clause-within
best_at_alone-requires-clause-within c = λ m is.
    subst (λ (count : ℕ). m < count) (length_objects c.args.scope.now) (within_by (objects c.args.scope.now) c.args.among.now _ m c.position_of.result c.requires.index c.position_of.ensures is)

pub best_at_alone-requires-clause-alone : goal.best_at_alone-requires-clause-alone
best_at_alone-requires-clause-alone c = λ m is.
    only_in (objects c.args.scope.now) c.args.among.now c.args.wanted.now.name.now c.args.wanted.now.class c.args.wanted.now.gnu m c.args.entry.now c.requires.wanted.gnu c.requires.index c.requires.alone

pub returns : goal.returns
returns c =
    alone_found (objects c.args.scope.now) c.args.wanted.now c.args.start c.args.among.now (length c.args.scope.now) c.args.entry.now c.best_at_alone.result c.position_of.result c.requires.wanted.gnu c.requires.index c.requires.alone (sym (length_objects c.args.scope.now)) c.position_of.ensures c.best_at_alone.ensures
