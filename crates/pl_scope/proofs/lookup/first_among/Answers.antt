use Rattle.std.proofs.Common.{ℕ, Some, length, sym, subst}
use Rattle.std.proofs.lemmas.Bool.{OnTrue_at}
use Rattle.pl_scope.specs.Scope.{objects}
use Rattle.pl_scope.specs.Folder.{IsOnlyEntry, IsOnlyIn}
use Rattle.pl_scope.proofs.MemberLaws.{length_objects}
use Rattle.pl_scope.proofs.FolderLaws.{alone_found, only_in}
use Rattle.pl_scope.proofs.lookup.first_among.Goals as goal

pub best_alone-requires-clause-alone : goal.best_alone-requires-clause-alone
best_alone-requires-clause-alone c =
    let own : IsOnlyEntry c.args.among.now c.args.wanted.now.gnu c.args.reference.member c.args.reference.symbol = OnTrue_at c.if-is_only_entry.true c.is_only_entry.ensures in
    subst (λ (number : ℕ). IsOnlyIn (objects c.args.scope.now) c.args.reference.member c.args.wanted.now.name.now c.args.wanted.now.class number) own.symbol
    (only_in (objects c.args.scope.now) c.args.among.now c.args.wanted.now.name.now c.args.wanted.now.class c.args.wanted.now.gnu c.args.reference.member own.entry c.requires.wanted.gnu c.requires.index own.only)

pub returns-then-is_only_entry : goal.returns-then-is_only_entry
returns-then-is_only_entry c =
    let own : IsOnlyEntry c.args.among.now c.args.wanted.now.gnu c.args.reference.member c.args.reference.symbol = OnTrue_at c.if-is_only_entry.true c.is_only_entry.ensures in
    alone_found (objects c.args.scope.now) c.args.wanted.now c.args.start c.args.among.now (length c.args.scope.now) own.entry c.best_alone.result (Some c.args.reference.member) c.requires.wanted.gnu c.requires.index own.only (sym (length_objects c.args.scope.now)) (sym own.here) c.best_alone.ensures
