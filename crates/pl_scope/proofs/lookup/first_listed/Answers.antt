use Rattle.std.proofs.Common.{◌≡◌, ℕ, ◌<◌, List, length, true, ap, sym, subst, ◌∙◌}
use Rattle.std.specs.List.{filter_map, list_any}
use Rattle.std.specs.Option.{option_map}
use Rattle.std.specs.Prelude.{◌==◌}
use Rattle.pl_scope.specs.Folder.{placed}
use Rattle.pl_scope.specs.Index.{entries_of}
use Rattle.pl_scope.specs.Scope.{objects}
use Rattle.pl_scope.specs.declared.entries.Entry.{Entry as Placed}
use Rattle.pl_scope.specs.declared.index.Entry.{Entry}
use Rattle.pl_scope.proofs.MemberLaws.{length_objects}
use Rattle.pl_scope.proofs.FolderLaws.{among_more, among_done, among_whole, within_by}
use Rattle.pl_scope.proofs.lookup.first_listed.Goals as goal

pub best_at-best-requires-clause-within : goal.best_at-best-requires-clause-within
best_at-best-requires-clause-within c = λ m is.
    subst (λ (count : ℕ). m < count) (length_objects c.args.scope.now) (within_by (objects c.args.scope.now) c.args.among.now _ m c.position_of.result c.requires.index c.position_of.ensures is)

pub loop-entry-preserved : goal.loop-entry-preserved
loop-entry-preserved c =
    among_more (objects c.args.scope.now) c.args.wanted.now c.args.start c.args.among.now.positions.now c.args.entries.now c.loop-entry.entry-index _ c.loop-entry.best c.best_at-best.result c.position_of.result
    c.loop-entry-test.true c.loop-entry.invariant c.position_of.ensures c.best_at-best.ensures

pub returns : goal.returns
returns c =
    let wanted = c.args.wanted.now in
    let among = c.args.among.now in
    let os = objects c.args.scope.now in
    let entries = c.requires.entries ∙ ap (entries_of among.index.now) c.requires.wanted.gnu in
    among_done os wanted c.args.start among.positions.now c.args.entries.now c.loop-entry.entry-index (length c.args.scope.now) c.loop-entry.best c.loop-entry-test.false (sym (length_objects c.args.scope.now)) c.loop-entry.invariant
    (λ m f at.
    subst (λ (es : List Entry). list_any (λ (e : Placed). e.value == m) (filter_map (placed among.positions.now) es) ≡ true) (sym entries)
    (among_whole os among wanted.name.now wanted.class (option_map (λ x. x.now) wanted.version) m f c.requires.index at))
