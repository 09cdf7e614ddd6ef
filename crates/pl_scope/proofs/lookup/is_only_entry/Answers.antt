use Rattle.std.proofs.Common.{◌≡◌, ◌∙◌, List, Some, length, refl, sym, subst}
use Rattle.std.specs.Prelude.{slice_get}
use Rattle.std.proofs.lemmas.Bool.{OnFalse_at, OnTrue_from, ltb-true}
use Rattle.std.proofs.lemmas.Option.{slice_get_read}
use Rattle.pl_sym.specs.declared.symbol.Symbol.{Symbol}
use Rattle.pl_scope.specs.Folder.{IsOnlyEntry}
use Rattle.pl_scope.specs.Scope.{objects}
use Rattle.pl_scope.proofs.FolderLaws.{only_entry}
use Rattle.pl_scope.proofs.lookup.is_only_entry.Goals as goal

pub returns-in-Some : goal.returns-in-Some
returns-in-Some c =
    let read = c.in-Some.ensures.lookup in
    let listed = slice_get_read c.as_slice.result.now (length c.as_slice.result.now) c.args.reference.symbol c.in-Some.symbol.now refl (ltb-true c.args.reference.symbol (length c.as_slice.result.now) (sym read.0)) read.1 in
    let at : slice_get c.object-object.result.now.symbols c.args.reference.symbol ≡ Some c.in-Some.symbol.now =
    subst (λ (symbols : List Symbol). slice_get symbols c.args.reference.symbol ≡ Some c.in-Some.symbol.now) c.as_slice.ensures listed in
    OnTrue_from c.defines.result (IsOnlyEntry c.args.among.now c.args.wanted.now.gnu c.args.reference.member c.args.reference.symbol) (λ defined.
    only_entry (objects c.args.scope.now) c.args.among.now c.args.wanted.now.name.now c.args.wanted.now.gnu c.args.reference.member c.args.reference.symbol c.object-object.result.now c.in-Some.symbol.now
    c.requires.wanted.gnu c.requires.index c.object-object.ensures.object at (sym c.defines.ensures ∙ defined) (OnFalse_at c.if-may_repeat.false c.may_repeat.ensures))
