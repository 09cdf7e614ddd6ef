use Rattle.std.proofs.Common.{List, ◌++◌, ◌∷◌, [], sym, ap, ◌∙◌, arith}
use Rattle.std.proofs.lemmas.List.{append-nil}
use Rattle.pl_base.specs.Windows.{Window}
use Rattle.pl_rewrite.proofs.RowTestLaws.{column_at, file_or, windows_library, windows_none, windows_program}
use Rattle.pl_rewrite.proofs.apart.add_windows.Goals as goal

pub returns-in_default : goal.returns-in_default
returns-in_default c = sym (ap (λ (ws : List Window). c.args.all.now.items ++ ws) (windows_none c.args.numbered.now c.args.row _ (file_or c.args.numbered.now c.args.row c.index-numbered-row.result c.requires.row) c.in_default.ensures) ∙ append-nil c.args.all.now.items)

pub returns-then-not-is_library : goal.returns-then-not-is_library
returns-then-not-is_library c =
    rw (windows_program c.args.numbered.now c.args.row _ c.in-Some.object.now (file_or c.args.numbered.now c.args.row c.index-numbered-row.result c.requires.row) c.in-Some.ensures (sym c.is_library.ensures ∙ c.if-not-is_library.true)) c.add_loads.ensures

pub returns : goal.returns
returns c =
    let place = c.from.ensures ∙ column_at c.args.numbered.now.places.now c.args.row 0 (omega (arith, c.requires.row, c.requires.numbered.places)) in
    c.in_ok-push.ensures.items ∙ ap (λ (w : Window). c.args.all.now.items ++ w ∷ []) c.new.ensures
    ∙ ap (λ (ws : List Window). c.args.all.now.items ++ ws) (sym (windows_library c.args.numbered.now c.args.row _ c.in-Some.object.now c.from.result (file_or c.args.numbered.now c.args.row c.index-numbered-row.result c.requires.row) c.in-Some.ensures (sym c.is_library.ensures ∙ c.if-not-is_library.false) place))
