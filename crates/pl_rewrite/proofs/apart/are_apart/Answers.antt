use Rattle.std.proofs.Common.{◌≡◌, ◌<◌, ◌+◌, ◌++◌, [], ℕ, List, length, get_or, take, sym, ap, ◌∙◌}
use Rattle.std.specs.Prelude.{not}
use Rattle.std.specs.List.{flat_map}
use Rattle.std.proofs.lemmas.List.{flat_map_more, take_all, take_more}
use Rattle.pl_base.specs.Windows.{Window, any_share}
use Rattle.pl_rewrite.specs.Rows.{windows_of}
use Rattle.pl_rewrite.proofs.apart.are_apart.Goals as goal

-- what one more row takes up
more : (f : ℕ → List Window) (rows : List ℕ) (i : ℕ) (front new : List Window) → i < length rows → new ≡ front ++ f (get_or rows i 0) → front ≡ flat_map f (take i rows) → new ≡ flat_map f (take (i + 1) rows)
more f rows i front new lt is so_far =
    is ∙ ap (λ (ws : List Window). ws ++ f (get_or rows i 0)) so_far ∙ flat_map_more f [] (take i rows) (get_or rows i 0) ∙ ap (flat_map f) (sym (take_more rows i 0 lt))

pub loop-row-init : goal.loop-row-init
loop-row-init c = c.new-windows.ensures.items

pub add_windows-requires-clause-row : goal.add_windows-requires-clause-row
add_windows-requires-clause-row c = c.requires.rows c.loop-row.row-index 0 c.loop-row-test.true

pub loop-row-preserved : goal.loop-row-preserved
loop-row-preserved c = more (windows_of c.args.numbered.now) c.args.walk.now c.loop-row.row-index c.loop-row.windows.items _ c.loop-row-test.true c.in_ok-add_windows.ensures c.loop-row.invariant

pub returns : goal.returns
returns c = ap not (c.any_share.ensures ∙ ap any_share (c.loop-row.invariant ∙ ap (flat_map (windows_of c.args.numbered.now)) (take_all c.loop-row.row-index c.args.walk.now c.loop-row-test.false)))
