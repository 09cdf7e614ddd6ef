use Rattle.std.proofs.Common.{◌++◌, ap, ◌∙◌}
use Rattle.pl_base.specs.Windows.{Window, within}
use Rattle.pl_form.proofs.FindingLaws.{within_more, within_done}
use Rattle.pl_form.proofs.windows.all_bytes.Goals as goal

pub loop-window-preserved : goal.loop-window-preserved
loop-window-preserved c =
    within_more c.args.windows.now c.loop-window.window-index c.window-item.result c.args.bytes.now c.loop-window.all.items _ _ c.loop-window-test.true
    (c.in_ok-push_window.ensures ∙ ap (λ (w : Window). c.loop-window.all.items ++ within w c.args.bytes.now) c.window-item.is) c.loop-window.invariant

pub returns : goal.returns
returns c = within_done c.args.windows.now _ c.args.bytes.now _ _ c.loop-window-test.false c.loop-window.invariant
