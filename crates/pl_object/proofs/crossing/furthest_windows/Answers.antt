use Rattle.std.proofs.Common.{◌∙◌, List, [], ◌∷◌, ◌++◌, ap}
use Rattle.pl_base.specs.Windows.{Window}
use Rattle.pl_object.proofs.CrossingLaws.{furthest_done, furthest_more}
use Rattle.pl_object.proofs.crossing.furthest_windows.Goals as goal

pub loop-window-init : goal.loop-window-init
loop-window-init c = record {
  own = c.new-last.ensures;
  whole = c.in_ok-push.ensures.items ∙ ap (λ (ws : List Window). ws ++ c.new-last.result ∷ []) c.new-all.ensures.items ∙ ap (λ (w : Window). w ∷ []) c.new-last.ensures;
}

pub loop-window-preserved : goal.loop-window-preserved
loop-window-preserved c =
    furthest_more c.args.tables.now c.loop-window.window-index c.window-item.result c.loop-window.last c.further-last.result c.loop-window.all.items c.push-in-loop-window.new.self.items c.loop-window-test.true c.window-item.is c.further-last.ensures c.in_ok-push-2.ensures.items c.loop-window.invariant

pub returns : goal.returns
returns c = furthest_done c.args.tables.now c.loop-window.window-index c.loop-window.last c.loop-window.all.items c.loop-window-test.false c.loop-window.invariant
