use Rattle.std.proofs.Common.{◌≡◌, Option, Some, None, map, string_bytes, sym, subst, rules}
use Rattle.pl_cli.specs.declared.command.Command.{Command}
use Rattle.pl_cli.specs.declared.command.Command.TheVariants.{All, Demo, Fix, Load, Order, Preview, Print, Remove, Store, Undo, UndoAll, Unfix, Verify, Weave}
use Rattle.pl_cli.specs.Outside.{outside}
use Rattle.pl_cli.specs.Ran.{Ran}
use Rattle.pl_cli.specs.Words.{command}
use Rattle.pl_cli.proofs.RunLemmas.{came_demo, came_ordered, came_previewed, came_printed, ran_lacking, ran_usage, came_woven}
use Rattle.pl_cli.proofs.FixLemmas.{came_fixed, came_unfixed, named_length}
use Rattle.pl_cli.proofs.WriteLemmas.{came_prelinked, came_removed, came_stored, came_undone, came_undone_all}
use Rattle.pl_cli.proofs.top.run.Goals as goal

pub returns-in-Ok-Load-clause-ran : goal.returns-in-Ok-Load-clause-ran
returns-in-Ok-Load-clause-ran g c =
    let folder = g.D.Folder.seen in
    let input = g.S.Source.seen in
    let output = g.K.Sink.seen in
    let is : command c.args.now (map string_bytes c.args.words.now) ≡ Some (Load c.as_str.result.now c.in-Ok-Load.busy c.in-Ok-Load.policy) = search rules in
    subst (λ (asked : Option Command). Ran asked (outside (folder c.args.folder.now) (input c.args.input.now) (output c.args.output.now)) (outside (folder c.load_and_write.new.folder) (input c.args.input.now) (output c.load_and_write.new.output)) c.load_and_write.result)
    (sym is)
    (c.load_and_write.ensures.ran (input c.args.input.now))

pub returns-in-Ok-All-clause-ran : goal.returns-in-Ok-All-clause-ran
returns-in-Ok-All-clause-ran g c =
    let folder = g.D.Folder.seen in
    let input = g.S.Source.seen in
    let output = g.K.Sink.seen in
    let is : command c.args.now (map string_bytes c.args.words.now) ≡ Some (All c.in-Ok-All.asked c.in-Ok-All.detail) = search rules in
    subst (λ (asked : Option Command). Ran asked (outside (folder c.args.folder.now) (input c.args.input.now) (output c.args.output.now)) (outside (folder c.prelink-prelinked.new.folder) (input c.args.input.now) (output c.end_with.new.output)) c.end_with.result)
    (sym is)
    (c.end_with.ensures (Some (All c.in-Ok-All.asked c.in-Ok-All.detail)) (folder c.args.folder.now) (folder c.prelink-prelinked.new.folder) (input c.args.input.now) (input c.args.input.now) (g.met.D.Folder.is_folder c.args.folder.now)
    (came_prelinked c.in-Ok-All.asked c.in-Ok-All.detail (input c.args.input.now) c.prelink-prelinked.result c.prelink-prelinked.ensures))

pub returns-in-Ok-Preview-clause-ran : goal.returns-in-Ok-Preview-clause-ran
returns-in-Ok-Preview-clause-ran g c =
    let folder = g.D.Folder.seen in
    let input = g.S.Source.seen in
    let output = g.K.Sink.seen in
    let is : command c.args.now (map string_bytes c.args.words.now) ≡ Some (Preview c.in-Ok-Preview.asked c.in-Ok-Preview.detail) = search rules in
    subst (λ (asked : Option Command). Ran asked (outside (folder c.args.folder.now) (input c.args.input.now) (output c.args.output.now)) (outside (folder c.preview-previewed.new.folder) (input c.args.input.now) (output c.end_with-in-Ok-Preview.new.output)) c.end_with-in-Ok-Preview.result)
    (sym is)
    (c.end_with-in-Ok-Preview.ensures (Some (Preview c.in-Ok-Preview.asked c.in-Ok-Preview.detail)) (folder c.args.folder.now) (folder c.preview-previewed.new.folder) (input c.args.input.now) (input c.args.input.now) (g.met.D.Folder.is_folder c.args.folder.now)
    (came_previewed c.in-Ok-Preview.asked c.in-Ok-Preview.detail (input c.args.input.now) c.preview-previewed.result c.preview-previewed.ensures))

pub returns-in-Ok-UndoAll-clause-ran : goal.returns-in-Ok-UndoAll-clause-ran
returns-in-Ok-UndoAll-clause-ran g c =
    let folder = g.D.Folder.seen in
    let input = g.S.Source.seen in
    let output = g.K.Sink.seen in
    let is : command c.args.now (map string_bytes c.args.words.now) ≡ Some UndoAll = search rules in
    subst (λ (asked : Option Command). Ran asked (outside (folder c.args.folder.now) (input c.args.input.now) (output c.args.output.now)) (outside (folder c.undo-undone.new.folder) (input c.args.input.now) (output c.end_undone.new.output)) c.end_undone.result)
    (sym is)
    (c.end_undone.ensures (Some UndoAll) (folder c.args.folder.now) (folder c.undo-undone.new.folder) (input c.args.input.now) (input c.args.input.now) (g.met.D.Folder.is_folder c.args.folder.now)
    (came_undone_all (input c.args.input.now) c.undo-undone.result c.undo-undone.ensures))

pub returns-in-Ok-Undo-clause-ran : goal.returns-in-Ok-Undo-clause-ran
returns-in-Ok-Undo-clause-ran g c =
    let folder = g.D.Folder.seen in
    let input = g.S.Source.seen in
    let output = g.K.Sink.seen in
    let is : command c.args.now (map string_bytes c.args.words.now) ≡ Some (Undo c.in-Ok-Undo.names) = search rules in
    subst (λ (asked : Option Command). Ran asked (outside (folder c.args.folder.now) (input c.args.input.now) (output c.args.output.now)) (outside (folder c.undo-undone-in-Ok-Undo.new.folder) (input c.args.input.now) (output c.end_undone-in-Ok-Undo.new.output)) c.end_undone-in-Ok-Undo.result)
    (sym is)
    (c.end_undone-in-Ok-Undo.ensures (Some (Undo c.in-Ok-Undo.names)) (folder c.args.folder.now) (folder c.undo-undone-in-Ok-Undo.new.folder) (input c.args.input.now) (input c.args.input.now) (g.met.D.Folder.is_folder c.args.folder.now)
    (came_undone c.in-Ok-Undo.names (input c.args.input.now) c.undo-undone-in-Ok-Undo.result c.undo-undone-in-Ok-Undo.ensures))

pub returns-in-Ok-Store-clause-ran : goal.returns-in-Ok-Store-clause-ran
returns-in-Ok-Store-clause-ran g c =
    let folder = g.D.Folder.seen in
    let input = g.S.Source.seen in
    let output = g.K.Sink.seen in
    let is : command c.args.now (map string_bytes c.args.words.now) ≡ Some (Store c.as_str-in-Ok-Store.result.now c.in-Ok-Store.content) = search rules in
    subst (λ (asked : Option Command). Ran asked (outside (folder c.args.folder.now) (input c.args.input.now) (output c.args.output.now)) (outside (folder c.store-stored.new.folder) (input c.store-stored.new.input) (output c.end_with-in-Ok-Store.new.output)) c.end_with-in-Ok-Store.result)
    (sym is)
    (c.end_with-in-Ok-Store.ensures (Some (Store c.as_str-in-Ok-Store.result.now c.in-Ok-Store.content)) (folder c.args.folder.now) (folder c.store-stored.new.folder) (input c.args.input.now) (input c.store-stored.new.input) (g.met.D.Folder.is_folder c.args.folder.now)
    (came_stored c.as_str-in-Ok-Store.result.now c.in-Ok-Store.content c.store-stored.result c.store-stored.ensures.stored))

pub returns-in-Ok-Remove-clause-ran : goal.returns-in-Ok-Remove-clause-ran
returns-in-Ok-Remove-clause-ran g c =
    let folder = g.D.Folder.seen in
    let input = g.S.Source.seen in
    let output = g.K.Sink.seen in
    let is : command c.args.now (map string_bytes c.args.words.now) ≡ Some (Remove c.as_str-in-Ok-Remove.result.now) = search rules in
    subst (λ (asked : Option Command). Ran asked (outside (folder c.args.folder.now) (input c.args.input.now) (output c.args.output.now)) (outside (folder c.remove-removed.new.folder) (input c.args.input.now) (output c.end_with-in-Ok-Remove.new.output)) c.end_with-in-Ok-Remove.result)
    (sym is)
    (c.end_with-in-Ok-Remove.ensures (Some (Remove c.as_str-in-Ok-Remove.result.now)) (folder c.args.folder.now) (folder c.remove-removed.new.folder) (input c.args.input.now) (input c.args.input.now) (g.met.D.Folder.is_folder c.args.folder.now)
    (came_removed c.as_str-in-Ok-Remove.result.now (input c.args.input.now) c.remove-removed.result c.remove-removed.ensures))

pub end_fixed-requires : goal.end_fixed-requires
end_fixed-requires g c = named_length c.as_str-title.result.now c.fix-fixed.result c.fix-fixed.ensures.named

pub returns-in-Ok-Fix-clause-ran : goal.returns-in-Ok-Fix-clause-ran
returns-in-Ok-Fix-clause-ran g c =
    let folder = g.D.Folder.seen in
    let input = g.S.Source.seen in
    let output = g.K.Sink.seen in
    let name = c.as_str-title.result.now in
    let is : command c.args.now (map string_bytes c.args.words.now) ≡ Some (Fix name c.in-Ok-Fix.policy) = search rules in
    subst (λ (asked : Option Command). Ran asked (outside (folder c.args.folder.now) (input c.args.input.now) (output c.args.output.now)) (outside (folder c.fix-fixed.new.folder) (input c.args.input.now) (output c.end_fixed.new.output)) c.end_fixed.result)
    (sym is)
    (c.end_fixed.ensures (Some (Fix name c.in-Ok-Fix.policy)) (folder c.args.folder.now) (folder c.fix-fixed.new.folder) (input c.args.input.now) (input c.args.input.now) (g.met.D.Folder.is_folder c.args.folder.now)
    (came_fixed name c.in-Ok-Fix.policy (input c.args.input.now) c.fix-fixed.result c.fix-fixed.ensures))

pub returns-in-Ok-Unfix-clause-ran : goal.returns-in-Ok-Unfix-clause-ran
returns-in-Ok-Unfix-clause-ran g c =
    let folder = g.D.Folder.seen in
    let input = g.S.Source.seen in
    let output = g.K.Sink.seen in
    let name = c.as_str-in-Ok-Unfix.result.now in
    let is : command c.args.now (map string_bytes c.args.words.now) ≡ Some (Unfix name) = search rules in
    subst (λ (asked : Option Command). Ran asked (outside (folder c.args.folder.now) (input c.args.input.now) (output c.args.output.now)) (outside (folder c.unfix-unfixed.new.folder) (input c.args.input.now) (output c.end_with-in-Ok-Unfix.new.output)) c.end_with-in-Ok-Unfix.result)
    (sym is)
    (c.end_with-in-Ok-Unfix.ensures (Some (Unfix name)) (folder c.args.folder.now) (folder c.unfix-unfixed.new.folder) (input c.args.input.now) (input c.args.input.now) (g.met.D.Folder.is_folder c.args.folder.now)
    (came_unfixed name (input c.args.input.now) c.unfix-unfixed.result c.unfix-unfixed.ensures))

pub returns-in-Ok-Verify-clause-ran : goal.returns-in-Ok-Verify-clause-ran
returns-in-Ok-Verify-clause-ran g c =
    let folder = g.D.Folder.seen in
    let input = g.S.Source.seen in
    let output = g.K.Sink.seen in
    let is : command c.args.now (map string_bytes c.args.words.now) ≡ Some (Verify c.as_str-in-Ok-Verify.result.now) = search rules in
    subst (λ (asked : Option Command). Ran asked (outside (folder c.args.folder.now) (input c.args.input.now) (output c.args.output.now)) (outside (folder c.verify-verified.new.folder) (input c.args.input.now) (output c.end_verified.new.output)) c.end_verified.result)
    (sym is)
    (c.end_verified.ensures c.as_str-in-Ok-Verify.result.now (folder c.args.folder.now) (folder c.verify-verified.new.folder) (input c.args.input.now) (g.met.D.Folder.is_folder c.args.folder.now) c.verify-verified.ensures.verified)

pub returns-in-Ok-Print-clause-ran : goal.returns-in-Ok-Print-clause-ran
returns-in-Ok-Print-clause-ran g c =
    let folder = g.D.Folder.seen in
    let input = g.S.Source.seen in
    let output = g.K.Sink.seen in
    let is : command c.args.now (map string_bytes c.args.words.now) ≡ Some Print = search rules in
    subst (λ (asked : Option Command). Ran asked (outside (folder c.args.folder.now) (input c.args.input.now) (output c.args.output.now)) (outside (folder c.print-printed.new.folder) (input c.args.input.now) (output c.end_with-in-Ok-Print.new.output)) c.end_with-in-Ok-Print.result)
    (sym is)
    (c.end_with-in-Ok-Print.ensures (Some Print) (folder c.args.folder.now) (folder c.print-printed.new.folder) (input c.args.input.now) (input c.args.input.now) (g.met.D.Folder.is_folder c.args.folder.now) (came_printed (input c.args.input.now) c.print-printed.result c.print-printed.ensures))

pub returns-in-Ok-Weave-clause-ran : goal.returns-in-Ok-Weave-clause-ran
returns-in-Ok-Weave-clause-ran g c =
    let folder = g.D.Folder.seen in
    let input = g.S.Source.seen in
    let output = g.K.Sink.seen in
    let is : command c.args.now (map string_bytes c.args.words.now) ≡ Some Weave = search rules in
    subst (λ (asked : Option Command). Ran asked (outside (folder c.args.folder.now) (input c.args.input.now) (output c.args.output.now)) (outside (folder c.weave-woven.new.folder) (input c.weave-woven.new.input) (output c.end_with-in-Ok-Weave.new.output)) c.end_with-in-Ok-Weave.result)
    (sym is)
    (c.end_with-in-Ok-Weave.ensures (Some Weave) (folder c.args.folder.now) (folder c.weave-woven.new.folder) (input c.args.input.now) (input c.weave-woven.new.input) (g.met.D.Folder.is_folder c.args.folder.now)
    (came_woven c.weave-woven.result c.weave-woven.ensures))

pub returns-in-Ok-Order-clause-ran : goal.returns-in-Ok-Order-clause-ran
returns-in-Ok-Order-clause-ran g c =
    let folder = g.D.Folder.seen in
    let input = g.S.Source.seen in
    let output = g.K.Sink.seen in
    let is : command c.args.now (map string_bytes c.args.words.now) ≡ Some (Order c.as_str-in-Ok-Order.result.now c.in-Ok-Order.detail) = search rules in
    subst (λ (asked : Option Command). Ran asked (outside (folder c.args.folder.now) (input c.args.input.now) (output c.args.output.now)) (outside (folder c.order-ordered.new.folder) (input c.args.input.now) (output c.end_with-in-Ok-Order.new.output)) c.end_with-in-Ok-Order.result)
    (sym is)
    (c.end_with-in-Ok-Order.ensures (Some (Order c.as_str-in-Ok-Order.result.now c.in-Ok-Order.detail)) (folder c.args.folder.now) (folder c.order-ordered.new.folder) (input c.args.input.now) (input c.args.input.now) (g.met.D.Folder.is_folder c.args.folder.now)
    (came_ordered c.as_str-in-Ok-Order.result.now c.in-Ok-Order.detail (input c.args.input.now) c.order-ordered.result c.order-ordered.ensures.ordered))

pub returns-in-Ok-Demo-clause-ran : goal.returns-in-Ok-Demo-clause-ran
returns-in-Ok-Demo-clause-ran g c =
    let folder = g.D.Folder.seen in
    let input = g.S.Source.seen in
    let output = g.K.Sink.seen in
    let is : command c.args.now (map string_bytes c.args.words.now) ≡ Some (Demo c.in-Ok-Demo.number) = search rules in
    subst (λ (asked : Option Command). Ran asked (outside (folder c.args.folder.now) (input c.args.input.now) (output c.args.output.now)) (outside (folder c.args.folder.now) (input c.args.input.now) (output c.end_with-in-Ok-Demo.new.output)) c.end_with-in-Ok-Demo.result)
    (sym is)
    (c.end_with-in-Ok-Demo.ensures (Some (Demo c.in-Ok-Demo.number)) (folder c.args.folder.now) (folder c.args.folder.now) (input c.args.input.now) (input c.args.input.now) (g.met.D.Folder.is_folder c.args.folder.now)
    (came_demo c.in-Ok-Demo.number (folder c.args.folder.now) (input c.args.input.now) c.demo-made.result c.demo-made.ensures))

pub returns-in-Err-Usage-clause-ran : goal.returns-in-Err-Usage-clause-ran
returns-in-Err-Usage-clause-ran g c =
    let folder = g.D.Folder.seen in
    let input = g.S.Source.seen in
    let output = g.K.Sink.seen in
    let is : command c.args.now (map string_bytes c.args.words.now) ≡ None = search rules in
    subst (λ (asked : Option Command). Ran asked (outside (folder c.args.folder.now) (input c.args.input.now) (output c.args.output.now)) (outside (folder c.args.folder.now) (input c.args.input.now) (output c.finish.new.output)) c.finish.result)
    (sym is)
    (ran_usage (folder c.args.folder.now) (input c.args.input.now) c.finish.result c.finish.ensures)

pub returns-in-Err-NoMemory-clause-ran : goal.returns-in-Err-NoMemory-clause-ran
returns-in-Err-NoMemory-clause-ran g c = ran_lacking (command c.args.now (map string_bytes c.args.words.now)) (g.D.Folder.seen c.args.folder.now) (g.S.Source.seen c.args.input.now) (g.K.Sink.seen c.args.output.now)
