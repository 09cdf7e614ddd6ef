use Rattle.std.proofs.Common.{length, sym, ◌∙◌}
use Rattle.pl_base.specs.Windows.{Window, within}
use Rattle.pl_base.proofs.WindowLaws.{all_in}
use Rattle.pl_form.proofs.SpotLaws.{cut_within, of_four}
use Rattle.pl_form.proofs.found.rows_in.Goals as goal

pub returns : goal.returns
returns c =
    let ws = c.args.windows.now in
    let bytes = c.args.bytes.now in
    of_four (λ (w : Window). within w bytes) ws c.index-windows-0.result c.index-windows-1.result c.index-windows-2.result c.index-windows-3.result c.within.result.now c.within-2.result.now c.within-3.result.now c.within-4.result.now c.type_inv.windows (cc) (cc) (cc) (cc)
    ∙ sym (cut_within ws bytes (all_in (length bytes) ws c.requires))
