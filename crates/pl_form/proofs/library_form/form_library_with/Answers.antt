use Rattle.std.proofs.Common.{◌≡◌, ℕ, List, length, subst, sym, ap, ◌∙◌}
use Rattle.std.specs.Prelude.{IfOk}
use Rattle.pl_base.specs.Windows.{AllIn}
use Rattle.pl_object.proofs.AcceptedLaws.{accepted}
use Rattle.pl_form.specs.Back.{spot_windows}
use Rattle.pl_form.specs.Found.{ps_of}
use Rattle.pl_form.specs.Library.{library_with}
use Rattle.pl_form.specs.Words.{all_filled}
use Rattle.pl_form.specs.declared.parts.Spot.{Spot}
use Rattle.pl_form.proofs.LayoutLaws.{length-all_filled}
use Rattle.pl_form.proofs.LengthLaws.{spots_inside}
use Rattle.pl_form.proofs.MarkedLaws.{layout_spots}
use Rattle.pl_form.proofs.library_form.form_library_with.Goals as goal

pub layout_of-requires-clause-head : goal.layout_of-requires-clause-head
layout_of-requires-clause-head c = (accepted c.args.original.now c.args.object.now c.requires.firm.firm.accepted).head

pub layout_of-requires-clause-few : goal.layout_of-requires-clause-few
layout_of-requires-clause-few c = c.requires.firm.firm.few

pub all_filled-requires : goal.all_filled-requires
all_filled-requires c =
    let spots : c.as_slice.result.now ≡ ps_of c.args.original.now = c.as_slice.ensures ∙ layout_spots c.args.original.now c.in_ok-layout.layout c.in_ok-layout.ensures in
    subst (λ (ps : List Spot). AllIn (length c.args.original.now) (spot_windows ps)) (sym spots) (spots_inside c.args.original.now c.args.object.now c.requires.firm.firm)

pub library_with-requires-clause-flat : goal.library_with-requires-clause-flat
library_with-requires-clause-flat c =
    let spots : c.as_slice.result.now ≡ ps_of c.args.original.now = c.as_slice.ensures ∙ layout_spots c.args.original.now c.in_ok-layout.layout c.in_ok-layout.ensures in
    ap length (c.deref.ensures.value ∙ c.in_ok-flat.ensures ∙ ap (λ (ps : List Spot). all_filled c.args.original.now ps c.args.words.now) spots)
    ∙ length-all_filled c.args.original.now (ps_of c.args.original.now) c.args.words.now (spots_inside c.args.original.now c.args.object.now c.requires.firm.firm)

pub library_with-requires-clause-source : goal.library_with-requires-clause-source
library_with-requires-clause-source c = record { firm = c.requires.firm; found = record { layout = c.in_ok-layout.ensures; digest = c.requires.digest } }

pub returns-clause-form : goal.returns-clause-form
returns-clause-form c =
    let spots : c.as_slice.result.now ≡ ps_of c.args.original.now = c.as_slice.ensures ∙ layout_spots c.args.original.now c.in_ok-layout.layout c.in_ok-layout.ensures in
    subst (λ (flat : List ℕ). IfOk c.library_with.result (λ v. v.items ≡ library_with c.args.original.now c.args.slot c.args.stamp c.args.list.now flat c.args.version))
    (c.deref.ensures.value ∙ c.in_ok-flat.ensures ∙ ap (λ (ps : List Spot). all_filled c.args.original.now ps c.args.words.now) spots) c.library_with.ensures.form
