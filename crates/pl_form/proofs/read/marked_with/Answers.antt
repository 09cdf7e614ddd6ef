use Rattle.std.proofs.Common.{◌≡◌, Option, refl, sym, ap, subst, ◌∙◌}
use Rattle.std.specs.Prelude.{IfOk}
use Rattle.pl_form.specs.Back.{front_of}
use Rattle.pl_form.specs.Reading.{IsMade}
use Rattle.pl_form.specs.declared.file.Marked.{Marked}
use Rattle.pl_form.proofs.MarkedLaws.{candidate_here, candidate_original, same_checked}
use Rattle.pl_form.proofs.SoundLaws.{made_of}
use Rattle.pl_form.proofs.read.marked_with.Goals as goal
use Rattle.sha2.specs.Sha256.{sha256}

pub if_form-requires-clause-made : goal.if_form-requires-clause-made
if_form-requires-clause-made c =
    let p = c.args.parts in
    let front = front_of c.args.undo.now c.args.file.now in
    let is = candidate_here front c.args.undo.now c.args.original p.object p.contents.lists p.contents.standing.stamp c.candidate-marked.result c.requires.parts.contents.stamp c.candidate-marked.ensures in
    subst IsMade (sym is) (made_of front c.args.undo.now c.args.original p.object p.contents.lists c.args.file.now c.requires.parts.own c.requires.parts.contents.lists c.requires.file)

pub if_form-requires-clause-found : goal.if_form-requires-clause-found
if_form-requires-clause-found c =
    let p = c.args.parts in
    let front = front_of c.args.undo.now c.args.file.now in
    let is = candidate_here front c.args.undo.now c.args.original p.object p.contents.lists p.contents.standing.stamp c.candidate-marked.result c.requires.parts.contents.stamp c.candidate-marked.ensures in
    let here = candidate_original front c.args.undo.now c.args.original p.object p.contents.lists c.candidate-marked.result is in
    record {
      layout = rw here c.requires.parts.contents.layout;
      digest = c.digest_of-digest.ensures.value ∙ ap sha256 (c.as_slice.ensures ∙ sym here);
    }

pub returns-clause-exact : goal.returns-clause-exact
returns-clause-exact c =
    let p = c.args.parts in
    let u = c.args.undo.now in
    let front = front_of u c.args.file.now in
    let is = candidate_here front u c.args.original p.object p.contents.lists p.contents.standing.stamp c.candidate-marked.result c.requires.parts.contents.stamp c.candidate-marked.ensures in
    let same = same_checked c.args.file.now c.args.original u p.object p.contents.lists c.candidate-marked.result front p.contents.standing.flat.items refl is c.requires.parts.contents.flat in
    subst (λ (r : Option Marked). IfOk c.if_form.result (λ m. m ≡ r)) (same ∙ sym c.requires.parts.by) c.if_form.ensures.exact
