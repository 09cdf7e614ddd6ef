use Rattle.std.proofs.Common.{sym, ap, ◌∙◌, arith}
use Rattle.pl_form.specs.Files.{marked_in}
use Rattle.pl_object.specs.Reads.{reads}
use Rattle.pl_pie.proofs.FixedLaws.{made_bare}
use Rattle.pl_pie.proofs.placed.read_fixed.Goals as goal

pub fix-requires-clause-aligned : goal.fix-requires-clause-aligned
fix-requires-clause-aligned c = c.requires.may.aligned

pub fix-requires-clause-ends : goal.fix-requires-clause-ends
fix-requires-clause-ends c = c.requires.may.ends

pub object_at-requires : goal.object_at-requires
object_at-requires c = record {
  bytes = c.args.bytes.now;
  are_bytes = λ i. omega (arith, c.type_inv.bytes i);
  few = c.requires.few;
  program = c.requires.object;
  may = c.requires.may;
  is = c.deref.ensures.value ∙ c.in-Ok.ensures;
}

pub new-requires : goal.new-requires
new-requires c = record {
  read = ap reads (sym c.deref.ensures.value) ∙ c.in_ok-read-in-Ok.ensures;
  bare = ap marked_in c.in-Ok.ensures ∙ made_bare c.args.bytes.now c.args.object c.args.address c.requires.object c.requires.may;
}

pub returns-in_ok-read-in-Ok : goal.returns-in_ok-read-in-Ok
returns-in_ok-read-in-Ok c = c.new.ensures ∙ c.in-Ok.ensures
