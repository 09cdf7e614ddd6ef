use Rattle.std.proofs.Common.{List, ℕ, length, Ok, sym, ap, ◌∙◌}
use Rattle.std.proofs.lemmas.List.{length-replicate}
use Rattle.std.proofs.lemmas.Result.{err_from_is_err_and}
use Rattle.pl_tls.specs.declared.module.Module.{Module}
use Rattle.pl_cone.proofs.ProgramLinkLaws.{tls_refuses}
use Rattle.pl_cone.proofs.linking.program_link.Goals as goal

pub returns-in_err-modules : goal.returns-in_err-modules
returns-in_err-modules c =
    let p = err_from_is_err_and c.from_residual.result c.from_residual.ensures.1 in
    rw (p.1, p.2) (tls_refuses c.args.own.now.scope _ c.in_err-modules.ensures)

pub linked-requires-clause-linking : goal.linked-requires-clause-linking
linked-requires-clause-linking c = record {
  is = record {
    one_each = ap length c.in_ok-places.ensures ∙ length-replicate {A = ℕ} (length c.args.own.now.scope) 0;
    index = c.requires.index c.among.result c.among.ensures.index c.among.ensures.positions;
  };
  places = c.in_ok-places.ensures;
  tls = c.in_ok-modules.ensures ∙ ap (λ (ms : List Module). Ok ms) (sym c.as_slice.ensures);
}
