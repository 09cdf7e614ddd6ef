use Rattle.std.proofs.Common.{◌≡◌, rules, ap, sym, subst}
use Rattle.std.specs.Prelude.{Result, Ok}
use Rattle.std.specs.Result.{is_ok}
use Rattle.pl_elf.specs.declared.header.Header.{Header}
use Rattle.pl_elf.specs.declared.fault.HeaderFault.{HeaderFault}
use Rattle.pl_elf.specs.Headers.{loads, segments}
use Rattle.pl_elf.specs.Clauses.{read, AreLoads}
use Rattle.pl_elf.proofs.AcceptedLaws.{loads_accepted}
use Rattle.pl_elf.proofs.read.read_header.Goals as goal

pub returns-clause-loads : goal.returns-clause-loads
unfolding read
returns-clause-loads c =
    let exact : read c.args.bytes.now ≡ Ok c.header_fields-header.result = search rules in
    subst (λ (h : Header). AreLoads (loads (segments c.args.bytes.now h))) (sym c.header_fields-header.ensures) (loads_accepted c.args.bytes.now (ap (λ (r : Result Header HeaderFault). is_ok r) exact))
