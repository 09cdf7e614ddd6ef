use Rattle.std.proofs.Common.{◌≡◌, rules, true}
use Rattle.pl_base.specs.Names.{is_valid_name}
use Rattle.pl_base.proofs.NameLaws.{valid_length}
use Rattle.pl_weave.proofs.taking.take.Goals as goal

pub take_now-requires : goal.take_now-requires
take_now-requires g c =
    let valid : is_valid_name c.args.name.now ≡ true = search rules in
    valid_length c.args.name.now valid
