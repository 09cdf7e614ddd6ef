use Rattle.std.proofs.Common.{ℕ, List, subst}
use Rattle.pl_object.specs.NamesRead.{IsNameKept}
use Rattle.pl_object.specs.declared.names_read.NamesRead.{NamesRead}
use Rattle.pl_object.proofs.NamesReadLaws.{name_kept}
use Rattle.pl_object.proofs.names_read.NamesRead.keep.Goals as goal

pub returns : goal.returns
returns c =
    let new : NamesRead = record { texts = c.insert.new.self } in
    subst (λ (n : List ℕ). IsNameKept c.args.self.now c.args.at n new) c.in_ok-name.ensures
    (name_kept c.args.self.now new c.args.at c.in_ok-name.name (c.in_ok-insert.ensures.updates).0)
