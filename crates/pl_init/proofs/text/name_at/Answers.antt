use Rattle.std.proofs.Common.{◌∙◌, sym, ap, arith}
use Rattle.pl_scope.specs.declared.member.Member.{Member}
use Rattle.pl_init.proofs.NameLaws.{item_name, length_walked}
use Rattle.pl_init.proofs.text.name_at.Goals as goal

pub returns : goal.returns
returns c =
    c.as_str.ensures
    ∙ (sym (ap (λ (m : Member). m.name) c.index-members-member.is)
    ∙ sym (item_name c.args.members.now c.args.member c.index-members-member.result (omega (arith, c.requires, length_walked c.args.members.now)) c.index-members-member.is))
