use Rattle.std.proofs.Common.{◌≡◌, ◌<◌, ◌∙◌, length, get_or, sym, arith}
use Rattle.std.specs.Prelude.{string_bytes}
use Rattle.pl_scope.specs.Members.{names}
use Rattle.pl_scope.specs.Scope.{walked}
use Rattle.pl_init.proofs.NameLaws.{name_more, item_name, length_member_names}
use Rattle.pl_init.proofs.names.names_of.Goals as goal

pub loop-member-preserved : goal.loop-member-preserved
loop-member-preserved c =
    let small : c.loop-member.member-index < length c.args.members.now = c.loop-member-test.true in
    let item : c.member-item.result ≡ get_or c.args.members.now c.loop-member.member-index c.member-item.result = c.member-item.is in
    name_more string_bytes (names (walked c.args.members.now)) c.loop-member.member-index c.loop-member.names.keys c.insert.new.self.keys c.in_ok-from_str.field-0 c.requires.distinct (omega (arith, small, length_member_names c.args.members.now)) c.loop-member.invariant
    (c.in_ok-from_str.ensures.ok ∙ (c.as_str.ensures ∙ sym (item_name c.args.members.now c.loop-member.member-index c.member-item.result small item))) c.in_ok-insert.ensures.keys
