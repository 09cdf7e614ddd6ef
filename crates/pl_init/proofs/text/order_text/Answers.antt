use Rattle.std.proofs.Common.{◌∙◌, ap, length, subst, sym}
use Rattle.std.proofs.lemmas.List.Sums.{AllPass-from_list_all}
use Rattle.std.specs.List.{list_all}
use Rattle.pl_scope.specs.Scope.{walked}
use Rattle.pl_scope.specs.Walk.{Walked}
use Rattle.pl_init.specs.Right.{is_numbered}
use Rattle.pl_init.specs.Lawful.{AreMembers}
use Rattle.pl_init.proofs.ListLaws.{all_members}
use Rattle.pl_init.proofs.text.order_text.Goals as goal

pub push_inits-requires : goal.push_inits-requires
push_inits-requires c = all_members (length (walked c.members-members.result.now)) c.args.order.now (subst (λ (w : Walked). AreMembers w c.args.order.now) (sym c.members-members.ensures.members) c.requires.order)

pub push_rows-requires : goal.push_rows-requires
push_rows-requires c = AllPass-from_list_all (is_numbered (length (walked c.members-members.result.now))) c.args.rows.now (ap (λ (w : Walked). list_all (is_numbered (length w)) c.args.rows.now) c.members-members.ensures.members ∙ c.requires.rows)
