use Rattle.std.proofs.Common.{refl, sym, ◌∙◌}
use Rattle.pl_scope.specs.Scope.{objects}
use Rattle.pl_conflict.proofs.OwnLaws.{own_none, own_put}
use Rattle.pl_conflict.proofs.own.own_word_by.Goals as goal

pub returns-then-lacks_definer : goal.returns-then-lacks_definer
returns-then-lacks_definer c =
    sym (own_none (objects c.args.scope.now) c.args.places.now c.args.reloc.now c.args.found c.requires.found (sym c.is_of_start.ensures ∙ c.if-is_of_start.false) (sym c.lacks_definer.ensures ∙ c.if-lacks_definer.true))

pub returns : goal.returns
returns c =
    let own = own_put (objects c.args.scope.now) c.args.places.now c.args.reloc.now c.args.found c.requires.found (sym c.is_of_start.ensures ∙ c.if-is_of_start.false) (sym c.lacks_definer.ensures ∙ c.if-lacks_definer.false) in
    rw (own, c.put_in.ensures, c.word_of.ensures) refl
