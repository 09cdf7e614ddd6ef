use Rattle.std.proofs.Common.{List, Bool, [], sym, subst, ◌∙◌}
use Rattle.pl_init.specs.Flags.{IsTable}
use Rattle.pl_init.proofs.RelationLaws.{order_is}
use Rattle.pl_init.proofs.TableLaws.{no_cells}
use Rattle.pl_init.proofs.orders.order.Goals as goal

pub flag_rows-requires-clause-none : goal.flag_rows-requires-clause-none
flag_rows-requires-clause-none c = subst (λ (cells : List Bool). IsTable cells []) (sym (c.deref_mut.ensures.value ∙ c.in_ok-cells.ensures.items_if_clones_equal (λ y e. e))) no_cells

pub returns-clause-printed : goal.returns-clause-printed
returns-clause-printed c = (order_is c.args.scope.now c.args.reach.now.rows _ c.requires.walk c.requires.right (rw (← (c.of-table.ensures ∙ c.as_slice.ensures), ← c.count.ensures.count) c.in_ok-ordered.ensures)).printed

pub returns-clause-lawful : goal.returns-clause-lawful
returns-clause-lawful c = (order_is c.args.scope.now c.args.reach.now.rows _ c.requires.walk c.requires.right (rw (← (c.of-table.ensures ∙ c.as_slice.ensures), ← c.count.ensures.count) c.in_ok-ordered.ensures)).lawful
