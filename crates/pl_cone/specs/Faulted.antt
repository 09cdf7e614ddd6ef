-- Why a run has no plan, as what it comes from means it.
use Rattle.std.specs.Prelude.{Bool, true, false}
use Rattle.pl_cone.specs.declared.skip.ConeFault.{ConeFault}
use Rattle.pl_cone.specs.declared.skip.ConeFault.TheVariants as cone
use Rattle.pl_cone.specs.declared.skip.PlanningFault.{PlanningFault}
use Rattle.pl_cone.specs.declared.skip.PlanningFault.TheVariants.{NoSlot, StampsSpent, NoMemory}
use Rattle.pl_slots.specs.declared.fault.PlanFault.{PlanFault}
use Rattle.pl_slots.specs.declared.fault.PlanFault.TheVariants as plan

abbrev pub is_memory : PlanningFault → Bool
is_memory NoMemory = true
is_memory (NoSlot _ _ _) = false
is_memory (StampsSpent _) = false

abbrev pub of_plan : PlanFault → PlanningFault
of_plan (plan.NoSlot n span hole) = NoSlot n span hole
of_plan plan.NoMemory = NoMemory

abbrev pub of_cone : ConeFault → PlanningFault
of_cone (cone.StampsSpent stamp) = StampsSpent stamp
of_cone cone.NoMemory = NoMemory
