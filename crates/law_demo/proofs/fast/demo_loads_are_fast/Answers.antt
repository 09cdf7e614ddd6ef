use Rattle.law_demo.proofs.DemoLaws.{demo_fast, programs_ready}
use Rattle.law_demo.proofs.fast.demo_loads_are_fast.Goals as goal

pub returns-clause-ready : goal.returns-clause-ready
returns-clause-ready c = programs_ready

pub returns-clause-fast : goal.returns-clause-fast
returns-clause-fast c = demo_fast
