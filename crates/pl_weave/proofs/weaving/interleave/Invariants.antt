use Rattle.std.proofs.Common.{◌≡◌, [], map, take}
use Rattle.std.specs.Prelude.{fold}
use Rattle.pl_base.specs.Files.{files_of}
use Rattle.pl_weave.specs.Opening.{opened}
use Rattle.pl_weave.specs.Running.{IsWeaving, policies}
use Rattle.pl_weave.specs.Runs.{begun}
use Rattle.pl_weave.specs.Weaving.{after}
use Rattle.pl_weave.proofs.weaving.interleave.Given as goal

abbrev pub invariant-loop-event : goal.invariant-loop-event
invariant-loop-event g l =
    (policies l.weave ≡ map (λ name. l.placer) l.names)
    × IsWeaving (goal.F-post g l.placer) l.weave l.running (λ choose. fold (after choose) (record { loaders = map (opened tt) l.names; runs = begun (files_of l.files) [] l.runs }) (take l.event-index l.events))
