use Rattle.std.proofs.Common.{◌≡◌, take}
use Rattle.std.specs.List.{flat_map}
use Rattle.pl_script.specs.Script.{events_of, loads_of, runs_of}
use Rattle.pl_script.proofs.script.gather.Given as goal

abbrev pub invariant-loop-line : goal.invariant-loop-line
invariant-loop-line l = record {
  loads : l.script.loads ≡ flat_map loads_of (take l.line-index l.lines);
  runs : l.script.runs ≡ flat_map runs_of (take l.line-index l.lines);
  events : l.script.events ≡ flat_map events_of (take l.line-index l.lines);
}
