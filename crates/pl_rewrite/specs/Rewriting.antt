-- A whole run: what it changes, the cache that it leaves, and what it reports.
use Rattle.std.specs.Prelude.{ℕ, if◌then◌else◌, List, map, Result, Ok}
use Rattle.std.specs.List.{AllZip, list_any}
use Rattle.pl_base.specs.Answers.{◌>>=◌}
use Rattle.pl_cone.specs.Taken.{AreTaken, files_in}
use Rattle.pl_cone.specs.declared.taken.Taken.{Taken}
use Rattle.pl_cone.specs.declared.planning.Asked.{Asked}
use Rattle.pl_cone.specs.declared.skip.PlanningFault.{PlanningFault}
use Rattle.pl_cone.specs.Plans.{RunPlan, planned}
use Rattle.law_sound.specs.Rule.{Files}
use Rattle.pl_elf.specs.declared.range.Range.{Range}
use Rattle.pl_rewrite.specs.Changes.{changes, is_given, next_cache}
use Rattle.pl_cone.specs.declared.planning.RowPlan.{RowPlan}
use Rattle.pl_rewrite.specs.Outcomes.{IsOutcome, planned_of}
use Rattle.pl_rewrite.specs.Reports.{report, row_of}
use Rattle.pl_rewrite.specs.declared.outcomes.RowOutcome.{RowOutcome}
use Rattle.pl_rewrite.specs.declared.rewriting.MadeFiles.{MadeFiles}
use Rattle.pl_rewrite.specs.declared.rewriting.Rewritten.{Rewritten}

abbrev pub rewritten : Files → List (List ℕ) → Asked → RunPlan → Rewritten
rewritten files ns a p = record {
  rows = changes files ns a.region p;
  cache = next_cache files ns a.region a.last p;
  report = report files ns a.region p;
}

-- with what is made of all files, and the cache that is left
abbrev pub rewritten_with : Asked → RunPlan → MadeFiles → Rewritten
rewritten_with a p all = record {
  rows = all.rows;
  cache = record { last = if all.given then p.stamp else a.last; rows = p.slots };
  report = record { rows = all.states };
}

-- by the plan, or the first cause why there is none
unfoldable pub rewrite : Files → List (List ℕ) → Asked → Result Rewritten PlanningFault
rewrite files ns a = planned files ns a >>= λ p. Ok (rewritten files ns a p)

-- what a run makes of all files, beside its cache
abbrev pub run_made : Files → List (List ℕ) → Range → RunPlan → MadeFiles
run_made files ns region p = record {
  rows = changes files ns region p;
  states = map (row_of files region p) ns;
  given = list_any (is_given files region p) ns;
}

-- what is made of each of these files by its outcome is what the run makes of it
pub record AreDecided (ts : List Taken) (a : Asked) (p : RowPlan) (os : List RowOutcome) : Type 0 where
  pub taken : AreTaken a.region ts
  pub each : AllZip (IsOutcome (files_in ts) a.region (planned_of ts a p)) ts os
