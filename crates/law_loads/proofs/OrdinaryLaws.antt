-- The answers of a weave's loaders.
use Rattle.std.proofs.Common.{subst}
use Rattle.pl_conflict.specs.Format.{is_fast}
use Rattle.law_loads.specs.LoadingFolder.{loading_folder}
use Rattle.pl_rewrite.specs.Skipped.{skip_causes}
use Rattle.law_loads.specs.Paths.{SameAnswer, ordinary_load}
use Rattle.law_loads.proofs.LoadingFolderLaws.{gives_given, rule_given}
use Rattle.law_loads.proofs.HistoryLaws.{rule_held}
use Rattle.law_loads.proofs.ImageLaws.{loads_are_ordinary}
use Rattle.pl_loader.specs.Given.{given_from}
use Rattle.pl_weave.proofs.LedLaws.{finished_are_loads}
use Rattle.pl_weave.proofs.WovenLaws.{woven_are_led}
use Rattle.law_loads.specs.Weaves.{WeavesAreOrdinary}
use Rattle.law_loads.proofs.HistoryLemmas.{woven_have_a_history}

pub weaves_are_ordinary : {E : Type 0} → WeavesAreOrdinary E
weaves_are_ordinary choose files names runs events k name o rule past named there done taken fault file seen gives has =
    let h = woven_have_a_history choose files names runs events rule past in
    let led = woven_are_led choose files names runs events k name o named there in
    let held = rule_held skip_causes h.now h.past h.last taken h.happened (λ n bytes is. h.held k o n bytes there (seen n bytes is)) in
    subst (λ answer. SameAnswer answer (ordinary_load (is_fast skip_causes (loading_folder choose taken name) name) choose o.load.busy fault (given_from choose fault file name) name)) (finished_are_loads o choose fault file name led done has)
    (loads_are_ordinary skip_causes (loading_folder choose taken name) choose o.load.busy fault (given_from choose fault file name) name (gives_given choose taken fault file name gives) (rule_given skip_causes choose taken name (held name)))
