-- Loads of a sound folder.
use Rattle.std.proofs.Common.{ap}
use Rattle.std.specs.FinMap.{get}
use Rattle.pl_rewrite.specs.Skipped.{skip_causes}
use Rattle.pl_cli.specs.Answer.{text_answer}
use Rattle.pl_safe.proofs.AnswerLaws.{answers_are_ordinary}
use Rattle.law_folder.proofs.SoundLemmas.{sound_keep}
use Rattle.pl_safe.proofs.TextLaws.{weaves_print_ordinary}
use Rattle.pl_safe.specs.Laws.{SoundLoadsAreOrdinary, SoundWeavesAreOrdinary}

pub loads_ordinary : SoundLoadsAreOrdinary
loads_ordinary files input name busy policy sound = answers_are_ordinary skip_causes files input name busy policy (λ m. sound_keep (get files) sound name m)

pub weaves_ordinary : SoundWeavesAreOrdinary
weaves_ordinary files input sound past = ap text_answer (weaves_print_ordinary input files (sound_keep (get files) sound) past)
