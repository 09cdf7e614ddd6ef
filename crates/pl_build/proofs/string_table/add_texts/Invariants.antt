use Rattle.std.proofs.Common.{◌≡◌, drop}
use Rattle.std.specs.List.{fold}
use Rattle.pl_build.specs.StringTable.{text_added, texts_added}
use Rattle.pl_build.proofs.string_table.add_texts.Given as goal

abbrev pub invariant-loop-text : goal.invariant-loop-text
invariant-loop-text l = fold text_added l.strings (drop l.text-index l.texts) ≡ texts_added l.fn.strings l.texts
