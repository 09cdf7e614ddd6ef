use Rattle.std.proofs.Common.{rules, ◌≡◌, false}
use Rattle.std.specs.Str.{bytes_eq}
use Rattle.pl_journal.specs.Names.{cache}
use Rattle.pl_journal.proofs.NameLemmas.{not_cache}
use Rattle.pl_journal.proofs.reading.row_text.Goals as goal

pub returns : goal.returns
returns c =
    let missed : bytes_eq c.args.name.now cache ≡ false = search rules in
    rw (not_cache c.args.name.now missed) c.valid_text.ensures
