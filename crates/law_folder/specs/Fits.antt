-- The rows of every command fit a journal.
use Rattle.std.specs.Prelude.{◌≡◌, ℕ, true, List, Ok}
use Rattle.pl_base.specs.Files.{Files}
use Rattle.pl_base.specs.Names.{is_valid_name}
use Rattle.pl_journal.specs.declared.change.Change.{Change}
use Rattle.pl_batch.specs.Changes.{changes_by}
use Rattle.pl_change.specs.Changes.{fitting}
use Rattle.pl_change.specs.Replace.{put_fitting}
use Rattle.pl_change.specs.Store.{put, removed}
use Rattle.pl_batch.specs.declared.run.Run.{Run}

-- no run is refused because its rows would not,
abbrev pub RunsFit : Type 0
RunsFit = (files : Files) (run : Run) (rows : List Change) → changes_by files run ≡ Ok rows → fitting rows ≡ Ok rows

-- nor is a removal
abbrev pub RemovalsFit : Type 0
RemovalsFit = (files : Files) (name : List ℕ) (rows : List Change) → removed files name ≡ Ok rows → fitting rows ≡ Ok rows

-- nor is a name that gets other bytes
abbrev pub ReplacementsFit : Type 0
ReplacementsFit = (files : Files) (name bytes : List ℕ) → is_valid_name name ≡ true → put_fitting files name bytes ≡ Ok (put files name bytes)
