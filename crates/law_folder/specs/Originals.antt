-- The originals of a folder's files, and what commands do to them.
use Rattle.std.specs.Prelude.{◌≡◌, ℕ, Bool, cond, List, Option, Some}
use Rattle.std.specs.Option.{option_map}
use Rattle.pl_folder.specs.Disk.{Name, View, same}
use Rattle.pl_form.specs.Files.{original_in}
use Rattle.pl_journal.specs.Meaning.{applied, mixed}
use Rattle.pl_journal.specs.declared.change.Change.{Change}
use Rattle.pl_batch.specs.declared.run.Run.{Run}
use Rattle.pl_batch.specs.declared.run.Run.TheVariants.{All, UndoAll, Undo, Install}
use Rattle.law_folder.specs.Sound.{named}

-- the original of the file under each valid name
abbrev pub originals : View → Name → Option (List ℕ)
originals v n = option_map original_in (named v n)

abbrev pub SameOriginals : View → View → Type 0
SameOriginals v w = (n : Name) → originals v n ≡ originals w n

-- the same, but that one name has this original, or none
abbrev pub HasOriginal : Name → Option (List ℕ) → View → View → Type 0
HasOriginal name original old new = (n : Name) → originals new n ≡ cond (same n name) original (originals old n)

-- Prelinking and undoing leave each name its original, whichever of their changes are made. What is installed has its own.
abbrev pub HasOriginals : Run → List Change → View → Type 0
HasOriginals (All asked) rows v = (keep : ℕ → Bool) → SameOriginals (mixed 0 rows keep v) v
HasOriginals UndoAll rows v = (keep : ℕ → Bool) → SameOriginals (mixed 0 rows keep v) v
HasOriginals (Undo names) rows v = (keep : ℕ → Bool) → SameOriginals (mixed 0 rows keep v) v
HasOriginals (Install name bytes) rows v = HasOriginal name (Some (original_in bytes)) v (applied rows v)
