-- Which programs start from the prelinked files as they stand.
use Rattle.std.specs.Prelude.{◌≡◌, ◌+◌, ◌^◌, ◌≤◌, ℕ, true, false, List, Option, None, Ok}
use Rattle.std.specs.List as lists
use Rattle.std.specs.FinMap.{get}
use Rattle.pl_base.specs.Files.{Files}
use Rattle.pl_batch.specs.Changes.{changes_of}
use Rattle.pl_batch.specs.Folder.{named}
use Rattle.pl_batch.specs.declared.prelinking.Prelinking.{Prelinking}
use Rattle.pl_batch.specs.declared.run.Run.TheVariants.{All}
use Rattle.pl_cli.specs.Demo.{is_fast}
use Rattle.pl_cli.specs.Files.{valid_file}
use Rattle.pl_cli.specs.Load.{load_result}
use Rattle.pl_conflict.specs.Complete.{file_at}
use Rattle.pl_conflict.specs.Format.{Causes, Rule, RuleAt, format}
use Rattle.pl_elf.specs.Headers.{loads}
use Rattle.pl_elf.specs.Kinds.{is_library}
use Rattle.pl_elf.specs.declared.range.Range.{Range}
use Rattle.pl_form.specs.Marks.{IsFormOf}
use Rattle.pl_form.specs.declared.file.Marked.{Marked}
use Rattle.pl_journal.specs.Meaning.{applied}
use Rattle.pl_journal.specs.declared.change.Change.{Change}
use Rattle.pl_cone.specs.Skipped.{skip_causes}
use Rattle.law_sound.specs.Rule.{is_marked, matches}
use Rattle.pl_words.specs.declared.command.Policy.{Policy}
use Rattle.law_demo.specs.Clear.{IsProgram, has_free_slots, keeps_off}

-- a program whose list tells the files of its walk, by every policy, where the rule holds at it and its libraries' slots are free
abbrev pub MatchedLoadsAreFast : Type 0 → Type 0
MatchedLoadsAreFast E = (causes : Causes E) (files : Files) (policy : Policy) (busy : Option Range) (name : List ℕ)
    → RuleAt causes (valid_file files) name → matches (format causes) (valid_file files) name ≡ true → IsProgram causes (valid_file files) name
    → has_free_slots causes (valid_file files) busy name ≡ true → is_fast (load_result policy busy files name) ≡ true

-- so each program that a run which prelinks everything leaves prelinked, of a folder that kept the rule
abbrev pub PrelinkedLoadsAreFast : Type 0
PrelinkedLoadsAreFast = (files after : Files) (p : Prelinking) (rows : List Change) (policy : Policy) (busy : Option Range) (name : List ℕ)
    → Rule skip_causes (named files) → changes_of files (All p) ≡ Ok rows → ((n : List ℕ) → get after n ≡ applied rows (get files) n)
    → is_marked (format skip_causes) (valid_file after) name ≡ true → IsProgram skip_causes (valid_file after) name
    → has_free_slots skip_causes (valid_file after) busy name ≡ true → is_fast (load_result policy busy after name) ≡ true

-- the slots are free where the program's file, as it stands after the run, keeps off the region of the slots
abbrev pub FilesOffTheRegionAreClear : Type 0
FilesOffTheRegionAreClear = (files after : Files) (p : Prelinking) (rows : List Change) (name : List ℕ)
    → Rule skip_causes (named files) → changes_of files (All p) ≡ Ok rows → ((n : List ℕ) → get after n ≡ applied rows (get files) n)
    → is_marked (format skip_causes) (valid_file after) name ≡ true → IsProgram skip_causes (valid_file after) name
    → keeps_off p.region (file_at (valid_file after) name) ≡ true → has_free_slots skip_causes (valid_file after) None name ≡ true

-- a file keeps off a region where it is the form of a program whose PT_LOADs end 8 GiB below it
abbrev pub LowProgramsKeepOff : Type 0
LowProgramsKeepOff = (file : List ℕ) (m : Marked) (region : Range) (low : ℕ) → IsFormOf file m → is_library m.object.kind ≡ false
    → lists.All (λ s. s.vaddr + s.memsz ≤ low) (loads m.object.segments) → low + 2 ^ 33 ≤ region.start → keeps_off region file ≡ true
