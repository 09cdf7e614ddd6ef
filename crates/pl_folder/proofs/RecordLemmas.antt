-- A call more that a folder in memory has had.
use Rattle.std.proofs.Common.{◌≡◌, List, [], ◌∷◌, ◌++◌, ℕ, refl, sym, ap, subst, ◌∙◌, true}
use Rattle.std.specs.Prelude.{Vec, is_some}
use Rattle.std.specs.declared.alloc.Global.{Global}
use Rattle.std.specs.FinMap.{get, remove}
use Rattle.pl_base.specs.Files.{Files}
use Rattle.pl_folder.specs.declared.call.Call.{Call}
use Rattle.pl_folder.specs.declared.call.Call.TheVariants.{Nothing, Create, Append, Firm, Rename, Remove, Settle}
use Rattle.pl_folder.specs.declared.memory_folder.MemoryFolder.{MemoryFolder}
use Rattle.pl_folder.specs.declared.name.Name.{Name}
use Rattle.pl_folder.specs.Disk.{Disk, State, after}
use Rattle.pl_folder.specs.Effects.{files_after_append, files_after_create, files_after_rename}
use Rattle.pl_folder.specs.Entries.{name_bytes}
use Rattle.pl_folder.specs.InMemory.{folder_disk, folder_files}
use Rattle.pl_folder.specs.Kept.{IsKept}
use Rattle.pl_folder.specs.Replay.{replay, step_of}
use Rattle.pl_folder.specs.States as state
use Rattle.pl_folder.specs.Tables.{started_with}
use Rattle.pl_folder.proofs.KeptLemmas.{kept_appended, kept_created, kept_firmed, kept_removed, kept_renamed, kept_settled}

pub replay_push : (calls : List Call) (call : Call) (d : Disk) → replay (calls ++ call ∷ []) d ≡ after (step_of call (replay calls d).now) (replay calls d)
replay_push [] call d = refl
replay_push (c ∷ calls) call d = replay_push calls call (after (step_of c d.now) d)

-- the disk after it
pub disk_after : (old mid : MemoryFolder) (call : Call) (calls : List Call) → calls ≡ mid.past.items ++ call ∷ [] → mid.past ≡ old.past → mid.first ≡ old.first
    → replay calls (started_with mid.first) ≡ after (step_of call (folder_disk old).now) (folder_disk old)
disk_after old mid call calls pushed past first =
    ap (λ l. replay l (started_with mid.first)) pushed
    ∙ replay_push mid.past.items call (started_with mid.first)
    ∙ (λ i. after (step_of call (replay (past i).items (started_with (first i))).now) (replay (past i).items (started_with (first i))))

-- what is read is what the disk reads
pub kept_after : (folder : MemoryFolder) (call : Call) (calls : List Call) (files : Files) → calls ≡ folder.past.items ++ call ∷ [] → IsKept files (step_of call (folder_disk folder).now) → IsKept files (replay calls (started_with folder.first)).now
kept_after folder call calls files pushed kept = subst (λ (d : Disk). IsKept files d.now) (sym (disk_after folder folder call calls pushed refl refl)) kept

module _ (folder : MemoryFolder) (files : Files) (name : List ℕ) (text : Name) (named : name_bytes text ≡ name) where
  pub create_kept : files ≡ files_after_create (folder_files folder) name → IsKept files (step_of (Create text) (folder_disk folder).now)
  create_kept is = subst (λ f. IsKept f (state.created (name_bytes text) (folder_disk folder).now)) (sym is)
      (subst (λ n. IsKept (files_after_create (folder_files folder) name) (state.created n (folder_disk folder).now)) (sym named) (kept_created (folder_files folder) (folder_disk folder).now name folder.kept))

  pub append_kept : (more : Vec ℕ Global) (bytes : List ℕ) → more.items ≡ bytes → is_some (get (folder_files folder) name) ≡ true → files ≡ files_after_append (folder_files folder) name bytes → IsKept files (step_of (Append text more) (folder_disk folder).now)
  append_kept more bytes same there is = subst (λ f. IsKept f (state.appended (name_bytes text) more.items (folder_disk folder).now)) (sym is)
      (subst (λ n. IsKept (files_after_append (folder_files folder) name bytes) (state.appended n more.items (folder_disk folder).now)) (sym named)
      (subst (λ b. IsKept (files_after_append (folder_files folder) name bytes) (state.appended name b (folder_disk folder).now)) (sym same)
      (kept_appended (folder_files folder) (folder_disk folder).now name folder.kept bytes there)))

  pub firm_kept : IsKept (folder_files folder) (step_of (Firm text) (folder_disk folder).now)
  firm_kept = subst (λ n. IsKept (folder_files folder) (state.firmed n (folder_disk folder).now)) (sym named) (kept_firmed (folder_files folder) (folder_disk folder).now name folder.kept)

  pub rename_kept : (to : List ℕ) (other : Name) → name_bytes other ≡ to → is_some (get (folder_files folder) name) ≡ true → files ≡ files_after_rename (folder_files folder) name to → IsKept files (step_of (Rename text other) (folder_disk folder).now)
  rename_kept to other other_named there is = subst (λ f. IsKept f (state.renamed (name_bytes text) (name_bytes other) (folder_disk folder).now)) (sym is)
      (subst (λ n. IsKept (files_after_rename (folder_files folder) name to) (state.renamed n (name_bytes other) (folder_disk folder).now)) (sym named)
      (subst (λ n. IsKept (files_after_rename (folder_files folder) name to) (state.renamed name n (folder_disk folder).now)) (sym other_named)
      (kept_renamed (folder_files folder) (folder_disk folder).now name to folder.kept there)))

  pub remove_kept : files ≡ remove (folder_files folder) name → IsKept files (step_of (Remove text) (folder_disk folder).now)
  remove_kept is = subst (λ f. IsKept f (state.removed (name_bytes text) (folder_disk folder).now)) (sym is)
      (subst (λ n. IsKept (remove (folder_files folder) name) (state.removed n (folder_disk folder).now)) (sym named) (kept_removed (folder_files folder) (folder_disk folder).now name folder.kept))

pub settle_kept : (folder : MemoryFolder) → IsKept (folder_files folder) (step_of Settle (folder_disk folder).now)
settle_kept folder = kept_settled (folder_files folder) (folder_disk folder).now [] folder.kept
