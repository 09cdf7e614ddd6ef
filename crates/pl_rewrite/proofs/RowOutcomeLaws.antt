-- The outcome of each row is what a run makes of its file.
use Rattle.std.proofs.Common.{◌≡◌, ℕ, ◌<◌, Bool, true, false, List, length, Option, Some, None, Ok, sym, ap, subst, ◌∙◌, arith, inl, inr}
use Rattle.std.specs.Prelude.{slice_get}
use Rattle.std.specs.List.{AllZip}
use Rattle.std.specs.Option.{option_map}
use Rattle.std.proofs.lemmas.Bool.{cases_Bool}
use Rattle.std.proofs.lemmas.List.{length-map}
use Rattle.std.proofs.lemmas.Option.{same_Some, slice_get-map, slice_get_within}
use Rattle.pl_cone.specs.Plans as plans
use Rattle.pl_cone.specs.Skipped.{skip_causes, skip_of}
use Rattle.pl_cone.specs.Table.{IsPlan, IsRunTable, is_candidate_row, planned_by}
use Rattle.pl_cone.specs.Taken.{entry_in, files_in, is_library_entry, marked_by, object_by, taken_of}
use Rattle.pl_cone.specs.declared.planning.Asked.{Asked}
use Rattle.pl_cone.specs.declared.linking.Link.{Link}
use Rattle.pl_cone.specs.declared.planning.RowPlan.{RowPlan}
use Rattle.pl_cone.specs.declared.skip.Skip.{Skip}
use Rattle.pl_cone.specs.declared.table.RunTable.{RunTable}
use Rattle.pl_cone.specs.declared.taken.Taken.{Taken}
use Rattle.pl_cone.proofs.CandidateLaws.{candidate_is}
use Rattle.pl_cone.proofs.NeedLaws.{slice_get_at}
use Rattle.pl_cone.proofs.RowLaws.{IsRow, row_is}
use Rattle.pl_cone.proofs.TakenLaws.{marked_read}
use Rattle.pl_cone.proofs.WalkLaws.{library_entry}
use Rattle.pl_conflict.specs.Format.{format}
use Rattle.pl_conflict.specs.Prelinked.{Firm, are_set}
use Rattle.pl_elf.specs.Kinds.{is_library}
use Rattle.pl_elf.specs.declared.range.Range.{Range}
use Rattle.pl_form.specs.Files.{marked_in}
use Rattle.pl_form.specs.declared.file.Marked.{Marked}
use Rattle.pl_form.specs.declared.version.Version.TheVariants.{Two}
use Rattle.pl_object.specs.declared.object.Object.{Object}
use Rattle.pl_journal.specs.declared.change.Change.{Change}
use Rattle.law_sound.specs.Rule as sound
use Rattle.law_sound.specs.Rule.{objects}
use Rattle.pl_rewrite.specs.Changes as changes
use Rattle.pl_rewrite.specs.Changes.{put}
use Rattle.pl_rewrite.specs.Contents.{conflicts_in}
use Rattle.pl_rewrite.specs.Libraries.{IsNew, storable_library}
use Rattle.pl_rewrite.specs.Outcomes.{IsMadeAt, IsOutcome, KeepsFile, MayBe, kept_by, made_by, renewed, made_in, made_original, made_with, too_large}
use Rattle.pl_rewrite.specs.Outcomes as spec
use Rattle.pl_rewrite.specs.Reports as reports
use Rattle.pl_rewrite.specs.Rows.{IsFirmAt, IsWalkRow, firm_by, firms_of, is_library_row, number_at, of_firm}
use Rattle.pl_rewrite.specs.declared.rewriting.Made.{Made}
use Rattle.pl_rewrite.specs.declared.numbers.Numbered.{Numbered}
use Rattle.pl_rewrite.specs.declared.outcomes.NewLibrary.{NewLibrary}
use Rattle.pl_rewrite.specs.declared.outcomes.NewProgram.{NewProgram}
use Rattle.pl_rewrite.specs.declared.outcomes.RowOutcome.{RowOutcome}
use Rattle.pl_rewrite.specs.declared.outcomes.RowOutcome.TheVariants as outcomes
use Rattle.pl_rewrite.specs.declared.rewriting.RowState.{RowState}
use Rattle.pl_rewrite.specs.declared.rewriting.RowState.TheVariants as states
use Rattle.pl_rewrite.proofs.CandidateRowLaws.{table_with, walk_row}
use Rattle.pl_rewrite.proofs.FirmRowLaws.{IsRowOf, row_of}
use Rattle.pl_rewrite.proofs.LibraryAtLaws.{object_known}
use Rattle.pl_rewrite.proofs.NewFileLaws.{library_in_version}
use Rattle.pl_rewrite.proofs.NewLaws.{library_state, program_state}
use Rattle.pl_rewrite.proofs.NewLibraryLaws.{IsFirst, first_is, library_firm}
use Rattle.pl_rewrite.proofs.OutcomeLaws.{by_cause, current_is, large_is, new_is, no_cause, skipped_is}
use Rattle.pl_rewrite.proofs.RowByRowLaws.{zip_each}
use Rattle.pl_rewrite.proofs.OriginalLaws.{no_mark}
use Rattle.pl_rewrite.proofs.PlannedFileLaws.{library_numbers, meant_is}
use Rattle.pl_rewrite.proofs.StaleRowLaws.{column, stale_candidate, stale_flag}
use Rattle.pl_rewrite.proofs.NewRowLaws.{library_firm_is, library_may, library_object}

entry_of : (region : Range) (ts : List Taken) (x : Taken) → IsRow region ts x → x.entry ≡ entry_in x.bytes
unfolding taken_of
entry_of region ts x known = ap (λ (t : Taken). t.entry) known.taken.is

-- ---- what is reported of a planned file

program_told : (files : sound.Files) (region : Range) (run : plans.RunPlan) (name bytes file : List ℕ) (o : Object) → files name ≡ Some bytes → objects (format skip_causes) files name ≡ Ok o → is_library o.kind ≡ false → Some file ≡ changes.prelinked files region run name
    → states.Program false (conflicts_in file) ≡ reports.state_in name false (marked_in file)
unfolding changes.prelinked
program_told files region run name bytes file o at there other new = program_state files (changes.numbers files region run) name bytes file o at there other new

library_reported : (files : sound.Files) (region : Range) (run : plans.RunPlan) (name bytes file : List ℕ) → files name ≡ Some bytes → is_library_entry (entry_in bytes) ≡ true → Some file ≡ changes.prelinked files region run name
    → states.Library false ((changes.numbers files region run).slot name) ((changes.numbers files region run).stamp name) ≡ reports.state_in name false (marked_in file)
unfolding changes.prelinked
library_reported files region run name bytes file at library new = library_state files (changes.numbers files region run) name bytes file at library new

same_state : (slot place stamp time : ℕ) → slot ≡ place → stamp ≡ time → states.Library false slot stamp ≡ states.Library false place time
same_state slot place stamp time first second = ap (λ (s : ℕ). states.Library false s stamp) first ∙ ap (λ (s : ℕ). states.Library false place s) second

-- the object of a row's member is its file's
row_object : (n : Numbered) (row : ℕ) (x : Taken) (r : Firm) → slice_get n.files.now row ≡ Some x → IsFirmAt n row r → object_by x.entry ≡ Some r.object
row_object n row x r at is =
    let f : IsRowOf n row r = row_of n row r is in
    ap (λ (y : Taken). object_by y.entry) (same_Some x f.taken (sym at ∙ f.at)) ∙ f.object

abbrev make : Option Change → RowState → Bool → Made
make change state given = record { change = change; state = state; given = given }

module _ (n : Numbered) (links : List Link) (causes : List (Option Skip)) (a : Asked) (p : RowPlan) (stale : List Bool) (is : IsRunTable a.region (table_with n links causes)) (plan : IsPlan (table_with n links causes) a p) (places : n.places.now ≡ p.places) (stamps : n.stamps.now ≡ p.stamps)
    (flags : stale ≡ p.stale) where
  abbrev files : sound.Files
  files = files_in n.files.now

  abbrev run : plans.RunPlan
  run = planned_by (table_with n links causes) p

  -- what the run makes of the file
  abbrev meant : Taken → Made
  meant x = made_in files a.region run x.name

  known : (row : ℕ) (x : Taken) → slice_get n.files.now row ≡ Some x → IsRow a.region n.files.now x
  known row x at = row_is a.region n.files.now row x is.taken at

  -- ---- a stale file

  named_stale : (row : ℕ) (x : Taken) → slice_get n.files.now row ≡ Some x → spec.is_stale stale row ≡ true → plans.is_stale files a.region p.slots x.name ≡ true
  named_stale row x at on = sym (stale_flag n links causes a p stale is plan flags row x at) ∙ on

  candidate : (row : ℕ) → spec.is_stale stale row ≡ true → is_candidate_row (table_with n links causes) row ≡ true
  candidate row on = stale_candidate n links causes a p stale is plan flags row on

  -- one that is too large
  large_made : (row : ℕ) (x : Taken) → slice_get n.files.now row ≡ Some x → spec.is_stale stale row ≡ true → None ≡ changes.prelinked files a.region run x.name → made_original x (too_large x) ≡ meant x
  large_made row x at on none = sym (large_is files a.region run x.name x.bytes (known row x at).file (named_stale row x at on) none)

  -- one that has the file that is planned
  planned_made : (row : ℕ) (x : Taken) (file : List ℕ) (state : RowState) → slice_get n.files.now row ≡ Some x → spec.is_stale stale row ≡ true → Some file ≡ changes.prelinked files a.region run x.name → state ≡ reports.state_in x.name false (marked_in file)
      → make (put (Some x.bytes) x.name (Some file)) state true ≡ meant x
  planned_made row x file state at on new told =
      ap (λ (s : RowState). make (put (Some x.bytes) x.name (Some file)) s true) told ∙ sym (new_is files a.region run x.name x.bytes (known row x at).file file (named_stale row x at on) new)

  program_made : (row : ℕ) (x : Taken) (made : NewProgram) → slice_get n.files.now row ≡ Some x → spec.is_stale stale row ≡ true → is_library_row n row ≡ false → made.conflicts ≡ conflicts_in made.file.items → Some made.file.items ≡ changes.prelinked files a.region run x.name
      → renewed x made.file.items (states.Program false made.conflicts) ≡ meant x
  program_made row x made at on other rows new =
      let walk : IsWalkRow n row = walk_row n links causes a is row (candidate row on) in
      let first : IsFirst n row = first_is n row walk in
      let there : object_by x.entry ≡ Some first.firm.object = row_object n row x first.firm at first.at in
      let object : objects (format skip_causes) files x.name ≡ Ok first.firm.object = (known row x at).object ∙ object_known x.name x.entry first.firm.object there in
      let kind : is_library first.firm.object.kind ≡ false = sym (ap (of_firm false (λ (r : Firm). is_library r.object.kind)) first.at) ∙ other in
      let state : states.Program false made.conflicts ≡ reports.state_in x.name false (marked_in made.file.items) =
      ap (λ (count : ℕ). states.Program false count) rows ∙ program_told files a.region run x.name x.bytes made.file.items first.firm.object (known row x at).file object kind new in
      planned_made row x made.file.items (states.Program false made.conflicts) at on new state

  -- the file of a new library is the one that is planned
  library_file_is : (row : ℕ) (x : Taken) (parts : NewLibrary) → slice_get n.files.now row ≡ Some x → spec.is_stale stale row ≡ true → is_library_row n row ≡ true → are_set (firms_of n row) ≡ true → IsNew n row parts
      → storable_library x parts Two ≡ changes.prelinked files a.region run x.name
  library_file_is row x parts at on library set new =
      meant_is n links causes a p is plan places stamps row x (storable_library x parts Two) (candidate row on) at (library_in_version n row x parts Two (walk_row n links causes a is row (candidate row on)) library set at new)

  -- its numbers are the planned ones
  library_told : (row : ℕ) (x : Taken) (parts : NewLibrary) (o : Object) → slice_get n.files.now row ≡ Some x → spec.is_stale stale row ≡ true → object_by x.entry ≡ Some o → is_library o.kind ≡ true → parts.slot ≡ number_at n.places.now row → parts.stamp ≡ number_at n.stamps.now row
      → states.Library false parts.slot parts.stamp ≡ states.Library false ((changes.numbers files a.region run).slot x.name) ((changes.numbers files a.region run).stamp x.name)
  library_told row x parts o at on there kind slot stamp =
      let numbers = library_numbers n links causes a p is plan places stamps row x o (candidate row on) at there kind in
      same_state parts.slot ((changes.numbers files a.region run).slot x.name) parts.stamp ((changes.numbers files a.region run).stamp x.name) (slot ∙ numbers.0) (stamp ∙ numbers.1)

  library_entry_is : (row : ℕ) (x : Taken) (o : Object) → slice_get n.files.now row ≡ Some x → object_by x.entry ≡ Some o → is_library o.kind ≡ true → is_library_entry (entry_in x.bytes) ≡ true
  library_entry_is row x o at there kind = ap is_library_entry (sym (entry_of a.region n.files.now x (known row x at))) ∙ (library_entry x.entry o there ∙ kind)

  library_made_with : (row : ℕ) (x : Taken) (parts : NewLibrary) (file : Option (List ℕ)) → slice_get n.files.now row ≡ Some x → spec.is_stale stale row ≡ true → is_library_row n row ≡ true → IsNew n row parts → file ≡ changes.prelinked files a.region run x.name → made_with x parts file ≡ meant x
  library_made_with row x parts None at on library new none = large_made row x at on none
  library_made_with row x parts (Some file) at on library new some =
      let there : object_by x.entry ≡ Some new.firm.object = library_object n row x parts at new in
      let kind : is_library new.firm.object.kind ≡ true = library_firm n row new.firm new.at library in
      let firm : new.firm ≡ firm_by n row x new.firm.object = sym (library_firm_is n row x parts at new) in
      let slot : parts.slot ≡ number_at n.places.now row = new.slot ∙ ap (λ (r : Firm). r.member.slot) firm in
      let stamp : parts.stamp ≡ number_at n.stamps.now row = new.stamp ∙ ap (λ (r : Firm). r.member.stamp) firm in
      let state : states.Library false parts.slot parts.stamp ≡ reports.state_in x.name false (marked_in file) =
      library_told row x parts new.firm.object at on there kind slot stamp
      ∙ library_reported files a.region run x.name x.bytes file (known row x at).file (library_entry_is row x new.firm.object at there kind) some in
      planned_made row x file (states.Library false parts.slot parts.stamp) at on some state

  pub stale_outcome : (row : ℕ) (x : Taken) (o : RowOutcome) → slice_get n.files.now row ≡ Some x → spec.is_stale stale row ≡ true → IsMadeAt n row o → IsOutcome files a.region run x o
  stale_outcome row x (outcomes.Unchanged state) at on made = absurd made
  stale_outcome row x (outcomes.Original cause) at on made =
      let none : None ≡ changes.prelinked files a.region run x.name = meant_is n links causes a p is plan places stamps row x None (candidate row on) at made.1 in
      record { may = tt; meant = ap (made_original x) (made.0 x at) ∙ large_made row x at on none }
  stale_outcome row x (outcomes.Program program) at on made =
      let new : Some program.file.items ≡ changes.prelinked files a.region run x.name = meant_is n links causes a p is plan places stamps row x (Some program.file.items) (candidate row on) at made.1.0 in
      record { may = tt; meant = program_made row x program at on made.0 made.1.1 new }
  stale_outcome row x (outcomes.Library parts) at on made =
      record {
        may = library_may n row x parts at made.1.1;
        meant = library_made_with row x parts (storable_library x parts Two) at on made.0 made.1.1 (library_file_is row x parts at on made.0 made.1.0 made.1.1);
      }

  -- ---- a file that is not stale

  cause_at : (row : ℕ) (x : Taken) (c : Option Skip) → slice_get n.files.now row ≡ Some x → slice_get causes row ≡ Some c → plans.cause_of (skip_of files a.region x.name) ≡ c
  cause_at row x c at told =
      same_Some (plans.cause_of (skip_of files a.region x.name)) c
      (sym (ap (λ (cs : List (Option Skip)). slice_get cs row) is.causes
      ∙ (slice_get-map (λ (y : Taken). plans.cause_of (skip_of files a.region y.name)) n.files.now row ∙ ap (option_map (λ (y : Taken). plans.cause_of (skip_of files a.region y.name))) at)) ∙ told)

  fresh_made : (row : ℕ) (x : Taken) (c : Option Skip) (m : Option Marked) → slice_get n.files.now row ≡ Some x → slice_get causes row ≡ Some c → spec.is_stale stale row ≡ false → marked_in x.bytes ≡ m → made_by x (kept_by x c m) ≡ meant x
  fresh_made row x (Some cause) m at told off mark = sym (skipped_is files a.region run x.name x.bytes (known row x at).file cause (by_cause (skip_of files a.region x.name) cause (cause_at row x (Some cause) at told)))
  fresh_made row x None None at told off mark =
      let ok : plans.is_candidate files a.region x.name ≡ true = candidate_is a.region files x.name ∙ no_cause (skip_of files a.region x.name) (cause_at row x None at told) in
      let fresh : plans.is_stale files a.region p.slots x.name ≡ false = sym (stale_flag n links causes a p stale is plan flags row x at) ∙ off in
      ap (λ (change : Option Change). make change (states.Skipped (too_large x)) false) (no_mark x mark)
      ∙ (ap (λ (k : Option Marked). make None (reports.state_in x.name true k) false) (sym mark)
      ∙ sym (current_is files a.region run x.name x.bytes (known row x at).file ok fresh))
  fresh_made row x None (Some m) at told off mark =
      let ok : plans.is_candidate files a.region x.name ≡ true = candidate_is a.region files x.name ∙ no_cause (skip_of files a.region x.name) (cause_at row x None at told) in
      let fresh : plans.is_stale files a.region p.slots x.name ≡ false = sym (stale_flag n links causes a p stale is plan flags row x at) ∙ off in
      ap (λ (k : Option Marked). make None (reports.state_in x.name true k) false) (sym mark)
      ∙ sym (current_is files a.region run x.name x.bytes (known row x at).file ok fresh)

  kept_may : (x : Taken) (c : Option Skip) (m : Option Marked) → MayBe x (kept_by x c m)
  kept_may x (Some cause) m = tt
  kept_may x None None = tt
  kept_may x None (Some m) = tt

  pub fresh_outcome : (row : ℕ) (x : Taken) (c : Option Skip) (o : RowOutcome) → slice_get n.files.now row ≡ Some x → slice_get causes row ≡ Some c → spec.is_stale stale row ≡ false → KeepsFile x c o → IsOutcome files a.region run x o
  fresh_outcome row x c o at told off keeps =
      let mark : marked_by x.entry ≡ marked_in x.bytes = marked_read x (entry_of a.region n.files.now x (known row x at)) in
      let made : made_by x (kept_by x c (marked_by x.entry)) ≡ meant x = fresh_made row x c (marked_by x.entry) at told off (sym mark) in
      subst (IsOutcome files a.region run x) (sym keeps) (record { may = kept_may x c (marked_by x.entry); meant = made })

  -- ---- each row

  pub each_outcome : (row : ℕ) (x : Taken) (c : Option Skip) (made : Option RowOutcome) (o : RowOutcome) → slice_get n.files.now row ≡ Some x → slice_get causes row ≡ Some c → spec.IsIf (spec.is_stale stale row) (IsMadeAt n row) made → spec.IsOutcomeFor x c made o → IsOutcome files a.region run x o
  each_outcome row x c made o at told if_stale so = elim (cases_Bool (spec.is_stale stale row)) [
    | inl on ↦ made_stale row x c made o at on (subst (λ (b : Bool). spec.IsIf b (IsMadeAt n row) made) on if_stale) so
    | inr off ↦ made_fresh row x c made o at told off (subst (λ (b : Bool). spec.IsIf b (IsMadeAt n row) made) off if_stale) so
  ]
    where
      made_stale : (row : ℕ) (x : Taken) (c : Option Skip) (made : Option RowOutcome) (o : RowOutcome) → slice_get n.files.now row ≡ Some x → spec.is_stale stale row ≡ true → spec.IsIf true (IsMadeAt n row) made → spec.IsOutcomeFor x c made o → IsOutcome files a.region run x o
      made_stale row x c None o at on given is_for = absurd given
      made_stale row x c (Some m) o at on given is_for = subst (IsOutcome files a.region run x) (sym is_for) (stale_outcome row x m at on given)

      made_fresh : (row : ℕ) (x : Taken) (c : Option Skip) (made : Option RowOutcome) (o : RowOutcome) → slice_get n.files.now row ≡ Some x → slice_get causes row ≡ Some c → spec.is_stale stale row ≡ false → made ≡ None → spec.IsOutcomeFor x c made o → IsOutcome files a.region run x o
      made_fresh row x c made o at told off none is_for = fresh_outcome row x c o at told off (subst (λ (m : Option RowOutcome). spec.IsOutcomeFor x c m o) none is_for)

  pub rows_are : (made : List (Option RowOutcome)) (os : List RowOutcome) → spec.AreMade n stale made → spec.AreAll n.files.now causes made os → AllZip (IsOutcome files a.region run) n.files.now os
  rows_are made os are all =
      let told : length causes ≡ length n.files.now = ap length is.causes ∙ length-map n.files.now (λ (x : Taken). plans.cause_of (skip_of files a.region x.name)) in
      let each_flag : length stale ≡ length n.files.now = (column n links causes a p stale is plan flags).count in
      zip_each (IsOutcome files a.region run) n.files.now os all.count (λ i x o at there.
      let lt : i < length n.files.now = slice_get_within n.files.now i x at in
      let c = slice_get_at causes i (omega (arith, lt, told)) in
      let m = slice_get_at made i (omega (arith, lt, are.count, each_flag)) in
      each_outcome i x c.0 m.0 o at c.1 (are.each i m.0 m.1) (all.each i x c.0 m.0 o at c.1 m.1 there))

-- ---- a table whose columns are lent

abbrev pub with_walks : RunTable → List (List ℕ) → RunTable
with_walks t walks = record { files = t.files; walks = walks; index = t.index; links = t.links; causes = t.causes }

pub table_again : (region : Range) (t : RunTable) (walks : List (List ℕ)) → walks ≡ t.walks → IsRunTable region t → IsRunTable region (with_walks t walks)
table_again region t walks same is =
    let again : IsRunTable region (with_walks t t.walks) = record { taken = is.taken; walks = is.walks; index = is.index; sized = is.sized; links = is.links; causes = is.causes } in
    subst (λ (ws : List (List ℕ)). IsRunTable region (with_walks t ws)) (sym same) again

pub plan_again : (t : RunTable) (walks : List (List ℕ)) (a : Asked) (p : RowPlan) → IsPlan t a p → IsPlan (with_walks t walks) a p
plan_again t walks a p plan = record { places = plan.places; programs = plan.programs; stale = plan.stale; stamps = plan.stamps }
