-- The members of a candidate's walk are those of the plan, and so is the file that they prelink.
use Rattle.std.proofs.Common.{◌≡◌, ℕ, suc, Bool, true, false, List, [], ◌∷◌, map, Option, Some, Ok, refl, sym, ap, subst, ◌∙◌}
use Rattle.std.specs.Prelude.{◌&&◌, not, slice_get, if◌then◌else◌}
use Rattle.std.specs.List.{AllZip}
use Rattle.std.specs.Option.{option_map}
use Rattle.std.proofs.lemmas.Bool.{false≢true}
use Rattle.std.proofs.lemmas.Option.{slice_get-map}
use Rattle.pl_cone.specs.Plans as plans
use Rattle.pl_cone.specs.Plans.{slot_of}
use Rattle.pl_cone.specs.Skipped.{skip_causes}
use Rattle.pl_cone.specs.Table.{IsPlan, IsRunTable, is_candidate_row, planned_by}
use Rattle.pl_cone.specs.Taken.{files_in, is_library_entry, object_by}
use Rattle.pl_cone.specs.declared.planning.Asked.{Asked}
use Rattle.pl_cone.specs.declared.linking.Link.{Link}
use Rattle.pl_cone.specs.declared.planning.RowPlan.{RowPlan}
use Rattle.pl_cone.specs.declared.skip.Skip.{Skip}
use Rattle.pl_cone.specs.declared.taken.Taken.{Taken}
use Rattle.pl_cone.proofs.RowLaws.{IsRow, row_is}
use Rattle.pl_cone.proofs.WalkLaws.{library_entry}
use Rattle.pl_conflict.specs.Format.{format, number_of}
use Rattle.pl_conflict.specs.Prelinked.{Firm, prelinked}
use Rattle.pl_elf.specs.Kinds.{is_library}
use Rattle.pl_form.specs.Files.{original_in}
use Rattle.pl_form.specs.declared.version.Version.TheVariants.{Two}
use Rattle.pl_object.specs.declared.object.Object.{Object}
use Rattle.pl_scope.specs.Members.{names}
use Rattle.pl_scope.specs.Walk.{Walked}
use Rattle.law_sound.specs.Plan.{Plan, for_library, is_library_at, planned_member}
use Rattle.law_sound.specs.Rule as sound
use Rattle.law_sound.specs.Rule.{Member, mark_at, objects, of_walk, original_at, stamp_of}
use Rattle.pl_rewrite.specs.Changes as changes
use Rattle.pl_rewrite.specs.Rows.{IsFileMeant, IsFirmAt, IsWalkRow, firms_of, number_at, unless_none, walk_of}
use Rattle.pl_rewrite.specs.Sources.{members}
use Rattle.pl_rewrite.specs.declared.numbers.Numbered.{Numbered}
use Rattle.pl_rewrite.proofs.CandidateRowLaws.{candidate_flag, member_flag, table_with, walk_row, walk_told}
use Rattle.pl_rewrite.proofs.FirmRowLaws.{IsRowOf, firms_named, firms_zip, named_of, row_of}
use Rattle.pl_rewrite.proofs.LibraryAtLaws.{object_known}
use Rattle.pl_rewrite.proofs.VersionLaws.{all_in, begins_in, in_versions}

-- ---- one number

-- a file that is no library has 0
by_kind : (library : Bool) (number : ℕ) → (library ≡ false → number ≡ 0) → number ≡ (if library then number else 0)
by_kind true number none = refl
by_kind false number none = none refl

-- a stale name of the candidates is one that is not current
by_currency : (candidate current : Bool) (stamp old : ℕ) → candidate ≡ true → (if candidate && not current then stamp else old) ≡ (if current then old else stamp)
by_currency true true stamp old is = refl
by_currency true false stamp old is = refl
by_currency false current stamp old is = absurd (false≢true is)

abbrev member_with : List ℕ → List ℕ → ℕ → ℕ → Member
member_with name original slot stamp = record { name = name; original = original; version = number_of Two; slot = slot; stamp = stamp }

-- members with the same parts
same_member : (name original other : List ℕ) (slot place stamp time : ℕ) → original ≡ other → slot ≡ place → stamp ≡ time
    → member_with name original slot stamp ≡ member_with name other place time
same_member name original other slot place stamp time one two three =
    ap (λ (o : List ℕ). member_with name o slot stamp) one
    ∙ (ap (λ (s : ℕ). member_with name other s stamp) two
    ∙ ap (λ (s : ℕ). member_with name other place s) three)

module _ (n : Numbered) (links : List Link) (causes : List (Option Skip)) (a : Asked) (p : RowPlan) (is : IsRunTable a.region (table_with n links causes)) (plan : IsPlan (table_with n links causes) a p) (places : n.places.now ≡ p.places) (stamps : n.stamps.now ≡ p.stamps) where
  abbrev files : sound.Files
  files = files_in n.files.now

  abbrev run : plans.RunPlan
  run = planned_by (table_with n links causes) p

  abbrev numbers : Plan
  numbers = changes.numbers files a.region run

  abbrev planned : List ℕ → Member
  planned k = planned_member (format skip_causes) files numbers k

  -- ---- a member

  place_at : (row : ℕ) (x : Taken) → slice_get n.files.now row ≡ Some x → number_at n.places.now row ≡ slot_of p.slots x.name
  place_at row x at =
      ap (λ (ps : List ℕ). number_at ps row) (places ∙ plan.places)
      ∙ ap unless_none (slice_get-map (λ (y : Taken). slot_of p.slots y.name) n.files.now row ∙ ap (option_map (λ (y : Taken). slot_of p.slots y.name)) at)

  time_at : (row : ℕ) (x : Taken) → slice_get n.files.now row ≡ Some x → number_at n.stamps.now row ≡ plans.next_stamp files a.region p.slots p.stamp x.name
  time_at row x at =
      ap (λ (ps : List ℕ). number_at ps row) (stamps ∙ plan.stamps)
      ∙ ap unless_none (slice_get-map (λ (y : Taken). plans.next_stamp files a.region p.slots p.stamp y.name) n.files.now row ∙ ap (option_map (λ (y : Taken). plans.next_stamp files a.region p.slots p.stamp y.name)) at)

  slot_is : (row : ℕ) (x : Taken) (o : Object) → slice_get n.files.now row ≡ Some x → objects (format skip_causes) files x.name ≡ Ok o → is_library_entry x.entry ≡ is_library o.kind → number_at n.places.now row ≡ for_library (objects (format skip_causes) files x.name) (numbers.slot x.name)
  slot_is row x o at there kind =
      place_at row x at
      ∙ (by_kind (is_library o.kind) (slot_of p.slots x.name) (λ other. plan.programs row x at (kind ∙ other))
      ∙ sym (ap (λ (b : Bool). if b then slot_of p.slots x.name else 0) (ap is_library_at there)))

  stamp_is : (row : ℕ) (x : Taken) → slice_get n.files.now row ≡ Some x → plans.is_candidate files a.region x.name ≡ true → number_at n.stamps.now row ≡ for_library (objects (format skip_causes) files x.name) (numbers.stamp x.name)
  unfolding plans.next_stamp
  stamp_is row x at candidate =
      time_at row x at
      ∙ ap (λ (s : ℕ). if is_library_at (objects (format skip_causes) files x.name) then s else 0)
      (by_currency (plans.is_candidate files a.region x.name) (plans.is_current files a.region p.slots x.name) p.stamp (stamp_of (mark_at (format skip_causes) (files x.name))) candidate)

  member_is : (row : ℕ) (r : Firm) → is_candidate_row (table_with n links causes) row ≡ true → IsFirmAt n row r → r.member ≡ planned r.member.name
  member_is row r candidate at =
      let f : IsRowOf n row r = row_of n row r at in
      let x : Taken = f.taken in
      let known : IsRow a.region n.files.now x = row_is a.region n.files.now row x is.taken f.at in
      let there : objects (format skip_causes) files x.name ≡ Ok r.object = known.object ∙ object_known x.name x.entry r.object f.object in
      let flag : plans.is_candidate files a.region x.name ≡ true = sym (candidate_flag n links causes a is row x f.at) ∙ candidate in
      let original : original_in x.bytes ≡ original_at (format skip_causes) (files x.name) = sym (ap (original_at (format skip_causes)) known.file) in
      let kind : is_library_entry x.entry ≡ is_library r.object.kind = library_entry x.entry r.object f.object in
      let one = same_member x.name (original_in x.bytes) (original_at (format skip_causes) (files x.name)) (number_at n.places.now row) (for_library (objects (format skip_causes) files x.name) (numbers.slot x.name)) (number_at n.stamps.now row)
      (for_library (objects (format skip_causes) files x.name) (numbers.stamp x.name)) original (slot_is row x r.object f.at there kind) (stamp_is row x f.at flag) in
      subst (λ (y : Firm). y.member ≡ planned y.member.name) f.is one

  -- ---- all members

  members_are : (rows : List ℕ) (rs : List Firm) → AllZip (IsFirmAt n) rows rs → ((m k : ℕ) → slice_get rows m ≡ Some k → is_candidate_row (table_with n links causes) k ≡ true) → members (all_in Two rs) ≡ map planned (names (map named_of rs))
  members_are [] [] zip flags = refl
  members_are [] (r ∷ rs) zip flags = absurd zip
  members_are (row ∷ rows) [] zip flags = absurd zip
  members_are (row ∷ rows) (r ∷ rs) zip flags =
      let one : r.member ≡ planned r.member.name = member_is row r (flags 0 row refl) zip.0 in
      let same : member_with r.member.name r.member.original r.member.slot r.member.stamp ≡ planned r.member.name =
      same_member r.member.name r.member.original (planned r.member.name).original r.member.slot (planned r.member.name).slot r.member.stamp (planned r.member.name).stamp (ap (λ (m : Member). m.original) one) (ap (λ (m : Member). m.slot) one) (ap (λ (m : Member). m.stamp) one) in
      ap (λ (m : Member). m ∷ members (all_in Two rs)) same ∙ ap (λ (ms : List Member). planned r.member.name ∷ ms) (members_are rows rs zip.1 (λ m k at. flags (suc m) k at))

  -- ---- the file

  pub planned_is : (row : ℕ) (x : Taken) → is_candidate_row (table_with n links causes) row ≡ true → slice_get n.files.now row ≡ Some x → changes.prelinked files a.region run x.name ≡ prelinked (members (all_in Two (firms_of n row)))
  unfolding changes.prelinked
  planned_is row x candidate at =
      let walk : IsWalkRow n row = walk_row n links causes a is row candidate in
      let ms : members (all_in Two (firms_of n row)) ≡ map planned (names (map named_of (firms_of n row))) =
      members_are (walk_of n row) (firms_of n row) (firms_zip n row walk.rows) (λ m k there. member_flag n links causes a is row m k candidate there) in
      ap (of_walk (format skip_causes) planned) (walk_told n links causes a is row x candidate at)
      ∙ (ap (λ (ws : Walked). prelinked (map planned (names ws))) (sym (firms_named n row)) ∙ ap prelinked (sym ms))

  -- the file that is meant of its row
  pub meant_is : (row : ℕ) (x : Taken) (file : Option (List ℕ)) → is_candidate_row (table_with n links causes) row ≡ true → slice_get n.files.now row ≡ Some x → IsFileMeant n row Two file → file ≡ changes.prelinked files a.region run x.name
  meant_is row x file candidate at meant = meant (all_in Two (firms_of n row)) (in_versions Two (firms_of n row)) (begins_in Two (firms_of n row)) ∙ sym (planned_is row x candidate at)

  -- the slot and the stamp of a library
  pub library_numbers : (row : ℕ) (x : Taken) (o : Object) → is_candidate_row (table_with n links causes) row ≡ true → slice_get n.files.now row ≡ Some x → object_by x.entry ≡ Some o → is_library o.kind ≡ true
      → (number_at n.places.now row ≡ numbers.slot x.name) × (number_at n.stamps.now row ≡ numbers.stamp x.name)
  library_numbers row x o candidate at there library =
      let known : IsRow a.region n.files.now x = row_is a.region n.files.now row x is.taken at in
      let object : objects (format skip_causes) files x.name ≡ Ok o = known.object ∙ object_known x.name x.entry o there in
      let kind : is_library_at (objects (format skip_causes) files x.name) ≡ true = ap is_library_at object ∙ library in
      let flag : plans.is_candidate files a.region x.name ≡ true = sym (candidate_flag n links causes a is row x at) ∙ candidate in (
        slot_is row x o at object (library_entry x.entry o there) ∙ ap (λ (b : Bool). if b then numbers.slot x.name else 0) kind,
        stamp_is row x at flag ∙ ap (λ (b : Bool). if b then numbers.stamp x.name else 0) kind,
      )
