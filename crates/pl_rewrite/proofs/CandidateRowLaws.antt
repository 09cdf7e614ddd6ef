-- The rows of names that may be prelinked: their walks, and the members that these are.
use Rattle.std.proofs.Common.{◌≡◌, ℕ, zero, suc, true, List, [], ◌∷◌, length, map, Option, Some, Result, Ok, Err, refl, sym, ap, subst, ◌∙◌, arith}
use Rattle.std.specs.Prelude.{slice_get}
use Rattle.std.specs.List.{AllZip, IsDistinct}
use Rattle.std.specs.Option.{option_map}
use Rattle.std.specs.Result.{is_ok}
use Rattle.std.specs.Str.{bytes_eq}
use Rattle.std.proofs.lemmas.List.{length-map}
use Rattle.std.proofs.lemmas.Option.{same_Some, slice_get-map}
use Rattle.std.proofs.lemmas.Slice.Zip.{AllZip-long}
use Rattle.pl_base.specs.Bytes.{IsBytes}
use Rattle.pl_cone.specs.Plans as plans
use Rattle.pl_cone.specs.Skipped.{skip_causes, skip_of}
use Rattle.pl_cone.specs.Skips.{of_walk}
use Rattle.pl_cone.specs.Table.{AreRows, IsLinkBy, IsPlan, IsRunTable, has_no_cause, is_candidate_row, walked_by}
use Rattle.pl_cone.specs.Taken.{files_in}
use Rattle.pl_cone.specs.WalkRows.{IsCandidateRow}
use Rattle.pl_cone.specs.declared.planning.Asked.{Asked}
use Rattle.pl_cone.specs.declared.linking.Link.{Link}
use Rattle.pl_cone.specs.declared.planning.RowPlan.{RowPlan}
use Rattle.pl_cone.specs.declared.skip.Skip.{Skip}
use Rattle.pl_cone.specs.declared.table.RunTable.{RunTable}
use Rattle.pl_cone.specs.declared.taken.Taken.{Taken}
use Rattle.pl_cone.proofs.CandidateLaws.{candidate_is}
use Rattle.pl_cone.proofs.CurrencyLaws.{all_by_index}
use Rattle.pl_cone.proofs.RowLaws.{IsRow, row_is}
use Rattle.pl_cone.proofs.SoundCandidateLaws.{IsSound, sound_is}
use Rattle.pl_cone.proofs.WalkRowLaws.{candidate_known, candidate_rows, member_candidate}
use Rattle.pl_conflict.specs.Format.{format}
use Rattle.pl_conflict.specs.Prelinked.{Firm, firm_of}
use Rattle.pl_form.specs.Files.{original_in}
use Rattle.pl_object.specs.declared.object.Object.{Object}
use Rattle.pl_scope.specs.Members.{names}
use Rattle.pl_scope.proofs.WalkedLaws.{limit_is, walk_distinct}
use Rattle.law_sound.specs.Rule as sound
use Rattle.pl_rewrite.specs.Rows.{AreDigests, IsFirmAt, IsNumbered, IsWalkRow, firm_by, firms_of, walk_of}
use Rattle.pl_rewrite.specs.RowWords.{IsLinkAt}
use Rattle.pl_rewrite.specs.Sources.{AreSources, member_names}
use Rattle.pl_rewrite.specs.declared.numbers.Numbered.{Numbered}
use Rattle.pl_rewrite.proofs.FirmRowLaws.{IsRowOf, firm_index, firms_named, firms_zip, named_of, row_of}
use Rattle.pl_rewrite.proofs.FormLaws.{IsOriginal, firm_member, firm_nowhere, no_fault, original_bytes, original_is}
use Rattle.pl_rewrite.proofs.LibraryAtLaws.{object_known}

-- the table of numbered files
abbrev pub table_with : Numbered → List Link → List (Option Skip) → RunTable
table_with n links causes = record { files = n.files; walks = n.walks.now; index = n.index.now; links = links; causes = causes }

-- ---- columns

no_cause_is : (r : Result (Unit {0}) Skip) → has_no_cause (Some (plans.cause_of r)) ≡ is_ok r
no_cause_is (Ok u) = refl
no_cause_is (Err e) = refl

pub names_are : (rs : List Firm) → names (map named_of rs) ≡ member_names rs
names_are [] = refl
names_are (r ∷ rs) = ap (λ (ns : List (List ℕ)). r.member.name ∷ ns) (names_are rs)

abbrev pub IsItself : Firm → Type 0
IsItself r = firm_of r.member ≡ Some r

module _ (n : Numbered) (links : List Link) (causes : List (Option Skip)) (a : Asked) (is : IsRunTable a.region (table_with n links causes)) where
  abbrev t : RunTable
  t = table_with n links causes

  -- a row is a candidate where the name of its file may be prelinked
  pub candidate_flag : (row : ℕ) (x : Taken) → slice_get n.files.now row ≡ Some x → is_candidate_row t row ≡ plans.is_candidate (files_in n.files.now) a.region x.name
  candidate_flag row x at =
      let r : Result (Unit {0}) Skip = skip_of (files_in n.files.now) a.region x.name in
      let cause : slice_get causes row ≡ Some (plans.cause_of r) =
      ap (λ (cs : List (Option Skip)). slice_get cs row) is.causes
      ∙ (slice_get-map (λ (y : Taken). plans.cause_of (skip_of (files_in n.files.now) a.region y.name)) n.files.now row ∙ ap (option_map (λ (y : Taken). plans.cause_of (skip_of (files_in n.files.now) a.region y.name))) at) in
      ap has_no_cause cause ∙ (no_cause_is r ∙ sym (candidate_is a.region (files_in n.files.now) x.name))

  -- its member has a form
  candidate_firm : (row : ℕ) (r : Firm) → is_candidate_row t row ≡ true → IsFirmAt n row r → IsItself r
  candidate_firm row r candidate at =
      let f : IsRowOf n row r = row_of n row r at in
      let x : Taken = f.taken in
      let o : Object = r.object in
      let known : IsRow a.region n.files.now x = row_is a.region n.files.now row x is.taken f.at in
      let there : sound.objects (format skip_causes) (files_in n.files.now) x.name ≡ Ok o = known.object ∙ object_known x.name x.entry o f.object in
      let own : IsOriginal (original_in x.bytes) o = original_is x.name (original_in x.bytes) o (sym (ap (sound.object_at (format skip_causes) x.name) known.file) ∙ there) in
      let bytes : IsBytes (original_in x.bytes) = original_bytes x.bytes known.taken.bytes in
      let flag : plans.is_candidate (files_in n.files.now) a.region x.name ≡ true = sym (candidate_flag row x f.at) ∙ candidate in
      let s : IsSound a.region (files_in n.files.now) x.name o = sound_is a.region (files_in n.files.now) x.name o there flag in
      let fault = rw known.file at s.fault in
      let made : IsItself (firm_by n row x o) = firm_member (firm_by n row x o).member o bytes own s.dynamic (firm_nowhere o a.region (no_fault a.region (original_in x.bytes) o own fault)) in
      subst IsItself f.is made

  -- the rows of its walk are candidates
  pub member_flag : (row m k : ℕ) → is_candidate_row t row ≡ true → slice_get (walk_of n row) m ≡ Some k → is_candidate_row t k ≡ true
  member_flag row m k candidate at =
      let c : IsCandidateRow t row = candidate_known a.region t is row candidate in
      by_index row m k candidate c (ap (λ (ks : List ℕ). slice_get ks m) (sym (candidate_rows a.region t is row c)) ∙ at)
    where
      by_index : (row m k : ℕ) → is_candidate_row t row ≡ true → (c : IsCandidateRow t row) → slice_get (row ∷ c.own.others) m ≡ Some k → is_candidate_row t k ≡ true
      by_index row zero k candidate c at = subst (λ (i : ℕ). is_candidate_row t i ≡ true) (same_Some row k at) candidate
      by_index row (suc m) k candidate c at = member_candidate a.region t is row (suc m) k candidate c (omega arith) at

  rows_are : (row : ℕ) → (c : IsCandidateRow t row) → AreRows n.files.now (walk_of n row)
  rows_are row c = subst (AreRows n.files.now) (sym (candidate_rows a.region t is row c)) c.own.rows

  told : (row : ℕ) → (c : IsCandidateRow t row) → sound.walk_in (format skip_causes) (files_in n.files.now) c.own.taken.name ≡ Ok (walked_by n.files.now (walk_of n row))
  told row c = c.own.told ∙ ap (λ (ks : List ℕ). Ok (walked_by n.files.now ks)) (sym (candidate_rows a.region t is row c))

  sources : (row : ℕ) → is_candidate_row t row ≡ true → (c : IsCandidateRow t row) → AreSources (firms_of n row)
  sources row candidate c =
      let rows : AreRows n.files.now (walk_of n row) = rows_are row c in
      let zip : AllZip (IsFirmAt n) (walk_of n row) (firms_of n row) = firms_zip n row rows in
      let long : length (firms_of n row) ≡ length (walk_of n row) = AllZip-long (IsFirmAt n) (walk_of n row) (firms_of n row) zip in
      let distinct : IsDistinct bytes_eq (names (walked_by n.files.now (walk_of n row))) =
      walk_distinct of_walk (sound.objects (format skip_causes) (files_in n.files.now)) c.own.taken.name (walked_by n.files.now (walk_of n row)) (told row c) in
      record {
        few = omega (arith, long, rows.few, limit_is);
        firm = all_by_index IsItself (firms_of n row) (λ i r at.
            let k = firm_index n (walk_of n row) (firms_of n row) i r zip at in
            candidate_firm k.0 r (member_flag row i k.0 candidate k.1) k.2);
        distinct = subst (IsDistinct bytes_eq) (ap names (sym (firms_named n row)) ∙ names_are (firms_of n row)) distinct;
      }

  pub walk_row : (row : ℕ) → is_candidate_row t row ≡ true → IsWalkRow n row
  walk_row row candidate =
      let c : IsCandidateRow t row = candidate_known a.region t is row candidate in
      record {
        others = c.own.others;
        is = candidate_rows a.region t is row c;
        rows = rows_are row c;
        sources = sources row candidate c;
      }

  -- what the relocations of its file find
  pub link_at : (row : ℕ) (l : Link) → is_candidate_row t row ≡ true → slice_get links row ≡ Some l → IsLinkAt n row l
  link_at row l candidate at =
      let c : IsCandidateRow t row = candidate_known a.region t is row candidate in
      record {
        walk = walk_row row candidate;
        by = subst (λ (ks : List ℕ). IsLinkBy n.files.now n.index.now ks l) (sym (candidate_rows a.region t is row c)) (c.links l at);
      }

  -- its walk by its name
  pub walk_told : (row : ℕ) (x : Taken) → is_candidate_row t row ≡ true → slice_get n.files.now row ≡ Some x → sound.walk_in (format skip_causes) (files_in n.files.now) x.name ≡ Ok (walked_by n.files.now (walk_of n row))
  walk_told row x candidate at =
      let c : IsCandidateRow t row = candidate_known a.region t is row candidate in
      let same : c.own.taken ≡ x = same_Some c.own.taken x (sym c.own.file ∙ at) in
      subst (λ (y : Taken). sound.walk_in (format skip_causes) (files_in n.files.now) y.name ≡ Ok (walked_by n.files.now (walk_of n row))) same (told row c)

  -- ---- numbers

  pub numbered_is : (p : RowPlan) → IsPlan t a p → n.places.now ≡ p.places → n.stamps.now ≡ p.stamps → AreDigests n.files.now n.digests.now → IsNumbered n
  numbered_is p plan places stamps digests = record {
    taken = (a.region, is.taken);
    walks = is.walks;
    index = is.index;
    places = ap length places ∙ (ap length plan.places ∙ length-map n.files.now (λ (x : Taken). plans.slot_of p.slots x.name));
    stamps = ap length stamps ∙ (ap length plan.stamps ∙ length-map n.files.now (λ (x : Taken). plans.next_stamp (files_in n.files.now) a.region p.slots p.stamp x.name));
    digests = digests;
  }
