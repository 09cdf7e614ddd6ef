-- The file that the members of a walk prelink at the versions, slots and stamps that their files bear.
use Rattle.std.proofs.Common.{◌≡◌, ℕ, zero, suc, ◌<◌, ◌≤◌, Bool, true, false, List, [], ◌∷◌, length, map, Option, Some, None, Result, Ok, Err, refl, sym, ap, subst, ◌∙◌, arith, inl, inr}
use Rattle.std.specs.Prelude.{◌&&◌, is_some, slice_get}
use Rattle.std.specs.List.{AllZip, IsDistinct, list_all}
use Rattle.std.specs.Option.{option_and_then, option_map}
use Rattle.std.specs.Str.{bytes_eq}
use Rattle.std.proofs.lemmas.Bool.{and_left, and_parts, cases_Bool, false≢true, true≢false}
use Rattle.std.proofs.lemmas.Option.{none-some, same_Some, slice_get-map, slice_get_within}
use Rattle.std.proofs.lemmas.Slice.Zip.{AllZip-long}
use Rattle.pl_base.specs.Bytes.{IsBytes}
use Rattle.pl_cone.specs.Skipped.{skip_causes}
use Rattle.pl_cone.specs.Skips.{of_walk}
use Rattle.pl_cone.specs.Table.{AreRows, AreWalks, IsWalkOfFile, refusal_of, refusals_in, rows_in, walk_for, walked_by}
use Rattle.pl_cone.specs.Taken.{AreTaken, entry_in, files_in, marked_by, object_by, taken_of}
use Rattle.pl_cone.specs.WalkRows.{HasOwnWalk}
use Rattle.pl_cone.specs.declared.skip.Skip.{Skip}
use Rattle.pl_cone.specs.declared.taken.Taken.{Taken}
use Rattle.pl_cone.proofs.CurrencyLaws.{all_by_index}
use Rattle.pl_cone.proofs.NeedLaws.{slice_get_at}
use Rattle.pl_cone.proofs.RowLaws.{IsRow, row_is}
use Rattle.pl_cone.proofs.TakenLaws.{marked_read}
use Rattle.pl_cone.proofs.WalkLaws.{refusal_at, walk_some}
use Rattle.pl_cone.proofs.WalkRowLaws.{own_walk_read}
use Rattle.pl_conflict.specs.Format.{format, mark_of, number_of}
use Rattle.pl_conflict.specs.Prelinked.{Firm, all_firm, are_set, file_of, firm_of, has_numbers, is_version, of_firm, prelinked, stored, with_object}
use Rattle.pl_conflict.proofs.MemberLaws.{firms_zip}
use Rattle.pl_elf.specs.Kinds.{is_static}
use Rattle.pl_elf.specs.declared.range.Range.{Range}
use Rattle.pl_form.specs.Back.{when}
use Rattle.pl_form.specs.Faults.{form_fault, no_region}
use Rattle.pl_form.specs.Files.{are_bytes, marked_in, original_in}
use Rattle.pl_form.specs.Marks.{IsFormOf}
use Rattle.pl_form.specs.Reading.{firm_object}
use Rattle.pl_form.specs.declared.file.Entry.{Entry}
use Rattle.pl_form.specs.declared.file.Entry.TheVariants.{There, BadMark, Refused}
use Rattle.pl_form.specs.declared.file.File.TheVariants as kinds
use Rattle.pl_form.specs.declared.file.Marked.{Marked}
use Rattle.pl_form.specs.declared.version.Version.{Version}
use Rattle.pl_form.proofs.FilesLaws.{nothing_else_is_read}
use Rattle.pl_object.specs.declared.object.Object.{Object}
use Rattle.pl_scope.specs.Members.{names}
use Rattle.pl_scope.specs.Walk.{Walked}
use Rattle.pl_scope.proofs.WalkedLaws.{limit_is, walk_distinct}
use Rattle.law_sound.specs.Rule as sound
use Rattle.law_sound.specs.Rule.{Mark, Member, mark_at, member_at, original_at}
use Rattle.pl_rewrite.specs.Rows.{IsFileMeant, IsFirmAt, IsNumbered, IsWalkRow, firm_by, firms_of, number_at, unless_none, walk_of}
use Rattle.pl_rewrite.specs.Sources.{AreSources, AreVersionsOf, BeginsIn, members, versioned}
use Rattle.pl_cone.specs.Currency.{old_stamp, stamp_by}
use Rattle.pl_rewrite.specs.Verify.{are_marked, is_marked_at, prelinked_in, slot_borne, slot_by}
use Rattle.pl_rewrite.specs.declared.numbers.Numbered.{Numbered}
use Rattle.pl_rewrite.proofs.CandidateRowLaws.{IsItself, names_are}
use Rattle.pl_rewrite.proofs.FirmLaws.{version_is}
use Rattle.pl_rewrite.proofs.FirmRowLaws as rows_of_firms
use Rattle.pl_rewrite.proofs.FirmRowLaws.{IsRowOf, firm_index, firms_named, named_of, row_of}
use Rattle.pl_rewrite.proofs.FormLaws.{IsOriginal, firm_member, original_bytes, original_is}
use Rattle.pl_rewrite.proofs.LibraryAtLaws.{object_known}
use Rattle.pl_rewrite.proofs.NumberedLaws.{has_walk, walk_is}
use Rattle.pl_rewrite.proofs.ProgramRowLaws.{zip_there}
use Rattle.pl_rewrite.proofs.VerifyLaws.{original_read}

-- ---- rows and their tests

test_at : {X : Type 0} (q : X → Bool) (xs : List X) (i : ℕ) (x : X) → list_all q xs ≡ true → slice_get xs i ≡ Some x → q x ≡ true
test_at q [] i x all at = absurd (none-some x at)
test_at {X = X} q (y ∷ xs) zero x all at = subst (λ (z : X). q z ≡ true) (same_Some y x at) (and_parts (q y) (list_all q xs) all).0
test_at q (y ∷ xs) (suc i) x all at = test_at q xs i x (and_parts (q y) (list_all q xs) all).1 at

-- the first that fails
record IsFailed (X : Type 0) (q : X → Bool) (xs : List X) : Type 0 where
  index : ℕ
  item : X
  at : slice_get xs index ≡ Some item
  fails : q item ≡ false

first_failed : {X : Type 0} (q : X → Bool) (xs : List X) → list_all q xs ≡ false → IsFailed X q xs
first_failed q [] none = absurd (true≢false none)
first_failed q (x ∷ xs) none = elim (cases_Bool (q x)) [
  | inl passes ↦
      let later = first_failed q xs (sym (ap (λ (b : Bool). b && list_all q xs) passes) ∙ none) in
      record { index = suc later.index; item = later.item; at = later.at; fails = later.fails }
  | inr fails ↦ record { index = 0; item = x; at = refl; fails = fails }
]

entry_of : (region : Range) (ts : List Taken) (x : Taken) → IsRow region ts x → x.entry ≡ entry_in x.bytes
unfolding taken_of
entry_of region ts x known = ap (λ (t : Taken). t.entry) known.taken.is

-- ---- a prelinked file

mark_object : (e : Entry) (m : Marked) → marked_by e ≡ Some m → object_by e ≡ Some m.object
mark_object (There (kinds.Plain x)) m is = absurd (none-some m is)
mark_object (There (kinds.Marked k)) m is = ap (λ (y : Marked). Some y.object) (same_Some k m is)
mark_object BadMark m is = absurd (none-some m is)
mark_object (Refused number argument) m is = absurd (none-some m is)

mark_there : (o : Option Taken) (t : Taken) → o ≡ Some t → is_some (option_and_then (λ (x : Taken). marked_by x.entry) o) ≡ true → (m : Marked) × (marked_by t.entry ≡ Some m)
mark_there o t at on = by_mark (marked_by t.entry) refl (ap (λ (x : Option Taken). is_some (option_and_then (λ (y : Taken). marked_by y.entry) x)) (sym at) ∙ on)
  where
    by_mark : (k : Option Marked) → marked_by t.entry ≡ k → is_some (marked_by t.entry) ≡ true → (m : Marked) × (marked_by t.entry ≡ Some m)
    by_mark None is on = absurd (false≢true (ap is_some (sym is) ∙ on))
    by_mark (Some m) is on = (m, is)

-- the file of a row is prelinked, and this is its mark
record IsMarkedRow (n : Numbered) (region : Range) (k : ℕ) (r : Firm) : Type 0 where
  row : IsRowOf n k r
  known : IsRow region n.files.now row.taken
  mark : Marked
  marked : marked_by row.taken.entry ≡ Some mark
  form : IsFormOf row.taken.bytes mark
  object : r.object ≡ mark.object
  original : original_in row.taken.bytes ≡ mark.original

marked_row : (n : Numbered) (region : Range) (k : ℕ) (r : Firm) → AreTaken region n.files.now → IsFirmAt n k r → is_marked_at n.files.now k ≡ true → IsMarkedRow n region k r
marked_row n region k r taken at on =
    let f : IsRowOf n k r = row_of n k r at in
    let known : IsRow region n.files.now f.taken = row_is region n.files.now k f.taken taken f.at in
    let m = mark_there (slice_get n.files.now k) f.taken f.at on in
    let read : marked_in f.taken.bytes ≡ Some m.0 = sym (marked_read f.taken (entry_of region n.files.now f.taken known)) ∙ m.1 in
    record {
      row = f;
      known = known;
      mark = m.0;
      marked = m.1;
      form = nothing_else_is_read f.taken.bytes m.0 read;
      object = same_Some r.object m.0.object (sym f.object ∙ mark_object f.taken.entry m.0 m.1);
      original = original_read f.taken.bytes m.0 read;
    }

-- so its member has a form
marked_firm : (n : Numbered) (region : Range) (k : ℕ) (r : Firm) → AreTaken region n.files.now → IsFirmAt n k r → is_marked_at n.files.now k ≡ true → IsItself r
marked_firm n region k r taken at on =
    let x : IsMarkedRow n region k r = marked_row n region k r taken at on in
    let t : Taken = x.row.taken in
    let there : sound.objects (format skip_causes) (files_in n.files.now) t.name ≡ Ok r.object = x.known.object ∙ object_known t.name t.entry r.object x.row.object in
    let own : IsOriginal (original_in t.bytes) r.object = original_is t.name (original_in t.bytes) r.object (sym (ap (sound.object_at (format skip_causes) t.name) x.known.file) ∙ there) in
    let bytes : IsBytes (original_in t.bytes) = original_bytes t.bytes x.known.taken.bytes in
    let dynamic : is_static r.object.kind ≡ false = ap (λ (o : Object). is_static o.kind) x.object ∙ x.form.firm.dynamic in
    let fault : form_fault r.object no_region ≡ Ok tt = ap (λ (o : Object). form_fault o no_region) x.object ∙ x.form.firm.firm in
    let made : IsItself (firm_by n k t r.object) = firm_member (firm_by n k t r.object).member r.object bytes own dynamic fault in
    subst IsItself x.row.is made

-- ---- a walk all of whose files are prelinked

walk_there : (n : Numbered) (region : Range) (row first : ℕ) (others : List ℕ) → AreTaken region n.files.now → AreWalks n.files.now (record { walks = n.walks.now; causes = refusals_in n.files.now }) → walk_of n row ≡ first ∷ others → HasOwnWalk n.files.now n.walks.now row
walk_there n region row first others taken are is = own_walk_read region n.files.now n.walks.now row first others taken are is

marked_sources : (n : Numbered) (row : ℕ) → IsNumbered n → (h : HasOwnWalk n.files.now n.walks.now row) → walk_of n row ≡ row ∷ h.others → are_marked n.files.now (walk_of n row) ≡ true → AreSources (firms_of n row)
marked_sources n row numbered h is all =
    let rows : AreRows n.files.now (walk_of n row) = subst (AreRows n.files.now) (sym is) h.rows in
    let zip : AllZip (IsFirmAt n) (walk_of n row) (firms_of n row) = rows_of_firms.firms_zip n row rows in
    let long : length (firms_of n row) ≡ length (walk_of n row) = AllZip-long (IsFirmAt n) (walk_of n row) (firms_of n row) zip in
    let told : sound.walk_in (format skip_causes) (files_in n.files.now) h.taken.name ≡ Ok (walked_by n.files.now (walk_of n row)) = h.told ∙ ap (λ (ks : List ℕ). Ok (walked_by n.files.now ks)) (sym is) in
    let distinct : IsDistinct bytes_eq (names (walked_by n.files.now (walk_of n row))) =
    walk_distinct of_walk (sound.objects (format skip_causes) (files_in n.files.now)) h.taken.name (walked_by n.files.now (walk_of n row)) told in
    record {
      few = omega (arith, long, rows.few, limit_is);
      firm = all_by_index IsItself (firms_of n row) (λ i r at.
          let k = firm_index n (walk_of n row) (firms_of n row) i r zip at in
          marked_firm n numbered.taken.0 k.0 r numbered.taken.1 k.2 (test_at (is_marked_at n.files.now) (walk_of n row) i k.0 all k.1));
      distinct = subst (IsDistinct bytes_eq) (ap names (sym (firms_named n row)) ∙ names_are (firms_of n row)) distinct;
    }

pub marked_walk : (n : Numbered) (row : ℕ) → IsNumbered n → are_marked n.files.now (walk_of n row) ≡ true → 1 ≤ length (walk_of n row) → IsWalkRow n row
marked_walk n row numbered all some = by_walk (walk_of n row) refl some
  where
    by_walk : (ks : List ℕ) → walk_of n row ≡ ks → 1 ≤ length ks → IsWalkRow n row
    by_walk [] is some = absurd (omega (arith, some))
    by_walk (first ∷ others) is some =
        let h : HasOwnWalk n.files.now n.walks.now row = walk_there n numbered.taken.0 row first others numbered.taken.1 numbered.walks is in
        let own : walk_of n row ≡ row ∷ h.others = ap rows_in h.walk in
        record { others = h.others; is = own; rows = subst (AreRows n.files.now) (sym own) h.rows; sources = marked_sources n row numbered h own all }

-- ---- in the versions that the files bear

abbrev version_by : Option Marked → ℕ
version_by None = 0
version_by (Some m) = number_of m.version

abbrev version_at : Numbered → ℕ → ℕ
version_at n k = version_by (option_and_then (λ (x : Taken). marked_by x.entry) (slice_get n.files.now k))

abbrev borne : Numbered → List ℕ → List Firm → List Firm
borne n [] rs = []
borne n (k ∷ ks) [] = []
borne n (k ∷ ks) (r ∷ rs) = versioned (version_at n k) r ∷ borne n ks rs

version_told : (n : Numbered) (k : ℕ) (t : Taken) (m : Marked) → slice_get n.files.now k ≡ Some t → marked_by t.entry ≡ Some m → version_at n k ≡ number_of m.version
version_told n k t m at is = ap (λ (o : Option Taken). version_by (option_and_then (λ (x : Taken). marked_by x.entry) o)) at ∙ ap version_by is

borne_versions : (n : Numbered) (region : Range) (ks : List ℕ) (rs : List Firm) → AreTaken region n.files.now → AllZip (IsFirmAt n) ks rs → list_all (is_marked_at n.files.now) ks ≡ true → AreVersionsOf rs (borne n ks rs)
borne_versions n region [] [] taken zip all = tt
borne_versions n region [] (r ∷ rs) taken zip all = absurd zip
borne_versions n region (k ∷ ks) [] taken zip all = absurd zip
borne_versions n region (k ∷ ks) (r ∷ rs) taken zip all =
    let on = and_parts (is_marked_at n.files.now k) (list_all (is_marked_at n.files.now) ks) all in
    let x : IsMarkedRow n region k r = marked_row n region k r taken zip.0 on.0 in
    let told : is_version (version_at n k) ≡ true = ap is_version (version_told n k x.row.taken x.mark x.row.at x.marked) ∙ version_is x.mark.version in
    ((version_at n k, told, refl), borne_versions n region ks rs taken zip.1 on.1)

-- ---- the members

abbrev member_with : List ℕ → List ℕ → ℕ → ℕ → ℕ → Member
member_with name original version slot stamp = record { name = name; original = original; version = version; slot = slot; stamp = stamp }

same_parts : (name original other : List ℕ) (version number slot place stamp time : ℕ) → original ≡ other → version ≡ number → slot ≡ place → stamp ≡ time → member_with name original version slot stamp ≡ member_with name other number place time
same_parts name original other version number slot place stamp time one two three four =
    ap (λ (o : List ℕ). member_with name o version slot stamp) one
    ∙ (ap (λ (v : ℕ). member_with name other v slot stamp) two
    ∙ (ap (λ (s : ℕ). member_with name other number s stamp) three
    ∙ ap (λ (s : ℕ). member_with name other number place s) four))

begins_borne : (n : Numbered) (row : ℕ) (others : List ℕ) (version : Version) (ks : List ℕ) (rs : List Firm) → ks ≡ row ∷ others → version_at n row ≡ number_of version → BeginsIn version (borne n ks rs)
begins_borne n row others version [] rs is first = tt
begins_borne n row others version (k ∷ ks) [] is first = tt
begins_borne n row others version (k ∷ ks) (r ∷ rs) is first =
    let same : k ≡ row = cc in
    ap (version_at n) same ∙ first

-- ---- a member whose file is not prelinked

unmarked_at : (ts : List Taken) (k : ℕ) (t : Taken) → slice_get ts k ≡ Some t → is_marked_at ts k ≡ false → marked_by t.entry ≡ None
unmarked_at ts k t at off = by_mark (marked_by t.entry) refl (ap (λ (x : Option Taken). is_some (option_and_then (λ (y : Taken). marked_by y.entry) x)) (sym at) ∙ off)
  where
    by_mark : (m : Option Marked) → marked_by t.entry ≡ m → is_some (marked_by t.entry) ≡ false → marked_by t.entry ≡ None
    by_mark None is off = is
    by_mark (Some m) is off = absurd (true≢false (ap is_some (sym is) ∙ off))

member_there : (member : List ℕ → Member) (rs : List Firm) (i : ℕ) (r : Firm) → slice_get rs i ≡ Some r → slice_get (map member (names (map named_of rs))) i ≡ Some (member r.member.name)
member_there member [] i r at = absurd (none-some r at)
member_there member (x ∷ rs) zero r at = ap (λ (y : Firm). Some (member y.member.name)) (same_Some x r at)
member_there member (x ∷ rs) (suc i) r at = member_there member rs i r at

firm_version : (m : Member) (o : Option Object) (r : Firm) → with_object m o ≡ Some r → r.member ≡ m
firm_version m None r e = absurd (none-some r e)
firm_version m (Some x) r e = sym (ap (λ (y : Firm). y.member) (same_Some (record { member = m; object = x }) r e))

bad_numbers : (r : Firm) → is_version r.member.version ≡ false → has_numbers r ≡ false
unfolding has_numbers
bad_numbers r bad = and_left (is_version r.member.version) _ bad

one_bad : (ms : List Member) (rs : List Firm) (i : ℕ) (m : Member) → AllZip (λ n r. firm_of n ≡ Some r) ms rs → slice_get ms i ≡ Some m → is_version m.version ≡ false → list_all has_numbers rs ≡ false
one_bad [] rs i m zip at bad = absurd (none-some m at)
one_bad (x ∷ ms) [] i m zip at bad = absurd zip
one_bad (x ∷ ms) (r ∷ rs) zero m zip at bad =
    let member : r.member ≡ x = firm_version x (when (are_bytes x.original) (firm_object x.original)) r zip.0 in
    let off : has_numbers r ≡ false = bad_numbers r (ap (λ (k : Member). is_version k.version) (member ∙ same_Some x m at) ∙ bad) in
    ap (λ (b : Bool). b && list_all has_numbers rs) off
one_bad (x ∷ ms) (r ∷ rs) (suc i) m zip at bad = ap (λ (b : Bool). has_numbers r && b) (one_bad ms rs i m zip.1 at bad) ∙ never (has_numbers r)
  where
    never : (b : Bool) → (b && false) ≡ false
    never true = refl
    never false = refl

not_set : (rs : List Firm) → list_all has_numbers rs ≡ false → are_set rs ≡ false
unfolding are_set
not_set [] bad = refl
not_set (r ∷ rs) bad = and_left _ _ (and_left (list_all has_numbers (r ∷ rs)) _ bad)

-- so no file is meant
no_version : (ms : List Member) (i : ℕ) (m : Member) → slice_get ms i ≡ Some m → is_version m.version ≡ false → prelinked ms ≡ None
unfolding prelinked
no_version ms i m at bad = by_firms (all_firm ms) refl
  where
    by_firms : (o : Option (List Firm)) → all_firm ms ≡ o → of_firm (all_firm ms) ≡ None
    by_firms None is = ap of_firm is
    by_firms (Some rs) is =
        let off : are_set rs ≡ false = not_set rs (one_bad ms rs i m (firms_zip ms rs is) at bad) in
        ap of_firm is ∙ ap (λ (b : Bool). when b (stored (file_of rs))) off

module _ (n : Numbered) (region : Range) (taken : AreTaken region n.files.now) (places : n.places.now ≡ map slot_borne n.files.now) (stamps : n.stamps.now ≡ map old_stamp n.files.now) where
  -- the member of a name as the files have it
  abbrev member : List ℕ → Member
  member k = member_at (format skip_causes) k (files_in n.files.now k)

  slot_is : (k : ℕ) (t : Taken) (m : Marked) → slice_get n.files.now k ≡ Some t → marked_by t.entry ≡ Some m → number_at n.places.now k ≡ m.slot
  slot_is k t m at is =
      ap (λ (ps : List ℕ). number_at ps k) places ∙ (ap unless_none (slice_get-map slot_borne n.files.now k ∙ ap (option_map slot_borne) at) ∙ ap slot_by is)

  stamp_is : (k : ℕ) (t : Taken) (m : Marked) → slice_get n.files.now k ≡ Some t → marked_by t.entry ≡ Some m → number_at n.stamps.now k ≡ m.stamp
  stamp_is k t m at is =
      ap (λ (ps : List ℕ). number_at ps k) stamps ∙ (ap unless_none (slice_get-map old_stamp n.files.now k ∙ ap (option_map old_stamp) at) ∙ ap stamp_by is)

  member_is : (k : ℕ) (r : Firm) → IsFirmAt n k r → is_marked_at n.files.now k ≡ true → (versioned (version_at n k) r).member ≡ member r.member.name
  member_is k r at on =
      let x : IsMarkedRow n region k r = marked_row n region k r taken at on in
      let t : Taken = x.row.taken in
      let m : Marked = x.mark in
      let mark : mark_at (format skip_causes) (files_in n.files.now t.name) ≡ Some (mark_of m) = x.known.mark ∙ ap (option_map mark_of) x.marked in
      let original : original_in t.bytes ≡ original_at (format skip_causes) (files_in n.files.now t.name) = sym (ap (original_at (format skip_causes)) x.known.file) in
      let version : version_at n k ≡ sound.version_of (mark_at (format skip_causes) (files_in n.files.now t.name)) = version_told n k t m x.row.at x.marked ∙ sym (ap sound.version_of mark) in
      let slot : number_at n.places.now k ≡ sound.slot_of (mark_at (format skip_causes) (files_in n.files.now t.name)) = slot_is k t m x.row.at x.marked ∙ sym (ap sound.slot_of mark) in
      let stamp : number_at n.stamps.now k ≡ sound.stamp_of (mark_at (format skip_causes) (files_in n.files.now t.name)) = stamp_is k t m x.row.at x.marked ∙ sym (ap sound.stamp_of mark) in
      subst (λ (y : Firm). (versioned (version_at n k) y).member ≡ member y.member.name) x.row.is (same_parts t.name _ _ _ _ _ _ _ _ original version slot stamp)

  members_are : (ks : List ℕ) (rs : List Firm) → AllZip (IsFirmAt n) ks rs → list_all (is_marked_at n.files.now) ks ≡ true → members (borne n ks rs) ≡ map member (names (map named_of rs))
  members_are [] [] zip all = refl
  members_are [] (r ∷ rs) zip all = absurd zip
  members_are (k ∷ ks) [] zip all = absurd zip
  members_are (k ∷ ks) (r ∷ rs) zip all =
      let on = and_parts (is_marked_at n.files.now k) (list_all (is_marked_at n.files.now) ks) all in
      ap (λ (m : Member). m ∷ members (borne n ks rs)) (member_is k r zip.0 on.0) ∙ ap (λ (ms : List Member). member r.member.name ∷ ms) (members_are ks rs zip.1 on.1)

  -- ---- the file

  told : (row : ℕ) (x : Taken) → IsNumbered n → (walk : IsWalkRow n row) → slice_get n.files.now row ≡ Some x → sound.walk_in (format skip_causes) (files_in n.files.now) x.name ≡ Ok (walked_by n.files.now (walk_of n row))
  told row x numbered walk at =
      let h : HasOwnWalk n.files.now n.walks.now row = has_walk n row numbered walk in
      let same : h.taken ≡ x = same_Some h.taken x (sym h.file ∙ at) in
      let own = h.told ∙ ap (λ (ks : List ℕ). Ok (walked_by n.files.now ks)) (sym (walk_is n row h)) in
      subst (λ (y : Taken). sound.walk_in (format skip_causes) (files_in n.files.now) y.name ≡ Ok (walked_by n.files.now (walk_of n row))) same own

  pub borne_meant : (row : ℕ) (x : Taken) (m : Marked) (version : Version) (file : Option (List ℕ)) → IsNumbered n → (walk : IsWalkRow n row) → are_marked n.files.now (walk_of n row) ≡ true → slice_get n.files.now row ≡ Some x → marked_by x.entry ≡ Some m → m.version ≡ version
      → IsFileMeant n row version file → file ≡ prelinked_in (files_in n.files.now) x.name
  borne_meant row x m version file numbered walk all at mark same meant =
      let zip : AllZip (IsFirmAt n) (walk_of n row) (firms_of n row) = rows_of_firms.firms_zip n row walk.rows in
      let are : AreVersionsOf (firms_of n row) (borne n (walk_of n row) (firms_of n row)) = borne_versions n region (walk_of n row) (firms_of n row) taken zip all in
      let first : version_at n row ≡ number_of version = version_told n row x m at mark ∙ ap number_of same in
      let begins : BeginsIn version (borne n (walk_of n row) (firms_of n row)) = begins_borne n row walk.others version (walk_of n row) (firms_of n row) walk.is first in
      let ms = members_are (walk_of n row) (firms_of n row) zip all in
      meant (borne n (walk_of n row) (firms_of n row)) are begins
      ∙ (ap prelinked ms
      ∙ (ap (λ (ws : Walked). prelinked (map member (names ws))) (firms_named n row) ∙ sym (ap (sound.of_walk (format skip_causes) member) (told row x numbered walk at))))

  -- a file of its walk is not prelinked
  pub unmarked_none : (row : ℕ) (x : Taken) → IsNumbered n → are_marked n.files.now (walk_of n row) ≡ false → slice_get n.files.now row ≡ Some x → None ≡ prelinked_in (files_in n.files.now) x.name
  unmarked_none row x numbered none at =
      let f : IsFailed ℕ (is_marked_at n.files.now) (walk_of n row) = first_failed (is_marked_at n.files.now) (walk_of n row) none in
      by_walk f (walk_of n row) refl
    where
      by_walk : IsFailed ℕ (is_marked_at n.files.now) (walk_of n row) → (ks : List ℕ) → walk_of n row ≡ ks → None ≡ prelinked_in (files_in n.files.now) x.name
      by_walk f [] is = absurd (none-some f.item (ap (λ (ks : List ℕ). slice_get ks f.index) (sym is) ∙ f.at))
      by_walk f (first ∷ others) is =
          let h : HasOwnWalk n.files.now n.walks.now row = walk_there n region row first others taken numbered.walks is in
          let own : walk_of n row ≡ row ∷ h.others = ap rows_in h.walk in
          let rows : AreRows n.files.now (walk_of n row) = subst (AreRows n.files.now) (sym own) h.rows in
          let same : h.taken ≡ x = same_Some h.taken x (sym h.file ∙ at) in
          let walk : sound.walk_in (format skip_causes) (files_in n.files.now) x.name ≡ Ok (walked_by n.files.now (walk_of n row)) =
          subst (λ (y : Taken). sound.walk_in (format skip_causes) (files_in n.files.now) y.name ≡ Ok (walked_by n.files.now (walk_of n row))) same (h.told ∙ ap (λ (ks : List ℕ). Ok (walked_by n.files.now ks)) (sym own)) in
          let r = zip_there (IsFirmAt n) (walk_of n row) (firms_of n row) f.index f.item (rows_of_firms.firms_zip n row rows) f.at in
          let g : IsRowOf n f.item r.0 = row_of n f.item r.0 r.2 in
          let known : IsRow region n.files.now g.taken = row_is region n.files.now f.item g.taken taken g.at in
          let name : g.taken.name ≡ r.0.member.name = ap (λ (y : Firm). y.member.name) g.is in
          let mark : mark_at (format skip_causes) (files_in n.files.now r.0.member.name) ≡ None =
          subst (λ (k : List ℕ). mark_at (format skip_causes) (files_in n.files.now k) ≡ None) name (known.mark ∙ ap (option_map mark_of) (unmarked_at n.files.now f.item g.taken g.at f.fails)) in
          let there : slice_get (map member (names (map named_of (firms_of n row)))) f.index ≡ Some (member r.0.member.name) = member_there member (firms_of n row) f.index r.0 r.1 in
          let bad : is_version (member r.0.member.name).version ≡ false = ap (λ (k : Option Mark). is_version (sound.version_of k)) mark in
          sym (ap (sound.of_walk (format skip_causes) member) walk
          ∙ (ap (λ (ws : Walked). prelinked (map member (names ws))) (sym (firms_named n row)) ∙ no_version (map member (names (map named_of (firms_of n row)))) f.index (member r.0.member.name) there bad))

-- a name whose walk is refused has none
pub refused_none : (n : Numbered) (row : ℕ) (x : Taken) → IsNumbered n → slice_get n.files.now row ≡ Some x → walk_of n row ≡ [] → None ≡ prelinked_in (files_in n.files.now) x.name
refused_none n row x numbered at none = by_walk (walk_for n.files.now x.name) refl
  where
    by_walk : (r : Result Walked Skip) → walk_for n.files.now x.name ≡ r → None ≡ prelinked_in (files_in n.files.now) x.name
    by_walk (Err cause) is = sym (ap (sound.of_walk (format skip_causes) (λ (k : List ℕ). member_at (format skip_causes) k (files_in n.files.now k))) is)
    by_walk (Ok ws) is =
        let lt : row < length n.files.now = slice_get_within n.files.now row x at in
        let rows = slice_get_at n.walks.now row (omega (arith, lt, numbered.walks.walks)) in
        let empty : rows.0 ≡ [] = sym (ap rows_in rows.1) ∙ none in
        let told : IsWalkOfFile n.files.now x rows.0 (refusal_of (walk_for n.files.now x.name)) = numbered.walks.each row x rows.0 (refusal_of (walk_for n.files.now x.name)) at rows.1 (refusal_at n.files.now row x at) in
        let walked = subst (λ (q : Result Walked Skip). IsWalkOfFile n.files.now x rows.0 (refusal_of q)) is told in
        let nothing : walk_for n.files.now x.name ≡ Ok (walked_by n.files.now []) = walked.1 ∙ ap (λ (ks : List ℕ). Ok (walked_by n.files.now ks)) empty in
        absurd (omega (arith, walk_some n.files.now x.name (walked_by n.files.now []) nothing))
