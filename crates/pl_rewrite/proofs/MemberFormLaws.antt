-- The prelinked file of a library of a program's walk is its form for its slot.
use Rattle.std.proofs.Common.{◌≡◌, ℕ, zero, suc, ◌+◌, ◌*◌, ◌%◌, ◌<◌, ◌≤◌, Bool, true, false, List, [], ◌∷◌, ◌++◌, length, drop, get_or, refl, sym, ap, subst, ◌∙◌, arith}
use Rattle.std.specs.Prelude.{◌&&◌, ◌||◌, ◌==◌}
use Rattle.std.specs.List.{All, list_all, list_any}
use Rattle.std.proofs.lemmas.Bool.{and_from, false≢true, or_parts}
use Rattle.std.proofs.lemmas.List.{length-append, length-map}
use Rattle.std.proofs.lemmas.List.Elements.{All-cons, All-tail}
use Rattle.std.proofs.lemmas.Option.{same_Some}
use Rattle.pl_base.proofs.WordLaws.{length_bytes32}
use Rattle.pl_cone.specs.Folder.{IsWithin}
use Rattle.pl_cone.specs.Table.{walked_by}
use Rattle.pl_conflict.specs.Held.{IsFormWith}
use Rattle.pl_conflict.specs.Own.{own_words}
use Rattle.pl_conflict.specs.Prelinked.{Firm, are_set, has_numbers, library_file, list_of, list_row, objects_of, slots_of, version_of}
use Rattle.pl_conflict.proofs.MemberLaws.{HasOwn, IsPlacedLibrary, IsSet, library_numbers, set_is}
use Rattle.pl_conflict.proofs.SetLaws.{HasLibrary, library_shared}
use Rattle.pl_elf.specs.Kinds.{is_library}
use Rattle.pl_elf.specs.declared.constants.TheConstants.{R_X86_64_COPY}
use Rattle.pl_form.specs.Library.{IsListing, IsShortList}
use Rattle.pl_form.specs.Words.{listed}
use Rattle.pl_image.specs.Loads.{IsPlaced}
use Rattle.pl_lists.specs.Lists.{after, list_bytes, row_bytes}
use Rattle.pl_lists.specs.declared.list_row.ListRow.{ListRow}
use Rattle.pl_object.specs.PlaceClauses.{is_misplaced_copy, misplaced_copy}
use Rattle.pl_object.specs.declared.object.Object.{Object}
use Rattle.pl_object.specs.declared.reloc.Reloc.{Reloc}
use Rattle.pl_object.proofs.AcceptedLaws.{accepted}
use Rattle.pl_rewrite.specs.Forms.{BeginsWithLibrary, HasFormWith, HasNumbers, IsLibraryWalk, has_valid_name}
use Rattle.pl_rewrite.specs.Rows.{IsNumbered, IsWalkRow, firms_of, walk_of}
use Rattle.pl_rewrite.specs.Sources.{AreSources}
use Rattle.pl_rewrite.specs.declared.numbers.Numbered.{Numbered}
use Rattle.pl_rewrite.proofs.FirmLaws.{all_true, own_all, true_all}
use Rattle.pl_rewrite.proofs.LaterMemberLaws.{IsLater, later_kind, others_libraries}
use Rattle.pl_rewrite.proofs.LibraryLaws.{file_is, form_with}
use Rattle.pl_rewrite.proofs.ListLaws.{valid_of}
use Rattle.pl_rewrite.proofs.NewLibraryLaws.{IsFirst, first_is}
use Rattle.pl_rewrite.proofs.NumberedLaws.{walk_is}
use Rattle.pl_rewrite.proofs.OwnWalkLaws.{members_within}
use Rattle.pl_rewrite.proofs.QuietLaws.{IsOwnForm}
use Rattle.pl_scope.proofs.WalkedLaws.{limit_is}

-- ---- a short list

row_long : (at : ℕ) (row : ListRow) → length (row_bytes at row) ≡ 20
unfolding row_bytes
row_long at row = simp (length-append, length_bytes32) refl

rows_long : (at : ℕ) (rows : List ListRow) → length (list_bytes at rows) ≡ 20 * length rows
unfolding list_bytes
rows_long at [] = refl
rows_long at (row ∷ rows) =
    let front = length-append (row_bytes at row) (list_bytes (after at row) rows) in
    omega (arith, front, row_long at row, rows_long (after at row) rows)

short_list : (rows : List ListRow) → IsListing rows → length rows ≤ 256 → IsShortList (listed rows)
short_list rows is few = record { strings = omega (arith, is.names); rows = omega (arith, rows_long 1 rows, few) }

list_few : (r : Firm) (rs : List Firm) → AreSources (r ∷ rs) → length (list_of rs) ≤ 256
list_few r rs are = omega (arith, are.few, limit_is, length-map rs list_row)

-- ---- no copies

none_at : (p : Reloc → Bool) (rs : List Reloc) (i : ℕ) (d : Reloc) → list_any p rs ≡ false → i < length rs → p (get_or rs i d) ≡ false
none_at p [] i d none lt = absurd (omega (arith, lt))
none_at p (r ∷ rs) zero d none lt = (or_parts (p r) (list_any p rs) none).0
none_at p (r ∷ rs) (suc i) d none lt = none_at p rs i d (or_parts (p r) (list_any p rs) none).1 (omega (arith, lt))

not_copied : (r : Reloc) → is_misplaced_copy false r ≡ false → (r.kind == R_X86_64_COPY) ≡ false
unfolding is_misplaced_copy
not_copied r none = by_test (r.kind == R_X86_64_COPY) none
  where
    by_test : (b : Bool) → (b && true) ≡ false → b ≡ false
    by_test true e = e
    by_test false e = refl

no_copies : (r : Firm) → HasOwn r → HasLibrary r → (i : ℕ) (d : Reloc) → i < length r.object.relocations → ((get_or r.object.relocations i d).kind == R_X86_64_COPY) ≡ false
unfolding misplaced_copy
no_copies r own library i d lt =
    let facts = accepted r.member.original r.object own.firm.accepted in
    let none : misplaced_copy false r.object.relocations ≡ false = subst (λ (b : Bool). misplaced_copy b r.object.relocations ≡ false) (library_shared r own library) facts.copies in
    not_copied (get_or r.object.relocations i d) (none_at (is_misplaced_copy false) r.object.relocations i d none lt)

-- ---- the form of a library by its own walk

form_at : (r : Firm) (rs : List Firm) → AreSources (r ∷ rs) → IsLibraryWalk (r ∷ rs) → IsFormWith r.member.original r.object r.member.slot (own_words (objects_of (r ∷ rs)) (slots_of (r ∷ rs))) (library_file (r ∷ rs))
form_at r rs are walk =
    let has : HasFormWith r (list_of rs) (own_words (objects_of (r ∷ rs)) (slots_of (r ∷ rs))) = form_with r rs are walk in
    let placed : IsPlacedLibrary r = library_numbers r (walk.numbers 0 r (omega arith)) walk.first in
    record {
      firm = has.firm;
      even = record { below = omega (arith, placed.below); even = has.even };
      stamp = r.member.stamp;
      list = list_of rs;
      short = short_list (list_of rs) has.list (list_few r rs are);
      version = version_of r.member.version;
      is = sym (file_is r rs);
    }

pub own_form : (r : Firm) (rs : List Firm) → AreSources (r ∷ rs) → IsLibraryWalk (r ∷ rs) → IsPlaced r.member.slot r.object → IsOwnForm (objects_of (r ∷ rs)) (slots_of (r ∷ rs)) r.member.original (library_file (r ∷ rs)) r.object r.member.slot
own_form r rs are walk placed =
    let own : HasOwn r = own_all (r ∷ rs) are 0 r (omega arith) in
    record {
      first = refl;
      form = form_at r rs are walk;
      placed = placed;
      wide = λ i d lt. (accepted r.member.original r.object own.firm.accepted).widths i d lt;
      no_copy = no_copies r own walk.first;
    }

-- ---- the walk of a later member of a program's walk

abbrev IsNamedWell : Firm → Type 0
IsNamedWell r = is_library r.object.kind ≡ true → has_valid_name r ≡ true

-- the rows of a later member's walk are within
later_within : (n : Numbered) (row m : ℕ) (o : Object) → (x : IsLater n row m o) → IsWithin (walked_by n.files.now (walk_of n x.number)) (walked_by n.files.now (walk_of n row))
later_within n row m o x = subst (λ (rs : List ℕ). IsWithin (walked_by n.files.now rs) (walked_by n.files.now (walk_of n row))) (sym (walk_is n x.number x.library.own)) x.library.within

pub later_walk : (n : Numbered) (row m : ℕ) (o : Object) → IsNumbered n → (walk : IsWalkRow n row) → (first : IsFirst n row) → is_library first.firm.object.kind ≡ false → are_set (firms_of n row) ≡ true → (x : IsLater n row m o) → IsWalkRow n x.number → IsLibraryWalk (firms_of n x.number)
later_walk n row m o numbered walk p program set x inner =
    let sources : AreSources (p.firm ∷ p.others) = subst AreSources p.is walk.sources in
    let s : IsSet p.firm p.others = set_is p.firm p.others (subst (λ (rs : List Firm). are_set rs ≡ true) p.is set) in
    let numbers : All HasNumbers (p.firm ∷ p.others) = true_all has_numbers (p.firm ∷ p.others) (and_from (has_numbers p.firm) (list_all has_numbers p.others) s.first s.numbers) in
    let valid : All (λ r. has_valid_name r ≡ true) p.others = true_all has_valid_name p.others (valid_of p.firm p.others sources numbers s.list) in
    let named : All IsNamedWell (p.firm ∷ p.others) = All-cons IsNamedWell p.firm p.others (λ library. absurd (false≢true (sym program ∙ library))) (λ i d lt library. valid i d lt) in
    let within : IsWithin (walked_by n.files.now (walk_of n x.number)) (walked_by n.files.now (walk_of n row)) = later_within n row m o x in
    let distinct = numbered.taken.1.distinct in
    let f : IsFirst n x.number = first_is n x.number inner in
    let same : f.firm ≡ x.firm = same_Some f.firm x.firm (sym f.at ∙ x.is) in
    let all_numbers : All HasNumbers (firms_of n x.number) = members_within HasNumbers n row x.number distinct walk.rows inner.rows within (subst (All HasNumbers) (sym p.is) numbers) in
    let all_named : All IsNamedWell (f.firm ∷ f.others) = subst (All IsNamedWell) f.is (members_within IsNamedWell n row x.number distinct walk.rows inner.rows within (subst (All IsNamedWell) (sym p.is) named)) in
    let libraries : All HasLibrary f.others = others_libraries n x.number f.firm f.others numbered inner f.is in
    let names : list_all has_valid_name f.others ≡ true = all_true has_valid_name f.others (λ i d lt. All-tail IsNamedWell f.firm f.others all_named i d lt (libraries i d lt)) in
    let kind : is_library f.firm.object.kind ≡ true = ap (λ (r : Firm). is_library r.object.kind) same ∙ later_kind n row m o x in
    record {
      first = subst BeginsWithLibrary (sym f.is) kind;
      numbers = all_numbers;
      names = ap (λ (rs : List Firm). list_all has_valid_name (drop 1 rs)) f.is ∙ names;
    }
