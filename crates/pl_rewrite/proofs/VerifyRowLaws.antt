-- The row of a file that is verified, and the rows of the members of its walk.
use Rattle.std.proofs.Common.{◌≡◌, ℕ, zero, suc, ◌+◌, ◌<◌, ◌≤◌, Bool, true, false, List, [], ◌∷◌, length, Some, Ok, refl, sym, ap, subst, ◌∙◌, arith, inl, inr}
use Rattle.std.specs.Prelude.{◌&&◌, ◌||◌, ◌==◌, not, slice_get}
use Rattle.std.specs.List.{IsDistinct}
use Rattle.std.specs.Str.{bytes_eq}
use Rattle.std.proofs.lemmas.Bool.{and_from, and_parts, eq-eqb, eqb-true, false≢true, or_cases, or_left}
use Rattle.std.proofs.lemmas.Option.{same_Some}
use Rattle.std.proofs.lemmas.Slice.Zip.{AllZip-long}
use Rattle.pl_cone.specs.Folder.{IsWithin}
use Rattle.pl_cone.specs.Skipped.{skip_causes}
use Rattle.pl_cone.specs.Skips.{of_walk}
use Rattle.pl_cone.specs.Table.{AreRows, walked_by}
use Rattle.pl_cone.specs.Taken.{files_in, is_library_entry}
use Rattle.pl_cone.specs.WalkRows.{HasOwnWalk, IsLibraryOf}
use Rattle.pl_cone.specs.declared.taken.Taken.{Taken}
use Rattle.pl_cone.proofs.NeedLaws.{slice_get_at}
use Rattle.pl_cone.proofs.WalkRowLaws.{member_row}
use Rattle.pl_conflict.specs.Format.{format}
use Rattle.pl_scope.specs.Members.{names}
use Rattle.pl_scope.proofs.WalkedLaws.{limit_is, walk_distinct}
use Rattle.law_sound.specs.Rule as sound
use Rattle.pl_rewrite.specs.Flags.{AreFlagsOf, flagged}
use Rattle.pl_rewrite.specs.Outcomes.{AreHeldFlags, IsStaleColumn, is_held, is_library_at, is_library_taken, is_stale, is_stale_library, is_stale_program}
use Rattle.pl_rewrite.specs.Rows.{IsFirmAt, IsNumbered, IsWalkRow, firms_of, walk_of}
use Rattle.pl_rewrite.specs.RowWords.{is_asked, is_set}
use Rattle.pl_rewrite.specs.declared.numbers.Numbered.{Numbered}
use Rattle.pl_rewrite.proofs.CandidateRowLaws.{IsItself, names_are}
use Rattle.pl_rewrite.proofs.FirmRowLaws.{firms_named, firms_zip}
use Rattle.pl_rewrite.proofs.LaterMemberLaws.{first_linked}
use Rattle.pl_rewrite.proofs.NumberedLaws.{has_walk, walk_is}
use Rattle.pl_rewrite.proofs.OwnWalkLaws.{members_within}
use Rattle.pl_rewrite.proofs.ProgramRowLaws.{asked_held}
use Rattle.pl_rewrite.proofs.StaleRowLaws.{IsHeldBy, held_from, set_within}

-- ---- one row alone is flagged

flagged_one : (row k : ℕ) → flagged (row ∷ []) k ≡ true → k ≡ row
unfolding flagged
flagged_one row k on = elim (or_cases (row == k) false on) [
  | inl hit ↦ sym (eqb-true row k hit)
  | inr never ↦ absurd (false≢true never)
]

flagged_self : (row : ℕ) → flagged (row ∷ []) row ≡ true
unfolding flagged
flagged_self row = or_left (row == row) false (eq-eqb row row refl)

pub one_stale : (n : Numbered) (stale : List Bool) (row k : ℕ) → AreFlagsOf (length n.files.now) (row ∷ []) stale → is_stale stale k ≡ true → k ≡ row
one_stale n stale row k flags on =
    let b = slice_get_at stale k (set_within stale k on) in
    let set : b.0 ≡ true = sym (ap is_set b.1) ∙ on in
    flagged_one row k (sym (flags.each k b.0 b.1) ∙ set)

pub stale_one : (n : Numbered) (stale : List Bool) (row : ℕ) → row < length n.files.now → AreFlagsOf (length n.files.now) (row ∷ []) stale → is_stale stale row ≡ true
stale_one n stale row lt flags =
    let b = slice_get_at stale row (omega (arith, lt, flags.count)) in
    ap is_set b.1 ∙ (flags.each row b.0 b.1 ∙ flagged_self row)

pub column_one : (n : Numbered) (stale : List Bool) (row : ℕ) → AreFlagsOf (length n.files.now) (row ∷ []) stale → IsWalkRow n row → IsStaleColumn n stale
column_one n stale row flags walk = record { count = flags.count; walks = λ k on. subst (IsWalkRow n) (sym (one_stale n stale row k flags on)) walk }

-- whether it is a library's
pub library_one : (n : Numbered) (stale : List Bool) (row : ℕ) (t : Taken) → row < length n.files.now → AreFlagsOf (length n.files.now) (row ∷ []) stale → slice_get n.files.now row ≡ Some t → is_library_entry t.entry ≡ true → is_stale_library n stale row ≡ true
library_one n stale row t lt flags at library = and_from (is_stale stale row) (is_library_at n row) (stale_one n stale row lt flags) (ap is_library_taken at ∙ library)

pub program_one : (n : Numbered) (stale : List Bool) (row : ℕ) (t : Taken) → row < length n.files.now → AreFlagsOf (length n.files.now) (row ∷ []) stale → slice_get n.files.now row ≡ Some t → is_library_entry t.entry ≡ false → is_stale_program n stale row ≡ true
program_one n stale row t lt flags at other = and_from (is_stale stale row) (not (is_library_at n row)) (stale_one n stale row lt flags) (ap not (ap is_library_taken at ∙ other))

-- ---- a member of its walk

-- has its own walk, and the members of that have forms
later_walk_row : (n : Numbered) (row m r : ℕ) → IsNumbered n → (walk : IsWalkRow n row) → slice_get (walk_of n row) (suc m) ≡ Some r → IsWalkRow n r
later_walk_row n row m r numbered walk at =
    let h : HasOwnWalk n.files.now n.walks.now row = has_walk n row numbered walk in
    let rows : walk_of n row ≡ row ∷ h.others = walk_is n row h in
    let there = ap (λ (ks : List ℕ). slice_get ks (suc m)) (sym rows) ∙ at in
    let one : IsLibraryOf n.files.now n.walks.now (row ∷ h.others) r = member_row numbered.taken.0 n.files.now n.walks.now numbered.taken.1 numbered.walks row h (suc m) r (first_linked n row walk h) (omega arith) there in
    let own : walk_of n r ≡ r ∷ one.own.others = walk_is n r one.own in
    let inner : AreRows n.files.now (walk_of n r) = subst (AreRows n.files.now) (sym own) one.own.rows in
    let within : IsWithin (walked_by n.files.now (walk_of n r)) (walked_by n.files.now (walk_of n row)) =
    subst (λ (ks : List ℕ). IsWithin (walked_by n.files.now ks) (walked_by n.files.now (walk_of n row))) (sym own) (subst (λ (ks : List ℕ). IsWithin (walked_by n.files.now (r ∷ one.own.others)) (walked_by n.files.now ks)) (sym rows) one.within) in
    let long : length (firms_of n r) ≡ length (walk_of n r) = AllZip-long (IsFirmAt n) (walk_of n r) (firms_of n r) (firms_zip n r inner) in
    let told : sound.walk_in (format skip_causes) (files_in n.files.now) one.own.taken.name ≡ Ok (walked_by n.files.now (walk_of n r)) = one.own.told ∙ ap (λ (ks : List ℕ). Ok (walked_by n.files.now ks)) (sym own) in
    let distinct : IsDistinct bytes_eq (names (walked_by n.files.now (walk_of n r))) =
    walk_distinct of_walk (sound.objects (format skip_causes) (files_in n.files.now)) one.own.taken.name (walked_by n.files.now (walk_of n r)) told in
    record {
      others = one.own.others;
      is = own;
      rows = inner;
      sources = record {
        few = omega (arith, long, inner.few, limit_is);
        firm = members_within IsItself n row r numbered.taken.1.distinct walk.rows inner within walk.sources.firm;
        distinct = subst (IsDistinct bytes_eq) (ap names (sym (firms_named n r)) ∙ names_are (firms_of n r)) distinct;
      };
    }

pub member_walk_row : (n : Numbered) (row m r : ℕ) → IsNumbered n → (walk : IsWalkRow n row) → slice_get (walk_of n row) m ≡ Some r → IsWalkRow n r
member_walk_row n row zero r numbered walk at =
    let same : row ≡ r = same_Some row r (sym (ap (λ (ks : List ℕ). slice_get ks 0) walk.is) ∙ at) in
    subst (IsWalkRow n) same walk
member_walk_row n row (suc m) r numbered walk at = later_walk_row n row m r numbered walk at

-- the rows that are needed have walks
pub needed_walks : (n : Numbered) (stale held : List Bool) (row : ℕ) → IsNumbered n → IsWalkRow n row → AreFlagsOf (length n.files.now) (row ∷ []) stale → AreHeldFlags n stale held → (k : ℕ) → (is_asked stale k || is_asked held k) ≡ true → IsWalkRow n k
needed_walks n stale held row numbered walk flags are k need = elim (or_cases (is_asked stale k) (is_asked held k) need) [
  | inl one ↦ subst (IsWalkRow n) (sym (one_stale n stale row k flags one)) walk
  | inr other ↦
      let lt : k < length n.files.now = omega (arith, set_within held k other, are.count) in
      let on : is_held n stale k ≡ true = sym (asked_held n stale held k are lt) ∙ other in
      let h : IsHeldBy n stale k = held_from n stale (length n.files.now) k on in
      let first : is_stale stale h.program ≡ true = (and_parts (is_stale stale h.program) (not (is_library_at n h.program)) h.stands).0 in
      let same : h.program ≡ row = one_stale n stale row h.program flags first in
      member_walk_row n row h.member k numbered walk (subst (λ (i : ℕ). slice_get (walk_of n i) h.member ≡ Some k) same h.at)
]
