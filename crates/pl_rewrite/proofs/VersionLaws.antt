-- The members of a walk in other versions.
use Rattle.std.proofs.Common.{◌≡◌, ◌≤◌, ◌<◌, ℕ, zero, suc, ◌%◌, ◌+◌, ◌^◌, Bool, true, false, List, [], ◌∷◌, ◌++◌, length, map, Option, Some, None, refl, sym, ap, subst, ◌∙◌, arith, inl, inr}
use Rattle.std.specs.Prelude.{◌&&◌, ◌==◌, nat_le, nat_lt, not, drop, slice_get, if◌then◌else◌}
use Rattle.std.specs.List.{All, AllZip, IsDistinct, cons_option, filter_map, flat_map, list_all}
use Rattle.std.specs.Str.{bytes_eq}
use Rattle.std.proofs.lemmas.Bool.{cases_Bool}
use Rattle.std.proofs.lemmas.List.Elements.{All-cons, All-head, All-tail}
use Rattle.std.proofs.lemmas.Option.{none-some, same_Some}
use Rattle.std.proofs.lemmas.Slice.Zip.{AllZip-long}
use Rattle.pl_base.specs.Windows.{Window, any_share}
use Rattle.pl_base.specs.Memory.{Memory, layered}
use Rattle.pl_conflict.specs.Format.{number_of}
use Rattle.pl_conflict.specs.Prelinked.{Firm, are_set, firm_of, has_numbers, is_version, library_file, list_of, list_row, named, names_in, objects_of, originals_of, own_walk, slots_of, walked_of, windows_of, with_object}
use Rattle.pl_elf.specs.Kinds.{is_library}
use Rattle.pl_elf.specs.declared.constants.TheConstants.{ADDRESS_LIMIT}
use Rattle.pl_form.specs.declared.version.Version.{Version}
use Rattle.pl_form.specs.declared.version.Version.TheVariants.{Two}
use Rattle.pl_image.specs.Image.{all_pieces}
use Rattle.pl_image.specs.Loads.{IsPlaced}
use Rattle.pl_lists.specs.Lists.{is_list}
use Rattle.pl_lists.specs.declared.list_row.ListRow.{ListRow}
use Rattle.pl_object.specs.declared.object.Object.{Object}
use Rattle.pl_scope.specs.Members.{told}
use Rattle.pl_scope.specs.Walk.{Walked, walk_over}
use Rattle.pl_scope.specs.declared.constants.TheConstants.{MAX_MEMBERS}
use Rattle.pl_value.specs.Linked.{relocated}
use Rattle.pl_value.specs.Ordinary.{loaded_objects}
use Rattle.pl_value.specs.declared.meaning.Meaning.{Meaning}
use Rattle.law_sound.specs.Rule.{Member}
use Rattle.pl_rewrite.specs.Fills.{BeginsWithProgram, fills, fills_of, memory_of}
use Rattle.pl_rewrite.specs.Forms.{BeginsWithLibrary, IsLibraryWalk, has_valid_name}
use Rattle.pl_rewrite.specs.Rows.{IsFirmAt, IsWalkRow, firms_of, walk_of}
use Rattle.pl_rewrite.specs.Sources.{AreSources, AreVersionsOf, BeginsIn, IsVersionOf, member_names, versioned}
use Rattle.pl_rewrite.specs.declared.numbers.Numbered.{Numbered}
use Rattle.pl_rewrite.proofs.FirmLaws.{all_true, true_all, version_is}
use Rattle.pl_rewrite.proofs.FirmRowLaws.{IsRowOf, firms_zip, row_of}
use Rattle.pl_rewrite.proofs.MemberFormLaws.{own_form}
use Rattle.pl_rewrite.proofs.QuietLaws.{IsOwnForm}

-- ---- what a version does not change

abbrev pub HasVersion : Firm → Type 0
HasVersion r = is_version r.member.version ≡ true

same_each : (X : Type 0) (f : Firm → X) → ((v : ℕ) (r : Firm) → f (versioned v r) ≡ f r) → (rs ss : List Firm) → AreVersionsOf rs ss → map f ss ≡ map f rs
same_each X f same [] [] are = refl
same_each X f same [] (s ∷ ss) are = absurd are
same_each X f same (r ∷ rs) [] are = absurd are
same_each X f same (r ∷ rs) (s ∷ ss) are =
    let head : f s ≡ f r = ap f are.0.2 ∙ same are.0.0 r in
    ap (λ (x : X). x ∷ map f ss) head ∙ ap (λ (xs : List X). f r ∷ xs) (same_each X f same rs ss are.1)

pub objects_versions : (rs ss : List Firm) → AreVersionsOf rs ss → objects_of ss ≡ objects_of rs
objects_versions rs ss are = same_each Object (λ r. r.object) (λ v r. refl) rs ss are

pub slots_versions : (rs ss : List Firm) → AreVersionsOf rs ss → slots_of ss ≡ slots_of rs
slots_versions rs ss are = same_each ℕ (λ r. r.member.slot) (λ v r. refl) rs ss are

pub lists_versions : (rs ss : List Firm) → AreVersionsOf rs ss → list_of ss ≡ list_of rs
lists_versions rs ss are = same_each ListRow list_row (λ v r. refl) rs ss are

originals_versions : (rs ss : List Firm) → AreVersionsOf rs ss → originals_of ss ≡ originals_of rs
originals_versions rs ss are = same_each (List ℕ) (λ r. r.member.original) (λ v r. refl) rs ss are

names_versions : (rs ss : List Firm) → AreVersionsOf rs ss → member_names ss ≡ member_names rs
names_versions rs ss are = same_each (List ℕ) (λ r. r.member.name) (λ v r. refl) rs ss are

walked_versions : (rs ss : List Firm) → AreVersionsOf rs ss → walked_of ss ≡ walked_of rs
walked_versions rs ss are = same_each (List ℕ × Object) (λ r. (r.member.name, r.object)) (λ v r. refl) rs ss are

-- ---- all members in one version

abbrev pub all_in : Version → List Firm → List Firm
all_in version [] = []
all_in version (r ∷ rs) = versioned (number_of version) r ∷ all_in version rs

pub in_versions : (version : Version) (rs : List Firm) → AreVersionsOf rs (all_in version rs)
in_versions version [] = tt
in_versions version (r ∷ rs) = ((number_of version, version_is version, refl), in_versions version rs)

pub begins_in : (version : Version) (rs : List Firm) → BeginsIn version (all_in version rs)
begins_in version [] = tt
begins_in version (r ∷ rs) = refl

-- ---- members whose originals have forms

abbrev IsItself : Firm → Type 0
IsItself r = firm_of r.member ≡ Some r

object_of : (m : Member) (o : Option Object) (r : Firm) → with_object m o ≡ Some r → o ≡ Some r.object
object_of m None r e = absurd (none-some r e)
object_of m (Some x) r e = ap (λ (y : Firm). Some y.object) (same_Some (record { member = m; object = x }) r e)

firm_version : (v : ℕ) (r : Firm) → IsItself r → IsItself (versioned v r)
firm_version v r e = ap (with_object (versioned v r).member) (object_of r.member _ r e)

firms_versions : (rs ss : List Firm) → AreVersionsOf rs ss → All IsItself rs → All IsItself ss
firms_versions [] [] are all = all
firms_versions [] (s ∷ ss) are all = absurd are
firms_versions (r ∷ rs) [] are all = absurd are
firms_versions (r ∷ rs) (s ∷ ss) are all =
    let head : IsItself s = subst IsItself (sym are.0.2) (firm_version are.0.0 r (All-head IsItself r rs all)) in
    All-cons IsItself s ss head (firms_versions rs ss are.1 (All-tail IsItself r rs all))

pub sources_versions : (rs ss : List Firm) → AreVersionsOf rs ss → AreSources rs → AreSources ss
sources_versions rs ss are sources =
    let long : length ss ≡ length rs = AllZip-long IsVersionOf rs ss are in
    record {
      few = subst (λ (k : ℕ). k ≤ MAX_MEMBERS) (sym long) sources.few;
      firm = firms_versions rs ss are sources.firm;
      distinct = subst (IsDistinct bytes_eq) (sym (names_versions rs ss are)) sources.distinct;
    }

-- ---- numbers

all_versions : (f : Firm → Bool) → ((v : ℕ) (r : Firm) → is_version v ≡ true → HasVersion r → f (versioned v r) ≡ f r) → (rs ss : List Firm) → AreVersionsOf rs ss → All HasVersion rs → list_all f ss ≡ list_all f rs
all_versions f same [] [] are has = refl
all_versions f same [] (s ∷ ss) are has = absurd are
all_versions f same (r ∷ rs) [] are has = absurd are
all_versions f same (r ∷ rs) (s ∷ ss) are has =
    let head : f s ≡ f r = ap f are.0.2 ∙ same are.0.0 r are.0.1 (All-head HasVersion r rs has) in
    ap (λ (b : Bool). b && list_all f ss) head ∙ ap (λ (b : Bool). f r && b) (all_versions f same rs ss are.1 (All-tail HasVersion r rs has))

numbers_version : (v : ℕ) (r : Firm) → is_version v ≡ true → HasVersion r → has_numbers (versioned v r) ≡ has_numbers r
unfolding has_numbers
numbers_version v r is e =
    ap (λ (b : Bool). b && (if is_library r.object.kind then r.member.slot % r.object.align == 0 && nat_le (r.member.slot + r.object.span) ADDRESS_LIMIT && nat_lt r.member.stamp (2 ^ 32) else r.member.slot == 0 && r.member.stamp == 0)) (is ∙ sym e)

numbers_versions : (rs ss : List Firm) → AreVersionsOf rs ss → All HasVersion rs → list_all has_numbers ss ≡ list_all has_numbers rs
numbers_versions rs ss are has = all_versions has_numbers numbers_version rs ss are has

windows_version : (v : ℕ) (r : Firm) → windows_of (versioned v r) ≡ windows_of r
unfolding windows_of
windows_version v r = refl

windows_versions : (rs ss : List Firm) → AreVersionsOf rs ss → flat_map windows_of ss ≡ flat_map windows_of rs
windows_versions [] [] are = refl
windows_versions [] (s ∷ ss) are = absurd are
windows_versions (r ∷ rs) [] are = absurd are
windows_versions (r ∷ rs) (s ∷ ss) are =
    let head : windows_of s ≡ windows_of r = ap windows_of are.0.2 ∙ windows_version are.0.0 r in
    ap (λ (ws : List Window). ws ++ flat_map windows_of ss) head ∙ ap (λ (ws : List Window). windows_of r ++ ws) (windows_versions rs ss are.1)

pub set_versions : (rs ss : List Firm) → AreVersionsOf rs ss → All HasVersion rs → are_set ss ≡ are_set rs
unfolding are_set
set_versions [] [] are has = refl
set_versions [] (s ∷ ss) are has = absurd are
set_versions (r ∷ rs) [] are has = absurd are
set_versions (r ∷ rs) (s ∷ ss) are has =
    ap (λ (b : Bool). b && not (any_share (flat_map windows_of (s ∷ ss))) && is_list (list_of ss)) (numbers_versions (r ∷ rs) (s ∷ ss) are has)
    ∙ ap (λ (ws : List Window). list_all has_numbers (r ∷ rs) && not (any_share ws) && is_list (list_of ss)) (windows_versions (r ∷ rs) (s ∷ ss) are)
    ∙ ap (λ (ls : List ListRow). list_all has_numbers (r ∷ rs) && not (any_share (flat_map windows_of (r ∷ rs))) && is_list ls) (lists_versions rs ss are.1)

-- ---- a library's walk

after_names : (rs ss : List Firm) → AreVersionsOf rs ss → All HasVersion rs → list_all has_valid_name (drop 1 ss) ≡ list_all has_valid_name (drop 1 rs)
after_names [] [] are has = refl
after_names [] (s ∷ ss) are has = absurd are
after_names (r ∷ rs) [] are has = absurd are
after_names (r ∷ rs) (s ∷ ss) are has = all_versions has_valid_name (λ v x is e. refl) rs ss are.1 (All-tail HasVersion r rs has)

begins_library : (rs ss : List Firm) → AreVersionsOf rs ss → BeginsWithLibrary rs → BeginsWithLibrary ss
begins_library [] [] are first = first
begins_library [] (s ∷ ss) are first = absurd are
begins_library (r ∷ rs) [] are first = absurd are
begins_library (r ∷ rs) (s ∷ ss) are first = ap (λ (x : Firm). is_library x.object.kind) are.0.2 ∙ first

pub library_versions : (rs ss : List Firm) → AreVersionsOf rs ss → All HasVersion rs → IsLibraryWalk rs → IsLibraryWalk ss
library_versions rs ss are has walk = record {
  first = begins_library rs ss are walk.first;
  numbers = true_all has_numbers ss (numbers_versions rs ss are has ∙ all_true has_numbers rs walk.numbers);
  names = after_names rs ss are has ∙ walk.names;
}

pub begins_program : (rs ss : List Firm) → AreVersionsOf rs ss → BeginsWithProgram rs → BeginsWithProgram ss
begins_program [] [] are first = first
begins_program [] (s ∷ ss) are first = absurd are
begins_program (r ∷ rs) [] are first = absurd are
begins_program (r ∷ rs) (s ∷ ss) are first = ap (λ (x : Firm). is_library x.object.kind) are.0.2 ∙ first

-- its form by its own walk
pub form_versions : (r : Firm) (rs ss : List Firm) → AreVersionsOf (r ∷ rs) ss → All HasVersion (r ∷ rs) → AreSources (r ∷ rs) → IsLibraryWalk (r ∷ rs) → IsPlaced r.member.slot r.object
    → IsOwnForm (objects_of (r ∷ rs)) (slots_of (r ∷ rs)) r.member.original (library_file ss) r.object r.member.slot
form_versions r rs [] are has sources walk placed = absurd are
form_versions r rs (s ∷ ss) are has sources walk placed =
    let ms : List Firm = s ∷ ss in
    let here : IsPlaced s.member.slot s.object = subst (λ (x : Firm). IsPlaced x.member.slot x.object) (sym are.0.2) placed in
    let own : IsOwnForm (objects_of ms) (slots_of ms) s.member.original (library_file ms) s.object s.member.slot =
    own_form s ss (sources_versions (r ∷ rs) ms are sources) (library_versions (r ∷ rs) ms are has walk) here in
    let moved : IsOwnForm (objects_of ms) (slots_of ms) r.member.original (library_file ms) r.object r.member.slot =
    subst (λ (x : Firm). IsOwnForm (objects_of ms) (slots_of ms) x.member.original (library_file ms) x.object x.member.slot) are.0.2 own in
    subst (λ (ps : List ℕ). IsOwnForm (objects_of (r ∷ rs)) ps r.member.original (library_file ms) r.object r.member.slot) (slots_versions (r ∷ rs) ms are)
    (subst (λ (os : List Object). IsOwnForm os (slots_of ms) r.member.original (library_file ms) r.object r.member.slot) (objects_versions (r ∷ rs) ms are) moved)

-- ---- the own walk of a member

abbrev IsVersionIf : Option Firm → Option Firm → Type 0
IsVersionIf None None = Unit {0}
IsVersionIf None (Some s) = ⊥
IsVersionIf (Some r) None = ⊥
IsVersionIf (Some r) (Some s) = IsVersionOf r s

named_versions : (k : List ℕ) (rs ss : List Firm) → AreVersionsOf rs ss → IsVersionIf (named rs k) (named ss k)
named_versions k [] [] are = tt
named_versions k [] (s ∷ ss) are = absurd are
named_versions k (r ∷ rs) [] are = absurd are
named_versions k (r ∷ rs) (s ∷ ss) are =
    let same : bytes_eq s.member.name k ≡ bytes_eq r.member.name k = ap (λ (x : Firm). bytes_eq x.member.name k) are.0.2 in
    elim (cases_Bool (bytes_eq r.member.name k)) [
      | inl hit ↦
          let there : bytes_eq s.member.name k ≡ true = same ∙ hit in
          rw (hit, there) are.0
      | inr miss ↦
          let there : bytes_eq s.member.name k ≡ false = same ∙ miss in
          rw (miss, there) (named_versions k rs ss are.1)
    ]

cons_versions : (r s : Option Firm) (rs ss : List Firm) → IsVersionIf r s → AreVersionsOf rs ss → AreVersionsOf (cons_option r rs) (cons_option s ss)
cons_versions None None rs ss one are = are
cons_versions None (Some s) rs ss one are = absurd one
cons_versions (Some r) None rs ss one are = absurd one
cons_versions (Some r) (Some s) rs ss one are = (one, are)

found_versions : (rs ss : List Firm) → AreVersionsOf rs ss → (ks : List (List ℕ)) → AreVersionsOf (filter_map (named rs) ks) (filter_map (named ss) ks)
found_versions rs ss are [] = tt
found_versions rs ss are (k ∷ ks) = cons_versions (named rs k) (named ss k) (filter_map (named rs) ks) (filter_map (named ss) ks) (named_versions k rs ss are) (found_versions rs ss are ks)

pub own_versions : (rs ss : List Firm) (k : List ℕ) → AreVersionsOf rs ss → AreVersionsOf (own_walk rs k) (own_walk ss k)
unfolding own_walk
own_versions rs ss k are =
    let found : AreVersionsOf (filter_map (named rs) (names_in (walk_over (told (walked_of rs)) k))) (filter_map (named ss) (names_in (walk_over (told (walked_of rs)) k))) =
    found_versions rs ss are (names_in (walk_over (told (walked_of rs)) k)) in
    subst (λ (w : Walked). AreVersionsOf (filter_map (named rs) (names_in (walk_over (told (walked_of rs)) k))) (filter_map (named ss) (names_in (walk_over (told w) k)))) (sym (walked_versions rs ss are)) found

-- ---- a member

pub member_versions : (rs ss : List Firm) (m : ℕ) (r : Firm) → AreVersionsOf rs ss → slice_get rs m ≡ Some r → (v : ℕ) × (slice_get ss m ≡ Some (versioned v r))
member_versions [] ss m r are at = absurd (none-some r at)
member_versions (x ∷ rs) [] m r are at = absurd are
member_versions (x ∷ rs) (s ∷ ss) zero r are at = (are.0.0, ap (λ (y : Firm). Some y) are.0.2 ∙ ap (λ (y : Firm). Some (versioned are.0.0 y)) (same_Some x r at))
member_versions (x ∷ rs) (s ∷ ss) (suc m) r are at = member_versions rs ss m r are.1 at

-- ---- the members of a row's walk are in version 2

in_two : (n : Numbered) (rows : List ℕ) (rs : List Firm) → AllZip (IsFirmAt n) rows rs → All HasVersion rs
in_two n [] [] zip = λ i d lt. absurd (omega (arith, lt))
in_two n [] (r ∷ rs) zip = absurd zip
in_two n (row ∷ rows) [] zip = absurd zip
in_two n (row ∷ rows) (r ∷ rs) zip =
    let f : IsRowOf n row r = row_of n row r zip.0 in
    let two : HasVersion r = subst HasVersion f.is (version_is Two) in
    All-cons HasVersion r rs two (in_two n rows rs zip.1)

pub firms_in_two : (n : Numbered) (row : ℕ) → IsWalkRow n row → All HasVersion (firms_of n row)
firms_in_two n row walk = in_two n (walk_of n row) (firms_of n row) (firms_zip n row walk.rows)

-- ---- the bytes at the places of the first

pub memory_versions : (rs ss : List Firm) (gs : List Meaning) → AreVersionsOf rs ss → memory_of ss gs ≡ memory_of rs gs
memory_versions rs ss gs are =
    ap (λ (ps : List ℕ). relocated (layered (all_pieces (loaded_objects ps (originals_of ss) (objects_of ss)))) gs) (slots_versions rs ss are)
    ∙ (ap (λ (bs : List (List ℕ)). relocated (layered (all_pieces (loaded_objects (slots_of rs) bs (objects_of ss)))) gs) (originals_versions rs ss are)
    ∙ ap (λ (os : List Object). relocated (layered (all_pieces (loaded_objects (slots_of rs) (originals_of rs) os))) gs) (objects_versions rs ss are))

fills_first : (rs ss : List Firm) (memory : Memory) → AreVersionsOf rs ss → fills_of ss memory ≡ fills_of rs memory
fills_first [] [] memory are = refl
fills_first [] (s ∷ ss) memory are = absurd are
fills_first (r ∷ rs) [] memory are = absurd are
fills_first (r ∷ rs) (s ∷ ss) memory are = ap (λ (x : Firm). fills memory x.object.relocations) are.0.2

pub fills_versions : (rs ss : List Firm) (gs : List Meaning) → AreVersionsOf rs ss → fills_of ss (memory_of ss gs) ≡ fills_of rs (memory_of rs gs)
fills_versions rs ss gs are = ap (fills_of ss) (memory_versions rs ss gs are) ∙ fills_first rs ss (memory_of rs gs) are
