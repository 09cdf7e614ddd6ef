-- The members of a walk after the first, by their rows: they are libraries.
use Rattle.std.proofs.Common.{◌≡◌, ℕ, suc, ◌<◌, true, false, List, [], ◌∷◌, Some, refl, sym, ap, subst, ◌∙◌, arith, inl, inr}
use Rattle.std.specs.Prelude.{slice_get}
use Rattle.std.specs.List.{All}
use Rattle.std.proofs.lemmas.Bool.{true≢false}
use Rattle.std.proofs.lemmas.Option.{same_Some}
use Rattle.pl_cone.specs.Taken.{object_by}
use Rattle.pl_cone.specs.WalkRows.{HasOwnWalk, IsLibraryOf}
use Rattle.pl_cone.specs.declared.taken.Taken.{Taken}
use Rattle.pl_cone.proofs.CurrencyLaws.{all_by_index}
use Rattle.pl_cone.proofs.WalkRowLaws.{member_row}
use Rattle.pl_conflict.specs.Prelinked.{Firm, objects_of}
use Rattle.pl_conflict.proofs.MemberLaws.{HasOwn}
use Rattle.pl_conflict.proofs.SetLaws.{HasLibrary}
use Rattle.pl_elf.specs.Kinds.{is_library, is_static}
use Rattle.pl_elf.specs.declared.kind.Kind.{Kind}
use Rattle.pl_elf.specs.declared.kind.Kind.TheVariants.{Library, Program, Static}
use Rattle.pl_object.specs.declared.object.Object.{Object}
use Rattle.pl_rewrite.specs.Rows.{IsFirmAt, IsNumbered, IsWalkRow, firms_of, is_library_row, of_firm, walk_of}
use Rattle.pl_rewrite.specs.Sources.{AreSources}
use Rattle.pl_rewrite.specs.declared.numbers.Numbered.{Numbered}
use Rattle.pl_rewrite.proofs.FirmLaws.{own_all}
use Rattle.pl_rewrite.proofs.FirmRowLaws.{IsRowOf, firm_index, firms_zip, row_of}
use Rattle.pl_rewrite.proofs.NewLibraryLaws.{IsFirst, first_is}
use Rattle.pl_rewrite.proofs.NumberedLaws.{has_walk, walk_is}
use Rattle.pl_rewrite.proofs.SceneLaws.{member_at, member_of_object}
use Rattle.pl_scope.specs.Members.{IsLinked}

-- ---- the first

linked_kind : (k : Kind) → is_static k ≡ false → IsLinked k
linked_kind Library other = inl refl
linked_kind Program other = inr refl
linked_kind Static other = absurd (true≢false other)

-- the object of a row's walk is its member's
pub same_object : (n : Numbered) (row : ℕ) (r : Firm) → (h : HasOwnWalk n.files.now n.walks.now row) → IsFirmAt n row r → h.object ≡ r.object
same_object n row r h at =
    let f : IsRowOf n row r = row_of n row r at in
    let same : h.taken ≡ f.taken = same_Some h.taken f.taken (sym h.file ∙ f.at) in
    same_Some h.object r.object (sym h.there ∙ (ap (λ (t : Taken). object_by t.entry) same ∙ f.object))

-- and its name
pub same_name : (n : Numbered) (row : ℕ) (r : Firm) → (h : HasOwnWalk n.files.now n.walks.now row) → IsFirmAt n row r → h.taken.name ≡ r.member.name
same_name n row r h at =
    let f : IsRowOf n row r = row_of n row r at in
    let same : h.taken ≡ f.taken = same_Some h.taken f.taken (sym h.file ∙ f.at) in
    ap (λ (t : Taken). t.name) same ∙ ap (λ (x : Firm). x.member.name) f.is

pub first_linked : (n : Numbered) (row : ℕ) → IsWalkRow n row → (h : HasOwnWalk n.files.now n.walks.now row) → IsLinked h.object.kind
first_linked n row walk h =
    let first : IsFirst n row = first_is n row walk in
    let own : HasOwn first.firm = own_all (first.firm ∷ first.others) (subst AreSources first.is walk.sources) 0 first.firm (omega arith) in
    subst (λ (o : Object). IsLinked o.kind) (sym (same_object n row first.firm h first.at)) (linked_kind first.firm.object.kind own.firm.dynamic)

-- ---- a later member

-- the member of an index after the first, and the row of its library
pub record IsLater (n : Numbered) (row m : ℕ) (o : Object) : Type 0 where
  pub firm : Firm
  pub at : slice_get (firms_of n row) m ≡ Some firm
  pub object : firm.object ≡ o
  pub number : ℕ
  pub there : slice_get (walk_of n row) m ≡ Some number
  pub is : IsFirmAt n number firm
  pub library : IsLibraryOf n.files.now n.walks.now (walk_of n row) number

pub later : (n : Numbered) (row m : ℕ) (o : Object) → IsNumbered n → IsWalkRow n row → 0 < m → slice_get (objects_of (firms_of n row)) m ≡ Some o → IsLater n row m o
later n row m o numbered walk some at =
    let h : HasOwnWalk n.files.now n.walks.now row = has_walk n row numbered walk in
    let rows : walk_of n row ≡ row ∷ h.others = walk_is n row h in
    let x = member_of_object (firms_of n row) m o at in
    let k = firm_index n (walk_of n row) (firms_of n row) m x.0 (firms_zip n row walk.rows) x.1 in
    let there : slice_get (row ∷ h.others) m ≡ Some k.0 = ap (λ (rs : List ℕ). slice_get rs m) (sym rows) ∙ k.1 in
    record {
      firm = x.0;
      at = x.1;
      object = x.2;
      number = k.0;
      there = k.1;
      is = k.2;
      library = subst (λ (rs : List ℕ). IsLibraryOf n.files.now n.walks.now rs k.0) (sym rows) (member_row numbered.taken.0 n.files.now n.walks.now numbered.taken.1 numbered.walks row h m k.0 (first_linked n row walk h) some there);
    }

pub later_kind : (n : Numbered) (row m : ℕ) (o : Object) → (x : IsLater n row m o) → is_library x.firm.object.kind ≡ true
later_kind n row m o x = ap (λ (p : Object). is_library p.kind) (sym (same_object n x.number x.firm x.library.own x.is)) ∙ ap is_library x.library.kind

pub later_row : (n : Numbered) (row m : ℕ) (o : Object) → (x : IsLater n row m o) → is_library_row n x.number ≡ true
later_row n row m o x = ap (of_firm false (λ (r : Firm). is_library r.object.kind)) x.is ∙ later_kind n row m o x

-- all members after the first
pub others_libraries : (n : Numbered) (row : ℕ) (r : Firm) (others : List Firm) → IsNumbered n → IsWalkRow n row → firms_of n row ≡ r ∷ others → All HasLibrary others
others_libraries n row r others numbered walk is = all_by_index HasLibrary others (λ i x at.
    let here : slice_get (firms_of n row) (suc i) ≡ Some x = ap (λ (rs : List Firm). slice_get rs (suc i)) is ∙ at in
    let there = later n row (suc i) x.object numbered walk (omega arith) (member_at (firms_of n row) (suc i) x here).object in
    let same : there.firm ≡ x = same_Some there.firm x (sym there.at ∙ here) in
    ap (λ (y : Firm). is_library y.object.kind) (sym same) ∙ later_kind n row (suc i) x.object there)
