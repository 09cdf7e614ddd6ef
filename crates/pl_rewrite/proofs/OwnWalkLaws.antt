-- The own walk of a member among the members of a walk is that of its row.
use Rattle.std.proofs.Common.{◌≡◌, ℕ, zero, suc, ◌+◌, ◌<◌, true, false, List, [], ◌∷◌, map, Option, Some, Result, Ok, refl, sym, ap, subst, ◌∙◌, inl, inr}
use Rattle.std.specs.Prelude.{◌||◌, slice_get}
use Rattle.std.specs.List.{All, AllByRecursion, AllZip, IsDistinct, cons_option, filter_map}
use Rattle.std.specs.Str.{bytes_eq}
use Rattle.std.proofs.lemmas.Bool.{cases_Bool, false≢true, or_right}
use Rattle.std.proofs.lemmas.List.Elements.{All-cons, All-nil}
use Rattle.std.proofs.lemmas.Option.{none-some, same_Some}
use Rattle.pl_base.proofs.AnswerLaws.{ok_same}
use Rattle.pl_cone.specs.Table.{AreRows, walked_by}
use Rattle.pl_cone.specs.Taken.{files_in, names_of}
use Rattle.pl_cone.specs.declared.taken.Taken.{Taken}
use Rattle.pl_cone.specs.Folder.{IsWithin}
use Rattle.pl_cone.proofs.RowLaws.{found_holds}
use Rattle.pl_conflict.specs.Format.{Causes, format}
use Rattle.pl_conflict.specs.Prelinked.{Firm, named, names_in, own_walk, walked_of}
use Rattle.pl_object.specs.declared.object.Object.{Object}
use Rattle.pl_scope.specs.Members.{IsLinked, has, names, told}
use Rattle.pl_scope.specs.Walk.{Walked, walk_over}
use Rattle.pl_scope.specs.declared.fault.WalkFault.{WalkFault}
use Rattle.pl_scope.proofs.ClosureLaws.{member_told, member_walk}
use Rattle.pl_scope.proofs.NameLaws.{eq_refl, same_name}
use Rattle.law_sound.specs.Rule.{objects, walk_in}
use Rattle.pl_rewrite.specs.Rows.{IsFirmAt, firms_of, walk_of}
use Rattle.pl_rewrite.specs.declared.numbers.Numbered.{Numbered}
use Rattle.pl_rewrite.proofs.FirmRowLaws.{IsRowOf, firms_named, firms_zip, named_of, row_of}

-- ---- files with different names

none_equal : (n : List ℕ) (ts : List Taken) (j : ℕ) (u : Taken) → AllByRecursion (λ m. bytes_eq n m ≡ false) (names_of ts) → slice_get ts j ≡ Some u → bytes_eq n u.name ≡ false
none_equal n [] j u all at = absurd (none-some u at)
none_equal n (t ∷ ts) zero u all at = subst (λ (x : Taken). bytes_eq n x.name ≡ false) (same_Some t u at) all.0
none_equal n (t ∷ ts) (suc j) u all at = none_equal n ts j u all.1 at

differs : (t u : Taken) → t.name ≡ u.name → bytes_eq t.name u.name ≡ false → ⊥
differs t u same e = false≢true (sym e ∙ ap (bytes_eq t.name) (sym same) ∙ eq_refl t.name)

distinct_rows : (ts : List Taken) (i j : ℕ) (t u : Taken) → IsDistinct bytes_eq (names_of ts) → slice_get ts i ≡ Some t → slice_get ts j ≡ Some u → t.name ≡ u.name → i ≡ j
unfolding IsDistinct
distinct_rows [] i j t u distinct at there same = absurd (none-some t at)
distinct_rows (x ∷ ts) zero zero t u distinct at there same = refl
distinct_rows (x ∷ ts) zero (suc j) t u distinct at there same =
    let is : x ≡ t = same_Some x t at in
    absurd (differs x u (ap (λ (y : Taken). y.name) is ∙ same) (none_equal x.name ts j u distinct.0 there))
distinct_rows (x ∷ ts) (suc i) zero t u distinct at there same =
    let is : x ≡ u = same_Some x u there in
    absurd (differs x t (ap (λ (y : Taken). y.name) is ∙ sym same) (none_equal x.name ts i t distinct.0 at))
distinct_rows (x ∷ ts) (suc i) (suc j) t u distinct at there same = ap suc (distinct_rows ts i j t u distinct.1 at there same)

row_name : (n : Numbered) (row : ℕ) (r : Firm) (f : IsRowOf n row r) → f.taken.name ≡ r.member.name
row_name n row r f = ap (λ (x : Firm). x.member.name) f.is

-- a name has one member
pub firm_same : (n : Numbered) (i j : ℕ) (r s : Firm) → IsDistinct bytes_eq (names_of n.files.now) → IsFirmAt n i r → IsFirmAt n j s → r.member.name ≡ s.member.name → r ≡ s
firm_same n i j r s distinct at there same =
    let f = row_of n i r at in
    let g = row_of n j s there in
    let rows : i ≡ j = distinct_rows n.files.now i j f.taken g.taken distinct f.at g.at (row_name n i r f ∙ same ∙ sym (row_name n j s g)) in
    let moved : IsFirmAt n i s = subst (λ (k : ℕ). IsFirmAt n k s) (sym rows) there in
    same_Some r s (sym at ∙ moved)

-- ---- a member by its name

record IsThere (n : Numbered) (rs : List Firm) (k : List ℕ) : Type 0 where
  firm : Firm
  is : named rs k ≡ Some firm
  name : firm.member.name ≡ k
  row : ℕ
  at : IsFirmAt n row firm

there : (n : Numbered) (rows : List ℕ) (rs : List Firm) (k : List ℕ) → AllZip (IsFirmAt n) rows rs → has (names (map named_of rs)) k ≡ true → IsThere n rs k
there n rows [] k zip some = absurd (false≢true some)
there n [] (r ∷ rs) k zip some = absurd zip
there n (row ∷ rows) (r ∷ rs) k zip some = elim (cases_Bool (bytes_eq r.member.name k)) [
  | inl hit ↦ record { firm = r; is = rw hit refl; name = same_name r.member.name k hit; row = row; at = zip.0 }
  | inr miss ↦
      let later = there n rows rs k zip.1 (rw miss at some) in
      record { firm = later.firm; is = rw miss later.is; name = later.name; row = later.row; at = later.at }
]

own_found : (n : Numbered) (rs : List Firm) (rows : List ℕ) (walk : List ℕ) (inner : List Firm) → IsDistinct bytes_eq (names_of n.files.now) → AllZip (IsFirmAt n) rows rs → AllZip (IsFirmAt n) walk inner
    → ((k : List ℕ) → has (names (map named_of inner)) k ≡ true → has (names (map named_of rs)) k ≡ true) → filter_map (named rs) (names (map named_of inner)) ≡ inner
own_found n rs rows [] [] distinct zip own within = refl
own_found n rs rows [] (r ∷ inner) distinct zip own within = absurd own
own_found n rs rows (row ∷ walk) [] distinct zip own within = absurd own
own_found n rs rows (row ∷ walk) (r ∷ inner) distinct zip own within =
    let first : has (names (map named_of (r ∷ inner))) r.member.name ≡ true = rw (eq_refl r.member.name) refl in
    let one = there n rows rs r.member.name zip (within r.member.name first) in
    let same : one.firm ≡ r = firm_same n one.row row one.firm r distinct one.at own.0 one.name in
    let later : (k : List ℕ) → has (names (map named_of inner)) k ≡ true → has (names (map named_of rs)) k ≡ true = λ k some. within k (or_right (bytes_eq r.member.name k) (has (names (map named_of inner)) k) some) in
    ap (λ (o : Option Firm). cons_option o (filter_map (named rs) (names (map named_of inner)))) (one.is ∙ ap (λ (x : Firm). Some x) same)
    ∙ ap (λ (xs : List Firm). r ∷ xs) (own_found n rs rows walk inner distinct zip own.1 later)

-- ---- the own walk

own_by : (rs : List Firm) (inner : Walked) (k : List ℕ) → walk_over (told (walked_of rs)) k ≡ Ok inner → own_walk rs k ≡ filter_map (named rs) (names inner)
unfolding own_walk
own_by rs inner k over = ap (λ (r : Result Walked WalkFault). filter_map (named rs) (names_in r)) over

-- the own walk of a member of a walk is its row's
pub own_walk_is : {E : Type 0} (causes : Causes E) (n : Numbered) (row other : ℕ) (name k : List ℕ) → IsDistinct bytes_eq (names_of n.files.now) → AreRows n.files.now (walk_of n row) → AreRows n.files.now (walk_of n other)
    → walk_in (format causes) (files_in n.files.now) name ≡ Ok (walked_by n.files.now (walk_of n row)) → walk_in (format causes) (files_in n.files.now) k ≡ Ok (walked_by n.files.now (walk_of n other))
    → ((o : Object) → objects (format causes) (files_in n.files.now) name ≡ Ok o → IsLinked o.kind) → has (names (walked_by n.files.now (walk_of n row))) k ≡ true → own_walk (firms_of n row) k ≡ firms_of n other
own_walk_is causes n row other name k distinct are others walks own linked some =
    let files = objects (format causes) (files_in n.files.now) in
    let ws = walked_by n.files.now (walk_of n row) in
    let rs = firms_of n row in
    let inner = firms_of n other in
    let told_walk = member_told causes.walk files name k ws walks linked some in
    let within = member_walk causes.walk files name k ws walks linked some in
    let same : told_walk.inner ≡ walked_by n.files.now (walk_of n other) = ok_same told_walk.inner (walked_by n.files.now (walk_of n other)) (sym told_walk.walks ∙ own) in
    let same_within : within.walked ≡ walked_by n.files.now (walk_of n other) = ok_same within.walked (walked_by n.files.now (walk_of n other)) (sym within.walks ∙ own) in
    let over : walk_over (told (walked_of rs)) k ≡ Ok (map named_of inner) = ap (λ (vs : Walked). walk_over (told vs) k) (firms_named n row) ∙ told_walk.over ∙ ap (λ (vs : Walked). Ok vs) (same ∙ sym (firms_named n other)) in
    let subset : (j : List ℕ) → has (names (map named_of inner)) j ≡ true → has (names (map named_of rs)) j ≡ true = λ j there.
    subst (λ (vs : Walked). has (names vs) j ≡ true) (sym (firms_named n row)) (within.subset j (subst (λ (vs : Walked). has (names vs) j ≡ true) (firms_named n other ∙ sym same_within) there)) in
    own_by rs (map named_of inner) k over ∙ own_found n rs (walk_of n row) (walk_of n other) inner distinct (firms_zip n row are) (firms_zip n other others) subset

-- ---- what holds of all members of a walk holds of those of a walk within it

inner_all : (P : Firm → Type 0) (n : Numbered) (rs : List Firm) (rows : List ℕ) (walk : List ℕ) (inner : List Firm) → IsDistinct bytes_eq (names_of n.files.now) → AllZip (IsFirmAt n) rows rs → AllZip (IsFirmAt n) walk inner
    → ((k : List ℕ) → has (names (map named_of inner)) k ≡ true → has (names (map named_of rs)) k ≡ true) → All P rs → All P inner
inner_all P n rs rows [] [] distinct zip own within all = All-nil P
inner_all P n rs rows [] (r ∷ inner) distinct zip own within all = absurd own
inner_all P n rs rows (row ∷ walk) [] distinct zip own within all = absurd own
inner_all P n rs rows (row ∷ walk) (r ∷ inner) distinct zip own within all =
    let first : has (names (map named_of (r ∷ inner))) r.member.name ≡ true = rw (eq_refl r.member.name) refl in
    let one = there n rows rs r.member.name zip (within r.member.name first) in
    let same : one.firm ≡ r = firm_same n one.row row one.firm r distinct one.at own.0 one.name in
    let later : (k : List ℕ) → has (names (map named_of inner)) k ≡ true → has (names (map named_of rs)) k ≡ true = λ k some. within k (or_right (bytes_eq r.member.name k) (has (names (map named_of inner)) k) some) in
    All-cons P r inner (subst P same (found_holds P (λ (x : Firm). bytes_eq x.member.name r.member.name) rs one.firm all one.is)) (inner_all P n rs rows walk inner distinct zip own.1 later all)

pub members_within : (P : Firm → Type 0) (n : Numbered) (row other : ℕ) → IsDistinct bytes_eq (names_of n.files.now) → AreRows n.files.now (walk_of n row) → AreRows n.files.now (walk_of n other)
    → IsWithin (walked_by n.files.now (walk_of n other)) (walked_by n.files.now (walk_of n row)) → All P (firms_of n row) → All P (firms_of n other)
members_within P n row other distinct are others within all =
    inner_all P n (firms_of n row) (walk_of n row) (walk_of n other) (firms_of n other) distinct (firms_zip n row are) (firms_zip n other others)
    (λ j there.
    subst (λ (vs : Walked). has (names vs) j ≡ true) (sym (firms_named n row)) (within j (subst (λ (vs : Walked). has (names vs) j ≡ true) (firms_named n other) there))) all
