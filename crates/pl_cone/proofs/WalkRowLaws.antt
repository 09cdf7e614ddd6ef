-- The rows of a folder's files that have walks, and those of a table that may be prelinked, for the crates above.
use Rattle.std.proofs.Common.{◌≡◌, ℕ, zero, suc, ◌+◌, ◌<◌, Bool, true, false, List, [], ◌∷◌, length, map, Option, Some, None, Result, Ok, Err, refl, sym, ap, subst, ◌∙◌, arith, inl, inr}
use Rattle.std.specs.Prelude.{slice_get, if◌then◌else◌}
use Rattle.std.specs.List.{IsDistinct}
use Rattle.std.specs.Option.{option_map}
use Rattle.std.specs.Str.{bytes_eq}
use Rattle.std.proofs.lemmas.Bool.{false≢true}
use Rattle.std.proofs.lemmas.List.{length-map}
use Rattle.std.proofs.lemmas.Option.{none-some, same_Some, slice_get_within, slice_get-map, get_or_from_slice_get}
use Rattle.pl_base.specs.Answers.{◌>>=◌}
use Rattle.pl_conflict.specs.Format.{format}
use Rattle.pl_elf.specs.declared.kind.Kind.{Kind}
use Rattle.pl_elf.specs.declared.kind.Kind.TheVariants.{Program, Library, Static}
use Rattle.pl_elf.specs.declared.range.Range.{Range}
use Rattle.pl_object.specs.declared.object.Object.{Object}
use Rattle.pl_object.specs.declared.reloc.Reloc.{Reloc}
use Rattle.pl_scope.specs.Folder.{IsFolderIndex}
use Rattle.pl_scope.specs.Members.{names, has, IsLinked}
use Rattle.pl_scope.specs.Scope.{objects}
use Rattle.pl_scope.specs.Walk.{Walked}
use Rattle.pl_scope.specs.declared.index.Entry.{Entry}
use Rattle.pl_scope.proofs.NameLaws.{eq_refl}
use Rattle.pl_scope.proofs.StepLaws.{err_ok, same_ok}
use Rattle.pl_scope.proofs.WalkedLaws.{member_file, member_walk_within}
use Rattle.law_sound.specs.Rule as sound
use Rattle.pl_value.specs.Targets.{base_of}
use Rattle.pl_cone.specs.Candidates.{all_formed, fit, kind_of, check_links}
use Rattle.pl_cone.specs.Folder.{IsMember, IsWithin}
use Rattle.pl_cone.specs.OneWord.{GivesOneWordBy, GivesOneWord}
use Rattle.pl_cone.specs.Plans.{cause_of}
use Rattle.pl_cone.specs.Skipped.{skip_causes, skip_of}
use Rattle.pl_cone.specs.Skips.{of_walk}
use Rattle.pl_cone.specs.Table.{AreRows, AreWalks, IsRunTable, IsWalkOfFile, faults_of, folder_objects, has_no_cause, is_candidate_row, refusal_of, refusals_in, rows_in, walk_for, walk_of, walked_by}
use Rattle.pl_cone.specs.Taken.{AreTaken, files_in, names_of, object_by}
use Rattle.pl_cone.specs.WalkRows.{GivesOneWordAt, HasOwnWalk, IsCandidateRow, IsLibraryOf}
use Rattle.pl_cone.specs.declared.skip.Skip.{Skip}
use Rattle.pl_cone.specs.declared.skip.Skip.TheVariants as skips
use Rattle.pl_cone.specs.declared.table.RunTable.{RunTable}
use Rattle.pl_cone.specs.declared.taken.Taken.{Taken}
use Rattle.pl_cone.proofs.CurrencyLaws.{cause_at}
use Rattle.pl_cone.proofs.FolderLaws.{member_has}
use Rattle.pl_cone.proofs.MembersLaws.{HasMember, IsRowMember, distinct_at, has_member_at, row_member}
use Rattle.pl_cone.proofs.NeedLaws.{slice_get_at}
use Rattle.pl_cone.proofs.OneWordLaws.{one_word}
use Rattle.pl_cone.proofs.RowLaws.{differ_at, row_is}
use Rattle.pl_cone.proofs.SingleLaws.{folder_by, hashes_single}
use Rattle.pl_cone.proofs.StandLaws.{cause_fit, skip_is}
use Rattle.pl_cone.proofs.TellLaws.{fit_library, fit_program, fit_static, formed_each, formed_within, later_member}
use Rattle.pl_cone.proofs.WalkLaws.{IsFirst, first_is, first_member, refusal_at, rows_told, walk_first, walk_made, walk_some}

-- ---- the row of a name

name_at_row : (ts : List Taken) (i : ℕ) (t : Taken) → slice_get ts i ≡ Some t → slice_get (names_of ts) i ≡ Some t.name
name_at_row ts i t at = slice_get-map (λ (x : Taken). x.name) ts i ∙ ap (option_map (λ (x : Taken). x.name)) at

-- files with one name are one row
pub same_row : (ts : List Taken) (i j : ℕ) (t u : Taken) → IsDistinct bytes_eq (names_of ts) → slice_get ts i ≡ Some t → slice_get ts j ≡ Some u → t.name ≡ u.name → i ≡ j
same_row ts i j t u distinct at there same =
    distinct_at (names_of ts) i j t.name distinct (name_at_row ts i t at) (name_at_row ts j u there ∙ ap (λ (n : List ℕ). Some n) (sym same))

-- the row of a name; 0 where it has none
abbrev row_named : List Taken → List ℕ → ℕ
row_named [] n = 0
row_named (t ∷ ts) n = if bytes_eq t.name n then 0 else suc (row_named ts n)

row_of : (ts : List Taken) (i : ℕ) (t : Taken) → IsDistinct bytes_eq (names_of ts) → slice_get ts i ≡ Some t → row_named ts t.name ≡ i
unfolding IsDistinct
row_of [] i t distinct at = absurd (none-some t at)
row_of (x ∷ ts) zero t distinct at =
    let same : x ≡ t = same_Some x t at in
    let hit : bytes_eq x.name t.name ≡ true = ap (λ (y : Taken). bytes_eq y.name t.name) same ∙ eq_refl t.name in
    ap (λ (b : Bool). if b then 0 else suc (row_named ts t.name)) hit
row_of (x ∷ ts) (suc i) t distinct at =
    let miss : bytes_eq x.name t.name ≡ false = differ_at (λ (n : List ℕ). bytes_eq x.name n ≡ false) ts i t distinct.0 at in
    ap (λ (b : Bool). if b then 0 else suc (row_named ts t.name)) miss ∙ ap suc (row_of ts i t distinct.1 at)

-- ---- the walk of a row

first_row : (ts : List Taken) (row first : ℕ) (others : List ℕ) (t : Taken) → IsDistinct bytes_eq (names_of ts) → slice_get ts row ≡ Some t → AreRows ts (first ∷ others) → walk_for ts t.name ≡ Ok (walked_by ts (first ∷ others)) → first ≡ row
first_row ts row first others t distinct at rows told =
    let h : HasMember ts (first ∷ others) 0 first = has_member_at ts (first ∷ others) 0 first rows.each refl in
    let is : IsMember (walked_by ts (first ∷ others)) 0 t.name = first_member ts t.name (walked_by ts (first ∷ others)) told in
    let pair : (h.taken.name, h.object) ≡ (t.name, is.object) = same_Some (h.taken.name, h.object) (t.name, is.object) (sym h.at ∙ is.at) in
    same_row ts first row h.taken t distinct h.file at (ap (λ (p : List ℕ × Object). p.0) pair)

-- a walk that is told by rows
pub told_walk : (region : Range) (ts : List Taken) (walks : List (List ℕ)) (row : ℕ) (t : Taken) (rows : List ℕ) → AreTaken region ts → slice_get ts row ≡ Some t → slice_get walks row ≡ Some rows → AreRows ts rows → walk_for ts t.name ≡ Ok (walked_by ts rows) → HasOwnWalk ts walks row
told_walk region ts walks row t [] taken at walk are told = absurd (omega (arith, walk_some ts t.name (walked_by ts []) told))
told_walk region ts walks row t (first ∷ others) taken at walk are told =
    let same : first ≡ row = first_row ts row first others t taken.distinct at are told in
    let is : IsFirst t (walked_by ts (first ∷ others)) = first_is region ts row t (walked_by ts (first ∷ others)) taken at told in
    record {
      taken = t;
      object = is.object;
      others = others;
      file = at;
      there = is.there;
      walk = subst (λ (r : ℕ). slice_get walks row ≡ Some (r ∷ others)) same walk;
      rows = subst (λ (r : ℕ). AreRows ts (r ∷ others)) same are;
      told = subst (λ (r : ℕ). walk_for ts t.name ≡ Ok (walked_by ts (r ∷ others))) same told;
    }

by_cause : (ts : List Taken) (t : Taken) (first : ℕ) (others : List ℕ) (r : Result Walked Skip) → IsWalkOfFile ts t (first ∷ others) (refusal_of r) → AreRows ts (first ∷ others) × (walk_for ts t.name ≡ Ok (walked_by ts (first ∷ others)))
by_cause ts t first others (Ok ws) is = is
by_cause ts t first others (Err e) is = let none : first ∷ others ≡ [] = is.0 in absurd cc

-- a row of which rows are told has a walk
pub own_walk : (region : Range) (ts : List Taken) (walks : List (List ℕ)) (row first : ℕ) (others : List ℕ) → AreTaken region ts → AreWalks ts (record { walks = walks; causes = refusals_in ts }) → slice_get walks row ≡ Some (first ∷ others) → HasOwnWalk ts walks row
own_walk region ts walks row first others taken are walk =
    let within : row < length walks = slice_get_within walks row (first ∷ others) walk in
    let file = slice_get_at ts row (omega (arith, within, are.walks)) in
    let told = by_cause ts file.0 first others (walk_for ts file.0.name) (are.each row file.0 (first ∷ others) (refusal_of (walk_for ts file.0.name)) file.1 walk (refusal_at ts row file.0 file.1)) in
    told_walk region ts walks row file.0 (first ∷ others) taken file.1 walk told.0 told.1

some_rows : (x : Option (List ℕ)) (first : ℕ) (others : List ℕ) → rows_in x ≡ first ∷ others → x ≡ Some (first ∷ others)
some_rows None first others is = absurd cc
some_rows (Some rows) first others is = ap (λ (rs : List ℕ). Some rs) is

-- the same, of rows as they are read
pub own_walk_read : (region : Range) (ts : List Taken) (walks : List (List ℕ)) (row first : ℕ) (others : List ℕ) → AreTaken region ts → AreWalks ts (record { walks = walks; causes = refusals_in ts }) → rows_in (slice_get walks row) ≡ first ∷ others → HasOwnWalk ts walks row
own_walk_read region ts walks row first others taken are walk = own_walk region ts walks row first others taken are (some_rows (slice_get walks row) first others walk)

-- a row has one walk
pub one_walk : (ts : List Taken) (walks : List (List ℕ)) (r : ℕ) (a b : HasOwnWalk ts walks r) → (r ∷ a.others) ≡ (r ∷ b.others)
one_walk ts walks r a b = same_Some (r ∷ a.others) (r ∷ b.others) (sym a.walk ∙ b.walk)

-- ---- the members of a walk

first_kind : (region : Range) (ts : List Taken) (walks : List (List ℕ)) (row : ℕ) → AreTaken region ts → (h : HasOwnWalk ts walks row) → kind_of (walked_by ts (row ∷ h.others)) ≡ h.object.kind
first_kind region ts walks row taken h =
    let is : IsFirst h.taken (walked_by ts (row ∷ h.others)) = first_is region ts row h.taken (walked_by ts (row ∷ h.others)) taken h.file h.told in
    is.kind ∙ ap (λ (o : Object). o.kind) (same_Some is.object h.object (sym is.there ∙ h.there))

first_linked : (region : Range) (ts : List Taken) (walks : List (List ℕ)) (row : ℕ) (o : Object) → AreTaken region ts → (h : HasOwnWalk ts walks row) → IsLinked h.object.kind → sound.objects (format skip_causes) (files_in ts) h.taken.name ≡ Ok o → IsLinked o.kind
first_linked region ts walks row o taken h linked is =
    let i = walk_first ts h.taken.name (walked_by ts (row ∷ h.others)) h.told in
    let kind : h.object.kind ≡ o.kind = sym (first_kind region ts walks row taken h) ∙ (ap kind_of i.is ∙ ap (λ (p : Object). p.kind) (same_ok i.object o (sym i.file ∙ is))) in
    subst (λ (k : Kind). IsLinked k) kind linked

module _ (region : Range) (ts : List Taken) (walks : List (List ℕ)) (taken : AreTaken region ts) (are : AreWalks ts (record { walks = walks; causes = refusals_in ts })) (row : ℕ) (h : HasOwnWalk ts walks row) where
  abbrev ws : Walked
  ws = walked_by ts (row ∷ h.others)

  library_by : (m r : ℕ) (p : HasMember ts (row ∷ h.others) m r) → 0 < m → (own : HasOwnWalk ts walks r) → IsWithin (walked_by ts (r ∷ own.others)) ws → IsLibraryOf ts walks (row ∷ h.others) r
  library_by m r p some own within =
      let i = walk_first ts h.taken.name ws h.told in
      let file : sound.objects (format skip_causes) (files_in ts) p.taken.name ≡ Ok p.object = member_file of_walk (sound.objects (format skip_causes) (files_in ts)) h.taken.name ws h.told m (p.taken.name, p.object) p.at in
      let kind : p.object.kind ≡ Library = i.libraries p.taken.name p.object (later_member ws i.rest h.taken.name p.taken.name i.object p.object m i.is some p.at) file in
      let same : own.taken ≡ p.taken = same_Some own.taken p.taken (sym own.file ∙ p.file) in
      let object : own.object ≡ p.object = same_Some own.object p.object (sym own.there ∙ (ap (λ (t : Taken). object_by t.entry) same ∙ p.is)) in
      record { own = own; kind = ap (λ (o : Object). o.kind) object ∙ kind; within = within }

  -- a row of the walk after the first
  pub member_row : (m r : ℕ) → IsLinked h.object.kind → 0 < m → slice_get (row ∷ h.others) m ≡ Some r → IsLibraryOf ts walks (row ∷ h.others) r
  member_row m r linked some at =
      let p : HasMember ts (row ∷ h.others) m r = has_member_at ts (row ∷ h.others) m r h.rows.each at in
      let n : List ℕ = p.taken.name in
      let inner = member_walk_within of_walk (sound.objects (format skip_causes) (files_in ts)) h.taken.name n ws h.told (λ o is. first_linked region ts walks row o taken h linked is) (member_has ws m n (record { object = p.object; at = p.at })) in
      let walk = slice_get_at walks r (omega (arith, slice_get_within ts r p.taken p.file, are.walks)) in
      let told = rows_told ts walks r p.taken walk.0 inner.0 are p.file walk.1 inner.1 in
      let own : HasOwnWalk ts walks r = told_walk region ts walks r p.taken walk.0 taken p.file walk.1 told.0 told.1 in
      let rows : walk.0 ≡ r ∷ own.others = same_Some walk.0 (r ∷ own.others) (sym walk.1 ∙ own.walk) in
      let same : inner.0 ≡ walked_by ts (r ∷ own.others) = same_ok inner.0 (walked_by ts walk.0) (sym inner.1 ∙ told.1) ∙ ap (walked_by ts) rows in
      library_by m r p some own (λ k t. inner.2 k (subst (λ (v : Walked). has (names v) k ≡ true) (sym same) t))

  -- the walk of a row of the walk is within it
  pub member_within : (m r : ℕ) → IsLinked h.object.kind → slice_get (row ∷ h.others) m ≡ Some r → (own : HasOwnWalk ts walks r) → IsWithin (walked_by ts (r ∷ own.others)) ws
  member_within zero r linked at own =
      let same : row ≡ r = same_Some row r at in
      let rows : (r ∷ own.others) ≡ (row ∷ h.others) = same_Some (r ∷ own.others) (row ∷ h.others) (sym own.walk ∙ (ap (slice_get walks) (sym same) ∙ h.walk)) in
      λ k t. subst (λ (rs : List ℕ). has (names (walked_by ts rs)) k ≡ true) rows t
  member_within (suc m) r linked at own =
      let lib : IsLibraryOf ts walks (row ∷ h.others) r = member_row (suc m) r linked (omega arith) at in
      λ k t. lib.within k (subst (λ (rs : List ℕ). has (names (walked_by ts rs)) k ≡ true) (one_walk ts walks r own lib.own) t)

-- ---- one word

placed_at : (ts : List Taken) (place : ℕ → ℕ) (rows : List ℕ) (i : ℕ) (file : List ℕ) → IsDistinct bytes_eq (names_of ts) → length (walked_by ts rows) ≡ length rows → IsMember (walked_by ts rows) i file → base_of (map place rows) i ≡ place (row_named ts file)
placed_at ts place rows i file distinct each is =
    let f : IsRowMember ts rows i file is.object = row_member ts rows i file is.object each is.at in
    let here : slice_get (map place rows) i ≡ Some (place f.row) = slice_get-map place rows i ∙ ap (option_map place) f.at in
    let named : row_named ts file ≡ f.row = ap (row_named ts) (sym f.named) ∙ row_of ts f.row f.taken distinct f.file in
    get_or_from_slice_get (map place rows) i (place f.row) 0 here ∙ ap place (sym named)

-- a relocation of a member that is known to give one word gives it, where each row has its place
pub one_word_at : (region : Range) (ts : List Taken) (walks : List (List ℕ)) (index : List Entry) (place : ℕ → ℕ) (row m r : ℕ) → AreTaken region ts → AreWalks ts (record { walks = walks; causes = refusals_in ts }) → IsFolderIndex (folder_objects ts) index
    → (h : HasOwnWalk ts walks row) → IsLinked h.object.kind → slice_get (row ∷ h.others) m ≡ Some r → (own : HasOwnWalk ts walks r) → (d : Reloc) → GivesOneWordBy index (objects (walked_by ts (r ∷ own.others))) d → GivesOneWordAt ts place (row ∷ h.others) (r ∷ own.others) m d
one_word_at region ts walks index place row m r taken are is h linked at own d known =
    let ws : Walked = walked_by ts (row ∷ h.others) in
    let inner : Walked = walked_by ts (r ∷ own.others) in
    let n : List ℕ = own.taken.name in
    let p : HasMember ts (row ∷ h.others) m r = has_member_at ts (row ∷ h.others) m r h.rows.each at in
    let same : p.taken ≡ own.taken = same_Some p.taken own.taken (sym p.file ∙ own.file) in
    let named : IsMember ws m n = record { object = p.object; at = p.at ∙ ap (λ (t : Taken). Some (t.name, p.object)) same } in
    let whole : GivesOneWord (folder_by ts) n inner d =
    one_word (folder_by ts) index n inner d (record { hashes = hashes_single ts index is; made = walk_made region ts n inner taken own.told; first = first_member ts n inner own.told }) known in
    let word = whole (λ k. place (row_named ts k)) in
    record {
      word = word.0;
      own = λ modules. word.1 inner 0 (map place (r ∷ own.others)) modules (record {
        made = walk_made region ts n inner taken own.told;
        named = first_member ts n inner own.told;
        within = λ k t. t;
        placed = λ i file of_file. placed_at ts place (r ∷ own.others) i file taken.distinct own.rows.each of_file;
      });
      there = λ modules. word.1 ws m (map place (row ∷ h.others)) modules (record {
        made = walk_made region ts h.taken.name ws taken h.told;
        named = named;
        within = member_within region ts walks taken are row h m r linked at own;
        placed = λ i file of_file. placed_at ts place (row ∷ h.others) i file taken.distinct h.rows.each of_file;
      });
    }

-- ---- rows that may be prelinked

no_cause : (x : Option (Option Skip)) → has_no_cause x ≡ true → x ≡ Some None
no_cause None is = absurd (false≢true is)
no_cause (Some None) is = refl
no_cause (Some (Some skip)) is = absurd (false≢true is)

no_skip : (r : Result (Unit {0}) Skip) → cause_of r ≡ None → r ≡ Ok tt
no_skip (Ok u) is = refl
no_skip (Err e) is = absurd (none-some e (sym is))

some_walk : (r : Result Walked Skip) (f : Walked → Result (Unit {0}) Skip) → (r >>= f) ≡ Ok tt → (w : Walked) × (r ≡ Ok w)
some_walk (Ok w) f is = (w, refl)
some_walk (Err e) f is = absurd (err_ok e tt is)

some_unit : (r s : Result (Unit {0}) Skip) → (r >>= λ _. s) ≡ Ok tt → r ≡ Ok tt
some_unit (Ok u) s is = refl
some_unit (Err e) s is = absurd (err_ok e tt is)

fit_linked : (faults : List ℕ → Option ℕ) (n : List ℕ) (w : Walked) (kind : Kind) → kind_of w ≡ kind → fit faults n w ≡ Ok tt → IsLinked kind
fit_linked faults n w Library at is = inl refl
fit_linked faults n w Program at is = inr refl
fit_linked faults n w Static at is = absurd (err_ok (skips.Static n) tt (sym (fit_static faults n w at) ∙ is))

fit_formed : (faults : List ℕ → Option ℕ) (n : List ℕ) (w : Walked) (kind : Kind) → kind_of w ≡ kind → fit faults n w ≡ Ok tt → all_formed faults (names w) ≡ Ok tt
fit_formed faults n w Library at is = sym (fit_library faults n w at) ∙ is
fit_formed faults n w Program at is = some_unit (all_formed faults (names w)) (check_links w) (sym (fit_program faults n w at) ∙ is)
fit_formed faults n w Static at is = absurd (err_ok (skips.Static n) tt (sym (fit_static faults n w at) ∙ is))

module _ (region : Range) (t : RunTable) (is : IsRunTable region t) where
  abbrev ts : List Taken
  ts = t.files.now

  -- a row that may be prelinked has a walk
  candidate_walk : (row : ℕ) → slice_get t.causes row ≡ Some None → HasOwnWalk ts t.walks row
  candidate_walk row cause =
      let within : row < length t.causes = slice_get_within t.causes row None cause in
      let size : length t.causes ≡ length ts = ap length is.causes ∙ length-map ts (λ (x : Taken). cause_of (skip_of (files_in ts) region x.name)) in
      let file = slice_get_at ts row (omega (arith, within, size)) in
      let skip : skip_of (files_in ts) region file.0.name ≡ Ok tt = no_skip (skip_of (files_in ts) region file.0.name) (same_Some (cause_of (skip_of (files_in ts) region file.0.name)) None (sym (cause_at region t row file.0 is file.1) ∙ cause)) in
      let ws = some_walk (walk_for ts file.0.name) (fit (faults_of ts) file.0.name) (sym (skip_is region ts file.0.name is.taken) ∙ skip) in
      let walk = slice_get_at t.walks row (omega (arith, within, size, is.walks.walks)) in
      let told = rows_told ts t.walks row file.0 walk.0 ws.0 is.walks file.1 walk.1 ws.1 in
      told_walk region ts t.walks row file.0 walk.0 is.taken file.1 walk.1 told.0 told.1

  fit_at : (row : ℕ) → slice_get t.causes row ≡ Some None → (own : HasOwnWalk ts t.walks row) → fit (faults_of ts) own.taken.name (walked_by ts (row ∷ own.others)) ≡ Ok tt
  fit_at row cause own =
      sym (cause_fit region ts own.taken.name (walked_by ts (row ∷ own.others)) is.taken own.told)
      ∙ no_skip (skip_of (files_in ts) region own.taken.name) (same_Some (cause_of (skip_of (files_in ts) region own.taken.name)) None (sym (cause_at region t row own.taken is own.file) ∙ cause))

  by_own : (row : ℕ) → slice_get t.causes row ≡ Some None → HasOwnWalk ts t.walks row → IsCandidateRow t row
  by_own row cause own =
      let rows : List ℕ = row ∷ own.others in
      let ws : Walked = walked_by ts rows in
      let kind : kind_of ws ≡ own.object.kind = first_kind region ts t.walks row is.taken own in
      let fits : fit (faults_of ts) own.taken.name ws ≡ Ok tt = fit_at row cause own in
      let formed : all_formed (faults_of ts) (names ws) ≡ Ok tt = fit_formed (faults_of ts) own.taken.name ws own.object.kind kind fits in
      record {
        own = own;
        kind = fit_linked (faults_of ts) own.taken.name ws own.object.kind kind fits;
        formed = λ m r x at file.
            let p : HasMember ts rows m r = has_member_at ts rows m r own.rows.each at in
            let same : x ≡ p.taken = same_Some x p.taken (sym file ∙ p.file) in
            ap (λ (y : Taken). y.fault) same
            ∙ (sym (row_is region ts r p.taken is.taken p.file).told
            ∙ formed_each (faults_of ts) (names ws) formed p.taken.name (member_has ws m p.taken.name (record { object = p.object; at = p.at })));
        links = λ l there. is.links row rows l cause own.walk there;
      }

  -- what is known of a row that may be prelinked
  pub candidate_known : (row : ℕ) → is_candidate_row t row ≡ true → IsCandidateRow t row
  candidate_known row candidate =
      let cause : slice_get t.causes row ≡ Some None = no_cause (slice_get t.causes row) candidate in
      by_own row cause (candidate_walk row cause)

  -- its rows as they are read
  pub candidate_rows : (row : ℕ) → (c : IsCandidateRow t row) → walk_of t row ≡ row ∷ c.own.others
  candidate_rows row c = ap rows_in c.own.walk

  library_fits : (row r : ℕ) → slice_get t.causes row ≡ Some None → (c : IsCandidateRow t row) → (lib : IsLibraryOf ts t.walks (row ∷ c.own.others) r) → slice_get t.causes r ≡ Some None
  library_fits row r cause c lib =
      let ws : Walked = walked_by ts (row ∷ c.own.others) in
      let inner : Walked = walked_by ts (r ∷ lib.own.others) in
      let formed : all_formed (faults_of ts) (names ws) ≡ Ok tt = fit_formed (faults_of ts) c.own.taken.name ws c.own.object.kind (first_kind region ts t.walks row is.taken c.own) (fit_at row cause c.own) in
      let within : all_formed (faults_of ts) (names inner) ≡ Ok tt = formed_within (faults_of ts) (names ws) (names inner) formed lib.within in
      let fits : fit (faults_of ts) lib.own.taken.name inner ≡ Ok tt = fit_library (faults_of ts) lib.own.taken.name inner (first_kind region ts t.walks r is.taken lib.own ∙ lib.kind) ∙ within in
      cause_at region t r lib.own.taken is lib.own.file ∙ ap (λ (x : Result (Unit {0}) Skip). Some (cause_of x)) (cause_fit region ts lib.own.taken.name inner is.taken lib.own.told ∙ fits)

  -- a row of its walk after the first may be prelinked too, and is a library's
  pub member_candidate : (row m r : ℕ) → is_candidate_row t row ≡ true → (c : IsCandidateRow t row) → 0 < m → slice_get (row ∷ c.own.others) m ≡ Some r → is_candidate_row t r ≡ true
  member_candidate row m r candidate c some at =
      ap has_no_cause (library_fits row r (no_cause (slice_get t.causes row) candidate) c (member_row region ts t.walks is.taken is.walks row c.own m r c.kind some at))
