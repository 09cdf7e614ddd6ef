-- Files that hold, by rows and by names.
use Rattle.std.proofs.Common.{◌≡◌, ℕ, suc, ◌+◌, ◌<◌, Bool, true, false, List, [], ◌∷◌, length, map, Option, Some, None, Result, Ok, Err, refl, sym, ap, subst, ◌∙◌, arith}
use Rattle.std.specs.Prelude.{◌&&◌, ◌||◌, ◌==◌, not, find, is_some, nat_eq, slice_get}
use Rattle.std.specs.List.{list_all}
use Rattle.std.specs.Option.{option_map}
use Rattle.std.specs.Str.{bytes_eq}
use Rattle.std.specs.Cmp.Lexicographic.{pointwise}
use Rattle.std.proofs.lemmas.Option.{none-some, same_Some}
use Rattle.pl_conflict.specs.Format.{format, mark_of, number_of, row_of_list}
use Rattle.pl_elf.specs.declared.kind.Kind.TheVariants.{Library}
use Rattle.pl_elf.specs.declared.range.Range.{Range}
use Rattle.pl_form.specs.Words.{checksum_of}
use Rattle.pl_form.specs.declared.file.Entry.{Entry}
use Rattle.pl_form.specs.declared.file.Entry.TheVariants.{There, BadMark, Refused}
use Rattle.pl_form.specs.declared.file.File.TheVariants.{Plain, Marked}
use Rattle.pl_form.specs.declared.file.Marked as form
use Rattle.pl_form.specs.declared.version.Version.{Version}
use Rattle.pl_form.specs.declared.version.Version.TheVariants.{One, Two}
use Rattle.pl_lists.specs.declared.list_row.ListRow.{ListRow}
use Rattle.pl_object.specs.declared.object.Object.{Object}
use Rattle.pl_scope.specs.Members.{names, others}
use Rattle.pl_scope.specs.Walk.{Walked}
use Rattle.pl_scope.proofs.WalkedLaws.{member_file}
use Rattle.law_sound.specs.Plan as sound
use Rattle.law_sound.specs.Plan.{is_library_at}
use Rattle.law_sound.specs.Rule as rule
use Rattle.law_sound.specs.Rule.{Files, Mark, is_marked, mark_at, objects, original_at, row_at, row_eq, slot_of, stamp_of, tells_walk, version_of}
use Rattle.pl_cone.specs.Currency.{holds_at, holds_marked, is_held, is_row, is_row_of, is_two, lists_members, tells_marked}
use Rattle.pl_cone.specs.Needs.{object_for}
use Rattle.pl_cone.specs.Skipped.{skip_causes}
use Rattle.pl_cone.specs.Skips.{of_walk}
use Rattle.pl_cone.specs.Table.{AreRows, AreWalks, IsWalkOfFile, names_by, refusal_of, refusals_in, walk_for, walked_by}
use Rattle.pl_cone.specs.Taken.{AreTaken, files_in, is_library_entry, marked_by, object_by}
use Rattle.pl_cone.specs.declared.skip.Skip.{Skip}
use Rattle.pl_cone.specs.declared.taken.Taken.{Taken}
use Rattle.pl_cone.proofs.ListLaws.{off}
use Rattle.pl_cone.proofs.MembersLaws.{HasMember, has_member_at, walked_cons}
use Rattle.pl_cone.proofs.RowLaws.{IsRow, found_at, row_is}
use Rattle.pl_cone.proofs.TellLaws.{later_member}
use Rattle.pl_cone.proofs.WalkLaws.{refusal_at, rows_told, walk_first}

-- ---- tests

swapped : (a b c d : Bool) → ((a && b) && (c && d)) ≡ ((a && c) && (b && d))
swapped true true c d = refl
swapped true false c d = sym (off c)
swapped false b c d = refl

turned : (a b c : Bool) → (a && (b && c)) ≡ (b && (c && a))
turned true true true = refl
turned true true false = refl
turned true false c = refl
turned false true true = refl
turned false true false = refl
turned false false c = refl

-- ---- marks

pub marked_object : (e : Entry) (m : form.Marked) → marked_by e ≡ Some m → object_by e ≡ Some m.object
marked_object (There (Plain x)) m is = absurd (none-some m is)
marked_object (There (Marked k)) m is = ap (λ (j : form.Marked). Some j.object) (same_Some k m is)
marked_object BadMark m is = absurd (none-some m is)
marked_object (Refused number argument) m is = absurd (none-some m is)

version_is : (v : Version) → nat_eq (number_of v) 2 ≡ is_two v
version_is One = refl
version_is Two = refl

pub library_at : (n : List ℕ) (e : Entry) → is_library_at (object_for n e) ≡ is_library_entry e
library_at n (There file) = refl
library_at n BadMark = refl
library_at n (Refused number argument) = refl

-- ---- lists

-- a library of a row
record IsLibraryRow (ts : List Taken) (r : ℕ) : Type 0 where
  taken : Taken
  file : slice_get ts r ≡ Some taken
  object : Object
  is : object_by taken.entry ≡ Some object
  kind : object.kind ≡ Library

abbrev AreLibraries : List Taken → List ℕ → Type 0
AreLibraries ts rows = (k r : ℕ) → slice_get rows k ≡ Some r → IsLibraryRow ts r

row_agrees : (region : Range) (ts : List Taken) (t : Taken) (r : ListRow) (o : Object) → IsRow region ts t → object_by t.entry ≡ Some o → o.kind ≡ Library
    → (is_marked (format skip_causes) (files_in ts) t.name && row_eq (row_of_list r) (row_at (format skip_causes) t.name (files_in ts t.name))) ≡ is_row t r
row_agrees region ts t r o row there library = of_mark (marked_by t.entry) refl
  where
    test : Option Mark → ℕ → Bool
    test j sum = is_some j && (bytes_eq r.name t.name && (nat_eq r.stamp (stamp_of j) && nat_eq r.checksum sum))

    sum_at : ℕ
    sum_at = checksum_of (original_at (format skip_causes) (files_in ts t.name))

    of_mark : (k : Option form.Marked) → marked_by t.entry ≡ k → test (mark_at (format skip_causes) (files_in ts t.name)) sum_at ≡ tells_marked t.name k r
    of_mark None is = ap (λ (j : Option Mark). test j sum_at) (row.mark ∙ ap (option_map mark_of) is)
    of_mark (Some m) is =
        let object : m.object ≡ o = same_Some m.object o (sym (marked_object t.entry m is) ∙ there) in
        let sum : sum_at ≡ m.checksum = row.sums m is (ap (λ (p : Object). p.kind) object ∙ library) in
        ap (λ (j : Option Mark). test j sum_at) (row.mark ∙ ap (option_map mark_of) is)
        ∙ (ap (test (Some (mark_of m))) sum ∙ turned (bytes_eq r.name t.name) (nat_eq r.stamp m.stamp) (nat_eq r.checksum m.checksum))

names_cons : (ts : List Taken) (r : ℕ) (rows : List ℕ) (t : Taken) (o : Object) → slice_get ts r ≡ Some t → object_by t.entry ≡ Some o → names_by ts (r ∷ rows) ≡ t.name ∷ names_by ts rows
names_cons ts r rows t o file is = ap names (walked_cons ts r rows t o file is)

lists_agree : (region : Range) (ts : List Taken) → AreTaken region ts → (list : List ListRow) (rows : List ℕ) → AreLibraries ts rows → rule.lists_members (format skip_causes) (files_in ts) (map row_of_list list) (names_by ts rows) ≡ lists_members ts list rows
unfolding lists_members
lists_agree region ts taken [] [] libraries = refl
lists_agree region ts taken (r ∷ list) [] libraries = refl
lists_agree region ts taken [] (row ∷ rows) libraries =
    let l : IsLibraryRow ts row = libraries 0 row refl in
    let f = files_in ts in
    ap (λ (ns : List (List ℕ)). rule.lists_members (format skip_causes) f [] ns) (names_cons ts row rows l.taken l.object l.file l.is)
    ∙ off (is_marked (format skip_causes) f l.taken.name && list_all (is_marked (format skip_causes) f) (names_by ts rows))
lists_agree region ts taken (r ∷ list) (row ∷ rows) libraries =
    let l : IsLibraryRow ts row = libraries 0 row refl in
    let f = files_in ts in
    let n : List ℕ = l.taken.name in
    let ns : List (List ℕ) = names_by ts rows in
    ap (λ (ms : List (List ℕ)). rule.lists_members (format skip_causes) f (map row_of_list (r ∷ list)) ms) (names_cons ts row rows l.taken l.object l.file l.is)
    ∙ (swapped (is_marked (format skip_causes) f n) (list_all (is_marked (format skip_causes) f) ns) (row_eq (row_of_list r) (row_at (format skip_causes) n (f n))) (pointwise row_eq (map row_of_list list) (map (λ m. row_at (format skip_causes) m (f m)) ns))
    ∙ (ap (λ (b : Bool). b && rule.lists_members (format skip_causes) f (map row_of_list list) ns) (row_agrees region ts l.taken r l.object (row_is region ts row l.taken taken l.file) l.is l.kind ∙ ap (λ (x : Option Taken). is_row_of x r) (sym l.file))
    ∙ ap (λ (b : Bool). is_row_of (slice_get ts row) r && b) (lists_agree region ts taken list rows (λ k j at. libraries (suc k) j at))))

-- ---- names that hold

none_held : (f : Files) (slots : List ℕ → ℕ) (n : List ℕ) (e : Skip) (k : Option Mark) → tells_walk (format skip_causes) f k (Err e) ≡ false
none_held f slots n e None = refl
none_held f slots n e (Some k) = refl

module _ (region : Range) (ts : List Taken) (walks : List (List ℕ)) (taken : AreTaken region ts) (are : AreWalks ts (record { walks = walks; causes = refusals_in ts })) (slots : List ℕ → ℕ) where
  abbrev test : Option Mark → Result Walked Skip → Result Object Skip → List ℕ → Bool
  test j r o n = tells_walk (format skip_causes) (files_in ts) j r && (nat_eq (version_of j) 2 && (not (is_library_at o) || nat_eq (slot_of j) (slots n)))

  -- the first of the rows of a walk is that of its name
  first_row : (row : ℕ) (t : Taken) (first : ℕ) (others : List ℕ) → slice_get ts row ≡ Some t → AreRows ts (first ∷ others) → walk_for ts t.name ≡ Ok (walked_by ts (first ∷ others)) → slice_get ts first ≡ Some t
  first_row row t first others at rows told =
      let i = walk_first ts t.name (walked_by ts (first ∷ others)) told in
      let h : HasMember ts (first ∷ others) 0 first = has_member_at ts (first ∷ others) 0 first rows.each refl in
      let same : (h.taken.name, h.object) ≡ (t.name, i.object) = same_Some (h.taken.name, h.object) (t.name, i.object) (sym h.at ∙ ap (λ (w : Walked). slice_get w 0) i.is) in
      let name : h.taken.name ≡ t.name = ap (λ (p : List ℕ × Object). p.0) same in
      let one : h.taken ≡ t =
      same_Some h.taken t (sym (found_at ts first h.taken taken.distinct h.file) ∙ (ap (λ (n : List ℕ). find (λ x. bytes_eq x.name n) ts) name ∙ found_at ts row t taken.distinct at)) in
      h.file ∙ ap (λ (x : Taken). Some x) one

  libraries_of : (t : Taken) (first : ℕ) (others : List ℕ) → AreRows ts (first ∷ others) → walk_for ts t.name ≡ Ok (walked_by ts (first ∷ others)) → AreLibraries ts others
  libraries_of t first others rows told = λ k r at.
      let ws : Walked = walked_by ts (first ∷ others) in
      let i = walk_first ts t.name ws told in
      let h : HasMember ts (first ∷ others) (suc k) r = has_member_at ts (first ∷ others) (suc k) r rows.each at in
      record {
        taken = h.taken;
        file = h.file;
        object = h.object;
        is = h.is;
        kind = i.libraries h.taken.name h.object (later_member ws i.rest t.name h.taken.name i.object h.object (suc k) i.is (omega arith) h.at)
            (member_file of_walk (objects (format skip_causes) (files_in ts)) t.name ws told (suc k) (h.taken.name, h.object) h.at);
      }

  others_are : (t : Taken) (first : ℕ) (rest : List ℕ) (o : Object) → slice_get ts first ≡ Some t → object_by t.entry ≡ Some o → others (walked_by ts (first ∷ rest)) ≡ names_by ts rest
  others_are t first rest o file is = ap others (walked_cons ts first rest t o file is)

  by_mark : (t : Taken) (first : ℕ) (rest : List ℕ) → IsRow region ts t → AreLibraries ts rest → others (walked_by ts (first ∷ rest)) ≡ names_by ts rest → (k : Option form.Marked) → marked_by t.entry ≡ k
      → test (option_map mark_of k) (Ok (walked_by ts (first ∷ rest))) (object_for t.name t.entry) t.name ≡ holds_marked ts t k rest (slots t.name)
  by_mark t first rest row libraries same None is = refl
  by_mark t first rest row libraries same (Some m) is =
      let at_slot : Bool = not (is_library_entry t.entry) || nat_eq m.slot (slots t.name) in
      ap (λ (ns : List (List ℕ)). rule.lists_members (format skip_causes) (files_in ts) (map row_of_list m.list) ns && (nat_eq (number_of m.version) 2 && (not (is_library_at (object_for t.name t.entry)) || nat_eq m.slot (slots t.name)))) same
      ∙ (ap (λ (b : Bool). b && (nat_eq (number_of m.version) 2 && (not (is_library_at (object_for t.name t.entry)) || nat_eq m.slot (slots t.name)))) (lists_agree region ts taken m.list rest libraries)
      ∙ (ap (λ (b : Bool). lists_members ts m.list rest && (b && (not (is_library_at (object_for t.name t.entry)) || nat_eq m.slot (slots t.name)))) (version_is m.version)
      ∙ (ap (λ (b : Bool). lists_members ts m.list rest && (is_two m.version && (not b || nat_eq m.slot (slots t.name)))) (library_at t.name t.entry)
      ∙ turned (lists_members ts m.list rest) (is_two m.version) at_slot)))

  with_walk : (row : ℕ) (t : Taken) (rows : List ℕ) → slice_get ts row ≡ Some t → AreRows ts rows → walk_for ts t.name ≡ Ok (walked_by ts rows) → sound.is_held (format skip_causes) (files_in ts) slots t.name ≡ is_held ts rows (slots t.name)
  with_walk row t [] at are told =
      let i = walk_first ts t.name [] told in
      absurd (omega (arith, ap length i.is))
  with_walk row t (first ∷ rest) at are told =
      let ws : Walked = walked_by ts (first ∷ rest) in
      let is : IsRow region ts t = row_is region ts row t taken at in
      let file : slice_get ts first ≡ Some t = first_row row t first rest at are told in
      let h : HasMember ts (first ∷ rest) 0 first = has_member_at ts (first ∷ rest) 0 first are.each refl in
      let one : h.taken ≡ t = same_Some h.taken t (sym h.file ∙ file) in
      let object : object_by t.entry ≡ Some h.object = ap (λ (x : Taken). object_by x.entry) (sym one) ∙ h.is in
      ap (λ (j : Option Mark). test j (walk_for ts t.name) (objects (format skip_causes) (files_in ts) t.name) t.name) is.mark
      ∙ (ap (λ (r : Result Walked Skip). test (option_map mark_of (marked_by t.entry)) r (objects (format skip_causes) (files_in ts) t.name) t.name) told
      ∙ (ap (λ (r : Result Object Skip). test (option_map mark_of (marked_by t.entry)) (Ok ws) r t.name) is.object
      ∙ (by_mark t first rest is (libraries_of t first rest are told) (others_are t first rest h.object file object) (marked_by t.entry) refl
      ∙ ap (λ (x : Option Taken). holds_at ts x rest (slots t.name)) (sym file))))

  by_walk : (row : ℕ) (t : Taken) (rows : List ℕ) → slice_get ts row ≡ Some t → slice_get walks row ≡ Some rows → (r : Result Walked Skip) → walk_for ts t.name ≡ r → sound.is_held (format skip_causes) (files_in ts) slots t.name ≡ is_held ts rows (slots t.name)
  by_walk row t rows at walk (Ok ws) is =
      let told = rows_told ts walks row t rows ws are at walk is in
      with_walk row t rows at told.0 told.1
  by_walk row t rows at walk (Err e) is =
      let none : rows ≡ [] = (subst (λ (r : Result Walked Skip). IsWalkOfFile ts t rows (refusal_of r)) is (are.each row t rows (refusal_of (walk_for ts t.name)) at walk (refusal_at ts row t at))).0 in
      ap (λ (r : Result Walked Skip). test (mark_at (format skip_causes) (files_in ts t.name)) r (objects (format skip_causes) (files_in ts) t.name) t.name) is
      ∙ (ap (λ (b : Bool). b && (nat_eq (version_of (mark_at (format skip_causes) (files_in ts t.name))) 2 && (not (is_library_at (objects (format skip_causes) (files_in ts) t.name)) || nat_eq (slot_of (mark_at (format skip_causes) (files_in ts t.name))) (slots t.name))))
      (none_held (files_in ts) slots t.name e (mark_at (format skip_causes) (files_in ts t.name)))
      ∙ ap (λ (rs : List ℕ). is_held ts rs (slots t.name)) (sym none))

  -- a name holds as its row does
  pub held_is : (row : ℕ) (t : Taken) (rows : List ℕ) → slice_get ts row ≡ Some t → slice_get walks row ≡ Some rows → sound.is_held (format skip_causes) (files_in ts) slots t.name ≡ is_held ts rows (slots t.name)
  held_is row t rows at walk = by_walk row t rows at walk (walk_for ts t.name) refl
