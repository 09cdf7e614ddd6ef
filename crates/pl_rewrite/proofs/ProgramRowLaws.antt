-- What is told of the rows of stale files is enough for the files that are made of them.
use Rattle.std.proofs.Common.{◌≡◌, ℕ, zero, suc, ◌<◌, ◌≤◌, Bool, true, false, List, [], ◌∷◌, length, map, Some, refl, sym, ap, subst, ◌∙◌, arith, inl, inr}
use Rattle.std.specs.Prelude.{◌||◌, ◌==◌, not, slice_get}
use Rattle.std.specs.List.{AllZip, list_any}
use Rattle.std.proofs.lemmas.Bool.{and_parts, cases_lt, eq-eqb, false≢true, or_left, or_right}
use Rattle.std.proofs.lemmas.Option.{none-some, same_Some, slice_get_within}
use Rattle.pl_cone.specs.Candidates as candidates
use Rattle.pl_cone.specs.Table.{IsLinkKind, walked_by}
use Rattle.pl_cone.specs.declared.linking.Link.{Link}
use Rattle.pl_cone.specs.declared.taken.Taken.{Taken}
use Rattle.pl_conflict.specs.Own.{FindAll}
use Rattle.pl_conflict.specs.Prelinked.{Firm}
use Rattle.pl_conflict.proofs.MemberLaws.{HasOwn}
use Rattle.pl_elf.specs.Kinds.{is_library, is_static}
use Rattle.pl_elf.specs.declared.kind.Kind.{Kind}
use Rattle.pl_elf.specs.declared.kind.Kind.TheVariants.{Library, Program, Static}
use Rattle.pl_object.specs.declared.object.Object.{Object}
use Rattle.pl_scope.specs.Scope.{objects}
use Rattle.pl_scope.specs.declared.index.Entry.{Entry}
use Rattle.pl_rewrite.specs.Contents.{IsHeldRow}
use Rattle.pl_rewrite.specs.Flags.{flagged}
use Rattle.pl_rewrite.specs.Outcomes.{AreHeldFlags, AreProgramRows, AreToldRows, HaveWords, IsStaleColumn, held_by, is_held, is_held_before, is_library_at, is_library_taken, is_stale, is_stale_library, is_stale_program, is_used}
use Rattle.pl_rewrite.specs.Rows.{IsFirmAt, IsLibraryRow, IsNumbered, IsWalkRow, firms_of, is_library_row, of_firm, walk_of}
use Rattle.pl_rewrite.specs.RowWords.{AreLinks, AreRowWords, AreRowWordsAt, FindsRow, IsLinkAt, is_asked, is_needed, is_set}
use Rattle.pl_rewrite.specs.Sources.{AreSources}
use Rattle.pl_rewrite.specs.declared.numbers.Numbered.{Numbered}
use Rattle.pl_rewrite.specs.declared.program.Work.{Work}
use Rattle.pl_rewrite.specs.declared.row_words.Needed.{Needed}
use Rattle.pl_rewrite.specs.declared.row_words.RowWords.{RowWords}
use Rattle.pl_rewrite.proofs.FirmLaws.{own_all}
use Rattle.pl_rewrite.proofs.FirmRowLaws.{IsRowOf, firm_objects, firms_named, firms_zip, named_of, row_of}
use Rattle.pl_rewrite.proofs.LaterMemberLaws.{IsLater, later, later_row}
use Rattle.pl_rewrite.proofs.NewLibraryLaws.{IsFirst, first_is}
use Rattle.pl_rewrite.proofs.RowWordLaws.{library_row}
use Rattle.pl_rewrite.proofs.SceneLaws.{member_at}
use Rattle.pl_rewrite.proofs.StaleLaws.{held_before_more, held_walk}
use Rattle.pl_cone.proofs.NeedLaws.{slice_get_at}

-- ---- what the relocations of a program find

finds_by : (k : Kind) (ts : List Taken) (index : List Entry) (rows : List ℕ) (l : Link) → is_library k ≡ false → is_static k ≡ false → IsLinkKind k ts index rows l → FindAll (objects (walked_by ts rows)) l.found
finds_by Library ts index rows l other linked by = absurd (false≢true (sym other))
finds_by Program ts index rows l other linked by = by.0
finds_by Static ts index rows l other linked by = absurd (false≢true (sym linked))

kind_named : (rs others : List Firm) (r : Firm) → rs ≡ r ∷ others → candidates.kind_of (map named_of rs) ≡ r.object.kind
kind_named rs others r is = ap (λ (xs : List Firm). candidates.kind_of (map named_of xs)) is

pub program_finds : (n : Numbered) (row : ℕ) (l : Link) → IsLinkAt n row l → is_library_row n row ≡ false → FindsRow n row l.found
program_finds n row l link other =
    let first : IsFirst n row = first_is n row link.walk in
    let kind : candidates.kind_of (walked_by n.files.now (walk_of n row)) ≡ first.firm.object.kind = ap candidates.kind_of (sym (firms_named n row)) ∙ kind_named (firms_of n row) first.others first.firm first.is in
    let own : HasOwn first.firm = own_all (first.firm ∷ first.others) (subst AreSources first.is link.walk.sources) 0 first.firm (omega arith) in
    let program : is_library first.firm.object.kind ≡ false = sym (firm_kind n row first) ∙ other in
    let found = finds_by (candidates.kind_of (walked_by n.files.now (walk_of n row))) n.files.now n.index.now (walk_of n row) l (ap is_library kind ∙ program) (ap is_static kind ∙ own.firm.dynamic) link.by in
    subst (λ (os : List Object). FindAll os l.found) (firm_objects n row) found
  where
    firm_kind : (n : Numbered) (row : ℕ) (first : IsFirst n row) → is_library_row n row ≡ is_library first.firm.object.kind
    firm_kind n row first = ap (of_firm false (λ (r : Firm). is_library r.object.kind)) first.at

-- ---- whether a row has a library

pub same_library : (n : Numbered) (row : ℕ) (t : Taken) → slice_get n.files.now row ≡ Some t → is_library_row n row ≡ is_library_at n row
same_library n row t at = library_row n row t (is_library_taken (Some t)) at refl ∙ sym (ap is_library_taken at)

walk_library : (n : Numbered) (row : ℕ) → IsWalkRow n row → is_library_row n row ≡ is_library_at n row
walk_library n row walk =
    let first : IsFirst n row = first_is n row walk in
    let f : IsRowOf n row first.firm = row_of n row first.firm first.at in
    same_library n row f.taken f.at

not_true : (b : Bool) → not b ≡ true → b ≡ false
not_true true e = absurd (false≢true e)
not_true false e = refl

-- ---- what the walk of a stale program holds

-- flags that are set stay set
held_up : (n : Numbered) (stale : List Bool) (all size row : ℕ) → size ≤ all → is_held_before n stale size row ≡ true → is_held_before n stale all row ≡ true
held_up n stale zero size row le held =
    let none : size ≡ 0 = omega (arith, le) in
    subst (λ (k : ℕ). is_held_before n stale k row ≡ true) none held
held_up n stale (suc all) size row le held = elim (cases_lt size (suc all)) [
  | inl lt ↦ sym (held_before_more n stale all row) ∙ or_left (is_held_before n stale all row) (flagged (held_by n stale all) row) (held_up n stale all size row (omega (arith, lt)) held)
  | inr past ↦
      let same : size ≡ suc all = omega (arith, le, past) in
      subst (λ (k : ℕ). is_held_before n stale k row ≡ true) same held
]

flagged_there : (rows : List ℕ) (m r : ℕ) → slice_get rows m ≡ Some r → flagged rows r ≡ true
unfolding flagged
flagged_there [] m r at = absurd (none-some r at)
flagged_there (x ∷ rows) zero r at = or_left (x == r) (list_any (λ y. y == r) rows) (eq-eqb x r (same_Some x r at))
flagged_there (x ∷ rows) (suc m) r at = or_right (x == r) (list_any (λ y. y == r) rows) (flagged_there rows m r at)

pub held_there : (n : Numbered) (stale : List Bool) (row m r : ℕ) → row < length n.files.now → is_stale_program n stale row ≡ true → slice_get (walk_of n row) m ≡ Some r → is_held n stale r ≡ true
held_there n stale row m r lt program at =
    let here : flagged (held_by n stale row) r ≡ true = ap (λ (rows : List ℕ). flagged rows r) (sym (held_walk n stale row program)) ∙ flagged_there (walk_of n row) m r at in
    let one : is_held_before n stale (suc row) r ≡ true = sym (held_before_more n stale row r) ∙ or_right (is_held_before n stale row r) (flagged (held_by n stale row) r) here in
    held_up n stale (length n.files.now) (suc row) r (omega (arith, lt)) one

-- ---- what is asked of a row

pub asked_held : (n : Numbered) (stale held : List Bool) (row : ℕ) → AreHeldFlags n stale held → row < length n.files.now → is_asked held row ≡ is_held n stale row
asked_held n stale held row are lt =
    let there = slice_get_at held row (omega (arith, lt, are.count)) in
    ap is_set there.1 ∙ are.each row there.0 there.1

-- by the flags of stale rows and of those that their walks hold
asked_used : (n : Numbered) (stale held : List Bool) (row : ℕ) → AreHeldFlags n stale held → row < length n.files.now → (is_asked stale row || is_asked held row) ≡ is_used n stale row
asked_used n stale held row are lt = ap (λ (b : Bool). is_stale stale row || b) (asked_held n stale held row are lt)

needed_is : (n : Numbered) (asked : Needed) (stale : List Bool) (row : ℕ) → asked.made.now ≡ stale → AreHeldFlags n stale asked.held.now → row < length n.files.now → is_needed asked row ≡ is_used n stale row
needed_is n asked stale row made held lt = ap (λ (flags : List Bool). is_asked flags row || is_asked asked.held.now row) made ∙ asked_used n stale asked.held.now row held lt

pub links_needed : (n : Numbered) (stale held : List Bool) (links : List Link) → AreHeldFlags n stale held → AreLinks n (is_used n stale) links → AreLinks n (λ row. is_asked stale row || is_asked held row) links
links_needed n stale held links flags are = record {
  count = are.count;
  each = λ row l at need.
      let lt : row < length n.files.now = omega (arith, slice_get_within links row l at, are.count) in
      are.each row l at (sym (asked_used n stale held row flags lt) ∙ need);
}

pub told_rows : (n : Numbered) (asked : Needed) (stale : List Bool) (all : List RowWords) → AreRowWords n asked all → asked.made.now ≡ stale → AreHeldFlags n stale asked.held.now → AreToldRows n stale all
told_rows n asked stale all told made held = record { asked = asked; made = made; held = held; told = told }

-- the member of an index of rows
pub zip_there : {X Y : Type 0} (R : X → Y → Type 0) (xs : List X) (ys : List Y) (i : ℕ) (x : X) → AllZip R xs ys → slice_get xs i ≡ Some x → (y : Y) × (slice_get ys i ≡ Some y) × R x y
zip_there R [] ys i x zip at = absurd (none-some x at)
zip_there R (z ∷ xs) [] i x zip at = absurd zip
zip_there {X = X} R (z ∷ xs) (y ∷ ys) zero x zip at = (y, refl, subst (λ (u : X). R u y) (same_Some z x at) zip.0)
zip_there R (z ∷ xs) (y ∷ ys) (suc i) x zip at = zip_there R xs ys i x zip.1 at

-- ---- a stale program

module _ (w : Work) (asked : Needed) (stale : List Bool) (numbered : IsNumbered w.numbered.now) (made : asked.made.now ≡ stale) (held : AreHeldFlags w.numbered.now stale asked.held.now) (column : IsStaleColumn w.numbered.now stale) (told : AreRowWords w.numbered.now asked w.row_words.now) where
  abbrev n : Numbered
  n = w.numbered.now

  stale_of : (row : ℕ) → is_stale_program n stale row ≡ true → is_stale stale row ≡ true
  stale_of row program = (and_parts (is_stale stale row) (not (is_library_at n row)) program).0

  row_below : (row : ℕ) → is_stale_program n stale row ≡ true → row < length n.files.now
  row_below row program =
      let first : IsFirst n row = first_is n row (column.walks row (stale_of row program)) in
      let f : IsRowOf n row first.firm = row_of n row first.firm first.at in
      slice_get_within n.files.now row f.taken f.at

  needed_stale : (row : ℕ) → is_stale stale row ≡ true → row < length n.files.now → is_needed asked row ≡ true
  needed_stale row on lt = needed_is n asked stale row made held lt ∙ or_left (is_stale stale row) (is_held n stale row) on

  no_library : (row : ℕ) → is_stale_program n stale row ≡ true → is_library_row n row ≡ false
  no_library row program =
      let other : is_library_at n row ≡ false = not_true (is_library_at n row) (and_parts (is_stale stale row) (not (is_library_at n row)) program).1 in
      walk_library n row (column.walks row (stale_of row program)) ∙ other

  found_at : (row : ℕ) (s : RowWords) → is_stale_program n stale row ≡ true → slice_get w.row_words.now row ≡ Some s → FindsRow n row s.found
  found_at row s program at =
      let by : AreRowWordsAt n row asked s = told.each row s at in
      let link : IsLinkAt n row by.link = by.is (needed_stale row (stale_of row program) (row_below row program)) in
      let other : is_library_row n row ≡ false = no_library row program in
      subst (FindsRow n row) (sym (by.by.found other)) (program_finds n row by.link link other)

  -- the library of a member of its walk
  held_at : (row m r : ℕ) (s : RowWords) → is_stale_program n stale row ≡ true → 0 < m → slice_get (walk_of n row) m ≡ Some r → slice_get w.row_words.now r ≡ Some s → IsHeldRow n r s
  held_at row m r s program some at there =
      let walk : IsWalkRow n row = column.walks row (stale_of row program) in
      let lt : r < length n.files.now = omega (arith, slice_get_within w.row_words.now r s there, told.count) in
      let by : AreRowWordsAt n r asked s = told.each r s there in
      let on : is_held n stale r ≡ true = held_there n stale row m r (row_below row program) program at in
      let needed : is_needed asked r ≡ true = needed_is n asked stale r made held lt ∙ or_right (is_stale stale r) (is_held n stale r) on in
      let member = zip_there (IsFirmAt n) (walk_of n row) (firms_of n row) m r (firms_zip n row walk.rows) at in
      let x : IsLater n row m member.0.object = later n row m member.0.object numbered walk some (member_at (firms_of n row) m member.0 member.1).object in
      let same : x.number ≡ r = same_Some x.number r (sym x.there ∙ at) in
      let library : is_library_row n r ≡ true = subst (λ (k : ℕ). is_library_row n k ≡ true) same (later_row n row m member.0.object x) in
      record { link = by.link; is = by.is needed; held = by.by.held library (asked_held n stale asked.held.now r held lt ∙ on) }

  pub program_rows : AreProgramRows w stale
  program_rows = λ row program. record {
    walk = column.walks row (stale_of row program);
    program = no_library row program;
    found = λ s at. found_at row s program at;
    held = λ m r s some at there. held_at row m r s program some at there;
  }

-- ---- a stale library

pub have_words : (n : Numbered) (asked : Needed) (stale : List Bool) (all : List RowWords) → asked.made.now ≡ stale → IsStaleColumn n stale → AreRowWords n asked all → HaveWords n stale all
have_words n asked stale all made column told = record {
  count = told.count;
  each = λ row s at on.
      let parts = and_parts (is_stale stale row) (is_library_at n row) on in
      let library : is_library_row n row ≡ true = walk_library n row (column.walks row parts.0) ∙ parts.1 in
      (told.each row s at).by.words library (ap (λ (flags : List Bool). is_asked flags row) made ∙ parts.0);
}

pub stale_library_row : (n : Numbered) (stale : List Bool) (row : ℕ) → IsNumbered n → row < length n.files.now → IsStaleColumn n stale → is_stale_library n stale row ≡ true → IsLibraryRow n row
stale_library_row n stale row numbered lt column on =
    let parts = and_parts (is_stale stale row) (is_library_at n row) on in
    let walk : IsWalkRow n row = column.walks row parts.0 in
    record { numbered = numbered; within = lt; walk = walk; library = walk_library n row walk ∙ parts.1 }
