-- What the relocations of a row's file give.
use Rattle.std.proofs.Common.{◌≡◌, ℕ, ◌<◌, Bool, true, false, List, [], ◌∷◌, ◌++◌, length, map, get_or, Option, Some, None, refl, sym, ap, subst, ◌∙◌, arith}
use Rattle.std.specs.Prelude.{slice_get}
use Rattle.std.specs.List.{All}
use Rattle.std.proofs.lemmas.Bool.{false≢true, or_left, or_right}
use Rattle.std.proofs.lemmas.List.{length-map}
use Rattle.std.proofs.lemmas.Option.{none-some, same_Some, slice_get-get_or}
use Rattle.pl_cone.specs.Links.{IsLinkOf}
use Rattle.pl_cone.specs.Table.{IsLinkKind, walked_by}
use Rattle.pl_cone.specs.Candidates as candidates
use Rattle.pl_cone.specs.Taken.{is_library_entry, object_by}
use Rattle.pl_cone.specs.declared.linking.Link.{Link}
use Rattle.pl_cone.specs.declared.taken.Taken.{Taken}
use Rattle.pl_conflict.specs.Own.{FindAll, own_words}
use Rattle.pl_conflict.specs.Prelinked.{Firm, objects_of, slots_of}
use Rattle.pl_conflict.proofs.BetweenLaws.{between_below}
use Rattle.pl_elf.specs.Kinds.{is_library}
use Rattle.pl_elf.specs.declared.kind.Kind.{Kind}
use Rattle.pl_elf.specs.declared.kind.Kind.TheVariants.{Library, Program, Static}
use Rattle.pl_form.specs.Files.{original_in}
use Rattle.pl_form.specs.declared.file.Entry as entries
use Rattle.pl_form.specs.declared.file.Entry.TheVariants.{There, BadMark, Refused}
use Rattle.pl_form.specs.Library.{IsFirmLibrary}
use Rattle.pl_object.specs.declared.object.Object.{Object}
use Rattle.pl_object.specs.declared.reloc.Reloc.{Reloc}
use Rattle.pl_rewrite.specs.Held.{AreHeld}
use Rattle.pl_rewrite.specs.Rows.{IsFirmAt, IsWalkRow, firm_by, firms_of, is_library_row, places_of, walk_of}
use Rattle.pl_rewrite.specs.RowWords.{AreHeldAt, AreOfRow, FindsRow, IsLinkAt, AreRowWordsAt, AreRowWordsBy, RowWordsTo, is_asked, is_needed, is_set, own_words_at}
use Rattle.pl_rewrite.specs.Sources.{AreSources}
use Rattle.pl_rewrite.specs.declared.row_words.HeldWord.{HeldWord}
use Rattle.pl_rewrite.specs.declared.numbers.Numbered.{Numbered}
use Rattle.pl_rewrite.specs.declared.row_words.Needed.{Needed}
use Rattle.pl_rewrite.specs.declared.row_words.RowWords.{RowWords}
use Rattle.pl_rewrite.proofs.FirmLaws.{own_all}
use Rattle.pl_rewrite.proofs.FirmRowLaws.{firm_objects, firm_slots, firms_named, named_of}
use Rattle.pl_rewrite.proofs.LibraryLaws.{words_count}
use Rattle.pl_rewrite.proofs.NewLibraryLaws.{first_is, library_firm}
use Rattle.pl_rewrite.proofs.RowByRowLaws.{each_pushed}
use Rattle.pl_rewrite.proofs.RowTestLaws.{firm_of_file, firm_there}
use Rattle.pl_scope.specs.Scope.{objects}
use Rattle.pl_scope.specs.declared.index.Entry.{Entry}
use Rattle.pl_scope.specs.Walk.{Walked}
use Rattle.pl_scope.specs.declared.found.Found.{Found}
use Rattle.pl_value.specs.Values.{relocations_in}

-- ---- a walk as a scope

pub walk_some : (n : Numbered) (row : ℕ) (scope : Walked) → IsWalkRow n row → scope ≡ walked_by n.files.now (walk_of n row) → 0 < length scope
walk_some n row scope walk is = omega (arith, ap length is, walk.rows.each, ap length walk.is)

pub walk_places : (n : Numbered) (row : ℕ) (scope : Walked) (places : List ℕ) → IsWalkRow n row → scope ≡ walked_by n.files.now (walk_of n row) → places ≡ places_of n.places.now (walk_of n row) → length places ≡ length scope
walk_places n row scope places walk is slots =
    ap length slots ∙ length-map (walk_of n row) _ ∙ sym walk.rows.each ∙ ap length (sym is)

pub walk_finds : (n : Numbered) (row : ℕ) (scope : Walked) (found : List (Option Found)) → scope ≡ walked_by n.files.now (walk_of n row) → FindsRow n row found → FindAll (objects scope) found
walk_finds n row scope found is finds = subst (λ os. FindAll os found) (sym (ap objects is ∙ firm_objects n row)) finds

pub walk_words : (n : Numbered) (row : ℕ) (scope : Walked) (places : List ℕ) (words : List (Option ℕ)) → IsWalkRow n row → scope ≡ walked_by n.files.now (walk_of n row) → places ≡ places_of n.places.now (walk_of n row)
    → words ≡ own_words (objects scope) places → words ≡ own_words_at n row
walk_words n row scope places words walk is slots made =
    made ∙ ap (λ os. own_words os places) (ap objects is ∙ firm_objects n row) ∙ ap (own_words (objects_of (firms_of n row))) (slots ∙ sym (firm_slots n row walk.rows))

-- ---- what a library's file holds

pub held_none : (n : Numbered) (row : ℕ) (t : Taken) (remaining : List ℕ) (held : List HeldWord) → slice_get n.files.now row ≡ Some t → None ≡ object_by t.entry → AreHeldAt n row remaining held
held_none n row t remaining held at none = λ r e. absurd (none-some r (sym (firm_of_file n row t None at none) ∙ e))

record IsFirstLibrary (n : Numbered) (row : ℕ) (o : Object) : Type 0 where
  firm : Firm
  others : List Firm
  at : IsFirmAt n row firm
  is : firms_of n row ≡ firm ∷ others
  object : firm.object ≡ o

first_library : (n : Numbered) (row : ℕ) (t : Taken) (o : Object) → IsWalkRow n row → slice_get n.files.now row ≡ Some t → Some o ≡ object_by t.entry → IsFirstLibrary n row o
first_library n row t o walk at is =
    let first = first_is n row walk in
    let same : firm_by n row t o ≡ first.firm = same_Some (firm_by n row t o) first.firm (sym (firm_there n row t o at is) ∙ first.at) in
    record { firm = first.firm; others = first.others; at = first.at; is = first.is; object = sym (ap (λ (x : Firm). x.object) same) }

pub held_firm : (n : Numbered) (row : ℕ) (t : Taken) (o : Object) (original : List ℕ) → IsWalkRow n row → is_library_row n row ≡ true → slice_get n.files.now row ≡ Some t → Some o ≡ object_by t.entry → original ≡ original_in t.bytes → IsFirmLibrary original o
held_firm n row t o original walk library at is bytes =
    let first = first_is n row walk in
    let there = firm_there n row t o at is in
    let same : first.firm ≡ firm_by n row t o = same_Some first.firm (firm_by n row t o) (sym first.at ∙ there) in
    let r = first.firm in
    let sources : AreSources (r ∷ first.others) = subst AreSources first.is walk.sources in
    let one : IsFirmLibrary r.member.original r.object = record { firm = (own_all (r ∷ first.others) sources 0 r (omega arith)).firm; library = library_firm n row r first.at library } in
    let two : IsFirmLibrary (original_in t.bytes) o = subst (λ (x : Firm). IsFirmLibrary x.member.original x.object) same one in
    subst (λ bs. IsFirmLibrary bs o) (sym bytes) two

pub held_count : (n : Numbered) (row : ℕ) (t : Taken) (o : Object) (words : List (Option ℕ)) → IsWalkRow n row → slice_get n.files.now row ≡ Some t → Some o ≡ object_by t.entry → words ≡ own_words_at n row → length words ≡ length o.relocations
held_count n row t o words walk at is own =
    let f = first_library n row t o walk at is in
    ap length own ∙ ap (λ ms. length (own_words (objects_of ms) (slots_of ms))) f.is ∙ words_count f.firm f.others ∙ ap (λ (x : Object). length x.relocations) f.object

pub held_numbers : (n : Numbered) (row : ℕ) (t : Taken) (o : Object) (remaining : List ℕ) → slice_get n.files.now row ≡ Some t → Some o ≡ object_by t.entry → AreOfRow n row remaining → All (λ i. i < length o.relocations) remaining
held_numbers n row t o remaining at is all = all (firm_by n row t o) (firm_there n row t o at is)

pub held_at : (n : Numbered) (row : ℕ) (t : Taken) (o : Object) (original : List ℕ) (words : List (Option ℕ)) (remaining : List ℕ) (held : List HeldWord) → slice_get n.files.now row ≡ Some t → Some o ≡ object_by t.entry → original ≡ original_in t.bytes → words ≡ own_words_at n row
    → AreHeld original o words remaining held → AreHeldAt n row remaining held
held_at n row t o original words remaining held at is bytes own all = λ r e.
    let same : firm_by n row t o ≡ r = same_Some (firm_by n row t o) r (sym (firm_there n row t o at is) ∙ e) in
    let one : AreHeld (original_in t.bytes) o (own_words_at n row) remaining held = subst (λ ws. AreHeld (original_in t.bytes) o ws remaining held) own (subst (λ bs. AreHeld bs o words remaining held) bytes all) in
    subst (λ (x : Firm). AreHeld x.member.original x.object (own_words_at n row) remaining held) same one

-- ---- what is asked

pub asked_is : (flags : List Bool) (row : ℕ) (d : Bool) → row < length flags → get_or flags row d ≡ is_asked flags row
asked_is flags row d lt = sym (ap is_set (slice_get-get_or flags row d lt))

-- ---- a link

by_kind : (k : Kind) (ts : List Taken) (index : List Entry) (rows : List ℕ) (l : Link) → is_library k ≡ true → IsLinkKind k ts index rows l → IsLinkOf index (walked_by ts rows) l
by_kind Library ts index rows l is by = by
by_kind Program ts index rows l is by = absurd (false≢true is)
by_kind Static ts index rows l is by = absurd (false≢true is)

kind_named : (rs others : List Firm) (r : Firm) → rs ≡ r ∷ others → candidates.kind_of (map named_of rs) ≡ r.object.kind
kind_named rs others r is = ap (λ (xs : List Firm). candidates.kind_of (map named_of xs)) is

pub link_of : (n : Numbered) (row : ℕ) (l : Link) → IsLinkAt n row l → is_library_row n row ≡ true → IsLinkOf n.index.now (walked_by n.files.now (walk_of n row)) l
link_of n row l link library =
    let first = first_is n row link.walk in
    let kind : candidates.kind_of (walked_by n.files.now (walk_of n row)) ≡ first.firm.object.kind = ap candidates.kind_of (sym (firms_named n row)) ∙ kind_named (firms_of n row) first.others first.firm first.is in
    by_kind (candidates.kind_of (walked_by n.files.now (walk_of n row))) n.files.now n.index.now (walk_of n row) l (ap is_library kind ∙ library_firm n row first.firm first.at library) link.by

pub link_finds : (n : Numbered) (row : ℕ) (l : Link) → IsLinkAt n row l → is_library_row n row ≡ true → FindsRow n row l.found
link_finds n row l link library = subst (λ (os : List Object). FindAll os l.found) (firm_objects n row) (link_of n row l link library).found

pub link_numbers : (n : Numbered) (row : ℕ) (l : Link) → IsLinkAt n row l → is_library_row n row ≡ true → AreOfRow n row l.remaining
link_numbers n row l link library = λ r e.
    let first = first_is n row link.walk in
    let same : first.firm ≡ r = same_Some first.firm r (sym first.at ∙ e) in
    let os = objects (walked_by n.files.now (walk_of n row)) in
    let relocs : relocations_in (slice_get os 0) ≡ r.object.relocations =
    ap (λ (xs : List Object). relocations_in (slice_get xs 0)) (firm_objects n row) ∙ ap (λ (ms : List Firm). relocations_in (slice_get (objects_of ms) 0)) first.is ∙ ap (λ (x : Firm). x.object.relocations) same in
    subst (λ (rs : List Reloc). All (λ i. i < length rs) l.remaining) relocs (between_below _ (length (relocations_in (slice_get os 0))) 0 l.remaining (link_of n row l link library).remaining)

-- ---- a row, and those before it

pub row_words_library : (n : Numbered) (row : ℕ) (asked : Needed) (link : Link) (s : RowWords) (made held : Bool) → is_library_row n row ≡ true → made ≡ is_asked asked.made.now row → held ≡ is_asked asked.held.now row → (made ≡ true → s.words ≡ own_words_at n row) → (held ≡ true → AreHeldAt n row link.remaining s.held)
    → AreRowWordsBy n row asked link s
row_words_library n row asked link s made held library one two words told = record {
  words = λ _ on. words (one ∙ on);
  held = λ _ on. told (two ∙ on);
  found = λ other. absurd (false≢true (sym other ∙ library));
}

-- of a library of which nothing is asked
pub row_words_nothing : (n : Numbered) (row : ℕ) (asked : Needed) (link : Link) (s : RowWords) → is_library_row n row ≡ true → is_needed asked row ≡ false → AreRowWordsBy n row asked link s
row_words_nothing n row asked link s library none = record {
  words = λ _ on. absurd (false≢true (sym none ∙ or_left (is_asked asked.made.now row) (is_asked asked.held.now row) on));
  held = λ _ on. absurd (false≢true (sym none ∙ or_right (is_asked asked.made.now row) (is_asked asked.held.now row) on));
  found = λ other. absurd (false≢true (sym other ∙ library));
}

-- of a file that is no library
pub row_words_program : (n : Numbered) (row : ℕ) (asked : Needed) (link : Link) (s : RowWords) → is_library_row n row ≡ false → s.found ≡ link.found → AreRowWordsBy n row asked link s
row_words_program n row asked link s other found = record {
  words = λ library _. absurd (false≢true (sym other ∙ library));
  held = λ library _. absurd (false≢true (sym other ∙ library));
  found = λ _. found;
}

-- whether a row has a library is told by its file
pub library_row : (n : Numbered) (row : ℕ) (t : Taken) (b : Bool) → slice_get n.files.now row ≡ Some t → b ≡ is_library_entry t.entry → is_library_row n row ≡ b
library_row n row t b at is = by_entry n row t t.entry refl at ∙ sym is
  where
    by_entry : (n : Numbered) (row : ℕ) (t : Taken) (e : entries.Entry) → t.entry ≡ e → slice_get n.files.now row ≡ Some t → is_library_row n row ≡ is_library_entry t.entry
    by_entry n row t (There file) same at = rw (at, same) refl
    by_entry n row t BadMark same at = rw (at, same) refl
    by_entry n row t (Refused number argument) same at = rw (at, same) refl

pub row_words_none : (n : Numbered) (asked : Needed) (all : List RowWords) → all ≡ [] → RowWordsTo n asked all
row_words_none n asked all none = subst (RowWordsTo n asked) (sym none) (λ row s at. absurd (none-some s at))

-- those of one more
pub row_words_next : (n : Numbered) (asked : Needed) (all after : List RowWords) (s : RowWords) (link : Link) (row : ℕ) → row ≡ length all → (is_needed asked row ≡ true → IsLinkAt n row link) → AreRowWordsBy n row asked link s → after ≡ all ++ s ∷ [] → RowWordsTo n asked all → RowWordsTo n asked after
row_words_next n asked all after s link row same is by more so_far =
    let here : AreRowWordsAt n row asked s = record { link = link; is = is; by = by } in
    let one : AreRowWordsAt n (length all) asked s = subst (λ (k : ℕ). AreRowWordsAt n k asked s) same here in
    each_pushed (λ (k : ℕ) (x : RowWords). AreRowWordsAt n k asked x) all after s more one so_far
