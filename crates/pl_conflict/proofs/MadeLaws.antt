-- What the members of a walk prelink is a form.
use Rattle.std.proofs.Common.{◌≡◌, ℕ, zero, suc, ◌+◌, ◌-◌, ◌^◌, ◌≤◌, true, false, List, [], ◌∷◌, length, map, Option, Some, None, Result, Ok, Err, refl, sym, ap, subst, ◌∙◌, arith, inl, inr}
use Rattle.std.specs.Prelude.{nat_le, filter}
use Rattle.std.specs.List.{All, AllZip, concat, list_all}
use Rattle.std.proofs.lemmas.Bool.{cases_Bool, leb-true, and_from}
use Rattle.std.proofs.lemmas.List.{length-map}
use Rattle.std.proofs.lemmas.List.Elements.{All-nil, All-cons, All-head, All-tail, All-append}
use Rattle.std.proofs.lemmas.Option.{none-some, same_Some}
use Rattle.pl_base.specs.Answers.{◌>>=◌}
use Rattle.pl_base.specs.Bytes.{IsBytes, bytes64}
use Rattle.pl_base.specs.Memory.{Memory, Piece, layered, read}
use Rattle.pl_base.proofs.AnswerLaws.{ok_same}
use Rattle.pl_base.proofs.WordLaws.{is_bytes_nil, is_bytes_append, is_bytes_bytes64, is_bytes_part, is_bytes_take, is_bytes_zeros}
use Rattle.pl_elf.specs.Headers.{loads}
use Rattle.pl_elf.specs.Kinds.{is_library}
use Rattle.pl_elf.specs.declared.segment.Segment.{Segment}
use Rattle.pl_form.specs.Library.{library_with}
use Rattle.pl_form.specs.Marks.{IsFormOf, IsLibraryMark, IsProgramMark}
use Rattle.pl_form.specs.Program.{program_with}
use Rattle.pl_form.specs.Words as words
use Rattle.pl_form.specs.Words.{checksum_of, all_filled}
use Rattle.pl_form.specs.declared.constants.TheConstants.{STORED}
use Rattle.pl_form.specs.declared.file.Marked.{Marked}
use Rattle.pl_form.proofs.BytesLaws.{forms_are_bytes}
use Rattle.pl_form.proofs.FormWithLaws.{library_is, program_is}
use Rattle.pl_form.proofs.LayoutLaws.{length-all_filled}
use Rattle.pl_form.proofs.LengthLaws.{spots_inside}
use Rattle.pl_form.proofs.PieceLaws.{given_wanted}
use Rattle.pl_image.specs.Image.{all_pieces}
use Rattle.pl_image.specs.Loads.{loaded_pieces, pieces_at}
use Rattle.pl_lists.specs.Conflicts.{are_conflicts, ascend}
use Rattle.pl_lists.specs.Lists.{is_list}
use Rattle.pl_lists.specs.declared.conflict_row.ConflictRow.{ConflictRow}
use Rattle.pl_object.specs.declared.object.Object.{Object}
use Rattle.pl_form.specs.Back.{wanted}
use Rattle.pl_form.specs.Found.{ps_of}
use Rattle.pl_form.specs.declared.parts.Spot.{Spot}
use Rattle.pl_scope.specs.Scope.{IsAccepted}
use Rattle.law_sound.specs.Rule.{Member, Mark, Row}
use Rattle.pl_tls.specs.Layout.{offsets}
use Rattle.pl_tls.specs.declared.fault.TlsFault.{TlsFault}
use Rattle.pl_tls.specs.declared.module.Module.{Module}
use Rattle.pl_value.specs.Linked.{relocated}
use Rattle.pl_value.specs.Meanings.{meanings}
use Rattle.pl_value.specs.Ordinary.{loaded_objects, loaded_from, part_of}
use Rattle.pl_value.specs.Targets.{base_of}
use Rattle.pl_value.specs.declared.fault.LinkFault.{LinkFault}
use Rattle.pl_value.specs.declared.meaning.Meaning.{Meaning}
use Rattle.pl_conflict.specs.Conflicts.{rows_of, ascending, conflicts}
use Rattle.pl_conflict.specs.Format.{mark_of, mark_for, row_of_list, row_for, number_of, PrelinkedAreForms}
use Rattle.pl_conflict.specs.Own.{own_words}
use Rattle.pl_conflict.specs.Prelinked as prelinked
use Rattle.pl_conflict.specs.Prelinked.{Firm, firm_of, all_firm, objects_of, slots_of, originals_of, version_of, has_numbers, list_row, list_of, are_set, library_file, parts_of, is_program_place, flat_of, program_by, with_rows, with_modules, program_file, file_of, stored, of_firm}
use Rattle.pl_conflict.proofs.ConflictLaws.{differ, placed_again}
use Rattle.pl_conflict.proofs.GivenLaws.{own_meanings, given_sizes, given_bytes, relocated_bytes}
use Rattle.pl_conflict.proofs.MemberLaws.{when_some, IsFirmOf, firms_zip, firms_are, HasOwn, all_own, IsSet, set_is, library_numbers, program_numbers, version_same}
use Rattle.pl_conflict.proofs.NumberLaws.{HasSymbols, symbols_below, rows_written, numbers_low, list_few}
use Rattle.pl_conflict.proofs.OrderLaws.{ascending_ascend}
use Rattle.pl_conflict.proofs.ScopeLaws.{set_placed}

-- ---- the file of a library

unfoldable pub library_made : Firm → List Firm → Marked
library_made r rs = record {
  object = r.object;
  original = r.member.original;
  slot = r.member.slot;
  stamp = r.member.stamp;
  checksum = checksum_of r.member.original;
  list = list_of rs;
  conflicts = [];
  version = version_of r.member.version;
}

filled_bytes : (o : List ℕ) (p : Spot) (word : Option ℕ) → IsBytes o → IsBytes (words.filled o p word)
filled_bytes o p None is = is_bytes_append _ _ (is_bytes_part p.at p.size o is) (is_bytes_zeros p.hidden)
filled_bytes o p (Some word) is =
    is_bytes_append _ _ (is_bytes_append _ _ (is_bytes_take p.size (bytes64 word) (is_bytes_bytes64 word)) (is_bytes_part (p.at + 8) (p.size - 8) o is)) (is_bytes_zeros p.hidden)

all_filled_bytes : (o : List ℕ) (ps : List Spot) (ws : List (Option ℕ)) → IsBytes o → IsBytes (all_filled o ps ws)
all_filled_bytes o [] ws is = is_bytes_nil
all_filled_bytes o (p ∷ ps) [] is = is_bytes_append (words.filled o p None) (all_filled o ps []) (filled_bytes o p None is) (all_filled_bytes o ps [] is)
all_filled_bytes o (p ∷ ps) (w ∷ ws) is = is_bytes_append (words.filled o p w) (all_filled o ps ws) (filled_bytes o p w is) (all_filled_bytes o ps ws is)

-- the bytes at the places of a library
unfoldable pub library_flat : Firm → List Firm → List ℕ
library_flat r rs = all_filled r.member.original (ps_of r.member.original) (own_words (objects_of (r ∷ rs)) (slots_of (r ∷ rs)))

pub library_file_is : (r : Firm) (rs : List Firm) → library_file (r ∷ rs) ≡ library_with r.member.original r.member.slot r.member.stamp (list_of rs) (library_flat r rs) (version_of r.member.version)
unfolding library_file library_flat
library_file_is r rs = refl

pub library_wanted : (r : Firm) (rs : List Firm) → HasOwn r → length (library_flat r rs) ≡ wanted (ps_of r.member.original)
unfolding library_flat
library_wanted r rs own = length-all_filled r.member.original (ps_of r.member.original) (own_words (objects_of (r ∷ rs)) (slots_of (r ∷ rs))) (spots_inside r.member.original r.object own.firm)

pub library_is_form : (r : Firm) (rs : List Firm) → HasOwn r → has_numbers r ≡ true → is_library r.object.kind ≡ true → is_list (list_of rs) ≡ true → length (library_file (r ∷ rs)) ≤ STORED → IsFormOf (library_file (r ∷ rs)) (library_made r rs)
unfolding library_made library_flat
library_is_form r rs own numbers library list small =
    let n = library_numbers r numbers library in
    let mark : IsLibraryMark (library_made r rs) = record { library = library; aligned = n.aligned; below = n.below; stamp = n.stamp; checksum = refl; conflicts = refl } in
    record {
      firm = own.firm;
      plain = own.plain;
      mark = inl mark;
      list = list;
      flat = library_flat r rs;
      bytes = all_filled_bytes r.member.original (ps_of r.member.original) (own_words (objects_of (r ∷ rs)) (slots_of (r ∷ rs))) own.firm.bytes;
      filled = library_wanted r rs own;
      small = small;
      is = library_file_is r rs ∙ library_is (library_made r rs) (library_flat r rs) library;
    }

-- ---- the file of a program

unfoldable pub program_made : Firm → List Firm → List ConflictRow → Marked
program_made r rs rows = record {
  object = r.object;
  original = r.member.original;
  slot = 0;
  stamp = 0;
  checksum = 0;
  list = list_of rs;
  conflicts = rows;
  version = version_of r.member.version;
}

-- what a program's file is made of
pub record IsProgramOf (r : Firm) (rs : List Firm) (file : List ℕ) : Type 0 where
  pub modules : List Module
  pub gs : List Meaning
  pub rows : List ConflictRow
  pub numbered : offsets (map (λ o. o.tls) (objects_of (r ∷ rs))) ≡ Ok modules
  pub given : meanings (objects_of (r ∷ rs)) (slots_of (r ∷ rs)) modules ≡ Ok gs
  pub conflicts : conflicts (objects_of (r ∷ rs)) (parts_of (r ∷ rs)) (slots_of (r ∷ rs)) modules ≡ Ok rows
  pub is : program_with r.member.original (list_of rs) (flat_of (r ∷ rs) gs) rows (version_of r.member.version) ≡ file

rows_some : {E F : Type 0} (ts : List Firm) (m : Result (List Meaning) E) (c : Result (List ConflictRow) F) (file : List ℕ) → with_rows ts m c ≡ Some file → (gs : List Meaning) × (rows : List ConflictRow) × (m ≡ Ok gs) × (c ≡ Ok rows) × (program_by ts gs rows ≡ Some file)
rows_some ts (Err e) c file is = absurd (none-some file is)
rows_some ts (Ok gs) (Err e) file is = absurd (none-some file is)
rows_some ts (Ok gs) (Ok rows) file is = (gs, rows, refl, refl, is)

modules_some : (r : Firm) (rs : List Firm) (n : Result (List Module) TlsFault) (file : List ℕ) → offsets (map (λ o. o.tls) (objects_of (r ∷ rs))) ≡ n → with_modules (r ∷ rs) n ≡ Some file → IsProgramOf r rs file
modules_some r rs (Err e) file numbered is = absurd (none-some file is)
modules_some r rs (Ok modules) file numbered is =
    let p = rows_some (r ∷ rs) (meanings (objects_of (r ∷ rs)) (slots_of (r ∷ rs)) modules) (conflicts (objects_of (r ∷ rs)) (parts_of (r ∷ rs)) (slots_of (r ∷ rs)) modules) file is in
    record { modules = modules; gs = p.0; rows = p.1; numbered = numbered; given = p.2; conflicts = p.3; is = same_Some _ file p.4 }

pub program_of : (r : Firm) (rs : List Firm) (file : List ℕ) → program_file (r ∷ rs) ≡ Some file → IsProgramOf r rs file
unfolding program_file
program_of r rs file is = modules_some r rs (offsets (map (λ o. o.tls) (objects_of (r ∷ rs)))) file refl is

-- ---- the bytes at its places

abbrev HasBytes : Piece → Type 0
HasBytes p = IsBytes p.bytes

pieces_bytes : (place : ℕ) (bytes : List ℕ) (ss : List Segment) → IsBytes bytes → All HasBytes (loaded_pieces place bytes ss)
pieces_bytes place bytes [] is = All-nil HasBytes
pieces_bytes place bytes (s ∷ ss) is = All-cons HasBytes _ (loaded_pieces place bytes ss) (is_bytes_part s.offset s.filesz bytes is) (pieces_bytes place bytes ss is)

loaded_bytes : (places : List ℕ) (parts : List (List ℕ)) (member : ℕ) (os : List Object) → ((k : ℕ) → IsBytes (part_of parts k)) → All HasBytes (all_pieces (loaded_from places parts member os))
unfolding loaded_from
loaded_bytes places parts member [] are = All-nil HasBytes
loaded_bytes places parts member (o ∷ os) are =
    All-append HasBytes (pieces_at (base_of places member) (part_of parts member) o) (all_pieces (loaded_from places parts (member + 1) os))
    (pieces_bytes (base_of places member) (part_of parts member) (loads o.segments) (are member)) (loaded_bytes places parts (member + 1) os are)

originals_bytes : (rs : List Firm) → All HasOwn rs → (k : ℕ) → IsBytes (part_of (originals_of rs) k)
originals_bytes [] all k = is_bytes_nil
originals_bytes (r ∷ rs) all zero = (All-head HasOwn r rs all).firm.bytes
originals_bytes (r ∷ rs) all (suc k) = originals_bytes rs (All-tail HasOwn r rs all) k

-- the memory that its scope makes
unfoldable pub scope_memory : List Firm → List Meaning → Memory
scope_memory rs gs = relocated (layered (all_pieces (loaded_objects (slots_of rs) (originals_of rs) (objects_of rs)))) gs

-- the bytes for each place
unfoldable pub given_of : List Firm → List Meaning → List (List ℕ)
given_of rs gs = map (λ g. read (scope_memory rs gs) g.start g.size) (filter is_program_place gs)

pub flat_is : (rs : List Firm) (gs : List Meaning) → flat_of rs gs ≡ concat (given_of rs gs)
unfolding flat_of given_of scope_memory
flat_is rs gs = refl

given_are_bytes : (rs : List Firm) (gs : List Meaning) → All HasOwn rs → IsBytes (concat (given_of rs gs))
unfolding given_of scope_memory
given_are_bytes rs gs all =
    given_bytes (scope_memory rs gs) (filter is_program_place gs)
    (relocated_bytes (all_pieces (loaded_objects (slots_of rs) (originals_of rs) (objects_of rs))) gs (loaded_bytes (slots_of rs) (originals_of rs) 0 (objects_of rs) (originals_bytes rs all)))

-- ---- its conflict rows can be written

all_accepted : (rs : List Firm) → All HasOwn rs → All IsAccepted (objects_of rs)
all_accepted [] all = All-nil IsAccepted
all_accepted (r ∷ rs) all =
    let own : HasOwn r = All-head HasOwn r rs all in
    All-cons IsAccepted r.object (objects_of rs) (record { bytes = r.member.original; size = own.firm.few; read = own.firm.accepted }) (all_accepted rs (All-tail HasOwn r rs all))

all_symbols : (rs : List Firm) → All HasOwn rs → All HasSymbols (objects_of rs)
all_symbols [] all = All-nil HasSymbols
all_symbols (r ∷ rs) all =
    let own : HasOwn r = All-head HasOwn r rs all in
    All-cons HasSymbols r.object (objects_of rs) (symbols_below r.member.original r.object own.firm.bytes own.firm.accepted) (all_symbols rs (All-tail HasOwn r rs all))

conflicts_are : (objects : List Object) (parts : List (List ℕ)) (places : List ℕ) (modules : List Module) (gs : List Meaning) (rows : List ConflictRow) → meanings objects places modules ≡ Ok gs → conflicts objects parts places modules ≡ Ok rows → ascending (rows_of (loaded_objects places parts objects) gs) ≡ rows
unfolding conflicts
conflicts_are objects parts places modules gs rows given made =
    ok_same (ascending (rows_of (loaded_objects places parts objects) gs)) rows (sym (ap (λ (m : Result (List Meaning) LinkFault). m >>= λ ms. Ok (ascending (rows_of (loaded_objects places parts objects) ms))) given) ∙ made)

all_few : (r : Firm) (rs : List Firm) (file : List ℕ) (p : IsProgramOf r rs file) → HasOwn r → length file ≤ STORED → 1 + length (map (λ o. o.tls) (objects_of (r ∷ rs))) ≤ 2 ^ 64
all_few r rs file p own small =
    let few = list_few r.member.original r.object (list_of rs) (flat_of (r ∷ rs) p.gs) p.rows (version_of r.member.version) own.firm (subst (λ (xs : List ℕ). length xs ≤ STORED) (sym p.is) small) in
    omega (arith, few, length-map rs list_row, length-map (objects_of (r ∷ rs)) (λ o. o.tls), length-map rs (λ t. t.object))

rows_spelled : (r : Firm) (rs : List Firm) (file : List ℕ) (p : IsProgramOf r rs file) → All HasOwn (r ∷ rs) → IsSet r rs → length file ≤ STORED → are_conflicts p.rows ≡ true
rows_spelled r rs file p all set small =
    let objects = objects_of (r ∷ rs) in
    let places = slots_of (r ∷ rs) in
    let parts = parts_of (r ∷ rs) in
    let files = loaded_objects places parts objects in
    let numbers = and_from (has_numbers r) (list_all has_numbers rs) set.first set.numbers in
    let placed = placed_again objects places (originals_of (r ∷ rs)) parts (set_placed (r ∷ rs) all numbers set.apart) in
    let up : ascend (ascending (rows_of files p.gs)) ≡ true = ascending_ascend (rows_of files p.gs) (differ objects parts places p.modules p.gs (all_accepted (r ∷ rs) all) placed p.given) in
    let low = numbers_low (map (λ o. o.tls) objects) p.modules p.numbered (all_few r rs file p (All-head HasOwn r rs all) small) in
    subst (λ (rows : List ConflictRow). are_conflicts rows ≡ true) (conflicts_are objects parts places p.modules p.gs p.rows p.given p.conflicts)
    (rows_written objects places p.modules p.gs files (all_symbols (r ∷ rs) all) low p.given up)

pub program_is_form : (r : Firm) (rs : List Firm) (file : List ℕ) (p : IsProgramOf r rs file) → All HasOwn (r ∷ rs) → is_library r.object.kind ≡ false → IsSet r rs → length file ≤ STORED → IsFormOf file (program_made r rs p.rows)
unfolding program_made given_of
program_is_form r rs file p all other set small =
    let own : HasOwn r = All-head HasOwn r rs all in
    let mark : IsProgramMark (program_made r rs p.rows) = record { program = other; slot = refl; stamp = refl; checksum = refl; conflicts = rows_spelled r rs file p all set small } in
    let sizes = given_sizes (objects_of (r ∷ rs)) (slots_of (r ∷ rs)) p.modules (scope_memory (r ∷ rs) p.gs) r.object.relocations (filter is_program_place p.gs) (own_meanings r.object (objects_of rs) (slots_of (r ∷ rs)) p.modules p.gs p.given) in
    record {
      firm = own.firm;
      plain = own.plain;
      mark = inr mark;
      list = set.list;
      flat = flat_of (r ∷ rs) p.gs;
      bytes = subst IsBytes (sym (flat_is (r ∷ rs) p.gs)) (given_are_bytes (r ∷ rs) p.gs all);
      filled = ap length (flat_is (r ∷ rs) p.gs) ∙ given_wanted r.member.original r.object (given_of (r ∷ rs) p.gs) own.firm sizes;
      small = small;
      is = sym p.is ∙ program_is (program_made r rs p.rows) (flat_of (r ∷ rs) p.gs) other;
    }

-- ---- the mark

rows_same : (ms : List Member) (rs : List Firm) → AllZip IsFirmOf ms rs → map row_of_list (list_of rs) ≡ map row_for ms
rows_same [] [] zip = refl
rows_same [] (r ∷ rs) zip = absurd zip
rows_same (m ∷ ms) [] zip = absurd zip
rows_same (m ∷ ms) (r ∷ rs) zip =
    ap (λ (n : Member). row_for n ∷ map row_of_list (list_of rs)) zip.0.is ∙ ap (λ (xs : List Row). row_for m ∷ xs) (rows_same ms rs zip.1)

mark_made : ℕ → ℕ → ℕ → List Row → Mark
mark_made version slot stamp list = record { version = version; slot = slot; stamp = stamp; list = list }

marks_same : (v w s t u x : ℕ) (l k : List Row) → v ≡ w → s ≡ t → u ≡ x → l ≡ k → mark_made v s u l ≡ mark_made w t x k
marks_same v w s t u x l k a b c d = rw (a, b, c, d) refl

pub library_mark : (m : Member) (ms : List Member) (r : Firm) (rs : List Firm) → AllZip IsFirmOf (m ∷ ms) (r ∷ rs) → has_numbers r ≡ true → mark_of (library_made r rs) ≡ mark_for m ms
unfolding library_made mark_made
library_mark m ms r rs zip numbers =
    let version : number_of (version_of r.member.version) ≡ m.version = version_same r numbers ∙ ap (λ (n : Member). n.version) zip.0.is in
    marks_same _ _ _ _ _ _ _ _ version (ap (λ (n : Member). n.slot) zip.0.is) (ap (λ (n : Member). n.stamp) zip.0.is) (rows_same ms rs zip.1)

pub program_mark : (m : Member) (ms : List Member) (r : Firm) (rs : List Firm) (rows : List ConflictRow) → AllZip IsFirmOf (m ∷ ms) (r ∷ rs) → has_numbers r ≡ true → is_library r.object.kind ≡ false → mark_of (program_made r rs rows) ≡ mark_for m ms
unfolding program_made mark_made
program_mark m ms r rs rows zip numbers other =
    let version : number_of (version_of r.member.version) ≡ m.version = version_same r numbers ∙ ap (λ (n : Member). n.version) zip.0.is in
    let n = program_numbers r numbers other in
    marks_same _ _ _ _ _ _ _ _ version (sym n.0 ∙ ap (λ (n : Member). n.slot) zip.0.is) (sym n.1 ∙ ap (λ (n : Member). n.stamp) zip.0.is) (rows_same ms rs zip.1)

-- ---- the whole

-- what the members of a walk are, where they prelink a file
pub record IsPrelinked (m : Member) (ms : List Member) (file : List ℕ) : Type 0 where
  pub r : Firm
  pub rs : List Firm
  pub firms : AllZip (λ n r. firm_of n ≡ Some r) (m ∷ ms) (r ∷ rs)
  pub set : IsSet r rs
  pub is : file_of (r ∷ rs) ≡ Some file
  pub small : length file ≤ STORED

pub stored_some : (o : Option (List ℕ)) (file : List ℕ) → stored o ≡ Some file → (o ≡ Some file) × (length file ≤ STORED)
stored_some None file e = absurd (none-some file e)
stored_some (Some form) file e =
    let p = when_some (nat_le (length form) STORED) (Some form) file e in
    (p.1, subst (λ (xs : List ℕ). length xs ≤ STORED) (same_Some form file p.1) (leb-true (length form) STORED p.0))

firm_some : (m : Member) (ms : List Member) (o : Option (List Firm)) (file : List ℕ) → all_firm (m ∷ ms) ≡ o → of_firm o ≡ Some file → IsPrelinked m ms file
firm_some m ms None file firm e = absurd (none-some file e)
firm_some m ms (Some []) file firm e = absurd (firms_zip (m ∷ ms) [] firm)
firm_some m ms (Some (r ∷ rs)) file firm e =
    let p = when_some (are_set (r ∷ rs)) (stored (file_of (r ∷ rs))) file e in
    let q = stored_some (file_of (r ∷ rs)) file p.1 in
    record { r = r; rs = rs; firms = firms_zip (m ∷ ms) (r ∷ rs) firm; set = set_is r rs p.0; is = q.0; small = q.1 }

pub prelinked_is : (m : Member) (ms : List Member) (file : List ℕ) → prelinked.prelinked (m ∷ ms) ≡ Some file → IsPrelinked m ms file
unfolding prelinked.prelinked
prelinked_is m ms file e = firm_some m ms (all_firm (m ∷ ms)) file refl e

pub library_of : (r : Firm) (rs : List Firm) (file : List ℕ) → is_library r.object.kind ≡ true → file_of (r ∷ rs) ≡ Some file → library_file (r ∷ rs) ≡ file
library_of r rs file library e = same_Some (library_file (r ∷ rs)) file (rw library at e)

pub program_from : (r : Firm) (rs : List Firm) (file : List ℕ) → is_library r.object.kind ≡ false → file_of (r ∷ rs) ≡ Some file → IsProgramOf r rs file
program_from r rs file other e = program_of r rs file (rw other at e)

pub prelinked_forms : PrelinkedAreForms
unfolding library_made program_made
prelinked_forms m ms file e =
    let p = prelinked_is m ms file e in
    let zip = firms_are (m ∷ ms) (p.r ∷ p.rs) p.firms in
    let all = all_own (m ∷ ms) (p.r ∷ p.rs) zip in
    let original : p.r.member.original ≡ m.original = ap (λ (n : Member). n.original) zip.0.is in
    elim (cases_Bool (is_library p.r.object.kind)) [
      | inl library ↦
          let is : library_file (p.r ∷ p.rs) ≡ file = library_of p.r p.rs file library p.is in
          let form : IsFormOf file (library_made p.r p.rs) =
          subst (λ (xs : List ℕ). IsFormOf xs (library_made p.r p.rs)) is
          (library_is_form p.r p.rs (All-head HasOwn p.r p.rs all) p.set.first library p.set.list (subst (λ (xs : List ℕ). length xs ≤ STORED) (sym is) p.small)) in
          record { bytes = forms_are_bytes file (library_made p.r p.rs) form; made = library_made p.r p.rs; form = form; original = original; mark = library_mark m ms p.r p.rs zip p.set.first }
      | inr other ↦
          let made = program_from p.r p.rs file other p.is in
          let form : IsFormOf file (program_made p.r p.rs made.rows) = program_is_form p.r p.rs file made all other p.set p.small in
          record { bytes = forms_are_bytes file (program_made p.r p.rs made.rows) form; made = program_made p.r p.rs made.rows; form = form; original = original; mark = program_mark m ms p.r p.rs made.rows zip p.set.first other }
    ]
