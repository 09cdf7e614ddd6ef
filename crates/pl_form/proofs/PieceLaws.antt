-- What a form loads, piece by piece.
use Rattle.std.proofs.Common.{◌≡◌, ℕ, zero, suc, ◌+◌, ◌-◌, ◌<◌, ◌≤◌, Bool, true, false, List, [], ◌∷◌, length, map, get_or, Option, Some, None, refl, sym, ap, subst, ◌∙◌, arith, inl, inr}
use Rattle.std.specs.Prelude.{◌&&◌, slice_index, is_some}
use Rattle.std.specs.List.{list_any, concat, AllZip}
use Rattle.std.proofs.lemmas.Bool.{cases_Bool, or_parts, or_from, false≢true, true≢false, false_from_ne_true}
use Rattle.std.proofs.lemmas.List.{get_or-map, length-map}
use Rattle.std.proofs.lemmas.List.FromFn.{get_or-map-range_with_len}
use Rattle.pl_base.specs.Memory.{is_within, lies, byte_at}
use Rattle.pl_base.specs.Windows.{Window, holds}
use Rattle.pl_base.proofs.MemoryLaws.{within_true, within_is}
use Rattle.pl_base.proofs.WindowLaws.{holds_true}
use Rattle.pl_elf.specs.Headers.{header, segment, segments, is_load, loads}
use Rattle.pl_elf.specs.Ranges.{has}
use Rattle.pl_elf.specs.declared.range.Range.{Range}
use Rattle.pl_elf.specs.declared.segment.Segment.{Segment}
use Rattle.pl_lists.specs.declared.conflict_row.ConflictRow.{ConflictRow}
use Rattle.pl_lists.specs.declared.list_row.ListRow.{ListRow}
use Rattle.pl_object.specs.PlaceClauses.{last_load}
use Rattle.pl_object.specs.Relocations as relocations
use Rattle.pl_object.specs.Relocations.{places}
use Rattle.pl_object.specs.Tables.{link_windows, window_range}
use Rattle.pl_object.specs.declared.object.Object.{Object}
use Rattle.pl_object.specs.declared.reloc.Reloc.{Reloc}
use Rattle.pl_form.specs.Back.{wanted}
use Rattle.pl_form.specs.Forms as forms
use Rattle.pl_form.specs.Forms.{original_of}
use Rattle.pl_form.specs.Found.{ss_of, secs_of, tags_of, places_of, ps_of}
use Rattle.pl_form.specs.PartLaws.{IsFoundIn, IsFree, IsUnder, IsAsLong, FormsLibrary, FormsProgram, segment_of, stands_at, original_at}
use Rattle.pl_form.specs.Loads.{stands, pieces_of, fills}
use Rattle.pl_form.specs.Parts.{moved_segment}
use Rattle.pl_form.specs.declared.parts.Extension.{Extension}
use Rattle.pl_form.proofs.AlikeTheorem.{libraries_load_alike, programs_load_alike}
use Rattle.pl_form.proofs.FinalTheorem.{program_conditions}
use Rattle.pl_form.proofs.KindLaws.{segment_count}
use Rattle.pl_form.proofs.ShownLaws.{zip_pieces}
use Rattle.pl_form.proofs.StandLaws.{parts_found, fills_told, libraries_hold_fills, programs_hold_fills}
use Rattle.pl_form.proofs.TableLaws.{libraries_are_moved, programs_are_extended}
use Rattle.pl_form.proofs.WholeTheorem.{program_is}
use Rattle.sha2.proofs.Facts256.{length-sha256}
use Rattle.sha2.specs.Sha256.{sha256}
use Rattle.pl_form.specs.Faults.{IsFirm}
use Rattle.pl_form.specs.Library.{IsFirmLibrary, IsEven, IsShortList, library_with}
use Rattle.pl_form.specs.Pieces.{is_linked, is_over, IsPieceOf, StandsFor, LibrariesStandFor, IsGiven, ProgramsStandFor, GivenAreWanted, LibrariesAreMoved}
use Rattle.pl_form.specs.Program.{IsFirmProgram, last_index, program_with}
use Rattle.pl_form.specs.Words.{listed, checksum_of, digest_in, extension_of}
use Rattle.pl_form.specs.declared.constants.TheConstants.{STORED}
use Rattle.pl_form.specs.declared.version.Version.{Version}
use Rattle.pl_form.proofs.AlikeLaws.{below_library, below_program}
use Rattle.pl_form.proofs.FirmLaws.{original_is}
use Rattle.pl_form.proofs.FormOf.{forms_library, forms_program}
use Rattle.pl_form.proofs.LengthLaws.{library_short}
use Rattle.pl_form.proofs.ReadyLaws.{digest_ready, extended_some}
use Rattle.pl_form.proofs.SomeLastLaws.{some_last}

-- ---- a byte of no link table

-- what no PT_LOAD passes, the one of an index does not
none_loaded : (test : Segment → Bool) (ss : List Segment) (i : ℕ) (d : Segment) → list_any test (loads ss) ≡ false → i < length ss → is_load (get_or ss i d) ≡ true → test (get_or ss i d) ≡ false
none_loaded test [] i d none lt load = absurd (omega (arith, lt))
none_loaded test (s ∷ ss) zero d none lt load = (or_parts (test s) (list_any test (loads ss)) (rw load at none)).0
none_loaded test (s ∷ ss) (suc i) d none lt load = elim (cases_Bool (is_load s)) [
  | inl hit ↦ none_loaded test ss i d (or_parts (test s) (list_any test (loads ss)) (rw hit at none)).1 (omega (arith, lt)) load
  | inr miss ↦ none_loaded test ss i d (rw miss at none) (omega (arith, lt)) load
]

none_held : (inside : Bool) (n : ℕ) (ws : List Window) → inside ≡ true → list_any (λ table. inside && has n table) (map window_range ws) ≡ false → list_any (holds n) ws ≡ false
none_held inside n [] hit none = refl
none_held inside n (w ∷ ws) hit none =
    let p = or_parts (inside && has n (window_range w)) (list_any (λ table. inside && has n table) (map window_range ws)) none in
    or_from (holds n w) (list_any (holds n) ws) (rw hit at p.0) (none_held inside n ws hit p.1)

-- ---- a byte of no place

away_from : (place address v : ℕ) (rs : List Reloc) → address ≡ place + v → list_any (is_over place address) rs ≡ false → list_any (holds v) (places rs) ≡ false
away_from place address v [] at none = refl
away_from place address v (r ∷ rs) at none =
    let p = or_parts (is_over place address r) (list_any (is_over place address) rs) none in
    let here : Window = record { at = r.address; size = r.width } in
    or_from (holds v here) (list_any (holds v) (places rs))
    (false_from_ne_true (holds v here) (λ hit.
    let h = holds_true v here hit in
    false≢true (sym p.0 ∙ within_is (place + r.address) r.width address (omega (arith, at, h.0)) (omega (arith, at, h.1)))))
    (away_from place address v rs at p.1)

-- ---- a file whose segments load what is known of forms

-- its bytes outside of link tables and places are the original's, and those of places are given
record LoadsAs (file o : List ℕ) (given : List (List ℕ)) (place : ℕ) : Type 0 where
  count : length (ss_of file) ≡ length (ss_of o)
  free : (i k : ℕ) (d : Segment) → IsFree o i k d → stands_at place file (segment_of o i d) i k ≡ original_at place o (segment_of o i d) k
  under : (i k a j : ℕ) (d : Segment) (w : Window) → IsUnder o i k a j d w → stands_at place file (segment_of o i d) i k ≡ slice_index (get_or given a []) j

borne_is : (file : List ℕ) (i : ℕ) (d : Segment) → i < length (ss_of file) → get_or (ss_of file) i d ≡ segment file (header file) i
unfolding segments
borne_is file i d lt = get_or-map-range_with_len (segment file (header file)) 0 (header file).phnum i i d (omega (arith, lt, segment_count file (header file))) (omega arith)

piece_away : (file o : List ℕ) (x : Object) (given : List (List ℕ)) (place address i k : ℕ) (d : Segment) → IsFoundIn o x → LoadsAs file o given place → i < length (ss_of o) → is_load (segment_of o i d) ≡ true → k < (segment_of o i d).memsz → address ≡ place + (segment_of o i d).vaddr + k
    → is_linked place x address ≡ false → list_any (is_over place address) x.relocations ≡ false → stands_at place file (segment_of o i d) i k ≡ original_at place o (segment_of o i d) k
unfolding is_linked
piece_away file o x given place address i k d found is lt load below at seen away =
    let s = segment_of o i d in
    let offset : address - (place + s.vaddr) ≡ k = omega (arith, at) in
    let rows : list_any (λ s. list_any (λ table. is_within (place + s.vaddr) s.filesz address && has (s.offset + (address - (place + s.vaddr))) table) x.tables) (loads (ss_of o)) ≡ false =
    subst (λ (ss : List Segment). list_any (λ s. list_any (λ table. is_within (place + s.vaddr) s.filesz address && has (s.offset + (address - (place + s.vaddr))) table) x.tables) (loads ss) ≡ false) found.rows seen in
    let here : list_any (λ table. is_within (place + s.vaddr) s.filesz address && has (s.offset + (address - (place + s.vaddr))) table) x.tables ≡ false =
    none_loaded (λ s. list_any (λ table. is_within (place + s.vaddr) s.filesz address && has (s.offset + (address - (place + s.vaddr))) table) x.tables) (ss_of o) i d rows lt load in
    let tables : list_any (λ table. is_within (place + s.vaddr) s.filesz address && has (s.offset + k) table) (map window_range (link_windows (header o) (ss_of o) (secs_of o) (tags_of o))) ≡ false =
    subst (λ (n : ℕ). list_any (λ table. is_within (place + s.vaddr) s.filesz address && has (s.offset + n) table) (map window_range (link_windows (header o) (ss_of o) (secs_of o) (tags_of o))) ≡ false) offset
    (subst (λ (ts : List Range). list_any (λ table. is_within (place + s.vaddr) s.filesz address && has (s.offset + (address - (place + s.vaddr))) table) ts ≡ false) found.linked here) in
    let places_away : list_any (holds (s.vaddr + k)) (places_of o) ≡ false =
    subst (λ (ws : List Window). list_any (holds (s.vaddr + k)) ws ≡ false) found.placed (away_from place address (s.vaddr + k) x.relocations (omega (arith, at)) away) in
    is.free i k d (record {
      lt = omega (arith, lt, segment_count o (header o));
      load = load;
      below = below;
      unmasked = λ inside. none_held (is_within (place + s.vaddr) s.filesz address) (s.offset + k) (link_windows (header o) (ss_of o) (secs_of o) (tags_of o)) (within_is (place + s.vaddr) s.filesz address (omega (arith, at)) (omega (arith, at, inside))) tables;
      away = places_away;
    })

piece_under : (file o : List ℕ) (x : Object) (given : List (List ℕ)) (place address i k a : ℕ) (d : Segment) (r : Reloc) → IsFoundIn o x → LoadsAs file o given place → i < length (ss_of o) → is_load (segment_of o i d) ≡ true → k < (segment_of o i d).memsz → address ≡ place + (segment_of o i d).vaddr + k
    → a < length x.relocations → is_over place address (get_or x.relocations a r) ≡ true → stands_at place file (segment_of o i d) i k ≡ slice_index (get_or given a []) (address - (place + (get_or x.relocations a r).address))
piece_under file o x given place address i k a d r found is lt load below at some hit =
    let row = get_or x.relocations a r in
    let w : Window = record { at = r.address; size = r.width } in
    let p = within_true (place + row.address) row.width address hit in
    let j : ℕ = address - (place + row.address) in
    let placed : get_or (places_of o) a w ≡ record { at = row.address; size = row.width } = ap (λ (ws : List Window). get_or ws a w) (sym found.placed) ∙ get_or-map relocations.place x.relocations a r w some in
    let start : (get_or (places_of o) a w).at ≡ row.address = ap (λ (v : Window). v.at) placed in
    let size : (get_or (places_of o) a w).size ≡ row.width = ap (λ (v : Window). v.size) placed in
    is.under i k a j d w (record {
      lt = omega (arith, lt, segment_count o (header o));
      load = load;
      below = below;
      place = omega (arith, some, ap length found.placed, length-map x.relocations relocations.place);
      inside = omega (arith, size, p.0, p.1);
      at = omega (arith, start, at, p.0);
    })

piece_of : (file o : List ℕ) (x : Object) (given : List (List ℕ)) (place address i : ℕ) (d : Segment) → IsFoundIn o x → LoadsAs file o given place → i < length (ss_of o) → is_load (get_or (ss_of o) i d) ≡ true
    → IsPieceOf x given place address (stands place o (get_or (ss_of o) i d) (get_or (ss_of o) i d)) (stands place file (get_or (ss_of o) i d) (get_or (ss_of file) i d))
piece_of file o x given place address i d found is lt load =
    let s = get_or (ss_of o) i d in
    let k : ℕ = address - (place + s.vaddr) in
    let borne : get_or (ss_of file) i d ≡ segment file (header file) i = borne_is file i d (omega (arith, lt, is.count)) in
    let at : lies address (stands place o s s) ≡ true → address ≡ place + s.vaddr + k = λ hit. (let p = within_true (place + s.vaddr) s.memsz address hit in omega (arith, p.0)) in
    let below : lies address (stands place o s s) ≡ true → k < s.memsz = λ hit. (let p = within_true (place + s.vaddr) s.memsz address hit in omega (arith, p.0, p.1)) in
    record {
      start = refl;
      size = refl;
      away = λ hit seen away.
          ap (λ (b : Segment). byte_at address (stands place file s b)) borne
          ∙ subst (λ (n : ℕ). byte_at n (stands place file s (segment file (header file) i)) ≡ byte_at n (stands place o s s)) (sym (at hit)) (piece_away file o x given place address i k d found is lt load (below hit) (at hit) seen away);
      under = λ a r some hit over.
          ap (λ (b : Segment). byte_at address (stands place file s b)) borne
          ∙ subst (λ (n : ℕ). byte_at n (stands place file s (segment file (header file) i)) ≡ slice_index (get_or given a []) (address - (place + (get_or x.relocations a r).address))) (sym (at hit)) (piece_under file o x given place address i k a d r found is lt load (below hit) (at hit) some over);
    }

stands_by : (file o : List ℕ) (x : Object) (given : List (List ℕ)) (place address : ℕ) → IsFoundIn o x → LoadsAs file o given place → StandsFor file o x given place address
stands_by file o x given place address found is =
    subst (λ (ss : List Segment). AllZip (IsPieceOf x given place address) (pieces_of place o ss ss) (pieces_of place file ss (ss_of file))) (sym found.rows)
    (zip_pieces (IsPieceOf x given place address) place o file (ss_of o) (ss_of file) is.count (λ i d lt load. piece_of file o x given place address i d found is lt load))

-- ---- a library

library_forms : (o : List ℕ) (x : Object) (slot stamp : ℕ) (list : List ListRow) (flat : List ℕ) (version : Version) → IsFirmLibrary o x → IsEven slot → length flat ≡ wanted (ps_of o) → length (library_with o slot stamp list flat version) ≤ STORED
    → FormsLibrary o x slot stamp (checksum_of o) (listed list) flat (digest_in version o)
unfolding library_with
library_forms o x slot stamp list flat version is even filled short =
    let digest = digest_in version o in
    forms_library o x slot stamp (checksum_of o) (listed list) flat digest is.firm is.library filled (digest_ready version (sha256 o) (length-sha256 o)) even.below even.even
    (below_library (original_of o) slot stamp (checksum_of o) (listed list) flat digest short)

moved_by : (o : List ℕ) (x : Object) (slot stamp : ℕ) (list : List ListRow) (flat : List ℕ) (version : Version) → FormsLibrary o x slot stamp (checksum_of o) (listed list) flat (digest_in version o)
    → ss_of (library_with o slot stamp list flat version) ≡ map (moved_segment slot) x.segments
unfolding library_with
moved_by o x slot stamp list flat version f =
    (libraries_are_moved o x slot stamp (checksum_of o) (listed list) flat (digest_in version o) f).are ∙ ap (map (moved_segment slot)) (sym (parts_found o x f.original).rows)

stands_for : (o : List ℕ) (x : Object) (slot stamp : ℕ) (list : List ListRow) (flat : List ℕ) (version : Version) (address : ℕ) → FormsLibrary o x slot stamp (checksum_of o) (listed list) flat (digest_in version o)
    → StandsFor (library_with o slot stamp list flat version) o x (fills (ps_of o) flat) slot address
unfolding library_with
stands_for o x slot stamp list flat version address f =
    let digest = digest_in version o in
    let found = parts_found o x f.original in
    let loads_as : LoadsAs (library_with o slot stamp list flat version) o (fills (ps_of o) flat) slot = record {
      count = ap length (libraries_are_moved o x slot stamp (checksum_of o) (listed list) flat digest f).are ∙ length-map (ss_of o) (moved_segment slot);
      free = λ i k d free. libraries_load_alike o x slot stamp (checksum_of o) (listed list) flat digest i k d f free;
      under = λ i k a j d w u. libraries_hold_fills o x slot stamp (checksum_of o) (listed list) flat digest i k a j d w f u;
    } in
    stands_by (library_with o slot stamp list flat version) o x (fills (ps_of o) flat) slot address found loads_as

pub library_moved : LibrariesAreMoved
library_moved o x slot stamp list flat version is even filled short = moved_by o x slot stamp list flat version (library_forms o x slot stamp list flat version is even filled short)

pub library_stands : LibrariesStandFor
library_stands o x slot stamp list flat version address is even filled short =
    stands_for o x slot stamp list flat version address (library_forms o x slot stamp list flat version is even filled short)

-- the same, whatever the size of the form, where the list is short
listed_forms : (o : List ℕ) (x : Object) (slot stamp : ℕ) (list : List ListRow) (flat : List ℕ) (version : Version) → IsFirmLibrary o x → IsEven slot → length flat ≡ wanted (ps_of o) → IsShortList (listed list)
    → FormsLibrary o x slot stamp (checksum_of o) (listed list) flat (digest_in version o)
listed_forms o x slot stamp list flat version is even filled short =
    let ready = digest_ready version (sha256 o) (length-sha256 o) in
    forms_library o x slot stamp (checksum_of o) (listed list) flat (digest_in version o) is.firm is.library filled ready even.below even.even
    (library_short o x slot stamp (checksum_of o) (listed list) (digest_in version o) is.firm is.library ready short.strings short.rows)

pub listed_moved : (o : List ℕ) (x : Object) (slot stamp : ℕ) (list : List ListRow) (flat : List ℕ) (version : Version) → IsFirmLibrary o x → IsEven slot → length flat ≡ wanted (ps_of o) → IsShortList (listed list)
    → ss_of (library_with o slot stamp list flat version) ≡ map (moved_segment slot) x.segments
listed_moved o x slot stamp list flat version is even filled short = moved_by o x slot stamp list flat version (listed_forms o x slot stamp list flat version is even filled short)

pub listed_stands : (o : List ℕ) (x : Object) (slot stamp : ℕ) (list : List ListRow) (flat : List ℕ) (version : Version) (address : ℕ) → IsFirmLibrary o x → IsEven slot → length flat ≡ wanted (ps_of o) → IsShortList (listed list)
    → StandsFor (library_with o slot stamp list flat version) o x (fills (ps_of o) flat) slot address
listed_stands o x slot stamp list flat version address is even filled short = stands_for o x slot stamp list flat version address (listed_forms o x slot stamp list flat version is even filled short)

-- ---- a program

long_each : (given : List (List ℕ)) (rs : List Reloc) → AllZip IsGiven given rs → AllZip IsAsLong given (places rs)
long_each [] [] zip = tt
long_each [] (r ∷ rs) zip = absurd zip
long_each (g ∷ gs) [] zip = absurd zip
long_each (g ∷ gs) (r ∷ rs) zip = (zip.0, long_each gs rs zip.1)

long_places : (o : List ℕ) (x : Object) (given : List (List ℕ)) → IsFirm o x → AllZip IsGiven given x.relocations → AllZip IsAsLong given (places_of o)
long_places o x given firm zip = subst (AllZip IsAsLong given) (parts_found o x (original_is o x firm)).placed (long_each given x.relocations zip)

pub given_wanted : GivenAreWanted
given_wanted o x given firm zip = (fills_told o given (long_places o x given firm zip)).size

program_count : (o : List ℕ) (x : Object) (index : ℕ) (last : Segment) (e : Extension) (flat : List ℕ) (digest : Option (List ℕ)) → FormsProgram o x index last e flat digest → length (ss_of (forms.form_of_program (original_of o) index last e flat digest)) ≡ length (ss_of o)
program_count o x index last e flat digest f =
    let c = program_conditions o x index last e flat digest f in
    ap length (programs_are_extended o x index last e flat digest f).are ∙ (program_is o index last e flat digest c).fits.segments ∙ sym (segment_count o (header o))

program_at : (o : List ℕ) (x : Object) (list : List ListRow) (given : List (List ℕ)) (conflicts : List ConflictRow) (version : Version) (address : ℕ) (found : Option Segment) → last_load (ss_of o) ≡ found → is_some found ≡ true → IsFirmProgram o x → AllZip IsGiven given x.relocations
    → length (program_with o list (concat given) conflicts version) ≤ STORED → StandsFor (program_with o list (concat given) conflicts version) o x given 0 address
program_at o x list given conflicts version address None at some is zip short = absurd (true≢false (sym some))
program_at o x list given conflicts version address (Some last) at some is zip short =
    let flat = concat given in
    let told = fills_told o given (long_places o x given is.firm zip) in
    let digest = digest_in version o in
    let e = extension_of o list conflicts in
    let index = last_index (ss_of o) in
    let form = forms.form_of_program (original_of o) index last e flat digest in
    let same : form ≡ program_with o list flat conflicts version = extended_some o (record { index = index; segment = last }) e flat version (record { at = at; index = refl }) in
    let small : length form ≤ STORED = subst (λ (xs : List ℕ). length xs ≤ STORED) (sym same) short in
    let f = forms_program o x last e flat digest is.firm is.program at told.size (digest_ready version (sha256 o) (length-sha256 o)) (below_program (original_of o) index last e flat digest small) in
    let loads_as : LoadsAs form o given 0 = record {
      count = program_count o x index last e flat digest f;
      free = λ i k d free. programs_load_alike o x index last e flat digest i k d f free;
      under = λ i k a j d w u. programs_hold_fills o x index last e flat digest i k a j d w f u ∙ ap (λ (gs : List (List ℕ)). slice_index (get_or gs a []) j) told.same;
    } in
    subst (λ (xs : List ℕ). StandsFor xs o x given 0 address) same (stands_by form o x given 0 address (parts_found o x (original_is o x is.firm)) loads_as)

pub program_stands : ProgramsStandFor
program_stands o x list given conflicts version address is zip short =
    program_at o x list given conflicts version address (last_load (ss_of o)) refl (some_last o x is.firm.accepted) is zip short
