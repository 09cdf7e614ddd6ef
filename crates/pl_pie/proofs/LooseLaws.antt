-- No position-independent program is a prelinked file: a prelinked program has another type, and the original of a prelinked library would be refused as such a program.
use Rattle.std.proofs.Common.{◌≡◌, ℕ, ◌+◌, ◌*◌, ◌^◌, ◌<◌, ◌≤◌, Bool, true, false, List, [], ◌∷◌, ◌++◌, length, map, Option, Some, None, Result, Ok, refl, sym, ap, subst, ◌∙◌, arith, inl, inr}
use Rattle.std.specs.Prelude.{◌&&◌, ◌||◌, ◌==◌, bit_and, is_some, not, unwrap_or}
use Rattle.std.specs.List.{range_with_len}
use Rattle.std.specs.Option.{option_map}
use Rattle.std.specs.Result.{is_ok}
use Rattle.std.proofs.lemmas.Bool.{cases_Bool, or_parts, true≢false}
use Rattle.pl_base.specs.Bytes.{bytes16, word16, word64}
use Rattle.pl_base.specs.Windows.{Window, within}
use Rattle.pl_base.proofs.AnswerLaws.{bind_ok, refuse_none}
use Rattle.pl_base.proofs.FindLaws.{find_fails}
use Rattle.pl_base.proofs.WindowLaws.{all_in, length-within, part_apart}
use Rattle.pl_base.proofs.WordLaws.{length_bytes16, word16_apart, word64_apart}
use Rattle.pl_dyn.specs.Entries.{is_ended, tags}
use Rattle.pl_dyn.specs.Kinds.{is_address_tag}
use Rattle.pl_dyn.specs.Read as dyn
use Rattle.pl_dyn.specs.Read.{value_of}
use Rattle.pl_dyn.specs.declared.dynamic.Dynamic.{Dynamic}
use Rattle.pl_dyn.specs.declared.tags.Tag.{Tag}
use Rattle.pl_elf.specs.Clauses.{bad_load}
use Rattle.pl_elf.specs.Headers.{header, is_load, is_moved_kind, loads, segment_at, segment_of_kind, segments}
use Rattle.pl_elf.specs.Kinds.{is_static}
use Rattle.pl_elf.specs.declared.constants.TheConstants.{ADDRESS_LIMIT, ET_EXEC}
use Rattle.pl_elf.specs.declared.header.Header.{Header}
use Rattle.pl_elf.specs.declared.segment.Segment.{Segment}
use Rattle.pl_elf.proofs.AcceptedLaws.{load_fits}
use Rattle.law_fixed.specs.Fixed.{fixed_segment}
use Rattle.pl_form.specs.Files.{marked_in}
use Rattle.pl_form.specs.Marks.{IsFormOf}
use Rattle.pl_form.specs.Program.{last_index}
use Rattle.pl_form.specs.Words.{checksum_of, digest_in, extension_of, listed}
use Rattle.pl_form.specs.declared.file.Marked.{Marked}
use Rattle.pl_form.proofs.CompleteLaws.{library_file, library_forms, program_file, program_forms, with_last}
use Rattle.pl_form.proofs.LibraryLaws.{dynamic_there}
use Rattle.pl_form.proofs.OriginalLaws.{dynamic_beside}
use Rattle.pl_object.specs.Accepted as object
use Rattle.pl_object.specs.Accepted.{Accepted}
use Rattle.pl_object.specs.FilePart.{file_window, loaded, loads_byte}
use Rattle.pl_object.specs.PlaceClauses.{check_relocs, misplaced_copy}
use Rattle.pl_object.specs.Reads.{check, check_rest, dynamic, is_pie, reads, too_large}
use Rattle.pl_object.specs.SymbolClauses.{check_symbols, has_ifunc}
use Rattle.pl_object.specs.Tables.{dynamic_memory, sections_window}
use Rattle.pl_object.specs.declared.object.Object.{Object}
use Rattle.pl_object.specs.declared.refusal.Refusal.{Refusal}
use Rattle.pl_object.specs.declared.refusal.Refusal.TheVariants.{Clause}
use Rattle.pl_object.proofs.AcceptedLaws.{accepted}
use Rattle.pl_object.proofs.TabledLaws.{IsTable, table_is}
use Rattle.pl_form.specs.Back.{head_windows}
use Rattle.pl_form.specs.Fits.{Fits}
use Rattle.pl_form.specs.Forms.{form_of_library, original_of, planned, form_of_program, undo_part}
use Rattle.pl_form.specs.Found.{d_of, ss_of, tags_of}
use Rattle.pl_form.specs.PartLaws.{FormsLibrary, FormsProgram}
use Rattle.pl_form.specs.Parts.{Original, form, front_part, library_dynamic, library_plan, moved_segment, new_header, program_plan, with_entries}
use Rattle.pl_form.specs.declared.parts.Extension.{Extension}
use Rattle.pl_form.specs.declared.parts.Listed.{Listed}
use Rattle.pl_form.specs.declared.parts.FormPlan.{FormPlan}
use Rattle.pl_form.proofs.AcceptedIs.{segments_are}
use Rattle.pl_form.proofs.FinalTheorem.{library_conditions, program_conditions}
use Rattle.pl_form.proofs.FormLaws.{form_header, form_split, front_size, rest_of}
use Rattle.pl_form.proofs.HeadLaws.{segment_part}
use Rattle.pl_form.proofs.PartsLaws.{part_before}
use Rattle.pl_form.proofs.PlaceByteLaws.{none_of_loads}
use Rattle.pl_form.proofs.TableLaws.{libraries_are_moved}
use Rattle.pl_form.proofs.WholeTheorem.{IsLibrary, library_is, program_is}
use Rattle.pl_pie.specs.Fix.{unfixed}
use Rattle.pl_pie.specs.Pie.{as_program, is_marked, pie, typed}
use Rattle.pl_pie.proofs.AtLaws.{IsFound, dynamic_of, found_is, headers_of, layout_of, linking_of}
use Rattle.pl_pie.proofs.CallLaws.{pie_long}
use Rattle.pl_pie.proofs.ExactLaws.{unfix_exact}
use Rattle.pl_pie.proofs.MemoryLaws.{are_standing, dynamic_memory_moves, segment_found, window_stays}
use Rattle.pl_pie.proofs.PieLaws.{IsPie, not_static, pie_is, pie_type}
use Rattle.pl_pie.proofs.RowOfLaws.{range_same}
use Rattle.pl_pie.proofs.EntriesLaws.{IsRead, read_is}
use Rattle.pl_pie.proofs.FixedLaws.{library_type, no_mark}
use Rattle.pl_pie.proofs.StandingLaws.{is_held, right_test}
use Rattle.pl_pie.proofs.TagsLaws.{IsOther, value_alike}

-- ---- the same bytes with the type of a program

module _ (bytes : List ℕ) (long : 64 ≤ length bytes) where
  abbrev program : List ℕ
  program = as_program bytes

  inside : 16 + length (bytes16 2) ≤ length bytes
  inside = omega (arith, length_bytes16 2, long)

  typed_segment : (at : ℕ) → 64 ≤ at → segment_at program at ≡ segment_at bytes at
  unfolding typed
  typed_segment at le =
      sym (segment_part at program) ∙ ap (λ (r : List ℕ). segment_at r 0) (part_apart at 56 16 (bytes16 2) bytes inside (inr (omega (arith, length_bytes16 2, le)))) ∙ segment_part at bytes

  -- the program headers, which stand behind the header, are the same
  typed_segments : 64 ≤ (header bytes).phoff → segments program (header program) ≡ segments bytes (header bytes)
  unfolding segments header typed
  typed_segments le =
      let start : word64 32 program ≡ word64 32 bytes = word64_apart 32 16 (bytes16 2) bytes inside (inr (omega (arith, length_bytes16 2))) in
      let count : word16 56 program ≡ word16 56 bytes = word16_apart 56 16 (bytes16 2) bytes inside (inr (omega (arith, length_bytes16 2))) in
      ap (λ (n : ℕ). map (λ i. segment_at program (n + 56 * i)) (range_with_len 0 (word16 56 program))) start
      ∙ ap (λ (n : ℕ). map (λ i. segment_at program (word64 32 bytes + 56 * i)) (range_with_len 0 n)) count
      ∙ range_same (λ i. segment_at program (word64 32 bytes + 56 * i)) (λ i. segment_at bytes (word64 32 bytes + 56 * i)) 0 (word16 56 bytes) (λ i lt. typed_segment (word64 32 bytes + 56 * i) (omega (arith, le)))

  -- and so is a window behind it
  typed_within : (w : Window) → 64 ≤ w.at → within w program ≡ within w bytes
  unfolding typed
  typed_within w le = part_apart w.at w.size 16 (bytes16 2) bytes inside (inr (omega (arith, length_bytes16 2, le)))

-- ---- the test of a position-independent program

abbrev test : ℕ → Option ℕ → Option ℕ → Bool → Bool
test kind flags name interpreter = kind == 3 && (not (bit_and (unwrap_or flags 0) 134217728 == 0) || interpreter && not (is_some name))

pie_test : (h : Header) (ss : List Segment) (ts : List Tag) → is_pie h ss ts ≡ test h.kind (value_of 1879048187 ts) (value_of 14 ts) (is_some (segment_of_kind 3 ss))
unfolding is_pie
pie_test h ss ts = refl

-- what is accepted is none
none_pie : (p : List ℕ) (y : Object) → reads p ≡ Ok y → is_static y.kind ≡ false → is_pie y.header y.segments (object.tags_of p y) ≡ false
unfolding check check_rest
none_pie p y read other =
    let ts : List Tag = object.tags_of p y in
    let found : IsFound p y ts = found_is p y read other in
    let f = headers_of y in
    let l = linking_of y in
    let places = layout_of ts y in
    let s = bind_ok (check_symbols (f.header.kind == ET_EXEC) f.segments places.hashes l.versions l.symbols) _ tt found.checks in
    let r = bind_ok (check_relocs (f.header.kind == ET_EXEC) f.segments (sections_window f.header ∷ places.windows) (length l.symbols) places.packed places.relocations) _ tt s.2 in
    let all = refuse_none ((has_ifunc l.symbols, Clause 28 0) ∷ (misplaced_copy (f.header.kind == ET_EXEC) places.relocations, Clause 29 0) ∷ (too_large p, Clause 30 0) ∷ (is_pie f.header f.segments ts, Clause 31 0) ∷ []) (Ok tt) (ap (λ (q : Result (Unit {0}) Refusal). is_ok q) r.2) in
    let a = or_parts (has_ifunc l.symbols) (misplaced_copy (f.header.kind == ET_EXEC) places.relocations || (too_large p || (is_pie f.header f.segments ts || false))) all in
    let b = or_parts (misplaced_copy (f.header.kind == ET_EXEC) places.relocations) (too_large p || (is_pie f.header f.segments ts || false)) a.1 in
    let c = or_parts (too_large p) (is_pie f.header f.segments ts || false) b.1 in
    (or_parts (is_pie f.header f.segments ts) false c.1).0

-- the dynamic table of what is accepted is read
table_read : (p : List ℕ) (y : Object) → reads p ≡ Ok y → is_static y.kind ≡ false → IsRead (within (file_window y.segments (dynamic_memory y.segments)) p)
unfolding dynamic loaded
table_read p y read other =
    let d : Dynamic = dynamic_of (object.tags_of p y) y in
    let found = found_is p y read other in
    let own : IsTable p y.segments d = table_is p y.segments d found.table in
    let table : dyn.read (within (file_window y.segments (dynamic_memory y.segments)) p) ≡ Ok d = rw own.inside at found.table in
    read_is (within (file_window y.segments (dynamic_memory y.segments)) p) d table

-- ---- the segments of a library's form

moved_is : (slot : ℕ) (s : Segment) → moved_segment slot s ≡ fixed_segment slot s
unfolding fixed_segment
moved_is slot s = elim (cases_Bool (is_moved_kind s.kind)) [
  | inl hit ↦ rw hit refl
  | inr miss ↦ rw miss refl
]

all_moved_is : (slot : ℕ) (ss : List Segment) → map (moved_segment slot) ss ≡ map (fixed_segment slot) ss
all_moved_is slot [] = refl
all_moved_is slot (s ∷ ss) = rw (moved_is slot s, all_moved_is slot ss) refl

some_kept : (f : Segment → Segment) (m : Option Segment) → is_some (option_map f m) ≡ is_some m
some_kept f None = refl
some_kept f (Some s) = refl

-- ---- two tags that stay

flags_other : IsOther 1879048187
unfolding is_address_tag
flags_other = record { some = refl; plain = refl; stamp = refl; checksum = refl }

name_other : IsOther 14
unfolding is_address_tag
name_other = record { some = refl; plain = refl; stamp = refl; checksum = refl }

-- ---- a library's form

module _ (o : List ℕ) (x : Object) (slot stamp checksum : ℕ) (l : Listed) (flat : List ℕ) (digest : Option (List ℕ)) (f : FormsLibrary o x slot stamp checksum l flat digest) (below : slot + x.span ≤ 2 ^ 47) where
  abbrev a : Original
  a = original_of o

  abbrev p : FormPlan
  p = library_plan a slot stamp checksum l

  abbrev undo : List ℕ
  undo = undo_part p a digest

  abbrev file : List ℕ
  file = form_of_library a slot stamp checksum l flat digest

  c : IsLibrary o slot stamp checksum l flat digest
  c = library_conditions o x slot stamp checksum l flat digest f

  fits : Fits p a flat (length undo)
  fits = (library_is o slot stamp checksum l flat digest c).fits

  acc : Accepted o x
  acc = accepted o x f.original.accepted

  own_segments : x.segments ≡ ss_of o
  own_segments = segments_are o x acc

  -- behind its header stand its program headers
  headers_low : 64 ≤ (header file).phoff
  unfolding planned new_header
  headers_low = let at = ap (λ (h : Header). h.phoff) (form_header p a flat undo fits) in omega (arith, at, fits.apart)

  file_segments : ss_of file ≡ map (fixed_segment slot) x.segments
  file_segments = (libraries_are_moved o x slot stamp checksum l flat digest f).are ∙ all_moved_is slot (ss_of o) ∙ ap (map (fixed_segment slot)) (sym own_segments)

  -- the dynamic table stands where the original's does
  table_window : file_window (ss_of file) (dynamic_memory (ss_of file)) ≡ d_of o
  table_window =
      let ss : List Segment = x.segments in
      let m : Window = dynamic_memory ss in
      let d : Dynamic = dynamic_of (object.tags_of o x) x in
      let own : IsTable o ss d = table_is o ss d (found_is o x f.original.accepted f.original.dynamic).table in
      let s : Segment = own.byte.0 in
      let held = is_held ss m s own.byte.1 own.inside in
      let good = find_fails (loads_byte m.at) (λ (y : Segment). is_load y && bad_load y) ss s own.byte.1 (none_of_loads bad_load ss acc.loads.fit) in
      let sound = load_fits s (right_test (is_load s) (bad_load s) held.load good) in
      let low : m.at < 2 ^ 64 = omega (arith, held.high, sound.bytes, sound.ends) in
      let stands = are_standing slot ss acc.loads (subst (λ (n : ℕ). slot + n ≤ ADDRESS_LIMIT) acc.span below) in
      ap (λ (ys : List Segment). file_window ys (dynamic_memory ys)) file_segments
      ∙ ap (file_window (map (fixed_segment slot) ss)) (dynamic_memory_moves slot ss own.there)
      ∙ window_stays slot ss stands m low
      ∙ ap (λ (ys : List Segment). file_window ys (dynamic_memory ys)) own_segments

  beside_low : 64 ≤ (d_of o).at
  beside_low = (dynamic_beside o c.accepted (omega (arith, f.spare))).low

  -- and is that of its plan
  table_there : within (d_of o) file ≡ p.dynamic
  unfolding planned library_plan
  table_there =
      let d : Window = d_of o in
      let ins = all_in (length o) (head_windows (header o) ++ d ∷ []) fits.heads_in in
      let front : List ℕ = front_part p a flat (length undo) in
      let beside = dynamic_beside o c.accepted (omega (arith, f.spare)) in
      ap (within d) (form_split p a flat undo)
      ∙ part_before d.at d.size p.cut p.more front (rest_of p a flat undo) ins.1.1.1.0 (omega (arith, fits.cut, front_size p a flat (length undo) fits))
      ∙ dynamic_there p a flat (length undo) fits beside.low beside.apart

  old_read : IsRead (within (d_of o) o)
  old_read = subst (λ (ys : List Segment). IsRead (within (file_window ys (dynamic_memory ys)) o)) own_segments (table_read o x f.original.accepted f.original.dynamic)

  old_tags : object.tags_of o x ≡ tags_of o
  unfolding loaded
  old_tags = ap (λ (ys : List Segment). tags (within (file_window ys (dynamic_memory ys)) o)) own_segments

  -- the value of any other tag is the original's
  same_value : (number : ℕ) → IsOther number → is_ended p.dynamic ≡ true → value_of number (tags p.dynamic) ≡ value_of number (tags_of o)
  unfolding library_plan library_dynamic with_entries
  same_value number other ended =
      let d : Window = d_of o in
      let ins = all_in (length o) (head_windows (header o) ++ d ∷ []) fits.heads_in in
      let size : length (within d o) ≡ d.size = length-within d o ins.1.1.1.0 in
      value_alike slot stamp checksum number (within d o) (omega (arith, size, f.spare)) other old_read.ended ended

  -- so it is no position-independent program
  pub no_pie : (y : Object) → pie file ≡ Some y → ⊥
  unfolding is_marked loaded
  no_pie y some =
      let is : IsPie file y = pie_is file y some in
      let long : 64 ≤ length file = pie_long file y some in
      let q : List ℕ = as_program file in
      let static : is_static y.kind ≡ false = not_static y.kind is.program in
      let same : y.segments ≡ ss_of file = sym is.accepted.head.segments ∙ ap (segments q) (sym is.accepted.head.header) ∙ typed_segments file long headers_low in
      let window : file_window y.segments (dynamic_memory y.segments) ≡ d_of o = ap (λ (ys : List Segment). file_window ys (dynamic_memory ys)) same ∙ table_window in
      let table : within (file_window y.segments (dynamic_memory y.segments)) q ≡ p.dynamic = ap (λ (w : Window). within w q) window ∙ typed_within file long (d_of o) beside_low ∙ table_there in
      let new : IsRead p.dynamic = subst IsRead table (table_read q y is.read static) in
      let new_tags : object.tags_of q y ≡ tags p.dynamic = ap tags table in
      let flags : value_of 1879048187 (object.tags_of q y) ≡ value_of 1879048187 (object.tags_of o x) = ap (value_of 1879048187) new_tags ∙ same_value 1879048187 flags_other new.ended ∙ ap (value_of 1879048187) (sym old_tags) in
      let name : value_of 14 (object.tags_of q y) ≡ value_of 14 (object.tags_of o x) = ap (value_of 14) new_tags ∙ same_value 14 name_other new.ended ∙ ap (value_of 14) (sym old_tags) in
      let interpreter : is_some (segment_of_kind 3 y.segments) ≡ is_some (segment_of_kind 3 x.segments) =
      ap (λ (ys : List Segment). is_some (segment_of_kind 3 ys)) (same ∙ file_segments) ∙ ap is_some (segment_found slot 3 x.segments) ∙ some_kept (fixed_segment slot) (segment_of_kind 3 x.segments) in
      let kind : (header file).kind ≡ x.header.kind = library_type o x slot stamp checksum l flat digest f ∙ sym f.kind ∙ ap (λ (h : Header). h.kind) acc.head.header in
      let marked : test (header file).kind (value_of 1879048187 (object.tags_of q y)) (value_of 14 (object.tags_of q y)) (is_some (segment_of_kind 3 y.segments)) ≡ true =
      sym (pie_test (header file) y.segments (object.tags_of q y)) ∙ is.marked in
      let moved : test x.header.kind (value_of 1879048187 (object.tags_of o x)) (value_of 14 (object.tags_of o x)) (is_some (segment_of_kind 3 x.segments)) ≡ true =
      ap (λ (k : ℕ). test k (value_of 1879048187 (object.tags_of o x)) (value_of 14 (object.tags_of o x)) (is_some (segment_of_kind 3 x.segments))) (sym kind)
      ∙ ap (λ (v : Option ℕ). test (header file).kind v (value_of 14 (object.tags_of o x)) (is_some (segment_of_kind 3 x.segments))) (sym flags)
      ∙ ap (λ (v : Option ℕ). test (header file).kind (value_of 1879048187 (object.tags_of q y)) v (is_some (segment_of_kind 3 x.segments))) (sym name)
      ∙ ap (test (header file).kind (value_of 1879048187 (object.tags_of q y)) (value_of 14 (object.tags_of q y))) (sym interpreter) ∙ marked in
      true≢false (sym moved ∙ sym (pie_test x.header x.segments (object.tags_of o x)) ∙ none_pie o x f.original.accepted f.original.dynamic)

-- ---- a program's form

program_type : (o : List ℕ) (x : Object) (index : ℕ) (last : Segment) (e : Extension) (flat : List ℕ) (digest : Option (List ℕ)) → FormsProgram o x index last e flat digest → (header (form_of_program (original_of o) index last e flat digest)).kind ≡ 2
unfolding planned new_header
program_type o x index last e flat digest f =
    let a = original_of o in
    let p = program_plan a index last flat e in
    let fits = (program_is o index last e flat digest (program_conditions o x index last e flat digest f)).fits in
    ap (λ (h : Header). h.kind) (form_header p a flat (undo_part p a digest) fits) ∙ f.kind

header_type : (bytes : List ℕ) → (header bytes).kind ≡ word16 16 bytes
unfolding header
header_type bytes = refl

-- ---- the whole

no_form : (bytes : List ℕ) (o : Object) → pie bytes ≡ Some o → (m : Marked) → IsFormOf bytes m → ⊥
no_form bytes o some m form = elim form.mark [
  | inl library ↦
      let same = library_file bytes m form library in
      no_pie m.original m.object m.slot m.stamp (checksum_of m.original) (listed m.list) form.flat (digest_in m.version m.original) (library_forms bytes m form library) library.below o
      (subst (λ (xs : List ℕ). pie xs ≡ Some o) same some)
  | inr own ↦ with_last bytes m form ⊥ (λ last at.
      let same = program_file bytes m form last own at in
      let forms = program_forms bytes m form last own at in
      let two : (header bytes).kind ≡ 2 = ap (λ (xs : List ℕ). (header xs).kind) same
      ∙ program_type m.original m.object (last_index (ss_of m.original)) last (extension_of m.original m.list m.conflicts) form.flat (digest_in m.version m.original) forms in
      let three : (header bytes).kind ≡ 3 = header_type bytes ∙ pie_type bytes o (pie_is bytes o some) in
      omega (arith, two, three))
]

pub pie_bare : (bytes : List ℕ) (o : Object) → pie bytes ≡ Some o → marked_in bytes ≡ None
pie_bare bytes o some = no_mark bytes (no_form bytes o some)

pub unfixed_bare : (file bytes : List ℕ) → unfixed file ≡ Some bytes → marked_in bytes ≡ None
unfixed_bare file bytes e = let found = unfix_exact file bytes e in pie_bare bytes found.0 found.2
