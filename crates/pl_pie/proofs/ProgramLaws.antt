-- The form of a program has a tag that acceptance refuses, so no file whose dynamic table is read is one.
use Rattle.std.proofs.Common.{◌≡◌, ℕ, zero, suc, ◌+◌, ◌*◌, ◌<◌, true, false, List, [], ◌∷◌, ◌++◌, length, get_or, map, Option, Some, Ok, refl, sym, ap, subst, ◌∙◌, arith, inl, inr}
use Rattle.std.specs.Prelude.{◌&&◌, ◌==◌, ◌≢◌, nat_le, nat_lt}
use Rattle.std.proofs.lemmas.Bool.{cases_Bool, eqb-true}
use Rattle.std.proofs.lemmas.Bool.Decides.{nat_tests}
use Rattle.std.proofs.lemmas.List.{length-append}
use Rattle.pl_base.specs.Bytes.{bytes64, word64}
use Rattle.pl_base.specs.Windows.{Window, within}
use Rattle.pl_base.proofs.WindowLaws.{all_in, length-within, within_put}
use Rattle.pl_base.proofs.WordLaws.{word64_back, word64_front, word64_part}
use Rattle.pl_dyn.specs.Kinds.{is_address_tag, is_listed, is_prelink_tag, is_unknown, is_value_tag}
use Rattle.pl_dyn.specs.Read as dyn
use Rattle.pl_dyn.specs.declared.dynamic.Dynamic.{Dynamic}
use Rattle.pl_elf.specs.Clauses.{AreLoads}
use Rattle.pl_elf.specs.Headers.{header, is_load, loads}
use Rattle.pl_elf.specs.declared.segment.Segment.{Segment}
use Rattle.pl_form.proofs.EntryLaws.{length-entry, length-with_strings}
use Rattle.pl_form.proofs.LibraryLaws.{dynamic_there}
use Rattle.pl_form.proofs.OriginalLaws.{dynamic_beside}
use Rattle.pl_move.specs.Moves.{rows}
use Rattle.pl_move.proofs.MoveLaws.{length-rows}
use Rattle.pl_object.specs.Accepted as object
use Rattle.pl_object.specs.FilePart.{file_window, in_file_part, loaded, loader, loads_byte}
use Rattle.pl_object.specs.Reads.{dynamic}
use Rattle.pl_object.specs.Tables.{dynamic_memory}
use Rattle.pl_object.specs.declared.object.Object.{Object}
use Rattle.pl_object.proofs.AcceptedLaws.{accepted}
use Rattle.pl_object.proofs.TabledLaws.{IsTable, table_is}
use Rattle.pl_form.specs.Back.{head_windows}
use Rattle.pl_form.specs.Fits.{Fits}
use Rattle.pl_form.specs.Forms.{original_of, planned, form_of_program, undo_part}
use Rattle.pl_form.specs.Found.{d_of, ss_of, tags_of}
use Rattle.pl_form.specs.PartLaws.{FormsProgram}
use Rattle.pl_form.specs.Parts.{Original, conflicts_at, entry_bytes, extended_segment, extension, extension_at, program_dynamic, program_plan, program_segments, rows_at, shifted_segment, whole_extension, with_entries, with_tag}
use Rattle.pl_form.specs.declared.parts.Extension.{Extension}
use Rattle.pl_form.specs.declared.parts.FormPlan.{FormPlan}
use Rattle.pl_form.proofs.AcceptedIs.{segments_are}
use Rattle.pl_form.proofs.FinalTheorem.{inside, program_conditions}
use Rattle.pl_form.proofs.KindLaws.{grown_segment, other_segment, program_kept, segment_count}
use Rattle.pl_form.proofs.LoadFacts.{last_is}
use Rattle.pl_form.proofs.LoadTheorem.{IsGrown}
use Rattle.pl_form.proofs.OverlapLaws.{At, found_at}
use Rattle.pl_form.proofs.StandLaws.{program_grows}
use Rattle.pl_form.proofs.TableLaws.{programs_are_extended}
use Rattle.pl_form.proofs.WholeTheorem.{IsProgramForm, program_is}
use Rattle.pl_pie.proofs.AtLaws.{dynamic_of, found_is}
use Rattle.pl_pie.proofs.EntriesLaws.{IsRead, none_unknown, read_is}
use Rattle.pl_pie.proofs.StandingLaws.{Bears, grown_bears, is_held, kept_bears, window_there}

-- ---- the segments of a plan

zero_sum : (n : ℕ) → n ≡ 0 + n
zero_sum n = omega arith

shifted_kind : (cut shift : ℕ) (s : Segment) → (shifted_segment cut shift s).kind ≡ s.kind
shifted_kind cut shift s = elim (cases_Bool (nat_lt 0 s.filesz && nat_le cut s.offset)) [ inl hit ↦ rw hit refl | inr miss ↦ rw miss refl ]

shifted_start : (cut shift : ℕ) (s : Segment) → (shifted_segment cut shift s).vaddr ≡ s.vaddr
shifted_start cut shift s = elim (cases_Bool (nat_lt 0 s.filesz && nat_le cut s.offset)) [ inl hit ↦ rw hit refl | inr miss ↦ rw miss refl ]

shifted_size : (cut shift : ℕ) (s : Segment) → (shifted_segment cut shift s).filesz ≡ s.filesz
shifted_size cut shift s = elim (cases_Bool (nat_lt 0 s.filesz && nat_le cut s.offset)) [ inl hit ↦ rw hit refl | inr miss ↦ rw miss refl ]

-- ---- the memory of the dynamic table

first_memory : (b s : Segment) (bs ss : List Segment) → b.kind ≡ s.kind → ((s.kind == 2) ≡ true → (b.vaddr ≡ s.vaddr) × (b.filesz ≡ s.filesz)) → dynamic_memory bs ≡ dynamic_memory ss → dynamic_memory (b ∷ bs) ≡ dynamic_memory (s ∷ ss)
unfolding dynamic_memory
first_memory b s bs ss kind same rest = elim (cases_Bool (s.kind == 2)) [
  | inl hit ↦
      let own : (b.kind == 2) ≡ true = ap (λ (n : ℕ). n == 2) kind ∙ hit in
      let is = same hit in
      rw (own, hit, is.0, is.1) refl
  | inr miss ↦
      let own : (b.kind == 2) ≡ false = ap (λ (n : ℕ). n == 2) kind ∙ miss in
      rw (own, miss) rest
]

memory_shifted : (cut shift : ℕ) (ss : List Segment) → dynamic_memory (map (shifted_segment cut shift) ss) ≡ dynamic_memory ss
memory_shifted cut shift [] = refl
memory_shifted cut shift (s ∷ ss) =
    first_memory (shifted_segment cut shift s) s (map (shifted_segment cut shift) ss) ss (shifted_kind cut shift s) (λ h. (shifted_start cut shift s, shifted_size cut shift s)) (memory_shifted cut shift ss)

not_dynamic : (s : Segment) → is_load s ≡ true → (s.kind == 2) ≡ true → ⊥
not_dynamic s load h =
    let a : s.kind ≡ 1 = eqb-true s.kind 1 load in
    let b : s.kind ≡ 2 = eqb-true s.kind 2 h in
    omega (arith, a, b)

memory_grown : (cut shift more index : ℕ) (ss : List Segment) (d : Segment) → index < length ss → is_load (get_or ss index d) ≡ true → dynamic_memory (program_segments cut shift more index ss) ≡ dynamic_memory ss
memory_grown cut shift more index [] d lt load = refl
memory_grown cut shift more zero (s ∷ ss) d lt load =
    first_memory (extended_segment more s) s (map (shifted_segment cut shift) ss) ss refl (λ h. absurd (not_dynamic s load h)) (memory_shifted cut shift ss)
memory_grown cut shift more (suc index) (s ∷ ss) d lt load =
    first_memory (shifted_segment cut shift s) s (program_segments cut shift more index ss) ss (shifted_kind cut shift s) (λ h. (shifted_start cut shift s, shifted_size cut shift s))
    (memory_grown cut shift more index ss d (omega (arith, lt)) load)

-- ---- the entries

-- the tag of the list of libraries is none of an original
list_unknown : is_unknown 1879047929 ≡ true
unfolding is_unknown is_listed is_address_tag is_value_tag is_prelink_tag
list_unknown = refl

first_number : (v : ℕ) (b c d : List ℕ) → word64 0 (entry_bytes 1879047929 v ++ b ++ c ++ d) ≡ 1879047929
first_number v b c d =
    let a : List ℕ = entry_bytes 1879047929 v in
    let size = length-entry 1879047929 v in
    word64_front 0 (a ++ b ++ c) d (omega (arith, length-append (a ++ b) c, length-append a b, size))
    ∙ word64_front 0 (a ++ b) c (omega (arith, length-append a b, size))
    ∙ word64_front 0 a b (omega (arith, size))
    ∙ word64_back 1879047929 (bytes64 v) (omega arith)

-- ---- a form

module _ (o : List ℕ) (x : Object) (index : ℕ) (last : Segment) (e : Extension) (flat : List ℕ) (digest : Option (List ℕ)) (f : FormsProgram o x index last e flat digest) where
  abbrev a : Original
  a = original_of o

  abbrev p : FormPlan
  p = program_plan a index last flat e

  abbrev undo : List ℕ
  undo = undo_part p a digest

  abbrev file : List ℕ
  file = form_of_program a index last e flat digest

  c : IsProgramForm o index last e flat digest
  c = program_conditions o x index last e flat digest f

  fits : Fits p a flat (length undo)
  fits = (program_is o index last e flat digest c).fits

  load_last : is_load last ≡ true
  load_last = (last_is (ss_of o) last f.latest).load

  bears : (i : ℕ) (d : Segment) → i < (header o).phnum → Bears p a flat undo 0 (get_or (ss_of o) i d) (get_or p.segments i d)
  unfolding program_plan
  bears i d lt =
      let ss : List Segment = ss_of o in
      let n : i < length ss = omega (arith, lt, segment_count o (header o)) in
      let cut : ℕ = last.offset + last.filesz in
      let block : List ℕ = extension last a.spots flat e in
      let more : List ℕ = whole_extension block in
      elim (cases_Bool (i == index)) [
        | inl hit ↦
            let same : i ≡ index = eqb-true i index hit in
            let s : Segment = get_or ss index d in
            let b : Segment = get_or p.segments index d in
            let borne : b ≡ extended_segment (length block) s = grown_segment cut (length more) (length block) index ss d (omega (arith, same, n)) in
            let grown : IsGrown p a flat s b = subst (λ (y : Segment). IsGrown p a flat y b) (sym (c.program.is_last d)) (program_grows o x index last e flat digest d f) in
            subst (λ (k : ℕ). Bears p a flat undo 0 (get_or ss k d) (get_or p.segments k d)) (sym same)
            (grown_bears p a flat undo 0 s b fits grown (ap is_load borne) (ap (λ (y : Segment). y.vaddr) borne ∙ zero_sum s.vaddr))
        | inr miss ↦
            let other : i ≢ index = grind (arith, nat_tests) in
            let s : Segment = get_or ss i d in
            let b : Segment = get_or p.segments i d in
            let borne : b ≡ shifted_segment cut (length more) s = other_segment cut (length more) (length block) index ss i d n other in
            kept_bears p a flat undo 0 s b fits (inside o i d c.accepted lt) (program_kept a index last e flat i d c.program lt other)
            (ap is_load borne ∙ ap (λ (k : ℕ). k == 1) (shifted_kind cut (length more) s)) (ap (λ (y : Segment). y.vaddr) borne ∙ shifted_start cut (length more) s ∙ zero_sum s.vaddr)
      ]

  memory_is : dynamic_memory p.segments ≡ dynamic_memory (ss_of o)
  unfolding program_plan
  memory_is =
      let block : List ℕ = extension last a.spots flat e in
      memory_grown (last.offset + last.filesz) (length (whole_extension block)) (length block) index (ss_of o) last (omega (arith, c.program.last_in, segment_count o (header o))) (ap is_load (c.program.is_last last) ∙ load_last)

  -- the original's own table
  own_table : (d : Dynamic) × IsTable o (ss_of o) d
  own_table =
      let found = found_is o x f.original.accepted f.original.dynamic in
      let d : Dynamic = dynamic_of (object.tags_of o x) x in
      (d, subst (λ (ss : List Segment). IsTable o ss d) (segments_are o x (accepted o x f.original.accepted)) (table_is o x.segments d found.table))

  -- the dynamic table of the form is that of its plan
  table_by : (bs : List Segment) → bs ≡ p.segments → AreLoads (loads bs) → (t : Segment) → loader bs (dynamic_memory bs).at ≡ Some t → in_file_part bs (dynamic_memory bs) ≡ true → within (file_window bs (dynamic_memory bs)) file ≡ p.dynamic
  unfolding planned
  table_by bs is are t found whole =
      let ss : List Segment = ss_of o in
      let m : Window = dynamic_memory ss in
      let w : Window = dynamic_memory bs in
      let own = own_table.1 in
      let s : Segment = own.byte.0 in
      let at : At ss s = found_at (loads_byte m.at) ss s own.byte.1 in
      let memory : w ≡ m = ap dynamic_memory is ∙ memory_is in
      let lt : at.i < (header o).phnum = omega (arith, at.lt, segment_count o (header o)) in
      let here : at.i < length bs = omega (arith, lt, ap (λ (ys : List Segment). length ys) is, fits.segments) in
      let first : Bears p a flat undo 0 s (get_or p.segments at.i s) = subst (λ (y : Segment). Bears p a flat undo 0 y (get_or p.segments at.i s)) (at.is s) (bears at.i s lt) in
      let borne : Bears p a flat undo 0 s (get_or bs at.i s) = subst (λ (ys : List Segment). Bears p a flat undo 0 s (get_or ys at.i s)) (sym is) first in
      let beside = dynamic_beside o c.accepted (omega (arith, f.spare)) in
      window_there p a flat undo 0 ss bs m w s t at.i s (is_held ss m s own.byte.1 own.inside) (is_held bs w t found whole) found are here borne (ap (λ (v : Window). v.at) memory ∙ zero_sum m.at) (ap (λ (v : Window). v.size) memory)
      ∙ dynamic_there p a flat (length undo) fits beside.low beside.apart

  -- the first of its new entries has an unknown tag
  number : word64 (16 * length (tags_of o)) p.dynamic ≡ 1879047929
  unfolding program_plan program_dynamic with_entries
  number =
      let n : ℕ = length (tags_of o) in
      let ins = all_in (length o) (head_windows (header o) ++ d_of o ∷ []) fits.heads_in in
      let old : List ℕ = within (d_of o) o in
      let size : length old ≡ (d_of o).size = length-within (d_of o) o ins.1.1.1.0 in
      let table : List ℕ = rows 16 (λ row. with_tag 10 (length e.strings) (with_tag 5 (extension_at last) row)) n old in
      let whole : length table ≡ length old = length-rows 16 (λ row. with_tag 10 (length e.strings) (with_tag 5 (extension_at last) row)) n old (length-with_strings (extension_at last) (length e.strings)) (omega (arith, size, f.spare)) in
      let e1 : List ℕ = entry_bytes 1879047929 (rows_at last e) in
      let e2 : List ℕ = entry_bytes 1879047671 (length e.rows) in
      let e3 : List ℕ = entry_bytes 1879047928 (conflicts_at last e) in
      let e4 : List ℕ = entry_bytes 1879047670 (length e.conflicts) in
      let new : List ℕ = e1 ++ e2 ++ e3 ++ e4 in
      let four : length new ≡ 64 = omega (
        arith,
        length-append (e1 ++ e2 ++ e3) e4,
        length-append (e1 ++ e2) e3,
        length-append e1 e2,
        length-entry 1879047929 (rows_at last e),
        length-entry 1879047671 (length e.rows),
        length-entry 1879047928 (conflicts_at last e),
        length-entry 1879047670 (length e.conflicts),
      ) in
      let at : 16 * n ≡ 16 * n + 0 = omega arith in
      ap (λ (k : ℕ). word64 k p.dynamic) at
      ∙ sym (word64_part (16 * n) (length new) 0 p.dynamic (omega (arith, four)))
      ∙ ap (word64 0) (within_put (16 * n) new table (omega (arith, whole, size, four, f.spare)))
      ∙ first_number (rows_at last e) e2 e3 e4

  -- so it is not read
  pub not_read : (d : Dynamic) → AreLoads (loads (ss_of file)) → dynamic file (ss_of file) ≡ Ok d → ⊥
  unfolding dynamic loaded
  not_read d are read =
      let ss : List Segment = ss_of file in
      let own : IsTable file ss d = table_is file ss d read in
      let there : within (file_window ss (dynamic_memory ss)) file ≡ p.dynamic = table_by ss (programs_are_extended o x index last e flat digest f).are are own.byte.0 own.byte.1 own.inside in
      let table : dyn.read (within (file_window ss (dynamic_memory ss)) file) ≡ Ok d = rw own.inside at read in
      let is : IsRead p.dynamic = subst IsRead there (read_is (within (file_window ss (dynamic_memory ss)) file) d table) in
      let n : ℕ = length (tags_of o) in
      none_unknown p.dynamic n is (omega (arith, fits.dynamic, f.spare)) (ap (λ (k : ℕ). k == 0) number) (ap is_unknown number ∙ list_unknown)
