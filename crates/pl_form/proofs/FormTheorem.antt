-- Back of a library's form and of a program's form, and what their segments load.
use Rattle.std.proofs.Common.{◌≡◌, ℕ, ◌+◌, ◌-◌, ◌%◌, ◌^◌, ◌<◌, ◌≤◌, true, false, List, [], ◌∷◌, ◌++◌, length, get_or, replicate, Option, Some, refl, sym, ap, subst, ◌∙◌, arith, inl, inr}
use Rattle.std.specs.Prelude.{◌⊎◌, ◌&&◌, ◌==◌, ◌≢◌, map, nat_le, nat_lt}
use Rattle.std.specs.List.{list_any, AllByRecursion}
use Rattle.std.proofs.lemmas.Bool.{cases_Bool}
use Rattle.std.proofs.lemmas.Bool.Decides.{nat_tests}
use Rattle.std.proofs.lemmas.List.{length-append, length-map, length-replicate, get_or-map, get_or_append_left}
use Rattle.std.proofs.lemmas.List.FromFn.{get_or-map-range_with_len}
use Rattle.pl_base.specs.Bytes.{part}
use Rattle.pl_base.specs.Sums.{round_up}
use Rattle.pl_base.specs.Memory.{byte_at}
use Rattle.pl_base.specs.Windows.{Window, within, holds, AllIn}
use Rattle.pl_base.proofs.WindowLaws.{all_in, part_byte, AreAllApart}
use Rattle.pl_elf.specs.Headers.{header, segment, segments, is_load, loads}
use Rattle.pl_elf.specs.Clauses.{AreLoads}
use Rattle.pl_elf.specs.declared.header.Header.{Header}
use Rattle.pl_elf.specs.declared.segment.Segment.{Segment}
use Rattle.pl_form.specs.Back.{head_windows, memory_of, Reader, back, undo_in, undo_of}
use Rattle.pl_form.specs.declared.parts.Spot.{Spot}
use Rattle.pl_elf.specs.Headers.{is_moved_kind}
use Rattle.pl_form.specs.Parts.{Original, up, joined_size, form, moved_segment, shifted_segment, extended_segment, program_segments, library_plan, program_plan, front_part, zeros_part, extension, whole_extension}
use Rattle.pl_form.specs.declared.parts.FormPlan.{FormPlan}
use Rattle.pl_form.specs.declared.parts.Listed.{Listed}
use Rattle.pl_form.specs.declared.parts.Extension.{Extension}
use Rattle.pl_form.specs.Loads.{stands, spot_of, spots_of, is_under, hidden_windows, fills}
use Rattle.pl_form.specs.PartLaws.{IsDigest}
use Rattle.pl_form.specs.Forms.{undo_part, planned, form_of_library, form_of_program}
use Rattle.pl_form.proofs.FrontLaws.{IsReadable}
use Rattle.pl_form.proofs.FormLaws.{plan_undone}
use Rattle.pl_form.specs.Fits.{Fits}
use Rattle.pl_form.proofs.FileTheorem.{form_undone, one_original}
use Rattle.pl_form.proofs.UndoLaws.{IsStored, undo_read}
use Rattle.pl_form.proofs.LoadLaws.{SegmentFits, segment_fits, segment_there, IsKept, kept_part}
use Rattle.pl_form.proofs.LoadTheorem.{Loads, IsPlain, IsGrown, kept_loads, grown_loads, byte_before, byte_inserted, zeros_agree}
use Rattle.pl_form.proofs.KindLaws.{IsTaken, IsProgram, library_kept, program_kept, program_grown, segment_count, other_segment, grown_segment}
use Rattle.pl_form.proofs.PlaceByteLaws.{IsHeld, is_own, hidden_in, away_from_hidden, spot_byte, zero_byte_of}
use Rattle.pl_form.proofs.HeldLaws.{Apart, front_fill, zeros_fill}

-- ---- Back

-- what is asked of an original and the plan of its form
pub record IsUndoable (r : Reader) (p : FormPlan) (o : Original) (flat : List ℕ) (digest : Option (List ℕ)) : Type 0 where
  pub rs : List Window
  pub reads : (bytes : List ℕ) → r.undo bytes ≡ undo_in bytes
  pub readable : IsReadable r o.bytes o.dynamic o.tables rs o.spots
  pub fits : Fits p o flat (length (undo_part p o digest))
  pub stored : IsStored o.bytes p.slot p.cut (length p.more)
  pub few : length (within o.dynamic o.bytes ++ memory_of o.spots o.bytes) < 2 ^ 64
  pub is_digest : IsDigest digest
  -- a slot is a multiple of its library's alignment
  pub even : p.slot % 2 ≡ 0

-- Back of a form is its original
pub planned_undone : (r : Reader) (p : FormPlan) (o : Original) (flat : List ℕ) (digest : Option (List ℕ)) → IsUndoable r p o flat digest → back r (planned p o flat digest) ≡ Some o.bytes
unfolding planned
planned_undone r p o flat digest is =
    let u = undo_of p.slot p.cut (length p.more) o.dynamic o.spots o.bytes digest in
    let ins = all_in (length o.bytes) (head_windows (header o.bytes) ++ o.dynamic ∷ []) is.fits.heads_in in
    let read : r.undo (undo_part p o digest) ≡ Some u = is.reads (undo_part p o digest) ∙ undo_read digest o.bytes p.slot p.cut (length p.more) o.dynamic o.spots is.is_digest (ins.0, (ins.1.0, (ins.1.1.0, tt))) is.stored is.few in
    form_undone r (form p o flat (undo_part p o digest)) o.bytes p.slot p.cut (length p.more)
    (plan_undone r p o flat (undo_part p o digest) is.rs digest is.fits is.readable (omega (arith, is.stored.slot_in), is.even) read)

-- so no file is a form of two originals, whatever their kinds, versions, lists and words
pub one_planned : (r : Reader) (p q : FormPlan) (o o' : Original) (flat flat' : List ℕ) (digest digest' : Option (List ℕ)) → IsUndoable r p o flat digest → IsUndoable r q o' flat' digest' → planned p o flat digest ≡ planned q o' flat' digest' → o.bytes ≡ o'.bytes
one_planned r p q o o' flat flat' digest digest' a b same =
    one_original r (planned p o flat digest) o.bytes o'.bytes (planned_undone r p o flat digest a) (subst (λ (file : List ℕ). back r file ≡ Some o'.bytes) (sym same) (planned_undone r q o' flat' digest' b))

-- the numbers of both kinds
pub library_stored : (o : Original) (slot stamp checksum : ℕ) (l : Listed) → (header o.bytes).kind ≡ 3 → slot < 2 ^ 64 → length o.bytes < 2 ^ 64
    → IsStored o.bytes (library_plan o slot stamp checksum l).slot (library_plan o slot stamp checksum l).cut (length (library_plan o slot stamp checksum l).more)
unfolding library_plan
library_stored o slot stamp checksum l kind small size = record { told = inl (kind, refl, refl); slot_in = small; cut_in = size; shift_in = omega arith; size = size }

pub program_stored : (o : Original) (index : ℕ) (last : Segment) (e : Extension) (flat : List ℕ) → (header o.bytes).kind ≡ 2 → last.offset + last.filesz ≤ length o.bytes → length (program_plan o index last flat e).more < 2 ^ 64 → length o.bytes < 2 ^ 64
    → IsStored o.bytes (program_plan o index last flat e).slot (program_plan o index last flat e).cut (length (program_plan o index last flat e).more)
unfolding program_plan
program_stored o index last e flat kind cut shift size = record { told = inr (kind, refl); slot_in = omega arith; cut_in = omega (arith, cut, size); shift_in = shift; size = size }

-- ---- the segments of the form as they stand

segment_of : (bytes : List ℕ) (h : Header) (i : ℕ) (d : Segment) → i < h.phnum → get_or (segments bytes h) i d ≡ segment bytes h i
unfolding segments
segment_of bytes h i d lt = get_or-map-range_with_len (segment bytes h) 0 h.phnum i i d lt (omega arith)

pub own_fits : (o : Original) (i : ℕ) (d : Segment) → IsTaken o → i < (header o.bytes).phnum → SegmentFits (get_or (segments o.bytes (header o.bytes)) i d)
own_fits o i d taken lt = subst SegmentFits (sym (segment_of o.bytes (header o.bytes) i d lt)) (segment_fits o.bytes _ taken.bytes)

pub moved_fits : (slot : ℕ) (s : Segment) → SegmentFits s → SegmentFits (moved_segment slot s)
moved_fits slot s fits = elim (cases_Bool (is_moved_kind s.kind)) [
  | inl hit ↦ rw hit (record { kind = fits.kind; flags = fits.flags; offset = fits.offset; vaddr = omega arith; paddr = omega arith; filesz = fits.filesz; memsz = fits.memsz; align = fits.align })
  | inr miss ↦ rw miss fits
]

shifted_fits : (cut shift : ℕ) (s : Segment) → SegmentFits s → s.offset + shift < 2 ^ 64 → SegmentFits (shifted_segment cut shift s)
shifted_fits cut shift s fits small = elim (cases_Bool (nat_lt 0 s.filesz && nat_le cut s.offset)) [
  | inl hit ↦ rw hit (record { kind = fits.kind; flags = fits.flags; offset = small; vaddr = fits.vaddr; paddr = fits.paddr; filesz = fits.filesz; memsz = fits.memsz; align = fits.align })
  | inr miss ↦ rw miss fits
]

extended_fits : (more : ℕ) (s : Segment) → SegmentFits s → s.filesz + more < 2 ^ 64 → SegmentFits (extended_segment more s)
extended_fits more s fits small = record { kind = fits.kind; flags = fits.flags; offset = fits.offset; vaddr = fits.vaddr; paddr = fits.paddr; filesz = small; memsz = small; align = fits.align }

-- ---- a library

-- what is asked: a segment of the original, an address in it that is not masked and under no place
pub record IsLoaded (o : Original) (places links : List Window) (start i k : ℕ) (d : Segment) : Type 0 where
  pub taken : IsTaken o
  pub loads : Loads o places links start
  pub lt : i < (header o.bytes).phnum
  pub is : is_load (get_or (segments o.bytes (header o.bytes)) i d) ≡ true
  -- clause 5
  pub inside : (get_or (segments o.bytes (header o.bytes)) i d).offset + (get_or (segments o.bytes (header o.bytes)) i d).filesz ≤ length o.bytes
  pub plain : IsPlain o places links (get_or (segments o.bytes (header o.bytes)) i d) k
  pub below : k < (get_or (segments o.bytes (header o.bytes)) i d).memsz

byte_by : (place k : ℕ) (s borne : Segment) (file o : List ℕ) → get_or (part borne.offset borne.filesz file) k 0 ≡ get_or (part s.offset s.filesz o) k 0 → byte_at (place + s.vaddr + k) (stands place file s borne) ≡ byte_at (place + s.vaddr + k) (stands place o s s)
byte_by place k s borne file o same = let at : place + s.vaddr + k - (place + s.vaddr) ≡ k = omega arith in rw at same

pub library_loads : (o : Original) (slot stamp checksum : ℕ) (l : Listed) (flat : List ℕ) (digest : Option (List ℕ)) (places links : List Window) (start i k : ℕ) (d : Segment)
    → Fits (library_plan o slot stamp checksum l) o flat (length (undo_part (library_plan o slot stamp checksum l) o digest)) → IsLoaded o places links start i k d
    → byte_at (slot + (get_or (segments o.bytes (header o.bytes)) i d).vaddr + k) (stands slot (form_of_library o slot stamp checksum l flat digest) (get_or (segments o.bytes (header o.bytes)) i d) (segment (form_of_library o slot stamp checksum l flat digest) (header (form_of_library o slot stamp checksum l flat digest)) i))
    ≡ byte_at (slot + (get_or (segments o.bytes (header o.bytes)) i d).vaddr + k) (stands slot o.bytes (get_or (segments o.bytes (header o.bytes)) i d) (get_or (segments o.bytes (header o.bytes)) i d))
unfolding planned library_plan
library_loads o slot stamp checksum l flat digest places links start i k d fits is =
    let ss = segments o.bytes (header o.bytes) in
    let p = library_plan o slot stamp checksum l in
    let undo = undo_part p o digest in
    let file = form_of_library o slot stamp checksum l flat digest in
    let lt : i < length ss = omega (arith, is.lt, segment_count o.bytes (header o.bytes)) in
    let at : get_or (map (moved_segment slot) ss) i d ≡ moved_segment slot (get_or ss i d) = get_or-map (moved_segment slot) ss i d d lt in
    let small : SegmentFits (get_or (map (moved_segment slot) ss) i d) = subst SegmentFits (sym at) (moved_fits slot (get_or ss i d) (own_fits o i d is.taken is.lt)) in
    let there : segment file (header file) i ≡ get_or (map (moved_segment slot) ss) i d = segment_there p o flat undo fits i d (omega (arith, lt, length-map ss (moved_segment slot))) small in
    byte_by slot k (get_or ss i d) (segment file (header file) i) file o.bytes
    (ap (λ (b : Segment). get_or (part b.offset b.filesz file) k 0) there
    ∙ kept_loads p o flat undo places links start i k d (get_or (map (moved_segment slot) ss) i d) fits is.loads lt is.is is.inside (library_kept o slot i d lt is.inside) is.plain)

-- ---- a program

pub record IsHeldProgram (o : Original) (places : List Window) (index : ℕ) (last : Segment) : Type 0 where
  pub program : IsProgram o index last
  pub is_load : is_load last ≡ true
  -- clause 6
  pub are : AreLoads (loads (segments o.bytes (header o.bytes)))
  -- clause 24
  pub held : AllByRecursion (IsHeld (segments o.bytes (header o.bytes)) last) places

pub program_hidden : (o : Original) (places links : List Window) (index : ℕ) (last : Segment) → IsHeldProgram o places index last → Loads o places links (last.vaddr + last.filesz) → AllIn (last.memsz - last.filesz) (hidden_windows o.spots)
program_hidden o places links index last h l =
    let ss = segments o.bytes (header o.bytes) in
    let own = is_own ss index last last h.are (omega (arith, h.program.last_in, segment_count o.bytes (header o.bytes))) h.is_load h.program.size (h.program.is_last last) in
    subst (λ (ps : List Spot). AllIn (last.memsz - last.filesz) (hidden_windows ps)) (sym l.spots) (hidden_in ss last places h.program.size own h.held)

-- its last PT_LOAD: zeros are still zeros, also where they are file bytes now
program_last : (o : Original) (e : Extension) (flat : List ℕ) (digest : Option (List ℕ)) (places links : List Window) (index k : ℕ) (d last : Segment)
    → Fits (program_plan o index last flat e) o flat (length (undo_part (program_plan o index last flat e) o digest)) → IsHeldProgram o places index last → IsLoaded o places links (last.vaddr + last.filesz) index k d
    → get_or (part (get_or (program_plan o index last flat e).segments index d).offset (get_or (program_plan o index last flat e).segments index d).filesz (form_of_program o index last e flat digest)) k 0
    ≡ get_or (part (get_or (segments o.bytes (header o.bytes)) index d).offset (get_or (segments o.bytes (header o.bytes)) index d).filesz o.bytes) k 0
unfolding planned
program_last o e flat digest places links index k d last fits h is =
    let ss = segments o.bytes (header o.bytes) in
    let p = program_plan o index last flat e in
    let inside = program_hidden o places links index last h is.loads in
    let lt : index < length ss = omega (arith, is.lt, segment_count o.bytes (header o.bytes)) in
    let at : get_or ss index d ≡ last = h.program.is_last d in
    let own = is_own ss index d last h.are lt h.is_load h.program.size at in
    let grown : IsGrown p o flat (get_or ss index d) (get_or p.segments index d) = subst (λ (s : Segment). IsGrown p o flat s (get_or p.segments index d)) (sym at) (program_grown o index last e flat d h.program fits.fills inside) in
    let out : last.filesz ≤ k → list_any (holds (k - last.filesz)) (hidden_windows o.spots) ≡ false =
    λ above. (let same : last.vaddr + last.filesz + (k - last.filesz) ≡ last.vaddr + k = omega (arith, above) in
    subst (λ (ps : List Spot). list_any (holds (k - last.filesz)) (hidden_windows ps) ≡ false) (sym is.loads.spots)
    (away_from_hidden ss last places (k - last.filesz) h.program.size own h.held (ap (is_under places) same ∙ subst (λ (s : Segment). is_under places (s.vaddr + k) ≡ false) at is.plain.away))) in
    grown_loads p o flat (undo_part p o digest) places links (last.vaddr + last.filesz) index k d (get_or p.segments index d) fits is.loads lt is.is grown is.plain is.below
    (subst (λ (s : Segment). s.filesz ≤ k → list_any (holds (k - s.filesz)) (hidden_windows o.spots) ≡ false) (sym at) out)

least : (n : ℕ) (ps : List (List ℕ)) → n ≤ joined_size n ps
unfolding joined_size
least n [] = omega arith
least n (p ∷ ps) = omega (arith, least (up n + length p) ps)

pub all_small : (p : FormPlan) (o : Original) (flat : List ℕ) (undo : ℕ) → Fits p o flat undo → length o.bytes + length p.more < 2 ^ 32
all_small p o flat undo fits = omega (arith, fits.small, least (length o.bytes + length p.more) p.parts)

pub program_segment_fits : (o : Original) (index : ℕ) (last : Segment) (e : Extension) (flat : List ℕ) (undo i : ℕ) (d : Segment) → IsTaken o → IsProgram o index last → Fits (program_plan o index last flat e) o flat undo
    → i < (header o.bytes).phnum → (get_or (segments o.bytes (header o.bytes)) i d).offset + (get_or (segments o.bytes (header o.bytes)) i d).filesz ≤ length o.bytes → SegmentFits (get_or (program_plan o index last flat e).segments i d)
unfolding program_plan whole_extension
program_segment_fits o index last e flat undo i d taken is fits lt inside =
    let ss = segments o.bytes (header o.bytes) in
    let s = get_or ss i d in
    let cut = last.offset + last.filesz in
    let block = extension last o.spots flat e in
    let more = whole_extension block in
    let n : i < length ss = omega (arith, lt, segment_count o.bytes (header o.bytes)) in
    let small : length o.bytes + length more < 2 ^ 32 = all_small (program_plan o index last flat e) o flat undo fits in
    let less : length block ≤ length more = omega (arith, length-append block (replicate (round_up (length block) 16 - length block) 0)) in
    let own = own_fits o i d taken lt in
    elim (cases_Bool (i == index)) [
      | inl hit ↦
          let same : i ≡ index = grind (arith, nat_tests) in
          let at : get_or (program_segments cut (length more) (length block) index ss) i d ≡ extended_segment (length block) s =
          subst (λ (k : ℕ). get_or (program_segments cut (length more) (length block) index ss) k d ≡ extended_segment (length block) (get_or ss k d)) (sym same) (grown_segment cut (length more) (length block) index ss d (omega (arith, same, n))) in
          subst SegmentFits (sym at) (extended_fits (length block) s own (omega (arith, inside, small, less)))
      | inr miss ↦
          let other : i ≢ index = grind (arith, nat_tests) in
          subst SegmentFits (sym (other_segment cut (length more) (length block) index ss i d n other)) (shifted_fits cut (length more) s own (omega (arith, inside, small)))
    ]

last_by : (o : Original) (e : Extension) (flat : List ℕ) (digest : Option (List ℕ)) (places links : List Window) (index i k : ℕ) (d last : Segment)
    → Fits (program_plan o index last flat e) o flat (length (undo_part (program_plan o index last flat e) o digest)) → IsHeldProgram o places index last → IsLoaded o places links (last.vaddr + last.filesz) i k d → i ≡ index
    → get_or (part (get_or (program_plan o index last flat e).segments i d).offset (get_or (program_plan o index last flat e).segments i d).filesz (form_of_program o index last e flat digest)) k 0
    ≡ get_or (part (get_or (segments o.bytes (header o.bytes)) i d).offset (get_or (segments o.bytes (header o.bytes)) i d).filesz o.bytes) k 0
last_by o e flat digest places links index i k d last fits h is same =
    subst (λ (x : ℕ). IsLoaded o places links (last.vaddr + last.filesz) x k d
    → get_or (part (get_or (program_plan o index last flat e).segments x d).offset (get_or (program_plan o index last flat e).segments x d).filesz (form_of_program o index last e flat digest)) k 0
    ≡ get_or (part (get_or (segments o.bytes (header o.bytes)) x d).offset (get_or (segments o.bytes (header o.bytes)) x d).filesz o.bytes) k 0)
    (sym same) (λ here. program_last o e flat digest places links index k d last fits h here) is

-- any segment of a program, as it stands in the form, loads the same there
pub program_loads : (o : Original) (e : Extension) (flat : List ℕ) (digest : Option (List ℕ)) (places links : List Window) (index i k : ℕ) (d last : Segment)
    → Fits (program_plan o index last flat e) o flat (length (undo_part (program_plan o index last flat e) o digest)) → IsHeldProgram o places index last → IsLoaded o places links (last.vaddr + last.filesz) i k d
    → byte_at (0 + (get_or (segments o.bytes (header o.bytes)) i d).vaddr + k) (stands 0 (form_of_program o index last e flat digest) (get_or (segments o.bytes (header o.bytes)) i d) (segment (form_of_program o index last e flat digest) (header (form_of_program o index last e flat digest)) i))
    ≡ byte_at (0 + (get_or (segments o.bytes (header o.bytes)) i d).vaddr + k) (stands 0 o.bytes (get_or (segments o.bytes (header o.bytes)) i d) (get_or (segments o.bytes (header o.bytes)) i d))
unfolding planned
program_loads o e flat digest places links index i k d last fits h is =
    let ss = segments o.bytes (header o.bytes) in
    let p = program_plan o index last flat e in
    let undo = undo_part p o digest in
    let file = form_of_program o index last e flat digest in
    let lt : i < length ss = omega (arith, is.lt, segment_count o.bytes (header o.bytes)) in
    let there : segment file (header file) i ≡ get_or p.segments i d =
    segment_there p o flat undo fits i d (omega (arith, is.lt, fits.segments)) (program_segment_fits o index last e flat (length undo) i d is.taken h.program fits is.lt is.inside) in
    byte_by 0 k (get_or ss i d) (segment file (header file) i) file o.bytes
    (ap (λ (b : Segment). get_or (part b.offset b.filesz file) k 0) there
    ∙ elim (cases_Bool (i == index)) [
      | inl hit ↦
          let same : i ≡ index = grind (arith, nat_tests) in
          last_by o e flat digest places links index i k d last fits h is same
      | inr miss ↦
          let other : i ≢ index = grind (arith, nat_tests) in
          kept_loads p o flat undo places links (last.vaddr + last.filesz) i k d (get_or p.segments i d) fits is.loads lt is.is is.inside (program_kept o index last e flat i d h.program is.lt other) is.plain
    ])

-- ---- places

-- where a file byte of a segment stands: in the front part
borne_front : (p : FormPlan) (o : Original) (flat undo : List ℕ) (s borne : Segment) (k : ℕ) → Fits p o flat (length undo) → s.offset + s.filesz ≤ length o.bytes → (IsKept p.cut (length p.more) s borne ⊎ IsGrown p o flat s borne) → k < s.filesz
    → get_or (part borne.offset borne.filesz (form p o flat undo)) k 0 ≡ get_or (front_part p o flat (length undo)) (s.offset + k) 0
borne_front p o flat undo s borne k fits inside (inl kept) lt =
    ap (λ (xs : List ℕ). get_or xs k 0) (kept_part p o flat undo fits s borne inside kept) ∙ part_byte s.offset s.filesz (front_part p o flat (length undo)) k lt
borne_front p o flat undo s borne k fits inside (inr grown) lt =
    part_byte borne.offset borne.filesz (form p o flat undo) k (omega (arith, lt, grown.room, grown.filesz))
    ∙ ap (λ (n : ℕ). get_or (form p o flat undo) (n + k) 0) grown.offset
    ∙ byte_before p o flat undo fits (s.offset + k) (omega (arith, lt, grown.cut))

spot_is : (ss : List Segment) (start a : ℕ) (places : List Window) (e : Spot) (w : Window) → a < length places → get_or (spots_of ss start places) a e ≡ spot_of ss start (get_or places a w)
spot_is ss start a places e w lt = get_or-map (spot_of ss start) places a w e lt

-- a byte of a place that a segment loads from file bytes of the original
pub visible_fill : (p : FormPlan) (o : Original) (flat undo : List ℕ) (places links : List Window) (start a i j k : ℕ) (d borne : Segment) (w : Window) → Fits p o flat (length undo) → Apart o → Loads o places links start → AreLoads (loads (segments o.bytes (header o.bytes)))
    → a < length places → i < (header o.bytes).phnum → is_load (get_or (segments o.bytes (header o.bytes)) i d) ≡ true → (get_or (segments o.bytes (header o.bytes)) i d).offset + (get_or (segments o.bytes (header o.bytes)) i d).filesz ≤ length o.bytes
    → (IsKept p.cut (length p.more) (get_or (segments o.bytes (header o.bytes)) i d) borne ⊎ IsGrown p o flat (get_or (segments o.bytes (header o.bytes)) i d) borne)
    → (get_or (segments o.bytes (header o.bytes)) i d).vaddr + k ≡ (get_or places a w).at + j → k < (get_or (segments o.bytes (header o.bytes)) i d).memsz → j < (spot_of (segments o.bytes (header o.bytes)) start (get_or places a w)).size
    → get_or (part borne.offset borne.filesz (form p o flat undo)) k 0 ≡ get_or (get_or (fills o.spots flat) a []) j 0
visible_fill p o flat undo places links start a i j k d borne w fits apart l are lt m is inside kind at below seen =
    let ss = segments o.bytes (header o.bytes) in
    let e : Spot = record { at = 0; size = 0; hidden = 0; behind = 0 } in
    let place = get_or places a w in
    let n : i < length ss = omega (arith, m, segment_count o.bytes (header o.bytes)) in
    let b = spot_byte ss start i j k d place are n is at below seen in
    let s_is : get_or o.spots a e ≡ spot_of ss start place = ap (λ (ps : List Spot). get_or ps a e) l.spots ∙ spot_is ss start a places e w lt in
    let count : length o.spots ≡ length places = ap length l.spots ∙ length-map places (spot_of ss start) in
    let filled = front_fill p o flat (length undo) a j e [] fits apart (omega (arith, count, lt)) (subst (λ (s : Spot). j < s.size) (sym s_is) seen) in
    borne_front p o flat undo (get_or ss i d) borne k fits inside kind b.0
    ∙ ap (λ (x : ℕ). get_or (front_part p o flat (length undo)) x 0) b.1
    ∙ subst (λ (s : Spot). get_or (front_part p o flat (length undo)) (s.at + j) 0 ≡ get_or (get_or (fills o.spots flat) a []) j 0) s_is filled

-- a byte of a place in the zeros of the last PT_LOAD
pub hidden_fill : (p : FormPlan) (o : Original) (flat undo : List ℕ) (places links : List Window) (a index j : ℕ) (d borne last : Segment) (w : Window) → Fits p o flat (length undo) → AreAllApart (hidden_windows o.spots) → Loads o places links (last.vaddr + last.filesz)
    → IsHeldProgram o places index last → a < length places → IsHeld (segments o.bytes (header o.bytes)) last (get_or places a w) → IsGrown p o flat last borne
    → (spot_of (segments o.bytes (header o.bytes)) (last.vaddr + last.filesz) (get_or places a w)).size ≤ j → j < (get_or places a w).size
    → get_or (part borne.offset borne.filesz (form p o flat undo)) ((get_or places a w).at + j - last.vaddr) 0 ≡ get_or (get_or (fills o.spots flat) a []) j 0
hidden_fill p o flat undo places links a index j d borne last w fits apart l h lt held grown past inside =
    let ss = segments o.bytes (header o.bytes) in
    let start = last.vaddr + last.filesz in
    let e : Spot = record { at = 0; size = 0; hidden = 0; behind = 0 } in
    let place = get_or places a w in
    let spot = spot_of ss start place in
    let b = zero_byte_of ss last index j d place h.are (omega (arith, h.program.last_in, segment_count o.bytes (header o.bytes))) h.is_load h.program.size (h.program.is_last d) held past inside in
    let s_is : get_or o.spots a e ≡ spot = ap (λ (ps : List Spot). get_or ps a e) l.spots ∙ spot_is ss start a places e w lt in
    let count : length o.spots ≡ length places = ap length l.spots ∙ length-map places (spot_of ss start) in
    let x : ℕ = spot.behind + (j - spot.size) in
    let k : ℕ = place.at + j - last.vaddr in
    let k_is : k ≡ last.filesz + x = omega (arith, b.0) in
    let zs : AllIn (last.memsz - last.filesz) (hidden_windows o.spots) = grown.hidden_in in
    let zs_size : length (zeros_part last o.spots flat) ≡ last.memsz - last.filesz = (zeros_agree last o.spots flat fits.fills zs).size ∙ length-replicate (last.memsz - last.filesz) 0 in
    let k_in : k < last.memsz = omega (arith, b.3, inside, b.2) in
    let filled = zeros_fill o last flat a (j - spot.size) e [] fits.fills apart zs (omega (arith, count, lt)) (subst (λ (s : Spot). j - spot.size < s.hidden) (sym s_is) b.1) in
    let sum : spot.size + (j - spot.size) ≡ j = omega (arith, past) in
    part_byte borne.offset borne.filesz (form p o flat undo) k (omega (arith, k_in, grown.room))
    ∙ ap (λ (n : ℕ). get_or (form p o flat undo) n 0) (let place_is : borne.offset + k ≡ p.cut + x = omega (arith, k_is, grown.cut, grown.offset) in place_is)
    ∙ byte_inserted p o flat undo fits x (omega (arith, k_is, k_in, grown.room, grown.more))
    ∙ ap (λ (xs : List ℕ). get_or xs x 0) grown.zeros
    ∙ get_or_append_left (zeros_part last o.spots flat) grown.rest 0 x (omega (arith, zs_size, k_is, k_in))
    ∙ subst (λ (s : Spot). get_or (zeros_part last o.spots flat) (s.behind + (j - spot.size)) 0 ≡ get_or (get_or (fills o.spots flat) a []) (s.size + (j - spot.size)) 0) s_is filled
    ∙ ap (λ (n : ℕ). get_or (get_or (fills o.spots flat) a []) n 0) sum
