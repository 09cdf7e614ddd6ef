-- The object that is made of the parts of a fixed file is the fixed object, but for link tables without bytes.
use Rattle.std.proofs.Common.{◌≡◌, ℕ, ◌+◌, ◌%◌, ◌<◌, Bool, true, false, List, [], ◌∷◌, map, Option, Some, None, refl, sym, ap, subst, ◌∙◌, arith, inl, inr}
use Rattle.std.specs.Prelude.{max, fold, IfSome, if◌then◌else◌}
use Rattle.std.specs.List.{All, AllZip}
use Rattle.std.specs.Option.{option_map}
use Rattle.std.proofs.lemmas.Bool.{cases_Bool}
use Rattle.std.proofs.lemmas.List.Elements.{All-head, All-tail}
use Rattle.pl_base.specs.Sums.{round_up}
use Rattle.pl_base.specs.Windows.{Window}
use Rattle.pl_dyn.specs.Kinds.{is_address_tag}
use Rattle.pl_dyn.specs.declared.constants.TheConstants.{DT_FLAGS, DT_SYMBOLIC}
use Rattle.pl_dyn.specs.declared.tags.Tag.{Tag}
use Rattle.pl_elf.specs.Headers.{is_load, loads, segment_of_kind}
use Rattle.pl_elf.specs.declared.constants.TheConstants.{PT_TLS}
use Rattle.pl_elf.specs.declared.header.Header.{Header}
use Rattle.pl_elf.specs.declared.kind.Kind.{Kind}
use Rattle.pl_elf.specs.declared.range.Range.{Range}
use Rattle.pl_elf.specs.declared.segment.Segment.{Segment}
use Rattle.pl_tls.specs.declared.block.Block.{Block}
use Rattle.pl_object.specs.Accepted.{Accepted}
use Rattle.pl_object.specs.PlaceClauses.{last_load}
use Rattle.pl_object.specs.Reads.{align, block_of, end_in_memory, is_symbolic, kind_of, object, span, tls}
use Rattle.pl_object.specs.Tables.{link_windows, window_range}
use Rattle.pl_object.specs.declared.object.Object.{Object}
use Rattle.law_fixed.specs.Fixed.{fixed, fixed_entry, fixed_header, fixed_reloc, fixed_section, fixed_segment, fixed_symbol}
use Rattle.law_fixed.specs.Stays.{Stands}
use Rattle.law_fixed.proofs.ImageLaws.{load_moves}
use Rattle.pl_pie.specs.Laws.{IsFixed, IsSameRange}
use Rattle.pl_pie.specs.Pie.{as_program}
use Rattle.pl_pie.proofs.AlignLaws.{align_page, align_power, page_power, span_some}
use Rattle.pl_pie.proofs.AlikeLaws.{AllAlike, links_alike}
use Rattle.pl_pie.proofs.AtLaws.{IsAt, dynamic_of, headers_of, layout_of, linking_of, new_tags, old_tags}
use Rattle.pl_pie.proofs.MemoryLaws.{Alike, segment_found}
use Rattle.pl_pie.proofs.PowerLaws.{remainder_kept}
use Rattle.pl_pie.proofs.RowOfLaws.{moved_tag}
use Rattle.pl_pie.proofs.TagLaws.{has_moved, value_stays}

-- ---- the link tables

range_alike : (new old : Window) → Alike new old → IsSameRange (window_range new) (window_range old)
range_alike new old (inl same) = inl (ap window_range same)
range_alike new old (inr none) = inr (omega (arith, none.0), omega (arith, none.1))

ranges_alike : (new old : List Window) → AllAlike new old → AllZip IsSameRange (map window_range new) (map window_range old)
ranges_alike [] [] all = tt
ranges_alike [] (y ∷ ys) all = absurd all
ranges_alike (x ∷ xs) [] all = absurd all
ranges_alike (x ∷ xs) (y ∷ ys) all = (range_alike x y all.0, ranges_alike xs ys all.1)

-- ---- what moves no more than the PT_LOADs

kind_kept : (at : ℕ) (h : Header) → kind_of (fixed_header at h) ≡ kind_of h
unfolding fixed_header
kind_kept at h = refl

entry_moved : (at : ℕ) (h : Header) → (fixed_header at h).entry ≡ fixed_entry at h.entry
unfolding fixed_header
entry_moved at h = refl

block_kept : (at : ℕ) (m : Option Segment) → option_map block_of (option_map (fixed_segment at) m) ≡ option_map block_of m
unfolding fixed_segment
block_kept at None = refl
block_kept at (Some s) = refl

tls_kept : (at : ℕ) (ss : List Segment) → tls (map (fixed_segment at) ss) ≡ tls ss
unfolding tls
tls_kept at ss = ap (option_map block_of) (segment_found at PT_TLS ss) ∙ block_kept at (segment_of_kind PT_TLS ss)

symbolic_kept : (at : ℕ) (ts : List Tag) → is_symbolic (map (moved_tag at) ts) ≡ is_symbolic ts
unfolding is_symbolic is_address_tag
symbolic_kept at ts = rw (has_moved at DT_SYMBOLIC ts, value_stays at DT_FLAGS ts refl) refl

aligns_kept : (at most : ℕ) (ss : List Segment) → fold (λ (m : ℕ) (s : Segment). max m s.align) most (loads (map (fixed_segment at) ss)) ≡ fold (λ (m : ℕ) (s : Segment). max m s.align) most (loads ss)
unfolding fixed_segment
aligns_kept at most [] = refl
aligns_kept at most (s ∷ ss) = elim (cases_Bool (is_load s)) [
  | inl load ↦ rw load (aligns_kept at (max most s.align) ss)
  | inr other ↦ rw other (aligns_kept at most ss)
]

align_kept : (at : ℕ) (ss : List Segment) → align (map (fixed_segment at) ss) ≡ align ss
unfolding align
align_kept at ss = aligns_kept at 4096 ss

-- ---- the memory

abbrev last_from : Option Segment → List Segment → Option Segment
last_from found ss = fold (λ f s. if is_load s then Some s else f) found ss

load_kept : (at : ℕ) (s : Segment) → is_load (fixed_segment at s) ≡ is_load s
unfolding fixed_segment
load_kept at s = refl

last_moved : (at : ℕ) (found : Option Segment) (ss : List Segment) → last_from (option_map (fixed_segment at) found) (map (fixed_segment at) ss) ≡ option_map (fixed_segment at) (last_from found ss)
last_moved at found [] = refl
last_moved at found (s ∷ ss) = elim (cases_Bool (is_load s)) [
  | inl load ↦ of_test true load ∙ last_moved at (Some s) ss ∙ sym (of_old true load)
  | inr other ↦ of_test false other ∙ last_moved at found ss ∙ sym (of_old false other)
]
  where
    of_test : (b : Bool) → is_load s ≡ b → last_from (option_map (fixed_segment at) found) (map (fixed_segment at) (s ∷ ss)) ≡ last_from (if b then Some (fixed_segment at s) else option_map (fixed_segment at) found) (map (fixed_segment at) ss)
    of_test b is = ap (λ (c : Bool). last_from (if c then Some (fixed_segment at s) else option_map (fixed_segment at) found) (map (fixed_segment at) ss)) (load_kept at s ∙ is)

    of_old : (b : Bool) → is_load s ≡ b → option_map (fixed_segment at) (last_from found (s ∷ ss)) ≡ option_map (fixed_segment at) (last_from (if b then Some s else found) ss)
    of_old b is = ap (λ (c : Bool). option_map (fixed_segment at) (last_from (if c then Some s else found) ss)) is

last_holds : (P : Segment → Type 0) (found : Option Segment) (ss : List Segment) → All (λ s. is_load s ≡ true → P s) ss → IfSome found P → IfSome (last_from found ss) P
last_holds P found [] all before = before
last_holds P found (s ∷ ss) all before =
    let rest = All-tail (λ (t : Segment). is_load t ≡ true → P t) s ss all in
    elim (cases_Bool (is_load s)) [
      | inl load ↦ rw load (last_holds P (Some s) ss rest (All-head (λ (t : Segment). is_load t ≡ true → P t) s ss all load))
      | inr other ↦ rw other (last_holds P found ss rest before)
    ]

abbrev EndMoves : ℕ → Segment → Type 0
EndMoves at s = (fixed_segment at s).vaddr + (fixed_segment at s).memsz ≡ s.vaddr + s.memsz + at

end_moves : (at : ℕ) (s : Segment) → Stands at s → is_load s ≡ true → EndMoves at s
unfolding fixed_segment
end_moves at s stands load = rw (load_moves s load) (omega (arith, stands.ends load))

all_ends : (at : ℕ) (ss : List Segment) → All (Stands at) ss → All (λ s. is_load s ≡ true → EndMoves at s) ss
all_ends at ss all = λ i d lt. end_moves at _ (all i d lt)

round_moved : (e at : ℕ) → at % 4096 ≡ 0 → round_up (e + at) 4096 ≡ round_up e 4096 + at
unfolding round_up
round_moved e at whole = omega (arith, whole)

nothing_up : 0 < round_up 0 4096 → ⊥
unfolding round_up
nothing_up h = omega (arith, h)

span_moved : (at : ℕ) (ss : List Segment) → All (Stands at) ss → at % 4096 ≡ 0 → 0 < span ss → span (map (fixed_segment at) ss) ≡ span ss + at
unfolding span last_load
span_moved at ss all whole some =
    ap (λ (m : Option Segment). round_up (end_in_memory m) 4096) (last_moved at None ss)
    ∙ of_last (last_from None ss) (last_holds (EndMoves at) None ss (all_ends at ss all) tt) some
  where
    of_last : (m : Option Segment) → IfSome m (EndMoves at) → 0 < round_up (end_in_memory m) 4096 → round_up (end_in_memory (option_map (fixed_segment at) m)) 4096 ≡ round_up (end_in_memory m) 4096 + at
    of_last None ends some = absurd (nothing_up some)
    of_last (Some s) ends some = ap (λ (n : ℕ). round_up n 4096) ends ∙ round_moved (s.vaddr + s.memsz) at whole

-- an address that is a multiple of the alignment begins a page
pub whole_pages : (p : List ℕ) (o : Object) (at : ℕ) → Accepted p o → at % o.align ≡ 0 → at % 4096 ≡ 0
whole_pages p o at is aligned = let same = remainder_kept 0 at 4096 o.align page_power (align_power p o is) (align_page p o is) aligned in omega (arith, same)

-- ---- the object

module _ (bytes : List ℕ) (o : Object) (at : ℕ) (is : IsAt bytes o at) (aligned : at % o.align ≡ 0) where
  abbrev p : List ℕ
  p = as_program bytes

  abbrev ts : List Tag
  ts = old_tags bytes o

  abbrev moved_tags : List Tag
  moved_tags = new_tags at bytes o

  abbrev fixed_segments : List Segment
  fixed_segments = map (fixed_segment at) o.segments

  abbrev tables_again : List Range
  tables_again = map window_range (link_windows (fixed_header at o.header) fixed_segments (map (fixed_section at) o.sections) moved_tags)

  made : Kind → ℕ → Option Block → Bool → ℕ → ℕ → Object
  made kind entry block symbolic size most = record {
    kind = kind;
    header = fixed_header at o.header;
    sections = map (fixed_section at) o.sections;
    entry = entry;
    segments = fixed_segments;
    needed = o.needed;
    symbols = map (fixed_symbol at) o.symbols;
    versions = o.versions;
    hashes = o.hashes;
    relocations = map (fixed_reloc at) o.relocations;
    packed = o.packed;
    tables = tables_again;
    tls = block;
    symbolic = symbolic;
    spare = o.spare;
    span = size;
    align = most;
  }

  kind_is : kind_of (fixed_header at o.header) ≡ o.kind
  unfolding object
  kind_is = kind_kept at o.header ∙ ap (λ (x : Object). x.kind) is.whole

  entry_is : (fixed_header at o.header).entry ≡ fixed_entry at o.entry
  unfolding object
  entry_is = entry_moved at o.header ∙ ap (λ (x : Object). fixed_entry at x.entry) is.whole

  tls_is : tls fixed_segments ≡ o.tls
  unfolding object
  tls_is = tls_kept at o.segments ∙ ap (λ (x : Object). x.tls) is.whole

  symbolic_is : is_symbolic moved_tags ≡ o.symbolic
  unfolding object
  symbolic_is = symbolic_kept at ts ∙ ap (λ (x : Object). x.symbolic) is.whole

  span_is : span fixed_segments ≡ o.span + at
  span_is =
      let some : 0 < span o.segments = subst (λ (n : ℕ). 0 < n) is.pie.accepted.span (span_some p o is.pie.accepted is.other) in
      span_moved at o.segments is.stands (whole_pages p o at is.pie.accepted aligned) some ∙ ap (λ (n : ℕ). n + at) (sym is.pie.accepted.span)

  align_is : align fixed_segments ≡ o.align
  align_is = align_kept at o.segments ∙ sym is.pie.accepted.align

  all_is : made (kind_of (fixed_header at o.header)) (fixed_header at o.header).entry (tls fixed_segments) (is_symbolic moved_tags) (span fixed_segments) (align fixed_segments)
      ≡ made o.kind (fixed_entry at o.entry) o.tls o.symbolic (o.span + at) o.align
  all_is =
      ap (λ (k : Kind). made k (fixed_header at o.header).entry (tls fixed_segments) (is_symbolic moved_tags) (span fixed_segments) (align fixed_segments)) kind_is
      ∙ ap (λ (n : ℕ). made o.kind n (tls fixed_segments) (is_symbolic moved_tags) (span fixed_segments) (align fixed_segments)) entry_is
      ∙ ap (λ (b : Option Block). made o.kind (fixed_entry at o.entry) b (is_symbolic moved_tags) (span fixed_segments) (align fixed_segments)) tls_is
      ∙ ap (λ (b : Bool). made o.kind (fixed_entry at o.entry) o.tls b (span fixed_segments) (align fixed_segments)) symbolic_is
      ∙ ap (λ (n : ℕ). made o.kind (fixed_entry at o.entry) o.tls o.symbolic n (align fixed_segments)) span_is
      ∙ ap (λ (n : ℕ). made o.kind (fixed_entry at o.entry) o.tls o.symbolic (o.span + at) n) align_is

  -- what is made of the parts of the fixed file
  unfoldable pub object_again : Object
  object_again = object (headers_of (fixed at o)) (dynamic_of moved_tags (fixed at o)) (linking_of (fixed at o)) (layout_of moved_tags (fixed at o))

  old_tables : o.tables ≡ map window_range (link_windows o.header o.segments o.sections ts)
  old_tables = (is.pie.accepted.tabled is.other).shape

  pub is_fixed : IsFixed at o object_again
  unfolding object_again object fixed made
  is_fixed = record {
    same = all_is;
    tables = subst (AllZip IsSameRange tables_again) (sym old_tables) (ranges_alike (link_windows (fixed_header at o.header) fixed_segments (map (fixed_section at) o.sections) moved_tags) (link_windows o.header o.segments o.sections ts) (links_alike bytes o at is));
  }
