-- What loading needs of an original, from its acceptance.
use Rattle.std.proofs.Common.{◌≡◌, ℕ, zero, suc, ◌+◌, ◌*◌, ◌/◌, ◌<◌, ◌≤◌, Bool, true, false, List, [], ◌∷◌, length, get_or, Option, Some, None, refl, sym, ap, subst, ◌∙◌, arith, inl, inr}
use Rattle.std.specs.Prelude.{◌⊎◌, ◌&&◌, ◌==◌, not, nat_le, fold, if◌then◌else◌}
use Rattle.std.specs.List.{list_any, AllByRecursion}
use Rattle.std.proofs.lemmas.Bool.{cases_Bool, and_parts, or_parts, or_from, leb-true, eqb-true, true≢false}
use Rattle.pl_base.specs.Windows.{Window, end_of, holds, any_share, IsApart}
use Rattle.pl_base.proofs.WindowLaws.{holds_false, holds_not}
use Rattle.pl_elf.specs.Headers.{header, segments, is_load, loads}
use Rattle.pl_elf.specs.Clauses as elf
use Rattle.pl_elf.specs.Clauses.{load_windows}
use Rattle.pl_elf.specs.declared.header.Header.{Header}
use Rattle.pl_elf.specs.declared.segment.Segment.{Segment}
use Rattle.pl_elf.specs.declared.section.Section.{Section}
use Rattle.pl_dyn.specs.declared.tags.Tag.{Tag}
use Rattle.pl_dyn.specs.declared.constants.TheConstants.{DT_HASH, DT_GNU_HASH, DT_VERSYM, DT_VERDEF, DT_VERNEED}
use Rattle.pl_object.specs.FilePart.{file_window, in_file_part}
use Rattle.pl_object.specs.Tables.{dynamic_memory, symbols_memory, strings_memory, rela_memory, jmprel_memory, relr_memory, section_memory, tables_memory, symtab_windows, link_windows, main_windows}
use Rattle.pl_object.specs.PlaceClauses.{last_load, is_held, is_in_memory, is_in_segment}
use Rattle.pl_move.specs.Moves.{table_windows}
use Rattle.pl_form.specs.Back.{header_window, segments_window, sections_window, spot_windows}
use Rattle.pl_form.specs.declared.parts.Spot.{Spot}
use Rattle.pl_form.specs.Found.{symtab_tables, moved_tables, packed_in, zeros_from, ss_of, secs_of, d_of, tags_of, places_of, ps_of}
use Rattle.pl_form.specs.Forms.{original_of}
use Rattle.pl_form.proofs.FrontLaws.{AllAway}
use Rattle.pl_form.proofs.PlaceByteLaws.{IsHeld}
use Rattle.pl_form.proofs.OverlapLaws.{At, at_later, spots_apart}
use Rattle.pl_form.proofs.LoadTheorem.{Loads}
use Rattle.pl_form.proofs.HeldLaws.{Apart}
use Rattle.pl_form.proofs.ReaderLaws.{IsAccepted, all_clear}
use Rattle.std.proofs.Math.Nat.{mul-div-le}
use Rattle.pl_object.specs.Accepted.{Accepted}
use Rattle.pl_object.specs.declared.object.Object.{Object}

-- ---- clause 6

pub files_apart : (o : List ℕ) (x : Object) → Accepted o x → any_share (load_windows (loads (ss_of o))) ≡ false
unfolding elf.overlap_in_file
files_apart o x is = subst (λ (ss : List Segment). any_share (load_windows (loads ss)) ≡ false) (sym is.head.segments ∙ ap (segments o) (sym is.head.header)) is.files_apart

-- ---- what moves lies in link tables

rows_out : (n k : ℕ) (w : Window) → holds k w ≡ false → holds k (record { at = w.at; size = n * (w.size / n) }) ≡ false
rows_out n k w out =
    let m : n * (w.size / n) ≤ w.size = mul-div-le w.size n in
    holds_not k (record { at = w.at; size = n * (w.size / n) }) (elim (holds_false k w out) [ inl lt ↦ inl lt | inr le ↦ inr (omega (arith, le, m)) ])

symtab_rows_out : (k : ℕ) (ws : List Window) → list_any (holds k) ws ≡ false → list_any (holds k) (table_windows (symtab_tables ws)) ≡ false
symtab_rows_out k [] out = refl
symtab_rows_out k (w ∷ ws) out = let p = or_parts (holds k w) (list_any (holds k) ws) out in or_from _ _ (rows_out 24 k w p.0) (symtab_rows_out k ws p.1)

covered : (h : Header) (ss : List Segment) (secs : List Section) (ts : List Tag) (k : ℕ) → list_any (holds k) (link_windows h ss secs ts) ≡ false
    → list_any (holds k) (header_window ∷ segments_window h ∷ file_window ss (dynamic_memory ss) ∷ table_windows (moved_tables ss secs ts)) ≡ false
unfolding link_windows tables_memory
covered h ss secs ts k e =
    let p1 = or_parts (holds k header_window) _ e in
    let p2 = or_parts (holds k (segments_window h)) _ p1.1 in
    let p3 = or_parts (holds k (file_window ss (dynamic_memory ss))) _ p2.1 in
    let p4 = or_parts (holds k (file_window ss (symbols_memory ts secs))) _ p3.1 in
    let p5 = or_parts (holds k (file_window ss (strings_memory ts))) _ p4.1 in
    let p6 = or_parts (holds k (file_window ss (rela_memory ts))) _ p5.1 in
    let p7 = or_parts (holds k (file_window ss (jmprel_memory ts))) _ p6.1 in
    let p8 = or_parts (holds k (file_window ss (section_memory DT_HASH ts secs))) _ p7.1 in
    let p9 = or_parts (holds k (file_window ss (section_memory DT_GNU_HASH ts secs))) _ p8.1 in
    let pa = or_parts (holds k (file_window ss (section_memory DT_VERSYM ts secs))) _ p9.1 in
    let pb = or_parts (holds k (file_window ss (section_memory DT_VERDEF ts secs))) _ pa.1 in
    let pc = or_parts (holds k (file_window ss (section_memory DT_VERNEED ts secs))) _ pb.1 in
    let pd = or_parts (holds k (file_window ss (relr_memory ts))) _ pc.1 in
    let w = rows_out 8 k (file_window ss (relr_memory ts)) pd.0 in
    let s = rows_out 24 k (file_window ss (symbols_memory ts secs)) p4.0 in
    let r = rows_out 24 k (file_window ss (rela_memory ts)) p6.0 in
    let j = rows_out 24 k (file_window ss (jmprel_memory ts)) p7.0 in
    or_from _ _ p1.0 (or_from _ _ p2.0 (or_from _ _ p3.0 (or_from _ _ s (or_from _ _ r (or_from _ _ r (or_from _ _ j (or_from _ _ j (or_from _ _ w (symtab_rows_out k (symtab_windows secs) pd.1)))))))))

-- an accepted original loads so
pub loads_of : (o : List ℕ) (x : Object) → Accepted o x → Loads (original_of o) (places_of o) (link_windows (header o) (ss_of o) (secs_of o) (tags_of o)) (zeros_from (last_load (ss_of o)))
loads_of o x is = record { apart = files_apart o x is; spots = refl; covers = λ k out. covered (header o) (ss_of o) (secs_of o) (tags_of o) k out }

-- ---- clauses 25 and 26

spot_heads : (ps : List Spot) (h s t d : Window) (rest : List Window) → AllAway (spot_windows ps) (h ∷ s ∷ t ∷ d ∷ rest) → (i : ℕ) (e : Spot) → i < length ps → IsApart (record { at = (get_or ps i e).at; size = (get_or ps i e).size }) (h ∷ s ∷ d ∷ [])
spot_heads [] h s t d rest away i e lt = absurd (omega (arith, lt))
spot_heads (p ∷ ps) h s t d rest away zero e lt = (away.0.0, (away.0.1.0, (away.0.1.1.1.0, tt)))
spot_heads (p ∷ ps) h s t d rest away (suc i) e lt = spot_heads ps h s t d rest away.1 i e (omega (arith, lt))

tails_away : (t : Window) (ts vs : List Window) → AllAway vs (t ∷ ts) → AllAway vs ts
tails_away t ts [] h = tt
tails_away t ts (v ∷ vs) h = (h.0.1, tails_away t ts vs h.1)

pub apart_of : (o : List ℕ) (x : Object) → Accepted o x → IsAccepted o → any_share (places_of o) ≡ false → Apart (original_of o)
unfolding main_windows
apart_of o x acc is alone = record {
  spots = spots_apart (ss_of o) (zeros_from (last_load (ss_of o))) (places_of o) (files_apart o x acc) alone;
  heads = λ i e lt. spot_heads (ps_of o) header_window (segments_window (header o)) (sections_window (header o)) (d_of o) _
      (tails_away (packed_in (ss_of o) (tags_of o)) (main_windows (header o) (ss_of o) (secs_of o) (tags_of o)) (spot_windows (ps_of o))
      (all_clear (ss_of o) (zeros_from (last_load (ss_of o))) (packed_in (ss_of o) (tags_of o) ∷ main_windows (header o) (ss_of o) (secs_of o) (tags_of o)) (places_of o) is.clear)) i e lt;
}

-- ---- clause 24

abbrev latest : Option Segment → Segment → Option Segment
latest found s = if is_load s then Some s else found

pub record IsLast (ss : List Segment) (last : Segment) : Type 0 where
  pub at : At ss last
  pub load : is_load last ≡ true

last_later : (s last : Segment) (ss : List Segment) → IsLast ss last → IsLast (s ∷ ss) last
last_later s last ss h = record { at = at_later s last ss h.at; load = h.load }

last_from : (found : Option Segment) (ss : List Segment) (last : Segment) → fold latest found ss ≡ Some last → (found ≡ Some last) ⊎ IsLast ss last
last_from found [] last e = inl e
last_from found (s ∷ ss) last e = elim (cases_Bool (is_load s)) [
  | inl hit ↦ elim (last_from (Some s) ss last (rw hit at e)) [
    | inl same ↦ let is : s ≡ last = cc in inr (record { at = record { i = 0; lt = omega arith; is = λ d. is }; load = rw is at hit })
    | inr later ↦ inr (last_later s last ss later)
  ]
  | inr miss ↦ elim (last_from found ss last (rw miss at e)) [
    | inl same ↦ inl same
    | inr later ↦ inr (last_later s last ss later)
  ]
]

no_segment : (last : Segment) → ◌≡◌ {A = Option Segment} None (Some last) → ⊥
no_segment last e = absurd cc

-- the last PT_LOAD has an index
pub last_is : (ss : List Segment) (last : Segment) → last_load ss ≡ Some last → IsLast ss last
unfolding last_load
last_is ss last e = elim (last_from None ss last e) [ inl none ↦ absurd (no_segment last none) | inr is ↦ is ]

one_held : (program : Bool) (ss : List Segment) (last : Segment) (place : Window) → last_load ss ≡ Some last → not (is_held program ss place) ≡ false → IsHeld ss last place
unfolding is_held in_file_part
one_held program ss last place at e = elim (cases_Bool ((file_window ss place).size == place.size)) [
  | inl whole ↦ inl (eqb-true (file_window ss place).size place.size whole)
  | inr other ↦ elim (cases_Bool (program && is_in_memory place (last_load ss))) [
    | inl memory ↦
        let m : is_in_segment place last ≡ true = rw at at (and_parts program (is_in_memory place (last_load ss)) memory).1 in
        let p = and_parts (nat_le last.vaddr place.at) (nat_le (end_of place) (last.vaddr + last.memsz)) m in
        inr (leb-true last.vaddr place.at p.0, leb-true (end_of place) (last.vaddr + last.memsz) p.1)
    | inr out ↦ absurd (true≢false (rw (other, out) at e))
  ]
]

pub all_held : (program : Bool) (ss : List Segment) (last : Segment) (places : List Window) → last_load ss ≡ Some last → list_any (λ memory. not (is_held program ss memory)) places ≡ false → AllByRecursion (IsHeld ss last) places
all_held program ss last [] at e = tt
all_held program ss last (p ∷ ps) at e =
    let q = or_parts (not (is_held program ss p)) (list_any (λ memory. not (is_held program ss memory)) ps) e in
    (one_held program ss last p at q.0, all_held program ss last ps at q.1)
