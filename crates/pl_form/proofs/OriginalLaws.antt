-- What acceptance says of an original's dynamic table and its places.
use Rattle.std.proofs.Common.{◌≡◌, ℕ, ◌+◌, ◌*◌, ◌<◌, ◌≤◌, Bool, true, false, List, [], ◌∷◌, length, sym, ap, subst, ◌∙◌, arith, inl, inr}
use Rattle.std.specs.Prelude.{◌⊎◌, ◌||◌, ◌==◌, not, is_some}
use Rattle.std.specs.List.{list_any}
use Rattle.std.proofs.lemmas.Bool.{cases_Bool, and_parts, or_parts, eqb-true, false≢true, not-false}
use Rattle.pl_base.specs.Windows.{Window, any_share, AreApart}
use Rattle.pl_base.proofs.WindowLaws.{none_share}
use Rattle.pl_elf.specs.Headers.{header, segment_of_kind}
use Rattle.pl_elf.specs.declared.constants.TheConstants.{PT_DYNAMIC}
use Rattle.pl_elf.specs.declared.header.Header.{Header}
use Rattle.pl_elf.specs.declared.segment.Segment.{Segment}
use Rattle.pl_object.specs.Accepted.{is_exec}
use Rattle.pl_object.specs.FilePart.{in_file_part, file_window}
use Rattle.pl_object.specs.PlaceClauses.{is_held, reloc_outside, reloc_overlap}
use Rattle.pl_object.specs.Relocations.{places}
use Rattle.pl_object.specs.Tables.{main_windows, dynamic_memory}
use Rattle.pl_object.specs.declared.object.Object.{Object}
use Rattle.pl_object.proofs.AcceptedLaws.{accepted}
use Rattle.pl_form.specs.Back.{header_window, segments_window}
use Rattle.pl_form.specs.Forms.{original_of}
use Rattle.pl_form.specs.Found.{ss_of, secs_of, d_of, tags_of, places_of, ps_of}
use Rattle.pl_form.specs.PartLaws.{IsOriginal}
use Rattle.pl_form.specs.Loads.{spot_of, spots_of}
use Rattle.pl_form.proofs.AcceptedIs.{segments_are, places_are, named_of}
use Rattle.pl_form.proofs.HeldLaws.{Apart}
use Rattle.pl_form.proofs.KindLaws.{segment_count}
use Rattle.pl_form.proofs.LoadFacts.{apart_of}
use Rattle.pl_form.proofs.ReaderLaws.{IsAccepted}
use Rattle.pl_form.proofs.StandingLaws.{AreShown}

-- ---- the dynamic table is apart from the header and the program headers

some_segments : (ss : List Segment) → is_some (segment_of_kind PT_DYNAMIC ss) ≡ true → 0 < length ss
some_segments [] h = absurd (false≢true h)
some_segments (s ∷ ss) h = omega arith

above : (d : Window) → 0 < d.size → AreApart header_window d → 64 ≤ d.at
above d some (inl le) = le
above d some (inr (inl le)) = absurd (omega (arith, le, some))
above d some (inr (inr (inl none))) = absurd (omega (arith, none))
above d some (inr (inr (inr none))) = absurd (omega (arith, none, some))

beside : (h : Header) (d : Window) → 0 < h.phnum → 0 < d.size → AreApart (segments_window h) d → (d.at + d.size ≤ h.phoff) ⊎ (h.phoff + 56 * h.phnum ≤ d.at)
beside h d rows some (inl le) = inr le
beside h d rows some (inr (inl le)) = inl le
beside h d rows some (inr (inr (inl none))) = absurd (omega (arith, none, rows))
beside h d rows some (inr (inr (inr none))) = absurd (omega (arith, none, some))

pub record IsBeside (h : Header) (d : Window) : Type 0 where
  pub low : 64 ≤ d.at
  pub apart : (d.at + d.size ≤ h.phoff) ⊎ (h.phoff + 56 * h.phnum ≤ d.at)

pub dynamic_beside : (o : List ℕ) → IsAccepted o → 0 < (d_of o).size → IsBeside (header o) (d_of o)
unfolding main_windows
dynamic_beside o is some =
    let there = and_parts (is_some (segment_of_kind PT_DYNAMIC (ss_of o))) (in_file_part (ss_of o) (dynamic_memory (ss_of o))) is.dynamic in
    let rows : 0 < (header o).phnum = omega (arith, some_segments (ss_of o) there.0, segment_count o (header o)) in
    let apart = none_share (main_windows (header o) (ss_of o) (secs_of o) (tags_of o)) is.overlap in
    record { low = above (d_of o) some apart.0.1.1.0; apart = beside (header o) (d_of o) rows some apart.1.0.1.0 }

-- ---- places

pub alone : (o : List ℕ) (x : Object) → IsOriginal o x → any_share (places_of o) ≡ false
unfolding reloc_overlap
alone o x is =
    let acc = accepted o x is.accepted in
    let here = places_are o x acc is.dynamic (named_of o x is.few is.accepted is.dynamic) in
    subst (λ (ps : List Window). any_share ps ≡ false) here acc.apart

pub spots_apart : (o : List ℕ) (x : Object) → IsOriginal o x → IsAccepted o → Apart (original_of o)
spots_apart o x is acc = apart_of o x (accepted o x is.accepted) acc (alone o x is)

shown_one : (ss : List Segment) (start : ℕ) (place : Window) → not (is_held false ss place) ≡ false → (spot_of ss start place).hidden ≡ 0
unfolding is_held in_file_part spot_of
shown_one ss start place e =
    let held : ((file_window ss place).size == place.size || false) ≡ true = not-false ((file_window ss place).size == place.size || false) e in
    elim (cases_Bool ((file_window ss place).size == place.size)) [
      | inl whole ↦ let same = eqb-true (file_window ss place).size place.size whole in omega (arith, same)
      | inr other ↦ absurd (false≢true (rw other at held))
    ]

shown_all : (ss : List Segment) (start : ℕ) (places : List Window) → list_any (λ memory. not (is_held false ss memory)) places ≡ false → AreShown (spots_of ss start places)
shown_all ss start [] e = tt
shown_all ss start (p ∷ ps) e =
    let q = or_parts (not (is_held false ss p)) (list_any (λ memory. not (is_held false ss memory)) ps) e in
    (shown_one ss start p q.0, shown_all ss start ps q.1)

-- no place of a library has a byte in zeros
pub library_shown : (o : List ℕ) (x : Object) → IsOriginal o x → (header o).kind ≡ 3 → AreShown (ps_of o)
unfolding reloc_outside
library_shown o x is kind =
    let acc = accepted o x is.accepted in
    let here = places_are o x acc is.dynamic (named_of o x is.few is.accepted is.dynamic) in
    let exec : is_exec x ≡ false = ap (λ (h : Header). h.kind == 2) (sym acc.head.header) ∙ ap (λ (k : ℕ). k == 2) kind in
    let a : list_any (λ memory. not (is_held (is_exec x) (ss_of o) memory)) (places x.relocations) ≡ false = subst (λ (ss : List Segment). list_any (λ memory. not (is_held (is_exec x) ss memory)) (places x.relocations) ≡ false) (segments_are o x acc) acc.held in
    let b : list_any (λ memory. not (is_held false (ss_of o) memory)) (places x.relocations) ≡ false = subst (λ (t : Bool). list_any (λ memory. not (is_held t (ss_of o) memory)) (places x.relocations) ≡ false) exec a in
    let c : list_any (λ memory. not (is_held false (ss_of o) memory)) (places_of o) ≡ false = subst (λ (ps : List Window). list_any (λ memory. not (is_held false (ss_of o) memory)) ps ≡ false) here b in
    shown_all (ss_of o) _ (places_of o) c
