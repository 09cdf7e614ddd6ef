-- Where a window of memory of an original stands in its form.
use Rattle.std.proofs.Common.{◌≡◌, ℕ, ◌+◌, ◌-◌, ◌<◌, ◌≤◌, Bool, true, false, List, length, get_or, Option, Some, sym, ap, subst, ◌∙◌, arith}
use Rattle.std.specs.Prelude.{◌&&◌, ◌==◌, min}
use Rattle.std.proofs.Math.Nat.{min-le_right}
use Rattle.std.proofs.lemmas.Bool.{eqb-true, true≢false}
use Rattle.pl_base.specs.Bytes.{part}
use Rattle.pl_base.specs.Windows.{Window, within}
use Rattle.pl_base.proofs.FindLaws.{find_passes}
use Rattle.pl_base.proofs.WindowLaws.{part_part}
use Rattle.pl_elf.specs.Clauses.{AreLoads, bad_load}
use Rattle.pl_elf.specs.Headers.{is_load, loads}
use Rattle.pl_elf.specs.declared.segment.Segment.{Segment}
use Rattle.pl_elf.proofs.AcceptedLaws.{load_fits}
use Rattle.pl_object.specs.FilePart.{file_window, in_file_part, loaded_by, loader, loads_byte}
use Rattle.pl_form.specs.Fits.{Fits}
use Rattle.pl_form.specs.Parts.{Original, form, front_part}
use Rattle.pl_form.specs.declared.parts.FormPlan.{FormPlan}
use Rattle.pl_form.proofs.FormLaws.{form_split, front_size, rest_of}
use Rattle.pl_form.proofs.LoadLaws.{IsKept, kept_part}
use Rattle.pl_form.proofs.LoadTheorem.{IsGrown}
use Rattle.pl_form.proofs.PartsLaws.{part_before}
use Rattle.pl_form.proofs.PlaceByteLaws.{loads_parts, none_of_loads, not_any_at, same_load}

-- ---- a window of memory in the file bytes of the segment that loads it

pub record IsHeld (ss : List Segment) (m : Window) (s : Segment) : Type 0 where
  pub window : file_window ss m ≡ record { at = s.offset + (m.at - s.vaddr); size = m.size }
  pub load : is_load s ≡ true
  pub low : s.vaddr ≤ m.at
  pub high : m.at < s.vaddr + s.filesz
  pub fits : m.at - s.vaddr + m.size ≤ s.filesz

pub is_held : (ss : List Segment) (m : Window) (s : Segment) → loader ss m.at ≡ Some s → in_file_part ss m ≡ true → IsHeld ss m s
unfolding in_file_part file_window
is_held ss m s found whole =
    let parts = loads_parts m.at s (find_passes (loads_byte m.at) ss s found) in
    let test : ((loaded_by m (Some s)).size == m.size) ≡ true = subst (λ (l : Option Segment). ((loaded_by m l).size == m.size) ≡ true) found whole in
    let size : min m.size (s.vaddr + s.filesz - m.at) ≡ m.size = eqb-true (min m.size (s.vaddr + s.filesz - m.at)) m.size test in
    let most = min-le_right m.size (s.vaddr + s.filesz - m.at) in
    record {
      window = ap (loaded_by m) found ∙ ap (λ (n : ℕ). record { at = s.offset + (m.at - s.vaddr); size = n }) size;
      load = parts.0;
      low = parts.1;
      high = parts.2;
      fits = omega (arith, size, most, parts.1, parts.2);
    }

-- ---- a segment, as a form bears it

-- at a slot: what it loads of the original's file bytes is in the form what stands in its front part
pub record Bears (p : FormPlan) (o : Original) (flat undo : List ℕ) (slot : ℕ) (s borne : Segment) : Type 0 where
  pub load : is_load borne ≡ is_load s
  pub start : borne.vaddr ≡ slot + s.vaddr
  pub size : s.filesz ≤ borne.filesz
  pub same : (k n : ℕ) → k + n ≤ s.filesz → part (borne.offset + k) n (form p o flat undo) ≡ part (s.offset + k) n (front_part p o flat (length undo))

pub kept_bears : (p : FormPlan) (o : Original) (flat undo : List ℕ) (slot : ℕ) (s borne : Segment) → Fits p o flat (length undo) → s.offset + s.filesz ≤ length o.bytes → IsKept p.cut (length p.more) s borne
    → is_load borne ≡ is_load s → borne.vaddr ≡ slot + s.vaddr → Bears p o flat undo slot s borne
kept_bears p o flat undo slot s borne fits inside kept load start = record {
  load = load;
  start = start;
  size = omega (arith, kept.0);
  same = λ k n le.
      sym (part_part borne.offset borne.filesz k n (form p o flat undo) (omega (arith, kept.0, le)))
      ∙ ap (part k n) (kept_part p o flat undo fits s borne inside kept)
      ∙ part_part s.offset s.filesz k n (front_part p o flat (length undo)) le;
}

pub grown_bears : (p : FormPlan) (o : Original) (flat undo : List ℕ) (slot : ℕ) (s borne : Segment) → Fits p o flat (length undo) → IsGrown p o flat s borne
    → is_load borne ≡ is_load s → borne.vaddr ≡ slot + s.vaddr → Bears p o flat undo slot s borne
grown_bears p o flat undo slot s borne fits grown load start = record {
  load = load;
  start = start;
  size = omega (arith, grown.room, grown.filesz);
  same = λ k n le.
      ap (λ (x : ℕ). part (x + k) n (form p o flat undo)) grown.offset
      ∙ ap (part (s.offset + k) n) (form_split p o flat undo)
      ∙ part_before (s.offset + k) n p.cut p.more (front_part p o flat (length undo)) (rest_of p o flat undo) (omega (arith, le, grown.cut)) (omega (arith, fits.cut, front_size p o flat (length undo) fits));
}

-- ---- the window in the form

pub right_test : (load : Bool) (bad : Bool) → load ≡ true → (load && bad) ≡ false → bad ≡ false
right_test true bad e h = h
right_test false bad e h = absurd (true≢false (sym e))

-- a window of memory, at the slot, has in the form the bytes of the front part
pub window_there : (p : FormPlan) (o : Original) (flat undo : List ℕ) (slot : ℕ) (ss bs : List Segment) (m w : Window) (s t : Segment) (i : ℕ) (d : Segment)
    → IsHeld ss m s → IsHeld bs w t → loader bs w.at ≡ Some t → AreLoads (loads bs) → i < length bs → Bears p o flat undo slot s (get_or bs i d) → w.at ≡ slot + m.at → w.size ≡ m.size
    → within (file_window bs w) (form p o flat undo) ≡ within (file_window ss m) (front_part p o flat (length undo))
window_there p o flat undo slot ss bs m w s t i d old new found are lt bears at size =
    let b : Segment = get_or bs i d in
    let load : is_load b ≡ true = bears.load ∙ old.load in
    let fits = load_fits b (right_test (is_load b) (bad_load b) load (not_any_at (λ (x : Segment). is_load x && bad_load x) bs i d (none_of_loads bad_load bs are.fit) lt)) in
    let low : b.vaddr ≤ w.at = omega (arith, bears.start, at, old.low) in
    let high : w.at < b.vaddr + b.memsz = omega (arith, bears.start, at, old.high, bears.size, fits.bytes) in
    let same : b ≡ t = same_load bs i w.at w.at d t are lt load found low high new.low new.high in
    let k : ℕ = m.at - s.vaddr in
    let offset : b.offset ≡ t.offset = ap (λ (x : Segment). x.offset) same in
    let vaddr : b.vaddr ≡ t.vaddr = ap (λ (x : Segment). x.vaddr) same in
    let there : t.offset + (w.at - t.vaddr) ≡ b.offset + k = omega (arith, offset, vaddr, bears.start, at, old.low) in
    let file : List ℕ = form p o flat undo in
    ap (λ (v : Window). within v file) new.window
    ∙ ap (λ (x : ℕ). part x w.size file) there
    ∙ ap (λ (n : ℕ). part (b.offset + k) n file) size
    ∙ bears.same k m.size old.fits
    ∙ ap (λ (v : Window). within v (front_part p o flat (length undo))) (sym old.window)
