-- Where places stand, one after the other, and the bytes of tables that stand one after the other.
use Rattle.std.proofs.Common.{◌≡◌, ℕ, ◌+◌, ◌/◌, ◌<◌, ◌≤◌, List, [], ◌∷◌, ◌++◌, length, get_or, map, take, drop, refl, sym, ap, subst, ◌∙◌, append_assoc, arith}
use Rattle.std.proofs.Math.Seq.{take-append_seam, drop-append_seam}
use Rattle.std.proofs.lemmas.List.{append-nil, length-map}
use Rattle.std.proofs.lemmas.List.FromFn.{length-map-range_with_len, get_or-map-range_with_len}
use Rattle.pl_base.specs.Windows.{Window, within, AllIn}
use Rattle.pl_base.proofs.WindowLaws.{length-within}
use Rattle.pl_dyn.specs.declared.tags.Tag.{Tag}
use Rattle.pl_elf.specs.declared.section.Section.{Section}
use Rattle.pl_elf.specs.declared.segment.Segment.{Segment}
use Rattle.pl_form.specs.Back.{all_within}
use Rattle.pl_form.specs.Found.{row_windows, raw_place, raw_places, word_window, all_places, places_by}
use Rattle.pl_form.specs.Loads.{spot_of}
use Rattle.pl_form.specs.Rows.{tables_of, cut_by, places_in, spots_in_memory}
use Rattle.pl_form.specs.declared.found.Memory.{Memory}
use Rattle.pl_form.specs.declared.found.RowBytes.{RowBytes}
use Rattle.pl_form.specs.declared.parts.Spot.{Spot}
use Rattle.pl_form.proofs.PlaceLaws.{rest_is, rest_none}

-- ---- loops over places

pub spots_more : (m : Memory) (places : List Window) (i : ℕ) (d p : Window) (s : Spot) (out new whole : List Spot) → i < length places → p ≡ get_or places i d → s ≡ spot_of m.segments.now m.zeros p → new ≡ out ++ s ∷ []
    → out ++ spots_in_memory m (drop i places) ≡ whole → new ++ spots_in_memory m (drop (i + 1) places) ≡ whole
spots_more m places i d p s out new whole lt is stands pushed so_far =
    let rest : List Window = drop (i + 1) places in
    let one : spots_in_memory m (drop i places) ≡ s ∷ spots_in_memory m rest =
    ap (spots_in_memory m) (rest_is places i d lt) ∙ ap (λ (x : Spot). x ∷ spots_in_memory m rest) (sym (stands ∙ ap (spot_of m.segments.now m.zeros) is)) in
    ap (λ (u : List Spot). u ++ spots_in_memory m rest) pushed ∙ append_assoc out (s ∷ []) (spots_in_memory m rest) ∙ sym (ap (λ (u : List Spot). out ++ u) one) ∙ so_far

pub spots_done : (m : Memory) (places : List Window) (i : ℕ) (out whole : List Spot) → length places ≤ i → out ++ spots_in_memory m (drop i places) ≡ whole → out ≡ whole
spots_done m places i out whole le so_far = sym (append-nil out) ∙ sym (ap (λ (ws : List Window). out ++ spots_in_memory m ws) (rest_none places i le)) ∙ so_far

-- a place for each whole row
pub row_count : (symbols table : List ℕ) → length (raw_places symbols table) ≡ length table / 24
unfolding raw_places
row_count symbols table = length-map-range_with_len (raw_place symbols table) 0 (length table / 24)

pub row_at : (symbols table : List ℕ) (i : ℕ) (d : Window) → i < length table / 24 → get_or (raw_places symbols table) i d ≡ raw_place symbols table i
unfolding raw_places
row_at symbols table i d lt = get_or-map-range_with_len (raw_place symbols table) 0 (length table / 24) i i d lt (omega arith)

-- a place for each word
pub word_count : (words : List ℕ) → length (map word_window words) ≡ length words
word_count words = length-map words word_window

-- ---- the bytes of tables

take_first : (n : ℕ) (xs ys : List ℕ) → length xs ≡ n → take n (xs ++ ys) ≡ xs
take_first n xs ys size = subst (λ (k : ℕ). take k (xs ++ ys) ≡ xs) size (take-append_seam xs ys)

drop_first : (n : ℕ) (xs ys : List ℕ) → length xs ≡ n → drop n (xs ++ ys) ≡ ys
drop_first n xs ys size = subst (λ (k : ℕ). drop k (xs ++ ys) ≡ ys) size (drop-append_seam xs ys)

-- windows that lie in the bytes have the sizes that they say
pub cut_within : (ws : List Window) (bytes : List ℕ) → AllIn (length bytes) ws → cut_by ws (all_within ws bytes) ≡ map (λ (w : Window). within w bytes) ws
cut_within [] bytes ins = refl
cut_within (w ∷ []) bytes ins = ap (λ (xs : List ℕ). xs ∷ []) (append-nil (within w bytes))
cut_within (w ∷ v ∷ ws) bytes ins =
    let size = length-within w bytes ins.0 in
    let rest : List ℕ = all_within (v ∷ ws) bytes in
    ap (λ (xs : List ℕ). xs ∷ cut_by (v ∷ ws) (drop w.size (within w bytes ++ rest))) (take_first w.size (within w bytes) rest size)
    ∙ ap (λ (xs : List ℕ). within w bytes ∷ cut_by (v ∷ ws) xs) (drop_first w.size (within w bytes) rest size)
    ∙ ap (λ (xss : List (List ℕ)). within w bytes ∷ xss) (cut_within (v ∷ ws) bytes ins.1)

-- what is made of each of four windows
pub of_four : (f : Window → List ℕ) (ws : List Window) (a b c d : Window) (p q r s : List ℕ) → length ws ≡ 4 → p ≡ f (get_or ws 0 a) → q ≡ f (get_or ws 1 b) → r ≡ f (get_or ws 2 c) → s ≡ f (get_or ws 3 d) → p ∷ q ∷ r ∷ s ∷ [] ≡ map f ws
of_four f [] a b c d p q r s four is_p is_q is_r is_s = absurd (omega arith)
of_four f (u ∷ []) a b c d p q r s four is_p is_q is_r is_s = absurd (omega arith)
of_four f (u ∷ v ∷ []) a b c d p q r s four is_p is_q is_r is_s = absurd (omega arith)
of_four f (u ∷ v ∷ w ∷ []) a b c d p q r s four is_p is_q is_r is_s = absurd (omega arith)
of_four f (u ∷ v ∷ w ∷ x ∷ []) a b c d p q r s four is_p is_q is_r is_s = cc
of_four f (u ∷ v ∷ w ∷ x ∷ y ∷ ys) a b c d p q r s four is_p is_q is_r is_s = absurd (omega arith)

places_cut : (ss : List Segment) (secs : List Section) (ts : List Tag) (flat : List ℕ) (r : RowBytes) → tables_of r ≡ cut_by (row_windows ss secs ts) flat → places_in r ≡ places_by ss ts flat
unfolding all_places
places_cut ss secs ts flat r is = cc

-- the places by the rows of tables that are cut from the bytes of the row windows
pub places_are : (ss : List Segment) (secs : List Section) (ts : List Tag) (bytes : List ℕ) (ws : List Window) (r : RowBytes) → ws ≡ row_windows ss secs ts → tables_of r ≡ cut_by ws (all_within ws bytes)
    → places_in r ≡ places_by ss ts (all_within (row_windows ss secs ts) bytes)
places_are ss secs ts bytes ws r are is = places_cut ss secs ts (all_within (row_windows ss secs ts) bytes) r (is ∙ ap (λ (vs : List Window). cut_by vs (all_within vs bytes)) are)
