-- The segments one after the other, as a loop over the program header table takes them.
use Rattle.std.proofs.Common.{◌≡◌, ℕ, ◌+◌, ◌<◌, ◌≤◌, Bool, true, false, ◌&&◌, ◌||◌, if◌then◌else◌, List, [], ◌∷◌, drop, take, set, length, ◌++◌, get_or, refl, sym, ap, ◌∙◌, arith}
use Rattle.std.specs.Prelude.{nat_le}
use Rattle.std.specs.List.{list_any}
use Rattle.std.proofs.lemmas.List.{drop_more, drop_all, append-nil, append_assoc}
use Rattle.std.proofs.lemmas.Grind.{take-set_at}
use Rattle.std.proofs.lemmas.List.FromFn.{length-map-range_with_len, get_or-map-range_with_len}
use Rattle.pl_base.specs.Windows.{Window, share, any_share}
use Rattle.pl_elf.specs.declared.header.Header.{Header}
use Rattle.pl_elf.specs.declared.segment.Segment.{Segment}
use Rattle.pl_elf.specs.Headers.{segment, segments, is_load, loads}
use Rattle.pl_elf.specs.Clauses.{ascend_from, load_window, load_windows}

pub segments_more : (bytes : List ℕ) (h : Header) (i : ℕ) → i < h.phnum → drop i (segments bytes h) ≡ segment bytes h i ∷ drop (i + 1) (segments bytes h)
unfolding segments
segments_more bytes h i lt =
    let n = length-map-range_with_len (segment bytes h) 0 h.phnum in
    let one = drop_more (segments bytes h) i (segment bytes h i) (omega (arith, n)) in
    let at : get_or (segments bytes h) i (segment bytes h i) ≡ segment bytes h i = get_or-map-range_with_len (segment bytes h) 0 h.phnum i i (segment bytes h i) lt (omega arith) in
    one ∙ ap (λ (s : Segment). s ∷ drop (i + 1) (segments bytes h)) at

pub segments_done : (bytes : List ℕ) (h : Header) (i : ℕ) → h.phnum ≤ i → drop i (segments bytes h) ≡ []
unfolding segments
segments_done bytes h i le = drop_all i (segments bytes h) (omega (arith, length-map-range_with_len (segment bytes h) 0 h.phnum))

-- ---- one segment more of a list, a PT_LOAD or another

any_one : (p : Window → Bool) (b : Bool) (s : Segment) (ss : List Segment) → is_load s ≡ b
    → list_any p (load_windows (loads (s ∷ ss))) ≡ ((b && p (load_window s)) || list_any p (load_windows (loads ss)))
any_one p true s ss e = rw e refl
any_one p false s ss e = rw e refl

pair_one : (b : Bool) (s : Segment) (ss : List Segment) → is_load s ≡ b
    → any_share (load_windows (loads (s ∷ ss))) ≡ ((b && list_any (share (load_window s)) (load_windows (loads ss))) || any_share (load_windows (loads ss)))
pair_one true s ss e = rw e refl
pair_one false s ss e = rw e refl

ascend_one : (address : ℕ) (b : Bool) (s : Segment) (ss : List Segment) → is_load s ≡ b
    → ascend_from address (loads (s ∷ ss)) ≡ (if b then (nat_le address s.vaddr && ascend_from (s.vaddr + s.memsz) (loads ss)) else ascend_from address (loads ss))
ascend_one address true s ss e = rw e refl
ascend_one address false s ss e = rw e refl

-- ---- as far as a loop has come

pub any_more : (p : Window → Bool) (bytes : List ℕ) (h : Header) (i : ℕ) → i < h.phnum
    → list_any p (load_windows (loads (drop i (segments bytes h)))) ≡ ((is_load (segment bytes h i) && p (load_window (segment bytes h i))) || list_any p (load_windows (loads (drop (i + 1) (segments bytes h)))))
any_more p bytes h i lt =
    ap (λ ss. list_any p (load_windows (loads ss))) (segments_more bytes h i lt) ∙ any_one p _ (segment bytes h i) (drop (i + 1) (segments bytes h)) refl

pub any_done : (p : Window → Bool) (bytes : List ℕ) (h : Header) (i : ℕ) → h.phnum ≤ i → list_any p (load_windows (loads (drop i (segments bytes h)))) ≡ false
any_done p bytes h i le = ap (λ ss. list_any p (load_windows (loads ss))) (segments_done bytes h i le)

pub pair_more : (bytes : List ℕ) (h : Header) (i : ℕ) → i < h.phnum
    → any_share (load_windows (loads (drop i (segments bytes h)))) ≡ ((is_load (segment bytes h i) && list_any (share (load_window (segment bytes h i))) (load_windows (loads (drop (i + 1) (segments bytes h))))) || any_share (load_windows (loads (drop (i + 1) (segments bytes h)))))
pair_more bytes h i lt =
    ap (λ ss. any_share (load_windows (loads ss))) (segments_more bytes h i lt) ∙ pair_one _ (segment bytes h i) (drop (i + 1) (segments bytes h)) refl

pub pair_done : (bytes : List ℕ) (h : Header) (i : ℕ) → h.phnum ≤ i → any_share (load_windows (loads (drop i (segments bytes h)))) ≡ false
pair_done bytes h i le = ap (λ ss. any_share (load_windows (loads ss))) (segments_done bytes h i le)

pub ascend_more : (address : ℕ) (bytes : List ℕ) (h : Header) (i : ℕ) → i < h.phnum
    → ascend_from address (loads (drop i (segments bytes h))) ≡ (if is_load (segment bytes h i) then (nat_le address (segment bytes h i).vaddr && ascend_from ((segment bytes h i).vaddr + (segment bytes h i).memsz) (loads (drop (i + 1) (segments bytes h)))) else ascend_from address (loads (drop (i + 1) (segments bytes h))))
ascend_more address bytes h i lt =
    ap (λ ss. ascend_from address (loads ss)) (segments_more bytes h i lt) ∙ ascend_one address _ (segment bytes h i) (drop (i + 1) (segments bytes h)) refl

pub ascend_done : (address : ℕ) (bytes : List ℕ) (h : Header) (i : ℕ) → h.phnum ≤ i → ascend_from address (loads (drop i (segments bytes h))) ≡ true
ascend_done address bytes h i le = ap (λ ss. ascend_from address (loads ss)) (segments_done bytes h i le)

-- ---- the windows of PT_LOADs that a loop has put at the front of a table

rows_one : (b : Bool) (s : Segment) (ss : List Segment) → is_load s ≡ b → load_windows (loads (s ∷ ss)) ≡ (if b then (load_window s ∷ load_windows (loads ss)) else load_windows (loads ss))
rows_one true s ss e = rw e refl
rows_one false s ss e = rw e refl

rows_from : (b : Bool) (bytes : List ℕ) (h : Header) (i : ℕ) → i < h.phnum → is_load (segment bytes h i) ≡ b
    → load_windows (loads (drop i (segments bytes h))) ≡ (if b then (load_window (segment bytes h i) ∷ load_windows (loads (drop (i + 1) (segments bytes h)))) else load_windows (loads (drop (i + 1) (segments bytes h))))
rows_from b bytes h i lt e = ap (λ ss. load_windows (loads ss)) (segments_more bytes h i lt) ∙ rows_one b (segment bytes h i) (drop (i + 1) (segments bytes h)) e

-- a PT_LOAD is put there
pub row_put : (bytes : List ℕ) (h : Header) (i count : ℕ) (table : List Window) (whole : List Window) → i < h.phnum → count < length table → is_load (segment bytes h i) ≡ true
    → take count table ++ load_windows (loads (drop i (segments bytes h))) ≡ whole
    → take (count + 1) (set table count (load_window (segment bytes h i))) ++ load_windows (loads (drop (i + 1) (segments bytes h))) ≡ whole
row_put bytes h i count table whole lt room e so_far =
    let w = load_window (segment bytes h i) in
    let rest = load_windows (loads (drop (i + 1) (segments bytes h))) in
    ap (λ (xs : List Window). xs ++ rest) (take-set_at table count (count + 1) w refl room)
    ∙ append_assoc (take count table) (w ∷ []) rest
    ∙ ap (λ (xs : List Window). take count table ++ xs) (sym (rows_from true bytes h i lt e))
    ∙ so_far

-- another segment is left out
pub row_left : (bytes : List ℕ) (h : Header) (i : ℕ) (front whole : List Window) → i < h.phnum → is_load (segment bytes h i) ≡ false
    → front ++ load_windows (loads (drop i (segments bytes h))) ≡ whole → front ++ load_windows (loads (drop (i + 1) (segments bytes h))) ≡ whole
row_left bytes h i front whole lt e so_far = ap (λ (xs : List Window). front ++ xs) (sym (rows_from false bytes h i lt e)) ∙ so_far

pub rows_done : (bytes : List ℕ) (h : Header) (i : ℕ) (front whole : List Window) → h.phnum ≤ i → front ++ load_windows (loads (drop i (segments bytes h))) ≡ whole → front ≡ whole
rows_done bytes h i front whole le so_far =
    sym (append-nil front) ∙ ap (λ (ss : List Segment). front ++ load_windows (loads ss)) (sym (segments_done bytes h i le)) ∙ so_far
