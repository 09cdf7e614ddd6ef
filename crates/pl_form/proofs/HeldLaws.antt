-- Each place of a form holds the bytes that were given for it.
use Rattle.std.proofs.Common.{◌≡◌, ℕ, zero, suc, ◌+◌, ◌-◌, ◌<◌, ◌≤◌, List, [], ◌∷◌, length, get_or, take, drop, replicate, refl, sym, ap, subst, ◌∙◌, arith}
use Rattle.std.proofs.lemmas.List.{length-take-le, length-drop, length-replicate, take-take, drop-take, get_or-take, get_or-drop}
use Rattle.pl_base.specs.Bytes.{part}
use Rattle.pl_base.specs.Windows.{Window, within, Put, put_window, put_all, AllIn, IsApart}
use Rattle.pl_base.proofs.WindowLaws.{part_byte, agree_within, all_in, put_all_at, AreAllApart}
use Rattle.pl_elf.specs.Headers.{header}
use Rattle.pl_elf.specs.declared.segment.Segment.{Segment}
use Rattle.pl_move.specs.Moves.{table_windows, all_moved}
use Rattle.pl_form.specs.Back.{header_window, segments_window, spot_windows, wanted, visible}
use Rattle.pl_form.specs.declared.parts.Spot.{Spot}
use Rattle.pl_form.specs.Parts.{Original, moved_part, front_part, hidden, zeros_part}
use Rattle.pl_form.specs.declared.parts.FormPlan.{FormPlan}
use Rattle.pl_form.specs.Loads.{fills, hidden_windows}
use Rattle.pl_move.proofs.MoveLaws.{length-all_moved}
use Rattle.pl_form.proofs.FormLaws.{windows_visible, length-moved_part, front_moved}
use Rattle.pl_form.specs.Fits.{Fits}
use Rattle.pl_form.proofs.LoadTheorem.{windows_hidden}

-- ---- the puts of the place of an index

pub visible_at : (ps : List Spot) (flat : List ℕ) (i : ℕ) (d : Put) (e : Spot) (n : List ℕ) → i < length ps → (get_or (visible ps flat) i d ≡ record { at = (get_or ps i e).at; bytes = take (get_or ps i e).size (get_or (fills ps flat) i n) })
visible_at [] flat i d e n lt = absurd (omega (arith, lt))
visible_at (p ∷ ps) flat zero d e n lt = ap (λ (xs : List ℕ). record { at = p.at; bytes = xs }) (sym (take-take p.size (p.size + p.hidden) flat (omega arith)))
visible_at (p ∷ ps) flat (suc i) d e n lt = visible_at ps (drop p.hidden (drop p.size flat)) i d e n (omega (arith, lt))

pub hidden_at : (ps : List Spot) (flat : List ℕ) (i : ℕ) (d : Put) (e : Spot) (n : List ℕ) → i < length ps → (get_or (hidden ps flat) i d ≡ record { at = (get_or ps i e).behind; bytes = drop (get_or ps i e).size (get_or (fills ps flat) i n) })
hidden_at [] flat i d e n lt = absurd (omega (arith, lt))
hidden_at (p ∷ ps) flat zero d e n lt = ap (λ (xs : List ℕ). record { at = p.behind; bytes = xs }) (sym (drop-take p.size p.hidden flat))
hidden_at (p ∷ ps) flat (suc i) d e n lt = hidden_at ps (drop p.hidden (drop p.size flat)) i d e n (omega (arith, lt))

pub length-fill : (ps : List Spot) (flat : List ℕ) (i : ℕ) (e : Spot) (n : List ℕ) → length flat ≡ wanted ps → i < length ps → length (get_or (fills ps flat) i n) ≡ (get_or ps i e).size + (get_or ps i e).hidden
length-fill [] flat i e n size lt = absurd (omega (arith, lt))
length-fill (p ∷ ps) flat zero e n size lt = length-take-le (p.size + p.hidden) flat (omega (arith, size))
length-fill (p ∷ ps) flat (suc i) e n size lt = length-fill ps (drop p.hidden (drop p.size flat)) i e n (omega (arith, size, length-drop p.hidden (drop p.size flat), length-drop p.size flat)) (omega (arith, lt))

length-visible : (ps : List Spot) (flat : List ℕ) → length (visible ps flat) ≡ length ps
length-visible [] flat = refl
length-visible (p ∷ ps) flat = ap suc (length-visible ps (drop p.hidden (drop p.size flat)))

length-hidden : (ps : List Spot) (flat : List ℕ) → length (hidden ps flat) ≡ length ps
length-hidden [] flat = refl
length-hidden (p ∷ ps) flat = ap suc (length-hidden ps (drop p.hidden (drop p.size flat)))

spot_in : (size : ℕ) (ps : List Spot) (i : ℕ) (e : Spot) → AllIn size (spot_windows ps) → i < length ps → (get_or ps i e).at + (get_or ps i e).size ≤ size
spot_in size [] i e h lt = absurd (omega (arith, lt))
spot_in size (p ∷ ps) zero e h lt = h.0
spot_in size (p ∷ ps) (suc i) e h lt = spot_in size ps i e h.1 (omega (arith, lt))

-- what clauses 25 and 26 say of the file bytes of places
pub record Apart (o : Original) : Type 0 where
  pub spots : AreAllApart (spot_windows o.spots)
  pub heads : (i : ℕ) (e : Spot) → i < length o.spots → IsApart (record { at = (get_or o.spots i e).at; size = (get_or o.spots i e).size }) (header_window ∷ segments_window (header o.bytes) ∷ o.dynamic ∷ [])

moved_fill : (p : FormPlan) (o : Original) (flat : List ℕ) (undo i : ℕ) (d : Put) → Fits p o flat undo → Apart o → i < length (visible o.spots flat)
    → within (put_window (get_or (visible o.spots flat) i d)) (moved_part p o flat) ≡ (get_or (visible o.spots flat) i d).bytes
unfolding moved_part
moved_fill p o flat undo i d fits apart lt =
    let size : length (all_moved p.slot o.tables o.bytes) ≡ length o.bytes = length-all_moved p.slot o.tables o.bytes (all_in (length o.bytes) (table_windows o.tables) fits.tables_in) in
    let ws = windows_visible o.spots flat fits.fills in
    put_all_at (visible o.spots flat) (all_moved p.slot o.tables o.bytes) (rw ws apart.spots) (rw (size, ws) (all_in (length o.bytes) (spot_windows o.spots) fits.spots_in)) i d lt

-- a byte of a place that lies in file bytes
pub front_fill : (p : FormPlan) (o : Original) (flat : List ℕ) (undo i j : ℕ) (e : Spot) (n : List ℕ) → Fits p o flat undo → Apart o → i < length o.spots → j < (get_or o.spots i e).size
    → get_or (front_part p o flat undo) ((get_or o.spots i e).at + j) 0 ≡ get_or (get_or (fills o.spots flat) i n) j 0
front_fill p o flat undo i j e n fits apart lt small =
    let s = get_or o.spots i e in
    let w : Window = record { at = s.at; size = s.size } in
    let d : Put = record { at = 0; bytes = [] } in
    let fill = get_or (fills o.spots flat) i n in
    let ts_in = all_in (length o.bytes) (table_windows o.tables) fits.tables_in in
    let size : length (all_moved p.slot o.tables o.bytes) ≡ length o.bytes = length-all_moved p.slot o.tables o.bytes ts_in in
    let ws = windows_visible o.spots flat fits.fills in
    let is = visible_at o.spots flat i d e n lt in
    let given : length (take s.size fill) ≡ s.size = length-take-le s.size fill (omega (arith, length-fill o.spots flat i e n fits.fills lt)) in
    let there : within (put_window (get_or (visible o.spots flat) i d)) (moved_part p o flat) ≡ (get_or (visible o.spots flat) i d).bytes =
    moved_fill p o flat undo i d fits apart (omega (arith, lt, length-visible o.spots flat)) in
    let there' : within (record { at = s.at; size = length (take s.size fill) }) (moved_part p o flat) ≡ take s.size fill =
    subst (λ (q : Put). within (put_window q) (moved_part p o flat) ≡ q.bytes) is there in
    let moved : within w (moved_part p o flat) ≡ take s.size fill = subst (λ (k : ℕ). part s.at k (moved_part p o flat) ≡ take s.size fill) given there' in
    let front : within w (front_part p o flat undo) ≡ within w (moved_part p o flat) =
    agree_within w (header_window ∷ segments_window (header o.bytes) ∷ o.dynamic ∷ []) (front_part p o flat undo) (moved_part p o flat) (front_moved p o flat undo fits)
    (omega (arith, length-moved_part p o flat undo fits, spot_in (length o.bytes) o.spots i e (all_in (length o.bytes) (spot_windows o.spots) fits.spots_in) lt)) (apart.heads i e lt) in
    sym (part_byte s.at s.size (front_part p o flat undo) j small) ∙ ap (λ (xs : List ℕ). get_or xs j 0) (front ∙ moved) ∙ get_or-take s.size fill j 0 small

-- a byte of a place in the zeros
pub zeros_fill : (o : Original) (last : Segment) (flat : List ℕ) (i j : ℕ) (e : Spot) (n : List ℕ) → length flat ≡ wanted o.spots → AreAllApart (hidden_windows o.spots) → AllIn (last.memsz - last.filesz) (hidden_windows o.spots) → i < length o.spots → j < (get_or o.spots i e).hidden
    → get_or (zeros_part last o.spots flat) ((get_or o.spots i e).behind + j) 0 ≡ get_or (get_or (fills o.spots flat) i n) ((get_or o.spots i e).size + j) 0
unfolding zeros_part
zeros_fill o last flat i j e n size apart inside lt small =
    let s = get_or o.spots i e in
    let d : Put = record { at = 0; bytes = [] } in
    let fill = get_or (fills o.spots flat) i n in
    let zs : List ℕ = replicate (last.memsz - last.filesz) 0 in
    let zs_size : length zs ≡ last.memsz - last.filesz = length-replicate (last.memsz - last.filesz) 0 in
    let ws = windows_hidden o.spots flat size in
    let is = hidden_at o.spots flat i d e n lt in
    let given : length (drop s.size fill) ≡ s.hidden = length-drop s.size fill ∙ omega (arith, length-fill o.spots flat i e n size lt) in
    let there : within (put_window (get_or (hidden o.spots flat) i d)) (put_all (hidden o.spots flat) zs) ≡ (get_or (hidden o.spots flat) i d).bytes =
    put_all_at (hidden o.spots flat) zs (rw ws apart) (rw (zs_size, ws) inside) i d (omega (arith, lt, length-hidden o.spots flat)) in
    let there' : within (record { at = s.behind; size = length (drop s.size fill) }) (put_all (hidden o.spots flat) zs) ≡ drop s.size fill =
    subst (λ (q : Put). within (put_window q) (put_all (hidden o.spots flat) zs) ≡ q.bytes) is there in
    sym (part_byte s.behind (length (drop s.size fill)) (put_all (hidden o.spots flat) zs) j (omega (arith, given, small)))
    ∙ ap (λ (xs : List ℕ). get_or xs j 0) there' ∙ get_or-drop s.size fill j 0
