-- The bytes at the places of a form are those that were given for them.
use Rattle.std.proofs.Common.{◌≡◌, ℕ, zero, suc, ◌+◌, ◌-◌, ◌<◌, ◌≤◌, List, [], ◌∷◌, ◌++◌, length, get_or, take, drop, replicate, refl, sym, ap, ◌∙◌, arith}
use Rattle.std.proofs.lemmas.List.{length-take-le, length-drop, length-replicate, take-append-drop}
use Rattle.pl_base.specs.Bytes.{part}
use Rattle.pl_base.specs.Windows.{Window, within, Put, put_window, AllIn}
use Rattle.pl_base.proofs.WindowLaws.{agree_within, all_in, put_all_at, AreAllApart}
use Rattle.pl_elf.specs.Headers.{header}
use Rattle.pl_elf.specs.declared.segment.Segment.{Segment}
use Rattle.pl_move.specs.Moves.{table_windows, all_moved}
use Rattle.pl_move.proofs.MoveLaws.{length-all_moved}
use Rattle.pl_form.specs.Back.{header_window, segments_window, spot_windows, wanted, visible}
use Rattle.pl_form.specs.Fits.{Fits}
use Rattle.pl_form.specs.Loads.{hidden_windows}
use Rattle.pl_form.specs.Parts.{Original, moved_part, front_part, hidden, zeros_part}
use Rattle.pl_form.specs.declared.parts.FormPlan.{FormPlan}
use Rattle.pl_form.specs.declared.parts.Spot.{Spot}
use Rattle.pl_form.proofs.HeldLaws.{Apart}
use Rattle.pl_form.proofs.FormLaws.{windows_visible, length-moved_part, front_moved}
use Rattle.pl_form.proofs.LoadTheorem.{windows_hidden}
use Rattle.pl_form.specs.Reading.{standing}

-- the bytes that were given stand at the places
abbrev Stand : List Spot → List ℕ → List ℕ → List ℕ → Type 0
Stand [] flat front zeros = Unit {0}
Stand (p ∷ ps) flat front zeros =
    (part p.at p.size front ≡ take p.size flat) × (part p.behind p.hidden zeros ≡ take p.hidden (drop p.size flat)) × Stand ps (drop p.hidden (drop p.size flat)) front zeros

standing_stands : (ps : List Spot) (flat front zeros : List ℕ) → length flat ≡ wanted ps → Stand ps flat front zeros → standing ps front zeros ≡ flat
standing_stands [] [] front zeros size h = refl
standing_stands [] (x ∷ xs) front zeros size h = absurd (omega (arith, size))
standing_stands (p ∷ ps) flat front zeros size h =
    let rest = drop p.hidden (drop p.size flat) in
    let left : length rest ≡ wanted ps = omega (arith, size, length-drop p.hidden (drop p.size flat), length-drop p.size flat) in
    ap (λ (xs : List ℕ). part p.at p.size front ++ (part p.behind p.hidden zeros ++ xs)) (standing_stands ps rest front zeros left h.2)
    ∙ ap (λ (xs : List ℕ). part p.at p.size front ++ (xs ++ rest)) h.1
    ∙ ap (λ (xs : List ℕ). part p.at p.size front ++ xs) (take-append-drop p.hidden (drop p.size flat))
    ∙ ap (λ (xs : List ℕ). xs ++ drop p.size flat) h.0
    ∙ take-append-drop p.size flat

-- ---- place by place

abbrev Visible : List Spot → List ℕ → List ℕ → Type 0
Visible ps flat front = (i : ℕ) (d : Put) → i < length ps → within (put_window (get_or (visible ps flat) i d)) front ≡ (get_or (visible ps flat) i d).bytes

abbrev Hidden : List Spot → List ℕ → List ℕ → Type 0
Hidden ps flat zeros = (i : ℕ) (d : Put) → i < length ps → within (put_window (get_or (hidden ps flat) i d)) zeros ≡ (get_or (hidden ps flat) i d).bytes

abbrev none : Put
none = record { at = 0; bytes = [] }

stand_by : (ps : List Spot) (flat front zeros : List ℕ) → length flat ≡ wanted ps → Visible ps flat front → Hidden ps flat zeros → Stand ps flat front zeros
stand_by [] flat front zeros size v h = tt
stand_by (p ∷ ps) flat front zeros size v h =
    let one : length (take p.size flat) ≡ p.size = length-take-le p.size flat (omega (arith, size)) in
    let rest_size : length (drop p.size flat) ≡ p.hidden + wanted ps = length-drop p.size flat ∙ omega (arith, size) in
    let two : length (take p.hidden (drop p.size flat)) ≡ p.hidden = length-take-le p.hidden (drop p.size flat) (omega (arith, rest_size)) in
    let a : part p.at (length (take p.size flat)) front ≡ take p.size flat = v 0 none (omega arith) in
    let b : part p.behind (length (take p.hidden (drop p.size flat))) zeros ≡ take p.hidden (drop p.size flat) = h 0 none (omega arith) in
    let left : length (drop p.hidden (drop p.size flat)) ≡ wanted ps = length-drop p.hidden (drop p.size flat) ∙ omega (arith, rest_size) in (
      ap (λ (n : ℕ). part p.at n front) (sym one) ∙ a,
      ap (λ (n : ℕ). part p.behind n zeros) (sym two) ∙ b,
      stand_by ps (drop p.hidden (drop p.size flat)) front zeros left (λ i d lt. v (suc i) d (omega (arith, lt))) (λ i d lt. h (suc i) d (omega (arith, lt))),
    )

-- ---- in the front part of a form

visible_window : (ps : List Spot) (flat : List ℕ) (i : ℕ) (d : Put) (e : Spot) → length flat ≡ wanted ps → i < length ps → put_window (get_or (visible ps flat) i d) ≡ record { at = (get_or ps i e).at; size = (get_or ps i e).size }
visible_window [] flat i d e size lt = absurd (omega (arith, lt))
visible_window (p ∷ ps) flat zero d e size lt = ap (λ (n : ℕ). record { at = p.at; size = n }) (length-take-le p.size flat (omega (arith, size)))
visible_window (p ∷ ps) flat (suc i) d e size lt =
    visible_window ps (drop p.hidden (drop p.size flat)) i d e (omega (arith, size, length-drop p.hidden (drop p.size flat), length-drop p.size flat)) (omega (arith, lt))

length-visible : (ps : List Spot) (flat : List ℕ) → length (visible ps flat) ≡ length ps
length-visible [] flat = refl
length-visible (p ∷ ps) flat = ap suc (length-visible ps (drop p.hidden (drop p.size flat)))

length-hidden : (ps : List Spot) (flat : List ℕ) → length (hidden ps flat) ≡ length ps
length-hidden [] flat = refl
length-hidden (p ∷ ps) flat = ap suc (length-hidden ps (drop p.hidden (drop p.size flat)))

spot_in : (size : ℕ) (ps : List Spot) (i : ℕ) (e : Spot) → AllIn size (spot_windows ps) → i < length ps → (get_or ps i e).at + (get_or ps i e).size ≤ size
spot_in size [] i e h lt = absurd (omega (arith, lt))
spot_in size (p ∷ ps) zero e h lt = h.0
spot_in size (p ∷ ps) (suc i) e h lt = spot_in size ps i e h.1 (omega (arith, lt))

abbrev no_spot : Spot
no_spot = record { at = 0; size = 0; hidden = 0; behind = 0 }

front_visible : (p : FormPlan) (o : Original) (flat : List ℕ) (undo : ℕ) → Fits p o flat undo → Apart o → Visible o.spots flat (front_part p o flat undo)
unfolding moved_part
front_visible p o flat undo fits apart i d lt =
    let s = get_or o.spots i no_spot in
    let w : Window = record { at = s.at; size = s.size } in
    let v = get_or (visible o.spots flat) i d in
    let ins = all_in (length o.bytes) (spot_windows o.spots) fits.spots_in in
    let size : length (all_moved p.slot o.tables o.bytes) ≡ length o.bytes = length-all_moved p.slot o.tables o.bytes (all_in (length o.bytes) (table_windows o.tables) fits.tables_in) in
    let ws = windows_visible o.spots flat fits.fills in
    let moved : within (put_window v) (moved_part p o flat) ≡ v.bytes =
    put_all_at (visible o.spots flat) (all_moved p.slot o.tables o.bytes) (rw ws apart.spots) (rw (size, ws) ins) i d (omega (arith, lt, length-visible o.spots flat)) in
    let same : put_window v ≡ w = visible_window o.spots flat i d no_spot fits.fills lt in
    let front : within w (front_part p o flat undo) ≡ within w (moved_part p o flat) =
    agree_within w (header_window ∷ segments_window (header o.bytes) ∷ o.dynamic ∷ []) (front_part p o flat undo) (moved_part p o flat) (front_moved p o flat undo fits)
    (omega (arith, length-moved_part p o flat undo fits, spot_in (length o.bytes) o.spots i no_spot ins lt)) (apart.heads i no_spot lt) in
    ap (λ (x : Window). within x (front_part p o flat undo)) same ∙ front ∙ sym (ap (λ (x : Window). within x (moved_part p o flat)) same) ∙ moved

zeros_hidden : (o : Original) (last : Segment) (flat : List ℕ) → length flat ≡ wanted o.spots → AreAllApart (hidden_windows o.spots) → AllIn (last.memsz - last.filesz) (hidden_windows o.spots) → Hidden o.spots flat (zeros_part last o.spots flat)
unfolding zeros_part
zeros_hidden o last flat size apart inside i d lt =
    let zs : List ℕ = replicate (last.memsz - last.filesz) 0 in
    let zs_size : length zs ≡ last.memsz - last.filesz = length-replicate (last.memsz - last.filesz) 0 in
    let ws = windows_hidden o.spots flat size in
    put_all_at (hidden o.spots flat) zs (rw ws apart) (rw (zs_size, ws) inside) i d (omega (arith, lt, length-hidden o.spots flat))

-- no place has a byte in the zeros
abbrev pub AreShown : List Spot → Type 0
AreShown [] = Unit {0}
AreShown (p ∷ ps) = (p.hidden ≡ 0) × AreShown ps

none_hidden : (ps : List Spot) (flat zeros : List ℕ) → AreShown ps → Hidden ps flat zeros
none_hidden [] flat zeros shown i d lt = absurd (omega (arith, lt))
none_hidden (p ∷ ps) flat zeros shown zero d lt =
    let none : take p.hidden (drop p.size flat) ≡ [] = ap (λ (n : ℕ). take n (drop p.size flat)) shown.0 in
    ap (λ (xs : List ℕ). part p.behind (length xs) zeros) none ∙ sym none
none_hidden (p ∷ ps) flat zeros shown (suc i) d lt = none_hidden ps (drop p.hidden (drop p.size flat)) zeros shown.1 i d (omega (arith, lt))

-- ---- both kinds

pub shown_stand : (p : FormPlan) (o : Original) (flat zeros : List ℕ) (undo : ℕ) → Fits p o flat undo → Apart o → AreShown o.spots → standing o.spots (front_part p o flat undo) zeros ≡ flat
shown_stand p o flat zeros undo fits apart shown =
    standing_stands o.spots flat (front_part p o flat undo) zeros fits.fills
    (stand_by o.spots flat (front_part p o flat undo) zeros fits.fills (front_visible p o flat undo fits apart) (none_hidden o.spots flat zeros shown))

pub all_stand : (p : FormPlan) (o : Original) (last : Segment) (flat : List ℕ) (undo : ℕ) → Fits p o flat undo → Apart o → AreAllApart (hidden_windows o.spots) → AllIn (last.memsz - last.filesz) (hidden_windows o.spots)
    → standing o.spots (front_part p o flat undo) (zeros_part last o.spots flat) ≡ flat
all_stand p o last flat undo fits apart zeros_apart inside =
    standing_stands o.spots flat (front_part p o flat undo) (zeros_part last o.spots flat) fits.fills
    (stand_by o.spots flat (front_part p o flat undo) (zeros_part last o.spots flat) fits.fills (front_visible p o flat undo fits apart) (zeros_hidden o last flat fits.fills zeros_apart inside))
