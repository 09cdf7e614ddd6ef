-- What the segments of a form load.
use Rattle.std.proofs.Common.{◌≡◌, ℕ, zero, suc, ◌+◌, ◌-◌, ◌<◌, ◌≤◌, true, false, List, [], ◌∷◌, ◌++◌, length, get_or, take, drop, replicate, refl, sym, ap, subst, ◌∙◌, arith, inl, inr}
use Rattle.std.specs.Prelude.{◌||◌}
use Rattle.std.specs.List.{list_any}
use Rattle.std.proofs.lemmas.Bool.{cases_lt, or_parts}
use Rattle.std.proofs.lemmas.List.{length-take-le, length-drop, length-replicate, append-nil, get_or_append_left, get_or_past}
use Rattle.pl_base.specs.Bytes.{part}
use Rattle.pl_base.specs.Windows.{Window, windows, holds, any_share, AllIn, Agree}
use Rattle.pl_base.proofs.WindowLaws.{length-part, part_byte, agree_edits, agree_itself}
use Rattle.pl_elf.specs.Headers.{header, segments, is_load, loads}
use Rattle.pl_elf.specs.Clauses.{load_windows}
use Rattle.pl_elf.specs.declared.segment.Segment.{Segment}
use Rattle.pl_move.specs.Moves.{table_windows}
use Rattle.pl_form.specs.Back.{header_window, segments_window, spot_windows, wanted}
use Rattle.pl_form.specs.declared.parts.Spot.{Spot}
use Rattle.pl_form.specs.Parts.{Original, front_part, form, hidden, zeros_part}
use Rattle.pl_form.specs.declared.parts.FormPlan.{FormPlan}
use Rattle.pl_form.specs.Loads.{spots_of, is_under, hidden_windows}
use Rattle.pl_form.proofs.PartsLaws.{part_before, part_inserted}
use Rattle.pl_form.proofs.FormLaws.{front_size, rest_of, form_split}
use Rattle.pl_form.specs.Fits.{Fits}
use Rattle.pl_form.proofs.LoadLaws.{front_stays, IsKept, kept_part, part_bytes_same}
use Rattle.pl_form.proofs.PlaceByteLaws.{away_from_spots}

-- ---- what is asked of an original

pub record Loads (o : Original) (places links : List Window) (start : ℕ) : Type 0 where
  -- clause 6: no two PT_LOADs share file bytes
  pub apart : any_share (load_windows (loads (segments o.bytes (header o.bytes)))) ≡ false
  pub spots : o.spots ≡ spots_of (segments o.bytes (header o.bytes)) start places
  -- all that a form changes outside of places is in link tables
  pub covers : (k : ℕ) → list_any (holds k) links ≡ false → list_any (holds k) (header_window ∷ segments_window (header o.bytes) ∷ o.dynamic ∷ table_windows o.tables) ≡ false

-- an address of a PT_LOAD of the original, not masked and under no place
pub record IsPlain (o : Original) (places links : List Window) (s : Segment) (k : ℕ) : Type 0 where
  pub masked : k < s.filesz → list_any (holds (s.offset + k)) links ≡ false
  pub away : is_under places (s.vaddr + k) ≡ false

-- a file byte there is the same in the front part
front_plain : (p : FormPlan) (o : Original) (flat : List ℕ) (undo : ℕ) (places links : List Window) (start i k : ℕ) (d : Segment) → Fits p o flat undo → Loads o places links start
    → i < length (segments o.bytes (header o.bytes)) → is_load (get_or (segments o.bytes (header o.bytes)) i d) ≡ true → IsPlain o places links (get_or (segments o.bytes (header o.bytes)) i d) k → k < (get_or (segments o.bytes (header o.bytes)) i d).filesz
    → get_or (front_part p o flat undo) ((get_or (segments o.bytes (header o.bytes)) i d).offset + k) 0 ≡ get_or o.bytes ((get_or (segments o.bytes (header o.bytes)) i d).offset + k) 0
front_plain p o flat undo places links start i k d fits l lt is plain inside =
    let ss = segments o.bytes (header o.bytes) in
    let x = (get_or ss i d).offset + k in
    let tables = l.covers x (plain.masked inside) in
    let t0 = or_parts (holds x header_window) (holds x (segments_window (header o.bytes)) || (holds x o.dynamic || list_any (holds x) (table_windows o.tables))) tables in
    let t1 = or_parts (holds x (segments_window (header o.bytes))) (holds x o.dynamic || list_any (holds x) (table_windows o.tables)) t0.1 in
    let t2 = or_parts (holds x o.dynamic) (list_any (holds x) (table_windows o.tables)) t1.1 in
    let spots : list_any (holds x) (spot_windows o.spots) ≡ false = rw l.spots (away_from_spots ss start i k d places l.apart lt is inside plain.away) in
    front_stays p o flat undo x fits (rw (t0.0, t1.0, t2.0) spots) t2.1

-- a segment whose file bytes stay or go behind what was inserted loads the same
pub kept_loads : (p : FormPlan) (o : Original) (flat undo : List ℕ) (places links : List Window) (start i k : ℕ) (d borne : Segment) → Fits p o flat (length undo) → Loads o places links start
    → i < length (segments o.bytes (header o.bytes)) → is_load (get_or (segments o.bytes (header o.bytes)) i d) ≡ true → (get_or (segments o.bytes (header o.bytes)) i d).offset + (get_or (segments o.bytes (header o.bytes)) i d).filesz ≤ length o.bytes
    → IsKept p.cut (length p.more) (get_or (segments o.bytes (header o.bytes)) i d) borne → IsPlain o places links (get_or (segments o.bytes (header o.bytes)) i d) k
    → get_or (part borne.offset borne.filesz (form p o flat undo)) k 0 ≡ get_or (part (get_or (segments o.bytes (header o.bytes)) i d).offset (get_or (segments o.bytes (header o.bytes)) i d).filesz o.bytes) k 0
kept_loads p o flat undo places links start i k d borne fits l lt is inside kept plain =
    let s = get_or (segments o.bytes (header o.bytes)) i d in
    ap (λ (xs : List ℕ). get_or xs k 0) (kept_part p o flat undo fits s borne inside kept)
    ∙ part_bytes_same s.offset s.filesz (front_part p o flat (length undo)) o.bytes k (front_size p o flat (length undo) fits) inside (λ below. front_plain p o flat (length undo) places links start i k d fits l lt is plain below)

-- ---- the last PT_LOAD of a program

byte_alone : (x : ℕ) (xs : List ℕ) → get_or xs x 0 ≡ get_or (part x 1 xs) 0 0
byte_alone x xs = let here : x + 0 ≡ x = omega arith in sym (part_byte x 1 xs 0 (omega arith) ∙ ap (λ (n : ℕ). get_or xs n 0) here)

pub byte_before : (p : FormPlan) (o : Original) (flat undo : List ℕ) → Fits p o flat (length undo) → (x : ℕ) → x < p.cut → get_or (form p o flat undo) x 0 ≡ get_or (front_part p o flat (length undo)) x 0
byte_before p o flat undo fits x lt =
    let front = front_part p o flat (length undo) in
    byte_alone x (form p o flat undo)
    ∙ ap (λ (xs : List ℕ). get_or (part x 1 xs) 0 0) (form_split p o flat undo)
    ∙ ap (λ (xs : List ℕ). get_or xs 0 0) (part_before x 1 p.cut p.more front (rest_of p o flat undo) (omega (arith, lt)) (omega (arith, fits.cut, front_size p o flat (length undo) fits)))
    ∙ sym (byte_alone x front)

pub byte_inserted : (p : FormPlan) (o : Original) (flat undo : List ℕ) → Fits p o flat (length undo) → (j : ℕ) → j < length p.more → get_or (form p o flat undo) (p.cut + j) 0 ≡ get_or p.more j 0
byte_inserted p o flat undo fits j lt =
    let front = front_part p o flat (length undo) in
    byte_alone (p.cut + j) (form p o flat undo)
    ∙ ap (λ (xs : List ℕ). get_or (part (p.cut + j) 1 xs) 0 0) (form_split p o flat undo)
    ∙ ap (λ (xs : List ℕ). get_or xs 0 0) (part_inserted j 1 p.cut p.more front (rest_of p o flat undo) (omega (arith, lt)) (omega (arith, fits.cut, front_size p o flat (length undo) fits)))
    ∙ sym (byte_alone j p.more)

-- the segment that grows: its file bytes end at cut, and what is inserted there begins with its zeros, in which the places have their bytes
pub record IsGrown (p : FormPlan) (o : Original) (flat : List ℕ) (s borne : Segment) : Type 0 where
  pub rest : List ℕ
  pub offset : borne.offset ≡ s.offset
  pub cut : s.offset + s.filesz ≡ p.cut
  pub room : s.memsz ≤ borne.filesz
  pub more : borne.filesz ≤ s.filesz + length p.more
  pub filesz : s.filesz ≤ s.memsz
  pub zeros : p.more ≡ zeros_part s o.spots flat ++ rest
  pub hidden_in : AllIn (s.memsz - s.filesz) (hidden_windows o.spots)

pub windows_hidden : (ps : List Spot) (flat : List ℕ) → length flat ≡ wanted ps → windows (hidden ps flat) ≡ hidden_windows ps
windows_hidden [] flat n = refl
windows_hidden (p ∷ ps) flat n =
    let one : length (take p.hidden (drop p.size flat)) ≡ p.hidden = length-take-le p.hidden (drop p.size flat) (omega (arith, n, length-drop p.size flat)) in
    let rest : windows (hidden ps (drop p.hidden (drop p.size flat))) ≡ hidden_windows ps =
    windows_hidden ps (drop p.hidden (drop p.size flat)) (omega (arith, n, length-drop p.hidden (drop p.size flat), length-drop p.size flat)) in
    ap (λ (k : ℕ). record { at = p.behind; size = k } ∷ windows (hidden ps (drop p.hidden (drop p.size flat)))) one
    ∙ ap (λ (ws : List Window). record { at = p.behind; size = p.hidden } ∷ ws) rest

zero_byte : (n j : ℕ) → get_or {A = ℕ} (replicate n 0) j 0 ≡ 0
zero_byte zero j = refl
zero_byte (suc n) zero = refl
zero_byte (suc n) (suc j) = zero_byte n j

pub zeros_agree : (s : Segment) (ps : List Spot) (flat : List ℕ) → length flat ≡ wanted ps → AllIn (s.memsz - s.filesz) (hidden_windows ps) → Agree (hidden_windows ps) (zeros_part s ps flat) (replicate (s.memsz - s.filesz) 0)
unfolding zeros_part
zeros_agree s ps flat n fits =
    let ws = windows_hidden ps flat n in
    let zs : List ℕ = replicate (s.memsz - s.filesz) 0 in
    let size : length zs ≡ s.memsz - s.filesz = length-replicate (s.memsz - s.filesz) 0 in
    let inside : AllIn (length zs) (windows (hidden ps flat)) = rw (size, ws) fits in
    subst (λ (vs : List Window). Agree vs (zeros_part s ps flat) zs) (append-nil (windows (hidden ps flat)) ∙ ws) (agree_edits (hidden ps flat) [] zs zs (agree_itself [] zs) inside)

-- under no place it loads the original's file bytes, then zeros
pub grown_loads : (p : FormPlan) (o : Original) (flat undo : List ℕ) (places links : List Window) (start i k : ℕ) (d borne : Segment) → Fits p o flat (length undo) → Loads o places links start
    → i < length (segments o.bytes (header o.bytes)) → is_load (get_or (segments o.bytes (header o.bytes)) i d) ≡ true → IsGrown p o flat (get_or (segments o.bytes (header o.bytes)) i d) borne
    → IsPlain o places links (get_or (segments o.bytes (header o.bytes)) i d) k → k < (get_or (segments o.bytes (header o.bytes)) i d).memsz
    → ((get_or (segments o.bytes (header o.bytes)) i d).filesz ≤ k → list_any (holds (k - (get_or (segments o.bytes (header o.bytes)) i d).filesz)) (hidden_windows o.spots) ≡ false)
    → get_or (part borne.offset borne.filesz (form p o flat undo)) k 0 ≡ get_or (part (get_or (segments o.bytes (header o.bytes)) i d).offset (get_or (segments o.bytes (header o.bytes)) i d).filesz o.bytes) k 0
grown_loads p o flat undo places links start i k d borne fits l lt is grown plain inside out =
    let s = get_or (segments o.bytes (header o.bytes)) i d in
    let file = form p o flat undo in
    let borne_byte : get_or (part borne.offset borne.filesz file) k 0 ≡ get_or file (s.offset + k) 0 =
    part_byte borne.offset borne.filesz file k (omega (arith, inside, grown.room)) ∙ ap (λ (n : ℕ). get_or file (n + k) 0) grown.offset in
    borne_byte ∙ elim (cases_lt k s.filesz) [
      | inl below ↦
          byte_before p o flat undo fits (s.offset + k) (omega (arith, below, grown.cut))
          ∙ front_plain p o flat (length undo) places links start i k d fits l lt is plain below
          ∙ sym (part_byte s.offset s.filesz o.bytes k below)
      | inr above ↦
          let j : ℕ = k - s.filesz in
          let at : s.offset + k ≡ p.cut + j = omega (arith, above, grown.cut) in
          let zs = zeros_agree s o.spots flat fits.fills grown.hidden_in in
          let zs_size : length (zeros_part s o.spots flat) ≡ s.memsz - s.filesz = zs.size ∙ length-replicate (s.memsz - s.filesz) 0 in
          let j_in : j < length (zeros_part s o.spots flat) = omega (arith, zs_size, inside, above) in
          let none : get_or (part s.offset s.filesz o.bytes) k 0 ≡ 0 = get_or_past (part s.offset s.filesz o.bytes) k 0 (omega (arith, above, length-part s.offset s.filesz o.bytes (omega (arith, grown.cut, fits.cut)))) in
          ap (λ (n : ℕ). get_or file n 0) at
          ∙ byte_inserted p o flat undo fits j (omega (arith, inside, above, grown.room, grown.more))
          ∙ ap (λ (xs : List ℕ). get_or xs j 0) grown.zeros
          ∙ get_or_append_left (zeros_part s o.spots flat) grown.rest 0 j j_in
          ∙ zs.bytes j (out above) ∙ zero_byte (s.memsz - s.filesz) j ∙ sym none
    ]
