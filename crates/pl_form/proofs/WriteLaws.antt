-- A form, written part by part, with the header last.
use Rattle.std.proofs.Common.{◌≡◌, ℕ, ◌+◌, ◌*◌, ◌^◌, ◌<◌, ◌≤◌, List, [], ◌∷◌, ◌++◌, length, map, take, drop, replicate, refl, sym, ap, ◌∙◌, append_assoc, arith}
use Rattle.std.specs.List.{concat}
use Rattle.std.proofs.lemmas.List.{length-append, length-take-le, take_at, drop_at, take-append-drop, drop-append-le}
use Rattle.pl_base.specs.Bytes.{put}
use Rattle.pl_base.specs.Windows.{gap, ◌⊕◌}
use Rattle.pl_base.proofs.WindowLaws.{length-put, length-⊕, all_in}
use Rattle.pl_elf.specs.Headers.{header}
use Rattle.pl_elf.specs.Written.{header_bytes, section_header_bytes, segment_bytes}
use Rattle.pl_elf.specs.declared.header.Header.{Header}
use Rattle.pl_elf.specs.declared.section.Section.{Section}
use Rattle.pl_elf.specs.declared.segment.Segment.{Segment}
use Rattle.pl_move.specs.Moves.{table_windows}
use Rattle.pl_form.specs.Back.{head_windows, spot_windows, inserted}
use Rattle.pl_form.specs.Fits.{Fits}
use Rattle.pl_form.specs.Parts.{Original, up, joined, joined_size, old_names, all_names, names_part, names_at, table_at, table_rows, table_part, new_header, under_header, front_part, form}
use Rattle.pl_form.specs.declared.parts.FormPlan.{FormPlan}
use Rattle.pl_form.proofs.FormLaws.{new_length, length-under_header}
use Rattle.pl_form.proofs.HeadLaws.{length-segment, length-rows_of}
use Rattle.pl_form.proofs.PartsLaws.{length-joined, joined-append, length-inserted}
use Rattle.pl_form.specs.Ends.{names_end, ended_rows, header_with}
use Rattle.pl_form.specs.Originals.{original, LiesIn}
use Rattle.pl_form.specs.declared.layout.Layout.{Layout}

pub length-segments : (ss : List Segment) → length (concat (map segment_bytes ss)) ≡ 56 * length ss
length-segments ss = length-rows_of 56 segment_bytes ss length-segment

-- what a plan is written over lies in the original
pub lies_in : (p : FormPlan) (bytes flat : List ℕ) (l : Layout) (undo : ℕ) → Fits p (original bytes l) flat undo → LiesIn bytes l p flat
lies_in p bytes flat l undo fits =
    let ins = all_in (length bytes) (head_windows (header bytes) ++ l.dynamic ∷ []) fits.heads_in in
    record {
      long = ins.0;
      tables = all_in (length bytes) (table_windows l.tables) fits.tables_in;
      spots = all_in (length bytes) (spot_windows l.spots) fits.spots_in;
      filled = fits.fills;
      dynamic = omega (arith, ins.1.1.1.0, fits.dynamic);
      segments = omega (arith, ins.1.0, fits.segments);
      cut = fits.cut;
    }

-- ---- bytes put at the start

put_append : (new xs ys : List ℕ) → length new ≤ length xs → put 0 new (xs ++ ys) ≡ put 0 new xs ++ ys
unfolding put
put_append new xs ys le =
    ap (λ (zs : List ℕ). new ++ zs) (drop-append-le (0 + length new) xs ys (omega (arith, le))) ∙ sym (append_assoc new (drop (0 + length new) xs) ys)

length-put_first : (new xs : List ℕ) → length new ≤ length xs → length (put 0 new xs) ≡ length xs
length-put_first new xs le = length-put 0 new xs (omega (arith, le))

put_⊕ : (new front next : List ℕ) → length new ≤ length front → put 0 new (front ⊕ next) ≡ put 0 new front ⊕ next
put_⊕ new front next le =
    let zeros : List ℕ = replicate (gap (length front)) 0 in
    put_append new (front ++ zeros) next (omega (arith, le, length-append front zeros))
    ∙ ap (λ (xs : List ℕ). xs ++ next) (put_append new front zeros le)
    ∙ ap (λ (n : ℕ). (put 0 new front ++ replicate (gap n) 0) ++ next) (sym (length-put_first new front le))

put_joined : (new front : List ℕ) (parts : List (List ℕ)) → length new ≤ length front → put 0 new (joined front parts) ≡ joined (put 0 new front) parts
unfolding joined
put_joined new front [] le = refl
put_joined new front (x ∷ xs) le = put_joined new (front ⊕ x) xs (omega (arith, le, length-⊕ front x)) ∙ ap (λ (f : List ℕ). joined f xs) (put_⊕ new front x le)

put_inserted : (new : List ℕ) (cut : ℕ) (more xs : List ℕ) → length new ≤ cut → cut ≤ length xs → put 0 new (inserted cut more xs) ≡ inserted cut more (put 0 new xs)
put_inserted new cut more xs le fits =
    let a : List ℕ = put 0 new (take cut xs) in
    let b : List ℕ = drop cut xs in
    let size : length (take cut xs) ≡ cut = length-take-le cut xs fits in
    let room : length new ≤ length (take cut xs) = omega (arith, le, size) in
    let whole : put 0 new xs ≡ a ++ b = ap (put 0 new) (sym (take-append-drop cut xs)) ∙ put_append new (take cut xs) b room in
    let len : length a ≡ cut = length-put_first new (take cut xs) room ∙ size in
    let one : take cut (put 0 new xs) ≡ a = ap (take cut) whole ∙ take_at a b cut len in
    let two : drop cut (put 0 new xs) ≡ b = ap (drop cut) whole ∙ drop_at a b cut len in
    put_append new (take cut xs ++ more) b (omega (arith, room, length-append (take cut xs) more))
    ∙ ap (λ (ys : List ℕ). ys ++ b) (put_append new (take cut xs) more room)
    ∙ sym (rw (one, two) refl)

-- ---- the parts before the undo section

abbrev pub body : FormPlan → Original → List ℕ → List ℕ
body p o flat = joined (inserted p.cut p.more (under_header p o flat)) p.parts

pub length-body : (p : FormPlan) (o : Original) (flat : List ℕ) (undo : ℕ) → Fits p o flat undo → length (body p o flat) ≡ joined_size (length o.bytes + length p.more) p.parts
length-body p o flat undo fits =
    let size = length-under_header p o flat undo fits in
    length-joined (inserted p.cut p.more (under_header p o flat)) p.parts
    ∙ ap (λ (n : ℕ). joined_size n p.parts) (length-inserted p.cut p.more (under_header p o flat) (omega (arith, fits.cut, size)) ∙ ap (λ (n : ℕ). n + length p.more) size)

-- the last parts end below 2^32
pub ends_small : (p : FormPlan) (o : Original) (flat undo file : List ℕ) → Fits p o flat (length undo) → file ≡ body p o flat → names_end (length file) (old_names o.bytes) p (length undo) < 2 ^ 32
ends_small p o flat undo file fits is =
    let n : length file ≡ joined_size (length o.bytes + length p.more) p.parts = ap length is ∙ length-body p o flat (length undo) fits in
    let e : names_end (length file) (old_names o.bytes) p (length undo) ≡ names_at p o.bytes (length undo) + length (names_part p o.bytes) = ap (λ (k : ℕ). names_end k (old_names o.bytes) p (length undo)) n in
    omega (arith, e, fits.small)

-- ---- the whole

two_parts : (file a b c : List ℕ) → joined file (a ∷ b ∷ []) ⊕ c ≡ joined file (a ∷ b ∷ c ∷ [])
unfolding joined
two_parts file a b c = refl

pub two_joined : (file undo names one two : List ℕ) → one ≡ file ⊕ undo → two ≡ one ⊕ names → two ≡ joined file (undo ∷ names ∷ [])
unfolding joined
two_joined file undo names one two a b = b ∙ ap (λ (xs : List ℕ). xs ⊕ names) a

length-two : (file a b : List ℕ) → length (joined file (a ∷ b ∷ [])) ≡ up (up (length file) + length a) + length b
unfolding joined
length-two file a b = length-⊕ (file ⊕ a) b ∙ ap (λ (n : ℕ). up n + length b) (length-⊕ file a)

-- it has room for a header
least : (n : ℕ) (parts : List (List ℕ)) → n ≤ joined_size n parts
unfolding joined_size
least n [] = omega arith
least n (x ∷ xs) = omega (arith, least (up n + length x) xs)

pub long_enough : (p : FormPlan) (o : Original) (flat undo file names ended table whole : List ℕ) → Fits p o flat (length undo) → file ≡ body p o flat → ended ≡ joined file (undo ∷ names ∷ []) → whole ≡ ended ⊕ table → 64 ≤ length whole
long_enough p o flat undo file names ended table whole fits is last all =
    let ins = all_in (length o.bytes) (head_windows (header o.bytes) ++ o.dynamic ∷ []) fits.heads_in in
    omega (
      arith,
      ins.0,
      least (length o.bytes + length p.more) p.parts,
      ap length is,
      length-body p o flat (length undo) fits,
      ap length last,
      length-two file undo names,
      ap length all,
      length-⊕ ended table,
    )

new_header_is : (p : FormPlan) (o : Original) (undo table : ℕ) → table ≡ table_at p o.bytes undo → header_with (header o.bytes) p table ≡ new_header p o.bytes undo
unfolding new_header
new_header_is p o undo table is = ap (λ (n : ℕ). header_with (header o.bytes) p n) is

pub written : (p : FormPlan) (o : Original) (flat undo file ended : List ℕ) (rows : List Section) (h : Header) → Fits p o flat (length undo) → file ≡ body p o flat
    → ended ≡ joined file (undo ∷ all_names (old_names o.bytes) p ∷ []) → rows ≡ ended_rows (length file) (old_names o.bytes) p (length undo) → h ≡ header_with (header o.bytes) p (up (length ended))
    → put 0 (header_bytes h) (ended ⊕ concat (map section_header_bytes rows)) ≡ form p o flat undo
unfolding form front_part
written p o flat undo file ended rows h fits is last told head =
    let u = length undo in
    let names = all_names (old_names o.bytes) p in
    let ins = all_in (length o.bytes) (head_windows (header o.bytes) ++ o.dynamic ∷ []) fits.heads_in in
    let n : length file ≡ joined_size (length o.bytes + length p.more) p.parts = ap length is ∙ length-body p o flat u fits in
    let at : up (length ended) ≡ table_at p o.bytes u = ap (λ (xs : List ℕ). up (length xs)) last ∙ ap up (length-two file undo names) ∙ ap (λ (k : ℕ). up (up (up k + u) + length names)) n in
    let h_is : h ≡ new_header p o.bytes u = head ∙ new_header_is p o u (up (length ended)) at in
    let rows_are : rows ≡ table_rows p o.bytes u = told ∙ ap (λ (k : ℕ). ended_rows k (old_names o.bytes) p u) n in
    let table : List ℕ = table_part p o.bytes u in
    let hb : List ℕ = header_bytes (new_header p o.bytes u) in
    let hb_size : length hb ≡ 64 = new_length p o u ins.0 in
    let under : List ℕ = under_header p o flat in
    let size = length-under_header p o flat u fits in
    let low : length hb ≤ p.cut = omega (arith, hb_size, fits.apart, fits.before) in
    let cut_in : p.cut ≤ length under = omega (arith, fits.cut, size) in
    let parts : List (List ℕ) = p.parts ++ undo ∷ names ∷ table ∷ [] in
    let all : ended ⊕ table ≡ joined (inserted p.cut p.more under) parts =
    ap (λ (xs : List ℕ). xs ⊕ table) last ∙ two_parts file undo names table ∙ ap (λ (xs : List ℕ). joined xs (undo ∷ names ∷ table ∷ [])) is
    ∙ sym (joined-append (inserted p.cut p.more under) p.parts (undo ∷ names ∷ table ∷ [])) in
    let long : length hb ≤ length (inserted p.cut p.more under) = omega (arith, low, cut_in, length-inserted p.cut p.more under cut_in) in
    ap (λ (x : Header). put 0 (header_bytes x) (ended ⊕ concat (map section_header_bytes rows))) h_is
    ∙ ap (λ (rs : List Section). put 0 hb (ended ⊕ concat (map section_header_bytes rs))) rows_are
    ∙ ap (put 0 hb) all
    ∙ put_joined hb (inserted p.cut p.more under) parts long
    ∙ ap (λ (xs : List ℕ). joined xs parts) (put_inserted hb p.cut p.more under low cut_in)
