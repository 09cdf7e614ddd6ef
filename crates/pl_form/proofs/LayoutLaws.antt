-- The layout of an original, and the bytes at its places.
use Rattle.std.proofs.Common.{inl, inr, zero, ◌≡◌, ℕ, suc, ◌+◌, ◌-◌, ◌≤◌, ◌<◌, List, [], ◌∷◌, ◌++◌, length, get_or, take, drop, replicate, Option, Some, None, refl, sym, ap, ◌∙◌, append_assoc, arith, add-one}
use Rattle.std.specs.Prelude.{min}
use Rattle.std.proofs.lemmas.Bool.{cases_lt}
use Rattle.std.proofs.lemmas.List.{append-nil, length-append, length-take, length-replicate}
use Rattle.pl_base.specs.Bytes.{part, bytes64}
use Rattle.pl_base.specs.Windows.{Window, within, AllIn}
use Rattle.pl_base.proofs.WordLaws.{length_bytes64}
use Rattle.pl_base.proofs.WindowLaws.{length-part}
use Rattle.pl_elf.specs.Headers.{segments, sections}
use Rattle.pl_elf.specs.declared.segment.Segment.{Segment}
use Rattle.pl_elf.specs.declared.section.Section.{Section}
use Rattle.pl_dyn.specs.Entries.{tags}
use Rattle.pl_dyn.specs.declared.tags.Tag.{Tag}
use Rattle.pl_object.specs.Accepted.{HasHead}
use Rattle.pl_object.specs.PlaceClauses.{last_load}
use Rattle.pl_object.specs.declared.object.Object.{Object}
use Rattle.pl_move.specs.declared.table.Table.{Table}
use Rattle.pl_form.specs.Back.{all_within, spot_windows, wanted}
use Rattle.pl_form.specs.Found.{dynamic_in, moved_tables, row_windows, places_by, zeros_from, ss_of, secs_of, d_of, tags_of, rs_of, ps_of}
use Rattle.pl_form.specs.Forms.{original_of}
use Rattle.pl_form.specs.Loads.{spots_of}
use Rattle.pl_form.specs.declared.parts.Spot.{Spot}
use Rattle.pl_form.specs.Words.{filled, all_filled, word_at}
use Rattle.pl_form.specs.Originals.{original}
use Rattle.pl_form.specs.declared.layout.Layout.{Layout}
use Rattle.pl_form.proofs.PlaceLaws.{rest_is, rest_none}

-- the layout that is found by an object's segments and sections
pub record IsFound (o : List ℕ) (x : Object) (l : Layout) (ts : List Tag) (rows : List ℕ) : Type 0 where
  pub dynamic : l.dynamic ≡ dynamic_in x.segments
  pub tags_are : ts ≡ tags (within l.dynamic o)
  pub rows_are : rows ≡ all_within (row_windows x.segments x.sections ts) o
  pub tables : l.tables ≡ moved_tables x.segments x.sections ts
  pub spots : l.spots ≡ spots_of x.segments (zeros_from (last_load x.segments)) (places_by x.segments ts rows)
  pub count : l.tags ≡ length ts

pub layout_is : (o : List ℕ) (x : Object) (l : Layout) (ts : List Tag) (rows : List ℕ) → HasHead o x → IsFound o x l ts rows → original o l ≡ original_of o
layout_is o x l ts rows head is =
    let ss : x.segments ≡ ss_of o = sym head.segments ∙ ap (segments o) (sym head.header) in
    let secs : x.sections ≡ secs_of o = sym head.sections ∙ ap (sections o) (sym head.header) in
    let d : l.dynamic ≡ d_of o = is.dynamic ∙ ap dynamic_in ss in
    let t : ts ≡ tags_of o = is.tags_are ∙ ap (λ (w : Window). tags (within w o)) d in
    let r : rows ≡ all_within (rs_of o) o =
    is.rows_are ∙ ap (λ (xs : List Segment). all_within (row_windows xs x.sections ts) o) ss
    ∙ ap (λ (xs : List Section). all_within (row_windows (ss_of o) xs ts) o) secs ∙ ap (λ (xs : List Tag). all_within (row_windows (ss_of o) (secs_of o) xs) o) t in
    let tables : l.tables ≡ moved_tables (ss_of o) (secs_of o) (tags_of o) =
    is.tables ∙ ap (λ (xs : List Segment). moved_tables xs x.sections ts) ss ∙ ap (λ (xs : List Section). moved_tables (ss_of o) xs ts) secs ∙ ap (moved_tables (ss_of o) (secs_of o)) t in
    let spots : l.spots ≡ ps_of o =
    is.spots ∙ ap (λ (xs : List Segment). spots_of xs (zeros_from (last_load xs)) (places_by xs ts rows)) ss
    ∙ ap (λ (xs : List Tag). spots_of (ss_of o) (zeros_from (last_load (ss_of o))) (places_by (ss_of o) xs rows)) t
    ∙ ap (λ (xs : List ℕ). spots_of (ss_of o) (zeros_from (last_load (ss_of o))) (places_by (ss_of o) (tags_of o) xs)) r in
    ap (λ (w : Window). record { bytes = o; dynamic = w; tables = l.tables; spots = l.spots; tags = l.tags }) d
    ∙ ap (λ (xs : List Table). record { bytes = o; dynamic = d_of o; tables = xs; spots = l.spots; tags = l.tags }) tables
    ∙ ap (λ (xs : List Spot). record { bytes = o; dynamic = d_of o; tables = moved_tables (ss_of o) (secs_of o) (tags_of o); spots = xs; tags = l.tags }) spots
    ∙ ap (λ (n : ℕ). record { bytes = o; dynamic = d_of o; tables = moved_tables (ss_of o) (secs_of o) (tags_of o); spots = ps_of o; tags = n }) (is.count ∙ ap (λ (xs : List Tag). length xs) t)

-- ---- the bytes at places, one place more

-- the word at an index, if there is one
-- the place at an index lies in the file
pub spot_in : (n : ℕ) (ps : List Spot) (i : ℕ) (d : Spot) → AllIn n (spot_windows ps) → i < length ps → (get_or ps i d).at + (get_or ps i d).size ≤ n
spot_in n [] i d fits lt = absurd (omega (arith, lt))
spot_in n (p ∷ ps) zero d fits lt = fits.0
spot_in n (p ∷ ps) (suc i) d fits lt = spot_in n ps i d fits.1 (omega (arith, lt))

pub filled_is : (o : List ℕ) (p : Spot) (word : ℕ) (out one two three : List ℕ) → one ≡ out ++ take p.size (bytes64 word) → two ≡ one ++ part (p.at + 8) (p.size - 8) o → three ≡ two ++ replicate p.hidden 0 → three ≡ out ++ filled o p (Some word)
filled_is o p word out one two three a b e =
    let x : List ℕ = take p.size (bytes64 word) in
    let y : List ℕ = part (p.at + 8) (p.size - 8) o in
    let z : List ℕ = replicate p.hidden 0 in
    e ∙ ap (λ (xs : List ℕ). xs ++ z) (b ∙ ap (λ (xs : List ℕ). xs ++ y) a ∙ append_assoc out x y) ∙ append_assoc out (x ++ y) z

word_next : (o : List ℕ) (p : Spot) (ps : List Spot) (words : List (Option ℕ)) (i : ℕ) → all_filled o (p ∷ ps) (drop i words) ≡ filled o p (word_at words i) ++ all_filled o ps (drop (suc i) words)
word_next o p ps [] zero = refl
word_next o p ps [] (suc i) = refl
word_next o p ps (w ∷ ws) zero = refl
word_next o p ps (w ∷ ws) (suc i) = word_next o p ps ws i

pub filled_more : (o : List ℕ) (spots : List Spot) (words : List (Option ℕ)) (i : ℕ) (d : Spot) (out new whole : List ℕ) → i < length spots → new ≡ out ++ filled o (get_or spots i d) (word_at words i)
    → out ++ all_filled o (drop i spots) (drop i words) ≡ whole → new ++ all_filled o (drop (i + 1) spots) (drop (i + 1) words) ≡ whole
filled_more o spots words i d out new whole lt step so_far =
    let p = get_or spots i d in
    let rest : List ℕ = all_filled o (drop (i + 1) spots) (drop (i + 1) words) in
    let here : all_filled o (drop i spots) (drop i words) ≡ filled o p (word_at words i) ++ rest =
    ap (λ (ps : List Spot). all_filled o ps (drop i words)) (rest_is spots i d lt) ∙ word_next o p (drop (i + 1) spots) words i
    ∙ ap (λ (k : ℕ). filled o p (word_at words i) ++ all_filled o (drop (i + 1) spots) (drop k words)) (sym (add-one i)) in
    ap (λ (xs : List ℕ). xs ++ rest) step ∙ append_assoc out (filled o p (word_at words i)) rest ∙ sym (ap (λ (xs : List ℕ). out ++ xs) here) ∙ so_far

pub filled_done : (o : List ℕ) (spots : List Spot) (words : List (Option ℕ)) (i : ℕ) (out whole : List ℕ) → length spots ≤ i → out ++ all_filled o (drop i spots) (drop i words) ≡ whole → out ≡ whole
filled_done o spots words i out whole le so_far =
    sym (append-nil out) ∙ sym (ap (λ (ps : List Spot). out ++ all_filled o ps (drop i words)) (rest_none spots i le)) ∙ so_far

-- as many bytes as the places have
behind_word : (o : List ℕ) (p : Spot) → p.at + p.size ≤ length o → length (part (p.at + 8) (p.size - 8) o) ≡ p.size - 8
behind_word o p fits = elim (cases_lt p.size 8) [
  | inl short ↦ let none : p.size - 8 ≡ 0 = omega (arith, short) in ap (λ (n : ℕ). length (part (p.at + 8) n o)) none ∙ sym none
  | inr long ↦ length-part (p.at + 8) (p.size - 8) o (omega (arith, long, fits))
]

pub length-filled : (o : List ℕ) (p : Spot) (word : Option ℕ) → p.at + p.size ≤ length o → length (filled o p word) ≡ p.size + p.hidden
length-filled o p None fits = length-append (part p.at p.size o) (replicate p.hidden 0) ∙ omega (arith, length-part p.at p.size o fits, length-replicate {A = ℕ} p.hidden 0)
length-filled o p (Some word) fits =
    let word_size : length (take p.size (bytes64 word)) ≡ min p.size 8 = length-take p.size (bytes64 word) ∙ ap (min p.size) (length_bytes64 word) in
    let rest_size = behind_word o p fits in
    length-append (take p.size (bytes64 word) ++ part (p.at + 8) (p.size - 8) o) (replicate p.hidden 0)
    ∙ omega (arith, word_size, rest_size, length-append (take p.size (bytes64 word)) (part (p.at + 8) (p.size - 8) o), length-replicate {A = ℕ} p.hidden 0)

pub length-all_filled : (o : List ℕ) (ps : List Spot) (words : List (Option ℕ)) → AllIn (length o) (spot_windows ps) → length (all_filled o ps words) ≡ wanted ps
length-all_filled o [] words fits = refl
length-all_filled o (p ∷ ps) [] fits = length-append (filled o p None) (all_filled o ps []) ∙ omega (arith, length-filled o p None fits.0, length-all_filled o ps [] fits.1)
length-all_filled o (p ∷ ps) (word ∷ words) fits = length-append (filled o p word) (all_filled o ps words) ∙ omega (arith, length-filled o p word fits.0, length-all_filled o ps words fits.1)
