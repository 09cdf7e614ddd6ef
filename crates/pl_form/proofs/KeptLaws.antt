-- How long the form of a library is at most.
use Rattle.std.proofs.Common.{◌≡◌, ℕ, ◌+◌, ◌*◌, ◌≤◌, true, List, [], ◌∷◌, ◌++◌, length, Option, refl, ◌∙◌, arith}
use Rattle.std.specs.List.{AllByRecursion}
use Rattle.std.proofs.lemmas.List.{length-append}
use Rattle.pl_base.specs.Windows.{Window, IsApart}
use Rattle.pl_base.proofs.WindowLaws.{AreAllApart, all_in, apart_turned, none_share}
use Rattle.pl_base.proofs.WordLaws.{length_bytes32}
use Rattle.pl_elf.specs.Headers.{header}
use Rattle.pl_elf.specs.Kinds.{is_library}
use Rattle.pl_lists.specs.Lists.{list_bytes, row_bytes, after}
use Rattle.pl_lists.specs.declared.list_row.ListRow.{ListRow}
use Rattle.pl_object.specs.Tables.{main_windows}
use Rattle.pl_object.specs.declared.object.Object.{Object}
use Rattle.pl_object.proofs.AcceptedLaws.{accepted}
use Rattle.pl_form.proofs.FinalTheorem.{library_conditions}
use Rattle.pl_form.proofs.FrontLaws.{AllAway}
use Rattle.pl_form.proofs.KindLaws.{library_fits}
use Rattle.pl_form.proofs.WholeTheorem.{taken}
use Rattle.pl_form.proofs.LoadFacts.{apart_of}
use Rattle.pl_form.proofs.ReaderLaws.{all_clear, readable}
use Rattle.pl_form.proofs.SizeLaws.{undo_most, library_most}
use Rattle.pl_form.specs.Back.{head_windows, spot_windows, undo_of, wanted}
use Rattle.pl_form.specs.Fits.{Fits}
use Rattle.pl_form.specs.Forms as forms
use Rattle.pl_form.specs.Forms.{original_of, undo_part, planned}
use Rattle.pl_form.specs.Found.{ss_of, secs_of, d_of, ps_of, tags_of, places_of, packed_in, zeros_from}
use Rattle.pl_form.specs.PartLaws.{IsDigest, FormsLibrary}
use Rattle.pl_form.specs.Parts.{library_plan}
use Rattle.pl_form.specs.declared.parts.Listed.{Listed}
use Rattle.pl_form.specs.declared.parts.Spot.{Spot}
use Rattle.pl_object.specs.PlaceClauses.{last_load}
use Rattle.pl_undo.specs.Section.{undo_bytes}
use Rattle.sha2.proofs.Facts256.{length-sha256}
use Rattle.sha2.specs.Sha256.{sha256}
use Rattle.pl_form.specs.Faults.{IsFirm}
use Rattle.pl_form.specs.Library.{most_bytes, library_with, IsEven, IsShortList}
use Rattle.pl_form.specs.Words.{listed, checksum_of, digest_in}
use Rattle.pl_form.specs.declared.version.Version.{Version}
use Rattle.pl_form.proofs.FirmLaws.{original_is, library_three}
use Rattle.pl_form.proofs.FormOf.{forms_library}
use Rattle.pl_form.proofs.LengthLaws.{original_accepted, places_apart, spots_inside, library_short}
use Rattle.pl_form.proofs.ReadyLaws.{digest_ready}
use Rattle.pl_form.proofs.OriginalLaws.{library_shown}
use Rattle.pl_form.proofs.StandingLaws.{AreShown}

-- ---- the header, the tables, the dynamic table and the places share no byte

turned : (h s t d : Window) (rest vs : List Window) → AllAway vs (h ∷ s ∷ t ∷ d ∷ rest) → IsApart h vs × (IsApart s vs × (IsApart t vs × IsApart d vs))
turned h s t d rest [] away = (tt, (tt, (tt, tt)))
turned h s t d rest (v ∷ vs) away =
    let m = turned h s t d rest vs away.1 in
    ((apart_turned v h away.0.0, m.0), ((apart_turned v s away.0.1.0, m.1.0), ((apart_turned v t away.0.1.1.0, m.1.1.0), (apart_turned v d away.0.1.1.1.0, m.1.1.1))))

all_apart : (h s t d : Window) (rest vs : List Window) → AreAllApart (h ∷ s ∷ t ∷ d ∷ rest) → AllAway vs (h ∷ s ∷ t ∷ d ∷ rest) → AreAllApart vs → AreAllApart ((h ∷ s ∷ t ∷ d ∷ []) ++ vs)
all_apart h s t d rest vs heads away spots =
    let m = turned h s t d rest vs away in
    ((heads.0.0, (heads.0.1.0, (heads.0.1.1.0, m.0))), ((heads.1.0.0, (heads.1.0.1.0, m.1.0)), ((heads.1.1.0.0, m.1.1.0), (m.1.1.1, spots))))

tails : (t : Window) (ts vs : List Window) → AllAway vs (t ∷ ts) → AllAway vs ts
tails t ts [] h = tt
tails t ts (v ∷ vs) h = (h.0.1, tails t ts vs h.1)

kept_apart : (o : List ℕ) (x : Object) → IsFirm o x → AreAllApart ((head_windows (header o) ++ d_of o ∷ []) ++ spot_windows (ps_of o))
unfolding main_windows
kept_apart o x firm =
    let is = original_accepted o x firm in
    let main = main_windows (header o) (ss_of o) (secs_of o) (tags_of o) in
    let clear = all_clear (ss_of o) (zeros_from (last_load (ss_of o))) (packed_in (ss_of o) (tags_of o) ∷ main) (places_of o) is.clear in
    let spots = (apart_of o x (accepted o x firm.accepted) is (places_apart o x firm)).spots in
    all_apart _ _ _ (d_of o) _ (spot_windows (ps_of o)) (none_share main is.overlap) (tails (packed_in (ss_of o) (tags_of o)) main (spot_windows (ps_of o)) clear) spots

all_shown : (ps : List Spot) → AreShown ps → AllByRecursion (λ p. p.hidden ≡ 0) ps
all_shown [] shown = tt
all_shown (p ∷ ps) shown = (shown.0, all_shown ps shown.1)

-- ---- the undo section, and the form

pub library_undo_most : (o : List ℕ) (x : Object) (digest : Option (List ℕ)) (slot cut shift : ℕ) → IsFirm o x → is_library x.kind ≡ true → IsDigest digest → length (undo_bytes (undo_of slot cut shift (d_of o) (ps_of o) o digest)) ≤ 80 + length o
library_undo_most o x digest slot cut shift firm library size =
    undo_most (original_of o) digest slot cut shift size (kept_apart o x firm) (all_in (length o) (head_windows (header o) ++ d_of o ∷ []) (readable o (original_accepted o x firm)).heads_in) (spots_inside o x firm)
    (all_shown (ps_of o) (library_shown o x (original_is o x firm) (library_three o x firm.accepted library)))

pub form_most : (o : List ℕ) (x : Object) (slot stamp checksum : ℕ) (l : Listed) (flat : List ℕ) (digest : Option (List ℕ)) → IsFirm o x → is_library x.kind ≡ true → IsDigest digest → FormsLibrary o x slot stamp checksum l flat digest
    → Fits (library_plan (original_of o) slot stamp checksum l) (original_of o) flat (length (undo_part (library_plan (original_of o) slot stamp checksum l) (original_of o) digest))
    → length (forms.form_of_library (original_of o) slot stamp checksum l flat digest) ≤ 3 * length o + (length l.strings + length l.rows) + 4160456
unfolding planned
form_most o x slot stamp checksum l flat digest firm library size f fits =
    let p = library_plan (original_of o) slot stamp checksum l in
    library_most (original_of o) slot stamp checksum l flat (undo_part p (original_of o) digest) fits (library_undo_most o x digest p.slot p.cut (length p.more) firm library size) (library_conditions o x slot stamp checksum l flat digest f).few

-- ---- the list

length-row : (start : ℕ) (row : ListRow) → length (row_bytes start row) ≡ 20
unfolding row_bytes
length-row start row = simp (length-append, length_bytes32) refl

length-list : (at : ℕ) (rows : List ListRow) → length (list_bytes at rows) ≡ 20 * length rows
unfolding list_bytes
length-list at [] = refl
length-list at (row ∷ rows) = length-append (row_bytes at row) (list_bytes (after at row) rows) ∙ omega (arith, length-row at row, length-list (after at row) rows)

list_most : (o : List ℕ) (list : List ListRow) (n : ℕ) → n ≤ 3 * length o + (length (listed list).strings + length (listed list).rows) + 4160456 → n ≤ most_bytes o list
list_most o list n le = omega (arith, le, length-list 1 list)

-- a library's form, by its list
pub library_most_with : (o : List ℕ) (x : Object) (slot stamp : ℕ) (list : List ListRow) (flat : List ℕ) (version : Version) → IsFirm o x → is_library x.kind ≡ true → length flat ≡ wanted (ps_of o) → IsEven slot → IsShortList (listed list)
    → length (library_with o slot stamp list flat version) ≤ most_bytes o list
unfolding library_with
library_most_with o x slot stamp list flat version firm library filled even short =
    let a = original_of o in
    let l = listed list in
    let digest = digest_in version o in
    let size = digest_ready version (sha256 o) (length-sha256 o) in
    let p = library_plan a slot stamp (checksum_of o) l in
    let f = forms_library o x slot stamp (checksum_of o) l flat digest firm library filled size even.below even.even (library_short o x slot stamp (checksum_of o) l digest firm library size short.strings short.rows) in
    let is = library_conditions o x slot stamp (checksum_of o) l flat digest f in
    let fits = library_fits a slot stamp (checksum_of o) l flat (length (undo_part p a digest)) (taken o is.accepted is.few) is.spare is.flat_size is.small in
    list_most o list _ (form_most o x slot stamp (checksum_of o) l flat digest firm library size f fits)
