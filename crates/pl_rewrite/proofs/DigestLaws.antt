-- Digests of originals, and the rows that lists have of them.
use Rattle.std.proofs.Common.{◌≡◌, ℕ, zero, suc, ◌+◌, ◌<◌, ◌≤◌, true, List, [], ◌∷◌, ◌++◌, length, map, drop, take, get_or, Option, Some, refl, sym, ap, subst, ◌∙◌, arith, inl, inr}
use Rattle.std.specs.Prelude.{slice_get}
use Rattle.std.specs.List.{AllZip}
use Rattle.std.proofs.lemmas.Bool.{false≢true}
use Rattle.std.proofs.lemmas.List.{map-append, take_all, take_more}
use Rattle.std.proofs.lemmas.Option.{same_Some, slice_get-get_or}
use Rattle.std.proofs.lemmas.Slice.Zip.{AllZip-long}
use Rattle.pl_base.specs.Bytes.{word32}
use Rattle.pl_cone.specs.Taken.{HasItsEntry, taken_of}
use Rattle.pl_cone.specs.declared.taken.Taken.{Taken}
use Rattle.pl_conflict.proofs.HeldWordLaws.{zip_more}
use Rattle.pl_conflict.specs.Prelinked as firm
use Rattle.pl_conflict.specs.Prelinked.{Firm}
use Rattle.pl_elf.specs.Kinds.{is_library}
use Rattle.pl_form.specs.Files.{marked_in, original_or_file, original_in}
use Rattle.pl_form.specs.Words.{checksum_of}
use Rattle.pl_form.specs.declared.file.Marked.{Marked}
use Rattle.pl_form.proofs.FilesLaws.{nothing_else_is_read}
use Rattle.pl_lists.specs.declared.list_row.ListRow.{ListRow}
use Rattle.pl_rewrite.specs.Digests.{IsChecksumAt, IsDigestAt, IsListAt, IsListRowAt}
use Rattle.pl_rewrite.specs.Rows.{AreDigests, AreFilesRead, IsDigestOf, IsFirmAt, IsNumbered, firms_of, number_at, walk_of}
use Rattle.pl_rewrite.specs.declared.numbers.Numbered.{Numbered}
use Rattle.pl_rewrite.proofs.FirmRowLaws.{row_of}
use Rattle.sha2.proofs.Facts256.{length-sha256}
use Rattle.sha2.specs.Sha256.{sha256}

-- ---- files that are read

pub numbered_read : (n : Numbered) → IsNumbered n → AreFilesRead n.files.now
unfolding taken_of
numbered_read n is = λ k d lt. ap (λ (t : Taken). t.entry) (is.taken.1.each k d lt).is

pub read_item : (ts : List Taken) (row : ℕ) (t : Taken) → AreFilesRead ts → row < length ts → t ≡ get_or ts row t → HasItsEntry t
read_item ts row t all lt is = subst HasItsEntry (sym is) (all row t lt)

-- ---- digests

pub digests_more : (ts : List Taken) (i : ℕ) (t : Taken) (ds after : List (Option (List ℕ))) (y : Option (List ℕ)) → i < length ts → t ≡ get_or ts i t → IsDigestOf t y → after ≡ ds ++ y ∷ [] → AreDigests (take i ts) ds → AreDigests (take (i + 1) ts) after
digests_more ts i t ds after y lt is one more so_far = zip_more IsDigestOf ts i t ds after y lt so_far (subst (λ (x : Taken). IsDigestOf x y) is one) more

zip_at : {A B : Type 0} (R : A → B → Type 0) (xs : List A) (ys : List B) (i : ℕ) (d : A) (e : B) → AllZip R xs ys → i < length xs → R (get_or xs i d) (get_or ys i e)
zip_at R [] ys i d e zip lt = absurd (omega (arith, lt))
zip_at R (x ∷ xs) [] i d e zip lt = absurd zip
zip_at R (x ∷ xs) (y ∷ ys) zero d e zip lt = zip.0
zip_at R (x ∷ xs) (y ∷ ys) (suc i) d e zip lt = zip_at R xs ys i d e zip.1 (omega (arith, lt))

pub digests_count : (ts : List Taken) (ds : List (Option (List ℕ))) → AreDigests ts ds → length ds ≡ length ts
digests_count ts ds all = AllZip-long IsDigestOf ts ds all

-- what is told of a row's file
file_same : (ts : List Taken) (row : ℕ) (t u : Taken) → row < length ts → t ≡ get_or ts row t → slice_get ts row ≡ Some u → t ≡ u
file_same ts row t u lt is at = same_Some t u (sym (slice_get-get_or ts row t lt ∙ ap (λ (x : Taken). Some x) (sym is)) ∙ at)

pub digest_made : (ts : List Taken) (row : ℕ) (t : Taken) (original d : List ℕ) → row < length ts → t ≡ get_or ts row t → original ≡ original_in t.bytes → d ≡ sha256 original → IsDigestAt ts row d
digest_made ts row t original d lt is made sum = λ u at. sum ∙ ap sha256 made ∙ ap (λ (x : Taken). sha256 (original_in x.bytes)) (file_same ts row t u lt is at)

pub digest_told : (ts : List Taken) (ds : List (Option (List ℕ))) (row : ℕ) (d : List ℕ) (e : Option (List ℕ)) → AreDigests ts ds → row < length ts → get_or ds row e ≡ Some d → IsDigestAt ts row d
digest_told ts ds row d e all lt is = λ u at.
    let there : get_or ts row u ≡ u = same_Some (get_or ts row u) u (sym (slice_get-get_or ts row u lt) ∙ at) in
    subst (λ (x : Taken). IsDigestOf x (Some d)) there (subst (λ (o : Option (List ℕ)). IsDigestOf (get_or ts row u) o) is (zip_at IsDigestOf ts ds row u e all lt))

-- the digest of a row that is there has 32 bytes
pub digest_long : (ts : List Taken) (row : ℕ) (t : Taken) (d : List ℕ) → row < length ts → IsDigestAt ts row d → length d ≡ 32
digest_long ts row t d lt is = ap length (is (get_or ts row t) (slice_get-get_or ts row t lt)) ∙ length-sha256 (original_in (get_or ts row t).bytes)

-- ---- checksums

pub borne_is : (t : Taken) (m : Marked) → Some m ≡ marked_in t.bytes → is_library m.object.kind ≡ true → m.checksum ≡ checksum_of (original_in t.bytes)
unfolding original_in
borne_is t m is library =
    let of = nothing_else_is_read t.bytes m (sym is) in
    let original : original_or_file t.bytes (marked_in t.bytes) ≡ m.original = ap (original_or_file t.bytes) (sym is) in
    elim of.mark [
      | inl mark ↦ mark.checksum ∙ ap checksum_of (sym original)
      | inr program ↦ absurd (false≢true (sym program.program ∙ library))
    ]

pub checksum_told : (ts : List Taken) (row : ℕ) (t : Taken) (c : ℕ) → row < length ts → t ≡ get_or ts row t → c ≡ checksum_of (original_in t.bytes) → IsChecksumAt ts row c
checksum_told ts row t c lt is sum = λ u at. sum ∙ ap (λ (x : Taken). checksum_of (original_in x.bytes)) (file_same ts row t u lt is at)

pub checksum_made : (ts : List Taken) (row : ℕ) (d : List ℕ) (c : ℕ) → IsDigestAt ts row d → c ≡ word32 0 d → IsChecksumAt ts row c
checksum_made ts row d c digest sum = λ u at. sum ∙ ap (word32 0) (digest u at)

-- ---- rows of lists

pub row_made : (n : Numbered) (row : ℕ) (t : Taken) (made : ListRow) → IsNumbered n → row < length n.files.now → t ≡ get_or n.files.now row t → made.name ≡ t.name → made.stamp ≡ number_at n.stamps.now row → IsChecksumAt n.files.now row made.checksum → IsListRowAt n row made
row_made n row t made numbered lt is name stamp checksum = λ r at.
    let f = row_of n row r at in
    let same : t ≡ f.taken = file_same n.files.now row t f.taken lt is f.at in
    let names : made.name ≡ r.member.name = name ∙ ap (λ (x : Taken). x.name) same ∙ ap (λ (x : Firm). x.member.name) f.is in
    let stamps : made.stamp ≡ r.member.stamp = stamp ∙ ap (λ (x : Firm). x.member.stamp) f.is in
    let sums : made.checksum ≡ checksum_of r.member.original = checksum f.taken f.at ∙ ap (λ (x : Firm). checksum_of x.member.original) f.is in
    ap (λ (k : List ℕ). record { name = k; stamp = made.stamp; checksum = made.checksum }) names
    ∙ ap (λ (k : ℕ). record { name = r.member.name; stamp = k; checksum = made.checksum }) stamps
    ∙ ap (λ (k : ℕ). record { name = r.member.name; stamp = r.member.stamp; checksum = k }) sums

-- those of the first rows
abbrev pub ListedTo : Numbered → List ℕ → ℕ → List ListRow → Type 0
ListedTo n others i rows = (ms : List Firm) → AllZip (IsFirmAt n) others ms → rows ≡ firm.list_of (take i ms)

pub listed_more : (n : Numbered) (others : List ℕ) (i : ℕ) (d : ℕ) (rows after : List ListRow) (made : ListRow) → i < length others → IsListRowAt n (get_or others i d) made → after ≡ rows ++ made ∷ [] → ListedTo n others i rows → ListedTo n others (i + 1) after
listed_more n others i d rows after made lt is more so_far = λ ms zip.
    let first = some_firm ms (omega (arith, lt, AllZip-long (IsFirmAt n) others ms zip)) in
    let long : i < length ms = omega (arith, lt, AllZip-long (IsFirmAt n) others ms zip) in
    let one : made ≡ firm.list_row (get_or ms i first) = is (get_or ms i first) (zip_at (IsFirmAt n) others ms i d first zip lt) in
    more ∙ ap (λ (rs : List ListRow). rs ++ made ∷ []) (so_far ms zip) ∙ ap (λ (r : ListRow). firm.list_of (take i ms) ++ r ∷ []) one
    ∙ sym (map-append firm.list_row (take i ms) (get_or ms i first ∷ [])) ∙ ap (map firm.list_row) (sym (take_more ms i first long))
  where
    some_firm : (ms : List Firm) → 0 < length ms → Firm
    some_firm [] some = absurd (omega (arith, some))
    some_firm (m ∷ ms) some = m

pub listed_done : (n : Numbered) (others : List ℕ) (i : ℕ) (rows : List ListRow) → length others ≤ i → ListedTo n others i rows → IsListAt n others rows
listed_done n others i rows le so_far = λ ms zip.
    so_far ms zip ∙ ap firm.list_of (take_all i ms (omega (arith, le, AllZip-long (IsFirmAt n) others ms zip)))

-- ---- a walk

zip_drop : (n : Numbered) (rows : List ℕ) (ms : List Firm) → AllZip (IsFirmAt n) rows ms → AllZip (IsFirmAt n) (drop 1 rows) (drop 1 ms)
zip_drop n [] [] zip = tt
zip_drop n [] (m ∷ ms) zip = absurd zip
zip_drop n (row ∷ rows) [] zip = absurd zip
zip_drop n (row ∷ rows) (m ∷ ms) zip = zip.1

nothing_after : (n : Numbered) (rows : List ℕ) (ms : List Firm) → length rows < 1 → AllZip (IsFirmAt n) rows ms → [] ≡ firm.list_of (drop 1 ms)
nothing_after n [] [] none zip = refl
nothing_after n [] (m ∷ ms) none zip = absurd zip
nothing_after n (row ∷ rows) ms none zip = absurd (omega (arith, none))

pub list_none : (n : Numbered) (row : ℕ) → length (walk_of n row) < 1 → AllZip (IsFirmAt n) (walk_of n row) (firms_of n row) → [] ≡ firm.list_of (drop 1 (firms_of n row))
list_none n row none zip = nothing_after n (walk_of n row) (firms_of n row) none zip

pub list_is : (n : Numbered) (row : ℕ) (others : List ℕ) (rows : List ListRow) → others ≡ drop 1 (walk_of n row) → AllZip (IsFirmAt n) (walk_of n row) (firms_of n row) → IsListAt n others rows → rows ≡ firm.list_of (drop 1 (firms_of n row))
list_is n row others rows is zip all = all (drop 1 (firms_of n row)) (subst (λ (xs : List ℕ). AllZip (IsFirmAt n) xs (drop 1 (firms_of n row))) (sym is) (zip_drop n (walk_of n row) (firms_of n row) zip))
