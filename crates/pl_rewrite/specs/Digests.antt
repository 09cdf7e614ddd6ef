-- The SHA-256 of originals, and what lists have of them.
use Rattle.std.specs.Prelude.{◌≡◌, ℕ, List, slice_get, Some}
use Rattle.std.specs.List.{AllZip}
use Rattle.pl_cone.specs.declared.taken.Taken.{Taken}
use Rattle.pl_conflict.specs.Prelinked as firm
use Rattle.pl_conflict.specs.Prelinked.{Firm}
use Rattle.pl_form.specs.Files.{original_in}
use Rattle.pl_lists.specs.declared.list_row.ListRow.{ListRow}
use Rattle.pl_form.specs.Words.{checksum_of}
use Rattle.pl_rewrite.specs.declared.numbers.Numbered.{Numbered}
use Rattle.sha2.specs.Sha256.{sha256}
use Rattle.pl_rewrite.specs.Rows.{IsFirmAt}

abbrev pub IsDigestAt : List Taken → ℕ → List ℕ → Type 0
IsDigestAt ts row digest = (t : Taken) → slice_get ts row ≡ Some t → digest ≡ sha256 (original_in t.bytes)

abbrev pub IsChecksumAt : List Taken → ℕ → ℕ → Type 0
IsChecksumAt ts row checksum = (t : Taken) → slice_get ts row ≡ Some t → checksum ≡ checksum_of (original_in t.bytes)

abbrev pub IsListRowAt : Numbered → ℕ → ListRow → Type 0
IsListRowAt n row r = (m : Firm) → IsFirmAt n row m → r ≡ firm.list_row m

-- the rows of the members of these rows, in their order
abbrev pub IsListAt : Numbered → List ℕ → List ListRow → Type 0
IsListAt n others rows = (ms : List Firm) → AllZip (IsFirmAt n) others ms → rows ≡ firm.list_of ms
