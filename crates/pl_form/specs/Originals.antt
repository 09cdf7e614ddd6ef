-- An original with its layout.
use Rattle.std.specs.Prelude.{◌≡◌, ◌≤◌, ℕ, ◌+◌, ◌*◌, List, length}
use Rattle.pl_base.specs.Windows.{AllIn}
use Rattle.pl_elf.specs.Headers.{header}
use Rattle.pl_move.specs.Moves.{table_windows}
use Rattle.pl_form.specs.Back.{spot_windows, wanted}
use Rattle.pl_form.specs.Forms.{original_of}
use Rattle.pl_form.specs.Parts.{Original}
use Rattle.pl_form.specs.declared.parts.FormPlan.{FormPlan}
use Rattle.pl_form.specs.declared.layout.Layout.{Layout}
use Rattle.sha2.specs.Sha256.{sha256}

abbrev pub original : List ℕ → Layout → Original
original bytes l = record { bytes = bytes; dynamic = l.dynamic; tables = l.tables; spots = l.spots; tags = l.tags }

-- a layout has all that is found in an original by its own header, tables and rows
abbrev pub IsLayoutOf : List ℕ → Layout → Type 0
IsLayoutOf bytes l = original bytes l ≡ original_of bytes

-- an original's layout and its SHA-256
pub record AreFoundIn (bytes : List ℕ) (l : Layout) (sha : List ℕ) : Type 0 where
  pub layout : IsLayoutOf bytes l
  pub digest : sha ≡ sha256 bytes

-- what a plan is written over lies in the original, and there is a byte for each byte of a place
pub record LiesIn (bytes : List ℕ) (l : Layout) (p : FormPlan) (flat : List ℕ) : Type 0 where
  pub long : 64 ≤ length bytes
  pub tables : AllIn (length bytes) (table_windows l.tables)
  pub spots : AllIn (length bytes) (spot_windows l.spots)
  pub filled : length flat ≡ wanted l.spots
  pub dynamic : l.dynamic.at + length p.dynamic ≤ length bytes
  pub segments : (header bytes).phoff + 56 * length p.segments ≤ length bytes
  pub cut : p.cut ≤ length bytes
