-- What a form asks of its plan, beside the acceptance of the original: all of it is told by lengths.
use Rattle.std.specs.Prelude.{◌≡◌, ◌≤◌, ◌<◌, ◌+◌, ◌*◌, ◌^◌, ◌++◌, ◌∷◌, [], ℕ, true, List, length}
use Rattle.pl_base.specs.Bytes.{IsBytes}
use Rattle.pl_base.specs.Windows.{are_in}
use Rattle.pl_elf.specs.Headers.{header}
use Rattle.pl_move.specs.Moves.{table_windows}
use Rattle.pl_form.specs.declared.parts.FormPlan.{FormPlan}
use Rattle.pl_form.specs.Back.{head_windows, spot_windows, wanted}
use Rattle.pl_form.specs.Parts.{Original, table_at}

pub record Fits (p : FormPlan) (o : Original) (flat : List ℕ) (undo : ℕ) : Type 0 where
  pub bytes : IsBytes o.bytes
  pub fills : length flat ≡ wanted o.spots
  pub dynamic : length p.dynamic ≡ o.dynamic.size
  pub segments : length p.segments ≡ (header o.bytes).phnum
  pub heads_in : are_in (length o.bytes) (head_windows (header o.bytes) ++ o.dynamic ∷ []) ≡ true
  pub tables_in : are_in (length o.bytes) (table_windows o.tables) ≡ true
  pub spots_in : are_in (length o.bytes) (spot_windows o.spots) ≡ true
  -- clause 12: the program headers, of which there are some, are apart from the header
  pub apart : 64 ≤ (header o.bytes).phoff
  -- StrayHeader: they end at or before cut
  pub before : (header o.bytes).phoff + 56 * (header o.bytes).phnum ≤ p.cut
  pub cut : p.cut ≤ length o.bytes
  pub few : length p.sections + 2 < 2 ^ 16
  pub small : table_at p o.bytes undo < 2 ^ 32
