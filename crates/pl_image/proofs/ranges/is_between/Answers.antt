use Rattle.std.proofs.Common.{◌≡◌, ℕ, ◌+◌, ◌≤◌, ◌<◌, true, false}
use Rattle.std.specs.List.{list_any}
use Rattle.std.proofs.lemmas.Bool.{OnTrue_from, OnTrue_at}
use Rattle.pl_elf.specs.Ranges.{has}
use Rattle.pl_image.proofs.RangeLemmas.{between}
use Rattle.pl_image.proofs.ranges.is_between.Goals as goal

pub returns-then-all_end_by : goal.returns-then-all_end_by
returns-then-all_end_by c =
    let clear : c.all_start_past.result ≡ true → (a : ℕ) → c.args.from ≤ a → a < c.args.from + c.args.size → list_any (has a) c.args.ranges.now ≡ false = λ hit a low high.
    between c.args.ranges.now c.args.from (c.args.from + c.args.size) c.args.index a c.if-all_end_by.ensures (OnTrue_at hit c.all_start_past.ensures) low high in
    OnTrue_from _ _ clear
