use Rattle.std.proofs.Common.{◌≡◌, ℕ, length, Some}
use Rattle.std.specs.Prelude.{slice_get}
use Rattle.pl_cone.specs.declared.linking.Link.{Link}
use Rattle.pl_rewrite.specs.RowWords.{IsLinkIf}
use Rattle.pl_rewrite.proofs.verifying.links_for.Given as goal

abbrev pub invariant-loop-row : goal.invariant-loop-row
invariant-loop-row l = (length l.links ≡ l.row) × ((row : ℕ) (link : Link) → slice_get l.links row ≡ Some link → IsLinkIf l.numbered l.needed row link)
