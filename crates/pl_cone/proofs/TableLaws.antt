-- The columns of a table, from what fills them.
use Rattle.std.proofs.Common.{◌≡◌, ℕ, ◌<◌, List, length, map, Option, Some, None, sym, ap, ◌∙◌, subst, arith}
use Rattle.std.specs.Option.{option_map}
use Rattle.std.specs.Prelude.{slice_get}
use Rattle.std.proofs.lemmas.List.{length-map}
use Rattle.std.proofs.lemmas.Option.{slice_get-map, slice_get_within}
use Rattle.pl_elf.specs.declared.range.Range.{Range}
use Rattle.pl_cone.specs.Linking.{AreLinked}
use Rattle.pl_cone.specs.Plans.{cause_of}
use Rattle.pl_cone.specs.Skipped.{skip_of}
use Rattle.pl_cone.specs.Table.{AreWalks, IsLinkBy, refusals_in}
use Rattle.pl_cone.specs.Taken.{AreTaken, files_in}
use Rattle.pl_cone.specs.declared.linking.Link.{Link}
use Rattle.pl_cone.specs.declared.linking.Linked.{Linked}
use Rattle.pl_cone.specs.declared.linking.WalkedFiles as walked
use Rattle.pl_cone.specs.declared.skip.Skip.{Skip}
use Rattle.pl_cone.specs.declared.taken.Taken.{Taken}
use Rattle.pl_cone.specs.declared.walking.FolderWalks.{FolderWalks}
use Rattle.pl_cone.proofs.ColumnLaws.{refusals_are, same_by}
use Rattle.pl_cone.proofs.NeedLaws.{slice_get_at}

-- the walks with the refusals of their names
pub walks_are : (ts : List Taken) (w : FolderWalks) → AreWalks ts w → AreWalks ts (record { walks = w.walks; causes = refusals_in ts })
walks_are ts w are = subst (λ (causes : List (Option Skip)). AreWalks ts (record { walks = w.walks; causes = causes })) (refusals_are ts w are) are

-- the first causes of all rows
abbrev meant_of : Range → List Taken → Taken → Option Skip
meant_of region ts x = cause_of (skip_of (files_in ts) region x.name)

pub causes_are : (region : Range) (w : walked.WalkedFiles) (l : Linked) → AreLinked w l → AreTaken region w.files.now → l.causes.items ≡ map (λ x. cause_of (skip_of (files_in w.files.now) region x.name)) w.files.now
causes_are region w l linked taken = same_by l.causes.items (map (meant_of region w.files.now) w.files.now) (linked.0.causes ∙ sym (length-map w.files.now (meant_of region w.files.now))) each
  where
    each : (k : ℕ) (cause : Option Skip) → slice_get l.causes.items k ≡ Some cause → slice_get (map (meant_of region w.files.now) w.files.now) k ≡ Some cause
    each k cause at =
        let within = slice_get_within l.causes.items k cause at in
        let lt : k < length w.files.now = omega (arith, within, linked.0.causes) in
        let file = slice_get_at w.files.now k lt in
        slice_get-map (meant_of region w.files.now) w.files.now k ∙ ap (option_map (meant_of region w.files.now)) file.1 ∙ sym ((linked.1 k lt).meant region file.0 taken file.1) ∙ at

-- what is found of a row without a cause
pub links_are : (w : walked.WalkedFiles) (l : Linked) → AreLinked w l → (row : ℕ) (rows : List ℕ) (link : Link) → slice_get l.causes.items row ≡ Some None → slice_get w.walks.now row ≡ Some rows → slice_get l.links.items row ≡ Some link → IsLinkBy w.files.now w.index.now rows link
links_are w l linked row rows link cause walk at =
    let within = slice_get_within l.causes.items row None cause in
    (linked.1 row (omega (arith, within, linked.0.causes))).by rows link cause walk at
