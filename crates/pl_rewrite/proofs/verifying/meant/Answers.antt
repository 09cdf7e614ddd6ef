use Rattle.std.proofs.Common.{ℕ, List, length, ap, sym, subst, ◌∙◌}
use Rattle.std.proofs.lemmas.List.{length-map}
use Rattle.pl_cone.specs.Table.{AreWalks, refusals_in}
use Rattle.pl_cone.proofs.TableLaws.{walks_are}
use Rattle.pl_cone.specs.Currency.{old_stamp}
use Rattle.pl_rewrite.specs.Rows.{AreDigests}
use Rattle.pl_rewrite.specs.Verify.{slot_borne}
use Rattle.pl_rewrite.proofs.FinishedLaws.{files_read}
use Rattle.pl_rewrite.proofs.verifying.meant.Goals as goal

pub digests_of-requires-clause-taken : goal.digests_of-requires-clause-taken
digests_of-requires-clause-taken c = files_read c.requires.0 c.args.files.now c.requires.1

pub digests_of-requires-clause-one_each : goal.digests_of-requires-clause-one_each
digests_of-requires-clause-one_each c = ap length c.as_slice-stale.ensures.value ∙ c.in_ok-flags.ensures.count

pub walks_of-requires : goal.walks_of-requires
walks_of-requires c = c.requires

pub index_of-requires : goal.index_of-requires
index_of-requires c = c.requires

pub meant_if_marked-file-requires-clause-numbered : goal.meant_if_marked-file-requires-clause-numbered
meant_if_marked-file-requires-clause-numbered c =
    let ts = c.args.files.now in
    record {
      taken = c.requires;
      walks = subst (λ (rows : List (List ℕ)). AreWalks ts (record { walks = rows; causes = refusals_in ts })) (sym c.as_slice.ensures) (walks_are ts c.in_ok-walked.walked c.in_ok-walked.ensures);
      index = c.in_ok-index.ensures;
      places = ap length (c.as_slice-2.ensures ∙ c.in_ok-places.ensures) ∙ length-map ts slot_borne;
      stamps = ap length (c.as_slice-3.ensures ∙ c.in_ok-stamps.ensures) ∙ length-map ts old_stamp;
      digests = subst (AreDigests ts) (sym c.as_slice-4.ensures.value) c.in_ok-digests.ensures;
    }

pub meant_if_marked-file-requires-clause-stale : goal.meant_if_marked-file-requires-clause-stale
meant_if_marked-file-requires-clause-stale c = rw c.as_slice-stale.ensures.value c.in_ok-flags.ensures

pub meant_if_marked-file-requires-clause-borne : goal.meant_if_marked-file-requires-clause-borne
meant_if_marked-file-requires-clause-borne c = record {
  places = c.as_slice-2.ensures ∙ c.in_ok-places.ensures;
  stamps = c.as_slice-3.ensures ∙ c.in_ok-stamps.ensures;
}

pub returns : goal.returns
returns c = c.meant_if_marked-file.ensures
