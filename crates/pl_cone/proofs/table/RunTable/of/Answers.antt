use Rattle.std.proofs.Common.{List, Option, ℕ, length, sym, ap, subst, ◌∙◌}
use Rattle.std.specs.Prelude.{slice_get}
use Rattle.pl_cone.specs.Table.{AreWalks, refusals_in}
use Rattle.pl_cone.specs.declared.linking.Link.{Link}
use Rattle.pl_cone.specs.declared.skip.Skip.{Skip}
use Rattle.pl_cone.proofs.ColumnLaws.{refusals_are}
use Rattle.pl_cone.proofs.TableLaws.{causes_are, links_are, walks_are}
use Rattle.pl_cone.proofs.table.RunTable.of.Goals as goal

pub links_of-requires-clause-walked : goal.links_of-requires-clause-walked
links_of-requires-clause-walked c = record {
  taken = c.requires;
  walks = subst (λ (rows : List (List ℕ)). AreWalks c.args.files.now (record { walks = rows; causes = refusals_in c.args.files.now })) (sym c.as_slice.ensures) (walks_are c.args.files.now c.in_ok-made.made c.in_ok-made.ensures);
  index = c.in_ok-index.ensures;
}

pub links_of-requires-clause-causes : goal.links_of-requires-clause-causes
links_of-requires-clause-causes c = refusals_are c.args.files.now c.in_ok-made.made c.in_ok-made.ensures

pub returns-clause-table : goal.returns-clause-table
returns-clause-table c = λ region taken. record {
  taken = taken;
  walks = walks_are c.args.files.now c.in_ok-made.made c.in_ok-made.ensures;
  index = c.in_ok-index.ensures;
  sized = ap length c.from_vec.ensures ∙ c.in_ok-linked.ensures.0.links;
  links = λ row rows l cause walk there.
      links_are _ c.in_ok-linked.linked c.in_ok-linked.ensures row rows l (ap (λ (cs : List (Option Skip)). slice_get cs row) (sym c.from_vec-2.ensures) ∙ cause)
      (ap (λ (ws : List (List ℕ)). slice_get ws row) c.as_slice.ensures ∙ walk) (ap (λ (ls : List Link). slice_get ls row) (sym c.from_vec.ensures) ∙ there);
  causes = c.from_vec-2.ensures ∙ causes_are region _ c.in_ok-linked.linked c.in_ok-linked.ensures taken;
}
