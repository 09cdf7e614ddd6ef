use Rattle.std.proofs.Common.{◌∙◌, List, ap, subst, sym}
use Rattle.std.specs.List.{list_any}
use Rattle.std.specs.List.Sorted.{IsNonDecreasingBy}
use Rattle.pl_base.specs.Windows.{Window}
use Rattle.pl_object.specs.FilePart.{nothing}
use Rattle.pl_object.specs.Crossing.{furthest_windows}
use Rattle.pl_object.specs.PlaceClauses.{reloc_in_tables, spots}
use Rattle.pl_object.specs.TableClauses.{meets}
use Rattle.pl_object.proofs.CrossingLaws.{same_meets}
use Rattle.pl_object.proofs.place_clauses.reloc_in_tables.Goals as goal

-- the slices that are lent have what their vectors have
pub any_in_tables-requires : goal.any_in_tables-requires
any_in_tables-requires c = record {
  rising = subst (λ (ts : List Window). IsNonDecreasingBy (λ w. w.at) ts) (sym c.as_slice.ensures.value) c.in_ok-sorted.ensures.rising;
  ends = c.as_slice-2.ensures.value ∙ c.in_ok-furthest.ensures ∙ ap (furthest_windows nothing) (c.deref.ensures.value ∙ sym c.as_slice.ensures.value);
}

pub returns : goal.returns
unfolding reloc_in_tables
returns c =
    let found = spots c.args.loads.now c.args.relocs.now in
    c.any_in_tables.ensures
    ∙ ap (λ (ts : List Window). list_any (meets ts) found) c.as_slice.ensures.value
    ∙ same_meets c.args.tables.now c.in_ok-sorted.sorted.items found c.in_ok-sorted.ensures.same
