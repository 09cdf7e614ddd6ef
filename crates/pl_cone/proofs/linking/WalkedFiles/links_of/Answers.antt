use Rattle.std.proofs.Common.{List, Option, ap, ◌∙◌, length, arith}
use Rattle.std.specs.Prelude.{slice_get}
use Rattle.std.proofs.lemmas.List.{length-map}
use Rattle.pl_cone.specs.Table.{refusal_of, walk_for}
use Rattle.pl_cone.specs.declared.skip.Skip.{Skip}
use Rattle.pl_cone.specs.declared.taken.Taken.{Taken}
use Rattle.pl_cone.proofs.LinkedLaws.{libraries_first, others_end, passes_begin}
use Rattle.pl_cone.proofs.linking.WalkedFiles.links_of.Goals as goal

pub link_rows-requires-clause-linked : goal.link_rows-requires-clause-linked
link_rows-requires-clause-linked c =
    let told = c.into_vec-causes.ensures ∙ c.requires.causes in
    passes_begin c.args.self.now _
    (record {
      links = omega arith;
      causes = ap length told ∙ length-map c.args.self.now.files.now (λ (x : Taken). refusal_of (walk_for c.args.self.now.files.now x.name));
    })
    (λ row lt. ap (λ (cs : List (Option Skip)). slice_get cs row) told)

pub link_rows-requires-2-clause-linked : goal.link_rows-requires-2-clause-linked
link_rows-requires-2-clause-linked c = libraries_first c.args.self.now _ c.in_ok-link_rows.ensures

pub returns : goal.returns
returns c = others_end c.args.self.now _ c.in_ok-link_rows-2.ensures
