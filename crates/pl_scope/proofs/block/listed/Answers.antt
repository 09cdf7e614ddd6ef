use Rattle.std.proofs.Common.{refl, sym, subst}
use Rattle.pl_scope.specs.Block.{AreCandidates}
use Rattle.pl_scope.specs.declared.probe.Pick.{Pick}
use Rattle.pl_scope.specs.declared.probe.Pick.TheVariants as picks
use Rattle.pl_scope.proofs.BlockLaws.{are_rising, each_here, index_here, plain_here, shown_here, versions_here}
use Rattle.pl_scope.proofs.block.listed.Goals as goal

pub of_index-requires : goal.of_index-requires
of_index-requires c = are_rising c.args.block.now c.args.lists.now c.requires.lists

pub of_name-requires : goal.of_name-requires
of_name-requires c = are_rising c.args.block.now c.args.lists.now c.requires.lists

pub shown-requires : goal.shown-requires
shown-requires c = are_rising c.args.block.now c.args.lists.now c.requires.lists

pub returns-in-Version : goal.returns-in-Version
returns-in-Version c =
    let block = c.args.block.now in
    let es = c.of_version.result.now in
    subst (λ (p : Pick). AreCandidates block p es) (sym c.in-Version.is) (versions_here block (picks.Version c.in-Version.version) c.in-Version.version.now es (λ s. refl) c.of_version.ensures)

pub returns-in-Plain : goal.returns-in-Plain
returns-in-Plain c =
    let block = c.args.block.now in
    let es = c.of_index.result.now in
    subst (λ (p : Pick). AreCandidates block p es) (sym c.in-Plain.is) (plain_here block c.args.lists.now es c.requires.lists c.of_index.ensures)

pub returns-in-Index : goal.returns-in-Index
returns-in-Index c =
    let block = c.args.block.now in
    let es = c.of_index-in-Index.result.now in
    subst (λ (p : Pick). AreCandidates block p es) (sym c.in-Index.is) (index_here block c.args.lists.now c.in-Index.index es c.requires.lists c.of_index-in-Index.ensures)

pub returns-in-Each : goal.returns-in-Each
returns-in-Each c =
    let block = c.args.block.now in
    let es = c.of_name.result.now in
    subst (λ (p : Pick). AreCandidates block p es) (sym c.in-Each.is) (each_here block c.args.lists.now es c.requires.lists c.of_name.ensures)

pub returns-in-Shown : goal.returns-in-Shown
returns-in-Shown c =
    let block = c.args.block.now in
    let es = c.shown.result.now in
    subst (λ (p : Pick). AreCandidates block p es) (sym c.in-Shown.is) (shown_here block c.args.lists.now es c.requires.lists c.shown.ensures)
