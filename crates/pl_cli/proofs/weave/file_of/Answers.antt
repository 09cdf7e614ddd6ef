use Rattle.std.proofs.Common.{◌≡◌, ◌∙◌, ℕ, List, Ok, ap, sym, subst, rules}
use Rattle.std.specs.Prelude.{string_bytes}
use Rattle.std.specs.FinMap.{get}
use Rattle.pl_base.specs.Files.{files_of}
use Rattle.pl_texts.specs.Stops.{StopsAlone, of_load_fault}
use Rattle.pl_cli.specs.Weave.{start_file}
use Rattle.pl_loader.specs.declared.fault.LoadFault.TheVariants.{NotThere}
use Rattle.pl_texts.specs.declared.stop.Stop.{Stop}
use Rattle.pl_cli.proofs.WeaveLemmas.{found_file, missing_file, other_file}
use Rattle.pl_cli.proofs.weave.file_of.Goals as goal

pub returns-then-eq-clause-means : goal.returns-then-eq-clause-means
returns-then-eq-clause-means c =
    let file = c.file-item.result in
    let name : string_bytes file.0 ≡ c.args.name.now = search rules in
    let copied : c.from_vec.result ≡ file.1.items = c.from_vec.ensures ∙ c.in_ok-from_slice.ensures.items ∙ c.deref.ensures.value in
    found_file c.args.files.now c.loop-file.file-index file c.args.name.now c.loop-file-test.true c.file-item.is name c.loop-file.invariant ∙ ap (λ (bytes : List ℕ). Ok bytes) (sym copied)

pub loop-file-preserved : goal.loop-file-preserved
loop-file-preserved c =
    let file = c.file-item.result in
    let other : string_bytes file.0 ≡ c.args.name.now → ⊥ = search rules in
    other_file c.args.files.now c.loop-file.file-index file c.args.name.now (get (files_of c.args.files.now) c.args.name.now) c.loop-file-test.true c.file-item.is other c.loop-file.invariant

pub returns-clause-means : goal.returns-clause-means
returns-clause-means c =
    let files = files_of c.args.files.now in
    let name = c.args.name.now in
    let is : c.from.result ≡ of_load_fault (NotThere name) = search rules in
    subst (λ (stop : Stop). StopsAlone (start_file name (get files name)) stop) (sym is) (ap (start_file name) (missing_file c.args.files.now c.loop-file.file-index name c.loop-file-test.false c.loop-file.invariant))
