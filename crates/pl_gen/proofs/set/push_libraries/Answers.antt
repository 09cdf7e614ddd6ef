use Rattle.std.proofs.Common.{sym, refl}
use Rattle.std.proofs.lemmas.List.{append-nil}
use Rattle.pl_gen.specs.Draws.{after, words}
use Rattle.pl_gen.specs.Set.{seen, library}
use Rattle.pl_gen.proofs.SetLaws.{files_more, turn_more, made_library}
use Rattle.pl_gen.proofs.set.push_libraries.Goals as goal

pub loop-index-preserved : goal.loop-index-preserved
loop-index-preserved c = record {
  files = files_more (library c.args.count c.args.generator.now) _ _ _ c.loop-index.index _ c.in_ok-push.ensures.items (made_library c.args.count c.loop-index.index c.args.generator.now c.loop-index.generator _ _ _ _ c.in_ok-library_name.ensures c.in_ok-library_recipe.ensures c.as_slice.ensures.value c.in_ok-words.ensures.words c.loop-index.invariant.generator) c.loop-index.invariant.files;
  generator = turn_more 322 c.loop-index.index c.args.generator.now c.loop-index.generator c.draw.new.generator c.loop-index.invariant.generator c.in_ok-words.ensures.after;
}

pub loop-index-init : goal.loop-index-init
unfolding after
loop-index-init c = record { files = sym (append-nil (seen c.args.files.now.items)); generator = refl }
