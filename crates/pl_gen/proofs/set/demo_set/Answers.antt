use Rattle.std.proofs.Common.{List, ◌+◌, ◌%◌, ◌++◌, refl, ap, ◌∙◌, map, get_or}
use Rattle.std.specs.List.{range_with_len}
use Rattle.pl_gen.specs.declared.set.DemoFile.{DemoFile}
use Rattle.pl_gen.specs.Set.{seen, library}
use Rattle.pl_gen.proofs.SetLaws.{whole}
use Rattle.pl_gen.proofs.set.demo_set.Goals as goal

pub returns : goal.returns
returns c =
    whole c.args.number _ _ c.seeded-generator.result c.draw.new.generator c.push_libraries.new.generator c.as_slice-words.result.now _ _ c.seeded-generator.ensures (c.as_slice-words.ensures.value ∙ c.in_ok-head.ensures.words) c.in_ok-head.ensures.after
    refl refl
    (c.in_ok-push_libraries.ensures.files ∙ ap (λ (fs : List DemoFile). seen fs ++ map (library (8 + get_or c.as_slice-words.result.now 0 0 % 57) c.draw.new.generator) (range_with_len 0 (8 + get_or c.as_slice-words.result.now 0 0 % 57))) c.new-files.ensures.items)
    c.in_ok-push_libraries.ensures.generator c.in_ok-push_programs.ensures
