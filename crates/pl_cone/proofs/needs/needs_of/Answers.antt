use Rattle.std.proofs.Common.{◌∙◌, ap, ℕ, List, arith}
use Rattle.std.specs.Borrow.{Bor}
use Rattle.std.specs.Option.{option_map}
use Rattle.std.specs.Prelude.{slice_get}
use Rattle.std.proofs.lemmas.List.{length-map}
use Rattle.std.proofs.lemmas.Option.{slice_get-map}
use Rattle.pl_cone.specs.Needs.{words}
use Rattle.pl_cone.specs.declared.taken.Taken.{Taken}
use Rattle.pl_cone.proofs.NeedLaws.{numbers_once}
use Rattle.pl_cone.proofs.needs.needs_of.Goals as goal

pub returns-clause-needs : goal.returns-clause-needs
returns-clause-needs c =
    let after = c.all_needed.new.self in
    let names = after.names.items in
    let few = c.in_ok-needed.ensures.goes_on.is.few in
    let long = length-map names (λ (x : Bor (List ℕ)). x.now) in
    record {
      few = omega (arith, few, long);
      once = numbers_once after.numbers (words names) c.in_ok-needed.ensures.goes_on.is.numbers;
      files = λ row t at.
          c.in_ok-needed.ensures.goes_on.keep row t.name
          (ap (λ (ns : List (List ℕ)). slice_get ns row) c.in_ok-number_files.ensures.names ∙ slice_get-map (λ (x : Taken). x.name) c.args.files.now row ∙ ap (option_map (λ (x : Taken). x.name)) at);
      needed = c.in_ok-needed.ensures.told;
    }
