use Rattle.std.proofs.Common.{ℕ, List, [], ◌++◌, take, drop, refl, ap, ◌∙◌}
use Rattle.std.specs.Prelude.{codes, string_bytes}
use Rattle.pl_gen.specs.Lines.{def_lines, relocations}
use Rattle.pl_gen.specs.Set.{library_recipe}
use Rattle.pl_gen.proofs.TextLaws.{then_text, first_text}
use Rattle.pl_gen.proofs.recipes.library_recipe.Goals as goal

pub returns : goal.returns
unfolding library_recipe
returns c =
    first_text _ (codes "library\nhash both\nbuckets 8\n") _ _ c.in_ok-recipe.ensures.ok
    (then_text _ _ _ _ _ _ _ c.in_ok-push_str.ensures.bytes c.as_str.ensures.value c.in_ok-needs_line.ensures
    (then_text _ _ _ _ _ _ _ c.in_ok-push_str-2.ensures.bytes c.as_str-2.ensures.value c.in_ok-needs_line-2.ensures
    (then_text _ _ _ _ _ _ _ c.in_ok-push_str-3.ensures.bytes c.as_str-3.ensures.value c.in_ok-needs_line-3.ensures
    (then_text _ _ _ (codes "data 1000\n") (codes "data 1000\n") _ _ c.in_ok-push_str-4.ensures.bytes refl refl
    (then_text _ _ _ _ _ _ _ c.in_ok-push_defs.ensures (ap (def_lines [] 0) (c.as_slice.ensures.value ∙ c.in_ok-functions.ensures)) refl
    (then_text _ _ _ _ _ _ _ c.in_ok-push_str-5.ensures.bytes c.as_str-4.ensures.value c.in_ok-object_line.ensures
    (c.in_ok-push_relocations.ensures ∙ ap (λ (xs : List ℕ). string_bytes c.push_str-5.new.self ++ relocations xs 0x808 (take 256 (drop 66 c.args.words.now))) c.in_ok-functions.ensures)))))))
