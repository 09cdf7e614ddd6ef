use Rattle.std.proofs.Common.{ℕ, List, [], ◌++◌, take, drop, refl, ap, ◌∙◌}
use Rattle.std.specs.Prelude.{codes, string_bytes}
use Rattle.pl_gen.specs.Lines.{needs_lines, relocations}
use Rattle.pl_gen.specs.Set.{program_recipe}
use Rattle.pl_gen.proofs.TextLaws.{then_text, first_text}
use Rattle.pl_gen.proofs.recipes.program_recipe.Goals as goal

pub returns : goal.returns
unfolding program_recipe
returns c =
    first_text _ (codes "program\nhash gnu\nbuckets 8\n") _ _ c.in_ok-recipe.ensures.ok
    (then_text _ _ _ _ _ _ _ c.in_ok-push_needs.ensures (ap (needs_lines []) (c.as_slice.ensures.value ∙ c.in_ok-needed.ensures)) refl
    (then_text _ _ _ (codes "data 800\n") (codes "data 800\n") _ _ c.in_ok-push_str.ensures.bytes refl refl
    (then_text _ _ _ _ _ _ _ c.in_ok-push_relocations.ensures (ap (λ (xs : List ℕ). relocations xs 0 (take 128 (drop 3 c.args.words.now))) c.new.ensures.items) refl
    (then_text _ _ _ (codes "bss 8\n") (codes "bss 8\n") _ _ c.in_ok-push_str-2.ensures.bytes refl refl
    (then_text _ _ _ _ _ _ _ c.in_ok-push_str-3.ensures.bytes c.as_str.ensures.value c.in_ok-object_line.ensures
    (c.in_ok-push_str-4.ensures.bytes ∙ ap (λ (z : List ℕ). string_bytes c.push_str-3.new.self ++ z) (c.as_str-2.ensures.value ∙ c.in_ok-copy_line.ensures)))))))
