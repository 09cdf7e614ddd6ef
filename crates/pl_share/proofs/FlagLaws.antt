-- Flags of the wants that some walk holds together with one.
use Rattle.std.proofs.Common.{◌≡◌, ℕ, ◌+◌, ◌<◌, Bool, true, false, ◌&&◌, ◌||◌, List, [], length, get_or, take, replicate, refl, sym, ap, subst, ◌∙◌}
use Rattle.std.specs.Prelude.{slice_index_or}
use Rattle.std.specs.List.{list_any}
use Rattle.std.proofs.lemmas.List.{length-replicate, get_or-replicate}
use Rattle.std.proofs.lemmas.List.Folds.{list_any_more}
use Rattle.pl_share.specs.Together.{walk_has, are_together, AreFlags}

or_false : (b : Bool) → (b || false) ≡ b
or_false true = refl
or_false false = refl

or_assoc : (a b c : Bool) → ((a || b) || c) ≡ (a || (b || c))
or_assoc true b c = refl
or_assoc false b c = refl

pub no_walk : (want j : ℕ) → are_together [] want j ≡ false
unfolding are_together
no_walk want j = refl

-- a flag before any walk
pub first_flags : (b : Bool) (want j : ℕ) → b ≡ (b || are_together [] want j)
first_flags b want j = sym (ap (λ (c : Bool). b || c) (no_walk want j) ∙ or_false b)

-- a walk more
pub walk_more : (walks : List (List ℕ)) (k want j : ℕ) (walk item : List ℕ) (before b after : Bool) → k < length walks → walk ≡ item → item ≡ get_or walks k item → b ≡ (before || are_together (take k walks) want j) → after ≡ (b || (walk_has walk want && walk_has walk j))
    → after ≡ (before || are_together (take (k + 1) walks) want j)
unfolding are_together
walk_more walks k want j walk item before b after lt same is so_far flagged =
    flagged ∙ (ap (λ (z : Bool). z || (walk_has walk want && walk_has walk j)) so_far
    ∙ (or_assoc before (list_any (λ w. walk_has w want && walk_has w j) (take k walks)) (walk_has walk want && walk_has walk j)
    ∙ ap (λ (z : Bool). before || z) (ap (λ (w : List ℕ). list_any (λ v. walk_has v want && walk_has v j) (take k walks) || (walk_has w want && walk_has w j)) (same ∙ is) ∙ sym (list_any_more (λ w. walk_has w want && walk_has w j) walks k item lt))))

-- flags of no want, and then of those of all walks
pub all_flags : (walks : List (List ℕ)) (want count : ℕ) (flags after : List Bool) → flags ≡ replicate count false → length after ≡ length flags → ((j : ℕ) → j < length flags → slice_index_or after j false ≡ (slice_index_or flags j false || are_together walks want j)) → AreFlags after walks want count
all_flags walks want count flags after is long each =
    let size : length flags ≡ count = ap length is ∙ length-replicate count false in
    record {
      long = long ∙ size;
      each = λ j lt. each j (subst (λ (n : ℕ). j < n) (sym size) lt) ∙ ap (λ (b : Bool). b || are_together walks want j) (ap (λ (z : List Bool). slice_index_or z j false) is ∙ get_or-replicate count j false false lt);
    }
