use Rattle.std.proofs.Common.{◌≡◌, ◌<◌, ℕ, Bool, List, Option, None, Some, length, get_or, refl, sym, ap, ◌∙◌}
use Rattle.std.specs.Prelude.{is_some, not}
use Rattle.std.specs.Option.{option_and_then, option_map}
use Rattle.std.proofs.lemmas.Option.{slice_get_read}
use Rattle.pl_cone.specs.Taken.{marked_by}
use Rattle.pl_cone.specs.declared.taken.Taken.{Taken}
use Rattle.pl_cone.proofs.ListLaws.{all_fails, all_more}
use Rattle.pl_form.specs.declared.file.Marked.{Marked}
use Rattle.pl_rewrite.specs.Verify.{is_marked_at}
use Rattle.pl_rewrite.proofs.verifying.are_marked.Goals as goal

same_some : {X Y : Type 0} (f : X → Y) (o : Option X) → is_some (option_map f o) ≡ is_some o
same_some f None = refl
same_some f (Some x) = refl

tested : {X : Type 0} (ts : List Taken) (k : ℕ) (t : Taken) (f : X → Marked) (o : Option X) (b : Bool) → k < length ts → t ≡ get_or ts k t → option_map f o ≡ marked_by t.entry → is_some o ≡ not b → is_marked_at ts k ≡ not b
tested ts k t f o b lt at value is =
    ap (λ (x : Option Taken). is_some (option_and_then (λ (y : Taken). marked_by y.entry) x)) (slice_get_read ts (length ts) k t refl lt at)
    ∙ (ap is_some (sym value) ∙ (same_some f o ∙ is))

pub bounds-files-row : goal.bounds-files-row
bounds-files-row c = c.requires c.loop-row.row-index _ c.loop-row-test.true

pub returns-then-is_none : goal.returns-then-is_none
returns-then-is_none c =
    let one = tested c.args.files.now _ c.index-files-row.result _ c.marked.result c.is_none.result (c.requires c.loop-row.row-index _ c.loop-row-test.true) c.index-files-row.is c.marked.ensures.value c.is_none.ensures in
    sym (all_fails (is_marked_at c.args.files.now) c.args.walk.now c.loop-row.row-index _ _ c.loop-row-test.true (one ∙ ap not c.if-is_none.true) c.loop-row.invariant)

pub loop-row-preserved : goal.loop-row-preserved
loop-row-preserved c =
    let one = tested c.args.files.now _ c.index-files-row.result _ c.marked.result c.is_none.result (c.requires c.loop-row.row-index _ c.loop-row-test.true) c.index-files-row.is c.marked.ensures.value c.is_none.ensures in
    all_more (is_marked_at c.args.files.now) c.args.walk.now c.loop-row.row-index _ _ c.loop-row-test.true (one ∙ ap not c.if-is_none.false) c.loop-row.invariant
