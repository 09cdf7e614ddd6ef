use Rattle.std.proofs.Common.{Result, Ok, Err, subst, arith}
use Rattle.std.specs.Prelude.{IfOk}
use Rattle.std.proofs.lemmas.Result.{IfOk-weaker}
use Rattle.pl_cone.specs.Taken.{HasItsEntry}
use Rattle.pl_image.proofs.PlacedLaws.{alone}
use Rattle.pl_rewrite.proofs.DigestLaws.{numbered_read, read_item}
use Rattle.pl_rewrite.proofs.PlaceLaws.{loaded_none, loaded_some, placed_object}
use Rattle.pl_rewrite.proofs.RowTestLaws.{column_at, file_or}
use Rattle.pl_rewrite.proofs.copies.loaded_at.Goals as goal

both : {T E : Type 0} (r : Result T E) (P Q R : T → Type 0) → ((x : T) → P x → Q x → R x) → IfOk r P → IfOk r Q → IfOk r R
both (Ok x) P Q R join p q = join x p q
both (Err e) P Q R join p q = tt

pub returns-in_default-clause-value : goal.returns-in_default-clause-value
returns-in_default-clause-value c = loaded_none c.args.numbered.now c.args.row _ c.loads_nothing.result (file_or c.args.numbered.now c.args.row c.index-numbered-row.result c.requires.row) c.in_default.ensures

pub original-requires : goal.original-requires
original-requires c = subst HasItsEntry c.index-numbered-row.is (read_item c.args.numbered.now.files.now c.args.row c.index-numbered-row.result (numbered_read c.args.numbered.now c.requires.numbered) c.requires.row c.index-numbered-row.is)

pub load_object-requires : goal.load_object-requires
load_object-requires c =
    placed_object c.args.numbered.now c.args.row _ c.in-Some.object.now _ c.requires.placed (file_or c.args.numbered.now c.args.row c.index-numbered-row.result c.requires.row) c.in-Some.ensures (column_at c.args.numbered.now.places.now c.args.row _ (omega (arith, c.requires.row, c.requires.numbered.places)))

pub returns-clause-value : goal.returns-clause-value
returns-clause-value c =
    IfOk-weaker c.load_object.result _ _
    (λ loaded is. loaded_some c.args.numbered.now c.args.row _ c.in-Some.object.now c.original.result.now _ loaded (file_or c.args.numbered.now c.args.row c.index-numbered-row.result c.requires.row) c.in-Some.ensures c.original.ensures (column_at c.args.numbered.now.places.now c.args.row _ (omega (arith, c.requires.row, c.requires.numbered.places))) is)
    c.load_object.ensures.value

pub returns-clause-loaded : goal.returns-clause-loaded
returns-clause-loaded c = both c.load_object.result _ _ _ (λ loaded ascends fits. alone loaded ascends fits) c.load_object.ensures.ascends c.load_object.ensures.fits
