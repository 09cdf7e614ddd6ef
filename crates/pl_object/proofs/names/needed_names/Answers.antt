use Rattle.std.proofs.Common.{◌∙◌, refl, sym}
use Rattle.std.proofs.lemmas.Result.{err_from_is_err_and}
use Rattle.std.specs.Prelude.{filter}
use Rattle.pl_base.specs.Each.{each}
use Rattle.pl_base.proofs.EachLaws.{front_nothing}
use Rattle.pl_dyn.specs.Read.{has_number}
use Rattle.pl_dyn.specs.declared.constants.TheConstants.{DT_NEEDED}
use Rattle.pl_object.specs.Names.{needed, needed_name}
use Rattle.pl_object.specs.Refusals.{is_memory}
use Rattle.pl_object.proofs.NamesReadLaws.{kept_done, kept_fails, kept_more, kept_past, none_read}
use Rattle.pl_object.proofs.names.needed_names.Goals.{then-is_needed+in_ok-name+in_ok-push, else-is_needed}
use Rattle.pl_object.proofs.names.needed_names.Goals as goal

pub loop-tag-init : goal.loop-tag-init
loop-tag-init c = record {
  rest = rw (c.from_vec-names.ensures, c.in_ok-with_capacity.ensures.items) (front_nothing (each (needed_name c.args.strings.now) (filter (has_number DT_NEEDED) c.args.tags.now)));
  read = none_read c.args.strings.now c.new-read.result c.new-read.ensures;
}

pub name_at-requires : goal.name_at-requires
name_at-requires c = c.loop-tag.invariant.read

pub returns-in_err-name : goal.returns-in_err-name
unfolding needed
returns-in_err-name c =
    let f = needed_name c.args.strings.now in
    let tags = c.args.tags.now in
    let p = err_from_is_err_and c.from_residual-in_err-name.result c.from_residual-in_err-name.ensures.1 in
    rw (p.1, p.2) (
    kept_fails f (has_number DT_NEEDED) tags c.loop-tag.tag-index _ _ c.loop-tag.names (each f (filter (has_number DT_NEEDED) tags)) c.loop-tag-test.true refl c.loop-tag.invariant.rest
    is_memory _ (sym c.is_needed.ensures ∙ c.if-is_needed.true) c.in_err-name.ensures.name
    )

pub loop-tag-preserved : goal.loop-tag-preserved
loop-tag-preserved c =
    let f = needed_name c.args.strings.now in
    let tags = c.args.tags.now in
    let i = c.loop-tag.tag-index in
    let front = c.loop-tag.names in
    let whole = each f (filter (has_number DT_NEEDED) tags) in
    let rest = c.loop-tag.invariant.rest in
    elim c.if-is_needed.branch [
      | then-is_needed+in_ok-name+in_ok-push w ↦
          rw (w.names-is, w.read-is) (record {
            rest = rw w.in_ok-push.ensures.ok (kept_more f (has_number DT_NEEDED) tags i _ _ front whole c.loop-tag-test.true refl rest _ (sym c.is_needed.ensures ∙ w.if-is_needed.true) w.in_ok-name.ensures.name);
            read = w.in_ok-name.ensures.read;
          })
      | else-is_needed w ↦
          rw (w.names-is, w.read-is) (record {
            rest = kept_past f (has_number DT_NEEDED) tags i _ _ front whole c.loop-tag-test.true refl rest (sym c.is_needed.ensures ∙ w.if-is_needed.false);
            read = c.loop-tag.invariant.read;
          })
    ]

pub returns : goal.returns
unfolding needed
returns c =
    let f = needed_name c.args.strings.now in
    let tags = c.args.tags.now in
    kept_done f (has_number DT_NEEDED) tags c.loop-tag.tag-index c.loop-tag.names (each f (filter (has_number DT_NEEDED) tags)) c.loop-tag-test.false c.loop-tag.invariant.rest
