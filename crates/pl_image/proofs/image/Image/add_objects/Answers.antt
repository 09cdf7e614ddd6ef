use Rattle.std.proofs.Common.{◌≡◌, ◌∙◌, ap, subst, List, length, ◌<◌, ◌≤◌, rules}
use Rattle.pl_base.proofs.ResultLaws.{OnErr-from}
use Rattle.pl_image.specs.declared.loaded_object.LoadedObject.{LoadedObject}
use Rattle.pl_image.specs.Image.{Image, AreLoaded}
use Rattle.pl_image.proofs.ByteLemmas.{item_own, item_pieces}
use Rattle.pl_image.proofs.TextLemmas.{objects_more, objects_stopped, objects_done}
use Rattle.pl_image.proofs.image.Image.add_objects.Goals as goal

pub add_object-requires : goal.add_object-requires
add_object-requires g c =
    let are = subst (λ (i : Image). AreLoaded i.objects) c.self.view_is c.self.invariant.loaded in
    let same : c.deref-object-items.result.now ≡ c.args.self.now.objects = c.deref-object-items.ensures.value ∙ ap (λ (i : Image). i.objects) c.self.view_is in
    item_own c.args.self.now c.deref-object-items.result.now c.loop-object.object-index c.object-item.result c.as_slice.result.now are c.loop-object-test.true same c.object-item.is c.as_slice.ensures

pub returns-in_err-add_object : goal.returns-in_err-add_object
returns-in_err-add_object g c =
    let seen = g.K.Sink.seen in
    let same : c.deref-object-items.result.now ≡ c.args.self.now.objects = c.deref-object-items.ensures.value ∙ ap (λ (i : Image). i.objects) c.self.view_is in record {
      passes = search rules;
      prefix = OnErr-from _ _ (objects_stopped c.args.self.now (seen c.args.sink.now).got (seen c.loop-object.sink).got (seen c.add_object.new.sink).got c.args.lines.now.items c.loop-object.lines.items c.loop-object.lines.items c.loop-object.object-index
          c.object-item.result c.as_slice.result.now (subst (λ (os : List LoadedObject). c.loop-object.object-index < length os) same c.loop-object-test.true)
          (item_pieces c.args.self.now c.deref-object-items.result.now c.loop-object.object-index c.object-item.result c.as_slice.result.now same c.object-item.is c.as_slice.ensures)
          c.loop-object.invariant.passes c.in_err-add_object.ensures.prefix);
      tells = search rules;
      count = search rules;
    }

pub loop-object-preserved : goal.loop-object-preserved
loop-object-preserved g c =
    let seen = g.K.Sink.seen in
    let same : c.deref-object-items.result.now ≡ c.args.self.now.objects = c.deref-object-items.ensures.value ∙ ap (λ (i : Image). i.objects) c.self.view_is in record {
      passes = objects_more c.args.self.now (seen c.args.sink.now).got (seen c.loop-object.sink).got (seen c.add_object.new.sink).got c.args.lines.now.items c.loop-object.lines.items c.add_object.new.lines.items c.loop-object.object-index
          c.object-item.result c.as_slice.result.now (subst (λ (os : List LoadedObject). c.loop-object.object-index < length os) same c.loop-object-test.true)
          (item_pieces c.args.self.now c.deref-object-items.result.now c.loop-object.object-index c.object-item.result c.as_slice.result.now same c.object-item.is c.as_slice.ensures)
          c.loop-object.invariant.passes c.in_ok-add_object.ensures.passes;
      tells = search rules;
      quiet = search rules;
    }

pub returns : goal.returns
returns g c =
    let seen = g.K.Sink.seen in
    let same : c.deref-object-items.result.now ≡ c.args.self.now.objects = c.deref-object-items.ensures.value ∙ ap (λ (i : Image). i.objects) c.self.view_is in record {
      passes = objects_done c.args.self.now (seen c.args.sink.now).got (seen c.args.sink.now).got (seen c.loop-object.sink).got c.args.lines.now.items c.args.lines.now.items c.loop-object.lines.items c.loop-object.object-index
          (subst (λ (os : List LoadedObject). length os ≤ c.loop-object.object-index) same c.loop-object-test.false) c.loop-object.invariant.passes;
      prefix = search rules;
      tells = search rules;
      count = search rules;
    }
