use Rattle.std.proofs.Common.{◌∙◌, ℕ, List, [], ◌∷◌, ◌++◌, ap, get_or, map, refl, sym}
use Rattle.std.proofs.lemmas.List.{append-nil, take_all}
use Rattle.pl_object.specs.Relocations.{packed_reloc, packed_relocs}
use Rattle.pl_object.specs.declared.reloc.Reloc.{Reloc}
use Rattle.pl_object.proofs.PackedLaws.{packed_more}
use Rattle.pl_object.proofs.relocations.add_packed.Goals as goal

pub loop-address-init : goal.loop-address-init
loop-address-init c = c.reserve.ensures.items ∙ sym (append-nil c.args.relocs.now.items)

pub loop-address-preserved : goal.loop-address-preserved
loop-address-preserved c =
    let front = c.loop-address.relocs.items in
    packed_more (packed_reloc c.args.bytes.now c.args.loads.now) c.args.relocs.now.items front c.push.new.self.items c.args.addresses.now c.loop-address.address-index (get_or c.args.addresses.now c.loop-address.address-index 0) 0 c.loop-address-test.true refl
    (c.in_ok-push.ensures.items ∙ ap (λ (r : Reloc). front ++ r ∷ []) c.packed_reloc.ensures) c.loop-address.invariant

pub returns : goal.returns
unfolding packed_relocs
returns c =
    c.loop-address.invariant
    ∙ ap (λ (xs : List ℕ). c.args.relocs.now.items ++ map (packed_reloc c.args.bytes.now c.args.loads.now) xs) (take_all c.loop-address.address-index c.args.addresses.now c.loop-address-test.false)
