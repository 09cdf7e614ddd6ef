use Rattle.std.proofs.Common.{◌≡◌, List, ap, ◌∙◌, length, arith}
use Rattle.std.proofs.lemmas.List.{take_at}
use Rattle.pl_base.specs.Memory.{Fill, filled, layered, read}
use Rattle.pl_image.specs.Image.{all_pieces}
use Rattle.pl_image.specs.Index.{AreNear}
use Rattle.pl_image.proofs.PatchedLemmas.{read_patched}
use Rattle.pl_image.proofs.patched.Patches.read.Goals as goal

pub returns : goal.returns
returns c =
    let base = layered (all_pieces c.args.objects.now) in
    let patches = c.self.inside.patches.items in
    let long : length c.lay_all.new.bytes ≡ c.in_ok-bytes.bytes.len = omega (arith, c.lay_all.auto.bytes, c.deref_mut.ensures.len, ap length c.deref_mut.ensures.value) in
    let near : AreNear patches c.near-near.result.now c.args.from c.args.size = rw c.deref.ensures.value at c.near-near.ensures in
    let done : c.lay_all.new.bytes ≡ read (filled base patches) c.args.from c.args.size =
    read_patched base patches c.near-near.result.now c.args.from c.args.size c.deref_mut.result.now c.lay_all.new.bytes near (c.deref_mut.ensures.value ∙ c.in_ok-bytes.ensures) (rw c.deref-3.ensures.value at c.lay_all.ensures) in
    take_at c.lay_all.new.bytes _ c.in_ok-bytes.bytes.len long ∙ done ∙ ap (λ (fs : List Fill). read (filled base fs) c.args.from c.args.size) c.self.view_is
