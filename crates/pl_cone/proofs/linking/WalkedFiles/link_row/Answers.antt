use Rattle.std.proofs.Common.{◌<◌, length, Option, refl, sym, ap, ◌∙◌, arith}
use Rattle.std.specs.Prelude.{slice_set}
use Rattle.pl_cone.specs.declared.skip.Skip.{Skip}
use Rattle.pl_cone.proofs.LinkedLaws.{cause_read, none_read}
use Rattle.pl_cone.proofs.LinkingLaws.{cause_put, link_put, row_walk, skip_put}
use Rattle.pl_cone.proofs.linking.WalkedFiles.link_row.Goals as goal

pub returns-then-is_some : goal.returns-then-is_some
returns-then-is_some c =
    let lt : c.args.row < length c.args.linked.now.causes.items = omega (arith, c.requires.within, c.requires.sized.causes) in
    let p = cause_read c.args.linked.now c.args.row c.index.result.now lt c.index.ensures (sym c.is_some.ensures ∙ c.if-is_some.true) in
    cause_put c.args.self.now c.args.linked.now c.args.row p.0 c.requires p.1

pub link_of-requires : goal.link_of-requires
link_of-requires c =
    let lt : c.args.row < length c.args.linked.now.causes.items = omega (arith, c.requires.within, c.requires.sized.causes) in
    let none = none_read c.args.linked.now c.args.row c.index.result.now lt c.index.ensures (sym c.is_some.ensures ∙ c.if-is_some.false) in
    record {
      walked = c.requires.walked;
      row = row_walk c.args.self.now c.args.linked.now c.args.row c.requires.walked c.requires.unlinked c.requires.within none;
      sized = rw c.deref.ensures.value c.requires.sized.links;
      libraries = rw c.deref.ensures.value c.requires.libraries;
    }

pub returns-in-Ok : goal.returns-in-Ok
returns-in-Ok c =
    let w = c.args.self.now in
    let lt : c.args.row < length c.args.linked.now.causes.items = omega (arith, c.requires.within, c.requires.sized.causes) in
    let none = none_read c.args.linked.now c.args.row c.index.result.now lt c.index.ensures (sym c.is_some.ensures ∙ c.if-is_some.false) in
    let h = row_walk w c.args.linked.now c.args.row c.requires.walked c.requires.unlinked c.requires.within none in
    link_put w c.args.linked.now _ c.args.row c.in-Ok.link c.requires none h c.in-Ok.ensures refl refl

pub returns-in_ok-put_cause-in-Err : goal.returns-in_ok-put_cause-in-Err
returns-in_ok-put_cause-in-Err c =
    let w = c.args.self.now in
    let lt : c.args.row < length c.args.linked.now.causes.items = omega (arith, c.requires.within, c.requires.sized.causes) in
    let none = none_read c.args.linked.now c.args.row c.index.result.now lt c.index.ensures (sym c.is_some.ensures ∙ c.if-is_some.false) in
    let h = row_walk w c.args.linked.now c.args.row c.requires.walked c.requires.unlinked c.requires.within none in
    skip_put w c.args.linked.now _ c.args.row c.in-Err.skip c.requires h c.in-Err.ensures c.in_ok-put_cause-in-Err.ensures.told refl
    (ap (λ (cause : Option Skip). slice_set c.args.linked.now.causes.items c.args.row cause) c.in_ok-put_cause-in-Err.ensures.put)
