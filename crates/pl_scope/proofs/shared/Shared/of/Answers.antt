use Rattle.std.proofs.Common.{◌≡◌, ◌∙◌, Bool, List, length, ap, sym, subst}
use Rattle.pl_scope.specs.Shared.{AreShared}
use Rattle.pl_scope.proofs.SharedLaws.{put_whole, shared_by}
use Rattle.pl_scope.proofs.shared.Shared.of.Goals as goal

pub returns : goal.returns
returns c =
    let held : length c.deref_mut.result.now ≡ 32768 = ap length (c.deref_mut.ensures.value ∙ c.in_ok-flags.ensures.items_if_clones_equal (λ b is. is)) in
    let long : length c.note_all.new.flags ≡ 32768 = c.note_all.ensures.long ∙ held in
    subst (λ (flags : List Bool). AreShared c.args.entries.now flags) (sym (put_whole c.note_all.new.flags c.in_ok-flags.flags.items c.in_ok-flags.flags.len (long ∙ sym c.in_ok-flags.ensures.len)))
    (shared_by c.args.entries.now c.note_all.new.flags long c.requires c.note_all.ensures.noted)
