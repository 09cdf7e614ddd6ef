use Rattle.std.proofs.Common.{◌∙◌, List, subst}
use Rattle.pl_scope.specs.Shared.{AreShared}
use Rattle.pl_scope.specs.declared.index.Entry.{Entry}
use Rattle.pl_scope.proofs.FolderLaws.{folder_index, sorted_in_order}
use Rattle.pl_scope.proofs.folder.Index.of.Goals as goal

pub of-requires : goal.of-requires
of-requires c =
    sorted_in_order c.in_ok-entries.entries.items c.sort_by_hash.new.entries.items c.deref-2.result.now c.in_ok-entries.ensures.hashes c.sort_by_hash.ensures.same c.sort_by_hash.ensures.rising (c.deref-2.ensures.value ∙ c.shrink_to_fit.ensures.items)

pub invariant_of-result : goal.invariant_of-result
invariant_of-result c = record {
  order = sorted_in_order c.in_ok-entries.entries.items c.sort_by_hash.new.entries.items c.shrink_to_fit.new.self.items c.in_ok-entries.ensures.hashes c.sort_by_hash.ensures.same c.sort_by_hash.ensures.rising c.shrink_to_fit.ensures.items;
  shared = subst (λ (es : List Entry). AreShared es c.in_ok-shared.shared.flags.items) c.deref-2.ensures.value c.in_ok-shared.ensures;
}

pub returns : goal.returns
returns c =
    folder_index _ c.in_ok-entries.entries.items c.sort_by_hash.new.entries.items c.shrink_to_fit.new.self.items c.in_ok-entries.ensures.all c.sort_by_hash.ensures.same c.shrink_to_fit.ensures.items
