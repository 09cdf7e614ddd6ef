use Rattle.std.proofs.Common.{◌≡◌, false, rules, subst, sym, true, ◌∙◌}
use Rattle.std.specs.Prelude.{IfOk}
use Rattle.pl_base.specs.Names.{is_valid_name}
use Rattle.pl_base.proofs.NameLaws.{valid_length}
use Rattle.pl_folder.specs.InMemory.{quiet_files}
use Rattle.pl_demo.specs.declared.counting.Counts.{Counts}
use Rattle.pl_demo.proofs.CountingLemmas.{invalid_counts, valid_counts}
use Rattle.pl_demo.proofs.counting.counts_of.Goals as goal

pub returns-then-not-is_valid_name-clause-counts : goal.returns-then-not-is_valid_name-clause-counts
returns-then-not-is_valid_name-clause-counts c =
    let invalid : is_valid_name c.args.name.now ≡ false = search rules in
    c.none.ensures ∙ sym (invalid_counts (quiet_files c.args.folder.now) c.args.name.now invalid)

pub counts_at-requires : goal.counts_at-requires
counts_at-requires c =
    let valid : is_valid_name c.args.name.now ≡ true = search rules in
    valid_length c.args.name.now valid

pub returns-clause-counts : goal.returns-clause-counts
returns-clause-counts c =
    let valid : is_valid_name c.args.name.now ≡ true = search rules in
    subst (λ (m : Counts). IfOk c.counts_at.result (λ (k : Counts). k ≡ m)) (sym (valid_counts (quiet_files c.args.folder.now) c.args.name.now valid)) c.counts_at.ensures.counts
