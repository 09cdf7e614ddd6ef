use Rattle.std.proofs.Common.{None, sym, ap, ◌∙◌}
use Rattle.std.proofs.lemmas.Result.{on_ok_weaker}
use Rattle.std.specs.FinMap.{contains_key, insert}
use Rattle.pl_folder.specs.Entries.{name_bytes}
use Rattle.pl_folder.specs.Replaying.{bound_by, changes_of}
use Rattle.pl_folder.specs.Tables.{table_files}
use Rattle.pl_folder.proofs.ReplayLemmas.{adds_file, adds_none, adds_nothing}
use Rattle.pl_folder.proofs.replay.Replay.add_to.Goals as goal

pub returns-then-has : goal.returns-then-has
returns-then-has c = adds_none c.args.self.now (name_bytes c.args.name.now) (table_files c.args.table.now)
    (sym (c.has.ensures ∙ ap (contains_key (table_files c.args.table.now)) c.as_str.ensures.value) ∙ c.if-has.true)

pub returns-in_default : goal.returns-in_default
returns-in_default c = adds_nothing c.args.self.now (name_bytes c.args.name.now) (table_files c.args.table.now)
    (sym (c.bound.ensures ∙ ap (λ cs. bound_by (changes_of cs) (name_bytes c.args.name.now) None) c.deref.ensures.value) ∙ c.in_default.is)

pub returns : goal.returns
returns c = on_ok_weaker c.add.result
    (λ is. adds_file c.args.self.now (name_bytes c.args.name.now) (table_files c.args.table.now) c.in-Some.file (table_files c.add.new.self)
    (sym (c.has.ensures ∙ ap (contains_key (table_files c.args.table.now)) c.as_str.ensures.value) ∙ c.if-has.false)
    (sym (c.bound.ensures ∙ ap (λ cs. bound_by (changes_of cs) (name_bytes c.args.name.now) None) c.deref.ensures.value) ∙ c.in-Some.is)
    (is ∙ (λ i. insert (table_files c.args.table.now) (c.as_str-2.ensures.value i) (c.bytes.ensures i))))
    c.add.ensures.ok
