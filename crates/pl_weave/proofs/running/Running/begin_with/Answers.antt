use Rattle.std.proofs.Common.{◌≡◌, ◌≢◌, [], refl, sym, subst, rules}
use Rattle.pl_weave.specs.Running.{AreStored, files_in}
use Rattle.pl_weave.proofs.QuietLemmas.{rows_small}
use Rattle.pl_weave.proofs.RunningLemmas.{begins_none, begins_some, idles_same, under_way_of}
use Rattle.pl_weave.proofs.running.Running.begin_with.Goals as goal

-- c.args.rows is a list (Rows has a Model)
pub returns-then-is_empty-clause-begins : goal.returns-then-is_empty-clause-begins
returns-then-is_empty-clause-begins c files idle kept =
    let none : c.args.rows ≡ [] = search rules in
    begins_none files c.args.self.now _ c.args.rows none (idles_same files c.args.self.now _ refl refl refl idle) c.in_ok-push.ensures.ok

pub returns-clause-begins : goal.returns-clause-begins
returns-clause-begins c files idle kept =
    let some : c.args.rows ≢ [] = search rules in
    let stored : AreStored (files_in c.args.self.now.held) = subst AreStored (sym idle.same) idle.stored in
    begins_some files c.args.self.now _ c.args.rows some (under_way_of files (files_in c.args.self.now.held) (files_in c.begin_rows.new.held) c.args.rows _ idle.same (rw c.as_slice.ensures at (c.in_ok-self.ensures (rw c.as_slice.ensures (rows_small c.args.rows c.args.rows kept)) stored))) idle.done refl
