use Rattle.std.proofs.Common.{◌≡◌, true, false, Some, None, sym, ap, subst, ◌∙◌, rules, arith}
use Rattle.pl_base.specs.Files.{Files}
use Rattle.pl_base.specs.Names.{is_valid_name}
use Rattle.pl_scope.specs.Walking.{wants}
use Rattle.pl_loader.specs.Loading.{Load, Loading}
use Rattle.pl_loader.specs.Walk.{IsUnderWay}
use Rattle.pl_loader.proofs.LoadLaws.{load_begins, load_goes_on, give_more, wanted_below}
use Rattle.pl_cli.specs.Came.{HasLoaded}
use Rattle.pl_texts.specs.declared.cause.Cause.TheVariants as causes
use Rattle.pl_texts.specs.declared.stop.Stop.TheVariants as stops
use Rattle.pl_cli.specs.Load.{loaded_object, loading_file}
use Rattle.pl_texts.specs.Looks.{takes}
use Rattle.pl_texts.specs.Stops.{of_load_fault}
use Rattle.pl_cli.proofs.LoadLemmas.{bad_name, load_goes, loaded_ends, not_begun_load, stopped_at_file, stopped_in_folder}
use Rattle.pl_texts.proofs.LookLemmas.{all_taken, left_all, left_from, left_none, none_yet}
use Rattle.pl_texts.proofs.StopLemmas.{at_err}
use Rattle.pl_cli.proofs.load.load.Goals as goal

pub returns-then-not-is_valid_name-clause-loaded : goal.returns-then-not-is_valid_name-clause-loaded
returns-then-not-is_valid_name-clause-loaded g c =
    let invalid : is_valid_name c.args.name.now ≡ false = search rules in
    bad_name c.args.asked (g.D.Folder.seen c.args.folder.now) c.args.name.now invalid

pub returns-in_err-loader-clause-loaded : goal.returns-in_err-loader-clause-loaded
returns-in_err-loader-clause-loaded g c =
    let a = g.D.Folder.seen c.args.folder.now in
    at_err (λ r. HasLoaded c.args.asked c.args.name.now r a a) c.from_residual.result stops.NoMemory c.from_residual.ensures.1 (not_begun_load c.args.asked a c.args.name.now)

pub loop-wanted-init : goal.loop-wanted-init
loop-wanted-init g c =
    let a = g.D.Folder.seen c.args.folder.now in
    let object = loaded_object c.args.asked a.files c.args.name.now in
    let begun = ap (λ (l : Load _). l.walk) c.in_ok-loader.ensures.begun in
    record {
      under_way = λ told. subst (λ (l : Loading). IsUnderWay causes.Load (loading_file c.args.asked a.files c.args.name.now) c.args.name.now l) (sym begun) (load_begins causes.Load (loading_file c.args.asked a.files c.args.name.now) c.args.name.now);
      busy = ap (λ (l : Load _). l.busy) c.in_ok-loader.ensures.begun;
      policy = ap (λ (l : Load _). l.policy) c.in_ok-loader.ensures.begun;
      calls = none_yet a (left_from object c.in_ok-loader.loader.walk.order) (takes object c.args.name.now) (ap (λ (l : Loading). left_from object l.order) begun ∙ left_all object c.args.name.now);
    }

pub returns-in_err-file-clause-loaded : goal.returns-in_err-file-clause-loaded
returns-in_err-file-clause-loaded g c =
    let seen = g.D.Folder.seen in
    let a = seen c.args.folder.now in
    let at = c.loop-wanted.invariant in
    let valid : is_valid_name c.args.name.now ≡ true = search rules in
    let is : wants c.loop-wanted.loader.walk.order ≡ Some c.in-Some.wanted.now = sym c.in-Some.ensures.name in
    let below = wanted_below c.loop-wanted.loader.walk.order c.in-Some.wanted.now c.in-Some.ensures.loading.walking is in
    at_err (λ r. HasLoaded c.args.asked c.args.name.now r a (seen c.given.new.folder)) c.from_residual-in_err-file.result c.in_err-file.field-0.0 c.from_residual-in_err-file.ensures.1
    (stopped_in_folder c.args.asked a c.args.name.now valid (g.met.D.Folder.is_folder c.args.folder.now) c.loop-wanted.loader.walk c.in-Some.wanted.now is below at.under_way (seen c.loop-wanted.folder) (seen c.given.new.folder) at.calls c.in_err-file.field-0.0 c.in_err-file.ensures.given)

pub loop-wanted-smaller : goal.loop-wanted-smaller
loop-wanted-smaller g c =
    let is : wants c.loop-wanted.loader.walk.order ≡ Some c.in-Some.wanted.now = sym c.in-Some.ensures.name in
    let more = give_more c.loop-wanted.loader.walk c.give.new.self.walk c.in-Some.wanted.now (Some c.in_ok-file.file) is c.in_ok-give.ensures.ok in
    let below = wanted_below c.loop-wanted.loader.walk.order c.in-Some.wanted.now c.in-Some.ensures.loading.walking is in
    omega arith

pub loop-wanted-preserved : goal.loop-wanted-preserved
loop-wanted-preserved g c =
    let seen = g.D.Folder.seen in
    let a = seen c.args.folder.now in
    let at = c.loop-wanted.invariant in
    let valid : is_valid_name c.args.name.now ≡ true = search rules in
    let is : wants c.loop-wanted.loader.walk.order ≡ Some c.in-Some.wanted.now = sym c.in-Some.ensures.name in
    let below = wanted_below c.loop-wanted.loader.walk.order c.in-Some.wanted.now c.in-Some.ensures.loading.walking is in
    let more = give_more c.loop-wanted.loader.walk c.give.new.self.walk c.in-Some.wanted.now (Some c.in_ok-file.file) is c.in_ok-give.ensures.ok in
    record {
      under_way = λ told. load_goes_on causes.Load (loading_file c.args.asked a.files c.args.name.now) c.args.name.now c.in-Some.wanted.now (Some c.in_ok-file.file) c.loop-wanted.loader.walk c.give.new.self.walk is
          (ap (λ (fs : Files). loading_file c.args.asked fs c.args.name.now c.in-Some.wanted.now) (sym (at.calls.files told)) ∙ c.in_ok-file.ensures.given.means (λ _. at.calls.tells ∙ told)) c.in_ok-give.ensures.ok (at.under_way told);
      busy = ap (λ (l : Load _). l.busy) c.give.ensures.same ∙ at.busy;
      policy = ap (λ (l : Load _). l.policy) c.give.ensures.same ∙ at.policy;
      calls = load_goes c.args.asked a c.args.name.now valid (g.met.D.Folder.is_folder c.args.folder.now) c.loop-wanted.loader.walk c.in-Some.wanted.now is below at.under_way (seen c.loop-wanted.folder) (seen c.given.new.folder) at.calls c.in_ok-file.file
          c.in_ok-file.ensures.given c.give.new.self.walk more c.in_ok-give.ensures.ok;
    }

pub returns-in_err-give-clause-loaded : goal.returns-in_err-give-clause-loaded
returns-in_err-give-clause-loaded g c =
    let seen = g.D.Folder.seen in
    let a = seen c.args.folder.now in
    let at = c.loop-wanted.invariant in
    let valid : is_valid_name c.args.name.now ≡ true = search rules in
    let is : wants c.loop-wanted.loader.walk.order ≡ Some c.in-Some.wanted.now = sym c.in-Some.ensures.name in
    let below = wanted_below c.loop-wanted.loader.walk.order c.in-Some.wanted.now c.in-Some.ensures.loading.walking is in
    at_err (λ r. HasLoaded c.args.asked c.args.name.now r a (seen c.given.new.folder)) c.from_residual-in_err-give.result (of_load_fault c.in_err-give.field-0.0) c.from_residual-in_err-give.ensures.1
    (stopped_at_file c.args.asked a c.args.name.now valid (g.met.D.Folder.is_folder c.args.folder.now) c.loop-wanted.loader.walk c.in-Some.wanted.now is below at.under_way (seen c.loop-wanted.folder) (seen c.given.new.folder) at.calls
    c.in_ok-file.file c.in_ok-file.ensures.given c.in_err-give.field-0.0 c.in_err-give.ensures.err)

pub returns-clause-loaded : goal.returns-clause-loaded
returns-clause-loaded g c =
    let a = g.D.Folder.seen c.args.folder.now in
    let object = loaded_object c.args.asked a.files c.args.name.now in
    let at = c.loop-wanted.invariant in
    let valid : is_valid_name c.args.name.now ≡ true = search rules in
    let none : wants c.loop-wanted.loader.walk.order ≡ None = sym (rw c.in_default.is at c.wants.ensures.name) in
    record {
      means = λ told. loaded_ends c.args.asked a c.args.name.now valid c.loop-wanted.loader.walk none (at.under_way (told valid));
      reads = search rules;
      fails = λ _. valid;
      calls = all_taken (left_from object c.loop-wanted.loader.walk.order) (takes object c.args.name.now) (left_none object c.loop-wanted.loader.walk.order none) at.calls;
    }

pub returns-clause-busy : goal.returns-clause-busy
returns-clause-busy g c = c.loop-wanted.invariant.busy

pub returns-clause-policy : goal.returns-clause-policy
returns-clause-policy g c = c.loop-wanted.invariant.policy
