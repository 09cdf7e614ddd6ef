use Rattle.std.proofs.Common.{◌≡◌, List, [], true, false, Some, None, sym, ap, subst, ◌∙◌, rules, arith}
use Rattle.std.specs.List.{All}
use Rattle.std.proofs.lemmas.List.Elements.{All-nil, All-push}
use Rattle.pl_base.specs.Names.{is_valid_name}
use Rattle.pl_scope.specs.Scope.{IsAccepted}
use Rattle.pl_scope.specs.Walk.{IsUnderWay, Walked, begun}
use Rattle.pl_scope.specs.Walking.{Walking, wants}
use Rattle.pl_scope.proofs.WalkLaws.{give_given, walk_begins}
use Rattle.pl_loader.proofs.LoadLaws.{wanted_below}
use Rattle.pl_loader.specs.Faults.{of_walk}
use Rattle.pl_loader.specs.Walk.{walk_fault}
use Rattle.pl_texts.specs.Finds.{HasWalked}
use Rattle.pl_texts.specs.Looks.{takes}
use Rattle.pl_texts.specs.Order.{members_of, object_in}
use Rattle.pl_texts.specs.Stops.{of_load_fault}
use Rattle.pl_texts.specs.declared.cause.Cause.TheVariants as causes
use Rattle.pl_texts.specs.declared.named_object.NamedObject.{NamedObject}
use Rattle.pl_texts.specs.declared.stop.Stop.TheVariants as stops
use Rattle.pl_texts.proofs.LookLemmas.{all_taken, left_all, left_from, left_none, none_yet}
use Rattle.pl_texts.proofs.MemberLemmas as members
use Rattle.pl_texts.proofs.OrderLemmas.{Way, bad_name, lacked_here, members_count, members_push, not_begun_walk, stopped_at_object, stopped_in_folder, walk_goes, walked_ends, walks_on}
use Rattle.pl_texts.proofs.StopLemmas.{at_err}
use Rattle.pl_texts.proofs.walk.walk.Goals as goal

pub returns-then-not-is_valid_name-clause-walked : goal.returns-then-not-is_valid_name-clause-walked
returns-then-not-is_valid_name-clause-walked g c =
    let invalid : is_valid_name c.args.name.now ≡ false = search rules in
    bad_name (g.D.Folder.seen c.args.folder.now) c.args.name.now invalid

pub returns-in_err-order-clause-walked : goal.returns-in_err-order-clause-walked
returns-in_err-order-clause-walked g c =
    let a = g.D.Folder.seen c.args.folder.now in
    at_err (λ r. HasWalked c.args.name.now r a a) c.from_residual.result stops.NoMemory c.from_residual.ensures.1 (not_begun_walk a c.args.name.now)

pub loop-wanted-init : goal.loop-wanted-init
loop-wanted-init g c =
    let a = g.D.Folder.seen c.args.folder.now in
    let name = c.args.name.now in
    let object = object_in a.files in
    let begins : c.in_ok-order.order ≡ begun name = c.in_ok-order.ensures.begun in
    let none : c.new-members.result.items ≡ [] = search rules in
    record {
      way = λ told. subst (λ (ms : List NamedObject). IsUnderWay (walk_fault causes.Load) object name (members_of ms) c.in_ok-order.order) (sym none)
          (subst (λ (w : Walking). IsUnderWay (walk_fault causes.Load) object name [] w) (sym begins) (walk_begins (walk_fault causes.Load) object name));
      walks = subst (λ (ms : List NamedObject). members.Walks name (members_of ms) c.in_ok-order.order) (sym none) (subst (λ (w : Walking). members.Walks name [] w) (sym begins) (members.walks_begin name));
      accepted = subst (All (λ (m : NamedObject). IsAccepted m.object)) (sym none) (All-nil (λ (m : NamedObject). IsAccepted m.object));
      calls = none_yet a (left_from object c.in_ok-order.order) (takes object name) (ap (λ (w : Walking). left_from object w) begins ∙ left_all object name);
    }

pub returns-in_err-member-clause-walked : goal.returns-in_err-member-clause-walked
returns-in_err-member-clause-walked g c =
    let seen = g.D.Folder.seen in
    let a = seen c.args.folder.now in
    let at = c.loop-wanted.invariant in
    let valid : is_valid_name c.args.name.now ≡ true = search rules in
    let is : wants c.loop-wanted.order ≡ Some c.in-Some.wanted.now = sym c.in-Some.ensures.name in
    let below = wanted_below c.loop-wanted.order c.in-Some.wanted.now c.in-Some.ensures.walking is in
    let stop = c.in_err-member.field-0.0 in
    at_err (λ r. HasWalked c.args.name.now r a (seen c.named_object.new.folder)) c.from_residual-in_err-member.result stop c.from_residual-in_err-member.ensures.1
    (stopped_in_folder a c.args.name.now valid (g.met.D.Folder.is_folder c.args.folder.now) (members_of c.loop-wanted.members.items) c.loop-wanted.order c.in-Some.wanted.now is below at.way (seen c.loop-wanted.folder) (seen c.named_object.new.folder) at.calls
    stop c.in_err-member.ensures.object)

pub returns-in_err-give-clause-walked : goal.returns-in_err-give-clause-walked
returns-in_err-give-clause-walked g c =
    let seen = g.D.Folder.seen in
    let a = seen c.args.folder.now in
    let at = c.loop-wanted.invariant in
    let valid : is_valid_name c.args.name.now ≡ true = search rules in
    let is : wants c.loop-wanted.order ≡ Some c.in-Some.wanted.now = sym c.in-Some.ensures.name in
    let below = wanted_below c.loop-wanted.order c.in-Some.wanted.now c.in-Some.ensures.walking is in
    at_err (λ r. HasWalked c.args.name.now r a (seen c.named_object.new.folder)) c.from_residual-in_err-give.result (of_load_fault (of_walk c.in_err-give.field-0.0)) c.from_residual-in_err-give.ensures.1
    (stopped_at_object a c.args.name.now valid (g.met.D.Folder.is_folder c.args.folder.now) (members_of c.loop-wanted.members.items) c.loop-wanted.order c.in-Some.wanted.now is below at.way (seen c.loop-wanted.folder) (seen c.named_object.new.folder) at.calls
    c.in_ok-member.member c.in_ok-member.ensures.object c.in_err-give.field-0.0 c.in_err-give.ensures.err)

pub returns-in_err-push-clause-walked : goal.returns-in_err-push-clause-walked
returns-in_err-push-clause-walked g c =
    let seen = g.D.Folder.seen in
    let a = seen c.args.folder.now in
    let at = c.loop-wanted.invariant in
    let valid : is_valid_name c.args.name.now ≡ true = search rules in
    let is : wants c.loop-wanted.order ≡ Some c.in-Some.wanted.now = sym c.in-Some.ensures.name in
    let below = wanted_below c.loop-wanted.order c.in-Some.wanted.now c.in-Some.ensures.walking is in
    at_err (λ r. HasWalked c.args.name.now r a (seen c.named_object.new.folder)) c.from_residual-in_err-push.result stops.NoMemory c.from_residual-in_err-push.ensures.1
    (lacked_here a c.args.name.now valid (g.met.D.Folder.is_folder c.args.folder.now) (members_of c.loop-wanted.members.items) c.loop-wanted.order c.in-Some.wanted.now is below at.way (seen c.loop-wanted.folder) (seen c.named_object.new.folder) at.calls
    c.in_ok-member.member c.in_ok-member.ensures.object)

pub loop-wanted-smaller : goal.loop-wanted-smaller
loop-wanted-smaller g c =
    let is : wants c.loop-wanted.order ≡ Some c.in-Some.wanted.now = sym c.in-Some.ensures.name in
    let more = give_given c.loop-wanted.order c.give.new.self c.in-Some.wanted.now c.in_ok-member.member.object is c.in_ok-give.ensures.ok in
    let below = wanted_below c.loop-wanted.order c.in-Some.wanted.now c.in-Some.ensures.walking is in
    omega arith

pub loop-wanted-preserved : goal.loop-wanted-preserved
loop-wanted-preserved g c =
    let seen = g.D.Folder.seen in
    let a = seen c.args.folder.now in
    let name = c.args.name.now in
    let at = c.loop-wanted.invariant in
    let w = c.loop-wanted.order in
    let n = c.in-Some.wanted.now in
    let ms = c.loop-wanted.members.items in
    let m = c.in_ok-member.member in
    let valid : is_valid_name name ≡ true = search rules in
    let is : wants w ≡ Some n = sym c.in-Some.ensures.name in
    let walking = c.in-Some.ensures.walking in
    let below = wanted_below w n walking is in
    let folder = g.met.D.Folder.is_folder c.args.folder.now in
    let went = c.in_ok-give.ensures.ok in
    let pushed = ap members_of c.in_ok-push.ensures.items ∙ members_push ms m n c.in_ok-member.ensures.name in
    record {
      way = subst (λ (ws : Walked). Way a name ws c.give.new.self) (sym pushed) (walks_on a name valid folder (members_of ms) w n is below at.way (seen c.loop-wanted.folder) (seen c.named_object.new.folder) at.calls m c.in_ok-member.ensures.object c.give.new.self went);
      walks = subst (λ (ws : Walked). members.Walks name ws c.give.new.self) (sym pushed) (members.walks_on name (members_of ms) w c.give.new.self n m.object walking is went at.walks);
      accepted = subst (All (λ (x : NamedObject). IsAccepted x.object)) (sym c.in_ok-push.ensures.items) (All-push (λ (x : NamedObject). IsAccepted x.object) ms m at.accepted c.in_ok-member.ensures.accepted);
      calls = walk_goes a name valid folder (members_of ms) w n is below at.way (seen c.loop-wanted.folder) (seen c.named_object.new.folder) at.calls m c.in_ok-member.ensures.object c.give.new.self went;
    }

pub returns-clause-walked : goal.returns-clause-walked
returns-clause-walked g c =
    let a = g.D.Folder.seen c.args.folder.now in
    let object = object_in a.files in
    let at = c.loop-wanted.invariant in
    let w = c.loop-wanted.order in
    let valid : is_valid_name c.args.name.now ≡ true = search rules in
    let none : wants w ≡ None = sym (rw c.in_default.is at c.wants.ensures.name) in
    record {
      means = λ told. walked_ends a c.args.name.now valid (members_of c.loop-wanted.members.items) w none (at.way (told valid));
      reads = search rules;
      fails = λ _. valid;
      calls = all_taken (left_from object w) (takes object c.args.name.now) (left_none object w none) at.calls;
    }

pub returns-clause-members : goal.returns-clause-members
returns-clause-members g c =
    let at = c.loop-wanted.invariant in
    let w = c.loop-wanted.order in
    let ms = c.loop-wanted.members.items in
    let none : wants w ≡ None = sym (rw c.in_default.is at c.wants.ensures.name) in
    let few = members.walks_few c.args.name.now (members_of ms) w at.walks c.wants.ensures.walking in
    record {
      few = omega (arith, few, members_count ms);
      accepted = at.accepted;
      walk = members.walks_end c.args.name.now (members_of ms) w at.walks none;
    }
