use Rattle.std.proofs.Common.{◌≡◌, ℕ, List, length, get_or, Option, Some, None, refl, sym, ap, ◌∙◌}
use Rattle.std.specs.Prelude.{slice_get}
use Rattle.std.specs.Option.{option_map}
use Rattle.std.proofs.lemmas.List.{append-nil}
use Rattle.std.proofs.lemmas.List.Elements.{All-push}
use Rattle.std.proofs.lemmas.Option.{slice_get_read}
use Rattle.pl_object.specs.declared.object.Object.{Object}
use Rattle.pl_scope.specs.Scope.{walked, IsAccepted}
use Rattle.pl_scope.specs.declared.member.Member.{Member}
use Rattle.pl_scope.proofs.MemberLaws.{walked_push}
use Rattle.pl_cone.specs.Table.{member_of}
use Rattle.pl_cone.specs.Taken.{object_by}
use Rattle.pl_cone.specs.declared.taken.Taken.{Taken}
use Rattle.pl_cone.proofs.ListLaws.{made_more}
use Rattle.pl_cone.proofs.RowLaws.{row_is}
use Rattle.pl_cone.proofs.scopes.scope_of.Goals.{in-Some+in_ok-name+in_ok-push, in_default}
use Rattle.pl_cone.proofs.scopes.scope_of.Goals as goal

-- what is a member of a row's file
is_member : (ts : List Taken) (row : ℕ) (t : Taken) (o : Option Object) → slice_get ts row ≡ Some t → object_by t.entry ≡ o → option_map {U = List ℕ × Object} (λ (p : Object). (t.name, p)) o ≡ member_of (slice_get ts row)
is_member ts row t o at is = sym (ap member_of at ∙ ap (option_map {U = List ℕ × Object} (λ (p : Object). (t.name, p))) is)

pub loop-row-preserved : goal.loop-row-preserved
loop-row-preserved c =
    let ts = c.args.files.now in
    let rows = c.args.rows.now in
    let i : ℕ = c.loop-row.row-index in
    let t : Taken = c.index-files-row.result in
    let at : slice_get ts (get_or rows i 0) ≡ Some t = slice_get_read ts (length ts) (get_or rows i 0) t refl (c.requires.rows.within i 0 c.loop-row-test.true) c.index-files-row.is in
    let h : ℕ → Option (List ℕ × Object) = λ r. member_of (slice_get ts r) in
    elim c.match-object.branch [
      | in-Some+in_ok-name+in_ok-push w ↦ rw w.members-is (record {
        members = made_more h rows i 0 (walked c.loop-row.members.items) (walked w.push.new.self.items) _ (Some (t.name, w.in-Some.object.now)) c.loop-row-test.true (is_member ts (get_or rows i 0) t (Some w.in-Some.object.now) at (sym w.in-Some.ensures))
            (walked_push c.loop-row.members.items w.push.new.self.items _ t.name w.in_ok-push.ensures.items (w.in_ok-name.ensures ∙ w.as_str.ensures)) c.loop-row.invariant.members;
        accepted = rw w.in_ok-push.ensures.items (All-push (λ (m : Member). IsAccepted m.object.now) c.loop-row.members.items _ c.loop-row.invariant.accepted ((row_is c.requires.files.0 ts _ t c.requires.files.1 at).accepted w.in-Some.object.now (sym w.in-Some.ensures)));
      })
      | in_default w ↦ rw w.members-is (record {
        members = made_more h rows i 0 (walked c.loop-row.members.items) (walked c.loop-row.members.items) _ None c.loop-row-test.true (is_member ts (get_or rows i 0) t None at (sym w.in_default.ensures)) (sym (append-nil (walked c.loop-row.members.items))) c.loop-row.invariant.members;
        accepted = c.loop-row.invariant.accepted;
      })
    ]
