-- The columns of links and causes, row by row.
use Rattle.std.proofs.Common.{◌≡◌, ◌≢◌, ℕ, ◌<◌, Bool, true, false, List, length, Option, Some, None, Result, Ok, Err, refl, sym, ap, subst, ◌∙◌, arith, inl, inr}
use Rattle.std.specs.Prelude.{◌==◌, MatchBool, ⊤, slice_get, slice_set}
use Rattle.std.proofs.lemmas.Bool.{cases_Bool, false≢true, eqb-true, eq-eqb}
use Rattle.std.proofs.lemmas.Option.{none-some, same_Some, slice_get_cases}
use Rattle.pl_elf.specs.declared.range.Range.{Range}
use Rattle.pl_scope.specs.Walk.{Walked}
use Rattle.pl_cone.specs.Linking.{HasWalk, HaveDone, IsNextRow, IsPut, IsRow, IsRowLinked, IsRowUnlinked, IsWalked, LinksBy, LinksRow, fits}
use Rattle.pl_cone.specs.Plans.{cause_of}
use Rattle.pl_cone.specs.Skipped.{skip_of}
use Rattle.pl_cone.specs.Skips.{skip_is_memory}
use Rattle.pl_cone.specs.Table.{IsLinkBy, refusal_of, walk_for, walked_by}
use Rattle.pl_cone.specs.Taken.{AreTaken, files_in}
use Rattle.pl_cone.specs.declared.linking.Link.{Link}
use Rattle.pl_cone.specs.declared.linking.Linked.{Linked}
use Rattle.pl_cone.specs.declared.linking.WalkedFiles as walked
use Rattle.pl_cone.specs.declared.skip.Skip.{Skip}
use Rattle.pl_cone.specs.declared.taken.Taken.{Taken}
use Rattle.pl_cone.proofs.AmongLaws.{get_set_same, get_set_other, length_set}
use Rattle.pl_cone.proofs.StandLaws.{cause_fit, cause_refused}
use Rattle.pl_cone.proofs.WalkLaws.{refusal_at, rows_told}

-- ---- a row whose walk is refused, or not

refused_walk : (r : Result Walked Skip) (cause : Skip) → refusal_of r ≡ Some cause → r ≡ Err cause
refused_walk (Ok ws) cause is = absurd (none-some cause is)
refused_walk (Err e) cause is = ap (λ (x : Skip). Err x) (same_Some e cause is)

some_walk : (r : Result Walked Skip) → refusal_of r ≡ None → (ws : Walked) × (r ≡ Ok ws)
some_walk (Ok ws) is = (ws, refl)
some_walk (Err e) is = absurd cc

refusal_is : (w : walked.WalkedFiles) (l : Linked) (row : ℕ) (t : Taken) (cause : Option Skip) → IsRowUnlinked w l row → slice_get w.files.now row ≡ Some t → slice_get l.causes.items row ≡ Some cause → refusal_of (walk_for w.files.now t.name) ≡ cause
refusal_is w l row t cause opened at told = same_Some (refusal_of (walk_for w.files.now t.name)) cause (sym (refusal_at w.files.now row t at) ∙ (sym opened ∙ told))

-- where it is refused the cause stays
pub row_refused : (w : walked.WalkedFiles) (l : Linked) (row : ℕ) (cause : Skip) → IsRowUnlinked w l row → slice_get l.causes.items row ≡ Some (Some cause) → IsRowLinked w l row
row_refused w l row cause opened told = record {
  meant = λ region t taken at.
      let walk : walk_for w.files.now t.name ≡ Err cause = refused_walk (walk_for w.files.now t.name) cause (refusal_is w l row t (Some cause) opened at told) in
      told ∙ sym (ap (λ (r : Result (Unit {0}) Skip). Some (cause_of r)) (cause_refused region w.files.now t.name cause taken walk));
  by = λ rows link none walk there. absurd (none-some cause (same_Some None (Some cause) (sym none ∙ told)));
}

-- and else there is a walk
pub row_walk : (w : walked.WalkedFiles) (l : Linked) (row : ℕ) → IsWalked w → IsRowUnlinked w l row → row < length w.files.now → slice_get l.causes.items row ≡ Some None → HasWalk w row
row_walk w l row is opened lt told = elim (slice_get_cases w.files.now row).1 [
  | inl p ↦ elim (slice_get_cases w.walks.now row).1 [
    | inl q ↦
        let walk = some_walk (walk_for w.files.now p.0.name) (refusal_is w l row p.0 None opened p.2 told) in
        record { taken = p.0; rows = q.0; file = p.2; walk = q.2; told = (rows_told w.files.now w.walks.now row p.0 q.0 walk.0 is.walks p.2 q.2 walk.1).1 }
    | inr none ↦ absurd (omega (arith, none.0, is.walks.walks, lt))
  ]
  | inr none ↦ absurd (omega (arith, none.0, lt))
]

-- ---- a row that is put in

pub cause_is : (w : walked.WalkedFiles) (row : ℕ) (h : HasWalk w row) (region : Range) (t : Taken) → AreTaken region w.files.now → slice_get w.files.now row ≡ Some t → skip_of (files_in w.files.now) region t.name ≡ fits w h.taken h.rows
cause_is w row h region t taken at =
    let same : t ≡ h.taken = same_Some t h.taken (sym at ∙ h.file) in
    ap (λ (x : Taken). skip_of (files_in w.files.now) region x.name) same
    ∙ cause_fit region w.files.now h.taken.name (walked_by w.files.now h.rows) taken h.told

refused_fit : (fit : Result (Unit {0}) Skip) (skip : Skip) → skip_is_memory skip ≡ false → MatchBool (skip_is_memory skip) ⊤ (fit ≡ Err skip) → fit ≡ Err skip
refused_fit fit skip none is = rw none at is

linked_at : (w : walked.WalkedFiles) (row : ℕ) (h : HasWalk w row) (after : Linked) (link : Link) → slice_get after.causes.items row ≡ Some None → slice_get after.links.items row ≡ Some link → LinksBy w h.rows (fits w h.taken h.rows) (Ok link) → IsRowLinked w after row
linked_at w row h after link cause there by = record {
  meant = λ region t taken at. cause ∙ sym (ap (λ (r : Result (Unit {0}) Skip). Some (cause_of r)) (cause_is w row h region t taken at ∙ by.0));
  by = λ rows other none walk here.
      let same : link ≡ other = same_Some link other (sym there ∙ here) in
      let rows_same : h.rows ≡ rows = same_Some h.rows rows (sym h.walk ∙ walk) in
      subst (λ (rs : List ℕ). IsLinkBy w.files.now w.index.now rs other) rows_same (subst (λ (k : Link). IsLinkBy w.files.now w.index.now h.rows k) same by.1);
}

skipped_at : (w : walked.WalkedFiles) (row : ℕ) (h : HasWalk w row) (after : Linked) (skip : Skip) → slice_get after.causes.items row ≡ Some (Some skip) → skip_is_memory skip ≡ false → LinksBy w h.rows (fits w h.taken h.rows) (Err skip) → IsRowLinked w after row
skipped_at w row h after skip cause none by = record {
  meant = λ region t taken at.
      cause ∙ sym (ap (λ (r : Result (Unit {0}) Skip). Some (cause_of r)) (cause_is w row h region t taken at ∙ refused_fit (fits w h.taken h.rows) skip none by));
  by = λ rows link told walk there. absurd (none-some skip (same_Some None (Some skip) (sym told ∙ cause)));
}

-- a cause that is told already stays
pub cause_put : (w : walked.WalkedFiles) (l : Linked) (row : ℕ) (cause : Skip) → IsNextRow w row l → slice_get l.causes.items row ≡ Some (Some cause) → IsPut w l l row
cause_put w l row cause next told = record {
  sized = next.sized;
  linked = row_refused w l row cause next.unlinked told;
  links = λ other apart. refl;
  causes = λ other apart. refl;
}

-- a link is put in
pub link_put : (w : walked.WalkedFiles) (before after : Linked) (row : ℕ) (link : Link) → IsNextRow w row before → slice_get before.causes.items row ≡ Some None → HasWalk w row → LinksRow w row (Ok link)
    → after.links.items ≡ slice_set before.links.items row link → after.causes.items ≡ before.causes.items → IsPut w before after row
link_put w before after row link next told h made links causes = record {
  sized = record {
    links = ap length links ∙ (length_set before.links.items row link ∙ next.sized.links);
    causes = ap length causes ∙ next.sized.causes;
  };
  linked = linked_at w row h after link (ap (λ (cs : List (Option Skip)). slice_get cs row) causes ∙ told)
      (ap (λ (ls : List Link). slice_get ls row) links ∙ get_set_same before.links.items row link (omega (arith, next.sized.links, next.within))) (made h);
  links = λ other apart. ap (λ (ls : List Link). slice_get ls other) links ∙ get_set_other before.links.items row other link apart;
  causes = λ other apart. ap (λ (cs : List (Option Skip)). slice_get cs other) causes;
}

-- a cause is put in
pub skip_put : (w : walked.WalkedFiles) (before after : Linked) (row : ℕ) (skip : Skip) → IsNextRow w row before → HasWalk w row → LinksRow w row (Err skip) → skip_is_memory skip ≡ false
    → after.links.items ≡ before.links.items → after.causes.items ≡ slice_set before.causes.items row (Some skip) → IsPut w before after row
skip_put w before after row skip next h made none links causes = record {
  sized = record {
    links = ap length links ∙ next.sized.links;
    causes = ap length causes ∙ (length_set before.causes.items row (Some skip) ∙ next.sized.causes);
  };
  linked = skipped_at w row h after skip (ap (λ (cs : List (Option Skip)). slice_get cs row) causes ∙ get_set_same before.causes.items row (Some skip) (omega (arith, next.sized.causes, next.within))) none (made h);
  links = λ other apart. ap (λ (ls : List Link). slice_get ls other) links;
  causes = λ other apart. ap (λ (cs : List (Option Skip)). slice_get cs other) causes ∙ get_set_other before.causes.items row other (Some skip) apart;
}

-- ---- one row more

moved : (w : walked.WalkedFiles) (before after : Linked) (row : ℕ) (done : Bool) → slice_get after.links.items row ≡ slice_get before.links.items row → slice_get after.causes.items row ≡ slice_get before.causes.items row → IsRow done w before row → IsRow done w after row
moved w before after row true links causes is = record {
  meant = λ region t taken at. causes ∙ is.meant region t taken at;
  by = λ rows link none walk there. is.by rows link (sym causes ∙ none) walk (sym links ∙ there);
}
moved w before after row false links causes is = causes ∙ is

-- a row is put in
pub done_put : (w : walked.WalkedFiles) (d e : ℕ → Bool) (before after : Linked) (row : ℕ) → HaveDone w d before → IsPut w before after row → e row ≡ true → ((other : ℕ) → other ≢ row → e other ≡ d other) → HaveDone w e after
done_put w d e before after row have put here others = record {
  sized = put.sized;
  rows = λ other lt. elim (cases_Bool (other == row)) [
    | inl same ↦
        let at : other ≡ row = eqb-true other row same in
        subst (λ (k : ℕ). IsRow (e k) w after k) (sym at) (subst (λ (b : Bool). IsRow b w after row) (sym here) put.linked)
    | inr apart ↦
        let differs : other ≢ row = λ s. false≢true (sym apart ∙ eq-eqb other row s) in
        subst (λ (b : Bool). IsRow b w after other) (sym (others other differs)) (moved w before after other (d other) (put.links other differs) (put.causes other differs) (have.rows other lt))
  ];
}

-- a row stays
pub done_kept : (w : walked.WalkedFiles) (d e : ℕ → Bool) (l : Linked) (row : ℕ) → HaveDone w d l → IsRow (e row) w l row → ((other : ℕ) → other ≢ row → e other ≡ d other) → HaveDone w e l
done_kept w d e l row have here others = record {
  sized = have.sized;
  rows = λ other lt. elim (cases_Bool (other == row)) [
    | inl same ↦ subst (λ (k : ℕ). IsRow (e k) w l k) (sym (eqb-true other row same)) here
    | inr apart ↦
        let differs : other ≢ row = λ s. false≢true (sym apart ∙ eq-eqb other row s) in
        subst (λ (b : Bool). IsRow b w l other) (sym (others other differs)) (have.rows other lt)
  ];
}
