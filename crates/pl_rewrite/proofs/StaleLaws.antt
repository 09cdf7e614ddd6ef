-- Which files are made anew, and what the walks of stale programs hold.
use Rattle.std.proofs.Common.{◌≡◌, ℕ, suc, ◌<◌, Bool, true, false, List, [], length, replicate, Some, refl, sym, ap, subst, ◌∙◌, arith}
use Rattle.std.specs.Prelude.{◌&&◌, ◌||◌, not, slice_get, if◌then◌else◌}
use Rattle.std.proofs.lemmas.Option.{same_Some, slice_get_within}
use Rattle.pl_cone.specs.Taken.{is_library_entry}
use Rattle.pl_cone.specs.declared.taken.Taken.{Taken}
use Rattle.pl_cone.proofs.NeedLaws.{slice_get_at}
use Rattle.pl_rewrite.specs.Flags.{FlagsAll, flagged}
use Rattle.pl_rewrite.specs.Outcomes.{AreHeldBefore, AreHeldFlags, held_by, is_held_before, is_library_at, is_library_taken, is_stale, is_stale_library, is_stale_program}
use Rattle.pl_rewrite.specs.Rows.{walk_of}
use Rattle.pl_rewrite.specs.declared.numbers.Numbered.{Numbered}
use Rattle.pl_rewrite.proofs.FlagLaws.{flags_count, none_set}

-- ---- a row

pub not_program : (n : Numbered) (stale : List Bool) (row : ℕ) → is_stale stale row ≡ false → false ≡ is_stale_program n stale row
not_program n stale row is = sym (ap (λ (b : Bool). b && not (is_library_at n row)) is)

pub not_library : (n : Numbered) (stale : List Bool) (row : ℕ) → is_stale stale row ≡ false → false ≡ is_stale_library n stale row
not_library n stale row is = sym (ap (λ (b : Bool). b && is_library_at n row) is)

kind_at : (n : Numbered) (row : ℕ) (t : Taken) (library : Bool) → slice_get n.files.now row ≡ Some t → library ≡ is_library_entry t.entry → is_library_at n row ≡ library
kind_at n row t library at is = ap is_library_taken at ∙ sym is

pub stale_program : (n : Numbered) (stale : List Bool) (row : ℕ) (t : Taken) (library : Bool) → is_stale stale row ≡ true → slice_get n.files.now row ≡ Some t → library ≡ is_library_entry t.entry → not library ≡ is_stale_program n stale row
stale_program n stale row t library asked at is = sym (ap (λ (b : Bool). b && not (is_library_at n row)) asked ∙ ap not (kind_at n row t library at is))

pub stale_library : (n : Numbered) (stale : List Bool) (row : ℕ) (t : Taken) (library : Bool) → is_stale stale row ≡ true → slice_get n.files.now row ≡ Some t → library ≡ is_library_entry t.entry → library ≡ is_stale_library n stale row
stale_library n stale row t library asked at is = sym (ap (λ (b : Bool). b && is_library_at n row) asked ∙ kind_at n row t library at is)

-- ---- what the walk of a stale program holds

pub held_none : (n : Numbered) (stale : List Bool) (row : ℕ) → is_stale_program n stale row ≡ false → [] ≡ held_by n stale row
held_none n stale row is = sym (ap (λ (b : Bool). if b then walk_of n row else []) is)

pub held_walk : (n : Numbered) (stale : List Bool) (row : ℕ) → is_stale_program n stale row ≡ true → walk_of n row ≡ held_by n stale row
held_walk n stale row is = sym (ap (λ (b : Bool). if b then walk_of n row else []) is)

-- ---- one row after the other

pub held_begin : (n : Numbered) (stale flags : List Bool) → flags ≡ replicate (length n.files.now) false → AreHeldBefore n stale 0 flags
unfolding is_held_before
held_begin n stale flags none = record {
  count = flags_count (length n.files.now) flags none;
  each = λ row b at. none_set (length n.files.now) row b (ap (λ (fs : List Bool). slice_get fs row) (sym none) ∙ at);
}

pub held_before_more : (n : Numbered) (stale : List Bool) (size row : ℕ) → (is_held_before n stale size row || flagged (held_by n stale size) row) ≡ is_held_before n stale (suc size) row
unfolding is_held_before
held_before_more n stale size row = refl

pub held_more : (n : Numbered) (stale : List Bool) (size next : ℕ) (rows : List ℕ) (before after : List Bool) → next ≡ suc size → rows ≡ held_by n stale size → AreHeldBefore n stale size before → FlagsAll rows before after → AreHeldBefore n stale next after
held_more n stale size next rows before after more is were are = record {
  count = are.count ∙ were.count;
  each = λ row b at.
      let within : row < length after = slice_get_within after row b at in
      let was = slice_get_at before row (omega (arith, within, are.count)) in
      let now : b ≡ (was.0 || flagged rows row) = same_Some b (was.0 || flagged rows row) (sym at ∙ are.each row was.0 was.1) in
      now ∙ (ap (λ (x : Bool). x || flagged rows row) (were.each row was.0 was.1)
      ∙ (ap (λ (rs : List ℕ). is_held_before n stale size row || flagged rs row) is
      ∙ (held_before_more n stale size row ∙ ap (λ (k : ℕ). is_held_before n stale k row) (sym more))));
}

pub held_done : (n : Numbered) (stale flags : List Bool) (size : ℕ) → size ≡ length n.files.now → AreHeldBefore n stale size flags → AreHeldFlags n stale flags
held_done n stale flags size all are = subst (λ (k : ℕ). AreHeldBefore n stale k flags) all are
