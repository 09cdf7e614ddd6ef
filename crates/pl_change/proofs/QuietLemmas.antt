-- Settles, and calls that only read.
use Rattle.std.proofs.Common.{◌≡◌, inl, inr, ⊎_elim, true, refl, sym, ◌∙◌, ap, subst, arith}
use Rattle.pl_folder.specs.Disk.{View, IsCrashImage, Disk, Shows, State, after, kept, read}
use Rattle.pl_folder.specs.Seen.{Seen, IsFolder}
use Rattle.pl_folder.specs.States.{settled}
use Rattle.pl_folder.proofs.ImageLaws.{read_image, settled_within}
use Rattle.pl_journal.specs.Leaves.{Looks}
use Rattle.pl_journal.specs.Meaning.{Same}
use Rattle.pl_journal.specs.Parts.{IsQuiet, IsRested}
use Rattle.pl_change.specs.Quiet.{OnlySettles, WritesNothing}

-- an image of a settled state is one of the state
settled_was : (s : State) (v : View) → IsCrashImage (settled s) v → IsCrashImage s v
settled_was s v image =
    let same = settled_within s (Same (read s)) (λ n. refl) v image in
    let was = read_image s in
    record { keep = was.keep; shows = λ n. subst (Shows s.files (kept was.keep s.changes s.base n)) (same n) (was.shows n) }

was_settled : (s t : State) (v : View) → t ≡ settled s → IsCrashImage t v → IsCrashImage s v
was_settled s t v is image = settled_was s v (subst (λ (x : State). IsCrashImage x v) is image)

-- a settle, and one call that reads
two_calls : (d : Disk) → OnlySettles d (after (settled d.now) (after (settled d.now) d))
two_calls d = record {
  now = refl;
  later = omega arith;
  each = λ t v had. ⊎_elim (λ here. inr (settled_was d.now v here.1)) (λ more. ⊎_elim (λ here. inr (settled_was d.now v here.1)) inl more) had;
}

-- a recovery of a folder without own names
pub recovers_quiet : (a b : Seen) → IsFolder a → IsQuiet a b → a.records ≡ true → WritesNothing a.disk b.disk
recovers_quiet a b law quiet told no_own =
    let rested : IsRested a = λ t n own. law.reads told n ∙ no_own n own in
    subst (OnlySettles a.disk) (sym (quiet rested told)) (two_calls a.disk)

-- and then reading
pub quiet_looks : (a b c : Disk) → Looks b c → WritesNothing a b → WritesNothing a c
quiet_looks a b c looks first no_own =
    let q = first no_own in
    record {
      now = looks.now ∙ q.now;
      later = omega (arith, q.later, looks.later);
      each = λ t v had. ⊎_elim (q.each t v) (λ image. inr (was_settled a.now b.now v q.now image)) (looks.each t v had);
    }

-- one after another
pub quiet_then : (a b c : Disk) → OnlySettles a b → OnlySettles b c → OnlySettles a c
quiet_then a b c first second = record {
  now = second.now ∙ ap settled first.now;
  later = omega (arith, first.later, second.later);
  each = λ t v had. ⊎_elim (first.each t v) (λ image. inr (was_settled a.now b.now v first.now image)) (second.each t v had);
}
