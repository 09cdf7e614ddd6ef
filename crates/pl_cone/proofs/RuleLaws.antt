-- The rule of a folder does not depend on how causes are told.
use Rattle.std.proofs.Common.{◌≡◌, ℕ, Bool, List, length, Option, Some, None, Result, Ok, Err, refl, sym, ap, ◌∙◌}
use Rattle.std.specs.Prelude.{◌&&◌, map, nat_lt}
use Rattle.std.specs.List.{list_all}
use Rattle.std.specs.Option.{is_some}
use Rattle.std.specs.Cmp.Lexicographic.{pointwise}
use Rattle.pl_base.specs.Answers.{because, unless}
use Rattle.pl_base.proofs.AnswerLaws.{because_ok, ok_same, unless_ok}
use Rattle.pl_conflict.specs.Format.{Causes, format, read_original}
use Rattle.pl_conflict.specs.Prelinked.{prelinked}
use Rattle.pl_form.specs.Files.{original_in}
use Rattle.pl_form.specs.Marks.{has_mark}
use Rattle.pl_form.specs.declared.constants.TheConstants.{STORED}
use Rattle.pl_object.specs.Reads.{reads}
use Rattle.pl_object.specs.declared.object.Object.{Object}
use Rattle.pl_scope.specs.Members.{names, others, has}
use Rattle.pl_scope.specs.Walk.{Walked}
use Rattle.pl_scope.proofs.StepLaws.{err_ok, walk_local}
use Rattle.law_sound.specs.Rule.{Row, Mark, Files, object_at, mark_at, member_at, row_at, row_eq, objects, is_marked, lists_members, tells_walk, walk_in, names_of, of_walk, members, matches, prelinked_in}
use Rattle.pl_cone.specs.Laws.{RuleIsOne}
use Rattle.pl_cone.proofs.ListLaws.{all_same, map_same}

-- ---- walks

read_as : {E F : Type 0} (c : Causes E) (d : Causes F) (n o : List ℕ) (x : Object) → read_original c n o ≡ Ok x → read_original d n o ≡ Ok x
unfolding read_original
read_as c d n o x is =
    let p = unless_ok (nat_lt STORED (length o)) (c.large n) (unless (has_mark o) (c.bad_mark n) (because (c.refused n) (reads o))) x is in
    let q = unless_ok (has_mark o) (c.bad_mark n) (because (c.refused n) (reads o)) x p.1 in
    rw (p.0, q.0, because_ok (c.refused n) (reads o) x q.1) refl

object_as : {E F : Type 0} (c : Causes E) (d : Causes F) (n : List ℕ) (file : Option (List ℕ)) (x : Object) → object_at (format c) n file ≡ Ok x → object_at (format d) n file ≡ Ok x
object_as c d n None x is = absurd (err_ok (c.absent n) x is)
object_as c d n (Some file) x is = read_as c d n (original_in file) x is

walk_as : {E F : Type 0} (c : Causes E) (d : Causes F) (files : Files) (n : List ℕ) (ws : Walked) → walk_in (format c) files n ≡ Ok ws → walk_in (format d) files n ≡ Ok ws
walk_as c d files n ws is = walk_local c.walk d.walk (objects (format c) files) (objects (format d) files) n ws is (λ m o within there. object_as c d m (files m) o there)

-- the same walk, or none on both sides
abbrev Alike : {E F : Type 0} → Result Walked E → Result Walked F → Type 0
Alike (Ok a) (Ok b) = a ≡ b
Alike (Ok a) (Err f) = ⊥
Alike (Err e) (Ok b) = ⊥
Alike (Err e) (Err f) = Unit {0}

alike : {E F : Type 0} (c : Causes E) (d : Causes F) (files : Files) (n : List ℕ) → Alike (walk_in (format c) files n) (walk_in (format d) files n)
alike {E = E} {F = F} c d files n = by (walk_in (format c) files n) (walk_in (format d) files n) refl refl
  where
    by : (r : Result Walked E) (s : Result Walked F) → walk_in (format c) files n ≡ r → walk_in (format d) files n ≡ s → Alike r s
    by (Ok a) (Ok b) i j = ok_same a b (sym (walk_as c d files n a i) ∙ j)
    by (Ok a) (Err f) i j = err_ok f a (sym j ∙ walk_as c d files n a i)
    by (Err e) (Ok b) i j = err_ok e b (sym i ∙ walk_as d c files n b j)
    by (Err e) (Err f) i j = tt

-- ---- names

mark_same : {E F : Type 0} (c : Causes E) (d : Causes F) (file : Option (List ℕ)) → mark_at (format c) file ≡ mark_at (format d) file
mark_same c d None = refl
mark_same c d (Some file) = refl

member_same : {E F : Type 0} (c : Causes E) (d : Causes F) (n : List ℕ) (file : Option (List ℕ)) → member_at (format c) n file ≡ member_at (format d) n file
member_same c d n None = refl
member_same c d n (Some file) = refl

row_same : {E F : Type 0} (c : Causes E) (d : Causes F) (n : List ℕ) (file : Option (List ℕ)) → row_at (format c) n file ≡ row_at (format d) n file
row_same c d n None = refl
row_same c d n (Some file) = refl

tells_same : {E F : Type 0} (c : Causes E) (d : Causes F) (files : Files) (list : List Row) (ns : List (List ℕ)) → lists_members (format c) files list ns ≡ lists_members (format d) files list ns
tells_same c d files list ns =
    ap (λ (b : Bool). b && pointwise row_eq list (map (λ m. row_at (format c) m (files m)) ns)) (all_same (is_marked (format c) files) (is_marked (format d) files) (λ n. ap is_some (mark_same c d (files n))) ns)
    ∙ ap (λ (rows : List Row). list_all (is_marked (format d) files) ns && pointwise row_eq list rows)
    (map_same (λ (m : List ℕ). row_at (format c) m (files m)) (λ (m : List ℕ). row_at (format d) m (files m)) (λ m. row_same c d m (files m)) ns)

by_walk : {E F : Type 0} (c : Causes E) (d : Causes F) (files : Files) (k : Option Mark) (r : Result Walked E) (s : Result Walked F) → Alike r s → tells_walk (format c) files k r ≡ tells_walk (format d) files k s
by_walk c d files None r s same = refl
by_walk c d files (Some k) (Ok a) (Ok b) same = tells_same c d files k.list (others a) ∙ ap (λ (ws : Walked). lists_members (format d) files k.list (others ws)) same
by_walk c d files (Some k) (Ok a) (Err f) same = absurd same
by_walk c d files (Some k) (Err e) (Ok b) same = absurd same
by_walk c d files (Some k) (Err e) (Err f) same = refl

pub matches_same : {E F : Type 0} (c : Causes E) (d : Causes F) (files : Files) (n : List ℕ) → matches (format c) files n ≡ matches (format d) files n
matches_same c d files n =
    ap (λ (k : Option Mark). tells_walk (format c) files k (walk_in (format c) files n)) (mark_same c d (files n))
    ∙ by_walk c d files (mark_at (format d) (files n)) (walk_in (format c) files n) (walk_in (format d) files n) (alike c d files n)

names_alike : {E F : Type 0} (r : Result Walked E) (s : Result Walked F) → Alike r s → names_of r ≡ names_of s
names_alike (Ok a) (Ok b) same = ap names same
names_alike (Ok a) (Err f) same = absurd same
names_alike (Err e) (Ok b) same = absurd same
names_alike (Err e) (Err f) same = refl

pub members_same : {E F : Type 0} (c : Causes E) (d : Causes F) (files : Files) (n : List ℕ) → members (format c) files n ≡ members (format d) files n
members_same c d files n = names_alike (walk_in (format c) files n) (walk_in (format d) files n) (alike c d files n)

prelinked_alike : {E F : Type 0} (c : Causes E) (d : Causes F) (files : Files) (r : Result Walked E) (s : Result Walked F) → Alike r s
    → of_walk (format c) (λ m. member_at (format c) m (files m)) r ≡ of_walk (format d) (λ m. member_at (format d) m (files m)) s
prelinked_alike c d files (Ok a) (Ok b) same =
    ap prelinked (map_same (λ (m : List ℕ). member_at (format c) m (files m)) (λ (m : List ℕ). member_at (format d) m (files m)) (λ m. member_same c d m (files m)) (names a))
    ∙ ap (λ (ws : Walked). prelinked (map (λ m. member_at (format d) m (files m)) (names ws))) same
prelinked_alike c d files (Ok a) (Err f) same = absurd same
prelinked_alike c d files (Err e) (Ok b) same = absurd same
prelinked_alike c d files (Err e) (Err f) same = refl

pub prelinked_same : {E F : Type 0} (c : Causes E) (d : Causes F) (files : Files) (n : List ℕ) → prelinked_in (format c) files n ≡ prelinked_in (format d) files n
prelinked_same c d files n = prelinked_alike c d files (walk_in (format c) files n) (walk_in (format d) files n) (alike c d files n)

-- ---- the rule

pub rule_is_one : {E F : Type 0} → RuleIsOne E F
rule_is_one c d files rule n m matching within =
    sym (prelinked_same c d files m) ∙ rule n m (matches_same c d files n ∙ matching) (ap (λ (ns : List (List ℕ)). has ns m) (members_same c d files n) ∙ within)
