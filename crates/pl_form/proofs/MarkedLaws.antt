-- How what a file is made of is told, step by step.
use Rattle.std.proofs.Common.{◌≡◌, ℕ, ◌+◌, ◌*◌, ◌%◌, ◌^◌, ◌<◌, ◌≤◌, Bool, true, false, List, [], length, Option, Some, None, Ok, refl, sym, ap, subst, ◌∙◌, arith}
use Rattle.std.specs.Prelude.{if◌then◌else◌}
use Rattle.pl_base.specs.Bytes.{word32, word64}
use Rattle.pl_base.specs.Windows.{Window, within}
use Rattle.pl_elf.specs.Kinds.{is_library}
use Rattle.pl_elf.specs.declared.segment.Segment.{Segment}
use Rattle.pl_object.specs.Accepted.{HasHead}
use Rattle.pl_object.specs.PlaceClauses.{last_load}
use Rattle.pl_object.specs.Reads.{reads}
use Rattle.pl_object.specs.declared.object.Object.{Object}
use Rattle.pl_object.proofs.AcceptedLaws.{accepted}
use Rattle.pl_form.specs.Back.{front_of, when}
use Rattle.pl_form.specs.Found.{ss_of, d_of, tags_of, ps_of}
use Rattle.pl_form.specs.Parts.{Original}
use Rattle.pl_form.specs.declared.parts.Spot.{Spot}
use Rattle.pl_form.proofs.AcceptedIs.{segments_are}
use Rattle.pl_undo.specs.declared.undo.Undo.{Undo}
use Rattle.pl_form.specs.Originals.{IsLayoutOf}
use Rattle.pl_lists.specs.Conflicts.{ascend, are_conflicts}
use Rattle.pl_lists.specs.declared.conflict_row.ConflictRow.{ConflictRow}
use Rattle.pl_lists.specs.declared.list_row.ListRow.{ListRow}
use Rattle.pl_form.specs.Reading.{IsOwn, OwnIfAny, IsSpelledList, ListIfAny, AreSpelled, SpelledIfAny, with_conflicts, firm_object, lists_in, candidate, stamp_behind, stamp_for, stamp_in, candidate_with, version_in, standing, zeros_behind, places_in, is_form, checked, marked_by, IsMade}
use Rattle.pl_form.specs.declared.file.Marked.{Marked}
use Rattle.pl_form.specs.declared.layout.Layout.{Layout}
use Rattle.pl_form.specs.declared.read.Lists.{Lists}
use Rattle.pl_form.specs.declared.version.Version.{Version}
use Rattle.sha2.specs.Sha256.{sha256}
use Rattle.pl_form.proofs.AlignLaws.{align_some}

pub made_align : (m : Marked) → IsMade m → 0 < m.object.align
made_align m made = align_some m.original m.object (accepted m.original m.object made.firm.accepted)

pub layout_spots : (o : List ℕ) (l : Layout) → IsLayoutOf o l → l.spots ≡ ps_of o
layout_spots o l e = ap (λ (a : Original). a.spots) e

-- the stamp by a layout and by an original
pub stamp_is : (x : Object) (o : List ℕ) (l : Layout) (front there : List ℕ) (stamp : ℕ) → IsLayoutOf o l → front ≡ there → stamp ≡ (if is_library x.kind then stamp_behind l front else 0) → stamp ≡ stamp_for x o there
stamp_is x o l front there stamp e f is =
    let dynamic : l.dynamic ≡ d_of o = ap (λ (a : Original). a.dynamic) e in
    let tags : l.tags ≡ length (tags_of o) = ap (λ (a : Original). a.tags) e in
    let table : within l.dynamic front ≡ within (d_of o) there = ap (λ (w : Window). within w front) dynamic ∙ ap (within (d_of o)) f in
    let same : stamp_behind l front ≡ stamp_in o there =
    ap (λ (n : ℕ). word64 (16 * n + 8) (within l.dynamic front) % 2 ^ 32) tags ∙ ap (λ (xs : List ℕ). word64 (16 * length (tags_of o) + 8) xs % 2 ^ 32) table in
    is ∙ ap (λ (n : ℕ). if is_library x.kind then n else 0) same

pub flat_is : (file o : List ℕ) (u : Undo) (x : Object) (spots : List Spot) (front flat : List ℕ) → reads o ≡ Ok x → spots ≡ ps_of o → front ≡ front_of u file
    → flat ≡ standing spots front (zeros_behind (last_load x.segments) file) → flat ≡ places_in o (front_of u file) file
flat_is file o u x spots front flat r s f e =
    e ∙ ap (λ (ss : List Segment). standing spots front (zeros_behind (last_load ss) file)) (segments_are o x (accepted o x r))
    ∙ ap (λ (xs : List ℕ). standing spots xs (zeros_behind (last_load (ss_of o)) file)) f
    ∙ ap (λ (ps : List Spot). standing ps (front_of u file) (zeros_behind (last_load (ss_of o)) file)) s

pub steps : (file o : List ℕ) (u : Undo) (x : Object) (l : Lists) → Some x ≡ firm_object o → Some l ≡ lists_in (is_library x.kind) file → marked_by file u o ≡ checked file u (candidate (front_of u file) u o x l)
unfolding marked_by
steps file o u x l e f = rw (sym e, sym f) refl

made_here : (file o : List ℕ) (u : Undo) (x : Object) (l : Lists) (m : Marked) (front flat : List ℕ) → front ≡ front_of u file → m ≡ candidate front u o x l → flat ≡ places_in o (front_of u file) file
    → is_form file (candidate (front_of u file) u o x l) (places_in (candidate (front_of u file) u o x l).original (front_of u file) file) ≡ is_form file m flat
unfolding candidate
made_here file o u x l m front flat f is places =
    ap (λ (xs : List ℕ). is_form file (candidate xs u o x l) (places_in o (front_of u file) file)) (sym f)
    ∙ ap (λ (n : Marked). is_form file n (places_in o (front_of u file) file)) (sym is)
    ∙ ap (is_form file m) (sym places)

pub same_checked : (file o : List ℕ) (u : Undo) (x : Object) (l : Lists) (m : Marked) (front flat : List ℕ) → front ≡ front_of u file → m ≡ candidate front u o x l
    → flat ≡ places_in o (front_of u file) file → when (is_form file m flat) (Some m) ≡ checked file u (candidate (front_of u file) u o x l)
same_checked file o u x l m front flat f is places =
    let n = candidate (front_of u file) u o x l in
    let same : n ≡ m = ap (λ (xs : List ℕ). candidate xs u o x l) (sym f) ∙ sym is in
    let test : is_form file n (places_in n.original (front_of u file) file) ≡ is_form file m flat = made_here file o u x l m front flat f is places in
    ap (λ (b : Bool). when b (Some m)) (sym test)
    ∙ ap (λ (k : Marked). when (is_form file n (places_in n.original (front_of u file) file)) (Some k)) (sym same)

-- an original that is one, of a file without lists
pub no_lists : (file o : List ℕ) (u : Undo) (x : Object) → Some x ≡ firm_object o → None ≡ lists_in (is_library x.kind) file → None ≡ marked_by file u o
unfolding marked_by
no_lists file o u x e f = rw (sym e, sym f) refl

-- ---- what a test says

pub some_when : (b : Bool) (m : Marked) → b ≡ true → Some m ≡ when b (Some m)
some_when b m e = rw e refl

pub none_when : (b : Bool) (m : Marked) → b ≡ false → None ≡ when b (Some m)
none_when b m e = rw e refl

-- ---- what the parts say

pub own_here : (o s : List ℕ) (found : Option Object) (x : Object) → OwnIfAny s found → found ≡ Some x → s ≡ o → IsOwn o x
own_here o s found x own is same = let here : IsOwn s x = subst (OwnIfAny s) is own in subst (λ (ys : List ℕ). IsOwn ys x) same here

pub head_here : (o : List ℕ) (x : Object) → IsOwn o x → HasHead o x
head_here o x own = (accepted o x own.firm.accepted).head

pub spelled_here : (library : Bool) (file : List ℕ) (found : Option Lists) (l : Lists) → SpelledIfAny library file found → found ≡ Some l → AreSpelled library file l
spelled_here library file found l spelled is = subst (SpelledIfAny library file) is spelled

-- what a file would be made of, by its parts
pub candidate_is : (u : Undo) (o : List ℕ) (x : Object) (l : Lists) (digest : List ℕ) (stamp checksum : ℕ) (v : Version) → digest ≡ sha256 o
    → checksum ≡ (if is_library x.kind then word32 0 digest else 0) → v ≡ version_in u.digest
    → record { object = x; original = o; slot = u.slot; stamp = stamp; checksum = checksum; list = l.list; conflicts = l.conflicts; version = v } ≡ candidate_with stamp u o x l
candidate_is u o x l digest stamp checksum v same sums version = rw (sums, version, same) refl

-- by what stands in the file
pub candidate_here : (front : List ℕ) (u : Undo) (o : List ℕ) (x : Object) (l : Lists) (stamp : ℕ) (m : Marked) → stamp ≡ stamp_for x o front → m ≡ candidate_with stamp u o x l → m ≡ candidate front u o x l
unfolding candidate
candidate_here front u o x l stamp m e is = is ∙ ap (λ (n : ℕ). candidate_with n u o x l) e

pub candidate_original : (front : List ℕ) (u : Undo) (o : List ℕ) (x : Object) (l : Lists) (m : Marked) → m ≡ candidate front u o x l → m.original ≡ o
unfolding candidate
candidate_original front u o x l m is = ap (λ (n : Marked). n.original) is

pub none_spelled : are_conflicts [] ≡ true
unfolding ascend
none_spelled = refl

pub library_spelled : (file : List ℕ) (size : ℕ) (found : Option (List ListRow)) (list : List ListRow) (conflicts : List ConflictRow) → ListIfAny size found → found ≡ Some list → size ≤ length file → conflicts ≡ [] → AreSpelled true file (with_conflicts list conflicts)
library_spelled file size found list conflicts spelled is within none =
    let here : IsSpelledList size list = subst (ListIfAny size) is spelled in
    record {
      names = omega (arith, here.names, within);
      list = here.spelled;
      conflicts = subst (λ (cs : List ConflictRow). are_conflicts cs ≡ true) (sym none) none_spelled;
      none = λ library. none;
    }
