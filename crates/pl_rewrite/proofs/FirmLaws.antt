-- Members that have forms, and the slices that patterns take.
use Rattle.std.proofs.Common.{◌≡◌, ◌-◌, ◌<◌, ◌≤◌, Bool, true, List, [], ◌∷◌, get_or, Option, Some, refl, ap, ◌∙◌}
use Rattle.std.specs.List.{All, list_all}
use Rattle.std.proofs.lemmas.Bool.{and_from, and_parts}
use Rattle.std.proofs.lemmas.List.Elements.{All-nil, All-cons, All-head, All-tail, All-map}
use Rattle.pl_conflict.specs.Format.{number_of}
use Rattle.pl_conflict.specs.Prelinked.{Firm, firm_of, joined, all_firm, objects_of, version_of, is_version}
use Rattle.pl_conflict.proofs.MemberLaws.{member_firm, HasOwn}
use Rattle.pl_form.proofs.AlignLaws.{align_some}
use Rattle.pl_form.specs.declared.version.Version.{Version}
use Rattle.pl_form.specs.declared.version.Version.TheVariants.{One, Two}
use Rattle.pl_object.proofs.AcceptedLaws.{accepted}
use Rattle.pl_rewrite.specs.Sources.{AreSources, members}
use Rattle.pl_scope.specs.Scope.{IsAccepted}

-- ---- tests of all

pub all_true : {X : Type 0} (p : X → Bool) (xs : List X) → All (λ x. p x ≡ true) xs → list_all p xs ≡ true
all_true p [] all = refl
all_true p (x ∷ xs) all = and_from (p x) (list_all p xs) (All-head (λ y. p y ≡ true) x xs all) (all_true p xs (All-tail (λ y. p y ≡ true) x xs all))

pub true_all : {X : Type 0} (p : X → Bool) (xs : List X) → list_all p xs ≡ true → All (λ x. p x ≡ true) xs
true_all p [] e = All-nil (λ x. p x ≡ true)
true_all p (x ∷ xs) e =
    let q = and_parts (p x) (list_all p xs) e in
    All-cons (λ y. p y ≡ true) x xs q.0 (true_all p xs q.1)

-- ---- versions

pub version_is : (v : Version) → is_version (number_of v) ≡ true
version_is One = refl
version_is Two = refl

pub version_back : (v : Version) → version_of (number_of v) ≡ v
version_back One = refl
version_back Two = refl

-- ---- members

pub own_all : (rs : List Firm) → AreSources rs → All HasOwn rs
own_all rs are = λ k d lt. (member_firm (get_or rs k d).member (get_or rs k d) (are.firm k d lt)).own

pub accepted_own : (r : Firm) → HasOwn r → IsAccepted r.object
accepted_own r own = record { bytes = r.member.original; size = own.firm.few; read = own.firm.accepted }

pub accepted_all : (rs : List Firm) → All HasOwn rs → All IsAccepted (objects_of rs)
accepted_all rs all = All-map IsAccepted (λ (r : Firm). r.object) rs (λ k d lt. accepted_own (get_or rs k d) (all k d lt))

abbrev pub IsAligned : Firm → Type 0
IsAligned r = 0 < r.object.align

aligned : (r : Firm) → HasOwn r → IsAligned r
aligned r own = align_some r.member.original r.object (accepted r.member.original r.object own.firm.accepted)

pub aligned_all : (rs : List Firm) → AreSources rs → All IsAligned rs
aligned_all rs are = λ k d lt. aligned (get_or rs k d) (own_all rs are k d lt)

abbrev IsFirm : Firm → Type 0
IsFirm r = firm_of r.member ≡ Some r

firm_each : (rs : List Firm) → All IsFirm rs → all_firm (members rs) ≡ Some rs
unfolding all_firm
firm_each [] all = refl
firm_each (r ∷ rs) all =
    ap (λ (o : Option Firm). joined o (all_firm (members rs))) (All-head IsFirm r rs all)
    ∙ ap (λ (o : Option (List Firm)). joined (Some r) o) (firm_each rs (All-tail IsFirm r rs all))

pub firm_all : (rs : List Firm) → AreSources rs → all_firm (members rs) ≡ Some rs
firm_all rs are = firm_each rs are.firm
