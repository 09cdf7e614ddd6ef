-- A reference whose name one object at most defines finds the same in every scope that holds that object.
use Rattle.std.proofs.Common.{◌≡◌, ℕ, ◌-◌, ◌<◌, Bool, true, false, cond, List, [], ◌∷◌, length, get_or, Option, Some, None, refl, sym, ap, ◌∙◌, subst, arith, inl, inr}
use Rattle.std.specs.Prelude.{◌==◌, ◌||◌, slice_get}
use Rattle.std.specs.List.{list_any, range_with_len}
use Rattle.std.specs.Option.{option_or}
use Rattle.std.proofs.lemmas.Bool.{cases_Bool, false≢true, eqb-true, eq-eqb}
use Rattle.std.proofs.lemmas.List.FromFn.{length-range_with_len, get_or-range_with_len}
use Rattle.std.proofs.lemmas.List.Folds.{list_any_at}
use Rattle.std.proofs.lemmas.Option.{none-some, same_Some, slice_get_within}
use Rattle.pl_elf.specs.declared.constants.TheConstants.{R_X86_64_COPY}
use Rattle.pl_object.specs.declared.object.Object.{Object}
use Rattle.pl_scope.specs.Finds.{found_in, of_object, in_member, first_in, binds_itself, class_of, version_wanted, found_for, searched, from_member, finds, own_symbol}
use Rattle.pl_scope.specs.Matching.{matching}
use Rattle.pl_scope.specs.Members.{names, has}
use Rattle.pl_scope.specs.Scope.{objects}
use Rattle.pl_scope.specs.Walk.{Walked}
use Rattle.pl_scope.specs.declared.index.Entry.{Entry}
use Rattle.pl_scope.specs.declared.found.Found.{Found}
use Rattle.pl_scope.specs.declared.reference.Reference.{Reference}
use Rattle.pl_scope.proofs.FoundLaws.{member_is, Defines, member_defines}
use Rattle.pl_scope.proofs.MemberLaws.{length_objects}
use Rattle.pl_scope.proofs.NameLaws.{or_cases, or_right}
use Rattle.pl_sym.specs.declared.class.Class.{Class}
use Rattle.pl_sym.specs.declared.symbol.Symbol.{Symbol}
use Rattle.pl_cone.specs.Definers.{HasDefiner, IsSingle, HasHashes}
use Rattle.pl_cone.specs.Folder.{IsMadeOf, IsMember}
use Rattle.pl_cone.specs.OneSymbol.{FindsOneSymbolBy, FindsOneSymbol}
use Rattle.pl_cone.proofs.FolderLaws.{object_at, member_of, has_member, same_member, and_then_some}

abbrev found : ℕ → ℕ → Found
found m s = record { member = m; symbol = s }

abbrev reference : ℕ → ℕ → ℕ → Reference
reference m s kind = record { member = m; symbol = s; kind = kind }

-- ---- one member

member_matching : (os : List Object) (j : ℕ) (o : Object) (name : List ℕ) (class : Class) (version : Option (List ℕ)) → slice_get os j ≡ Some o → in_member os name class version j ≡ found_in j (matching o name class version)
unfolding in_member
member_matching os j o name class version e = ap (of_object name class version j) e

found_symbol : (j : ℕ) (x : Option ℕ) (f : Found) → found_in j x ≡ Some f → x ≡ Some f.symbol
found_symbol j None f e = absurd (none-some f e)
found_symbol j (Some i) f e = ap (λ (g : Found). Some g.symbol) (same_Some (found j i) f e)

-- ---- a search

module _ (os : List Object) (name : List ℕ) (class : Class) (version : Option (List ℕ)) where
  abbrev here : ℕ → Option Found
  here m = in_member os name class version m

  has_by : (m : ℕ) (x rest : Option Found) (f : Found) → here m ≡ x → (rest ≡ Some f → here f.member ≡ Some f) → option_or x rest ≡ Some f → here f.member ≡ Some f
  has_by m None rest f at more e = more e
  has_by m (Some g) rest f at more e =
      let same : g ≡ f = same_Some g f e in
      let own : g.member ≡ m = member_is os name class version m g at in
      subst (λ (h : Found). here h.member ≡ Some h) same (ap here own ∙ at)

  -- what it finds its member has
  pub first_has : (ms : List ℕ) (f : Found) → first_in os name class version ms ≡ Some f → here f.member ≡ Some f
  unfolding first_in
  first_has [] f e = absurd (none-some f e)
  first_has (m ∷ ms) f e = has_by m (here m) (first_in os name class version ms) f refl (first_has ms f) e

  there_by : (m k : ℕ) (x rest : Option Found) (later : Bool) (f : Found) → here m ≡ x → here k ≡ Some f → ((m == k) || later) ≡ true → (later ≡ true → (g : Found) × (rest ≡ Some g)) → (g : Found) × (option_or x rest ≡ Some g)
  there_by m k (Some g) rest later f at own among more = (g, refl)
  there_by m k None rest later f at own among more = elim (or_cases (m == k) later among) [
    | inl same ↦ absurd (none-some f (sym at ∙ (ap here (eqb-true m k same) ∙ own)))
    | inr after ↦ more after
  ]

  -- where one of the members has a definer it finds one
  pub first_there : (ms : List ℕ) (k : ℕ) (f : Found) → list_any (λ m. m == k) ms ≡ true → here k ≡ Some f → (g : Found) × (first_in os name class version ms ≡ Some g)
  unfolding first_in
  first_there [] k f among own = absurd (false≢true among)
  first_there (m ∷ ms) k f among own =
      there_by m k (here m) (first_in os name class version ms) (list_any (λ n. n == k) ms) f refl own among (λ after. first_there ms k f after own)

-- ---- the members that are searched

in_range : (count k : ℕ) → k < count → list_any (λ m. m == k) (from_member 0 count) ≡ true
in_range count k lt =
    let at : get_or (range_with_len 0 (count - 0)) k 0 ≡ k = get_or-range_with_len 0 (count - 0) k 0 (omega (arith, lt)) ∙ omega arith in
    list_any_at (λ (m : ℕ). m == k) (range_with_len 0 (count - 0)) k 0 (omega (arith, lt, length-range_with_len 0 (count - 0))) (ap (λ (m : ℕ). m == k) at ∙ eq-eqb k k refl)

pub all_searched : (o : Object) (r : Reference) (count k : ℕ) → (r.kind == R_X86_64_COPY) ≡ false → k < count → list_any (λ m. m == k) (searched o r count) ≡ true
all_searched o r count k plain lt =
    elim (cases_Bool o.symbolic) [
      | inl symbolic ↦ rw (plain, symbolic) (or_right (r.member == k) (list_any (λ (m : ℕ). m == k) (from_member 0 count)) (in_range count k lt))
      | inr other ↦ rw (plain, other) (in_range count k lt)
    ]

-- ---- over a folder

-- a member with a definer, by its name
record Definer (folder : List ℕ → Option Object) (w : Walked) (name : List ℕ) (j : ℕ) : Type 0 where
  pub file : List ℕ
  pub object : Object
  pub at : slice_get w j ≡ Some (file, object)
  pub has : HasDefiner folder file name

definer_of : (folder : List ℕ → Option Object) (w : Walked) (name : List ℕ) (class : Class) (version : Option (List ℕ)) (j : ℕ) (f : Found) → IsMadeOf folder w → in_member (objects w) name class version j ≡ Some f → Definer folder w name j
definer_of folder w name class version j f made e =
    let d : Defines (objects w) name j = member_defines (objects w) name class version j f e in
    let m = member_of w j d.object d.object_at in
    record {
      file = m.0;
      object = d.object;
      at = m.1;
      has = record { object = d.object; index = d.index; symbol = d.symbol; there = made j m.0 d.object m.1; at = d.symbol_at; defines = d.defines; named = d.named };
    }

abbrev first_name : List ℕ × Object → List ℕ
first_name m = m.0

-- what is found in one scope is found in another, by the definer's name
by_name : (folder : List ℕ → Option Object) (v w : Walked) (name : List ℕ) (class : Class) (version : Option (List ℕ)) (file : List ℕ) (f : Found) (ms : List ℕ)
    → IsMadeOf folder v → IsMadeOf folder w → IsSingle folder name → in_member (objects v) name class version f.member ≡ Some f → IsMember v f.member file → has (names w) file ≡ true
    → ((k : ℕ) → k < length w → list_any (λ m. m == k) ms ≡ true) → (k : ℕ) × IsMember w k file × (first_in (objects w) name class version ms ≡ Some (found k f.symbol))
by_name folder v w name class version file f ms of_v of_w single own is there all =
    let o : Object = is.object in
    let matched : matching o name class version ≡ Some f.symbol = found_symbol f.member (matching o name class version) f (sym (member_matching (objects v) f.member o name class version (object_at v f.member file o is.at)) ∙ own) in
    let d : Definer folder v name f.member = definer_of folder v name class version f.member f of_v own in
    let d_file : d.file ≡ file = ap first_name (same_Some (d.file, d.object) (file, o) (sym d.at ∙ is.at)) in
    let first : (k : ℕ) × IsMember w k file = has_member w file there in
    let first_object : o ≡ first.1.object = same_member folder v w f.member first.0 file o first.1.object of_v of_w is.at first.1.at in
    let first_is : in_member (objects w) name class version first.0 ≡ Some (found first.0 f.symbol) =
    member_matching (objects w) first.0 o name class version (object_at w first.0 file o (first.1.at ∙ ap (λ (p : Object). Some (file, p)) (sym first_object))) ∙ ap (found_in first.0) matched in
    let g : (g : Found) × (first_in (objects w) name class version ms ≡ Some g) =
    first_there (objects w) name class version ms first.0 (found first.0 f.symbol) (all first.0 (slice_get_within w first.0 (file, first.1.object) first.1.at)) first_is in
    let has_g : in_member (objects w) name class version g.0.member ≡ Some g.0 = first_has (objects w) name class version ms g.0 g.1 in
    let e : Definer folder w name g.0.member = definer_of folder w name class version g.0.member g.0 of_w has_g in
    let e_file : e.file ≡ file = single e.file d.file e.has d.has ∙ d_file in
    let e_at : slice_get w g.0.member ≡ Some (file, e.object) = e.at ∙ ap (λ (n : List ℕ). Some (n, e.object)) e_file in
    let e_object : o ≡ e.object = same_member folder v w f.member g.0.member file o e.object of_v of_w is.at e_at in
    let e_matched : matching o name class version ≡ Some g.0.symbol =
    found_symbol g.0.member (matching o name class version) g.0 (sym (member_matching (objects w) g.0.member o name class version (object_at w g.0.member file o (e_at ∙ ap (λ (p : Object). Some (file, p)) (sym e_object)))) ∙ has_g) in
    let index : g.0.symbol ≡ f.symbol = same_Some g.0.symbol f.symbol (sym e_matched ∙ matched) in
    (g.0.member, record { object = e.object; at = e_at }, g.1 ∙ ap (λ (i : ℕ). Some (found g.0.member i)) index)

-- ---- a whole look-up

finds_is : (os : List Object) (r : Reference) (o : Object) (s : Symbol) → slice_get os r.member ≡ Some o → slice_get o.symbols r.symbol ≡ Some s
    → finds os r ≡ cond (binds_itself s) (Some (found r.member r.symbol)) (found_for os r o s)
unfolding finds
finds_is os r o s at own = rw (at, own) refl

-- the object of a reference and its symbol
own_is : (os : List Object) (r : Reference) (s : Symbol) → own_symbol os r ≡ Some s → (o : Object) × (slice_get os r.member ≡ Some o) × (slice_get o.symbols r.symbol ≡ Some s)
own_is os r s e = and_then_some (λ (o : Object). slice_get o.symbols r.symbol) (slice_get os r.member) s e

module _ (folder : List ℕ → Option Object) (n : List ℕ) (v : Walked) (symbol kind : ℕ) (s : Symbol) (o : Object) (f : Found) (file : List ℕ)
    (of_v : IsMadeOf folder v) (first : IsMember v 0 n) (plain : (kind == R_X86_64_COPY) ≡ false)
    (at : slice_get (objects v) 0 ≡ Some o) (own : slice_get o.symbols symbol ≡ Some s) (single : IsSingle folder s.name)
    (finds_f : finds (objects v) (reference 0 symbol kind) ≡ Some f) (is : IsMember v f.member file) where
  -- in another scope the object is the same
  there : (w : Walked) (m : ℕ) → IsMadeOf folder w → IsMember w m n → slice_get (objects w) m ≡ Some o
  there w m of_w named =
      let of_first : first.object ≡ o = same_Some first.object o (sym (object_at v 0 n first.object first.at) ∙ at) in
      let same : first.object ≡ named.object = same_member folder v w 0 m n first.object named.object of_v of_w first.at named.at in
      object_at w m n named.object named.at ∙ ap (λ (p : Object). Some p) (sym same ∙ of_first)

  itself : binds_itself s ≡ true → FindsOneSymbol folder n symbol kind file f.symbol
  itself binds = λ w m of_w named has_file.
      let f_is : found 0 symbol ≡ f = same_Some (found 0 symbol) f (sym (finds_is (objects v) (reference 0 symbol kind) o s at own ∙ rw binds refl) ∙ finds_f) in
      let file_is : n ≡ file = ap first_name (same_Some (n, first.object) (file, is.object) (sym first.at ∙ (ap (λ (g : Found). slice_get v g.member) f_is ∙ is.at))) in
      let index : symbol ≡ f.symbol = ap (λ (g : Found). g.symbol) f_is in
      record {
        member = m;
        named = subst (λ (k : List ℕ). IsMember w m k) file_is named;
        looks = finds_is (objects w) (reference m symbol kind) o s (there w m of_w named) own ∙ (rw binds refl ∙ ap (λ (i : ℕ). Some (found m i)) index);
      }

  by_search : binds_itself s ≡ false → FindsOneSymbol folder n symbol kind file f.symbol
  unfolding found_for
  by_search binds = λ w m of_w named has_file.
      let searches : first_in (objects v) s.name (class_of kind) (version_wanted o s) (searched o (reference 0 symbol kind) (length (objects v))) ≡ Some f =
      sym (finds_is (objects v) (reference 0 symbol kind) o s at own ∙ rw binds refl) ∙ finds_f in
      let has_f : in_member (objects v) s.name (class_of kind) (version_wanted o s) f.member ≡ Some f =
      first_has (objects v) s.name (class_of kind) (version_wanted o s) (searched o (reference 0 symbol kind) (length (objects v))) f searches in
      let p = by_name folder v w s.name (class_of kind) (version_wanted o s) file f (searched o (reference m symbol kind) (length (objects w))) of_v of_w single has_f is has_file
      (λ k lt. all_searched o (reference m symbol kind) (length (objects w)) k plain (omega (arith, lt, length_objects w))) in
      record {
        member = p.0;
        named = p.1;
        looks = finds_is (objects w) (reference m symbol kind) o s (there w m of_w named) own ∙ (rw binds refl ∙ p.2);
      }

  pub everywhere : FindsOneSymbol folder n symbol kind file f.symbol
  everywhere = elim (cases_Bool (binds_itself s)) [ inl binds ↦ itself binds | inr other ↦ by_search other ]

-- what is settled by one scope of a folder is so in every one
pub settled : (folder : List ℕ → Option Object) (definers : List Entry) (n : List ℕ) (v : Walked) (symbol kind : ℕ) (known : FindsOneSymbolBy definers (objects v) (reference 0 symbol kind)) (file : List ℕ)
    → HasHashes folder definers → IsMadeOf folder v → IsMember v 0 n → (kind == R_X86_64_COPY) ≡ false → IsMember v known.found.member file → FindsOneSymbol folder n symbol kind file known.found.symbol
settled folder definers n v symbol kind known file hashes of_v first plain is =
    let own = own_is (objects v) (reference 0 symbol kind) known.single.symbol known.single.own in
    everywhere folder n v symbol kind known.single.symbol own.0 known.found file of_v first plain own.1 own.2 (hashes known.single.symbol.name known.single.once) known.looks is
