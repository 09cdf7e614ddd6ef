-- What a reference finds is a symbol of a member, and only the class of its kind counts.
use Rattle.std.proofs.Common.{◌≡◌, ℕ, ◌<◌, Bool, true, false, cond, List, [], ◌∷◌, length, Option, Some, None, refl, sym, ap, subst}
use Rattle.std.specs.Prelude.{slice_get, ◌==◌, IfSome}
use Rattle.std.specs.Option.{option_or}
use Rattle.std.proofs.lemmas.Option.{slice_get_within}
use Rattle.pl_sym.specs.declared.symbol.Symbol.{Symbol}
use Rattle.pl_sym.specs.declared.class.Class.{Class}
use Rattle.pl_sym.specs.declared.class.Class.TheVariants.{Other}
use Rattle.pl_sym.specs.Definers.{is_definer}
use Rattle.pl_elf.specs.Kinds.{is_program}
use Rattle.pl_elf.specs.declared.constants.TheConstants.{R_X86_64_COPY, R_X86_64_JUMP_SLOT}
use Rattle.pl_object.specs.declared.object.Object.{Object}
use Rattle.pl_scope.specs.Matching.{matching}
use Rattle.pl_scope.specs.Finds.{found_in, of_object, in_member, first_in, binds_itself, class_of, version_wanted, found_for, searched, of_symbol, of_member, finds}
use Rattle.pl_scope.specs.Scope.{IsSymbol}
use Rattle.pl_scope.specs.declared.found.Found.{Found}
use Rattle.pl_scope.specs.declared.reference.Reference.{Reference}
use Rattle.pl_scope.proofs.MatchingLaws.{matching_within, IsDefined, matched, named_by}

-- ---- a symbol of a member

symbol_is : (os : List Object) (m s : ℕ) (o : Object) → slice_get os m ≡ Some o → s < length o.symbols → IsSymbol os m s
symbol_is os m s o e lt = record {
  member = slice_get_within os m o e;
  symbol = λ p at. let same : o ≡ p = cc in subst (λ (q : Object). s < length q.symbols) same lt;
}

found_is : (os : List Object) (m : ℕ) (o : Object) (matched : Option ℕ) (f : Found) → slice_get os m ≡ Some o → ((i : ℕ) → matched ≡ Some i → i < length o.symbols) → found_in m matched ≡ Some f → IsSymbol os f.member f.symbol
found_is os m o None f at within e = absurd (cc)
found_is os m o (Some i) f at within e =
    let is : record { member = m; symbol = i } ≡ f = cc in
    subst (λ (g : Found). IsSymbol os g.member g.symbol) is (symbol_is os m i o at (within i refl))

of_object_is : (os : List Object) (name : List ℕ) (class : Class) (version : Option (List ℕ)) (m : ℕ) (x : Option Object) (f : Found) → slice_get os m ≡ x → of_object name class version m x ≡ Some f → IsSymbol os f.member f.symbol
of_object_is os name class version m None f at e = absurd (cc)
of_object_is os name class version m (Some o) f at e = found_is os m o (matching o name class version) f at (matching_within o name class version) e

pub in_member_symbol : (os : List Object) (name : List ℕ) (class : Class) (version : Option (List ℕ)) (m : ℕ) (f : Found) → in_member os name class version m ≡ Some f → IsSymbol os f.member f.symbol
unfolding in_member
in_member_symbol os name class version m f e = of_object_is os name class version m (slice_get os m) f refl e

-- a member's definer is the member's
named_in : (m : ℕ) (matched : Option ℕ) (f : Found) → found_in m matched ≡ Some f → f.member ≡ m
named_in m None f e = absurd (cc)
named_in m (Some i) f e = let is : record { member = m; symbol = i } ≡ f = cc in sym (ap (λ (g : Found). g.member) is)

named_by_object : (name : List ℕ) (class : Class) (version : Option (List ℕ)) (m : ℕ) (x : Option Object) (f : Found) → of_object name class version m x ≡ Some f → f.member ≡ m
named_by_object name class version m None f e = absurd (cc)
named_by_object name class version m (Some o) f e = named_in m (matching o name class version) f e

pub member_is : (os : List Object) (name : List ℕ) (class : Class) (version : Option (List ℕ)) (m : ℕ) (f : Found) → in_member os name class version m ≡ Some f → f.member ≡ m
unfolding in_member
member_is os name class version m f e = named_by_object name class version m (slice_get os m) f e

-- a symbol of a member defines the name
pub record Defines (os : List Object) (name : List ℕ) (m : ℕ) : Type 0 where
  pub object : Object
  pub index : ℕ
  pub symbol : Symbol
  pub object_at : slice_get os m ≡ Some object
  pub symbol_at : slice_get object.symbols index ≡ Some symbol
  pub defines : is_definer symbol Other (is_program object.kind) ≡ true
  pub named : symbol.name ≡ name

defined_in : (os : List Object) (name : List ℕ) (class : Class) (m : ℕ) (o : Object) (x : Option ℕ) (f : Found) → slice_get os m ≡ Some o → ((i : ℕ) → x ≡ Some i → IsDefined o name class i) → found_in m x ≡ Some f → Defines os name m
defined_in os name class m o None f at is e = absurd (cc)
defined_in os name class m o (Some i) f at is e =
    let d = is i refl in
    let n = named_by o name class d.symbol d.defines in
    record { object = o; index = i; symbol = d.symbol; object_at = at; symbol_at = d.at; defines = n.definer; named = n.named }

defined_by : (os : List Object) (name : List ℕ) (class : Class) (version : Option (List ℕ)) (m : ℕ) (x : Option Object) (f : Found) → slice_get os m ≡ x → of_object name class version m x ≡ Some f → Defines os name m
defined_by os name class version m None f at e = absurd (cc)
defined_by os name class version m (Some o) f at e = defined_in os name class m o (matching o name class version) f at (matched o name class version) e

pub member_defines : (os : List Object) (name : List ℕ) (class : Class) (version : Option (List ℕ)) (m : ℕ) (f : Found) → in_member os name class version m ≡ Some f → Defines os name m
unfolding in_member
member_defines os name class version m f e = defined_by os name class version m (slice_get os m) f refl e

or_is : (os : List Object) (a b : Option Found) (f : Found) → (a ≡ Some f → IsSymbol os f.member f.symbol) → (b ≡ Some f → IsSymbol os f.member f.symbol) → option_or a b ≡ Some f → IsSymbol os f.member f.symbol
or_is os None b f g h e = h e
or_is os (Some a) b f g h e = g e

first_in_is : (os : List Object) (name : List ℕ) (class : Class) (version : Option (List ℕ)) (ms : List ℕ) (f : Found) → first_in os name class version ms ≡ Some f → IsSymbol os f.member f.symbol
unfolding first_in
first_in_is os name class version [] f e = absurd (cc)
first_in_is os name class version (m ∷ ms) f e =
    or_is os (in_member os name class version m) (first_in os name class version ms) f (in_member_symbol os name class version m f) (first_in_is os name class version ms f) e

either_is : (os : List Object) (r : Reference) (o : Object) (b : Bool) (other : Option Found) (f : Found) → slice_get os r.member ≡ Some o → r.symbol < length o.symbols → (other ≡ Some f → IsSymbol os f.member f.symbol)
    → cond b (Some (record { member = r.member; symbol = r.symbol })) other ≡ Some f → IsSymbol os f.member f.symbol
either_is os r o true other f at lt more e =
    let is : record { member = r.member; symbol = r.symbol } ≡ f = cc in
    subst (λ (g : Found). IsSymbol os g.member g.symbol) is (symbol_is os r.member r.symbol o at lt)
either_is os r o false other f at lt more e = more e

of_symbol_is : (os : List Object) (r : Reference) (o : Object) (x : Option Symbol) (f : Found) → slice_get os r.member ≡ Some o → slice_get o.symbols r.symbol ≡ x → of_symbol os r o x ≡ Some f → IsSymbol os f.member f.symbol
unfolding found_for
of_symbol_is os r o None f at own e = absurd (cc)
of_symbol_is os r o (Some s) f at own e =
    either_is os r o (binds_itself s) (found_for os r o s) f at (slice_get_within o.symbols r.symbol s own)
    (first_in_is os s.name (class_of r.kind) (version_wanted o s) (searched o r (length os)) f) e

of_member_is : (os : List Object) (r : Reference) (x : Option Object) (f : Found) → slice_get os r.member ≡ x → of_member os r x ≡ Some f → IsSymbol os f.member f.symbol
of_member_is os r None f at e = absurd (cc)
of_member_is os r (Some o) f at e = of_symbol_is os r o (slice_get o.symbols r.symbol) f at refl e

pub finds_symbol : (os : List Object) (r : Reference) (f : Found) → finds os r ≡ Some f → IsSymbol os f.member f.symbol
unfolding finds
finds_symbol os r f e = of_member_is os r (slice_get os r.member) f refl e

pub found_within : (os : List Object) (r : Reference) (found : Option Found) → found ≡ finds os r → IfSome found (λ f. IsSymbol os f.member f.symbol)
found_within os r None e = tt
found_within os r (Some f) e = finds_symbol os r f (sym e)

-- ---- kinds

abbrev reference : ℕ → ℕ → ℕ → Reference
reference m s kind = record { member = m; symbol = s; kind = kind }

same_symbol : (os : List Object) (m n k l : ℕ) (o : Object) (x : Option Symbol) → (k == R_X86_64_JUMP_SLOT) ≡ (l == R_X86_64_JUMP_SLOT) → (k == R_X86_64_COPY) ≡ (l == R_X86_64_COPY)
    → of_symbol os (reference m n k) o x ≡ of_symbol os (reference m n l) o x
unfolding found_for class_of
same_symbol os m n k l o None jump copy = refl
same_symbol os m n k l o (Some s) jump copy = rw (jump, copy) refl

same_member : (os : List Object) (m n k l : ℕ) (x : Option Object) → (k == R_X86_64_JUMP_SLOT) ≡ (l == R_X86_64_JUMP_SLOT) → (k == R_X86_64_COPY) ≡ (l == R_X86_64_COPY)
    → of_member os (reference m n k) x ≡ of_member os (reference m n l) x
same_member os m n k l None jump copy = refl
same_member os m n k l (Some o) jump copy = same_symbol os m n k l o (slice_get o.symbols n) jump copy

-- kinds of one class find the same
pub same_class : (os : List Object) (m n k l : ℕ) → (k == R_X86_64_JUMP_SLOT) ≡ (l == R_X86_64_JUMP_SLOT) → (k == R_X86_64_COPY) ≡ (l == R_X86_64_COPY) → finds os (reference m n k) ≡ finds os (reference m n l)
unfolding finds
same_class os m n k l jump copy = same_member os m n k l (slice_get os m) jump copy
