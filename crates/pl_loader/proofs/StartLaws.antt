-- The image and the start that the definitions mean.
use Rattle.std.proofs.Common.{◌≡◌, ℕ, List, map, Bool, true, false, Option, Result, Ok, Err, refl, ap, sym, ◌∙◌, inl, inr}
use Rattle.std.specs.Prelude.{◌⊎◌, MatchBool, ⊤}
use Rattle.pl_base.specs.Answers.{Answers, because}
use Rattle.pl_base.specs.Memory.{Memory}
use Rattle.pl_elf.specs.declared.range.Range.{Range}
use Rattle.pl_place.specs.Policy.{Answering, Choice, Follows}
use Rattle.pl_tls.specs.declared.module.Module.{Module}
use Rattle.pl_image.specs.Image.{Image, byte_of, extents_of}
use Rattle.pl_value.specs.Ordinary.{loaded_objects, ordinary, IsOrdinary}
use Rattle.pl_value.specs.declared.fault.LinkFault.{LinkFault}
use Rattle.pl_loader.specs.Faults.{is_memory}
use Rattle.pl_loader.specs.Fast.{is_fast, fast_image}
use Rattle.pl_loader.specs.Loading.{objects_of, parts_of}
use Rattle.pl_loader.specs.Places.{IsPlaced, StopsFiles}
use Rattle.pl_loader.specs.Started.{all_placed, tls_module, entry_of, of_link, linked, imaged, modules_of, IsLinked, start, start_at, started, FailsBy, IsRefusedBy, IsUnplacedBy, Starts, StartsBy}
use Rattle.pl_loader.specs.declared.object_file.ObjectFile.{ObjectFile}
use Rattle.pl_loader.specs.declared.started.Started as code
use Rattle.pl_loader.specs.declared.fault.LoadFault.{LoadFault}
use Rattle.pl_loader.proofs.PlaceLaws.{places_chosen, unplaced_chosen}

image_of : (fs : List ObjectFile) (at : List ℕ) (image : Image) (r : Result Memory LinkFault) → IsOrdinary (Ok image) r → image.objects ≡ loaded_objects at (parts_of fs) (objects_of fs) → IsLinked image fs at (because (of_link fs) r)
image_of fs at image (Ok memory) bytes objects = (memory, refl, record { bytes = bytes; extents = ap extents_of objects })
image_of fs at image (Err fault) never objects = absurd never

pub linked_is : (fs : List ObjectFile) (at : List ℕ) (modules : List Module) (image : Image) → IsOrdinary (Ok image) (ordinary (objects_of fs) (parts_of fs) at modules) → image.objects ≡ loaded_objects at (parts_of fs) (objects_of fs) → IsLinked image fs at (linked fs at modules)
unfolding linked
linked_is fs at modules image ordinary_is objects = image_of fs at image (ordinary (objects_of fs) (parts_of fs) at modules) ordinary_is objects

-- on the slow path
pub slow_is : (fs : List ObjectFile) (at : List ℕ) (modules : List Module) (image : Image) → is_fast fs at ≡ false → IsLinked image fs at (linked fs at modules) → IsLinked image fs at (imaged fs at modules)
unfolding imaged
slow_is fs at modules image slow is = rw slow is

pub slow_fails : (fs : List ObjectFile) (at : List ℕ) (modules : List Module) (f : LoadFault) → is_fast fs at ≡ false → Answers is_memory (Err f) (linked fs at modules) → Answers is_memory (Err f) (imaged fs at modules)
unfolding imaged
slow_fails fs at modules f slow is = rw slow is

-- on the fast path
pub fast_is : (fs : List ObjectFile) (at : List ℕ) (modules : List Module) (image : Image) → is_fast fs at ≡ true → image ≡ fast_image fs at → extents_of (fast_image fs at).objects ≡ extents_of (loaded_objects at (parts_of fs) (objects_of fs))
    → IsLinked image fs at (imaged fs at modules)
unfolding imaged
fast_is fs at modules image fast is same =
    rw fast (byte_of (fast_image fs at), refl, record { bytes = λ a. ap (λ (i : Image). byte_of i a) is; extents = ap (λ (i : Image). extents_of i.objects) is ∙ same })

pub start_is : (fs : List ObjectFile) (modules : List Module) (at : List ℕ) (s : code.Started) → IsLinked s.image fs at (imaged fs at modules) → s.fast ≡ is_fast fs at
    → s.objects ≡ all_placed fs at → s.modules ≡ map (tls_module fs) modules → s.entry ≡ entry_of fs → Starts s (start_at fs modules at)
unfolding start
start_is fs modules at s image fast objects names entry =
    (start fs at modules image.0, rw image.1 refl, record { fast = fast; objects = objects; modules = names; entry = entry; bytes = image.2.bytes; extents = image.2.extents })

-- ---- why there is no start

either : {X : Type 0} (f : LoadFault) (meant : Result X LoadFault) → Answers is_memory (Err f) meant → (is_memory f ≡ true) ⊎ (meant ≡ Err f)
either f meant is = go (is_memory f) refl is
  where
    go : (b : Bool) → is_memory f ≡ b → MatchBool b ⊤ (meant ≡ Err f) → (is_memory f ≡ true) ⊎ (meant ≡ Err f)
    go true memory is = inl memory
    go false other is = inr is

answers : {X : Type 0} (f : LoadFault) (meant : Result X LoadFault) → (is_memory f ≡ true) ⊎ (meant ≡ Err f) → Answers is_memory (Err f) meant
answers f meant (inl memory) = rw memory tt
answers f meant (inr is) = go (is_memory f)
  where
    go : (b : Bool) → MatchBool b ⊤ (meant ≡ Err f)
    go true = tt
    go false = is

pub no_modules : (post : Answering) (busy : Option Range) (fs : List ObjectFile) (f : LoadFault) → Answers is_memory (Err f) (modules_of fs) → FailsBy post busy fs f
no_modules post busy fs f is = elim (either f (modules_of fs) is) [ inl memory ↦ inl memory | inr fails ↦ inr (inl fails) ]

pub no_places : (post : Answering) (busy : Option Range) (fs : List ObjectFile) (modules : List Module) (f : LoadFault) → modules_of fs ≡ Ok modules → StopsFiles post busy fs f → FailsBy post busy fs f
no_places post busy fs modules f numbers stops = elim stops.because [
  | inl memory ↦ inl memory
  | inr at ↦ inr (inr (inl (record { modules = modules; numbered = numbers; name = at.0; named = at.1; unplaced = at.2 })))
]

pub no_links : (post : Answering) (busy : Option Range) (fs : List ObjectFile) (modules : List Module) (at : List ℕ) (f : LoadFault) → modules_of fs ≡ Ok modules → IsPlaced post busy fs at → Answers is_memory (Err f) (imaged fs at modules)
    → FailsBy post busy fs f
no_links post busy fs modules at f numbers placed is = elim (either f (imaged fs at modules) is) [
  | inl memory ↦ inl memory
  | inr refused ↦ inr (inr (inr (record { modules = modules; numbered = numbers; at = at; placed = placed; refused = refused })))
]

-- ---- by a policy that follows a function

pub starts_chosen : (post : Answering) (choose : Choice) (busy : Option Range) (fs : List ObjectFile) (s : code.Started) → Follows post choose → StartsBy post busy fs s → Starts s (started choose busy fs)
unfolding started
starts_chosen post choose busy fs s follows starts = rw (starts.numbered, places_chosen post choose busy fs starts.at follows starts.placed) starts.starts

stops_chosen : (post : Answering) (choose : Choice) (busy : Option Range) (fs : List ObjectFile) (f : LoadFault) → Follows post choose → IsUnplacedBy post busy fs f → started choose busy fs ≡ Err f
unfolding started
stops_chosen post choose busy fs f follows stops = rw (stops.numbered, unplaced_chosen post choose busy fs stops.name follows stops.unplaced) (ap Err (sym stops.named))

refused_chosen : (post : Answering) (choose : Choice) (busy : Option Range) (fs : List ObjectFile) (f : LoadFault) → Follows post choose → IsRefusedBy post busy fs f → started choose busy fs ≡ Err f
unfolding started
refused_chosen post choose busy fs f follows is = rw (is.numbered, places_chosen post choose busy fs is.at follows is.placed, is.refused) refl

tls_chosen : (choose : Choice) (busy : Option Range) (fs : List ObjectFile) (f : LoadFault) → modules_of fs ≡ Err f → started choose busy fs ≡ Err f
unfolding started
tls_chosen choose busy fs f is = rw is refl

pub fails_chosen : (post : Answering) (choose : Choice) (busy : Option Range) (fs : List ObjectFile) (f : LoadFault) → Follows post choose → FailsBy post busy fs f → Answers is_memory (Err f) (started choose busy fs)
fails_chosen post choose busy fs f follows (inl memory) = answers f (started choose busy fs) (inl memory)
fails_chosen post choose busy fs f follows (inr (inl tls)) = answers f (started choose busy fs) (inr (tls_chosen choose busy fs f tls))
fails_chosen post choose busy fs f follows (inr (inr (inl stops))) = answers f (started choose busy fs) (inr (stops_chosen post choose busy fs f follows stops))
fails_chosen post choose busy fs f follows (inr (inr (inr refused))) = answers f (started choose busy fs) (inr (refused_chosen post choose busy fs f follows refused))
