-- A load means no want of memory where nothing that it is told of files does.
use Rattle.std.proofs.Common.{◌≡◌, refl, ℕ, Bool, true, false, List, [], ◌∷◌, Option, Some, None, Result, Ok, Err}
use Rattle.std.specs.Prelude.{if◌then◌else◌}
use Rattle.pl_base.specs.Answers.{NeverMemory}
use Rattle.pl_base.proofs.TellsLaws.{Keeps, ok_tells, unless_tells, or_tells, then_tells, because_tells, cause_tells, each_tells}
use Rattle.pl_elf.specs.declared.range.Range.{Range}
use Rattle.pl_tls.specs.Layout as tls
use Rattle.pl_tls.specs.declared.module.Module.{Module}
use Rattle.pl_tls.specs.declared.fault.TlsFault.{TlsFault}
use Rattle.pl_tls.specs.declared.fault.TlsFault.TheVariants as tls_fault
use Rattle.pl_tls.proofs.LayoutLaws.{offsets_tell}
use Rattle.pl_form.specs.Files.{file_by, file_in, marked_in}
use Rattle.pl_form.specs.Marks as form
use Rattle.pl_form.specs.Marks.{as_file}
use Rattle.pl_form.specs.declared.fault.FileFault.{FileFault}
use Rattle.pl_form.specs.declared.fault.FileFault.TheVariants as file_fault
use Rattle.pl_form.specs.declared.file.Marked.{Marked}
use Rattle.pl_image.specs.Image.{byte_of}
use Rattle.pl_object.specs.Reads.{reads}
use Rattle.pl_object.specs.declared.object.Object.{Object}
use Rattle.pl_object.specs.Refusals as object
use Rattle.pl_object.specs.declared.refusal.Refusal.{Refusal}
use Rattle.pl_object.specs.declared.refusal.Refusal.TheVariants as refusal
use Rattle.pl_object.proofs.RefusalLaws.{reads_tells}
use Rattle.pl_scope.specs.Walk.{itself}
use Rattle.pl_scope.specs.Walk as walk
use Rattle.pl_scope.specs.declared.fault.WalkFault.{WalkFault}
use Rattle.pl_scope.specs.declared.fault.WalkFault.TheVariants as walk_variant
use Rattle.pl_scope.proofs.TellsLaws.{walk_tells}
use Rattle.pl_place.specs.Placing as place
use Rattle.pl_place.specs.Placing.{chosen}
use Rattle.pl_place.specs.Policy.{Choice}
use Rattle.pl_place.specs.declared.fault.PlaceFault.{PlaceFault}
use Rattle.pl_place.specs.declared.fault.PlaceFault.TheVariants as place_fault
use Rattle.pl_slots.specs.declared.slot.Want.{Want}
use Rattle.pl_value.specs.declared.fault.LinkFault.{LinkFault}
use Rattle.pl_loader.specs.Faults.{is_memory, of_file, of_place, of_walk, of_tls}
use Rattle.pl_loader.specs.Fast.{is_fast, fast_image}
use Rattle.pl_loader.specs.Places.{holes_beside, places, wants_beside}
use Rattle.pl_loader.specs.Started.{blocks, of_link, linked, imaged, started, load}
use Rattle.pl_loader.specs.Walk.{named, loadable, read_in, walk_fault, file_of, object_of, walked, files}
use Rattle.pl_loader.specs.declared.object_file.ObjectFile.{ObjectFile}
use Rattle.pl_loader.specs.declared.fault.LoadFault.{LoadFault}

-- ---- the parts' faults

pub of_file_tells : (name : List ℕ) (e : FileFault) → form.file_fault_is_memory e ≡ false → is_memory (of_file name e) ≡ false
of_file_tells name file_fault.BadMark t = refl
of_file_tells name (file_fault.Refused (refusal.Clause number argument)) t = refl
of_file_tells name (file_fault.Refused refusal.NoMemory) t = t

of_walk_tells : (e : WalkFault) → walk.is_memory e ≡ false → is_memory (of_walk e) ≡ false
of_walk_tells (walk_variant.NeededIsProgram name) t = refl
of_walk_tells (walk_variant.TooMany name) t = refl
of_walk_tells (walk_variant.NotThere name) t = refl
of_walk_tells walk_variant.NoMemory t = t

of_tls_tells : (e : TlsFault) → tls.is_memory e ≡ false → is_memory (of_tls e) ≡ false
of_tls_tells tls_fault.TooLarge t = refl
of_tls_tells tls_fault.NoMemory t = t

of_link_tells : (fs : List ObjectFile) (e : LinkFault) → is_memory (of_link fs e) ≡ false
of_link_tells fs e = refl

-- ---- the files

accepted_tells : (r : Result Object Refusal) → NeverMemory object.is_memory r → NeverMemory form.file_fault_is_memory (as_file r)
unfolding NeverMemory
accepted_tells (Ok x) t = tt
accepted_tells (Err (refusal.Clause number argument)) t = refl
accepted_tells (Err refusal.NoMemory) t = t

file_tells : (bytes : List ℕ) (o : Option Marked) → NeverMemory form.file_fault_is_memory (file_by bytes o)
file_tells bytes None = unless_tells form.file_fault_is_memory _ _ _ refl (accepted_tells (reads bytes) (reads_tells bytes))
file_tells bytes (Some m) = ok_tells form.file_fault_is_memory _

pub file_in_tells : (bytes : List ℕ) → NeverMemory form.file_fault_is_memory (file_in bytes)
unfolding file_in
file_in_tells bytes = file_tells bytes (marked_in bytes)

read_tells : (name n bytes : List ℕ) → NeverMemory is_memory (read_in name n bytes)
unfolding read_in named loadable file_in
read_tells name n bytes =
    then_tells is_memory _ _ (then_tells is_memory _ _ (because_tells form.file_fault_is_memory is_memory (of_file n) _ (of_file_tells n) (file_tells bytes (marked_in bytes))) (λ file. ok_tells is_memory _))
    (λ f. unless_tells is_memory _ _ _ refl (ok_tells is_memory f))

file_of_tells : {E : Type 0} (fault : LoadFault → E) (m : E → Bool) (file : List ℕ → Result (List ℕ) E) (name n : List ℕ) → Keeps is_memory m fault → ((n : List ℕ) → NeverMemory m (file n)) → NeverMemory m (file_of fault file name n)
unfolding file_of
file_of_tells fault m file name n keeps tells = then_tells m _ _ (tells n) (λ bytes. because_tells is_memory m fault _ keeps (read_tells name n bytes))

files_tell : {E : Type 0} (fault : LoadFault → E) (m : E → Bool) (file : List ℕ → Result (List ℕ) E) (name : List ℕ) → Keeps is_memory m fault → ((n : List ℕ) → NeverMemory m (file n)) → NeverMemory m (files fault file name)
unfolding files walked
files_tell fault m file name keeps tells =
    then_tells m _ _
    (walk_tells (walk_fault fault) m (object_of fault file name) name (λ f t. keeps (of_walk f) (of_walk_tells f t)) (λ n. then_tells m _ _ (file_of_tells fault m file name n keeps tells) (λ f. ok_tells m _)))
    (λ all. each_tells m (λ (x : List ℕ × Object). file_of fault file name x.0) all (λ x. file_of_tells fault m file name x.0 keeps tells))

-- ---- the start

chosen_tell : (choose : Choice) (wants : List Want) (holes : List Range) → NeverMemory place.is_memory (chosen choose holes wants)
unfolding chosen
chosen_tell choose [] holes = ok_tells place.is_memory []
chosen_tell choose (want ∷ wants) holes = then_tells place.is_memory _ _ (or_tells place.is_memory _ _ refl) (λ start. then_tells place.is_memory _ _ (chosen_tell choose wants _) (λ starts. ok_tells place.is_memory _))

of_place_tells : (e : PlaceFault) → place.is_memory e ≡ false → is_memory (of_place e) ≡ false
of_place_tells (place_fault.NoPlace name) t = refl
of_place_tells place_fault.NoMemory t = t

places_tell : (choose : Choice) (busy : Option Range) (fs : List ObjectFile) → NeverMemory is_memory (places choose busy fs)
unfolding places
places_tell choose busy [] = ok_tells is_memory []
places_tell choose busy (program ∷ libraries) =
    then_tells is_memory _ _ (because_tells place.is_memory is_memory of_place _ of_place_tells (chosen_tell choose (wants_beside busy program libraries) (holes_beside busy program libraries))) (λ starts. ok_tells is_memory _)

linked_tells : (fs : List ObjectFile) (at : List ℕ) (modules : List Module) → NeverMemory is_memory (linked fs at modules)
unfolding linked
linked_tells fs at modules = cause_tells is_memory (of_link fs) _ (of_link_tells fs)

imaged_tells : (fs : List ObjectFile) (at : List ℕ) (modules : List Module) → NeverMemory is_memory (imaged fs at modules)
unfolding imaged
imaged_tells fs at modules = by (is_fast fs at)
  where
    by : (fast : Bool) → NeverMemory is_memory (if fast then Ok (byte_of (fast_image fs at)) else linked fs at modules)
    by true = ok_tells is_memory _
    by false = linked_tells fs at modules

started_tells : (choose : Choice) (busy : Option Range) (fs : List ObjectFile) → NeverMemory is_memory (started choose busy fs)
unfolding started
started_tells choose busy fs =
    then_tells is_memory _ _ (because_tells tls.is_memory is_memory of_tls _ of_tls_tells (offsets_tell (blocks fs))) (λ modules. then_tells is_memory _ _ (places_tell choose busy fs)
    (λ at. then_tells is_memory _ _ (imaged_tells fs at modules) (λ memory. ok_tells is_memory _)))

-- ---- the whole

pub load_tells : {E : Type 0} (choose : Choice) (busy : Option Range) (fault : LoadFault → E) (m : E → Bool) (file : List ℕ → Result (List ℕ) E) (name : List ℕ) → Keeps is_memory m fault → ((n : List ℕ) → NeverMemory m (file n)) → NeverMemory m (load choose busy fault file name)
unfolding load
load_tells choose busy fault m file name keeps tells = then_tells m _ _ (files_tell fault m file name keeps tells) (λ all. because_tells is_memory m fault _ keeps (started_tells choose busy all))

-- where a fault stands for itself
pub load_itself_tells : (choose : Choice) (busy : Option Range) (name : List ℕ) (file : List ℕ → Result (List ℕ) LoadFault) → ((n : List ℕ) → NeverMemory is_memory (file n)) → NeverMemory is_memory (load choose busy itself file name)
load_itself_tells choose busy name file tells = load_tells choose busy itself is_memory file name (λ f t. t) tells
