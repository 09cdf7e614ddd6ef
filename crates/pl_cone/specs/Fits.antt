-- What a run asks of originals (Jelínek, "Prelink"; System V gABI chapter 5; Drepper on thread-local storage).
use Rattle.std.specs.Prelude.{Bool, false, not, List, map, length, replicate, Result, Ok, Err, is_some}
use Rattle.std.specs.Result.{is_ok}
use Rattle.pl_base.specs.Each.{each}
use Rattle.pl_elf.specs.declared.range.Range.{Range}
use Rattle.pl_object.specs.Reads.{reads}
use Rattle.pl_object.specs.declared.object.Object.{Object}
use Rattle.law_sound.specs.Plan.{Fit}
use Rattle.pl_tls.specs.Layout.{offsets}
use Rattle.pl_tls.specs.declared.module.Module.{Module}
use Rattle.pl_value.specs.Meanings.{meanings}
use Rattle.pl_cone.specs.Faults.{fault_in}

-- each relocation has a value. No link refusal asks where a member is loaded
abbrev pub resolves : {E : Type 0} → List Object → Result (List Module) E → Bool
resolves objects (Ok modules) = is_ok (meanings objects (replicate (length objects) 0) modules)
resolves objects (Err e) = false

-- the thread-local storage of members has offsets, and they resolve
abbrev pub links : {E : Type 0} → Result (List Object) E → Bool
links (Ok objects) = resolves objects (offsets (map (λ o. o.tls) objects))
links (Err e) = false

-- an original has no form fault under a region of slots, and those of a program's walk link
abbrev pub fit_in : Range → Fit
fit_in region = record { is_sound = λ o. not (is_some (fault_in region o)); links = λ os. links (each reads os) }
