-- The text of a start, as it is written piece by piece.
use Rattle.std.specs.Prelude.{◌≡◌, ℕ, Bool, true, false, List, Result, Ok, Err, IsErrOf, OnOk, OnErr}
use Rattle.pl_base.specs.Counts.{Counted}
use Rattle.pl_base.specs.Streams.{got_after, GotPrefix}
use Rattle.pl_io.specs.Seen.{Output}
use Rattle.pl_texts.specs.declared.write_stop.WriteStop.{WriteStop}
use Rattle.pl_texts.specs.declared.write_stop.WriteStop.TheVariants.{Failed, NoMemory}

-- whether it was the output that failed
abbrev pub is_failed : WriteStop → Bool
is_failed Failed = true
is_failed NoMemory = false

abbrev pub has_failed : {X : Type 0} → Result X WriteStop → Bool
has_failed (Ok x) = false
has_failed (Err stop) = is_failed stop

-- the whole text, or some first bytes of it; for want of memory none
pub record HasWrittenStart (text : List ℕ) (result : Result (Unit {0}) WriteStop) (old new : Output) : Type 0 where
  pub whole : OnOk result (new.got ≡ got_after old.got text)
  pub prefix : OnErr result (GotPrefix old.got new.got text)
  pub early : IsErrOf result NoMemory → new.got ≡ old.got
  pub count : Counted (has_failed result) old.faults new.faults
