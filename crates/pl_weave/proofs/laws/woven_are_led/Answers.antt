use Rattle.pl_weave.proofs.WovenLaws.{woven_are_led}
use Rattle.pl_weave.proofs.laws.woven_are_led.Goals as goal

pub returns : goal.returns
returns c = woven_are_led
