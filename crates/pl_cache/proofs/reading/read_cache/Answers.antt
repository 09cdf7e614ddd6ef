use Rattle.std.proofs.Common.{Result, arith, subst}
use Rattle.pl_base.specs.Answers.{Answers}
use Rattle.pl_cache.specs.declared.cache.Cache.{Cache}
use Rattle.pl_cache.specs.declared.fault.CacheFault.{CacheFault}
use Rattle.pl_cache.specs.Reading.{is_memory}
use Rattle.pl_cache.proofs.CacheLaws.{is_found, is_read, is_one}
use Rattle.pl_cache.proofs.reading.read_cache.Goals as goal

pub returns-clause-found : goal.returns-clause-found
returns-clause-found c = is_found c.args.bytes.now c.read.result (λ i. omega (arith, c.type_inv.bytes i)) c.read.ensures

pub returns-clause-only : goal.returns-clause-only
returns-clause-only c = λ cache of. subst (λ (meant : Result Cache CacheFault). Answers is_memory c.read.result meant) (is_read c.args.bytes.now cache of) c.read.ensures

pub returns-clause-unique : goal.returns-clause-unique
returns-clause-unique c = is_one c.args.bytes.now
