use Rattle.std.proofs.Common.{◌≡◌, ◌≤◌, drop}
use Rattle.pl_base.specs.Each.{run}
use Rattle.pl_build.specs.declared.constants.TheConstants.{MAX_TABLES}
use Rattle.pl_build.specs.Layout.{role_added, no_tables, end_of}
use Rattle.pl_build.proofs.layout.add_roles.Given as goal

abbrev pub invariant-loop-role : goal.invariant-loop-role
invariant-loop-role l = record {
  so_far : run (role_added l.plan) l.tables (drop l.role-index l.roles) ≡ run (role_added l.plan) no_tables l.roles;
  small : end_of l.tables ≤ MAX_TABLES;
}
