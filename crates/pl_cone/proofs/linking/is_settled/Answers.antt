use Rattle.std.proofs.Common.{◌≡◌, Bool, true, false, Some, length, refl, sym, ◌∙◌, arith}
use Rattle.std.specs.Prelude.{not, slice_get}
use Rattle.std.specs.Bool.{OnFalse, OnTrue}
use Rattle.std.proofs.lemmas.Option.{slice_get_read}
use Rattle.pl_scope.specs.Folder.{HasOneEntryAtMost}
use Rattle.pl_scope.specs.Scope.{objects}
use Rattle.pl_scope.proofs.FoundLaws.{finds_symbol}
use Rattle.pl_scope.proofs.MemberLaws.{length_objects}
use Rattle.pl_cone.specs.OneSymbol.{FindsOneSymbolBy}
use Rattle.pl_cone.proofs.linking.is_settled.Goals as goal

-- where a test fails, what follows from that
unless_shared : (shared : Bool) (P Q : Type 0) → (P → Q) → OnFalse shared P → OnTrue (not shared) Q
unless_shared true P Q then once = tt
unless_shared false P Q then once = then once

pub object-object-requires : goal.object-object-requires
object-object-requires c = omega (arith, (finds_symbol (objects c.args.own.now) c.args.reference c.args.found c.requires.found).member, length_objects c.args.own.now)

pub bounds-as_slice-found : goal.bounds-as_slice-found
bounds-as_slice-found c = rw c.as_slice.ensures ((finds_symbol (objects c.args.own.now) c.args.reference c.args.found c.requires.found).symbol c.object-object.result.now c.object-object.ensures.object)

pub returns : goal.returns
returns c =
    let os = objects c.args.own.now in
    let object = c.object-object.result.now in
    let within = (finds_symbol os c.args.reference c.args.found c.requires.found).symbol object c.object-object.ensures.object in
    let symbol : slice_get object.symbols c.args.found.symbol ≡ Some c.index-as_slice-found.result =
    slice_get_read object.symbols (length object.symbols) c.args.found.symbol c.index-as_slice-found.result refl within (rw c.as_slice.ensures at c.index-as_slice-found.is) in
    unless_shared c.may_share.result (HasOneEntryAtMost c.args.index.now c.as_slice-name.result.now) (FindsOneSymbolBy c.args.index.now os c.args.reference)
    (λ once. record {
      found = c.args.found;
      looks = c.requires.found;
      symbol = c.index-as_slice-found.result;
      is = rw (c.object-object.ensures.object, symbol) refl;
      plain = sym c.is_tls.ensures ∙ c.if-is_tls.false;
      single = record { symbol = c.own_symbol.result.now; own = c.own_symbol.ensures; once = rw (sym c.as_slice-name.ensures) once };
    })
    c.may_share.ensures
