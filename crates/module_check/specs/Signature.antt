-- What functions take and give, as they are written.
use Rattle.std.specs.Prelude.{List, [], ◌∷◌, ◌++◌, Option}
use Rattle.ir_types.specs.declared.word.Kind.{Kind}
use Rattle.ir_read.specs.Node.{Told}
use Rattle.ir_items.specs.Item.{Parameter, parameters_of, result_type_of}
use Rattle.ir_items.specs.Segment.{Segment}
use Rattle.external_calls.specs.declared.prototype.Parameter.{Parameter as Taken}
use Rattle.external_calls.specs.declared.prototype.Parameter.TheVariants as takes
use Rattle.instruction_check.specs.declared.scope.Signature.{Signature}
use Rattle.instruction_check.specs.Literals.{kind_of}
use Rattle.instruction_check.specs.Results.{given_by}

-- none for `void`
abbrev pub result_kind : Told → Option Kind
result_kind node = given_by node.terminal node

-- those of the parameters so far, and of those left
abbrev pub taken_from : List Taken → List Parameter → List Taken
taken_from done [] = done
taken_from done (parameter ∷ parameters) = taken_from (done ++ takes.Value (kind_of parameter.value_type) ∷ []) parameters

-- a value for each parameter
abbrev pub taken : List Parameter → List Taken
taken parameters = taken_from [] parameters

abbrev pub signature_of : Segment → Signature
signature_of item = record { parameters = taken (parameters_of item); result = result_kind (result_type_of item) }
