-- `ezdurvash_field` meets its contract. Assumes nothing.
use Rattle.console.proofs.FieldLaws.{field_found, field_none}
use Rattle.console.proofs.ezdurvash_field.Goals as goal

pub returns-in-Some : goal.returns-in-Some
returns-in-Some c = search field_found

pub returns-in-None : goal.returns-in-None
returns-in-None c = search field_none
