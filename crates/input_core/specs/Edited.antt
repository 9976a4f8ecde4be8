-- An inner word of the proofs: an edit as the definitions have it.
use Rattle.input_core.specs.declared.edits.Edit.{Edit}
use Rattle.desk_model.specs.InputEdits as model

abbrev pub edit_seen : Edit → model.Edit
edit_seen edit = record { text = edit.text; caret = edit.caret }
